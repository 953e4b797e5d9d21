-- Of uses behind others those of a class alone matter to it
use Rattle.std.proofs.Common.{◌≡◌, ◌∙◌, ◌||◌, ◌&&◌, ◌+◌, ℕ, Bool, true, false, cond, List, [], ◌∷◌, Option, None, Some, refl, sym, ap, subst, filter, map, nat_eq, arith}
use Rattle.std.specs.Prelude.{filter_map, if◌then◌else◌}
use Rattle.std.specs.List.{cons_option}
use Rattle.std.proofs.lemmas.Bool.{eqb-true}
use Rattle.z_types.specs.declared.key.SetKey.{SetKey}
use Rattle.z_types.specs.declared.world.World as world
use Rattle.route_config.specs.declared.route.Route.{Route}
use Rattle.sharing_rules.specs.Needed.{count_after, is_by, is_in, is_late, is_refused, is_set_by, last_at, needs_dial, needs_search, searches_for}
use Rattle.sharing_rules.specs.Sharers.{Sharers}
use Rattle.sharing_rules.specs.Uses.{Use}
use Rattle.leg_shares.specs.steps.Pools.{HaveSameLast}
use Rattle.package_shares.specs.steps.Requests.{behind}
use Rattle.package_shares.proofs.UsesLemmas.{last-behind, other-set, same-behind, same-self}

-- those of the class
abbrev pub own_of : ℕ → List Use → List Use
own_of class uses = filter (is_in class) uses

-- the key of a use by some sharers
abbrev pub key_in : Sharers → Use → Option SetKey
key_in who one = if is_by who one then one.key else None

abbrev pub keys_in : Sharers → List Use → List SetKey
keys_in who uses = filter_map (key_in who) uses

-- the logins of the uses of a class
abbrev pub logins_in : ℕ → List Use → List (Option (List ℕ))
logins_in class uses = map (λ one. one.by.login) (own_of class uses)

-- a use of another class is none of theirs
not-by : (who : Sharers) (one : Use) → is_in who.class one ≡ false → is_by who one ≡ false
not-by who one apart = rw apart refl

if-same : (a b : Bool) (n m : ℕ) → a ≡ b → n ≡ m → (if a then 1 else 0) + n ≡ (if b then 1 else 0) + m
if-same a b n m same rest = ap (λ (c : Bool). (if c then 1 else 0) + n) same ∙ ap (λ (k : ℕ). (if b then 1 else 0) + k) rest

if-none : (a : Bool) (n : ℕ) → a ≡ false → (if a then 1 else 0) + n ≡ n
if-none true n none = absurd cc
if-none false n none = omega arith

module _ (who : Sharers) where
  -- past a use of another class
  same-over : (one : Use) (uses others : List Use) → is_in who.class one ≡ false → HaveSameLast who uses others → HaveSameLast who (one ∷ uses) others
  same-over one uses others apart same = record {
    of_theirs = same.of_theirs ∙ sym (last-behind (is_by who) one uses (not-by who one apart));
    of_key = λ key. same.of_key key ∙ sym (last-behind (is_set_by who key) one uses (other-set who key one (not-by who one apart)));
  }

  -- the last use of theirs and of their keys
  pub own-last : (uses a b : List Use) → HaveSameLast who a b → HaveSameLast who (behind a uses) (behind b (own_of who.class uses))
  own-last [] a b same = same
  own-last (one ∷ uses) a b same =
      (elim (is_in who.class one) as (λ (t : Bool). is_in who.class one ≡ t → HaveSameLast who (behind (one ∷ a) uses) (behind b (cond t (one ∷ own_of who.class uses) (own_of who.class uses)))) [
        | true ↦ λ e. own-last uses (one ∷ a) (one ∷ b) (same-behind who one a b same)
        | false ↦ λ e. own-last uses (one ∷ a) b (same-over one a b e same)
      ]) refl

  -- the keys that they use
  pub own-keys : (uses a b : List Use) → keys_in who a ≡ keys_in who b → keys_in who (behind a uses) ≡ keys_in who (behind b (own_of who.class uses))
  own-keys [] a b same = same
  own-keys (one ∷ uses) a b same =
      (elim (is_in who.class one) as (λ (t : Bool). is_in who.class one ≡ t → keys_in who (behind (one ∷ a) uses) ≡ keys_in who (behind b (cond t (one ∷ own_of who.class uses) (own_of who.class uses)))) [
        | true ↦ λ e. own-keys uses (one ∷ a) (one ∷ b) (ap (cons_option (key_in who one)) same)
        | false ↦ λ e.
            own-keys uses (one ∷ a) b (ap (λ (t : Bool). cons_option (if t then one.key else None) (keys_in who a)) (not-by who one e) ∙ same)
      ]) refl

module _ (class : ℕ) where
  -- the logins that use the class
  pub own-logins : (uses a b : List Use) → logins_in class a ≡ logins_in class b → logins_in class (behind a uses) ≡ logins_in class (behind b (own_of class uses))
  own-logins [] a b same = same
  own-logins (one ∷ uses) a b same =
      (elim (is_in class one) as (λ (t : Bool). is_in class one ≡ t → logins_in class (behind (one ∷ a) uses) ≡ logins_in class (behind b (cond t (one ∷ own_of class uses) (own_of class uses)))) [
        | true ↦ λ e. own-logins uses (one ∷ a) (one ∷ b) (more e)
        | false ↦ λ e. own-logins uses (one ∷ a) b (ap (λ (t : Bool). map (λ (u : Use). u.by.login) (cond t (one ∷ own_of class a) (own_of class a))) e ∙ same)
      ]) refl
    where
      more : is_in class one ≡ true → logins_in class (one ∷ a) ≡ logins_in class (one ∷ b)
      more e = rw e (ap (λ (ls : List (Option (List ℕ))). one.by.login ∷ ls) same)

  -- the last uses of the class under each login, and of its keys, are the same
  abbrev pub HaveSameOwn : (a b : List Use) → Type 0
  HaveSameOwn a b = (who : Sharers) → nat_eq who.class class ≡ true → HaveSameLast who a b

  own-behind : (one : Use) (a b : List Use) → HaveSameOwn a b → HaveSameOwn (one ∷ a) (one ∷ b)
  own-behind one a b same who of = same-behind who one a b (same who of)

  own-over : (one : Use) (a b : List Use) → is_in class one ≡ false → HaveSameOwn a b → HaveSameOwn (one ∷ a) b
  own-over one a b apart same who of =
      same-over who one a b (subst (λ (c : ℕ). is_in c one ≡ false) (sym (eqb-true who.class class of)) apart) (same who of)

  -- the dials that its uses need
  pub own-dials : (route : Route) (uses a b : List Use) → HaveSameOwn a b
      → count_after (needs_dial route class) a uses ≡ count_after (needs_dial route class) b (own_of class uses)
  own-dials route [] a b same = refl
  own-dials route (one ∷ uses) a b same =
      (elim (is_in class one) as (λ (t : Bool). is_in class one ≡ t → count_after (needs_dial route class) a (one ∷ uses) ≡ count_after (needs_dial route class) b (cond t (one ∷ own_of class uses) (own_of class uses))) [
        | true ↦ λ e.
            if-same (needs_dial route class a one) (needs_dial route class b one) (count_after (needs_dial route class) (one ∷ a) uses)
            (count_after (needs_dial route class) (one ∷ b) (own_of class uses))
            (ap (λ (o : Option ℕ). is_in class one && is_late route.pool.session_ttl one.at o) (sym (same one.by e).of_theirs))
            (own-dials route uses (one ∷ a) (one ∷ b) (own-behind one a b same))
        | false ↦ λ e.
            if-none (needs_dial route class a one) (count_after (needs_dial route class) (one ∷ a) uses)
            (ap (λ (t : Bool). t && is_late route.pool.session_ttl one.at (last_at (is_by one.by) a)) e)
            ∙ own-dials route uses (one ∷ a) b (own-over one a b e same)
      ]) refl

  module _ {W : Type 0} (w : world.Ghosts W) (route : Route) where
    searches-same : (one : Use) (key : Option SetKey) (a b : List Use) → HaveSameLast one.by a b
        → searches_for w route a one key ≡ searches_for w route b one key
    searches-same one None a b same = refl
    searches-same one (Some key) a b same =
        ap (λ (o : Option ℕ). is_refused w route one.by key || is_late route.pool.set_ttl one.at o) (sym (same.of_key key))

    -- and the searches
    pub own-searches : (uses a b : List Use) → HaveSameOwn a b
        → count_after (needs_search w route class) a uses ≡ count_after (needs_search w route class) b (own_of class uses)
    own-searches [] a b same = refl
    own-searches (one ∷ uses) a b same =
        (elim (is_in class one) as (λ (t : Bool). is_in class one ≡ t → count_after (needs_search w route class) a (one ∷ uses) ≡ count_after (needs_search w route class) b (cond t (one ∷ own_of class uses) (own_of class uses))) [
          | true ↦ λ e.
              if-same (needs_search w route class a one) (needs_search w route class b one) (count_after (needs_search w route class) (one ∷ a) uses)
              (count_after (needs_search w route class) (one ∷ b) (own_of class uses))
              (ap (λ (t : Bool). is_in class one && t) (searches-same one one.key a b (same one.by e)))
              (own-searches uses (one ∷ a) (one ∷ b) (own-behind one a b same))
          | false ↦ λ e.
              if-none (needs_search w route class a one) (count_after (needs_search w route class) (one ∷ a) uses)
              (ap (λ (t : Bool). t && searches_for w route a one one.key) e)
              ∙ own-searches uses (one ∷ a) b (own-over one a b e same)
        ]) refl

  pub own-self : (uses : List Use) → HaveSameOwn uses uses
  own-self uses who of = same-self who uses

-- ---- two lists with the same uses of a class

pub same-last : (who : Sharers) (uses others before : List Use) → own_of who.class others ≡ own_of who.class uses
    → HaveSameLast who (behind before uses) (behind before others)
same-last who uses others before same =
    let one = own-last who uses before before (same-self who before) in
    let two = own-last who others before before (same-self who before) in
    record {
      of_theirs =
          sym two.of_theirs ∙ ap (λ (us : List Use). last_at (is_by who) (behind before us)) same ∙ one.of_theirs;
      of_key = λ key.
          sym (two.of_key key) ∙ ap (λ (us : List Use). last_at (is_set_by who key) (behind before us)) same ∙ one.of_key key;
    }

pub same-keys : (who : Sharers) (uses others before : List Use) → own_of who.class others ≡ own_of who.class uses
    → keys_in who (behind before others) ≡ keys_in who (behind before uses)
same-keys who uses others before same =
    own-keys who others before before refl ∙ ap (λ (us : List Use). keys_in who (behind before us)) same
    ∙ sym (own-keys who uses before before refl)

module _ (class : ℕ) (uses others before : List Use) (same : own_of class others ≡ own_of class uses) where
  pub same-logins : logins_in class (behind before others) ≡ logins_in class (behind before uses)
  same-logins =
      own-logins class others before before refl ∙ ap (λ (us : List Use). logins_in class (behind before us)) same
      ∙ sym (own-logins class uses before before refl)

  pub same-dials : (route : Route) → count_after (needs_dial route class) before others ≡ count_after (needs_dial route class) before uses
  same-dials route =
      own-dials class route others before before (own-self class before) ∙ ap (count_after (needs_dial route class) before) same
      ∙ sym (own-dials class route uses before before (own-self class before))

  pub same-searches : {W : Type 0} (w : world.Ghosts W) (route : Route)
      → count_after (needs_search w route class) before others ≡ count_after (needs_search w route class) before uses
  same-searches w route =
      own-searches class w route others before before (own-self class before) ∙ ap (count_after (needs_search w route class) before) same
      ∙ sym (own-searches class w route uses before before (own-self class before))
