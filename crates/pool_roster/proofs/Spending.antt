-- The sets of sessions are found, also where a pair that stands for none was taken out
use Rattle.std.proofs.Common.{◌≡◌, inl, inr, ℕ, Bool, true, false, List, [], ◌∷◌, get_or, find, Contains, Option, Some, refl, sym, ◌∙◌, ap, subst, rules, All}
use Rattle.std.specs.List.{AllZip}
use Rattle.std.specs.List.Sorted.{IsPermutation}
use Rattle.std.proofs.lemmas.List.{get_or_default}
use Rattle.std.proofs.lemmas.List.Sorted.{Contains-permutation}
use Rattle.std.proofs.lemmas.List.Elements.{All-map, All-weaker, All-nil, All-cons, All-head, All-tail}
use Rattle.z_types.specs.declared.key.SetKey.{SetKey}
use Rattle.z_types.specs.equality.Key as keys
use Rattle.z_types.specs.declared.address.Address.{Address}
use Rattle.pool_sets.specs.Table.{Entry, same_key}
use Rattle.pool_sets.specs.Sessions.{Session, in_class, is_for, stand_login}
use Rattle.z_types.specs.Logins.{same_login}
use Rattle.z_types.proofs.LoginLemmas.{login_exact}
use Rattle.z_types.specs.equality.Tests.{both_true}
use Rattle.pool_sets.proofs.TableLemmas.{find_passes}
use Rattle.pool_sets.proofs.KeptLemmas.{found_holds}
use Rattle.pool_core.proofs.Chosen.{holder_of}
use Rattle.pool_keys.specs.declared.index.Pair.{Pair}
use Rattle.pool_keys.specs.Pairs.{Indexed, Holds, pair}
use Rattle.pool_keys.proofs.PairLemmas.{in_cons}
use Rattle.pool_roster.specs.declared.berth.Berth.{Berth}
use Rattle.pool_roster.specs.declared.berth.Expiries.{Expiries}
use Rattle.pool_keys.specs.Digests.{Sharers}
use Rattle.pool_roster.specs.Told.{sharers_of, seen, told, sets_of, AreListed, IsListed, LacksDigest, IsSpent}
use Rattle.pool_roster.specs.RosterView.{Rises, IsPlace, is_holder, MaySettle}
use Rattle.pool_roster.proofs.Lazy.{seen_number, seen_sharers}
use Rattle.pool_roster.proofs.Settling.{seen_listed, settled_listed}
use Rattle.pool_roster.proofs.Seeking.{AreFound, one_place}

one_listed : (digest : SetKey → ℕ) (index : Indexed) (number : ℕ) (key : SetKey) (es : List Entry) (e : Entry) → AreListed digest index number es → find (λ (f : Entry). same_key f.key key) es ≡ Some e → Holds index (pair (digest key) number)
one_listed digest index number key es e listed h =
    let same : e.key ≡ key = keys.key.eq_is_exact e.key key (find_passes (λ (f : Entry). same_key f.key key) es e h) in
    subst (λ k. Holds index (pair (digest k) number)) same (found_holds (λ (f : Entry). Holds index (pair (digest f.key) number)) (λ f. same_key f.key key) es e listed h)

-- what was there is there still, but for one that was taken out
still_there : (one p : Pair) (old new : Indexed) → new.whole ≡ old.whole → IsPermutation old.pairs (one ∷ new.pairs) → (p ≡ one → ⊥) → Holds old p → Holds new p
still_there one p old new same taken other h whole = (elim (in_cons new.pairs one p (Contains-permutation old.pairs (one ∷ new.pairs) p taken (h (sym same ∙ whole)))) as (λ r. Contains new.pairs p) [
  | inl there ↦ there
  | inr e ↦ absurd (other e)
])

module _ {S : Type 0} (digest : Sharers → SetKey → ℕ) where
  of_class : (class : ℕ) (at : List Address) (o : Session S) → in_class class at o ≡ true → o.class ≡ class
  of_class class at o h = search rules

  of_login : (login : Option (List ℕ)) (o : Session S) → is_for login o ≡ true → o.login ≡ login
  of_login login o h = sym (login_exact login o.login (both_true (same_login login o.login) (same_login login (stand_login o.login o.stand)) h).0)

  of_sharers : (class : ℕ) (login : Option (List ℕ)) (o : Session S) → o.class ≡ class → o.login ≡ login → sharers_of o ≡ (class, login)
  of_sharers class login o c l = λ i. (c i, l i)

  module _ (index : Indexed) (x : Expiries) (ttl : ℕ) where
    found_one : (class : ℕ) (at : List Address) (login : Option (List ℕ)) (key : SetKey) (b : Berth (Session S)) → index.whole ≡ true → IsListed digest index b → is_holder class at login key (seen x ttl b) ≡ true → Contains index.pairs (pair (digest (class, login) key) (seen x ttl b).number)
    found_one class at login key b whole listed h =
        let w = holder_of class at login key (seen x ttl b) h in
        let same : sharers_of b.session ≡ (class, login) = sym (seen_sharers x ttl b) ∙ of_sharers class login (seen x ttl b) (of_class class at (seen x ttl b) w.2.own.idle.of_class) (of_login login (seen x ttl b) w.2.own.own) in
        let sets = subst (λ s. AreListed (digest (sharers_of b.session)) index b.session.number (sets_of s)) w.2.own.idle.stand (seen_listed (digest (sharers_of b.session)) index b.session.number ttl x b listed) in
        subst (λ n. Contains index.pairs (pair (digest (class, login) key) n)) (sym (seen_number x ttl b))
        (one_listed (digest (class, login)) index b.session.number key w.0.table.entries w.1 (subst (λ m. AreListed (digest m) index b.session.number w.0.table.entries) same sets) w.2.holds whole)

    -- each session that holds a set of the key is found
    pub are_found : (class : ℕ) (at : List Address) (login : Option (List ℕ)) (key : SetKey) (bs : List (Berth (Session S))) → index.whole ≡ true → All (IsListed digest index) bs → AreFound index (digest (class, login) key) (is_holder class at login key) (told x ttl bs)
    are_found class at login key bs whole listed =
        All-map (λ (o : Session S). is_holder class at login key o ≡ true → Contains index.pairs (pair (digest (class, login) key) o.number)) (seen x ttl) bs
        (All-weaker (IsListed digest index) (λ b. is_holder class at login key (seen x ttl b) ≡ true → Contains index.pairs (pair (digest (class, login) key) (seen x ttl b).number)) (λ b is. found_one class at login key b whole is) bs listed)

    one_settled : (b c : Berth (Session S)) → MaySettle x ttl b c → IsListed digest index b → IsListed digest index c
    one_settled b c (inl h) k = subst (IsListed digest index) (sym h) k
    one_settled b c (inr h) k = subst (IsListed digest index) (sym h) (settled_listed digest index x ttl b k)

    -- also where some have settled since
    pub listed_settled : (bs cs : List (Berth (Session S))) → AllZip (MaySettle x ttl) bs cs → All (IsListed digest index) bs → All (IsListed digest index) cs
    listed_settled [] [] h k = All-nil (IsListed digest index)
    listed_settled (b ∷ bs) (c ∷ cs) h k = All-cons (IsListed digest index) c cs (one_settled b c h.0 (All-head (IsListed digest index) b bs k)) (listed_settled bs cs h.1 (All-tail (IsListed digest index) b bs k))
    listed_settled [] (c ∷ cs) h k = absurd h
    listed_settled (b ∷ bs) [] h k = absurd h

  -- without a pair that stands for no set, each set is found
  pub listed_without : (one : Pair) (old new : Indexed) (bs : List (Berth (Session S))) → new.whole ≡ old.whole → IsPermutation old.pairs (one ∷ new.pairs) → IsSpent digest one bs → All (IsListed digest old) bs → All (IsListed digest new) bs
  listed_without one old new bs same taken spent listed k b w j e v =
      still_there one (pair (digest (sharers_of (get_or bs k b).session) (get_or (sets_of (get_or bs k b).session.stand) j e).key) (get_or bs k b).session.number) old new same taken
      (λ is. spent k b w (ap (λ p. p.number) is) j e v (ap (λ p. p.digest) is))
      (listed k b w j e v)

  -- whether or not it stood there
  pub listed_after : (out : Bool) (one : Pair) (old new : Indexed) (bs : List (Berth (Session S))) → (out ≡ true → IsPermutation old.pairs (one ∷ new.pairs)) → (out ≡ false → new ≡ old) → new.whole ≡ old.whole →
      IsSpent digest one bs → All (IsListed digest old) bs → All (IsListed digest new) bs
  listed_after true one old new bs taken still same spent listed = listed_without one old new bs same (taken refl) spent listed
  listed_after false one old new bs taken still same spent listed = subst (λ i. All (IsListed digest i) bs) (sym (still refl)) listed

  module _ (one : Pair) (bs : List (Berth (Session S))) (i : ℕ) (b : Berth (Session S)) (is : IsPlace one.number bs i) (there : b ≡ get_or bs i b) where
    abbrev Lacks : Berth (Session S) → Type 0
    Lacks c = LacksDigest (digest (sharers_of c.session)) one.digest (sets_of c.session.stand)

    -- a pair stands for no set where the session of its number has none of its digest
    pub spent_at : Rises bs → Lacks b → IsSpent digest one bs
    spent_at up lacks k d w e =
        let same = one_place one.number bs i up is k d w e in
        subst Lacks (there ∙ get_or_default bs i b d is.within ∙ ap (λ m. get_or bs m d) (sym same)) lacks

    -- and there alone
    pub lacks_at : IsSpent digest one bs → Lacks b
    lacks_at spent = subst Lacks (sym there) (spent i b is.within (is.number_there b))
