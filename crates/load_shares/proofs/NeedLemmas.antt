-- What the uses of a load need: a search for the first client of each letter, and for each where the target refuses it; and one dial
use Rattle.std.proofs.Common.{◌≡◌, ◌≢◌, ◌∙◌, ◌+◌, ◌-◌, ◌%◌, ◌≤◌, ◌<◌, ◌==◌, ◌||◌, ℕ, zero, suc, Bool, true, false, cond, if◌then◌else◌, List, [], ◌∷◌, ◌++◌, map, count_by, find, nat_le, None, Some, option_map, refl, sym, ap, subst, eqb-true, le-leb, leb-false, leb-true, mod-lt, mod-eq_of_lt, arith}
use Rattle.std.specs.List.{AllByRecursion, range_with_len}
use Rattle.std.proofs.lemmas.Bool.{lt-leb}
use Rattle.std.proofs.lemmas.List.Sums.{sum_by-cons}
use Rattle.z_types.specs.Tree.{Tree, leaf}
use Rattle.z_types.specs.contracts.key.SetKeyEq.TheImpl.Laws as key_law
use Rattle.z_types.specs.declared.key.SetKey.{SetKey}
use Rattle.z_types.specs.declared.query.Term.TheVariants.{General}
use Rattle.z_types.specs.declared.world.World as world
use Rattle.z_types.specs.equality.Key as exact
use Rattle.route_config.specs.Smallest.{smallest_route}
use Rattle.pool_sets.specs.Table.{same_key}
use Rattle.sample_maker.specs.Load.{letter_of}
use Rattle.sharing_rules.specs.Needed.{count_after, dials_needed, is_by, is_late, is_set_by, last_at, needed, needs_dial, needs_search}
use Rattle.sharing_rules.specs.Sharers.{Sharers}
use Rattle.sharing_rules.specs.Uses.{Use, uses_of}
use Rattle.replay_shares.specs.package_shares.steps.Requests.{behind}
use Rattle.replay_shares.specs.Orderly.{dated}
use Rattle.replay_shares.proofs.CountLemmas.{all-both, count-both, uses-both}
use Rattle.load_shares.specs.Costs.{is_sent, key_for, load_dials, load_uses, refuses}
use Rattle.load_shares.specs.Laws.{LoadsNeedSo}
use Rattle.load_shares.specs.Runs.{works_for}
use Rattle.load_shares.proofs.ListLemmas.{all-turned, differ}
use Rattle.load_shares.proofs.RunLemmas.{asked_once, load-asks}
use Rattle.load_shares.proofs.UseLemmas.{IsUseFor, later-uses, later_uses, refused-uses, use_for}

-- ---- numbers

-- a number that is not the limit is up to it as the next one is
le-next : (one limit : ℕ) → one ≢ limit → nat_le one limit ≡ nat_le (one + 1) limit
le-next one limit ne =
    (elim (nat_le one limit) as (λ (b : Bool). nat_le one limit ≡ b → b ≡ nat_le (one + 1) limit) [
      | true ↦ λ e. let most = leb-true one limit e in sym (le-leb (one + 1) limit (omega (arith, most, ne)))
      | false ↦ λ e. let over = leb-false one limit e in sym (lt-leb (one + 1) limit (omega (arith, over)))
    ]) refl

-- the first client of a letter is one of the first five
first-of : (client : ℕ) → 1 ≤ client → nat_le client ((client - 1) % 5 + 1) ≡ nat_le client 5
first-of client some =
    (elim (nat_le client 5) as (λ (b : Bool). nat_le client 5 ≡ b → nat_le client ((client - 1) % 5 + 1) ≡ b) [
      | true ↦ λ e.
          let few = leb-true client 5 e in
          let same : (client - 1) % 5 ≡ client - 1 = mod-eq_of_lt (omega (arith, few, some)) in
          le-leb client ((client - 1) % 5 + 1) (omega (arith, same, some))
      | false ↦ λ e.
          let many = leb-false client 5 e in
          let low : (client - 1) % 5 < 5 = mod-lt (client - 1) (omega arith) in
          lt-leb client ((client - 1) % 5 + 1) (omega (arith, many, low))
    ]) refl

not-again : (client : ℕ) → 1 ≤ client → nat_le (client + 1) ((client - 1) % 5 + 1) ≡ false
not-again client some = lt-leb (client + 1) ((client - 1) % 5 + 1) (omega (arith, some))

zero-plus : (n : ℕ) → 0 + n ≡ n
zero-plus n = omega arith

-- ---- when a letter was used

-- all clients of a load share, without a login
abbrev nobody : Sharers
nobody = record { class = 0; login = None }

-- a letter's set was not used before, or is too old; all uses are at moment 0
abbrev late : List Use → ℕ → Bool
late before letter = is_late 60 0 (last_at (is_set_by nobody (key_for letter)) before)

-- the letter of a structure
abbrev letter_in : Tree → ℕ
letter_in (leaf attrs (General (letter ∷ rest))) = letter
letter_in other = 0

keys-apart : (letter other : ℕ) → letter ≢ other → same_key (key_for letter) (key_for other) ≡ false
keys-apart letter other ne =
    (elim (same_key (key_for letter) (key_for other)) as (λ (b : Bool). same_key (key_for letter) (key_for other) ≡ b → b ≡ false) [
      | true ↦ λ e. absurd (ne (ap (λ (key : SetKey). letter_in key.query.root) (exact.key.eq_is_exact (key_for letter) (key_for other) e)))
      | false ↦ λ e. refl
    ]) refl

late-own : (before : List Use) (letter : ℕ) → late (use_for letter ∷ before) letter ≡ false
late-own before letter =
    ap
    (λ (own : Bool). is_late 60 0 (option_map (λ this. this.at) (cond own (Some (use_for letter)) (find (is_set_by nobody (key_for letter)) before))))
    (key_law.laws-law.refl (key_for letter))

late-other : (before : List Use) (letter other : ℕ) → letter ≢ other → late (use_for other ∷ before) letter ≡ late before letter
late-other before letter other ne =
    ap
    (λ (own : Bool). is_late 60 0 (option_map (λ this. this.at) (cond own (Some (use_for other)) (find (is_set_by nobody (key_for letter)) before))))
    (keys-apart letter other ne)

-- before a client's turn each letter was used whose first client came before
abbrev AreUsed : List Use → (client : ℕ) → Type 0
AreUsed before client = (place : ℕ) → place < 5 → late before (97 + place) ≡ nat_le client (place + 1)

used-more : (client : ℕ) → 1 ≤ client → (before : List Use)
    → ((place : ℕ) → place < 5 → (client - 1) % 5 ≢ place → late before (97 + place) ≡ nat_le (client + 1) (place + 1))
    → AreUsed (use_for (letter_of client) ∷ before) (client + 1)
used-more client some before others place low =
    (elim ((client - 1) % 5 == place) as (λ (own : Bool). ((client - 1) % 5 == place) ≡ own
    → late (use_for (letter_of client) ∷ before) (97 + place) ≡ nat_le (client + 1) (place + 1)) [
      | true ↦ λ e.
          subst (λ (p : ℕ). late (use_for (letter_of client) ∷ before) (97 + p) ≡ nat_le (client + 1) (p + 1)) (eqb-true ((client - 1) % 5) place e)
          (late-own before (letter_of client) ∙ sym (not-again client some))
      | false ↦ λ e.
          let ne = differ ((client - 1) % 5) place e in
          late-other before (97 + place) (letter_of client) (λ same. ne (omega (arith, same))) ∙ others place low ne
    ]) refl

-- its Search uses its own
used-next : (client : ℕ) → 1 ≤ client → (before : List Use) → AreUsed before client → AreUsed (use_for (letter_of client) ∷ before) (client + 1)
used-next client some before used =
    used-more client some before
    (λ place low ne.
    used place low
    ∙ le-next client (place + 1)
    (λ same. let own : (client - 1) % 5 ≡ client - 1 = mod-eq_of_lt (omega (arith, same, low)) in ne (omega (arith, own, same))))

-- so do the uses behind it
used-later : (client : ℕ) → 1 ≤ client → (before uses : List Use) → AllByRecursion (IsUseFor (letter_of client)) uses → AreUsed before (client + 1)
    → AreUsed (behind before uses) (client + 1)
used-later client some before [] each used = used
used-later client some before (this ∷ uses) each used =
    used-later client some (this ∷ before) uses each.1
    (subst (λ (own : Use). AreUsed (own ∷ before) (client + 1)) (sym each.0) (used-more client some before (λ place low ne. used place low)))

module _ {W : Type 0} (w : world.Ghosts W) where
  -- ---- searches

  -- a use needs a search
  abbrev needs : List Use → Use → Bool
  needs = needs_search w smallest_route 0

  -- of a letter that is not refused and was used, no more is needed
  none-needed : (letter : ℕ) (before uses : List Use) → refuses w letter ≡ false → late before letter ≡ false → AllByRecursion (IsUseFor letter) uses
      → count_after needs before uses ≡ 0
  none-needed letter before [] taken used each = refl
  none-needed letter before (this ∷ uses) taken used each =
      let first : needs before this ≡ false = ap (needs before) each.0 ∙ ap (λ (b : Bool). b || late before letter) taken ∙ used in
      let still : late (this ∷ before) letter ≡ false = ap (λ (own : Use). late (own ∷ before) letter) each.0 ∙ late-own before letter in
      ap (λ (b : Bool). (if b then 1 else 0) + count_after needs (this ∷ before) uses) first
      ∙ zero-plus (count_after needs (this ∷ before) uses) ∙ none-needed letter (this ∷ before) uses taken still each.1

  later-need : (letter : ℕ) (before : List Use) → late before letter ≡ false → count_after needs before (later_uses w letter) ≡ 0
  later-need letter before used =
      (elim (refuses w letter) as (λ (b : Bool). refuses w letter ≡ b → count_after needs before (later_uses w letter) ≡ 0) [
        | true ↦ λ e. ap (count_after needs before) (refused-uses w letter e)
        | false ↦ λ e. none-needed letter before (later_uses w letter) e used (later-uses w letter)
      ]) refl

  -- the uses of clients
  abbrev uses_by_all : List ℕ → List Use
  uses_by_all clients = uses_of smallest_route (asked_once w clients)

  uses-first : (client : ℕ) (clients : List ℕ)
      → uses_by_all (client ∷ clients) ≡ use_for (letter_of client) ∷ (later_uses w (letter_of client) ++ uses_by_all clients)
  uses-first client clients = uses-both smallest_route (map (dated 0) (works_for w (letter_of client))) (asked_once w clients)

  clients-need : (first many : ℕ) (before : List Use) → 1 ≤ first → AreUsed before first
      → count_after needs before (uses_by_all (range_with_len first many)) ≡ count_by (is_sent w) (range_with_len first many)
  clients-need first zero before some used = refl
  clients-need first (suc many) before some used =
      let letter = letter_of first in
      let rest = range_with_len (first + 1) many in
      let later = later_uses w letter in
      let next = used-later first some (use_for letter ∷ before) later (later-uses w letter) (used-next first some before used) in
      let sent : needs before (use_for letter) ≡ is_sent w first =
      ap (λ (b : Bool). refuses w letter || b) (used ((first - 1) % 5) (mod-lt (first - 1) (omega arith)) ∙ first-of first some) in
      let others : count_after needs (use_for letter ∷ before) (later ++ uses_by_all rest) ≡ count_by (is_sent w) rest =
      count-both needs (use_for letter ∷ before) later (uses_by_all rest)
      ∙ ap (λ (n : ℕ). n + count_after needs (behind (use_for letter ∷ before) later) (uses_by_all rest)) (later-need letter (use_for letter ∷ before) (late-own before letter))
      ∙ zero-plus (count_after needs (behind (use_for letter ∷ before) later) (uses_by_all rest))
      ∙ clients-need (first + 1) many (behind (use_for letter ∷ before) later) (omega arith) next in
      ap (count_after needs before) (uses-first first rest)
      ∙ ap (λ (b : Bool). (if b then 1 else 0) + count_after needs (use_for letter ∷ before) (later ++ uses_by_all rest)) sent
      ∙ ap (λ (n : ℕ). (if is_sent w first then 1 else 0) + n) others
      ∙ sym (sum_by-cons (λ (client : ℕ). cond (is_sent w client) 1 0) first rest)

  -- ---- dials

  -- a use is that of some letter
  abbrev IsOfLetter : Use → Type 0
  IsOfLetter this = (letter : ℕ) × IsUseFor letter this

  are-of-letters : (clients : List ℕ) → AllByRecursion IsOfLetter (uses_by_all clients)
  are-of-letters [] = tt
  are-of-letters (client ∷ clients) =
      let letter = letter_of client in
      subst (AllByRecursion IsOfLetter) (sym (uses-first client clients)) (
        (letter, refl),
        all-both IsOfLetter (later_uses w letter) (uses_by_all clients)
            (all-turned (IsUseFor letter) IsOfLetter (later_uses w letter) (λ this e. (letter, e)) (later-uses w letter)) (are-of-letters clients),
      )

  -- where the class was used no dial is needed
  no-dial : (before uses : List Use) → is_late 300 0 (last_at (is_by nobody) before) ≡ false → AllByRecursion IsOfLetter uses
      → count_after (needs_dial smallest_route 0) before uses ≡ 0
  no-dial before [] used each = refl
  no-dial before (this ∷ uses) used each =
      let first : needs_dial smallest_route 0 before this ≡ false = ap (needs_dial smallest_route 0 before) each.0.1 ∙ used in
      let still : is_late 300 0 (last_at (is_by nobody) (this ∷ before)) ≡ false = ap (λ (own : Use). is_late 300 0 (last_at (is_by nobody) (own ∷ before))) each.0.1 in
      ap (λ (b : Bool). (if b then 1 else 0) + count_after (needs_dial smallest_route 0) (this ∷ before) uses) first
      ∙ zero-plus (count_after (needs_dial smallest_route 0) (this ∷ before) uses) ∙ no-dial (this ∷ before) uses still each.1

  clients-dial : (clients : ℕ) → count_after (needs_dial smallest_route 0) [] (uses_by_all (range_with_len 1 clients)) ≡ load_dials clients
  clients-dial zero = refl
  clients-dial (suc many) =
      let first = use_for (letter_of 1) in
      let others = later_uses w (letter_of 1) ++ uses_by_all (range_with_len (1 + 1) many) in
      let each = subst (AllByRecursion IsOfLetter) (uses-first 1 (range_with_len (1 + 1) many)) (are-of-letters (range_with_len 1 (suc many))) in
      ap (count_after (needs_dial smallest_route 0) []) (uses-first 1 (range_with_len (1 + 1) many))
      ∙ ap (λ (n : ℕ). 1 + n) (no-dial (first ∷ []) others refl each.1) ∙ omega arith

  pub loads-need : LoadsNeedSo w
  loads-need clients =
      let uses : load_uses w clients ≡ uses_by_all (range_with_len 1 clients) = ap (uses_of smallest_route) (load-asks w clients) in
      record {
        searches =
            ap (needed w smallest_route 0) uses
            ∙ clients-need 1 clients [] (omega arith) (λ place low. sym (le-leb 1 (place + 1) (omega arith)));
        dials = ap (dials_needed smallest_route 0) uses ∙ clients-dial clients;
      }
