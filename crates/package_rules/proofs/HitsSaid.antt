-- The hits that legs answered, where none is marked, are those of the world
use Rattle.std.proofs.Common.{◌≡◌, ◌<◌, ◌≤◌, ◌∙◌, Bool, true, false, ℕ, zero, suc, List, [], ◌∷◌, length, map, All, Option, Some, Result, Ok, Err, ap, sym, refl, arith, get_or}
use Rattle.std.specs.Option.{option_map_or}
use Rattle.std.proofs.lemmas.List.Elements.{All-head, All-tail}
use Rattle.z_types.specs.declared.address.Address.{Address}
use Rattle.z_types.specs.declared.diagnostic.Diag.{Diag}
use Rattle.z_types.specs.declared.key.SetKey.{SetKey}
use Rattle.z_types.specs.declared.query.RpnQuery.{RpnQuery}
use Rattle.z_types.specs.declared.world.World as world
use Rattle.z_types.specs.Logins.{inside}
use Rattle.z_types.specs.Under.{under}
use Rattle.route_config.specs.Sound.{IsSound}
use Rattle.route_config.specs.declared.route.Route.{Route}
use Rattle.virt_db.specs.Legs.{LegAt, leg_at}
use Rattle.gateway_rules.specs.Fair.{IsFair}
use Rattle.gateway_rules.specs.Targets.{all_or_first, behind_first, hidden, hits_at, hits_of}
use Rattle.leg.specs.Right.{AnswerFits, IsWorldsAt}
use Rattle.leg.specs.Terms.{databases_of}
use Rattle.leg.specs.declared.answers.LegAnswer.{LegAnswer}
use Rattle.leg.specs.declared.answers.LegAnswer.TheVariants as answer
use Rattle.leg.specs.declared.tasks.Task.TheVariants.{Hits}
use Rattle.package_rules.specs.declared.answered.Answered.{Answered}
use Rattle.package_rules.specs.Asked.{hits_asked, key_at}
use Rattle.package_rules.specs.Said.{all_hits, hides, hits_said}
use Rattle.package_rules.specs.Truth.{AreAnswersTo, IsAnswerTo}
use Rattle.package_rules.proofs.Told.{IsTold, told_at}
use Rattle.package_rules.proofs.Unmarked.{AreUnmarked, IsUnmarked}

-- ---- answers

module _ {W : Type 0} (w : world.Ghosts W) where
  searched : (dbs : List (List ℕ)) (key : SetKey) (address : Address) (said : LegAnswer) → AnswerFits (Hits key) said → IsUnmarked said
      → IsWorldsAt w dbs (Hits key) address said → hits_said said ≡ w.search address key
  searched dbs key address (answer.Hits hits) fits unmarked right = sym right
  searched dbs key address (answer.Refused diag) fits unmarked right = sym right
  searched dbs key address (answer.Items items) fits unmarked right = absurd fits
  searched dbs key address (answer.Broken items diag) fits unmarked right = absurd fits
  searched dbs key address (answer.Scanned entries) fits unmarked right = absurd fits
  searched dbs key address (answer.Marked m) fits unmarked right = absurd unmarked

  -- what the leg of an answer means
  pub search_at : (route : Route) (query : RpnQuery) (leg : ℕ) (at : LegAt) → databases_of route leg ≡ at.dbs
      → w.search at.address (key_at route leg query) ≡ w.search at.address (record { dbs = at.dbs; query = query })
  search_at route query leg at dbs = ap (λ (names : List (List ℕ)). w.search at.address (record { dbs = names; query = query })) dbs

module _ {W : Type 0} (w : world.Ghosts W) (login : Option (List ℕ)) where
  hits_one : (route : Route) (query : RpnQuery) (leg : ℕ) (a : Answered) → IsFair w route → IsSound route → leg < length route.legs
      → IsAnswerTo w route (hits_asked route login query leg) a → IsUnmarked a.answer
      → hidden (hides route a.leg) (hits_said a.answer) ≡ hits_at (under login w) query (leg_at route leg)
  hits_one route query leg a fair sound there is unmarked =
      let key : SetKey = key_at route leg query in
      let told : IsTold w login route leg (Hits key) a.answer =
      told_at w login route leg (Hits key) a.answer fair sound there unmarked is.right in
      let same : hits_said a.answer ≡ (under login w).search told.at.address (record { dbs = told.at.dbs; query = query }) =
      searched w (databases_of route leg) key (inside login told.address) a.answer is.fits unmarked told.right ∙ told.means.search key
      ∙ search_at (under login w) route query leg told.at told.dbs in
      let hide : hides route a.leg ≡ told.at.database.hide_errors =
      ap (hides route) is.leg ∙ ap (λ (at : Option LegAt). option_map_or (λ (x : LegAt). x.database.hide_errors) at true) told.there in
      ap (λ (b : Bool). hidden b (hits_said a.answer)) hide ∙ ap (hidden told.at.database.hide_errors) same
      ∙ sym (ap (hits_at (under login w) query) told.there)

  hits_each : (route : Route) (query : RpnQuery) (legs : List ℕ) (answers : List Answered) → IsFair w route → IsSound route
      → All (λ leg. leg < length route.legs) legs → AreAnswersTo w route (map (hits_asked route login query) legs) answers
      → AreUnmarked answers
      → map (λ (a : Answered). hidden (hides route a.leg) (hits_said a.answer)) answers
      ≡ map (λ (leg : ℕ). hits_at (under login w) query (leg_at route leg)) legs
  hits_each route query [] [] fair sound there all unmarked = refl
  hits_each route query [] (a ∷ answers) fair sound there all unmarked = absurd all
  hits_each route query (leg ∷ legs) [] fair sound there all unmarked = absurd all
  hits_each route query (leg ∷ legs) (a ∷ answers) fair sound there all unmarked =
      let P : ℕ → Type 0 = λ l. l < length route.legs in
      let said : List (Result ℕ Diag) = map (λ (b : Answered). hidden (hides route b.leg) (hits_said b.answer)) answers in
      ap (λ (hits : Result ℕ Diag). hits ∷ said)
      (hits_one route query leg a fair sound (All-head P leg legs there) all.0 unmarked.0)
      ∙ ap (λ (others : List (Result ℕ Diag)). hits_at (under login w) query (leg_at route leg) ∷ others)
      (hits_each route query legs answers fair sound (All-tail P leg legs there) all.1 unmarked.1)

  -- the hits of all legs
  pub hits_are : (route : Route) (query : RpnQuery) (legs : List ℕ) (answers : List Answered) → IsFair w route → IsSound route
      → All (λ leg. leg < length route.legs) legs → AreAnswersTo w route (map (hits_asked route login query) legs) answers
      → AreUnmarked answers → all_hits route answers ≡ hits_of (under login w) route legs query
  hits_are route query legs answers fair sound there all unmarked =
      ap all_or_first (hits_each route query legs answers fair sound there all unmarked)

-- ---- one of all

-- good answers, one of them in front
record AreFirst {A : Type 0} (answer : Result A Diag) (others : Result (List A) Diag) (all : List A) : Type 0 where
  pub first : A
  pub rest : List A
  pub is : answer ≡ Ok first
  pub later : others ≡ Ok rest
  pub both : first ∷ rest ≡ all

parts : {A : Type 0} (answer : Result A Diag) (others : Result (List A) Diag) (all : List A) → behind_first answer others ≡ Ok all
    → AreFirst answer others all
parts (Err diag) others all h = absurd cc
parts (Ok x) (Err diag) all h = absurd cc
parts (Ok x) (Ok xs) all h = record { first = x; rest = xs; is = refl; later = refl; both = cc }

pub good_one : {X A : Type 0} (f : X → Result A Diag) (xs : List X) (all : List A) (i : ℕ) (d : X) (e : A)
    → all_or_first (map f xs) ≡ Ok all → i < length xs → f (get_or xs i d) ≡ Ok (get_or all i e)
good_one f [] all i d e h inside = absurd (omega (arith, inside))
good_one {A = A} f (x ∷ xs) all zero d e h inside =
    let first = parts (f x) (all_or_first (map f xs)) all h in
    first.is ∙ ap (λ (ys : List A). Ok (get_or ys zero e)) first.both
good_one {A = A} f (x ∷ xs) all (suc i) d e h inside =
    let first = parts (f x) (all_or_first (map f xs)) all h in
    good_one f xs first.rest i d e first.later (omega (arith, inside)) ∙ ap (λ (ys : List A). Ok (get_or ys (suc i) e)) first.both

-- a leg that has hits was not refused
hidden_found : (hide : Bool) (found : Result ℕ Diag) (hits : ℕ) → hidden hide found ≡ Ok hits → 1 ≤ hits → found ≡ Ok hits
hidden_found hide (Ok n) hits h some = h
hidden_found true (Err diag) hits h some = let none : 0 ≡ hits = cc in absurd (omega (arith, none, some))
hidden_found false (Err diag) hits h some = absurd cc

pub leg_found : {W : Type 0} (w : world.Ghosts W) (query : RpnQuery) (leg : Option LegAt) (at : LegAt) (hits : ℕ) → leg ≡ Some at
    → hits_at w query leg ≡ Ok hits → 1 ≤ hits → w.search at.address (record { dbs = at.dbs; query = query }) ≡ Ok hits
leg_found w query leg at hits there found some =
    hidden_found at.database.hide_errors (w.search at.address (record { dbs = at.dbs; query = query })) hits
    (sym (ap (hits_at w query) there) ∙ found) some
