-- What works use and need, and when they may be done, by computation. A set is kept for 60 seconds
use Rattle.std.specs.Prelude.{◌≡◌, ℕ, ◌+◌, ◌≤◌, ◌<◌, Bool, true, false, filter, Option, Some, filter_map, if◌then◌else◌, List, [], ◌∷◌, codes, map, length, sum_by, None, refl, nat_eq}
use Rattle.std.specs.List.{IsDistinct, cons_option}
use Rattle.std.proofs.Common.{cond, arith}
use Rattle.std.proofs.lemmas.List.{length-map}
use Rattle.std.proofs.lemmas.List.Elements.{All-from_recursion}
use Rattle.std.proofs.lemmas.Map.Made.{distinct_count-le}
use Rattle.z_types.specs.Logins.{same_login}
use Rattle.z_types.specs.Tree.{leaf}
use Rattle.z_types.specs.declared.address.Address.TheVariants.{Test}
use Rattle.z_types.specs.declared.query.RpnQuery.{RpnQuery}
use Rattle.z_types.specs.declared.query.Term.TheVariants.{General}
use Rattle.z_types.specs.declared.work.Work.{Work}
use Rattle.z_types.specs.declared.work.Work.TheVariants as work
use Rattle.z_types.specs.declared.world.World as world
use Rattle.route_config.specs.Smallest.{smallest_route}
use Rattle.route_config.specs.declared.route.Route.{Route}
use Rattle.pool_sets.specs.Table.{same_key}
use Rattle.test_target.specs.contracts.worlds.TestWorldWorld.TheImpl as test_world
use Rattle.test_target.specs.declared.worlds.TestWorld.{TestWorld}
use Rattle.package_quiet.specs.leg.Accounts.{no_account}
use Rattle.package_quiet.specs.leg.Terms.{class_of}
use Rattle.package_quiet.specs.leg.declared.accounts.Account.{Account}
use Rattle.package_quiet.specs.package_rules.Asked.{first_asked}
use Rattle.package_quiet.specs.package_rules.Planned.{legs_named}
use Rattle.sharing_rules.specs.Needed.{count_after, is_by, is_in, needs_dial, needs_search}
use Rattle.sharing_rules.specs.Orderly.{keys_used, logins_used}
use Rattle.sharing_rules.specs.Sharers.{Sharers}
use Rattle.sharing_rules.specs.Uses.{Use}
use Rattle.package_shares.specs.steps.Requests.{MayWork, behind, dials_in, searches_in, uses_at}

-- ---- a route of three legs: the first two go to one class, the third to another

abbrev two_classes : Route
two_classes = record smallest_route {
  legs =
      (record { database = 0; class = 0; databases = codes "Default" ∷ [] }) ∷ (record { database = 0; class = 0; databases = codes "Books" ∷ [] })
      ∷ (record { database = 0; class = 1; databases = codes "Default" ∷ [] }) ∷ [];
  classes = (record { name = codes "alpha"; addresses = Test 0 ∷ [] }) ∷ (record { name = codes "beta"; addresses = Test 1 ∷ [] }) ∷ [];
}

abbrev tests : world.Ghosts TestWorld
tests = test_world.ghosts

-- a term of one letter, by a Use attribute
abbrev by : ℕ → ℕ → RpnQuery
by number letter = record {
  attr_set = 1 ∷ 2 ∷ 840 ∷ 10003 ∷ 3 ∷ 1 ∷ [];
  root = leaf (record { set = None; kind = 1; value = number } ∷ []) (General (letter ∷ []));
}

abbrev search : List ℕ → RpnQuery → Work
search legs query = work.Search None legs query 0 1 0 None None None 100

-- the second and the third record of two legs that have three each
abbrev fetch : RpnQuery → Work
fetch query = work.Fetch None (0 ∷ 2 ∷ []) query (3 ∷ 3 ∷ []) 2 2 None None

-- ---- uses

abbrev classes : List Use → List ℕ
classes uses = map (λ this. this.by.class) uses

-- uses stand in the order in which their records are given, though the legs are asked in their own
of_fetch : classes (uses_at two_classes 7 (fetch (by 4 97))) ≡ 1 ∷ 0 ∷ []
of_fetch = refl

legs_of_fetch : map (λ asked. class_of two_classes asked.leg) (first_asked two_classes (fetch (by 4 97))) ≡ 0 ∷ 1 ∷ []
legs_of_fetch = refl

moments : map (λ this. this.at) (uses_at two_classes 7 (fetch (by 4 97))) ≡ 7 ∷ 7 ∷ []
moments = refl

-- the last one comes first
last_first : classes (behind (uses_at two_classes 7 (search (0 ∷ []) (by 4 97))) (uses_at two_classes 7 (fetch (by 4 97)))) ≡ 0 ∷ 1 ∷ 0 ∷ []
last_first = refl

-- ---- what they need

abbrev costs : (class now : ℕ) → List Use → Work → ℕ × ℕ
costs class now before asked = (
  count_after (needs_search tests two_classes class) before (uses_at two_classes now asked),
  count_after (needs_dial two_classes class) before (uses_at two_classes now asked),
)

abbrev searched : List Use
searched = behind [] (uses_at two_classes 0 (search (0 ∷ 2 ∷ []) (by 4 97)))

first_use : costs 0 0 [] (search (0 ∷ 2 ∷ []) (by 4 97)) ≡ (1, 1)
first_use = refl

fetched_later : costs 0 59 searched (fetch (by 4 97)) ≡ (0, 0)
fetched_later = refl

fetched_late : costs 1 60 searched (fetch (by 4 97)) ≡ (1, 0)
fetched_late = refl

-- a set of another leg of the class is another
other_databases : costs 0 0 searched (search (1 ∷ []) (by 4 97)) ≡ (1, 0)
other_databases = refl

-- a class that is not asked costs nothing
not_asked : costs 1 0 [] (search (0 ∷ []) (by 4 97)) ≡ (0, 0)
not_asked = refl

-- a target that refuses a search is asked each time
refused_again : costs 0 0 (behind [] (uses_at two_classes 0 (search (0 ∷ []) (by 5 97)))) (search (0 ∷ []) (by 5 97)) ≡ (1, 0)
refused_again = refl

-- ---- what legs count

abbrev account : (class dials searches : ℕ) → Account
account class dials searches = record no_account { class = class; dials = dials; searches = searches }

of_its_class : sum_by (dials_in 1) (account 0 1 2 ∷ account 1 3 4 ∷ account 1 5 6 ∷ []) ≡ 8
of_its_class = refl

its_searches : sum_by (searches_in 0) (account 0 1 2 ∷ account 1 3 4 ∷ account 1 5 6 ∷ []) ≡ 2
its_searches = refl

-- ---- when a work may be done

keys_of_both : keys_used (record { class = 0; login = None }) (behind searched (uses_at two_classes 0 (search (0 ∷ 2 ∷ []) (by 4 98)))) ≡ 2
keys_of_both = refl

-- keys that are used are no more than the uses
given-few : {B : Type 0} (given : Option B) (others : List B) (n : ℕ) → length others ≤ n → length (cons_option given others) ≤ n + 1
given-few None others n few = omega (arith, few)
given-few (Some one) others n few = omega (arith, few)

length-given : {A B : Type 0} (f : A → Option B) (xs : List A) → length (filter_map f xs) ≤ length xs
length-given f [] = omega arith
length-given f (x ∷ xs) = let few = given-few (f x) (filter_map f xs) (length xs) (length-given f xs) in omega (arith, few)

keys-few : (who : Sharers) (uses : List Use) → keys_used who uses ≤ length uses
keys-few who uses =
    let few = distinct_count-le same_key (filter_map (λ (this : Use). if is_by who this then this.key else None) uses) in
    let given = length-given (λ (this : Use). if is_by who this then this.key else None) uses in omega (arith, few, given)

filter-few : {A : Type 0} (p : A → Bool) (xs : List A) → length (filter p xs) ≤ length xs
filter-few p [] = omega arith
filter-few p (x ∷ xs) =
    let few = filter-few p xs in
    (elim (p x) as (λ b. length (cond b (x ∷ filter p xs) (filter p xs)) ≤ length (x ∷ xs)) [
      | true ↦ omega (arith, few)
      | false ↦ omega (arith, few)
    ])

logins-few : (class : ℕ) (uses : List Use) → logins_used class uses ≤ length uses
logins-few class uses =
    let few = distinct_count-le same_login (map (λ (this : Use). this.by.login) (filter (is_in class) uses)) in
    let same = length-map (filter (is_in class) uses) (λ (this : Use). this.by.login) in
    let kept = filter-few (is_in class) uses in omega (arith, few, same, kept)

-- a fetch of what was searched for may be done
may_fetch : MayWork two_classes 59 searched (fetch (by 4 97))
unfolding IsDistinct
may_fetch = record {
  there = All-from_recursion (λ leg. leg < length two_classes.legs) (0 ∷ 2 ∷ []) (omega arith, (omega arith, tt));
  apart = ((refl, tt), (tt, tt));
  falls = (omega arith, (omega arith, tt));
  few = λ who.
      let few = keys-few who (behind searched (uses_at two_classes 59 (fetch (by 4 97)))) in
      let four : length (behind searched (uses_at two_classes 59 (fetch (by 4 97)))) ≡ 4 = refl in omega (arith, few, four);
  own = λ class.
      let few = logins-few class (behind searched (uses_at two_classes 59 (fetch (by 4 97)))) in
      let four : length (behind searched (uses_at two_classes 59 (fetch (by 4 97)))) ≡ 4 = refl in omega (arith, few, four);
}

-- legs of one class may not be asked together
not_together : IsDistinct nat_eq (map (class_of two_classes) (legs_named (search (0 ∷ 1 ∷ []) (by 4 97)))) → ⊥
unfolding IsDistinct
not_together apart = let wrong = apart.0.0 in absurd cc
