-- Texts: numbers that digits write, and the least of names that ascend.
use Rattle.std.proofs.Common.{◌≡◌, ℕ, ◌+◌, ◌*◌, ◌-◌, ◌≤◌, Bool, true, false, not, cond, List, [], ◌∷◌, map, length, get_or, Option, Some, None, option_map, Less, string_bytes, string_cmp, String, Global, nat_cmp, Bor, refl, ap, ◌∙◌, sym, lit<, arith}
use Rattle.std.specs.BTreeMap.{BTreeMap, keys}
use Rattle.std.specs.Map.{keys_of}
use Rattle.std.specs.Cmp.Lexicographic.{slice_cmp}
use Rattle.std.specs.List.{find, filter, list_any, AllByRecursion}
use Rattle.std.specs.List.Sorted.{IsStrictlySortedBy}
use Rattle.std.proofs.lemmas.Int.Digits.{number_after_ge}
use Rattle.toml.specs.View.{members_view, table_view}
use Rattle.toml.specs.declared.value.Value.{Value}
use Rattle.z_types.specs.Digits.{number_after}
use Rattle.route_text.specs.Refusal.{least, lesser, member_names, is_key, others}

-- more digits never make a number less
pub number_after-ge : (high : ℕ) (digits : List ℕ) → high ≤ number_after high digits
number_after-ge high digits = number_after_ge 10 high (map (λ c. c - 48) digits) (lit< tt)

pub number_after-first : (high : ℕ) (digits : List ℕ) → 1 ≤ length digits → high * 10 + (get_or digits 0 0 - 48) ≤ number_after high digits
number_after-first high [] some = absurd (omega arith)
number_after-first high (d ∷ digits) some = number_after-ge (high * 10 + (d - 48)) digits

pub list_any-map : {A B : Type 0} (test : B → Bool) (f : A → B) (xs : List A) → list_any test (map f xs) ≡ list_any (λ x. test (f x)) xs
list_any-map test f [] = refl
list_any-map test f (x ∷ xs) = rw (list_any-map test f xs)

found-map : {A B : Type 0} (f : A → B) (b : Bool) (x : A) (one : Option A) (other : Option B) → option_map f one ≡ other → option_map f (cond b (Some x) one) ≡ cond b (Some (f x)) other
found-map f true x one other same = refl
found-map f false x one other same = same

pub find-map : {A B : Type 0} (test : B → Bool) (f : A → B) (xs : List A) → option_map f (find (λ x. test (f x)) xs) ≡ find test (map f xs)
find-map test f [] = refl
find-map test f (x ∷ xs) = found-map f (test (f x)) x _ _ (find-map test f xs)

-- a name below others is the lesser of itself and the first of them that passes a test
below_found : (b : Bool) (name other : List ℕ) (found : Option (List ℕ)) → slice_cmp nat_cmp name other ≡ Less → lesser name found ≡ name → lesser name (cond b (Some other) found) ≡ name
below_found true name other found less rest = rw less
below_found false name other found less rest = rest

below_first : (test : List ℕ → Bool) (k : String Global) (ks : List (String Global)) → AllByRecursion (λ y. string_cmp k y ≡ Less) ks → lesser (string_bytes k) (find test (map string_bytes ks)) ≡ string_bytes k
below_first test k [] above = refl
below_first test k (y ∷ ys) above = below_found (test (string_bytes y)) (string_bytes k) (string_bytes y) _ above.0 (below_first test k ys above.1)

least_kept : (b : Bool) (name : List ℕ) (rest : List (List ℕ)) (found : Option (List ℕ)) → lesser name found ≡ name → least rest ≡ found → least (cond b (name ∷ rest) rest) ≡ cond b (Some name) found
least_kept true name rest found less same = rw same (ap Some less)
least_kept false name rest found less same = same

-- of names that ascend, the least that passes a test is the first
pub least-ascending : (test : List ℕ → Bool) (ks : List (String Global)) → IsStrictlySortedBy string_cmp ks → least (filter test (map string_bytes ks)) ≡ find test (map string_bytes ks)
unfolding IsStrictlySortedBy
least-ascending test [] ascend = refl
least-ascending test (k ∷ ks) ascend = least_kept (test (string_bytes k)) (string_bytes k) _ _ (below_first test k ks ascend.0) (least-ascending test ks ascend.1)

-- the names in a table are its keys
names_of : (es : List (String Global × Value)) → member_names (members_view es) ≡ map string_bytes (keys_of es)
names_of [] = refl
names_of (e ∷ es) = ap (λ names. string_bytes e.0 ∷ names) (names_of es)

pub names-keys : (m : BTreeMap (String Global) Value) → member_names (table_view m) ≡ map string_bytes (keys m)
names-keys m = names_of m.entries

seen_map : (r : Option (Bor (String Global))) → option_map (λ name. string_bytes name.now) r ≡ option_map string_bytes (option_map (λ name. name.now) r)
seen_map None = refl
seen_map (Some name) = refl

-- the first key of a map that is none of the known is the least of the others
pub least-keys : (known : List (List ℕ)) (m : BTreeMap (String Global) Value) (r : Option (Bor (String Global)))
    → IsStrictlySortedBy string_cmp (keys m) → option_map (λ name. name.now) r ≡ find (λ k. not (is_key known (string_bytes k))) (keys m)
    → option_map (λ name. string_bytes name.now) r ≡ least (others known (table_view m))
least-keys known m r ascend found =
    let test : List ℕ → Bool = λ name. not (is_key known name) in
    seen_map r ∙ ap (option_map string_bytes) found ∙ find-map test string_bytes (keys m) ∙ sym (least-ascending test (keys m) ascend) ∙ ap (λ names. least (filter test names)) (sym (names-keys m))
