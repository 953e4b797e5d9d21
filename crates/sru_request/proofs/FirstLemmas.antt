-- The table of names, pair by pair from the last to the first, and what it tells of a name.
use Rattle.std.proofs.Common.{◌≡◌, ◌∙◌, ℕ, ◌+◌, ◌<◌, Bool, true, false, not, cond, List, [], ◌∷◌, length, get_or, drop, Option, Some, unwrap_or, refl, sym, ap}
use Rattle.std.specs.Prelude.{◌&&◌, ◌||◌}
use Rattle.std.specs.BTreeMap as tree
use Rattle.std.specs.Cmp.Lexicographic.{slice_cmp}
use Rattle.std.specs.Ordering.{nat_cmp}
use Rattle.std.specs.Str.{bytes_eq}
use Rattle.std.proofs.lemmas.List.{at_drop_more}
use Rattle.std.proofs.lemmas.Map.Text.{btree_map_updates_str}
use Rattle.sru_request.specs.declared.parameter.Parameter.{Parameter}
use Rattle.z_types.specs.Same.{is_same}
use Rattle.sru_request.specs.Parameters.{value_of}
use Rattle.sru_request.specs.Choices.{is_absent, is_known, is_extra, is_other, first_given, first_other}
use Rattle.sru_request.specs.Firsts.{Firsts, IsTableOf, is_other_in}

by_test : (b : Bool) (v : List ℕ) (o : Option Bool) (w : List ℕ) → unwrap_or o false ≡ not (is_absent w) → unwrap_or (cond b (Some (not (is_absent v))) o) false ≡ not (is_absent (cond b v w))
by_test true v o w h = refl
by_test false v o w h = h

-- a name has a value where its first pair has one
first_given-value : (name : List ℕ) (given : List Parameter) → unwrap_or (first_given name given) false ≡ not (is_absent (value_of name given))
first_given-value name [] = refl
first_given-value name (first ∷ rest) = by_test (is_same first.name name) first.value (first_given name rest) (value_of name rest) (first_given-value name rest)

-- what the table tells is so among the parameters
pub other_in : (firsts : Firsts) (given : List Parameter) → IsTableOf firsts given → (name : List ℕ) → is_other_in firsts name ≡ is_other given name
unfolding is_other_in is_other
other_in firsts given table name =
    ap (λ b. not (is_known name || is_extra name) && b) (ap (λ o. unwrap_or o false) (table name) ∙ first_given-value name given)

-- one pair more in front
pub table_more : (given : List Parameter) (i left : ℕ) (item : Parameter) (name : List ℕ) (v : Bool) (old new : Firsts) → i < length given → left ≡ i + 1 → item ≡ get_or given i item → name ≡ item.name → v ≡ not (is_absent item.value) → IsTableOf old (drop left given) → tree.UpdatesBy (λ x y. slice_cmp nat_cmp x.now y.now) (λ k. slice_cmp nat_cmp name k.now) old new (Some v) → IsTableOf new (drop i given)
table_more given i left item name v old new below next is named valued table updates asked =
    let behind : tree.get_by (λ k. slice_cmp nat_cmp asked k.now) old ≡ first_given asked (drop (i + 1) given) = table asked ∙ ap (λ n. first_given asked (drop n given)) next in
    let front : first_given asked (drop i given) ≡ first_given asked (item ∷ drop (i + 1) given) = at_drop_more (first_given asked) given i item below ∙ ap (λ p. first_given asked (p ∷ drop (i + 1) given)) (sym is) in
    btree_map_updates_str name old new _ updates asked
    ∙ ap (cond (bytes_eq name asked) (Some v)) behind
    ∙ ap (λ n. cond (bytes_eq n asked) (Some v) (first_given asked (drop (i + 1) given))) named
    ∙ ap (λ b. cond (bytes_eq item.name asked) (Some b) (first_given asked (drop (i + 1) given))) valued
    ∙ sym front

-- what the first parameter that is left is, decides
pub other_by : (given xs : List Parameter) (i : ℕ) (item : Parameter) (b : Bool) → i < length xs → item ≡ get_or xs i item → is_other given item.name ≡ b → first_other given (drop i xs) ≡ cond b (Some item.name) (first_other given (drop (i + 1) xs))
other_by given xs i item b below is other =
    at_drop_more (first_other given) xs i item below
    ∙ ap (λ p. first_other given (p ∷ drop (i + 1) xs)) (sym is)
    ∙ ap (λ x. cond x (Some item.name) (first_other given (drop (i + 1) xs))) other
