-- Targets may be asked for what a query of CQL is mapped to: no operand is a result set, and all numbers are in their range.
use Rattle.std.proofs.Common.{◌≡◌, ◌||◌, ◌++◌, ℕ, Bool, true, false, List, [], ◌∷◌, cond, codes, Option, Some, None, refl, ap, ◌∙◌, arith}
use Rattle.std.specs.List.{AllByRecursion}
use Rattle.z_types.specs.Numbers.{IsNumber, HasNumbers}
use Rattle.z_types.specs.Tree as rpn
use Rattle.z_types.specs.declared.query.Attr.{Attr}
use Rattle.route_config.specs.declared.route.Index.{Index}
use Rattle.z_sets.specs.Askable.{IsPlainTree}
use Rattle.z_sets.specs.Measured.{names_a_set}
use Rattle.cql_parse.specs.Tree.{Tree, clause, joined, assigned, sorted}
use Rattle.cql_map.specs.Bib1.{anywhere, phrase, word}
use Rattle.cql_map.specs.declared.operator.Operator.{Operator}
use Rattle.cql_map.specs.declared.operator.Operator.TheVariants.{And, Or, AndNot}
use Rattle.cql_map.specs.declared.relation.Joint.{Joint}
use Rattle.cql_map.specs.declared.relation.Joint.TheVariants.{All, Any}
use Rattle.cql_map.specs.declared.relation.Row.{Row}
use Rattle.cql_map.specs.declared.relation.Row.TheVariants.{Compared, Whole, Adjacent, Words}
use Rattle.cql_map.specs.declared.term.Character.{Character}
use Rattle.cql_map.specs.Indexes.{use_in, use_named, use_of, or_else}
use Rattle.cql_map.specs.Leaves.{row_attributes, truncation, leaf_of}
use Rattle.cql_map.specs.Mapped.{beside, words_joined, words_mapped, row_mapped, searched_mapped, both_mapped, mapped}
use Rattle.cql_map.specs.Names.{has_dot, is_same_name}
use Rattle.cql_map.specs.Operators.{operator_of, under}
use Rattle.cql_map.specs.Relations.{symbols, words, row_in, or_row, bare_name, row_of}
use Rattle.cql_map.specs.Terms as terms
use Rattle.cql_map.specs.Terms.{characters, core, has_space, begins_star, ends_star, behind_star}

-- ---- the Use attribute

-- the values of indexes are in their range
abbrev pub HaveNumbers : List Index → Type 0
HaveNumbers indexes = AllByRecursion (λ index. IsNumber index.value) indexes

-- a value that is chosen is a number
abbrev ChoosesNumber : Option ℕ → Type 0
ChoosesNumber None = Unit {0}
ChoosesNumber (Some value) = IsNumber value

chosen_one : (test : Bool) (value : ℕ) (rest : Option ℕ) → IsNumber value → ChoosesNumber rest
    → ChoosesNumber (cond test (Some value) rest)
chosen_one true value rest h k = h
chosen_one false value rest h k = k

use_in_range : (indexes : List Index) (name : List ℕ) → HaveNumbers indexes → ChoosesNumber (use_in indexes name)
use_in_range [] name h = tt
use_in_range (index ∷ indexes) name h =
    chosen_one (is_same_name index.name name) index.value (use_in indexes name) h.0 (use_in_range indexes name h.1)

use_named_in_range : (indexes : List Index) (name : List ℕ) → HaveNumbers indexes → ChoosesNumber (use_named indexes name)
use_named_in_range indexes name h =
    chosen_one (is_same_name (codes "cql.serverChoice") name) anywhere (use_in indexes name) (omega arith)
    (use_in_range indexes name h)

or_else_in_range : (a b : Option ℕ) → ChoosesNumber a → ChoosesNumber b → ChoosesNumber (or_else a b)
or_else_in_range None b h k = k
or_else_in_range (Some value) b h k = h

dotted_in_range : (test : Bool) (a b : Option ℕ) → ChoosesNumber a → ChoosesNumber b → ChoosesNumber (cond test a b)
dotted_in_range true a b h k = h
dotted_in_range false a b h k = k

use_of_in_range : (indexes : List Index) (name : List ℕ) → HaveNumbers indexes → ChoosesNumber (use_of indexes name)
use_of_in_range indexes name h =
    dotted_in_range (has_dot name) (use_named indexes name) _ (use_named_in_range indexes name h)
    (or_else_in_range (use_named indexes (codes "dc." ++ name)) (use_named indexes (codes "cql." ++ name))
    (use_named_in_range indexes (codes "dc." ++ name) h) (use_named_in_range indexes (codes "cql." ++ name) h))

-- ---- the relation

-- the value of a relation is a number
abbrev IsRow : Row → Type 0
IsRow (Compared relation) = IsNumber relation
IsRow Whole = Unit {0}
IsRow Adjacent = Unit {0}
IsRow (Words joint) = Unit {0}

abbrev ChoosesRow : Option Row → Type 0
ChoosesRow None = Unit {0}
ChoosesRow (Some row) = IsRow row

abbrev AreRows : List (List ℕ × Row) → Type 0
AreRows rows = AllByRecursion (λ row. IsRow row.1) rows

row_one : (test : Bool) (row : Row) (rest : Option Row) → IsRow row → ChoosesRow rest → ChoosesRow (cond test (Some row) rest)
row_one true row rest h k = h
row_one false row rest h k = k

row_in_range : (rows : List (List ℕ × Row)) (name : List ℕ) → AreRows rows → ChoosesRow (row_in rows name)
row_in_range [] name h = tt
row_in_range (row ∷ rows) name h =
    row_one (is_same_name name row.0) row.1 (row_in rows name) h.0 (row_in_range rows name h.1)

symbols_are : AreRows symbols
symbols_are =
    (omega arith, (tt, (omega arith, (omega arith, (omega arith, (omega arith, (omega arith, tt)))))))

words_are : AreRows words
words_are = (omega arith, (tt, (tt, (tt, (tt, tt)))))

or_row_in_range : (a b : Option Row) → ChoosesRow a → ChoosesRow b → ChoosesRow (or_row a b)
or_row_in_range None b h k = k
or_row_in_range (Some row) b h k = h

row_of_in_range : (relation : List ℕ) → ChoosesRow (row_of relation)
row_of_in_range relation =
    or_row_in_range (row_in symbols relation) (row_in words (bare_name relation)) (row_in_range symbols relation symbols_are)
    (row_in_range words (bare_name relation) words_are)

-- ---- operands

both_number : (attrs others : List Attr) → AllByRecursion HasNumbers attrs → AllByRecursion HasNumbers others
    → AllByRecursion HasNumbers (attrs ++ others)
both_number [] others h k = k
both_number (attr ∷ attrs) others h k = (h.0, both_number attrs others h.1 k)

structure_number : (spaced : Bool) → HasNumbers (cond spaced phrase word)
structure_number true = (omega arith, omega arith)
structure_number false = (omega arith, omega arith)

row_number : (row : Row) (cs : List Character) → IsRow row → AllByRecursion HasNumbers (row_attributes row cs)
row_number (Compared relation) cs h = ((omega arith, h), (structure_number (has_space cs), tt))
row_number Whole cs h =
    ((omega arith, omega arith), ((omega arith, omega arith), ((omega arith, omega arith), ((omega arith, omega arith), tt))))
row_number Adjacent cs h = ((omega arith, omega arith), ((omega arith, omega arith), tt))
row_number (Words joint) cs h = ((omega arith, omega arith), ((omega arith, omega arith), tt))

truncation_number : (start end : Bool) → AllByRecursion HasNumbers (truncation start end)
truncation_number false false = tt
truncation_number false true = ((omega arith, omega arith), tt)
truncation_number true false = ((omega arith, omega arith), tt)
truncation_number true true = ((omega arith, omega arith), tt)

leaf_plain : (value : ℕ) (row : Row) (cs : List Character) → IsNumber value → IsRow row → IsPlainTree (leaf_of value row cs)
leaf_plain value row cs h k = record {
  no_set = refl;
  numbers = (
    (omega arith, h),
    both_number (row_attributes row (core cs)) (truncation (begins_star cs) (ends_star (behind_star cs)))
        (row_number row (core cs) k) (truncation_number (begins_star cs) (ends_star (behind_star cs))),
  );
}

-- ---- operators

sides_plain : (l r : rpn.Tree) → IsPlainTree l → IsPlainTree r → (names_a_set l || names_a_set r) ≡ false
sides_plain l r h k = ap (λ b. b || names_a_set r) h.no_set ∙ k.no_set

and_plain : (l r : rpn.Tree) → IsPlainTree l → IsPlainTree r → IsPlainTree (rpn.and l r)
and_plain l r h k = record { no_set = sides_plain l r h k; numbers = (h.numbers, k.numbers) }

or_plain : (l r : rpn.Tree) → IsPlainTree l → IsPlainTree r → IsPlainTree (rpn.or l r)
or_plain l r h k = record { no_set = sides_plain l r h k; numbers = (h.numbers, k.numbers) }

and_not_plain : (l r : rpn.Tree) → IsPlainTree l → IsPlainTree r → IsPlainTree (rpn.and_not l r)
and_not_plain l r h k = record { no_set = sides_plain l r h k; numbers = (h.numbers, k.numbers) }

under_plain : (operator : Operator) (l r : rpn.Tree) → IsPlainTree l → IsPlainTree r → IsPlainTree (under operator l r)
under_plain And l r h k = and_plain l r h k
under_plain Or l r h k = or_plain l r h k
under_plain AndNot l r h k = and_not_plain l r h k

beside_plain : (joint : Joint) (l r : rpn.Tree) → IsPlainTree l → IsPlainTree r → IsPlainTree (beside joint l r)
beside_plain All l r h k = and_plain l r h k
beside_plain Any l r h k = or_plain l r h k

-- ---- the whole

-- where there is a mapping, it is plain
abbrev pub IsPlainFound : Option rpn.Tree → Type 0
IsPlainFound None = Unit {0}
IsPlainFound (Some root) = IsPlainTree root

words_plain : (joint : Joint) (value : ℕ) (left : rpn.Tree) (ws : List (List Character)) → IsNumber value → IsPlainTree left
    → IsPlainTree (words_joined joint value left ws)
words_plain joint value left [] h k = k
words_plain joint value left (w ∷ ws) h k =
    words_plain joint value (beside joint left (leaf_of value (Words joint) w)) ws h
    (beside_plain joint left (leaf_of value (Words joint) w) k (leaf_plain value (Words joint) w h tt))

some_words_plain : (joint : Joint) (value : ℕ) (ws : List (List Character)) → IsNumber value
    → IsPlainFound (words_mapped joint value ws)
some_words_plain joint value [] h = tt
some_words_plain joint value (w ∷ ws) h =
    words_plain joint value (leaf_of value (Words joint) w) ws h (leaf_plain value (Words joint) w h tt)

row_plain : (value : ℕ) (row : Row) (cs : List Character) → IsNumber value → IsRow row → IsPlainFound (row_mapped value row cs)
row_plain value (Words joint) cs h k = some_words_plain joint value (terms.words cs) h
row_plain value (Compared relation) cs h k = leaf_plain value (Compared relation) cs h k
row_plain value Whole cs h k = leaf_plain value Whole cs h k
row_plain value Adjacent cs h k = leaf_plain value Adjacent cs h k

searched_plain : (value : Option ℕ) (row : Option Row) (cs : List Character) → ChoosesNumber value → ChoosesRow row
    → IsPlainFound (searched_mapped value row cs)
searched_plain None row cs h k = tt
searched_plain (Some value) None cs h k = tt
searched_plain (Some value) (Some row) cs h k = row_plain value row cs h k

both_plain : (operator : Option Operator) (a b : Option rpn.Tree) → IsPlainFound a → IsPlainFound b
    → IsPlainFound (both_mapped operator a b)
both_plain None a b h k = tt
both_plain (Some operator) None b h k = tt
both_plain (Some operator) (Some a) None h k = tt
both_plain (Some operator) (Some a) (Some b) h k = under_plain operator a b h k

pub mapped_plain : (indexes : List Index) (tree : Tree) → HaveNumbers indexes → IsPlainFound (mapped indexes tree)
mapped_plain indexes (clause None term) h = leaf_plain anywhere (Compared 3) (characters false term) (omega arith) (omega arith)
mapped_plain indexes (clause (Some head) term) h =
    searched_plain (use_of indexes head.index) (row_of head.relation) (characters false term)
    (use_of_in_range indexes head.index h) (row_of_in_range head.relation)
mapped_plain indexes (joined boolean modifiers a b) h =
    both_plain (operator_of boolean) (mapped indexes a) (mapped indexes b) (mapped_plain indexes a h) (mapped_plain indexes b h)
mapped_plain indexes (assigned name uri tree) h = tt
mapped_plain indexes (sorted tree keys) h = mapped_plain indexes tree h
