-- What a query of CQL is mapped to finds what it finds.
use Rattle.std.proofs.Common.{◌≡◌, ℕ, Bool, true, false, ◌&&◌, ◌||◌, List, [], ◌∷◌, Option, Some, None, refl, sym, ◌∙◌, ap}
use Rattle.z_types.specs.Tree as rpn
use Rattle.route_config.specs.declared.route.Index.{Index}
use Rattle.cql_parse.specs.Tree.{Tree, clause, joined, assigned, sorted}
use Rattle.cql_map.specs.declared.relation.Row.{Row}
use Rattle.cql_map.specs.declared.relation.Row.TheVariants.{Compared, Whole, Adjacent, Words}
use Rattle.cql_map.specs.declared.relation.Joint.{Joint}
use Rattle.cql_map.specs.declared.relation.Joint.TheVariants.{All, Any}
use Rattle.cql_map.specs.declared.operator.Operator.{Operator}
use Rattle.cql_map.specs.declared.operator.Operator.TheVariants.{And, Or, AndNot}
use Rattle.cql_map.specs.declared.term.Character.{Character}
use Rattle.cql_map.specs.Terms.{characters, words}
use Rattle.cql_map.specs.Indexes.{use_of}
use Rattle.cql_map.specs.Relations.{row_of}
use Rattle.cql_map.specs.Bib1.{anywhere, equal}
use Rattle.cql_map.specs.Leaves.{leaf_of}
use Rattle.cql_map.specs.Operators.{operator_of, under}
use Rattle.cql_map.specs.Meaning.{Search, rpn_finds, term_finds, words_find, row_finds, searched, both_find, finds, HasMeaningOf}
use Rattle.cql_map.specs.Mapped.{words_joined, words_mapped, row_mapped, searched_mapped, both_mapped, mapped}

and_assoc : (a b c : Bool) → ((a && b) && c) ≡ (a && (b && c))
and_assoc true b c = refl
and_assoc false b c = refl

or_assoc : (a b c : Bool) → ((a || b) || c) ≡ (a || (b || c))
or_assoc true b c = refl
or_assoc false b c = refl

and_true : (a : Bool) → a ≡ (a && true)
and_true true = refl
and_true false = refl

or_false : (a : Bool) → a ≡ (a || false)
or_false true = refl
or_false false = refl

-- words joined to the left find what all of them, or any of them, find
all_kept : (search : Search) (value : ℕ) (left : rpn.Tree) (ws : List (List Character)) → rpn_finds search (words_joined All value left ws) ≡ (rpn_finds search left && words_find All search value ws)
all_kept search value left [] = and_true (rpn_finds search left)
all_kept search value left (w ∷ ws) =
    all_kept search value (rpn.and left (leaf_of value (Words All) w)) ws ∙ and_assoc (rpn_finds search left) (term_finds search value (Words All) w) (words_find All search value ws)

any_kept : (search : Search) (value : ℕ) (left : rpn.Tree) (ws : List (List Character)) → rpn_finds search (words_joined Any value left ws) ≡ (rpn_finds search left || words_find Any search value ws)
any_kept search value left [] = or_false (rpn_finds search left)
any_kept search value left (w ∷ ws) =
    any_kept search value (rpn.or left (leaf_of value (Words Any) w)) ws ∙ or_assoc (rpn_finds search left) (term_finds search value (Words Any) w) (words_find Any search value ws)

some_one : (a b : rpn.Tree) → Some a ≡ Some b → a ≡ b
some_one a b e = cc

none_some : {A : Type 0} (b : rpn.Tree) → None ≡ Some b → A
none_some b e = cc

words_kept : (joint : Joint) (search : Search) (value : ℕ) (ws : List (List Character)) (r : rpn.Tree) → words_mapped joint value ws ≡ Some r → rpn_finds search r ≡ words_find joint search value ws
words_kept joint search value [] r e = none_some r e
words_kept All search value (w ∷ ws) r e =
    ap (rpn_finds search) (sym (some_one _ r e)) ∙ all_kept search value (leaf_of value (Words All) w) ws
words_kept Any search value (w ∷ ws) r e =
    ap (rpn_finds search) (sym (some_one _ r e)) ∙ any_kept search value (leaf_of value (Words Any) w) ws

row_kept : (search : Search) (value : ℕ) (row : Row) (cs : List Character) (r : rpn.Tree) → row_mapped value row cs ≡ Some r → rpn_finds search r ≡ row_finds search value row cs
row_kept search value (Words joint) cs r e = words_kept joint search value (words cs) r e
row_kept search value (Compared relation) cs r e = ap (rpn_finds search) (sym (some_one _ r e))
row_kept search value Whole cs r e = ap (rpn_finds search) (sym (some_one _ r e))
row_kept search value Adjacent cs r e = ap (rpn_finds search) (sym (some_one _ r e))

searched_kept : (search : Search) (value : Option ℕ) (row : Option Row) (cs : List Character) (r : rpn.Tree) → searched_mapped value row cs ≡ Some r → rpn_finds search r ≡ searched search value row cs
searched_kept search None row cs r e = none_some r e
searched_kept search (Some value) None cs r e = none_some r e
searched_kept search (Some value) (Some row) cs r e = row_kept search value row cs r e

-- an operator finds what its boolean finds
under_kept : (search : Search) (o : Operator) (a b : rpn.Tree) → rpn_finds search (under o a b) ≡ both_find (Some o) (rpn_finds search a) (rpn_finds search b)
under_kept search And a b = refl
under_kept search Or a b = refl
under_kept search AndNot a b = refl

both_kept : (search : Search) (o : Option Operator) (a b : Option rpn.Tree) (p q : Bool) (r : rpn.Tree) → ((t : rpn.Tree) → a ≡ Some t → rpn_finds search t ≡ p) → ((t : rpn.Tree) → b ≡ Some t → rpn_finds search t ≡ q) → both_mapped o a b ≡ Some r → rpn_finds search r ≡ both_find o p q
both_kept search None a b p q r h k e = none_some r e
both_kept search (Some o) None b p q r h k e = none_some r e
both_kept search (Some o) (Some a) None p q r h k e = none_some r e
both_kept search (Some o) (Some a) (Some b) p q r h k e =
    let left : rpn_finds search a ≡ p = h a refl in
    let right : rpn_finds search b ≡ q = k b refl in
    ap (rpn_finds search) (sym (some_one _ r e)) ∙ under_kept search o a b ∙ ap (λ x. both_find (Some o) x (rpn_finds search b)) left ∙ ap (both_find (Some o) p) right

pub mapped_kept : (indexes : List Index) (q : Tree) (r : rpn.Tree) → mapped indexes q ≡ Some r → HasMeaningOf indexes q r
mapped_kept indexes (clause None term) r e = λ search. row_kept search anywhere (Compared equal) (characters false term) r e
mapped_kept indexes (clause (Some head) term) r e = λ search.
    searched_kept search (use_of indexes head.index) (row_of head.relation) (characters false term) r e
mapped_kept indexes (joined boolean ms a b) r e = λ search.
    both_kept search (operator_of boolean) (mapped indexes a) (mapped indexes b) (finds search indexes a) (finds search indexes b) r (λ t h. mapped_kept indexes a t h search) (λ t h. mapped_kept indexes b t h search) e
mapped_kept indexes (assigned name uri q) r e = none_some r e
mapped_kept indexes (sorted q keys) r e = λ search. mapped_kept indexes q r e search
