-- The measures that are taken of a query tell whether it is too large, and so do the words of one term.
use Rattle.std.proofs.Common.{◌≡◌, ◌<◌, ◌-◌, ◌^◌, ◌||◌, ◌∙◌, ℕ, Bool, true, false, List, [], Option, Some, None, Ok, Err, cond, arith, refl, sym, ap}
use Rattle.std.proofs.lemmas.Bool.{lt-ltb}
use Rattle.std.proofs.lemmas.Bool.Decides.{nat_tests}
use Rattle.std.specs.Prelude.{nat_lt}
use Rattle.z_types.specs.Bounds.{most_query_depth, most_query_nodes, most_query_cost, within32, within64}
use Rattle.z_types.specs.QueryMeasures.{tree_depth, tree_cost, measures_of}
use Rattle.z_types.specs.Tree.{Tree, tree_size}
use Rattle.z_types.specs.declared.sru.SruDiag.{SruDiag}
use Rattle.route_config.specs.declared.route.Index.{Index}
use Rattle.cql_map.proofs.LongLemmas.{long-is-too-deep}
use Rattle.cql_map.specs.Bib1.{bib1_attributes}
use Rattle.cql_map.specs.Faults.{all_faults}
use Rattle.cql_map.specs.Long.{has_long_term}
use Rattle.cql_map.specs.Mapped.{mapped}
use Rattle.cql_parse.specs.Tree as cql
use Rattle.sru_request.specs.declared.faults.QueryFault.TheVariants.{Diag}
use Rattle.sru_rules.specs.Asking.{is_too_large, within_limits, unless_faulty, rpn_of}
use Rattle.sru_rules.specs.Diagnostics.{query_feature_unsupported}
use Rattle.sru_rules.specs.Reading.{parsed}
use Rattle.front_sru.specs.Queries.{IsOrMemory, as_fault}

below_64 : (k n : ℕ) → k < 2 ^ 64 - 1 → nat_lt k (within64 n) ≡ nat_lt k n
below_64 k n h = grind (arith, nat_tests)

below_32 : (k n : ℕ) → k < 2 ^ 32 - 1 → nat_lt k (within32 n) ≡ nat_lt k n
below_32 k n h = grind (arith, nat_tests)

-- a structure as tested by its measures
pub too_large_measured : (root : Tree)
    → (nat_lt most_query_nodes (measures_of root).nodes
    || (nat_lt most_query_depth (measures_of root).levels || nat_lt most_query_cost (measures_of root).cost))
    ≡ is_too_large root
too_large_measured root =
    let a = below_64 most_query_nodes (tree_size root) (omega arith) in
    let b = below_32 most_query_depth (tree_depth root) (omega arith) in
    let d = below_64 most_query_cost (tree_cost root) (omega arith) in rw (a, b, d) refl

-- ---- a term of too many words

one_of_three : (a b c : Bool) → b ≡ true → (a || (b || c)) ≡ true
one_of_three true b c h = refl
one_of_three false true c h = refl
one_of_three false false c h = absurd cc

deep_refused : (version : List ℕ) (found : Option Tree)
    → ((root : Tree) → found ≡ Some root → most_query_depth < tree_depth root)
    → within_limits version found ≡ Err (query_feature_unsupported version)
deep_refused version None deep = refl
deep_refused version (Some root) deep =
    ap (λ large. cond large (Err (query_feature_unsupported version)) (Ok (record { attr_set = bib1_attributes; root = root })))
    (one_of_three (nat_lt most_query_nodes (tree_size root)) (nat_lt most_query_depth (tree_depth root))
    (nat_lt most_query_cost (tree_cost root)) (lt-ltb most_query_depth (tree_depth root) (deep root refl)))

-- a query with such a term is refused for it, where it has no fault
pub long_refused : (version : List ℕ) (indexes : List Index) (tree : cql.Tree) (diag : SruDiag)
    → all_faults indexes tree ≡ [] → true ≡ has_long_term tree → diag ≡ query_feature_unsupported version
    → IsOrMemory (as_fault (rpn_of version indexes (parsed tree))) (Err (Diag diag))
long_refused version indexes tree diag good long same =
    ap (λ d. Err (Diag d)) same
    ∙ sym (ap as_fault
    (ap (λ all. unless_faulty version all (within_limits version (mapped indexes tree))) good
    ∙ deep_refused version (mapped indexes tree) (λ root. long-is-too-deep indexes tree root (sym long))))
