-- What the definitions say of some queries (CQL 1.2's forms; the attributes are this project's own).
use Rattle.std.proofs.Common.{◌≡◌, ℕ, false, List, [], ◌∷◌, codes, Some, None, ◌||◌, refl}
use Rattle.z_types.specs.declared.query.Term.TheVariants.{General}
use Rattle.z_types.specs.Tree as rpn
use Rattle.route_config.specs.declared.route.Index.{Index}
use Rattle.cql_parse.specs.Tree.{Tree, clause, joined, assigned, sorted}
use Rattle.cql_map.specs.declared.fault.MapFault.TheVariants as fault
use Rattle.cql_map.specs.Bib1.{use_attribute, relation_attribute, equal, first_in_field, phrase, word, complete_field, right_truncation, left_truncation}
use Rattle.cql_map.specs.Meaning.{Search, finds}
use Rattle.cql_map.specs.Mapped.{mapped}
use Rattle.cql_map.specs.Faults.{all_faults}

abbrev indexes : List Index
indexes = record { name = codes "dc.title"; value = 4 } ∷ []

abbrev query : List ℕ → List ℕ → List ℕ → Tree
query index relation term = clause (Some (record { index = index; relation = relation; modifiers = [] })) term

-- a record is found where one of two words is
any_words : (search : Search) → finds search indexes (query (codes "dc.title") (codes "any") (codes "x y*")) ≡ (search (use_attribute 4 ∷ relation_attribute equal ∷ word ∷ []) (General (codes "x")) || (search (use_attribute 4 ∷ relation_attribute equal ∷ word ∷ right_truncation ∷ []) (General (codes "y")) || false))
any_words search = refl

-- the same query, mapped
any_mapped : mapped indexes (query (codes "dc.title") (codes "any") (codes "x y*")) ≡ Some (rpn.or (rpn.leaf (use_attribute 4 ∷ relation_attribute equal ∷ word ∷ []) (General (codes "x"))) (rpn.leaf (use_attribute 4 ∷ relation_attribute equal ∷ word ∷ right_truncation ∷ []) (General (codes "y"))))
any_mapped = refl

phrases : mapped indexes (query (codes "TITLE") (codes "CQL.scr") (codes "a b")) ≡ Some (rpn.leaf (use_attribute 4 ∷ relation_attribute equal ∷ phrase ∷ []) (General (codes "a b")))
phrases = refl

bare : mapped indexes (clause None (codes "a")) ≡ Some (rpn.leaf (use_attribute 1016 ∷ relation_attribute equal ∷ word ∷ []) (General (codes "a")))
bare = refl

-- a backslash takes a star and white space: they are the term's
escaped : mapped indexes (query (codes "title") (codes "exact") (codes "*\\*\\ ")) ≡ Some (rpn.leaf (use_attribute 4 ∷ relation_attribute equal ∷ first_in_field ∷ phrase ∷ complete_field ∷ left_truncation ∷ []) (General (codes "* ")))
escaped = refl

-- refusals
anchored : all_faults indexes (clause None (codes "^a")) ≡ fault.Anchoring (codes "^") ∷ []
anchored = refl

star : all_faults indexes (clause None (codes "*")) ≡ fault.EmptyTerm [] ∷ []
star = refl

stars : all_faults indexes (clause None (codes "***")) ≡ fault.Masking (codes "*") ∷ []
stars = refl

by_place : all_faults indexes (query (codes "title") (codes "all") (codes "a * b?")) ≡ fault.EmptyTerm [] ∷ fault.Masking (codes "?") ∷ []
by_place = refl

unknown : all_faults indexes (query (codes "foo") (codes "=") (codes "a")) ≡ fault.Index (codes "foo") ∷ []
unknown = refl

other_set : all_faults indexes (query (codes "X.foo") (codes "=") (codes "a")) ≡ fault.ContextSet (codes "X") ∷ []
other_set = refl

late_sort : all_faults indexes (joined (codes "prox") [] (sorted (clause None (codes "a")) []) (assigned None (codes "u") (clause None (codes "?")))) ≡ fault.Boolean (codes "prox") ∷ fault.ContextSet (codes "u") ∷ fault.Masking (codes "?") ∷ fault.Sort [] ∷ []
late_sort = refl
