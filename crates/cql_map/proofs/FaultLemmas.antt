-- The first fault of lists one behind another.
use Rattle.std.proofs.Common.{◌≡◌, ℕ, true, false, ap, Some, List, [], ◌∷◌, ◌++◌, ◌⊎◌, inl, inr, ⊎_elim, refl, sym, subst}
use Rattle.cql_map.specs.declared.fault.MapFault.{MapFault}
use Rattle.cql_map.specs.declared.fault.MapFault.TheVariants as fault
use Rattle.route_config.specs.declared.route.Index.{Index}
use Rattle.cql_parse.specs.declared.tree.Modifier.{Modifier}
use Rattle.cql_parse.specs.declared.tree.Head.{Head}
use Rattle.cql_parse.specs.Tree.{Tree, joined}
use Rattle.cql_map.specs.declared.relation.Row.{Row}
use Rattle.cql_map.specs.declared.operator.Operator.{Operator}
use Rattle.cql_map.specs.Indexes.{use_of}
use Rattle.cql_map.specs.Relations.{row_of}
use Rattle.cql_map.specs.Operators.{operator_of}
use Rattle.cql_map.specs.Faults.{IsFirst, IsRefusal, index_faults_by, relation_faults_by, modifier_faults, head_faults, clause_faults, boolean_faults_by, faults, all_faults, sort_faults, has_sort}

first_front : (xs ys : List MapFault) (e : MapFault) → IsFirst xs e → IsFirst (xs ++ ys) e
first_front [] ys e h = absurd h
first_front (x ∷ xs) ys e h = h

-- a fault in front is told
pub refusal_front : (xs ys : List MapFault) (e : MapFault) → IsRefusal xs e → IsRefusal (xs ++ ys) e
refusal_front xs ys e h = ⊎_elim (λ (m : e ≡ fault.Memory). inl m) (λ (f : IsFirst xs e). inr (first_front xs ys e f)) h

-- and where there is none in front, the first behind
pub refusal_behind : (xs ys : List MapFault) (e : MapFault) → xs ≡ [] → IsRefusal ys e → IsRefusal (xs ++ ys) e
refusal_behind xs ys e none h = subst (λ (fs : List MapFault). IsRefusal (fs ++ ys) e) (sym none) h

-- a head
pub head_relation : (indexes : List Index) (head : Head) (value : ℕ) (e : MapFault) → use_of indexes head.index ≡ Some value → IsRefusal (relation_faults_by head.relation (row_of head.relation)) e → IsRefusal (head_faults indexes head) e
head_relation indexes head value e found h =
    refusal_behind (index_faults_by indexes head.index (use_of indexes head.index)) _ e (ap (index_faults_by indexes head.index) found) (refusal_front (relation_faults_by head.relation (row_of head.relation)) (modifier_faults fault.Modifier head.modifiers) e h)

pub head_modifiers : (indexes : List Index) (head : Head) (value : ℕ) (row : Row) (e : MapFault) → use_of indexes head.index ≡ Some value → row_of head.relation ≡ Some row → IsRefusal (modifier_faults fault.Modifier head.modifiers) e → IsRefusal (head_faults indexes head) e
head_modifiers indexes head value row e found related h =
    refusal_behind (index_faults_by indexes head.index (use_of indexes head.index)) _ e (ap (index_faults_by indexes head.index) found) (refusal_behind (relation_faults_by head.relation (row_of head.relation)) _ e (ap (relation_faults_by head.relation) related) h)

pub head_taken : (indexes : List Index) (head : Head) (value : ℕ) (row : Row) → use_of indexes head.index ≡ Some value → row_of head.relation ≡ Some row → modifier_faults fault.Modifier head.modifiers ≡ [] → head_faults indexes head ≡ []
head_taken indexes head value row found related none = rw (found, related) none

-- a clause
pub clause_head : (indexes : List Index) (head : Head) (term : List ℕ) (e : MapFault) → IsRefusal (head_faults indexes head) e → IsRefusal (clause_faults indexes (Some head) term) e
clause_head indexes head term e h = refusal_front (head_faults indexes head) _ e h

-- a boolean
pub joined_left : (indexes : List Index) (boolean : List ℕ) (ms : List Modifier) (a b : Tree) (e : MapFault) → IsRefusal (faults indexes a) e → IsRefusal (faults indexes (joined boolean ms a b)) e
joined_left indexes boolean ms a b e h = refusal_front (faults indexes a) _ e h

pub joined_boolean : (indexes : List Index) (boolean : List ℕ) (ms : List Modifier) (a b : Tree) (e : MapFault) → faults indexes a ≡ [] → IsRefusal (boolean_faults_by boolean (operator_of boolean)) e → IsRefusal (faults indexes (joined boolean ms a b)) e
joined_boolean indexes boolean ms a b e none h =
    refusal_behind (faults indexes a) _ e none (refusal_front (boolean_faults_by boolean (operator_of boolean)) _ e h)

pub joined_modifiers : (indexes : List Index) (boolean : List ℕ) (ms : List Modifier) (a b : Tree) (o : Operator) (e : MapFault) → faults indexes a ≡ [] → operator_of boolean ≡ Some o → IsRefusal (modifier_faults fault.BooleanModifier ms) e → IsRefusal (faults indexes (joined boolean ms a b)) e
joined_modifiers indexes boolean ms a b o e none found h =
    refusal_behind (faults indexes a) _ e none (refusal_behind (boolean_faults_by boolean (operator_of boolean)) _ e (ap (boolean_faults_by boolean) found) (refusal_front (modifier_faults fault.BooleanModifier ms) (faults indexes b) e h))

-- the whole: a sort is told last
pub all_refused : (indexes : List Index) (q : Tree) (e : MapFault) → IsRefusal (faults indexes q) e → IsRefusal (all_faults indexes q) e
all_refused indexes q e h = refusal_front (faults indexes q) (sort_faults (has_sort q)) e h

pub all_sorted : (indexes : List Index) (q : Tree) → faults indexes q ≡ [] → has_sort q ≡ true → IsRefusal (all_faults indexes q) (fault.Sort [])
all_sorted indexes q none sorts = rw (none, sorts) (inr refl)

pub all_taken : (indexes : List Index) (q : Tree) → faults indexes q ≡ [] → has_sort q ≡ false → all_faults indexes q ≡ []
all_taken indexes q none sorts = rw (none, sorts) refl

pub ruleset head_steps = (head_relation, head_modifiers, head_taken)

pub ruleset joined_steps = (joined_left, joined_boolean, joined_modifiers)

pub ruleset all_steps = (all_refused, all_sorted, all_taken)
