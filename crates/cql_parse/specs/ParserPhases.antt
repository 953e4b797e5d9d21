-- For contracts alone: which token may come next in a query (CQL 1.2, BNF, as an LL(1) table with a
-- counter of open brackets).
use Rattle.std.specs.Prelude.{ℕ, zero, suc, ◌==◌, ◌&&◌, Bool, true, false, List, [], ◌∷◌, Option, Some, None, option_map, if◌then◌else◌}
use Rattle.cql_parse.specs.declared.lexeme.Class.{Class}
use Rattle.cql_parse.specs.declared.first_fault.Owner.{Owner}
use Rattle.cql_parse.specs.declared.first_fault.Owner.TheVariants.{Relation, Boolean, Key}
use Rattle.cql_parse.specs.declared.first_fault.Phase.{Phase}
use Rattle.cql_parse.specs.declared.first_fault.Phase.TheVariants.{Clause, Term, After, SortBy, Sign, PrefixWord, Uri, Modified, Slash, Named, Value}
use Rattle.cql_parse.specs.declared.first_fault.Spot.{Spot}
use Rattle.cql_parse.specs.Classes.{is_word, is_term, is_symbol, is_relation, is_slash, is_close, is_equal, is_open, is_greater, is_boolean, is_sortby}
use Rattle.cql_parse.specs.Lexemes.{Lexeme}

-- a phase with `n` open brackets
abbrev pub spot : Phase → ℕ → Spot
spot phase n = record { phase = phase; «open» = n }

-- a closing bracket, where one is open
abbrev pub closed : ℕ → Option Spot
closed zero = None
closed (suc n) = Some (spot After n)

-- what may come where a clause is due: a term, a bracket, the sign of a prefix assignment
abbrev pub clause_step : ℕ → Class → Option Spot
clause_step n c =
    if is_term c then Some (spot Term n)
    else (if is_open c then Some (spot Clause (suc n))
    else (if is_greater c then Some (spot Sign n) else None))

-- behind a clause: a boolean, sortby, a closing bracket
abbrev pub after_step : ℕ → Class → Option Spot
after_step n c =
    if is_boolean c then Some (spot (Modified Boolean) n)
    else (if is_sortby c then Some (spot SortBy n) else (if is_close c then closed n else None))

-- behind what may have modifiers, where no slash comes
abbrev pub unmodified_step : Owner → ℕ → Class → Option Spot
unmodified_step Relation n c = if is_term c then Some (spot After n) else None
unmodified_step Boolean n c = clause_step n c
unmodified_step Key n c =
    if is_term c then Some (spot (Modified Key) n) else (if is_close c then closed n else None)

abbrev pub modified_step : Owner → ℕ → Class → Option Spot
modified_step owner n c =
    if is_slash c then Some (spot (Slash owner) n) else unmodified_step owner n c

-- one token
abbrev pub step_of : Phase → ℕ → Class → Option Spot
step_of Clause n c = clause_step n c
step_of Term n c = if is_relation c then Some (spot (Modified Relation) n) else after_step n c
step_of After n c = after_step n c
step_of SortBy n c = if is_term c then Some (spot (Modified Key) n) else None
step_of Sign n c =
    if is_word c then Some (spot PrefixWord n)
    else (if is_term c then Some (spot Clause n) else None)
step_of PrefixWord n c = if is_equal c then Some (spot Uri n) else clause_step n c
step_of Uri n c = if is_term c then Some (spot Clause n) else None
step_of (Modified owner) n c = modified_step owner n c
step_of (Slash owner) n c = if is_word c then Some (spot (Named owner) n) else None
step_of (Named owner) n c =
    if is_symbol c then Some (spot (Value owner) n) else modified_step owner n c
step_of (Value owner) n c = if is_term c then Some (spot (Modified owner) n) else None

-- a query may end in this phase
abbrev pub is_final : Phase → Bool
is_final Term = true
is_final After = true
is_final (Modified Key) = true
is_final (Named Key) = true
is_final _ = false

abbrev pub ends_so : Phase → ℕ → Bool
ends_so phase n = is_final phase && (n == 0)

-- whether a query may go on so to its end
abbrev pub accepts : Phase → ℕ → List Lexeme → Bool
accepts phase n [] = ends_so phase n
accepts phase n (x ∷ rest) =
    elim (step_of phase n x.class)
    [ None ↦ false | Some next ↦ accepts next.phase next.«open» rest ]

-- how many tokens come before the first with which no query goes on; their number where a query
-- goes on with all of them but does not end; none where it ends
abbrev pub fault_at : Phase → ℕ → List Lexeme → Option ℕ
fault_at phase n [] = if ends_so phase n then None else Some 0
fault_at phase n (x ∷ rest) =
    elim (step_of phase n x.class)
    [ None ↦ Some 0 | Some next ↦ option_map suc (fault_at next.phase next.«open» rest) ]
