-- For contracts alone: an unfinished query: what is read, what it is within, and which trees the
-- tokens left can make of it (this project's own).
use Rattle.std.specs.Prelude.{◌≡◌, ℕ, ◌<◌, ◌≤◌, true, ◌⊎◌, ◌↔◌, List, [], ◌∷◌, option_map, Result, Ok, Err}
use Rattle.std.specs.Borrow.{Bor}
use Rattle.cql_lex.specs.declared.token.Token.{Token}
use Rattle.cql_parse.specs.declared.grown.Grown.{Grown}
use Rattle.cql_parse.specs.declared.frame.LeftOperand.{LeftOperand}
use Rattle.cql_parse.specs.declared.frame.Frame.{Frame}
use Rattle.cql_parse.specs.declared.frame.Frame.TheVariants.{Bracket, Prefix}
use Rattle.cql_parse.specs.declared.frame.State.{State}
use Rattle.cql_parse.specs.declared.frame.State.TheVariants.{Operand, After}
use Rattle.cql_parse.specs.declared.frame.Ended.{Ended}
use Rattle.cql_parse.specs.declared.frame.Ended.TheVariants.{Inner, Whole}
use Rattle.cql_parse.specs.declared.fault.Stop.{Stop}
use Rattle.cql_parse.specs.declared.fault.Stop.TheVariants.{NoQuery, Deep, Memory}
use Rattle.cql_parse.specs.Tree.{Tree, depth, assigned}
use Rattle.cql_parse.specs.Classes.{is_close}
use Rattle.cql_parse.specs.Lexemes.{Lexeme, lexemes}
use Rattle.cql_parse.specs.Nesting.{nesting}
use Rattle.cql_parse.specs.Grammar.{Left, Due, operand, after, join, Reads, IsQuery}
use Rattle.z_types.specs.Bounds.{most_query_depth}

-- a left operand without its levels
abbrev pub left_of : LeftOperand → Left
left_of l = record { tree = l.query.tree; boolean = l.boolean; modifiers = l.modifiers }

-- what is due in this state
abbrev pub due_of : State → Due
due_of (Operand left) = operand (option_map left_of left)
due_of (After query) = after query.tree

-- this tree was made, or it is deeper than 48
abbrev pub Makes : Result Grown Stop → Tree → Type 0
Makes (Ok g) t = g.tree ≡ t
Makes (Err Deep) t = most_query_depth < depth t
Makes (Err NoQuery) t = ⊥
Makes (Err Memory) t = Unit {0}

-- The query that this one is within, the innermost frame first: this query ends before these
-- tokens, and the whole is this tree.
abbrev pub Ends : List Frame → Tree → List Lexeme → Tree → Type 0
Ends [] q rest whole = (rest ≡ []) × (whole ≡ q)
Ends (Bracket left ∷ frames) q rest whole =
    (y : Lexeme) × (more : List Lexeme) × (outer : Tree) × (end : List Lexeme) × (rest ≡ y ∷ more)
    × (is_close y.class ≡ true) × Reads (after (join (option_map left_of left) q)) more outer end
    × Ends frames outer end whole
Ends (Prefix left name uri ∷ frames) q rest whole =
    Ends frames (join (option_map left_of left) (assigned name uri q)) rest whole

-- what is due and the tokens left make the whole this tree
abbrev pub Completes : Due → List Frame → List Lexeme → Tree → Type 0
Completes due frames ts whole =
    (q : Tree) × (end : List Lexeme) × Reads due ts q end × Ends frames q end whole

-- One part is read: what is due, within these frames, before these tokens. What then is due, within
-- the new frames, before the tokens left, makes the same trees. Where no query goes on so, nothing
-- makes a tree; where it would be too deep, every tree is, or the brackets are, `brackets` of which
-- are open.
abbrev pub Goes : List ℕ → ℕ → Due → List Frame → List Lexeme → List Frame
    → Result (State × Bor (List Token)) Stop → Type 0
Goes text brackets due old ts new (Ok next) =
    (t : Tree) → Completes due old ts t ↔ Completes (due_of next.0) new (lexemes text next.1.now) t
Goes text brackets due old ts new (Err NoQuery) = (t : Tree) → Completes due old ts t → ⊥
Goes text brackets due old ts new (Err Deep) =
    (t : Tree) → Completes due old ts t
    → (most_query_depth < depth t) ⊎ (most_query_depth < nesting brackets ts)
Goes text brackets due old ts new (Err Memory) = Unit {0}

-- A query ends here: its prefix assignments are put around it, up to the brackets that it is in.
abbrev pub EndsSo : List Frame → Ended → List Lexeme → Tree → Type 0
EndsSo frames (Inner left q) rest t = Ends (Bracket left ∷ frames) q.tree rest t
EndsSo frames (Whole q) rest t = Ends [] q.tree rest t

abbrev pub Unwinds : Tree → List Frame → List Frame → Result Ended Stop → Type 0
Unwinds q old new (Ok ended) =
    (rest : List Lexeme) (t : Tree) → Ends old q rest t ↔ EndsSo new ended rest t
Unwinds q old new (Err NoQuery) = ⊥
Unwinds q old new (Err Deep) =
    (rest : List Lexeme) (t : Tree) → Ends old q rest t → most_query_depth < depth t
Unwinds q old new (Err Memory) = Unit {0}

-- how many brackets end with a query
abbrev pub closed_in : Ended → ℕ
closed_in (Inner left q) = 1
closed_in (Whole q) = 0

-- No tokens are left: what is read is this tree, if it is a query at all.
abbrev pub Finishes : Due → List Frame → Result Grown Stop → Type 0
Finishes due frames (Ok g) = (t : Tree) → Completes due frames [] t ↔ (t ≡ g.tree)
Finishes due frames (Err NoQuery) = (t : Tree) → Completes due frames [] t → ⊥
Finishes due frames (Err Deep) = (t : Tree) → Completes due frames [] t → most_query_depth < depth t
Finishes due frames (Err Memory) = Unit {0}

-- The tree of tokens, where they are a query within the limits: at most 48 brackets within one
-- another, and a tree of at most 48 levels.
abbrev pub Builds : List Lexeme → Result Grown Stop → Type 0
Builds ts (Ok g) =
    IsQuery ts g.tree × (depth g.tree ≤ most_query_depth) × (nesting 0 ts ≤ most_query_depth)
Builds ts (Err NoQuery) = (t : Tree) → IsQuery ts t → ⊥
Builds ts (Err Deep) =
    (t : Tree) → IsQuery ts t → (most_query_depth < depth t) ⊎ (most_query_depth < nesting 0 ts)
Builds ts (Err Memory) = Unit {0}

-- what is made has at most 48 levels
abbrev pub Shallow : Result Grown Stop → Type 0
Shallow (Ok g) = depth g.tree ≤ most_query_depth
Shallow (Err e) = Unit {0}
