-- For contracts alone: one step of the parser: what it leaves of the tokens and of the stack makes
-- the same trees (this project's own).
use Rattle.std.specs.Prelude.{◌≡◌, ◌↔◌, ℕ, ◌+◌, ◌<◌, List, [], ◌∷◌, option_map, Option, MatchOption, Result, IfOk, if◌then◌else◌}
use Rattle.std.specs.Borrow.{Bor}
use Rattle.cql_lex.specs.declared.token.Token.{Token}
use Rattle.cql_parse.specs.declared.lexeme.Front.{Front}
use Rattle.cql_parse.specs.declared.frame.LeftOperand.{LeftOperand}
use Rattle.cql_parse.specs.declared.frame.Frame.{Frame}
use Rattle.cql_parse.specs.declared.frame.State.{State}
use Rattle.cql_parse.specs.declared.fault.Stop.{Stop}
use Rattle.cql_parse.specs.Grammar.{Due, operand}
use Rattle.cql_parse.specs.Lexemes.{Lexeme, lexemes}
use Rattle.z_types.specs.Bounds.{most_query_depth}
use Rattle.cql_parse.specs.Nesting.{nesting}
use Rattle.cql_parse.specs.ParserBrackets.{Within, is_bracket}
use Rattle.cql_parse.specs.ParserAnswers.{lexeme_in}
use Rattle.cql_parse.specs.ParserState.{left_of, Goes}

-- a frame was pushed
abbrev pub IsPushed : Within → Frame → Within → Type 0
IsPushed old frame new = new.frames ≡ frame ∷ old.frames

-- the innermost frame was taken out, where there was one
abbrev pub IsPopped : Within → Option Frame → Within → Type 0
IsPopped old frame new =
    MatchOption frame ((old.frames ≡ []) × (new.frames ≡ [])) (λ f. old.frames ≡ f ∷ new.frames)

-- and with it its bracket, where it is one
abbrev pub LosesBracket : Within → Option Frame → Within → Type 0
LosesBracket old frame new =
    MatchOption frame (old.brackets ≡ new.brackets)
    (λ f. old.brackets ≡ new.brackets + (if is_bracket f then 1 else 0))

-- a clause is due behind this left operand
abbrev pub operand_of : Option LeftOperand → Due
operand_of left = operand (option_map left_of left)

-- the first lexeme and those behind it
abbrev pub front_lexemes : List ℕ → Front → List Lexeme
front_lexemes text front = lexeme_in front ∷ lexemes text front.rest.now

-- before these tokens, what is due within the old stack makes the trees that what then is due
-- within the new one makes
abbrev pub GoesOn : List ℕ → Due → Within → List Lexeme → Within
    → Result (State × Bor (List Token)) Stop → Type 0
GoesOn text due old ts new result = Goes text old.brackets due old.frames ts new.frames result

-- brackets are nested too deep in the tokens that are left where they were before
abbrev pub NestsOn : List ℕ → Within → List Lexeme → Within
    → Result (State × Bor (List Token)) Stop → Type 0
NestsOn text old ts new result =
    IfOk result (λ next. (most_query_depth < nesting old.brackets ts)
    ↔ (most_query_depth < nesting new.brackets (lexemes text next.1.now)))

-- what is read has no brackets
abbrev pub KeepsNesting : List ℕ → Within → List Lexeme
    → Result (State × Bor (List Token)) Stop → Type 0
KeepsNesting text stack ts result =
    IfOk result
    (λ next. nesting stack.brackets ts ≡ nesting stack.brackets (lexemes text next.1.now))

-- the same before a front, and before tokens of a text
abbrev pub GoesOnFront : List ℕ → Due → Within → Front → Within
    → Result (State × Bor (List Token)) Stop → Type 0
GoesOnFront text due old front new result =
    GoesOn text due old (front_lexemes text front) new result

abbrev pub GoesOnTokens : List ℕ → Due → Within → List Token → Within
    → Result (State × Bor (List Token)) Stop → Type 0
GoesOnTokens text due old tokens new result = GoesOn text due old (lexemes text tokens) new result

abbrev pub NestsOnFront : List ℕ → Within → Front → Within
    → Result (State × Bor (List Token)) Stop → Type 0
NestsOnFront text old front new result = NestsOn text old (front_lexemes text front) new result

abbrev pub NestsOnTokens : List ℕ → Within → List Token → Within
    → Result (State × Bor (List Token)) Stop → Type 0
NestsOnTokens text old tokens new result = NestsOn text old (lexemes text tokens) new result

abbrev pub KeepsNestingFront : List ℕ → Within → Front
    → Result (State × Bor (List Token)) Stop → Type 0
KeepsNestingFront text stack front result =
    KeepsNesting text stack (front_lexemes text front) result

abbrev pub KeepsNestingTokens : List ℕ → Within → List Token
    → Result (State × Bor (List Token)) Stop → Type 0
KeepsNestingTokens text stack tokens result = KeepsNesting text stack (lexemes text tokens) result
