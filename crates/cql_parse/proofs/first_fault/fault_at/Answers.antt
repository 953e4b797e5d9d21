use Rattle.std.proofs.Common.{◌≡◌, ◌∷◌, List, ◌+◌, ◌-◌, ℕ, length, option_map, sym, ◌∙◌, subst, arith}
use Rattle.cql_parse.specs.declared.first_fault.Phase.TheVariants.{Clause}
use Rattle.cql_parse.specs.Lexemes.{Lexeme, lexemes}
use Rattle.cql_parse.specs.ParserPhases.{fault_at}
use Rattle.cql_parse.specs.ParserAnswers.{lexeme_in}
use Rattle.cql_parse.proofs.Faults.{fault_more, rest_len}
use Rattle.cql_parse.proofs.first_fault.fault_at.Goals as goal

pub tokens-preserved : goal.tokens-preserved
tokens-preserved c =
    let text = c.args.text.now in
    let all = c.args.tokens.now in
    let old = c.tokens.rest.now in
    let rest = c.in-Some.front.rest.now in
    let x = lexeme_in c.in-Some.front in
    let next = c.in-Some-step_of.next in
    let k = length all - length old in
    let one = rest_len text old rest x c.in-Some.ensures.front.1 in
    let more = fault_more c.tokens.phase c.tokens.«open» x (lexemes text rest) next k (sym c.in-Some-step_of.ensures.next) in
    let passed : k + 1 ≡ length all - length rest = omega (arith, one, c.tokens.invariant.0) in
    let moved = subst (λ (m : ℕ). option_map (λ at. k + at) (fault_at c.tokens.phase c.tokens.«open» (x ∷ lexemes text rest)) ≡ option_map (λ at. m + at) (fault_at next.phase next.«open» (lexemes text rest))) passed more in
    let before = subst (λ (ts : List Lexeme). option_map (λ at. k + at) (fault_at c.tokens.phase c.tokens.«open» ts) ≡ fault_at Clause 0 (lexemes text all)) c.in-Some.ensures.front.1 c.tokens.invariant.1 in
    (omega (arith, one, c.in-Some-step_of.ensures.bound, c.tokens.invariant.0), sym moved ∙ before)
