use Rattle.cql_parse.specs.ParserAnswers.{lexeme_in}
use Rattle.cql_parse.proofs.Going.{open_goes}
use Rattle.std.proofs.Common.{◌≡◌, ◌∷◌, ℕ, suc, ap, ◌∙◌, arith}
use Rattle.cql_parse.specs.Lexemes.{lexemes}
use Rattle.cql_parse.specs.Nesting.{nesting}
use Rattle.cql_parse.proofs.Deeper.{nesting_open}
use Rattle.cql_parse.proofs.Nested.{same_limit}
use Rattle.cql_parse.proofs.build.open_bracket.Goals as goal

pub returns-clause-goes : goal.returns-clause-goes
returns-clause-goes c =
    let old = c.args.stack.now in
    open_goes c.args.text.now old.brackets c.args.left old.frames c.push_bracket.new.self.frames (lexeme_in c.args.front) c.args.front.rest c.requires c.in_ok-push_bracket.ensures.frames

pub returns-clause-nested : goal.returns-clause-nested
returns-clause-nested c =
    let n = c.args.stack.now.brackets in
    let x = lexeme_in c.args.front in
    let ts = lexemes c.args.text.now c.args.front.rest.now in
    let one : suc n ≡ c.push_bracket.new.self.brackets = omega (arith, c.in_ok-push_bracket.ensures.brackets) in
    same_limit (nesting n (x ∷ ts)) (nesting c.push_bracket.new.self.brackets ts) (nesting_open n x ts c.requires ∙ ap (λ (k : ℕ). nesting k ts) one)
