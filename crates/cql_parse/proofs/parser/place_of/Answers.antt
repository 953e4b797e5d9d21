use Rattle.cql_parse.proofs.Syntax.{place_found}
use Rattle.cql_parse.proofs.parser.place_of.Goals as goal

pub returns-then-at-tokens : goal.returns-then-at-tokens
returns-then-at-tokens c = place_found c.args.text.now c.args.tokens.now c.args.at _ c.if-at-tokens.true
