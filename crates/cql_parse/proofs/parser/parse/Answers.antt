use Rattle.std.proofs.Common.{List, [], subst}
use Rattle.cql_lex.specs.declared.token.Token.{Token}
use Rattle.cql_parse.specs.Lexemes.{lexemes}
use Rattle.cql_parse.specs.Grammar.{IsQuery}
use Rattle.cql_parse.proofs.Sound.{text_sound}
use Rattle.cql_parse.proofs.ParsedIsWellFormed.{well_formed_query}
use Rattle.cql_parse.proofs.parser.parse.Goals as goal

pub returns-in-Ok-clause-well_formed : goal.returns-in-Ok-clause-well_formed
returns-in-Ok-clause-well_formed c = λ lexed.
    let text = c.args.text.now in
    let tokens = c.args.tokens.now in
    let tree = c.in-Ok.grown.tree in
    let query = subst (λ (ts : List Token). IsQuery (lexemes text ts) tree) c.as_slice.ensures c.in-Ok.ensures.0 in
    well_formed_query (lexemes text tokens) tree [] query (text_sound text tokens lexed.0 lexed.1)
