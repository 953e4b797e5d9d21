use Rattle.std.proofs.Common.{◌≡◌, ◌∷◌, option_map, ◌∙◌, ap, arith}
use Rattle.std.proofs.lemmas.Result.{err_from_is_err_and}
use Rattle.cql_parse.specs.declared.frame.Frame.{Frame}
use Rattle.cql_parse.specs.declared.frame.Frame.TheVariants.{Prefix}
use Rattle.cql_parse.specs.Tree.{Tree, assigned, depth}
use Rattle.cql_parse.specs.Grammar.{join}
use Rattle.cql_parse.specs.ParserState.{left_of}
use Rattle.cql_parse.proofs.Deeper.{join_right}
use Rattle.cql_parse.proofs.Going.{unwind_deep}
use Rattle.cql_parse.proofs.build.unwind.Goals as goal

pub returns-in_err-inner-in-Prefix-clause-unwinds : goal.returns-in_err-inner-in-Prefix-clause-unwinds
returns-in_err-inner-in-Prefix-clause-unwinds c =
    let w = c.in-Prefix in
    let new = c.pop.new.self.frames in
    let frames : c.frames.stack.frames ≡ Prefix w.left w.name w.uri ∷ new = c.in-Some.ensures.frames ∙ ap (λ (f : Frame). f ∷ new) w.is in
    let made = assigned w.name w.uri c.frames.query.tree in
    let p = err_from_is_err_and c.from_residual.result c.from_residual.ensures.1 in
    rw (p.1, p.2) (unwind_deep c.args.query.tree c.args.stack.now.frames c.frames.stack.frames new new c.frames.query.tree w.left w.name w.uri made c.in_err-inner-in-Prefix.field-0.0 c.frames.invariant.1 frames (join_right (option_map left_of w.left) made) c.in_err-inner-in-Prefix.ensures)

pub returns-in_err-query-in-Prefix-clause-unwinds : goal.returns-in_err-query-in-Prefix-clause-unwinds
returns-in_err-query-in-Prefix-clause-unwinds c =
    let w = c.in-Prefix in
    let new = c.pop.new.self.frames in
    let frames : c.frames.stack.frames ≡ Prefix w.left w.name w.uri ∷ new = c.in-Some.ensures.frames ∙ ap (λ (f : Frame). f ∷ new) w.is in
    let left = option_map left_of w.left in
    let inner = c.in_ok-inner-in-Prefix.inner.tree in
    let same : depth (join left inner) ≡ depth (join left (assigned w.name w.uri c.frames.query.tree)) = ap (λ (x : Tree). depth (join left x)) c.in_ok-inner-in-Prefix.ensures in
    let p = err_from_is_err_and c.from_residual-in_err-query-in-Prefix.result c.from_residual-in_err-query-in-Prefix.ensures.1 in
    rw (p.1, p.2) (unwind_deep c.args.query.tree c.args.stack.now.frames c.frames.stack.frames new new c.frames.query.tree w.left w.name w.uri (join left inner) c.in_err-query-in-Prefix.field-0.0 c.frames.invariant.1 frames (omega (arith, same)) c.in_err-query-in-Prefix.ensures)
