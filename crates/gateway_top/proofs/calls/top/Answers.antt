use Rattle.std.proofs.Common.{◌∙◌, sym}
use Rattle.gateway_top.proofs.Played.{load-asked}
use Rattle.gateway_top.proofs.calls.top.Goals as goal

pub returns-in-Some-load_of-clause-loaded : goal.returns-in-Some-load_of-clause-loaded
returns-in-Some-load_of-clause-loaded g c =
    load-asked g.W.World _ c.args.words.now c.in-Some-load_of.clients _ c.load.result
    (sym c.in-Some-load_of.is ∙ c.load_of.ensures.clients) c.load.ensures
