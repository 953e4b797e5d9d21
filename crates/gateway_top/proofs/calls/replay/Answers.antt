use Rattle.gateway_top.proofs.Played.{taken-played}
use Rattle.gateway_top.proofs.calls.replay.Goals as goal

pub returns-in-Taken : goal.returns-in-Taken
returns-in-Taken g c =
    taken-played g.W.World _ c.args.config.now c.args.script.now c.in-Taken.route
    (g.F.Files.contents c.args.files.now) (g.F.Files.contents c.read_config.new.files) _ _ _ _ _ c.play_route.result
    c.read_config.ensures.contents c.read_config.ensures.faults c.in-Taken.ensures.read c.play_route.ensures
