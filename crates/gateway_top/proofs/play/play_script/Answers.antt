use Rattle.gateway_config.specs.Outside.{file_reads, sink_writes}
use Rattle.gateway_top.proofs.Played.{script-read}
use Rattle.gateway_top.proofs.play.play_script.Goals as goal

pub returns-in-Whole : goal.returns-in-Whole
returns-in-Whole g c =
    script-read g.W.World _ c.args.route.now c.args.name.now _ c.in-Whole.text (file_reads g.F.Files c.args.files.now c.read_all.new.self)
    (sink_writes g.K.Sink c.args.out.now c.play_text.new.out) c.play_text.result c.as_slice.ensures c.in-Whole.ensures.fits.1 c.play_text.ensures
