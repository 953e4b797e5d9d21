use Rattle.std.proofs.Common.{arith, rules}
use Rattle.std.proofs.lemmas.List.{take_all}
use Rattle.record_cache.specs.Keys.{text_input}
use Rattle.record_cache.proofs.HashLemmas.{more_fed}
use Rattle.record_cache.proofs.hashed.hash_names.Goals as goal

pub loop-name-preserved : goal.loop-name-preserved
loop-name-preserved g c =
    more_fed g.H.Hasher.write text_input c.write_usize.new.self c.loop-name.state _ c.args.names.now c.loop-name.name-index c.name-item.result (omega arith) c.name-item.is
    c.loop-name.invariant c.hash_text.ensures

pub returns : goal.returns
returns g c = search (rules, take_all)
