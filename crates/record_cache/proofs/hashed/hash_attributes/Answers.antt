use Rattle.std.proofs.Common.{arith, rules}
use Rattle.std.proofs.lemmas.List.{take_all}
use Rattle.record_cache.specs.Keys.{attribute_input}
use Rattle.record_cache.proofs.HashLemmas.{more_fed}
use Rattle.record_cache.proofs.hashed.hash_attributes.Goals as goal

pub loop-attribute-preserved : goal.loop-attribute-preserved
loop-attribute-preserved g c =
    more_fed g.H.Hasher.write attribute_input c.write_usize.new.self c.loop-attribute.state _ c.args.attributes.now c.loop-attribute.attribute-index c.attribute-item.result (omega arith) c.attribute-item.is
    c.loop-attribute.invariant c.hash_attribute.ensures

pub returns : goal.returns
returns g c = search (rules, take_all)
