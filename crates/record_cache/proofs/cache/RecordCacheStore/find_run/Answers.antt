use Rattle.record_cache.specs.Views.{cache_of}
use Rattle.record_cache.proofs.RunLemmas.{found_entries, run_worlds}
use Rattle.record_cache.proofs.cache.RecordCacheStore.find_run.Goals as goal

pub invariant_of-self : goal.invariant_of-self
invariant_of-self g c = record {
  worlds = found_entries g.W.World (cache_of c.self.inside.entries) (cache_of c.run.new.self) c.args.key c.run.ensures.found.0 c.run.ensures.found.1 c.self.invariant.worlds;
  digested = c.run.ensures.digested;
}

pub returns-clause-worlds : goal.returns-clause-worlds
returns-clause-worlds g c =
    run_worlds g.W.World (cache_of c.self.inside.entries) (cache_of c.run.new.self) c.args.key c.args.count c.run.result c.run.ensures.plain c.self.invariant.worlds
