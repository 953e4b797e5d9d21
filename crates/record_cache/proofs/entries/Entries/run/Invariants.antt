use Rattle.std.proofs.Common.{◌≡◌, ◌-◌, ◌≤◌, Some, length}
use Rattle.record_cache.specs.Digests.{digest_of}
use Rattle.record_cache.specs.Runs.{key_on}
use Rattle.record_cache.specs.Views.{AreDigested, cache_of}
use Rattle.record_cache.proofs.RunLemmas.{HasRun}
use Rattle.record_cache.proofs.entries.Entries.run.Given as goal

-- the store has what was found so far, and the key is the next one's
abbrev pub invariant-loop-self : goal.invariant-loop-self
invariant-loop-self l = record {
  few : length l.items ≤ l.count;
  digested : AreDigested l.self;
  digest : l.next.digest ≡ digest_of l.self.seed l.next.key;
  key : l.next.key ≡ key_on (length l.items) l.fn.key;
  store : HasRun (Some (cache_of l.fn.self)) (Some (cache_of l.self)) l.fn.key l.items;
}

abbrev pub decreases-loop-self : goal.decreases-loop-self
decreases-loop-self l = l.count - length l.items
