use Rattle.std.proofs.Common.{◌≡◌, ap, false, refl, true}
use Rattle.record_cache.specs.Digests.{holds}
use Rattle.record_cache.specs.Views.{cache_of}
use Rattle.record_cache.proofs.DigestLemmas.{none_held, some_held}
use Rattle.record_cache.proofs.entries.Entries.find.Goals as goal

pub returns-then-not-holds-clause-plain : goal.returns-then-not-holds-clause-plain
returns-then-not-holds-clause-plain c =
    let none : holds c.args.key.now c.args.self.now.items.entries ≡ false = cc in
    (none_held c.args.key.now c.args.self.now.items.entries none, refl)

pub returns-clause-plain : goal.returns-clause-plain
returns-clause-plain c =
    let some : holds c.args.key.now c.args.self.now.items.entries ≡ true = cc in
    (some_held c.args.key.now c.args.self.now.items.entries some, ap cache_of c.count_want.ensures)
