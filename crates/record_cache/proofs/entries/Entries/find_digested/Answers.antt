use Rattle.std.proofs.Common.{◌≡◌, ◌∙◌, None, Some, ap, refl, subst, sym}
use Rattle.std.specs.Map.{lookup}
use Rattle.std.specs.Option.{IsSome}
use Rattle.lru.specs.LruCache.{LruCache}
use Rattle.z_types.specs.declared.records.Item.{Item}
use Rattle.record_cache.specs.declared.digests.Digested.{Digested}
use Rattle.record_cache.specs.Digests.{same_digested}
use Rattle.record_cache.specs.Views.{cache_of}
use Rattle.record_cache.proofs.DigestLemmas.{found_digested, found_plain, lookup_plain}
use Rattle.record_cache.proofs.entries.Entries.find_digested.Goals as goal

pub returns-in-None-clause-plain : goal.returns-in-None-clause-plain
returns-in-None-clause-plain c =
    let own = c.args.self.now in
    let none : lookup (same_digested c.args.key.now) own.items.entries ≡ None = sym (rw c.in-None.is at c.peek.ensures) in
    (sym (lookup_plain own.seed c.args.key.now c.requires.digest own.items.entries c.requires.digested) ∙ none, refl)

pub returns-in-Ok-clause-digested : goal.returns-in-Ok-clause-digested
returns-in-Ok-clause-digested c =
    let own = c.args.self.now in
    let some : lookup (same_digested c.args.key.now) own.items.entries ≡ Some c.in-Some.item.now = sym (rw c.in-Some.is at c.peek.ensures) in
    found_digested own.seed c.args.key.now c.requires.digest c.in-Some.item.now own.items c.promote-found.new.self c.requires.digested c.promote-found.ensures.entries some

pub returns-in-Ok-clause-plain : goal.returns-in-Ok-clause-plain
returns-in-Ok-clause-plain c =
    let own = c.args.self.now in
    let some : lookup (same_digested c.args.key.now) own.items.entries ≡ Some c.in-Ok.item = sym (rw c.in-Some.is at c.peek.ensures) ∙ ap Some (sym c.in-Ok.ensures) in
    let went = c.promote-found.ensures.entries in
    let entries = found_plain own.seed c.args.key.now c.requires.digest c.in-Ok.item own.items c.promote-found.new.self c.requires.digested went some in (
      sym (lookup_plain own.seed c.args.key.now c.requires.digest own.items.entries c.requires.digested) ∙ some,
      λ i. record { entries = entries i; most = ap (λ (x : LruCache Digested Item). x.cap) went i; wants = own.wants },
    )

pub returns-in-Err-clause-plain : goal.returns-in-Err-clause-plain
returns-in-Err-clause-plain c =
    let own = c.args.self.now in
    let some : lookup (same_digested c.args.key.now) own.items.entries ≡ Some c.in-Some.item.now = sym (rw c.in-Some.is at c.peek.ensures) in
    (subst IsSome (sym some ∙ lookup_plain own.seed c.args.key.now c.requires.digest own.items.entries c.requires.digested) refl, ap cache_of c.count_want.ensures)
