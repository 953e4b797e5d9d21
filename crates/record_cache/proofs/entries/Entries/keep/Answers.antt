use Rattle.std.proofs.Common.{◌≡◌, ◌∙◌, ap, subst, sym}
use Rattle.lru.specs.LruCache.{LruCache}
use Rattle.z_types.specs.declared.records.Item.{Item}
use Rattle.record_cache.specs.declared.digests.Digested.{Digested}
use Rattle.record_cache.specs.Digests.{digest_of}
use Rattle.record_cache.specs.Entries.{after_keep}
use Rattle.record_cache.specs.Views.{cache_of}
use Rattle.record_cache.proofs.DigestLemmas.{kept_digested, kept_plain}
use Rattle.record_cache.proofs.entries.Entries.keep.Goals as goal

pub returns-in-Ok-clause-digested : goal.returns-in-Ok-clause-digested
returns-in-Ok-clause-digested c =
    let own = c.args.self.now in
    let made = c.new-digested in
    kept_digested own.seed made.result (made.ensures.digest ∙ ap (digest_of own.seed) (sym made.ensures.key)) c.args.item own.items c.put.new.self c.requires.digested
    c.in-Ok.ensures.entries c.len-count.ensures.valid.1

pub returns-in-Ok-clause-plain : goal.returns-in-Ok-clause-plain
returns-in-Ok-clause-plain c =
    let own = c.args.self.now in
    let made = c.new-digested in
    let went = c.in-Ok.ensures.entries in
    let entries = kept_plain own.seed made.result (made.ensures.digest ∙ ap (digest_of own.seed) (sym made.ensures.key)) c.args.item own.items c.put.new.self c.requires.digested
    went c.len-count.ensures.valid.1 in
    let behind = record own { items = c.put.new.self } in
    let kept : cache_of behind ≡ after_keep made.result.key c.args.item (cache_of own) =
    (λ i. record { entries = entries i; most = ap (λ (x : LruCache Digested Item). x.cap) went i; wants = own.wants }) in
    subst (λ k. cache_of behind ≡ after_keep k c.args.item (cache_of own)) made.ensures.key kept
