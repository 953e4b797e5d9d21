use Rattle.std.proofs.Common.{arith, refl, sym, ◌≡◌, ◌∙◌, ◌<◌, max, ℕ, List, filter, map}
use Rattle.lru.specs.LruCache.{LruCache, lru_cache}
use Rattle.pool_sets.specs.declared.table.HeldSet.{HeldSet}
use Rattle.pool_sets.specs.Table.{after_expire}
use Rattle.pool_sets.specs.TableView.{entry_of, table_of}
use Rattle.pool_sets.proofs.OrderLemmas.{step, none_stale, falls_later, fresh_at}
use Rattle.pool_sets.proofs.table.SetTable.expire.Goals as goal

pub loop-self-init : goal.loop-self-init
loop-self-init c = record {
  cap = refl;
  latest = refl;
  slots = c.self.invariant.slots;
  order = falls_later c.self.inside.latest c.max-self-inside.result c.self.inside.sets.entries (omega arith) c.self.invariant.order;
  left = refl;
}

pub loop-self-preserved : goal.loop-self-preserved
loop-self-preserved c =
    let i = c.loop-self.invariant in
    let next = step c.loop-self.self-inside.latest c.args.ttl (λ slot. slot < c.loop-self.self-inside.sets.cap) c.loop-self.self-inside.sets.entries (sym c.loop-self-test.ensures) i.slots i.order in
    rw c.drop_last.ensures (record {
      cap = i.cap;
      latest = i.latest;
      slots = next.slots;
      order = next.order;
      left = next.left ∙ i.left;
    })

-- the table that the loop leaves
ends : (sets : LruCache ℕ HeldSet) (es : List (ℕ × HeldSet)) (cap latest now ttl m : ℕ) → m ≡ max latest now → cap ≡ sets.cap → map entry_of es ≡ filter (fresh_at m ttl) (map entry_of sets.entries) → table_of (lru_cache es cap) m ≡ after_expire now ttl (table_of sets latest)
ends sets es cap latest now ttl m e k h = rw (h, k, e) refl

pub returns : goal.returns
returns c =
    let i = c.loop-self.invariant in
    let es = c.loop-self.self-inside.sets.entries in
    let all = none_stale c.loop-self.self-inside.latest c.args.ttl es (sym c.loop-self-test.ensures) i.order in
    rw (← c.self.view_is) (ends c.self.inside.sets es c.loop-self.self-inside.sets.cap c.self.inside.latest c.args.now c.args.ttl c.loop-self.self-inside.latest (i.latest ∙ c.max-self-inside.ensures) i.cap (all ∙ i.left))
