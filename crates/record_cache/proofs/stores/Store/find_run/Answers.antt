use Rattle.std.proofs.Common.{◌≡◌, ◌∙◌, ◌+◌, None, Some, arith, ap, length, subst, sym}
use Rattle.record_cache.specs.Runs.{found_item}
use Rattle.record_cache.specs.Stores.{IsWorldsRecord}
use Rattle.record_cache.proofs.RunLemmas.{FindsNext, at_place, finds_next, item_worlds, length_more, more_worlds, on_more, runs_end, runs_on}
use Rattle.record_cache.proofs.stores.Store.find_run.Goals as goal

pub returns-in_default-clause-plain : goal.returns-in_default-clause-plain
returns-in_default-clause-plain g c =
    let before = g.Self.Store.entries c.loop-self.self in
    let behind = g.Self.Store.entries c.find.new.self in
    let none : found_item c.find.result ≡ None = sym c.item_of.ensures ∙ c.in_default.is in
    runs_end (g.Self.Store.entries c.args.self.now) before behind c.args.key c.loop-self.key c.args.count c.loop-self.items
    c.loop-self.invariant.key c.loop-self.invariant.store
    (subst (FindsNext before behind c.loop-self.key) none (finds_next before behind c.loop-self.key c.find.result c.find.ensures.plain))

pub loop-self-preserved : goal.loop-self-preserved
loop-self-preserved g c =
    let run = c.loop-self.items in
    let i = c.loop-self.invariant in
    let before = g.Self.Store.entries c.loop-self.self in
    let behind = g.Self.Store.entries c.find.new.self in
    let found : found_item c.find.result ≡ Some c.in-Some.item = sym c.item_of.ensures ∙ c.in-Some.is in
    let more = c.in_ok-push.ensures.ok in
    let longer : length c.push.new.self ≡ length run + 1 = ap length more ∙ length_more run c.in-Some.item in
    let worlds : IsWorldsRecord g.W.World c.loop-self.key c.in-Some.item = item_worlds g.W.World c.loop-self.key c.find.result c.in-Some.item found c.find.ensures.worlds in
    record {
      few = omega (arith, c.loop-self-test.true, c.len.ensures, longer);
      key = on_more c.args.key c.loop-self.key (length run) i.key ∙ at_place c.args.key (length run + 1) (length c.push.new.self) (sym longer);
      store = runs_on (g.Self.Store.entries c.args.self.now) before behind c.args.key c.loop-self.key run c.push.new.self c.in-Some.item i.key more i.store
          (subst (FindsNext before behind c.loop-self.key) found (finds_next before behind c.loop-self.key c.find.result c.find.ensures.plain));
      worlds = more_worlds g.W.World c.args.key c.loop-self.key run c.push.new.self c.in-Some.item i.key more i.worlds worlds;
    }
