use Rattle.std.proofs.Common.{◌≡◌, ◌∙◌, ◌+◌, ◌++◌, ◌∷◌, [], None, Some, arith, ap, length, refl, subst, sym}
use Rattle.record_cache.specs.Digests.{digest_of}
use Rattle.record_cache.specs.Runs.{found_item}
use Rattle.record_cache.specs.Views.{cache_of}
use Rattle.record_cache.proofs.RunLemmas.{FindsNext, at_place, finds_next, length_more, on_more, run_found, runs_end, runs_on}
use Rattle.record_cache.proofs.entries.Entries.run.Goals as goal

pub returns-in_default-clause-plain : goal.returns-in_default-clause-plain
returns-in_default-clause-plain c =
    let before = Some (cache_of c.loop-self.self) in
    let behind = Some (cache_of c.find_digested.new.self) in
    let none : found_item c.find_digested.result ≡ None = sym c.item_of.ensures ∙ c.in_default.is in
    runs_end (Some (cache_of c.args.self.now)) before behind c.args.key c.loop-self.next.key c.args.count c.loop-self.items c.loop-self.invariant.key c.loop-self.invariant.store
    (subst (FindsNext before behind c.loop-self.next.key) none
    (finds_next before behind c.loop-self.next.key c.find_digested.result c.find_digested.ensures.plain))

pub returns-in_err-push-clause-found : goal.returns-in_err-push-clause-found
returns-in_err-push-clause-found c =
    let before = Some (cache_of c.loop-self.self) in
    let behind = Some (cache_of c.find_digested.new.self) in
    let items = c.loop-self.items in
    let more = items ++ c.in-Some.item ∷ [] in
    let found : found_item c.find_digested.result ≡ Some c.in-Some.item = sym c.item_of.ensures ∙ c.in-Some.is in (
      more,
      run_found (cache_of c.args.self.now) (cache_of c.find_digested.new.self) c.args.key more
          (runs_on (Some (cache_of c.args.self.now)) before behind c.args.key c.loop-self.next.key items more c.in-Some.item c.loop-self.invariant.key refl c.loop-self.invariant.store
          (subst (FindsNext before behind c.loop-self.next.key) found
          (finds_next before behind c.loop-self.next.key c.find_digested.result c.find_digested.ensures.plain))),
    )

pub loop-self-preserved : goal.loop-self-preserved
loop-self-preserved c =
    let before = Some (cache_of c.loop-self.self) in
    let behind = Some (cache_of c.find_digested.new.self) in
    let items = c.loop-self.items in
    let i = c.loop-self.invariant in
    let found : found_item c.find_digested.result ≡ Some c.in-Some.item = sym c.item_of.ensures ∙ c.in-Some.is in
    let more = c.in_ok-push.ensures.ok in
    let longer : length c.push.new.self ≡ length items + 1 = ap length more ∙ length_more items c.in-Some.item in
    record {
      few = omega (arith, c.loop-self-test.true, c.len.ensures, longer);
      digested = c.find_digested.ensures.digested;
      digest = subst (λ s. c.loop-self.next.digest ≡ digest_of s c.loop-self.next.key) (sym c.find_digested.ensures.seed) i.digest;
      key = on_more c.args.key c.loop-self.next.key (length items) i.key ∙ at_place c.args.key (length items + 1) (length c.push.new.self) (sym longer);
      store = runs_on (Some (cache_of c.args.self.now)) before behind c.args.key c.loop-self.next.key items c.push.new.self c.in-Some.item i.key more i.store
          (subst (FindsNext before behind c.loop-self.next.key) found
          (finds_next before behind c.loop-self.next.key c.find_digested.result c.find_digested.ensures.plain));
    }
