use Rattle.std.proofs.Common.{◌≡◌, ◌∙◌, true, subst, sym}
use Rattle.z_types.specs.Pending.{IsPending}
use Rattle.cache_backend.specs.Known.{known_under}
use Rattle.cache_backend.specs.Looks.{IsCachedLook, cached_of}
use Rattle.cache_backend.specs.Sessions.{StandsBy, pending_by}
use Rattle.cache_backend.specs.Steps.{Looks, outside_of, view_by, view_in}
use Rattle.cache_backend.specs.declared.sessions.Awaited.{Awaited}
use Rattle.cache_backend.specs.declared.sessions.Awaited.TheVariants.{Beneath, Records, Run}
use Rattle.cache_backend.proofs.backend.CachedBackend.hear.Goals as goal

pub hear_beneath-requires : goal.hear_beneath-requires
hear_beneath-requires g c =
    let parts = c.args.parts.now in
    let is : parts.awaited ≡ Beneath = sym c.replace.ensures.value ∙ c.in-Beneath.is in
    record {
      waits = subst (λ (a : Awaited). IsPending (pending_by g.B.Session.Sitting a parts.inner)) is c.requires.waits;
      stands = subst (λ (a : Awaited). StandsBy g.W.World g.B.Session.Sitting a parts.inner (known_under parts.searched.items)) is c.requires.kept.stands;
      beneath = c.replace.ensures.after;
      address = c.requires.kept.address;
    }

pub hear_records-requires : goal.hear_records-requires
hear_records-requires g c =
    let parts = c.args.parts.now in
    let is : parts.awaited ≡ Records c.in-Records.key = sym c.replace.ensures.value ∙ c.in-Records.is in
    record {
      waits = subst (λ (a : Awaited). IsPending (pending_by g.B.Session.Sitting a parts.inner)) is c.requires.waits;
      stands = subst (λ (a : Awaited). StandsBy g.W.World g.B.Session.Sitting a parts.inner (known_under parts.searched.items)) is c.requires.kept.stands;
      beneath = c.replace.ensures.after;
      address = c.requires.kept.address;
    }

pub give_run-requires : goal.give_run-requires
give_run-requires g c =
    let parts = c.args.parts.now in
    let is : parts.awaited ≡ Run c.in-Run.ask c.in-Run.items = sym c.replace.ensures.value ∙ c.in-Run.is in
    record {
      waits = subst (λ (a : Awaited). IsPending (pending_by g.B.Session.Sitting a parts.inner)) is c.requires.waits;
      stands = subst (λ (a : Awaited). StandsBy g.W.World g.B.Session.Sitting a parts.inner (known_under parts.searched.items)) is c.requires.kept.stands;
      beneath = c.replace.ensures.after;
      address = c.requires.kept.address;
    }

pub returns-in-Beneath : goal.returns-in-Beneath
returns-in-Beneath g c =
    let parts = c.args.parts.now in
    let is : Beneath ≡ parts.awaited = sym (sym c.replace.ensures.value ∙ c.in-Beneath.is) in
    record {
      looks = subst (λ (a : Awaited). Looks g.W.World true g.B.Watched.exact (view_by g.B.Session.Sitting a parts.inner) (view_in g.B.Session.Sitting c.hear_beneath.new.parts) (outside_of g.B.Watched c.args.self.now.inner) (outside_of g.B.Watched c.hear_beneath.new.self.inner) c.hear_beneath.result) is c.hear_beneath.ensures.looks;
      kept = c.hear_beneath.ensures.kept;
      cached = subst (λ (a : Awaited). IsCachedLook c.args.self.now.record_bytes a c.hear_beneath.new.parts.awaited (cached_of g.T.Store c.args.self.now.inner c.args.self.now.store c.args.self.now.served) (cached_of g.T.Store c.hear_beneath.new.self.inner c.hear_beneath.new.self.store c.hear_beneath.new.self.served) c.hear_beneath.result) is c.hear_beneath.ensures.cached;
      octets = c.hear_beneath.ensures.octets;
    }

pub returns-in-Records : goal.returns-in-Records
returns-in-Records g c =
    let parts = c.args.parts.now in
    let is : Records c.in-Records.key ≡ parts.awaited = sym (sym c.replace.ensures.value ∙ c.in-Records.is) in
    record {
      looks = subst (λ (a : Awaited). Looks g.W.World true g.B.Watched.exact (view_by g.B.Session.Sitting a parts.inner) (view_in g.B.Session.Sitting c.hear_records.new.parts) (outside_of g.B.Watched c.args.self.now.inner) (outside_of g.B.Watched c.hear_records.new.self.inner) c.hear_records.result) is c.hear_records.ensures.looks;
      kept = c.hear_records.ensures.kept;
      cached = subst (λ (a : Awaited). IsCachedLook c.args.self.now.record_bytes a c.hear_records.new.parts.awaited (cached_of g.T.Store c.args.self.now.inner c.args.self.now.store c.args.self.now.served) (cached_of g.T.Store c.hear_records.new.self.inner c.hear_records.new.self.store c.hear_records.new.self.served) c.hear_records.result) is c.hear_records.ensures.cached;
      octets = c.hear_records.ensures.octets;
    }

pub returns-in-Run : goal.returns-in-Run
returns-in-Run g c =
    let parts = c.args.parts.now in
    let is : Run c.in-Run.ask c.in-Run.items ≡ parts.awaited = sym (sym c.replace.ensures.value ∙ c.in-Run.is) in
    record {
      looks = subst (λ (a : Awaited). Looks g.W.World true g.B.Watched.exact (view_by g.B.Session.Sitting a parts.inner) (view_in g.B.Session.Sitting c.give_run.new.parts) (outside_of g.B.Watched c.args.self.now.inner) (outside_of g.B.Watched c.give_run.new.self.inner) c.give_run.result) is c.give_run.ensures.looks;
      kept = c.give_run.ensures.kept;
      cached = subst (λ (a : Awaited). IsCachedLook c.args.self.now.record_bytes a c.give_run.new.parts.awaited (cached_of g.T.Store c.args.self.now.inner c.args.self.now.store c.args.self.now.served) (cached_of g.T.Store c.give_run.new.self.inner c.give_run.new.self.store c.give_run.new.self.served) c.give_run.result) is c.give_run.ensures.cached;
      octets = c.give_run.ensures.octets;
    }

pub unreachable-requires : goal.unreachable-requires
unreachable-requires g c =
    let parts = c.args.parts.now in
    subst (λ (a : Awaited). IsPending (pending_by g.B.Session.Sitting a parts.inner)) (sym c.replace.ensures.value ∙ c.in-Broken.is) c.requires.waits
