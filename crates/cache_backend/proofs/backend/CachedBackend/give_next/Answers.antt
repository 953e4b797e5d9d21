use Rattle.std.proofs.Common.{◌≡◌, ◌∙◌, true, ap, refl}
use Rattle.cache_backend.specs.declared.sessions.Awaited.{Awaited}
use Rattle.cache_backend.specs.declared.sessions.Awaited.TheVariants.{Run}
use Rattle.cache_backend.specs.Known.{known_under}
use Rattle.cache_backend.specs.Steps.{outside_of}
use Rattle.cache_backend.proofs.PresentLemmas.{run_stands}
use Rattle.cache_backend.proofs.StandLemmas.{lacks_stands}
use Rattle.cache_backend.proofs.ViewLemmas.{lacks_at, runs_at}
use Rattle.cache_backend.proofs.backend.CachedBackend.give_next.Goals as goal

pub returns-in_default : goal.returns-in_default
returns-in_default g c = record {
  starts = lacks_at g.W.World g.B.Session.Sitting true g.B.Watched.exact c.args.parts.now.awaited c.break_off.new.awaited c.args.parts.now.inner c.args.ask.now
      (outside_of g.B.Watched c.args.self.now.inner) c.requires.beneath c.break_off.ensures;
  kept = record {
    address = c.requires.kept.address;
    stands = lacks_stands g.W.World g.B.Session.Sitting c.break_off.new.awaited c.args.parts.now.inner (known_under c.args.parts.now.searched.items) c.break_off.ensures;
  };
  given = refl;
  entries = refl;
  octets = refl;
}

pub returns : goal.returns
returns g c =
    let run = c.requires.run in
    let parts = c.args.parts.now in
    let is : c.wait_for.new.awaited ≡ Run c.args.ask.now c.args.items = c.wait_for.ensures ∙ c.in-Ok.ensures in
    record {
      starts =
          runs_at g.W.World g.B.Session.Sitting true g.B.Watched.exact parts.awaited c.wait_for.new.awaited c.args.ask.now
          run.name run.key.position run.count run.key.syntax run.key.element c.args.items parts.inner
          (outside_of g.B.Watched c.args.self.now.inner) c.requires.beneath is run.asks;
      kept = record {
        address = c.requires.kept.address;
        stands = run_stands g.W.World g.B.Session.Sitting parts c.args.ask.now c.args.items c.wait_for.new.awaited run c.requires.beneath c.requires.kept is;
      };
      given = (refl {a = c.args.self.now.inner}, c.saturating_add-self.ensures, ap (λ (a : Awaited). record parts { awaited = a }) is);
      entries = refl;
      octets = refl;
    }
