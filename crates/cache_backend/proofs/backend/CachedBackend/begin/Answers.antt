use Rattle.std.proofs.Common.{subst, sym}
use Rattle.z_types.specs.declared.ask.Ask.{Ask}
use Rattle.cache_backend.specs.Sessions.{IsScan}
use Rattle.cache_backend.proofs.backend.CachedBackend.begin.Goals as goal

pub scan-requires : goal.scan-requires
scan-requires g c = record {
  asks = subst (λ (a : Ask). IsScan a) (sym c.in-Scan.is) tt;
  may = c.requires.may;
  beneath = c.requires.beneath;
  rests = c.requires.rests;
  kept = c.requires.kept;
}
