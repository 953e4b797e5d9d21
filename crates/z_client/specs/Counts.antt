-- What a backend over a wire counts (this project's own). Where the wire is exact its dials, waits,
-- searches and gones are the wire's own numbers, so that the rises of a backend's counts are the
-- rises of its wire's.
use Rattle.std.specs.Prelude.{◌+◌, ◌-◌, ◌^◌, min, Bool, true, false}
use Rattle.z_types.specs.Counts.{one_more}
use Rattle.gw_outside.specs.Counts.{Counts, Counted}
use Rattle.z_client.specs.declared.own.Own.{Own}

-- by what the wire counts and what the backend does: each breach is a fault beside the wire's
abbrev pub counts_over : Bool → Counts → Own → Counts
counts_over true wire own =
    record wire { faults = min (wire.faults + own.breaches) (2 ^ 64 - 1); breaches = own.breaches }
counts_over false wire own = record {
  faults = min (wire.faults + own.breaches) (2 ^ 64 - 1);
  breaches = own.breaches;
  waits = wire.waits;
  dials = own.dials;
  searches = own.searches;
  gones = own.gones;
}

-- what a backend itself has counted after a call; a breach apart
abbrev pub own_after : Counted → Own → Own
own_after call old = record old {
  dials = one_more call.dial old.dials;
  searches = one_more call.search old.searches;
  gones = one_more call.gone old.gones;
}

-- what a backend itself has counted after a breach
abbrev pub after_breach : Own → Own
after_breach old = record old { breaches = one_more true old.breaches }
