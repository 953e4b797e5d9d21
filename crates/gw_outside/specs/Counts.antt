-- What wires count, and sessions with targets over them (this project's own). No count falls, and
-- each stands still at the last value of 64 bits.
use Rattle.std.specs.Prelude.{◌≡◌, ℕ, ◌≤◌, Bool, true, false}
use Rattle.z_types.specs.Counts.{Rose, one_more}

-- the counts: calls that failed; of these, replies that were none to what was asked, of which a
-- wire counts none; looks that found nothing; links that were made; Searches that were sent;
-- replies to Presents that said that the result set is gone
pub record Counts : Type 0 where
  pub faults : ℕ
  pub breaches : ℕ
  pub waits : ℕ
  pub dials : ℕ
  pub searches : ℕ
  pub gones : ℕ

-- nothing was counted yet
abbrev pub no_counts : Counts
no_counts = record { faults = 0; breaches = 0; waits = 0; dials = 0; searches = 0; gones = 0 }

-- which of them a call counts
pub record Counted : Type 0 where
  pub fault : Bool
  pub wait : Bool
  pub dial : Bool
  pub search : Bool
  pub gone : Bool

abbrev pub nothing : Counted
nothing = record { fault = false; wait = false; dial = false; search = false; gone = false }

-- the counts after a call
abbrev pub after : Counted → Counts → Counts
after call old = record {
  faults = one_more call.fault old.faults;
  breaches = old.breaches;
  waits = one_more call.wait old.waits;
  dials = one_more call.dial old.dials;
  searches = one_more call.search old.searches;
  gones = one_more call.gone old.gones;
}

-- a wire counts a call: each look in vain and at least each failure; where it is exact that is all,
-- and the rest as well
pub record WireCounts (exact : Bool) (call : Counted) (old new : Counts) : Type 0 where
  pub waits : new.waits ≡ one_more call.wait old.waits
  pub faults : old.faults ≤ new.faults
  pub failed : call.fault ≡ true → Rose old.faults new.faults
  pub exactly : exact ≡ true → new ≡ after call old

-- sessions with targets count a call: all but the faults exactly, and where they are exact these
-- too; a breach is a fault, and none comes of a target that is told
pub record BackendCounts (exact : Bool) (told : Type 0) (call : Counted)
    (old new : Counts) : Type 0 where
  pub others : new ≡ record (after call old) { faults = new.faults; breaches = new.breaches }
  pub faults : old.faults ≤ new.faults
  pub failed : call.fault ≡ true → Rose old.faults new.faults
  pub exactly : exact ≡ true → new.faults ≡ one_more call.fault old.faults
  pub breaches : old.breaches ≤ new.breaches
  pub breach : call.fault ≡ false → new.breaches ≡ old.breaches
  pub no_breach : told → new.breaches ≡ old.breaches
