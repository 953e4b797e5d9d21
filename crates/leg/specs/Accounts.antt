-- What a leg counts (this project's own)
use Rattle.std.specs.Prelude.{ℕ, ◌+◌, ◌≤◌, max, Bool, true, false, not, ◌&&◌}
use Rattle.gw_outside.specs.Counts.{Counted}
use Rattle.leg.specs.declared.accounts.Account.{Account}
use Rattle.leg.specs.declared.accounts.Rises.{Rises}

-- one more, where it counts
abbrev pub more : Bool → ℕ → ℕ
more true n = n + 1
more false n = n

-- nothing was counted
abbrev pub no_account : Account
no_account = record {
  class = 0;
  dials = 0;
  searches = 0;
  gones = 0;
  faults = 0;
  spent = 0;
  fulls = 0;
  booked = 0;
  opens = 0;
  looks = 0;
}

-- no count rises
abbrev pub no_rises : Rises
no_rises = record {
  dials = false;
  searches = false;
  gones = false;
  faults = false;
  fulls = false;
  opens = false;
  booked = false;
}

-- what a call counts of its backend
abbrev pub rises_by : Counted → Rises
rises_by call =
    record no_rises
    { dials = call.dial; searches = call.search; gones = call.gone; faults = call.fault }

-- the account after a turn for a class: each count rises where that of the backend or the door did;
-- a fault is spent where the session did not come from the pool, or had replied; `looks` have heard
-- nothing of the ask now
abbrev pub counted : (class : ℕ) → Rises → (given : Bool) → (looks : ℕ) → Account → Account
counted class rises given looks a = record {
  class = class;
  dials = more rises.dials a.dials;
  searches = more rises.searches a.searches;
  gones = more rises.gones a.gones;
  faults = more rises.faults a.faults;
  spent = more (rises.faults && not given) a.spent;
  fulls = more rises.fulls a.fulls;
  booked = more rises.booked a.booked;
  opens = more rises.opens a.opens;
  looks = max a.looks looks;
}

-- what every account keeps, whatever its door and its backend answer: each search was booked, or
-- followed a Gone or a fault; each address that was named was dialled, or failed, or is due; one
-- address at most is named and dialled, two calls at most fail, and one session at most is taken
pub record AccountFits (a : Account) : Type 0 where
  pub searches : a.searches ≤ a.booked + a.gones + a.faults
  pub opens : a.opens ≤ a.dials + a.faults + 1
  pub dials : a.dials ≤ a.opens
  pub one_open : a.opens ≤ 1
  pub two_faults : a.faults ≤ 2
  pub spent : a.spent ≤ a.faults
  pub one_full : a.fulls ≤ 1
  pub one_booked : a.booked ≤ 1
