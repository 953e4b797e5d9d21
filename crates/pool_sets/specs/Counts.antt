-- What a door counts (this project's own). No count falls, and each stands
-- still at the last value of 64 bits.
use Rattle.std.specs.Prelude.{ℕ, Bool, true, false, is_some, Option}
use Rattle.z_types.specs.Counts.{one_more}
use Rattle.z_types.specs.declared.key.SetKey.{SetKey}
use Rattle.pool_sets.specs.declared.doors.Taken.{Taken}
use Rattle.pool_sets.specs.declared.doors.Taken.TheVariants.{Fresh, Dial, Full}

-- how many sessions of a class it opens at most, which never changes; and how often it was full,
-- named an address to dial, and gave a session that holds no set wanted, where one was wanted
pub record DoorCounts : Type 0 where
  pub most : ℕ
  pub fulls : ℕ
  pub opens : ℕ
  pub booked : ℕ

module _ {S : Type 0} where
  abbrev pub is_full : Taken S → Bool
  is_full (Full open_) = true
  is_full answer = false

  abbrev pub is_dial : Taken S → Bool
  is_dial (Dial seat member) = true
  is_dial answer = false

  -- a session was given that holds no set wanted, where one was wanted
  abbrev pub is_booked : Option SetKey → Taken S → Bool
  is_booked want (Fresh seat p) = is_some want
  is_booked want (Dial seat member) = is_some want
  is_booked want answer = false

  -- the counts after a take
  abbrev pub after_take : Option SetKey → Taken S → DoorCounts → DoorCounts
  after_take want answer old = record {
    most = old.most;
    fulls = one_more (is_full answer) old.fulls;
    opens = one_more (is_dial answer) old.opens;
    booked = one_more (is_booked want answer) old.booked;
  }

-- an address is named at each redial
abbrev pub after_redial : DoorCounts → DoorCounts
after_redial old = record old { opens = one_more true old.opens }
