-- What is told of sessions that stood as they were left while the pool expired (this project's own)
use Rattle.std.specs.Prelude.{◌≡◌, ◌≢◌, ℕ, ◌≤◌, ◌<◌, ◌-◌, ◌^◌, nat_lt, if◌then◌else◌, List, [], map, All, Contains}
use Rattle.z_types.specs.declared.key.SetKey.{SetKey}
use Rattle.z_types.specs.declared.address.Address.{Address}
use Rattle.pool_sets.specs.declared.pooled.Parts.{Parts}
use Rattle.pool_sets.specs.declared.sessions.Stand.{Stand}
use Rattle.pool_sets.specs.declared.sessions.Stand.TheVariants.{Idle, Out}
use Rattle.pool_sets.specs.Table.{Entry}
use Rattle.pool_sets.specs.Sessions.{Session}
use Rattle.pool_sets.specs.Plain.{Ascends, with_fresh_sets}
use Rattle.pool_keys.specs.declared.index.Pair.{Pair}
use Rattle.pool_keys.specs.Pairs.{Indexed, Holds, pair}
use Rattle.pool_keys.specs.Digests.{Sharers}
use Rattle.pool_roster.specs.declared.berth.Berth.{Berth}
use Rattle.pool_roster.specs.declared.berth.Expiries.{Expiries}

-- the digest of a key of who shares it
abbrev pub digest_by : (Sharers → ℕ) → (ℕ → SetKey → ℕ) → Sharers → SetKey → ℕ
digest_by own digest sharers = digest (own sharers)

-- each set is found under its digest
abbrev pub AreListed : (SetKey → ℕ) → Indexed → ℕ → List Entry → Type 0
AreListed digest index number es = All (λ e. Holds index (pair (digest e.key) number)) es

-- the pair of each set is there
abbrev pub AreGathered : (SetKey → ℕ) → List Pair → ℕ → List Entry → Type 0
AreGathered digest pairs number es = All (λ e. Contains pairs (pair (digest e.key) number)) es

-- no set has that digest
abbrev pub LacksDigest : (SetKey → ℕ) → ℕ → List Entry → Type 0
LacksDigest digest wanted es = All (λ e. digest e.key ≢ wanted) es

-- what is there stays there
abbrev pub Gains : List Pair → List Pair → Type 0
Gains old new = (p : Pair) → Contains old p → Contains new p

-- a moment not before the last, at which no session expires that is idle since the oldest or later,
-- and another after it
pub record IsQuiet (x : Expiries) (oldest now ttl : ℕ) : Type 0 where
  pub forward : x.last ≤ now
  pub more : x.count < 2 ^ 64 - 1
  pub young : now - oldest < ttl

module _ {S : Type 0} where
  -- who may share a session: its class and its login
  abbrev pub sharers_of : Session S → Sharers
  sharers_of o = (o.class, o.login)

  -- a session is told as it was left; where the pool expired since then, as it is after the last
  -- time
  abbrev pub seen : Expiries → ℕ → Berth (Session S) → Session S
  seen x ttl b = if nat_lt b.stamp x.count then with_fresh_sets x.last ttl b.session else b.session

  abbrev pub told : Expiries → ℕ → List (Berth (Session S)) → List (Session S)
  told x ttl bs = map (seen x ttl) bs

  -- a session, left as it is told
  abbrev pub settled : Expiries → ℕ → ℕ → Berth (Session S) → Berth (Session S)
  settled x ttl stamp b = record { session = seen x ttl b; stamp = stamp }

  -- an idle session was put back at a moment or later
  abbrev pub StandSince : ℕ → Stand (Parts S) Address → Type 0
  StandSince oldest (Idle parts since) = oldest ≤ since
  StandSince oldest (Out address) = Unit {0}

  -- the sets of an idle session, as it was left
  abbrev pub sets_of : Stand (Parts S) Address → List Entry
  sets_of (Idle parts since) = parts.table.entries
  sets_of (Out address) = []

  -- the sets of a session are found, where it is idle
  abbrev pub IsListed : (Sharers → SetKey → ℕ) → Indexed → Berth (Session S) → Type 0
  IsListed digest index b =
      AreListed (digest (sharers_of b.session)) index b.session.number (sets_of b.session.stand)

  -- no idle session of a pair's number has a set of its digest
  abbrev pub IsSpent : (Sharers → SetKey → ℕ) → Pair → List (Berth (Session S)) → Type 0
  IsSpent digest one bs =
      All (λ b. b.session.number ≡ one.number →
      LacksDigest (digest (sharers_of b.session)) one.digest (sets_of b.session.stand)) bs

  -- a session that was left no later than the last expiry, not before that moment where it is idle,
  -- and whose sets are found
  pub record IsBerth (digest : Sharers → SetKey → ℕ) (index : Indexed) (count oldest : ℕ)
      (b : Berth (Session S)) : Type 0 where
    pub stamped : b.stamp ≤ count
    pub since : StandSince oldest b.session.stand
    pub listed : IsListed digest index b

  -- sessions in the order of their numbers, each of them such
  pub record IsRoster (digest : Sharers → SetKey → ℕ) (index : Indexed) (x : Expiries)
      (oldest ttl : ℕ) (bs : List (Berth (Session S))) : Type 0 where
    pub ascends : Ascends 0 (2 ^ 64 - 1) (told x ttl bs)
    pub each : All (IsBerth digest index x.count oldest) bs
