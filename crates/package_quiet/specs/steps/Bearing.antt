-- What a leg bears that it is not marked for (this project's own): sets that are found deleted as
-- often as the pool repeats at most, replies that come within its patience, and links that are cut
-- of sessions that the pool gave
use Rattle.std.specs.Prelude.{◌≡◌, ℕ, ◌+◌, ◌-◌, ◌^◌, ◌<◌, ◌≤◌, Bool, true, false, List, [], ◌∷◌, Option}
use Rattle.std.specs.List.{AllByRecursion}
use Rattle.z_types.specs.Links.{LinkView}
use Rattle.z_types.specs.Pending.{Pending, resting, opening, asked, broken}
use Rattle.z_types.specs.declared.address.Address.{Address}
use Rattle.z_types.specs.declared.ask.Ask.{Ask}
use Rattle.z_types.specs.declared.ask.Ask.TheVariants.{Search}
use Rattle.z_types.specs.declared.sitting.Sitting as sitting
use Rattle.z_types.specs.declared.world.World as world
use Rattle.gw_outside.specs.Counts.{Counts}
use Rattle.gw_outside.specs.Happened.{Happened, at_address, is_cut}
use Rattle.gw_outside.specs.Sessions.{Made}
use Rattle.gw_outside.specs.Steady.{IsPresent, is_good}
use Rattle.gw_outside.specs.declared.happenings.Happening.{Happening}
use Rattle.pool_sets.specs.Kept.{slot_name}
use Rattle.pool_sets.specs.Plain.{Pool}
use Rattle.route_config.specs.declared.route.PoolNumbers.{PoolNumbers}
use Rattle.route_config.specs.declared.route.Route.{Route}
use Rattle.package.specs.leg.Deeds.{BackendView}
use Rattle.package.specs.leg.LegView.{LegView}
use Rattle.package.specs.leg.Terms.{Terms, opened_at, terms_of}
use Rattle.package.specs.leg.declared.accounts.Account.{Account}
use Rattle.package.specs.leg.declared.phases.Held.{Held}
use Rattle.package.specs.leg.declared.phases.Phase.{Phase}
use Rattle.package.specs.leg.declared.phases.Phase.TheVariants.{Begin, Dialling, Dialled, Ready, Searching, Presenting, Fetching, Scanning, Returning, Redialling}
use Rattle.package_quiet.specs.steps.Whole.{AreIdle, IsScan, IsSearchUnder, will_stand}

-- ---- what was made to happen

module _ (pool : PoolNumbers) where
  -- to the links with a target: no more Presents find their sets deleted than the pool repeats, and
  -- replies come within its patience
  pub record IsBearable (happening : Happening) : Type 0 where
    pub presents : happening.presents ≤ pool.repeats
    pub delay : happening.delay < pool.patience

  -- to those with any, and nothing else does
  pub record AreBearable (h : Happened) : Type 0 where
    pub steady : h.steady ≡ true
    pub each : (target : ℕ) → IsBearable (h.of_target target)

-- links are cut once they were made: none has a number above the count of those that were
abbrev pub AreCutOnceMade : BackendView → Type 0
AreCutOnceMade backend =
    (target : ℕ) → (backend.happened.of_target target).cut ≤ backend.counts.dials

-- no link is cut
abbrev pub NoneIsCut : Happened → Type 0
NoneIsCut h = (target : ℕ) → (h.of_target target).cut ≡ 0

-- links that are made go on to be counted: their count is below its last value, at which it would
-- stand still
abbrev pub DialsGoOn : Counts → Type 0
DialsGoOn counts = counts.dials < 2 ^ 64 - 1

-- no worse becomes of links: the same are cut, and no more Presents find their sets deleted
pub record AreNoWorse (old new : Happened) : Type 0 where
  pub presents : (target : ℕ) → (new.of_target target).presents ≤ (old.of_target target).presents
  pub cut : (target : ℕ) → (new.of_target target).cut ≡ (old.of_target target).cut

-- ---- a session

module _ (pool : PoolNumbers) where
  -- one reply is owed, and comes within the patience, of which some looks are spent
  abbrev pub ComesInTime : (looks : ℕ) → List ℕ → Type 0
  ComesInTime looks [] = ⊥
  ComesInTime looks (delay ∷ []) = looks + delay < pool.patience
  ComesInTime looks (delay ∷ second ∷ others) = ⊥

  -- so does the one that is awaited, and no other is owed
  abbrev pub RepliesInTime : Pending → (looks : ℕ) → List ℕ → Type 0
  RepliesInTime resting looks delays = delays ≡ []
  RepliesInTime opening looks delays = ComesInTime looks delays
  RepliesInTime (asked ask) looks delays = ComesInTime looks delays
  RepliesInTime broken looks delays = ⊥

module _ {W : Type 0} (w : world.Ghosts W) (pool : PoolNumbers) (address : Address) where
  -- the target holds the set of a search that is awaited, where the world finds it
  abbrev pub HoldsFound : Pending → (List ℕ → Bool) → Type 0
  HoldsFound (asked (Search name key)) holds =
      is_good (w.search address key) ≡ true → holds name ≡ true
  HoldsFound waits holds = Unit {0}

  -- a session at an address, by what it waits for, after how many looks in vain, by what it made,
  -- and by its link: all that it made is held where no set is ever deleted
  pub record FaresAs (pending : Pending) (looks : ℕ) (made : Made) (link : LinkView) : Type 0 where
    pub told : w.told address
    pub linked : 1 ≤ link.number
    pub replies : RepliesInTime pool pending looks link.delays
    pub found : HoldsFound pending link.holds
    pub holds : pool.repeats ≡ 0 → (name : List ℕ) → will_stand w address pending made name ≡ true
        → link.holds name ≡ true

module _ {W S : Type 0} (w : world.Ghosts W) (t : sitting.Ghosts S W) (pool : PoolNumbers) where
  -- a session fares so, and waits for this
  pub record FaresAt (pending : Pending) (looks : ℕ) (session : S) : Type 0 where
    pub fares : FaresAs w pool (t.address session) pending looks (t.made session) (t.link session)
    pub waits : t.pending session ≡ pending

  -- nothing is made to happen that a leg does not bear; links are cut once they were made, and none
  -- where sessions keep records: an answer of what is kept tells nothing of a link; and the
  -- sessions of the pool that are idle fare so at rest
  pub record IsBorneBy (sessions : Option (Pool S)) (backend : BackendView) : Type 0 where
    pub bearable : AreBearable pool backend.happened
    pub cut : AreCutOnceMade backend
    pub uncut : t.keeps ≡ true → NoneIsCut backend.happened
    pub idle : AreIdle (FaresAt resting 0) sessions

-- ---- a leg

module _ {W S : Type 0} (t : sitting.Ghosts S W) (h : Happened) where
  -- how many Presents are to find their sets deleted at the target of a session
  abbrev pub presents_at : S → ℕ
  presents_at session = (at_address h (t.address session)).presents

  -- whether its link is cut
  abbrev pub is_cut_at : S → Bool
  is_cut_at session = is_cut (at_address h (t.address session)) (t.link session).number

module _ {W S : Type 0} (w : world.Ghosts W) (t : sitting.Ghosts S W) (terms : Terms)
    (h : Happened) where
  -- the session of a leg that counted some sets that were gone: one that the pool gave, and that
  -- has not replied, may be cut, and no set was gone yet; and no more will be than the pool repeats
  pub record IsBorneAt (pending : Pending) (looks : ℕ) (held : Held S) (gones : ℕ) : Type 0 where
    pub at : FaresAt w t terms.pool pending looks held.parts.session
    pub uncut : held.given ≡ false → is_cut_at t h held.parts.session ≡ false
    pub first : held.given ≡ true → gones ≡ 0
    pub few_gone : gones + presents_at t h held.parts.session ≤ terms.pool.repeats

  -- that waits for the reply to such an ask
  pub record IsBorneAsked (IsSo : Ask → Type 0) (looks : ℕ) (held : Held S)
      (gones : ℕ) : Type 0 where
    pub ask : Ask
    pub at : IsBorneAt (asked ask) looks held gones
    pub is_so : IsSo ask

  -- the set under a slot may be missing where one more may be gone
  abbrev pub MayMiss : (slot : ℕ) → S → (gones : ℕ) → Type 0
  MayMiss slot session gones =
      (t.link session).holds (slot_name slot) ≡ false → gones < terms.pool.repeats

  -- so may a reply say that it is gone
  abbrev pub MayBeGone : S → (gones : ℕ) → Type 0
  MayBeGone session gones =
      (t.link session).gone ≡ true → gones + presents_at t h session < terms.pool.repeats

  -- by where the leg stands
  abbrev pub IsBorneIn : Phase S → (gones : ℕ) → Type 0
  IsBorneIn Begin gones = gones ≡ 0
  IsBorneIn (Dialling seat member) gones = w.told (opened_at terms member) × (gones ≡ 0)
  IsBorneIn (Dialled held looks) gones = IsBorneAt opening looks held gones
  IsBorneIn (Ready held items) gones = IsBorneAt resting 0 held gones
  IsBorneIn (Searching held items slot looks) gones =
      IsBorneAsked (IsSearchUnder slot) looks held gones
  IsBorneIn (Presenting held items slot hits) gones =
      IsBorneAt resting 0 held gones × MayMiss slot held.parts.session gones
  IsBorneIn (Fetching held items slot hits looks) gones =
      IsBorneAsked IsPresent looks held gones × MayMiss slot held.parts.session gones
      × MayBeGone held.parts.session gones
  IsBorneIn (Scanning held looks) gones = IsBorneAsked IsScan looks held gones
  IsBorneIn (Returning held answer) gones = FaresAt w t terms.pool resting 0 held.parts.session
  IsBorneIn (Redialling seat) gones = gones ≡ 0
  IsBorneIn phase gones = Unit {0}

-- an account has no cause of a mark but perhaps a full door: no call failed that is not tried
-- again, fewer looks were in vain on one ask than the pool is patient, and no more sets were gone
-- than it repeats
pub record HasBorne (pool : PoolNumbers) (account : Account) : Type 0 where
  pub unfailing : account.spent ≡ 0
  pub few_looks : account.looks < pool.patience
  pub few_gone : account.gones ≤ pool.repeats

module _ {W S : Type 0} (w : world.Ghosts W) (t : sitting.Ghosts S W) where
  -- a leg with such an account, that bears what was made to happen
  pub record BearsAt (terms : Terms) (h : Happened) (phase : Phase S)
      (account : Account) : Type 0 where
    pub stands : IsBorneIn w t terms h phase account.gones
    pub borne : HasBorne terms.pool account

  abbrev pub LegBears : Route → Happened → LegView S → Type 0
  LegBears route h leg = BearsAt (terms_of route leg.login leg.leg) h leg.phase leg.account

  -- all legs do
  abbrev pub AllBear : Route → Happened → List (LegView S) → Type 0
  AllBear route h legs = AllByRecursion (LegBears route h) legs

-- ---- what a turn leaves

module _ {W S : Type 0} (w : world.Ghosts W) (t : sitting.Ghosts S W) (pool : PoolNumbers) where
  -- no more befalls links than before, and the sessions of the pool that are idle fare on
  pub record BearsOn (after : Option (Pool S)) (backend moved : BackendView) : Type 0 where
    pub borne : IsBorneBy w t pool after moved
    pub worse : AreNoWorse backend.happened moved.happened
