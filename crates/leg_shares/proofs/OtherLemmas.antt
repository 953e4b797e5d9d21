-- What others do with sessions that are not its own leaves a leg where it stands
use Rattle.std.proofs.Common.{◌∙◌, ℕ, inl, inr, List, sym, subst, arith}
use Rattle.z_types.specs.declared.sitting.Sitting as sitting
use Rattle.z_types.specs.declared.world.World as world
use Rattle.route_config.specs.declared.route.Route.{Route}
use Rattle.pool_sets.specs.Plain.{Pool}
use Rattle.pool_sets.specs.Sessions.{Session}
use Rattle.pool_sets.specs.declared.doors.Seat.{Seat}
use Rattle.leg.specs.Tasks.{want_of}
use Rattle.leg.specs.Terms.{members_of}
use Rattle.leg.specs.declared.accounts.Account.{Account}
use Rattle.leg.specs.declared.phases.Held.{Held}
use Rattle.leg.specs.declared.phases.Phase.{Phase}
use Rattle.leg.specs.declared.phases.Phase.TheVariants.{Begin, Dialling, Dialled, Ready, Searching, Presenting, Fetching, Scanning, Returning, Losing, Redialling, Spoiled, Done, Ended}
use Rattle.leg.specs.declared.tasks.Task.{Task}
use Rattle.sharing_rules.specs.Sharers.{Sharers}
use Rattle.sharing_rules.specs.Uses.{Use}
use Rattle.sharing_rules.specs.steps.Shared.{AreKept, IsLent, shared_by}
use Rattle.sharing_rules.proofs.PoolUses.{kept_expired, theirs_expire}
use Rattle.sharing_rules.proofs.PutUses.{lent_stays}
use Rattle.leg_shares.specs.steps.Pools.{StayOrExpire}
use Rattle.leg_shares.specs.steps.Sharing.{IsBeforeUse, IsKeptBehind, IsOutBehind, Shares, StandsBy, with_use}

-- a session that is out stays so
lent-on : {S : Type 0} (route : Route) (who : Sharers) (now : ℕ) (seat : Seat) (os ps : List (Session S))
    → StayOrExpire route now (shared_by who os) (shared_by who ps) → IsLent who seat os → IsLent who seat ps
lent-on route who now seat os ps (inl e) lent = (lent.0, e ∙ lent.1, lent.2)
lent-on route who now seat os ps (inr e) lent =
    let stays = lent_stays who seat now route.pool.session_ttl route.pool.set_ttl os lent in
    (stays.0, e ∙ sym (theirs_expire who now route.pool.session_ttl route.pool.set_ttl os) ∙ stays.1, stays.2)

module _ {W S : Type 0} (w : world.Ghosts W) (route : Route) (who : Sharers) (now : ℕ) (old new : Pool S) where
  -- and what is kept is kept
  pub kept-on : (uses : List Use) → StayOrExpire route now (shared_by who old.sessions) (shared_by who new.sessions)
      → IsKeptBehind w route who now uses old → IsKeptBehind w route who now uses new
  kept-on uses (inl e) kept = subst (λ (os : List (Session S)). AreKept w route who (members_of route who.class) now uses os) (sym e) kept
  kept-on uses (inr e) kept =
      subst (λ (os : List (Session S)). AreKept w route who (members_of route who.class) now uses os) (sym e)
      (kept_expired w route who (members_of route who.class) now now uses (shared_by who old.sessions) kept (omega arith))

  out-on : (uses : List Use) (held : Held S) → StayOrExpire route now (shared_by who old.sessions) (shared_by who new.sessions)
      → IsOutBehind w route who now uses held old → IsOutBehind w route who now uses held new
  out-on uses held stay out = record {
    own = out.own;
    out = lent-on route who now held.seat old.sessions new.sessions stay out.out;
    among = out.among;
    inside_ = out.inside_;
    holds = out.holds;
  }

module _ {W S : Type 0} (w : world.Ghosts W) (t : sitting.Ghosts S W) (route : Route) (who : Sharers) (now : ℕ) (before : List Use) (old new : Pool S)
    (stay : StayOrExpire route now (shared_by who old.sessions) (shared_by who new.sessions)) where
  before-on : (task : Task) (held : Held S) → IsBeforeUse w t route who now before (want_of task) held old
      → IsBeforeUse w t route who now before (want_of task) held new
  before-on task held is = record {
    out = out-on w route who now old new before held stay is.out;
    address = is.address;
    lacks = is.lacks;
    search = is.search;
  }

  stands-on : (task : Task) (phase : Phase S) → StandsBy w t route who now before task phase old
      → StandsBy w t route who now before task phase new
  stands-on task Begin is = kept-on w route who now old new before stay is
  stands-on task (Dialling seat member) is = record {
    own = is.own;
    out = lent-on route who now seat old.sessions new.sessions stay is.out;
    place = is.place;
    holds = is.holds;
    dial = is.dial;
    search = is.search;
  }
  stands-on task (Dialled held looks) is = (before-on task held is.0, is.1)
  stands-on task (Ready held items) is = before-on task held is
  stands-on task (Searching held items slot looks) is = record { session = before-on task held is.session; free = is.free; awaits = is.awaits }
  stands-on task (Presenting held items slot hits) is = out-on w route who now old new (with_use who now before task) held stay is
  stands-on task (Fetching held items slot hits looks) is = (out-on w route who now old new (with_use who now before task) held stay is.0, is.1)
  stands-on task (Scanning held looks) is = (out-on w route who now old new (with_use who now before task) held stay is.0, is.1)
  stands-on task (Returning held answer) is = out-on w route who now old new (with_use who now before task) held stay is
  stands-on task (Losing seat answer) is = is
  stands-on task (Redialling seat) is = is
  stands-on task (Spoiled seat) is = is
  stands-on task (Done answer) is = kept-on w route who now old new (with_use who now before task) stay is
  stands-on task Ended is = is

  pub shares-on : (task : Task) (phase : Phase S) (account : Account) → Shares w t route who now before task phase account old
      → Shares w t route who now before task phase account new
  shares-on task phase account is = record { stands = stands-on task phase is.stands; dials = is.dials; searches = is.searches }
