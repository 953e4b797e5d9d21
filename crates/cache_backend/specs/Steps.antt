-- How a session goes on, whatever is beneath it (this project's own): what a backend says of an ask
-- and of a look, of how the session is seen
use Rattle.std.specs.Prelude.{◌≡◌, ℕ, Bool, true, List}
use Rattle.z_types.specs.Links.{LinkView}
use Rattle.z_types.specs.Pending.{Pending}
use Rattle.z_types.specs.declared.address.Address.{Address}
use Rattle.z_types.specs.declared.ask.Ask.{Ask}
use Rattle.z_types.specs.declared.sitting.Sitting as sitting
use Rattle.z_types.specs.declared.world.World as world
use Rattle.gw_outside.specs.Counts.{Counts, BackendCounts}
use Rattle.gw_outside.specs.Happened.{Happened, AreLess, AreSame}
use Rattle.gw_outside.specs.Sessions.{Made, Fits, IsWorlds, LookCounts, made_after, pending_after, pending_from, start_counted}
use Rattle.gw_outside.specs.Steady.{AsksSteadily, LooksSteadily}
use Rattle.gw_outside.specs.declared.backends.Began.{Began}
use Rattle.gw_outside.specs.declared.backends.Heard.{Heard}
use Rattle.gw_outside.specs.declared.watched.Watched as watched
use Rattle.cache_backend.specs.declared.sessions.Awaited.{Awaited}
use Rattle.cache_backend.specs.declared.sessions.CachedParts.{CachedParts}
use Rattle.cache_backend.specs.Sessions.{link_by, pending_by}

-- a session, as proofs see it
pub record SessionView : Type 0 where
  pub address : Address
  pub made : Made
  pub pending : Pending
  pub link : LinkView

-- a backend, as proofs see it
pub record Outside : Type 0 where
  pub counts : Counts
  pub happened : Happened

abbrev pub outside_of : {B : Type 0} → watched.Ghosts B → B → Outside
outside_of b backend = record { counts = b.counts backend; happened = b.happened backend }

module _ {W S : Type 0} (t : sitting.Ghosts S W) where
  abbrev pub view_of : S → SessionView
  view_of s =
      record { address = t.address s; made = t.made s; pending = t.pending s; link = t.link s }

  abbrev pub view_by : Awaited → S → SessionView
  view_by awaited s = record {
    address = t.address s;
    made = t.made s;
    pending = pending_by t awaited s;
    link = link_by t awaited s;
  }

  abbrev pub view_in : CachedParts S → SessionView
  view_in p = view_by p.awaited p.inner

module _ {W : Type 0} (w : world.Ghosts W) (keeps exact : Bool) where
  -- a session was asked
  pub record Starts (ask : Ask) (old new : SessionView) (before after : Outside)
      (answer : Began) : Type 0 where
    pub pending : new.pending ≡ pending_from ask answer
    pub address : new.address ≡ old.address
    pub made : (name : List ℕ) → new.made name ≡ old.made name
    pub happened : AreLess before.happened after.happened
    pub steady : w.told old.address → before.happened.steady ≡ true
        → AsksSteadily w keeps old.address ask old.link new.link before.happened after.happened
        answer
    pub counts : BackendCounts exact (Unit {0}) (start_counted ask answer) before.counts
        after.counts

  -- a session was looked at
  pub record Looks (old new : SessionView) (before after : Outside) (answer : Heard) : Type 0 where
    pub fits : Fits old.pending answer
    pub worlds : w.told old.address → IsWorlds w old.address old.made old.pending answer
    pub pending : new.pending ≡ pending_after old.pending answer
    pub made : (name : List ℕ) → new.made name ≡ made_after old.pending answer old.made name
    pub address : new.address ≡ old.address
    pub happened : AreSame before.happened after.happened
    pub steady : w.told old.address → before.happened.steady ≡ true
        → LooksSteadily keeps old.address before.happened old.link new.link answer
    pub counts : LookCounts exact (w.told old.address) answer before.counts after.counts
