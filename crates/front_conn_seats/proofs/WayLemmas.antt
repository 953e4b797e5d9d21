-- What a connection's calls do is among what it goes through
use Rattle.std.proofs.Common.{Bool, inl, inr, refl}
use Rattle.z_types.specs.declared.sitting.Sitting as sitting
use Rattle.z_types.specs.declared.world.World as world
use Rattle.route_config.specs.declared.route.Route.{Route}
use Rattle.front_conn_seats.specs.steps.Through.{Point}
use Rattle.front_conn_seats.specs.steps.Ways.{AreWays, GoesOnFrom}
use Rattle.z_types.proofs.ChainLemmas.{ends-there, goes-further}

module _ {W S : Type 0} (w : world.Ghosts W) (t : sitting.Ghosts S W) (exact : Bool) (route : Route) (point : Point S) where
  pub calls-are-ways : AreWays w t exact route point
  calls-are-ways = record {
    step = λ now new pool answer before behind told told_then of stepped. inl (record {
      now = now;
      answer = answer;
      before = before;
      behind = behind;
      told = told;
      told_then = told_then;
      of = of;
      stepped = stepped;
      others = refl;
    });
    feed = λ piece. inr (inl (record { piece = piece; then = refl }));
    end_input = inr (inr (inl refl));
    clear_out = inr (inr (inr refl));
    alone = λ next goes. inl goes;
    among = λ pool others parted. inr (record { state = refl; parted = parted });
  }

module _ {S : Type 0} (Goes : (old new : Point S) → Type 0) where
  pub ways-go-on : (start : Point S) → GoesOnFrom Goes start
  ways-go-on start = record { stays = tt; here = refl; further = goes-further Goes start; there = ends-there start }
