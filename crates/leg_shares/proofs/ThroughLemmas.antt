-- A leg from its first turn to its last, among others whose sessions are not its own
use Rattle.std.proofs.Common.{◌≡◌, ◌∙◌, ◌⊎◌, ℕ, Bool, false, inl, inr, List, [], ◌∷◌, Option, refl, sym, subst}
use Rattle.std.proofs.lemmas.Option.{same_Some}
use Rattle.z_types.specs.Logins.{same_login}
use Rattle.z_types.specs.Chains.{GoesThrough, last_of}
use Rattle.z_types.specs.declared.sitting.Sitting as sitting
use Rattle.z_types.specs.declared.world.World as world
use Rattle.route_config.specs.declared.route.Route.{Route}
use Rattle.pool_sets.specs.Plain.{Pool}
use Rattle.leg.specs.Phases.{IsDone}
use Rattle.leg.specs.Tasks.{want_of}
use Rattle.leg.specs.declared.accounts.Account.{Account}
use Rattle.leg.specs.declared.phases.Phase.{Phase}
use Rattle.leg.specs.declared.phases.Phase.TheVariants.{Begin, Dialling, Dialled, Ready, Searching, Presenting, Fetching, Scanning, Returning, Losing, Redialling, Spoiled, Done, Ended}
use Rattle.leg.specs.declared.tasks.Task.{Task}
use Rattle.sharing_rules.specs.Sharers.{Sharers}
use Rattle.sharing_rules.specs.Uses.{Use}
use Rattle.sharing_rules.specs.steps.Shared.{shared_by}
use Rattle.sharing_rules.proofs.SharerFacts.{apart_by_login}
use Rattle.leg_shares.specs.steps.Laws.{IsShared}
use Rattle.leg_shares.specs.steps.Pools.{IsPoolOf, LeavesRest, MayUse, StayOrExpire, sharers_at}
use Rattle.leg_shares.specs.steps.Sharing.{AreOthersKept, IsKeptBehind, Shares}
use Rattle.leg_shares.specs.steps.Through.{GoesOn, OthersGoOn, Point, TakesTurn, at_first}
use Rattle.leg_shares.proofs.OtherLemmas.{kept-on, shares-on}
use Rattle.leg_shares.proofs.TurnLemmas.{turn-shares}

module _ {W S : Type 0} (w : world.Ghosts W) (t : sitting.Ghosts S W) (exact : Bool) (route : Route) (login : Option (List ℕ)) (place now : ℕ) (before : List Use)
    (task : Task) (may : MayUse w route (sharers_at route login place) now before (want_of task)) where
  abbrev who : Sharers
  who = sharers_at route login place

  -- at a point the leg shares its class
  record SharesAt (point : Point S) : Type 0 where
    of : IsPoolOf route point.pool
    shares : Shares w t route who now before task point.phase point.account point.pool
    rest : AreOthersKept w route who now before point.pool

  -- the class is kept under each other login where its sessions stay or expire
  rest-on : (p q : Pool S) → ((other : Option (List ℕ)) → same_login other login ≡ false → StayOrExpire route now (shared_by (record { class = who.class; login = other }) p.sessions) (shared_by (record { class = who.class; login = other }) q.sessions))
      → AreOthersKept w route who now before p → AreOthersKept w route who now before q
  rest-on p q stay rest other apart =
      kept-on w route (record { class = who.class; login = other }) now p q before (stay other apart) (rest other apart)

  turn-rest : (p q : Pool S) → LeavesRest route who now p q → (other : Option (List ℕ)) → same_login other login ≡ false
      → StayOrExpire route now (shared_by (record { class = who.class; login = other }) p.sessions) (shared_by (record { class = who.class; login = other }) q.sessions)
  turn-rest p q leaves other apart =
      let those : Sharers = record { class = who.class; login = other } in leaves those (apart_by_login those who apart)

  turn-on : (old new : Point S) → TakesTurn w t exact route login place task now old new → SharesAt old → SharesAt new
  turn-on old new turn at =
      let then = turn-shares w t exact route login place now before task old.phase new.phase old.account new.account turn.answer turn.door turn.after
      turn.backend turn.moved old.pool may at.rest turn.told at.of turn.turn turn.well at.shares in
      let same : then.pool ≡ new.pool = same_Some then.pool new.pool (sym then.told ∙ turn.told_then) in
      record {
        of = subst (λ (p : Pool S). IsPoolOf route p) same then.of;
        shares = subst (λ (p : Pool S). Shares w t route who now before task new.phase new.account p) same then.shares;
        rest = subst (λ (p : Pool S). AreOthersKept w route who now before p) same (rest-on old.pool then.pool (turn-rest old.pool then.pool then.others) at.rest);
      }

  others-on : (old new : Point S) → OthersGoOn w t exact route login place task now old new → SharesAt old → SharesAt new
  others-on old new go at = record {
    of = go.of;
    shares =
        subst (λ (x : Phase S). Shares w t route who now before task x new.account new.pool) (sym go.phase)
        (subst (λ (x : Account). Shares w t route who now before task old.phase x new.pool) (sym go.account)
        (shares-on w t route who now before old.pool new.pool (go.own login) task old.phase old.account at.shares));
    rest = rest-on old.pool new.pool (λ other apart. go.own other) at.rest;
  }

  one-on : (old new : Point S) → TakesTurn w t exact route login place task now old new ⊎ OthersGoOn w t exact route login place task now old new
      → SharesAt old → SharesAt new
  one-on old new (inl turn) at = turn-on old new turn at
  one-on old new (inr go) at = others-on old new go at

  goes-through : (point : Point S) (points : List (Point S)) → GoesThrough (GoesOn w t exact route login place task now) point points → SharesAt point
      → SharesAt (last_of point points)
  goes-through point [] goes at = at
  goes-through point (new ∷ points) goes at = goes-through new points goes.1 (one-on point new goes.0 at)

  -- ---- a leg that is done

  done-shared : (phase : Phase S) (account : Account) (pool : Pool S) → IsDone phase → IsPoolOf route pool
      → Shares w t route who now before task phase account pool
      → IsShared w t route who now before task (record { phase = phase; account = account; pool = pool })
  done-shared Begin account pool done of is = absurd done
  done-shared (Dialling seat member) account pool done of is = absurd done
  done-shared (Dialled held looks) account pool done of is = absurd done
  done-shared (Ready held items) account pool done of is = absurd done
  done-shared (Searching held items slot looks) account pool done of is = absurd done
  done-shared (Presenting held items slot hits) account pool done of is = absurd done
  done-shared (Fetching held items slot hits looks) account pool done of is = absurd done
  done-shared (Scanning held looks) account pool done of is = absurd done
  done-shared (Returning held answer) account pool done of is = absurd done
  done-shared (Losing seat answer) account pool done of is = absurd done
  done-shared (Redialling seat) account pool done of is = absurd done
  done-shared (Spoiled seat) account pool done of is = absurd done
  done-shared (Done answer) account pool done of is = record { dials = is.dials; searches = is.searches; of = of; kept = is.stands }
  done-shared Ended account pool done of is = absurd done

  pub leg-shares : (pool : Pool S) (points : List (Point S)) → IsPoolOf route pool → IsKeptBehind w route who now before pool → AreOthersKept w route who now before pool
      → GoesThrough (GoesOn w t exact route login place task now) (at_first pool) points → IsDone (last_of (at_first pool) points).phase
      → IsShared w t route who now before task (last_of (at_first pool) points)
  leg-shares pool points of kept rest goes done =
      let at = goes-through (at_first pool) points goes (record { of = of; shares = record { stands = kept; dials = refl; searches = refl }; rest = rest }) in
      let last = last_of (at_first pool) points in
      done-shared last.phase last.account last.pool done at.of at.shares
