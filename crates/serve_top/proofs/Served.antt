-- From how workers served, and what was printed of it, to what the command did
use Rattle.std.proofs.Common.{◌≡◌, ◌⊎◌, ◌≤◌, ◌+◌, ◌-◌, ℕ, List, [], ◌∷◌, length, arith, refl, inl, inr, ap, ◌∙◌}
use Rattle.std.specs.List.{AllZip}
use Rattle.std.proofs.lemmas.List.{length-append}
use Rattle.std.proofs.lemmas.List.Sums.{sum_by-cons}
use Rattle.z_types.specs.declared.world.World as world
use Rattle.route_config.specs.declared.route.Route.{Route}
use Rattle.route_text.specs.declared.fault.RouteFault.{RouteFault}
use Rattle.gw_outside.specs.declared.accepts.Accept as accept
use Rattle.gw_outside.specs.declared.sinks.Sink as to
use Rattle.gw_outside.specs.declared.sources.Source as from
use Rattle.gw_outside.specs.declared.watched.Watched as watched
use Rattle.gateway_config.specs.ConfigRead.{HasFailed, IsConfigRefusal, IsUnreadTold}
use Rattle.gateway_config.specs.Configs.{IsNotTaken, IsTaken}
use Rattle.gateway_config.specs.Lines.{ReceivedNothing}
use Rattle.gateway_config.specs.Outside.{FileReads, SinkWrites}
use Rattle.gateway_config.specs.declared.status.Status.{Status}
use Rattle.gateway_config.specs.declared.status.Status.TheVariants as status
use Rattle.serve_cached.specs.serve_threads.serve.declared.working.Worked.TheVariants.{Ended}
use Rattle.serve_cached.specs.serve_threads.serve.declared.working.Worker.{Worker}
use Rattle.serve_cached.specs.serve_threads.Serving.{HasServed, HaveServed}
use Rattle.serve_top.specs.Lines.{served_count}
use Rattle.serve_top.specs.Outcome.{IsPrinted, IsServedTold, RouteServed, ServeDone, TakenAndServed}

module _ {W A B C I K : Type 0} (w : world.Ghosts W) (i : from.Ghosts I) (k : to.Ghosts K) (a : accept.Ghosts A I K) (b : watched.Ghosts B)
  where
    count-rises : (route : Route) (old new : List (Worker B A C)) → AllZip (HasServed w i k a b route route.pool.max_sessions) old new
        → served_count old ≤ served_count new
    count-rises route [] [] each = omega arith
    count-rises route [] (y ∷ ys) each = absurd each
    count-rises route (x ∷ xs) [] each = absurd each
    count-rises route (x ∷ xs) (y ∷ ys) each =
        let here : length y.served ≡ length x.served + length each.0.worked.others =
        ap length each.0.worked.served ∙ length-append x.served each.0.worked.others in
        let rest = count-rises route xs ys each.1 in
        let front = sum_by-cons (λ (worker : Worker B A C). length worker.served) x xs in
        let back = sum_by-cons (λ (worker : Worker B A C). length worker.served) y ys in
        omega (arith, here, rest, front, back)

    -- no fewer connections are listed than before
    pub counts : (route : Route) (old new : List (Worker B A C)) {worked : _} → HaveServed w i k a b route route.pool.max_sessions old new worked
        → served_count old ≤ served_count new
    counts route old new served = count-rises route old new served.each

    -- all ended, and their number was told
    pub told : (route : Route) (old new : List (Worker B A C)) (before after number : ℕ) (writes : SinkWrites) (ended : Status)
        → HaveServed w i k a b route route.pool.max_sessions old new Ended → before ≡ served_count old → after ≡ served_count new → number ≡ after - before
        → IsServedTold number writes ended → RouteServed w i k a b route writes old new ended
    told route old new before after number writes status.Ok served b f n printed = record {
      served = served;
      number = number;
      taken = omega (arith, b, f, n, counts route old new served);
      printed = printed;
    }
    told route old new before after number writes status.WriteFault served b f n printed = record {
      served = served;
      number = number;
      taken = omega (arith, b, f, n, counts route old new served);
      printed = printed;
    }
    told route old new before after number writes status.Memory served b f n printed = (printed, (Ended, served))
    told route old new before after number writes status.Words served b f n printed = absurd printed
    told route old new before after number writes status.Config served b f n printed = absurd printed
    told route old new before after number writes status.Script served b f n printed = absurd printed
    told route old new before after number writes status.ReadFault served b f n printed = absurd printed
    told route old new before after number writes status.AcceptFault served b f n printed = absurd printed
    told route old new before after number writes status.RealTarget served b f n printed = absurd printed
    told route old new before after number writes status.PollFault served b f n printed = absurd printed

    -- a configuration was taken, and its route served
    pub taken-served : (config : List ℕ) (route : Route) (reads : FileReads) (writes : SinkWrites) (old new : List (Worker B A C))
        (ended : Status) → IsTaken config reads route → RouteServed w i k a b route writes old new ended
        → ServeDone w i k a b config reads writes old new ended
    taken-served config route reads writes old new status.Ok taken done = (route, taken, done)
    taken-served config route reads writes old new status.WriteFault taken done = (route, taken, done)
    taken-served config route reads writes old new status.AcceptFault taken done = (route, taken, done)
    taken-served config route reads writes old new status.Memory taken done = inr (route, taken, done)
    taken-served config route reads writes old new status.Words taken done = absurd done
    taken-served config route reads writes old new status.Config taken done = absurd done
    taken-served config route reads writes old new status.Script taken done = absurd done
    taken-served config route reads writes old new status.ReadFault taken done = absurd done
    taken-served config route reads writes old new status.RealTarget taken done = absurd done
    taken-served config route reads writes old new status.PollFault taken done = absurd done

    -- a configuration was refused
    pub refused : (config : List ℕ) (fault : RouteFault) (reads : FileReads) (writes : SinkWrites) (workers : List (Worker B A C))
        (ended : Status) → IsNotTaken config reads fault → IsConfigRefusal fault writes ended
        → ServeDone w i k a b config reads writes workers workers ended
    refused config fault reads writes workers status.Config not said = ((fault, not, said), refl)
    refused config fault reads writes workers status.Memory not said = inl (said, refl)
    refused config fault reads writes workers status.Ok not said = absurd said
    refused config fault reads writes workers status.Words not said = absurd said
    refused config fault reads writes workers status.Script not said = absurd said
    refused config fault reads writes workers status.ReadFault not said = absurd said
    refused config fault reads writes workers status.WriteFault not said = absurd said
    refused config fault reads writes workers status.AcceptFault not said = absurd said
    refused config fault reads writes workers status.RealTarget not said = absurd said
    refused config fault reads writes workers status.PollFault not said = absurd said

    -- a configuration could not be read
    pub not-read : (config : List ℕ) (reads : FileReads) (writes : SinkWrites) (workers : List (Worker B A C)) (ended : Status)
        → HasFailed config reads → IsUnreadTold config writes ended → ServeDone w i k a b config reads writes workers workers ended
    not-read config reads writes workers status.ReadFault failed said = ((failed, said), refl)
    not-read config reads writes workers status.Memory failed said = inl (said, refl)
    not-read config reads writes workers status.Ok failed said = absurd said
    not-read config reads writes workers status.Words failed said = absurd said
    not-read config reads writes workers status.Config failed said = absurd said
    not-read config reads writes workers status.Script failed said = absurd said
    not-read config reads writes workers status.WriteFault failed said = absurd said
    not-read config reads writes workers status.AcceptFault failed said = absurd said
    not-read config reads writes workers status.RealTarget failed said = absurd said
    not-read config reads writes workers status.PollFault failed said = absurd said

    -- ---- what is printed

    route-printed : (route : Route) (writes : SinkWrites) (old new : List (Worker B A C)) (ended : Status)
        → RouteServed w i k a b route writes old new ended → IsPrinted writes ended
    route-printed route writes old new status.Ok done = (done.number, done.printed)
    route-printed route writes old new status.WriteFault done = (done.number, done.printed)
    route-printed route writes old new status.AcceptFault done = done.1
    route-printed route writes old new status.Memory done = done.0
    route-printed route writes old new status.Words done = absurd done
    route-printed route writes old new status.Config done = absurd done
    route-printed route writes old new status.Script done = absurd done
    route-printed route writes old new status.ReadFault done = absurd done
    route-printed route writes old new status.RealTarget done = absurd done
    route-printed route writes old new status.PollFault done = absurd done

    memory-printed : (config : List ℕ) (reads : FileReads) (writes : SinkWrites) (old new : List (Worker B A C))
        → (ReceivedNothing writes × (new ≡ old)) ⊎ TakenAndServed w i k a b config reads writes old new status.Memory
        → IsPrinted writes status.Memory
    memory-printed config reads writes old new (inl none) = none.0
    memory-printed config reads writes old new (inr done) = route-printed done.0 writes old new status.Memory done.2

    pub printed : (config : List ℕ) (reads : FileReads) (writes : SinkWrites) (old new : List (Worker B A C)) (ended : Status)
        → ServeDone w i k a b config reads writes old new ended → IsPrinted writes ended
    printed config reads writes old new status.Ok done = route-printed done.0 writes old new status.Ok done.2
    printed config reads writes old new status.WriteFault done = route-printed done.0 writes old new status.WriteFault done.2
    printed config reads writes old new status.AcceptFault done = route-printed done.0 writes old new status.AcceptFault done.2
    printed config reads writes old new status.Memory done = memory-printed config reads writes old new done
    printed config reads writes old new status.Config done = (done.0.0, done.0.2)
    printed config reads writes old new status.ReadFault done = (config, done.0.1)
    printed config reads writes old new status.Words done = route-printed done.0 writes old new status.Words done.2
    printed config reads writes old new status.Script done = route-printed done.0 writes old new status.Script done.2
    printed config reads writes old new status.RealTarget done = route-printed done.0 writes old new status.RealTarget done.2
    printed config reads writes old new status.PollFault done = route-printed done.0 writes old new status.PollFault done.2
