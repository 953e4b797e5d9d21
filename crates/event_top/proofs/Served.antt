-- From how a front served, and what was printed of it, to what the command did
use Rattle.std.proofs.Common.{◌≡◌, ◌∙◌, ◌⊎◌, ◌≤◌, ◌-◌, ℕ, List, Option, None, Some, ap, length, arith, refl, inl, inr, sym, subst}
use Rattle.std.proofs.lemmas.List.{length-append}
use Rattle.z_types.specs.declared.world.World as world
use Rattle.route_config.specs.declared.route.Route.{Route}
use Rattle.route_text.specs.declared.fault.RouteFault.{RouteFault}
use Rattle.gw_outside.specs.declared.watched.Watched as watched
use Rattle.event_outside.specs.declared.accepts.EdgeAccept as accept
use Rattle.event_outside.specs.declared.pollers.Poller as poller
use Rattle.event_outside.specs.declared.sinks.EdgeSink as to
use Rattle.event_outside.specs.declared.sources.EdgeSource as from
use Rattle.gateway_config.specs.ConfigRead.{HasFailed, IsConfigRefusal, IsUnreadTold}
use Rattle.gateway_config.specs.Configs.{IsNotTaken, IsTaken}
use Rattle.gateway_config.specs.Lines.{ReceivedNothing}
use Rattle.gateway_config.specs.Outside.{FileReads, SinkWrites}
use Rattle.gateway_config.specs.declared.status.Status.{Status}
use Rattle.gateway_config.specs.declared.status.Status.TheVariants as status
use Rattle.event_loop.specs.declared.fronts.EventFront.{EventFront}
use Rattle.event_loop.specs.declared.fronted.Fronted.TheVariants as fronted
use Rattle.event_top.specs.Outcome.{EventsDone, FrontServed, IsPrinted, IsServedTold, NamedDone, RouteServed, TakenAndServed}

module _ {W A P B C I K : Type 0} (w : world.Ghosts W) (i : from.Ghosts I) (k : to.Ghosts K) (a : accept.Ghosts A I K) (p : poller.Ghosts P)
    (b : watched.Ghosts B)
  where
    -- no fewer connections are listed than before
    pub counts : (route : Route) (old new : EventFront A P B C) → FrontServed w i k a p b route old new fronted.Ended
        → length old.served ≤ length new.served
    counts route old new served =
        let fronted = served.served.0.0 in
        let more = ap length fronted.served ∙ length-append old.served fronted.others in omega (arith, more)

    -- all ended, and their number was told
    pub told : (route : Route) (old new : EventFront A P B C) (before after number : ℕ) (writes : SinkWrites) (ended : Status)
        → FrontServed w i k a p b route old new fronted.Ended → before ≡ length old.served → after ≡ length new.served
        → number ≡ after - before → IsServedTold number writes ended → RouteServed w i k a p b route writes old new ended
    told route old new before after number writes status.Ok served e f n printed = record { served = served; number = number; taken = omega (arith, e, f, n, counts route old new served); printed = printed }
    told route old new before after number writes status.Words served e f n printed = absurd printed
    told route old new before after number writes status.Config served e f n printed = absurd printed
    told route old new before after number writes status.Script served e f n printed = absurd printed
    told route old new before after number writes status.ReadFault served e f n printed = absurd printed
    told route old new before after number writes status.WriteFault served e f n printed = record { served = served; number = number; taken = omega (arith, e, f, n, counts route old new served); printed = printed }
    told route old new before after number writes status.Memory served e f n printed = (printed, (fronted.Ended, served))
    told route old new before after number writes status.AcceptFault served e f n printed = absurd printed
    told route old new before after number writes status.RealTarget served e f n printed = absurd printed
    told route old new before after number writes status.PollFault served e f n printed = absurd printed

    -- a configuration was taken, and its route served
    pub taken-served : (config : List ℕ) (route : Route) (reads : FileReads) (writes : SinkWrites) (old new : EventFront A P B C)
        (ended : Status) → IsTaken config reads route → RouteServed w i k a p b route writes old new ended
        → EventsDone w i k a p b config reads writes old new ended
    taken-served config route reads writes old new status.Ok taken done = (route, taken, done)
    taken-served config route reads writes old new status.Words taken done = absurd done
    taken-served config route reads writes old new status.Config taken done = absurd done
    taken-served config route reads writes old new status.Script taken done = absurd done
    taken-served config route reads writes old new status.ReadFault taken done = absurd done
    taken-served config route reads writes old new status.WriteFault taken done = (route, taken, done)
    taken-served config route reads writes old new status.Memory taken done = inr (route, taken, done)
    taken-served config route reads writes old new status.AcceptFault taken done = (route, taken, done)
    taken-served config route reads writes old new status.RealTarget taken done = absurd done
    taken-served config route reads writes old new status.PollFault taken done = (route, taken, done)

    -- a configuration was refused
    pub refused : (config : List ℕ) (fault : RouteFault) (reads : FileReads) (writes : SinkWrites) (front : EventFront A P B C)
        (ended : Status) → IsNotTaken config reads fault → IsConfigRefusal fault writes ended
        → EventsDone w i k a p b config reads writes front front ended
    refused config fault reads writes front status.Ok not said = absurd said
    refused config fault reads writes front status.Words not said = absurd said
    refused config fault reads writes front status.Config not said = ((fault, not, said), refl)
    refused config fault reads writes front status.Script not said = absurd said
    refused config fault reads writes front status.ReadFault not said = absurd said
    refused config fault reads writes front status.WriteFault not said = absurd said
    refused config fault reads writes front status.Memory not said = inl (said, refl)
    refused config fault reads writes front status.AcceptFault not said = absurd said
    refused config fault reads writes front status.RealTarget not said = absurd said
    refused config fault reads writes front status.PollFault not said = absurd said

    -- a configuration could not be read
    pub not-read : (config : List ℕ) (reads : FileReads) (writes : SinkWrites) (front : EventFront A P B C) (ended : Status)
        → HasFailed config reads → IsUnreadTold config writes ended → EventsDone w i k a p b config reads writes front front ended
    not-read config reads writes front status.Ok failed said = absurd said
    not-read config reads writes front status.Words failed said = absurd said
    not-read config reads writes front status.Config failed said = absurd said
    not-read config reads writes front status.Script failed said = absurd said
    not-read config reads writes front status.ReadFault failed said = ((failed, said), refl)
    not-read config reads writes front status.WriteFault failed said = absurd said
    not-read config reads writes front status.Memory failed said = inl (said, refl)
    not-read config reads writes front status.AcceptFault failed said = absurd said
    not-read config reads writes front status.RealTarget failed said = absurd said
    not-read config reads writes front status.PollFault failed said = absurd said

    -- ---- what is printed

    route-printed : (route : Route) (writes : SinkWrites) (old new : EventFront A P B C) (ended : Status)
        → RouteServed w i k a p b route writes old new ended → IsPrinted writes ended
    route-printed route writes old new status.Ok done = (done.number, done.printed)
    route-printed route writes old new status.Words done = absurd done
    route-printed route writes old new status.Config done = absurd done
    route-printed route writes old new status.Script done = absurd done
    route-printed route writes old new status.ReadFault done = absurd done
    route-printed route writes old new status.WriteFault done = (done.number, done.printed)
    route-printed route writes old new status.Memory done = done.0
    route-printed route writes old new status.AcceptFault done = done.1
    route-printed route writes old new status.RealTarget done = absurd done
    route-printed route writes old new status.PollFault done = done.1

    memory-printed : (config : List ℕ) (reads : FileReads) (writes : SinkWrites) (old new : EventFront A P B C)
        → (ReceivedNothing writes × (new ≡ old)) ⊎ TakenAndServed w i k a p b config reads writes old new status.Memory
        → IsPrinted writes status.Memory
    memory-printed config reads writes old new (inl none) = none.0
    memory-printed config reads writes old new (inr done) = route-printed done.0 writes old new status.Memory done.2

    pub printed : (config : List ℕ) (reads : FileReads) (writes : SinkWrites) (old new : EventFront A P B C) (ended : Status)
        → EventsDone w i k a p b config reads writes old new ended → IsPrinted writes ended
    printed config reads writes old new status.Ok done = route-printed done.0 writes old new status.Ok done.2
    printed config reads writes old new status.Words done = route-printed done.0 writes old new status.Words done.2
    printed config reads writes old new status.Config done = (done.0.0, done.0.2)
    printed config reads writes old new status.Script done = route-printed done.0 writes old new status.Script done.2
    printed config reads writes old new status.ReadFault done = (config, done.0.1)
    printed config reads writes old new status.WriteFault done = route-printed done.0 writes old new status.WriteFault done.2
    printed config reads writes old new status.Memory done = memory-printed config reads writes old new done
    printed config reads writes old new status.AcceptFault done = route-printed done.0 writes old new status.AcceptFault done.2
    printed config reads writes old new status.RealTarget done = route-printed done.0 writes old new status.RealTarget done.2
    printed config reads writes old new status.PollFault done = route-printed done.0 writes old new status.PollFault done.2

    pub named-printed : (config : Option (List ℕ)) (reads : FileReads) (writes : SinkWrites) (old new : EventFront A P B C) (ended : Status)
        → NamedDone w i k a p b config reads writes old new ended → IsPrinted writes ended
    named-printed (Some config) reads writes old new ended done = printed config reads writes old new ended done
    named-printed None reads writes old new ended done = subst (λ (s : Status). IsPrinted writes s) (sym done.0) done.1
