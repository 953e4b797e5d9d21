-- A route played by the files as they were left is one played by them as they were at first; and a script that was read is the one that the files tell.
use Rattle.std.proofs.Common.{◌≡◌, ◌∙◌, ◌≤◌, ℕ, List, Option, Some, None, IfSome, ap, subst, inr, arith}
use Rattle.z_types.specs.Counts.{Rose}
use Rattle.z_types.specs.declared.world.World as world
use Rattle.route_config.specs.declared.route.Route.{Route}
use Rattle.gateway_config.specs.Configs.{IsConfigurationOf}
use Rattle.gateway_top.specs.Command.{load_of}
use Rattle.gateway_top.specs.Headline.{IsLoadHeadline}
use Rattle.gateway_top.specs.Load.{HasLoaded, LoadDone}
use Rattle.gateway_top.specs.Targets.{first_real}
use Rattle.gateway_top.specs.Outcome.{ScriptPlayed, ScriptDone, RoutePlayed, ReplayDone, IsMemoryOr}
use Rattle.gateway_config.specs.Outside.{FileReads, SinkWrites}
use Rattle.gateway_config.specs.declared.status.Status.{Status}
use Rattle.gateway_config.specs.declared.status.Status.TheVariants as status
use Rattle.replay_top.specs.Outside.{WireCalls}

-- what files have, how their faults rose, and which read failed last
abbrev reads : (List ℕ → Option (List ℕ)) → (before after : ℕ) → Option (List ℕ) → FileReads
reads contents before after failed = record { contents = contents; faults = before; faults_after = after; failed_after = failed }

-- a count that rose later rose
rose-earlier : (f g after : ℕ) → f ≤ g → Rose g after → Rose f after
rose-earlier f g after le rose = omega (arith, rose)

-- the same, of the files that were read before
route-earlier : {W S : Type 0} (w : world.Ghosts W) (calls : WireCalls W S) (real : Option (List ℕ)) (route : Route) (script : List ℕ)
    (c d : List ℕ → Option (List ℕ)) (f g after : ℕ) (failed : Option (List ℕ)) (writes : SinkWrites) (ended : Status)
    → d script ≡ c script → f ≤ g
    → RoutePlayed w calls real route script (reads d g after failed) writes ended
    → RoutePlayed w calls real route script (reads c f after failed) writes ended
route-earlier w calls (Some name) route script c d f g after failed writes ended e le h = h
route-earlier w calls None route script c d f g after failed writes status.ReadFault e le h =
    ((rose-earlier f g after le h.0.0, h.0.1), h.1)
route-earlier w calls None route script c d f g after failed writes status.Ok e le h =
    subst (λ (o : Option (List ℕ)). ScriptPlayed w calls route o writes status.Ok) e h
route-earlier w calls None route script c d f g after failed writes status.Words e le h =
    subst (λ (o : Option (List ℕ)). ScriptPlayed w calls route o writes status.Words) e h
route-earlier w calls None route script c d f g after failed writes status.Config e le h =
    subst (λ (o : Option (List ℕ)). ScriptPlayed w calls route o writes status.Config) e h
route-earlier w calls None route script c d f g after failed writes status.Script e le h =
    subst (λ (o : Option (List ℕ)). ScriptPlayed w calls route o writes status.Script) e h
route-earlier w calls None route script c d f g after failed writes status.WriteFault e le h =
    subst (λ (o : Option (List ℕ)). ScriptPlayed w calls route o writes status.WriteFault) e h
route-earlier w calls None route script c d f g after failed writes status.Memory e le h =
    subst (λ (o : Option (List ℕ)). ScriptPlayed w calls route o writes status.Memory) e h
route-earlier w calls None route script c d f g after failed writes status.RealTarget e le h =
    subst (λ (o : Option (List ℕ)). ScriptPlayed w calls route o writes status.RealTarget) e h
route-earlier w calls None route script c d f g after failed writes status.AcceptFault e le h =
    subst (λ (o : Option (List ℕ)). ScriptPlayed w calls route o writes status.AcceptFault) e h
route-earlier w calls None route script c d f g after failed writes status.PollFault e le h =
    subst (λ (o : Option (List ℕ)). ScriptPlayed w calls route o writes status.PollFault) e h

-- a configuration that was taken is none that is refused
never-config : {W S : Type 0} (w : world.Ghosts W) (calls : WireCalls W S) (real : Option (List ℕ)) (route : Route) (script : List ℕ)
    (files : FileReads) (writes : SinkWrites) → RoutePlayed w calls real route script files writes status.Config → ⊥
never-config w calls (Some name) route script files writes h = let e = h.0 in cc
never-config w calls None route script files writes h = h

-- a configuration was taken, and its route played by the files as they were left
pub taken-played : {W S : Type 0} (w : world.Ghosts W) (calls : WireCalls W S) (config script : List ℕ) (route : Route)
    (c d : List ℕ → Option (List ℕ)) (f g after : ℕ) (failed : Option (List ℕ)) (writes : SinkWrites) (ended : Status)
    → ((other : List ℕ) → d other ≡ c other) → f ≤ g → IfSome (c config) (IsConfigurationOf route)
    → IsMemoryOr ended writes (RoutePlayed w calls (first_real route) route script (reads d g after failed) writes ended)
    → ReplayDone w calls config script (reads c f after failed) writes ended
taken-played w calls config script route c d f g after failed writes status.Memory e le taken h = h
taken-played w calls config script route c d f g after failed writes status.Config e le taken h =
    absurd (never-config w calls (first_real route) route script (reads d g after failed) writes h)
taken-played w calls config script route c d f g after failed writes status.ReadFault e le taken h =
    inr (route, taken, route-earlier w calls (first_real route) route script c d f g after failed writes status.ReadFault (e script) le h)
taken-played w calls config script route c d f g after failed writes status.Ok e le taken h =
    (route, taken, route-earlier w calls (first_real route) route script c d f g after failed writes status.Ok (e script) le h)
taken-played w calls config script route c d f g after failed writes status.Words e le taken h =
    (route, taken, route-earlier w calls (first_real route) route script c d f g after failed writes status.Words (e script) le h)
taken-played w calls config script route c d f g after failed writes status.Script e le taken h =
    (route, taken, route-earlier w calls (first_real route) route script c d f g after failed writes status.Script (e script) le h)
taken-played w calls config script route c d f g after failed writes status.WriteFault e le taken h =
    (route, taken, route-earlier w calls (first_real route) route script c d f g after failed writes status.WriteFault (e script) le h)
taken-played w calls config script route c d f g after failed writes status.RealTarget e le taken h =
    (route, taken, route-earlier w calls (first_real route) route script c d f g after failed writes status.RealTarget (e script) le h)
taken-played w calls config script route c d f g after failed writes status.AcceptFault e le taken h =
    (route, taken, route-earlier w calls (first_real route) route script c d f g after failed writes status.AcceptFault (e script) le h)
taken-played w calls config script route c d f g after failed writes status.PollFault e le taken h =
    (route, taken, route-earlier w calls (first_real route) route script c d f g after failed writes status.PollFault (e script) le h)

-- a script of octets was played, which are those that are told where they are
played-told : {W S : Type 0} (w : world.Ghosts W) (calls : WireCalls W S) (route : Route) (told : Option (List ℕ)) (text : List ℕ) (writes : SinkWrites) (ended : Status)
    → IfSome told (λ bytes. text ≡ bytes) → ScriptPlayed w calls route (Some text) writes ended → ScriptPlayed w calls route told writes ended
played-told w calls route (Some bytes) text writes ended e h = subst (λ (b : List ℕ). ScriptPlayed w calls route (Some b) writes ended) e h
played-told w calls route None text writes status.Ok e h = (h.0, tt, h.2)
played-told w calls route None text writes status.WriteFault e h = (h.0, tt, h.2)
played-told w calls route None text writes status.Script e h = (h.0, tt, h.2)
played-told w calls route None text writes status.Memory e h = h
played-told w calls route None text writes status.Words e h = h
played-told w calls route None text writes status.Config e h = h
played-told w calls route None text writes status.ReadFault e h = h
played-told w calls route None text writes status.RealTarget e h = h
played-told w calls route None text writes status.AcceptFault e h = h
played-told w calls route None text writes status.PollFault e h = h

-- so the script of a name was played, as the files tell it
script-told : {W S : Type 0} (w : world.Ghosts W) (calls : WireCalls W S) (route : Route) (name text : List ℕ) (files : FileReads) (writes : SinkWrites) (ended : Status)
    → IfSome (files.contents name) (λ bytes. text ≡ bytes) → ScriptPlayed w calls route (Some text) writes ended → ScriptDone w calls route name files writes ended
script-told w calls route name text files writes status.ReadFault e h = absurd h
script-told w calls route name text files writes status.Ok e h = played-told w calls route (files.contents name) text writes status.Ok e h
script-told w calls route name text files writes status.WriteFault e h = played-told w calls route (files.contents name) text writes status.WriteFault e h
script-told w calls route name text files writes status.Script e h = played-told w calls route (files.contents name) text writes status.Script e h
script-told w calls route name text files writes status.Memory e h = h
script-told w calls route name text files writes status.Words e h = absurd h
script-told w calls route name text files writes status.Config e h = absurd h
script-told w calls route name text files writes status.RealTarget e h = absurd h
script-told w calls route name text files writes status.AcceptFault e h = absurd h
script-told w calls route name text files writes status.PollFault e h = absurd h

-- and so it was where the octets that were played are those that were read
pub script-read : {W S : Type 0} (w : world.Ghosts W) (calls : WireCalls W S) (route : Route) (name octets text : List ℕ) (files : FileReads)
    (writes : SinkWrites) (ended : Status) → octets ≡ text → IfSome (files.contents name) (λ bytes. text ≡ bytes)
    → ScriptPlayed w calls route (Some octets) writes ended → ScriptDone w calls route name files writes ended
script-read w calls route name octets text files writes ended same told played =
    script-told w calls route name text files writes ended told
    (subst (λ (o : List ℕ). ScriptPlayed w calls route (Some o) writes ended) same played)

some-same : (n m : ℕ) → ◌≡◌ {A = Option ℕ} (Some n) (Some m) → n ≡ m
some-same n m e = cc

-- what is done where the words ask for a load is what they ask for
pub load-asked : {W S : Type 0} (w : world.Ghosts W) (calls : WireCalls W S) (words : List (List ℕ)) (clients : ℕ) (writes : SinkWrites)
    (ended : Status) → Some clients ≡ load_of words → LoadDone w calls clients writes ended → IsLoadHeadline w calls words writes ended
load-asked w calls words clients writes ended is done = λ number other at_ok same asked.
    let same_number : ◌≡◌ {A = Option ℕ} (Some clients) (Some other) = is ∙ ap load_of same ∙ asked in
    subst (λ (n : ℕ). HasLoaded w calls n writes) (some-same clients other same_number)
    (subst (λ (s : Status). LoadDone w calls clients writes s) at_ok done)
