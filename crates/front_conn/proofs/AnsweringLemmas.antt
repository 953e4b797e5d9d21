-- A unit that was begun: what was written behind, and what its work is.
use Rattle.std.proofs.Common.{◌≡◌, ◌∙◌, ℕ, false, true, List, ◌++◌, Option, Some, None, Result, Ok, Err, OnOk, OnErr, ap, arith, length, refl, subst, sym, take}
use Rattle.std.specs.Prelude.{IfSome, IsSome}
use Rattle.std.proofs.Math.Seq.{take-length}
use Rattle.std.proofs.lemmas.List.{take-append-le}
use Rattle.std.specs.List.{AllByRecursion}
use Rattle.z_types.specs.declared.marks.End.{End}
use Rattle.z_types.specs.declared.marks.Mark.{Mark}
use Rattle.z_types.specs.declared.memory.Memory.{Memory}
use Rattle.z_types.specs.declared.outcome.Outcome.{Outcome}
use Rattle.z_types.specs.declared.requests.Request.{Request}
use Rattle.z_types.specs.declared.work.Work.{Work}
use Rattle.route_config.specs.Sound.{IsSound}
use Rattle.route_config.specs.declared.route.Route.{Route}
use Rattle.unit_forms.specs.Replies.{spell_reply}
use Rattle.front_z.specs.gateway_rules.Asking as asking
use Rattle.front_z.specs.gateway_rules.Asking.{Asking, asked_with}
use Rattle.front_z.specs.gateway_rules.Course as course
use Rattle.front_z.specs.gateway_rules.Course.{Meeting, met}
use Rattle.front_z.specs.gateway_rules.Replies.{bad_unit_reply, close_reply, limit_reply}
use Rattle.front_z.specs.gateway_rules.Statuses.{finished}
use Rattle.front_z.specs.front_session.Admitting.{hits_named}
use Rattle.front_z.specs.front_session.Sessions.{SessionState, Waiting, client_of, progress_of}
use Rattle.front_z.specs.Units.{IsBegun, IsDueBegun, IsEnded, IsMetBegun, Served}
use Rattle.front_z.specs.declared.units.Begun.TheVariants as begun
use Rattle.package.specs.package_rules.Planned.{AreThere}
use Rattle.front_conn.specs.steps.States.{HasLegsOf, IsWaitedFor}
use Rattle.front_conn.proofs.WorkLemmas.{work-there}

-- ---- what was written behind

pub taken-back : (old more new : List ℕ) → new ≡ old ++ more → take (length old) new ≡ old
taken-back old more new is = ap (take (length old)) is ∙ take-append-le (length old) old more (omega arith) ∙ take-length old

due-back : (route : Route) (asks : Request) (due : Asking) (old new : Served) (mark : Option Mark) (end : Option End)
    → IsDueBegun route due asks old new (begun.Write mark end) → take (length old.out) new.out ≡ old.out
due-back route asks (asking.at_once reply) old new mark end h = taken-back old.out (spell_reply reply) new.out h.1.0
due-back route asks (asking.works job) old new mark end h = let wrong = h.0 in absurd cc

met-back : (meeting : Meeting) (route : Route) (at : ℕ) (read : Option Request) (old new : Served) (mark : Option Mark)
    (end : Option End) → IsMetBegun meeting route at read old new (begun.Write mark end) → take (length old.out) new.out ≡ old.out
met-back course.bad route at read old new mark end h = taken-back old.out (spell_reply bad_unit_reply) new.out h.1.0
met-back (course.beyond asks) route at read old new mark end h = taken-back old.out (spell_reply (limit_reply asks)) new.out h.1.0
met-back (course.closing close) route at read old new mark end h =
    taken-back old.out (spell_reply (close_reply close.ref_id finished)) new.out h.1
met-back (course.due asks) route at read old new mark end h =
    due-back route asks (asked_with (hits_named old.session.sets) route (client_of old.session) asks) old new mark end h

-- the reply to a unit can be taken back
pub written-back : (route : Route) (at : ℕ) (unit : List ℕ) (old new : Served) (mark : Option Mark) (end : Option End)
    → IsBegun route at unit old new (begun.Write mark end) → take (length old.out) new.out ≡ old.out
written-back route at unit old new mark end h =
    met-back (met route (progress_of at old.session) h.read) route at h.read old new mark end h.begun

-- ---- a work

-- a request asks for it, and waits for it
pub record IsAskedFor (route : Route) (job : Work) (old new : Served) : Type 0 where
  pub asks : Request
  pub due : asked_with (hits_named old.session.sets) route (client_of old.session) asks ≡ asking.works job
  pub waits : new.session.waiting ≡ Some (record { request = asks; work = job })
  pub out : new.out ≡ old.out

due-asked : (route : Route) (asks : Request) (due : Asking) (old new : Served) (job : Work)
    → asked_with (hits_named old.session.sets) route (client_of old.session) asks ≡ due
    → IsDueBegun route due asks old new (begun.Work job) → IsAskedFor route job old new
due-asked route asks (asking.at_once reply) old new job is h = let wrong = h.0 in absurd cc
due-asked route asks (asking.works other) old new job is h =
    let same : other ≡ job = let b = h.0 in cc in
    record {
      asks = asks;
      due = is ∙ ap asking.works same;
      waits = ap (λ (s : SessionState). s.waiting) h.4 ∙ ap (λ j. Some (record { request = asks; work = j })) same;
      out = h.3;
    }

met-asked : (meeting : Meeting) (route : Route) (at : ℕ) (read : Option Request) (old new : Served) (job : Work)
    → IsMetBegun meeting route at read old new (begun.Work job) → IsAskedFor route job old new
met-asked course.bad route at read old new job h = let wrong = h.0 in absurd cc
met-asked (course.beyond asks) route at read old new job h = let wrong = h.0 in absurd cc
met-asked (course.closing close) route at read old new job h = let wrong = h.0 in absurd cc
met-asked (course.due asks) route at read old new job h =
    due-asked route asks (asked_with (hits_named old.session.sets) route (client_of old.session) asks) old new job refl h

work-asked : (route : Route) (at : ℕ) (unit : List ℕ) (old new : Served) (job : Work) → IsBegun route at unit old new (begun.Work job)
    → IsAskedFor route job old new
work-asked route at unit old new job h =
    met-asked (met route (progress_of at old.session) h.read) route at h.read old new job h.begun

-- its legs are the route's
pub work-is-there : (route : Route) (at : ℕ) (unit : List ℕ) (old new : Served) (job : Work) → IsSound route
    → AllByRecursion (HasLegsOf route) old.session.sets → IsBegun route at unit old new (begun.Work job) → AreThere route job
work-is-there route at unit old new job sound sets h =
    let asked = work-asked route at unit old new job h in
    work-there (hits_named old.session.sets) route (client_of old.session) old.session.sets asked.asks job sound refl sets asked.due

-- it is waited for
pub work-waits : (route : Route) (at : ℕ) (unit : List ℕ) (old new : Served) (job : Work)
    → IsBegun route at unit old new (begun.Work job) → IsWaitedFor new.session.waiting job
work-waits route at unit old new job h =
    let asked = work-asked route at unit old new job h in
    subst (λ (waiting : Option Waiting). IsWaitedFor waiting job) (sym asked.waits) refl

-- nothing was written
pub work-unwritten : (route : Route) (at : ℕ) (unit : List ℕ) (old new : Served) (job : Work) → IsBegun route at unit old new (begun.Work job)
    → new.out ≡ old.out
work-unwritten route at unit old new job h = (work-asked route at unit old new job h).out

-- ---- a request that is answered

-- what was written of an answer whose mark could be listed
pub ended-listed : (listed : Result (Unit {0}) Memory) (old new : Served) (out : List ℕ) (waiting : Option Waiting) (got given : Outcome)
    → given ≡ got → IfSome waiting (λ w. IsEnded old new w given) → OnOk listed (out ≡ new.out)
    → OnOk listed (IfSome waiting (λ w. IsEnded old (record { session = new.session; out = out }) w got))
ended-listed (Ok done) old new out waiting got given is ended same =
    subst (λ (o : List ℕ). IfSome waiting (λ w. IsEnded old (record { session = new.session; out = o }) w got)) (sym same)
    (subst (λ (g : Outcome). IfSome waiting (λ w. IsEnded old new w g)) is ended)
ended-listed (Err want) old new out waiting got given is ended same = tt

-- and of one whose mark could not
pub ended-back : (listed : Result (Unit {0}) Memory) (old new : Served) (out : List ℕ) (written : ℕ) (waiting : Option Waiting) (got : Outcome)
    → IsSome waiting → IfSome waiting (λ w. IsEnded old new w got) → written ≡ length old.out
    → OnErr listed (out ≡ take written new.out) → OnErr listed (out ≡ old.out)
ended-back (Ok done) old new out written waiting got some ended is same = tt
ended-back (Err want) old new out written None got some ended is same = let wrong : false ≡ true = some in absurd cc
ended-back (Err want) old new out written (Some w) got some ended is same =
    same ∙ ap (λ n. take n new.out) is ∙ taken-back old.out (spell_reply ended.reply) new.out ended.written
