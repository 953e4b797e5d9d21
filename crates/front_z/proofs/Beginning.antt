-- What is written and kept of a request, by what it was admitted as.
use Rattle.std.proofs.Common.{◌≡◌, ◌++◌, ◌∙◌, ℕ, Bool, true, false, List, Option, Some, None, refl, ap}
use Rattle.std.specs.Prelude.{not, if◌then◌else◌}
use Rattle.z_types.specs.declared.marks.Mark.{Mark}
use Rattle.z_types.specs.declared.marks.Mark.TheVariants.{Plain}
use Rattle.z_types.specs.declared.marks.End.{End}
use Rattle.z_types.specs.declared.marks.End.TheVariants.{Malformed, Limited}
use Rattle.z_types.specs.declared.replies.Reply.{Reply}
use Rattle.z_types.specs.declared.requests.Request.{Request}
use Rattle.z_types.specs.declared.requests.Request.TheVariants as request
use Rattle.z_types.specs.declared.work.Work.{Work}
use Rattle.route_config.specs.declared.route.Route.{Route}
use Rattle.unit_forms.specs.Replies.{spell_reply}
use Rattle.limit_rules.specs.Limits.{are_units_spent}
use Rattle.front_session.specs.gateway_rules.Asking.{Asking, at_once, works, asked_with}
use Rattle.front_session.specs.gateway_rules.Course.{Meeting, bad, beyond, met_in_place}
use Rattle.front_session.specs.gateway_rules.Replies.{bad_unit_reply, limit_reply, close_reply}
use Rattle.front_session.specs.gateway_rules.Statuses.{finished}
use Rattle.front_session.specs.Sessions.{SessionState, client_of}
use Rattle.front_session.specs.Admitting.{hits_named, IsDueAdmitted, IsMetAdmitted, IsAdmitted}
use Rattle.front_session.specs.declared.admitted.Admitted.TheVariants as admitted
use Rattle.front_z.specs.Units.{Served, IsDueBegun, IsMetBegun, IsRequestBegun, IsWritten, end_behind}
use Rattle.front_z.specs.declared.units.Begun.{Begun}
use Rattle.front_z.specs.declared.units.Begun.TheVariants as begun

-- a session, and what was written
abbrev served : SessionState → List ℕ → Served
served session out = record { session = session; out = out }

-- how a request is met, where the units are spent or not, and it is in its place or not
abbrev meeting_of : Bool → Bool → Request → Meeting
meeting_of spent placed asked = if spent then beyond asked else if placed then met_in_place asked else bad

-- what a request that is in its place is due
abbrev due_of : Route → SessionState → Request → Asking
due_of route old asked = asked_with (hits_named old.sets) route (client_of old) asked

-- ---- a reply at once

due_replied : (route : Route) (due : Asking) (asked : Request) (old new : SessionState) (out after : List ℕ) (reply : Reply) (answer : Begun)
    → IsDueAdmitted route due asked old new (admitted.Reply reply) → answer ≡ begun.Write (Some Plain) None
    → after ≡ out ++ spell_reply reply → IsDueBegun route due asked (served old out) (served new after) answer
due_replied route (at_once told) asked old new out after reply answer h a w =
    (a, (w ∙ ap (λ r. out ++ spell_reply r) h.0, h.1))
due_replied route (works work) asked old new out after reply answer h a w = absurd h

reply_at : (spent placed : Bool) (asked : Request) (route : Route) (at : ℕ) (old new : SessionState)
    (out after : List ℕ) (reply : Reply) (answer : Begun)
    → IsMetAdmitted (meeting_of spent placed asked) route old new (admitted.Reply reply)
    → answer ≡ begun.Write (Some Plain) (end_behind asked) → after ≡ out ++ spell_reply reply
    → IsMetBegun (meeting_of spent placed asked) route at (Some asked) (served old out) (served new after) answer
reply_at true placed asked route at old new out after reply answer h a w = let e = h.0 in absurd cc
reply_at false false asked route at old new out after reply answer h a w = let e = h.0 in absurd cc
reply_at false true (request.Close close) route at old new out after reply answer h a w =
    let e = h.0 in
    let same : reply ≡ close_reply close.ref_id finished = cc in
    (a, w ∙ ap (λ r. out ++ spell_reply r) same)
reply_at false true (request.Init init) route at old new out after reply answer h a w =
    due_replied route (due_of route old (request.Init init)) (request.Init init) old new out after reply answer h a w
reply_at false true (request.Search search) route at old new out after reply answer h a w =
    due_replied route (due_of route old (request.Search search)) (request.Search search) old new out after reply answer h a w
reply_at false true (request.Present present) route at old new out after reply answer h a w =
    due_replied route (due_of route old (request.Present present)) (request.Present present) old new out after reply answer h a w
reply_at false true (request.Scan scan) route at old new out after reply answer h a w =
    due_replied route (due_of route old (request.Scan scan)) (request.Scan scan) old new out after reply answer h a w

reply_met : (asked : Request) (route : Route) (at : ℕ) (old new : SessionState)
    (out after : List ℕ) (reply : Reply) (mark : Option Mark) (end : Option End)
    → IsAdmitted route asked old new (admitted.Reply reply)
    → begun.Write mark end ≡ begun.Write (Some Plain) (end_behind asked) → after ≡ out ++ spell_reply reply
    → IsRequestBegun route at asked (served old out) (served new after) (begun.Write mark end)
reply_met (request.Init init) route at old new out after reply mark end h a w =
    reply_at (are_units_spent route.limits old.units) (not old.accepted) (request.Init init) route at old new out after reply (begun.Write mark end) h a w
reply_met (request.Search search) route at old new out after reply mark end h a w =
    reply_at (are_units_spent route.limits old.units) old.accepted (request.Search search) route at old new out after reply (begun.Write mark end) h a w
reply_met (request.Present present) route at old new out after reply mark end h a w =
    reply_at (are_units_spent route.limits old.units) old.accepted (request.Present present) route at old new out after reply (begun.Write mark end) h a w
reply_met (request.Scan scan) route at old new out after reply mark end h a w =
    reply_at (are_units_spent route.limits old.units) old.accepted (request.Scan scan) route at old new out after reply (begun.Write mark end) h a w
reply_met (request.Close close) route at old new out after reply mark end h a w =
    reply_at (are_units_spent route.limits old.units) old.accepted (request.Close close) route at old new out after reply (begun.Write mark end) h a w

-- A request that was admitted with a reply, which was written.
pub begun-reply : (asked : Request) (route : Route) (at : ℕ) (old new : SessionState)
    (out after : List ℕ) (reply : Reply) (answer : Begun)
    → IsAdmitted route asked old new (admitted.Reply reply)
    → IsWritten reply (Some Plain) (end_behind asked) out after answer
    → IsRequestBegun route at asked (served old out) (served new after) answer
begun-reply asked route at old new out after reply (begun.Write mark end) h w =
    reply_met asked route at old new out after reply mark end h w.0 w.1
begun-reply asked route at old new out after reply (begun.Work work) h w = let e = w.0 in absurd cc
begun-reply asked route at old new out after reply begun.Memory h w = w

-- ---- a work

due_worked : (route : Route) (due : Asking) (asked : Request) (old new : SessionState) (out : List ℕ) (work : Work)
    → IsDueAdmitted route due asked old new (admitted.Work work)
    → IsDueBegun route due asked (served old out) (served new out) (begun.Work work)
due_worked route (at_once told) asked old new out work h = absurd h
due_worked route (works given) asked old new out work h = (ap begun.Work h.0, h.1, h.2, refl, h.3)

work_at : (spent placed : Bool) (asked : Request) (route : Route) (at : ℕ) (old new : SessionState)
    (out : List ℕ) (work : Work)
    → IsMetAdmitted (meeting_of spent placed asked) route old new (admitted.Work work)
    → IsMetBegun (meeting_of spent placed asked) route at (Some asked) (served old out) (served new out) (begun.Work work)
work_at true placed asked route at old new out work h = let e = h.0 in absurd cc
work_at false false asked route at old new out work h = let e = h.0 in absurd cc
work_at false true (request.Close close) route at old new out work h = let e = h.0 in absurd cc
work_at false true (request.Init init) route at old new out work h =
    due_worked route (due_of route old (request.Init init)) (request.Init init) old new out work h
work_at false true (request.Search search) route at old new out work h =
    due_worked route (due_of route old (request.Search search)) (request.Search search) old new out work h
work_at false true (request.Present present) route at old new out work h =
    due_worked route (due_of route old (request.Present present)) (request.Present present) old new out work h
work_at false true (request.Scan scan) route at old new out work h =
    due_worked route (due_of route old (request.Scan scan)) (request.Scan scan) old new out work h

-- A request that was admitted with a work: nothing was written.
pub begun-work : (asked : Request) (route : Route) (at : ℕ) (old new : SessionState) (out : List ℕ) (work : Work)
    → IsAdmitted route asked old new (admitted.Work work)
    → IsRequestBegun route at asked (served old out) (served new out) (begun.Work work)
begun-work (request.Init init) route at old new out work h =
    work_at (are_units_spent route.limits old.units) (not old.accepted) (request.Init init) route at old new out work h
begun-work (request.Search search) route at old new out work h =
    work_at (are_units_spent route.limits old.units) old.accepted (request.Search search) route at old new out work h
begun-work (request.Present present) route at old new out work h =
    work_at (are_units_spent route.limits old.units) old.accepted (request.Present present) route at old new out work h
begun-work (request.Scan scan) route at old new out work h =
    work_at (are_units_spent route.limits old.units) old.accepted (request.Scan scan) route at old new out work h
begun-work (request.Close close) route at old new out work h =
    work_at (are_units_spent route.limits old.units) old.accepted (request.Close close) route at old new out work h

-- ---- a unit out of its place, or beyond the last

due_not_bad : (route : Route) (due : Asking) (asked : Request) (old new : SessionState) → IsDueAdmitted route due asked old new admitted.Bad → ⊥
due_not_bad route (at_once told) asked old new h = h
due_not_bad route (works work) asked old new h = h

due_not_limited : (route : Route) (due : Asking) (asked : Request) (old new : SessionState) → IsDueAdmitted route due asked old new admitted.Limited → ⊥
due_not_limited route (at_once told) asked old new h = h
due_not_limited route (works work) asked old new h = h

bad_at : (spent placed : Bool) (asked : Request) (route : Route) (at : ℕ) (old new : SessionState)
    (out after : List ℕ) (answer : Begun)
    → IsMetAdmitted (meeting_of spent placed asked) route old new admitted.Bad
    → answer ≡ begun.Write None (Some (Malformed at)) → after ≡ out ++ spell_reply bad_unit_reply
    → IsMetBegun (meeting_of spent placed asked) route at (Some asked) (served old out) (served new after) answer
bad_at true placed asked route at old new out after answer h a w = let e = h.0 in absurd cc
bad_at false false asked route at old new out after answer h a w = (a, (w, h.1))
bad_at false true (request.Close close) route at old new out after answer h a w = let e = h.0 in absurd cc
bad_at false true (request.Init init) route at old new out after answer h a w =
    absurd (due_not_bad route (due_of route old (request.Init init)) (request.Init init) old new h)
bad_at false true (request.Search search) route at old new out after answer h a w =
    absurd (due_not_bad route (due_of route old (request.Search search)) (request.Search search) old new h)
bad_at false true (request.Present present) route at old new out after answer h a w =
    absurd (due_not_bad route (due_of route old (request.Present present)) (request.Present present) old new h)
bad_at false true (request.Scan scan) route at old new out after answer h a w =
    absurd (due_not_bad route (due_of route old (request.Scan scan)) (request.Scan scan) old new h)

limited_at : (spent placed : Bool) (asked : Request) (route : Route) (at : ℕ) (old new : SessionState)
    (out after : List ℕ) (answer : Begun)
    → IsMetAdmitted (meeting_of spent placed asked) route old new admitted.Limited
    → answer ≡ begun.Write None (Some Limited) → after ≡ out ++ spell_reply (limit_reply asked)
    → IsMetBegun (meeting_of spent placed asked) route at (Some asked) (served old out) (served new after) answer
limited_at true placed asked route at old new out after answer h a w = (a, (w, h.1))
limited_at false false asked route at old new out after answer h a w = let e = h.0 in absurd cc
limited_at false true (request.Close close) route at old new out after answer h a w = let e = h.0 in absurd cc
limited_at false true (request.Init init) route at old new out after answer h a w =
    absurd (due_not_limited route (due_of route old (request.Init init)) (request.Init init) old new h)
limited_at false true (request.Search search) route at old new out after answer h a w =
    absurd (due_not_limited route (due_of route old (request.Search search)) (request.Search search) old new h)
limited_at false true (request.Present present) route at old new out after answer h a w =
    absurd (due_not_limited route (due_of route old (request.Present present)) (request.Present present) old new h)
limited_at false true (request.Scan scan) route at old new out after answer h a w =
    absurd (due_not_limited route (due_of route old (request.Scan scan)) (request.Scan scan) old new h)

-- A request that was admitted as bad: a protocol error was written.
pub begun-bad : (asked : Request) (route : Route) (at : ℕ) (old new : SessionState) (out after : List ℕ) (answer : Begun)
    → IsAdmitted route asked old new admitted.Bad
    → IsWritten bad_unit_reply None (Some (Malformed at)) out after answer
    → IsRequestBegun route at asked (served old out) (served new after) answer
begun-bad asked route at old new out after begun.Memory h w = w
begun-bad asked route at old new out after (begun.Work work) h w = let e = w.0 in absurd cc
begun-bad (request.Init init) route at old new out after (begun.Write mark end) h w =
    bad_at (are_units_spent route.limits old.units) (not old.accepted) (request.Init init) route at old new out after (begun.Write mark end) h w.0 w.1
begun-bad (request.Search search) route at old new out after (begun.Write mark end) h w =
    bad_at (are_units_spent route.limits old.units) old.accepted (request.Search search) route at old new out after (begun.Write mark end) h w.0 w.1
begun-bad (request.Present present) route at old new out after (begun.Write mark end) h w =
    bad_at (are_units_spent route.limits old.units) old.accepted (request.Present present) route at old new out after (begun.Write mark end) h w.0 w.1
begun-bad (request.Scan scan) route at old new out after (begun.Write mark end) h w =
    bad_at (are_units_spent route.limits old.units) old.accepted (request.Scan scan) route at old new out after (begun.Write mark end) h w.0 w.1
begun-bad (request.Close close) route at old new out after (begun.Write mark end) h w =
    bad_at (are_units_spent route.limits old.units) old.accepted (request.Close close) route at old new out after (begun.Write mark end) h w.0 w.1

-- A request that was admitted as one beyond the last: a Close was written.
pub begun-limited : (asked : Request) (route : Route) (at : ℕ) (old new : SessionState) (out after : List ℕ) (answer : Begun)
    → IsAdmitted route asked old new admitted.Limited
    → IsWritten (limit_reply asked) None (Some Limited) out after answer
    → IsRequestBegun route at asked (served old out) (served new after) answer
begun-limited asked route at old new out after begun.Memory h w = w
begun-limited asked route at old new out after (begun.Work work) h w = let e = w.0 in absurd cc
begun-limited (request.Init init) route at old new out after (begun.Write mark end) h w =
    limited_at (are_units_spent route.limits old.units) (not old.accepted) (request.Init init) route at old new out after (begun.Write mark end) h w.0 w.1
begun-limited (request.Search search) route at old new out after (begun.Write mark end) h w =
    limited_at (are_units_spent route.limits old.units) old.accepted (request.Search search) route at old new out after (begun.Write mark end) h w.0 w.1
begun-limited (request.Present present) route at old new out after (begun.Write mark end) h w =
    limited_at (are_units_spent route.limits old.units) old.accepted (request.Present present) route at old new out after (begun.Write mark end) h w.0 w.1
begun-limited (request.Scan scan) route at old new out after (begun.Write mark end) h w =
    limited_at (are_units_spent route.limits old.units) old.accepted (request.Scan scan) route at old new out after (begun.Write mark end) h w.0 w.1
begun-limited (request.Close close) route at old new out after (begun.Write mark end) h w =
    limited_at (are_units_spent route.limits old.units) old.accepted (request.Close close) route at old new out after (begun.Write mark end) h w.0 w.1
