-- A session has one answer where every mark is Plain, however its causes name classes.
use Rattle.std.proofs.Common.{◌≡◌, ℕ, List, [], ◌∷◌, Some, refl, sym, ap, ◌∙◌, subst, map}
use Rattle.std.specs.List.{AllByRecursion, flat_map}
use Rattle.z_types.specs.declared.marks.End.{End}
use Rattle.gateway_rules.specs.Answers.{Ended, IsConnection}
use Rattle.z_types.specs.declared.marks.Mark.{Mark}
use Rattle.z_types.specs.declared.marks.Mark.TheVariants.{Plain}
use Rattle.z_types.specs.declared.world.World as world
use Rattle.z_types.specs.Under.{under}
use Rattle.route_config.specs.declared.route.Route.{Route}
use Rattle.unit_forms.specs.Replies.{spell_reply}
use Rattle.gateway_rules.specs.Asking as asking
use Rattle.gateway_rules.specs.Asking.{Asking, asked}
use Rattle.gateway_rules.specs.Course as at
use Rattle.gateway_rules.specs.Course.{Course, end_of}
use Rattle.gateway_rules.specs.Marks.{Cause}
use Rattle.gateway_rules.specs.OneAnswer.{AreMarksPlain, HasOneAnswer}
use Rattle.gateway_rules.specs.Outcomes.{under_mark, plain_outcome, login_asked}
use Rattle.gateway_rules.specs.Session.{run, answered, answer_to, Fits}
use Rattle.gateway_rules.specs.Settling.{Settled, settled}
use Rattle.gateway_rules.specs.State.{ClientState, new_client}
use Rattle.z_types.specs.declared.requests.Request.{Request}
use Rattle.gateway_rules.proofs.OneEnding.{connection-one}

-- no leg was marked, at any request
abbrev pub IsAllPlain : List Cause → Type 0
IsAllPlain causes = AllByRecursion (λ cause. cause.mark ≡ Plain) causes

-- what is answered under a Plain mark does not ask for a class
due-plain : {W : Type 0} (w : world.Ghosts W) (route : Route) (client : ClientState) (request : Request) (c d : Cause)
    (due : Asking) → c.mark ≡ Plain → d.mark ≡ Plain
    → answer_to w route client request c due ≡ answer_to w route client request d due
due-plain w route client request c d (asking.at_once reply) e f = refl
due-plain w route client request c d (asking.works work) e f =
    let plainly = plain_outcome (under (login_asked work) w) route work in
    ap (λ m. settled client request work (under_mark m c.class plainly)) e
    ∙ sym (ap (λ m. settled client request work (under_mark m d.class plainly)) f)

-- two courses of causes that fit and are Plain are the same marks and get the same replies
pub run-plain : {W : Type 0} (w : world.Ghosts W) (route : Route) (client : ClientState) (course : Course)
    (cs ds : List Cause) → IsAllPlain cs → IsAllPlain ds
    → Fits (run w route client course cs) → Fits (run w route client course ds)
    → (map (λ cause. cause.mark) cs ≡ map (λ cause. cause.mark) ds)
    × ((run w route client course cs).replies ≡ (run w route client course ds).replies)
run-plain w route client (at.stands here) cs ds x y p q =
    (ap (map (λ cause. cause.mark)) (p.none_left ∙ sym q.none_left), refl)
run-plain w route client (at.ends last end) cs ds x y p q =
    (ap (map (λ cause. cause.mark)) (p.none_left ∙ sym q.none_left), refl)
run-plain w route client (at.answers request more) [] ds x y p q = absurd p.served
run-plain w route client (at.answers request more) (c ∷ cs) [] x y p q = absurd q.served
run-plain w route client (at.answers request more) (c ∷ cs) (d ∷ ds) x y p q =
    let same : answered w route client request c
    ≡ answered w route client request d = due-plain w route client request c d (asked w route client request) x.0 y.0 in
    let after_c = (answered w route client request c).client in
    let after_d = (answered w route client request d).client in
    let fit_c : Fits
    (run w route after_c more cs) = record { allowed = p.allowed.1; served = p.served; none_left = p.none_left } in
    let fit_d : Fits
    (run w route after_d more ds) = record { allowed = q.allowed.1; served = q.served; none_left = q.none_left } in
    let fit_at_c : Fits (run w route after_c more ds) = subst (λ (s : Settled). Fits (run w route s.client more ds))
    (sym same) fit_d in
    let rest = run-plain w route after_c more cs ds x.1 y.1 fit_c fit_at_c in
    let marks = ap (λ h. h ∷ map (λ cause. cause.mark) cs) (x.0 ∙ sym y.0) ∙ ap (λ h. d.mark ∷ h) rest.0 in
    let replies =
    ap (λ h. (answered w route client request c).reply ∷ h) rest.1
    ∙ ap (λ (s : Settled). s.reply ∷ (run w route s.client more ds).replies) same in
    (marks, replies)

causes-plain : (causes : List Cause) → AreMarksPlain (map (λ cause. cause.mark) causes) → IsAllPlain causes
causes-plain [] h = tt
causes-plain (cause ∷ causes) h = (h.0, causes-plain causes h.1)

some-one : (a b : End) → Some a ≡ Some b → a ≡ b
some-one a b h = cc

-- The answers under Plain marks are one, where the octets have one course: one list of marks, the same octets written,
-- and one end.
pub answers-one : {W : Type 0} (w : world.Ghosts W) (route : Route) (client : ClientState)
    (IsWhole : Course → Type 0) → ((c d : Course) → IsWhole c → IsWhole d → c ≡ d)
    → (ms ns : List Mark) (o p : List ℕ) (e f : End)
    → Ended w route client IsWhole ms o e → Ended w route client IsWhole ns p f
    → AreMarksPlain ms → AreMarksPlain ns → (ms ≡ ns) × (o ≡ p) × (e ≡ f)
answers-one w route client IsWhole one ms ns o p e f a b x y =
    let s = a.answered in
    let t = b.answered in
    let course : s.whole ≡ t.whole = one s.whole t.whole s.is_whole t.is_whole in
    let fits : Fits (run w route client s.whole t.causes) = subst
    (λ (c : Course). Fits (run w route client c t.causes)) (sym course) b.fits in
    let plain_s = causes-plain s.causes (subst AreMarksPlain (sym s.of_marks) x) in
    let plain_t = causes-plain t.causes (subst AreMarksPlain (sym t.of_marks) y) in
    let same = run-plain w route client s.whole s.causes t.causes plain_s plain_t a.fits fits in
    let marks = sym s.of_marks ∙ same.0 ∙ t.of_marks in
    let written = s.written
    ∙ ap (flat_map spell_reply) (same.1 ∙ ap (λ c. (run w route client c t.causes).replies) course) ∙ sym t.written in
    (marks, written, some-one e f (sym a.ended ∙ ap end_of course ∙ b.ended))

-- The octets, twice answered with every mark Plain, have the same answer.
pub one-answer : {W : Type 0} (w : world.Ghosts W) → HasOneAnswer w
one-answer w route bytes ms ns o p e f a b x y =
    answers-one w route new_client (IsConnection route bytes)
    (connection-one route bytes) ms ns o p e f a b x y
