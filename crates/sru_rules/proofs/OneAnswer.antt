-- The answers to a client of either kind are one where every mark is Plain, and so is their end under any marks.
use Rattle.std.proofs.Common.{◌≡◌, ℕ, List, [], ◌∷◌, map, refl, sym, ap, subst, ◌∙◌}
use Rattle.z_types.specs.declared.marks.End.{End}
use Rattle.z_types.specs.declared.marks.Mark.{Mark}
use Rattle.z_types.specs.declared.marks.Mark.TheVariants.{Plain}
use Rattle.z_types.specs.declared.world.World as world
use Rattle.route_config.specs.declared.route.Database.{Database}
use Rattle.route_config.specs.declared.route.Route.{Route}
use Rattle.gateway_rules.proofs.OneAnswer.{one-answer}
use Rattle.gateway_rules.proofs.OneEnding.{one-end}
use Rattle.gateway_rules.specs.Answers.{Kind, empty, letter, unit, kind_of}
use Rattle.gateway_rules.specs.Marks.{Cause, plain}
use Rattle.gateway_rules.specs.OneAnswer.{AreMarksPlain}
use Rattle.gateway_rules.specs.Session.{IsServed}
use Rattle.sru_reply.specs.Reply.{reply}
use Rattle.sru_request.specs.declared.query.SruQuery.{SruQuery}
use Rattle.sru_rules.specs.Answers.{AnswersAs, EndingAs}
use Rattle.sru_rules.specs.Course.{Course, ends, answers, end_of}
use Rattle.sru_rules.specs.Laws.{HasOneAnswer, HasOneEnd, AnswersEndSo}
use Rattle.sru_rules.specs.Reading.{Reading}
use Rattle.sru_rules.specs.Run.{Due, at_once, searches, due, next_of, next_answer, answer_to, get_answer, run}
use Rattle.sru_rules.specs.Settling.{Next, answered, fetches}
use Rattle.sru_rules.proofs.OneCourse.{one_course}

-- ---- one GET under a Plain mark

-- a cause of its two parts
abbrev of : Mark → List ℕ → Cause
of mark class = record { mark = mark; class = class }

next_plain : {W : Type 0} (w : world.Ghosts W) (route : Route) (asked : SruQuery) (class : List ℕ) (next : Next)
    → next_answer w route asked (of Plain class) next ≡ next_answer w route asked plain next
next_plain w route asked class (answered answer) = refl
next_plain w route asked class (fetches hits work) = refl

answer_plain : {W : Type 0} (w : world.Ghosts W) (route : Route) (class : List ℕ) (asks : Due)
    → answer_to w route (of Plain class) asks ≡ answer_to w route plain asks
answer_plain w route class (at_once answer) = refl
answer_plain w route class (searches retrieval) =
    next_plain w route retrieval.asked class (next_of w route retrieval plain)

get_plain : {W : Type 0} (w : world.Ghosts W) (route : Route) (database : Database) (reading : Reading) (cause : Cause)
    → cause.mark ≡ Plain → get_answer w route database reading cause ≡ get_answer w route database reading plain
get_plain w route database reading cause is_plain =
    subst
    (λ (mark : Mark). get_answer w route database reading (of mark cause.class)
    ≡ get_answer w route database reading plain)
    (sym is_plain) (answer_plain w route cause.class (due route database reading))

-- ---- one connection

abbrev marks_of : List Cause → List Mark
marks_of causes = map (λ cause. cause.mark) causes

run_one : {W : Type 0} (w : world.Ghosts W) (route : Route) (whole : Course) (causes others : List Cause)
    → IsServed (run w route whole causes).stop → IsServed (run w route whole others).stop
    → (run w route whole causes).left ≡ [] → (run w route whole others).left ≡ []
    → AreMarksPlain (marks_of causes) → AreMarksPlain (marks_of others)
    → (marks_of causes ≡ marks_of others) × ((run w route whole causes).out ≡ (run w route whole others).out)
run_one w route (ends last end) causes others s t x y p q = (ap marks_of (x ∙ sym y), refl)
run_one w route (answers database reading) [] others s t x y p q = absurd s
run_one w route (answers database reading) (c ∷ cs) [] s t x y p q = absurd t
run_one w route (answers database reading) (c ∷ cs) (d ∷ ds) s t x y p q = (
  ap (λ mark. mark ∷ marks_of cs) (p.0 ∙ sym q.0) ∙ ap (λ more. d.mark ∷ marks_of more) (x ∙ sym y),
  ap reply (get_plain w route database reading c p.0 ∙ sym (get_plain w route database reading d q.0)),
)

end_as : {V W : Type 0} (v : world.Ghosts V) (w : world.Ghosts W) (kind : Kind) (route : Route) (bytes : List ℕ)
    (marks others : List Mark) (out other_out : List ℕ) (end other_end : End)
    → AnswersAs kind v route bytes marks out end → AnswersAs kind w route bytes others other_out other_end
    → end ≡ other_end
end_as v w letter route bytes marks others out other_out end other_end x y =
    sym x.ended
    ∙ ap end_of (one_course route bytes x.answered.whole y.answered.whole x.answered.is_whole y.answered.is_whole)
    ∙ y.ended
end_as v w empty route bytes marks others out other_out end other_end x y =
    one-end v w route bytes marks others out other_out end other_end x y
end_as v w unit route bytes marks others out other_out end other_end x y =
    one-end v w route bytes marks others out other_out end other_end x y

pub one_end : {V W : Type 0} (v : world.Ghosts V) (w : world.Ghosts W) → HasOneEnd v w
one_end v w route bytes marks others out other_out end other_end x y =
    end_as v w (kind_of bytes) route bytes marks others out other_out end other_end x y

answer_as : {W : Type 0} (w : world.Ghosts W) (kind : Kind) (route : Route) (bytes : List ℕ)
    (marks others : List Mark) (out other_out : List ℕ) (end other_end : End)
    → AnswersAs kind w route bytes marks out end → AnswersAs kind w route bytes others other_out other_end
    → AreMarksPlain marks → AreMarksPlain others → (marks ≡ others) × (out ≡ other_out) × (end ≡ other_end)
answer_as w letter route bytes marks others out other_out end other_end x y p q =
    let a = x.answered in
    let b = y.answered in
    let same = one_course route bytes a.whole b.whole a.is_whole b.is_whole in
    let got = run_one w route b.whole a.causes b.causes
    (subst (λ (c : Course). IsServed (run w route c a.causes).stop) same x.served) y.served
    (subst (λ (c : Course). (run w route c a.causes).left ≡ []) same x.none_left) y.none_left
    (subst AreMarksPlain (sym a.of_marks) p) (subst AreMarksPlain (sym b.of_marks) q) in (
      sym a.of_marks ∙ got.0 ∙ b.of_marks,
      a.written ∙ ap (λ (c : Course). (run w route c a.causes).out) same ∙ got.1 ∙ sym b.written,
      end_as w w letter route bytes marks others out other_out end other_end x y,
    )
answer_as w empty route bytes marks others out other_out end other_end x y p q =
    one-answer w route bytes marks others out other_out end other_end x y p q
answer_as w unit route bytes marks others out other_out end other_end x y p q =
    one-answer w route bytes marks others out other_out end other_end x y p q

pub one_answer : {W : Type 0} (w : world.Ghosts W) → HasOneAnswer w
one_answer w route bytes marks others out other_out end other_end x y p q =
    answer_as w (kind_of bytes) route bytes marks others out other_out end other_end x y p q

-- ---- the ending

ends_so : {W : Type 0} (w : world.Ghosts W) (kind : Kind) (route : Route) (bytes : List ℕ) (marks : List Mark)
    (out : List ℕ) (end : End) → AnswersAs kind w route bytes marks out end → EndingAs kind route bytes end
ends_so w letter route bytes marks out end x = (x.answered.whole, x.answered.is_whole, x.ended)
ends_so w empty route bytes marks out end x = (x.answered.whole, x.answered.is_whole, x.ended)
ends_so w unit route bytes marks out end x = (x.answered.whole, x.answered.is_whole, x.ended)

pub answers_end_so : {W : Type 0} (w : world.Ghosts W) → AnswersEndSo w
answers_end_so w route bytes marks out end x = ends_so w (kind_of bytes) route bytes marks out end x
