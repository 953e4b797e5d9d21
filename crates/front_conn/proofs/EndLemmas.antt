-- A connection that ends by the end of its input, or by octets that are no unit.
use Rattle.std.proofs.Common.{◌≡◌, ℕ, ◌<◌, ◌⊎◌, Bool, true, false, List, [], ◌∷◌, ◌++◌, length, Option, Some, None, Ok, refl, sym, ap, ◌∙◌, subst, append_assoc, append-nil, length-append, arith, inl, inr}
use Rattle.std.specs.Prelude.{option_to_list}
use Rattle.std.specs.List.{AllByRecursion}
use Rattle.std.proofs.lemmas.Grind.{flat_map-append}
use Rattle.z_types.specs.declared.marks.End.{End}
use Rattle.z_types.specs.declared.marks.End.TheVariants.{Finished, Malformed, Cut}
use Rattle.z_types.specs.declared.marks.Mark.{Mark}
use Rattle.z_types.specs.declared.replies.Reply.{Reply}
use Rattle.z_types.specs.declared.world.World as world
use Rattle.z_types.specs.Bounds.{within64}
use Rattle.route_config.specs.declared.route.Route.{Route}
use Rattle.unit_forms.specs.Replies.{spell_reply}
use Rattle.z_ber.specs.Frames.{IsFrame}
use Rattle.front_z.specs.gateway_rules.Answers as kind
use Rattle.front_z.specs.gateway_rules.Answers.{Kind, kind_of, IsReceived, IsOpen, IsBad, IsCourseOf, RestLeadsTo}
use Rattle.sru_request.specs.Request.{IsHeadAnswer}
use Rattle.sru_request.specs.declared.head.HeadGot.TheVariants.{NeedMore}
use Rattle.front_http.specs.sru_rules.Answers.{Answers}
use Rattle.front_http.specs.sru_rules.Laws.{HeadIsCut}
use Rattle.front_z.specs.gateway_rules.Course as course
use Rattle.front_z.specs.gateway_rules.Course.{Received, octets_of, ends}
use Rattle.front_z.specs.gateway_rules.Runs.{marks_of, written_as}
use Rattle.front_z.specs.gateway_rules.Replies.{bad_unit_reply}
use Rattle.front_z.specs.gateway_rules.Session as session
use Rattle.front_z.specs.gateway_rules.Session.{run, stopped}
use Rattle.front_z.specs.gateway_rules.State.{new_client, at_the_start}
use Rattle.front_z.proofs.gateway_rules.OneEnding.{extent-filled}
use Rattle.front_z.proofs.gateway_rules.Runs.{rest-ends}
use Rattle.front_conn.specs.steps.States.{BeginsWithUnits, ConnectionState, MayCome, Rests}
use Rattle.front_conn.specs.steps.Steps.{KeepsState}
use Rattle.front_conn.proofs.StateLemmas.{as-none, as-units, kind-fed, kind-more, of-ended, rests-of}

-- ---- a connection without units

-- the answers where nothing comes
none-ended : {W : Type 0} (w : world.Ghosts W) (route : Route) (bytes written : List ℕ) → kind_of bytes ≡ kind.empty
    → written ≡ [] → Answers w route bytes [] written Finished
none-ended w route bytes written same out = as-none w route bytes [] written Finished same (record {
  answered = record {
    whole = ends None Finished;
    is_whole = subst (λ (k : Kind). IsCourseOf k route bytes (ends None Finished)) (sym same) refl;
    causes = [];
    of_marks = refl;
    allowed = tt;
    written = out;
  };
  fits = record { allowed = tt; served = tt; none_left = refl };
  ended = refl;
})

-- a state that stands behind no units has no marks, and nothing was written
pub record IsFirst {S : Type 0} (fed written : List ℕ) (state : ConnectionState S) : Type 0 where
  pub fed-is : fed ≡ state.left
  pub marks : state.marks ≡ []
  pub out : written ++ state.out ≡ []

pub first-state : {W S : Type 0} (w : world.Ghosts W) (route : Route) (fed written : List ℕ) (state : ConnectionState S)
    (rb : Rests w route fed written state) → rb.units ≡ [] → IsFirst fed written state
first-state w route fed written state rb e =
    let got : stopped [] rb.answered.causes new_client (session.standing at_the_start) ≡ rb.answered.got =
    ap (λ u. run w route new_client (course.course route at_the_start u) rb.answered.causes) (sym e) ∙ rb.answered.has_run.runs in
    let causes : rb.answered.causes ≡ [] = ap (λ r. r.left) got ∙ rb.answered.has_run.none_left in
    record {
      fed-is = rb.spelled ∙ ap (λ u. octets_of u ++ state.left) e;
      marks = sym rb.answered.of_marks ∙ ap marks_of causes;
      out = rb.answered.replies ∙ ap (λ r. written_as r.replies) (sym got);
    }

-- ---- the rest

-- the answers where the rest of the octets ends the session
rest-answers : {W S : Type 0} (w : world.Ghosts W) (route : Route) (fed written more : List ℕ) (old new : ConnectionState S)
    (last : Option Reply) (end : End) (rb : Rests w route fed written old) → kind_of (fed ++ more) ≡ kind.unit
    → RestLeadsTo (length (octets_of rb.units)) (old.left ++ more) (ends last end) → new.marks ≡ old.marks
    → written ++ new.out ≡ written_as (rb.answered.got.replies ++ option_to_list last)
    → Answers w route (fed ++ more) new.marks (written ++ new.out) end
rest-answers w route fed written more old new last end rb of_units leads marks out =
    let octets : octets_of rb.units ++ (old.left ++ more) ≡ fed ++ more =
    sym (append_assoc (octets_of rb.units) old.left more) ∙ ap (λ o. o ++ more) (sym rb.spelled) in
    let of_kind = subst (λ (o : List ℕ). kind_of o ≡ kind.unit) (sym octets) of_units in
    let replies : List Reply = rb.answered.got.replies ++ option_to_list last in
    let all = as-units w route (octets_of rb.units ++ (old.left ++ more)) _ _ end of_kind
    (rest-ends w route rb.units rb.answered.causes rb.answered.got _ (old.left ++ more) last end rb.answered.has_run rb.answered.standing
    leads of_kind) in
    let by_octets = subst (λ (o : List ℕ). Answers w route o (marks_of rb.answered.causes) (written_as replies) end) octets all in
    let by_marks = subst (λ (m : List Mark). Answers w route (fed ++ more) m (written_as replies) end) (rb.answered.of_marks ∙ sym marks) by_octets in
    subst (λ (o : List ℕ). Answers w route (fed ++ more) new.marks o end) (sym out) by_marks

-- what was written is unchanged, or goes on with a last reply
no-reply : (written old new : List ℕ) (replies : List Reply) → written ++ old ≡ written_as replies → new ≡ old
    → written ++ new ≡ written_as (replies ++ [])
no-reply written old new replies e f = ap (λ o. written ++ o) f ∙ e ∙ ap written_as (sym (append-nil replies))

last-reply : (written old new : List ℕ) (replies : List Reply) (reply : Reply) → written ++ old ≡ written_as replies
    → new ≡ old ++ spell_reply reply → written ++ new ≡ written_as (replies ++ reply ∷ [])
last-reply written old new replies reply e f =
    ap (λ o. written ++ o) f ∙ sym (append_assoc written old (spell_reply reply)) ∙ ap (λ o. o ++ spell_reply reply) e
    ∙ ap (λ o. written_as replies ++ o) (sym (append-nil (spell_reply reply)))
    ∙ sym (flat_map-append spell_reply replies (reply ∷ []))

-- ---- units or none

-- a frame has octets
pub frame-octets : (frame : List ℕ) → IsFrame frame → 0 < length frame
frame-octets frame f = extent-filled 63 frame f.0.0 f.0.1 f.0.2

-- a connection has units, and begins with one, or none
by-units : (P : Type 0) (units : List Received) (fed : List ℕ) → BeginsWithUnits units fed
    → (kind_of fed ≡ kind.unit → P) → (units ≡ [] → P) → P
by-units P [] fed begins f g = g refl
by-units P (unit ∷ units) fed begins f g = f begins

-- at the offset 0 there are none
pub none-at_0 : (units : List Received) → AllByRecursion IsReceived units → within64 (length (octets_of units)) ≡ 0 → units ≡ []
none-at_0 [] all e = refl
none-at_0 (unit ∷ units) all e =
    absurd (omega (arith, e, length-append unit.octets (octets_of units), frame-octets unit.octets all.0.0))

-- ---- the end of the input

-- octets that end inside a unit, or inside the head of an HTTP connection
abbrev pub IsCutIn : ℕ → List ℕ → Type 0
IsCutIn at octets =
    (IsOpen octets × (at ≡ 0 → kind_of octets ≡ kind.unit))
    ⊎ ((at ≡ 0) × (kind_of octets ≡ kind.letter) × IsHeadAnswer octets (Ok NeedMore))

-- how octets end that were not taken
abbrev pub EndsSo : ℕ → List ℕ → End → Type 0
EndsSo at [] end = end ≡ Finished
EndsSo at (octet ∷ octets) end = (end ≡ Cut (length (octet ∷ octets))) × IsCutIn at (octet ∷ octets)

-- nothing comes behind the end of the input
nothing-comes : (has_ended : Bool) (more : List ℕ) → has_ended ≡ true → MayCome has_ended more → more ≡ []
nothing-comes true more e h = h
nothing-comes false more e h = absurd cc

-- the connection is unchanged but for its end
pub record Ends {S : Type 0} (old new : ConnectionState S) (end : End) : Type 0 where
  pub goes : old.end ≡ None
  pub rests : old.in_work ≡ None
  pub ended : new.end ≡ Some end
  pub input : new.has_ended ≡ true
  pub marks : new.marks ≡ old.marks
  pub out : new.out ≡ old.out

-- the answers where nothing is left
finished-answers : {W S : Type 0} (w : world.Ghosts W) (route : Route) (fed written : List ℕ) (old new : ConnectionState S)
    (rb : Rests w route fed written old) → old.left ≡ [] → new.marks ≡ old.marks → new.out ≡ old.out
    → Answers w route (fed ++ []) new.marks (written ++ new.out) Finished
finished-answers w route fed written old new rb left marks out =
    by-units (Answers w route (fed ++ []) new.marks (written ++ new.out) Finished) rb.units fed rb.kind
    (λ begins. rest-answers w route fed written [] old new None Finished rb (kind-more fed [] begins)
    (subst (λ (l : List ℕ). RestLeadsTo (length (octets_of rb.units)) (l ++ []) (ends None Finished)) (sym left) refl) marks
    (no-reply written old.out new.out rb.answered.got.replies rb.answered.replies out))
    (λ none.
    let first = first-state w route fed written old rb none in
    subst (λ (m : List Mark). Answers w route (fed ++ []) m (written ++ new.out) Finished) (sym first.marks ∙ sym marks)
    (none-ended w route (fed ++ []) (written ++ new.out)
    (ap kind_of (append-nil fed ∙ first.fed-is ∙ left)) (ap (λ o. written ++ o) out ∙ first.out)))

-- the answers where the input ends inside a unit
cut-answers : {W S : Type 0} (w : world.Ghosts W) (route : Route) (fed written : List ℕ) (old new : ConnectionState S) (octet : ℕ)
    (octets : List ℕ) (rb : Rests w route fed written old) → old.left ≡ octet ∷ octets → IsOpen (octet ∷ octets)
    → (old.at ≡ 0 → kind_of (octet ∷ octets) ≡ kind.unit) → new.marks ≡ old.marks → new.out ≡ old.out
    → Answers w route (fed ++ []) new.marks (written ++ new.out) (Cut (length (octet ∷ octets)))
cut-answers w route fed written old new octet octets rb left is_open first marks out =
    let end : End = Cut (length (octet ∷ octets)) in
    let of_units = kind-fed rb.units fed old.left old.at rb.spelled rb.offset rb.kind (λ z. ap kind_of left ∙ first z) in
    rest-answers w route fed written [] old new None end rb (kind-more fed [] of_units)
    (subst (λ (l : List ℕ). RestLeadsTo (length (octets_of rb.units)) l (ends None end)) (sym (append-nil old.left ∙ left))
    (inl (is_open, refl))) marks (no-reply written old.out new.out rb.answered.got.replies rb.answered.replies out)

-- the answers where it ends inside the head of an HTTP connection
head_cut-answers : {W S : Type 0} (w : world.Ghosts W) (route : Route) (fed written : List ℕ) (old new : ConnectionState S)
    (left : List ℕ) (rb : Rests w route fed written old) → HeadIsCut w → old.left ≡ left → old.at ≡ 0 → kind_of left ≡ kind.letter
    → IsHeadAnswer left (Ok NeedMore) → new.marks ≡ old.marks → new.out ≡ old.out
    → Answers w route (fed ++ []) new.marks (written ++ new.out) (Cut (length left))
head_cut-answers w route fed written old new left rb law e zero is_letter more marks out =
    let end : End = Cut (length left) in
    let none = none-at_0 rb.units rb.answered.has_run.each (sym rb.offset ∙ zero) in
    let first = first-state w route fed written old rb none in
    let by_octets = subst (λ (o : List ℕ). Answers w route o [] [] end) (sym (append-nil fed ∙ first.fed-is ∙ e)) (law route left is_letter more) in
    let by_marks = subst (λ (m : List Mark). Answers w route (fed ++ []) m [] end) (sym (marks ∙ first.marks)) by_octets in
    subst (λ (o : List ℕ). Answers w route (fed ++ []) new.marks o end) (sym (ap (λ o. written ++ o) out ∙ first.out)) by_marks

-- each of these
cut_in-answers : {W S : Type 0} (w : world.Ghosts W) (route : Route) (fed written : List ℕ) (old new : ConnectionState S) (octet : ℕ)
    (octets : List ℕ) (rb : Rests w route fed written old) → HeadIsCut w → old.left ≡ octet ∷ octets
    → IsCutIn old.at (octet ∷ octets) → new.marks ≡ old.marks → new.out ≡ old.out
    → Answers w route (fed ++ []) new.marks (written ++ new.out) (Cut (length (octet ∷ octets)))
cut_in-answers w route fed written old new octet octets rb law e (inl so) marks out =
    cut-answers w route fed written old new octet octets rb e so.0 so.1 marks out
cut_in-answers w route fed written old new octet octets rb law e (inr so) marks out =
    head_cut-answers w route fed written old new (octet ∷ octets) rb law e so.0 so.1 so.2 marks out

ends-answers : {W S : Type 0} (w : world.Ghosts W) (route : Route) (fed written : List ℕ) (old new : ConnectionState S) (end : End)
    (left : List ℕ) (rb : Rests w route fed written old) → HeadIsCut w → old.left ≡ left → EndsSo old.at left end
    → new.marks ≡ old.marks → new.out ≡ old.out → Answers w route (fed ++ []) new.marks (written ++ new.out) end
ends-answers w route fed written old new end [] rb law e so marks out =
    subst (λ (x : End). Answers w route (fed ++ []) new.marks (written ++ new.out) x) (sym so)
    (finished-answers w route fed written old new rb e marks out)
ends-answers w route fed written old new end (octet ∷ octets) rb law e so marks out =
    subst (λ (x : End). Answers w route (fed ++ []) new.marks (written ++ new.out) x) (sym so.0)
    (cut_in-answers w route fed written old new octet octets rb law e so.1 marks out)

-- a connection whose input has ended is answered whole
pub end-keeps : {W S : Type 0} (w : world.Ghosts W) (route : Route) (old new : ConnectionState S) (end : End) → HeadIsCut w
    → Ends old new end → EndsSo old.at old.left end → KeepsState w route old new
end-keeps w route old new end law t so = λ fair fed written h.
    let rb = rests-of w route fed written old t.goes t.rests h in
    of-ended w route fed written new end t.ended
    (λ more may.
    subst (λ (m : List ℕ). Answers w route (fed ++ m) new.marks (written ++ new.out) end)
    (sym (nothing-comes new.has_ended more t.input may))
    (ends-answers w route fed written old new end old.left rb law refl so t.marks t.out))

-- ---- octets that are no unit

-- octets of which no continuation begins with a unit
abbrev pub BadSo : ℕ → List ℕ → ℕ → Type 0
BadSo at [] state = ⊥
BadSo at (octet ∷ octets) state =
    IsBad (octet ∷ octets) × (state ≡ at) × (at ≡ 0 → kind_of (octet ∷ octets) ≡ kind.unit)

-- the connection is unchanged but for a Close, and its end
pub record Refuses {S : Type 0} (old new : ConnectionState S) (at : ℕ) : Type 0 where
  pub goes : old.end ≡ None
  pub rests : old.in_work ≡ None
  pub ended : new.end ≡ Some (Malformed at)
  pub marks : new.marks ≡ old.marks
  pub out : new.out ≡ old.out ++ spell_reply bad_unit_reply

-- octets stay bad whatever follows them
bad-more : (rest more : List ℕ) → IsBad rest → IsBad (rest ++ more)
bad-more rest more bad o = bad (more ++ o.0, (o.1.0, o.1.1, o.1.2, sym (append_assoc rest more o.0) ∙ o.1.3))

-- the answers where no unit can come
bad-answers : {W S : Type 0} (w : world.Ghosts W) (route : Route) (fed written more : List ℕ) (old new : ConnectionState S) (octet : ℕ)
    (octets : List ℕ) (rb : Rests w route fed written old) → old.left ≡ octet ∷ octets → IsBad (octet ∷ octets)
    → (old.at ≡ 0 → kind_of (octet ∷ octets) ≡ kind.unit) → new.marks ≡ old.marks
    → new.out ≡ old.out ++ spell_reply bad_unit_reply
    → Answers w route (fed ++ more) new.marks (written ++ new.out) (Malformed old.at)
bad-answers w route fed written more old new octet octets rb left bad first marks out =
    let of_units = kind-fed rb.units fed old.left old.at rb.spelled rb.offset rb.kind (λ z. ap kind_of left ∙ first z) in
    let end : End = Malformed (within64 (length (octets_of rb.units))) in
    subst (λ (a : ℕ). Answers w route (fed ++ more) new.marks (written ++ new.out) (Malformed a)) (sym rb.offset)
    (rest-answers w route fed written more old new (Some bad_unit_reply) end rb (kind-more fed more of_units)
    (subst (λ (l : List ℕ). RestLeadsTo (length (octets_of rb.units)) (l ++ more) (ends (Some bad_unit_reply) end)) (sym left)
    (inr (bad-more (octet ∷ octets) more bad, refl))) marks
    (last-reply written old.out new.out rb.answered.got.replies bad_unit_reply rb.answered.replies out))

-- either
refused-answers : {W S : Type 0} (w : world.Ghosts W) (route : Route) (fed written more : List ℕ) (old new : ConnectionState S) (at : ℕ)
    (left : List ℕ) (rb : Rests w route fed written old) → old.left ≡ left → BadSo old.at left at
    → new.marks ≡ old.marks → new.out ≡ old.out ++ spell_reply bad_unit_reply
    → Answers w route (fed ++ more) new.marks (written ++ new.out) (Malformed at)
refused-answers w route fed written more old new at [] rb e so marks out = absurd so
refused-answers w route fed written more old new at (octet ∷ octets) rb e so marks out =
    subst (λ (a : ℕ). Answers w route (fed ++ more) new.marks (written ++ new.out) (Malformed a)) (sym so.1)
    (bad-answers w route fed written more old new octet octets rb e so.0 so.2 marks out)

-- a connection that is refused is answered whole, whatever may still come
pub refuse-keeps : {W S : Type 0} (w : world.Ghosts W) (route : Route) (old new : ConnectionState S) (at : ℕ)
    → Refuses old new at → BadSo old.at old.left at → KeepsState w route old new
refuse-keeps w route old new at t so = λ fair fed written h.
    let rb = rests-of w route fed written old t.goes t.rests h in
    of-ended w route fed written new (Malformed at) t.ended
    (λ more may. refused-answers w route fed written more old new at old.left rb refl so t.marks t.out)
