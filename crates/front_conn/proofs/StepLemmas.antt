-- A step of a connection with no request in work does what its contract says, by what the connection goes on with.
use Rattle.std.proofs.Common.{◌≡◌, ℕ, Bool, false, true, List, [], ◌∷◌, ◌++◌, Option, Some, None, Result, Ok, Err, refl, sym, ◌∙◌, subst, ap, inl, inr}
use Rattle.std.specs.Prelude.{IfOk, IfSome, IsSome, OnErr, OnOk}
use Rattle.std.specs.List.{AllByRecursion}
use Rattle.z_types.specs.declared.marks.End.{End}
use Rattle.z_types.specs.declared.marks.End.TheVariants.{Malformed}
use Rattle.z_types.specs.declared.memory.Memory as memory
use Rattle.z_types.specs.declared.sitting.Sitting as sitting
use Rattle.z_types.specs.declared.world.World as world
use Rattle.route_config.specs.declared.route.Route.{Route}
use Rattle.unit_forms.specs.Replies.{spell_reply}
use Rattle.z_frame.specs.Framing.{Framing}
use Rattle.front_z.specs.gateway_rules.Replies.{bad_unit_reply}
use Rattle.package.specs.steps.Packages.{IsPackageOf, PackageView}
use Rattle.front_conn.specs.steps.Ahead.{AreAhead}
use Rattle.sru_request.specs.declared.faults.HeadFault.{HeadFault}
use Rattle.sru_request.specs.declared.head.Get.{Get}
use Rattle.front_http.specs.sru_rules.Laws.{HeadIsCut}
use Rattle.front_z.specs.front_session.Sessions.{SessionState}
use Rattle.front_http.specs.Laws.{HeadsAnswer, HeadsStand}
use Rattle.front_conn.specs.steps.Answering.{AnsweringState, IsBegunSo, IsEndAfter, IsHeadBegunSo, IsHeadTaken, IsUnbegun, IsUnitBegun}
use Rattle.front_conn.specs.steps.States.{ConnectionState, HasLegsOf, IsOfRoute, IsOneWork, IsStateOf}
use Rattle.front_conn.specs.steps.Steps.{EndsAtRest, GoesAhead, KeepsState, NothingWaits, UnlessMemory}
use Rattle.front_conn.specs.declared.ahead.Ahead.TheVariants.{Nothing, Ended, Bad, Whole, Head}
use Rattle.front_conn.specs.declared.stepped.Stepped.{Stepped}
use Rattle.front_conn.proofs.AheadLemmas.{ahead-bad, ahead-ended, ahead-head, ahead-nothing, ahead-whole, busy-bad, busy-ended, busy-head, busy-whole}
use Rattle.front_conn.proofs.HeadKeeps.{head-keeps, taken-ends}
use Rattle.front_conn.proofs.EndLemmas.{EndsSo, end-keeps, frame-octets, refuse-keeps}
use Rattle.front_conn.proofs.UnitLemmas.{begun-ends, unit-keeps, unit-sets}

-- how the end of the input ends it
ends-at : (has_ended : Bool) (at : ℕ) (left : List ℕ) (how : End) → has_ended ≡ true → EndsSo at left how → EndsAtRest has_ended (Some how)
ends-at has_ended at [] how is so = subst (λ (e : End). EndsAtRest has_ended (Some e)) (sym so) is
ends-at has_ended at (octet ∷ octets) how is so = subst (λ (e : End). EndsAtRest has_ended (Some e)) (sym so.0) is

module _ {S : Type 0} where
  -- the state of a connection with such parts
  abbrev pub state_of : Framing → AnsweringState S → Option End → Bool → ConnectionState S
  state_of f a end has_ended = record {
    session = a.session;
    stage = a.stage;
    in_work = a.in_work;
    totals = a.totals;
    marks = a.marks;
    out = a.out;
    at = f.end;
    left = f.rest;
    has_ended = has_ended;
    end = end;
  }

  -- ---- nothing

  pub goes-nothing : (route : Route) (f g : Framing) (a : AnsweringState S) (end : Option End) (has_ended : Bool)
      (old : ConnectionState S) → state_of f a end has_ended ≡ old → AreAhead f.rest has_ended f g Nothing
      → NothingWaits old × (state_of g a end has_ended ≡ old)
  goes-nothing route f g a end has_ended old e h =
      let here : ConnectionState S = state_of f a end has_ended in
      let ahead = ahead-nothing f.rest has_ended f g here refl refl h in
      let at = ahead.2.stays.place in
      let left = ahead.2.stays.rest in
      let same : state_of g a end has_ended ≡ here = λ i. record here { at = at i; left = left i } in
      (subst NothingWaits e (record { goes_on = ahead.0; unfinished = ahead.1 }), same ∙ e)

  -- ---- the end of the input

  pub goes-ended : (route : Route) (f g : Framing) (a : AnsweringState S) (end new_end : Option End) (has_ended : Bool)
      (old : ConnectionState S) (how : End) (answer : Stepped) → state_of f a end has_ended ≡ old
      → AreAhead f.rest has_ended f g (Ended how) → IsEndAfter (Ok (Some how)) new_end answer
      → GoesAhead route old (state_of g a new_end has_ended) answer
  goes-ended route f g a end new_end has_ended old how answer e h done =
      let here : ConnectionState S = state_of f a end has_ended in
      let new : ConnectionState S = state_of g a new_end has_ended in
      let ahead = ahead-ended f.rest has_ended f g how refl h in
      let some : EndsAtRest has_ended new_end =
      subst (λ (o : Option End). EndsAtRest has_ended o) (sym done.0) (ends-at has_ended f.end f.rest how ahead.0 ahead.1) in
      subst (λ (o : ConnectionState S). GoesAhead route o new answer) e
      (subst (λ (s : Stepped). GoesAhead route here new s) (sym done.1) (
        busy-ended here ahead.0,
        refl,
        inr (inr (record {
          left = ahead.2.stays.rest;
          at = ahead.2.stays.place;
          session = refl;
          in_work = refl;
          totals = refl;
          marks = refl;
          ended = some;
        })),
      ))

  pub keeps-ended : {W : Type 0} (w : world.Ghosts W) (law : HeadIsCut w) (route : Route) (f g : Framing) (a : AnsweringState S) (end new_end : Option End)
      (has_ended : Bool) (old : ConnectionState S) (how : End) (answer : Stepped) → state_of f a end has_ended ≡ old → end ≡ None
      → a.in_work ≡ None → AreAhead f.rest has_ended f g (Ended how) → IsEndAfter (Ok (Some how)) new_end answer
      → UnlessMemory answer (KeepsState w route old (state_of g a new_end has_ended))
  keeps-ended w law route f g a end new_end has_ended old how answer e goes rests h done =
      let here : ConnectionState S = state_of f a end has_ended in
      let new : ConnectionState S = state_of g a new_end has_ended in
      let ahead = ahead-ended f.rest has_ended f g how refl h in
      let keeps = end-keeps w route here new how law
      (record { goes = goes; rests = rests; ended = done.0; input = ahead.0; marks = refl; out = refl }) ahead.1 in
      subst (λ (s : Stepped). UnlessMemory s (KeepsState w route old new)) (sym done.1)
      (subst (λ (o : ConnectionState S). KeepsState w route o new) e keeps)

  -- ---- octets that are no unit

  pub goes-bad : (route : Route) (f g : Framing) (a b : AnsweringState S) (end new_end : Option End) (has_ended : Bool)
      (old : ConnectionState S) (at : ℕ) (done : Result (Option End) memory.Memory) (answer : Stepped) → state_of f a end has_ended ≡ old
      → a.in_work ≡ None → AreAhead f.rest has_ended f g (Bad at) → IfOk done (λ ended. ended ≡ Some (Malformed at))
      → OnOk done (b ≡ record a { out = a.out ++ spell_reply bad_unit_reply }) → OnErr done (b ≡ a) → IsEndAfter done new_end answer
      → GoesAhead route old (state_of g b new_end has_ended) answer
  goes-bad route f g a b end new_end has_ended old at (Ok ended) answer e rests h how put none done =
      let here : ConnectionState S = state_of f a end has_ended in
      let new : ConnectionState S = state_of g b new_end has_ended in
      let ahead = ahead-bad f.rest has_ended f g at refl h in
      let some : EndsAtRest has_ended new_end = subst (λ (o : Option End). EndsAtRest has_ended o) (sym (done.0 ∙ how)) tt in
      subst (λ (o : ConnectionState S). GoesAhead route o new answer) e
      (subst (λ (s : Stepped). GoesAhead route here new s) (sym done.1) (
        busy-bad here at ahead.0,
        refl,
        inr (inr (record {
          left = ahead.1.rest;
          at = ahead.1.place;
          session = ap (λ (s : AnsweringState S). s.session) put;
          in_work = ap (λ (s : AnsweringState S). s.in_work) put;
          totals = ap (λ (s : AnsweringState S). s.totals) put;
          marks = ap (λ (s : AnsweringState S). s.marks) put;
          ended = some;
        })),
      ))
  goes-bad route f g a b end new_end has_ended old at (Err want) answer e rests h how put none done =
      let here : ConnectionState S = state_of f a end has_ended in
      let new : ConnectionState S = state_of g b new_end has_ended in
      let unbegun : IsUnbegun route a b = record {
        unwritten = record { out = ap (λ (s : AnsweringState S). s.out) none; marks = ap (λ (s : AnsweringState S). s.marks) none };
        in_work = ap (λ (s : AnsweringState S). s.in_work) none ∙ rests;
        totals = inl (ap (λ (s : AnsweringState S). s.totals) none);
      } in
      subst (λ (o : ConnectionState S). GoesAhead route o new answer) e
      (subst (λ (s : Stepped). GoesAhead route here new s) (sym done.1) (record { ended = done.0; has_ended = refl; unbegun = unbegun }))

  pub keeps-bad : {W : Type 0} (w : world.Ghosts W) (route : Route) (f g : Framing) (a b : AnsweringState S) (end new_end : Option End)
      (has_ended : Bool) (old : ConnectionState S) (at : ℕ) (done : Result (Option End) memory.Memory) (answer : Stepped)
      → state_of f a end has_ended ≡ old → end ≡ None → a.in_work ≡ None → AreAhead f.rest has_ended f g (Bad at)
      → IfOk done (λ ended. ended ≡ Some (Malformed at)) → OnOk done (b ≡ record a { out = a.out ++ spell_reply bad_unit_reply })
      → IsEndAfter done new_end answer → UnlessMemory answer (KeepsState w route old (state_of g b new_end has_ended))
  keeps-bad w route f g a b end new_end has_ended old at (Ok ended) answer e goes rests h how put done =
      let here : ConnectionState S = state_of f a end has_ended in
      let new : ConnectionState S = state_of g b new_end has_ended in
      let ahead = ahead-bad f.rest has_ended f g at refl h in
      let keeps = refuse-keeps w route here new at (record {
        goes = goes;
        rests = rests;
        ended = done.0 ∙ how;
        marks = ap (λ (s : AnsweringState S). s.marks) put;
        out = ap (λ (s : AnsweringState S). s.out) put;
      }) ahead.0 in
      subst (λ (s : Stepped). UnlessMemory s (KeepsState w route old new)) (sym done.1)
      (subst (λ (o : ConnectionState S). KeepsState w route o new) e keeps)
  keeps-bad w route f g a b end new_end has_ended old at (Err want) answer e goes rests h how put done =
      subst (λ (s : Stepped). UnlessMemory s (KeepsState w route old (state_of g b new_end has_ended))) (sym done.1) tt

  -- ---- a unit

  pub goes-whole : (route : Route) (f g : Framing) (a b : AnsweringState S) (end new_end : Option End) (has_ended : Bool)
      (old : ConnectionState S) (from to : ℕ) (unit : List ℕ) (done : Result (Option End) memory.Memory) (answer : Stepped)
      → state_of f a end has_ended ≡ old → AreAhead f.rest has_ended f g (Whole from to) → unit ≡ g.unit
      → IfOk done (IsUnitBegun route from unit a b) → OnErr done (IsUnbegun route a b) → IsEndAfter done new_end answer
      → GoesAhead route old (state_of g b new_end has_ended) answer
  goes-whole route f g a b end new_end has_ended old from to unit (Ok ended) answer e h is begun none done =
      let here : ConnectionState S = state_of f a end has_ended in
      let new : ConnectionState S = state_of g b new_end has_ended in
      let ahead = ahead-whole f.rest has_ended f g from to h in
      let at_unit = subst (λ (u : List ℕ). IsUnitBegun route from u a b ended) is begun in
      let at_place = subst (λ (p : ℕ). IsUnitBegun route p g.unit a b ended) ahead.from at_unit in
      let by_end = subst (λ (o : Option End). IsUnitBegun route f.end g.unit a b o) (sym done.0) at_place in
      subst (λ (o : ConnectionState S). GoesAhead route o new answer) e
      (subst (λ (s : Stepped). GoesAhead route here new s) (sym done.1) (
        busy-whole here g.unit g.rest ahead.given.frame ahead.given.spelled ahead.first,
        refl,
        inl (record {
          unit = g.unit;
          whole = ahead.given.frame;
          filled = frame-octets g.unit ahead.given.frame;
          taken = ahead.given.spelled;
          begun = by_end;
          ended = begun-ends route f.end g.unit a b new_end by_end;
        }),
      ))
  goes-whole route f g a b end new_end has_ended old from to unit (Err want) answer e h is begun none done =
      let here : ConnectionState S = state_of f a end has_ended in
      let new : ConnectionState S = state_of g b new_end has_ended in
      subst (λ (o : ConnectionState S). GoesAhead route o new answer) e
      (subst (λ (s : Stepped). GoesAhead route here new s) (sym done.1) (record { ended = done.0; has_ended = refl; unbegun = none }))

  pub keeps-whole : {W : Type 0} (w : world.Ghosts W) (route : Route) (f g : Framing) (a b : AnsweringState S) (end new_end : Option End)
      (has_ended : Bool) (old : ConnectionState S) (from to : ℕ) (unit : List ℕ) (done : Result (Option End) memory.Memory) (answer : Stepped)
      → state_of f a end has_ended ≡ old → end ≡ None → a.in_work ≡ None → AreAhead f.rest has_ended f g (Whole from to) → unit ≡ g.unit
      → IfOk done (IsUnitBegun route from unit a b) → IsEndAfter done new_end answer
      → UnlessMemory answer (KeepsState w route old (state_of g b new_end has_ended))
  keeps-whole w route f g a b end new_end has_ended old from to unit (Ok ended) answer e goes rests h is begun done =
      let here : ConnectionState S = state_of f a end has_ended in
      let new : ConnectionState S = state_of g b new_end has_ended in
      let ahead = ahead-whole f.rest has_ended f g from to h in
      let at_unit = subst (λ (u : List ℕ). IsUnitBegun route from u a b ended) is begun in
      let at_place = subst (λ (p : ℕ). IsUnitBegun route p g.unit a b ended) ahead.from at_unit in
      let by_end = subst (λ (o : Option End). IsUnitBegun route f.end g.unit a b o) (sym done.0) at_place in
      let keeps = unit-keeps w route here new g.unit (record {
        goes = goes;
        rests = rests;
        frame = ahead.given.frame;
        taken = ahead.given.spelled;
        first = ahead.first;
        place = ahead.given.ends;
        begun = by_end;
      }) in
      subst (λ (s : Stepped). UnlessMemory s (KeepsState w route old new)) (sym done.1)
      (subst (λ (o : ConnectionState S). KeepsState w route o new) e keeps)
  keeps-whole w route f g a b end new_end has_ended old from to unit (Err want) answer e goes rests h is begun done =
      subst (λ (s : Stepped). UnlessMemory s (KeepsState w route old (state_of g b new_end has_ended))) (sym done.1) tt

-- ---- a head

module _ {W S : Type 0} (w : world.Ghosts W) (t : sitting.Ghosts S W) (route : Route) (f g : Framing) (a b : AnsweringState S)
    (end new_end : Option End) (has_ended : Bool) (old : ConnectionState S) (head : Result Get HeadFault)
    (is : state_of f a end has_ended ≡ old) (ahead : AreAhead f.rest has_ended f g (Head head)) where
  abbrev at_head : ConnectionState S
  at_head = state_of f a end has_ended

  abbrev behind_head : ConnectionState S
  behind_head = state_of g b new_end has_ended

  pub goes-head : (done : Result (Option End) memory.Memory) (answer : Stepped) → IsHeadBegunSo w t route head a b done
      → IsEndAfter done new_end answer → GoesAhead route old behind_head answer
  goes-head (Ok ended) answer h done =
      let so = ahead-head f.rest has_ended f g head refl ahead in
      let taken = subst (λ (o : Option End). IsHeadTaken route head a b o) (sym done.0) h.0 in
      subst (λ (o : ConnectionState S). GoesAhead route o behind_head answer) is
      (subst (λ (s : Stepped). GoesAhead route at_head behind_head s) (sym done.1) (
        busy-head at_head head so.0,
        refl,
        inr (inl (record {
          at_start = so.0.0;
          first = so.0.1;
          head = head;
          is_head = so.0.2;
          at = so.1.stays.place;
          left = so.1.stays.rest;
          taken = taken;
          ended = taken-ends route head a b new_end taken;
        })),
      ))
  goes-head (Err want) answer h done =
      subst (λ (o : ConnectionState S). GoesAhead route o behind_head answer) is
      (subst (λ (s : Stepped). GoesAhead route at_head behind_head s) (sym done.1)
      (record { ended = done.0; has_ended = refl; unbegun = h }))

  pub keeps-head : HeadsAnswer w → HeadsStand w → end ≡ None → a.in_work ≡ None → (done : Result (Option End) memory.Memory)
      (answer : Stepped) → IsHeadBegunSo w t route head a b done → IsEndAfter done new_end answer
      → UnlessMemory answer (KeepsState w route old behind_head)
  keeps-head answers stands goes rests (Ok ended) answer h done =
      let so = ahead-head f.rest has_ended f g head refl ahead in
      let taken = subst (λ (o : Option End). IsHeadTaken route head a b o) (sym done.0) h.0 in
      let keeps = head-keeps w route at_head behind_head head answers stands (record {
        goes = goes;
        rests = rests;
        so = so.0;
        taken = taken;
        one_work = h.1.one_work;
      }) in
      subst (λ (s : Stepped). UnlessMemory s (KeepsState w route old behind_head)) (sym done.1)
      (subst (λ (o : ConnectionState S). KeepsState w route o behind_head) is keeps)
  keeps-head answers stands goes rests (Err want) answer h done =
      subst (λ (s : Stepped). UnlessMemory s (KeepsState w route old behind_head)) (sym done.1) tt

  pub head-of : (most : ℕ) (done : Result (Option End) memory.Memory) (answer : Stepped) → AllByRecursion (HasLegsOf route) a.session.sets
      → IsHeadBegunSo w t route head a b done → IsEndAfter done new_end answer → new_end ≡ None
      → IsOfRoute w t route most b.session b.stage b.in_work
  head-of most (Ok ended) answer sets h done goes = record {
    sets = subst (λ (s : SessionState). AllByRecursion (HasLegsOf route) s.sets) (sym h.0.session) sets;
    in_work = h.1.of most;
    one_work = h.1.one_work;
  }
  head-of most (Err want) answer sets h done goes = let wrong = sym done.0 ∙ goes in absurd cc

-- ---- by what begins a unit

module _ {W S : Type 0} (w : world.Ghosts W) (t : sitting.Ghosts S W) (route : Route) (at : ℕ) (unit : List ℕ) (a b : AnsweringState S) where
  pub begun-ok : (done : Result (Option End) memory.Memory) → IsBegunSo w t route at unit a b done → IfOk done (IsUnitBegun route at unit a b)
  begun-ok (Ok ended) h = h.0
  begun-ok (Err want) h = tt

  pub begun-err : (done : Result (Option End) memory.Memory) → IsBegunSo w t route at unit a b done → OnErr done (IsUnbegun route a b)
  begun-err (Ok ended) h = tt
  begun-err (Err want) h = h

  pub begun-of : (most : ℕ) (done : Result (Option End) memory.Memory) (end : Option End) (answer : Stepped)
      → AllByRecursion (HasLegsOf route) a.session.sets → IsBegunSo w t route at unit a b done → IsEndAfter done end answer → end ≡ None
      → IsOfRoute w t route most b.session b.stage b.in_work
  begun-of most (Ok ended) end answer sets h done goes = record {
    sets = unit-sets route at unit a b ended sets h.0 (sym done.0 ∙ goes);
    in_work = h.1.of most;
    one_work = h.1.one_work;
  }
  begun-of most (Err want) end answer sets h done goes = let wrong = sym done.0 ∙ goes in absurd cc

-- a connection that ended does not go on
some-ends : (done : Result (Option End) memory.Memory) (end : Option End) (answer : Stepped) → IfOk done IsSome → IsEndAfter done end answer
    → end ≡ None → ⊥
some-ends (Ok None) end answer some done goes = let wrong : false ≡ true = some in absurd cc
some-ends (Ok (Some how)) end answer some done goes = let wrong = sym done.0 ∙ goes in absurd cc
some-ends (Err want) end answer some done goes = let wrong = sym done.0 ∙ goes in absurd cc

pub ended-stays : {P : Type 0} (how : End) (end : Option End) (answer : Stepped) → IsEndAfter (Ok (Some how)) end answer → end ≡ None → P
ended-stays how end answer done goes = absurd (some-ends (Ok (Some how)) end answer refl done goes)

bad-some : (done : Result (Option End) memory.Memory) (at : ℕ) → IfOk done (λ ended. ended ≡ Some (Malformed at)) → IfOk done IsSome
bad-some (Ok ended) at h = subst (λ (o : Option End). IsSome o) (sym h) refl
bad-some (Err want) at h = tt

pub bad-stays : {P : Type 0} (done : Result (Option End) memory.Memory) (at : ℕ) (end : Option End) (answer : Stepped)
    → IfOk done (λ ended. ended ≡ Some (Malformed at)) → IsEndAfter done end answer → end ≡ None → P
bad-stays done at end answer how put goes = absurd (some-ends done end answer (bad-some done at how) put goes)

-- a connection with no request in work, whose sets are of the route
pub of-same : {W S : Type 0} (w : world.Ghosts W) (t : sitting.Ghosts S W) (route : Route) (most : ℕ) (a : AnsweringState S)
    → AllByRecursion (HasLegsOf route) a.session.sets → a.in_work ≡ None → IsOfRoute w t route most a.session a.stage a.in_work
of-same {S = S} w t route most a sets rests = record {
  sets = sets;
  in_work = subst (λ (i : Option (PackageView S)). IfSome i (IsPackageOf w t route most)) (sym rests) tt;
  one_work = subst (λ (i : Option (PackageView S)). IsOneWork route a.session.waiting a.stage i) (sym rests) tt;
}

-- a connection that stays as it was
pub same-keeps : {W S : Type 0} (w : world.Ghosts W) (route : Route) (old new : ConnectionState S) → new ≡ old → KeepsState w route old new
same-keeps {S = S} w route old new is = λ fair fed written h. subst (λ (s : ConnectionState S). IsStateOf w route fed written s) (sym is) h
