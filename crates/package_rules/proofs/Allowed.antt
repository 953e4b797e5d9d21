-- The cause of a request by its legs' answers is one that the classes which it asks allow
use Rattle.std.proofs.Common.{◌≡◌, ◌<◌, ℕ, List, [], ◌∷◌, ◌++◌, length, All, Contains, Option, None, Some, ap, sym, subst, arith, slice_get, option_map, option_to_list}
use Rattle.std.specs.Option.{option_map_or}
use Rattle.std.proofs.lemmas.List.Elements.{All-append, All-cons, All-get_or, All-head, All-nil, All-tail, All-weaker, Contains-get_or}
use Rattle.std.proofs.lemmas.Option.{get_or_from_slice_get, slice_get_within}
use Rattle.z_types.specs.declared.marks.Mark.{Mark}
use Rattle.z_types.specs.declared.marks.Mark.TheVariants as mark
use Rattle.z_types.specs.declared.work.Work.{Work}
use Rattle.z_types.specs.declared.world.World as world
use Rattle.route_config.specs.Sound.{IsSound}
use Rattle.route_config.specs.declared.route.Class.{Class}
use Rattle.route_config.specs.declared.route.Route.{Route}
use Rattle.route_config.specs.declared.route.RouteLeg.{RouteLeg}
use Rattle.virt_db.specs.Legs.{LegAt, leg_at}
use Rattle.gateway_rules.specs.Marks.{Cause, IsAllowed}
use Rattle.gateway_rules.specs.Outcomes.{classes_asked, legs_asked}
use Rattle.gateway_rules.specs.Targets.{class_of}
use Rattle.package_rules.specs.declared.answered.Answered.{Answered}
use Rattle.package_rules.specs.Asked.{Asked, first_asked}
use Rattle.package_rules.specs.Planned.{then_asked_by}
use Rattle.package_rules.specs.Said.{cause_of, cause_or, class_name, mark_of}
use Rattle.package_rules.specs.Truth.{AreAnswersTo, CauseIsAllowed, HaveMembers}
use Rattle.package_rules.proofs.LegsAsked.{AreOf, Contains-flat_map, IsLegOf, first_of, later_of}
use Rattle.package_rules.proofs.Told.{IsThere, item_there, leg_is}

-- ---- the class of a leg

all_at : {X : Type 0} (P : X → Type 0) (xs : List X) (i : ℕ) (x : X) → All P xs → slice_get xs i ≡ Some x → P x
all_at P xs i x all is = subst P (get_or_from_slice_get xs i x x is) (All-get_or P xs i x (slice_get_within xs i x is) all)

-- where each class has a member, a leg of the route is there
record IsLegThere (route : Route) (place : ℕ) : Type 0 where
  pub at : LegAt
  pub there : leg_at route place ≡ Some at

leg_there : (route : Route) (place : ℕ) → IsSound route → HaveMembers route → place < length route.legs → IsLegThere route place
leg_there route place sound members inside =
    let leg : IsThere route.legs place = item_there route.legs place inside in
    let database : IsThere route.databases leg.item.database =
    item_there route.databases leg.item.database
    (all_at (λ (l : RouteLeg). l.database < length route.databases) route.legs place leg.item sound.places.databases leg.is) in
    let class : IsThere route.classes leg.item.class =
    item_there route.classes leg.item.class
    (all_at (λ (l : RouteLeg). l.class < length route.classes) route.legs place leg.item sound.places.classes leg.is) in
    let first : IsThere class.item.addresses 0 =
    item_there class.item.addresses 0
    (all_at (λ (c : Class). 0 < length c.addresses) route.classes leg.item.class class.item members class.is) in
    record {
      at = record { database = database.item; class = class.item; address = first.item; dbs = leg.item.databases };
      there = leg_is route place leg.item database.item class.item first.item leg.is database.is class.is first.is;
    }

-- a leg that is there has the class of its name
has_class : (route : Route) (place : ℕ) → IsLegThere route place → Contains (class_of route place) (class_name route place)
has_class route place leg =
    let names : List (List ℕ) = class_of route place in
    let of : class_of route place ≡ leg.at.class.name ∷ [] =
    ap (λ (found : Option LegAt). option_to_list (option_map (λ (x : LegAt). x.class.name) found)) leg.there in
    let name : class_name route place ≡ leg.at.class.name =
    ap (λ (found : Option LegAt). option_map_or (λ (x : LegAt). x.class.name) found []) leg.there in
    subst (λ (ns : List (List ℕ)). Contains ns (class_name route place)) (sym of)
    (subst (λ (n : List ℕ). Contains (leg.at.class.name ∷ []) n) (sym name)
    (Contains-get_or (leg.at.class.name ∷ []) 0 [] (omega arith)))

-- so it is one of the classes that a work asks
class_asked : (route : Route) (asked : Work) (leg : ℕ) → IsSound route → HaveMembers route → IsLegOf route asked leg
    → Contains (classes_asked route asked) (class_name route leg)
class_asked route asked leg sound members is =
    Contains-flat_map (class_of route) (legs_asked asked) leg (class_name route leg) is.named
    (has_class route leg (leg_there route leg sound members is.there))

-- ---- answers

-- the leg of an answer is the leg that was asked
answered_of : {W : Type 0} (w : world.Ghosts W) (route : Route) (P : ℕ → Type 0) (asked : List Asked) (answers : List Answered)
    → AreAnswersTo w route asked answers → AreOf P asked → All (λ (a : Answered). P a.leg) answers
answered_of w route P [] [] all each = All-nil (λ (a : Answered). P a.leg)
answered_of w route P [] (a ∷ answers) all each = absurd all
answered_of w route P (ask ∷ others) [] all each = absurd all
answered_of w route P (ask ∷ others) (a ∷ answers) all each =
    All-cons (λ (x : Answered). P x.leg) a answers (subst P (sym all.0.leg) (All-head (λ (x : Asked). P x.leg) ask others each))
    (answered_of w route P others answers all.1 (All-tail (λ (x : Asked). P x.leg) ask others each))

module _ (route : Route) (classes : List (List ℕ)) where
  abbrev MayBe : Cause → Type 0
  MayBe cause = IsAllowed (record { classes = classes; cause = cause })

  -- a mark may come of a leg whose class is asked
  may_come : (leg : ℕ) (m : Mark) (later : Cause) → Contains classes (class_name route leg) → MayBe (cause_or route leg (Some m) later)
  may_come leg mark.Plain later is = tt
  may_come leg mark.Link later is = is
  may_come leg (mark.Silent looks) later is = is
  may_come leg mark.Gone later is = is
  may_come leg (mark.Full sessions) later is = is

  one_allowed : (leg : ℕ) (found : Option Mark) (later : Cause) → Contains classes (class_name route leg) → MayBe later
      → MayBe (cause_or route leg found later)
  one_allowed leg None later is rest = rest
  one_allowed leg (Some m) later is rest = may_come leg m later is

  all_allowed : (answers : List Answered) → All (λ (a : Answered). Contains classes (class_name route a.leg)) answers
      → MayBe (cause_of route answers)
  all_allowed [] each = tt
  all_allowed (a ∷ answers) each =
      one_allowed a.leg (mark_of a.answer) (cause_of route answers)
      (All-head (λ (x : Answered). Contains classes (class_name route x.leg)) a answers each)
      (all_allowed answers (All-tail (λ (x : Answered). Contains classes (class_name route x.leg)) a answers each))

pub cause-allowed : {W : Type 0} (w : world.Ghosts W) → CauseIsAllowed w
cause-allowed w route asked first later sound members there are =
    let P : ℕ → Type 0 = IsLegOf route asked in
    let each : All (λ (a : Answered). P a.leg) (first ++ later) =
    All-append (λ (a : Answered). P a.leg) first later
    (answered_of w route P (first_asked route asked) first are.at_first (first_of route asked there))
    (answered_of w route P (then_asked_by route asked first) later are.then (later_of route asked first there)) in
    all_allowed route (classes_asked route asked) (first ++ later)
    (All-weaker (λ (a : Answered). P a.leg) (λ (a : Answered). Contains (classes_asked route asked) (class_name route a.leg))
    (λ a is. class_asked route asked a.leg sound members is) (first ++ later) each)
