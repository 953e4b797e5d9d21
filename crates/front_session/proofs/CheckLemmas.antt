-- What checks answer, one behind another
use Rattle.std.proofs.Common.{◌≡◌, ◌≤◌, refl, ℕ, Bool, true, false, cond, List, [], ◌∷◌, length, Option, None, Some, Result, Ok, Err, nat_lt}
use Rattle.std.proofs.lemmas.Bool.{ltb-false}
use Rattle.z_types.specs.declared.diagnostic.Diag.{Diag}
use Rattle.route_config.specs.declared.route.Route.{Route}
use Rattle.virt_db.specs.Legs.{few_legs, legs_of}
use Rattle.z_types.specs.Bounds.{most_legs}
use Rattle.virt_db.specs.declared.fault.DbFault.{DbFault}
use Rattle.gateway_rules.specs.Asking as asking
use Rattle.gateway_rules.specs.Checks.{checked}
use Rattle.front_session.specs.Refusals.{IsRefusal, FailsWith, first_diagnostic}
use Rattle.front_session.specs.declared.refusal.Refusal.{Refusal}
use Rattle.front_session.specs.declared.refusal.Refusal.TheVariants.{Refused, Memory}

-- where all checks pass, what comes behind them
pub checked_passes : {A : Type 0} (cs : List (Option Diag)) (behind : Result A Diag) → first_diagnostic cs ≡ None → checked cs behind ≡ behind
checked_passes [] behind h = refl
checked_passes (None ∷ cs) behind h = checked_passes cs behind h
checked_passes (Some diag ∷ cs) behind h = cc

-- the first refusal is the answer
pub checked_first : {A : Type 0} (cs : List (Option Diag)) (behind : Result A Diag) (diag : Diag) → first_diagnostic cs ≡ Some diag → checked cs behind ≡ Err diag
checked_first [] behind diag h = cc
checked_first (None ∷ cs) behind diag h = checked_first cs behind diag h
checked_first (Some other ∷ cs) behind diag h = cc

-- the same, of what is due
pub due_refused : (cs : List (Option Diag)) (behind : Result asking.Asking Diag) (e : Refusal) → IsRefusal (first_diagnostic cs) e → FailsWith (checked cs behind) e
due_refused cs behind (Refused diag) h = checked_first cs behind diag h
due_refused cs behind Memory h = tt

few : (b : Bool) (xs legs : List ℕ) (fault : DbFault) → cond b (Err fault) (Ok xs) ≡ Ok legs → (b ≡ false) × (xs ≡ legs)
few true xs legs fault h = (cc, cc)
few false xs legs fault h = (refl, cc)

-- legs that are not too many
few_are : (xs legs : List ℕ) → few_legs xs ≡ Ok legs → (xs ≡ legs) × (length xs ≤ most_legs)
few_are xs legs h =
    let both = few (nat_lt most_legs (length xs)) xs legs _ h in
    (both.1, ltb-false most_legs (length xs) both.0)

-- the legs that were found are those of the databases
pub legs_found : (route : Route) (names : List (List ℕ)) (legs : List ℕ) → few_legs (legs_of route names) ≡ Ok legs → (legs_of route names ≡ legs) × (length (legs_of route names) ≤ most_legs)
legs_found route names legs h = few_are (legs_of route names) legs h
