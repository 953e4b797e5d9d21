-- The first fault of lists one behind another.
use Rattle.std.proofs.Common.{◌≡◌, List, [], ◌∷◌, ◌++◌, inl, inr, ⊎_elim, sym, subst, refl}
use Rattle.z_types.specs.declared.sru.SruDiag.{SruDiag}
use Rattle.sru_request.specs.declared.faults.QueryFault.{QueryFault}
use Rattle.sru_request.specs.declared.faults.QueryFault.TheVariants as fault
use Rattle.sru_request.specs.Checks.{IsFirst, IsRefusal}

first_front : (xs ys : List SruDiag) (e : QueryFault) → IsFirst xs e → IsFirst (xs ++ ys) e
first_front [] ys e h = absurd h
first_front (x ∷ xs) ys e h = h

-- a fault in front is told
pub refusal_front : (xs ys : List SruDiag) (e : QueryFault) → IsRefusal xs e → IsRefusal (xs ++ ys) e
refusal_front xs ys e h = ⊎_elim (λ (m : e ≡ fault.Memory). inl m) (λ (f : IsFirst xs e). inr (first_front xs ys e f)) h

-- and where there is none in front, the first behind
pub refusal_behind : (xs ys : List SruDiag) (e : QueryFault) → xs ≡ [] → IsRefusal ys e → IsRefusal (xs ++ ys) e
refusal_behind xs ys e none h = subst (λ (fs : List SruDiag). IsRefusal (fs ++ ys) e) (sym none) h

-- nothing in lists that are empty
pub none_behind : (xs ys : List SruDiag) → xs ≡ [] → ys ≡ [] → xs ++ ys ≡ []
none_behind xs ys e f = rw (e, f) refl

-- the steps of checks
pub ruleset check_steps = (refusal_front, refusal_behind, none_behind)
