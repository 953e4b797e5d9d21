-- What stands at the front of a text stays while octets are put at its end.
use Rattle.std.proofs.Common.{◌≡◌, ◌∙◌, ℕ, ◌≤◌, List, ◌++◌, length, take, sym, ap, append_assoc, arith, refl}
use Rattle.std.proofs.lemmas.List.{take_at, take-take, length-append}

-- the front of a text that octets were put behind
pub kept_front : (old more new : List ℕ) → new ≡ old ++ more → take (length old) new ≡ old
kept_front old more new e = rw e (take_at old more (length old) refl)

-- a front of a front
pub kept_on : (old more mid new : List ℕ) → mid ≡ old ++ more → take (length mid) new ≡ mid → take (length old) new ≡ old
kept_on old more mid new e h =
    let n : length old ≤ length mid = omega (arith, length-append old more, ap length e) in
    sym (take-take (length old) (length mid) new n) ∙ ap (take (length old)) h ∙ kept_front old more mid e

-- octets put behind octets that were put
pub put_then : (old first mid more whole new : List ℕ) → mid ≡ old ++ first → whole ≡ first ++ more → new ≡ mid ++ more → new ≡ old ++ whole
put_then old first mid more whole new e f h = h ∙ ap (λ (t : List ℕ). t ++ more) e ∙ append_assoc old first more ∙ ap (λ (t : List ℕ). old ++ t) (sym f)
