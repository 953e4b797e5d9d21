-- What stands at the front of a text stays while octets are put at its end.
use Rattle.std.proofs.Common.{◌≡◌, ◌∙◌, ℕ, ◌≤◌, List, ◌++◌, length, take, sym, ap, arith, refl, Result, Ok, Err, OnOk, OnErr}
use Rattle.std.proofs.lemmas.List.{append_assoc, take_at, take-take, length-take}
use Rattle.z_write.specs.Kept.{StillBegins}

-- the front of a text that octets were put behind
pub kept_front : (old more new : List ℕ) → new ≡ old ++ more → StillBegins old new
kept_front old more new e = rw e (take_at old more (length old) refl)

-- a text that begins with another one is no shorter
pub kept-length : (old new : List ℕ) → StillBegins old new → length old ≤ length new
kept-length old new h = omega (arith, sym (length-take (length old) new) ∙ ap length h)

-- a front of a front
pub kept_through : (old mid new : List ℕ) → StillBegins old mid → StillBegins mid new → StillBegins old new
kept_through old mid new h k =
    sym (take-take (length old) (length mid) new (kept-length old mid h)) ∙ ap (take (length old)) k ∙ h

-- a front of a text that octets were put behind
pub kept_on : (old more mid new : List ℕ) → mid ≡ old ++ more → StillBegins mid new → StillBegins old new
kept_on old more mid new e h = kept_through old mid new (kept_front old more mid e) h

-- a text that octets were put behind, or a part of them where memory failed
pub kept_either : {A B : Type 0} (result : Result A B) (old more new : List ℕ) → OnOk result (new ≡ old ++ more) → OnErr result (StillBegins old new) → StillBegins old new
kept_either (Ok x) old more new h k = kept_front old more new h
kept_either (Err x) old more new h k = k

-- octets put behind octets that were put
pub put_then : (old first mid more new : List ℕ) → mid ≡ old ++ first → new ≡ mid ++ more → new ≡ old ++ (first ++ more)
put_then old first mid more new e f = f ∙ ap (λ x. x ++ more) e ∙ append_assoc old first more

-- the same, where the last may have failed
pub put_last : {A B : Type 0} (result : Result A B) (old first mid more new : List ℕ) → mid ≡ old ++ first → OnOk result (new ≡ mid ++ more) → OnOk result (new ≡ old ++ (first ++ more))
put_last (Ok x) old first mid more new e f = put_then old first mid more new e f
put_last (Err x) old first mid more new e f = f

-- where the last failed, the front is kept through what was put
pub kept_last : {A B : Type 0} (result : Result A B) (old more mid new : List ℕ) → mid ≡ old ++ more → OnErr result (StillBegins mid new) → OnErr result (StillBegins old new)
kept_last (Ok x) old more mid new e h = h
kept_last (Err x) old more mid new e h = kept_on old more mid new e h

-- what keeps a front
pub ruleset kept = (kept_either, kept_front, kept_through)
