-- Octets put behind octets that were put.
use Rattle.std.proofs.Common.{◌≡◌, ◌∙◌, ℕ, List, ◌++◌, ap, Result, Ok, Err, OnOk}
use Rattle.std.proofs.lemmas.List.{append_assoc}

-- one piece more
pub put_more : (old front mid piece new : List ℕ) → mid ≡ old ++ front → new ≡ mid ++ piece → new ≡ old ++ (front ++ piece)
put_more old front mid piece new e f = f ∙ ap (λ x. x ++ piece) e ∙ append_assoc old front piece

-- the last piece, which may have failed
pub put_last : {A B : Type 0} (result : Result A B) (old front mid piece new : List ℕ) → mid ≡ old ++ front → OnOk result (new ≡ mid ++ piece) → OnOk result (new ≡ old ++ (front ++ piece))
put_last (Ok x) old front mid piece new e f = put_more old front mid piece new e f
put_last (Err x) old front mid piece new e f = f
