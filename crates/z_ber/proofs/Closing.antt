-- The steps to the end of elements of indefinite length.
use Rattle.std.proofs.Common.{◌≡◌, ◌∙◌, ℕ, ◌<◌, zero, suc, List, length, Result, Ok, Err, ap, arith, refl}
use Rattle.z_ber.specs.declared.fault.BerFault.{BerFault}
use Rattle.z_ber.specs.Reading.{close_at}

-- one step of many
pub carry : (start : Result (List ℕ) BerFault) (n o r p q : ℕ) (b c : List ℕ) → length b < n → length c < length b → start ≡ close_at n o r b → ((steps : ℕ) → close_at (suc steps) o r b ≡ close_at steps p q c) → (m : ℕ) × (length c < m) × (start ≡ close_at m p q c)
carry start zero o r p q b c lt less e f = absurd (omega arith)
carry start (suc n) o r p q b c lt less e f = (n, omega arith, e ∙ f n)

-- the last of many
pub carry_fault : (start : Result (List ℕ) BerFault) (n o r : ℕ) (b : List ℕ) (d : BerFault) → length b < n → start ≡ close_at n o r b → ((steps : ℕ) → close_at (suc steps) o r b ≡ Err d) → start ≡ Err d
carry_fault start zero o r b d lt e f = absurd (omega arith)
carry_fault start (suc n) o r b d lt e f = e ∙ f n

-- with nothing open the rest is what follows
pub close_at-closed : (n r : ℕ) (b : List ℕ) → close_at n 0 r b ≡ Ok b
close_at-closed zero r b = refl
close_at-closed (suc n) r b = refl

pub carry_end : (start : Result (List ℕ) BerFault) (n o r : ℕ) (b : List ℕ) → o ≡ 0 → start ≡ close_at n o r b → start ≡ Ok b
carry_end start n o r b z e = e ∙ ap (λ k. close_at n k r b) z ∙ close_at-closed n r b
