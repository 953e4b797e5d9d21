use Rattle.std.proofs.Common.{◌≡◌, ◌∙◌, ◌<◌, ◌≤◌, ℕ, true, false, nat_le, inl, inr, sym, arith}
use Rattle.std.proofs.lemmas.Bool.{false≢true}
use Rattle.std.proofs.lemmas.Bool.Decides.{leb_tells}
use Rattle.z_ber.proofs.HeaderReading.{header-read}
use Rattle.z_ber.proofs.LargeReading.{large_found, small_not_large, unread_not_large, open_not_large}
use Rattle.z_ber.proofs.frame.too_large.Goals as goal

small_is : (a : ℕ) → true ≡ nat_le a 1048576 → a ≤ 1048576
small_is a e =
    elim (leb_tells a 1048576) [
      | inl h ↦ h.1
      | inr h ↦ absurd (false≢true (sym h.0 ∙ sym e))
    ]

large_is : (a : ℕ) → false ≡ nat_le a 1048576 → 1048576 < a
large_is a e =
    elim (leb_tells a 1048576) [
      | inl h ↦ absurd (false≢true (e ∙ h.0))
      | inr h ↦ h.1
    ]

pub returns-then-is_small-clause-none : goal.returns-then-is_small-clause-none
returns-then-is_small-clause-none c = λ e n.
    small_not_large c.args.bytes.now _ _ c.in-Ok-default-Some-default.len _ n c.in-Ok-default-Some-default.field-0-1-is c.in-Ok-default-Some-default.ensures.read (small_is _ c.if-is_small.ensures)

pub returns-else-is_small-clause-found : goal.returns-else-is_small-clause-found
returns-else-is_small-clause-found c =
    large_found c.args.bytes.now _ _ c.in-Ok-default-Some-default.len _ c.in-Ok-default-Some-default.field-0-1-is (header-read c.args.bytes.now _ (λ i. omega (arith, c.type_inv.bytes i)) c.in-Ok-default-Some-default.ensures.read) (large_is _ c.if-is_small.ensures)

pub returns-in-Ok-default-None-default-clause-none : goal.returns-in-Ok-default-None-default-clause-none
returns-in-Ok-default-None-default-clause-none c = λ e n.
    open_not_large c.args.bytes.now _ _ _ n c.in-Ok-default-None-default.field-0-1-is c.in-Ok-default-None-default.ensures.read

pub returns-in-Err-clause-none : goal.returns-in-Err-clause-none
returns-in-Err-clause-none c = λ e n. unread_not_large c.args.bytes.now c.in-Err.field-0 n c.in-Err.ensures.read
