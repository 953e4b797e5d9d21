-- An element is lent from the front of octets, or refused.
use Rattle.std.proofs.Common.{◌≡◌, ◌∙◌, ◌≢◌, ◌==◌, false, ℕ, ◌-◌, ◌<◌, suc, List, [], length, ap, Result, Ok, Err, sym, subst, arith, refl}
use Rattle.z_ber.specs.declared.fault.BerFault.{BerFault}
use Rattle.z_ber.specs.declared.fault.BerFault.TheVariants.{Short, BadTag, BadLength, TooLarge, TooDeep}
use Rattle.z_ber.specs.declared.tag.Tag.{Tag}
use Rattle.z_ber.specs.Header.{Opens}
use Rattle.z_ber.specs.Frames.{IsFrameAt, BeginsWith, IsExtentRead}
use Rattle.z_ber.specs.Due.{IsFaultDue, IsRefused}
use Rattle.z_ber.specs.Lent.{Lent}
use Rattle.std.proofs.lemmas.Bool.{false≢true}
use Rattle.z_ber.specs.Reading.{extent_at}
use Rattle.z_ber.proofs.TagReading.{IsBytes}
use Rattle.z_ber.proofs.CloseReading.{extent-none}
use Rattle.z_ber.proofs.ExtentReading.{extent_at-read}
use Rattle.z_ber.proofs.DueFaults.{extent_at-due}

pub extent-read : (levels : ℕ) (b : List ℕ) → 0 < levels → IsBytes b → IsExtentRead levels b (extent_at (levels - 1) b)
extent-read levels b some fits =
    let e : suc (levels - 1) ≡ levels = omega arith in
    subst (λ (k : ℕ). IsExtentRead k b (extent_at (levels - 1) b)) e (extent_at-read (levels - 1) b fits)

pub extent-found : (levels : ℕ) (b body rest : List ℕ) (t : Tag) → 0 < levels → IsBytes b → extent_at (levels - 1) b ≡ Ok (t, body, rest) → BeginsWith levels b t body rest
extent-found levels b body rest t some fits e = subst (λ (r : Result (Tag × List ℕ × List ℕ) BerFault). IsExtentRead levels b r) e (extent-read levels b some fits)

pub extent-read-fault : (levels : ℕ) (b : List ℕ) (d : BerFault) → 0 < levels → IsBytes b → extent_at (levels - 1) b ≡ Err d → IsExtentRead levels b (Err d)
extent-read-fault levels b d some fits e = subst (λ (r : Result (Tag × List ℕ × List ℕ) BerFault). IsExtentRead levels b r) e (extent-read levels b some fits)

-- where a fault is met
extent-due : (levels : ℕ) (b : List ℕ) (d : BerFault) → d ≢ Short → 0 < levels → IsBytes b → extent_at (levels - 1) b ≡ Err d → IsFaultDue levels b d
extent-due levels b d long some fits e =
    let n : suc (levels - 1) ≡ levels = omega arith in
    subst (λ (k : ℕ). IsFaultDue k b d) n (extent_at-due (levels - 1) b d long fits e)

refused : (levels : ℕ) (b : List ℕ) (d : BerFault) → 0 < levels → IsBytes b → extent_at (levels - 1) b ≡ Err d → IsExtentRead levels b (Err d) → IsRefused levels b d
refused levels b Short some fits e h = h
refused levels b BadTag some fits e h = (h, extent-due levels b BadTag (λ x. absurd cc) some fits e)
refused levels b BadLength some fits e h = (h, extent-due levels b BadLength (λ x. absurd cc) some fits e)
refused levels b (TooLarge n) some fits e h = (h, extent-due levels b (TooLarge n) (λ x. absurd cc) some fits e)
refused levels b TooDeep some fits e h = (h, extent-due levels b TooDeep (λ x. absurd cc) some fits e)

pub extent-refused : (levels : ℕ) (b : List ℕ) (d : BerFault) → 0 < levels → IsBytes b → extent_at (levels - 1) b ≡ Err d → IsRefused levels b d
extent-refused levels b d some fits e = refused levels b d some fits e (extent-read-fault levels b d some fits e)

-- no element stands where no level is left
pub none_deeper : (levels : ℕ) (b : List ℕ) → levels ≡ 0 → ¬ Opens (IsFrameAt levels) b
none_deeper levels b e = subst (λ (k : ℕ). ¬ Opens (IsFrameAt k) b) (sym e) (λ o. extent-none o.1.0 o.1.2.1 o.1.2.0 o.1.2.2)

-- ---- an element of which a child is wanted, as it is inside and as it is seen

pub not_empty : (left : List ℕ) → false ≡ (length left == 0) → left ≢ []
not_empty left h e = false≢true (h ∙ ap (λ (l : List ℕ). length l == 0) e)

-- where no level is left anything is too deep
too_deep : (levels : ℕ) (b : List ℕ) → levels ≡ 0 → IsRefused levels b TooDeep
too_deep levels b e = (none_deeper levels b e, record { opened = 0; left = levels; rest = b; due = (refl, refl); wrong = (e, λ x. x) })

pub next_deep : (inside seen : Lent) → inside ≡ seen → false ≡ (length inside.left == 0) → inside.levels ≡ 0 → (seen.left ≢ []) × IsRefused seen.levels seen.left TooDeep
next_deep inside seen v h e =
    subst (λ (s : Lent). (s.left ≢ []) × IsRefused s.levels s.left TooDeep) v (not_empty inside.left h, too_deep inside.levels inside.left e)

pub next_refused : (inside seen : Lent) (d : BerFault) → inside ≡ seen → false ≡ (length inside.left == 0) → IsRefused inside.levels inside.left d → (seen.left ≢ []) × IsRefused seen.levels seen.left d
next_refused inside seen d v h e = subst (λ (s : Lent). (s.left ≢ []) × IsRefused s.levels s.left d) v (not_empty inside.left h, e)
