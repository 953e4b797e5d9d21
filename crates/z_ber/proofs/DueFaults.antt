-- Where reading an element meets a fault, a header is due there and that is wrong with it.
use Rattle.std.proofs.Common.{◌≡◌, ◌∙◌, ◌≢◌, ℕ, ◌-◌, zero, suc, inl, inr, List, ◌++◌, length, take, drop, Some, None, Result, Ok, Err, sym, ap, subst, arith, refl}
use Rattle.std.proofs.lemmas.Bool.{cases_lt, lt-ltb, le-ltb}
use Rattle.z_ber.specs.declared.fault.BerFault.{BerFault}
use Rattle.z_ber.specs.declared.fault.BerFault.TheVariants.{Short, BadTag, BadLength, TooLarge, TooDeep}
use Rattle.z_ber.specs.declared.step.Step.{Step}
use Rattle.z_ber.specs.declared.step.Step.TheVariants.{End, Whole as Passed, Open}
use Rattle.z_ber.specs.declared.tag.Tag.{Tag}
use Rattle.z_ber.specs.Element.{end_of_contents}
use Rattle.z_ber.specs.Frames.{IsExtent}
use Rattle.z_ber.specs.Due.{IsDue, IsFaultDue}
use Rattle.z_ber.specs.Reading.{header_at, step_at, close_on, close_at, inside_at, extent_behind, extent_at}
use Rattle.z_ber.proofs.TagReading.{IsBytes}
use Rattle.z_ber.proofs.HeaderReading.{HeaderParts, HeaderRead, Whole, header_at-read}
use Rattle.z_ber.proofs.StepReading.{StepRead, step_at-read}
use Rattle.z_ber.proofs.Closing.{close_at-closed}
use Rattle.z_ber.proofs.CloseReading.{extent-definite, Inner, ok_err, err_one, bytes_of}
use Rattle.z_ber.proofs.DueSteps.{due_whole, due_open, due_end}

abbrev Faulty : ℕ → ℕ → List ℕ → BerFault → Type 0
Faulty n levels octets d = (o r : ℕ) (b : List ℕ) → IsBytes b → IsDue (suc o) levels octets r b → close_at n (suc o) r b ≡ Err d → IsFaultDue levels octets d

fault_end : (n levels : ℕ) (octets : List ℕ) (d : BerFault) (o r : ℕ) (b after : List ℕ) → Faulty n levels octets d → IsBytes after → IsDue (suc o) levels octets r b → b ≡ end_of_contents ++ after → close_at n o (suc r) after ≡ Err d → IsFaultDue levels octets d
fault_end n levels octets d zero r b after ih fits due s e = ok_err after d _ (close_at-closed n (suc r) after) e
fault_end n levels octets d (suc o) r b after ih fits due s e = ih o (suc r) after fits (due_end o levels octets r b after due s) e

fault_step : (n levels : ℕ) (octets : List ℕ) (d : BerFault) → d ≢ Short → (o r : ℕ) (b : List ℕ) → IsBytes b → IsDue (suc o) levels octets r b → Faulty n levels octets d → (s : Result (Step × List ℕ) BerFault) → StepRead r b s → close_on (close_at n) o r s ≡ Err d → IsFaultDue levels octets d
fault_step n levels octets d long o r b fits due ih (Ok (End, after)) h e =
    fault_end n levels octets d o r b after ih (bytes_of b end_of_contents after fits h) due h e
fault_step n levels octets d long o r b fits due ih (Ok (Passed, after)) h e =
    let i : Inner r h.frame = ((h.tag, h.body, subst (λ (k : ℕ). IsExtent k h.frame h.tag h.body) (sym h.room-is) (extent-definite h.level h.frame h.body h.tag h.definite)), h.apart) in
    ih o r after (bytes_of b h.frame after fits h.spelled) (due_whole o levels octets r b h.frame after due h.spelled i) e
fault_step n levels octets d long o r b fits due ih (Ok (Open, after)) h e =
    ih (suc o) (r - 1) after (bytes_of b h.head after fits h.spelled) (due_open (suc o) levels octets r b h.head after h.tag due h.spelled h.header (omega (arith, h.room-is))) e
fault_step n levels octets d long o r b fits due ih (Err Short) h e = absurd (long (err_one d Short _ e refl))
fault_step n levels octets d long o r b fits due ih (Err BadTag) h e =
    subst (λ (f : BerFault). IsFaultDue levels octets f) (err_one BadTag d _ refl e) (record { opened = suc o; left = r; rest = b; due = due; wrong = h.1 })
fault_step n levels octets d long o r b fits due ih (Err BadLength) h e =
    subst (λ (f : BerFault). IsFaultDue levels octets f) (err_one BadLength d _ refl e) (record { opened = suc o; left = r; rest = b; due = due; wrong = h.1 })
fault_step n levels octets d long o r b fits due ih (Err (TooLarge k)) h e = absurd h
fault_step n levels octets d long o r b fits due ih (Err TooDeep) h e =
    subst (λ (f : BerFault). IsFaultDue levels octets f) (err_one TooDeep d _ refl e) (record { opened = suc o; left = r; rest = b; due = due; wrong = h.1 })

-- where reading to the end of open elements meets a fault
pub close_at-due : (n levels : ℕ) (octets : List ℕ) (d : BerFault) → d ≢ Short → Faulty n levels octets d
close_at-due zero levels octets d long o r b fits due e = absurd (long (err_one d Short _ e refl))
close_at-due (suc n) levels octets d long o r b fits due e =
    fault_step n levels octets d long o r b fits due (close_at-due n levels octets d long) (step_at r b) (step_at-read r b fits) e

ended : {P : Type 0} (t : Tag) (i r : List ℕ) (d : BerFault) (x : Result (Tag × List ℕ × List ℕ) BerFault) → x ≡ Ok (t, i, r) → x ≡ Err d → P
ended t i r d x p q = absurd cc

err_is : (d e : BerFault) (x : Result (Tag × List ℕ × List ℕ) BerFault) → x ≡ Err d → x ≡ Err e → d ≡ e
err_is d e x p q = cc

inside_due : (k : ℕ) (b : List ℕ) (t : Tag) (body : List ℕ) (d : BerFault) → d ≢ Short → IsBytes b → Whole b t None body → (r : Result (List ℕ) BerFault) → close_at (suc (length body)) 1 k body ≡ r → inside_at t body r ≡ Err d → IsFaultDue (suc k) b d
inside_due k b t body d long fits w (Ok rest) p e = ended t _ rest d _ refl e
inside_due k b t body d long fits w (Err f) p e =
    let k-is : suc k - 1 ≡ k = omega arith in
    let due : IsDue 1 (suc k) b (suc k - 1) body = due_open 0 (suc k) b (suc k) b w.head body t (refl, refl) w.spelled w.header (omega arith) in
    let here : IsDue 1 (suc k) b k body = subst (λ (j : ℕ). IsDue 1 (suc k) b j body) k-is due in
    let f-is : f ≡ d = err_is f d _ refl e in
    close_at-due (suc (length body)) (suc k) b d long 0 k body (bytes_of b w.head body fits w.spelled) here (p ∙ ap (λ (g : BerFault). Err g) f-is)

definite_due : (k : ℕ) (b : List ℕ) (t : Tag) (len : ℕ) (body : List ℕ) (d : BerFault) → d ≢ Short → extent_behind k (Ok (t, Some len, body)) ≡ Err d → IsFaultDue (suc k) b d
definite_due k b t len body d long e =
    elim (cases_lt (length body) len) [
      | inl short ↦
          let p : extent_behind k (Ok (t, Some len, body)) ≡ Err Short = rw (lt-ltb (length body) len short) refl in
          absurd (long (err_is d Short _ e p))
      | inr come ↦
          let p : extent_behind k (Ok (t, Some len, body)) ≡ Ok (t, take len body, drop len body) = rw (le-ltb (length body) len come) refl in
          ended t (take len body) (drop len body) d _ p e
    ]

at_front : (k : ℕ) (b : List ℕ) → IsDue 0 (suc k) b (suc k) b
at_front k b = (refl, refl)

extent_fault : (k : ℕ) (b : List ℕ) (d : BerFault) → d ≢ Short → IsBytes b → (r : Result HeaderParts BerFault) → header_at b ≡ r → HeaderRead b r → extent_behind k r ≡ Err d → IsFaultDue (suc k) b d
extent_fault k b d long fits (Ok (t, None, body)) p h e = inside_due k b t body d long fits h (close_at (suc (length body)) 1 k body) refl e
extent_fault k b d long fits (Ok (t, Some len, body)) p h e = definite_due k b t len body d long e
extent_fault k b d long fits (Err Short) p h e = absurd (long (err_is d Short _ e refl))
extent_fault k b d long fits (Err BadTag) p h e =
    subst (λ (f : BerFault). IsFaultDue (suc k) b f) (err_is BadTag d _ refl e) (record { opened = 0; left = suc k; rest = b; due = at_front k b; wrong = (omega arith, h) })
extent_fault k b d long fits (Err BadLength) p h e =
    subst (λ (f : BerFault). IsFaultDue (suc k) b f) (err_is BadLength d _ refl e) (record { opened = 0; left = suc k; rest = b; due = at_front k b; wrong = (omega arith, h.0, h.1) })
extent_fault k b d long fits (Err (TooLarge n)) p h e = absurd h
extent_fault k b d long fits (Err TooDeep) p h e = absurd h

-- where reading an element meets a fault
pub extent_at-due : (k : ℕ) (b : List ℕ) (d : BerFault) → d ≢ Short → IsBytes b → extent_at k b ≡ Err d → IsFaultDue (suc k) b d
unfolding extent_at
extent_at-due k b d long fits e = extent_fault k b d long fits (header_at b) refl (header_at-read b fits) e
