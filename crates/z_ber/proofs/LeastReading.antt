-- How many octets must still come before elements of indefinite length can end: with that many they can, and with fewer they cannot.
use Rattle.std.proofs.Common.{◌≡◌, ◌∙◌, ℕ, ◌+◌, ◌-◌, ◌*◌, ◌<◌, ◌≤◌, zero, suc, inl, inr, List, [], ◌∷◌, ◌++◌, length, Some, None, Result, Ok, Err, sym, ap, subst, append_assoc, arith, refl}
use Rattle.std.proofs.lemmas.List.{length-append, append-nil}
use Rattle.z_ber.specs.declared.fault.BerFault.{BerFault}
use Rattle.z_ber.specs.declared.fault.BerFault.TheVariants.{Short, BadTag, BadLength, TooLarge, TooDeep}
use Rattle.z_ber.specs.declared.step.Step.{Step}
use Rattle.z_ber.specs.declared.step.Step.TheVariants.{End, Whole, Open}
use Rattle.z_ber.specs.Element.{end_of_contents}
use Rattle.z_ber.specs.Frames.{IsExtent}
use Rattle.z_ber.specs.Reading.{header_at, child_at, step_at, close_on, close_at, wanting_in_element, least_to_come, least_on, least_at}
use Rattle.z_ber.proofs.TagReading.{IsBytes}
use Rattle.z_ber.proofs.ElementLaws.{heads}
use Rattle.z_ber.proofs.StepReading.{length-header, StepRead, step_at-read, child_at-room, NeverEnds}
use Rattle.z_ber.proofs.HeaderLeast.{element_least}
use Rattle.z_ber.proofs.Closing.{close_at-closed}
use Rattle.z_ber.proofs.CloseReading.{extent-definite, Inner, joined, Closes, closes_end, closes_frame, closes_open, Peeled, peel_end, peel_whole, peel_open, peel, ok_err, err_one, bytes_of, behind_more, followed}

short_is : {P : Type 0} (d : BerFault) (r : Result (List ℕ) BerFault) → r ≡ Err d → r ≡ Err Short → (d ≡ Short → P) → P
short_is d r p q f = f (err_one d Short r p q)

-- ---- that many do

-- ends alone close
ends : (o r : ℕ) → (more : List ℕ) × Closes o r more [] × (length more ≡ 2 * o)
ends zero r = ([], refl, refl)
ends (suc o) r =
    let m = ends o (suc r) in
    (end_of_contents ++ m.0, closes_end o r (end_of_contents ++ m.0) m.0 [] refl m.1, omega (arith, m.2, length-append end_of_contents m.0))

abbrev Opening : ℕ → Type 0
Opening n = (o r : ℕ) (b : List ℕ) → IsBytes b → length b < n → close_at n o r b ≡ Err Short → (more : List ℕ) × Closes o r (b ++ more) [] × (length more ≡ least_at n o r b)

opening_step : (n o r : ℕ) (b : List ℕ) → IsBytes b → length b < suc n → Opening n → (s : Result (Step × List ℕ) BerFault) → StepRead r b s → close_on (close_at n) o r s ≡ Err Short → (more : List ℕ) × Closes (suc o) r (b ++ more) [] × (length more ≡ least_on (least_at n) o r b s)
opening_step n o r b fits lt ih (Ok (End, after)) h e =
    let m = ih o (suc r) after (bytes_of b end_of_contents after fits h) (omega (arith, ap length h, length-append end_of_contents after)) e in
    (m.0, closes_end o r (b ++ m.0) (after ++ m.0) [] (behind_more b end_of_contents after m.0 h) m.1, m.2)
opening_step n o r b fits lt ih (Ok (Whole, after)) h e =
    let d = h.definite in
    let m = ih (suc o) r after (bytes_of b h.frame after fits h.spelled) (omega (arith, ap length h.spelled, length-append h.frame after, ap length d.spelled, length-append d.head h.body, length-header d.head h.tag (Some (length h.body)) d.header)) e in
    let inner : Inner r h.frame = ((h.tag, h.body, subst (λ (k : ℕ). IsExtent k h.frame h.tag h.body) (sym h.room-is) (extent-definite h.level h.frame h.body h.tag h.definite)), h.apart) in
    (m.0, closes_frame o r (b ++ m.0) h.frame (after ++ m.0) [] inner (behind_more b h.frame after m.0 h.spelled) m.1, m.2)
opening_step n o r b fits lt ih (Ok (Open, after)) h e =
    let m = ih (suc (suc o)) (r - 1) after (bytes_of b h.head after fits h.spelled) (omega (arith, ap length h.spelled, length-append h.head after, length-header h.head h.tag None h.header)) e in
    let less : r - 1 ≡ h.level = omega (arith, h.room-is) in
    let c : Closes (suc (suc o)) h.level (after ++ m.0) [] = subst (λ (k : ℕ). Closes (suc (suc o)) k (after ++ m.0) []) less m.1 in
    (m.0, subst (λ (k : ℕ). Closes (suc o) k (b ++ m.0) []) (sym h.room-is) (closes_open o h.level (b ++ m.0) h.head (after ++ m.0) [] h.tag h.header (behind_more b h.head after m.0 h.spelled) c), m.2)
opening_step n o r b fits lt ih (Err Short) h e =
    elim h.goes [
      | inl w ↦
          let m = ends o (suc r) in
          (h.more ++ m.0, closes_end o r (b ++ (h.more ++ m.0)) m.0 [] (sym (append_assoc b h.more m.0) ∙ ap (λ x. x ++ m.0) w.0) m.1, omega (arith, w.1 o, m.2, length-append h.more m.0))
      | inr v ↦
          let w = v.0 in
          let m = ends (suc o) r in
          let inner : Inner r w.frame = ((w.tag, w.body, subst (λ (k : ℕ). IsExtent k w.frame w.tag w.body) (sym w.room-is) (extent-definite w.level w.frame w.body w.tag w.definite)), w.apart) in
          (h.more ++ m.0, closes_frame o r (b ++ (h.more ++ m.0)) w.frame m.0 [] inner (sym (append_assoc b h.more m.0) ∙ ap (λ x. x ++ m.0) (w.spelled ∙ append-nil w.frame)) m.1, omega (arith, v.1 o, m.2, length-append h.more m.0))
    ]
opening_step n o r b fits lt ih (Err BadTag) h e = short_is BadTag _ refl e (λ d. absurd cc)
opening_step n o r b fits lt ih (Err BadLength) h e = short_is BadLength _ refl e (λ d. absurd cc)
opening_step n o r b fits lt ih (Err (TooLarge k)) h e = short_is (TooLarge k) _ refl e (λ d. absurd cc)
opening_step n o r b fits lt ih (Err TooDeep) h e = short_is TooDeep _ refl e (λ d. absurd cc)

-- where octets are wanting, some continuation of `least_at` octets closes
pub close_at-opening : (n : ℕ) → Opening n
close_at-opening n zero r b fits lt e = ok_err b Short _ (close_at-closed n r b) e
close_at-opening zero (suc o) r b fits lt e = absurd (omega arith)
close_at-opening (suc n) (suc o) r b fits lt e = opening_step n o r b fits lt (close_at-opening n) (step_at r b) (step_at-read r b fits) e

-- ---- no fewer do

-- open elements have their ends before what is behind them
pub closes_ends : (o r : ℕ) (b rest : List ℕ) → Closes o r b rest → 2 * o + length rest ≤ length b
closes_ends zero r b rest c = omega (arith, ap length c)
closes_ends (suc o) r b rest c =
    let h = closes_ends o (suc r) c.after rest c.behind in
    omega (arith, h, ap length c.spelled, length-append (joined c.frames) (end_of_contents ++ c.after), length-append end_of_contents c.after)

-- where no level is left nothing is in part
child_deep : {P : Type 0} (b : List ℕ) → child_at 0 b ≡ Err Short → P
child_deep b e = absurd cc

-- what is wanting of an element within, and the ends behind it
child_least : (o r : ℕ) (b more rest : List ℕ) → IsBytes b → NeverEnds b → child_at r b ≡ Err Short → Peeled o r (b ++ more) rest → wanting_in_element b (header_at b) + 2 * suc o + length rest ≤ length more
child_least o zero b more rest fits never s p = child_deep b s
child_least o (suc k) b more rest fits never s (peel_end after e c) = absurd (never more after e)
child_least o (suc k) b more rest fits never s (peel_whole j frame body after t room d apart e c) =
    let whole : b ++ more ≡ d.head ++ (body ++ after) = e ∙ ap (λ x. x ++ after) d.spelled ∙ append_assoc d.head body after in
    let m = element_least b more fits (sym (child_at-room k b) ∙ s) d.head (body ++ after) t (Some (length body)) d.header whole in
    omega (arith, m, length-append body after, closes_ends (suc o) (suc k) after rest c)
child_least o (suc k) b more rest fits never s (peel_open j head after t room h e c) =
    let m = element_least b more fits (sym (child_at-room k b) ∙ s) head after t None h e in
    omega (arith, m, closes_ends (suc (suc o)) j after rest c)

-- what is wanting where a step cannot be made
short_least : (o r : ℕ) (b more rest : List ℕ) → IsBytes b → step_at r b ≡ Err Short → Closes (suc o) r (b ++ more) rest → least_to_come (suc o) b + length rest ≤ length more
unfolding step_at least_to_come
short_least o r [] more rest fits s c = omega (arith, closes_ends (suc o) r more rest c)
short_least o r (zero ∷ []) more rest fits s c = omega (arith, closes_ends (suc o) r (0 ∷ more) rest c)
short_least o r (zero ∷ zero ∷ z) more rest fits s c = absurd cc
short_least o r (zero ∷ suc y ∷ z) more rest fits s c =
    child_least o r (zero ∷ suc y ∷ z) more rest fits (λ m x e. let h = heads (suc y) 0 _ _ (heads 0 0 _ _ e).1 in absurd (omega (arith, h.0))) s (peel o r (zero ∷ suc y ∷ (z ++ more)) rest c)
short_least o r (suc x ∷ z) more rest fits s c =
    child_least o r (suc x ∷ z) more rest fits (λ m y e. let h = heads (suc x) 0 _ _ e in absurd (omega (arith, h.0))) s (peel o r (suc x ∷ (z ++ more)) rest c)

abbrev NoFewer : ℕ → Type 0
NoFewer n = (o r : ℕ) (b : List ℕ) → IsBytes b → length b < n → close_at n o r b ≡ Err Short → (more rest : List ℕ) → Closes o r (b ++ more) rest → least_at n o r b + length rest ≤ length more

fewer_step : (n o r : ℕ) (b : List ℕ) → IsBytes b → length b < suc n → NoFewer n → (s : Result (Step × List ℕ) BerFault) → step_at r b ≡ s → StepRead r b s → close_on (close_at n) o r s ≡ Err Short → (more rest : List ℕ) → Closes (suc o) r (b ++ more) rest → least_on (least_at n) o r b s + length rest ≤ length more
fewer_step n o r b fits lt ih (Ok (End, after)) p h e more rest c =
    ih o (suc r) after (bytes_of b end_of_contents after fits h) (omega (arith, ap length h, length-append end_of_contents after)) e more rest (followed o r b more rest (Ok (End, after)) h c)
fewer_step n o r b fits lt ih (Ok (Whole, after)) p h e more rest c =
    let d = h.definite in
    ih (suc o) r after (bytes_of b h.frame after fits h.spelled) (omega (arith, ap length h.spelled, length-append h.frame after, ap length d.spelled, length-append d.head h.body, length-header d.head h.tag (Some (length h.body)) d.header)) e more rest (followed o r b more rest (Ok (Whole, after)) h c)
fewer_step n o r b fits lt ih (Ok (Open, after)) p h e more rest c =
    ih (suc (suc o)) (r - 1) after (bytes_of b h.head after fits h.spelled) (omega (arith, ap length h.spelled, length-append h.head after, length-header h.head h.tag None h.header)) e more rest (followed o r b more rest (Ok (Open, after)) h c)
fewer_step n o r b fits lt ih (Err Short) p h e more rest c = short_least o r b more rest fits p c
fewer_step n o r b fits lt ih (Err BadTag) p h e more rest c = short_is BadTag _ refl e (λ d. absurd cc)
fewer_step n o r b fits lt ih (Err BadLength) p h e more rest c = short_is BadLength _ refl e (λ d. absurd cc)
fewer_step n o r b fits lt ih (Err (TooLarge k)) p h e more rest c = absurd h
fewer_step n o r b fits lt ih (Err TooDeep) p h e more rest c = short_is TooDeep _ refl e (λ d. absurd cc)

-- where octets are wanting, each continuation that closes has at least `least_at` octets before what is behind the end
pub close_at-fewer : (n : ℕ) → NoFewer n
close_at-fewer n zero r b fits lt e more rest c = ok_err b Short _ (close_at-closed n r b) e
close_at-fewer zero (suc o) r b fits lt e more rest c = absurd (omega arith)
close_at-fewer (suc n) (suc o) r b fits lt e more rest c =
    fewer_step n o r b fits lt (close_at-fewer n) (step_at r b) refl (step_at-read r b fits) e more rest c
