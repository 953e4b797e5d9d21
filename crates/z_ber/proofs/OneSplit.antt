-- A stream is one list of frames.
use Rattle.std.proofs.Common.{◌≡◌, ◌∙◌, ℕ, List, [], ◌∷◌, ◌++◌, length, Some, sym, ap, append_assoc, refl}
use Rattle.std.specs.List.{flat_map}
use Rattle.std.proofs.lemmas.List.{append_cancel_left, append_cancel_right}
use Rattle.z_ber.specs.Frames.{IsDefiniteFrame, IsFrame, Splits}
use Rattle.z_ber.specs.Reading.{header_at}
use Rattle.z_ber.proofs.ElementLaws.{fronts}
use Rattle.z_ber.proofs.HeaderReading.{HeaderParts}
use Rattle.z_ber.proofs.LendLaws.{extent-one}
use Rattle.z_ber.proofs.FrameReading.{ok_is, framed, some_is}

-- no such list of octets begins another
abbrev pub BeginsNoOther : (List ℕ → Type 0) → Type 0
BeginsNoOther P = (a b x y : List ℕ) → P a → P b → a ++ x ≡ b ++ y → a ≡ b

pub splits-one : (P : List ℕ → Type 0) → BeginsNoOther P → (stream : List ℕ) (fs gs : List (List ℕ)) (x y : List ℕ) → Splits P stream fs x → Splits P stream gs y → (fs ≡ gs) × (x ≡ y)
splits-one P one stream [] [] x y s t = (refl, sym s.whole ∙ t.whole)
splits-one P one stream [] (g ∷ gs) x y s t =
    absurd (s.ended (g, flat_map (λ frame. frame) gs ++ y, t.each.0, sym s.whole ∙ t.whole ∙ append_assoc g (flat_map (λ frame. frame) gs) y))
splits-one P one stream (f ∷ fs) [] x y s t =
    absurd (t.ended (f, flat_map (λ frame. frame) fs ++ x, s.each.0, sym t.whole ∙ s.whole ∙ append_assoc f (flat_map (λ frame. frame) fs) x))
splits-one P one stream (f ∷ fs) (g ∷ gs) x y s t =
    let rest : List ℕ = flat_map (λ frame. frame) fs ++ x in
    let other : List ℕ = flat_map (λ frame. frame) gs ++ y in
    let a : stream ≡ f ++ rest = s.whole ∙ append_assoc f (flat_map (λ frame. frame) fs) x in
    let b : stream ≡ g ++ other = t.whole ∙ append_assoc g (flat_map (λ frame. frame) gs) y in
    let same : f ≡ g = one f g rest other s.each.0 t.each.0 (sym a ∙ b) in
    let left : rest ≡ other = append_cancel_left g rest other (ap (λ h. h ++ rest) (sym same) ∙ sym a ∙ b) in
    let r = splits-one P one rest fs gs x y (record { whole = refl; each = s.each.1; ended = s.ended }) (record { whole = left; each = t.each.1; ended = t.ended }) in
    let p = r.0 in
    (cc, r.1)

pub definite_begins_no_other : BeginsNoOther IsDefiniteFrame
definite_begins_no_other a b x y p q e =
    let here = framed (a ++ x) (a, x, p, refl) in
    let there = framed (a ++ x) (b, y, q, e) in
    let one : (p.tag, Some (length p.body), p.body ++ x) ≡ (q.tag, Some (length q.body), q.body ++ y) = ok_is {A = HeaderParts} (header_at (a ++ x)) _ _ here there in
    let n = some_is (length p.body) (length q.body) (Some (length p.body)) refl (ap (λ (h : HeaderParts). h.1) one) in
    let r = fronts p.body q.body x y n (ap (λ (h : HeaderParts). h.2) one) in
    append_cancel_right a b y (ap (λ t. a ++ t) (sym r.1) ∙ e)

pub frame_begins_no_other : BeginsNoOther IsFrame
frame_begins_no_other a b x y p q e =
    let one = extent-one 64 p.0.0 q.0.0 a b p.0.1 q.0.1 x y p.0.2 q.0.2 e in
    append_cancel_right a b y (ap (λ t. a ++ t) (sym one.2) ∙ e)
