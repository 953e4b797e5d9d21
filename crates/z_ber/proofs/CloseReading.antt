-- Where elements of indefinite length end: what is found is so, and each fault comes where it is due.
use Rattle.std.proofs.Common.{◌≡◌, ◌∙◌, ◌≢◌, ◌⊎◌, ℕ, ◌-◌, ◌<◌, zero, suc, inl, inr, List, [], ◌∷◌, ◌++◌, length, Some, None, Result, Ok, Err, sym, ap, subst, append_assoc, arith, refl}
use Rattle.std.specs.List.{flat_map, AllByRecursion}
use Rattle.std.proofs.lemmas.List.{length-append, append_cancel_left}
use Rattle.z_ber.specs.declared.fault.BerFault.{BerFault}
use Rattle.z_ber.specs.declared.fault.BerFault.TheVariants.{Short, BadTag, BadLength, TooLarge, TooDeep}
use Rattle.z_ber.specs.declared.step.Step.{Step}
use Rattle.z_ber.specs.declared.step.Step.TheVariants.{End, Whole, Open}
use Rattle.z_ber.specs.declared.tag.Tag.{Tag}
use Rattle.z_ber.specs.Header.{IsHeader}
use Rattle.z_ber.specs.Element.{end_of_contents}
use Rattle.z_ber.specs.Frames.{IsDefinite, IsIndefinite, IsExtent, IsFrameAt}
use Rattle.z_ber.specs.Reading.{step_at, close_on, close_at}
use Rattle.z_ber.proofs.TagReading.{IsBytes}
use Rattle.z_ber.proofs.HeaderReading.{IsBytes-suffix}
use Rattle.z_ber.proofs.ElementLaws.{fronts}
use Rattle.z_ber.proofs.FrameReading.{some_is}
use Rattle.z_ber.proofs.TreeLaws.{is_end, heads_one, none_some}
use Rattle.z_ber.proofs.StepReading.{length-header, StepRead, step_at-read, step_at-end, step_at-whole, step_at-open, head_apart, IsStuck}
use Rattle.z_ber.proofs.Closing.{close_at-closed}

-- ---- extents by their two forms

abbrev pub Indefinite : ℕ → List ℕ → Tag → List ℕ → Type 0
Indefinite k = IsIndefinite (λ frame. (t : Tag) × (b : List ℕ) × IsExtent k frame t b)

-- a definite element is an extent
pub extent-definite : (k : ℕ) (f b : List ℕ) (t : Tag) → IsDefinite f t b → IsExtent (suc k) f t b
unfolding IsExtent
extent-definite k f b t d = inl d

-- an indefinite element of extents one level deeper is an extent
pub extent-indefinite : (k : ℕ) (f b : List ℕ) (t : Tag) → Indefinite k f t b → IsExtent (suc k) f t b
unfolding IsExtent
extent-indefinite k f b t d = inr d

-- an extent has one of the two forms
pub extent-cases : (k : ℕ) (f b : List ℕ) (t : Tag) → IsExtent (suc k) f t b → IsDefinite f t b ⊎ Indefinite k f t b
unfolding IsExtent
extent-cases k f b t x = x

-- no extent stands where no level is left
pub extent-none : {P : Type 0} (f b : List ℕ) (t : Tag) → IsExtent 0 f t b → P
unfolding IsExtent
extent-none f b t x = absurd x

-- ---- what closes

abbrev pub Inner : ℕ → List ℕ → Type 0
Inner room frame = IsFrameAt room frame × (frame ≢ end_of_contents)

abbrev pub joined : List (List ℕ) → List ℕ
joined frames = flat_map (λ frame. frame) frames

-- frames, an end of contents, and what is behind it
pub record ClosesOne (room : ℕ) (Behind : List ℕ → Type 0) (bytes : List ℕ) : Type 0 where
  pub frames : List (List ℕ)
  pub after : List ℕ
  pub each : AllByRecursion (Inner room) frames
  pub spelled : bytes ≡ joined frames ++ (end_of_contents ++ after)
  pub behind : Behind after

-- `opened` elements end before `rest`, where `room` levels are left in the innermost
abbrev pub Closes : ℕ → ℕ → List ℕ → List ℕ → Type 0
Closes zero room bytes rest = bytes ≡ rest
Closes (suc opened) room bytes rest = ClosesOne room (λ after. Closes opened (suc room) after rest) bytes

-- an end of contents closes one element more
pub closes_end : (o room : ℕ) (bytes after rest : List ℕ) → bytes ≡ end_of_contents ++ after → Closes o (suc room) after rest → Closes (suc o) room bytes rest
closes_end o room bytes after rest e c = record { frames = []; after = after; each = tt; spelled = e; behind = c }

-- a frame in front keeps what closes
pub closes_frame : (o room : ℕ) (bytes f after rest : List ℕ) → Inner room f → bytes ≡ f ++ after → Closes (suc o) room after rest → Closes (suc o) room bytes rest
closes_frame o room bytes f after rest i e c = record {
  frames = f ∷ c.frames;
  after = c.after;
  each = (i, c.each);
  spelled = e ∙ ap (λ t. f ++ t) c.spelled ∙ sym (append_assoc f (joined c.frames) (end_of_contents ++ c.after));
  behind = c.behind;
}

-- an element of indefinite length is no end of contents
pub indefinite_apart : (k : ℕ) (f b : List ℕ) (t : Tag) → Indefinite k f t b → f ≢ end_of_contents
indefinite_apart k f b t d e = head_apart d.head t (b ++ end_of_contents) [] d.header (sym (append_assoc d.head b end_of_contents) ∙ sym d.spelled ∙ e)

-- an indefinite header in front opens one element more
pub closes_open : (o k : ℕ) (bytes head after rest : List ℕ) (t : Tag) → IsHeader head t None → bytes ≡ head ++ after → Closes (suc (suc o)) k after rest → Closes (suc o) (suc k) bytes rest
closes_open o k bytes head after rest t h e c =
    let f : List ℕ = (head ++ joined c.frames) ++ end_of_contents in
    let d : Indefinite k f t (joined c.frames) = record { head = head; header = h; frames = c.frames; each = c.each; inside = refl; spelled = refl } in
    let whole : bytes ≡ ((head ++ joined c.frames) ++ end_of_contents) ++ c.after = e ∙ ap (λ x. head ++ x) c.spelled ∙ regroup head (joined c.frames) end_of_contents c.after in
    closes_frame o (suc k) bytes ((head ++ joined c.frames) ++ end_of_contents) c.after rest ((t, joined c.frames, extent-indefinite k _ _ t d), indefinite_apart k _ _ t d) whole c.behind
  where
    regroup : (a b c d : List ℕ) → a ++ (b ++ (c ++ d)) ≡ ((a ++ b) ++ c) ++ d
    regroup a b c d = sym (append_assoc (a ++ b) c d ∙ append_assoc a b (c ++ d))

-- ---- what is found is so

-- one answer gives one rest
pub ok_one : (x y : List ℕ) (r : Result (List ℕ) BerFault) → r ≡ Ok x → r ≡ Ok y → x ≡ y
ok_one x y r p q = cc

-- a rest and a fault are two answers
pub ok_err : {P : Type 0} (x : List ℕ) (e : BerFault) (r : Result (List ℕ) BerFault) → r ≡ Ok x → r ≡ Err e → P
ok_err x e r p q = absurd cc

-- one answer gives one fault
pub err_one : (d e : BerFault) (r : Result (List ℕ) BerFault) → r ≡ Err d → r ≡ Err e → d ≡ e
err_one d e r p q = cc

-- what is behind octets are octets
pub bytes_of : (b x y : List ℕ) → IsBytes b → b ≡ x ++ y → IsBytes y
bytes_of b x y fits e = IsBytes-suffix x y (subst (λ (l : List ℕ). IsBytes l) e fits)

abbrev Sound : ℕ → List ℕ → Type 0
Sound n rest = (o r : ℕ) (b : List ℕ) → IsBytes b → close_at n o r b ≡ Ok rest → Closes o r b rest

sound_step : (n o r : ℕ) (b rest : List ℕ) → IsBytes b → Sound n rest → (s : Result (Step × List ℕ) BerFault) → StepRead r b s → close_on (close_at n) o r s ≡ Ok rest → Closes (suc o) r b rest
sound_step n o r b rest fits ih (Ok (End, after)) h e = closes_end o r b after rest h (ih o (suc r) after (bytes_of b end_of_contents after fits h) e)
sound_step n o r b rest fits ih (Ok (Whole, after)) h e =
    let inner : Inner r h.frame = ((h.tag, h.body, subst (λ (k : ℕ). IsExtent k h.frame h.tag h.body) (sym h.room-is) (extent-definite h.level h.frame h.body h.tag h.definite)), h.apart) in
    closes_frame o r b h.frame after rest inner h.spelled (ih (suc o) r after (bytes_of b h.frame after fits h.spelled) e)
sound_step n o r b rest fits ih (Ok (Open, after)) h e =
    let less : r - 1 ≡ h.level = omega (arith, h.room-is) in
    let c = ih (suc (suc o)) (r - 1) after (bytes_of b h.head after fits h.spelled) e in
    let d : Closes (suc (suc o)) h.level after rest = subst (λ (k : ℕ). Closes (suc (suc o)) k after rest) less c in
    subst (λ (k : ℕ). Closes (suc o) k b rest) (sym h.room-is) (closes_open o h.level b h.head after rest h.tag h.header h.spelled d)
sound_step n o r b rest fits ih (Err d) h e = ok_err rest d _ e refl

-- where reading finds an end, elements close
pub close_at-sound : (n : ℕ) (rest : List ℕ) → Sound n rest
close_at-sound n rest zero r b fits e = ok_one b rest _ (close_at-closed n r b) e
close_at-sound zero rest (suc o) r b fits e = ok_err rest Short _ e refl
close_at-sound (suc n) rest (suc o) r b fits e = sound_step n o r b rest fits (close_at-sound n rest) (step_at r b) (step_at-read r b fits) e

-- ---- what is so is found

-- what elements that close begin with: the end of contents, a definite element, or an indefinite header
pub data Peeled (o : ℕ) (room : ℕ) (bytes rest : List ℕ) : Type 0 where
  peel_end : (after : List ℕ) → bytes ≡ end_of_contents ++ after → Closes o (suc room) after rest → Peeled o room bytes rest
  peel_whole : (level : ℕ) (frame body after : List ℕ) (t : Tag) → room ≡ suc level → IsDefinite frame t body → frame ≢ end_of_contents → bytes ≡ frame ++ after → Closes (suc o) room after rest → Peeled o room bytes rest
  peel_open : (level : ℕ) (head after : List ℕ) (t : Tag) → room ≡ suc level → IsHeader head t None → bytes ≡ head ++ after → Closes (suc (suc o)) level after rest → Peeled o room bytes rest

peel_frames : (o room : ℕ) (bytes rest after : List ℕ) (frames : List (List ℕ)) → AllByRecursion (Inner room) frames → bytes ≡ joined frames ++ (end_of_contents ++ after) → Closes o (suc room) after rest → Peeled o room bytes rest
peel_frames o room bytes rest after [] each e c = peel_end after e c
peel_frames o zero bytes rest after (f ∷ fs) each e c = extent-none f each.0.0.1 each.0.0.0 each.0.0.2
peel_frames o (suc k) bytes rest after (f ∷ fs) each e c =
    let t = each.0.0.0 in
    let body = each.0.0.1 in
    let behind : List ℕ = joined fs ++ (end_of_contents ++ after) in
    let s : bytes ≡ f ++ (joined fs ++ (end_of_contents ++ after)) = e ∙ append_assoc f (joined fs) (end_of_contents ++ after) in
    let more : Closes (suc o) (suc k) (joined fs ++ (end_of_contents ++ after)) rest = record { frames = fs; after = after; each = each.1; spelled = refl; behind = c } in
    elim (extent-cases k f body t each.0.0.2) [
      | inl d ↦ peel_whole k f body behind t refl d each.0.1 s more
      | inr d ↦
          let entered : List ℕ = joined d.frames ++ (end_of_contents ++ behind) in
          let at_head : bytes ≡ d.head ++ entered = s ∙ ap (λ x. x ++ behind) (d.spelled ∙ ap (λ x. (d.head ++ x) ++ end_of_contents) d.inside) ∙ regroup d.head (joined d.frames) end_of_contents behind in
          let inner : Closes (suc (suc o)) k (joined d.frames ++ (end_of_contents ++ (joined fs ++ (end_of_contents ++ after)))) rest = record { frames = d.frames; after = behind; each = d.each; spelled = refl; behind = more } in
          peel_open k d.head entered t refl d.header at_head inner
    ]
  where
    regroup : (a b c d : List ℕ) → ((a ++ b) ++ c) ++ d ≡ a ++ (b ++ (c ++ d))
    regroup a b c d = append_assoc (a ++ b) c d ∙ append_assoc a b (c ++ d)

-- elements that close begin with one of three
pub peel : (o room : ℕ) (bytes rest : List ℕ) → Closes (suc o) room bytes rest → Peeled o room bytes rest
peel o room bytes rest c = peel_frames o room bytes rest c.after c.frames c.each c.spelled c.behind

abbrev Complete : ℕ → List ℕ → Type 0
Complete n rest = (o r : ℕ) (b : List ℕ) → Closes o r b rest → length b < n → close_at n o r b ≡ Ok rest

complete_step : (n o r : ℕ) (b rest : List ℕ) → Complete n rest → length b < suc n → Peeled o r b rest → close_on (close_at n) o r (step_at r b) ≡ Ok rest
complete_step n o r b rest ih lt (peel_end after e c) =
    ap (λ x. close_on (close_at n) o r (step_at r x)) e ∙ ap (close_on (close_at n) o r) (step_at-end r after) ∙ ih o (suc r) after c (omega (arith, ap length e, length-append end_of_contents after))
complete_step n o r b rest ih lt (peel_whole k frame body after t room d apart e c) =
    let step : step_at r b ≡ Ok (Whole, after) = ap (step_at r) e ∙ ap (λ x. step_at x (frame ++ after)) room ∙ step_at-whole k frame after t body d apart in
    ap (close_on (close_at n) o r) step ∙ ih (suc o) r after c (omega (arith, ap length e, length-append frame after, ap length d.spelled, length-append d.head body, length-header d.head t (Some (length body)) d.header))
complete_step n o r b rest ih lt (peel_open k head after t room h e c) =
    let step : step_at r b ≡ Ok (Open, after) = ap (step_at r) e ∙ ap (λ x. step_at x (head ++ after)) room ∙ step_at-open k head after t h in
    let less : k ≡ r - 1 = omega (arith, room) in
    ap (close_on (close_at n) o r) step ∙ ih (suc (suc o)) (r - 1) after (subst (λ (x : ℕ). Closes (suc (suc o)) x after rest) less c) (omega (arith, ap length e, length-append head after, length-header head t None h))

-- where elements close, reading finds the end
pub close_at-complete : (n : ℕ) (rest : List ℕ) → Complete n rest
close_at-complete n rest zero r b c lt = close_at-closed n r b ∙ ap (λ (x : List ℕ). Ok x) c
close_at-complete zero rest (suc o) r b c lt = absurd (omega arith)
close_at-complete (suc n) rest (suc o) r b c lt = complete_step n o r b rest (close_at-complete n rest) lt (peel o r b rest c)

-- ---- no continuation closes where a fault is met

abbrev NoClosing : ℕ → Type 0
NoClosing n = (o r : ℕ) (b : List ℕ) (d : BerFault) → d ≢ Short → IsBytes b → close_at n o r b ≡ Err d → (more rest : List ℕ) → Closes o r (b ++ more) rest → ⊥

-- a definite element and the end of contents are apart
pub whole_end : {P : Type 0} (frame body x y : List ℕ) (t : Tag) → IsDefinite frame t body → frame ≢ end_of_contents → frame ++ x ≡ end_of_contents ++ y → P
whole_end frame body x y t d apart e = absurd (apart (d.spelled ∙ is_end d.head body x y t d.header (ap (λ o. o ++ x) (sym d.spelled) ∙ e)))

-- two definite elements in one place are one
whole_one : (f g c d x y : List ℕ) (s t : Tag) → IsDefinite f s c → IsDefinite g t d → f ++ x ≡ g ++ y → x ≡ y
whole_one f g c d x y s t p q e =
    let one = heads_one p.head q.head s t (Some (length c)) (Some (length d)) (c ++ x) (d ++ y) p.header q.header (sym (append_assoc p.head c x) ∙ ap (λ o. o ++ x) (sym p.spelled) ∙ e ∙ ap (λ o. o ++ y) q.spelled ∙ append_assoc q.head d y) in
    (fronts c d x y (some_is (length c) (length d) (Some (length c)) refl one.1) one.2).1

whole_open : {P : Type 0} (f h c x y : List ℕ) (s t : Tag) → IsDefinite f s c → IsHeader h t None → f ++ x ≡ h ++ y → P
whole_open f h c x y s t p q e =
    let one = heads_one p.head h s t (Some (length c)) None (c ++ x) y p.header q (sym (append_assoc p.head c x) ∙ ap (λ o. o ++ x) (sym p.spelled) ∙ e) in
    none_some (length c) None refl (sym one.1)

-- more octets behind a front go behind what follows it
pub behind_more : (b f after more : List ℕ) → b ≡ f ++ after → b ++ more ≡ f ++ (after ++ more)
behind_more b f after more e = ap (λ o. o ++ more) e ∙ append_assoc f after more

-- no continuation closes where a step cannot be made
pub stuck : (o r : ℕ) (b more rest : List ℕ) → IsStuck r b → Peeled o r (b ++ more) rest → ⊥
stuck o r b more rest s (peel_end after e c) = s.0 more after e
stuck o r b more rest s (peel_whole k frame body after t room p apart e c) =
    s.1 k room (more, (p.head, body ++ after, (t, Some (length body), p.header), e ∙ ap (λ x. x ++ after) p.spelled ∙ append_assoc p.head body after))
stuck o r b more rest s (peel_open k head after t room p e c) = s.1 k room (more, (head, after, (t, None, p), e))

-- what must close behind a step
abbrev Follows : ℕ → ℕ → List ℕ → List ℕ → Result (Step × List ℕ) BerFault → Type 0
Follows o r more rest (Ok (End, after)) = Closes o (suc r) (after ++ more) rest
Follows o r more rest (Ok (Whole, after)) = Closes (suc o) r (after ++ more) rest
Follows o r more rest (Ok (Open, after)) = Closes (suc (suc o)) (r - 1) (after ++ more) rest
Follows o r more rest (Err fault) = Unit {0}

-- a step that is found is a step of each continuation that closes
follows : (o r : ℕ) (b more rest : List ℕ) (s : Result (Step × List ℕ) BerFault) → StepRead r b s → Peeled o r (b ++ more) rest → Follows o r more rest s
follows o r b more rest (Ok (End, after)) h (peel_end after' e' c) =
    let same : after ++ more ≡ after' = append_cancel_left end_of_contents _ _ (sym (behind_more b end_of_contents after more h) ∙ e') in
    subst (λ (x : List ℕ). Closes o (suc r) x rest) (sym same) c
follows o r b more rest (Ok (End, after)) h (peel_whole k frame body after' t room p apart e' c) =
    whole_end frame body after' (after ++ more) t p apart (sym e' ∙ behind_more b end_of_contents after more h)
follows o r b more rest (Ok (End, after)) h (peel_open k head after' t room p e' c) =
    absurd (head_apart head t after' (after ++ more) p (sym e' ∙ behind_more b end_of_contents after more h))
follows o r b more rest (Ok (Whole, after)) h (peel_end after' e' c) =
    whole_end h.frame h.body (after ++ more) after' h.tag h.definite h.apart (sym (behind_more b h.frame after more h.spelled) ∙ e')
follows o r b more rest (Ok (Whole, after)) h (peel_whole k frame body after' t room p apart e' c) =
    let same : after ++ more ≡ after' = whole_one h.frame frame h.body body (after ++ more) after' h.tag t h.definite p (sym (behind_more b h.frame after more h.spelled) ∙ e') in
    subst (λ (x : List ℕ). Closes (suc o) r x rest) (sym same) c
follows o r b more rest (Ok (Whole, after)) h (peel_open k head after' t room p e' c) =
    whole_open h.frame head h.body (after ++ more) after' h.tag t h.definite p (sym (behind_more b h.frame after more h.spelled) ∙ e')
follows o r b more rest (Ok (Open, after)) h (peel_end after' e' c) =
    absurd (head_apart h.head h.tag (after ++ more) after' h.header (sym (behind_more b h.head after more h.spelled) ∙ e'))
follows o r b more rest (Ok (Open, after)) h (peel_whole k frame body after' t room p apart e' c) =
    whole_open frame h.head body after' (after ++ more) t h.tag p h.header (sym e' ∙ behind_more b h.head after more h.spelled)
follows o r b more rest (Ok (Open, after)) h (peel_open k head after' t room p e' c) =
    let one = heads_one h.head head h.tag t None None (after ++ more) after' h.header p (sym (behind_more b h.head after more h.spelled) ∙ e') in
    let less : k ≡ r - 1 = omega (arith, room) in
    subst (λ (x : List ℕ). Closes (suc (suc o)) (r - 1) x rest) (sym one.2) (subst (λ (x : ℕ). Closes (suc (suc o)) x after' rest) less c)
follows o r b more rest (Err fault) h p = tt

-- what closes behind a step that is found
pub followed : (o r : ℕ) (b more rest : List ℕ) (s : Result (Step × List ℕ) BerFault) → StepRead r b s → Closes (suc o) r (b ++ more) rest → Follows o r more rest s
followed o r b more rest s h c = follows o r b more rest s h (peel o r (b ++ more) rest c)

none_step : (n o r : ℕ) (b : List ℕ) (d : BerFault) → d ≢ Short → IsBytes b → NoClosing n → (s : Result (Step × List ℕ) BerFault) → StepRead r b s → close_on (close_at n) o r s ≡ Err d → (more rest : List ℕ) → Closes (suc o) r (b ++ more) rest → ⊥
none_step n o r b d long fits ih (Ok (End, after)) h e more rest c =
    ih o (suc r) after d long (bytes_of b end_of_contents after fits h) e more rest (followed o r b more rest (Ok (End, after)) h c)
none_step n o r b d long fits ih (Ok (Whole, after)) h e more rest c =
    ih (suc o) r after d long (bytes_of b h.frame after fits h.spelled) e more rest (followed o r b more rest (Ok (Whole, after)) h c)
none_step n o r b d long fits ih (Ok (Open, after)) h e more rest c =
    ih (suc (suc o)) (r - 1) after d long (bytes_of b h.head after fits h.spelled) e more rest (followed o r b more rest (Ok (Open, after)) h c)
none_step n o r b d long fits ih (Err Short) h e more rest c = long (err_one d Short _ e refl)
none_step n o r b d long fits ih (Err BadTag) h e more rest c = stuck o r b more rest h.0 (peel o r (b ++ more) rest c)
none_step n o r b d long fits ih (Err BadLength) h e more rest c = stuck o r b more rest h.0 (peel o r (b ++ more) rest c)
none_step n o r b d long fits ih (Err (TooLarge k)) h e more rest c = h
none_step n o r b d long fits ih (Err TooDeep) h e more rest c = stuck o r b more rest h.0 (peel o r (b ++ more) rest c)

-- where reading meets a fault, no continuation closes
pub close_at-none : (n : ℕ) → NoClosing n
close_at-none n zero r b d long fits e more rest c = ok_err b d _ (close_at-closed n r b) e
close_at-none zero (suc o) r b d long fits e more rest c = long (err_one d Short _ e refl)
close_at-none (suc n) (suc o) r b d long fits e more rest c =
    none_step n o r b d long fits (close_at-none n) (step_at r b) (step_at-read r b fits) e more rest c
