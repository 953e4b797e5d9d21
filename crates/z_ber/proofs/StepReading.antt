-- One step within an element of indefinite length: what it finds is there, and each fault comes where it is due.
use Rattle.std.proofs.Common.{◌≡◌, ◌∙◌, ◌≢◌, ◌⊎◌, ℕ, ◌+◌, ◌-◌, ◌*◌, ◌≤◌, min, zero, suc, Bool, false, ltb, lit<, inl, inr, List, [], ◌∷◌, ◌++◌, length, take, drop, Option, Some, None, Result, Ok, Err, sym, ap, subst, append_assoc, arith, refl}
use Rattle.std.proofs.lemmas.List.{length-append, append-nil, take-append-drop, length-take-le, drop_at, length-replicate}
use Rattle.std.proofs.lemmas.Bool.{cases_lt, lt-ltb, le-ltb, ne_eqb}
use Rattle.std.specs.Prelude.{replicate}
use Rattle.std.specs.Int.Digits.{number_from_digits}
use Rattle.z_ber.specs.declared.fault.BerFault.{BerFault}
use Rattle.z_ber.specs.declared.fault.BerFault.TheVariants.{Short, BadTag, BadLength, TooLarge, TooDeep}
use Rattle.z_ber.specs.declared.step.Step.{Step}
use Rattle.z_ber.specs.declared.step.Step.TheVariants.{End, Whole, Open}
use Rattle.z_ber.specs.declared.tag.Tag.{Tag}
use Rattle.z_ber.specs.Written.{tag_octets}
use Rattle.z_ber.specs.Header.{IsLength, IsHeader, Begins, Opens, IsIdentifier, IsSomeHeader}
use Rattle.z_ber.specs.Element.{end_of_contents}
use Rattle.z_ber.specs.Frames.{IsDefinite}
use Rattle.z_ber.specs.Due.{IsFaultAt}
use Rattle.z_ber.specs.Reading.{tag_at, length_at, padded, header_at, child_behind, child_at, step_at, wanting_in_header, wanting_in_element, least_to_come}
use Rattle.z_ber.proofs.ElementLaws.{heads, tag_octets-low, tag_octets-high}
use Rattle.z_ber.proofs.TagReading.{IsBytes, IsBytes-tail, TagRead, tag_at-read}
use Rattle.z_ber.proofs.LengthReading.{length-padded, padded-short, long_form, length_at-part}
use Rattle.z_ber.proofs.HeaderReading.{HeaderParts, HeaderRead, header_at-again, header_at-read, header_at-tag, header_at-untagged, IsBytes-suffix}
use Rattle.z_ber.proofs.FrameReading.{bind_short}
use Rattle.z_ber.proofs.TreeLaws.{is_end, heads_one, end_tag, end_header, none_some}

-- ---- a header has two octets at least

length-tag_octets-some : (t : Tag) → 1 ≤ length (tag_octets t)
length-tag_octets-some t =
    elim (cases_lt t.number 31) [
      | inl low ↦ omega (arith, ap length (tag_octets-low t low))
      | inr high ↦ omega (arith, ap length (tag_octets-high t high))
    ]

-- length octets are one at least
pub length-ends-some : (c : Bool) (ends : List ℕ) (l : Option ℕ) → IsLength c ends l → 1 ≤ length ends
length-ends-some c ends None h = omega (arith, ap length h.1)
length-ends-some c ends (Some n) (inl h) = omega (arith, ap length h.1)
length-ends-some c ends (Some n) (inr h) = omega (arith, ap length h.spelled)

-- a header has two octets at least
pub length-header : (h : List ℕ) (t : Tag) (l : Option ℕ) → IsHeader h t l → 2 ≤ length h
length-header h t l p = omega (arith, ap length p.spelled, length-append (tag_octets t) p.ends, length-tag_octets-some t, length-ends-some t.constructed p.ends l p.lengths)

-- ---- a header of which a part has come

-- zeros or the like make a definite header, with as few octets behind what has come as there can be
pub record Completes (bytes : List ℕ) : Type 0 where
  pub more : List ℕ
  pub tag : Tag
  pub len : ℕ
  pub header : IsHeader (bytes ++ more) tag (Some len)
  pub fewest : length more + len ≡ wanting_in_header (tag_at bytes)

part_completes : (bytes : List ℕ) → IsBytes bytes → header_at bytes ≡ Err Short → (s : Result (Tag × List ℕ) BerFault) → tag_at bytes ≡ s → TagRead bytes s → Completes bytes
part_completes bytes fits h (Err Short) p r = record {
  more = r.more ++ 0 ∷ [];
  tag = r.tag;
  len = 0;
  fewest = omega (arith, length-append r.more (0 ∷ []), r.one, ap wanting_in_header p);
  header = record { valid = r.valid; ends = 0 ∷ []; lengths = inl (lit< tt, refl); spelled = sym (append_assoc bytes r.more (0 ∷ [])) ∙ ap (λ o. o ++ 0 ∷ []) r.spelled };
}
part_completes bytes fits h (Err BadTag) p r = absurd (let e : Err BadTag ≡ Err Short = sym (header_at-untagged bytes BadTag p) ∙ h in cc)
part_completes bytes fits h (Err BadLength) p r = absurd r
part_completes bytes fits h (Err (TooLarge n)) p r = absurd r
part_completes bytes fits h (Err TooDeep) p r = absurd r
part_completes bytes fits h (Ok (t, [])) p r = record {
  more = 0 ∷ [];
  tag = t;
  len = 0;
  fewest = sym (ap wanting_in_header p);
  header = record { valid = r.0; ends = 0 ∷ []; lengths = inl (lit< tt, refl); spelled = ap (λ o. o ++ 0 ∷ []) (r.1 ∙ append-nil (tag_octets t)) };
}
part_completes bytes fits h (Ok (t, lead ∷ digits)) p r =
    let part : length_at t.constructed (lead ∷ digits) ≡ Err Short =
    bind_short (length_at t.constructed (lead ∷ digits)) (λ len. (t, len.0, len.1)) (sym (header_at-tag bytes (t, lead ∷ digits) p) ∙ h)
    in
    let q = length_at-part t.constructed lead digits part in
    let few : min (lead - 128) 8 ≡ lead - 128 = omega (arith, q.0, q.1) in
    let rest : IsBytes digits = IsBytes-tail lead digits (IsBytes-suffix (tag_octets t) (lead ∷ digits) (subst (λ (b : List ℕ). IsBytes b) r.1 fits)) in
    let m = padded-short (lead - 128) digits (omega (arith, q.2)) in
    let lead-is : 128 + (lead - 128) ≡ lead = omega (arith, q.0) in
    let form = long_form (lead - 128) digits rest (omega (arith, q.0)) (omega (arith, q.1)) in
    record {
      more = m.0;
      tag = t;
      len = number_from_digits 256 (padded (lead - 128) digits);
      fewest = omega (arith, ap wanting_in_header p, q.1, ap length m.1, length-append digits m.0, length-padded (lead - 128) digits, ap (λ k. number_from_digits 256 (padded k digits)) few);
      header = record {
        valid = r.0;
        ends = (128 + (lead - 128)) ∷ padded (lead - 128) digits;
        lengths = inr form;
        spelled = ap (λ o. o ++ m.0) r.1 ∙ append_assoc (tag_octets t) (lead ∷ digits) m.0 ∙ ap (λ o. tag_octets t ++ (lead ∷ o)) m.1 ∙ ap (λ k. tag_octets t ++ (k ∷ padded (lead - 128) digits)) (sym lead-is);
      };
    }

-- a header that has come in part has a completion
pub header-completes : (bytes : List ℕ) → IsBytes bytes → header_at bytes ≡ Err Short → Completes bytes
header-completes bytes fits h = part_completes bytes fits h (tag_at bytes) refl (tag_at-read bytes fits)

-- ---- one step

-- what stands at the front is no end of contents
pub step_at-child : (room : ℕ) (b : List ℕ) → 2 ≤ length b → ((z : List ℕ) → b ≡ 0 ∷ 0 ∷ z → ⊥) → step_at room b ≡ child_at room b
unfolding step_at
step_at-child room [] two apart = absurd (omega arith)
step_at-child room (zero ∷ []) two apart = absurd (omega arith)
step_at-child room (zero ∷ zero ∷ z) two apart = absurd (apart z refl)
step_at-child room (zero ∷ suc s ∷ z) two apart = refl
step_at-child room (suc f ∷ z) two apart = refl

-- the end of contents is read as it
pub step_at-end : (room : ℕ) (after : List ℕ) → step_at room (end_of_contents ++ after) ≡ Ok (End, after)
unfolding step_at
step_at-end room after = refl

-- where levels are left an element within is read behind its header
pub child_at-room : (k : ℕ) (b : List ℕ) → child_at (suc k) b ≡ child_behind (header_at b)
child_at-room k b = rw (ne_eqb (suc k) 0 (λ e. omega arith)) refl

-- an element behind its whole header is passed over or entered
pub step_at-whole : (k : ℕ) (frame after : List ℕ) (t : Tag) (body : List ℕ) → IsDefinite frame t body → frame ≢ end_of_contents → step_at (suc k) (frame ++ after) ≡ Ok (Whole, after)
step_at-whole k frame after t body d apart =
    let parts : frame ++ after ≡ d.head ++ (body ++ after) = ap (λ o. o ++ after) d.spelled ∙ append_assoc d.head body after in
    let two : 2 ≤ length (frame ++ after) = omega (arith, length-header d.head t (Some (length body)) d.header, ap length parts, length-append d.head (body ++ after)) in
    let unlike : (z : List ℕ) → frame ++ after ≡ 0 ∷ 0 ∷ z → ⊥ = λ z e. apart (d.spelled ∙ is_end d.head body after z t d.header (ap (λ o. o ++ after) (sym d.spelled) ∙ e)) in
    let come : ltb (length (body ++ after)) (length body) ≡ false = le-ltb _ _ (omega (arith, length-append body after)) in
    step_at-child (suc k) (frame ++ after) two unlike ∙ child_at-room k (frame ++ after) ∙ ap child_behind (ap header_at parts ∙ header_at-again d.head t (Some (length body)) (body ++ after) d.header) ∙ rw (come, drop_at body after (length body) refl) refl

-- an indefinite header is not the end of contents
pub head_apart : (h : List ℕ) (t : Tag) (x z : List ℕ) → IsHeader h t None → h ++ x ≡ 0 ∷ 0 ∷ z → ⊥
head_apart h t x z p e =
    let one = heads_one h end_of_contents t end_tag None (Some 0) x z p end_header e in
    none_some 0 None refl one.1

-- an indefinite header is entered
pub step_at-open : (k : ℕ) (head after : List ℕ) (t : Tag) → IsHeader head t None → step_at (suc k) (head ++ after) ≡ Ok (Open, after)
step_at-open k head after t p =
    let two : 2 ≤ length (head ++ after) = omega (arith, length-header head t None p, length-append head after) in
    step_at-child (suc k) (head ++ after) two (λ z e. head_apart head t after z p e) ∙ child_at-room k (head ++ after) ∙ ap child_behind (header_at-again head t None after p)

-- what a step has found
pub record FoundWhole (room : ℕ) (bytes after : List ℕ) : Type 0 where
  pub level : ℕ
  pub room-is : room ≡ suc level
  pub tag : Tag
  pub frame : List ℕ
  pub body : List ℕ
  pub definite : IsDefinite frame tag body
  pub apart : frame ≢ end_of_contents
  pub spelled : bytes ≡ frame ++ after

-- the header of an indefinite element
pub record FoundOpen (room : ℕ) (bytes after : List ℕ) : Type 0 where
  pub level : ℕ
  pub room-is : room ≡ suc level
  pub tag : Tag
  pub head : List ℕ
  pub header : IsHeader head tag None
  pub spelled : bytes ≡ head ++ after

-- `more`, with the ends of `opened` elements and of `ends` others, are as many octets as must come at least
abbrev pub AreLeast : List ℕ → List ℕ → ℕ → Type 0
AreLeast bytes more ends = (opened : ℕ) → least_to_come (suc opened) bytes ≡ length more + 2 * (opened + ends)

-- some continuation is the end of contents, or a definite element where levels are left, and none is shorter
pub record Continues (room : ℕ) (bytes : List ℕ) : Type 0 where
  pub more : List ℕ
  pub goes : ((bytes ++ more ≡ end_of_contents) × AreLeast bytes more 0) ⊎ (FoundWhole room (bytes ++ more) [] × AreLeast bytes more 1)

-- no continuation begins with the end of contents, and none with a header where levels are left
abbrev pub IsStuck : ℕ → List ℕ → Type 0
IsStuck room bytes = ((more rest : List ℕ) → bytes ++ more ≡ end_of_contents ++ rest → ⊥) × ((level : ℕ) → room ≡ suc level → Opens IsSomeHeader bytes → ⊥)

abbrev pub StepRead : ℕ → List ℕ → Result (Step × List ℕ) BerFault → Type 0
StepRead room bytes (Ok (End, after)) = bytes ≡ end_of_contents ++ after
StepRead room bytes (Ok (Whole, after)) = FoundWhole room bytes after
StepRead room bytes (Ok (Open, after)) = FoundOpen room bytes after
StepRead room bytes (Err Short) = Continues room bytes
StepRead room bytes (Err BadTag) = IsStuck room bytes × IsFaultAt 1 room bytes BadTag
StepRead room bytes (Err BadLength) = IsStuck room bytes × IsFaultAt 1 room bytes BadLength
StepRead room bytes (Err (TooLarge n)) = ⊥
StepRead room bytes (Err TooDeep) = IsStuck room bytes × IsFaultAt 1 room bytes TooDeep

-- a definite header with contents that may have come in part
definite_frame_of : (bytes head body : List ℕ) (t : Tag) (len : ℕ) → IsHeader head t (Some len) → bytes ≡ head ++ body → length body ≡ len → IsDefinite bytes t body
definite_frame_of bytes head body t len h s n = record { head = head; header = subst (λ (k : ℕ). IsHeader head t (Some k)) (sym n) h; spelled = s }

-- however the octets go on, they do not begin with the end of contents
abbrev pub NeverEnds : List ℕ → Type 0
NeverEnds b = (more rest : List ℕ) → b ++ more ≡ end_of_contents ++ rest → ⊥

not_end_of : (b more : List ℕ) → NeverEnds b → b ++ more ≢ end_of_contents
not_end_of b more never e = never more [] (e ∙ sym (append-nil end_of_contents))

-- what must come behind octets that are no part of an end of contents
abbrev IsChild : List ℕ → Type 0
IsChild b = (opened : ℕ) → least_to_come opened b ≡ wanting_in_element b (header_at b) + 2 * opened

child_read : (k : ℕ) (b : List ℕ) → IsBytes b → NeverEnds b → IsChild b → (r : Result HeaderParts BerFault) → header_at b ≡ r → HeaderRead b r → StepRead (suc k) b (child_behind r)
child_read k b fits never least (Ok (t, None, body)) p h = record { level = k; room-is = refl; tag = t; head = h.head; header = h.header; spelled = h.spelled }
child_read k b fits never least (Ok (t, Some len, body)) p h =
    elim (cases_lt (length body) len) [
      | inl short ↦
          let zeros : List ℕ = replicate (len - length body) 0 in
          let n : length (body ++ zeros) ≡ len = omega (arith, length-append body zeros, length-replicate {A = ℕ} (len - length body) 0) in
          let s : b ++ zeros ≡ h.head ++ (body ++ zeros) = ap (λ o. o ++ zeros) h.spelled ∙ append_assoc h.head body zeros in
          let frame : FoundWhole (suc k) (b ++ zeros) [] = record {
            level = k;
            room-is = refl;
            tag = t;
            frame = b ++ zeros;
            body = body ++ zeros;
            definite = definite_frame_of (b ++ zeros) h.head (body ++ zeros) t len h.header s n;
            apart = not_end_of b zeros never;
            spelled = sym (append-nil (b ++ zeros));
          } in
          let fewest : AreLeast b zeros 1 = λ o. omega (arith, least (suc o), ap (wanting_in_element b) p, length-replicate {A = ℕ} (len - length body) 0) in
          let r : Continues (suc k) b = record { more = zeros; goes = inr (frame, fewest) } in
          rw (lt-ltb (length body) len short) r
      | inr come ↦
          let n : length (take len body) ≡ len = length-take-le len body come in
          let s : b ≡ (h.head ++ take len body) ++ drop len body = h.spelled ∙ ap (λ o. h.head ++ o) (sym (take-append-drop len body)) ∙ sym (append_assoc h.head (take len body) (drop len body)) in
          let r : FoundWhole (suc k) b (drop len body) = record {
            level = k;
            room-is = refl;
            tag = t;
            frame = h.head ++ take len body;
            body = take len body;
            definite = definite_frame_of (h.head ++ take len body) h.head (take len body) t len h.header refl n;
            apart = λ e. never [] (drop len body) (append-nil b ∙ s ∙ ap (λ o. o ++ drop len body) e);
            spelled = s;
          } in
          rw (le-ltb (length body) len come) r
    ]
child_read k b fits never least (Err Short) p h =
    let c = header-completes b fits p in
    let zeros : List ℕ = replicate c.len 0 in
    let n : length (replicate {A = ℕ} c.len 0) ≡ c.len = length-replicate {A = ℕ} c.len 0 in
    let frame : FoundWhole (suc k) (b ++ (c.more ++ zeros)) [] = record {
      level = k;
      room-is = refl;
      tag = c.tag;
      frame = b ++ (c.more ++ zeros);
      body = zeros;
      definite = definite_frame_of (b ++ (c.more ++ zeros)) (b ++ c.more) zeros c.tag c.len c.header (sym (append_assoc b c.more zeros)) n;
      apart = not_end_of b (c.more ++ zeros) never;
      spelled = sym (append-nil (b ++ (c.more ++ zeros)));
    } in
    let fewest : AreLeast b (c.more ++ zeros) 1 = λ o. omega (arith, least (suc o), ap (wanting_in_element b) p, c.fewest, length-append c.more zeros, n) in
    record { more = c.more ++ zeros; goes = inr (frame, fewest) }
child_read k b fits never least (Err BadTag) p h = ((never, λ level e o. h (o.0, identified_header (b ++ o.0) o.1)), (omega arith, h))
  where
    identified_header : (x : List ℕ) → Begins IsSomeHeader x → Begins IsIdentifier x
    identified_header x s =
        let q = s.2.2 in
        (tag_octets s.2.0, q.ends ++ s.1, (s.2.0, q.valid, refl), s.3 ∙ ap (λ f. f ++ s.1) q.spelled ∙ append_assoc (tag_octets s.2.0) q.ends s.1)
child_read k b fits never least (Err BadLength) p h = ((never, λ level e o. h.1 o), (omega arith, h.0, h.1))
child_read k b fits never least (Err (TooLarge n)) p h = absurd h
child_read k b fits never least (Err TooDeep) p h = absurd h

stuck_deep : (b : List ℕ) → NeverEnds b → StepRead 0 b (Err TooDeep)
stuck_deep b never = ((never, λ level e o. absurd (omega arith)), (refl, λ o. never o.0 o.1.1 (o.1.3 ∙ ap (λ x. x ++ o.1.1) o.1.2)))

child_at-read : (room : ℕ) (b : List ℕ) → IsBytes b → NeverEnds b → IsChild b → StepRead room b (child_at room b)
child_at-read zero b fits never least = stuck_deep b never
child_at-read (suc k) b fits never least =
    subst (λ (r : Result (Step × List ℕ) BerFault). StepRead (suc k) b r) (sym (child_at-room k b)) (child_read k b fits never least (header_at b) refl (header_at-read b fits))

-- each outcome of a step is right
pub step_at-read : (room : ℕ) (b : List ℕ) → IsBytes b → StepRead room b (step_at room b)
unfolding step_at least_to_come
step_at-read room [] fits = record { more = 0 ∷ 0 ∷ []; goes = inl (refl, λ o. omega arith) }
step_at-read room (zero ∷ []) fits = record { more = 0 ∷ []; goes = inl (refl, λ o. omega arith) }
step_at-read room (zero ∷ zero ∷ z) fits = refl
step_at-read room (zero ∷ suc y ∷ z) fits =
    child_at-read room (zero ∷ suc y ∷ z) fits (λ more rest e. let h = heads (suc y) 0 _ _ (heads 0 0 _ _ e).1 in absurd (omega (arith, h.0))) (λ o. refl)
step_at-read room (suc x ∷ z) fits =
    child_at-read room (suc x ∷ z) fits (λ more rest e. let h = heads (suc x) 0 _ _ e in absurd (omega (arith, h.0))) (λ o. refl)
