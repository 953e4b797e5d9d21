-- What reading a definite frame gives is what the octets begin with, and each fault comes where it is due.
use Rattle.std.proofs.Common.{◌≡◌, ◌∙◌, ℕ, ◌+◌, ◌-◌, ◌*◌, ◌/◌, ◌%◌, ◌<◌, ◌≤◌, Bool, cond, min, lit<, lit≤, inl, inr, List, [], ◌∷◌, ◌++◌, length, take, drop, map, replicate, Option, Some, None, Result, Ok, Err, sym, ap, subst, append_assoc, arith, refl}
use Rattle.std.specs.Int.Digits.{digits_of, number_from_digits, number_from_digits_after}
use Rattle.std.proofs.lemmas.Int.Digits.{length-digits_of-le}
use Rattle.std.proofs.lemmas.Bool.{cases_lt, lt-ltb, le-ltb}
use Rattle.std.proofs.lemmas.Bool.Decides.{leb_tells}
use Rattle.std.proofs.lemmas.List.{append-nil, length-append, length-map, length-replicate, take_at, take-append-drop, length-take}
use Rattle.z_ber.specs.declared.fault.BerFault.{BerFault}
use Rattle.z_ber.specs.declared.fault.BerFault.TheVariants.{Short, BadTag, BadLength, TooLarge, TooDeep}
use Rattle.z_ber.specs.declared.tag.Tag.{Tag}
use Rattle.z_ber.specs.Written.{IsTag, septets, tag_octets}
use Rattle.z_ber.specs.Header.{IsLength, IsHeader, Begins, Opens, IsIdentifier, IsSomeHeader, IsDefiniteHeader}
use Rattle.z_ber.specs.Frames.{IsDefiniteFrame}
use Rattle.z_ber.specs.FrameAnswer.{BeginsDefinite, IsDefiniteFault, IsDefiniteAnswer}
use Rattle.z_ber.specs.Reading.{◌>>=◌, tag_at, length_at, padded, header_at, has_room_behind, body_at, frame_behind, frame_at}
use Rattle.z_ber.proofs.ElementLaws.{heads, tag_octets-low, tag_octets-high}
use Rattle.z_ber.proofs.TagReading.{IsBytes, IsBytes-tail, TagRead, tag_at-read, tag_at-again}
use Rattle.z_ber.proofs.LengthReading.{length-padded, padded-short, long_form, length_at-part}
use Rattle.z_ber.proofs.HeaderReading.{HeaderParts, HeaderRead, Whole, header_at-again, header_at-read, not_begun, header_at-untagged, header_at-tag, IsBytes-suffix}

pub ok_is : {A : Type 0} (r : Result A BerFault) (x y : A) → r ≡ Ok x → r ≡ Ok y → x ≡ y
ok_is r x y p q = cc

-- the header of a frame, as it is read
pub framed : (bytes : List ℕ) (b : Begins IsDefiniteFrame bytes) → header_at bytes ≡ Ok (b.2.tag, Some (length b.2.body), b.2.body ++ b.1)
framed bytes b =
    ap header_at (b.3 ∙ ap (λ o. o ++ b.1) b.2.spelled ∙ append_assoc b.2.head b.2.body b.1) ∙ header_at-again b.2.head b.2.tag (Some (length b.2.body)) (b.2.body ++ b.1) b.2.header

-- a frame begins with a header
abbrev headed : (bytes : List ℕ) → Begins IsDefiniteFrame bytes → Begins IsSomeHeader bytes
headed bytes b = (b.2.head, b.2.body ++ b.1, (b.2.tag, Some (length b.2.body), b.2.header), b.3 ∙ ap (λ o. o ++ b.1) b.2.spelled ∙ append_assoc b.2.head b.2.body b.1)

abbrev identified : (bytes : List ℕ) → Begins IsDefiniteFrame bytes → Begins IsIdentifier bytes
identified bytes b =
    let h = b.2.header in
    (tag_octets b.2.tag, h.ends ++ (b.2.body ++ b.1), (b.2.tag, h.valid, refl), (headed bytes b).3 ∙ ap (λ o. o ++ (b.2.body ++ b.1)) h.spelled ∙ append_assoc (tag_octets b.2.tag) h.ends (b.2.body ++ b.1))

-- ---- behind a whole header

-- a frame that goes on behind a whole header is as long as the header says
same_size : (bytes more : List ℕ) (t : Tag) (l : Option ℕ) (body : List ℕ) (w : Whole bytes t l body) (b : Begins IsDefiniteFrame (bytes ++ more)) → (l ≡ Some (length b.2.body)) × (body ++ more ≡ b.2.body ++ b.1) × (length b.0 ≡ length w.head + length b.2.body)
same_size bytes more t l body w b =
    let whole : bytes ++ more ≡ w.head ++ (body ++ more) = ap (λ o. o ++ more) w.spelled ∙ append_assoc w.head body more in
    let here : header_at (bytes ++ more) ≡ Ok (t, l, body ++ more) = ap header_at whole ∙ header_at-again w.head t l (body ++ more) w.header in
    let one : (t, l, body ++ more) ≡ (b.2.tag, Some (length b.2.body), b.2.body ++ b.1) = ok_is {A = HeaderParts} (header_at (bytes ++ more)) _ _ here (framed (bytes ++ more) b) in
    let len : l ≡ Some (length b.2.body) = ap (λ (p : HeaderParts). p.1) one in
    let rest : body ++ more ≡ b.2.body ++ b.1 = ap (λ (p : HeaderParts). p.2) one in
    let parts = (headed (bytes ++ more) b).3 in
    let n : length w.head + length (body ++ more) ≡ length b.2.head + length (b.2.body ++ b.1) =
    sym (length-append w.head (body ++ more)) ∙ ap length (sym whole ∙ parts) ∙ length-append b.2.head (b.2.body ++ b.1)
    in
    (len, rest, omega (arith, n, ap length rest, ap length b.2.spelled, length-append b.2.head b.2.body))

pub some_is : (m n : ℕ) (l : Option ℕ) → l ≡ Some m → l ≡ Some n → m ≡ n
some_is m n l p q = cc

-- no frame stands behind an indefinite header
none_indefinite : (bytes : List ℕ) (t : Tag) (body : List ℕ) → Whole bytes t None body → ¬ Opens IsDefiniteFrame bytes
none_indefinite bytes t body w = λ o. let s = same_size bytes o.0 t None body w o.1 in let e = s.0 in absurd cc

-- an indefinite header is no definite one
definite_apart : (bytes : List ℕ) (t : Tag) (body : List ℕ) → Whole bytes t None body → ¬ Opens IsDefiniteHeader bytes
definite_apart bytes t body w = λ o.
    let h = o.1.2 in
    let here : header_at (bytes ++ o.0) ≡ Ok (t, None, body ++ o.0) = ap header_at (ap (λ x. x ++ o.0) w.spelled ∙ append_assoc w.head body o.0) ∙ header_at-again w.head t None (body ++ o.0) w.header in
    let there : header_at (bytes ++ o.0) ≡ Ok (h.0, Some h.1, o.1.1) = ap header_at o.1.3 ∙ header_at-again o.1.0 h.0 (Some h.1) o.1.1 h.2 in
    let one : (t, None, body ++ o.0) ≡ (h.0, Some h.1, o.1.1) = ok_is {A = HeaderParts} (header_at (bytes ++ o.0)) _ _ here there in
    let e : None ≡ Some h.1 = ap (λ (p : HeaderParts). p.1) one in
    absurd cc

-- identifier octets of a whole header
pub whole_identified : (bytes : List ℕ) (t : Tag) (l : Option ℕ) (body : List ℕ) → Whole bytes t l body → Begins IsIdentifier bytes
whole_identified bytes t l body w =
    let h = w.header in
    (tag_octets t, h.ends ++ body, (t, h.valid, refl), w.spelled ∙ ap (λ o. o ++ body) h.spelled ∙ append_assoc (tag_octets t) h.ends body)

-- a whole definite header says how large a frame would be
large_fault : (bytes : List ℕ) (t : Tag) (len : ℕ) (body : List ℕ) → Whole bytes t (Some len) body → IsDefiniteFault bytes (TooLarge len)
large_fault bytes t len body w =
    (([], (w.head, body, (t, len, w.header), append-nil bytes ∙ w.spelled)), inl (t, (w.head, body, w.header, w.spelled)))

pub none_large : (bytes : List ℕ) (t : Tag) (len : ℕ) (body : List ℕ) (w : Whole bytes t (Some len) body) → 1048576 < length w.head + len → ¬ Opens IsDefiniteFrame bytes
none_large bytes t len body w over = λ o.
    let s = same_size bytes o.0 t (Some len) body w o.1 in
    let n : len ≡ length o.1.2.body = some_is len (length o.1.2.body) (Some len) refl s.0 in
    omega (arith, n, s.2, o.1.2.small)

none_short : (bytes : List ℕ) (t : Tag) (len : ℕ) (body : List ℕ) (w : Whole bytes t (Some len) body) → length body < len → ¬ Begins IsDefiniteFrame bytes
none_short bytes t len body w short = λ b.
    let one : (t, Some len, body) ≡ (b.2.tag, Some (length b.2.body), b.2.body ++ b.1) =
    ok_is {A = HeaderParts} (header_at bytes) _ _ (ap header_at w.spelled ∙ header_at-again w.head t (Some len) body w.header) (framed bytes b) in
    let n : len ≡ length b.2.body = some_is len (length b.2.body) (Some len) refl (ap (λ (p : HeaderParts). p.1) one) in
    let rest : body ≡ b.2.body ++ b.1 = ap (λ (p : HeaderParts). p.2) one in
    omega (arith, n, ap length rest, length-append b.2.body b.1)

-- zeros make a frame of what has come
pub open_body : (bytes : List ℕ) (t : Tag) (len : ℕ) (body : List ℕ) (w : Whole bytes t (Some len) body) → length w.head + len ≤ 1048576 → length body < len → Opens IsDefiniteFrame bytes
open_body bytes t len body w small short =
    let more : List ℕ = replicate (len - length body) 0 in
    let filled : length (body ++ more) ≡ len = omega (arith, length-append body more, length-replicate {A = ℕ} (len - length body) 0) in
    let spelled : bytes ++ more ≡ w.head ++ (body ++ more) = ap (λ o. o ++ more) w.spelled ∙ append_assoc w.head body more in
    let frame : IsDefiniteFrame (bytes ++ more) = record {
      tag = t;
      head = w.head;
      body = body ++ more;
      header = subst (λ (n : ℕ). IsHeader w.head t (Some n)) (sym filled) w.header;
      spelled = spelled;
      small = omega (arith, ap length spelled, length-append w.head (body ++ more), filled);
    } in
    (more, (bytes ++ more, [], frame, sym (append-nil (bytes ++ more))))

-- a whole frame
pub whole_body : (bytes : List ℕ) (t : Tag) (len : ℕ) (body : List ℕ) (w : Whole bytes t (Some len) body) → length w.head + len ≤ 1048576 → len ≤ length body → (length w.head + len ≤ length bytes) × IsDefiniteFrame (take (length w.head + len) bytes)
whole_body bytes t len body w small come =
    let inner = take len body in
    let n : length (take len body) ≡ len = omega (arith, length-take len body) in
    let parts : bytes ≡ (w.head ++ take len body) ++ drop len body = w.spelled ∙ ap (λ o. w.head ++ o) (sym (take-append-drop len body)) ∙ sym (append_assoc w.head (take len body) (drop len body)) in
    let size : length (w.head ++ take len body) ≡ length w.head + len = omega (arith, length-append w.head (take len body), n) in
    let front : take (length w.head + len) bytes ≡ w.head ++ take len body = rw parts (take_at (w.head ++ take len body) (drop len body) (length w.head + len) size) in (
      omega (arith, ap length w.spelled, length-append w.head body),
      record {
        tag = t;
        head = w.head;
        body = take len body;
        header = subst (λ (k : ℕ). IsHeader w.head t (Some k)) (sym n) w.header;
        spelled = front;
        small = omega (arith, ap length front, size);
      },
    )

body_step : (bytes : List ℕ) (t : Tag) (len : ℕ) (body : List ℕ) (w : Whole bytes t (Some len) body) → IsDefiniteAnswer bytes (body_at (length w.head) len body)
body_step bytes t len body w =
    elim (cases_lt 1048576 (length w.head + len)) [
      | inl over ↦
          rw (lt-ltb 1048576 (length w.head + len) over) (none_large bytes t len body w over, large_fault bytes t len body w)
      | inr small ↦ elim (cases_lt (length body) len) [
        | inl short ↦
            rw (le-ltb 1048576 (length w.head + len) small, lt-ltb (length body) len short) (none_short bytes t len body w short, open_body bytes t len body w small short)
        | inr come ↦
            rw (le-ltb 1048576 (length w.head + len) small, le-ltb (length body) len come) (whole_body bytes t len body w small come)
      ]
    ]

-- ---- behind a part of a header

-- identifier octets are few
pub length-tag_octets : (t : Tag) → IsTag t → length (tag_octets t) ≤ 6
unfolding septets
length-tag_octets t valid =
    elim (cases_lt t.number 31) [
      | inl low ↦ omega (arith, ap length (tag_octets-low t low))
      | inr high ↦
          let ds = digits_of 128 (t.number / 128) in
          let few : length ds ≤ 4 = length-digits_of-le 128 4 (t.number / 128) (lit≤ tt) (omega (arith, valid.1)) in
          omega (arith, ap length (tag_octets-high t high), length-append (map (λ digit. 128 + digit) ds) ((t.number % 128) ∷ []), length-map ds (λ digit. 128 + digit))
    ]

-- an empty element opens what begins as its tag
pub open_tag : (bytes more : List ℕ) (t : Tag) → IsTag t → bytes ++ more ≡ tag_octets t → Opens IsDefiniteFrame bytes
open_tag bytes more t valid e =
    let frame : List ℕ = tag_octets t ++ 0 ∷ [] in
    let header : IsHeader (tag_octets t ++ 0 ∷ []) t (Some 0) = record { valid = valid; ends = 0 ∷ []; lengths = inl (lit< tt, refl); spelled = refl } in
    let it : IsDefiniteFrame (tag_octets t ++ 0 ∷ []) = record {
      tag = t;
      head = tag_octets t ++ 0 ∷ [];
      body = [];
      header = header;
      spelled = sym (append-nil frame);
      small = omega (arith, length-append (tag_octets t) (0 ∷ []), length-tag_octets t valid);
    } in
    (more ++ 0 ∷ [], (frame, [], it, sym (append_assoc bytes more (0 ∷ [])) ∙ ap (λ o. o ++ 0 ∷ []) e ∙ sym (append-nil frame)))

-- zeros make a header of a long form that has come in part
long_header : (bytes : List ℕ) (t : Tag) (lead count : ℕ) (digits : List ℕ) → IsBytes digits → IsTag t → bytes ≡ tag_octets t ++ (lead ∷ digits) → 0 < count → count ≤ 8 → lead ≡ 128 + count → length digits ≤ count → Opens IsDefiniteHeader bytes
long_header bytes t lead count digits fits valid s some few lead-is short =
    let n : ℕ = number_from_digits 256 (padded count digits) in
    let ends : List ℕ = (128 + count) ∷ padded count digits in
    let p = padded-short count digits short in
    let come : bytes ++ p.0 ≡ tag_octets t ++ ends =
    ap (λ o. o ++ p.0) s ∙ append_assoc (tag_octets t) (lead ∷ digits) p.0 ∙ ap (λ o. tag_octets t ++ (lead ∷ o)) p.1 ∙ ap (λ k. tag_octets t ++ (k ∷ padded count digits)) lead-is
    in
    let header : IsHeader (tag_octets t ++ ends) t (Some n) = record { valid = valid; ends = ends; lengths = inr (long_form count digits fits some few); spelled = refl } in
    (p.0, (tag_octets t ++ ends, [], (t, n, header), come ∙ sym (append-nil (tag_octets t ++ ends))))

definite_begun : (bytes : List ℕ) (len : ℕ) → BeginsDefinite bytes len → Begins IsSomeHeader bytes
definite_begun bytes len b = (b.1.0, b.1.1, (b.0, Some len, b.1.2), b.1.3)

-- zeros make a header and a frame of a long form that has come in part
open_long : (bytes : List ℕ) (t : Tag) (lead count : ℕ) (digits : List ℕ) → IsBytes digits → IsTag t → bytes ≡ tag_octets t ++ (lead ∷ digits) → 0 < count → count ≤ 8 → lead ≡ 128 + count → length digits ≤ count → length (tag_octets t) + 1 + count + number_from_digits 256 (padded count digits) ≤ 1048576 → Opens IsDefiniteFrame bytes
open_long bytes t lead count digits fits valid s some few lead-is short room =
    let n : ℕ = number_from_digits 256 (padded count digits) in
    let ends : List ℕ = (128 + count) ∷ padded count digits in
    let body : List ℕ = replicate n 0 in
    let p = padded-short count digits short in
    let come : bytes ++ p.0 ≡ tag_octets t ++ ends =
    ap (λ o. o ++ p.0) s ∙ append_assoc (tag_octets t) (lead ∷ digits) p.0 ∙ ap (λ o. tag_octets t ++ (lead ∷ o)) p.1 ∙ ap (λ k. tag_octets t ++ (k ∷ padded count digits)) lead-is
    in
    let size : length (replicate {A = ℕ} n 0) ≡ n = length-replicate {A = ℕ} n 0 in
    let header : IsHeader (tag_octets t ++ ends) t (Some n) = record { valid = valid; ends = ends; lengths = inr (long_form count digits fits some few); spelled = refl } in
    let it : IsDefiniteFrame ((tag_octets t ++ ends) ++ body) = record {
      tag = t;
      head = tag_octets t ++ ends;
      body = body;
      header = subst (λ (k : ℕ). IsHeader (tag_octets t ++ ends) t (Some k)) (sym size) header;
      spelled = refl;
      small = omega (arith, length-append (tag_octets t ++ ends) body, length-append (tag_octets t) ends, size, length-padded count digits, room);
    } in
    (p.0 ++ body, ((tag_octets t ++ ends) ++ body, [], it, sym (append_assoc bytes p.0 body) ∙ ap (λ o. o ++ body) come ∙ sym (append-nil ((tag_octets t ++ ends) ++ body))))

-- zeros stand for the least number
least_after : (ends digits more rest : List ℕ) (m n : ℕ) → m ≤ n → digits ++ more ≡ ends ++ rest → number_from_digits_after 256 m (padded (length ends) digits) ≤ number_from_digits_after 256 n ends
least_after [] digits more rest m n le e = le
least_after (d ∷ ends) [] more rest m n le e = least_after ends [] (ends ++ rest) rest (m * 256 + 0) (n * 256 + d) (omega arith) refl
least_after (d ∷ ends) (c ∷ digits) more rest m n le e =
    let h = heads c d (digits ++ more) (ends ++ rest) e in
    least_after ends digits more rest (m * 256 + c) (n * 256 + d) (omega (arith, h.0)) h.1

-- a long form that has come in part goes on with as many octets as its first says, and no smaller number
pub longer : (lead count : ℕ) (digits more ends rest : List ℕ) (c : Bool) (n : ℕ) → lead ≡ 128 + count → 0 < count → (lead ∷ digits) ++ more ≡ ends ++ rest → IsLength c ends (Some n) → (length ends ≡ 1 + count) × (number_from_digits 256 (padded count digits) ≤ n)
longer lead count digits more ends rest c n lead-is some e (inl low) =
    let g = heads lead n (digits ++ more) rest (e ∙ ap (λ o. o ++ rest) low.1) in absurd (omega (arith, low.0, g.0))
longer lead count digits more ends rest c n lead-is some e (inr long) =
    let g = heads lead (128 + length long.digits) (digits ++ more) (long.digits ++ rest) (e ∙ ap (λ o. o ++ rest) long.spelled) in
    let count-is : length long.digits ≡ count = omega (arith, g.0) in
    let least = least_after long.digits digits more rest 0 0 (lit≤ tt) g.1 in
    let least-is : number_from_digits 256 (padded count digits) ≤ number_from_digits 256 long.digits = subst (λ (k : ℕ). number_from_digits 256 (padded k digits) ≤ number_from_digits 256 long.digits) count-is least in
    (omega (arith, ap length long.spelled, count-is), omega (arith, least-is, long.number))

-- no frame goes on from a long form whose least number is too large
none_long : (bytes : List ℕ) (t : Tag) (lead count : ℕ) (digits : List ℕ) → IsTag t → bytes ≡ tag_octets t ++ (lead ∷ digits) → 0 < count → lead ≡ 128 + count → 1048576 < length (tag_octets t) + 1 + count + number_from_digits 256 (padded count digits) → ¬ Opens IsDefiniteFrame bytes
none_long bytes t lead count digits valid s some lead-is over = λ o.
    let b = o.1 in
    let h = b.2.header in
    let rest = b.2.body ++ b.1 in
    let here : tag_at (bytes ++ o.0) ≡ Ok (t, (lead ∷ digits) ++ o.0) =
    ap (λ x. tag_at (x ++ o.0)) s ∙ ap tag_at (append_assoc (tag_octets t) (lead ∷ digits) o.0) ∙ tag_at-again t ((lead ∷ digits) ++ o.0) valid
    in
    let there : tag_at (bytes ++ o.0) ≡ Ok (b.2.tag, h.ends ++ rest) =
    ap tag_at ((identified (bytes ++ o.0) b).3) ∙ tag_at-again b.2.tag (h.ends ++ rest) h.valid
    in
    let one : (t, (lead ∷ digits) ++ o.0) ≡ (b.2.tag, h.ends ++ rest) = ok_is {A = Tag × List ℕ} (tag_at (bytes ++ o.0)) _ _ here there in
    let same : t ≡ b.2.tag = ap (λ (p : Tag × List ℕ). p.0) one in
    let ends-is : (lead ∷ digits) ++ o.0 ≡ h.ends ++ rest = ap (λ (p : Tag × List ℕ). p.1) one in
    let long = longer lead count digits o.0 h.ends rest b.2.tag.constructed (length b.2.body) lead-is some ends-is h.lengths in
    omega (arith, over, b.2.small, ap length b.2.spelled, length-append b.2.head b.2.body, ap length h.spelled, length-append (tag_octets b.2.tag) h.ends, ap (λ (x : Tag). length (tag_octets x)) same, long.0, long.1)

errs_one : {A : Type 0} (r : Result A BerFault) (d e : BerFault) → r ≡ Err d → r ≡ Err e → d ≡ e
errs_one r d e p q = cc

pub bind_short : {A B : Type 0} (r : Result A BerFault) (f : A → B) → (r >>= λ x. Ok (f x)) ≡ Err Short → r ≡ Err Short
bind_short (Ok x) f e = absurd cc
bind_short (Err d) f e = cc

-- a header of which a part has come
part_step : (bytes : List ℕ) → IsBytes bytes → header_at bytes ≡ Err Short → (s : Result (Tag × List ℕ) BerFault) → tag_at bytes ≡ s → TagRead bytes s → IsDefiniteAnswer bytes (cond (has_room_behind bytes s) (Err Short) (Err (TooLarge 1048577)))
part_step bytes fits h (Err Short) p r =
    ((λ b. not_begun bytes Short h (headed bytes b)), open_tag bytes r.more r.tag r.valid r.spelled)
part_step bytes fits h (Err BadTag) p r = let e = errs_one (header_at bytes) Short BadTag h (header_at-untagged bytes BadTag p) in absurd cc
part_step bytes fits h (Err BadLength) p r = absurd r
part_step bytes fits h (Err (TooLarge n)) p r = absurd r
part_step bytes fits h (Err TooDeep) p r = absurd r
part_step bytes fits h (Ok (t, [])) p r =
    ((λ b. not_begun bytes Short h (headed bytes b)), open_tag bytes [] t r.0 (append-nil bytes ∙ r.1 ∙ append-nil (tag_octets t)))
part_step bytes fits h (Ok (t, lead ∷ digits)) p r =
    let part : length_at t.constructed (lead ∷ digits) ≡ Err Short =
    bind_short (length_at t.constructed (lead ∷ digits)) (λ len. (t, len.0, len.1)) (sym (header_at-tag bytes (t, lead ∷ digits) p) ∙ h)
    in
    let q = length_at-part t.constructed lead digits part in
    let count : ℕ = lead - 128 in
    let few : min (lead - 128) 8 ≡ lead - 128 = omega (arith, q.0, q.1) in
    let size : length bytes - length (lead ∷ digits) ≡ length (tag_octets t) = omega (arith, ap length r.1, length-append (tag_octets t) (lead ∷ digits)) in
    let bytes-rest : IsBytes digits = IsBytes-tail lead digits (IsBytes-suffix (tag_octets t) (lead ∷ digits) (subst (λ (b : List ℕ). IsBytes b) r.1 fits)) in
    rw (few, size) (
    elim (leb_tells (length (tag_octets t) + 1 + (lead - 128) + number_from_digits 256 (padded (lead - 128) digits)) 1048576) [
      | inl room ↦
          rw (room.0) ((λ b. not_begun bytes Short h (headed bytes b)), open_long bytes t lead (lead - 128) digits bytes-rest r.0 r.1 (omega (arith, q.0)) (omega (arith, q.1)) (omega (arith, q.0)) (omega (arith, q.2)) room.1)
      | inr over ↦
          rw (over.0) (none_long bytes t lead (lead - 128) digits r.0 r.1 (omega (arith, q.0)) (omega (arith, q.0)) over.1, (long_header bytes t lead (lead - 128) digits bytes-rest r.0 r.1 (omega (arith, q.0)) (omega (arith, q.1)) (omega (arith, q.0)) (omega (arith, q.2)), inr ((λ len b. not_begun bytes Short h (definite_begun bytes len b)), refl)))
    ]
    )

-- each outcome of reading a definite frame is right
frame_step : (bytes : List ℕ) → IsBytes bytes → (r : Result HeaderParts BerFault) → header_at bytes ≡ r → HeaderRead bytes r → IsDefiniteAnswer bytes (frame_behind bytes r)
frame_step bytes fits (Err Short) p h = part_step bytes fits p (tag_at bytes) refl (tag_at-read bytes fits)
frame_step bytes fits (Err BadTag) p h = ((λ o. h (o.0, identified (bytes ++ o.0) o.1)), h)
frame_step bytes fits (Err BadLength) p h = ((λ o. h.1 (o.0, headed (bytes ++ o.0) o.1)), (h.0, λ o. h.1 (o.0, some_header (bytes ++ o.0) o.1)))
  where
    some_header : (b : List ℕ) → Begins IsDefiniteHeader b → Begins IsSomeHeader b
    some_header b s = (s.0, s.1, (s.2.0, Some s.2.1, s.2.2), s.3)
frame_step bytes fits (Err (TooLarge n)) p h = absurd h
frame_step bytes fits (Err TooDeep) p h = absurd h
frame_step bytes fits (Ok (t, None, body)) p h =
    (none_indefinite bytes t body h, (whole_identified bytes t None body h, definite_apart bytes t body h))
frame_step bytes fits (Ok (t, Some len, body)) p h =
    let size : length bytes - length body ≡ length h.head = omega (arith, ap length h.spelled, length-append h.head body) in
    rw size (body_step bytes t len body h)

pub frame_at-read : (bytes : List ℕ) → IsBytes bytes → IsDefiniteAnswer bytes (frame_at bytes)
unfolding frame_at
frame_at-read bytes fits = frame_step bytes fits (header_at bytes) refl (header_at-read bytes fits)
