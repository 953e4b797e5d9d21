-- How many octets must still come at least where an element has come in part.
use Rattle.std.proofs.Common.{◌≡◌, ◌∙◌, ℕ, ◌+◌, ◌-◌, ◌<◌, ◌≤◌, min, Bool, inl, inr, List, [], ◌∷◌, ◌++◌, length, drop, Option, Some, None, Result, Ok, Err, sym, ap, append_assoc, arith, refl}
use Rattle.std.specs.Int.Digits.{number_from_digits}
use Rattle.std.proofs.lemmas.Bool.{cases_lt, le-ltb}
use Rattle.std.proofs.lemmas.List.{length-append}
use Rattle.z_ber.specs.declared.fault.BerFault.{BerFault}
use Rattle.z_ber.specs.declared.fault.BerFault.TheVariants.{Short, BadTag, BadLength, TooLarge, TooDeep}
use Rattle.z_ber.specs.declared.step.Step.TheVariants.{Whole as Passed, Open}
use Rattle.z_ber.specs.declared.tag.Tag.{Tag}
use Rattle.z_ber.specs.Written.{IsTag, tag_octets}
use Rattle.z_ber.specs.Header.{IsLength, IsHeader}
use Rattle.z_ber.specs.Reading.{tag_at, length_at, padded, header_at, child_behind, wanting_in_header, wanting_in_element}
use Rattle.z_ber.proofs.ElementLaws.{heads, front_split}
use Rattle.z_ber.proofs.TagReading.{IsBytes, TagRead, tag_at-read, tag_at-again}
use Rattle.z_ber.proofs.LengthReading.{length_at-part}
use Rattle.z_ber.proofs.HeaderReading.{HeaderParts, HeaderRead, ok_not_err, header_at-read, header_at-tag, header_at-untagged}
use Rattle.z_ber.proofs.FrameReading.{ok_is, longer, bind_short}
use Rattle.z_ber.proofs.TreeLaws.{heads_one}
use Rattle.z_ber.proofs.StepReading.{length-ends-some}

-- how many contents octets a header asks for
abbrev pub asked : Option ℕ → ℕ
asked None = 0
asked (Some n) = n

-- one octet at least ends the identifier octets, and one is the length octets
untagged_least : (b more head x : List ℕ) (t : Tag) (l : Option ℕ) (h : IsHeader head t l) → tag_at b ≡ Err Short → b ++ more ≡ tag_octets t ++ (h.ends ++ x) → 2 + length x ≤ length more
untagged_least b more head x t l h p e =
    elim (cases_lt (length b) (length (tag_octets t))) [
      | inl short ↦
          omega (arith, short, ap length e, length-append b more, length-append (tag_octets t) (h.ends ++ x), length-append h.ends x, length-ends-some t.constructed h.ends l h.lengths)
      | inr past ↦
          let m = front_split (tag_octets t) b (h.ends ++ x) more (sym e) past in
          ok_not_err (tag_at b) (t, m.0) Short (ap tag_at (sym m.1) ∙ tag_at-again t m.0 h.valid) p
    ]

-- behind identifier octets that have come the length octets go on
same_ends : (b more rest head x : List ℕ) (u t : Tag) (l : Option ℕ) (h : IsHeader head t l) → IsTag u → b ≡ tag_octets u ++ rest → b ++ more ≡ tag_octets t ++ (h.ends ++ x) → rest ++ more ≡ h.ends ++ x
same_ends b more rest head x u t l h valid s e =
    let here : tag_at (b ++ more) ≡ Ok (u, rest ++ more) = ap tag_at (ap (λ o. o ++ more) s ∙ append_assoc (tag_octets u) rest more) ∙ tag_at-again u (rest ++ more) valid in
    let there : tag_at (b ++ more) ≡ Ok (t, h.ends ++ x) = ap tag_at e ∙ tag_at-again t (h.ends ++ x) h.valid in
    let one : (u, rest ++ more) ≡ (t, h.ends ++ x) = ok_is {A = Tag × List ℕ} (tag_at (b ++ more)) _ _ here there in
    ap (λ (p : Tag × List ℕ). p.1) one

-- the rest of a long form, and the contents of its least number
long_least : (lead count : ℕ) (digits more ends x : List ℕ) (c : Bool) (l : Option ℕ) → lead ≡ 128 + count → 0 < count → length digits < count → IsLength c ends l → (lead ∷ digits) ++ more ≡ ends ++ x → count - length digits + number_from_digits 256 (padded count digits) + length x ≤ length more + asked l
long_least lead count digits more ends x c None lead-is some short h e =
    let g = heads lead 128 (digits ++ more) x (e ∙ ap (λ o. o ++ x) h.1) in absurd (omega (arith, g.0, lead-is, some))
long_least lead count digits more ends x c (Some n) lead-is some short h e =
    let g = longer lead count digits more ends x c n lead-is some e h in
    let m : length (lead ∷ (digits ++ more)) ≡ length (ends ++ x) = ap length e in
    omega (arith, g.0, g.1, m, length-append digits more, length-append ends x, short)

-- what is wanting of a header that has come in part comes before what is behind it
header_least : (b more : List ℕ) → header_at b ≡ Err Short → (s : Result (Tag × List ℕ) BerFault) → tag_at b ≡ s → TagRead b s → (head x : List ℕ) (t : Tag) (l : Option ℕ) (h : IsHeader head t l) → b ++ more ≡ tag_octets t ++ (h.ends ++ x) → wanting_in_header s + length x ≤ length more + asked l
header_least b more q (Err Short) p r head x t l h e = omega (arith, untagged_least b more head x t l h p e)
header_least b more q (Err BadTag) p r head x t l h e = absurd (let d : Err BadTag ≡ Err Short = sym (header_at-untagged b BadTag p) ∙ q in cc)
header_least b more q (Err BadLength) p r head x t l h e = absurd r
header_least b more q (Err (TooLarge n)) p r head x t l h e = absurd r
header_least b more q (Err TooDeep) p r head x t l h e = absurd r
header_least b more q (Ok (u, [])) p r head x t l h e =
    let m = same_ends b more [] head x u t l h r.0 r.1 e in
    omega (arith, ap length m, length-append h.ends x, length-ends-some t.constructed h.ends l h.lengths)
header_least b more q (Ok (u, lead ∷ digits)) p r head x t l h e =
    let part : length_at u.constructed (lead ∷ digits) ≡ Err Short =
    bind_short (length_at u.constructed (lead ∷ digits)) (λ len. (u, len.0, len.1)) (sym (header_at-tag b (u, lead ∷ digits) p) ∙ q)
    in
    let k = length_at-part u.constructed lead digits part in
    let few : min (lead - 128) 8 ≡ lead - 128 = omega (arith, k.0, k.1) in
    let m = same_ends b more (lead ∷ digits) head x u t l h r.0 r.1 e in
    rw few (long_least lead (lead - 128) digits more h.ends x t.constructed l (omega (arith, k.0)) (omega (arith, k.0)) k.2 h.lengths m)

-- an element whose contents have come is not in part
child_open : {P : Type 0} (len : ℕ) (t : Tag) (body : List ℕ) → len ≤ length body → child_behind (Ok (t, Some len, body)) ≡ Err Short → P
child_open len t body come e =
    let f : child_behind (Ok (t, Some len, body)) ≡ Ok (Passed, drop len body) = rw (le-ltb (length body) len come) refl in
    ok_not_err (child_behind (Ok (t, Some len, body))) (Passed, drop len body) Short f e

-- the same of an element, by how its header is read
element_step : (b more : List ℕ) → IsBytes b → (r : Result HeaderParts BerFault) → header_at b ≡ r → HeaderRead b r → child_behind r ≡ Err Short → (head x : List ℕ) (t : Tag) (l : Option ℕ) (h : IsHeader head t l) → b ++ more ≡ head ++ x → wanting_in_element b r + length x ≤ length more + asked l
element_step b more fits (Ok (u, None, body)) p w s head x t l h e = ok_not_err (child_behind (Ok (u, None, body))) (Open, body) Short refl s
element_step b more fits (Ok (u, Some len, body)) p w s head x t l h e =
    elim (cases_lt (length body) len) [
      | inl short ↦
          let whole : w.head ++ (body ++ more) ≡ head ++ x = sym (ap (λ o. o ++ more) w.spelled ∙ append_assoc w.head body more) ∙ e in
          let one = heads_one w.head head u t (Some len) l (body ++ more) x w.header h whole in
          omega (arith, ap asked one.1, ap length one.2, length-append body more, short)
      | inr come ↦ child_open len u body come s
    ]
element_step b more fits (Err Short) p w s head x t l h e =
    header_least b more p (tag_at b) refl (tag_at-read b fits) head x t l h (e ∙ ap (λ o. o ++ x) h.spelled ∙ append_assoc (tag_octets t) h.ends x)
element_step b more fits (Err BadTag) p w s head x t l h e = absurd cc
element_step b more fits (Err BadLength) p w s head x t l h e = absurd cc
element_step b more fits (Err (TooLarge n)) p w s head x t l h e = absurd w
element_step b more fits (Err TooDeep) p w s head x t l h e = absurd w

-- what comes behind octets that are a part of an element, and what its header asks for, is no less than what is wanting of it and what is behind its header
pub element_least : (b more : List ℕ) → IsBytes b → child_behind (header_at b) ≡ Err Short → (head x : List ℕ) (t : Tag) (l : Option ℕ) → IsHeader head t l → b ++ more ≡ head ++ x → wanting_in_element b (header_at b) + length x ≤ length more + asked l
element_least b more fits s head x t l h e = element_step b more fits (header_at b) refl (header_at-read b fits) s head x t l h e
