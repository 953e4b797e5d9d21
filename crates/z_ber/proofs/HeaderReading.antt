-- What reading a header gives is what the octets begin with, and each fault comes where it is due.
use Rattle.std.proofs.Common.{◌≡◌, ◌∙◌, ℕ, ◌-◌, ◌≤◌, lit<, inl, List, [], ◌∷◌, ◌++◌, length, take, Option, Some, Result, Ok, Err, sym, ap, subst, append_assoc, arith, refl}
use Rattle.std.proofs.lemmas.List.{append-nil, length-append, take_at}
use Rattle.z_ber.specs.declared.fault.BerFault.{BerFault}
use Rattle.z_ber.specs.declared.fault.BerFault.TheVariants.{Short, BadTag, BadLength, TooLarge, TooDeep}
use Rattle.z_ber.specs.declared.tag.Tag.{Tag}
use Rattle.z_ber.specs.Written.{IsTag, tag_octets}
use Rattle.z_ber.specs.Header.{IsHeader, Begins, IsSomeHeader}
use Rattle.z_ber.specs.HeaderAnswer.{IsHeaderAnswer}
use Rattle.z_ber.specs.Reading.{◌>>=◌, tag_at, length_at, header_at}
use Rattle.z_ber.proofs.TagReading.{IsBytes, IsBytes-tail, TagRead, tag_at-read, tag_at-again}
use Rattle.z_ber.proofs.LengthReading.{LengthRead, length_at-read, length_at-again}

pub IsBytes-suffix : (a b : List ℕ) → IsBytes (a ++ b) → IsBytes b
IsBytes-suffix [] b fits = fits
IsBytes-suffix (x ∷ a) b fits = IsBytes-suffix a b (IsBytes-tail x (a ++ b) fits)

abbrev pub HeaderParts : Type 0
HeaderParts = Tag × Option ℕ × List ℕ

-- a good answer and a fault are two
pub ok_not_err : {A P : Type 0} (r : Result A BerFault) (x : A) (e : BerFault) → r ≡ Ok x → r ≡ Err e → P
ok_not_err r x e p q = absurd cc

-- the step behind the tag
abbrev pub behind_tag : Tag × List ℕ → Result HeaderParts BerFault
behind_tag tag = length_at tag.0.constructed tag.1 >>= λ len. Ok (tag.0, len.0, len.1)

pub header_at-tag : (bytes : List ℕ) (x : Tag × List ℕ) → tag_at bytes ≡ Ok x → header_at bytes ≡ behind_tag x
unfolding header_at
header_at-tag bytes x e = rw e refl

pub header_at-untagged : (bytes : List ℕ) (e : BerFault) → tag_at bytes ≡ Err e → header_at bytes ≡ Err e
unfolding header_at
header_at-untagged bytes e h = rw h refl

pub header_at-whole : (bytes : List ℕ) (x : Tag × List ℕ) (l : Option ℕ × List ℕ) → tag_at bytes ≡ Ok x → length_at x.0.constructed x.1 ≡ Ok l → header_at bytes ≡ Ok (x.0, l.0, l.1)
header_at-whole bytes x l p q = header_at-tag bytes x p ∙ ap (λ (r : Result (Option ℕ × List ℕ) BerFault). r >>= λ len. Ok (x.0, len.0, len.1)) q

pub header_at-unlengthed : (bytes : List ℕ) (x : Tag × List ℕ) (e : BerFault) → tag_at bytes ≡ Ok x → length_at x.0.constructed x.1 ≡ Err e → header_at bytes ≡ Err e
header_at-unlengthed bytes x e p q = header_at-tag bytes x p ∙ ap (λ (r : Result (Option ℕ × List ℕ) BerFault). r >>= λ len. Ok (x.0, len.0, len.1)) q

-- a header is read as what it spells
pub header_at-again : (head : List ℕ) (t : Tag) (l : Option ℕ) (rest : List ℕ) → IsHeader head t l → header_at (head ++ rest) ≡ Ok (t, l, rest)
header_at-again head t l rest h =
    let first : tag_at (head ++ rest) ≡ Ok (t, h.ends ++ rest) =
    ap (λ o. tag_at (o ++ rest)) h.spelled ∙ ap tag_at (append_assoc (tag_octets t) h.ends rest) ∙ tag_at-again t (h.ends ++ rest) h.valid
    in
    header_at-whole (head ++ rest) (t, h.ends ++ rest) (l, rest) first (length_at-again t.constructed h.ends l rest h.lengths)

-- how reading went, with the steps
pub record Whole (bytes : List ℕ) (t : Tag) (l : Option ℕ) (body : List ℕ) : Type 0 where
  pub head : List ℕ
  pub header : IsHeader head t l
  pub spelled : bytes ≡ head ++ body

abbrev pub HeaderRead : List ℕ → Result HeaderParts BerFault → Type 0
HeaderRead bytes (Ok x) = Whole bytes x.0 x.1 x.2
HeaderRead bytes (Err e) = IsHeaderAnswer bytes (Err e)

pub not_begun : (bytes : List ℕ) (e : BerFault) → header_at bytes ≡ Err e → Begins IsSomeHeader bytes → ⊥
not_begun bytes e h b =
    let r = header_at-again b.0 b.2.0 b.2.1 b.1 b.2.2 in
    ok_not_err (header_at bytes) (b.2.0, b.2.1, b.1) e (ap header_at b.3 ∙ r) h

tag_failed : (bytes : List ℕ) (e : BerFault) → tag_at bytes ≡ Err e → TagRead bytes (Err e) → IsHeaderAnswer bytes (Err e)
tag_failed bytes Short p h =
    let head : List ℕ = tag_octets h.tag ++ 0 ∷ [] in
    let header : IsHeader (tag_octets h.tag ++ 0 ∷ []) h.tag (Some 0) = record { valid = h.valid; ends = 0 ∷ []; lengths = inl (lit< tt, refl); spelled = refl } in
    (not_begun bytes Short (header_at-untagged bytes Short p), (h.more ++ 0 ∷ [], (head, [], (h.tag, Some 0, header), sym (append_assoc bytes h.more (0 ∷ [])) ∙ ap (λ o. o ++ 0 ∷ []) h.spelled ∙ sym (append-nil head))))
tag_failed bytes BadTag p h = λ o.
    let r : tag_at (bytes ++ o.0) ≡ Ok (o.1.2.0, o.1.1) = ap tag_at (o.1.3 ∙ ap (λ f. f ++ o.1.1) o.1.2.2) ∙ tag_at-again o.1.2.0 o.1.1 o.1.2.1 in
    ok_not_err (tag_at (bytes ++ o.0)) (o.1.2.0, o.1.1) BadTag r (h o.0)
tag_failed bytes BadLength p h = absurd h
tag_failed bytes (TooLarge n) p h = absurd h
tag_failed bytes TooDeep p h = absurd h

length_failed : (bytes : List ℕ) (x : Tag × List ℕ) (e : BerFault) → tag_at bytes ≡ Ok x → IsTag x.0 → bytes ≡ tag_octets x.0 ++ x.1 → length_at x.0.constructed x.1 ≡ Err e → LengthRead x.0.constructed x.1 (Err e) → IsHeaderAnswer bytes (Err e)
length_failed bytes x Short p valid s q h =
    let front : List ℕ = tag_octets x.0 ++ h.ends in
    let header : IsHeader (tag_octets x.0 ++ h.ends) x.0 h.len = record { valid = valid; ends = h.ends; lengths = h.lengths; spelled = refl } in
    (not_begun bytes Short (header_at-unlengthed bytes x Short p q), (h.more, (front, [], (x.0, h.len, header), ap (λ o. o ++ h.more) s ∙ append_assoc (tag_octets x.0) x.1 h.more ∙ ap (λ o. tag_octets x.0 ++ o) h.spelled ∙ sym (append-nil front))))
length_failed bytes x BadLength p valid s q h = (
  (tag_octets x.0, x.1, (x.0, valid, refl), s),
  λ o.
      let whole = bytes ++ o.0 in
      let first : tag_at (bytes ++ o.0) ≡ Ok (x.0, x.1 ++ o.0) = ap (λ b. tag_at (b ++ o.0)) s ∙ ap tag_at (append_assoc (tag_octets x.0) x.1 o.0) ∙ tag_at-again x.0 (x.1 ++ o.0) valid in
      let bad : header_at (bytes ++ o.0) ≡ Err BadLength = header_at-unlengthed (bytes ++ o.0) (x.0, x.1 ++ o.0) BadLength first (h o.0) in
      not_begun (bytes ++ o.0) BadLength bad o.1,
)
length_failed bytes x BadTag p valid s q h = absurd h
length_failed bytes x (TooLarge n) p valid s q h = absurd h
length_failed bytes x TooDeep p valid s q h = absurd h

length_step : (bytes : List ℕ) (x : Tag × List ℕ) → tag_at bytes ≡ Ok x → IsTag x.0 → bytes ≡ tag_octets x.0 ++ x.1 → (r : Result (Option ℕ × List ℕ) BerFault) → length_at x.0.constructed x.1 ≡ r → LengthRead x.0.constructed x.1 r → HeaderRead bytes (header_at bytes)
length_step bytes x p valid s (Ok l) q h =
    let header : IsHeader (tag_octets x.0 ++ h.ends) x.0 l.0 = record { valid = valid; ends = h.ends; lengths = h.lengths; spelled = refl } in
    let r : HeaderRead bytes (Ok (x.0, l.0, l.1)) = record {
      head = tag_octets x.0 ++ h.ends;
      header = header;
      spelled = s ∙ ap (λ o. tag_octets x.0 ++ o) h.spelled ∙ sym (append_assoc (tag_octets x.0) h.ends l.1);
    } in
    subst (λ (y : Result HeaderParts BerFault). HeaderRead bytes y) (sym (header_at-whole bytes x l p q)) r
length_step bytes x p valid s (Err e) q h =
    subst (λ (y : Result HeaderParts BerFault). HeaderRead bytes y) (sym (header_at-unlengthed bytes x e p q)) (length_failed bytes x e p valid s q h)

tag_step : (bytes : List ℕ) → IsBytes bytes → (r : Result (Tag × List ℕ) BerFault) → tag_at bytes ≡ r → TagRead bytes r → HeaderRead bytes (header_at bytes)
tag_step bytes fits (Ok x) p h =
    let rest : IsBytes x.1 = IsBytes-suffix (tag_octets x.0) x.1 (subst (λ (b : List ℕ). IsBytes b) h.1 fits) in
    length_step bytes x p h.0 h.1 (length_at x.0.constructed x.1) refl (length_at-read x.0.constructed x.1 rest)
tag_step bytes fits (Err e) p h =
    subst (λ (y : Result HeaderParts BerFault). HeaderRead bytes y) (sym (header_at-untagged bytes e p)) (tag_failed bytes e p h)

-- each outcome of reading a header is right
pub header_at-read : (bytes : List ℕ) → IsBytes bytes → HeaderRead bytes (header_at bytes)
header_at-read bytes fits = tag_step bytes fits (tag_at bytes) refl (tag_at-read bytes fits)

pub header-failed : (bytes : List ℕ) (e : BerFault) → IsBytes bytes → header_at bytes ≡ Err e → IsHeaderAnswer bytes (Err e)
header-failed bytes e fits h = subst (λ (y : Result HeaderParts BerFault). HeaderRead bytes y) h (header_at-read bytes fits)

pub header-read : (bytes : List ℕ) (x : HeaderParts) → IsBytes bytes → header_at bytes ≡ Ok x → Whole bytes x.0 x.1 x.2
header-read bytes x fits h = subst (λ (y : Result HeaderParts BerFault). HeaderRead bytes y) h (header_at-read bytes fits)

-- the header's own octets
pub header-front : (bytes : List ℕ) (t : Tag) (l : Option ℕ) (body : List ℕ) → Whole bytes t l body → (length bytes - length body ≤ length bytes) × IsHeader (take (length bytes - length body) bytes) t l
header-front bytes t l body w =
    let size : length bytes - length body ≡ length w.head = omega (arith, ap length w.spelled, length-append w.head body) in
    let front : take (length bytes - length body) bytes ≡ w.head = rw (size, w.spelled) (take_at w.head body (length w.head) refl) in
    (omega arith, subst (λ (o : List ℕ). IsHeader o t l) (sym front) w.header)
