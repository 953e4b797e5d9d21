-- Where a whole definite header asks for more octets than a frame may have, reading says so.
use Rattle.std.proofs.Common.{◌≡◌, ◌∙◌, ℕ, ◌+◌, ◌-◌, ◌<◌, ◌≤◌, List, length, Option, Some, None, Ok, Err, ap, subst, arith, refl}
use Rattle.std.proofs.lemmas.Bool.{lt-ltb}
use Rattle.std.proofs.lemmas.List.{length-append}
use Rattle.z_ber.specs.declared.fault.BerFault.{BerFault}
use Rattle.z_ber.specs.declared.fault.BerFault.TheVariants.{TooLarge}
use Rattle.z_ber.specs.declared.tag.Tag.{Tag}
use Rattle.z_ber.specs.Header.{IsHeader}
use Rattle.z_ber.specs.FrameAnswer.{IsTooLarge}
use Rattle.z_ber.specs.Reading.{header_at, frame_behind, frame_at}
use Rattle.z_ber.proofs.HeaderReading.{HeaderParts, Whole, ok_not_err, header_at-again}
use Rattle.z_ber.proofs.FrameReading.{ok_is, some_is}

-- that header, as it is read
large_header : (bytes : List ℕ) (n : ℕ) (l : IsTooLarge bytes n) → header_at bytes ≡ Ok (l.tag, Some n, l.rest)
large_header bytes n l = ap header_at l.spelled ∙ header_at-again l.head l.tag (Some n) l.rest l.header

-- and what is read behind it
large_body : (bytes : List ℕ) (n : ℕ) (l : IsTooLarge bytes n) → frame_behind bytes (Ok (l.tag, Some n, l.rest)) ≡ Err (TooLarge n)
large_body bytes n l =
    let size : length bytes - length l.rest ≡ length l.head = omega (arith, ap length l.spelled, length-append l.head l.rest) in
    rw (size, lt-ltb 1048576 (length l.head + n) l.over) refl

-- such octets are read as too large
pub frame_at-large : (bytes : List ℕ) (n : ℕ) → IsTooLarge bytes n → frame_at bytes ≡ Err (TooLarge n)
unfolding frame_at
frame_at-large bytes n l = ap (frame_behind bytes) (large_header bytes n l) ∙ large_body bytes n l

none_is_not_some : (n : ℕ) (l : Option ℕ) → l ≡ None → l ≡ Some n → ⊥
none_is_not_some n l p q = cc

-- they do not begin with a header of the indefinite form
pub open_not_large : (bytes : List ℕ) (t : Tag) (l : Option ℕ) (body : List ℕ) (n : ℕ) → l ≡ None → header_at bytes ≡ Ok (t, l, body) → ¬ IsTooLarge bytes n
open_not_large bytes t l body n e p = λ x.
    let one : (t, l, body) ≡ (x.tag, Some n, x.rest) = ok_is {A = HeaderParts} (header_at bytes) _ _ p (large_header bytes n x) in
    none_is_not_some n l e (ap (λ (h : HeaderParts). h.1) one)

-- where a whole header asks for few enough octets, none asks for too many
pub small_not_large : (bytes : List ℕ) (t : Tag) (l : Option ℕ) (len : ℕ) (body : List ℕ) (n : ℕ) → l ≡ Some len → header_at bytes ≡ Ok (t, l, body) → length bytes - length body + len ≤ 1048576 → ¬ IsTooLarge bytes n
small_not_large bytes t l len body n e p small = λ x.
    let one : (t, l, body) ≡ (x.tag, Some n, x.rest) = ok_is {A = HeaderParts} (header_at bytes) _ _ p (large_header bytes n x) in
    let m : len ≡ n = some_is len n l e (ap (λ (h : HeaderParts). h.1) one) in
    let rest : length body ≡ length x.rest = ap (λ (h : HeaderParts). length h.2) one in
    omega (arith, small, x.over, m, rest, ap length x.spelled, length-append x.head x.rest)

-- nor where no header can be read
pub unread_not_large : (bytes : List ℕ) (d : BerFault) (n : ℕ) → header_at bytes ≡ Err d → ¬ IsTooLarge bytes n
unread_not_large bytes d n e = λ x. ok_not_err (header_at bytes) (x.tag, Some n, x.rest) d (large_header bytes n x) e

-- a whole header that asks for too many
pub large_found : (bytes : List ℕ) (t : Tag) (l : Option ℕ) (len : ℕ) (body : List ℕ) → l ≡ Some len → Whole bytes t l body → 1048576 < length bytes - length body + len → IsTooLarge bytes len
large_found bytes t l len body e w over = record {
  tag = t;
  head = w.head;
  rest = body;
  header = subst (λ (k : Option ℕ). IsHeader w.head t k) e w.header;
  spelled = w.spelled;
  over = omega (arith, over, ap length w.spelled, length-append w.head body);
}
