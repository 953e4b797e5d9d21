-- What a scan meets where it stands: a place further on, the end of the frame, or why none can come.
use Rattle.std.proofs.Common.{◌≡◌, ◌∙◌, ℕ, ◌+◌, ◌-◌, ◌*◌, ◌<◌, ◌≤◌, zero, suc, inl, inr, List, [], ◌∷◌, ◌++◌, length, take, drop, Option, Some, None, Result, Ok, Err, sym, ap, subst, append_assoc, arith, refl}
use Rattle.std.proofs.lemmas.Bool.{ne_eqb}
use Rattle.std.proofs.lemmas.Bool.Decides.{leb_tells}
use Rattle.std.proofs.lemmas.List.{length-append, append-nil, length-drop, drop-drop, drop_at, drop-append-le, get_or-drop, take_at}
use Rattle.z_ber.specs.declared.fault.BerFault.{BerFault}
use Rattle.z_ber.specs.declared.fault.BerFault.TheVariants.{Short, BadTag, BadLength, TooLarge, TooDeep}
use Rattle.z_ber.specs.declared.step.Step.{Step}
use Rattle.z_ber.specs.declared.step.Step.TheVariants.{End, Whole as Passed, Open}
use Rattle.z_ber.specs.declared.scan.Progress.{Progress}
use Rattle.z_ber.specs.declared.tag.Tag.{Tag}
use Rattle.z_ber.specs.Header.{IsHeader, Begins, Opens, IsSomeHeader}
use Rattle.z_ber.specs.Element.{end_of_contents}
use Rattle.z_ber.specs.Frames.{IsExtent, IsFrameAt, IsFrame}
use Rattle.z_ber.specs.Due.{IsDue, Stands, StandsOn}
use Rattle.z_ber.specs.FrameAnswer.{BeginsDefinite, IsLargeNumber, IsOverAt, IsWholeAnswer, least_behind_header}
use Rattle.z_ber.specs.Scanning.{moved, ended, stop, IsProgress, at}
use Rattle.z_ber.specs.Reading.{header_at, child_behind, child_at, step_at, close_on, close_at, wanting_in_element, least_to_come, least_on, least_at}
use Rattle.z_ber.proofs.TagReading.{IsBytes}
use Rattle.z_ber.proofs.TreeLaws.{heads_one, none_some, end_tag, end_header}
use Rattle.z_ber.proofs.StepReading.{length-header, StepRead, FoundWhole, FoundOpen, Continues, IsStuck, step_at-read, child_at-room, head_apart, NeverEnds}
use Rattle.z_ber.proofs.HeaderLeast.{asked, element_least}
use Rattle.z_ber.proofs.ElementLaws.{heads}
use Rattle.z_ber.proofs.CloseReading.{extent-definite, Inner, Closes, closes_end, whole_end, peel, stuck, followed, ok_err, close_at-complete}
use Rattle.z_ber.proofs.LeastReading.{closes_ends, close_at-opening, close_at-fewer}
use Rattle.z_ber.proofs.DueSteps.{due_whole, due_open, due_end, due_more, due_left, due_begins, due_closes}

-- ---- places

-- what is behind octets at a place stands at a place of its own
moved_to : (bytes : List ℕ) (passed : ℕ) (f after : List ℕ) → passed ≤ length bytes → drop passed bytes ≡ f ++ after → (length bytes - length after ≡ passed + length f) × (drop (length bytes - length after) bytes ≡ after) × (length bytes ≡ passed + length (f ++ after))
moved_to bytes passed f after come e =
    let whole : length bytes ≡ passed + length (f ++ after) = omega (arith, ap length e, length-drop passed bytes) in
    let n : length bytes - length after ≡ passed + length f = omega (arith, whole, length-append f after) in
    (n, ap (λ k. drop k bytes) n ∙ sym (drop-drop (length f) passed bytes) ∙ ap (drop (length f)) e ∙ drop_at f after (length f) refl, whole)

-- a scan stands there, if there is room
place : (bytes : List ℕ) (passed o left : ℕ) (f after : List ℕ) → passed ≤ length bytes → drop passed bytes ≡ f ++ after → IsDue o 64 bytes left after → length bytes - length after + 2 * o ≤ 1048576 → Stands bytes (length bytes - length after) o
place bytes passed o left f after come e d small =
    let m = moved_to bytes passed f after come e in
    let n : left ≡ 64 - o = omega (arith, due_left o 64 bytes left after d) in
    record {
      come = omega arith;
      due = subst (λ (x : List ℕ). IsDue o 64 bytes (64 - o) x) (sym m.1) (subst (λ (k : ℕ). IsDue o 64 bytes k after) n d);
      small = small;
    }

-- the law of places
pub stands-on : StandsOn
stands-on octets more passed opened s = record {
  come = omega (arith, s.come, length-append octets more);
  due = subst (λ (x : List ℕ). IsDue opened 64 (octets ++ more) (64 - opened) x) (sym (drop-append-le passed octets more s.come)) (due_more opened 64 octets (64 - opened) (drop passed octets) more s.due);
  small = s.small;
}

-- what a step there finds
IsBytes-drop : (n : ℕ) (bytes : List ℕ) → IsBytes bytes → IsBytes (drop n bytes)
IsBytes-drop n bytes fits i = subst (λ (k : ℕ). k < 256) (sym (get_or-drop n bytes i 0)) (fits (n + i))

read_step : (bytes : List ℕ) (passed opened : ℕ) (s : Result (Step × List ℕ) BerFault) → IsBytes bytes → step_at (64 - opened) (drop passed bytes) ≡ s → StepRead (64 - opened) (drop passed bytes) s
read_step bytes passed opened s fits e =
    subst (λ (x : Result (Step × List ℕ) BerFault). StepRead (64 - opened) (drop passed bytes) x) e (step_at-read (64 - opened) (drop passed bytes) (IsBytes-drop passed bytes fits))

-- ---- frames that go on from a place

-- the elements that are open close before what follows a frame that octets go on to
closes_from : (bytes more : List ℕ) (passed o : ℕ) → Stands bytes passed (suc o) → (s : Begins (IsFrameAt 64) (bytes ++ more)) → Closes (suc o) (64 - suc o) (drop passed bytes ++ more) s.1
closes_from bytes more passed o p s = due_closes o 64 (bytes ++ more) (64 - suc o) (drop passed bytes ++ more) (due_more (suc o) 64 bytes (64 - suc o) (drop passed bytes) more p.due) s

abbrev as_extent : (b : List ℕ) → Begins IsFrame b → Begins (IsFrameAt 64) b
as_extent b s = (s.0, s.1, s.2.0, s.3)

some_none : {P : Type 0} (n : ℕ) (l : Option ℕ) → l ≡ None → l ≡ Some n → P
some_none n l p q = none_some n l p q

-- octets in which an element is open begin with no definite header
none_definite : (bytes : List ℕ) (passed o : ℕ) → Stands bytes passed (suc o) → (len : ℕ) → BeginsDefinite bytes len → ⊥
none_definite bytes passed o p len b =
    let d = p.due.1 in
    let one = heads_one d.head b.1.0 d.tag b.0 None (Some len) _ b.1.1 d.header b.1.2 (sym d.spelled ∙ b.1.3) in
    some_none len None refl one.1

large_number : (bytes : List ℕ) (passed o : ℕ) → Stands bytes passed (suc o) → IsLargeNumber bytes 1048577
large_number bytes passed o p = inr ((λ len b. none_definite bytes passed o p len b), refl)

-- ---- an end of contents

-- the frame that ends
found_end : (bytes : List ℕ) (passed : ℕ) (after : List ℕ) → Stands bytes passed 1 → drop passed bytes ≡ end_of_contents ++ after → IsWholeAnswer bytes (Ok (length bytes - length after))
found_end bytes passed after p e =
    let s = due_begins 0 64 bytes 63 (drop passed bytes) after p.due (closes_end 0 63 (drop passed bytes) after after e refl) in
    let f = s.0 in
    let m = moved_to bytes passed end_of_contents after p.come e in
    let n : length bytes - length after ≡ length f.0 = omega (arith, ap length f.3, length-append f.0 f.1, ap length s.1) in
    let front : take (length bytes - length after) bytes ≡ f.0 = ap (λ k. take k bytes) n ∙ ap (take (length f.0)) f.3 ∙ take_at f.0 f.1 (length f.0) refl in
    (omega arith, subst (λ (x : List ℕ). IsFrame x) (sym front) (f.2, omega (arith, n, m.0, p.small)))

-- where `opened` elements are open and one ends
ends_one : (bytes : List ℕ) (passed opened : ℕ) (after : List ℕ) → Stands bytes passed opened → 0 < opened → drop passed bytes ≡ end_of_contents ++ after → IsProgress (at passed opened) bytes (Ok (ended (length bytes - length after) opened))
ends_one bytes passed zero after p some e = absurd (omega (arith, some))
ends_one bytes passed (suc zero) after p some e = found_end bytes passed after p e
ends_one bytes passed (suc (suc o)) after p some e =
    let d : IsDue (suc o) 64 bytes (suc (64 - suc (suc o))) after = due_end o 64 bytes (64 - suc (suc o)) (drop passed bytes) after p.due e in
    let m = moved_to bytes passed end_of_contents after p.come e in
    let q : Stands bytes (length bytes - length after) (suc o) = place bytes passed (suc o) (suc (64 - suc (suc o))) end_of_contents after p.come e d (omega (arith, m.0, p.small)) in
    let less : suc (suc o) - 1 ≡ suc o = omega arith in
    rw (ne_eqb (suc (suc o)) 1 (λ x. omega (arith, x)), less) (q, omega arith, omega (arith, m.0))

look_end : (bytes : List ℕ) (passed opened : ℕ) (after : List ℕ) → Stands bytes passed opened → 0 < opened → IsBytes bytes → step_at (64 - opened) (drop passed bytes) ≡ Ok (End, after) → IsProgress (at passed opened) bytes (Ok (ended (length bytes - length after) opened))
look_end bytes passed opened after p some fits e = ends_one bytes passed opened after p some (read_step bytes passed opened (Ok (End, after)) fits e)

-- ---- an element that is passed or entered

-- where a whole header stands, each header that may come is it
over_head : (rest head behind : List ℕ) (t : Tag) (l : Option ℕ) (size ends : ℕ) → IsHeader head t l → rest ≡ head ++ behind → 1048576 < size + length head + least_behind_header l + ends → (u : Tag) (len : Option ℕ) (other more after : List ℕ) → IsHeader other u len → rest ++ more ≡ other ++ after → 1048576 < size + length other + least_behind_header len + ends
over_head rest head behind t l size ends h s over u len other more after g e =
    let one = heads_one head other t u l len (behind ++ more) after h g (sym (ap (λ o. o ++ more) s ∙ append_assoc head behind more) ∙ e) in
    omega (arith, over, ap least_behind_header one.1, ap length one.2, ap length s, ap length e, length-append rest more, length-append other after, length-append head behind, length-append behind more)

-- no frame is so large as what must close
too_many : (bytes after more : List ℕ) (f rest : List ℕ) (ends : ℕ) → length after ≤ length bytes → bytes ++ more ≡ f ++ rest → ends + length rest ≤ length (after ++ more) → 1048576 < length bytes - length after + ends → 1048576 < length f
too_many bytes after more f rest ends come s close over =
    omega (arith, ap length s, length-append bytes more, length-append f rest, length-append after more, close, over, come)

over_passed : (bytes : List ℕ) (passed o : ℕ) (after : List ℕ) → Stands bytes passed (suc o) → FoundWhole (64 - suc o) (drop passed bytes) after → 1048576 < length bytes - length after + 2 * suc o → IsWholeAnswer bytes (Err (TooLarge 1048577))
over_passed bytes passed o after p h over =
    let d = h.definite in
    let rest : List ℕ = drop passed bytes in
    let m = moved_to bytes passed h.frame after p.come h.spelled in
    let parts : drop passed bytes ≡ d.head ++ (h.body ++ after) = h.spelled ∙ ap (λ x. x ++ after) d.spelled ∙ append_assoc d.head h.body after in
    let size : 1048576 < passed + length d.head + length h.body + 2 * suc o = omega (arith, m.0, over, ap length d.spelled, length-append d.head h.body) in
    let none : ¬ Opens IsFrame bytes = λ x.
    let s = as_extent (bytes ++ x.0) x.1 in
    let c = followed o (64 - suc o) (drop passed bytes) x.0 s.1 (Ok (Passed, after)) h (closes_from bytes x.0 passed o p s) in
    let large = too_many bytes after x.0 s.0 s.1 (2 * suc o) (omega (arith, m.2, length-append h.frame after)) s.3 (closes_ends (suc o) (64 - suc o) (after ++ x.0) s.1 c) over in
    let small : length x.1.0 ≤ 1048576 = x.1.2.1 in
    omega (arith, large, small)
    in
    let at_place : IsOverAt passed (suc o) (64 - suc o) (drop passed bytes) = record {
      deeper = omega (arith, h.room-is);
      goes_on = λ x. whole_end h.frame h.body (after ++ x.0) x.1.1 h.tag d h.apart (sym (append_assoc h.frame after x.0) ∙ ap (λ y. y ++ x.0) (sym h.spelled) ∙ x.1.3 ∙ ap (λ y. y ++ x.1.1) x.1.2);
      readable = ([], (d.head, h.body ++ after, (h.tag, Some (length h.body), d.header), append-nil (drop passed bytes) ∙ parts));
      over = over_head (drop passed bytes) d.head (h.body ++ after) h.tag (Some (length h.body)) passed (2 * suc o) d.header parts size;
    } in
    (none, (large_number bytes passed o p, (passed, suc o, p, at_place)))

over_entered : (bytes : List ℕ) (passed o : ℕ) (after : List ℕ) → Stands bytes passed (suc o) → FoundOpen (64 - suc o) (drop passed bytes) after → 1048576 < length bytes - length after + 2 * suc (suc o) → IsWholeAnswer bytes (Err (TooLarge 1048577))
over_entered bytes passed o after p h over =
    let m = moved_to bytes passed h.head after p.come h.spelled in
    let size : 1048576 < passed + length h.head + 2 + 2 * suc o = omega (arith, m.0, over) in
    let none : ¬ Opens IsFrame bytes = λ x.
    let s = as_extent (bytes ++ x.0) x.1 in
    let c = followed o (64 - suc o) (drop passed bytes) x.0 s.1 (Ok (Open, after)) h (closes_from bytes x.0 passed o p s) in
    let large = too_many bytes after x.0 s.0 s.1 (2 * suc (suc o)) (omega (arith, m.2, length-append h.head after)) s.3 (closes_ends (suc (suc o)) (64 - suc o - 1) (after ++ x.0) s.1 c) over in
    let small : length x.1.0 ≤ 1048576 = x.1.2.1 in
    omega (arith, large, small)
    in
    let at_place : IsOverAt passed (suc o) (64 - suc o) (drop passed bytes) = record {
      deeper = omega (arith, h.room-is);
      goes_on = λ x. head_apart h.head h.tag (after ++ x.0) x.1.1 h.header (sym (append_assoc h.head after x.0) ∙ ap (λ y. y ++ x.0) (sym h.spelled) ∙ x.1.3 ∙ ap (λ y. y ++ x.1.1) x.1.2);
      readable = ([], (h.head, after, (h.tag, None, h.header), append-nil (drop passed bytes) ∙ h.spelled));
      over = over_head (drop passed bytes) h.head after h.tag None passed (2 * suc o) h.header h.spelled size;
    } in
    (none, (large_number bytes passed o p, (passed, suc o, p, at_place)))

look_passed : (bytes : List ℕ) (passed opened : ℕ) (after : List ℕ) → Stands bytes passed opened → 0 < opened → IsBytes bytes → step_at (64 - opened) (drop passed bytes) ≡ Ok (Passed, after) → IsProgress (at passed opened) bytes (moved (length bytes - length after) opened)
look_passed bytes passed zero after p some fits e = absurd (omega (arith, some))
look_passed bytes passed (suc o) after p some fits e =
    let h : FoundWhole (64 - suc o) (drop passed bytes) after = read_step bytes passed (suc o) (Ok (Passed, after)) fits e in
    let m = moved_to bytes passed h.frame after p.come h.spelled in
    let long = length-header h.definite.head h.tag (Some (length h.body)) h.definite.header in
    let i : Inner (64 - suc o) h.frame = ((h.tag, h.body, subst (λ (k : ℕ). IsExtent k h.frame h.tag h.body) (sym h.room-is) (extent-definite h.level h.frame h.body h.tag h.definite)), h.apart) in
    let d : IsDue (suc o) 64 bytes (64 - suc o) after = due_whole o 64 bytes (64 - suc o) (drop passed bytes) h.frame after p.due h.spelled i in
    elim (leb_tells (length bytes - length after + 2 * suc o) 1048576) [
      | inl small ↦
          rw (small.0) (place bytes passed (suc o) (64 - suc o) h.frame after p.come h.spelled d small.1, omega arith, omega (arith, m.0, long, ap length h.definite.spelled, length-append h.definite.head h.body))
      | inr over ↦ rw (over.0) (over_passed bytes passed o after p h over.1)
    ]

look_entered : (bytes : List ℕ) (passed opened : ℕ) (after : List ℕ) → Stands bytes passed opened → 0 < opened → IsBytes bytes → step_at (64 - opened) (drop passed bytes) ≡ Ok (Open, after) → IsProgress (at passed opened) bytes (moved (length bytes - length after) (suc opened))
look_entered bytes passed zero after p some fits e = absurd (omega (arith, some))
look_entered bytes passed (suc o) after p some fits e =
    let h : FoundOpen (64 - suc o) (drop passed bytes) after = read_step bytes passed (suc o) (Ok (Open, after)) fits e in
    let m = moved_to bytes passed h.head after p.come h.spelled in
    let long = length-header h.head h.tag None h.header in
    let d : IsDue (suc (suc o)) 64 bytes (64 - suc o - 1) after = due_open (suc o) 64 bytes (64 - suc o) (drop passed bytes) h.head after h.tag p.due h.spelled h.header (omega (arith, h.room-is)) in
    elim (leb_tells (length bytes - length after + 2 * suc (suc o)) 1048576) [
      | inl small ↦
          rw (small.0) (place bytes passed (suc (suc o)) (64 - suc o - 1) h.head after p.come h.spelled d small.1, omega arith, omega (arith, m.0, long))
      | inr over ↦ rw (over.0) (over_entered bytes passed o after p h over.1)
    ]

-- ---- where octets are wanting

asked_least : (l : Option ℕ) → asked l ≤ least_behind_header l
asked_least None = omega arith
asked_least (Some n) = omega arith

continues_readable : (r : ℕ) (b : List ℕ) → Continues r b → Opens IsSomeHeader b
continues_readable r b c =
    elim c.goes [
      | inl e ↦ (c.more, (end_of_contents, [], (end_tag, Some 0, end_header), e.0 ∙ sym (append-nil end_of_contents)))
      | inr w ↦
          let h = w.0 in
          let d = h.definite in
          (c.more, (d.head, h.body ++ [], (h.tag, Some (length h.body), d.header), h.spelled ∙ ap (λ x. x ++ []) d.spelled ∙ append_assoc d.head h.body []))
    ]

over_child : (o r size : ℕ) (b : List ℕ) → IsBytes b → NeverEnds b → Continues r b → child_at r b ≡ Err Short → 1048576 < size + length b + (wanting_in_element b (header_at b) + 2 * suc o) → IsOverAt size (suc o) r b
over_child o zero size b fits never c s over = absurd cc
over_child o (suc k) size b fits never c s over =
    let part : child_behind (header_at b) ≡ Err Short = sym (child_at-room k b) ∙ s in
    record {
      deeper = omega arith;
      goes_on = λ x. never x.0 x.1.1 (x.1.3 ∙ ap (λ y. y ++ x.1.1) x.1.2);
      readable = continues_readable (suc k) b c;
      over = λ t len head more after h e.
          omega (arith, element_least b more fits part head after t len h e, over, asked_least len, ap length e, length-append b more, length-append head after);
    }

over_short : (o r size : ℕ) (b : List ℕ) → IsBytes b → Continues r b → step_at r b ≡ Err Short → size + 2 * suc o ≤ 1048576 → 1048576 < size + length b + least_to_come (suc o) b → IsOverAt size (suc o) r b
unfolding step_at least_to_come
over_short o r size [] fits c s small over = absurd (omega (arith, small, over))
over_short o r size (zero ∷ []) fits c s small over = absurd (omega (arith, small, over))
over_short o r size (zero ∷ zero ∷ z) fits c s small over = absurd cc
over_short o r size (zero ∷ suc y ∷ z) fits c s small over =
    over_child o r size (zero ∷ suc y ∷ z) fits (λ m x e. let h = heads (suc y) 0 _ _ (heads 0 0 _ _ e).1 in absurd (omega (arith, h.0))) c s over
over_short o r size (suc x ∷ z) fits c s small over =
    over_child o r size (suc x ∷ z) fits (λ m y e. let h = heads (suc x) 0 _ _ e in absurd (omega (arith, h.0))) c s over

abbrev closing_short : (o r : ℕ) (b : List ℕ) → step_at r b ≡ Err Short → close_at (suc (length b)) (suc o) r b ≡ Err Short
closing_short o r b e = ap (close_on (close_at (length b)) o r) e

abbrev least_short : (o r : ℕ) (b : List ℕ) → step_at r b ≡ Err Short → least_at (suc (length b)) (suc o) r b ≡ least_to_come (suc o) b
least_short o r b e = ap (least_on (least_at (length b)) o r b) e

short_open : (bytes : List ℕ) (passed o : ℕ) → Stands bytes passed (suc o) → IsBytes (drop passed bytes) → step_at (64 - suc o) (drop passed bytes) ≡ Err Short → length bytes + least_to_come (suc o) (drop passed bytes) ≤ 1048576 → IsWholeAnswer bytes (Err Short)
short_open bytes passed o p fits e small =
    let rest : List ℕ = drop passed bytes in
    let m = close_at-opening (suc (length (drop passed bytes))) (suc o) (64 - suc o) (drop passed bytes) fits (omega arith) (closing_short o (64 - suc o) (drop passed bytes) e) in
    let s = due_begins o 64 (bytes ++ m.0) (64 - suc o) (drop passed bytes ++ m.0) [] (due_more (suc o) 64 bytes (64 - suc o) (drop passed bytes) m.0 p.due) m.1 in
    let f = s.0 in
    let fit : length f.0 ≤ 1048576 = omega (arith, small, m.2, least_short o (64 - suc o) (drop passed bytes) e, ap length f.3, length-append bytes m.0, length-append f.0 f.1) in
    let wanted : ¬ Begins IsFrame bytes = λ b.
    let c = due_closes o 64 bytes (64 - suc o) (drop passed bytes) p.due (as_extent bytes b) in
    ok_err b.1 Short _ (close_at-complete (suc (length (drop passed bytes))) b.1 (suc o) (64 - suc o) (drop passed bytes) c (omega arith)) (closing_short o (64 - suc o) (drop passed bytes) e)
    in
    (wanted, (m.0, (f.0, f.1, (f.2, fit), f.3)))

short_over : (bytes : List ℕ) (passed o : ℕ) → Stands bytes passed (suc o) → IsBytes (drop passed bytes) → step_at (64 - suc o) (drop passed bytes) ≡ Err Short → Continues (64 - suc o) (drop passed bytes) → 1048576 < length bytes + least_to_come (suc o) (drop passed bytes) → IsWholeAnswer bytes (Err (TooLarge 1048577))
short_over bytes passed o p fits e c over =
    let n : length bytes ≡ passed + length (drop passed bytes) = omega (arith, length-drop passed bytes, p.come) in
    let none : ¬ Opens IsFrame bytes = λ x.
    let s = as_extent (bytes ++ x.0) x.1 in
    let m = close_at-fewer (suc (length (drop passed bytes))) (suc o) (64 - suc o) (drop passed bytes) fits (omega arith) (closing_short o (64 - suc o) (drop passed bytes) e) x.0 s.1 (closes_from bytes x.0 passed o p s) in
    let small : length x.1.0 ≤ 1048576 = x.1.2.1 in
    omega (arith, over, m, small, least_short o (64 - suc o) (drop passed bytes) e, ap length s.3, length-append bytes x.0, length-append s.0 s.1)
    in
    let at_place : IsOverAt passed (suc o) (64 - suc o) (drop passed bytes) = over_short o (64 - suc o) passed (drop passed bytes) fits c e p.small (omega (arith, over, n)) in
    (none, (large_number bytes passed o p, (passed, suc o, p, at_place)))

wanting : (bytes : List ℕ) (passed o : ℕ) → Stands bytes passed (suc o) → IsBytes bytes → Continues (64 - suc o) (drop passed bytes) → step_at (64 - suc o) (drop passed bytes) ≡ Err Short → IsWholeAnswer bytes (Err (stop (length bytes) (suc o) (drop passed bytes) Short))
wanting bytes passed o p fits c e =
    elim (leb_tells (length bytes + least_to_come (suc o) (drop passed bytes)) 1048576) [
      | inl small ↦ rw (small.0) (short_open bytes passed o p (IsBytes-drop passed bytes fits) e small.1)
      | inr over ↦ rw (over.0) (short_over bytes passed o p (IsBytes-drop passed bytes fits) e c over.1)
    ]

-- ---- faults

none_stuck : (bytes : List ℕ) (passed o : ℕ) → Stands bytes passed (suc o) → IsStuck (64 - suc o) (drop passed bytes) → ¬ Opens IsFrame bytes
none_stuck bytes passed o p h = λ x.
    let s = as_extent (bytes ++ x.0) x.1 in
    stuck o (64 - suc o) (drop passed bytes) x.0 s.1 h (peel o (64 - suc o) (drop passed bytes ++ x.0) s.1 (closes_from bytes x.0 passed o p s))

fault_at : (bytes : List ℕ) (passed o : ℕ) (d : BerFault) → Stands bytes passed (suc o) → IsBytes bytes → step_at (64 - suc o) (drop passed bytes) ≡ Err d → StepRead (64 - suc o) (drop passed bytes) (Err d) → IsWholeAnswer bytes (Err (stop (length bytes) (suc o) (drop passed bytes) d))
fault_at bytes passed o Short p fits e h = wanting bytes passed o p fits h e
fault_at bytes passed o BadTag p fits e h = (none_stuck bytes passed o p h.0, (passed, suc o, p, h.1))
fault_at bytes passed o BadLength p fits e h = (none_stuck bytes passed o p h.0, (passed, suc o, p, h.1))
fault_at bytes passed o (TooLarge n) p fits e h = absurd h
fault_at bytes passed o TooDeep p fits e h = (none_stuck bytes passed o p h.0, (passed, suc o, p, h.1))

pub look_fault : (bytes : List ℕ) (passed opened : ℕ) (d : BerFault) → Stands bytes passed opened → 0 < opened → IsBytes bytes → step_at (64 - opened) (drop passed bytes) ≡ Err d → IsWholeAnswer bytes (Err (stop (length bytes) opened (drop passed bytes) d))
look_fault bytes passed zero d p some fits e = absurd (omega (arith, some))
look_fault bytes passed (suc o) d p some fits e = fault_at bytes passed o d p fits e (read_step bytes passed (suc o) (Err d) fits e)

-- ---- a look by the step that it makes

-- what a step leads to, where a scan stands
abbrev pub progress_of : ℕ → ℕ → Step → List ℕ → Result Progress BerFault
progress_of come opened End after = Ok (ended (come - length after) opened)
progress_of come opened Passed after = moved (come - length after) opened
progress_of come opened Open after = moved (come - length after) (opened + 1)

pub look_step : (bytes : List ℕ) (passed opened : ℕ) (s : Step) (after : List ℕ) → Stands bytes passed opened → 0 < opened → IsBytes bytes → step_at (64 - opened) (drop passed bytes) ≡ Ok (s, after) → IsProgress (at passed opened) bytes (progress_of (length bytes) opened s after)
look_step bytes passed opened End after p some fits e = look_end bytes passed opened after p some fits e
look_step bytes passed opened Passed after p some fits e = look_passed bytes passed opened after p some fits e
look_step bytes passed opened Open after p some fits e =
    let n : suc opened ≡ opened + 1 = omega arith in
    subst (λ (k : ℕ). IsProgress (at passed opened) bytes (moved (length bytes - length after) k)) n (look_entered bytes passed opened after p some fits e)

-- no more elements are open than there are levels
pub few_open : (bytes : List ℕ) (passed opened : ℕ) → Stands bytes passed opened → opened ≤ 64
few_open bytes passed opened p = omega (arith, due_left opened 64 bytes (64 - opened) (drop passed bytes) p.due)
