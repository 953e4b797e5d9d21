-- Where a scan starts: the answer for frames of definite length is right, or the scan stands behind an indefinite header.
use Rattle.std.proofs.Common.{◌≡◌, ◌∙◌, ℕ, ◌+◌, ◌-◌, ◌*◌, ◌<◌, ◌≤◌, zero, suc, inl, inr, List, [], ◌++◌, length, take, drop, Option, Some, None, Result, Ok, Err, sym, ap, subst, append_assoc, arith, refl}
use Rattle.std.proofs.lemmas.Bool.{cases_lt}
use Rattle.std.proofs.lemmas.List.{length-append, append-nil, take-append-drop, drop_at}
use Rattle.z_ber.specs.declared.fault.BerFault.{BerFault}
use Rattle.z_ber.specs.declared.fault.BerFault.TheVariants.{Short, BadTag, BadLength, TooLarge, TooDeep}
use Rattle.z_ber.specs.declared.tag.Tag.{Tag}
use Rattle.z_ber.specs.Written.{tag_octets}
use Rattle.z_ber.specs.Header.{IsHeader, Begins, Opens, IsBadFor, IsIdentifier, IsSomeHeader, IsDefiniteHeader}
use Rattle.z_ber.specs.HeaderAnswer.{IsHeaderAnswer}
use Rattle.z_ber.specs.Element.{end_of_contents}
use Rattle.z_ber.specs.Frames.{IsDefiniteFrame, IsDefinite, IsFrameAt, IsFrame}
use Rattle.z_ber.specs.Due.{IsDue, IsFaultAt, Stands}
use Rattle.z_ber.specs.FrameAnswer.{IsDefiniteFault, IsOverAt, IsFrameFault, IsLargeNumber, IsTooLarge, IsDefiniteAnswer, IsWholeAnswer, least_behind_header}
use Rattle.z_ber.specs.Reading.{header_at}
use Rattle.z_ber.proofs.TagReading.{IsBytes}
use Rattle.z_ber.proofs.ElementLaws.{front_split}
use Rattle.z_ber.proofs.HeaderReading.{Whole, not_begun, header-failed, header-read}
use Rattle.z_ber.proofs.FrameReading.{open_tag, open_body, whole_body, none_large, whole_identified, length-tag_octets}
use Rattle.z_ber.proofs.StepReading.{header-completes}
use Rattle.z_ber.proofs.TreeLaws.{heads_one, none_some}
use Rattle.z_ber.proofs.CloseReading.{extent-definite, extent-cases}
use Rattle.z_ber.proofs.ExtentReading.{framed_some, identified}
use Rattle.z_ber.proofs.DueSteps.{due_open}

-- a definite frame is a frame
pub definite_is_frame : (f : List ℕ) → IsDefiniteFrame f → IsFrame f
definite_is_frame f d = ((d.tag, d.body, extent-definite 63 f d.body d.tag (record { head = d.head; header = d.header; spelled = d.spelled })), d.small)

begins_definite : (b : List ℕ) → Begins IsDefiniteFrame b → Begins IsFrame b
begins_definite b s = (s.0, s.1, definite_is_frame s.0 s.2, s.3)

header_begins : (b : List ℕ) → Begins (IsFrameAt 64) b → Begins IsSomeHeader b
header_begins b s = let h = framed_some 63 s.0 s.1 s.2.1 s.2.0 s.2.2 in (h.0, h.2, (s.2.0, h.1, h.3), s.3 ∙ h.4)

abbrev as_extent : (b : List ℕ) → Begins IsFrame b → Begins (IsFrameAt 64) b
as_extent b s = (s.0, s.1, s.2.0, s.3)

-- a frame of definite length is a definite frame
definite_of : (b : List ℕ) (s : Begins IsFrame b) → IsDefinite s.0 s.2.0.0 s.2.0.1 → Begins IsDefiniteFrame b
definite_of b s d = (s.0, s.1, record { tag = s.2.0.0; head = d.head; body = s.2.0.1; header = d.header; spelled = d.spelled; small = s.2.1 }, s.3)

-- behind a whole definite header a frame is a definite frame
opens_behind : (b more : List ℕ) (t : Tag) (len : ℕ) (body : List ℕ) → Whole b t (Some len) body → Begins IsFrame (b ++ more) → Begins IsDefiniteFrame (b ++ more)
opens_behind b more t len body w s =
    elim (extent-cases 63 s.0 s.2.0.1 s.2.0.0 s.2.0.2) [
      | inl d ↦ definite_of (b ++ more) s d
      | inr d ↦
          let whole : b ++ more ≡ d.head ++ (s.2.0.1 ++ (end_of_contents ++ s.1)) = s.3 ∙ ap (λ o. o ++ s.1) d.spelled ∙ append_assoc (d.head ++ s.2.0.1) end_of_contents s.1 ∙ append_assoc d.head s.2.0.1 (end_of_contents ++ s.1) in
          let one = heads_one w.head d.head t s.2.0.0 (Some len) None (body ++ more) (s.2.0.1 ++ (end_of_contents ++ s.1)) w.header d.header (sym (ap (λ o. o ++ more) w.spelled ∙ append_assoc w.head body more) ∙ whole) in
          none_some len None refl (sym one.1)
    ]

-- behind a part of a header a frame opens a definite frame
opens_part : (b more : List ℕ) → header_at b ≡ Err Short → Begins IsFrame (b ++ more) → Opens IsDefiniteFrame b
opens_part b more e s =
    elim (extent-cases 63 s.0 s.2.0.1 s.2.0.0 s.2.0.2) [
      | inl d ↦ (more, definite_of (b ++ more) s d)
      | inr d ↦
          let h = d.header in
          let t = s.2.0.0 in
          let rest : List ℕ = s.2.0.1 ++ (end_of_contents ++ s.1) in
          let whole : b ++ more ≡ d.head ++ rest = s.3 ∙ ap (λ o. o ++ s.1) d.spelled ∙ append_assoc (d.head ++ s.2.0.1) end_of_contents s.1 ∙ append_assoc d.head s.2.0.1 (end_of_contents ++ s.1) in
          elim (cases_lt (length b) (length d.head)) [
            | inl short ↦
                let tagged : b ++ more ≡ tag_octets t ++ (h.ends ++ rest) = whole ∙ ap (λ o. o ++ rest) h.spelled ∙ append_assoc (tag_octets t) h.ends rest in
                let one : length h.ends ≡ 1 = ap length h.lengths.1 in
                let m = front_split b (tag_octets t) more (h.ends ++ rest) tagged (omega (arith, short, ap length h.spelled, length-append (tag_octets t) h.ends, one)) in
                open_tag b m.0 t h.valid m.1
            | inr past ↦
                let m = front_split d.head b rest more (sym whole) past in
                absurd (not_begun b Short e (d.head, m.0, (t, None, h), sym m.1))
          ]
    ]

-- ---- where no indefinite header begins

-- a scan stands in front of any octets
pub stands-start : (b : List ℕ) → Stands b 0 0
stands-start b = record { come = omega arith; due = (refl, refl); small = omega arith }

-- octets that go on with no indefinite header, unless they go on to a frame of definite length
abbrev NoneEnters : List ℕ → Type 0
NoneEnters b = (t : Tag) (head more after : List ℕ) → IsHeader head t None → b ++ more ≡ head ++ after → Opens IsDefiniteFrame b

-- a definite header that such octets go on to is too large, where they go on to no frame
definite_over : (b : List ℕ) → ¬ Opens IsDefiniteFrame b → (t : Tag) (n : ℕ) (head more after : List ℕ) → IsHeader head t (Some n) → b ++ more ≡ head ++ after → 1048576 < length head + n
definite_over b none t n head more after h s =
    let w : Whole (b ++ more) t (Some n) after = record { head = head; header = h; spelled = s } in
    elim (cases_lt 1048576 (length head + n)) [
      | inl over ↦ over
      | inr small ↦ elim (cases_lt (length after) n) [
        | inl short ↦ let o = open_body (b ++ more) t n after w small short in absurd (none (more ++ o.0, begun b more o.0 o.1))
        | inr come ↦ let f = whole_body (b ++ more) t n after w small come in absurd (none (more, (take (length head + n) (b ++ more), drop (length head + n) (b ++ more), f.1, sym (take-append-drop (length head + n) (b ++ more)))))
      ]
    ]
  where
    begun : (b x y : List ℕ) → Begins IsDefiniteFrame ((b ++ x) ++ y) → Begins IsDefiniteFrame (b ++ (x ++ y))
    begun b x y s = (s.0, s.1, s.2, sym (append_assoc b x y) ∙ s.3)

header_over : (b : List ℕ) → NoneEnters b → ¬ Opens IsDefiniteFrame b → (t : Tag) (l : Option ℕ) (head more after : List ℕ) → IsHeader head t l → b ++ more ≡ head ++ after → 1048576 < 0 + length head + least_behind_header l + 2 * 0
header_over b enters none t None head more after h s = absurd (none (enters t head more after h s))
header_over b enters none t (Some n) head more after h s = omega (arith, definite_over b none t n head more after h s)

some_header : (b : List ℕ) → Opens IsDefiniteHeader b → Opens IsSomeHeader b
some_header b o = let s = o.1 in (o.0, (s.0, s.1, (s.2.0, Some s.2.1, s.2.2), s.3))

-- why no frame of definite length can come is why no frame can
definite_fault : (b : List ℕ) → NoneEnters b → (IsBadFor IsDefiniteHeader b → IsBadFor IsSomeHeader b) → ¬ Opens IsDefiniteFrame b → (d : BerFault) → IsDefiniteFault b d → IsFrameFault b d
definite_fault b enters bad none Short h = absurd h
definite_fault b enters bad none BadTag h = (0, 0, stands-start b, (omega arith, h))
definite_fault b enters bad none BadLength h = (0, 0, stands-start b, (omega arith, h.0, bad h.1))
definite_fault b enters bad none (TooLarge n) h =
    let over : IsOverAt 0 0 64 b = record { deeper = omega arith; goes_on = λ x. x; readable = some_header b h.0; over = header_over b enters none } in
    (h.1, (0, 0, stands-start b, over))
definite_fault b enters bad none TooDeep h = absurd h

-- there the answer for frames of definite length is the answer for all
whole_definite : (b : List ℕ) (r : Result ℕ BerFault) → NoneEnters b → (IsBadFor IsDefiniteHeader b → IsBadFor IsSomeHeader b) → (Opens IsFrame b → Opens IsDefiniteFrame b) → (Begins IsFrame b → Begins IsDefiniteFrame b) → IsDefiniteAnswer b r → IsWholeAnswer b r
whole_definite b (Ok n) enters bad f g h = (h.0, definite_is_frame (take n b) h.1)
whole_definite b (Err Short) enters bad f g h = ((λ s. h.0 (g s)), (h.1.0, begins_definite (b ++ h.1.0) h.1.1))
whole_definite b (Err BadTag) enters bad f g h = ((λ o. h.0 (f o)), definite_fault b enters bad h.0 BadTag h.1)
whole_definite b (Err BadLength) enters bad f g h = ((λ o. h.0 (f o)), definite_fault b enters bad h.0 BadLength h.1)
whole_definite b (Err (TooLarge n)) enters bad f g h = ((λ o. h.0 (f o)), definite_fault b enters bad h.0 (TooLarge n) h.1)
whole_definite b (Err TooDeep) enters bad f g h = ((λ o. h.0 (f o)), definite_fault b enters bad h.0 TooDeep h.1)

-- behind a whole definite header
whole_behind : (b : List ℕ) (t : Tag) (len : ℕ) (body : List ℕ) → Whole b t (Some len) body → (r : Result ℕ BerFault) → IsDefiniteAnswer b r → IsWholeAnswer b r
whole_behind b t len body w r h =
    let enters : NoneEnters b = λ u head more after g s.
    let one = heads_one w.head head t u (Some len) None (body ++ more) after w.header g (sym (ap (λ o. o ++ more) w.spelled ∙ append_assoc w.head body more) ∙ s) in
    none_some len None refl (sym one.1)
    in
    let bad : IsBadFor IsDefiniteHeader b → IsBadFor IsSomeHeader b = λ x. absurd (x ([], (w.head, body, (t, len, w.header), append-nil b ∙ w.spelled))) in
    whole_definite b r enters bad (λ o. (o.0, opens_behind b o.0 t len body w o.1)) (λ s. nothing_more b (opens_behind b [] t len body w (s.0, s.1, s.2, append-nil b ∙ s.3))) h
  where
    nothing_more : (b : List ℕ) → Begins IsDefiniteFrame (b ++ []) → Begins IsDefiniteFrame b
    nothing_more b s = (s.0, s.1, s.2, sym (append-nil b) ∙ s.3)

-- behind a part of a header an indefinite one has come no further than its identifier octets
part_enters : (b : List ℕ) → header_at b ≡ Err Short → NoneEnters b
part_enters b e t head more after h s =
    elim (cases_lt (length b) (length head)) [
      | inl short ↦
          let tagged : b ++ more ≡ tag_octets t ++ (h.ends ++ after) = s ∙ ap (λ o. o ++ after) h.spelled ∙ append_assoc (tag_octets t) h.ends after in
          let one : length h.ends ≡ 1 = ap length h.lengths.1 in
          let m = front_split b (tag_octets t) more (h.ends ++ after) tagged (omega (arith, short, ap length h.spelled, length-append (tag_octets t) h.ends, one)) in
          open_tag b m.0 t h.valid m.1
      | inr past ↦
          let m = front_split head b after more (sym s) past in
          absurd (not_begun b Short e (head, m.0, (t, None, h), sym m.1))
    ]

-- behind a part of a header
whole_part : (b : List ℕ) → IsBytes b → header_at b ≡ Err Short → (r : Result ℕ BerFault) → IsDefiniteAnswer b r → IsWholeAnswer b r
whole_part b fits e r h =
    let c = header-completes b fits e in
    let bad : IsBadFor IsDefiniteHeader b → IsBadFor IsSomeHeader b = λ x. absurd (x (c.more, (b ++ c.more, [], (c.tag, c.len, c.header), sym (append-nil (b ++ c.more))))) in
    whole_definite b r (part_enters b e) bad (λ o. opens_part b o.0 e o.1) (λ s. absurd (not_begun b Short e (header_begins b (as_extent b s)))) h

-- behind a header that cannot be read
no_header : (b : List ℕ) (r : Result ℕ BerFault) → ¬ Opens IsSomeHeader b → IsDefiniteAnswer b r → IsWholeAnswer b r
no_header b r none h =
    let enters : NoneEnters b = λ t head more after g s. absurd (none (more, (head, after, (t, None, g), s))) in
    let never : Opens IsFrame b → Opens IsDefiniteFrame b = λ o. absurd (none (o.0, header_begins (b ++ o.0) (as_extent (b ++ o.0) o.1))) in
    whole_definite b r enters (λ x. none) never (λ s. absurd (none ([], header_begins (b ++ []) (as_extent (b ++ []) (s.0, s.1, s.2, append-nil b ∙ s.3))))) h

-- behind a header that cannot be read, or not yet
whole_unread : (b : List ℕ) → IsBytes b → (e : BerFault) → IsHeaderAnswer b (Err e) → header_at b ≡ Err e → (r : Result ℕ BerFault) → IsDefiniteAnswer b r → IsWholeAnswer b r
whole_unread b fits Short a e r h = whole_part b fits e r h
whole_unread b fits BadTag a e r h = no_header b r (λ o. a (o.0, identified (b ++ o.0) o.1)) h
whole_unread b fits BadLength a e r h = no_header b r a.1 h
whole_unread b fits (TooLarge n) a e r h = absurd a
whole_unread b fits TooDeep a e r h = absurd a

-- behind a definite header, as reading finds it
pub whole_some : (b : List ℕ) (t : Tag) (l : Option ℕ) (len : ℕ) (body : List ℕ) → IsBytes b → l ≡ Some len → header_at b ≡ Ok (t, l, body) → (r : Result ℕ BerFault) → IsDefiniteAnswer b r → IsWholeAnswer b r
whole_some b t l len body fits e h r a =
    whole_behind b t len body (subst (λ (k : Option ℕ). Whole b t k body) e (header-read b (t, l, body) fits h)) r a

-- and where reading finds none
pub whole_none : (b : List ℕ) (d : BerFault) → IsBytes b → header_at b ≡ Err d → (r : Result ℕ BerFault) → IsDefiniteAnswer b r → IsWholeAnswer b r
whole_none b d fits e r a = whole_unread b fits d (header-failed b d fits e) e r a

-- ---- where one does

-- behind it a scan stands in it
pub stands-opened : (b : List ℕ) (t : Tag) (l : Option ℕ) (body : List ℕ) → IsBytes b → l ≡ None → header_at b ≡ Ok (t, l, body) → Stands b (length b - length body) 1
stands-opened b t l body fits none e =
    let w : Whole b t None body = subst (λ (k : Option ℕ). Whole b t k body) none (header-read b (t, l, body) fits e) in
    let n : length b - length body ≡ length w.head = omega (arith, ap length w.spelled, length-append w.head body) in
    let rest : drop (length b - length body) b ≡ body = ap (λ k. drop k b) n ∙ ap (drop (length w.head)) w.spelled ∙ drop_at w.head body (length w.head) refl in
    let due : IsDue 1 64 b 63 body = due_open 0 64 b 64 b w.head body t (refl, refl) w.spelled w.header (omega arith) in
    record {
      come = omega arith;
      due = subst (λ (x : List ℕ). IsDue 1 64 b 63 x) (sym rest) due;
      small = omega (arith, n, length-indefinite w.head t w.header);
    }
  where
    length-indefinite : (head : List ℕ) (t : Tag) (h : IsHeader head t None) → length head ≤ 7
    length-indefinite head t h = omega (arith, ap length h.spelled, length-append (tag_octets t) h.ends, length-tag_octets t h.valid, ap length h.lengths.1)

-- ---- a definite header that asks for too much

abbrev large_whole : (b : List ℕ) (n : ℕ) (l : IsTooLarge b n) → Whole b l.tag (Some n) l.rest
large_whole b n l = record { head = l.head; header = l.header; spelled = l.spelled }

none_begins : (b : List ℕ) (n : ℕ) → IsTooLarge b n → ¬ Opens IsFrame b
none_begins b n l = λ o. none_large b l.tag n l.rest (large_whole b n l) l.over (o.0, opens_behind b o.0 l.tag n l.rest (large_whole b n l) o.1)

-- no element is open where it stands
large_closed : {P : Type 0} (b : List ℕ) (n passed o : ℕ) → IsTooLarge b n → Stands b passed (suc o) → P
large_closed b n passed o l s =
    let d = s.due.1 in
    let one = heads_one d.head l.head d.tag l.tag None (Some n) _ l.rest d.header l.header (sym d.spelled ∙ l.spelled) in
    none_some n None refl one.1

-- and nothing is wrong with it
large_right : (b : List ℕ) (n passed opened : ℕ) (d : BerFault) → IsTooLarge b n → Stands b passed opened → IsFaultAt opened (64 - opened) (drop passed b) d → ⊥
large_right b n passed (suc o) d l s f = large_closed b n passed o l s
large_right b n passed zero Short l s f = f
large_right b n passed zero BadTag l s f =
    let i = whole_identified b l.tag (Some n) l.rest (large_whole b n l) in
    subst (λ (x : List ℕ). IsBadFor IsIdentifier x) s.due.1 f.1 ([], (i.0, i.1, i.2, append-nil b ∙ i.3))
large_right b n passed zero BadLength l s f =
    subst (λ (x : List ℕ). IsBadFor IsSomeHeader x) s.due.1 f.2 ([], (l.head, l.rest, (l.tag, Some n, l.header), append-nil b ∙ l.spelled))
large_right b n passed zero (TooLarge m) l s f = f
large_right b n passed zero TooDeep l s f = omega (arith, f.0)

some_one : (m n : ℕ) (l : Option ℕ) → l ≡ Some m → l ≡ Some n → m ≡ n
some_one m n l p q = cc

large_number : (b : List ℕ) (n m : ℕ) → IsTooLarge b n → IsLargeNumber b m → m ≡ n
large_number b n m l (inl h) =
    let one = heads_one h.1.0 l.head h.0 l.tag (Some m) (Some n) h.1.1 l.rest h.1.2 l.header (sym h.1.3 ∙ l.spelled) in
    some_one m n (Some m) refl one.1
large_number b n m l (inr h) = absurd (h.0 n (l.tag, (l.head, l.rest, l.header, l.spelled)))

-- a right answer says so
pub whole-large : (b : List ℕ) (n : ℕ) → IsTooLarge b n → (r : Result ℕ BerFault) → IsWholeAnswer b r → r ≡ Err (TooLarge n)
whole-large b n l (Ok size) h =
    absurd (none_begins b n l ([], (take size b, drop size b, h.1, append-nil b ∙ sym (take-append-drop size b))))
whole-large b n l (Err Short) h = absurd (none_begins b n l h.1)
whole-large b n l (Err BadTag) h = absurd (large_right b n h.1.0 h.1.1 BadTag l h.1.2 h.1.3)
whole-large b n l (Err BadLength) h = absurd (large_right b n h.1.0 h.1.1 BadLength l h.1.2 h.1.3)
whole-large b n l (Err (TooLarge m)) h = ap (λ (k : ℕ). Err (TooLarge k)) (large_number b n m l h.1.0)
whole-large b n l (Err TooDeep) h = absurd (large_right b n h.1.0 h.1.1 TooDeep l h.1.2 h.1.3)
