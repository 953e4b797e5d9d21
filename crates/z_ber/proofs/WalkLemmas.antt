-- What is left to check of elements, and what it says of all of them: where the last element is gone into, and where elements of indefinite length are open.
use Rattle.std.proofs.Common.{◌≡◌, ◌∙◌, ◌⊎◌, ℕ, ◌+◌, ◌-◌, ◌<◌, ◌≤◌, zero, suc, Bool, true, false, inl, inr, List, [], ◌++◌, length, take, drop, Option, Some, None, is_some, IfSome, sym, ap, subst, append_assoc, arith, refl}
use Rattle.std.proofs.lemmas.List.{length-append, append-nil, take_at, drop_at, take-append-drop, length-drop, take_all}
use Rattle.z_ber.specs.declared.tag.Tag.{Tag}
use Rattle.z_ber.specs.declared.tag.Header.{Header}
use Rattle.z_ber.specs.Element.{Forest, none, branch, end_of_contents, HaveEnded, AreElements}
use Rattle.z_ber.specs.Header.{IsHeader}
use Rattle.z_ber.specs.Place.{IsPlace, IsPlaceAmong, IsElementOf, AreElementsOf}
use Rattle.z_ber.specs.Walking.{MayBegin, IsHeaderFound, AreClosed, AreClosedAt}
use Rattle.z_ber.proofs.TreeLaws.{head_some}
use Rattle.z_ber.proofs.PlaceLemmas.{Elements, Passed, Headed, headed, place_overlong, at_octets, joined, single, not_end, passed_one, branch_element, is_primitive, is_definite, is_indefinite, place_in_definite, place_in_indefinite}

-- ---- a header that an element may begin with

pub header_some : (n : ℕ) (octets : List ℕ) (tag : Tag) (len : Option ℕ) → IsHeader (take n octets) tag len → 0 < n
header_some zero octets tag len h = head_some [] tag len [] h refl
header_some (suc n) octets tag len h = omega arith

pub overlong_place : (k len : ℕ) (octets : List ℕ) (head : Header) → 0 < k → (head.size ≤ length octets) × IsHeader (take head.size octets) head.tag head.length → head.length ≡ Some len → length octets - head.size < len → IsPlace k octets 0
overlong_place k len octets head some h e lt =
    place_overlong k head.size len octets (drop head.size octets) head.tag some (headed head.size octets (drop head.size octets) head.tag head.length (Some len) h e refl) (omega (arith, lt, length-drop head.size octets))

pub may_begin : (k len : ℕ) (octets : List ℕ) (head : Header) → 0 < k → (head.size ≤ length octets) × IsHeader (take head.size octets) head.tag head.length → head.length ≡ Some len → len ≤ length octets - head.size → MayBegin k octets head
may_begin k len octets head some h e le = record {
  level = some;
  some = header_some head.size octets head.tag head.length h.1;
  fits = h.0;
  header = h.1;
  holds = subst (λ (l : Option ℕ). IfSome l (λ n. head.size + n ≤ length octets)) (sym e) (omega (arith, le, h.0));
}

pub headed_by : (k : ℕ) (octets body : List ℕ) (head : Header) (len : Option ℕ) → MayBegin k octets head → head.length ≡ len → body ≡ drop head.size octets → Headed head.size octets head.tag len body
headed_by k octets body head len d e b = record {
  fits = d.fits;
  header = subst (λ (x : Option ℕ). IsHeader (take head.size octets) head.tag x) e d.header;
  parts = sym (take-append-drop head.size octets) ∙ ap (λ o. take head.size octets ++ o) (sym b);
}

held_len : (k len : ℕ) (octets body : List ℕ) (head : Header) → MayBegin k octets head → head.length ≡ Some len → body ≡ drop head.size octets → len ≤ length body
held_len k len octets body head d e b =
    let h : head.size + len ≤ length octets = subst (λ (l : Option ℕ). IfSome l (λ n. head.size + n ≤ length octets)) e d.holds in
    omega (arith, h, ap length b, length-drop head.size octets)

-- no such header is found
pub none_found : (k : ℕ) (octets : List ℕ) (answer : Option Header) → ((head : Header) → answer ≡ Some head → ⊥) → IsHeaderFound k octets answer → IsPlace k octets 0
none_found k octets None never h = h
none_found k octets (Some head) never h = absurd (never head refl)

pub not_some : (len : Option ℕ) → is_some len ≡ false → len ≡ None
not_some None e = refl
not_some (Some n) e = absurd cc

-- ---- elements that are passed

placed : (w : Bool) (k a b : ℕ) (octets : List ℕ) → a ≡ b → IsPlaceAmong w k octets a → IsPlaceAmong w k octets b
placed w k a b octets e h = subst (λ (n : ℕ). IsPlaceAmong w k octets n) e h

-- nothing is passed yet
nothing_passed : (w : Bool) (k : ℕ) (octets : List ℕ) → Passed w k octets octets
nothing_passed w k octets = record { front = []; elements = record { forest = none; are = refl }; spelled = refl }

passed_element : (w : Bool) (k size : ℕ) (rest after : List ℕ) → ¬ HaveEnded w rest → IsElementOf k rest size → after ≡ drop size rest → Passed w k rest after
passed_element w k size rest after due one d = passed_one w k size rest rest after due one d (nothing_passed w k rest)

shorter : (w : Bool) (k : ℕ) (rest after : List ℕ) → Passed w k rest after → length after ≤ length rest
shorter w k rest after p = omega (arith, ap length p.spelled, length-append p.front after)

elements_on : (w : Bool) (k : ℕ) (rest after : List ℕ) → Passed w k rest after → Elements w k after → Elements w k rest
elements_on w k rest after p e = at_octets w k (p.front ++ after) rest (sym p.spelled) (joined w k p.front after p.elements.forest p.elements.are e)

place_on : (w : Bool) (k at : ℕ) (rest after : List ℕ) → Passed w k rest after → IsPlaceAmong w k after at → IsPlaceAmong w k rest (length rest - length after + at)
place_on w k at rest after p h =
    let e = joined w k p.front h.front p.elements.forest p.elements.are (record { forest = h.forest; are = h.are }) in
    record {
      forest = e.forest;
      front = p.front ++ h.front;
      rest = h.rest;
      are = e.are;
      spelled = p.spelled ∙ ap (λ o. p.front ++ o) h.spelled ∙ sym (append_assoc p.front h.front h.rest);
      due = h.due;
      in_rest = h.in_rest;
      place = h.place;
      at-is = omega (arith, h.at-is, ap length p.spelled, length-append p.front after, length-append p.front h.front);
    }

closed_on : (k : ℕ) (rest after others : List ℕ) → Passed true k rest after → AreClosed k after others → AreClosed k rest others
closed_on k rest after others p c =
    let e = joined true k p.front c.front p.elements.forest p.elements.are (record { forest = c.forest; are = c.are }) in
    record { forest = e.forest; front = p.front ++ c.front; are = e.are; spelled = p.spelled ∙ ap (λ o. p.front ++ o) c.spelled ∙ sym (append_assoc p.front c.front (end_of_contents ++ others)) }

nothing_left : (octets : List ℕ) (i : ℕ) → i ≡ length octets → drop i octets ≡ []
nothing_left octets i e = ap (drop i) (sym (append-nil octets)) ∙ drop_at octets [] i (sym e)

-- the element that is due is the one that is none
place_here : (w : Bool) (k at : ℕ) (rest : List ℕ) → ¬ HaveEnded w rest → IsPlace k rest at → IsPlaceAmong w k rest at
place_here w k at rest due p = record { forest = none; front = []; rest = rest; are = refl; spelled = refl; due = due; in_rest = at; place = p; at-is = omega arith }

-- elements are all octets
all_of : (k : ℕ) (octets : List ℕ) → Elements false k octets → AreElementsOf false k octets (length octets)
all_of k octets e = record {
  fits = omega arith;
  forest = e.forest;
  elements = subst (λ (o : List ℕ). AreElements false k o e.forest) (sym (take_all (length octets) octets (omega arith))) e.are;
  ended = nothing_left octets (length octets) refl;
}

-- ---- the element behind such a header

pub primitive_size : (k len : ℕ) (octets body : List ℕ) (head : Header) → MayBegin k octets head → head.length ≡ Some len → body ≡ drop head.size octets → head.tag.constructed ≡ false → IsElementOf k octets (head.size + len)
primitive_size k len octets body head d e b form =
    is_primitive k head.size len octets body head.tag d.level (headed_by k octets body head (Some len) d e b) (held_len k len octets body head d e b) form

pub contents_size : (k len : ℕ) (octets body contents : List ℕ) (head : Header) → MayBegin k octets head → head.length ≡ Some len → body ≡ drop head.size octets → head.tag.constructed ≡ true → contents ≡ take len body → (forest : Forest) × AreElements false (k - 1) contents forest → IsElementOf k octets (head.size + len)
contents_size k len octets body contents head d e b form c inner =
    is_definite k head.size len (length contents) octets body contents head.tag d.level (headed_by k octets body head (Some len) d e b) (held_len k len octets body head d e b) form c (all_of (k - 1) contents (record { forest = inner.0; are = inner.1 }))

pub contents_place : (k len at : ℕ) (octets body contents : List ℕ) (head : Header) → MayBegin k octets head → head.length ≡ Some len → body ≡ drop head.size octets → head.tag.constructed ≡ true → contents ≡ take len body → IsPlaceAmong false (k - 1) contents at → IsPlace k octets (head.size + at)
contents_place k len at octets body contents head d e b form c p =
    place_in_definite k head.size len at octets body contents head.tag d.level (headed_by k octets body head (Some len) d e b) (held_len k len octets body head d e b) form c p

pub open_place : (k at : ℕ) (octets body : List ℕ) (head : Header) → MayBegin k octets head → head.length ≡ None → body ≡ drop head.size octets → IsPlaceAmong true (k - 1) body at → IsPlace k octets (head.size + at)
open_place k at octets body head d e b p =
    place_in_indefinite k head.size at octets body head.tag d.level (headed_by k octets body head None d e b) p

-- ---- the last element is gone into

-- octets are elements on k levels if rest is so on j, and the place in rest is one in octets
pub record Comes (k : ℕ) (octets : List ℕ) (j : ℕ) (rest : List ℕ) : Type 0 where
  pub fits : length rest ≤ length octets
  pub whole : Elements false j rest → Elements false k octets
  pub place : (at : ℕ) → IsPlaceAmong false j rest at → IsPlaceAmong false k octets (length octets - length rest + at)

pub comes_passed : (k j size : ℕ) (octets rest after : List ℕ) → Comes k octets j rest → ¬ HaveEnded false rest → IsElementOf j rest size → after ≡ drop size rest → Comes k octets j after
comes_passed k j size octets rest after c due one d =
    let p = passed_element false j size rest after due one d in
    record {
      fits = omega (arith, c.fits, shorter false j rest after p);
      whole = λ e. c.whole (elements_on false j rest after p e);
      place = λ at h. placed false k (length octets - length rest + (length rest - length after + at)) (length octets - length after + at) octets (omega (arith, c.fits, shorter false j rest after p)) (c.place (length rest - length after + at) (place_on false j at rest after p h));
    }

pub comes_into : (k j : ℕ) (octets rest body : List ℕ) (head : Header) → Comes k octets j rest → ¬ HaveEnded false rest → MayBegin j rest head → head.tag.constructed ≡ true → head.length ≡ Some (length rest - head.size) → body ≡ drop head.size rest → Comes k octets (j - 1) body
comes_into k j octets rest body head c due d form all b =
    let n : length body ≡ length rest - head.size = ap length b ∙ length-drop head.size rest in
    let h : Headed head.size rest head.tag (Some (length body)) body = headed_by j rest body head (Some (length body)) d (all ∙ ap (λ (i : ℕ). Some i) (sym n)) b in
    let same : body ≡ take (length body) body = sym (take_all (length body) body (omega arith)) in
    record {
      fits = omega (arith, c.fits, n);
      whole = λ e.
          let one = is_definite j head.size (length body) (length body) rest body body head.tag d.level h (omega arith) form same (all_of (j - 1) body e) in
          let p = passed_element false j (head.size + length body) rest (drop (head.size + length body) rest) due one refl in
          c.whole (elements_on false j rest (drop (head.size + length body) rest) p (record { forest = none; are = nothing_left rest (head.size + length body) (omega (arith, n, d.fits)) }));
      place = λ at p. placed false k (length octets - length rest + (head.size + at)) (length octets - length body + at) octets (omega (arith, c.fits, n, d.fits)) (c.place (head.size + at) (place_here false j (head.size + at) rest due (place_in_definite j head.size (length body) at rest body body head.tag d.level h (omega arith) form same p)));
    }

pub comes_place : (k j at : ℕ) (octets rest : List ℕ) → Comes k octets j rest → ¬ HaveEnded false rest → IsPlace j rest at → IsPlaceAmong false k octets (length octets - length rest + at)
comes_place k j at octets rest c due p = c.place at (place_here false j at rest due p)

pub comes_none : (k j : ℕ) (octets rest : List ℕ) → Comes k octets j rest → ¬ HaveEnded false rest → IsPlace j rest 0 → IsPlaceAmong false k octets (length octets - length rest)
comes_none k j octets rest c due p = placed false k (length octets - length rest + 0) (length octets - length rest) octets (omega arith) (comes_place k j 0 octets rest c due p)

-- ---- elements of indefinite length are open

-- the first end, and what stands behind it
pub record IsFirstEnd (Behind : List ℕ → List ℕ → Type 0) (j : ℕ) (rest others : List ℕ) : Type 0 where
  pub mid : List ℕ
  pub closed : AreClosed j rest mid
  pub behind : Behind mid others

-- n ends of contents, with elements in front of each, and others behind the last
abbrev pub Closed : ℕ → ℕ → List ℕ → List ℕ → Type 0
Closed zero j rest others = rest ≡ others
Closed (suc n) j rest others = IsFirstEnd (Closed n (suc j)) j rest others

-- the place behind the first end
pub record IsBehindEnd (Lost : List ℕ → ℕ → Type 0) (j : ℕ) (rest : List ℕ) (at : ℕ) : Type 0 where
  pub mid : List ℕ
  pub closed : AreClosed j rest mid
  pub in_mid : ℕ
  pub lost : Lost mid in_mid
  pub at-is : at ≡ length rest - length mid + in_mid

-- the place where they are none
abbrev pub Lost : ℕ → ℕ → List ℕ → ℕ → Type 0
Lost zero j rest at = ⊥
Lost (suc n) j rest at = IsPlaceAmong true j rest at ⊎ IsBehindEnd (Lost n (suc j)) j rest at

-- octets are elements and their end on k levels if n elements that are open are so in rest, the innermost on j
pub record Nears (k : ℕ) (octets : List ℕ) (n j : ℕ) (rest : List ℕ) : Type 0 where
  pub fits : length rest ≤ length octets
  pub closed : (others : List ℕ) → Closed n j rest others → AreClosed k octets others
  pub lost : (at : ℕ) → Lost n j rest at → IsPlaceAmong true k octets (length octets - length rest + at)

shorter_end : (k : ℕ) (rest mid : List ℕ) → AreClosed k rest mid → length mid + 2 ≤ length rest
shorter_end k rest mid c = omega (arith, ap length c.spelled, length-append c.front (end_of_contents ++ mid), length-append end_of_contents mid)

pub nears_start : (k : ℕ) (octets : List ℕ) → Nears k octets 1 k octets
nears_start k octets = record {
  fits = omega arith;
  closed = λ others c. subst (λ (o : List ℕ). AreClosed k octets o) c.behind c.closed;
  lost = λ at l. placed true k at (length octets - length octets + at) octets (omega arith) (by at l);
}
  where
    by : (at : ℕ) → Lost 1 k octets at → IsPlaceAmong true k octets at
    by at (inl p) = p
    by at (inr l) = absurd l.lost

lost_on : (n j at : ℕ) (rest after : List ℕ) → Passed true j rest after → Lost (suc n) j after at → Lost (suc n) j rest (length rest - length after + at)
lost_on n j at rest after p (inl h) = inl (place_on true j at rest after p h)
lost_on n j at rest after p (inr l) =
    inr (record { mid = l.mid; closed = closed_on j rest after l.mid p l.closed; in_mid = l.in_mid; lost = l.lost; at-is = omega (arith, l.at-is, shorter true j rest after p, shorter_end j after l.mid l.closed) })

nears_on : (k n j : ℕ) (octets rest after : List ℕ) → Nears k octets (suc n) j rest → Passed true j rest after → Nears k octets (suc n) j after
nears_on k n j octets rest after s p = record {
  fits = omega (arith, s.fits, shorter true j rest after p);
  closed = λ others c. s.closed others (record { mid = c.mid; closed = closed_on j rest after c.mid p c.closed; behind = c.behind });
  lost = λ at l. placed true k (length octets - length rest + (length rest - length after + at)) (length octets - length after + at) octets (omega (arith, s.fits, shorter true j rest after p)) (s.lost (length rest - length after + at) (lost_on n j at rest after p l));
}

counted : (k n m j : ℕ) (octets rest : List ℕ) → n ≡ m → Nears k octets n j rest → Nears k octets m j rest
counted k n m j octets rest e s = subst (λ (i : ℕ). Nears k octets i j rest) e s

on_level : (k n i j : ℕ) (octets rest : List ℕ) → i ≡ j → Nears k octets n i rest → Nears k octets n j rest
on_level k n i j octets rest e s = subst (λ (l : ℕ). Nears k octets n l rest) e s

pub nears_passed : (k n j size : ℕ) (octets rest after : List ℕ) → 0 < n → Nears k octets n j rest → ¬ HaveEnded true rest → IsElementOf j rest size → after ≡ drop size rest → Nears k octets n j after
nears_passed k zero j size octets rest after some s due one d = absurd (omega (arith, some))
nears_passed k (suc n) j size octets rest after some s due one d = nears_on k n j octets rest after s (passed_element true j size rest after due one d)

end_here : (j : ℕ) (rest after : List ℕ) → rest ≡ end_of_contents ++ after → AreClosed j rest after
end_here j rest after e = record { forest = none; front = []; are = refl; spelled = e }

nears_ended : (k n j : ℕ) (octets rest after : List ℕ) → Nears k octets (suc n) j rest → rest ≡ end_of_contents ++ after → Nears k octets n (suc j) after
nears_ended k n j octets rest after s e =
    let two : length rest ≡ 2 + length after = omega (arith, ap length e, length-append end_of_contents after) in
    record {
      fits = omega (arith, s.fits, two);
      closed = λ others c. s.closed others (record { mid = after; closed = end_here j rest after e; behind = c });
      lost = λ at l. placed true k (length octets - length rest + (2 + at)) (length octets - length after + at) octets (omega (arith, s.fits, two)) (s.lost (2 + at) (inr (record { mid = after; closed = end_here j rest after e; in_mid = at; lost = l; at-is = omega (arith, two) })));
    }

behind_end : (rest after : List ℕ) → HaveEnded true rest → after ≡ drop 2 rest → rest ≡ end_of_contents ++ after
behind_end rest after h d = h.1 ∙ ap (λ o. end_of_contents ++ o) (sym (d ∙ ap (drop 2) h.1 ∙ drop_at end_of_contents h.0 2 refl))

pub nears_end : (k n j : ℕ) (octets rest after : List ℕ) → 0 < n → Nears k octets n j rest → HaveEnded true rest → after ≡ drop 2 rest → Nears k octets (n - 1) (j + 1) after
nears_end k zero j octets rest after some s h d = absurd (omega (arith, some))
nears_end k (suc n) j octets rest after some s h d =
    counted k n (suc n - 1) (j + 1) octets after (omega arith) (on_level k n (suc j) (j + 1) octets after (omega arith) (nears_ended k n j octets rest after s (behind_end rest after h d)))

-- an element of indefinite length whose elements and end are there
open_passed : (m : ℕ) (rest body mid : List ℕ) (head : Header) → ¬ HaveEnded true rest → MayBegin (suc m) rest head → head.length ≡ None → body ≡ drop head.size rest → AreClosed m body mid → Passed true (suc m) rest mid
open_passed m rest body mid head due d none-is b c =
    let h : Headed head.size rest head.tag None body = headed_by (suc m) rest body head None d none-is b in
    let top : List ℕ = take head.size rest in
    let all : List ℕ = (top ++ c.front) ++ end_of_contents in
    let parts : rest ≡ ((top ++ c.front) ++ end_of_contents) ++ mid =
    h.parts ∙ ap (λ o. top ++ o) c.spelled ∙ sym (append_assoc (top ++ c.front) end_of_contents mid ∙ append_assoc top c.front (end_of_contents ++ mid))
    in
    record {
      front = all;
      elements = single true (suc m) all (branch head.tag c.front c.forest none) (branch_element m all c.front head.tag c.forest (record { constructed = h.header.lengths.0; indefinite = true; head = top; header = h.header; inner = c.are; spelled = refl })) (not_end true rest all mid due parts);
      spelled = parts;
    }

nears_inside : (k n m : ℕ) (octets rest body : List ℕ) (head : Header) → Nears k octets (suc n) (suc m) rest → ¬ HaveEnded true rest → MayBegin (suc m) rest head → head.length ≡ None → body ≡ drop head.size rest → Nears k octets (suc (suc n)) m body
nears_inside k n m octets rest body head s due d none-is b =
    let size : length body ≡ length rest - head.size = ap length b ∙ length-drop head.size rest in
    record {
      fits = omega (arith, s.fits, size);
      closed = λ others c. s.closed others (record { mid = c.behind.mid; closed = closed_on (suc m) rest c.mid c.behind.mid (open_passed m rest body c.mid head due d none-is b c.closed) c.behind.closed; behind = c.behind.behind });
      lost = λ at l. by size at l;
    }
  where
    by : length body ≡ length rest - head.size → (at : ℕ) → Lost (suc (suc n)) m body at → IsPlaceAmong true k octets (length octets - length body + at)
    by size at (inl p) =
        let h : Headed head.size rest head.tag None body = headed_by (suc m) rest body head None d none-is b in
        let level : m ≡ suc m - 1 = omega arith in
        let q : IsPlaceAmong true (suc m - 1) body at = subst (λ (i : ℕ). IsPlaceAmong true i body at) level p in
        placed true k (length octets - length rest + (head.size + at)) (length octets - length body + at) octets (omega (arith, s.fits, size, d.fits)) (s.lost (head.size + at) (inl (place_here true (suc m) (head.size + at) rest due (place_in_indefinite (suc m) head.size at rest body head.tag d.level h q))))
    by size at (inr l) =
        let p = open_passed m rest body l.mid head due d none-is b l.closed in
        placed true k (length octets - length rest + (length rest - length l.mid + l.in_mid)) (length octets - length body + at) octets (omega (arith, s.fits, size, d.fits, l.at-is, shorter true (suc m) rest l.mid p, shorter_end m body l.mid l.closed)) (s.lost (length rest - length l.mid + l.in_mid) (lost_on n (suc m) l.in_mid rest l.mid p l.lost))

pub nears_open : (k n j : ℕ) (octets rest body : List ℕ) (head : Header) → 0 < n → Nears k octets n j rest → ¬ HaveEnded true rest → MayBegin j rest head → head.length ≡ None → body ≡ drop head.size rest → Nears k octets (n + 1) (j - 1) body
nears_open k zero j octets rest body head some s due d none-is b = absurd (omega (arith, some))
nears_open k (suc n) zero octets rest body head some s due d none-is b = absurd (omega (arith, d.level))
nears_open k (suc n) (suc m) octets rest body head some s due d none-is b =
    counted k (suc (suc n)) (suc n + 1) (suc m - 1) octets body (omega arith) (on_level k (suc (suc n)) m (suc m - 1) octets body (omega arith) (nears_inside k n m octets rest body head s due d none-is b))

pub nears_place : (k n j at : ℕ) (octets rest : List ℕ) → 0 < n → Nears k octets n j rest → ¬ HaveEnded true rest → IsPlace j rest at → IsPlaceAmong true k octets (length octets - length rest + at)
nears_place k zero j at octets rest some s due p = absurd (omega (arith, some))
nears_place k (suc n) j at octets rest some s due p = s.lost at (inl (place_here true j at rest due p))

pub nears_none : (k n j : ℕ) (octets rest : List ℕ) → 0 < n → Nears k octets n j rest → ¬ HaveEnded true rest → IsPlace j rest 0 → IsPlaceAmong true k octets (length octets - length rest)
nears_none k n j octets rest some s due p =
    placed true k (length octets - length rest + 0) (length octets - length rest) octets (omega arith) (nears_place k n j 0 octets rest some s due p)

pub nears_done : (k n j : ℕ) (octets rest : List ℕ) → n ≡ 0 → Nears k octets n j rest → AreClosedAt k octets (length octets - length rest)
nears_done k n j octets rest z nears =
    let s : Nears k octets 0 j rest = counted k n 0 j octets rest z nears in
    let c = s.closed rest refl in
    let parts : octets ≡ (c.front ++ end_of_contents) ++ rest = c.spelled ∙ sym (append_assoc c.front end_of_contents rest) in
    let n : length (c.front ++ end_of_contents) ≡ length octets - length rest = omega (arith, ap length parts, length-append (c.front ++ end_of_contents) rest) in
    let left : drop (length octets - length rest) octets ≡ rest = ap (drop (length octets - length rest)) parts ∙ drop_at (c.front ++ end_of_contents) rest (length octets - length rest) n in
    (omega arith, subst (λ (o : List ℕ). AreClosed k octets o) (sym left) c)

-- ---- the element behind a header of indefinite length

pub is_closed : (k size : ℕ) (octets body : List ℕ) (head : Header) → MayBegin k octets head → head.length ≡ None → body ≡ drop head.size octets → AreClosedAt (k - 1) body size → IsElementOf k octets (head.size + size)
is_closed k size octets body head d none-is b c =
    let r : AreClosed (k - 1) body (drop size body) = c.1 in
    let two : size ≡ length r.front + 2 = omega (arith, c.0, ap length r.spelled, length-append r.front (end_of_contents ++ drop size body), length-append end_of_contents (drop size body), length-drop size body) in
    let run : AreElementsOf true (k - 1) body (length r.front) = record {
      fits = omega (arith, c.0, two);
      forest = r.forest;
      elements = subst (λ (o : List ℕ). AreElements true (k - 1) o r.forest) (sym (ap (take (length r.front)) r.spelled ∙ take_at r.front (end_of_contents ++ drop size body) (length r.front) refl)) r.are;
      ended = (drop size body, ap (drop (length r.front)) r.spelled ∙ drop_at r.front (end_of_contents ++ drop size body) (length r.front) refl);
    } in
    let sum : head.size + length r.front + 2 ≡ head.size + size = omega (arith, two) in
    subst (λ (n : ℕ). IsElementOf k octets n) sum (is_indefinite k head.size (length r.front) octets body head.tag d.level (headed_by k octets body head None d none-is b) run)
