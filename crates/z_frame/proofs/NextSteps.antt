-- What a framer goes on with, by what is found in front of the rest.
use Rattle.std.proofs.Common.{◌≡◌, ◌∙◌, ℕ, List, [], ◌++◌, Option, Some, None, sym, ap, subst, refl}
use Rattle.std.specs.List.{flat_map}
use Rattle.std.proofs.lemmas.List.{append-nil}
use Rattle.z_ber.specs.Header.{Begins, IsOpenFor, IsBadFor}
use Rattle.z_ber.specs.Frames.{IsFrame, Splits}
use Rattle.z_frame.specs.declared.framer.Framed.{Framed}
use Rattle.z_frame.specs.declared.framer.Framed.TheVariants.{Unit as Given, NeedMore, TooLarge, Bad}
use Rattle.z_frame.specs.Framing.{Framing, without_unit, IsRefusal, IsNextAfter, IsNext, HasTaken, TakesFrame}

-- a framer whose unit is dropped, with these octets left
abbrev pub left_with : ℕ → List ℕ → Option Framed → Framing
left_with end rest refused = record { start = end; unit = []; end = end; rest = rest; refused = refused }

-- what is not something is nothing
pub none_of : (o : Option Framed) → ((x : Framed) → o ≡ Some x → ⊥) → o ≡ None
none_of None h = refl
none_of (Some x) h = absurd (h x refl)

-- octets that begin with a frame go on to one
none_begins : (rest : List ℕ) → IsBadFor IsFrame rest → ¬ Begins IsFrame rest
none_begins rest bad b = bad ([], (b.0, b.1, b.2, append-nil rest ∙ b.3))

next_found : (f new : Framing) (answer : Framed) → f.refused ≡ None → IsNextAfter None f new answer → IsNext f new answer
next_found f new answer e h = subst (λ (r : Option Framed). IsNextAfter r f new answer) (sym e) h

-- where more octets can make a unit
pub open_next : (inside seen : Framing) (items : List ℕ) → inside ≡ seen → items ≡ inside.rest → inside.refused ≡ None → IsOpenFor IsFrame items → IsNext seen (left_with inside.end items inside.refused) NeedMore
open_next inside seen items v e good h =
    let new : left_with inside.end items inside.refused ≡ without_unit inside None = ap (λ (r : Option Framed). left_with inside.end items r) good ∙ ap (λ (o : List ℕ). left_with inside.end o None) e in
    let n : IsNext inside (left_with inside.end items inside.refused) NeedMore = next_found inside (left_with inside.end items inside.refused) NeedMore good (subst (λ (o : List ℕ). IsOpenFor IsFrame o) e h, new) in
    subst (λ (f : Framing). IsNext f (left_with inside.end items inside.refused) NeedMore) v n

refused_found : (f : Framing) (items : List ℕ) (answer : Framed) → items ≡ f.rest → IsRefusal items f.end answer → IsNextAfter None f (left_with f.end items (Some answer)) answer
refused_found f items (Given start end) e h = absurd h
refused_found f items NeedMore e h = absurd h
refused_found f items (TooLarge n) e h = (subst (λ (o : List ℕ). IsRefusal o f.end (TooLarge n)) e h, ap (λ (o : List ℕ). left_with f.end o (Some (TooLarge n))) e)
refused_found f items (Bad at) e h = (subst (λ (o : List ℕ). IsRefusal o f.end (Bad at)) e h, ap (λ (o : List ℕ). left_with f.end o (Some (Bad at))) e)

-- where none can
pub refused_next : (inside seen : Framing) (items : List ℕ) (answer : Framed) → inside ≡ seen → items ≡ inside.rest → inside.refused ≡ None → IsRefusal items inside.end answer → IsNext seen (left_with inside.end items (Some answer)) answer
refused_next inside seen items answer v e good h =
    let n : IsNext inside (left_with inside.end items (Some answer)) answer = next_found inside (left_with inside.end items (Some answer)) answer good (refused_found inside items answer e h) in
    subst (λ (f : Framing). IsNext f (left_with inside.end items (Some answer)) answer) v n

splits_there : (f : Framing) (items stream : List ℕ) (frames : List (List ℕ)) → items ≡ f.rest → HasTaken stream frames f → IsBadFor IsFrame items → Splits IsFrame stream frames items
splits_there f items stream frames e t bad = record {
  whole = t.whole ∙ ap (λ (o : List ℕ). flat_map (λ frame. frame) frames ++ o) (sym e);
  each = t.each;
  ended = none_begins items bad;
}

taken_there : (f : Framing) (items : List ℕ) (answer : Framed) (stream : List ℕ) (frames : List (List ℕ)) → items ≡ f.rest → IsRefusal items f.end answer → HasTaken stream frames f → TakesFrame stream frames (left_with f.end items (Some answer)) answer
taken_there f items (Given start end) stream frames e h t = absurd h
taken_there f items NeedMore stream frames e h t = absurd h
taken_there f items (TooLarge n) stream frames e h t = (splits_there f items stream frames e t h.0, h.0)
taken_there f items (Bad at) stream frames e h t = (splits_there f items stream frames e t h.0, h.0, h.2 ∙ t.place)

-- and of a stream the frames that were handed out are all
pub refused_taken : (inside seen : Framing) (items : List ℕ) (answer : Framed) (stream : List ℕ) (frames : List (List ℕ)) → inside ≡ seen → items ≡ inside.rest → IsRefusal items inside.end answer → HasTaken stream frames seen → TakesFrame stream frames (left_with inside.end items (Some answer)) answer
refused_taken inside seen items answer stream frames v e h t =
    taken_there inside items answer stream frames e h (subst (λ (f : Framing). HasTaken stream frames f) (sym v) t)
