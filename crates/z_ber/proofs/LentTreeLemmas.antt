-- Where octets have trees, what is lent stands for the first of them.
use Rattle.std.proofs.Common.{◌≡◌, ◌≢◌, ◌∙◌, ℕ, ◌<◌, zero, suc, Bool, true, false, inl, inr, List, [], ◌++◌, length, Option, Some, None, Result, Ok, Err, sym, ap, subst, append_assoc, arith, refl}
use Rattle.std.proofs.lemmas.List.{length-append, append-nil}
use Rattle.z_ber.specs.declared.fault.BerFault.{BerFault}
use Rattle.z_ber.specs.declared.fault.BerFault.TheVariants.{Short, BadTag, BadLength, TooLarge, TooDeep}
use Rattle.z_ber.specs.declared.tag.Tag.{Tag}
use Rattle.z_ber.specs.Element.{Forest, none, leaf, branch, end_of_contents, AreElements}
use Rattle.z_ber.specs.Frames.{IsExtent, IsFrameAt, BeginsWith}
use Rattle.z_ber.specs.Header.{Begins, Opens}
use Rattle.z_ber.specs.Lent.{Lent, IsLentFrom, children_of, without_first, IsFirst, IsNext}
use Rattle.z_ber.specs.Due.{IsRefused}
use Rattle.z_ber.specs.LentTree.{IsLentAs, IsChildOf, LendsNext, LendsFirst}
use Rattle.z_ber.proofs.CloseReading.{extent-cases, extent-none}
use Rattle.z_ber.proofs.LendLaws.{extent-one, leaf-extent, branch-extent, forest-frames}
use Rattle.z_ber.proofs.StepReading.{length-header}

-- ---- an element takes octets

extent-some : (k : ℕ) (f b : List ℕ) (t : Tag) → IsExtent k f t b → 0 < length f
extent-some zero f b t e = extent-none f b t e
extent-some (suc k) f b t e =
    elim (extent-cases k f b t e) [
      | inl d ↦ omega (arith, length-header d.head t (Some (length b)) d.header, ap length d.spelled, length-append d.head b)
      | inr d ↦ omega (arith, length-header d.head t None d.header, ap length d.spelled, length-append (d.head ++ b) end_of_contents, length-append d.head b)
    ]

-- what follows an element at the front is shorter
pub shorter : (k : ℕ) (left rest b : List ℕ) (t : Tag) → BeginsWith k left t b rest → length rest < length left
shorter k left rest b t p = omega (arith, extent-some k p.frame b t p.extent, ap length p.spelled, length-append p.frame rest)

-- ---- what is refused begins with no element

opens : (P : List ℕ → Type 0) (bytes : List ℕ) → Begins P bytes → Opens P bytes
opens P bytes b = ([], (b.0, b.1, b.2, append-nil bytes ∙ b.3))

refused_no : (k : ℕ) (bytes : List ℕ) (fault : BerFault) → IsRefused k bytes fault → Begins (IsFrameAt k) bytes → ⊥
refused_no k bytes Short r b = r.0 b
refused_no k bytes BadTag r b = r.0 (opens (IsFrameAt k) bytes b)
refused_no k bytes BadLength r b = r.0 (opens (IsFrameAt k) bytes b)
refused_no k bytes (TooLarge n) r b = r.0 (opens (IsFrameAt k) bytes b)
refused_no k bytes TooDeep r b = r.0 (opens (IsFrameAt k) bytes b)

-- ---- the element at the front is what is lent

record Met (k : ℕ) (t : Tag) (b others rest : List ℕ) (lent : Lent) : Type 0 where
  tag-is : lent.tag ≡ t
  body-is : lent.body ≡ b
  left-is : lent.left ≡ children_of t b
  deeper : suc lent.levels ≡ k
  behind : rest ≡ others

same_children : (s t : Tag) (a b : List ℕ) → s ≡ t → a ≡ b → children_of s a ≡ children_of t b
same_children s t a b p q = cc

met : (k : ℕ) (t : Tag) (f b others bytes rest : List ℕ) (lent : Lent) → IsExtent k f t b → bytes ≡ f ++ others → IsLentFrom k bytes rest lent → Met k t b others rest lent
met k t f b others bytes rest lent x s n =
    let p = n.begins in
    let one = extent-one k lent.tag t p.frame f lent.body b rest others p.extent x (sym p.spelled ∙ s) in
    record {
      tag-is = one.0;
      body-is = one.1;
      left-is = n.children ∙ same_children lent.tag t lent.body b one.0 one.1;
      deeper = n.deeper;
      behind = one.2;
    }

children_none : (t : Tag) (b : List ℕ) → t.constructed ≡ false → children_of t b ≡ []
children_none t b e = rw e refl

children_all : (t : Tag) (b : List ℕ) → t.constructed ≡ true → children_of t b ≡ b
children_all t b e = rw e refl

-- the first of elements, as it stands in octets, and what stands behind it
record Front (w : Bool) (k : ℕ) (octets : List ℕ) (forest others : Forest) : Type 0 where
  tag : Tag
  contents : List ℕ
  first : List ℕ
  rest : List ℕ
  extent : IsExtent k first tag contents
  stands : (lent : Lent) → lent.tag ≡ tag → lent.body ≡ contents → lent.left ≡ children_of tag contents → suc lent.levels ≡ k → IsLentAs k lent forest
  behind : AreElements w k rest others
  spelled : octets ≡ first ++ rest

leaf_front : (w : Bool) (k : ℕ) (octets c : List ℕ) (t : Tag) (others : Forest) → AreElements w k octets (leaf t c others) → Front w k octets (leaf t c others) others
leaf_front w zero octets c t others h = absurd h
leaf_front w (suc m) octets c t others h = record {
  tag = t;
  contents = c;
  first = h.first;
  rest = h.others;
  extent = leaf-extent m h.first c t h.here;
  stands = λ lent p q r d. record { tagged = p; filled = q; childless = r ∙ children_none t c h.here.primitive; deeper = d };
  behind = h.behind;
  spelled = h.spelled;
}

branch_front : (w : Bool) (k : ℕ) (octets c : List ℕ) (t : Tag) (inner others : Forest) → AreElements w k octets (branch t c inner others) → Front w k octets (branch t c inner others) others
branch_front w zero octets c t inner others h = absurd h
branch_front w (suc m) octets c t inner others h =
    let b = h.here in
    record {
      tag = t;
      contents = c;
      first = h.first;
      rest = h.others;
      extent = branch-extent m h.first t c _ b (forest-frames inner b.indefinite m c b.inner);
      stands = λ lent p q r d.
          let low : m ≡ lent.levels = omega (arith, d) in
          record { tagged = p; filled = q; whole = r ∙ children_all t c b.constructed; deeper = d; within = b.indefinite; holds = subst (λ (j : ℕ). AreElements b.indefinite j c inner) low b.inner };
      behind = h.behind;
      spelled = h.spelled;
    }

-- ---- the next child

child_of : (w : Bool) (old new : Lent) (forest others : Forest) (answer : Result (Option Lent) BerFault) → Front w old.levels old.left forest others → IsNext old new answer → IsChildOf w old new forest others answer
child_of w old new forest others (Ok None) f n =
    absurd (let some = extent-some old.levels f.first f.contents f.tag f.extent in let zeros : length old.left ≡ 0 = ap length n.0 in omega (arith, ap length f.spelled, length-append f.first f.rest))
child_of w old new forest others (Err fault) f n =
    absurd (refused_no old.levels old.left fault n.2 (f.first, f.rest, (f.tag, f.contents, f.extent), f.spelled))
child_of w old new forest others (Ok (Some child)) f n =
    let m = met old.levels f.tag f.first f.contents f.rest old.left new.left child f.extent f.spelled n.0 in
    record {
      child = child;
      answered = refl;
      first = f.stands child m.tag-is m.body-is m.left-is m.deeper;
      behind = subst (λ (o : List ℕ). AreElements w old.levels o others) (sym m.behind) f.behind;
    }

no_child : (old new : Lent) (answer : Result (Option Lent) BerFault) → old.left ≡ [] → IsNext old new answer → answer ≡ Ok None
no_child old new (Ok None) h n = refl
no_child old new (Ok (Some child)) h n = absurd (let less = shorter old.levels old.left new.left child.body child.tag n.0.begins in let zeros : length old.left ≡ 0 = ap length h in omega arith)
no_child old new (Err fault) h n = absurd (n.0 h)

pub next_of_tree : (old new : Lent) (answer : Result (Option Lent) BerFault) → IsNext old new answer → LendsNext old new answer
next_of_tree old new answer n w none h = no_child old new answer h n
next_of_tree old new answer n w (leaf t c others) h = child_of w old new (leaf t c others) others answer (leaf_front w old.levels old.left c t others h) n
next_of_tree old new answer n w (branch t c inner others) h = child_of w old new (branch t c inner others) others answer (branch_front w old.levels old.left c t inner others h) n

-- ---- an element of which a child is lent, as it is inside and as it is seen

pub next_lent : (inside seen child : Lent) (rest : List ℕ) → inside ≡ seen → IsLentFrom inside.levels inside.left rest child → LendsNext seen (without_first inside rest) (Ok (Some child))
next_lent inside seen child rest v n =
    subst (λ (s : Lent). LendsNext s (without_first inside rest) (Ok (Some child))) v (next_of_tree inside (without_first inside rest) (Ok (Some child)) (n, refl))

pub next_shorter : (inside seen child : Lent) (rest : List ℕ) → inside ≡ seen → IsLentFrom inside.levels inside.left rest child → length rest < length seen.left
next_shorter inside seen child rest v n =
    subst (λ (s : Lent). length rest < length s.left) v (shorter inside.levels inside.left rest child.body child.tag n.begins)

pub next_fault : (seen : Lent) (fault : BerFault) → (seen.left ≢ []) × IsRefused seen.levels seen.left fault → LendsNext seen seen (Err fault)
next_fault seen fault h = next_of_tree seen seen (Err fault) (h.0, refl, h.1)

-- ---- the first element

parts : (bytes octets first others rest : List ℕ) → bytes ≡ octets ++ rest → octets ≡ first ++ others → bytes ≡ first ++ (others ++ rest)
parts bytes octets first others rest s e = s ∙ ap (λ o. o ++ rest) e ∙ append_assoc first others rest

first_of : (bytes rest : List ℕ) (tree others : Forest) (answer : Result Lent BerFault) (octets : List ℕ) → Front false 64 octets tree others → bytes ≡ octets ++ rest → IsFirst bytes answer → (lent : Lent) × (answer ≡ Ok lent) × IsLentAs 64 lent tree
first_of bytes rest tree others (Ok lent) octets f s n =
    let m = met 64 f.tag f.first f.contents (f.rest ++ rest) bytes n.0 lent f.extent (parts bytes octets f.first f.rest rest s f.spelled) n.1 in
    (lent, refl, f.stands lent m.tag-is m.body-is m.left-is m.deeper)
first_of bytes rest tree others (Err fault) octets f s n =
    absurd (refused_no 64 bytes fault n (f.first, f.rest ++ rest, (f.tag, f.contents, f.extent), parts bytes octets f.first f.rest rest s f.spelled))

pub first_of_tree : (bytes : List ℕ) (answer : Result Lent BerFault) → IsFirst bytes answer → LendsFirst bytes answer
first_of_tree bytes answer n none octets rest h s = absurd h
first_of_tree bytes answer n (leaf t c others) octets rest h s = first_of bytes rest (leaf t c others) others answer octets (leaf_front false 64 octets c t others h.1) s n
first_of_tree bytes answer n (branch t c inner others) octets rest h s = first_of bytes rest (branch t c inner others) others answer octets (branch_front false 64 octets c t inner others h.1) s n
