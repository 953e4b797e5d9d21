-- Octets that are elements have no place where they are not, and others have one.
use Rattle.std.proofs.Common.{◌≡◌, ◌∙◌, ◌⊎◌, ℕ, ◌<◌, ◌≤◌, zero, suc, Bool, true, false, cond, inl, inr, List, [], ◌++◌, length, take, Option, Some, None, is_none, IfSome, sym, ap, subst, append_assoc, arith, refl}
use Rattle.std.proofs.lemmas.List.{length-append, append-nil, take_at}
use Rattle.z_ber.specs.declared.tag.Tag.{Tag}
use Rattle.z_ber.specs.Element.{Forest, none, leaf, branch, end_of_contents, HaveEnded, AreElements, IsElement}
use Rattle.z_ber.specs.Header.{IsHeader, Begins, IsSomeHeader}
use Rattle.z_ber.specs.Place.{IsOverlong, held, IsInside, IsPlace, IsPlaceAmong, IsUnit, IsLeftOver, IsUnitPlace}
use Rattle.z_ber.proofs.LendLaws.{alone, only}
use Rattle.z_ber.proofs.TreeLaws.{heads_one, none_some, no_leaf, no_branch, element_one}

-- ---- two runs of elements in the same octets

-- an element stands at the front of octets, where elements have not ended
record Ahead (w : Bool) (k : ℕ) (octets : List ℕ) : Type 0 where
  tree : Forest
  first : List ℕ
  more : List ℕ
  one : IsElement k first tree
  spelled : octets ≡ first ++ more
  going : ¬ HaveEnded w octets

-- the first of elements
record Split (w : Bool) (k : ℕ) (octets : List ℕ) (others : Forest) : Type 0 where
  tree : Forest
  first : List ℕ
  tail : List ℕ
  one : IsElement k first tree
  are : AreElements w k tail others
  spelled : octets ≡ first ++ tail
  going : (x more : List ℕ) → x ≡ first ++ more → ¬ HaveEnded w x

split_leaf : (w : Bool) (k : ℕ) (o c : List ℕ) (t : Tag) (fs : Forest) → AreElements w k o (leaf t c fs) → Split w k o fs
split_leaf w zero o c t fs h = absurd h
split_leaf w (suc m) o c t fs h = record {
  tree = leaf t c none;
  first = h.first;
  tail = h.others;
  one = (refl, record { first = h.first; others = []; here = h.here; apart = λ e. absurd cc; behind = refl; spelled = sym (append-nil h.first) });
  are = h.behind;
  spelled = h.spelled;
  going = λ x more s f. no_leaf w t c h.first more x h.here h.apart f s;
}

split_branch : (w : Bool) (k : ℕ) (o c : List ℕ) (t : Tag) (ks fs : Forest) → AreElements w k o (branch t c ks fs) → Split w k o fs
split_branch w zero o c t ks fs h = absurd h
split_branch w (suc m) o c t ks fs h = record {
  tree = branch t c ks none;
  first = h.first;
  tail = h.others;
  one = (refl, record { first = h.first; others = []; here = h.here; apart = λ e. absurd cc; behind = refl; spelled = sym (append-nil h.first) });
  are = h.behind;
  spelled = h.spelled;
  going = λ x more s f. no_branch w t c h.first more x h.here f s;
}

-- either they end together, or an element follows where the other ends
abbrev Compared : Bool → ℕ → List ℕ → List ℕ → Type 0
Compared w k x y = (x ≡ y) ⊎ (Ahead w k x ⊎ Ahead w k y)

ahead : (w : Bool) (k : ℕ) (b x y : List ℕ) (gs : Forest) → Split w k b gs → x ≡ b ++ y → Ahead w k x
ahead w k b x y gs q e =
    let parts : x ≡ q.first ++ (q.tail ++ y) = e ∙ ap (λ o. o ++ y) q.spelled ∙ append_assoc q.first q.tail y in
    record { tree = q.tree; first = q.first; more = q.tail ++ y; one = q.one; spelled = parts; going = q.going x (q.tail ++ y) parts }

both_on : (w : Bool) (k : ℕ) (a b x y : List ℕ) (fs gs : Forest) (p : Split w k a fs) (q : Split w k b gs) → a ++ x ≡ b ++ y → p.tail ++ x ≡ q.tail ++ y
both_on w k a b x y fs gs p q e =
    (element_one p.tree q.tree k k p.first q.first (p.tail ++ x) (q.tail ++ y) p.one q.one (sym (append_assoc p.first p.tail x) ∙ ap (λ o. o ++ x) (sym p.spelled) ∙ e ∙ ap (λ o. o ++ y) q.spelled ∙ append_assoc q.first q.tail y)).2

compared : (fs gs : Forest) (w : Bool) (k : ℕ) (a b x y : List ℕ) → AreElements w k a fs → AreElements w k b gs → a ++ x ≡ b ++ y → Compared w k x y
compared none none w k a b x y p q e = inl (ap (λ o. o ++ x) (sym p) ∙ e ∙ ap (λ o. o ++ y) q)
compared none (leaf t d gs) w k a b x y p q e = inr (inl (ahead w k b x y gs (split_leaf w k b d t gs q) (ap (λ o. o ++ x) (sym p) ∙ e)))
compared none (branch t d ls gs) w k a b x y p q e = inr (inl (ahead w k b x y gs (split_branch w k b d t ls gs q) (ap (λ o. o ++ x) (sym p) ∙ e)))
compared (leaf s c fs) none w k a b x y p q e = inr (inr (ahead w k a y x fs (split_leaf w k a c s fs p) (ap (λ o. o ++ y) (sym q) ∙ sym e)))
compared (branch s c ks fs) none w k a b x y p q e = inr (inr (ahead w k a y x fs (split_branch w k a c s ks fs p) (ap (λ o. o ++ y) (sym q) ∙ sym e)))
compared (leaf s c fs) (leaf t d gs) w k a b x y p q e =
    let u = split_leaf w k a c s fs p in
    let v = split_leaf w k b d t gs q in
    compared fs gs w k u.tail v.tail x y u.are v.are (both_on w k a b x y fs gs u v e)
compared (leaf s c fs) (branch t d ls gs) w k a b x y p q e =
    let u = split_leaf w k a c s fs p in
    let v = split_branch w k b d t ls gs q in
    compared fs gs w k u.tail v.tail x y u.are v.are (both_on w k a b x y fs gs u v e)
compared (branch s c ks fs) (leaf t d gs) w k a b x y p q e =
    let u = split_branch w k a c s ks fs p in
    let v = split_leaf w k b d t gs q in
    compared fs gs w k u.tail v.tail x y u.are v.are (both_on w k a b x y fs gs u v e)
compared (branch s c ks fs) (branch t d ls gs) w k a b x y p q e =
    let u = split_branch w k a c s ks fs p in
    let v = split_branch w k b d t ls gs q in
    compared fs gs w k u.tail v.tail x y u.are v.are (both_on w k a b x y fs gs u v e)

-- ---- the header of an element

-- the header of an element at the front of octets, and what it holds
record Head (m : ℕ) (octets : List ℕ) : Type 0 where
  tag : Tag
  len : Option ℕ
  head : List ℕ
  body : List ℕ
  header : IsHeader head tag len
  spelled : octets ≡ head ++ body
  fits : IfSome len (λ n. n ≤ length body)
  holds : tag.constructed ≡ true → (at : ℕ) → ¬ IsPlaceAmong (is_none len) m (held len body) at

-- no place stands in octets that are elements and have ended
abbrev NoneAmong : ℕ → Type 0
NoneAmong m = (w : Bool) (octets body more : List ℕ) (forest : Forest) (at : ℕ) → AreElements w m body forest → octets ≡ body ++ more → HaveEnded w more → ¬ IsPlaceAmong w m octets at

differ : {P : Type 0} (b : Bool) → b ≡ true → b ≡ false → P
differ b p q = absurd cc

head_of : (m : ℕ) (octets first more : List ℕ) (tree : Forest) → NoneAmong m → IsElement (suc m) first tree → octets ≡ first ++ more → Head m octets
head_of m octets first more none never h s = absurd h
head_of m octets first more (leaf t c fs) never h s =
    let p = h.1 in
    let l = p.here in
    let whole = only first p (alone (suc m) false p.others fs h.0 p.behind) in
    record {
      tag = t;
      len = Some (length c);
      head = l.head;
      body = c ++ more;
      header = l.header;
      spelled = s ∙ ap (λ o. o ++ more) (sym whole ∙ l.spelled) ∙ append_assoc l.head c more;
      fits = omega (arith, length-append c more);
      holds = λ e at. differ t.constructed e l.primitive;
    }
head_of m octets first more (branch t c ks fs) never h s =
    let p = h.1 in
    let whole = only first p (alone (suc m) false p.others fs h.0 p.behind) in
    by p.here.indefinite p.here.head p.here.header p.here.inner (s ∙ ap (λ o. o ++ more) (sym whole ∙ p.here.spelled))
  where
    by : (i : Bool) (head : List ℕ) → IsHeader head t (cond i None (Some (length c))) → AreElements i m c ks → octets ≡ ((head ++ c) ++ cond i end_of_contents []) ++ more → Head m octets
    by true head hd inner parts = record {
      tag = t;
      len = None;
      head = head;
      body = c ++ (end_of_contents ++ more);
      header = hd;
      spelled = parts ∙ append_assoc (head ++ c) end_of_contents more ∙ append_assoc head c (end_of_contents ++ more);
      fits = tt;
      holds = λ e at. never true (c ++ (end_of_contents ++ more)) c (end_of_contents ++ more) ks at inner refl (more, refl);
    }
    by false head hd inner parts = record {
      tag = t;
      len = Some (length c);
      head = head;
      body = c ++ more;
      header = hd;
      spelled = parts ∙ ap (λ o. o ++ more) (append-nil (head ++ c)) ∙ append_assoc head c more;
      fits = omega (arith, length-append c more);
      holds = λ e at. never false (take (length c) (c ++ more)) c [] ks at inner (take_at c more (length c) refl ∙ sym (append-nil c)) refl;
    }

-- ---- no place where an element stands

no_level : {P : Type 0} (a : List ℕ) (t : Forest) → IsElement zero a t → P
no_level a none h = absurd h
no_level a (leaf t c fs) h = absurd h.1
no_level a (branch t c ks fs) h = absurd h.1

over_fits : {P : Type 0} (len : Option ℕ) (n : ℕ) (a b : List ℕ) → IfSome len (λ j. j ≤ length a) → len ≡ Some n → a ≡ b → length b < n → P
over_fits None n a b f e s lt = none_some n None refl e
over_fits (Some j) n a b f e s lt = absurd (let same : j ≡ n = some_one j n (Some j) refl e in omega (arith, f, same, ap length s))
  where
    some_one : (m n : ℕ) (l : Option ℕ) → l ≡ Some m → l ≡ Some n → m ≡ n
    some_one m n l p q = cc

among_as : (m at : ℕ) (k l : Option ℕ) (a b : List ℕ) → k ≡ l → a ≡ b → IsPlaceAmong (is_none k) m (held k a) at → IsPlaceAmong (is_none l) m (held l b) at
among_as m at k l a b e f h = subst (λ (o : List ℕ). IsPlaceAmong (is_none l) m (held l o) at) f (subst (λ (j : Option ℕ). IsPlaceAmong (is_none j) m (held j a) at) e h)

-- the same on one level
abbrev NoneAt : ℕ → Type 0
NoneAt k = (octets first more : List ℕ) (tree : Forest) (at : ℕ) → IsElement k first tree → octets ≡ first ++ more → ¬ IsPlace k octets at

none_under : (m : ℕ) → NoneAmong m → NoneAt (suc m)
none_under m never octets first more tree at h s place = by (head_of m octets first more tree never h s) place
  where
    by : Head m octets → IsPlace (suc m) octets at → ⊥
    by v (inl (z, inl unheaded)) = unheaded (v.head, v.body, (v.tag, v.len, v.header), v.spelled)
    by v (inl (z, inr long)) =
        let one = heads_one v.head long.head v.tag long.tag v.len (Some long.len) v.body long.body v.header long.header (sym v.spelled ∙ long.spelled) in
        over_fits v.len long.len v.body long.body v.fits one.1 one.2 long.over
    by v (inr p) =
        let one = heads_one v.head p.head v.tag p.tag v.len p.len v.body p.body v.header p.header (sym v.spelled ∙ p.spelled) in
        v.holds (ap (λ (t : Tag). t.constructed) one.0 ∙ p.constructed) p.in_body (among_as m p.in_body p.len v.len p.body v.body (sym one.1) (sym one.2) p.inner)

none_among : (k : ℕ) → NoneAt k → NoneAmong k
none_among k never w octets body more forest at h s ended p =
    elim (compared p.forest forest w k p.front body p.rest more p.are h (sym p.spelled ∙ s)) [
      | inl same ↦ p.due (subst (λ (o : List ℕ). HaveEnded w o) (sym same) ended)
      | inr either ↦ elim either [
        | inl v ↦ never p.rest v.first v.more v.tree p.in_rest v.one v.spelled p.place
        | inr v ↦ v.going ended
      ]
    ]

none_at : (k : ℕ) → NoneAt k
none_at zero octets first more tree at h s place = no_level first tree h
none_at (suc m) octets first more tree at h s place = none_under m (none_among m (none_at m)) octets first more tree at h s place

-- ---- one place

abbrev OneAt : ℕ → Type 0
OneAt k = (octets : List ℕ) (a b : ℕ) → IsPlace k octets a → IsPlace k octets b → a ≡ b

abbrev OneAmong : ℕ → Type 0
OneAmong k = (w : Bool) (octets : List ℕ) (a b : ℕ) → IsPlaceAmong w k octets a → IsPlaceAmong w k octets b → a ≡ b

one_among : (k : ℕ) → OneAt k → OneAmong k
one_among k one w octets a b p q =
    elim (compared p.forest q.forest w k p.front q.front p.rest q.rest p.are q.are (sym p.spelled ∙ q.spelled)) [
      | inl same ↦
          let inner : p.in_rest ≡ q.in_rest = one p.rest p.in_rest q.in_rest p.place (subst (λ (o : List ℕ). IsPlace k o q.in_rest) (sym same) q.place) in
          omega (arith, inner, p.at-is, q.at-is, ap length same, ap length p.spelled, ap length q.spelled, length-append p.front p.rest, length-append q.front q.rest)
      | inr either ↦ elim either [
        | inl v ↦ absurd (none_at k p.rest v.first v.more v.tree p.in_rest v.one v.spelled p.place)
        | inr v ↦ absurd (none_at k q.rest v.first v.more v.tree q.in_rest v.one v.spelled q.place)
      ]
    ]

own_inside : {P : Type 0} (m : ℕ) (octets : List ℕ) (b : ℕ) → (¬ Begins IsSomeHeader octets) ⊎ IsOverlong octets → IsInside (IsPlace m) m octets b → P
own_inside m octets b (inl unheaded) p = absurd (unheaded (p.head, p.body, (p.tag, p.len, p.header), p.spelled))
own_inside m octets b (inr long) p =
    let one = heads_one p.head long.head p.tag long.tag p.len (Some long.len) p.body long.body p.header long.header (sym p.spelled ∙ long.spelled) in
    over_fits p.len long.len p.body long.body p.fits one.1 one.2 long.over

one_under : (m : ℕ) → OneAmong m → OneAt (suc m)
one_under m one octets a b (inl p) (inl q) = p.0 ∙ sym q.0
one_under m one octets a b (inl p) (inr q) = own_inside m octets b p.1 q
one_under m one octets a b (inr p) (inl q) = own_inside m octets a q.1 p
one_under m one octets a b (inr p) (inr q) =
    let h = heads_one p.head q.head p.tag q.tag p.len q.len p.body q.body p.header q.header (sym p.spelled ∙ q.spelled) in
    let inner : p.in_body ≡ q.in_body = one (is_none p.len) (held p.len p.body) p.in_body q.in_body p.inner (among_as m q.in_body q.len p.len q.body p.body (sym h.1) (sym h.2) q.inner) in
    omega (arith, inner, p.at-is, q.at-is, ap length h.2, ap length p.spelled, ap length q.spelled, length-append p.head p.body, length-append q.head q.body)

one_at : (k : ℕ) → OneAt k
one_at zero octets a b p q = p ∙ sym q
one_at (suc m) octets a b p q = one_under m (one_among m (one_at m)) octets a b p q

-- ---- elements, and a unit

pub elements_no_place : (octets : List ℕ) (forest : Forest) (at : ℕ) → AreElements false 64 octets forest → ¬ IsPlaceAmong false 64 octets at
elements_no_place octets forest at h = none_among 64 (none_at 64) false octets octets [] forest at h (sym (append-nil octets)) refl

pub elements_one_place : (octets : List ℕ) (a b : ℕ) → IsPlaceAmong false 64 octets a → IsPlaceAmong false 64 octets b → a ≡ b
elements_one_place octets a b p q = one_among 64 (one_at 64) false octets a b p q

whole_left : {P : Type 0} (octets : List ℕ) (tree : Forest) (at : ℕ) → IsElement 64 octets tree → IsLeftOver octets at → P
whole_left octets tree at h p =
    absurd (p.some (sym (element_one tree p.tree 64 64 octets p.front [] p.rest h p.element (append-nil octets ∙ p.spelled)).2))

left_one : (octets : List ℕ) (a b : ℕ) → IsLeftOver octets a → IsLeftOver octets b → a ≡ b
left_one octets a b p q =
    let one = element_one p.tree q.tree 64 64 p.front q.front p.rest q.rest p.element q.element (sym p.spelled ∙ q.spelled) in
    p.at-is ∙ ap length one.0 ∙ sym q.at-is

pub unit_no_place : (octets : List ℕ) (tree : Forest) (at : ℕ) → IsUnit octets tree → ¬ IsUnitPlace octets at
unit_no_place octets tree at h (inl p) = omega (arith, h.small, p.0)
unit_no_place octets tree at h (inr (small, inl p)) = none_at 64 octets octets [] tree at h.element (sym (append-nil octets)) p
unit_no_place octets tree at h (inr (small, inr p)) = whole_left octets tree at h.element p

pub unit_one_place : (octets : List ℕ) (a b : ℕ) → IsUnitPlace octets a → IsUnitPlace octets b → a ≡ b
unit_one_place octets a b (inl p) (inl q) = p.1 ∙ sym q.1
unit_one_place octets a b (inl p) (inr q) = absurd (omega (arith, p.0, q.0))
unit_one_place octets a b (inr p) (inl q) = absurd (omega (arith, p.0, q.0))
unit_one_place octets a b (inr (m, inl p)) (inr (n, inl q)) = one_at 64 octets a b p q
unit_one_place octets a b (inr (m, inl p)) (inr (n, inr q)) = absurd (none_at 64 octets q.front q.rest q.tree a q.element q.spelled p)
unit_one_place octets a b (inr (m, inr p)) (inr (n, inl q)) = absurd (none_at 64 octets p.front p.rest p.tree b p.element p.spelled q)
unit_one_place octets a b (inr (m, inr p)) (inr (n, inr q)) = left_one octets a b p q
