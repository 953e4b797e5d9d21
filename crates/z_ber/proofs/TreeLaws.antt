-- Octets have at most one tree, and no element begins another.
use Rattle.std.proofs.Common.{◌≡◌, ◌∙◌, ◌≢◌, ◌⊎◌, ℕ, zero, suc, Bool, true, false, cond, lit<, inl, inr, List, [], ◌∷◌, ◌++◌, length, Option, Some, None, Err, sym, ap, subst, append_assoc, refl}
use Rattle.std.proofs.lemmas.List.{append_cancel_left, append_cancel_right, append-nil, nil_from_length}
use Rattle.z_ber.specs.declared.fault.BerFault.TheVariants.{Short}
use Rattle.z_ber.specs.declared.tag.Tag.{Tag}
use Rattle.z_ber.specs.Header.{IsHeader}
use Rattle.z_ber.specs.Element.{Forest, none, leaf, branch, end_of_contents, HaveEnded, IsLeaf, IsBranch, IsInFront, AreElements, IsElement}
use Rattle.z_ber.specs.Reading.{tag_at, header_at}
use Rattle.z_ber.proofs.ElementLaws.{fronts, tag_octets-low}
use Rattle.z_ber.proofs.HeaderReading.{HeaderParts, ok_not_err, header_at-again, header_at-untagged}
use Rattle.z_ber.proofs.FrameReading.{ok_is}

-- headers begin no other headers
pub heads_one : (g h : List ℕ) (s t : Tag) (k l : Option ℕ) (x y : List ℕ) → IsHeader g s k → IsHeader h t l → g ++ x ≡ h ++ y → (s ≡ t) × (k ≡ l) × (x ≡ y)
heads_one g h s t k l x y p q e =
    let one : (s, k, x) ≡ (t, l, y) = ok_is {A = HeaderParts} (header_at (g ++ x)) _ _ (header_at-again g s k x p) (ap header_at e ∙ header_at-again h t l y q) in
    (ap (λ (r : HeaderParts). r.0) one, ap (λ (r : HeaderParts). r.1) one, ap (λ (r : HeaderParts). r.2) one)

tag_at-none : tag_at [] ≡ Err Short
unfolding tag_at
tag_at-none = refl

-- a header is not empty
pub head_some : {P : Type 0} (g : List ℕ) (s : Tag) (k : Option ℕ) (x : List ℕ) → IsHeader g s k → g ++ x ≡ [] → P
head_some g s k x p e = ok_not_err (header_at []) (s, k, x) Short (ap header_at (sym e) ∙ header_at-again g s k x p) (header_at-untagged [] Short tag_at-none)

-- the tag of the end of contents
abbrev pub end_tag : Tag
end_tag = record { class = 0; constructed = false; number = 0 }

pub end_header : IsHeader end_of_contents end_tag (Some 0)
end_header = record { valid = (lit< tt, lit< tt); ends = 0 ∷ []; lengths = inl (lit< tt, refl); spelled = ap (λ (o : List ℕ). o ++ 0 ∷ []) (sym (tag_octets-low end_tag (lit< tt))) }

some_one : (m n : ℕ) (l : Option ℕ) → l ≡ Some m → l ≡ Some n → m ≡ n
some_one m n l p q = cc

pub none_some : {P : Type 0} (n : ℕ) (l : Option ℕ) → l ≡ None → l ≡ Some n → P
none_some n l p q = absurd cc

true_false : {P : Type 0} (b : Bool) → b ≡ true → b ≡ false → P
true_false b p q = absurd cc

-- what begins with a header of length 0 where the end stands is the end
pub is_end : (g c z x : List ℕ) (s : Tag) → IsHeader g s (Some (length c)) → (g ++ c) ++ z ≡ end_of_contents ++ x → g ++ c ≡ end_of_contents
is_end g c z x s p e =
    let one = heads_one g end_of_contents s end_tag (Some (length c)) (Some 0) (c ++ z) x p end_header (sym (append_assoc g c z) ∙ e) in
    let n : length c ≡ 0 = some_one (length c) 0 (Some (length c)) refl one.1 in
    let empty : c ≡ [] = nil_from_length c n in
    let rest : z ≡ x = ap (λ (o : List ℕ). o ++ z) (sym empty) ∙ one.2 in
    append_cancel_right (g ++ c) end_of_contents x (ap (λ (o : List ℕ). (g ++ c) ++ o) (sym rest) ∙ e)

-- an element stands where none can
pub no_leaf : {P : Type 0} (w : Bool) (t : Tag) (c a b x : List ℕ) → IsLeaf t c a → (w ≡ true → a ≢ end_of_contents) → HaveEnded w x → x ≡ a ++ b → P
no_leaf true t c a b x p apart f e =
    absurd (apart refl (p.spelled ∙ is_end p.head c b f.0 t p.header (ap (λ o. o ++ b) (sym p.spelled) ∙ sym e ∙ f.1)))
no_leaf false t c a b x p apart f e =
    head_some p.head t (Some (length c)) (c ++ b) p.header (sym (append_assoc p.head c b) ∙ ap (λ o. o ++ b) (sym p.spelled) ∙ sym e ∙ f)

abbrev tail_of : Bool → List ℕ
tail_of indefinite = cond indefinite end_of_contents []

branch_parts : (head body tail b : List ℕ) → ((head ++ body) ++ tail) ++ b ≡ head ++ (body ++ (tail ++ b))
branch_parts head body tail b = simp append_assoc

pub no_branch : {P : Type 0} {Inner : Bool → List ℕ → Type 0} (w : Bool) (t : Tag) (c a b x : List ℕ) → IsBranch Inner t c a → HaveEnded w x → x ≡ a ++ b → P
no_branch {P} {Inner} true t c a b x p f e =
    let parts : a ++ b ≡ p.head ++ (c ++ (tail_of p.indefinite ++ b)) = ap (λ o. o ++ b) p.spelled ∙ branch_parts p.head c (tail_of p.indefinite) b in
    let one = heads_one p.head end_of_contents t end_tag _ (Some 0) _ f.0 p.header end_header (sym parts ∙ sym e ∙ f.1) in
    true_false t.constructed p.constructed (ap (λ (s : Tag). s.constructed) one.0)
no_branch {P} {Inner} false t c a b x p f e =
    let parts : a ++ b ≡ p.head ++ (c ++ (tail_of p.indefinite ++ b)) = ap (λ o. o ++ b) p.spelled ∙ branch_parts p.head c (tail_of p.indefinite) b in
    head_some p.head t _ _ p.header (sym parts ∙ sym e ∙ f)

leaves_one : (s t : Tag) (c d a b x y : List ℕ) → IsLeaf s c a → IsLeaf t d b → a ++ x ≡ b ++ y → (s ≡ t) × (c ≡ d) × (a ≡ b) × (x ≡ y)
leaves_one s t c d a b x y p q e =
    let one = heads_one p.head q.head s t (Some (length c)) (Some (length d)) (c ++ x) (d ++ y) p.header q.header (sym (append_assoc p.head c x) ∙ ap (λ o. o ++ x) (sym p.spelled) ∙ e ∙ ap (λ o. o ++ y) q.spelled ∙ append_assoc q.head d y) in
    let n : length c ≡ length d = some_one (length c) (length d) (Some (length c)) refl one.1 in
    let r = fronts c d x y n one.2 in
    (one.0, r.0, append_cancel_right a b y (ap (λ o. a ++ o) (sym r.1) ∙ e), r.1)

leaf_branch : {P : Type 0} {Inner : Bool → List ℕ → Type 0} (s t : Tag) (c d a b x y : List ℕ) → IsLeaf s c a → IsBranch Inner t d b → a ++ x ≡ b ++ y → P
leaf_branch {P} {Inner} s t c d a b x y p q e =
    let one = heads_one p.head q.head s t (Some (length c)) _ (c ++ x) _ p.header q.header (sym (append_assoc p.head c x) ∙ ap (λ o. o ++ x) (sym p.spelled) ∙ e ∙ ap (λ o. o ++ y) q.spelled ∙ branch_parts q.head d (tail_of q.indefinite) y) in
    true_false s.constructed (ap (λ (r : Tag). r.constructed) one.0 ∙ q.constructed) p.primitive

-- two lengths that are one are both indefinite or both definite
both_forms : (i j : Bool) (k l : ℕ) → cond i None (Some k) ≡ cond j None (Some l) → ((i ≡ true) × (j ≡ true)) ⊎ ((i ≡ false) × (j ≡ false) × (k ≡ l))
both_forms true true k l e = inl (refl, refl)
both_forms true false k l e = none_some l (Some l) (sym e) refl
both_forms false true k l e = none_some k (Some k) e refl
both_forms false false k l e = inr (refl, refl, some_one k l (Some k) refl e)

-- what two constructed elements in one place have in common
record Branches (s t : Tag) (a b body other x y rest tail : List ℕ) (i j : Bool) : Type 0 where
  tags : s ≡ t
  forms : ((i ≡ true) × (j ≡ true)) ⊎ ((i ≡ false) × (j ≡ false) × (length body ≡ length other))
  after : body ++ (tail_of i ++ rest) ≡ other ++ (tail_of j ++ tail)

branches_one : {P Q : Bool → List ℕ → Type 0} (s t : Tag) (c d a b x y : List ℕ) (p : IsBranch P s c a) (q : IsBranch Q t d b) → a ++ x ≡ b ++ y → Branches s t a b c d x y x y p.indefinite q.indefinite
branches_one {P} {Q} s t c d a b x y p q e =
    let parts : p.head ++ (c ++ (tail_of p.indefinite ++ x)) ≡ q.head ++ (d ++ (tail_of q.indefinite ++ y)) =
    sym (branch_parts p.head c (tail_of p.indefinite) x) ∙ ap (λ o. o ++ x) (sym p.spelled) ∙ e ∙ ap (λ o. o ++ y) q.spelled ∙ branch_parts q.head d (tail_of q.indefinite) y
    in
    let one = heads_one p.head q.head s t _ _ _ _ p.header q.header parts in
    record { tags = one.0; forms = both_forms p.indefinite q.indefinite (length c) (length d) one.1; after = one.2 }

in_front : {w : Bool} {P Q : List ℕ → Type 0} (a x : List ℕ) (p : IsInFront w P Q a) → a ++ x ≡ p.first ++ (p.others ++ x)
in_front {w} {P} {Q} a x p = ap (λ o. o ++ x) p.spelled ∙ append_assoc p.first p.others x

same_fronts : (a b f g o r : List ℕ) → a ≡ f ++ o → b ≡ g ++ r → f ≡ g → o ≡ r → a ≡ b
same_fronts a b f g o r p q s t = cc

same_leaves : (s t : Tag) (c d : List ℕ) (fs gs : Forest) → s ≡ t → c ≡ d → fs ≡ gs → leaf s c fs ≡ leaf t d gs
same_leaves s t c d fs gs p q r = cc

same_branches : (s t : Tag) (c d : List ℕ) (ks ls fs gs : Forest) → s ≡ t → c ≡ d → ks ≡ ls → fs ≡ gs → branch s c ks fs ≡ branch t d ls gs
same_branches s t c d ks ls fs gs p u q r = cc

-- octets of elements have one forest, and end in one place
pub elements_one : (fs gs : Forest) (w : Bool) (m n : ℕ) (a b x y : List ℕ) → AreElements w m a fs → AreElements w n b gs → HaveEnded w x → HaveEnded w y → a ++ x ≡ b ++ y → (a ≡ b) × (fs ≡ gs) × (x ≡ y)
elements_one none none w m n a b x y p q f g e =
    (p ∙ sym q, refl, ap (λ o. o ++ x) (sym p) ∙ e ∙ ap (λ o. o ++ y) q)
elements_one none (leaf t d gs) w m zero a b x y p q f g e = absurd q
elements_one none (branch t d ls gs) w m zero a b x y p q f g e = absurd q
elements_one none (leaf t d gs) w m (suc n) a b x y p q f g e =
    no_leaf w t d q.first (q.others ++ y) x q.here q.apart f (ap (λ o. o ++ x) (sym p) ∙ e ∙ in_front b y q)
elements_one none (branch t d ls gs) w m (suc n) a b x y p q f g e =
    no_branch w t d q.first (q.others ++ y) x q.here f (ap (λ o. o ++ x) (sym p) ∙ e ∙ in_front b y q)
elements_one (leaf s c fs) gs w zero n a b x y p q f g e = absurd p
elements_one (branch s c ks fs) gs w zero n a b x y p q f g e = absurd p
elements_one (leaf s c fs) none w (suc m) n a b x y p q f g e =
    no_leaf w s c p.first (p.others ++ x) y p.here p.apart g (ap (λ o. o ++ y) (sym q) ∙ sym e ∙ in_front a x p)
elements_one (branch s c ks fs) none w (suc m) n a b x y p q f g e =
    no_branch w s c p.first (p.others ++ x) y p.here g (ap (λ o. o ++ y) (sym q) ∙ sym e ∙ in_front a x p)
elements_one (leaf s c fs) (leaf t d gs) w (suc m) zero a b x y p q f g e = absurd q
elements_one (leaf s c fs) (branch t d ls gs) w (suc m) zero a b x y p q f g e = absurd q
elements_one (branch s c ks fs) (leaf t d gs) w (suc m) zero a b x y p q f g e = absurd q
elements_one (branch s c ks fs) (branch t d ls gs) w (suc m) zero a b x y p q f g e = absurd q
elements_one (leaf s c fs) (leaf t d gs) w (suc m) (suc n) a b x y p q f g e =
    let h = leaves_one s t c d p.first q.first (p.others ++ x) (q.others ++ y) p.here q.here (sym (in_front a x p) ∙ e ∙ in_front b y q) in
    let r = elements_one fs gs w (suc m) (suc n) p.others q.others x y p.behind q.behind f g h.3 in
    (same_fronts a b p.first q.first p.others q.others p.spelled q.spelled h.2 r.0, same_leaves s t c d fs gs h.0 h.1 r.1, r.2)
elements_one (leaf s c fs) (branch t d ls gs) w (suc m) (suc n) a b x y p q f g e =
    leaf_branch s t c d p.first q.first (p.others ++ x) (q.others ++ y) p.here q.here (sym (in_front a x p) ∙ e ∙ in_front b y q)
elements_one (branch s c ks fs) (leaf t d gs) w (suc m) (suc n) a b x y p q f g e =
    leaf_branch t s d c q.first p.first (q.others ++ y) (p.others ++ x) q.here p.here (sym (in_front b y q) ∙ sym e ∙ in_front a x p)
elements_one (branch s c ks fs) (branch t d ls gs) w (suc m) (suc n) a b x y p q f g e =
    let u = p.here in
    let v = q.here in
    let rest : List ℕ = p.others ++ x in
    let tail : List ℕ = q.others ++ y in
    let both = sym (in_front a x p) ∙ e ∙ in_front b y q in
    let h = branches_one s t c d p.first q.first (p.others ++ x) (q.others ++ y) u v both in
    elim h.forms [
      | inl i ↦
          let after : c ++ (end_of_contents ++ rest) ≡ d ++ (end_of_contents ++ tail) =
          ap (λ k. c ++ (tail_of k ++ rest)) (sym i.0) ∙ h.after ∙ ap (λ k. d ++ (tail_of k ++ tail)) i.1
          in
          let inner = elements_one ks ls true m n c d (end_of_contents ++ rest) (end_of_contents ++ tail) (subst (λ (k : Bool). AreElements k m c ks) i.0 u.inner) (subst (λ (k : Bool). AreElements k n d ls) i.1 v.inner) (rest, refl) (tail, refl) after in
          let left = append_cancel_left end_of_contents rest tail inner.2 in
          let r = elements_one fs gs w (suc m) (suc n) p.others q.others x y p.behind q.behind f g left in
          let firsts : p.first ≡ q.first = append_cancel_right p.first q.first tail (ap (λ o. p.first ++ o) (sym left) ∙ both) in
          (same_fronts a b p.first q.first p.others q.others p.spelled q.spelled firsts r.0, same_branches s t c d ks ls fs gs h.tags inner.0 inner.1 r.1, r.2)
      | inr i ↦
          let after : c ++ rest ≡ d ++ tail =
          ap (λ k. c ++ (tail_of k ++ rest)) (sym i.0) ∙ h.after ∙ ap (λ k. d ++ (tail_of k ++ tail)) i.1
          in
          let bodies = fronts c d rest tail i.2 after in
          let inner = elements_one ks ls false m n c d [] [] (subst (λ (k : Bool). AreElements k m c ks) i.0 u.inner) (subst (λ (k : Bool). AreElements k n d ls) i.1 v.inner) refl refl (ap (λ o. o ++ []) bodies.0) in
          let left = bodies.1 in
          let r = elements_one fs gs w (suc m) (suc n) p.others q.others x y p.behind q.behind f g left in
          let firsts : p.first ≡ q.first = append_cancel_right p.first q.first tail (ap (λ o. p.first ++ o) (sym left) ∙ both) in
          (same_fronts a b p.first q.first p.others q.others p.spelled q.spelled firsts r.0, same_branches s t c d ks ls fs gs h.tags bodies.0 inner.1 r.1, r.2)
    ]

-- ---- one element

alone : (m : ℕ) (w : Bool) (o : List ℕ) (fs : Forest) → fs ≡ none → AreElements w m o fs → o ≡ []
alone m w o fs e h = subst (λ (k : Forest). AreElements w m o k) e h

only : {w : Bool} {P Q : List ℕ → Type 0} (a : List ℕ) (p : IsInFront w P Q a) → p.others ≡ [] → a ≡ p.first
only {w} {P} {Q} a p e = p.spelled ∙ ap (λ o. p.first ++ o) e ∙ append-nil p.first

-- an element has one tree, and begins no other
pub element_one : (fs gs : Forest) (m n : ℕ) (a b x y : List ℕ) → IsElement m a fs → IsElement n b gs → a ++ x ≡ b ++ y → (a ≡ b) × (fs ≡ gs) × (x ≡ y)
element_one none gs m n a b x y p q e = absurd p
element_one (leaf s c fs) none m n a b x y p q e = absurd q
element_one (branch s c ks fs) none m n a b x y p q e = absurd q
element_one (leaf s c fs) (leaf t d gs) zero n a b x y p q e = absurd p.1
element_one (leaf s c fs) (branch t d ls gs) zero n a b x y p q e = absurd p.1
element_one (branch s c ks fs) (leaf t d gs) zero n a b x y p q e = absurd p.1
element_one (branch s c ks fs) (branch t d ls gs) zero n a b x y p q e = absurd p.1
element_one (leaf s c fs) (leaf t d gs) (suc m) zero a b x y p q e = absurd q.1
element_one (leaf s c fs) (branch t d ls gs) (suc m) zero a b x y p q e = absurd q.1
element_one (branch s c ks fs) (leaf t d gs) (suc m) zero a b x y p q e = absurd q.1
element_one (branch s c ks fs) (branch t d ls gs) (suc m) zero a b x y p q e = absurd q.1
element_one (leaf s c fs) (leaf t d gs) (suc m) (suc n) a b x y p q e =
    let a-is = only a p.1 (alone (suc m) false p.1.others fs p.0 p.1.behind) in
    let b-is = only b q.1 (alone (suc n) false q.1.others gs q.0 q.1.behind) in
    let h = leaves_one s t c d p.1.first q.1.first x y p.1.here q.1.here (ap (λ o. o ++ x) (sym a-is) ∙ e ∙ ap (λ o. o ++ y) b-is) in
    (a-is ∙ h.2 ∙ sym b-is, same_leaves s t c d fs gs h.0 h.1 (p.0 ∙ sym q.0), h.3)
element_one (leaf s c fs) (branch t d ls gs) (suc m) (suc n) a b x y p q e =
    let a-is = only a p.1 (alone (suc m) false p.1.others fs p.0 p.1.behind) in
    let b-is = only b q.1 (alone (suc n) false q.1.others gs q.0 q.1.behind) in
    leaf_branch s t c d p.1.first q.1.first x y p.1.here q.1.here (ap (λ o. o ++ x) (sym a-is) ∙ e ∙ ap (λ o. o ++ y) b-is)
element_one (branch s c ks fs) (leaf t d gs) (suc m) (suc n) a b x y p q e =
    let a-is = only a p.1 (alone (suc m) false p.1.others fs p.0 p.1.behind) in
    let b-is = only b q.1 (alone (suc n) false q.1.others gs q.0 q.1.behind) in
    leaf_branch t s d c q.1.first p.1.first y x q.1.here p.1.here (ap (λ o. o ++ y) (sym b-is) ∙ sym e ∙ ap (λ o. o ++ x) a-is)
element_one (branch s c ks fs) (branch t d ls gs) (suc m) (suc n) a b x y p q e =
    let a-is = only a p.1 (alone (suc m) false p.1.others fs p.0 p.1.behind) in
    let b-is = only b q.1 (alone (suc n) false q.1.others gs q.0 q.1.behind) in
    let u = p.1.here in
    let v = q.1.here in
    let both = ap (λ o. o ++ x) (sym a-is) ∙ e ∙ ap (λ o. o ++ y) b-is in
    let h = branches_one s t c d p.1.first q.1.first x y u v both in
    elim h.forms [
      | inl i ↦
          let after : c ++ (end_of_contents ++ x) ≡ d ++ (end_of_contents ++ y) =
          ap (λ k. c ++ (tail_of k ++ x)) (sym i.0) ∙ h.after ∙ ap (λ k. d ++ (tail_of k ++ y)) i.1
          in
          let inner = elements_one ks ls true m n c d (end_of_contents ++ x) (end_of_contents ++ y) (subst (λ (k : Bool). AreElements k m c ks) i.0 u.inner) (subst (λ (k : Bool). AreElements k n d ls) i.1 v.inner) (x, refl) (y, refl) after in
          let left = append_cancel_left end_of_contents x y inner.2 in
          (append_cancel_right a b y (ap (λ o. a ++ o) (sym left) ∙ e), same_branches s t c d ks ls fs gs h.tags inner.0 inner.1 (p.0 ∙ sym q.0), left)
      | inr i ↦
          let after : c ++ x ≡ d ++ y =
          ap (λ k. c ++ (tail_of k ++ x)) (sym i.0) ∙ h.after ∙ ap (λ k. d ++ (tail_of k ++ y)) i.1
          in
          let bodies = fronts c d x y i.2 after in
          let inner = elements_one ks ls false m n c d [] [] (subst (λ (k : Bool). AreElements k m c ks) i.0 u.inner) (subst (λ (k : Bool). AreElements k n d ls) i.1 v.inner) refl refl (ap (λ o. o ++ []) bodies.0) in
          (append_cancel_right a b y (ap (λ o. a ++ o) (sym bodies.1) ∙ e), same_branches s t c d ks ls fs gs h.tags bodies.0 inner.1 (p.0 ∙ sym q.0), bodies.1)
    ]
