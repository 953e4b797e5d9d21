-- Octets that are elements wherever elements begin with them.
use Rattle.std.proofs.Common.{◌≡◌, ◌∙◌, ℕ, zero, suc, ◌^◌, ◌<◌, ◌≤◌, Bool, true, false, cond, List, [], ◌++◌, length, Option, Some, None, sym, ap, subst, append_assoc, arith, refl}
use Rattle.std.proofs.lemmas.List.{append-nil, length-append}
use Rattle.std.proofs.Math.Nat.{le_trans}
use Rattle.z_ber.specs.declared.tag.Tag.{Tag}
use Rattle.z_ber.specs.Header.{IsHeader}
use Rattle.z_ber.specs.Element.{Forest, none, leaf, branch, end_of_contents, IsLeaf, IsBranch, IsInFront, AreElements, IsElement}
use Rattle.z_ber.specs.Place.{IsUnit}
use Rattle.z_ber.specs.Written.{IsTag, element}
use Rattle.z_ber.proofs.ElementLaws.{fronts}
use Rattle.z_ber.proofs.TreeLaws.{heads_one, head_some, no_leaf, no_branch, none_some}
use Rattle.z_laws.proofs.Forests.{joined, joined-none, joined-joined, levels, IsLow, joined-left, joined-right, are-joined}
use Rattle.z_laws.proofs.Heads.{head_of, header-is}

true_false : {P : Type 0} (b : Bool) → b ≡ true → b ≡ false → P
true_false b p q = absurd cc

-- how a tree goes on that begins with a forest: others, which are what is left of the octets
pub record GoesOn (levels : ℕ) (rest : List ℕ) (forest tree : Forest) : Type 0 where
  pub others : Forest
  pub whole : tree ≡ joined forest others
  pub behind : AreElements false levels rest others

-- wherever elements begin with these octets they begin with this forest
pub record Spells (octets : List ℕ) (forest : Forest) : Type 0 where
  pub found : (levels : ℕ) (rest : List ℕ) (tree : Forest) → length octets < 2 ^ 64 → AreElements false levels (octets ++ rest) tree → GoesOn levels rest forest tree
  pub built : (n : ℕ) → levels forest ≤ n → length octets < 2 ^ 64 → AreElements false n octets forest

-- ---- parts

pub spells-nothing : Spells [] none
spells-nothing = record {
  found = λ levels rest tree small are. record { others = tree; whole = refl; behind = are };
  built = λ n low small. refl;
}

-- what goes on with one forest and then with another goes on with both
pub goes_on-joined : (levels : ℕ) (rest : List ℕ) (f g tree others : Forest) → tree ≡ joined f others → GoesOn levels rest g others → GoesOn levels rest (joined f g) tree
goes_on-joined levels rest f g tree others e o = record {
  others = o.others;
  whole = e ∙ ap (joined f) o.whole ∙ sym (joined-joined f g o.others);
  behind = o.behind;
}

pub spells-both : (a b : List ℕ) (f g : Forest) → Spells a f → Spells b g → Spells (a ++ b) (joined f g)
spells-both a b f g p q = record {
  found = λ levels rest tree small are.
      let are' : AreElements false levels (a ++ (b ++ rest)) tree = subst (λ (o : List ℕ). AreElements false levels o tree) (append_assoc a b rest) are in
      let first = p.found levels (b ++ rest) tree (omega (arith, length-append a b)) are' in
      let second = q.found levels rest first.others (omega (arith, length-append a b)) first.behind in
      goes_on-joined levels rest f g tree first.others first.whole second;
  built = λ n low small.
      let front = p.built n (le_trans (joined-left f g) low) (omega (arith, small, length-append a b)) in
      let back = q.built n (le_trans (joined-right f g) low) (omega (arith, small, length-append a b)) in
      are-joined n a b f g front back;
}

-- ---- an element

element-head : (tag : Tag) (contents rest : List ℕ) → element tag contents ++ rest ≡ head_of tag contents ++ (contents ++ rest)
unfolding element
element-head tag contents rest = append_assoc (head_of tag contents) contents rest

pub element-long : (tag : Tag) (contents : List ℕ) → length contents ≤ length (element tag contents)
unfolding element
element-long tag contents = omega (arith, length-append (head_of tag contents) contents)

-- octets with an element in front are no empty forest
some_element : {P : Type 0} (tag : Tag) (contents rest : List ℕ) → IsTag tag → length contents < 2 ^ 64 → element tag contents ++ rest ≡ [] → P
some_element tag contents rest valid lt e =
    head_some (head_of tag contents) tag (Some (length contents)) (contents ++ rest) (header-is tag contents valid lt) (sym (element-head tag contents rest) ∙ e)

some_length : (m n : ℕ) → Some m ≡ Some n → m ≡ n
some_length m n e = cc

-- what stands in front is the element
record Same (tag other : Tag) (contents body rest others : List ℕ) : Type 0 where
  tags : other ≡ tag
  filled : body ≡ contents
  left : others ≡ rest

same_front : (s t : Tag) (head c d rest others : List ℕ) → IsTag t → length c < 2 ^ 64 → IsHeader head s (Some (length d)) → element t c ++ rest ≡ head ++ (d ++ others) → Same t s c d rest others
same_front s t head c d rest others valid lt h e =
    let one = heads_one head (head_of t c) s t (Some (length d)) (Some (length c)) (d ++ others) (c ++ rest) h (header-is t c valid lt) (sym e ∙ element-head t c rest) in
    let r = fronts d c others rest (some_length (length d) (length c) one.1) one.2 in
    record { tags = one.0; filled = r.0; left = r.1 }

same_tag : (s t : Tag) (head c after rest : List ℕ) (l : Option ℕ) → IsTag t → length c < 2 ^ 64 → IsHeader head s l → element t c ++ rest ≡ head ++ after → (s ≡ t) × (l ≡ Some (length c))
same_tag s t head c after rest l valid lt h e =
    let one = heads_one head (head_of t c) s t l (Some (length c)) after (c ++ rest) h (header-is t c valid lt) (sym e ∙ element-head t c rest) in
    (one.0, one.1)

leaf_parts : {w : Bool} {Q : List ℕ → Type 0} (s : Tag) (d octets : List ℕ) (p : IsInFront w (IsLeaf s d) Q octets) → octets ≡ p.here.head ++ (d ++ p.others)
leaf_parts {w} {Q} s d octets p = p.spelled ∙ ap (λ o. o ++ p.others) p.here.spelled ∙ append_assoc p.here.head d p.others

abbrev tail_of : Bool → List ℕ
tail_of indefinite = cond indefinite end_of_contents []

branch_parts : {w : Bool} {I : Bool → List ℕ → Type 0} {Q : List ℕ → Type 0} (s : Tag) (d octets : List ℕ) (p : IsInFront w (IsBranch I s d) Q octets) → octets ≡ p.here.head ++ (d ++ (tail_of p.here.indefinite ++ p.others))
branch_parts {w} {I} {Q} s d octets p =
    p.spelled ∙ ap (λ o. o ++ p.others) p.here.spelled ∙ simp append_assoc

same_leaves : (s t : Tag) (c d : List ℕ) (others : Forest) → s ≡ t → d ≡ c → leaf s d others ≡ leaf t c others
same_leaves s t c d others p q = cc

leaf_found : (t : Tag) (c : List ℕ) → IsTag t → t.constructed ≡ false → (levels : ℕ) (rest : List ℕ) (tree : Forest) → length c < 2 ^ 64 → AreElements false levels (element t c ++ rest) tree → GoesOn levels rest (leaf t c none) tree
leaf_found t c valid form levels rest none lt are = some_element t c rest valid lt are
leaf_found t c valid form zero rest (leaf s d others) lt are = absurd are
leaf_found t c valid form zero rest (branch s d inner others) lt are = absurd are
leaf_found t c valid form (suc levels) rest (leaf s d others) lt are =
    let same = same_front s t are.here.head c d rest are.others valid lt are.here.header (leaf_parts s d _ are) in
    record {
      others = others;
      whole = same_leaves s t c d others same.tags same.filled;
      behind = subst (λ (o : List ℕ). AreElements false (suc levels) o others) same.left are.behind;
    }
leaf_found t c valid form (suc levels) rest (branch s d inner others) lt are =
    let same = same_tag s t are.here.head c _ rest _ valid lt are.here.header (branch_parts s d _ are) in
    true_false s.constructed are.here.constructed (ap (λ (r : Tag). r.constructed) same.0 ∙ form)

element-parts : (tag : Tag) (contents : List ℕ) → element tag contents ≡ head_of tag contents ++ contents
unfolding element
element-parts tag contents = refl

leaf_built : (t : Tag) (c : List ℕ) → IsTag t → t.constructed ≡ false → (n : ℕ) → levels (leaf t c none) ≤ n → length c < 2 ^ 64 → AreElements false n (element t c) (leaf t c none)
leaf_built t c valid form zero low lt = absurd (omega arith)
leaf_built t c valid form (suc n) low lt = record {
  first = element t c;
  others = [];
  here = record { primitive = form; head = head_of t c; header = header-is t c valid lt; spelled = element-parts t c };
  apart = λ e. absurd cc;
  behind = refl;
  spelled = sym (append-nil (element t c));
}

pub spells-leaf : (t : Tag) (c : List ℕ) → IsTag t → t.constructed ≡ false → Spells (element t c) (leaf t c none)
spells-leaf t c valid form = record {
  found = λ levels rest tree small are. leaf_found t c valid form levels rest tree (omega (arith, small, element-long t c)) are;
  built = λ n low small. leaf_built t c valid form n low (omega (arith, small, element-long t c));
}

-- nothing is no elements
nothing_left : (levels : ℕ) (tree : Forest) → AreElements false levels [] tree → tree ≡ none
nothing_left levels none are = refl
nothing_left zero (leaf s d others) are = absurd are
nothing_left zero (branch s d inner others) are = absurd are
nothing_left (suc levels) (leaf s d others) are = no_leaf false s d are.first are.others [] are.here are.apart refl are.spelled
nothing_left (suc levels) (branch s d inner others) are = no_branch false s d are.first are.others [] are.here refl are.spelled

-- octets that are elements alone
pub spelled_whole : (octets : List ℕ) (forest : Forest) → Spells octets forest → (levels : ℕ) (tree : Forest) → length octets < 2 ^ 64 → AreElements false levels octets tree → tree ≡ forest
spelled_whole octets forest p levels tree lt are =
    let on = p.found levels [] tree lt (subst (λ (o : List ℕ). AreElements false levels o tree) (sym (append-nil octets)) are) in
    on.whole ∙ ap (joined forest) (nothing_left levels on.others on.behind) ∙ joined-none forest

definite_form : (i : Bool) (k l : ℕ) → cond i None (Some k) ≡ Some l → (i ≡ false) × (k ≡ l)
definite_form true k l e = none_some l None refl e
definite_form false k l e = (refl, some_length k l e)

same_branches : (s t : Tag) (c d : List ℕ) (f g others : Forest) → s ≡ t → d ≡ c → g ≡ f → branch s d g others ≡ branch t c f others
same_branches s t c d f g others p q r = cc

branch_found : (t : Tag) (c : List ℕ) (f : Forest) → IsTag t → t.constructed ≡ true → Spells c f → (levels : ℕ) (rest : List ℕ) (tree : Forest) → length c < 2 ^ 64 → AreElements false levels (element t c ++ rest) tree → GoesOn levels rest (branch t c f none) tree
branch_found t c f valid form p levels rest none lt are = some_element t c rest valid lt are
branch_found t c f valid form p zero rest (leaf s d others) lt are = absurd are
branch_found t c f valid form p zero rest (branch s d inner others) lt are = absurd are
branch_found t c f valid form p (suc levels) rest (leaf s d others) lt are =
    let same = same_tag s t are.here.head c _ rest _ valid lt are.here.header (leaf_parts s d _ are) in
    true_false s.constructed (ap (λ (r : Tag). r.constructed) same.0 ∙ form) are.here.primitive
branch_found t c f valid form p (suc levels) rest (branch s d inner others) lt are =
    let parts = branch_parts s d _ are in
    let tagged = same_tag s t are.here.head c _ rest _ valid lt are.here.header parts in
    let form' = definite_form are.here.indefinite (length d) (length c) tagged.1 in
    let header : IsHeader are.here.head s (Some (length d)) = subst (λ (i : Bool). IsHeader are.here.head s (cond i None (Some (length d)))) form'.0 are.here.header in
    let parts' : element t c ++ rest ≡ are.here.head ++ (d ++ are.others) = parts ∙ ap (λ (i : Bool). are.here.head ++ (d ++ (tail_of i ++ are.others))) form'.0 in
    let same = same_front s t are.here.head c d rest are.others valid lt header parts' in
    let held : AreElements false levels d inner = subst (λ (i : Bool). AreElements i levels d inner) form'.0 are.here.inner in
    let held' : AreElements false levels c inner = subst (λ (o : List ℕ). AreElements false levels o inner) same.filled held in
    record {
      others = others;
      whole = same_branches s t c d f inner others same.tags same.filled (spelled_whole c f p levels inner lt held');
      behind = subst (λ (o : List ℕ). AreElements false (suc levels) o others) same.left are.behind;
    }

branch_built : (t : Tag) (c : List ℕ) (f : Forest) → IsTag t → t.constructed ≡ true → Spells c f → (n : ℕ) → levels (branch t c f none) ≤ n → length c < 2 ^ 64 → AreElements false n (element t c) (branch t c f none)
branch_built t c f valid form p zero low lt = absurd (omega arith)
branch_built t c f valid form p (suc n) low lt = record {
  first = element t c;
  others = [];
  here = record {
    constructed = form;
    indefinite = false;
    head = head_of t c;
    header = header-is t c valid lt;
    inner = p.built n (omega arith) lt;
    spelled = element-parts t c ∙ sym (append-nil (head_of t c ++ c));
  };
  apart = λ e. absurd cc;
  behind = refl;
  spelled = sym (append-nil (element t c));
}

pub spells-branch : (t : Tag) (c : List ℕ) (f : Forest) → IsTag t → t.constructed ≡ true → Spells c f → Spells (element t c) (branch t c f none)
spells-branch t c f valid form p = record {
  found = λ levels rest tree small are. branch_found t c f valid form p levels rest tree (omega (arith, small, element-long t c)) are;
  built = λ n low small. branch_built t c f valid form p n low (omega (arith, small, element-long t c));
}

-- ---- a unit

pub are_alone : (n : ℕ) (octets : List ℕ) (tree : Forest) → IsElement n octets tree → AreElements false n octets tree
are_alone n octets none h = absurd h
are_alone n octets (leaf tag contents others) h = h.1
are_alone n octets (branch tag contents inner others) h = h.1

-- a unit that is spelled has this tree
pub unit_tree : (octets : List ℕ) (forest tree : Forest) → Spells octets forest → IsUnit octets tree → tree ≡ forest
unit_tree octets forest tree p unit =
    spelled_whole octets forest p 64 tree (omega (arith, unit.small)) (are_alone 64 octets tree unit.element)

-- octets that are spelled as one constructed element, on 64 levels and of 1048576 octets at most, are a unit
pub spelled_unit : (octets contents : List ℕ) (tag : Tag) (inner : Forest) → Spells octets (branch tag contents inner none) → IsLow 63 inner → length octets ≤ 1048576 → IsUnit octets (branch tag contents inner none)
spelled_unit octets contents tag inner p low small =
    let below = low.within in
    record { small = small; element = (refl, p.built 64 (omega arith) (omega arith)) }
