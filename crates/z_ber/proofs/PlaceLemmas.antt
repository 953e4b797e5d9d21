-- The element at the front of octets, or the place where they begin with none, by the header that was read.
use Rattle.std.proofs.Common.{◌≡◌, ◌∙◌, ◌≢◌, ℕ, ◌+◌, ◌-◌, ◌<◌, ◌≤◌, zero, suc, Bool, true, false, inl, inr, List, [], ◌++◌, length, take, drop, Option, Some, None, Ok, Err, sym, ap, subst, append_assoc, arith, refl}
use Rattle.std.proofs.lemmas.List.{length-append, append-nil, take_at, take-append-drop, length-take-le, take_all}
use Rattle.z_ber.specs.declared.fault.BerFault.{BerFault}
use Rattle.z_ber.specs.declared.fault.BerFault.TheVariants.{Short, BadTag, BadLength, TooLarge, TooDeep}
use Rattle.z_ber.specs.declared.tag.Tag.{Tag}
use Rattle.z_ber.specs.Element.{Forest, none, leaf, branch, end_of_contents, HaveEnded, IsLeaf, IsBranch, AreElements, IsElement}
use Rattle.z_ber.specs.Header.{IsHeader, Begins, Opens, IsIdentifier, IsSomeHeader}
use Rattle.z_ber.specs.HeaderAnswer.{IsHeaderAnswer}
use Rattle.z_ber.specs.Lent.{Lent}
use Rattle.z_ber.specs.LentTree.{IsLentAs, LendsFirst}
use Rattle.z_ber.specs.Place.{IsPlace, IsPlaceAmong, IsElementOf, AreElementsOf, IsUnitPlace, IsUnitAnswer}
use Rattle.z_ber.specs.Written.{tag_octets}
use Rattle.z_ber.proofs.FrameReading.{ok_is}
use Rattle.z_ber.proofs.LendLaws.{alone, only}

-- ---- elements that are passed, in front of others

-- elements stand in octets
pub record Elements (w : Bool) (k : ℕ) (octets : List ℕ) : Type 0 where
  pub forest : Forest
  pub are : AreElements w k octets forest

-- others behind one more
behind_leaf : (w : Bool) (m : ℕ) (first others : List ℕ) (t : Tag) (c : List ℕ) → IsLeaf t c first → (w ≡ true → first ≢ end_of_contents) → Elements w (suc m) others → Elements w (suc m) (first ++ others)
behind_leaf w m first others t c l apart e = record { forest = leaf t c e.forest; are = record { first = first; others = others; here = l; apart = apart; behind = e.are; spelled = refl } }

behind_branch : (w : Bool) (m : ℕ) (first others : List ℕ) (t : Tag) (c : List ℕ) (ks : Forest) → IsBranch (λ i b. AreElements i m b ks) t c first → (w ≡ true → first ≢ end_of_contents) → Elements w (suc m) others → Elements w (suc m) (first ++ others)
behind_branch w m first others t c ks l apart e = record { forest = branch t c ks e.forest; are = record { first = first; others = others; here = l; apart = apart; behind = e.are; spelled = refl } }

pub at_octets : (w : Bool) (k : ℕ) (a b : List ℕ) → a ≡ b → Elements w k a → Elements w k b
at_octets w k a b e h = subst (λ (o : List ℕ). Elements w k o) e h

-- elements, and others behind them
pub joined : (w : Bool) (k : ℕ) (a b : List ℕ) (f : Forest) → AreElements w k a f → Elements w k b → Elements w k (a ++ b)
joined w k a b none h e = at_octets w k b (a ++ b) (ap (λ o. o ++ b) (sym h)) e
joined w zero a b (leaf t c fs) h e = absurd h
joined w zero a b (branch t c ks fs) h e = absurd h
joined w (suc m) a b (leaf t c fs) h e =
    at_octets w (suc m) (h.first ++ (h.others ++ b)) (a ++ b) (sym (append_assoc h.first h.others b) ∙ ap (λ o. o ++ b) (sym h.spelled)) (behind_leaf w m h.first (h.others ++ b) t c h.here h.apart (joined w (suc m) h.others b fs h.behind e))
joined w (suc m) a b (branch t c ks fs) h e =
    at_octets w (suc m) (h.first ++ (h.others ++ b)) (a ++ b) (sym (append_assoc h.first h.others b) ∙ ap (λ o. o ++ b) (sym h.spelled)) (behind_branch w m h.first (h.others ++ b) t c ks h.here h.apart (joined w (suc m) h.others b fs h.behind e))

-- one element, alone
pub single : (w : Bool) (k : ℕ) (octets : List ℕ) (tree : Forest) → IsElement k octets tree → (w ≡ true → octets ≢ end_of_contents) → Elements w k octets
single w k octets none h apart = absurd h
single w zero octets (leaf t c fs) h apart = absurd h.1
single w zero octets (branch t c ks fs) h apart = absurd h.1
single w (suc m) octets (leaf t c fs) h apart =
    let whole = only octets h.1 (alone (suc m) false h.1.others fs h.0 h.1.behind) in
    at_octets w (suc m) (octets ++ []) octets (append-nil octets) (behind_leaf w m octets [] t c (subst (λ (o : List ℕ). IsLeaf t c o) whole h.1.here) apart (record { forest = none; are = refl }))
single w (suc m) octets (branch t c ks fs) h apart =
    let whole = only octets h.1 (alone (suc m) false h.1.others fs h.0 h.1.behind) in
    at_octets w (suc m) (octets ++ []) octets (append-nil octets) (behind_branch w m octets [] t c ks (subst (λ (o : List ℕ). IsBranch (λ i b. AreElements i m b ks) t c o) whole h.1.here) apart (record { forest = none; are = refl }))

-- elements are passed, and rest follows them
pub record Passed (w : Bool) (k : ℕ) (octets rest : List ℕ) : Type 0 where
  pub front : List ℕ
  pub elements : Elements w k front
  pub spelled : octets ≡ front ++ rest

pub not_end : (w : Bool) (rest first more : List ℕ) → ¬ HaveEnded w rest → rest ≡ first ++ more → w ≡ true → first ≢ end_of_contents
not_end true rest first more due s e f = due (more, s ∙ ap (λ o. o ++ more) f)
not_end false rest first more due s e f = absurd cc

pub passed_one : (w : Bool) (k size : ℕ) (octets rest after : List ℕ) → ¬ HaveEnded w rest → IsElementOf k rest size → after ≡ drop size rest → Passed w k octets rest → Passed w k octets after
passed_one w k size octets rest after due one d p =
    let parts : rest ≡ take size rest ++ after = sym (take-append-drop size rest) ∙ ap (λ o. take size rest ++ o) (sym d) in
    record {
      front = p.front ++ take size rest;
      elements = joined w k p.front (take size rest) p.elements.forest p.elements.are (single w k (take size rest) one.tree one.element (not_end w rest (take size rest) after due parts));
      spelled = p.spelled ∙ ap (λ o. p.front ++ o) parts ∙ sym (append_assoc p.front (take size rest) after);
    }

-- ---- octets whose header was read

-- a header of n octets stands in front, and body behind it
pub record Headed (n : ℕ) (octets : List ℕ) (tag : Tag) (len : Option ℕ) (body : List ℕ) : Type 0 where
  pub fits : n ≤ length octets
  pub header : IsHeader (take n octets) tag len
  pub parts : octets ≡ take n octets ++ body

pub headed : (n : ℕ) (octets body : List ℕ) (tag : Tag) (l k : Option ℕ) → (n ≤ length octets) × IsHeader (take n octets) tag l → l ≡ k → body ≡ drop n octets → Headed n octets tag k body
headed n octets body tag l k h e b = record {
  fits = h.0;
  header = subst (λ (x : Option ℕ). IsHeader (take n octets) tag x) e h.1;
  parts = sym (take-append-drop n octets) ∙ ap (λ o. take n octets ++ o) (sym b);
}

sized : {n : ℕ} {octets : List ℕ} {tag : Tag} {len : Option ℕ} {body : List ℕ} → (h : Headed n octets tag len body) → length (take n octets) ≡ n
sized {n} {octets} h = length-take-le n octets h.fits

-- octets begin with one element, of `size` octets, where one stands in front of them
element_of : (m size : ℕ) (octets first rest : List ℕ) (tree : Forest) → octets ≡ first ++ rest → size ≡ length first → IsElement (suc m) first tree → IsElementOf (suc m) octets size
element_of m size octets first rest tree s n h = record {
  fits = omega (arith, n, ap length s, length-append first rest);
  tree = tree;
  element = subst (λ (o : List ℕ). IsElement (suc m) o tree) (sym (ap (take size) s ∙ take_at first rest size (sym n))) h;
}

on_level : (k size : ℕ) (octets : List ℕ) → 0 < k → IsElementOf (suc (k - 1)) octets size → IsElementOf k octets size
on_level k size octets some h = let e : suc (k - 1) ≡ k = omega arith in subst (λ (j : ℕ). IsElementOf j octets size) e h

leaf_element : (m : ℕ) (first c : List ℕ) (t : Tag) → IsLeaf t c first → IsElement (suc m) first (leaf t c none)
leaf_element m first c t l = (refl, record { first = first; others = []; here = l; apart = λ e. absurd cc; behind = refl; spelled = sym (append-nil first) })

pub branch_element : (m : ℕ) (first c : List ℕ) (t : Tag) (ks : Forest) → IsBranch (λ i b. AreElements i m b ks) t c first → IsElement (suc m) first (branch t c ks none)
branch_element m first c t ks l = (refl, record { first = first; others = []; here = l; apart = λ e. absurd cc; behind = refl; spelled = sym (append-nil first) })

parted : (octets head body : List ℕ) (len : ℕ) → octets ≡ head ++ body → octets ≡ (head ++ take len body) ++ drop len body
parted octets head body len b = b ∙ ap (λ o. head ++ o) (sym (take-append-drop len body)) ∙ sym (append_assoc head (take len body) (drop len body))

header_of : (head body : List ℕ) (tag : Tag) (len : ℕ) → IsHeader head tag (Some len) → len ≤ length body → IsHeader head tag (Some (length (take len body)))
header_of head body tag len p le = subst (λ (n : ℕ). IsHeader head tag (Some n)) (sym (length-take-le len body le)) p

pub is_primitive : (k n len : ℕ) (octets body : List ℕ) (tag : Tag) → 0 < k → Headed n octets tag (Some len) body → len ≤ length body → tag.constructed ≡ false → IsElementOf k octets (n + len)
is_primitive k n len octets body tag some h le form =
    let front : List ℕ = take n octets ++ take len body in
    let size : n + len ≡ length (take n octets ++ take len body) = omega (arith, sized h, length-append (take n octets) (take len body), length-take-le len body le) in
    on_level k (n + len) octets some (element_of (k - 1) (n + len) octets front (drop len body) (leaf tag (take len body) none) (parted octets (take n octets) body len h.parts) size (leaf_element (k - 1) front (take len body) tag (record { primitive = form; head = take n octets; header = header_of (take n octets) body tag len h.header le; spelled = refl })))

pub is_definite : (k n len used : ℕ) (octets body contents : List ℕ) (tag : Tag) → 0 < k → Headed n octets tag (Some len) body → len ≤ length body → tag.constructed ≡ true → contents ≡ take len body → AreElementsOf false (k - 1) contents used → IsElementOf k octets (n + len)
is_definite k n len used octets body contents tag some h le form c run =
    let front : List ℕ = take n octets ++ take len body in
    let size : n + len ≡ length (take n octets ++ take len body) = omega (arith, sized h, length-append (take n octets) (take len body), length-take-le len body le) in
    let all : take used contents ≡ take len body = sym (append-nil (take used contents)) ∙ ap (λ o. take used contents ++ o) (sym run.ended) ∙ take-append-drop used contents ∙ c in
    let inner : AreElements false (k - 1) (take len body) run.forest = subst (λ (o : List ℕ). AreElements false (k - 1) o run.forest) all run.elements in
    on_level k (n + len) octets some (element_of (k - 1) (n + len) octets front (drop len body) (branch tag (take len body) run.forest none) (parted octets (take n octets) body len h.parts) size (branch_element (k - 1) front (take len body) tag run.forest (record { constructed = form; indefinite = false; head = take n octets; header = header_of (take n octets) body tag len h.header le; inner = inner; spelled = sym (append-nil front) })))

pub is_indefinite : (k n used : ℕ) (octets body : List ℕ) (tag : Tag) → 0 < k → Headed n octets tag None body → AreElementsOf true (k - 1) body used → IsElementOf k octets (n + used + 2)
is_indefinite k n used octets body tag some h run =
    let head : List ℕ = take n octets in
    let c : List ℕ = take used body in
    let more = run.ended.0 in
    let size : n + used + 2 ≡ length ((take n octets ++ take used body) ++ end_of_contents) = omega (arith, sized h, length-append (take n octets ++ take used body) end_of_contents, length-append (take n octets) (take used body), length-take-le used body run.fits) in
    let parts : octets ≡ ((head ++ c) ++ end_of_contents) ++ more =
    h.parts ∙ ap (λ o. head ++ o) (sym (take-append-drop used body) ∙ ap (λ o. c ++ o) run.ended.1) ∙ sym (append_assoc (head ++ c) end_of_contents more ∙ append_assoc head c (end_of_contents ++ more))
    in
    on_level k (n + used + 2) octets some (element_of (k - 1) (n + used + 2) octets ((head ++ c) ++ end_of_contents) more (branch tag c run.forest none) parts size (branch_element (k - 1) ((head ++ c) ++ end_of_contents) c tag run.forest (record { constructed = h.header.lengths.0; indefinite = true; head = head; header = h.header; inner = run.elements; spelled = refl })))

-- ---- a unit

pub left_over : (size : ℕ) (octets : List ℕ) → length octets ≤ 1048576 → size < length octets → IsElementOf 64 octets size → IsUnitPlace octets size
left_over size octets small less h =
    inr (
      small,
      inr (record {
        tree = h.tree;
        front = take size octets;
        rest = drop size octets;
        element = h.element;
        some = λ e. omega (arith, ap length e, ap length (sym (take-append-drop size octets)), length-append (take size octets) (drop size octets), length-take-le size octets h.fits);
        spelled = sym (take-append-drop size octets);
        at-is = sym (length-take-le size octets h.fits);
      }),
    )

-- the element that octets are, whole
pub whole_element : (size : ℕ) (octets : List ℕ) → length octets ≤ size → IsElementOf 64 octets size → (tree : Forest) × IsElement 64 octets tree
whole_element size octets le h = (h.tree, subst (λ (o : List ℕ). IsElement 64 o h.tree) (take_all size octets le) h.element)

pub unit_lent : (size : ℕ) (octets : List ℕ) (lent : Lent) → length octets ≤ 1048576 → length octets ≤ size → IsElementOf 64 octets size → LendsFirst octets (Ok lent) → IsUnitAnswer octets (Ok lent)
unit_lent size octets lent small le h lends =
    let w = whole_element size octets le h in
    let found = lends w.0 octets [] w.1 (sym (append-nil octets)) in
    (w.0, record { small = small; element = w.1 }, subst (λ (l : Lent). IsLentAs 64 l w.0) (sym (ok_is {A = Lent} (Ok lent) lent found.0 refl found.1)) found.2)

-- ---- tests as they are made

-- ---- octets that begin with no element, by the header that was read

begins_opens : (P : List ℕ → Type 0) (octets : List ℕ) → Begins P octets → Opens P octets
begins_opens P octets b = ([], (b.0, b.1, b.2, append-nil octets ∙ b.3))

no_header : (octets : List ℕ) (fault : BerFault) → IsHeaderAnswer octets (Err fault) → ¬ Begins IsSomeHeader octets
no_header octets Short h b = h.0 b
no_header octets BadTag h b = let p = b.2.2 in h (begins_opens IsIdentifier octets (tag_octets b.2.0, p.ends ++ b.1, (b.2.0, p.valid, refl), b.3 ∙ ap (λ o. o ++ b.1) p.spelled ∙ append_assoc (tag_octets b.2.0) p.ends b.1))
no_header octets BadLength h b = h.1 (begins_opens IsSomeHeader octets b)
no_header octets (TooLarge n) h b = h
no_header octets TooDeep h b = h

place_on_level : (k at : ℕ) (octets : List ℕ) → 0 < k → IsPlace (suc (k - 1)) octets at → IsPlace k octets at
place_on_level k at octets some h = let e : suc (k - 1) ≡ k = omega arith in subst (λ (j : ℕ). IsPlace j octets at) e h

pub place_unheaded : (k : ℕ) (octets : List ℕ) (fault : BerFault) → 0 < k → IsHeaderAnswer octets (Err fault) → IsPlace k octets 0
place_unheaded k octets fault some h = place_on_level k 0 octets some (inl (refl, inl (no_header octets fault h)))

pub place_overlong : (k n len : ℕ) (octets body : List ℕ) (tag : Tag) → 0 < k → Headed n octets tag (Some len) body → length body < len → IsPlace k octets 0
place_overlong k n len octets body tag some h lt =
    place_on_level k 0 octets some (inl (refl, inr (record { tag = tag; len = len; head = take n octets; body = body; header = h.header; spelled = h.parts; over = lt })))

pub place_in_indefinite : (k n j : ℕ) (octets body : List ℕ) (tag : Tag) → 0 < k → Headed n octets tag None body → IsPlaceAmong true (k - 1) body j → IsPlace k octets (n + j)
place_in_indefinite k n j octets body tag some h p =
    place_on_level k (n + j) octets some (inr (record { tag = tag; len = None; head = take n octets; body = body; constructed = h.header.lengths.0; header = h.header; spelled = h.parts; fits = tt; in_body = j; inner = p; at-is = omega (arith, sized h) }))

pub place_in_definite : (k n len j : ℕ) (octets body contents : List ℕ) (tag : Tag) → 0 < k → Headed n octets tag (Some len) body → len ≤ length body → tag.constructed ≡ true → contents ≡ take len body → IsPlaceAmong false (k - 1) contents j → IsPlace k octets (n + j)
place_in_definite k n len j octets body contents tag some h le form c p =
    place_on_level k (n + j) octets some (inr (record { tag = tag; len = Some len; head = take n octets; body = body; constructed = form; header = h.header; spelled = h.parts; fits = le; in_body = j; inner = subst (λ (o : List ℕ). IsPlaceAmong false (k - 1) o j) c p; at-is = omega (arith, sized h) }))
