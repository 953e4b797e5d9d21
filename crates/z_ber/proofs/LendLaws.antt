-- What is lent is the only element there, and elements with trees are what is lent.
use Rattle.std.proofs.Common.{◌≡◌, ◌∙◌, ◌≢◌, ℕ, ◌-◌, zero, suc, Bool, true, false, cond, ltb, inl, inr, List, [], ◌∷◌, ◌++◌, length, take, Some, None, Result, Ok, sym, ap, subst, append_assoc, arith, refl}
use Rattle.std.specs.List.{AllByRecursion}
use Rattle.std.proofs.lemmas.Bool.{le-ltb}
use Rattle.std.proofs.lemmas.List.{length-append, append-nil, take_at, drop_at}
use Rattle.z_ber.specs.declared.fault.BerFault.{BerFault}
use Rattle.z_ber.specs.declared.tag.Tag.{Tag}
use Rattle.z_ber.specs.Header.{IsHeader}
use Rattle.z_ber.specs.Element.{Forest, none, leaf, branch, end_of_contents, IsLeaf, IsBranch, IsInFront, AreElements, IsElement}
use Rattle.z_ber.specs.Frames.{IsExtent, IsFrameAt}
use Rattle.z_ber.specs.LentTree.{IsRoot}
use Rattle.z_ber.specs.Reading.{header_at, close_at, inside_at, extent_behind, extent_at}
use Rattle.z_ber.proofs.FrameReading.{ok_is}
use Rattle.z_ber.proofs.HeaderReading.{header_at-again}
use Rattle.z_ber.proofs.CloseReading.{joined, extent-definite, extent-indefinite, extent-cases, extent-none, close_at-complete}
use Rattle.z_ber.proofs.ExtentReading.{closes_of}

-- ---- what is lent is the only element there

-- tag, contents and rest, as reading gives them
abbrev found : Tag → List ℕ → List ℕ → Result (Tag × List ℕ × List ℕ) BerFault
found t i x = Ok (t, i, x)

pub extent_at-again : (k : ℕ) (f b x : List ℕ) (t : Tag) → IsExtent (suc k) f t b → extent_at k (f ++ x) ≡ Ok (t, b, x)
unfolding extent_at
extent_at-again k f b x t e =
    elim (extent-cases k f b t e) [
      | inl d ↦
          let parts : f ++ x ≡ d.head ++ (b ++ x) = ap (λ o. o ++ x) d.spelled ∙ append_assoc d.head b x in
          let come : ltb (length (b ++ x)) (length b) ≡ false = le-ltb _ _ (omega (arith, length-append b x)) in
          ap (extent_behind k) (ap header_at parts ∙ header_at-again d.head t (Some (length b)) (b ++ x) d.header) ∙ rw (come, take_at b x (length b) refl, drop_at b x (length b) refl) refl
      | inr d ↦
          let inner : List ℕ = b ++ (end_of_contents ++ x) in
          let parts : f ++ x ≡ d.head ++ (b ++ (end_of_contents ++ x)) = ap (λ o. o ++ x) d.spelled ∙ append_assoc (d.head ++ b) end_of_contents x ∙ append_assoc d.head b (end_of_contents ++ x) in
          let closed : close_at (suc (length inner)) 1 k inner ≡ Ok x = close_at-complete (suc (length inner)) x 1 k inner (closes_of k f b x t d) (omega arith) in
          let n : length (b ++ (end_of_contents ++ x)) - length x - 2 ≡ length b = omega (arith, length-append b (end_of_contents ++ x), length-append end_of_contents x) in
          let front : take (length (b ++ (end_of_contents ++ x)) - length x - 2) (b ++ (end_of_contents ++ x)) ≡ b = ap (λ j. take j inner) n ∙ take_at b (end_of_contents ++ x) (length b) refl in
          ap (extent_behind k) (ap header_at parts ∙ header_at-again d.head t None inner d.header) ∙ ap (inside_at t inner) closed ∙ ap (λ i. found t i x) front
    ]

pub extent-one : (k : ℕ) (s t : Tag) (f g b c x y : List ℕ) → IsExtent k f s b → IsExtent k g t c → f ++ x ≡ g ++ y → (s ≡ t) × (b ≡ c) × (x ≡ y)
extent-one zero s t f g b c x y p q e = extent-none f b s p
extent-one (suc k) s t f g b c x y p q e =
    let one = ok_is {A = Tag × List ℕ × List ℕ} (extent_at k (f ++ x)) (s, b, x) (t, c, y) (extent_at-again k f b x s p) (ap (extent_at k) e ∙ extent_at-again k g c y t q) in
    (ap (λ (r : Tag × List ℕ × List ℕ). r.0) one, ap (λ (r : Tag × List ℕ × List ℕ). r.1) one, ap (λ (r : Tag × List ℕ × List ℕ). r.2) one)

-- ---- elements with trees are what is lent

pub leaf-extent : (k : ℕ) (f c : List ℕ) (t : Tag) → IsLeaf t c f → IsExtent (suc k) f t c
leaf-extent k f c t p = extent-definite k f c t (record { head = p.head; header = p.header; spelled = p.spelled })

-- elements as frames
abbrev pub FramesOf : Bool → ℕ → List ℕ → Type 0
FramesOf w m octets = (frames : List (List ℕ)) × AllByRecursion (λ f. IsFrameAt m f × (w ≡ true → f ≢ end_of_contents)) frames × (octets ≡ joined frames)

kept : (m : ℕ) (w : Bool) → w ≡ true → (frames : List (List ℕ)) → AllByRecursion (λ f. IsFrameAt m f × (w ≡ true → f ≢ end_of_contents)) frames → AllByRecursion (λ f. IsFrameAt m f × (f ≢ end_of_contents)) frames
kept m w e [] h = tt
kept m w e (f ∷ fs) h = ((h.0.0, h.0.1 e), kept m w e fs h.1)

pub branch-extent : (k : ℕ) (f : List ℕ) (t : Tag) (c : List ℕ) (Inner : Bool → List ℕ → Type 0) (p : IsBranch Inner t c f) → FramesOf p.indefinite k c → IsExtent (suc k) f t c
branch-extent k f t c Inner p fs = by_form k f t p.indefinite p.head c p.header p.spelled fs
  where
    by_form : (k : ℕ) (f : List ℕ) (t : Tag) (i : Bool) (head body : List ℕ) → IsHeader head t (cond i None (Some (length body))) → f ≡ head ++ body ++ cond i end_of_contents [] → FramesOf i k body → IsExtent (suc k) f t body
    by_form k f t true head body h s fs = extent-indefinite k f body t (record { head = head; header = h; frames = fs.0; each = kept k true refl fs.0 fs.1; inside = fs.2; spelled = s })
    by_form k f t false head body h s fs = extent-definite k f body t (record { head = head; header = h; spelled = s ∙ append-nil (head ++ body) })

pub forest-frames : (fs : Forest) (w : Bool) (m : ℕ) (octets : List ℕ) → AreElements w m octets fs → FramesOf w m octets
forest-frames none w m octets p = ([], tt, p)
forest-frames (leaf t c fs) w zero octets p = absurd p
forest-frames (branch t c ks fs) w zero octets p = absurd p
forest-frames (leaf t c fs) w (suc m) octets p =
    let r = forest-frames fs w (suc m) p.others p.behind in
    (p.first ∷ r.0, (((t, c, leaf-extent m p.first c t p.here), p.apart), r.1), p.spelled ∙ ap (λ o. p.first ++ o) r.2)
forest-frames (branch t c ks fs) w (suc m) octets p =
    let b = p.here in
    let inner = forest-frames ks b.indefinite m c b.inner in
    let r = forest-frames fs w (suc m) p.others p.behind in
    (p.first ∷ r.0, (((t, c, branch-extent m p.first t c _ b inner), p.apart), r.1), p.spelled ∙ ap (λ o. p.first ++ o) r.2)

pub alone : (m : ℕ) (w : Bool) (o : List ℕ) (fs : Forest) → fs ≡ none → AreElements w m o fs → o ≡ []
alone m w o fs e h = subst (λ (k : Forest). AreElements w m o k) e h

pub only : {w : Bool} {P Q : List ℕ → Type 0} (a : List ℕ) (p : IsInFront w P Q a) → p.others ≡ [] → p.first ≡ a
only {w} {P} {Q} a p e = sym (p.spelled ∙ ap (λ o. p.first ++ o) e ∙ append-nil p.first)

pub element-root : (tree : Forest) (m : ℕ) (octets : List ℕ) → IsElement m octets tree → IsRoot m octets tree
element-root none m octets p = absurd p
element-root (leaf t c fs) zero octets p = absurd p.1
element-root (branch t c ks fs) zero octets p = absurd p.1
element-root (leaf t c fs) (suc m) octets p =
    let whole = only octets p.1 (alone (suc m) false p.1.others fs p.0 p.1.behind) in
    subst (λ (o : List ℕ). IsExtent (suc m) o t c) whole (leaf-extent m p.1.first c t p.1.here)
element-root (branch t c ks fs) (suc m) octets p =
    let whole = only octets p.1 (alone (suc m) false p.1.others fs p.0 p.1.behind) in
    let b = p.1.here in
    let inner = forest-frames ks b.indefinite m c b.inner in
    let less : m ≡ suc m - 1 = omega arith in
    (b.indefinite, subst (λ (o : List ℕ). IsExtent (suc m) o t c) whole (branch-extent m p.1.first t c _ b inner), subst (λ (k : ℕ). AreElements b.indefinite k c ks) less b.inner)
