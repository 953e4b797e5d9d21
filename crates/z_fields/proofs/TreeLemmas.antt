-- The trees that octets are worked out to have are those that they have.
use Rattle.std.proofs.Common.{◌≡◌, ◌∙◌, ℕ, ◌+◌, ◌≤◌, ◌<◌, zero, suc, Bool, true, false, cond, List, [], ◌∷◌, ◌++◌, length, Some, Ok, ap, arith, refl}
use Rattle.std.proofs.lemmas.List.{length-append}
use Rattle.z_ber.specs.declared.tag.Tag.{Tag}
use Rattle.z_ber.specs.Element.{Forest, none, leaf, branch, end_of_contents, AreElements}
use Rattle.z_ber.specs.Frames.{IsExtent}
use Rattle.z_ber.specs.Reading.{extent_at}
use Rattle.z_ber.proofs.LendLaws.{extent_at-again, leaf-extent, branch-extent, forest-frames}
use Rattle.z_ber.proofs.StepReading.{length-header}
use Rattle.z_fields.specs.Trees.{element_behind, elements_at, elements_in}

-- the front of octets that is one element
front : (n k : ℕ) (f c x o : List ℕ) (t : Tag) → o ≡ f ++ x → 0 < length f → IsExtent (suc k) f t c → elements_at (suc n) (suc k) o ≡ element_behind (elements_at n k) (elements_at n (suc k)) (Ok (t, c, x))
front n k f c x [] t s some e = absurd (let none : 0 ≡ length (f ++ x) = ap length s in omega (arith, length-append f x))
front n k f c x (b ∷ bs) t s some e =
    ap (element_behind (elements_at n k) (elements_at n (suc k))) (ap (extent_at k) s ∙ extent_at-again k f c x t e)

as_leaf : (t : Tag) (c x : List ℕ) (inner others : List ℕ → Forest) → t.constructed ≡ false → element_behind inner others (Ok (t, c, x)) ≡ leaf t c (others x)
as_leaf t c x inner others e = rw e refl

as_branch : (t : Tag) (c x : List ℕ) (inner others : List ℕ → Forest) → t.constructed ≡ true → element_behind inner others (Ok (t, c, x)) ≡ branch t c (inner c) (others x)
as_branch t c x inner others e = rw e refl

pub elements_at-are : (forest : Forest) (w : Bool) (n k : ℕ) (o : List ℕ) → AreElements w k o forest → length o ≤ n → elements_at n k o ≡ forest
elements_at-are none w n k o are few = ap (elements_at n k) are
elements_at-are (leaf t c os) w n zero o are few = absurd are
elements_at-are (branch t c is os) w n zero o are few = absurd are
elements_at-are (leaf t c os) w zero (suc k) o are few =
    absurd (let all = ap length are.spelled in let h = are.here in let s = ap length h.spelled in omega (arith, length-header h.head t (Some (length c)) h.header, length-append are.first are.others, length-append h.head c))
elements_at-are (branch t c is os) w zero (suc k) o are few =
    absurd (let all = ap length are.spelled in let h = are.here in let s = ap length h.spelled in omega (arith, length-header h.head t _ h.header, length-append are.first are.others, length-append (h.head ++ c) (cond h.indefinite end_of_contents []), length-append h.head c))
elements_at-are (leaf t c os) w (suc n) (suc k) o are few =
    let h = are.here in
    let all = ap length are.spelled in
    let s = ap length h.spelled in
    let some : 0 < length are.first = omega (arith, length-header h.head t (Some (length c)) h.header, length-append h.head c) in
    front n k are.first c are.others o t are.spelled some (leaf-extent k are.first c t h)
    ∙ as_leaf t c are.others (elements_at n k) (elements_at n (suc k)) h.primitive
    ∙ ap (leaf t c) (elements_at-are os w n (suc k) are.others are.behind (omega (arith, length-append are.first are.others)))
elements_at-are (branch t c is os) w (suc n) (suc k) o are few =
    let h = are.here in
    let all = ap length are.spelled in
    let s = ap length h.spelled in
    let head : 2 ≤ length h.head = length-header h.head t _ h.header in
    let sum : length are.first ≡ length h.head + length c + length (cond h.indefinite end_of_contents []) = s ∙ length-append (h.head ++ c) (cond h.indefinite end_of_contents []) ∙ ap (λ j. j + length (cond h.indefinite end_of_contents [])) (length-append h.head c) in
    let frames = forest-frames is h.indefinite k c h.inner in
    front n k are.first c are.others o t are.spelled (omega arith) (branch-extent k are.first t c _ h frames)
    ∙ as_branch t c are.others (elements_at n k) (elements_at n (suc k)) h.constructed
    ∙ both _ _ _ _ (elements_at-are is h.indefinite n k c h.inner (omega (arith, length-append are.first are.others))) (elements_at-are os w n (suc k) are.others are.behind (omega (arith, length-append are.first are.others)))
  where
    both : (a b x y : Forest) → a ≡ b → x ≡ y → branch t c a x ≡ branch t c b y
    both a b x y p q = cc

pub elements_in-are : (forest : Forest) (w : Bool) (k : ℕ) (o : List ℕ) → AreElements w k o forest → elements_in k o ≡ forest
unfolding elements_in
elements_in-are forest w k o are = elements_at-are forest w (length o) k o are (omega arith)
