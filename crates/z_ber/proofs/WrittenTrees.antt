-- What is written of elements is an element.
use Rattle.std.proofs.Common.{◌≡◌, ◌∙◌, ℕ, ◌^◌, ◌<◌, zero, suc, true, false, List, [], ◌∷◌, ◌++◌, length, sym, ap, refl}
use Rattle.std.specs.List.{flat_map, AllByRecursion}
use Rattle.std.proofs.lemmas.Bool.{false≢true}
use Rattle.std.proofs.lemmas.List.{append-nil}
use Rattle.z_ber.specs.declared.tag.Tag.{Tag}
use Rattle.z_ber.specs.Written.{IsTag, element}
use Rattle.z_ber.specs.Element.{Forest, none, leaf, branch, IsInFront, AreElements, IsElement}
use Rattle.z_ber.specs.Laws.{IsSomeElement}
use Rattle.z_ber.proofs.LendLaws.{alone, only}
use Rattle.z_ber.proofs.WrittenLaws.{element-definite}

-- an element with nothing behind it
in_front_of_nothing : {First : List ℕ → Type 0} (octets : List ℕ) → First octets → IsInFront false First (λ rest. rest ≡ []) octets
in_front_of_nothing {First} octets here =
    record { first = octets; others = []; here = here; apart = λ e. absurd (false≢true e); behind = refl; spelled = sym (append-nil octets) }

pub leaf-written : (levels : ℕ) (tag : Tag) (contents : List ℕ) → IsTag tag → tag.constructed ≡ false → length contents < 2 ^ 64 → IsElement (suc levels) (element tag contents) (leaf tag contents none)
leaf-written levels tag contents valid primitive short =
    let d = element-definite tag contents valid short in
    (refl, in_front_of_nothing (element tag contents) (record { primitive = primitive; head = d.head; header = d.header; spelled = d.spelled }))

pub branch-written : (levels : ℕ) (tag : Tag) (contents : List ℕ) (inner : Forest) → IsTag tag → tag.constructed ≡ true → length contents < 2 ^ 64 → AreElements false levels contents inner → IsElement (suc levels) (element tag contents) (branch tag contents inner none)
branch-written levels tag contents inner valid constructed short are =
    let d = element-definite tag contents valid short in (
      refl,
      in_front_of_nothing (element tag contents) (record {
        constructed = constructed;
        indefinite = false;
        head = d.head;
        header = d.header;
        inner = are;
        spelled = d.spelled ∙ sym (append-nil (d.head ++ contents));
      }),
    )

-- octets are some elements, one after another
abbrev AreSome : ℕ → List ℕ → Type 0
AreSome levels octets = (forest : Forest) × AreElements false levels octets forest

-- an element in front of others
before : (levels : ℕ) (octets rest : List ℕ) (tree : Forest) → IsElement levels octets tree → AreSome levels rest → AreSome levels (octets ++ rest)
before levels octets rest none h more = absurd h
before zero octets rest (leaf tag contents others) h more = absurd h.1
before zero octets rest (branch tag contents inner others) h more = absurd h.1
before (suc levels) octets rest (leaf tag contents others) h more =
    let p = h.1 in
    let whole = only octets p (alone (suc levels) false p.others others h.0 p.behind) in
    (leaf tag contents more.0, record { first = p.first; others = rest; here = p.here; apart = p.apart; behind = more.1; spelled = ap (λ (o : List ℕ). o ++ rest) (sym whole) })
before (suc levels) octets rest (branch tag contents inner others) h more =
    let p = h.1 in
    let whole = only octets p (alone (suc levels) false p.others others h.0 p.behind) in
    (branch tag contents inner more.0, record { first = p.first; others = rest; here = p.here; apart = p.apart; behind = more.1; spelled = ap (λ (o : List ℕ). o ++ rest) (sym whole) })

-- elements one after another
joined_elements : (levels : ℕ) (elements : List (List ℕ)) → AllByRecursion (IsSomeElement levels) elements → AreSome levels (flat_map (λ octets. octets) elements)
joined_elements levels [] all = (none, refl)
joined_elements levels (first ∷ rest) all =
    before levels first (flat_map (λ octets. octets) rest) all.0.0 all.0.1 (joined_elements levels rest all.1)

pub list-written : (levels : ℕ) (tag : Tag) (elements : List (List ℕ)) → IsTag tag → tag.constructed ≡ true → length (flat_map (λ octets. octets) elements) < 2 ^ 64 → AllByRecursion (IsSomeElement levels) elements → IsSomeElement (suc levels) (element tag (flat_map (λ octets. octets) elements))
list-written levels tag elements valid constructed short all =
    let are = joined_elements levels elements all in
    (branch tag (flat_map (λ octets. octets) elements) are.0 none, branch-written levels tag (flat_map (λ octets. octets) elements) are.0 valid constructed short are.1)
