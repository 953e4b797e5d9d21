-- The keys that a session searched last, by the names of their result sets (this project's own)
use Rattle.std.proofs.Common.{◌≡◌, ◌∙◌, ℕ, ◌+◌, Bool, true, false, cond, not, List, [], ◌∷◌, drop, Some, refl, sym, ap}
use Rattle.std.proofs.lemmas.Cmp.{nat_list_eq_equiv}
use Rattle.z_types.specs.equality.Tests.{text_exact}
use Rattle.z_types.specs.Same.{is_same}
use Rattle.cache_backend.specs.declared.known.Searched.{Searched}
use Rattle.cache_backend.specs.Known.{known_under, without}

-- a name that is another one is not found under the own one
other_name : (own name first : List ℕ) → is_same own name ≡ false → is_same first own ≡ true → is_same first name ≡ false
other_name own name first e f = ap (λ n. is_same n name) (text_exact first own f) ∙ e

skip_own : (b : Bool) (own name : List ℕ) (first : Searched) (rest : List Searched) → is_same own name ≡ false → is_same first.name own ≡ b
    → known_under (without own rest) name ≡ known_under rest name
    → known_under (cond (not b) (first ∷ without own rest) (without own rest)) name ≡ cond (is_same first.name name) (Some first.key) (known_under rest name)
skip_own true own name first rest e f h =
    h ∙ sym (ap (λ c. cond c (Some first.key) (known_under rest name)) (other_name own name first.name e f))
skip_own false own name first rest e f h = ap (λ o. cond (is_same first.name name) (Some first.key) o) h

-- other names have their keys
others_stay : (own name : List ℕ) (searched : List Searched) → is_same own name ≡ false → known_under (without own searched) name ≡ known_under searched name
others_stay own name [] e = refl
others_stay own name (first ∷ rest) e =
    skip_own (is_same first.name own) own name first rest e refl (others_stay own name rest e)

-- so they have where a key is put in front under another name
pub others_known : (own : Searched) (name : List ℕ) (searched : List Searched) → is_same own.name name ≡ false
    → known_under (own ∷ without own.name searched) name ≡ known_under searched name
others_known own name searched e = rw e (others_stay own.name name searched e)

-- and that name has it
pub own_known : (own : Searched) (searched : List Searched) → known_under (own ∷ without own.name searched) own.name ≡ Some own.key
own_known own searched = rw (nat_list_eq_equiv.refl own.name) refl

-- the first that has the name is found
pub known_here : (searched : List Searched) (name : List ℕ) (i : ℕ) (own : Searched) → drop i searched ≡ own ∷ drop (i + 1) searched
    → is_same own.name name ≡ true → known_under (drop i searched) name ≡ known_under searched name → Some own.key ≡ known_under searched name
known_here searched name i own here same so =
    let first : known_under (own ∷ drop (i + 1) searched) name ≡ Some own.key = rw same refl in
    sym (sym so ∙ ap (λ l. known_under l name) here ∙ first)
