-- The result sets of a session by their names (this project's own)
use Rattle.std.proofs.Common.{◌≡◌, ◌∙◌, ℕ, Bool, true, false, cond, not, List, [], ◌∷◌, Option, None, Some, refl, sym, ap}
use Rattle.z_types.specs.equality.Tests.{text_exact}
use Rattle.z_types.specs.declared.key.SetKey.{SetKey}
use Rattle.z_types.specs.Same.{is_same}
use Rattle.z_client.specs.declared.sets.FoundSet.{FoundSet}
use Rattle.z_client.specs.Sets.{made_in, without}

abbrev found : FoundSet → Option (SetKey × ℕ)
found set = Some (set.key, set.hits)

-- a name that is another one is not found under the own one
other_name : (own name first : List ℕ) → is_same own name ≡ false → is_same first own ≡ true → is_same first name ≡ false
other_name own name first e f = ap (λ n. is_same n name) (text_exact first own f) ∙ e

skip_own : (b : Bool) (own name : List ℕ) (first : FoundSet) (rest : List FoundSet) → is_same own name ≡ false → is_same first.name own ≡ b
    → made_in (without own rest) name ≡ made_in rest name
    → made_in (cond (not b) (first ∷ without own rest) (without own rest)) name ≡ cond (is_same first.name name) (found first) (made_in rest name)
skip_own true own name first rest e f h =
    h ∙ sym (ap (λ c. cond c (found first) (made_in rest name)) (other_name own name first.name e f))
skip_own false own name first rest e f h = ap (λ o. cond (is_same first.name name) (found first) o) h

-- the sets of other names stay
others_stay : (own name : List ℕ) (sets : List FoundSet) → is_same own name ≡ false → made_in (without own sets) name ≡ made_in sets name
others_stay own name [] e = refl
others_stay own name (first ∷ rest) e =
    skip_own (is_same first.name own) own name first rest e refl (others_stay own name rest e)

none_of_own : (b : Bool) (own : List ℕ) (first : FoundSet) (rest : List FoundSet) → is_same first.name own ≡ b
    → made_in (without own rest) own ≡ None
    → made_in (cond (not b) (first ∷ without own rest) (without own rest)) own ≡ None
none_of_own true own first rest f h = h
none_of_own false own first rest f h = ap (λ c. cond c (found first) (made_in (without own rest) own)) f ∙ h

-- the own name has none
none_left : (own : List ℕ) (sets : List FoundSet) → made_in (without own sets) own ≡ None
none_left own [] = refl
none_left own (first ∷ rest) = none_of_own (is_same first.name own) own first rest refl (none_left own rest)

without_at : (b : Bool) (own name : List ℕ) (sets : List FoundSet) → is_same own name ≡ b
    → made_in (without own sets) name ≡ cond b None (made_in sets name)
without_at true own name sets e =
    ap (λ n. made_in (without own sets) n) (sym (text_exact own name e)) ∙ none_left own sets
without_at false own name sets e = others_stay own name sets e

-- a name has no set any more, and the others have theirs
pub made_without : (own name : List ℕ) (sets : List FoundSet) → made_in (without own sets) name ≡ cond (is_same own name) None (made_in sets name)
made_without own name sets = without_at (is_same own name) own name sets refl

put_at : (b : Bool) (set old rest : Option (SetKey × ℕ)) → rest ≡ cond b None old → cond b set rest ≡ cond b set old
put_at true set old rest e = refl
put_at false set old rest e = e

-- a name has the set that was put in front, and the others have theirs
pub put_in_front : (set : FoundSet) (name : List ℕ) (sets : List FoundSet)
    → made_in (set ∷ without set.name sets) name ≡ cond (is_same set.name name) (found set) (made_in sets name)
put_in_front set name sets =
    put_at (is_same set.name name) (found set) (made_in sets name) (made_in (without set.name sets) name) (made_without set.name name sets)
