-- How the text of a list goes on by one item.
use Rattle.std.proofs.Common.{◌≡◌, ℕ, zero, suc, ◌+◌, ◌<◌, List, [], ◌∷◌, ◌++◌, length, get_or, drop, sym, ap, arith, add-one, append_assoc}
use Rattle.cql_parse.specs.declared.tree.Modifier.{Modifier}
use Rattle.cql_parse.specs.declared.tree.SortKey.{SortKey}
use Rattle.cql_parse.specs.Written.{index_text, value_text, modifiers_text, keys_text}

-- what is left of a list at a place: the item there, and what is behind it
drop_suc : {X : Type 0} (xs : List X) (i : ℕ) (x : X) → i < length xs → x ≡ get_or xs i x → drop i xs ≡ x ∷ drop (suc i) xs
drop_suc [] i x below e = absurd (omega (arith, below))
drop_suc {X} (y ∷ ys) zero x below e = ap (λ (z : X). z ∷ ys) (sym e)
drop_suc (y ∷ ys) (suc i) x below e = drop_suc ys i x (omega (arith, below)) e

drop_item : {X : Type 0} (xs : List X) (i : ℕ) (x : X) → i < length xs → x ≡ get_or xs i x → drop i xs ≡ x ∷ drop (i + 1) xs
drop_item xs i x below e = rw (add-one i) (drop_suc xs i x below e)

pub modifiers_more : (ms : List Modifier) (i : ℕ) (m : Modifier) (out one two three : List ℕ) → i < length ms → m ≡ get_or ms i m → one ≡ out ++ 47 ∷ [] → two ≡ one ++ m.name → three ≡ two ++ value_text m.value → three ++ modifiers_text (drop (i + 1) ms) ≡ out ++ modifiers_text (drop i ms)
modifiers_more ms i m out one two three below e a b c =
    let split = drop_item ms i m below e in
    rw (split, c, b, a) (simp append_assoc)

pub keys_more : (ks : List SortKey) (i : ℕ) (k : SortKey) (out one two three : List ℕ) → i < length ks → k ≡ get_or ks i k → one ≡ out ++ 32 ∷ [] → two ≡ one ++ index_text k.index → three ≡ two ++ modifiers_text k.modifiers → three ++ keys_text (drop (i + 1) ks) ≡ out ++ keys_text (drop i ks)
keys_more ks i k out one two three below e a b c =
    let split = drop_item ks i k below e in
    rw (split, c, b, a) (simp append_assoc)
