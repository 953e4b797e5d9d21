-- Numbers with full stops between, and the lengths of texts.
use Rattle.std.proofs.Common.{◌≡◌, ◌≤◌, ◌<◌, ◌^◌, ℕ, List, [], ◌∷◌, ◌++◌, ◌-◌, length, map, take, drop, get_or, ap, sym, ◌∙◌, arith}
use Rattle.std.proofs.Math.Seq.{take-length}
use Rattle.std.specs.List.{flat_map, join_with_byte}
use Rattle.std.specs.Fmt.{decimal}
use Rattle.std.proofs.lemmas.List.{append-nil}
use Rattle.std.proofs.lemmas.Fmt.{length-decimal-le}

-- the first number, and each other behind a full stop
dotted_arcs : (arc : ℕ) (arcs : List ℕ)
    → join_with_byte 46 (map decimal (arc ∷ arcs)) ≡ decimal arc ++ flat_map (λ next. 46 ∷ decimal next) arcs
dotted_arcs arc [] = sym (append-nil (decimal arc))
dotted_arcs arc (next ∷ arcs) = ap (λ (l : List ℕ). decimal arc ++ (46 ∷ l)) (dotted_arcs next arcs)

-- the first number, and the others as they are behind it in the list
pub dotted_from : (arcs text : List ℕ) → 0 < length arcs → text ≡ decimal (get_or arcs 0 0)
    → text ++ flat_map (λ next. 46 ∷ decimal next) (take (length arcs - 1) (drop 1 arcs))
    ≡ join_with_byte 46 (map decimal arcs)
dotted_from [] text some is = absurd (omega arith)
dotted_from (arc ∷ arcs) text some is =
    let count : length (arc ∷ arcs) - 1 ≡ length arcs = omega arith in
    ap (λ (l : List ℕ). l ++ flat_map (λ next. 46 ∷ decimal next) (take (length (arc ∷ arcs) - 1) arcs)) is
    ∙ ap (λ (n : ℕ). decimal arc ++ flat_map (λ next. 46 ∷ decimal next) (take n arcs)) count
    ∙ ap (λ (rest : List ℕ). decimal arc ++ flat_map (λ next. 46 ∷ decimal next) rest) (take-length arcs)
    ∙ sym (dotted_arcs arc arcs)

-- a number of 32 bits has at most ten digits
pub short_decimal : (text : List ℕ) (n : ℕ) → text ≡ decimal n → n < 2 ^ 32 → length text ≤ 10
short_decimal text n e h =
    omega (arith, ap (λ (l : List ℕ). length l) e, length-decimal-le 10 n (omega arith) (omega (arith, h)) (omega (arith, h)))
