-- where the first line of a text ends
use Rattle.std.proofs.Common.{◌≡◌, ◌==◌, ◌+◌, ℕ, Bool, true, false, not, List, [], ◌∷◌, take, drop, length, Some, None, position, refl, ap, ◌∙◌, nat_lt, cond, arith}
use Rattle.std.specs.List.{position_or_len}
use Rattle.std.proofs.lemmas.Option.{cond_some}
use Rattle.std.proofs.lemmas.Bool.{ltb-true, ltb-false, not-true}
use Rattle.std.proofs.lemmas.List.Splits.{slice_split_first, slice_split_none}
use Rattle.std.proofs.lemmas.List.Sums.{prefix_len_passes}
use Rattle.script.specs.Script.{lines}

-- the test of an LF
abbrev is_end : ℕ → Bool
is_end octet = octet == 10

-- the first line ends at the first LF, and the others stand behind it
pub lines-at : (text : List ℕ) (end : ℕ) → position is_end text ≡ Some end → lines text ≡ take end text ∷ lines (drop (end + 1) text)
lines-at text end h =
    let p = cond_some (nat_lt (position_or_len is_end text) (length text)) (position_or_len is_end text) end h in
    slice_split_first is_end text 0 (ltb-true (position_or_len is_end text) (length text) p.0) ∙ ap (λ n. take n text ∷ lines (drop (n + 1) text)) p.1

not_some : {A : Type 0} (b : Bool) (x : A) → cond b (Some x) None ≡ None → b ≡ false
not_some true x h = cc
not_some false x h = refl

-- a text without LF is one line
pub lines_whole : (text : List ℕ) → position is_end text ≡ None → lines text ≡ text ∷ []
lines_whole text h =
    let none = not_some (nat_lt (position_or_len is_end text) (length text)) (position_or_len is_end text) h in
    let all = ltb-false (position_or_len is_end text) (length text) none in
    slice_split_none is_end text (λ k d within. not-true (is_end _) (prefix_len_passes (λ octet. not (is_end octet)) text k d (omega arith)))
