-- Sums of what legs counted, one more.
use Rattle.std.proofs.Common.{◌≡◌, ◌∙◌, ◌<◌, ◌+◌, ℕ, zero, suc, List, [], ◌∷◌, ◌++◌, add-one, ap, arith, get_or, length, map, refl, sym, take}
use Rattle.std.proofs.lemmas.List.{map-append}
use Rattle.std.specs.List.{range_with_len}
use Rattle.package.specs.leg.declared.accounts.Account.{Account}
use Rattle.package.proofs.package_rules.Taken.{take_next}
use Rattle.front_conn.specs.declared.totals.Total.{Total}
use Rattle.front_conn.specs.steps.Totals.{no_total, totals_after, totals_with}

after-snoc : (totals : List Total) (accounts : List Account) (account : Account)
    → totals_after totals (accounts ++ account ∷ []) ≡ totals_with (totals_after totals accounts) account
after-snoc totals [] account = refl
after-snoc totals (first ∷ accounts) account = after-snoc (totals_with totals first) accounts account

-- the account of one leg more
after-more : (totals : List Total) (accounts : List Account) (i : ℕ) (d account : Account) → i < length accounts
    → get_or accounts i d ≡ account
    → totals_after totals (take (i + 1) accounts) ≡ totals_with (totals_after totals (take i accounts)) account
after-more totals accounts i d account inside is =
    ap (totals_after totals) (take_next accounts i d account inside is) ∙ after-snoc totals (take i accounts) account

pub after-next : (totals sums : List Total) (accounts : List Account) (i : ℕ) (d : Account) → sums ≡ totals_after totals (take i accounts)
    → i < length accounts → totals_with sums (get_or accounts i d) ≡ totals_after totals (take (i + 1) accounts)
after-next totals sums accounts i d so_far inside =
    ap (λ t. totals_with t (get_or accounts i d)) so_far ∙ sym (after-more totals accounts i d (get_or accounts i d) inside refl)

-- ---- a sum for each class

range-more : (from count : ℕ) → range_with_len from (suc count) ≡ range_with_len from count ++ (from + count) ∷ []
range-more from zero = ap (λ (n : ℕ). n ∷ []) (omega arith)
range-more from (suc count) =
    ap (λ (ns : List ℕ). from ∷ ns) (range-more (from + 1) count
    ∙ ap (λ (n : ℕ). range_with_len (from + 1) count ++ n ∷ []) (omega arith))

-- one class more
pub totals-more : (totals : List Total) (class : ℕ) (total : Total) → totals ≡ map no_total (range_with_len 0 class) → total ≡ no_total class
    → totals ++ total ∷ [] ≡ map no_total (range_with_len 0 (class + 1))
totals-more totals class total so_far is =
    ap (λ t. t ++ total ∷ []) so_far ∙ ap (λ t. map no_total (range_with_len 0 class) ++ t ∷ []) is
    ∙ sym (map-append no_total (range_with_len 0 class) (class ∷ []))
    ∙ ap (map no_total) (sym (ap (range_with_len 0) (add-one class) ∙ range-more 0 class ∙ ap (λ n. range_with_len 0 class ++ n ∷ []) (omega arith)))
