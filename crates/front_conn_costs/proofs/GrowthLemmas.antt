-- Counts that go on
use Rattle.std.proofs.Common.{◌≡◌, ◌∙◌, ℕ, ◌+◌, ◌-◌, ◌<◌, ◌≤◌, Bool, true, false, List, length, get_or, set, ap, arith}
use Rattle.std.specs.List.{sum_by}
use Rattle.std.proofs.lemmas.List.Sums.{get_or-le-sum_by, sum_by-set}
use Rattle.z_types.specs.Bounds.{within64}
use Rattle.z_types.specs.Counts.{one_more}
use Rattle.front_conn.specs.leg.Accounts.{more}
use Rattle.front_conn_costs.specs.steps.Growth.{RisesAsMuch, RisesEnough}

-- ---- just as much

-- one more, where it counts
pub as-one : (b : Bool) (m n c d : ℕ) → n ≡ more b m → d ≡ one_more b c → RisesAsMuch m n c d
as-one true m n c d e f others h = omega (arith, e, f, h)
as-one false m n c d e f others h = omega (arith, e, f, h)

pub as-nothing : (m c : ℕ) → RisesAsMuch m m c c
as-nothing m c others h = h

-- of the first of some, and then of the others
pub as-both : (m n r s c d e : ℕ) → RisesAsMuch m n c d → RisesAsMuch r s d e → RisesAsMuch (m + r) (n + s) c e
as-both m n r s c d e one other others h =
    let first : within64 (others + r + n) ≡ d = one (others + r) (ap within64 (omega arith) ∙ h) in
    ap within64 (omega arith) ∙ other (others + n) (ap within64 (omega arith) ∙ first)

-- one that has counted as much as another, up to the last value
pub as-same : (m n l c d : ℕ) → ((others : ℕ) → within64 (others + l) ≡ within64 (others + n)) → RisesAsMuch m n c d → RisesAsMuch m l c d
as-same m n l c d same one others h = same others ∙ one others h

-- ---- as much at least

pub enough-one : (b : Bool) (m n c d : ℕ) → n ≤ more b m → within64 (one_more b c) ≤ d → RisesEnough m n c d
enough-one true m n c d less more others h = omega (arith, less, more, h)
enough-one false m n c d less more others h = omega (arith, less, more, h)

pub enough-nothing : (m c : ℕ) → RisesEnough m m c c
enough-nothing m c others h = h

pub enough-both : (m n r s c d e : ℕ) → RisesEnough m n c d → RisesEnough r s d e → RisesEnough (m + r) (n + s) c e
enough-both m n r s c d e one other others h =
    let first = one (others + r) (omega (arith, h)) in
    let then = other (others + n) (omega (arith, first)) in
    omega (arith, then)

-- one that owes less then
pub enough-less : (m n l c d : ℕ) → l ≤ n → RisesEnough m n c d → RisesEnough m l c d
enough-less m n l c d less one others h =
    let first = one others h in omega (arith, less, first)

-- ---- at a place of a list

-- the sum over a list rises as the number at a place does
pub as-place : {X : Type 0} (f : X → ℕ) (xs : List X) (place : ℕ) (y d : X) (c e : ℕ) → place < length xs
    → RisesAsMuch (f (get_or xs place d)) (f y) c e → RisesAsMuch (sum_by f xs) (sum_by f (set xs place y)) c e
as-place f xs place y d c e inside one others h =
    let part = get_or-le-sum_by f xs place d inside in
    let sums = sum_by-set f xs place y d inside in
    let rest : ℕ = sum_by f xs - f (get_or xs place d) in
    let first : within64 (others + rest + f y) ≡ e = one (others + rest) (ap within64 (omega (arith, part)) ∙ h) in
    ap within64 (omega (arith, part, sums)) ∙ first

pub enough-place : {X : Type 0} (f : X → ℕ) (xs : List X) (place : ℕ) (y d : X) (c e : ℕ) → place < length xs
    → RisesEnough (f (get_or xs place d)) (f y) c e → RisesEnough (sum_by f xs) (sum_by f (set xs place y)) c e
enough-place f xs place y d c e inside one others h =
    let part = get_or-le-sum_by f xs place d inside in
    let sums = sum_by-set f xs place y d inside in
    let rest : ℕ = sum_by f xs - f (get_or xs place d) in
    let first : within64 (others + rest + f y) ≤ e = one (others + rest) (omega (arith, part, h)) in
    omega (arith, part, sums, first)
