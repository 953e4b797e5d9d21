-- On how many levels fields stand.
use Rattle.std.proofs.Common.{ℕ, ◌-◌, ◌≤◌, List, [], ◌∷◌, Option, None, Some, arith}
use Rattle.std.proofs.Math.Nat.{max-le}
use Rattle.z_ber.specs.declared.tag.Tag.{Tag}
use Rattle.z_ber.specs.Element.{Forest, leaf, branch}
use Rattle.z_laws.proofs.Forests.{IsLow, low-none, low-joined}
use Rattle.z_laws.proofs.Lookup.{maybe_leaf, maybe_branch}
use Rattle.z_laws.proofs.Parts.{leaves, branches}

pub low-leaf : {n : ℕ} {tag : Tag} {contents : List ℕ} {others : Forest} → 1 ≤ n → IsLow n others → IsLow n (leaf tag contents others)
low-leaf {n} {tag} {contents} {others} some p = record { within = max-le some p.within }

pub low-branch : {n : ℕ} {tag : Tag} {contents : List ℕ} {inner others : Forest} → 1 ≤ n → IsLow (n - 1) inner → IsLow n others → IsLow n (branch tag contents inner others)
low-branch {n} {tag} {contents} {inner} {others} some p q =
    let below = p.within in record { within = max-le (omega arith) q.within }

pub low-maybe_leaf : {A : Type 0} {n : ℕ} (tag : Tag) (contents : A → List ℕ) (o : Option A) → 1 ≤ n → IsLow n (maybe_leaf tag contents o)
low-maybe_leaf tag contents None some = low-none
low-maybe_leaf tag contents (Some x) some = low-leaf some low-none

pub low-maybe_branch : {A : Type 0} {n : ℕ} (tag : Tag) (contents : A → List ℕ) (inner : A → Forest) (o : Option A) → 1 ≤ n → ((x : A) → IsLow (n - 1) (inner x)) → IsLow n (maybe_branch tag contents inner o)
low-maybe_branch tag contents inner None some p = low-none
low-maybe_branch tag contents inner (Some x) some p = low-branch some (p x) low-none

pub low-leaves : {A : Type 0} {n : ℕ} (tag : Tag) (contents : A → List ℕ) (xs : List A) → 1 ≤ n → IsLow n (leaves tag contents xs)
low-leaves tag contents [] some = low-none
low-leaves tag contents (x ∷ xs) some = low-leaf some (low-leaves tag contents xs some)

pub low-branches : {A : Type 0} {n : ℕ} (tag : Tag) (contents : A → List ℕ) (inner : A → Forest) (xs : List A) → 1 ≤ n → ((x : A) → IsLow (n - 1) (inner x)) → IsLow n (branches tag contents inner xs)
low-branches tag contents inner [] some p = low-none
low-branches tag contents inner (x ∷ xs) some p =
    low-branch some (p x) (low-branches tag contents inner xs some p)

-- what is low by its parts
pub ruleset low = (low-joined, low-leaf, low-none, low-branch, low-maybe_leaf, low-maybe_branch, low-leaves, low-branches)
