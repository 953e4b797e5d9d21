-- The rank of a position, where some legs are left that all have the next ranks.
use Rattle.std.proofs.Common.{◌≡◌, ◌≤◌, ◌<◌, ◌+◌, ◌-◌, ◌*◌, ◌/◌, ◌%◌, ℕ, List, length, drop, get_or, arith}
use Rattle.std.proofs.Common.{length-drop}
use Rattle.std.proofs.Math.Nat.{div-lt_iff_lt-mul, div-mul-le_self, lt-div-mul-add, mod-eq-sub-div-mul}
use Rattle.multi_merge.specs.Ranks.{up_to, IsOfRank}
use Rattle.multi_merge.proofs.UpTo.{AreLow, AreHigh, more_ranks}

-- how far the ranks have been counted: the legs before this one have no record above the rank, the others have one, and
-- `left` records stand between those counted and the position
pub record IsCounted (hits : List ℕ) (position i gone left : ℕ) : Type 0 where
  pub low : AreLow i gone hits
  pub high : AreHigh i (get_or hits i 0) hits
  pub next : gone ≤ get_or hits i 0
  pub come : up_to gone hits + left + 1 ≡ position

-- the records of the next ranks, up to the last that the next leg has
passed : (hits : List ℕ) (position i gone left legs more : ℕ) → IsCounted hits position i gone left
    → legs ≡ length (drop i hits) → gone + more ≤ get_or hits i 0
    → up_to (gone + more) hits ≡ up_to gone hits + more * legs
passed hits position i gone left legs more c these within =
    rw these (more_ranks i gone more hits c.low
    (λ k g h. let f : get_or hits i 0 ≤ get_or hits k 0 = c.high k g h in omega arith))

-- a position behind these ranks is counted on from the last of them
pub goes_on : (hits : List ℕ) (position i gone left legs ranks : ℕ) → IsCounted hits position i gone left
    → legs ≡ length (drop i hits) → ranks ≡ get_or hits i 0 - gone → ranks * legs ≤ left
    → up_to (get_or hits i 0) hits + (left - ranks * legs) + 1 ≡ position
goes_on hits position i gone left legs ranks c these those behind =
    let next : gone + ranks ≡ get_or hits i 0 = omega (arith, c.next, those) in
    let after : up_to (gone + ranks) hits ≡ up_to gone hits + ranks * legs =
    passed hits position i gone left legs ranks c these (omega (arith, next)) in
    rw (← next) (omega (arith, after, c.come, behind))

-- a position is of this rank, behind as many of it
pub record IsFound (hits : List ℕ) (position number behind : ℕ) : Type 0 where
  pub rank : IsOfRank hits position number
  pub before : up_to (number - 1) hits + behind + 1 ≡ position

-- a position that lies in these ranks is of the rank that a division gives
pub found : (hits : List ℕ) (position i gone left legs ranks : ℕ) → IsCounted hits position i gone left
    → i < length hits → legs ≡ length (drop i hits) → ranks ≡ get_or hits i 0 - gone → left < ranks * legs
    → IsFound hits position (gone + left / legs + 1) (left % legs)
found hits position i gone left legs ranks c inside these those here =
    let q : ℕ = left / legs in
    let some : 0 < legs = omega (arith, these, length-drop i hits) in
    let few : q < ranks = (div-lt_iff_lt-mul {k = legs} {x = left} {y = ranks} some).1 here in
    let low : q * legs ≤ left = div-mul-le_self left legs in
    let high : left < q * legs + legs = lt-div-mul-add {a = left} {b = legs} some in
    let rest : left % legs ≡ left - q * legs = mod-eq-sub-div-mul left legs in
    let before : up_to (gone + q) hits ≡ up_to gone hits + q * legs =
    passed hits position i gone left legs q c these (omega (arith, those, few)) in
    let after : up_to (gone + (q + 1)) hits ≡ up_to gone hits + (q + 1) * legs =
    passed hits position i gone left legs (q + 1) c these (omega (arith, those, few)) in
    let one : (q + 1) * legs ≡ q * legs + legs = grind arith in
    let come : up_to gone hits + left + 1 ≡ position = c.come in
    let number : gone + q + 1 - 1 ≡ gone + q = omega arith in
    let same : gone + q + 1 ≡ gone + (q + 1) = omega arith in
    record {
      rank = record {
        counted = omega arith;
        after = rw number (omega (arith, before, low, come));
        within = rw same (omega (arith, after, one, high, come));
      };
      before = rw number (omega (arith, before, rest, low, come));
    }
