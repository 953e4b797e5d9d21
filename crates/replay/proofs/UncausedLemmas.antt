-- where no cause was counted, every mark is Plain
use Rattle.std.proofs.Common.{◌≡◌, ◌<◌, ◌≤◌, ◌*◌, ℕ, List, [], ◌∷◌, cond, refl, arith}
use Rattle.std.proofs.Math.Nat.{le-mul_of_pos_right}
use Rattle.std.proofs.lemmas.List.Sums.{sum_by-cons}
use Rattle.z_types.specs.declared.marks.Mark.{Mark}
use Rattle.z_types.specs.declared.marks.Mark.TheVariants as mark
use Rattle.front_conn_costs.specs.gateway_rules.OneAnswer.{AreMarksPlain}
use Rattle.route_config.specs.Sound.{ArePoolNumbers}
use Rattle.route_config.specs.declared.route.PoolNumbers.{PoolNumbers}
use Rattle.front_conn_costs.specs.steps.Conns.{marks_of, outside_meets}
use Rattle.front_conn_costs.specs.steps.Growth.{RisesEnough, last64}
use Rattle.front_conn_costs.specs.steps.Numbers.{Caused, full, gone, is_of, link, silent, weight}
use Rattle.replay.specs.Counts.{met_for}
use Rattle.replay.specs.Uncaused.{AreAllPlain, UncausedIsPlain}
use Rattle.replay.specs.declared.reports.ClientReport.{ClientReport}

pub none-met : (n before behind : ℕ) → before < last64 → behind ≡ before → RisesEnough 0 n before behind → n ≡ 0
none-met n before behind below still h = let met = h before (omega arith) in omega (arith, met, below, still)

pub heavy : (pool : PoolNumbers) (kind : Caused) → ArePoolNumbers pool → 0 < weight pool kind
heavy pool link numbers = omega arith
heavy pool silent numbers = let most = numbers.patience.0 in omega (arith, most)
heavy pool gone numbers = omega arith
heavy pool full numbers = omega arith

-- no mark of a kind is among marks
abbrev AreNot : List Mark → Type 0
AreNot marks = (kind : Caused) → marks_of kind marks ≡ 0

abbrev pub one_of : Caused → Mark → ℕ
one_of kind m = cond (is_of kind m) 1 0

first-plain : (m : Mark) → ((kind : Caused) → one_of kind m ≡ 0) → m ≡ mark.Plain
first-plain mark.Plain none = refl
first-plain mark.Link none = let one = none link in absurd cc
first-plain (mark.Silent looks) none = let one = none silent in absurd cc
first-plain mark.Gone none = let one = none gone in absurd cc
first-plain (mark.Full sessions) none = let one = none full in absurd cc

marks-plain : (marks : List Mark) → AreNot marks → AreMarksPlain marks
marks-plain [] none = tt
marks-plain (m ∷ marks) none = (
  first-plain m (λ kind. let all = sum_by-cons (one_of kind) m marks in let own = none kind in omega (arith, all, own)),
  marks-plain marks (λ kind. let all = sum_by-cons (one_of kind) m marks in let own = none kind in omega (arith, all, own)),
)

pub no-marks : (w n : ℕ) → 0 < w → w * n ≡ 0 → n ≡ 0
no-marks w n heavy none = let least : n ≤ n * w = le-mul_of_pos_right n heavy in grind (arith, least, none)

pub clients-plain : (pool : PoolNumbers) (clients : List ClientReport) → ArePoolNumbers pool → ((kind : Caused) → met_for pool kind clients ≡ 0)
    → AreAllPlain clients
clients-plain pool [] numbers none = tt
clients-plain pool (client ∷ clients) numbers none = (
  marks-plain client.marks (λ kind.
      let all = sum_by-cons (λ (c : ClientReport). weight pool kind * marks_of kind c.marks) client clients in let own = none kind in
      no-marks (weight pool kind) (marks_of kind client.marks) (heavy pool kind numbers) (omega (arith, all, own))),
  clients-plain pool clients numbers (λ kind.
      let all = sum_by-cons (λ (c : ClientReport). weight pool kind * marks_of kind c.marks) client clients in let own = none kind in
      omega (arith, all, own)),
)

pub uncaused : {S : Type 0} → UncausedIsPlain S
uncaused pool report before behind numbers causes calm =
    clients-plain pool report.clients numbers (λ kind.
    none-met (met_for pool kind report.clients) (outside_meets kind before) (outside_meets kind behind) (calm.below kind) (calm.still kind) (causes kind))
