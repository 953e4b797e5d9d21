-- what is said of all clients of a report is said of each
use Rattle.std.proofs.Common.{◌≡◌, ◌<◌, ℕ, zero, suc, List, [], ◌∷◌, length, subst, sym, arith}
use Rattle.std.specs.List.{AllByRecursion}
use Rattle.std.specs.Prelude.{slice_index_or}
use Rattle.z_types.specs.declared.world.World as world
use Rattle.front_conn_costs.specs.sru_rules.Answers.{Answers}
use Rattle.front_conn_costs.specs.sru_rules.Laws.{HasOneAnswer}
use Rattle.script.specs.Events.{fed}
use Rattle.replay.specs.Report.{IsAnswered}
use Rattle.replay.specs.Twice.{IsReadTwice}

all-at : {X : Type 0} (P : X → Type 0) (xs : List X) (x : X) (k : ℕ) → AllByRecursion P xs → k < length xs → slice_index_or xs k x ≡ x → P x
all-at P [] x k all inside is = absurd (omega (arith, inside))
all-at P (y ∷ ys) x zero all inside is = subst P is all.0
all-at P (y ∷ ys) x (suc k) all inside is = all-at P ys x k all.1 (omega (arith, inside)) is

pub twice : {W : Type 0} (w : world.Ghosts W) → HasOneAnswer w → IsReadTwice w
twice w law route events others report other one two fair first second in_one in_two same plain_one plain_two =
    let answered = all-at (IsAnswered w route events) report.clients one in_one.0 (first.each fair) in_one.1 in_one.2 in
    let again = all-at (IsAnswered w route others) other.clients two in_two.0 (second.each fair) in_two.1 in_two.2 in
    let alike = law route (fed events one.number) one.marks two.marks one.bytes two.bytes one.end two.end answered
    (subst (λ bytes. Answers w route bytes two.marks two.bytes two.end) (sym same) again) plain_one plain_two in
    record { marks = alike.0; bytes = alike.1; end = alike.2 }
