-- For proofs alone: what was fetched, and what came of a work, are tested and copied exactly
-- (this project's own)
use Rattle.std.specs.Prelude.{refl}
use Rattle.std.proofs.Common.{ap}
use Rattle.z_types.specs.Exact.{EqIsExact, CloneIsExact}
use Rattle.z_types.specs.equality.Parts.{Exactness, ◌⊠◌, shown, number, text, list}
use Rattle.z_types.specs.equality.Diagnostic.{diagnostic}
use Rattle.z_types.specs.equality.Marks.{mark}
use Rattle.z_types.specs.equality.Records.{named_record}
use Rattle.z_types.specs.equality.Scan.{scan_answer}
use Rattle.z_types.specs.declared.outcome.Fetched.{Fetched}
use Rattle.z_types.specs.declared.outcome.Fetched.TheVariants as fetched_as
use Rattle.z_types.specs.declared.outcome.Outcome.TheVariants as came
use Rattle.z_types.specs.contracts.outcome.FetchedPartialEq.TheImpl as fetched_test
use Rattle.z_types.specs.contracts.outcome.FetchedClone.TheImpl as fetched_copy
use Rattle.z_types.specs.contracts.outcome.OutcomePartialEq.TheImpl as outcome_test
use Rattle.z_types.specs.contracts.outcome.OutcomeClone.TheImpl as outcome_copy

pub fetched_exact : EqIsExact (fetched_test.ghosts).eq
fetched_exact fetched_as.None fetched_as.None h = refl
fetched_exact (fetched_as.Records a) (fetched_as.Records b) h =
    ap fetched_as.Records ((list named_record).eq_is_exact a b h)
fetched_exact (fetched_as.Whole a) (fetched_as.Whole b) h =
    ap fetched_as.Whole (diagnostic.eq_is_exact a b h)
fetched_exact a b h = cc

pub fetched_cloned : CloneIsExact (fetched_copy.ghosts).is_clone
fetched_cloned fetched_as.None fetched_as.None h = refl
fetched_cloned (fetched_as.Records a) (fetched_as.Records b) h =
    ap fetched_as.Records ((list named_record).clone_is_exact a b h)
fetched_cloned (fetched_as.Whole a) (fetched_as.Whole b) h =
    ap fetched_as.Whole (diagnostic.clone_is_exact a b h)
fetched_cloned a b h = absurd h

abbrev pub fetched : Exactness Fetched
fetched = shown fetched_exact fetched_cloned

pub outcome_exact : EqIsExact (outcome_test.ghosts).eq
outcome_exact (came.Found a b) (came.Found a' b') h =
    ap (λ (hits, fetched). came.Found hits fetched)
    ((list number ⊠ fetched).eq_is_exact (a, b) (a', b') h)
outcome_exact (came.Fetched a) (came.Fetched b) h = ap came.Fetched (fetched.eq_is_exact a b h)
outcome_exact (came.Scanned a) (came.Scanned b) h = ap came.Scanned (scan_answer.eq_is_exact a b h)
outcome_exact (came.Refused a) (came.Refused b) h = ap came.Refused (diagnostic.eq_is_exact a b h)
outcome_exact (came.Marked a b) (came.Marked a' b') h =
    ap (λ (mark, class). came.Marked mark class) ((mark ⊠ text).eq_is_exact (a, b) (a', b') h)
outcome_exact a b h = cc

pub outcome_cloned : CloneIsExact (outcome_copy.ghosts).is_clone
outcome_cloned (came.Found a b) (came.Found a' b') h =
    ap (λ (hits, fetched). came.Found hits fetched)
    ((list number ⊠ fetched).clone_is_exact (a, b) (a', b') h)
outcome_cloned (came.Fetched a) (came.Fetched b) h = ap came.Fetched (fetched.clone_is_exact a b h)
outcome_cloned (came.Scanned a) (came.Scanned b) h =
    ap came.Scanned (scan_answer.clone_is_exact a b h)
outcome_cloned (came.Refused a) (came.Refused b) h =
    ap came.Refused (diagnostic.clone_is_exact a b h)
outcome_cloned (came.Marked a b) (came.Marked a' b') h =
    ap (λ (mark, class). came.Marked mark class) ((mark ⊠ text).clone_is_exact (a, b) (a', b') h)
outcome_cloned a b h = absurd h
