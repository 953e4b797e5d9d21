use Rattle.std.proofs.Common.{subst, sym, arith}
use Rattle.z_ber.specs.declared.scan.Scan.{Scan}
use Rattle.z_ber.specs.Due.{Stands}
use Rattle.z_ber.proofs.WholeReading.{whole_some, whole_none, stands-opened}
use Rattle.z_ber.proofs.scan.Scan.whole.Goals as goal
use Rattle.z_ber.proofs.scan.Scan.whole.Goals.{then-self-eq0+in-Ok-default-None-default, else-self-eq0}

pub returns-in-Ok-default-Some-default-clause-answer : goal.returns-in-Ok-default-Some-default-clause-answer
returns-in-Ok-default-Some-default-clause-answer c =
    whole_some c.args.bytes.now _ _ _ _ (λ i. omega (arith, c.type_inv.bytes i)) c.in-Ok-default-Some-default.field-0-1-is c.in-Ok-default-Some-default.ensures.read c.definite_frame.result c.definite_frame.ensures.answer

pub returns-in-Err-clause-answer : goal.returns-in-Err-clause-answer
returns-in-Err-clause-answer c =
    whole_none c.args.bytes.now c.in-Err.field-0 (λ i. omega (arith, c.type_inv.bytes i)) c.in-Err.ensures.read c.definite_frame-in-Err.result c.definite_frame-in-Err.ensures.answer

pub close-answer-requires-clause-stands : goal.close-answer-requires-clause-stands
close-answer-requires-clause-stands c =
    elim c.if-self-eq0.branch [
      | then-self-eq0+in-Ok-default-None-default w ↦
          subst (λ (s : Scan). Stands c.args.bytes.now s.passed s.opened) (sym w.self-is) (stands-opened c.args.bytes.now _ _ w.in-Ok-default-None-default.body.now (λ i. omega (arith, c.type_inv.bytes i)) w.in-Ok-default-None-default.field-0-1-is w.in-Ok-default-None-default.ensures.read)
      | else-self-eq0 w ↦
          subst (λ (s : Scan). Stands c.args.bytes.now s.passed s.opened) (sym w.self-is) c.requires
    ]
