use Rattle.std.proofs.Common.{◌∙◌, ◌-◌, ap, sym, subst, length, Result, Ok, Err, arith}
use Rattle.std.proofs.lemmas.List.{take_rest}
use Rattle.z_ber.specs.declared.fault.BerFault.{BerFault}
use Rattle.z_ber.specs.declared.scan.Progress.{Progress}
use Rattle.z_ber.specs.FrameAnswer.{IsWholeAnswer}
use Rattle.z_ber.specs.Scanning.{IsProgress, stop}
use Rattle.z_ber.specs.Reading.{step_at}
use Rattle.z_ber.proofs.ScanReading.{look_step, look_fault, progress_of, few_open}
use Rattle.z_ber.proofs.scan.look.Goals as goal

pub overflow_sub-scan : goal.overflow_sub-scan
overflow_sub-scan c = few_open c.args.bytes.now c.args.scan.passed c.args.scan.opened c.requires.stands

pub returns-in-Ok-End-default : goal.returns-in-Ok-End-default
returns-in-Ok-End-default c =
    let h = look_step c.args.bytes.now c.args.scan.passed c.args.scan.opened c.in-Ok-End-default.field-0-0 c.in-Ok-End-default.after.now c.requires.stands c.requires.opened (λ i. omega (arith, c.type_inv.bytes i)) (ap (step_at (64 - c.args.scan.opened)) (sym (take_rest c.args.bytes.now c.args.scan.passed)) ∙ c.in-Ok-End-default.ensures.read) in
    subst (λ (r : Result Progress BerFault). IsProgress c.args.scan c.args.bytes.now r) (ap (λ s. progress_of (length c.args.bytes.now) c.args.scan.opened s c.in-Ok-End-default.after.now) c.in-Ok-End-default.field-0-0-is ∙ ap (λ (x : Progress). Ok x) (sym c.end_element.ensures)) h

pub returns-in-Ok-Whole-default : goal.returns-in-Ok-Whole-default
returns-in-Ok-Whole-default c =
    let h = look_step c.args.bytes.now c.args.scan.passed c.args.scan.opened c.in-Ok-Whole-default.field-0-0 c.in-Ok-Whole-default.after.now c.requires.stands c.requires.opened (λ i. omega (arith, c.type_inv.bytes i)) (ap (step_at (64 - c.args.scan.opened)) (sym (take_rest c.args.bytes.now c.args.scan.passed)) ∙ c.in-Ok-Whole-default.ensures.read) in
    subst (λ (r : Result Progress BerFault). IsProgress c.args.scan c.args.bytes.now r) (ap (λ s. progress_of (length c.args.bytes.now) c.args.scan.opened s c.in-Ok-Whole-default.after.now) c.in-Ok-Whole-default.field-0-0-is ∙ sym c.move_on.ensures) h

pub returns-in-Ok-Open-default : goal.returns-in-Ok-Open-default
returns-in-Ok-Open-default c =
    let h = look_step c.args.bytes.now c.args.scan.passed c.args.scan.opened c.in-Ok-Open-default.field-0-0 c.in-Ok-Open-default.after.now c.requires.stands c.requires.opened (λ i. omega (arith, c.type_inv.bytes i)) (ap (step_at (64 - c.args.scan.opened)) (sym (take_rest c.args.bytes.now c.args.scan.passed)) ∙ c.in-Ok-Open-default.ensures.read) in
    subst (λ (r : Result Progress BerFault). IsProgress c.args.scan c.args.bytes.now r) (ap (λ s. progress_of (length c.args.bytes.now) c.args.scan.opened s c.in-Ok-Open-default.after.now) c.in-Ok-Open-default.field-0-0-is ∙ sym c.move_on-in-Ok-Open-default.ensures) h

pub returns-in-Err : goal.returns-in-Err
returns-in-Err c =
    let h = look_fault c.args.bytes.now c.args.scan.passed c.args.scan.opened c.in-Err.fault c.requires.stands c.requires.opened (λ i. omega (arith, c.type_inv.bytes i)) (ap (step_at (64 - c.args.scan.opened)) (sym (take_rest c.args.bytes.now c.args.scan.passed)) ∙ c.in-Err.ensures.read) in
    subst (λ (d : BerFault). IsWholeAnswer c.args.bytes.now (Err d)) (sym (c.stop.ensures ∙ ap (λ o. stop (length c.args.bytes.now) c.args.scan.opened o c.in-Err.fault) (take_rest c.args.bytes.now c.args.scan.passed))) h
