use Rattle.z_read.proofs.UnitLemmas.{not_read, only_read, none_read}
use Rattle.z_read.proofs.units.read_unit.Goals as goal

pub returns-in-Ok-clause-only : goal.returns-in-Ok-clause-only
returns-in-Ok-clause-only c = only_read _ _ c.one_answer.ensures.request c.in-Ok.ensures.read

pub returns-in-Err-Ber-clause-read : goal.returns-in-Err-Ber-clause-read
returns-in-Err-Ber-clause-read c = not_read _ _ c.one_answer.ensures.request (λ h. cc) c.in-Err-Ber.ensures.read

pub returns-in-Err-Ber-clause-only : goal.returns-in-Err-Ber-clause-only
returns-in-Err-Ber-clause-only c = none_read _ _ c.one_answer.ensures.request (λ h. cc) c.in-Err-Ber.ensures.read

pub returns-in-Err-UnknownUnit-clause-read : goal.returns-in-Err-UnknownUnit-clause-read
returns-in-Err-UnknownUnit-clause-read c = not_read _ _ c.one_answer.ensures.request (λ h. cc) c.in-Err-UnknownUnit.ensures.read

pub returns-in-Err-UnknownUnit-clause-only : goal.returns-in-Err-UnknownUnit-clause-only
returns-in-Err-UnknownUnit-clause-only c = none_read _ _ c.one_answer.ensures.request (λ h. cc) c.in-Err-UnknownUnit.ensures.read

pub returns-in-Err-Missing-clause-read : goal.returns-in-Err-Missing-clause-read
returns-in-Err-Missing-clause-read c = not_read _ _ c.one_answer.ensures.request (λ h. cc) c.in-Err-Missing.ensures.read

pub returns-in-Err-Missing-clause-only : goal.returns-in-Err-Missing-clause-only
returns-in-Err-Missing-clause-only c = none_read _ _ c.one_answer.ensures.request (λ h. cc) c.in-Err-Missing.ensures.read

pub returns-in-Err-BadValue-clause-read : goal.returns-in-Err-BadValue-clause-read
returns-in-Err-BadValue-clause-read c = not_read _ _ c.one_answer.ensures.request (λ h. cc) c.in-Err-BadValue.ensures.read

pub returns-in-Err-BadValue-clause-only : goal.returns-in-Err-BadValue-clause-only
returns-in-Err-BadValue-clause-only c = none_read _ _ c.one_answer.ensures.request (λ h. cc) c.in-Err-BadValue.ensures.read

pub returns-in-Err-LeftOut-clause-read : goal.returns-in-Err-LeftOut-clause-read
returns-in-Err-LeftOut-clause-read c = not_read _ _ c.one_answer.ensures.request (λ h. cc) c.in-Err-LeftOut.ensures.read

pub returns-in-Err-LeftOut-clause-only : goal.returns-in-Err-LeftOut-clause-only
returns-in-Err-LeftOut-clause-only c = none_read _ _ c.one_answer.ensures.request (λ h. cc) c.in-Err-LeftOut.ensures.read
