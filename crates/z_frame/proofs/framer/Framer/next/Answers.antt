use Rattle.std.proofs.Common.{List, ℕ, subst}
use Rattle.z_ber.specs.Header.{IsOpenFor}
use Rattle.z_ber.specs.Frames.{IsFrame}
use Rattle.z_frame.specs.Framing.{IsRefusal}
use Rattle.z_frame.proofs.NextSteps.{none_of, open_next, refused_next, refused_taken}
use Rattle.z_frame.proofs.framer.Framer.next.Goals as goal

pub returns-in-Ok-None-clause-next : goal.returns-in-Ok-None-clause-next
returns-in-Ok-None-clause-next c =
    let found = rw c.in-Ok-None.field-0-is at c.in-Ok-None.ensures.found in
    let h : IsOpenFor IsFrame c.advance.new.self.items = subst (λ (o : List ℕ). IsOpenFor IsFrame o) c.as_slice.ensures found in
    open_next _ c.args.self.now c.advance.new.self.items c.self.view_is c.advance.ensures.items (none_of c.self.inside.refused c.in_default.not-Some) h

pub returns-in-Err-clause-next : goal.returns-in-Err-clause-next
returns-in-Err-clause-next c =
    let h : IsRefusal c.advance.new.self.items c.self.inside.end c.in-Err.refusal = subst (λ (o : List ℕ). IsRefusal o c.self.inside.end c.in-Err.refusal) c.as_slice.ensures c.in-Err.ensures.found in
    refused_next _ c.args.self.now c.advance.new.self.items c.in-Err.refusal c.self.view_is c.advance.ensures.items (none_of c.self.inside.refused c.in_default.not-Some) h

pub returns-in-Err-clause-stream : goal.returns-in-Err-clause-stream
returns-in-Err-clause-stream c = λ stream frames good t.
    let h : IsRefusal c.advance.new.self.items c.self.inside.end c.in-Err.refusal = subst (λ (o : List ℕ). IsRefusal o c.self.inside.end c.in-Err.refusal) c.as_slice.ensures c.in-Err.ensures.found in
    refused_taken _ c.args.self.now c.advance.new.self.items c.in-Err.refusal stream frames c.self.view_is c.advance.ensures.items h t
