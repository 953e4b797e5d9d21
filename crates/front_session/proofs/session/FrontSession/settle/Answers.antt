use Rattle.std.proofs.Common.{◌≡◌, ◌∙◌, ap, refl, None, Some, option_map}
use Rattle.front_session.specs.Sessions.{SessionState}
use Rattle.front_session.specs.SessionView.{state_of}
use Rattle.front_session.specs.WaitingOf.{waiting_of}
use Rattle.front_session.proofs.SettleLemmas.{settled_by}
use Rattle.front_session.proofs.session.FrontSession.settle.Goals as goal

pub returns : goal.returns
returns c =
    let there : c.self.inside.pending ≡ Some c.in-Some.pending = cc in
    let seen : c.args.self.now ≡ state_of c.self.inside = cc in
    let waits : c.args.self.now.waiting ≡ Some (waiting_of c.in-Some.pending) =
    ap (λ (s : SessionState). s.waiting) seen ∙ ap (option_map waiting_of) there in
    let empty : c.take.new.self ≡ None = cc in
    settled_by c.args.self.now _ c.settle_for.new.self c.in-Some.pending c.args.outcome c.settle_for.result (rw (seen, empty) refl) waits c.requires c.settle_for.ensures
