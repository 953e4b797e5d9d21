use Rattle.std.proofs.Common.{◌∙◌, sym, ap, subst}
use Rattle.z_client.specs.declared.backend.ZBackend.{ZBackend}
use Rattle.z_client.specs.declared.own.Own.{Own}
use Rattle.z_client.specs.declared.session.LinkParts.{LinkParts}
use Rattle.z_client.specs.Heard.{IsBreach}
use Rattle.z_client.specs.Sets.{pending_of}
use Rattle.z_client.proofs.backend.ZBackendBackend.look.Goals as goal
use Rattle.z_client.proofs.backend.ZBackendBackend.look.Goals.{in-Heard, in-Gone, in-Breach}

pub returns-clause-breach : goal.returns-clause-breach
returns-clause-breach g c = λ rose.
    elim c.match-listen.branch [
      | in-Heard w ↦ absurd (rose (ap (λ (b : ZBackend g.row.N.Denot). b.own.breaches) w.self-is))
      | in-Gone w ↦ absurd (rose (ap (λ (b : ZBackend g.row.N.Denot). b.own.breaches) w.self-is ∙ ap (λ (o : Own). o.breaches) w.count_gone.ensures))
      | in-Breach w ↦
          subst (λ octets. IsBreach (pending_of c.args.session.now.waiting) octets) (sym (ap (λ (b : ZBackend g.row.N.Denot). b.last) w.self-is))
          (subst (λ (s : LinkParts g.row.N-Link.Denot). IsBreach (pending_of s.waiting) w.in-Breach.octets) c.session.view_is w.in-Breach.ensures.found.breach)
    ]
