use Rattle.std.proofs.Common.{refl}
use Rattle.leg.specs.Terms.{lent_terms}
use Rattle.leg.proofs.Fetched.{refused_fits, refused_right, stopped_caused}
use Rattle.leg.proofs.presents.with_reply.Goals as goal

pub returns-in_default : goal.returns-in_default
returns-in_default g c =
    let diag = c.diag_of.result in
    let heard = rw c.diag_of.ensures.diag at c.requires.heard in
    record {
      goes = rw (c.stopped-answer.ensures, c.diag_of.ensures.diag) (refl, refl);
      session = (heard.0, rw c.stopped-answer.ensures (refused_fits g.W.World g.S.Sitting c.args.task.now c.args.held c.args.items diag heard.1 c.requires.items));
      done = refl;
      stands = λ most account. rw c.stopped-answer.ensures (c.requires.among, refused_right g.W.World g.S.Sitting (lent_terms c.args.terms.now) c.args.task.now c.args.held c.args.items diag heard.1 c.requires.items, stopped_caused c.args.terms.now.pool most account c.args.items diag);
    }
