use Rattle.std.proofs.Common.{rules, ◌∙◌, ap, refl}
use Rattle.gateway_rules.specs.Given.{returned}
use Rattle.front_session.proofs.SettleLemmas.{answered}
use Rattle.front_session.proofs.settle.answer_to.Goals as goal

pub returns : goal.returns
returns c =
    let of = c.in_ok-parts.ensures in
    let is = c.in_ok-cut.ensures in
    record {
      reply = c.in_ok-reply.ensures.reply ∙ answered c.args.sizes c.args.pending.now c.args.outcome c.in_ok-parts.parts c.in_ok-cut.cut of is;
      is_good = search rules;
      hits = c.in_ok-reply.ensures.hits ∙ is.hits ∙ of.hits;
      given = c.count_returned-given.ensures ∙ ap returned (is.fetched ∙ rw (of.hits, of.fetched) refl);
    }
