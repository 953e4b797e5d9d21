use Rattle.front_conn.proofs.TurnedLemmas.{has-turned, turn-keeps, turn-of-route}
use Rattle.front_conn.proofs.conn.Conn.turn.Goals as goal

pub returns-clause-of : goal.returns-clause-of
returns-clause-of g c =
    turn-of-route g.W.World g.S.Sitting g.B.Watched.exact c.args.route.now c.args.now c.self.inside.framer _ _ _ _ _ c.args.self.now c.turn.result _ _
    c.self.view_is c.requires.goes_on c.turn.ensures.turns c.requires.works c.requires.sets

pub returns-clause-turns : goal.returns-clause-turns
returns-clause-turns g c =
    has-turned g.W.World g.S.Sitting g.B.Watched.exact c.args.route.now c.args.now c.self.inside.framer _ _ _ _ _ c.args.self.now c.turn.result _ _
    c.self.view_is c.requires.goes_on c.turn.ensures.turns

pub returns-clause-keeps : goal.returns-clause-keeps
returns-clause-keeps g c =
    turn-keeps g.W.World g.S.Sitting g.B.Watched.exact c.args.route.now c.args.now c.self.inside.framer _ _ _ _ _ c.args.self.now c.turn.result _ _
    c.self.view_is c.requires.goes_on c.turn.ensures.turns c.requires.works (record {
      sound = c.parts.ensures.sound;
      members = c.have_members.ensures;
      is_true = c.package_outcome_is_true.ensures;
      is_allowed = c.package_cause_is_allowed.ensures;
      goes_on = c.gets_go_on.ensures.goes_on;
      meant = c.works_answer.ensures.hits;
    })
