use Rattle.std.proofs.Common.{◌≡◌, ◌+◌}
use Rattle.front_session.specs.SessionView.{state_of}
use Rattle.front_session.proofs.SettleLemmas.{end_kept}
use Rattle.front_session.proofs.session.FrontSession.end.Goals as goal

pub invariant_of-self : goal.invariant_of-self
invariant_of-self c =
    let same : c.args.self.now ≡ state_of c.self.inside = cc in
    let none = rw same at c.requires.none in
    let spent = rw same at c.requires.searches in
    let fits = rw same at c.requires.records in
    let few = rw same at c.requires.sets in
    let each = rw same at c.requires.each in
    let after = rw same at c.requires.after in
    end_kept (state_of c.self.inside) c.args.pending c.args.is_good c.args.hits (c.self.inside.records + c.args.given) c.searches_behind-self-inside.result c.end_sets.new.sets c.end_sets.result
    none spent c.self.invariant.units c.self.invariant.login fits few each after c.searches_behind-self-inside.ensures c.end_sets.ensures.ok c.end_sets.ensures.err
