use Rattle.std.proofs.Common.{◌∙◌, sym, arith, count_by, filter, map, refl, ◌&&◌}
use Rattle.std.specs.Prelude.{option_copied}
use Rattle.std.proofs.lemmas.List.{length-set}
use Rattle.pool_sets.specs.Sessions.{is_of_member}
use Rattle.pool_core.specs.Loads.{is_counted}
use Rattle.pool_core.proofs.Loads.{loads_more, count_of_filter}
use Rattle.pool_roster.proofs.Counting.{count_same}
use Rattle.pool_roster.proofs.berths.member_for.Goals as goal

pub loop-member-preserved : goal.loop-member-preserved
loop-member-preserved g c =
    let class = c.args.class in
    let at = c.args.at.now in
    let m = c.loop-member.member in
    let but = option_copied c.args.but in
    let os = map (λ b. b.session) c.args.berths.now in
    record {
      long = length-set c.loop-member.loads m c.load.result ∙ c.loop-member.invariant.long;
      sofar = loads_more (λ n. count_by (is_of_member class at n) (filter (is_counted but) os)) c.loop-member.loads m c.load.result
          (omega arith)
          (c.load.ensures
          ∙ sym (count_same (λ o. is_counted but o && is_of_member class at m o) (λ b. is_counted but b.session && is_of_member class at m b.session) (λ b. b.session) (λ b. refl) c.args.berths.now)
          ∙ sym (count_of_filter (is_of_member class at m) (is_counted but) os))
          c.loop-member.invariant.sofar;
    }
