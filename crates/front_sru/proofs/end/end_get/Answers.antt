use Rattle.std.proofs.Common.{◌≡◌, Some, refl, subst}
use Rattle.sru_rules.specs.Settling.{fetches}
use Rattle.front_sru.specs.Followed.{IsReady, next_in}
use Rattle.front_sru.specs.Gets.{next_behind}
use Rattle.front_sru.specs.declared.end.Followed.TheVariants.{Fetches}
use Rattle.front_sru.proofs.Ending.{awaits_fetch}
use Rattle.front_sru.proofs.end.end_get.Goals as goal

pub returns-in-Ok-Fetches-clause-awaited : goal.returns-in-Ok-Fetches-clause-awaited
returns-in-Ok-Fetches-clause-awaited c =
    let hits = c.in-Ok-Fetches.hits in
    let work = c.in-Ok-Fetches.work in
    let stage = c.stage.ensures.stage in
    let behind = c.in-Ok-Fetches.ensures.next in
    let form : next_in (Fetches hits work) ≡ fetches hits work = refl in
    let next : next_behind c.args.route.now c.args.state.now c.args.outcome ≡ Some (fetches hits work) = cc in
    awaits_fetch c.args.route.now c.args.outcome c.args.state.now c.fetch.new.self hits work next c.fetch.ensures
    (subst IsReady c.in-Ok-Fetches.field-0-is c.in-Ok-Fetches.ensures.ready)
