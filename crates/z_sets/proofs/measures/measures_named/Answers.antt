use Rattle.std.proofs.Common.{rules}
use Rattle.z_sets.proofs.MeasureLemmas.{size_named, no_size_named}
use Rattle.z_sets.proofs.measures.measures_named.Goals as goal

pub returns-in_err-place : goal.returns-in_err-place
returns-in_err-place c = let e = no_size_named c.args.name.now c.args.sets.now (search rules) in search (rules, e)

pub returns : goal.returns
returns c = let e = size_named c.args.name.now c.args.sets.now c.in_ok-place.place (search rules) in cc
