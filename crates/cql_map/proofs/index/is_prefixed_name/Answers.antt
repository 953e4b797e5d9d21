use Rattle.std.proofs.Common.{◌≡◌, ◌-◌, take, drop, length, sym, ◌∙◌, arith, length-drop}
use Rattle.std.proofs.lemmas.List.{take_all}
use Rattle.cql_map.proofs.NameLemmas.{split_true}
use Rattle.cql_map.proofs.index.is_prefixed_name.Goals as goal

pub returns-then-is_same_name : goal.returns-then-is_same_name
returns-then-is_same_name c =
    let full = c.args.full.now in
    let len = length c.args.prefix.now in
    let whole : take (length full - len) (drop len full) ≡ drop len full = take_all (length full - len) (drop len full) (omega (arith, length-drop len full)) in
    (rw whole at c.is_same_name-then-is_same_name.ensures) ∙ split_true full c.args.prefix.now c.args.name.now (omega arith) (sym c.is_same_name.ensures ∙ c.if-is_same_name.true)
