use Rattle.std.proofs.Common.{◌∙◌, sym, rules, tests}
use Rattle.std.proofs.lemmas.Iterator.{YieldsList-from_slice}
use Rattle.std.proofs.lemmas.Iterator.Search.{any_from_yields_List}
use Rattle.route_text.proofs.TextLemmas.{list_any-map}
use Rattle.z_types.specs.Same.{is_same}
use Rattle.route_text.proofs.others.is_key.Goals as goal

pub returns : goal.returns
returns c =
    any_from_yields_List (λ key. is_same c.args.name.now key.now) _ _ _ c.any.ensures.ran (YieldsList-from_slice c.args.known.now cc) (λ x b q k. search (rules, tests))
    ∙ sym (list_any-map (is_same c.args.name.now) (λ key. key.now) c.args.known.now)
