use Rattle.std.proofs.Common.{◌≡◌, ◌∙◌, ◌+◌, ◌∷◌, ap, arith, drop, sym}
use Rattle.std.proofs.lemmas.List.{drop_more}
use Rattle.cache_backend.proofs.KnownLemmas.{known_here}
use Rattle.cache_backend.proofs.known.known.Goals as goal

pub returns-then-eq : goal.returns-then-eq
returns-then-eq c =
    let all = c.args.searched.now in
    let i = c.loop-own.own-index in
    let own = c.own-item.result in
    let here : drop i all ≡ own ∷ drop (i + 1) all = drop_more all i own (omega arith) ∙ ap (λ x. x ∷ drop (i + 1) all) (sym c.own-item.is) in
    known_here all c.args.name.now i own here (sym c.eq.ensures.value ∙ c.if-eq.true) c.loop-own.invariant
