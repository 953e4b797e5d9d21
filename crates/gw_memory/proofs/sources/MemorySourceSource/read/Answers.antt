use Rattle.std.proofs.Common.{◌≡◌, ◌∙◌, ◌+◌, ◌<◌, ◌++◌, ℕ, List, Some, length, min, take, drop, subst, sym, ap, refl, arith}
use Rattle.std.proofs.lemmas.List.{take-append-drop, drop-drop}
use Rattle.std.proofs.Math.Seq.{take-add}
use Rattle.gw_outside.specs.declared.sources.Got.TheVariants.{Bytes}
use Rattle.gw_outside.specs.Sources.{GotFits}
use Rattle.gw_memory.proofs.sources.MemorySourceSource.read.Goals as goal

-- what is left is what is given now and what is left then
left_more : (bytes : List ℕ) (given count : ℕ) → drop given bytes ≡ take count (drop given bytes) ++ drop (given + count) bytes
left_more bytes given count =
    sym (take-append-drop count (drop given bytes)) ∙ ap (λ rest. take count (drop given bytes) ++ rest) (drop-drop count given bytes)

-- a buffer that was filled from what is left
filled : (bytes into after : List ℕ) (given count : ℕ) → 0 < length (drop given bytes) → 0 < length into
    → count ≡ min (length (drop given bytes)) (length into) → take count after ≡ take count (drop given bytes) → drop count after ≡ drop count into
    → GotFits (Some (drop given bytes)) (Some (drop (given + count) bytes)) into after (Bytes count)
filled bytes into after given count some room counted front behind =
    (omega arith, omega arith, behind, (drop (given + count) bytes, left_more bytes given count ∙ ap (λ piece. piece ++ drop (given + count) bytes) (sym front), refl))

pub returns-clause-fits : goal.returns-clause-fits
returns-clause-fits c =
    let count = c.fill-count.result in
    let into = c.fill-count.new.into in
    let e = c.left-left.ensures.left in
    filled c.args.self.now.bytes c.args.into.now into c.args.self.now.given count
    (subst (λ left. 0 < length left) e (omega arith)) (omega arith)
    (subst (λ left. count ≡ min (length left) (length c.args.into.now)) e c.fill-count.ensures.count)
    (subst (λ left. take count into ≡ take count left) e c.fill-count.ensures.front)
    c.fill-count.ensures.behind

-- what was given is what had been given and what is given now
pub returns-clause-given : goal.returns-clause-given
returns-clause-given c =
    let given = c.args.self.now.given in
    let count = c.fill-count.result in
    let bytes = c.args.self.now.bytes in
    let front = c.fill-count.ensures.front ∙ ap (λ left. take count left) c.left-left.ensures.left in
    ap Some (take-add given count bytes ∙ ap (λ piece. take given bytes ++ piece) (sym front))
