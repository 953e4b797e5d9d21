use Rattle.std.proofs.Common.{◌≡◌, ◌<◌, ◌∙◌, [], ◌∷◌, ap, arith, length, subst, sym, take}
use Rattle.std.proofs.Math.Seq.{take-length}
use Rattle.std.proofs.lemmas.List.Elements.{All-from_recursion}
use Rattle.std.specs.List.{AllByRecursion}
use Rattle.route_config.specs.declared.route.Class.{Class}
use Rattle.gateway_rules.proofs.Runs.{all-append}
use Rattle.package_rules.proofs.Taken.{take_next}
use Rattle.package_rules.proofs.members.have_members.Goals as goal

-- a class has a member
abbrev HasMember : Class → Type 0
HasMember class = 0 < length class.addresses

pub loop-class-preserved : goal.loop-class-preserved
loop-class-preserved c =
    let classes = c.as_slice-class-items.result.now in
    let class = c.class-item.result in
    subst (AllByRecursion HasMember)
    (sym (take_next classes c.loop-class.class-index class class c.loop-class-test.true (sym c.class-item.is)))
    (all-append HasMember (take c.loop-class.class-index classes) (class ∷ []) c.loop-class.invariant (c.as_slice.ensures.members.some, tt))

pub returns : goal.returns
returns c =
    let classes = c.as_slice-class-items.result.now in
    let all : take c.loop-class.class-index classes ≡ classes =
    ap (λ n. take n classes) (omega (arith, c.loop-class-test.false, c.loop-class.auto.class-index-end)) ∙ take-length classes in
    let same = c.as_slice-class-items.ensures ∙ ap (λ parts. parts.classes) c.parts.ensures.same in
    All-from_recursion HasMember c.args.route.now.classes
    (subst (AllByRecursion HasMember) (all ∙ same) c.loop-class.invariant)
