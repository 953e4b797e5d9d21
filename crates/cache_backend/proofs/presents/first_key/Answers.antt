use Rattle.std.proofs.Common.{◌≡◌, IfOk, IfSome, IsSome, subst, sym}
use Rattle.cache_backend.proofs.presents.first_key.Goals as goal

pub returns : goal.returns
returns c =
    subst (λ o. IfOk c.record_key.result (λ made. IfSome o (λ set. made ≡ record {
      address = c.args.address.now;
      key = set;
      position = c.args.first;
      syntax = c.args.syntax.now;
      element = c.args.element.now;
    }))) c.in-Some.ensures c.record_key.ensures

pub unreachable-requires : goal.unreachable-requires
unreachable-requires c =
    let none = subst IsSome (sym c.in-None.ensures) c.requires.known in
    cc
