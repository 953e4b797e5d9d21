-- The elements of a login, on as many levels as a unit has.
use Rattle.std.proofs.Common.{ℕ, zero, suc, ◌≤◌, Bool, false, List, ap, arith}
use Rattle.z_types.specs.Bounds.{most_levels}
use Rattle.z_ber.specs.Element.{Forest, none, leaf, branch, AreElements}
use Rattle.z_fields.specs.Trees.{AreWhole}
use Rattle.z_fields.proofs.TreeLemmas.{elements_in-are}
use Rattle.access_rules.specs.Credentials.{said}
use Rattle.unit_forms.specs.Logins.{IsLogin, most_login_levels}
use Rattle.access_rules.specs.Laws.{LoginsSayTheirFirstElement}

-- elements are elements also where more levels are left
on_more : (forest : Forest) (within : Bool) (k n : ℕ) (octets : List ℕ) → k ≤ n → AreElements within k octets forest → AreElements within n octets forest
on_more none within k n octets few are = are
on_more (leaf tag contents others) within zero n octets few are = absurd are
on_more (branch tag contents inner others) within zero n octets few are = absurd are
on_more (leaf tag contents others) within (suc k) zero octets few are = absurd (omega (arith, few))
on_more (branch tag contents inner others) within (suc k) zero octets few are = absurd (omega (arith, few))
on_more (leaf tag contents others) within (suc k) (suc n) octets few are = record {
  first = are.first;
  others = are.others;
  here = are.here;
  apart = are.apart;
  behind = on_more others within (suc k) (suc n) are.others few are.behind;
  spelled = are.spelled;
}
on_more (branch tag contents inner others) within (suc k) (suc n) octets few are = record {
  first = are.first;
  others = are.others;
  here = record {
    constructed = are.here.constructed;
    indefinite = are.here.indefinite;
    head = are.here.head;
    header = are.here.header;
    inner = on_more inner are.here.indefinite k n contents (omega (arith, few)) are.here.inner;
    spelled = are.here.spelled;
  };
  apart = are.apart;
  behind = on_more others within (suc k) (suc n) are.others few are.behind;
  spelled = are.spelled;
}

-- a login is whole: it has fewer levels than a unit
pub whole-login : (login : List ℕ) → IsLogin login → AreWhole most_levels login
whole-login login is =
    (false, is.forest, on_more is.forest false most_login_levels most_levels login (omega arith) is.elements)

pub ruleset logins = (whole-login)

-- a login says what its elements say
pub login-says : LoginsSayTheirFirstElement
login-says login elements within levels few are =
    ap said (elements_in-are elements within most_levels login (on_more elements within levels most_levels login few are))
