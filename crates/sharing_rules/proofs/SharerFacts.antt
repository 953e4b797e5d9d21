-- Who shares a session: the test tells exactly
use Rattle.std.proofs.Common.{◌≡◌, ◌==◌, ◌&&◌, ℕ, true, false, List, Option, None, Some, refl}
use Rattle.std.specs.Cmp.{IsEquivalence, nat_eq_equiv}
use Rattle.std.proofs.lemmas.Bool.{eqb-true}
use Rattle.std.proofs.lemmas.Cmp.{nat_list_eq_equiv}
use Rattle.z_types.specs.Logins.{same_login}
use Rattle.z_types.specs.equality.Tests.{both_true, exact_equiv}
use Rattle.z_types.proofs.LoginLemmas.{login_exact}
use Rattle.sharing_rules.specs.Sharers.{Sharers, same_sharers}

login_itself : (login : Option (List ℕ)) → same_login login login ≡ true
login_itself None = refl
login_itself (Some octets) = nat_list_eq_equiv.refl octets

pub login_equiv : IsEquivalence same_login
login_equiv = exact_equiv login_exact login_itself

pub sharers_exact : (one other : Sharers) → same_sharers one other ≡ true → one ≡ other
sharers_exact one other h =
    let both = both_true (one.class == other.class) (same_login one.login other.login) h in
    let class = eqb-true one.class other.class both.0 in
    let login = login_exact one.login other.login both.1 in
    λ i. record { class = class i; login = login i }

pub sharers_itself : (who : Sharers) → same_sharers who who ≡ true
sharers_itself who = rw (nat_eq_equiv.refl who.class) (login_itself who.login)

pub sharers_equiv : IsEquivalence same_sharers
sharers_equiv = exact_equiv sharers_exact sharers_itself

-- those of different classes are not the same
pub apart_by_class : (one other : Sharers) → (one.class == other.class) ≡ false → same_sharers one other ≡ false
apart_by_class one other n = rw n refl

-- nor are those of different logins
pub apart_by_login : (one other : Sharers) → same_login one.login other.login ≡ false → same_sharers one other ≡ false
apart_by_login one other n = (elim (one.class == other.class) as (λ b. (b && same_login one.login other.login) ≡ false) [
  | true ↦ n
  | false ↦ refl
])
