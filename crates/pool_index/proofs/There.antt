-- A session goes out at the target where it was
use Rattle.std.proofs.Common.{◌≡◌, ℕ, List, IfSome, refl, ap, ◌∙◌}
use Rattle.z_types.specs.declared.address.Address.{Address}
use Rattle.z_types.specs.declared.address.Address.TheVariants.{Test, Tcp, Login}
use Rattle.z_types.specs.declared.address.Site.TheVariants as at
use Rattle.z_types.specs.Logins.{inner}
use Rattle.pool_sets.specs.declared.pooled.Parts.{Parts}
use Rattle.pool_sets.specs.Sessions.{Session, idle_parts, stand_target}
use Rattle.pool_core.proofs.Chosen.{IsIdle}

inner_twice : (a : Address) → inner (inner a) ≡ inner a
inner_twice (Test n) = refl
inner_twice (Tcp host port) = refl
inner_twice (Login (at.Test n) own) = refl
inner_twice (Login (at.Tcp host port) own) = refl

pub there_again : {S : Type 0} (class : ℕ) (at : List Address) (o : Session S) (parts : Parts S) (spot : Address) → IsIdle class at o parts → IfSome (idle_parts o.stand) (λ p. spot ≡ inner p.address) → inner spot ≡ stand_target o.stand
there_again class at o parts spot i h = rw i.stand (ap inner (rw i.stand at h) ∙ inner_twice parts.address)
