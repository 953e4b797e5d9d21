-- For proofs alone: addresses are tested and copied exactly (this project's own)
use Rattle.std.proofs.Common.{ap}
use Rattle.z_types.specs.Exact.{EqIsExact, CloneIsExact}
use Rattle.z_types.specs.equality.Tests.{numbers_exact}
use Rattle.z_types.specs.equality.Parts.{Exactness, ◌⊠◌, shown, number, text}
use Rattle.z_types.specs.declared.address.Site.{Site}
use Rattle.z_types.specs.declared.address.Site.TheVariants as at
use Rattle.z_types.specs.declared.address.Address.{Address}
use Rattle.z_types.specs.declared.address.Address.TheVariants.{Test, Tcp, Login}
use Rattle.z_types.specs.contracts.address.SitePartialEq.TheImpl as site_test
use Rattle.z_types.specs.contracts.address.SiteClone.TheImpl as site_copy
use Rattle.z_types.specs.contracts.address.AddressPartialEq.TheImpl as address_test
use Rattle.z_types.specs.contracts.address.AddressClone.TheImpl as address_copy

pub site_exact : EqIsExact (site_test.ghosts).eq
site_exact (at.Test n) (at.Test m) h = ap at.Test (numbers_exact n m h)
site_exact (at.Tcp a b) (at.Tcp a' b') h =
    ap (λ (host, port). at.Tcp host port) ((text ⊠ number).eq_is_exact (a, b) (a', b') h)
site_exact a b h = cc

pub site_cloned : CloneIsExact (site_copy.ghosts).is_clone
site_cloned (at.Test n) (at.Test m) h = ap at.Test h
site_cloned (at.Tcp a b) (at.Tcp a' b') h = λ i. at.Tcp (h.0 i) (h.1 i)
site_cloned a b h = absurd h

abbrev pub site : Exactness Site
site = shown site_exact site_cloned

pub address_exact : EqIsExact (address_test.ghosts).eq
address_exact (Test n) (Test m) h = ap Test (numbers_exact n m h)
address_exact (Tcp a b) (Tcp a' b') h =
    ap (λ (host, port). Tcp host port) ((text ⊠ number).eq_is_exact (a, b) (a', b') h)
address_exact (Login a b) (Login a' b') h =
    ap (λ (at, login). Login at login) ((site ⊠ text).eq_is_exact (a, b) (a', b') h)
address_exact a b h = cc

pub address_cloned : CloneIsExact (address_copy.ghosts).is_clone
address_cloned (Test n) (Test m) h = ap Test h
address_cloned (Tcp a b) (Tcp a' b') h = λ i. Tcp (h.0 i) (h.1 i)
address_cloned (Login a b) (Login a' b') h =
    ap (λ (at, login). Login at login) ((site ⊠ text).clone_is_exact (a, b) (a', b') h)
address_cloned a b h = absurd h

abbrev pub address : Exactness Address
address = shown address_exact address_cloned
