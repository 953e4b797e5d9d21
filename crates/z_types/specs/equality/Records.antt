-- For proofs alone: records, and what stands in their place, are tested and copied exactly
-- (this project's own)
use Rattle.std.specs.Prelude.{refl}
use Rattle.std.proofs.Common.{ap}
use Rattle.z_types.specs.Exact.{EqIsExact, CloneIsExact}
use Rattle.z_types.specs.equality.Tests.{itself_cloned}
use Rattle.z_types.specs.equality.Parts.{Exactness, part, ◌⊗◌, made_of, ◌⊠◌, shown, text, list, option}
use Rattle.z_types.specs.equality.Diagnostic.{diagnostic}
use Rattle.z_types.specs.declared.records.Form.{Form}
use Rattle.z_types.specs.declared.records.Form.TheVariants.{Single, Octets, Arbitrary}
use Rattle.z_types.specs.declared.records.Item.{Item}
use Rattle.z_types.specs.declared.records.Item.TheVariants.{Record, Surrogate}
use Rattle.z_types.specs.declared.records.NamedRecord.{NamedRecord}
use Rattle.z_types.specs.declared.records.Body.{Body}
use Rattle.z_types.specs.declared.records.Body.TheVariants.{None, Records, Diag, Diags}
use Rattle.z_types.specs.contracts.records.FormPartialEq.TheImpl as form_test
use Rattle.z_types.specs.contracts.records.ItemPartialEq.TheImpl as item_test
use Rattle.z_types.specs.contracts.records.ItemClone.TheImpl as item_copy
use Rattle.z_types.specs.contracts.records.BodyPartialEq.TheImpl as body_test
use Rattle.z_types.specs.contracts.records.BodyClone.TheImpl as body_copy

pub form_exact : EqIsExact (form_test.ghosts).eq
form_exact Single Single h = refl
form_exact Octets Octets h = refl
form_exact Arbitrary Arbitrary h = refl
form_exact a b h = cc

abbrev pub form : Exactness Form
form = shown form_exact itself_cloned

pub item_exact : EqIsExact (item_test.ghosts).eq
item_exact (Record a b c) (Record a' b' c') h =
    ap (λ (syntax, (form, bytes)). Record syntax form bytes)
    ((text ⊠ form ⊠ text).eq_is_exact (a, (b, c)) (a', (b', c')) h)
item_exact (Surrogate a) (Surrogate b) h = ap Surrogate (diagnostic.eq_is_exact a b h)
item_exact a b h = cc

pub item_cloned : CloneIsExact (item_copy.ghosts).is_clone
item_cloned (Record a b c) (Record a' b' c') h =
    ap (λ (syntax, (form, bytes)). Record syntax form bytes)
    ((text ⊠ form ⊠ text).clone_is_exact (a, (b, c)) (a', (b', c')) h)
item_cloned (Surrogate a) (Surrogate b) h = ap Surrogate (diagnostic.clone_is_exact a b h)
item_cloned a b h = absurd h

abbrev pub item : Exactness Item
item = shown item_exact item_cloned

abbrev pub named_record : Exactness NamedRecord
named_record = made_of
    (part (λ (r : NamedRecord). r.name) (option text)
    ⊗ part (λ r. r.item) item)
    (λ (name, item). record { name = name; item = item })
    (λ _. refl)

pub body_exact : EqIsExact (body_test.ghosts).eq
body_exact None None h = refl
body_exact (Records a) (Records b) h = ap Records ((list named_record).eq_is_exact a b h)
body_exact (Diag a) (Diag b) h = ap Diag (diagnostic.eq_is_exact a b h)
body_exact (Diags a) (Diags b) h = ap Diags ((list diagnostic).eq_is_exact a b h)
body_exact a b h = cc

pub body_cloned : CloneIsExact (body_copy.ghosts).is_clone
body_cloned None None h = refl
body_cloned (Records a) (Records b) h = ap Records ((list named_record).clone_is_exact a b h)
body_cloned (Diag a) (Diag b) h = ap Diag (diagnostic.clone_is_exact a b h)
body_cloned (Diags a) (Diags b) h = ap Diags ((list diagnostic).clone_is_exact a b h)
body_cloned a b h = absurd h

abbrev pub body : Exactness Body
body = shown body_exact body_cloned
