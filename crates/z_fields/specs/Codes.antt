-- For contracts alone: how trees of elements are stored in the logic (this project's own).
use Rattle.std.specs.Prelude.{◌≡◌, ℕ, List, Bool, refl}
use Rattle.std.specs.Coded.{Coded, coded_ℕ, coded_bool, coded_list, coded×, code_by}
use Rattle.std.proofs.Common.{ap}
use base.Stored.{Gv, gnum, gcons, gnil}
use Rattle.z_ber.specs.declared.tag.Tag.{Tag}
use Rattle.z_ber.specs.Element.{Forest, none, leaf, branch}
use Rattle.unit_forms.specs.Reading.Elements.{Field}

abbrev tag_code : Coded Tag
tag_code =
    code_by (ℕ × (Bool × ℕ)) (coded× coded_ℕ (coded× coded_bool coded_ℕ))
    (λ t. (t.class, (t.constructed, t.number)))
    (λ p. record { class = p.0; constructed = p.1.0; number = p.1.1 }) (λ _. refl)

abbrev text_code : Coded (List ℕ)
text_code = coded_list coded_ℕ

abbrev code_of : Forest → Gv
code_of none = gnum 0
code_of (leaf tag contents others) =
    gcons (gnum 1) (gcons (tag_code.code tag) (gcons (text_code.code contents) (code_of others)))
code_of (branch tag contents inner others) =
    gcons (gnum 2) (gcons (tag_code.code tag)
    (gcons (text_code.code contents) (gcons (code_of inner) (code_of others))))

abbrev front : Gv → Gv
front gnil = gnil
front (gnum n) = gnil
front (gcons a b) = a

abbrev rest : Gv → Gv
rest gnil = gnil
rest (gnum n) = gnil
rest (gcons a b) = b

pub code_one : (a b : Forest) → code_of a ≡ code_of b → a ≡ b
code_one none none p = refl
code_one (leaf t c os) (leaf t' c' os') p =
    let tags = tag_code.inj t t' (ap (λ g. front (rest g)) p) in
    let texts = text_code.inj c c' (ap (λ g. front (rest (rest g))) p) in
    let others = code_one os os' (ap (λ g. rest (rest (rest g))) p) in cc
code_one (branch t c is os) (branch t' c' is' os') p =
    let tags = tag_code.inj t t' (ap (λ g. front (rest g)) p) in
    let texts = text_code.inj c c' (ap (λ g. front (rest (rest g))) p) in
    let inner = code_one is is' (ap (λ g. front (rest (rest (rest g)))) p) in
    let others = code_one os os' (ap (λ g. rest (rest (rest (rest g)))) p) in cc
code_one a b p = cc

-- elements are stored as what each is, and its parts
abbrev pub forest_code : Coded Forest
forest_code = record { code = code_of; inj = code_one }

abbrev pub field_code : Coded Field
field_code =
    code_by (Tag × (List ℕ × Forest)) (coded× tag_code (coded× text_code forest_code))
    (λ f. (f.tag, (f.contents, f.inner)))
    (λ p. record { tag = p.0; contents = p.1.0; inner = p.1.1 }) (λ _. refl)
