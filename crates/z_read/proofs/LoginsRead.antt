-- The login of an Init that is read is one that can be written.
use Rattle.std.proofs.Common.{◌≡◌, ◌≤◌, ◌==◌, ℕ, zero, suc, Bool, true, false, cond, List, [], length, Option, None, Some, Ok, Err, refl, sym, subst}
use Rattle.std.proofs.lemmas.Bool.{ltb-false}
use Rattle.std.specs.Prelude.{nat_lt}
use Rattle.z_types.specs.Bounds.{most_login_octets}
use Rattle.z_types.specs.equality.Tests.{both_true}
use Rattle.z_types.specs.declared.requests.Init.{Init}
use Rattle.z_types.specs.declared.requests.Request.{Request}
use Rattle.z_types.specs.declared.requests.Request.TheVariants as request
use Rattle.z_ber.specs.declared.tag.Tag.{Tag}
use Rattle.z_ber.specs.Element.{Forest, none, leaf, branch, AreElements, IsElement}
use Rattle.unit_forms.specs.declared.refusal.Refusal.TheVariants.{UnknownUnit, BadValue}
use Rattle.unit_forms.specs.Logins.{IsLogin, IsLoginIf, AsksWithLogin}
use Rattle.unit_forms.specs.Reading.Answers.{read_as, read_if}
use Rattle.unit_forms.specs.Reading.CloseUnit.{close_in}
use Rattle.unit_forms.specs.Reading.Elements.{Field, field_of, has_tag, is_constructed, first_constructed, first_element}
use Rattle.unit_forms.specs.Reading.InitRequest.{login_of, login_in, init_in}
use Rattle.unit_forms.specs.Reading.PresentRequest.{present_in}
use Rattle.unit_forms.specs.Reading.Rows.{context}
use Rattle.unit_forms.specs.Reading.ScanRequest.{scan_in}
use Rattle.unit_forms.specs.Reading.SearchRequest.{search_in}
use Rattle.unit_forms.specs.Reading.Units.{request_of}
use Rattle.z_fields.specs.Trees.{IsRootOf}
use Rattle.z_read.proofs.NumbersRead.{both_ok, made_ok}

-- elements in an indefinite element are elements also where no end of contents is due
anyhow : (levels : ℕ) (octets : List ℕ) (forest : Forest) → AreElements true levels octets forest → AreElements false levels octets forest
anyhow levels octets none h = h
anyhow zero octets (leaf tag contents others) h = absurd h
anyhow zero octets (branch tag contents inner others) h = absurd h
anyhow (suc levels) octets (leaf tag contents others) h = record {
  first = h.first;
  others = h.others;
  here = h.here;
  apart = λ e. absurd cc;
  behind = anyhow (suc levels) h.others others h.behind;
  spelled = h.spelled;
}
anyhow (suc levels) octets (branch tag contents inner others) h = record {
  first = h.first;
  others = h.others;
  here = h.here;
  apart = λ e. absurd cc;
  behind = anyhow (suc levels) h.others others h.behind;
  spelled = h.spelled;
}

any_elements : (within : Bool) (levels : ℕ) (octets : List ℕ) (forest : Forest) → AreElements within levels octets forest → AreElements false levels octets forest
any_elements true levels octets forest h = anyhow levels octets forest h
any_elements false levels octets forest h = h

not_both : {P : Type 0} (b : Bool) → b ≡ true → b ≡ false → P
not_both true e f = absurd cc
not_both false e f = absurd cc

some_is : (f g : Field) → Some f ≡ Some g → f ≡ g
some_is f g e = cc

-- what a constructed element holds are elements, a level below
inner_of : (within : Bool) (levels : ℕ) (octets : List ℕ) (forest : Forest) (wanted : Tag) (f : Field) → AreElements within (suc levels) octets forest
    → first_constructed wanted forest ≡ Some f → AreElements false levels f.contents f.inner
inner_of within levels octets none wanted f h e = absurd cc
inner_of within levels octets (leaf tag contents others) wanted f h e =
    by (is_constructed wanted tag) refl (λ rest. inner_of within levels h.others others wanted f h.behind rest) e
  where
    by : (b : Bool) → is_constructed wanted tag ≡ b → (first_constructed wanted others ≡ Some f → AreElements false levels f.contents f.inner)
        → cond b (Some (field_of tag contents none)) (first_constructed wanted others) ≡ Some f → AreElements false levels f.contents f.inner
    by true is rest e = not_both tag.constructed (both_true tag.constructed (has_tag tag wanted) is).0 h.here.primitive
    by false is rest e = rest e
inner_of within levels octets (branch tag contents inner others) wanted f h e =
    by (is_constructed wanted tag) refl (λ rest. inner_of within levels h.others others wanted f h.behind rest) e
  where
    by : (b : Bool) → is_constructed wanted tag ≡ b → (first_constructed wanted others ≡ Some f → AreElements false levels f.contents f.inner)
        → cond b (Some (field_of tag contents inner)) (first_constructed wanted others) ≡ Some f → AreElements false levels f.contents f.inner
    by true is rest e =
        subst (λ (g : Field). AreElements false levels g.contents g.inner) (some_is (field_of tag contents inner) f e)
        (any_elements h.here.indefinite levels contents inner h.here.inner)
    by false is rest e = rest e

-- ---- the login

login_short : (f : Field) (login : List ℕ) → login_of f ≡ Ok login → (f.contents ≡ login) × (length f.contents ≤ most_login_octets)
login_short f login e = by (nat_lt most_login_octets (length f.contents)) refl e
  where
    by : (b : Bool) → nat_lt most_login_octets (length f.contents) ≡ b → cond b (Err (BadValue f.tag.number)) (Ok f.contents) ≡ Ok login → (f.contents ≡ login) × (length f.contents ≤ most_login_octets)
    by true is e = absurd cc
    by false is e = let same : f.contents ≡ login = cc in (same, ltb-false most_login_octets (length f.contents) is)

login_good : (found : Option Field) (login : Option (List ℕ)) → ((f : Field) → found ≡ Some f → AreElements false 62 f.contents f.inner)
    → read_if login_of found ≡ Ok login → IsLoginIf login
login_good None login each e = let same : None ≡ login = cc in subst IsLoginIf same tt
login_good (Some f) login each e =
    let m = made_ok Some (login_of f) login e in
    let short = login_short f m.of m.read in
    let is : IsLogin m.of = subst IsLogin short.0 (record { few = short.1; forest = f.inner; elements = each f refl }) in
    subst IsLoginIf m.same is

init_good : (within : Bool) (octets : List ℕ) (x : Forest) (init : Init) → AreElements within 63 octets x → init_in x ≡ Ok init → IsLoginIf init.login
unfolding init_in login_in
init_good within octets x init are e =
    let m = made_ok _ _ init e in
    let parts = both_ok _ _ m.of m.read in
    let good = login_good (first_constructed (context 7) x) m.of.1 (λ f found. inner_of within 62 octets x (context 7) f are found) parts.1 in
    subst (λ (i : Init). IsLoginIf i.login) m.same good

-- ---- a request

field_good : (within : Bool) (octets : List ℕ) (field : Field) (asked : Request) → AreElements within 63 octets field.inner → request_of field ≡ Ok asked → AsksWithLogin asked
unfolding request_of
field_good within octets field asked are e = by (field.tag.class == 2) (field.tag.number == 20) (field.tag.number == 22) (field.tag.number == 24) (field.tag.number == 35) (field.tag.number == 48) e
  where
    by : (a b c d f g : Bool) → cond a (cond b (read_as request.Init (init_in field.inner)) (cond c (read_as request.Search (search_in field.inner)) (cond d (read_as request.Present (present_in field.inner)) (cond f (read_as request.Scan (scan_in field.inner)) (cond g (read_as request.Close (close_in field.inner)) (Err (UnknownUnit field.tag.number))))))) (Err (UnknownUnit field.tag.number)) ≡ Ok asked → AsksWithLogin asked
    by false b c d f g e = absurd cc
    by true true c d f g e = let m = made_ok request.Init (init_in field.inner) asked e in subst AsksWithLogin m.same (init_good within octets field.inner m.of are m.read)
    by true false true d f g e = let m = made_ok request.Search (search_in field.inner) asked e in subst AsksWithLogin m.same tt
    by true false false true f g e = let m = made_ok request.Present (present_in field.inner) asked e in subst AsksWithLogin m.same tt
    by true false false false true g e = let m = made_ok request.Scan (scan_in field.inner) asked e in subst AsksWithLogin m.same tt
    by true false false false false true e = let m = made_ok request.Close (close_in field.inner) asked e in subst AsksWithLogin m.same tt
    by true false false false false false e = absurd cc

element_good : (octets : List ℕ) (tree : Forest) (field : Field) (asked : Request) → IsElement 64 octets tree → first_element tree ≡ Some field → request_of field ≡ Ok asked → AsksWithLogin asked
element_good octets none field asked h first e = absurd h
element_good octets (leaf tag contents others) field asked h first e =
    let same = some_is (field_of tag contents none) field first in
    field_good false [] field asked (subst (λ (f : Field). AreElements false 63 [] f.inner) same refl) e
element_good octets (branch tag contents inner others) field asked h first e =
    let same = some_is (field_of tag contents inner) field first in
    field_good h.1.here.indefinite contents field asked
    (subst (λ (f : Field). AreElements h.1.here.indefinite 63 contents f.inner) same h.1.here.inner) e

pub root_login : (octets : List ℕ) (field : Field) (asked : Request) → IsRootOf octets field → Ok asked ≡ request_of field → AsksWithLogin asked
root_login octets field asked (tree, unit, first) e = element_good octets tree field asked unit.element first (sym e)
