-- A login that is written is read again: its octets are elements wherever elements begin with them.
use Rattle.std.proofs.Common.{◌≡◌, ◌∙◌, ℕ, zero, suc, false, List, [], ◌++◌, Option, None, Some, Ok, lit<, sym, ap, subst, append_assoc, arith, refl}
use Rattle.std.proofs.lemmas.Bool.{le-ltb}
use Rattle.std.proofs.lemmas.List.{append-nil}
use Rattle.z_types.specs.Bounds.{most_login_octets}
use Rattle.z_ber.specs.Element.{Forest, none, leaf, branch, IsElement, AreElements}
use Rattle.unit_forms.specs.Fields.{constructed, optional, tree_field}
use Rattle.unit_forms.specs.Logins.{IsLogin, IsLoginIf}
use Rattle.unit_forms.specs.Reading.Answers.{read_if}
use Rattle.unit_forms.specs.Reading.Elements.{first_constructed}
use Rattle.unit_forms.specs.Reading.InitRequest.{login_of}
use Rattle.unit_forms.specs.Reading.Rows.{context}
use Rattle.z_laws.proofs.Beginning.{GoesOn, Spells, goes_on-joined, spells-nothing}
use Rattle.z_laws.proofs.Forests.{IsLow, are-on, levels-least, low-none}
use Rattle.z_laws.proofs.LowParts.{low-branch}
use Rattle.z_laws.proofs.Parts.{spells-constructed}
use Rattle.z_laws.proofs.RecordsAgain.{in_front_of}

-- elements in front of others
in_front : (levels : ℕ) (octets rest : List ℕ) (tree : Forest) (m : ℕ) (forest : Forest) → AreElements false m octets forest → AreElements false levels (octets ++ rest) tree → GoesOn levels rest forest tree
in_front levels octets rest tree m none h are =
    record { others = tree; whole = refl; behind = subst (λ (o : List ℕ). AreElements false levels (o ++ rest) tree) h are }
in_front levels octets rest tree zero (leaf t c others) h are = absurd h
in_front levels octets rest tree zero (branch t c inner others) h are = absurd h
in_front levels octets rest tree (suc m) (leaf t c others) h are =
    let alone : IsElement (suc m) h.first (leaf t c none) =
    (refl, record { first = h.first; others = []; here = h.here; apart = h.apart; behind = refl; spelled = sym (append-nil h.first) })
    in
    let split : AreElements false levels (h.first ++ (h.others ++ rest)) tree =
    subst (λ (o : List ℕ). AreElements false levels o tree) (ap (λ o. o ++ rest) h.spelled ∙ append_assoc h.first h.others rest) are
    in
    let first = in_front_of levels h.first (h.others ++ rest) tree (suc m) (leaf t c none) alone split in
    let second = in_front levels h.others rest first.others (suc m) others h.behind first.behind in
    goes_on-joined levels rest (leaf t c none) others tree first.others first.whole second
in_front levels octets rest tree (suc m) (branch t c inner others) h are =
    let alone : IsElement (suc m) h.first (branch t c inner none) =
    (refl, record { first = h.first; others = []; here = h.here; apart = h.apart; behind = refl; spelled = sym (append-nil h.first) })
    in
    let split : AreElements false levels (h.first ++ (h.others ++ rest)) tree =
    subst (λ (o : List ℕ). AreElements false levels o tree) (ap (λ o. o ++ rest) h.spelled ∙ append_assoc h.first h.others rest) are
    in
    let first = in_front_of levels h.first (h.others ++ rest) tree (suc m) (branch t c inner none) alone split in
    let second = in_front levels h.others rest first.others (suc m) others h.behind first.behind in
    goes_on-joined levels rest (branch t c inner none) others tree first.others first.whole second

spells-elements : (login : List ℕ) (h : IsLogin login) → Spells login h.forest
spells-elements login h = record {
  found = λ levels rest tree small are. in_front levels login rest tree 62 h.forest h.elements are;
  built = λ n low small. are-on h.forest false 62 n login h.elements low;
}

-- ---- idAuthentication

-- its element, where there is a login
abbrev pub login_forest : (login : Option (List ℕ)) → IsLoginIf login → Forest
login_forest None h = none
login_forest (Some login) h = branch (constructed 7) login h.forest none

pub spells-login : (login : Option (List ℕ)) (h : IsLoginIf login) → Spells (optional (tree_field 7) login) (login_forest login h)
spells-login None h = spells-nothing
spells-login (Some login) h = spells-constructed 7 login h.forest (lit< tt) (spells-elements login h)

pub low-login : (login : Option (List ℕ)) (h : IsLoginIf login) → IsLow 63 (login_forest login h)
low-login None h = low-none
low-login (Some login) h =
    low-branch (omega arith) (record { within = levels-least h.forest false 62 login h.elements }) low-none

pub login-again : (login : Option (List ℕ)) (h : IsLoginIf login) → read_if login_of (first_constructed (context 7) (login_forest login h)) ≡ Ok login
login-again None h = refl
login-again (Some login) h = rw (le-ltb most_login_octets _ h.few) refl
