-- An Init that is written is read again, as a request and in its response.
use Rattle.std.proofs.Common.{◌≡◌, ◌^◌, ◌<◌, ℕ, pos, List, [], ◌∷◌, Option, None, Some, Ok, lit<, refl}
use Rattle.z_types.specs.Numbers.{IsNumber}
use Rattle.z_types.specs.declared.requests.Init.{Init}
use Rattle.z_ber.specs.Element.{Forest, none, leaf}
use Rattle.z_ber.specs.Written.{int_octets, bits_octets}
use Rattle.unit_forms.specs.Fields.{primitive}
use Rattle.unit_forms.specs.Requests.{init_fields, init_request_fields}
use Rattle.unit_forms.specs.Logins.{IsLoginIf}
use Rattle.unit_forms.specs.Reading.Elements.{first_of}
use Rattle.unit_forms.specs.Reading.Rows.{octets_of, number_of, bits_of, context, required, optional}
use Rattle.unit_forms.specs.Reading.InitRequest.{Shared, shared_in, login_in, init_in}
use Rattle.z_laws.specs.Readable.{IsReadableInit}
use Rattle.z_laws.proofs.Beginning.{Spells}
use Rattle.z_laws.proofs.Forests.{joined}
use Rattle.z_laws.proofs.Lookup.{maybe_leaf, or_else-none, first_of-joined, first_of-maybe_leaf, first_constructed-joined, first_constructed-maybe_leaf}
use Rattle.z_laws.proofs.LoginAgain.{login_forest, spells-login, login-again}
use Rattle.z_laws.proofs.Parts.{◌⊕◌, spells-primitive, spells-maybe, number_once, bits_once, octets_if}

-- the elements of an Init
abbrev pub init_forest : Init → Forest
init_forest init =
    joined (joined (joined (joined (maybe_leaf (primitive 2) (λ x. x) init.ref_id)
    (leaf (primitive 3) (bits_octets init.versions) none))
    (leaf (primitive 4) (bits_octets init.options) none))
    (leaf (primitive 5) (int_octets (pos init.preferred)) none))
    (leaf (primitive 6) (int_octets (pos init.exceptional)) none)

pub spells-init_fields : (init : Init) → Spells (init_fields init) (init_forest init)
unfolding init_fields
spells-init_fields init =
    spells-maybe 2 (λ x. x) init.ref_id (lit< tt) ⊕ spells-primitive 3 _ (lit< tt) ⊕ spells-primitive 4 _ (lit< tt) ⊕ spells-primitive 5 _ (lit< tt) ⊕ spells-primitive 6 _ (lit< tt)

init-ref_id : (init : Init) (rest : Forest) → first_of (context 2 ∷ []) rest ≡ None → optional 2 octets_of (joined (init_forest init) rest) ≡ Ok init.ref_id
init-ref_id init rest h = simp (first_of-joined, first_of-maybe_leaf, h, or_else-none) (octets_if 2 init.ref_id)

init-versions : (init : Init) (rest : Forest) → init.versions < 2 ^ 32 → required 3 bits_of (joined (init_forest init) rest) ≡ Ok init.versions
init-versions init rest small = simp (first_of-joined, first_of-maybe_leaf) (bits_once 3 init.versions small)

init-options : (init : Init) (rest : Forest) → init.options < 2 ^ 32 → required 4 bits_of (joined (init_forest init) rest) ≡ Ok init.options
init-options init rest small = simp (first_of-joined, first_of-maybe_leaf) (bits_once 4 init.options small)

init-preferred : (init : Init) (rest : Forest) → IsNumber init.preferred → required 5 number_of (joined (init_forest init) rest) ≡ Ok init.preferred
init-preferred init rest small = simp (first_of-joined, first_of-maybe_leaf) (number_once 5 init.preferred small)

init-exceptional : (init : Init) (rest : Forest) → IsNumber init.exceptional → required 6 number_of (joined (init_forest init) rest) ≡ Ok init.exceptional
init-exceptional init rest small = simp (first_of-joined, first_of-maybe_leaf) (number_once 6 init.exceptional small)

-- what an Init and its answer share
abbrev pub shared_of : Init → Shared
shared_of init = (init.ref_id, (init.versions, (init.options, (init.preferred, init.exceptional))))

-- whatever follows that has no referenceId
pub shared_in-more : (init : Init) (rest : Forest) → first_of (context 2 ∷ []) rest ≡ None → IsReadableInit init → shared_in (joined (init_forest init) rest) ≡ Ok (shared_of init)
unfolding shared_in
shared_in-more init rest none_there h =
    rw (init-ref_id init rest none_there, init-versions init rest h.versions, init-options init rest h.options, init-preferred init rest h.preferred, init-exceptional init rest h.exceptional) refl

-- ---- a request

-- the elements of an Init, its login among them
abbrev pub init_request_forest : (init : Init) → IsLoginIf init.login → Forest
init_request_forest init h = joined (init_forest init) (login_forest init.login h)

pub spells-init_request_fields : (init : Init) (h : IsLoginIf init.login) → Spells (init_request_fields init) (init_request_forest init h)
unfolding init_request_fields
spells-init_request_fields init h = spells-init_fields init ⊕ spells-login init.login h

no_ref_id : (login : Option (List ℕ)) (h : IsLoginIf login) → first_of (context 2 ∷ []) (login_forest login h) ≡ None
no_ref_id None h = refl
no_ref_id (Some login) h = refl

init-login : (init : Init) (h : IsLoginIf init.login) → login_in (init_request_forest init h) ≡ Ok init.login
unfolding login_in
init-login init h = simp (first_constructed-joined, first_constructed-maybe_leaf) (login-again init.login h)

pub init_in-again : (init : Init) → IsReadableInit init → (h : IsLoginIf init.login) → init_in (init_request_forest init h) ≡ Ok init
unfolding init_in
init_in-again init readable h =
    rw (shared_in-more init (login_forest init.login h) (no_ref_id init.login h) readable, init-login init h) refl
