-- Names of databases and of element sets that are written are read again.
use Rattle.std.proofs.Common.{◌≡◌, ◌∙◌, ℕ, ◌^◌, ◌<◌, List, [], ◌∷◌, Option, None, Some, Ok, lit<, ap, refl}
use Rattle.std.specs.List.{AllByRecursion}
use Rattle.z_types.specs.declared.requests.Asked.{Asked}
use Rattle.z_types.specs.declared.requests.Asked.TheVariants.{Good}
use Rattle.z_ber.specs.Element.{Forest, none, leaf, branch}
use Rattle.unit_forms.specs.Fields.{primitive, constructed, octets_field, tree_field, optional}
use Rattle.unit_forms.specs.Requests.{database_names, element_name_field}
use Rattle.unit_forms.specs.Reading.Elements.{field_of, has_tag}
use Rattle.unit_forms.specs.Reading.Answers.{read_if}
use Rattle.unit_forms.specs.Reading.Rows.{octets_of, context}
use Rattle.unit_forms.specs.Reading.ElementNames.{names_in, names_of}
use Rattle.unit_forms.specs.Reading.SearchRequest.{databases_in}
use Rattle.z_laws.proofs.Beginning.{Spells}
use Rattle.z_laws.proofs.Lookup.{maybe_branch, maybe_field}
use Rattle.z_laws.proofs.Parts.{spells-primitive, spells-constructed, spells-maybe_branch, leaves, spells-leaves, each-leaves, map-same}

-- the names of databases
abbrev pub databases_forest : List (List ℕ) → Forest
databases_forest dbs = leaves (primitive 105) (λ name. name) dbs

pub spells-databases : (number : ℕ) (dbs : List (List ℕ)) → number < 2 ^ 31 → Spells (tree_field number (database_names dbs)) (branch (constructed number) (database_names dbs) (databases_forest dbs) none)
spells-databases number dbs lt =
    spells-constructed number _ (databases_forest dbs) lt (spells-leaves (primitive 105) (λ name. name) dbs (lit< tt, lit< tt) refl)

-- anything at all
abbrev IsAnything : List ℕ → Type 0
IsAnything octets = Unit {0}

anything : (dbs : List (List ℕ)) → AllByRecursion IsAnything dbs
anything [] = tt
anything (name ∷ dbs) = (tt, anything dbs)

pub databases_in-again : (dbs : List (List ℕ)) → databases_in (databases_forest dbs) ≡ Ok dbs
unfolding databases_in
databases_in-again dbs =
    each-leaves (λ field. has_tag field.tag (context 105)) octets_of (primitive 105) (λ name. name) (λ name. name) IsAnything dbs (λ name. refl) (λ name h. refl) (anything dbs)
    ∙ ap Ok (map-same dbs)

-- the element of ElementSetNames
abbrev pub name_forest : List ℕ → Forest
name_forest name = leaf (primitive 0) name none

-- ElementSetNames that may be absent
abbrev pub maybe_name : ℕ → Option (List ℕ) → Forest
maybe_name number name = maybe_branch (constructed number) (octets_field 0) name_forest name

pub spells-maybe_name : (number : ℕ) (name : Option (List ℕ)) → number < 2 ^ 31 → Spells (optional (element_name_field number) name) (maybe_name number name)
spells-maybe_name number name lt =
    spells-maybe_branch number (octets_field 0) name_forest name lt (λ octets. spells-primitive 0 octets (lit< tt))

-- the name as what is asked
abbrev pub name_asked : Option (List ℕ) → Option (Asked (List ℕ))
name_asked None = None
name_asked (Some name) = Some (Good name)

pub names_if : (number : ℕ) (name : Option (List ℕ)) → read_if names_of (maybe_field (λ octets. field_of (constructed number) (octets_field 0 octets) (name_forest octets)) name) ≡ Ok (name_asked name)
unfolding names_in
names_if number None = refl
names_if number (Some name) = refl
