-- What a GET searches is a database that anyone may search.
use Rattle.std.proofs.Common.{◌≡◌, ℕ, List, [], ◌∷◌, Option, Some, None, Result, Ok, Err, refl, ap}
use Rattle.z_types.specs.declared.diagnostic.Diag.{Diag}
use Rattle.z_types.specs.declared.query.RpnQuery.{RpnQuery}
use Rattle.z_types.specs.declared.sru.SruDiag.{SruDiag}
use Rattle.route_config.specs.declared.route.Database.{Database}
use Rattle.route_config.specs.declared.route.Route.{Route}
use Rattle.access_rules.specs.declared.who.Who.TheVariants.{Anonymous}
use Rattle.access_rules.specs.Access.{MaySearch}
use Rattle.access_rules.specs.Denials.{first_denial}
use Rattle.access_rules.proofs.AccessLemmas.{denial-none}
use Rattle.sru_request.specs.declared.query.SruQuery.{SruQuery}
use Rattle.sru_rules.specs.declared.retrieval.Retrieval.{Retrieval}
use Rattle.sru_rules.specs.Asking.{rpn_of, unless_denied, open_query}
use Rattle.sru_rules.specs.Laws.{GetIsOpen}
use Rattle.sru_rules.specs.Reading.{refused, taken}
use Rattle.sru_rules.specs.Run.{searches, due_by}

no_denial : (version : List ℕ) (denial : Option Diag) (query found : RpnQuery) → unless_denied version denial query ≡ Ok found → denial ≡ None
no_denial version None query found h = refl
no_denial version (Some diag) query found h = absurd cc

module _ (route : Route) (database : Database) (asked : SruQuery) (retrieval : Retrieval) where
  found-open : (query found : RpnQuery) → unless_denied asked.version (first_denial route Anonymous (database.name ∷ [])) query ≡ Ok found
      → MaySearch route Anonymous database.name
  found-open query found h =
      ((denial-none route Anonymous (database.name ∷ [])).0 (no_denial asked.version (first_denial route Anonymous (database.name ∷ [])) query found h)).0

  due-open : (opens : Result RpnQuery SruDiag) → due_by database asked opens ≡ searches retrieval
      → ((found : RpnQuery) → opens ≡ Ok found → MaySearch route Anonymous database.name)
      → MaySearch route Anonymous database.name × (retrieval.legs ≡ database.legs)
  due-open (Err diag) is may = absurd cc
  due-open (Ok found) is may =
      let own : Retrieval = record { legs = database.legs; asked = asked; query = found } in
      let same : retrieval ≡ own = cc in
      (may found refl, ap (λ (r : Retrieval). r.legs) same)

  read-open : (read : Result RpnQuery SruDiag) (found : RpnQuery) → open_query route database asked.version read ≡ Ok found → MaySearch route Anonymous database.name
  read-open (Err diag) found h = absurd cc
  read-open (Ok query) found h = found-open query found h

pub get-open : GetIsOpen
get-open route database (refused diag) retrieval is = absurd cc
get-open route database (taken asked text) retrieval is =
    let read = rpn_of asked.version route.indexes text in
    due-open route database asked retrieval (open_query route database asked.version read) is (read-open route database asked retrieval read)
