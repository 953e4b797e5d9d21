-- A request that is written and is a unit is read again.
use Rattle.std.proofs.Common.{◌≡◌, ◌∙◌, Ok, lit<, ap}
use Rattle.z_types.specs.declared.requests.Request.{Request}
use Rattle.z_types.specs.declared.requests.Request.TheVariants as request
use Rattle.z_ber.specs.Element.{Forest, none, branch}
use Rattle.z_ber.specs.Place.{IsUnit}
use Rattle.unit_forms.specs.Fields.{constructed}
use Rattle.unit_forms.specs.Requests.{init_request_fields, search_fields, present_fields, scan_fields, close_fields, spell_request}
use Rattle.unit_forms.specs.Logins.{AsksWithLogin}
use Rattle.unit_forms.specs.Reading.Answers.{read_as}
use Rattle.unit_forms.specs.Reading.Units.{request_of, request_in}
use Rattle.z_laws.specs.Readable.{IsReadable}
use Rattle.z_laws.proofs.Beginning.{Spells, unit_tree}
use Rattle.z_laws.proofs.Parts.{spells-constructed}
use Rattle.z_laws.proofs.InitAgain.{init_request_forest, spells-init_request_fields, init_in-again}
use Rattle.z_laws.proofs.SearchAgain.{search_forest, spells-search_fields, search_in-again}
use Rattle.z_laws.proofs.PresentAgain.{present_forest, spells-present_fields, present_in-again}
use Rattle.z_laws.proofs.ScanAgain.{scan_forest, spells-scan_fields, scan_in-again}
use Rattle.z_laws.proofs.CloseAgain.{close_forest, spells-close, close_in-again}

-- the tree of a request
abbrev pub request_forest : (asked : Request) → AsksWithLogin asked → Forest
request_forest (request.Init init) l =
    branch (constructed 20) (init_request_fields init) (init_request_forest init l) none
request_forest (request.Search search) l = branch (constructed 22) (search_fields search) (search_forest search) none
request_forest (request.Present present) l =
    branch (constructed 24) (present_fields present) (present_forest present) none
request_forest (request.Scan scan) l = branch (constructed 35) (scan_fields scan) (scan_forest scan) none
request_forest (request.Close close) l = branch (constructed 48) (close_fields close) (close_forest close) none

pub spells-request : (asked : Request) (l : AsksWithLogin asked) → Spells (spell_request asked) (request_forest asked l)
spells-request (request.Init init) l =
    spells-constructed 20 _ (init_request_forest init l) (lit< tt) (spells-init_request_fields init l)
spells-request (request.Search search) l =
    spells-constructed 22 _ (search_forest search) (lit< tt) (spells-search_fields search)
spells-request (request.Present present) l =
    spells-constructed 24 _ (present_forest present) (lit< tt) (spells-present_fields present)
spells-request (request.Scan scan) l = spells-constructed 35 _ (scan_forest scan) (lit< tt) (spells-scan_fields scan)
spells-request (request.Close close) l = spells-close close

-- the login of a request that is read is one
login_read : (asked : Request) → IsReadable asked → AsksWithLogin asked
login_read (request.Init init) h = h.1
login_read (request.Search search) h = tt
login_read (request.Present present) h = tt
login_read (request.Scan scan) h = tt
login_read (request.Close close) h = tt

forest-again : (asked : Request) (h : IsReadable asked) → request_in (request_forest asked (login_read asked h)) ≡ Ok asked
unfolding request_of login_read
forest-again (request.Init init) h = ap (read_as request.Init) (init_in-again init h.0 h.1)
forest-again (request.Search search) h = ap (read_as request.Search) (search_in-again search h)
forest-again (request.Present present) h = ap (read_as request.Present) (present_in-again present h)
forest-again (request.Scan scan) h = ap (read_as request.Scan) (scan_in-again scan h)
forest-again (request.Close close) h = ap (read_as request.Close) (close_in-again close h)

pub request-again : (asked : Request) (tree : Forest) → IsReadable asked → IsUnit (spell_request asked) tree → request_in tree ≡ Ok asked
request-again asked tree h unit =
    let l = login_read asked h in
    ap request_in (unit_tree (spell_request asked) (request_forest asked l) tree (spells-request asked l) unit) ∙ forest-again asked h
