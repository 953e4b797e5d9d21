-- A request that is written is a unit where it is small and shallow enough.
use Rattle.std.proofs.Common.{ℕ, ◌+◌, ◌-◌, ◌≤◌, List, length, rules, arith}
use Rattle.std.proofs.Math.Nat.{le-max_left, le-max_right}
use Rattle.z_types.specs.Bounds.{most_unit_octets}
use Rattle.z_types.specs.QueryMeasures.{tree_depth}
use Rattle.z_types.specs.Tree.{Tree, leaf as leaf_node, operand, and, or, and_not}
use Rattle.z_types.specs.declared.query.Attr.{Attr}
use Rattle.z_types.specs.declared.query.Term.{Term}
use Rattle.z_types.specs.declared.query.Term.TheVariants.{General, Number, Words}
use Rattle.z_types.specs.declared.query.RpnQuery.{RpnQuery}
use Rattle.z_types.specs.declared.requests.Asked.{Asked}
use Rattle.z_types.specs.declared.requests.Asked.TheVariants.{Good, Bad}
use Rattle.z_types.specs.declared.requests.Init.{Init}
use Rattle.z_types.specs.declared.requests.Search.{Search}
use Rattle.z_types.specs.declared.requests.Present.{Present}
use Rattle.z_types.specs.declared.requests.Scan.{Scan}
use Rattle.z_types.specs.declared.requests.Close.{Close}
use Rattle.z_types.specs.declared.scan.ScanAsk.{ScanAsk}
use Rattle.z_types.specs.declared.requests.Request.{Request}
use Rattle.z_types.specs.declared.requests.Request.TheVariants as request
use Rattle.z_ber.specs.Element.{Forest}
use Rattle.z_ber.specs.Place.{IsUnit}
use Rattle.unit_forms.specs.Requests.{spell_request}
use Rattle.unit_forms.specs.Logins.{IsLoginIf}
use Rattle.z_laws.specs.Shallow.{IsShallow, IsShallowQuery}
use Rattle.z_laws.proofs.Beginning.{spelled_unit}
use Rattle.z_laws.proofs.Forests.{IsLow, low-none, low-joined}
use Rattle.z_laws.proofs.LowParts.{low-leaf, low-branch, low-branches, low}
use Rattle.z_laws.proofs.AttributesAgain.{attr_forest, term_forest, plus_forest}
use Rattle.z_laws.proofs.CloseAgain.{close_forest}
use Rattle.z_laws.proofs.InitAgain.{init_forest, init_request_forest}
use Rattle.z_laws.proofs.LoginAgain.{low-login}
use Rattle.z_laws.proofs.PresentAgain.{present_forest}
use Rattle.z_laws.proofs.QueryAgain.{structure_forest, asked_forest}
use Rattle.z_laws.proofs.ScanAgain.{scan_ask_forest, scan_forest}
use Rattle.z_laws.proofs.SearchAgain.{search_forest}
use Rattle.z_laws.proofs.RequestAgain.{request_forest, spells-request}

pub low-close : (close : Close) → IsLow 63 (close_forest close)
low-close close = search (rules, low) depth 12

pub low-init : (init : Init) → IsLow 63 (init_forest init)
low-init init = search (rules, low) depth 12

low-init_request : (init : Init) (h : IsLoginIf init.login) → IsLow 63 (init_request_forest init h)
low-init_request init h = low-joined (low-init init) (low-login init.login h)

low-present : (present : Present) → IsLow 63 (present_forest present)
low-present present = search (rules, low) depth 12

pub low-attr : (n : ℕ) (attr : Attr) → 1 ≤ n → IsLow n (attr_forest attr)
low-attr n attr some = search (rules, low) depth 12

pub low-term : (n : ℕ) (term : Term) → 1 ≤ n → IsLow n (term_forest term)
low-term n (General octets) some = low-leaf some low-none
low-term n (Number value) some = low-leaf some low-none
low-term n (Words octets) some = low-leaf some low-none

pub low-plus : (n : ℕ) (attrs : List Attr) (term : Term) → 3 ≤ n → IsLow n (plus_forest attrs term)
low-plus n attrs term some =
    low-branch (omega arith) (low-branches _ _ _ attrs (omega arith) (λ attr. low-attr (n - 1 - 1) attr (omega arith))) (low-term n term (omega arith))

-- a structure takes as many levels as its operators and one operand
low-structure : (tree : Tree) (n : ℕ) → tree_depth tree + 4 ≤ n → IsLow n (structure_forest tree)
low-structure (leaf_node attrs term) n some =
    low-branch (omega arith) (low-branch (omega arith) (low-plus (n - 1 - 1) attrs term (omega arith)) low-none) low-none
low-structure (operand name) n some =
    low-branch (omega arith) (low-leaf (omega arith) low-none) low-none
low-structure (and l r) n some =
    let left = low-structure l (n - 1) (omega (arith, le-max_left (tree_depth l) (tree_depth r))) in
    let right = low-structure r (n - 1) (omega (arith, le-max_right (tree_depth l) (tree_depth r))) in
    low-branch (omega arith) (low-joined left (low-joined right (low-branch (omega arith) (low-leaf (omega arith) low-none) low-none))) low-none
low-structure (or l r) n some =
    let left = low-structure l (n - 1) (omega (arith, le-max_left (tree_depth l) (tree_depth r))) in
    let right = low-structure r (n - 1) (omega (arith, le-max_right (tree_depth l) (tree_depth r))) in
    low-branch (omega arith) (low-joined left (low-joined right (low-branch (omega arith) (low-leaf (omega arith) low-none) low-none))) low-none
low-structure (and_not l r) n some =
    let left = low-structure l (n - 1) (omega (arith, le-max_left (tree_depth l) (tree_depth r))) in
    let right = low-structure r (n - 1) (omega (arith, le-max_right (tree_depth l) (tree_depth r))) in
    low-branch (omega arith) (low-joined left (low-joined right (low-branch (omega arith) (low-leaf (omega arith) low-none) low-none))) low-none

low-asked : (asked : Asked RpnQuery) → IsShallowQuery asked → IsLow 62 (asked_forest asked)
low-asked (Good query) h =
    low-branch (omega arith) (low-leaf (omega arith) (low-structure query.root 61 (omega (arith, h)))) low-none
low-asked (Bad diag) h = low-none

low-search : (found : Search) → IsShallowQuery found.query → IsLow 63 (search_forest found)
low-search found h =
    let asked = low-asked found.query h in search (rules, low) depth 16

low-scan_ask : (asked : Asked ScanAsk) → IsLow 63 (scan_ask_forest asked)
low-scan_ask (Good ask) =
    let start = low-plus 62 ask.attrs ask.term (omega arith) in search (rules, low) depth 12
low-scan_ask (Bad diag) = low-none

low-scan : (scan : Scan) → IsLow 63 (scan_forest scan)
low-scan scan = low-joined (search (rules, low) depth 12) (low-scan_ask scan.ask)

pub request-unit : (asked : Request) → IsShallow asked → length (spell_request asked) ≤ most_unit_octets → (tree : Forest) × IsUnit (spell_request asked) tree
request-unit (request.Init init) h small =
    (request_forest (request.Init init) h, spelled_unit _ _ _ (init_request_forest init h) (spells-request (request.Init init) h) (low-init_request init h) small)
request-unit (request.Search search) h small =
    (request_forest (request.Search search) tt, spelled_unit _ _ _ (search_forest search) (spells-request (request.Search search) tt) (low-search search h) small)
request-unit (request.Present present) h small =
    (request_forest (request.Present present) tt, spelled_unit _ _ _ (present_forest present) (spells-request (request.Present present) tt) (low-present present) small)
request-unit (request.Scan scan) h small =
    (request_forest (request.Scan scan) tt, spelled_unit _ _ _ (scan_forest scan) (spells-request (request.Scan scan) tt) (low-scan scan) small)
request-unit (request.Close close) h small =
    (request_forest (request.Close close) tt, spelled_unit _ _ _ (close_forest close) (spells-request (request.Close close) tt) (low-close close) small)
