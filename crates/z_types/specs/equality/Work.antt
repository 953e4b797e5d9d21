-- For proofs alone: what is asked of the targets is tested exactly (this project's own)
use Rattle.std.specs.Prelude.{ℕ, List, Option}
use Rattle.std.proofs.Common.{ap}
use Rattle.z_types.specs.Exact.{EqIsExact}
use Rattle.z_types.specs.equality.Parts.{Exactness, ◌⊠◌, number, text, list, option}
use Rattle.z_types.specs.equality.RpnQuery.{rpn_query}
use Rattle.z_types.specs.equality.Scan.{scan_ask}
use Rattle.z_types.specs.declared.query.RpnQuery.{RpnQuery}
use Rattle.z_types.specs.declared.scan.ScanAsk.{ScanAsk}
use Rattle.z_types.specs.declared.work.Work.{Work}
use Rattle.z_types.specs.declared.work.Work.TheVariants.{Search, Fetch, Scan}
use Rattle.z_types.specs.contracts.work.WorkPartialEq.TheImpl as work_test

-- an optional text, as a login, an element set name or a syntax
abbrev MaybeText : Type 0
MaybeText = Option (List ℕ)

-- the parts of a search
abbrev SearchParts : Type 0
SearchParts =
    MaybeText
    × (List ℕ × (RpnQuery × (ℕ × (ℕ × (ℕ × (MaybeText × (MaybeText × (MaybeText × ℕ))))))))

abbrev searched : Exactness SearchParts
searched =
    option text ⊠ list number ⊠ rpn_query ⊠ number ⊠ number ⊠ number
    ⊠ option text ⊠ option text ⊠ option text ⊠ number

abbrev search_of : SearchParts → Work
search_of (
  login,
  (
    legs,
    (query, (small, (large, (medium, (small_element, (medium_element, (syntax, room))))))),
  ),
) =
    Search login legs query small large medium small_element medium_element syntax room

-- the parts of a fetch
abbrev FetchParts : Type 0
FetchParts = MaybeText × (List ℕ × (RpnQuery × (List ℕ × (ℕ × (ℕ × (MaybeText × MaybeText))))))

abbrev fetched : Exactness FetchParts
fetched =
    option text ⊠ list number ⊠ rpn_query ⊠ list number ⊠ number ⊠ number ⊠ option text
    ⊠ option text

abbrev fetch_of : FetchParts → Work
fetch_of (login, (legs, (query, (hits, (first, (count, (syntax, element))))))) =
    Fetch login legs query hits first count syntax element

-- the parts of a scan
abbrev ScanParts : Type 0
ScanParts = MaybeText × (ℕ × ScanAsk)

abbrev scanned : Exactness ScanParts
scanned = option text ⊠ number ⊠ scan_ask

abbrev scan_of : ScanParts → Work
scan_of (login, (leg, ask)) = Scan login leg ask

pub work_exact : EqIsExact (work_test.ghosts).eq
work_exact (Search a b c d e f g k l m) (Search a' b' c' d' e' f' g' k' l' m') h =
    ap search_of (searched.eq_is_exact
    (a, (b, (c, (d, (e, (f, (g, (k, (l, m)))))))))
    (a', (b', (c', (d', (e', (f', (g', (k', (l', m'))))))))) h)
work_exact (Fetch a b c d e f g k) (Fetch a' b' c' d' e' f' g' k') h =
    ap fetch_of (fetched.eq_is_exact
    (a, (b, (c, (d, (e, (f, (g, k)))))))
    (a', (b', (c', (d', (e', (f', (g', k'))))))) h)
work_exact (Scan a b c) (Scan a' b' c') h =
    ap scan_of (scanned.eq_is_exact (a, (b, c)) (a', (b', c')) h)
work_exact a b h = cc
