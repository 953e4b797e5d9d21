-- What the targets behind a request's legs mean (this project's own)
use Rattle.std.specs.Prelude.{ℕ, Bool, true, false, List, [], ◌∷◌, Option, None, Some, Result, Ok, Err, map}
use Rattle.std.specs.Prelude.{filter_map, option_map, option_and_then, option_to_list, slice_get}
use Rattle.z_types.specs.declared.diagnostic.Diag.{Diag}
use Rattle.z_types.specs.declared.query.RpnQuery.{RpnQuery}
use Rattle.z_types.specs.declared.records.Item.{Item}
use Rattle.z_types.specs.declared.records.NamedRecord.{NamedRecord}
use Rattle.z_types.specs.declared.scan.ScanAnswer.{ScanAnswer}
use Rattle.z_types.specs.declared.scan.ScanAsk.{ScanAsk}
use Rattle.z_types.specs.declared.world.World as world
use Rattle.route_config.specs.declared.route.Route.{Route}
use Rattle.virt_db.specs.Legs.{LegAt, leg_at}
use Rattle.z_types.specs.MergedOrder.{Place}

-- answers one behind another, or the first diagnostic among them
abbrev pub behind_first : {A : Type 0} → Result A Diag → Result (List A) Diag → Result (List A) Diag
behind_first (Err diag) others = Err diag
behind_first (Ok x) (Err diag) = Err diag
behind_first (Ok x) (Ok others) = Ok (x ∷ others)

-- all answers, or the first diagnostic among them
abbrev pub all_or_first : {A : Type 0} → List (Result A Diag) → Result (List A) Diag
all_or_first [] = Ok []
all_or_first (answer ∷ answers) = behind_first answer (all_or_first answers)

-- a database that hides errors has no hits where its target refuses
abbrev pub hidden : Bool → Result ℕ Diag → Result ℕ Diag
hidden hide_errors (Ok hits) = Ok hits
hidden true (Err diag) = Ok 0
hidden false (Err diag) = Err diag

-- what a leg's target answers to a search; a place that the route has no leg at finds nothing
abbrev pub hits_at : {W : Type 0} → world.Ghosts W → RpnQuery → Option LegAt → Result ℕ Diag
hits_at w query None = Ok 0
hits_at w query (Some leg) =
    hidden leg.database.hide_errors (w.search leg.address (record { dbs = leg.dbs; query = query }))

-- the hits of each leg, or the first diagnostic that is not hidden, in the order of the legs
abbrev pub hits_of : {W : Type 0} → world.Ghosts W → Route → List ℕ → RpnQuery
    → Result (List ℕ) Diag
hits_of w route legs query = all_or_first (map (λ leg. hits_at w query (leg_at route leg)) legs)

-- the record of a rank of a leg, under its virtual database's name
abbrev pub named : LegAt → Result Item Diag → Result NamedRecord Diag
named leg (Err diag) = Err diag
named leg (Ok item) = Ok (record { name = Some leg.database.name; item = item })

-- the record at a place of a result set of these legs
abbrev pub record_at : {W : Type 0} → world.Ghosts W → Route → List ℕ → RpnQuery
    → (syntax element : Option (List ℕ)) → Place → Option (Result NamedRecord Diag)
record_at w route legs query syntax element place =
    option_map
    (λ leg. named leg
    (w.record_ leg.address (record { dbs = leg.dbs; query = query }) place.rank syntax element))
    (option_and_then (leg_at route) (slice_get legs place.leg))

-- the records at these places, or the first diagnostic of a whole present among them
abbrev pub records_at : {W : Type 0} → world.Ghosts W → Route → List ℕ → RpnQuery
    → (syntax element : Option (List ℕ)) → List Place → Result (List NamedRecord) Diag
records_at w route legs query syntax element places =
    all_or_first (filter_map (record_at w route legs query syntax element) places)

-- what a leg's target answers to a scan
abbrev pub scan_at : {W : Type 0} → world.Ghosts W → ScanAsk → Option LegAt → Result ScanAnswer Diag
scan_at w ask None = Ok (record { position = None; entries = [] })
scan_at w ask (Some leg) = w.scan leg.address leg.dbs ask

-- the name of the class that a leg goes to
abbrev pub class_of : Route → ℕ → List (List ℕ)
class_of route leg = option_to_list (option_map (λ found. found.class.name) (leg_at route leg))
