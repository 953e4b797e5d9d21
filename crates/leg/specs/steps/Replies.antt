-- For contracts alone: what is known of a session once it was asked or looked at
-- (this project's own)
use Rattle.std.specs.Prelude.{◌≡◌, ℕ, ◌+◌, ◌<◌, ◌≤◌, ◌^◌, List, length, None, Some, Result, Ok, Err}
use Rattle.z_types.specs.Bounds.{most_number}
use Rattle.z_types.specs.Pending.{resting, opening}
use Rattle.z_types.specs.declared.diagnostic.Diag.{Diag}
use Rattle.z_types.specs.declared.key.SetKey.{SetKey}
use Rattle.z_types.specs.declared.records.Item.{Item}
use Rattle.z_types.specs.declared.sitting.Sitting as sitting
use Rattle.z_types.specs.declared.world.World as world
use Rattle.gw_outside.specs.Peers.{AreRecords}
use Rattle.gw_outside.specs.declared.backends.Heard.{Heard}
use Rattle.gw_outside.specs.declared.backends.Heard.TheVariants as look
use Rattle.pool_sets.specs.Kept.{slot_name, TableKept}
use Rattle.pool_sets.specs.Entries.{IsRoom}
use Rattle.pool_sets.specs.Table.{set_of}
use Rattle.leg.specs.declared.phases.Held.{Held}
use Rattle.leg.specs.declared.tasks.Task.{Task}
use Rattle.leg.specs.declared.tasks.Task.TheVariants.{Records, Scan}
use Rattle.leg.specs.Kept.{IsHeld, IsBefore, IsSearching, IsFetching, IsScanning}
use Rattle.leg.specs.Terms.{Terms}
use Rattle.z_types.specs.declared.scan.ScanAnswer.{ScanAnswer}
use Rattle.leg.specs.Rules.{next_ask}
use Rattle.leg.specs.Tasks.{want_of}

-- entries or a diagnostic were heard
abbrev pub IsScanReply : Heard → Type 0
IsScanReply (look.Scanned entries) = Unit {0}
IsScanReply (look.Refused diag) = Unit {0}
IsScanReply reply = ⊥

-- records or a diagnostic were heard
abbrev pub IsPresentReply : Heard → Type 0
IsPresentReply (look.Items items) = Unit {0}
IsPresentReply (look.Refused diag) = Unit {0}
IsPresentReply reply = ⊥

-- a diagnostic was heard
abbrev pub IsRefusal : Heard → Type 0
IsRefusal (look.Refused diag) = Unit {0}
IsRefusal reply = ⊥

module _ {W S : Type 0} (w : world.Ghosts W) (t : sitting.Ghosts S W) where
  -- the reply to the Init
  abbrev pub InitHeard : Task → Held S → Heard → Type 0
  InitHeard task held look.Opened = IsBefore w t resting task held
  InitHeard task held look.NotYet = IsBefore w t opening task held
  InitHeard task held look.Failed = Unit {0}
  InitHeard task held look.Memory = Unit {0}
  InitHeard task held reply = ⊥

  -- a search of the leg's own key succeeded, under the name of a slot that no set of the table has
  pub record IsFound (task : Task) (held : Held S) (slot hits : ℕ) : Type 0 where
    pub key : SetKey
    pub wants : want_of task ≡ Some key
    pub rests : IsHeld w t resting held
    pub room : IsRoom held.parts.table slot
    pub small : slot < 2 ^ 32
    pub count : hits ≤ most_number
    pub lacks : set_of key held.parts.table ≡ None
    pub made : t.made held.parts.session (slot_name slot) ≡ Some (key, hits)
    pub right : w.told held.parts.address → w.search held.parts.address key ≡ Ok hits

  -- it was refused
  pub record IsUnfound (task : Task) (held : Held S) (diag : Diag) : Type 0 where
    pub key : SetKey
    pub wants : want_of task ≡ Some key
    pub rests : IsHeld w t resting held
    pub right : w.told held.parts.address → w.search held.parts.address key ≡ Err diag

  -- the reply to a search under a slot
  abbrev pub SearchHeard : Task → Held S → (slot : ℕ) → Heard → Type 0
  SearchHeard task held slot (look.Hits hits) = IsFound task held slot hits
  SearchHeard task held slot (look.Refused diag) = IsUnfound task held diag
  SearchHeard task held slot look.NotYet = IsSearching w t task held slot
  SearchHeard task held slot look.Failed = Unit {0}
  SearchHeard task held slot look.Memory = Unit {0}
  SearchHeard task held slot reply = ⊥

  -- some of the records that are left came, the next first; or the diagnostic in place of the next
  abbrev pub AreNext : Task → Held S → List Item → List Item → Type 0
  AreNext (Records key first count syntax element) held items others =
      (1 ≤ length others) × (length items + length others ≤ count)
      × (w.told held.parts.address
      → AreRecords (λ position. w.record_ held.parts.address key position syntax element)
      (first + length items) others)
  AreNext task held items others = ⊥

  abbrev pub IsNextRefused : Task → Held S → List Item → Diag → Type 0
  IsNextRefused (Records key first count syntax element) held items diag =
      w.told held.parts.address
      → w.record_ held.parts.address key (first + length items) syntax element ≡ Err diag
  IsNextRefused task held items diag = ⊥

  -- the reply to a present of the records that are left
  abbrev pub PresentHeard : Task → Held S → List Item → (slot : ℕ) → Heard → Type 0
  PresentHeard task held items slot (look.Items others) =
      IsHeld w t resting held × AreNext task held items others
  PresentHeard task held items slot (look.Refused diag) =
      IsHeld w t resting held × IsNextRefused task held items diag
  PresentHeard task held items slot look.Gone = IsHeld w t resting held
  PresentHeard task held items slot look.NotYet = IsFetching w t (next_ask task items slot) held
  PresentHeard task held items slot look.Failed = Unit {0}
  PresentHeard task held items slot look.Memory = Unit {0}
  PresentHeard task held items slot reply = ⊥

  -- the leg's own scan was answered as the world says
  abbrev pub ScanIs : Terms → Task → Held S → Result ScanAnswer Diag → Type 0
  ScanIs terms (Scan scan) held found =
      w.told held.parts.address → w.scan held.parts.address terms.dbs scan ≡ found
  ScanIs terms task held found = ⊥

  -- the reply to a scan
  abbrev pub ScanHeard : Terms → Task → Held S → Heard → Type 0
  ScanHeard terms task held (look.Scanned entries) =
      IsHeld w t resting held × ScanIs terms task held (Ok entries)
  ScanHeard terms task held (look.Refused diag) =
      IsHeld w t resting held × ScanIs terms task held (Err diag)
  ScanHeard terms task held look.NotYet = TableKept w t held.parts × IsScanning w t terms task held
  ScanHeard terms task held look.Failed = Unit {0}
  ScanHeard terms task held look.Memory = Unit {0}
  ScanHeard terms task held reply = ⊥
