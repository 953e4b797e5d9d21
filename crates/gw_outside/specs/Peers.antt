-- The target's end of a link: the result sets that it holds, and how it answers requests (ANSI/NISO
-- Z39.50-2003, 3.2.1 to 3.2.3 and 3.2.8), where it answers as its world says
use Rattle.z_types.specs.Same.{is_same}
use Rattle.std.specs.Prelude.{◌≡◌, Bool, ◌⊎◌, ℕ, ◌+◌, ◌≤◌, pos, true, false, List, [], ◌∷◌, ◌++◌, length, Option, None, Some, IfSome, Result, Ok, Err, if◌then◌else◌}
use Rattle.std.specs.List.{AllByRecursion}
use Rattle.z_types.specs.Bib1.{bib1}
use Rattle.z_types.specs.Logins.{inside}
use Rattle.z_types.specs.Tree.{Tree, leaf, operand, and, or, and_not}
use Rattle.z_types.specs.declared.address.Address.{Address}
use Rattle.z_types.specs.declared.conditions.Condition.TheVariants.{ResultSetDoesNotExist}
use Rattle.z_types.specs.declared.diagnostic.Diag.{Diag}
use Rattle.z_types.specs.declared.key.SetKey.{SetKey}
use Rattle.z_types.specs.declared.query.RpnQuery.{RpnQuery}
use Rattle.z_types.specs.declared.records.Item.{Item}
use Rattle.z_types.specs.declared.replies.Reply.{Reply}
use Rattle.z_types.specs.declared.requests.Asked.{Asked}
use Rattle.z_types.specs.declared.requests.Asked.TheVariants.{Good, Bad}
use Rattle.z_types.specs.declared.requests.Search.{Search}
use Rattle.z_types.specs.declared.requests.Present.{Present}
use Rattle.z_types.specs.declared.requests.Request.{Request}
use Rattle.z_types.specs.declared.requests.Request.TheVariants as request
use Rattle.z_types.specs.declared.scan.ScanAsk.{ScanAsk}
use Rattle.z_types.specs.declared.world.World as world
use Rattle.gw_outside.specs.Asks.{IsShort}
use Rattle.z_types.specs.Services.{has_named_result_sets}
use Rattle.gw_outside.specs.Replies.{accepts, is_accepted, search_said, present_said, scan_said}

-- a result set: its name, and its databases and query
abbrev pub NamedSet : Type 0
NamedSet = List ℕ × SetKey

-- the databases and the query of the set of a name
abbrev pub held : List NamedSet → List ℕ → Option SetKey
held [] name = None
held (first ∷ rest) name = if is_same first.0 name then Some first.1 else held rest name

-- each set stays
abbrev pub StayHeld : List NamedSet → List NamedSet → Type 0
StayHeld before after = (name : List ℕ) → held after name ≡ held before name

-- each set stays or is gone
abbrev pub AreLeft : List NamedSet → List NamedSet → Type 0
AreLeft before after =
    (name : List ℕ) → (held after name ≡ held before name) ⊎ (held after name ≡ None)

-- one name has this set now, or none; the others stay
abbrev pub ArePut : List ℕ → Option SetKey → List NamedSet → List NamedSet → Type 0
ArePut own set before after =
    (name : List ℕ) → held after name ≡ (if is_same own name then set else held before name)

-- the sets of all names but one stay
abbrev pub OthersStay : List ℕ → List NamedSet → List NamedSet → Type 0
OthersStay own before after =
    (name : List ℕ) → is_same own name ≡ false → held after name ≡ held before name

-- what stands under the name of a search after its answer
abbrev pub set_of : SetKey → Result ℕ Diag → Option SetKey
set_of key (Ok hits) = Some key
set_of key (Err diag) = None

-- no operand is a result set
abbrev pub HasNoOperand : Tree → Type 0
HasNoOperand (leaf attrs term) = Unit {0}
HasNoOperand (operand name) = ⊥
HasNoOperand (and l r) = HasNoOperand l × HasNoOperand r
HasNoOperand (or l r) = HasNoOperand l × HasNoOperand r
HasNoOperand (and_not l r) = HasNoOperand l × HasNoOperand r

-- these are the records from a position on
abbrev pub AreRecords : (ℕ → Result Item Diag) → ℕ → List Item → Type 0
AreRecords record_at first [] = Unit {0}
AreRecords record_at first (item ∷ items) =
    (record_at first ≡ Ok item) × AreRecords record_at (first + 1) items

-- some of the records that were asked for, from the first on; or the diagnostic in place of the
-- first
abbrev pub IsPresented : (ℕ → Result Item Diag) → ℕ → ℕ → Option (Result (List Item) Diag) → Type 0
IsPresented record_at first count None = ⊥
IsPresented record_at first count (Some (Ok items)) =
    (1 ≤ length items) × (length items ≤ count) × AreRecords record_at first items
IsPresented record_at first count (Some (Err diag)) = record_at first ≡ Err diag

-- that there is no such result set
abbrev pub IsNotHeld : Option (Result (List Item) Diag) → Type 0
IsNotHeld said = (addinfo : List ℕ) × (said ≡ Some (Err (bib1 ResultSetDoesNotExist addinfo)))

module _ {W : Type 0} (w : world.Ghosts W) (address : Address) where
  -- a search is answered as the world says, and puts or removes its name
  pub record IsSearched (name : List ℕ) (key : SetKey) (before after : List NamedSet)
      (answer : Reply) : Type 0 where
    pub said : search_said answer ≡ Some (w.search address key)
    pub put : ArePut name (set_of key (w.search address key)) before after

  -- what is answered to a Search: one that replaces what its name has, and has no operands that are
  -- result sets, as the world says
  abbrev pub SearchAnswered : Search → Asked RpnQuery → List NamedSet → List NamedSet
      → Reply → Type 0
  SearchAnswered search (Good query) before after answer =
      search.replace ≡ true → HasNoOperand query.root
      → IsSearched search.set_name (record { dbs = search.dbs; query = query }) before after answer
  SearchAnswered search (Bad diag) before after answer = Unit {0}

  -- what is answered to a Present of a set, where all that is asked for is within its hits
  abbrev pub SetPresented : Present → Option (List ℕ) → SetKey → Reply → Type 0
  SetPresented present element key answer =
      (first hits : ℕ) → present.start ≡ pos first → w.search address key ≡ Ok hits →
      1 ≤ first → 1 ≤ present.number → first + present.number ≤ hits + 1 →
      IsPresented (λ position. w.record_ address key position present.syntax element) first
      present.number (present_said answer)

  -- what is answered to a Present of a name
  abbrev pub PresentAnswered : Present → Asked (Option (List ℕ)) → Option SetKey → Reply → Type 0
  PresentAnswered present (Good element) None answer = IsNotHeld (present_said answer)
  PresentAnswered present (Good element) (Some key) answer = SetPresented present element key answer
  PresentAnswered present (Bad diag) set answer = Unit {0}

  -- what is answered to a Scan
  abbrev pub ScanAnswered : List (List ℕ) → Asked ScanAsk → Reply → Type 0
  ScanAnswered dbs (Good ask) answer = scan_said answer ≡ Some (w.scan address dbs ask)
  ScanAnswered dbs (Bad diag) answer = Unit {0}

  -- a request, the sets before and after it, and its answer
  abbrev pub IsPeerStep : Request → List NamedSet → List NamedSet → Reply → Type 0
  IsPeerStep (request.Init init) before after answer =
      StayHeld before after × (has_named_result_sets init.options ≡ true → accepts answer ≡ true)
  IsPeerStep (request.Search search) before after answer =
      OthersStay search.set_name before after
      × SearchAnswered search search.query before after answer
  IsPeerStep (request.Present present) before after answer =
      StayHeld before after
      × PresentAnswered present present.element (held before present.set_name) answer
  IsPeerStep (request.Scan scan) before after answer =
      StayHeld before after × ScanAnswered scan.dbs scan.ask answer
  IsPeerStep (request.Close close) before after answer = StayHeld before after

-- ---- the end of a link

-- the address that was dialled, the login of the last Init that was accepted, if that had one, the
-- sets that are held, and the replies that have not arrived, in their order
pub record Peer : Type 0 where
  pub address : Address
  pub login : Option (List ℕ)
  pub sets : List NamedSet
  pub owed : List Reply

-- the peer of a new link
abbrev pub new_peer : Address → Peer
new_peer address = record { address = address; login = None; sets = []; owed = [] }

-- the address by which it answers
abbrev pub answers_at : Peer → Address
answers_at peer = inside peer.login peer.address

-- the login behind a request: an Init that is accepted sets its own, or none
abbrev pub login_after : Option (List ℕ) → Request → Reply → Option (List ℕ)
login_after login (request.Init init) answer = if is_accepted answer then init.login else login
login_after login other answer = login

-- a peer takes a request: some of its sets are left when it comes, in a steady world those that it
-- is to find, and the reply is owed
pub record TakesRequest {W : Type 0} (w : world.Ghosts W) (steady : Bool) (found : List NamedSet)
    (request : Request) (old new : Peer) : Type 0 where
  pub left : List NamedSet
  pub answer : Reply
  pub are_left : AreLeft old.sets left
  pub are_found : steady ≡ true → StayHeld found left
  pub step : IsPeerStep w (answers_at old) request left new.sets answer
  pub owed : new.owed ≡ old.owed ++ answer ∷ []
  pub address : new.address ≡ old.address
  pub login : new.login ≡ login_after old.login request answer

-- ---- requests whose replies are units

-- the texts of what is asked, terms aside, are short
abbrev pub IsShortIf : Option (List ℕ) → Type 0
IsShortIf text = IfSome text IsShort

abbrev pub HasShortName : Asked (Option (List ℕ)) → Type 0
HasShortName (Good name) = IsShortIf name
HasShortName (Bad diag) = Unit {0}

-- the names of operands that are result sets
abbrev pub HasShortOperands : Tree → Type 0
HasShortOperands (leaf attrs term) = Unit {0}
HasShortOperands (operand name) = IsShort name
HasShortOperands (and l r) = HasShortOperands l × HasShortOperands r
HasShortOperands (or l r) = HasShortOperands l × HasShortOperands r
HasShortOperands (and_not l r) = HasShortOperands l × HasShortOperands r

abbrev pub HasShortQuery : Asked RpnQuery → Type 0
HasShortQuery (Good query) = HasShortOperands query.root
HasShortQuery (Bad diag) = Unit {0}

pub record IsShortSearch (search : Search) : Type 0 where
  pub ref_id : IsShortIf search.ref_id
  pub name : IsShort search.set_name
  pub dbs : AllByRecursion IsShort search.dbs
  pub small_element : IsShortIf search.small_element
  pub medium_element : IsShortIf search.medium_element
  pub query : HasShortQuery search.query

-- a request whose texts, terms aside, are short
abbrev pub IsShortRequest : Request → Type 0
IsShortRequest (request.Init init) = IsShortIf init.ref_id
IsShortRequest (request.Search search) = IsShortSearch search
IsShortRequest (request.Present present) =
    IsShortIf present.ref_id × IsShort present.set_name × HasShortName present.element
IsShortRequest (request.Scan scan) = IsShortIf scan.ref_id × AllByRecursion IsShort scan.dbs
IsShortRequest (request.Close close) = IsShortIf close.ref_id × IsShortIf close.info
