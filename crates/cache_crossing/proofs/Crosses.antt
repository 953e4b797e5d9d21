-- That a store of records may go to another thread
use denote.RattleType.{RattleType}
use denote.Exit.{Last, if_kept, unseen, left}
use base.Shift.{Keyless}
use Rattle.std.proofs.Common.{Bool, true, false}
use denote.Param.Send.{IsSend, IsSync, sendable, view_send, recorded_send, struct_send}
use denote.Struct.Declared as Declared
use Rattle.std.proofs.Crossing as crossing
use Rattle.std.proofs.MapsCrossing as maps
use Rattle.std.proofs.marker.PhantomData.TheSendSync as phantom
use Rattle.lru.proofs.list.List.TheSendSync as nodes
use Rattle.lru.proofs.entry.Deed.TheSendSync as deed
use Rattle.lru.proofs.key_ref.KeyRef.TheSendSync as key_ref
use Rattle.z_types.proofs.query.Rpn.TheLaws.TheKnot as knot
use Rattle.z_types.specs.declared.world.World as World
use Rattle.z_types.proofs.address.Address.TheSendSync as address
use Rattle.record_cache.proofs.seed.Seed.TheSendSync as seed
use Rattle.z_types.specs.declared.sitting.Sitting as Sitting
use Rattle.z_types.specs.contracts.address.Address as Address
use Rattle.record_cache.specs.contracts.keys.RecordKey as RecordKey
use Rattle.cache_backend.specs.contracts.known.Searched as Searched
use Rattle.cache_backend.specs.contracts.sessions.Awaited as Awaited
use Rattle.cache_backend.specs.contracts.sessions.CachedParts as CachedParts
use Rattle.cache_backend.specs.contracts.sessions.CachedSession as CachedSession
use Rattle.cache_backend.specs.contracts.sessions.CachedSession.TheInside as session_inside
use Rattle.record_cache.specs.contracts.entries.Entries as Entries
use Rattle.record_cache.specs.contracts.cache.RecordCache as RecordCache
use Rattle.record_cache.specs.contracts.cache.RecordCache.TheInside as inside
use Rattle.std.specs.contracts.alloc.Global as Global
use Rattle.std.specs.contracts.sync.Mutex as Mutex
use Rattle.std.specs.contracts.vec.Vec as Vec
use Rattle.std.specs.contracts.impls.GlobalAllocator.TheImpl as global

-- the entries, which stand in nodes of lru
entries_field : IsSend ((Entries.the_field).row)
entries_field =
    struct_send (Declared.shape Entries.the_type) (
      search (nodes.the_send, deed.the_send, key_ref.the_send, maps.crosses, crossing.crosses, knot.crosses, sendable) depth 60 fits 20000,
      (search (seed.the_field_send, crossing.crosses, sendable) depth 20, (search sendable depth 20, tt)),
    )

-- the store
module _ (W : RattleType) (w : World.Ghosts W.Denot) where
  pub cache_send : IsSend (RecordCache.the_row W w)
  cache_send =
      view_send (inside.the_row W w) _ _ _ _
      (recorded_send (inside.the_field W w).row _ _ (inside.the_type W w).to_one
      (struct_send (Declared.shape (inside.the_type W w)) (entries_field, (phantom.the_field_send W, tt))))

  -- one behind a lock may be shared
  pub lock_sync : IsSync (Mutex.the_row (RecordCache.the_row W w))
  lock_sync = let s = cache_send in search (s, crossing.crosses, sendable) depth 20

-- ---- a session whose Presents a store answers

address_field : IsSend ((Address.the_field).row)
address_field = search (crossing.crosses, knot.crosses, address.the_field_send, sendable) depth 60 fits 20000

key_field : IsSend ((RecordKey.the_field).row)
key_field = search (address_field, crossing.crosses, knot.crosses, sendable) depth 60 fits 20000

searched_send : IsSend Searched.the_row
searched_send = search (crossing.crosses, knot.crosses, sendable) depth 60 fits 20000

all_searched_send : IsSend (Vec.the_row Searched.the_row Global.the_row global.ghosts)
all_searched_send = search (searched_send, crossing.crosses, sendable) depth 60 fits 20000

awaited_field : IsSend ((Awaited.the_field).row)
awaited_field = search (key_field, crossing.crosses, knot.crosses, sendable) depth 60 fits 20000

parts_field : (S : RattleType) → IsSend S → IsSend ((CachedParts.the_field S).row)
parts_field S s = search (s, address_field, all_searched_send, awaited_field, crossing.crosses, knot.crosses, sendable) depth 60 fits 20000

module _ (W S : RattleType) (w : World.Ghosts W.Denot) (s : Sitting.Ghosts S.Denot W.Denot) where
  pub session_send : IsSend S → IsSend (CachedSession.the_row W S w s)
  session_send b =
      view_send (session_inside.the_row W S w s) _ _ _ _
      (recorded_send (session_inside.the_field W S w s).row _ _ (session_inside.the_type W S w s).to_one
      (struct_send (Declared.shape (session_inside.the_type W S w s)) (parts_field S b, (phantom.the_field_send W, tt))))

-- what a value that owns no borrow leaves behind is nothing of one thread
pub unseen_quiet : {D : Type 0} (m : Bool) (x : D) (w : Last (if_kept m (unseen {D = D}) (unseen {D = D})) x) → Keyless (left (if_kept m (unseen {D = D}) (unseen {D = D})) x w)
unseen_quiet true x w = tt
unseen_quiet false x w = tt
