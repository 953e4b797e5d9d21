-- That a session with its table, and a pool of them, may go to another thread as the session may
use denote.RattleType.{RattleType}
use denote.Exit.{Last, if_kept, unseen, left}
use base.Shift.{Keyless}
use Rattle.std.proofs.Common.{Bool, true, false}
use denote.Param.Send.{IsSend, sendable, view_send, recorded_send, struct_send}
use denote.Struct.Declared as Declared
use Rattle.std.proofs.Crossing as crossing
use Rattle.std.proofs.MapsCrossing as maps
use Rattle.std.proofs.marker.PhantomData.TheSendSync as phantom
use Rattle.lru.proofs.list.List.TheSendSync as nodes
use Rattle.lru.proofs.entry.Deed.TheSendSync as deed
use Rattle.lru.proofs.key_ref.KeyRef.TheSendSync as key_ref
use Rattle.z_types.proofs.query.Rpn.TheLaws.TheKnot as knot
use Rattle.z_types.specs.declared.world.World as World
use Rattle.z_types.specs.declared.sitting.Sitting as Sitting
use Rattle.z_types.specs.contracts.address.Address as Address
use Rattle.z_types.proofs.address.Address.TheSendSync as address
use Rattle.pool_sets.specs.contracts.table.SetTable as SetTable
use Rattle.pool_sets.specs.contracts.pooled.Parts as Parts
use Rattle.pool_sets.specs.contracts.pooled.Pooled as Pooled
use Rattle.pool_sets.specs.contracts.pooled.Pooled.TheInside as inside
use Rattle.pool_sets.specs.contracts.sessions.Open as Open
use Rattle.pool_sets.proofs.sessions.Open.TheSendSync as open_
use Rattle.pool_core.specs.contracts.pool.Pool as Pool
use Rattle.pool_core.specs.contracts.pool.Pool.TheInside as pool_inside
use Rattle.pool_core.specs.contracts.spot.Spot as Spot
use Rattle.pool_core.proofs.spot.Spot.TheSendSync as spot
use Rattle.pool_keys.specs.declared.digest.Digest as Digest
use Rattle.pool_keys.proofs.index.KeyIndex.TheSendSync as index
use Rattle.pool_roster.specs.contracts.berth.Berth as Berth
use Rattle.pool_roster.proofs.berth.Berth.TheSendSync as berth
use Rattle.pool_roster.specs.contracts.roster.Roster as Roster
use Rattle.pool_roster.specs.contracts.roster.Roster.TheInside as roster_inside
use Rattle.pool_index.specs.contracts.tally.Tally as Tally
use Rattle.pool_index.specs.contracts.register.Register as Register
use Rattle.pool_index.specs.contracts.register.Register.TheInside as register_inside
use Rattle.pool_index.specs.contracts.pool.IndexedPool as IndexedPool
use Rattle.pool_index.specs.contracts.pool.IndexedPool.TheInside as indexed_inside
use Rattle.std.specs.contracts.alloc.Global as Global
use Rattle.std.specs.contracts.vec.Vec as Vec
use Rattle.std.specs.contracts.impls.GlobalAllocator.TheImpl as global

-- a table, whose sets stand in nodes of lru
pub table_send : IsSend SetTable.the_row
table_send = search (nodes.the_send, deed.the_send, key_ref.the_send, maps.crosses, crossing.crosses, knot.crosses, sendable) depth 60 fits 20000

table_field : IsSend (SetTable.the_field).row
table_field = search (nodes.the_send, deed.the_send, key_ref.the_send, maps.crosses, crossing.crosses, knot.crosses, sendable) depth 60 fits 20000

address_field : IsSend (Address.the_field).row
address_field = search (crossing.crosses, knot.crosses, address.the_field_send, sendable) depth 60 fits 20000

parts_field : (S : RattleType) → IsSend S → IsSend ((Parts.the_field S).row)
parts_field S s = search (table_field, address_field, crossing.crosses, sendable) depth 60 fits 20000

module _ (W S : RattleType) (w : World.Ghosts W.Denot) (s : Sitting.Ghosts S.Denot W.Denot) where
  -- a session with its table
  pub pooled_send : IsSend S → IsSend (Pooled.the_row W S w s)
  pooled_send b =
      view_send (inside.the_row W S w s) _ _ _ _
      (recorded_send (inside.the_field W S w s).row _ _ (inside.the_type W S w s).to_one
      (struct_send (Declared.shape (inside.the_type W S w s)) (parts_field S b, (phantom.the_field_send W, tt))))

  -- one of a pool, beside the address of one that is out
  pub open_send : (A : RattleType) → IsSend S → IsSend A → IsSend (Open.the_row (Pooled.the_row W S w s) A)
  open_send A b a = open_.the_send (Pooled.the_row W S w s) A (pooled_send b) a

  sessions_send : IsSend S → IsSend (Vec.the_row (Open.the_row (Pooled.the_row W S w s) Spot.the_row) Global.the_row global.ghosts)
  sessions_send b = let o = open_send Spot.the_row b spot.the_send in search (o, crossing.crosses, sendable) depth 60 fits 20000

  -- a pool of them
  pub pool_send : IsSend S → IsSend (Pool.the_row W S w s)
  pool_send b =
      view_send (pool_inside.the_row W S w s) _ _ _ _
      (recorded_send (pool_inside.the_field W S w s).row _ _ (pool_inside.the_type W S w s).to_one
      (struct_send (Declared.shape (pool_inside.the_type W S w s)) (sessions_send b, search sendable depth 20)))

tally_send : IsSend Tally.the_row
tally_send = search (crossing.crosses, knot.crosses, address.the_field_send, sendable) depth 60 fits 20000

tallies_send : IsSend (Vec.the_row Tally.the_row Global.the_row global.ghosts)
tallies_send = let t = tally_send in search (t, crossing.crosses, sendable) depth 60 fits 20000

module _ (W S D : RattleType) (w : World.Ghosts W.Denot) (s : Sitting.Ghosts S.Denot W.Denot) (d : Digest.Ghosts D.Denot) where
  berths_send : IsSend S → IsSend (Vec.the_row (Berth.the_row (Open.the_row (Pooled.the_row W S w s) Spot.the_row)) Global.the_row global.ghosts)
  berths_send b =
      let o = berth.the_send (Open.the_row (Pooled.the_row W S w s) Spot.the_row) (open_send W S w s Spot.the_row b spot.the_send) in
      search (o, crossing.crosses, sendable) depth 60 fits 20000

  roster_send : IsSend S → IsSend (Roster.the_row W S D w s d)
  roster_send b =
      view_send (roster_inside.the_row W S D w s d) _ _ _ _
      (recorded_send (roster_inside.the_field W S D w s d).row _ _ (roster_inside.the_type W S D w s d).to_one
      (struct_send (Declared.shape (roster_inside.the_type W S D w s d))
      (berths_send b, search (index.the_send, phantom.the_field_send D, sendable) depth 20)))

  register_send : IsSend S → IsSend (Register.the_row W S D w s d)
  register_send b =
      view_send (register_inside.the_row W S D w s d) _ _ _ _
      (recorded_send (register_inside.the_field W S D w s d).row _ _ (register_inside.the_type W S D w s d).to_one
      (struct_send (Declared.shape (register_inside.the_type W S D w s d)) (roster_send b, (index.the_send, (tallies_send, tt)))))

  -- a pool of them by indexes
  pub indexed_send : IsSend S → IsSend (IndexedPool.the_row W S D w s d)
  indexed_send b =
      view_send (indexed_inside.the_row W S D w s d) _ _ _ _
      (recorded_send (indexed_inside.the_field W S D w s d).row _ _ (indexed_inside.the_type W S D w s d).to_one
      (struct_send (Declared.shape (indexed_inside.the_type W S D w s d)) (register_send b, search sendable depth 20)))

-- what a value that owns no borrow leaves behind is nothing of one thread
pub unseen_quiet : {D : Type 0} (m : Bool) (x : D) (w : Last (if_kept m (unseen {D = D}) (unseen {D = D})) x) → Keyless (left (if_kept m (unseen {D = D}) (unseen {D = D})) x w)
unseen_quiet true x w = tt
unseen_quiet false x w = tt
