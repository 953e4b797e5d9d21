-- That a session with a target may go to another thread as its link may
use denote.RattleType.{RattleType}
use denote.Exit.{Last, if_kept, unseen, left}
use base.Shift.{Keyless}
use Rattle.std.proofs.Common.{Bool, true, false}
use denote.Param.Send.{IsSend, sendable, view_send, recorded_send, struct_send}
use denote.Struct.Declared as Declared
use Rattle.std.proofs.Crossing as crossing
use Rattle.std.proofs.marker.PhantomData.TheSendSync as phantom
use Rattle.z_types.proofs.query.Rpn.TheLaws.TheKnot as knot
use Rattle.z_types.specs.contracts.address.Address as Address
use Rattle.z_types.proofs.address.Address.TheSendSync as address
use Rattle.z_ber.specs.contracts.scan.Scan as Scan
use Rattle.z_ber.proofs.scan.Scan.TheSendSync as scan
use Rattle.z_client.specs.contracts.sets.FoundSet as FoundSet
use Rattle.z_client.specs.contracts.sets.Waiting as Waiting
use Rattle.z_types.specs.declared.world.World as World
use Rattle.gw_outside.specs.declared.links.Linked as Linked
use Rattle.z_client.specs.contracts.session.LinkParts as LinkParts
use Rattle.z_client.specs.contracts.session.ZSession as ZSession
use Rattle.std.specs.contracts.alloc.Global as Global
use Rattle.std.specs.contracts.vec.Vec as Vec
use Rattle.std.specs.contracts.impls.GlobalAllocator.TheImpl as global
use Rattle.z_client.specs.contracts.session.ZSession.TheInside as inside

scan_field : IsSend ((Scan.the_field).row)
scan_field = search (crossing.crosses, scan.the_field_send, sendable) depth 60 fits 20000

address_field : IsSend ((Address.the_field).row)
address_field = search (crossing.crosses, knot.crosses, address.the_field_send, sendable) depth 60 fits 20000

found_send : IsSend FoundSet.the_row
found_send = search (crossing.crosses, knot.crosses, sendable) depth 60 fits 20000

waiting_field : IsSend ((Waiting.the_field).row)
waiting_field = search (crossing.crosses, knot.crosses, sendable) depth 60 fits 20000

made_send : IsSend (Vec.the_row FoundSet.the_row Global.the_row global.ghosts)
made_send = search (found_send, crossing.crosses, sendable) depth 60 fits 20000

parts_field : (L : RattleType) → IsSend L → IsSend ((LinkParts.the_field L).row)
parts_field L b = search (b, scan_field, address_field, made_send, waiting_field, crossing.crosses, knot.crosses, sendable) depth 60 fits 20000

module _ (W L : RattleType) (w : World.Ghosts W.Denot) (l : Linked.Ghosts L.Denot) where
  -- a session with a target
  pub session_send : IsSend L → IsSend (ZSession.the_row W L w l)
  session_send b =
      view_send (inside.the_row W L w l) _ _ _ _
      (recorded_send (inside.the_field W L w l).row _ _ (inside.the_type W L w l).to_one
      (struct_send (Declared.shape (inside.the_type W L w l)) (parts_field L b, (phantom.the_field_send W, tt))))

-- what a value that owns no borrow leaves behind is nothing of one thread
pub unseen_quiet : {D : Type 0} (m : Bool) (x : D) (w : Last (if_kept m (unseen {D = D}) (unseen {D = D})) x) → Keyless (left (if_kept m (unseen {D = D}) (unseen {D = D})) x w)
unseen_quiet true x w = tt
unseen_quiet false x w = tt
