-- That a link may go to another thread, with a test target or with one at a host
use denote.Param.Send.{IsSend, sendable, struct_send}
use denote.Struct.Declared as Declared
use Rattle.std.proofs.Crossing as crossing
use Rattle.z_types.proofs.query.Rpn.TheLaws.TheKnot as knot
use Rattle.std.specs.contracts.alloc.Global as Global
use Rattle.std.specs.contracts.vec.Vec as Vec
use Rattle.std.specs.contracts.impls.GlobalAllocator.TheImpl as global
use Rattle.bytes.specs.contracts.unique.BytesMut as BytesMut
use Rattle.bytes.proofs.unique.BytesMut.TheSendSync as octets
use Rattle.tcp_edge.specs.contracts.links.EdgeLink as EdgeLink
use Rattle.tcp_edge.specs.contracts.links.TcpLink as TcpLink
use Rattle.tcp_edge.specs.contracts.prompt.PromptLink as PromptLink
use Rattle.tcp_edge.specs.test_wire.contracts.links.TestLink as TestLink
use Rattle.tcp_edge.specs.test_wire.contracts.owed.Owed as Owed
use Rattle.test_target.specs.contracts.peers.Peer as Peer

peer_field : IsSend ((Peer.the_field).row)
peer_field = search (crossing.crosses, knot.crosses, sendable) depth 60 fits 20000

owed_send : IsSend Owed.the_row
owed_send = search (crossing.crosses, knot.crosses, sendable) depth 60 fits 20000

owed_list : IsSend (Vec.the_row Owed.the_row Global.the_row global.ghosts)
owed_list = search (owed_send, crossing.crosses, sendable) depth 60 fits 20000

octets_send : IsSend (BytesMut.the_row Global.the_row global.ghosts)
octets_send = search (octets.the_send, crossing.crosses, sendable) depth 60 fits 20000

test_field : IsSend ((TestLink.the_field).row)
test_field = struct_send (Declared.shape TestLink.the_type) (peer_field, (search sendable depth 20, (octets_send, (owed_list, tt))))

socket_field : IsSend ((TcpLink.the_field).row)
socket_field = search (octets_send, crossing.crosses, sendable) depth 60 fits 20000

prompt_field : IsSend ((PromptLink.the_field).row)
prompt_field =
    struct_send (Declared.shape PromptLink.the_type) (
      socket_field,
      (
        search sendable depth 20,
        (
          search sendable depth 20,
          (search sendable depth 20, (octets_send, (search sendable depth 20, (search (crossing.crosses, sendable) depth 60 fits 20000, tt)))),
        ),
      ),
    )

link_field : IsSend ((EdgeLink.the_field).row)
link_field = search (test_field, socket_field, prompt_field, crossing.crosses, sendable) depth 60 fits 20000

-- a link
pub link_send : IsSend EdgeLink.the_row
link_send = search (link_field, sendable) depth 60 fits 20000
