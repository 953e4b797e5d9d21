-- What is written is read again as itself (ANSI/NISO Z39.50-2003, the ASN.1 of its APDUs).
use Rattle.std.specs.Prelude.{◌≡◌, ◌≤◌, length, Ok}
use Rattle.z_types.specs.Bounds.{most_unit_octets}
use Rattle.z_types.specs.OneValue.{HasOneValue}
use Rattle.z_types.specs.declared.requests.Request.{Request}
use Rattle.z_types.specs.declared.replies.Reply.{Reply}
use Rattle.z_ber.specs.Element.{Forest}
use Rattle.z_ber.specs.Place.{IsUnit}
use Rattle.unit_forms.specs.Requests.{spell_request}
use Rattle.unit_forms.specs.Replies.{spell_reply}
use Rattle.unit_forms.specs.Reading.Units.{request_in, reply_in}
use Rattle.z_laws.specs.Readable.{IsReadable}
use Rattle.z_laws.specs.ReadableReplies.{IsReadableReply}
use Rattle.z_laws.specs.Shallow.{IsShallow, IsShallowReply}

-- a request whose written form is a unit is read as itself from the unit's tree
abbrev pub WrittenRequestsAreRead : Type 0
WrittenRequestsAreRead =
    (request : Request) (tree : Forest) → IsReadable request → IsUnit (spell_request request) tree →
    request_in tree ≡ Ok request

-- a reply whose written form is a unit is read as itself from the unit's tree
abbrev pub WrittenRepliesAreRead : Type 0
WrittenRepliesAreRead =
    (reply : Reply) (tree : Forest) → IsReadableReply reply → IsUnit (spell_reply reply) tree →
    reply_in tree ≡ Ok reply

-- the written form of a request on few enough levels and of few enough octets is a unit
abbrev pub WrittenRequestsAreUnits : Type 0
WrittenRequestsAreUnits =
    (request : Request) → IsShallow request → length (spell_request request) ≤ most_unit_octets →
    (tree : Forest) × IsUnit (spell_request request) tree

-- so is that of a reply that is read
abbrev pub WrittenRepliesAreUnits : Type 0
WrittenRepliesAreUnits =
    (reply : Reply) → IsReadableReply reply → IsShallowReply reply
    → length (spell_reply reply) ≤ most_unit_octets →
    (tree : Forest) × IsUnit (spell_reply reply) tree

-- a request that is read from its written form, and this is a unit
abbrev pub IsReadableUnit : Request → Type 0
IsReadableUnit request = IsReadable request × (tree : Forest) × IsUnit (spell_request request) tree

-- octets are the written form of one such request at most
abbrev pub WrittenRequestsAreOne : Type 0
WrittenRequestsAreOne = HasOneValue IsReadableUnit spell_request

-- a reply that is read from its written form, and this is a unit
abbrev pub IsReadableReplyUnit : Reply → Type 0
IsReadableReplyUnit reply =
    IsReadableReply reply × (tree : Forest) × IsUnit (spell_reply reply) tree

-- octets are the written form of one such reply at most
abbrev pub WrittenRepliesAreOne : Type 0
WrittenRepliesAreOne = HasOneValue IsReadableReplyUnit spell_reply
