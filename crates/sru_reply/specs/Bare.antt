-- Replies without a body (RFC 9110, 15.5.1, 15.5.5 and 15.5.6)
use Rattle.std.specs.Prelude.{ℕ, List, [], codes}
use Rattle.sru_reply.specs.declared.bare.Refusal.{Refusal}
use Rattle.sru_reply.specs.declared.bare.Refusal.TheVariants.{BadRequest, NotFound, MethodNotAllowed}
use Rattle.sru_reply.specs.Message.{message}

-- the code of a status, and its text
abbrev pub status_text : Refusal → List ℕ
status_text BadRequest = codes "400 Bad Request"
status_text NotFound = codes "404 Not Found"
status_text MethodNotAllowed = codes "405 Method Not Allowed"

-- the message of a status
abbrev pub bare : Refusal → List ℕ
bare refusal = message (status_text refusal) []
