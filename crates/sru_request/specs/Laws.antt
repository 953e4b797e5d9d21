-- What is true of the octets of a connection, whatever reads them (this project's own)
use Rattle.std.specs.Prelude.{◌≢◌, ℕ, List, ◌++◌, Result, Ok}
use Rattle.sru_request.specs.declared.faults.HeadFault.{HeadFault}
use Rattle.sru_request.specs.declared.head.HeadGot.{HeadGot}
use Rattle.sru_request.specs.declared.head.HeadGot.TheVariants.{NeedMore}
use Rattle.sru_request.specs.Request.{IsHeadAnswer}

-- what is answered to octets that have a head, or more of them than a head may have, stays whatever
-- follows them
abbrev pub HeadStays : List ℕ → Type 0
HeadStays octets =
    (more : List ℕ) (answer : Result HeadGot HeadFault)
    → answer ≢ Ok NeedMore → IsHeadAnswer octets answer → IsHeadAnswer (octets ++ more) answer
