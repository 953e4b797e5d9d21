-- For contracts alone: what follows a work of a GET (this project's own)
use Rattle.sru_rules.specs.gateway_rules.Works.{CanBegin, IsAskable}
use Rattle.sru_rules.specs.Settling.{Next, answered, fetches}
use Rattle.front_sru.specs.declared.end.Followed.{Followed}
use Rattle.front_sru.specs.declared.end.Followed.TheVariants.{Answered, Fetches}

-- what it is
abbrev pub next_in : Followed → Next
next_in (Answered answer) = answered answer
next_in (Fetches hits work) = fetches hits work

-- a work that is handed out can begin, and its legs may be asked for it
abbrev pub IsReady : Followed → Type 0
IsReady (Answered answer) = Unit {0}
IsReady (Fetches hits work) = CanBegin work × IsAskable work
