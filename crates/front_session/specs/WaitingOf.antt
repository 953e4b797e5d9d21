-- For contracts alone: a request that waits, as contracts see it (this project's own)
use Rattle.front_session.specs.Sessions.{Waiting}
use Rattle.front_session.specs.declared.settle.Pending.{Pending}

-- a request that waits
abbrev pub waiting_of : Pending → Waiting
waiting_of pending = record { request = pending.request; work = pending.work }
