-- For contracts alone: a session as contracts see it (this project's own)
use Rattle.std.specs.Prelude.{option_map}
use Rattle.front_session.specs.Sessions.{SessionState}
use Rattle.front_session.specs.WaitingOf.{waiting_of}
use Rattle.front_session.specs.declared.session.FrontSession.TheInside.{Inside}

-- what is kept of a client
abbrev pub state_of : Inside → SessionState
state_of s = record {
  accepted = s.accepted;
  units = s.units;
  agreed = s.agreed;
  searches = s.searches;
  records = s.records;
  sets = s.sets;
  waiting = option_map waiting_of s.pending;
}
