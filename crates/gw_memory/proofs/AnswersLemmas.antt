-- What an answer to an ask is (this project's own)
use Rattle.std.proofs.Common.{◌≡◌, ℕ, List, false, Option, None, Some, refl}
use Rattle.z_types.specs.Pending.{asked}
use Rattle.z_types.specs.declared.address.Address.{Address}
use Rattle.z_types.specs.declared.ask.Ask.{Ask}
use Rattle.z_types.specs.declared.ask.Ask.TheVariants.{Search, Present, Scan}
use Rattle.z_types.specs.declared.key.SetKey.{SetKey}
use Rattle.z_types.specs.declared.world.World as world
use Rattle.gw_outside.specs.declared.backends.Heard.{Heard}
use Rattle.gw_outside.specs.declared.backends.Heard.TheVariants.{Opened, Hits, Refused, Items, Gone, Scanned, NotYet, Failed, Memory}
use Rattle.gw_outside.specs.Sessions.{Made, Fits, IsWorlds, RecordsOf, heard_counted}
use Rattle.gw_memory.specs.FakeSessions.{Answers}

module _ {W : Type 0} (w : world.Ghosts W) (address : Address) (made : Made) where
  -- it is ready
  pub answers_ready : (ask : Ask) (heard : Heard) → Answers w address made ask heard → (heard_counted heard).wait ≡ false
  answers_ready ask Opened h = refl
  answers_ready ask (Hits hits) h = refl
  answers_ready ask (Refused diag) h = refl
  answers_ready ask (Items items) h = refl
  answers_ready ask Gone h = refl
  answers_ready ask (Scanned answer) h = refl
  answers_ready ask NotYet h = absurd h.0
  answers_ready ask Failed h = refl
  answers_ready ask Memory h = refl

  -- it fits the ask
  pub answers_fit : (ask : Ask) (heard : Heard) → Answers w address made ask heard → Fits (asked ask) heard
  answers_fit ask Opened h = h.1
  answers_fit ask (Hits hits) h = h.1
  answers_fit ask (Refused diag) h = h.1
  answers_fit ask (Items items) h = h.1
  answers_fit ask Gone h = h.1
  answers_fit ask (Scanned answer) h = h.1
  answers_fit ask NotYet h = tt
  answers_fit ask Failed h = tt
  answers_fit ask Memory h = tt

  no_records : (set : Option (SetKey × ℕ)) (syntax element : Option (List ℕ)) (first : ℕ) → RecordsOf w address set syntax element first Memory
  no_records None syntax element first = tt
  no_records (Some set) syntax element first = tt

  nothing_heard : (ask : Ask) → IsWorlds w address made (asked ask) Memory
  nothing_heard (Search name key) = tt
  nothing_heard (Present name first count syntax element) = no_records (made name) syntax element first
  nothing_heard (Scan dbs ask) = tt

  -- it is the world's
  pub answers_worlds : (ask : Ask) (heard : Heard) → Answers w address made ask heard → IsWorlds w address made (asked ask) heard
  answers_worlds ask Opened h = h.2
  answers_worlds ask (Hits hits) h = h.2
  answers_worlds ask (Refused diag) h = h.2
  answers_worlds ask (Items items) h = h.2
  answers_worlds ask Gone h = h.2
  answers_worlds ask (Scanned answer) h = h.2
  answers_worlds ask NotYet h = absurd h.0
  answers_worlds ask Failed h = absurd h.0
  answers_worlds ask Memory h = nothing_heard ask

  -- it is no failure
  pub answers_not_failed : (ask : Ask) (heard : Heard) → Answers w address made ask heard → (heard_counted heard).fault ≡ false
  answers_not_failed ask Opened h = refl
  answers_not_failed ask (Hits hits) h = refl
  answers_not_failed ask (Refused diag) h = refl
  answers_not_failed ask (Items items) h = refl
  answers_not_failed ask Gone h = refl
  answers_not_failed ask (Scanned answer) h = refl
  answers_not_failed ask NotYet h = refl
  answers_not_failed ask Failed h = absurd h.0
  answers_not_failed ask Memory h = refl
