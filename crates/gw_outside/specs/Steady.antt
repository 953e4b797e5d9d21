-- What befalls sessions with targets over a steady wire, at addresses that are told
-- (this project's own): calls fail where links are cut alone, replies come after the looks that
-- were stated, and a set is gone where that was made to happen
use Rattle.std.specs.Prelude.{◌≡◌, ◌⊎◌, ℕ, ◌-◌, Bool, true, false, List, [], ◌∷◌, ◌++◌, nat_lt, Result, Ok, Err, if◌then◌else◌}
use Rattle.z_types.specs.Links.{LinkView}
use Rattle.z_types.specs.Same.{is_same}
use Rattle.z_types.specs.declared.address.Address.{Address}
use Rattle.z_types.specs.declared.address.Address.TheVariants.{Test, Login}
use Rattle.z_types.specs.declared.address.Site.TheVariants as site
use Rattle.z_types.specs.declared.ask.Ask.{Ask}
use Rattle.z_types.specs.declared.ask.Ask.TheVariants.{Search, Present, Scan}
use Rattle.z_types.specs.declared.diagnostic.Diag.{Diag}
use Rattle.z_types.specs.declared.sitting.Sitting as sitting
use Rattle.z_types.specs.declared.world.World as world
use Rattle.gw_outside.specs.declared.backends.Opening.{Opening}
use Rattle.gw_outside.specs.declared.backends.Opening.TheVariants as opened
use Rattle.gw_outside.specs.declared.backends.Began.{Began}
use Rattle.gw_outside.specs.declared.backends.Began.TheVariants as began
use Rattle.gw_outside.specs.declared.backends.Heard.{Heard}
use Rattle.gw_outside.specs.declared.backends.Heard.TheVariants as heard
use Rattle.gw_outside.specs.declared.happenings.Happening.{Happening}
use Rattle.gw_outside.specs.declared.wires.Looked.{Looked}
use Rattle.gw_outside.specs.declared.wires.Looked.TheVariants as looked
use Rattle.gw_outside.specs.Happened.{Happened, AreSame, IsMade, at_address, is_cut}
use Rattle.gw_outside.specs.Wires.{DelaysLooked}

-- ---- an opening

module _ {W S : Type 0} (t : sitting.Ghosts S W) (exact : Bool) (happening : Happening)
    (dials : ℕ) where
  -- the link of a new session is the last that was dialled, where dials are counted exactly, and
  -- the reply to its Init comes after as many looks as are stated
  pub record HasNewLink (session : S) : Type 0 where
    pub number : exact ≡ true → (t.link session).number ≡ dials
    pub delays : (t.link session).delays ≡ happening.delay ∷ []

  -- one that fails had a link, which is cut
  abbrev pub OpensSteadily : Opening S → Type 0
  OpensSteadily (opened.Session session) = HasNewLink session
  OpensSteadily (opened.Failed linked) =
      (linked ≡ true) × (exact ≡ true → is_cut happening dials ≡ true)
  OpensSteadily opened.Memory = Unit {0}

-- ---- an ask

-- whether a Present finds a set under a name: not where that was made to happen to it
abbrev pub finds : Happening → (List ℕ → Bool) → List ℕ → Bool
finds happening holds name = if nat_lt 0 happening.presents then false else holds name

abbrev pub is_good : Result ℕ Diag → Bool
is_good (Ok hits) = true
is_good (Err diag) = false

-- under which names the target holds sets once it took an ask
abbrev pub holds_after : {W : Type 0} → world.Ghosts W → Address → Ask → Happening → (List ℕ → Bool)
    → List ℕ → Bool
holds_after w address (Search own key) happening holds name =
    if is_same own name then is_good (w.search address key) else holds name
holds_after w address (Present own first count syntax element) happening holds name =
    finds happening holds name
holds_after w address (Scan dbs ask) happening holds name = holds name

-- a Present is told that its set is gone where it finds none
abbrev pub IsGoneWhere : Ask → Happening → (List ℕ → Bool) → Bool → Type 0
IsGoneWhere (Present name first count syntax element) happening holds gone =
    gone ≡ true → finds happening holds name ≡ false
IsGoneWhere ask happening holds gone = Unit {0}

-- a Present less is left to find none
abbrev pub AskHappens : Ask → Address → Happened → Happened → Type 0
AskHappens (Present name first count syntax element) (Test target) old new =
    IsMade target (λ happening. record happening { presents = happening.presents - 1 }) old new
AskHappens (Present name first count syntax element) (Login (site.Test target) login) old new =
    IsMade target (λ happening. record happening { presents = happening.presents - 1 }) old new
AskHappens ask address old new = AreSame old new

-- an ask for records
abbrev pub IsPresent : Ask → Type 0
IsPresent (Present name first count syntax element) = Unit {0}
IsPresent ask = ⊥

-- where sessions keep records a Present may be answered by those: it is not sent over the link, its
-- reply comes at the first look, and nothing becomes of links
pub record IsSpared (keeps : Bool) (ask : Ask) (old new : LinkView)
    (before after : Happened) : Type 0 where
  pub keeps_records : keeps ≡ true
  pub present : IsPresent ask
  pub delays : new.delays ≡ 0 ∷ old.delays
  pub holds : (name : List ℕ) → new.holds name ≡ old.holds name
  pub gone : new.gone ≡ false
  pub happened : AreSame before after

module _ {W : Type 0} (w : world.Ghosts W) (address : Address) (ask : Ask) where
  -- an ask is taken over a link
  pub record TakesAsk (old new : LinkView) (before after : Happened) : Type 0 where
    pub delays : new.delays ≡ old.delays ++ (at_address before address).delay ∷ []
    pub holds : (name : List ℕ)
        → new.holds name ≡ holds_after w address ask (at_address before address) old.holds name
    pub gone : IsGoneWhere ask (at_address before address) old.holds new.gone
    pub happened : AskHappens ask address before after

module _ {W : Type 0} (w : world.Ghosts W) (keeps : Bool) (address : Address) (ask : Ask) where
  -- it is taken over the link, or spared it
  abbrev pub IsTakenOrSpared : LinkView → LinkView → Happened → Happened → Type 0
  IsTakenOrSpared old new before after =
      TakesAsk w address ask old new before after ⊎ IsSpared keeps ask old new before after

  -- one that fails is over a link that is cut
  abbrev pub TakesUnlessCut : LinkView → LinkView → Happened → Happened → Began → Type 0
  TakesUnlessCut old new before after began.Started = IsTakenOrSpared old new before after
  TakesUnlessCut old new before after began.Failed =
      is_cut (at_address before address) old.number ≡ true
  TakesUnlessCut old new before after began.Memory = Unit {0}

  pub record AsksSteadily (old new : LinkView) (before after : Happened)
      (answer : Began) : Type 0 where
    pub number : new.number ≡ old.number
    pub taken : TakesUnlessCut old new before after answer

-- ---- a look

-- what a look at the link found
abbrev pub looked_by : Heard → Looked
looked_by heard.NotYet = looked.NotYet
looked_by heard.Failed = looked.Failed
looked_by heard.Memory = looked.Memory
looked_by answer = looked.Arrived

-- whether it was a reply, or none yet
abbrev pub IfStands : Heard → Type 0 → Type 0
IfStands heard.Failed P = Unit {0}
IfStands heard.Memory P = Unit {0}
IfStands answer P = P

-- a reply comes when it is due, and where no records are kept over a link that is not cut; a set is
-- gone where its target said so; and a look that fails is at a link that is
pub record LooksSteadily (keeps : Bool) (address : Address) (h : Happened) (old new : LinkView)
    (answer : Heard) : Type 0 where
  pub number : new.number ≡ old.number
  pub delays : DelaysLooked old.delays new.delays (looked_by answer)
  pub holds : IfStands answer ((name : List ℕ) → new.holds name ≡ old.holds name)
  pub gone : answer ≡ heard.Gone → old.gone ≡ true
  pub still_gone : answer ≡ heard.NotYet → new.gone ≡ old.gone
  pub fails : answer ≡ heard.Failed → is_cut (at_address h address) old.number ≡ true
  pub arrives : keeps ≡ false → looked_by answer ≡ looked.Arrived
      → is_cut (at_address h address) old.number ≡ false
