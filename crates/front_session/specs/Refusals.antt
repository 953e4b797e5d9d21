-- For contracts alone: how checks answer (this project's own)
use Rattle.std.specs.Prelude.{◌≡◌, ℕ, List, [], ◌∷◌, map, Option, None, Some, Result, Ok, Err}
use Rattle.std.specs.Borrow.{Bor}
use Rattle.z_types.specs.declared.diagnostic.Diag.{Diag}
use Rattle.z_types.specs.declared.known_set.KnownSet.{KnownSet}
use Rattle.z_types.specs.declared.requests.Request.{Request}
use Rattle.z_types.specs.declared.requests.Asked.{Asked}
use Rattle.z_types.specs.declared.requests.Asked.TheVariants.{Good}
use Rattle.route_config.specs.declared.route.Route.{Route}
use Rattle.limit_rules.specs.declared.spent.Spent.{Spent}
use Rattle.access_rules.specs.declared.who.Who.{Who}
use Rattle.virt_db.specs.Legs.{distinct, few_legs, legs_of}
use Rattle.virt_db.specs.declared.fault.DbFault.{DbFault}
use Rattle.z_sets.specs.Sets.{stored}
use Rattle.gateway_rules.specs.Asking as asking
use Rattle.gateway_rules.specs.Checks.{database_checks, legs_check, names_check, no_legs, not_served}
use Rattle.gateway_rules.specs.Replies.{failed}
use Rattle.gateway_rules.specs.State.{ClientState}
use Rattle.gateway_rules.specs.declared.agreement.Agreement.{Agreement}
use Rattle.gateway_rules.specs.Works.{CanBegin, IsAskable}
use Rattle.front_session.specs.Sessions.{HasRoomFor}
use Rattle.front_session.specs.declared.refusal.Refusal.{Refusal}
use Rattle.front_session.specs.declared.refusal.Refusal.TheVariants.{Refused, Memory}
use Rattle.front_session.specs.declared.asking.Asking.{Asking}
use Rattle.front_session.specs.declared.asking.Asking.TheVariants.{AtOnce, Works}

-- a check refuses with its diagnostic; want of memory has no cause
abbrev pub IsRefusal : Option Diag → Refusal → Type 0
IsRefusal check (Refused diag) = check ≡ Some diag
IsRefusal check Memory = Unit {0}

-- a check passes or refuses
abbrev pub AnswersCheck : {A : Type 0} → Option Diag → Result A Refusal → Type 0
AnswersCheck check (Ok passed) = check ≡ None
AnswersCheck check (Err refusal) = IsRefusal check refusal

-- the diagnostic of the first check that refuses
abbrev pub first_diagnostic : List (Option Diag) → Option Diag
first_diagnostic [] = None
first_diagnostic (None ∷ checks) = first_diagnostic checks
first_diagnostic (Some diag ∷ checks) = Some diag

-- all checks pass, and this is so of what they give; or the first that refuses does so with its
-- diagnostic
abbrev pub AnswersChecks : {A : Type 0} → List (Option Diag) → (A → Type 0)
    → Result A Refusal → Type 0
AnswersChecks checks Gives (Ok x) = (first_diagnostic checks ≡ None) × Gives x
AnswersChecks checks Gives (Err refusal) = IsRefusal (first_diagnostic checks) refusal

-- what is asked for, or the diagnostic of a form that is not served
abbrev pub AnswersAsked : {A : Type 0} → Asked A → Result (Bor A) Refusal → Type 0
AnswersAsked asked (Ok good) = asked ≡ Good good.now
AnswersAsked asked (Err refusal) = IsRefusal (not_served asked) refusal

-- a fault as a refusal; want of memory has no cause
abbrev pub AnswersFault : DbFault → Refusal → Type 0
AnswersFault fault refusal = IsRefusal (no_legs fault) refusal

-- the names of databases, each once, or the diagnostic where they stand for none
abbrev pub AnswersNames : Route → List (List ℕ) → Result (List (List ℕ)) Refusal → Type 0
AnswersNames route names (Ok named) = (names_check route names ≡ None) × (named ≡ distinct names)
AnswersNames route names (Err refusal) = IsRefusal (names_check route names) refusal

-- legs, or the diagnostic where they are too many
abbrev pub AnswersLegs : Result (List ℕ) DbFault → Result (List ℕ) Refusal → Type 0
AnswersLegs few (Ok legs) = few ≡ Ok legs
AnswersLegs few (Err refusal) = IsRefusal (legs_check few) refusal

-- the legs of databases that a client names, or the diagnostic of the first check that refuses
abbrev pub AnswersDatabases : Route → Who → List (List ℕ) → Result (List ℕ) Refusal → Type 0
AnswersDatabases route client names answer =
    AnswersChecks (database_checks route client names)
    (λ legs. few_legs (legs_of route names) ≡ Ok legs) answer

-- what the definitions call what is due
abbrev pub due_of : Asking → asking.Asking
due_of (AtOnce reply) = asking.at_once reply
due_of (Works work) = asking.works work

-- the diagnostic in place of a value
abbrev pub FailsWith : {A : Type 0} → Result A Diag → Refusal → Type 0
FailsWith wanted (Refused diag) = wanted ≡ Err diag
FailsWith wanted Memory = Unit {0}

-- what is due, or the diagnostic of a request that fails
abbrev pub AnswersDue : Result asking.Asking Diag → Result Asking Refusal → Type 0
AnswersDue due (Ok given) = due ≡ Ok (due_of given)
AnswersDue due (Err refusal) = FailsWith due refusal

-- a client whose Init settled this, that has spent so much and has these sets
abbrev pub client_with : Agreement → Spent → List KnownSet → ClientState
client_with agreed spent sets =
    record {
      agreed = agreed;
      searches = spent.searches;
      records = spent.records;
      sets = map stored sets;
    }

-- a work can begin, its legs may be asked for it, and its records can be spent
abbrev pub IsReady : Spent → Asking → Type 0
IsReady spent (AtOnce reply) = Unit {0}
IsReady spent (Works work) = CanBegin work × IsAskable work × HasRoomFor spent.records work

-- what is given for what is due: a request that a check refuses fails at once
abbrev pub IsGiven : Request → Result Asking Refusal → Asking → Type 0
IsGiven request (Ok due) given = given ≡ due
IsGiven request (Err (Refused diag)) given = given ≡ AtOnce (failed request diag)
IsGiven request (Err Memory) given = ⊥

-- nothing is given
abbrev pub Passes : {A : Type 0} → A → Type 0
Passes passed = Unit {0}

-- a value, or the diagnostic in its place
abbrev pub AnswersResult : {A : Type 0} → Result A Diag → Result A Refusal → Type 0
AnswersResult wanted (Ok x) = wanted ≡ Ok x
AnswersResult wanted (Err refusal) = FailsWith wanted refusal
