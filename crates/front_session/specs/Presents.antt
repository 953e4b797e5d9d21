-- For contracts alone: the parts of what a Present is due (this project's own)
use Rattle.std.specs.Prelude.{◌≡◌, ℕ, false, List, nat_abs, Option, None, Some, Result, Ok, Err}
use Rattle.std.specs.Borrow.{Bor}
use Rattle.z_types.specs.MergedOrder.{total}
use Rattle.z_types.specs.declared.conditions.Condition.TheVariants as condition
use Rattle.z_types.specs.declared.known_set.KnownSet.{KnownSet}
use Rattle.z_types.specs.declared.limits.Limits.{Limits}
use Rattle.z_types.specs.declared.requests.Present.{Present}
use Rattle.z_types.specs.declared.work.Work.{Work}
use Rattle.z_types.specs.declared.work.Work.TheVariants as work
use Rattle.route_config.specs.declared.route.Route.{Route}
use Rattle.limit_rules.specs.Limits.{are_too_many}
use Rattle.limit_rules.specs.declared.spent.Spent.{Spent}
use Rattle.z_sets.specs.Sets.{stored, known_set_named, stored_set_named}
use Rattle.gateway_rules.specs.Asking.{element_of, present_due}
use Rattle.gateway_rules.specs.Checks.{set_check, is_out_of_range, is_too_long}
use Rattle.front_session.specs.declared.refusal.Refusal.{Refusal}
use Rattle.front_session.specs.Admitting.{hits_named}
use Rattle.front_session.specs.Refusals.{AnswersDue, IsRefusal, client_with}
use Rattle.gateway_rules.specs.declared.agreement.Agreement.{Agreement}
use Rattle.front_session.specs.declared.asking.Asking.{Asking}

-- the set of a name, with its hits and without them
pub record IsNamed (sets : List KnownSet) (name : List ℕ) (set : KnownSet) : Type 0 where
  pub known : known_set_named name sets ≡ Some set
  pub without_hits : stored_set_named name sets ≡ Some (stored set)

-- the set of a name, or the diagnostic where there is none
abbrev pub AnswersSet : List KnownSet → List ℕ → Result (Bor KnownSet) Refusal → Type 0
AnswersSet sets name (Ok set) =
    (set_check (stored_set_named name sets) name ≡ None) × IsNamed sets name set.now
AnswersSet sets name (Err refusal) = IsRefusal (set_check (stored_set_named name sets) name) refusal

-- the set that a Present names has its records, they are not too many, and the name of their
-- element set is not too long
pub record MayFetch (limits : Limits) (spent : Spent) (sets : List KnownSet) (present : Present)
    (set : KnownSet) : Type 0 where
  pub named : IsNamed sets present.set_name set
  pub range : is_out_of_range present (total set.hits) ≡ false
  pub number : are_too_many limits spent.records present.number ≡ false
  pub element : is_too_long (element_of present.element) ≡ false

-- what a Present of a client with this login asks of its set
abbrev pub fetch_work : Option (List ℕ) → Present → KnownSet → Work
fetch_work login present set =
    work.Fetch login set.legs set.query set.hits
    (nat_abs present.start) present.number present.syntax
    (element_of present.element)

-- what a Present is due, where its client's Init settled this, and it has spent so much and has
-- these sets
abbrev pub AnswersPresent : Route → Agreement → Spent → List KnownSet → Present
    → Result Asking Refusal → Type 0
AnswersPresent route agreed spent sets present answer =
    AnswersDue
    (present_due route (client_with agreed spent sets) present
    (stored_set_named present.set_name sets)
    (hits_named sets present.set_name)) answer
