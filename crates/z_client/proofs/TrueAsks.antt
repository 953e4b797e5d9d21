-- A true peer that takes an ask is one that owes its reply (this project's own)
use Rattle.std.proofs.Common.{◌≡◌, ◌∙◌, ◌⊎◌, inl, inr, ℕ, Bool, ◌+◌, ◌≤◌, pos, cond, List, [], ◌∷◌, ◌++◌, Option, None, Some, Ok, option_and_then, refl, sym, ap, subst}
use Rattle.z_types.specs.Pending.{resting, asked}
use Rattle.z_types.specs.declared.address.Address.{Address}
use Rattle.z_types.specs.declared.ask.Ask.{Ask}
use Rattle.z_types.specs.declared.ask.Ask.TheVariants.{Search, Present, Scan}
use Rattle.z_types.specs.declared.key.SetKey.{SetKey}
use Rattle.z_types.specs.declared.replies.Reply.{Reply}
use Rattle.z_types.specs.declared.requests.Asked.TheVariants.{Good}
use Rattle.z_types.specs.declared.requests.Present.{Present as PresentRequest}
use Rattle.z_types.specs.declared.world.World as world
use Rattle.gw_outside.specs.Asks.{MayAsk, MayPresent, MaySearch}
use Rattle.gw_outside.specs.Peers.{NamedSet, Peer, TakesRequest, AreLeft, StayHeld, PresentAnswered, IsPeerStep, held, set_of}
use Rattle.gw_outside.specs.Replies.{present_said}
use Rattle.gw_outside.specs.Sessions.{Made, RecordsOf}
use Rattle.z_client.specs.Heard.{records_heard}
use Rattle.z_client.specs.Units.{request_of}
use Rattle.z_client.specs.TrueSession.{HoldsOrNothing, AreTrueSets, IsTrueReply, IsTruePeer}
use Rattle.z_client.proofs.AddressLemmas.{answers_same, asked_login}
use Rattle.z_client.proofs.TrueReplies.{no_operand, Hears, search_reply_true, scan_reply_true, presented_true, not_held_true}

-- what is left of sets, or stays, is the set or nothing
pub holds_left : (before after : List NamedSet) (name : List ℕ) (key : SetKey) → HoldsOrNothing before name key
    → (held after name ≡ held before name) ⊎ (held after name ≡ None) → HoldsOrNothing after name key
holds_left before after name key (inl h) (inl s) = inl (s ∙ h)
holds_left before after name key (inr h) (inl s) = inr (s ∙ h)
holds_left before after name key h (inr s) = inr s

module _ {W : Type 0} (w : world.Ghosts W) (address : Address) (made : Made) where
  -- the sets that were made, and the peer's are they or nothing
  abbrev HoldAll : List NamedSet → Type 0
  HoldAll sets = (name : List ℕ) (key : SetKey) (hits : ℕ) → made name ≡ Some (key, hits) → HoldsOrNothing sets name key

  hold_left : (before after : List NamedSet) → HoldAll before → AreLeft before after → HoldAll after
  hold_left before after h left name key hits m = holds_left before after name key (h name key hits m) (left name)

  hold_stay : (before after : List NamedSet) → HoldAll before → StayHeld before after → HoldAll after
  hold_stay before after h stay name key hits m = holds_left before after name key (h name key hits m) (inl (stay name))

  abbrev AreRight : Type 0
  AreRight = (name : List ℕ) (key : SetKey) (hits : ℕ) → made name ≡ Some (key, hits) → w.search address key ≡ Ok hits

  -- what a peer's step does to an ask: the sets are true while it is pending, and the reply is
  abbrev StepsTrue : Ask → List NamedSet → List NamedSet → Reply → Type 0
  StepsTrue ask left sets answer = AreTrueSets w address made (asked ask) sets × IsTrueReply w address made (asked ask) answer

  searched : (name : List ℕ) (key : SetKey) (left sets : List NamedSet) (answer : Reply) → AreRight → HoldAll left → MaySearch name key
      → IsPeerStep w address (request_of (Search name key)) left sets answer → StepsTrue (Search name key) left sets answer
  searched name key left sets answer right h may step =
      let s = step.1 refl (no_operand key.query.root may.no_set) in (
        record {
          hits = right;
          holds = λ other set hits apart m. holds_left left sets other set (h other set hits m) (inl (step.0 other apart));
          searched = λ other same. s.put other ∙ ap (λ b. cond b (set_of key (w.search address key)) (held left other)) same;
        },
        search_reply_true w address made name key answer s.said,
      )

  -- what is answered to a Present of a set that was made
  presented : (name : List ℕ) (first count : ℕ) (syntax element : Option (List ℕ)) (answer : Reply) (key : SetKey) (hits : ℕ)
      → made name ≡ Some (key, hits)
      → Hears w address made (λ heard. RecordsOf w address (Some (key, hits)) syntax element first heard) (option_and_then (records_heard count) (present_said answer))
      → IsTrueReply w address made (asked (Present name first count syntax element)) answer
  presented name first count syntax element answer key hits m h = record {
    answer = h.0;
    heard = h.1;
    worlds = subst (λ set. RecordsOf w address set syntax element first h.0) (sym m) h.2;
  }

  module _ (name : List ℕ) (first count : ℕ) (syntax element : Option (List ℕ)) where
    abbrev asks : Ask
    asks = Present name first count syntax element

    abbrev asked_for : PresentRequest
    asked_for = record { ref_id = None; set_name = name; start = pos first; number = count; element = Good element; syntax = syntax }

    abbrev Answered : Option SetKey → Reply → Type 0
    Answered set answer = PresentAnswered w address asked_for (Good element) set answer

    -- by what its peer holds of the set
    held_presented : (key : SetKey) (hits : ℕ) (left sets : List NamedSet) (answer : Reply) → made name ≡ Some (key, hits)
        → w.search address key ≡ Ok hits → 1 ≤ first → 1 ≤ count → first + count ≤ hits + 1 → HoldsOrNothing left name key
        → IsPeerStep w address (request_of asks) left sets answer → IsTrueReply w address made (asked asks) answer
    held_presented key hits left sets answer m right from some within (inl e) step =
        let here : Answered (Some key) answer = subst (λ set. Answered set answer) e step.1 in
        presented name first count syntax element answer key hits m
        (presented_true w address made key hits syntax element first count (present_said answer) (here first hits refl right from some within))
    held_presented key hits left sets answer m right from some within (inr e) step =
        let here : Answered None answer = subst (λ set. Answered set answer) e step.1 in
        presented name first count syntax element answer key hits m
        (not_held_true w address made key hits syntax element first count (present_said answer) here)

    may_present : (left sets : List NamedSet) (answer : Reply) → AreRight → HoldAll left → MayPresent made name first count element
        → IsPeerStep w address (request_of asks) left sets answer → StepsTrue asks left sets answer
    may_present left sets answer right h may step = (
      record {
        hits = right;
        holds = λ other set hits apart m. hold_stay left sets h step.0 other set hits m;
        searched = tt;
      },
      held_presented may.key may.hits left sets answer may.is_made (right name may.key may.hits may.is_made)
          may.from_one may.some may.within (h name may.key may.hits may.is_made) step,
    )

  -- each ask
  steps_true : (ask : Ask) (left sets : List NamedSet) (answer : Reply) → AreRight → HoldAll left → MayAsk made ask
      → IsPeerStep w address (request_of ask) left sets answer → StepsTrue ask left sets answer
  steps_true (Search name key) left sets answer right h may step = searched name key left sets answer right h may step
  steps_true (Present name first count syntax element) left sets answer right h may step =
      may_present name first count syntax element left sets answer right h may step
  steps_true (Scan dbs ask) left sets answer right h may step = (
    record {
      hits = right;
      holds = λ other set hits apart m. hold_stay left sets h step.0 other set hits m;
      searched = tt;
    },
    scan_reply_true w address made dbs ask answer step.1,
  )

  -- a peer that rests and takes an ask owes a true reply to it
  pub asks_true : (ask : Ask) (old new : Peer) → IsTruePeer w address made resting old → MayAsk made ask → (steady : Bool) (found : List NamedSet)
      → TakesRequest w steady found (request_of ask) old new
      → IsTruePeer w address made (asked ask) new
  asks_true ask old new t may steady found takes =
      let h : HoldAll old.sets = λ name key hits m. t.sets.holds name key hits refl m in
      let step = subst (λ at. IsPeerStep w at (request_of ask) takes.left new.sets takes.answer) t.same_address takes.step in
      let s = steps_true ask takes.left new.sets takes.answer t.sets.hits (hold_left old.sets takes.left h takes.are_left) may step in
      record {
        same_address = answers_same old new takes.address (takes.login ∙ asked_login old.login ask takes.answer) ∙ t.same_address;
        sets = s.0;
        owed = (takes.answer, takes.owed ∙ ap (λ owed. owed ++ takes.answer ∷ []) t.owed, s.1);
      }
