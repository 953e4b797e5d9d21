-- What an ask does to a session over a steady wire, at an address that is told (this project's own)
use Rattle.std.proofs.Common.{◌≡◌, ◌∙◌, inl, inr, ℕ, ◌+◌, pos, Bool, true, false, cond, nat_lt, List, [], ◌∷◌, ◌++◌, Option, None, Some, Result, Ok, Err, IfErr, refl, sym, ap, subst}
use Rattle.z_types.specs.Bib1.{is_gone}
use Rattle.z_types.specs.Pending.{resting}
use Rattle.z_types.specs.Same.{is_same}
use Rattle.z_types.specs.declared.address.Address.{Address}
use Rattle.z_types.specs.declared.address.Address.TheVariants.{Test, Tcp, Login}
use Rattle.z_types.specs.declared.address.Site.TheVariants as site
use Rattle.z_types.specs.declared.ask.Ask.{Ask}
use Rattle.z_types.specs.declared.ask.Ask.TheVariants.{Search, Present, Scan}
use Rattle.z_types.specs.declared.diagnostic.Diag.{Diag}
use Rattle.z_types.specs.declared.key.SetKey.{SetKey}
use Rattle.z_types.specs.declared.records.Item.{Item}
use Rattle.z_types.specs.declared.replies.Reply.{Reply}
use Rattle.z_types.specs.declared.requests.Asked.TheVariants.{Good}
use Rattle.z_types.specs.declared.requests.Present.{Present as PresentRequest}
use Rattle.z_types.specs.declared.world.World as world
use Rattle.gw_outside.specs.Asks.{MayAsk, MayPresent}
use Rattle.gw_outside.specs.declared.backends.Began.TheVariants as began
use Rattle.gw_outside.specs.declared.happenings.Happening.{Happening}
use Rattle.gw_outside.specs.declared.links.Linked as linked
use Rattle.gw_outside.specs.declared.wires.Sent.TheVariants as sent
use Rattle.gw_outside.specs.Happened.{Happened, IsAsked, at_address, is_cut, sets_found}
use Rattle.gw_outside.specs.Peers.{NamedSet, Peer, TakesRequest, StayHeld, IsPresented, IsPeerStep, IsShortRequest, PresentAnswered, held, set_of}
use Rattle.gw_outside.specs.Replies.{gone_said, present_said}
use Rattle.gw_outside.specs.Sessions.{Made}
use Rattle.gw_outside.specs.Steady.{AskHappens, AsksSteadily, IsGoneWhere, finds, holds_after, is_good}
use Rattle.gw_outside.specs.Wires.{IsRequestUnit, IsSentTo, PeerTakes, SendsSteadily, first_says_gone, owes_gone}
use Rattle.z_client.specs.Links.{holds, is_some, link_of}
use Rattle.z_client.specs.TrueSession.{HoldsOrNothing, IsToldTrue, IsTruePeer}
use Rattle.z_client.specs.Units.{request_of}
use Rattle.z_client.proofs.AddressLemmas.{peer_asked, peer_at}
use Rattle.z_client.proofs.HappenedLemmas.{unmade_same}
use Rattle.z_client.proofs.SteadyLooks.{told_at}
use Rattle.z_client.proofs.TrueAsks.{holds_left}
use Rattle.z_client.proofs.TrueReplies.{no_operand}

-- ---- sets

-- what one name has, and the others
some_put : (b : Bool) (own other : Option SetKey) → is_some (cond b own other) ≡ cond b (is_some own) (is_some other)
some_put true own other = refl
some_put false own other = refl

put_good : (key : SetKey) (found : Result ℕ Diag) → is_some (set_of key found) ≡ is_good found
put_good key (Ok hits) = refl
put_good key (Err diag) = refl

-- the sets that a Present finds
some_found : (b : Bool) (sets : List NamedSet) (name : List ℕ) → is_some (held (cond b [] sets) name) ≡ cond b false (is_some (held sets name))
some_found true sets name = refl
some_found false sets name = refl

-- ---- what a target answers to a Present

-- of a set that it holds no diagnostic says that it is gone
held_not_gone : (record_at : ℕ → Result Item Diag) (first count : ℕ) (said : Option (Result (List Item) Diag)) → IsPresented record_at first count said
    → IfErr (record_at first) (λ diag. is_gone diag ≡ false) → gone_said said ≡ false
held_not_gone record_at first count None p whole = absurd p
held_not_gone record_at first count (Some (Ok items)) p whole = refl
held_not_gone record_at first count (Some (Err diag)) p whole = subst (λ found. IfErr found (λ diag. is_gone diag ≡ false)) p whole

module _ {W : Type 0} (w : world.Ghosts W) (address : Address) (made : Made) (at : Happening) (old new : Peer) (left : List NamedSet) (answer : Reply) where
  -- which sets the target holds once it took an ask
  asked_holds : (ask : Ask) → MayAsk made ask → StayHeld (sets_found at (request_of ask) old.sets) left → IsPeerStep w address (request_of ask) left new.sets answer
      → (name : List ℕ) → is_some (held new.sets name) ≡ holds_after w address ask at (holds (Some old)) name
  asked_holds (Search own key) may stay step name =
      let s = step.1 refl (no_operand key.query.root may.no_set) in
      ap is_some (s.put name ∙ ap (λ other. cond (is_same own name) (set_of key (w.search address key)) other) (stay name))
      ∙ some_put (is_same own name) (set_of key (w.search address key)) (held old.sets name)
      ∙ ap (λ own_one. cond (is_same own name) own_one (is_some (held old.sets name))) (put_good key (w.search address key))
  asked_holds (Present own first count syntax element) may stay step name =
      ap is_some (step.0 name ∙ stay name) ∙ some_found (nat_lt 0 at.presents) old.sets name
  asked_holds (Scan dbs ask) may stay step name = ap is_some (step.0 name ∙ stay name)

  module _ (name : List ℕ) (first count : ℕ) (syntax element : Option (List ℕ)) where
    abbrev asked_for : PresentRequest
    asked_for = record { ref_id = None; set_name = name; start = pos first; number = count; element = Good element; syntax = syntax }

    abbrev Answered : Option SetKey → Type 0
    Answered set = PresentAnswered w address asked_for (Good element) set answer

    -- a Present that is told that its set is gone finds none
    present_gone : (may : MayPresent made name first count element) → w.search address may.key ≡ Ok may.hits → HoldsOrNothing left name may.key
        → StayHeld (sets_found at (request_of (Present name first count syntax element)) old.sets) left → Answered (held left name)
        → gone_said (present_said answer) ≡ true → finds at (holds (Some old)) name ≡ false
    present_gone may right (inl e) stay said gone =
        let here : Answered (Some may.key) = subst (λ set. Answered set) e said in
        let not : gone_said (present_said answer) ≡ false =
        held_not_gone (λ position. w.record_ address may.key position syntax element) first count (present_said answer)
        (here first may.hits refl right may.from_one may.some may.within) (w.whole_is_not_gone address may.key first syntax element) in
        let no_way : true ≡ false = sym gone ∙ not in absurd cc
    present_gone may right (inr e) stay said gone =
        sym (some_found (nat_lt 0 at.presents) old.sets name) ∙ ap is_some (sym (stay name)) ∙ ap is_some e

  asked_gone : (ask : Ask) → IsTruePeer w address made resting old → MayAsk made ask
      → ((key : SetKey) (name : List ℕ) (hits : ℕ) → made name ≡ Some (key, hits) → HoldsOrNothing left name key)
      → StayHeld (sets_found at (request_of ask) old.sets) left → IsPeerStep w address (request_of ask) left new.sets answer
      → new.owed ≡ answer ∷ [] → IsGoneWhere ask at (holds (Some old)) (owes_gone (Some new))
  asked_gone (Search own key) t may h stay step owed = tt
  asked_gone (Scan dbs ask) t may h stay step owed = tt
  asked_gone (Present name first count syntax element) t may h stay step owed = λ gone.
      present_gone name first count syntax element may (t.sets.hits name may.key may.hits may.is_made) (h may.key name may.hits may.is_made)
      stay step.1 (sym (ap (λ replies. first_says_gone replies) owed) ∙ gone)

-- ---- what is left to happen

module _ (a b : Happened) where
  asked_happens : (ask : Ask) (address : Address) → IsAsked address (request_of ask) a b → AskHappens ask address a b
  asked_happens (Search name key) (Test target) s = unmade_same a b target s
  asked_happens (Search name key) (Tcp host port) s = s
  asked_happens (Search name key) (Login (site.Test target) login) s = unmade_same a b target s
  asked_happens (Search name key) (Login (site.Tcp host port) login) s = s
  asked_happens (Present name first count syntax element) (Test target) s = s
  asked_happens (Present name first count syntax element) (Tcp host port) s = s
  asked_happens (Present name first count syntax element) (Login (site.Test target) login) s = s
  asked_happens (Present name first count syntax element) (Login (site.Tcp host port) login) s = s
  asked_happens (Scan dbs ask) (Test target) s = unmade_same a b target s
  asked_happens (Scan dbs ask) (Tcp host port) s = s
  asked_happens (Scan dbs ask) (Login (site.Test target) login) s = unmade_same a b target s
  asked_happens (Scan dbs ask) (Login (site.Tcp host port) login) s = s

-- ---- an ask

module _ {W : Type 0} (w : world.Ghosts W) (address : Address) (made : Made) (ask : Ask) (h then_ : Happened) (may : MayAsk made ask) where
  sent_happens : (peer : Option Peer) → IsToldTrue w address made resting peer → IsSentTo peer (request_of ask) h then_ → IsAsked address (request_of ask) h then_
  sent_happens None t s = absurd t
  sent_happens (Some peer) t s = peer_asked h then_ (request_of ask) peer address t.same_address s

  -- what becomes of the sets, and whether the reply says that one is gone
  abbrev Took : Option Peer → Option Peer → Type 0
  Took old new = ((name : List ℕ) → holds new name ≡ holds_after w address ask (at_address h address) (holds old) name)
      × IsGoneWhere ask (at_address h address) (holds old) (owes_gone new)

  peer_took : (old new : Peer) → IsTruePeer w address made resting old → h.steady ≡ true
      → TakesRequest w h.steady (sets_found (at_address h old.address) (request_of ask) old.sets) (request_of ask) old new → Took (Some old) (Some new)
  peer_took old new t steady takes =
      let step = subst (λ at. IsPeerStep w at (request_of ask) takes.left new.sets takes.answer) t.same_address takes.step in
      let stay = subst (λ at. StayHeld (sets_found at (request_of ask) old.sets) takes.left) (peer_at h old address t.same_address) (takes.are_found steady) in (
        asked_holds w address made (at_address h address) old new takes.left takes.answer ask may stay step,
        asked_gone w address made (at_address h address) old new takes.left takes.answer ask t may
            (λ key name hits m. holds_left old.sets takes.left name key (t.sets.holds name key hits refl m) (takes.are_left name))
            stay step (takes.owed ∙ ap (λ owed. owed ++ takes.answer ∷ []) t.owed),
      )

  took : (unit : List ℕ) (old new : Option Peer) → IsToldTrue w address made resting old → h.steady ≡ true → PeerTakes w unit h old new
      → IsRequestUnit unit (request_of ask) → IsShortRequest (request_of ask) → Took old new
  took unit None new t steady takes is short = absurd t
  took unit (Some old) None t steady takes is short = absurd takes
  took unit (Some old) (Some new) t steady takes is short = peer_took old new t steady (takes (request_of ask) is short)

  module _ {L : Type 0} (l : linked.Ghosts L) (unit : List ℕ) (old new : L) (t : IsToldTrue w address made resting (l.peer old)) (steady : h.steady ≡ true)
      (is : IsRequestUnit unit (request_of ask)) where
    -- one that was sent
    pub sent_steadily : PeerTakes w unit h (l.peer old) (l.peer new) → IsShortRequest (request_of ask) → SendsSteadily l unit old new h then_ sent.Sent
        → AsksSteadily w false address ask (link_of l old) (link_of l new) h then_ began.Started
    sent_steadily takes short s =
        let both = took unit (l.peer old) (l.peer new) t steady takes is short in
        record {
          number = s.number;
          taken = inl (record {
            delays = s.delays steady refl (request_of ask) is ∙ ap (λ here. l.delays old ++ here.delay ∷ []) (told_at w address made resting h (l.peer old) t);
            holds = both.0;
            gone = both.1;
            happened = asked_happens h then_ ask address (sent_happens (l.peer old) t (s.happened (request_of ask) is));
          });
        }

    -- one that failed
    pub unsent_steadily : SendsSteadily l unit old new h then_ sent.Failed → AsksSteadily w false address ask (link_of l old) (link_of l new) h then_ began.Failed
    unsent_steadily s = record {
      number = s.number;
      taken = sym (ap (λ here. is_cut here (l.number old)) (told_at w address made resting h (l.peer old) t)) ∙ s.fails refl steady;
    }
