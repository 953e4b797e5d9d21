-- How a link with a test target goes on (this project's own)
use Rattle.std.proofs.Common.{◌≡◌, inl, inr, ◌∙◌, ℕ, ◌≤◌, ◌==◌, Bool, true, false, cond, List, [], ◌∷◌, ◌++◌, map, Option, None, Some, Result, Ok, Err, refl, sym, ap, subst, arith}
use Rattle.std.specs.Prelude.{nat_lt, unwrap_or, OnOk}
use Rattle.std.proofs.lemmas.Bool.{eqb-true, eqb-false}
use Rattle.std.specs.BTreeMap.{is_at}
use Rattle.std.specs.Map.{lookup}
use Rattle.std.specs.Ordering.{nat_cmp}
use Rattle.z_types.specs.declared.address.Address.TheVariants as at
use Rattle.z_types.specs.declared.replies.Reply.{Reply}
use Rattle.z_types.specs.declared.requests.Request.{Request}
use Rattle.z_types.specs.declared.requests.Request.TheVariants as request
use Rattle.z_types.specs.declared.world.World as world
use Rattle.unit_forms.specs.Reading.Units.{IsOnlyReading}
use Rattle.z_types.specs.Counts.{one_more}
use Rattle.gw_outside.specs.declared.happenings.Happening.{Happening}
use Rattle.gw_outside.specs.declared.links.Linked as linked
use Rattle.gw_outside.specs.Counts.{Counts, Counted, WireCounts, after}
use Rattle.gw_outside.specs.Happened.{Happened, AreSame, AreLess, AreCut, AreQuiet, IsMade, happening_after, nothing_happens, sets_found, at_address, to_peer}
use Rattle.gw_outside.specs.Peers.{NamedSet, AreLeft, IsPeerStep, TakesRequest, held, login_after}
use Rattle.gw_outside.specs.Wires.{IsRequestUnit, IsReplyUnit, HandsOver, IsSentTo, SendFits, SendsSteadily, SendCounts, LookFits, send_counted}
use Rattle.gw_outside.specs.Peers as peers
use Rattle.gw_outside.specs.declared.wires.Looked.{Looked}
use Rattle.gw_outside.specs.declared.wires.Looked.TheVariants as looked
use Rattle.gw_outside.specs.declared.wires.Sent.{Sent}
use Rattle.gw_outside.specs.declared.wires.Sent.TheVariants as sent
use Rattle.test_target.specs.declared.peers.Peer.{Peer}
use Rattle.test_target.specs.World.{told_of}
use Rattle.z_types.specs.Logins.{inside}
use Rattle.test_wire.specs.Happened.{Table, IsPut, happening_of, happened_in}
use Rattle.test_wire.specs.Owed.{OwedReply, IsNextOwed}
use Rattle.test_wire.specs.Links.{peer_of, delays_of, HasTaken, SendTakes, HasArrived, has_not_sent}

-- ---- requests

-- what octets are read as is the one request that they are
only_one : (octets : List ℕ) (own req : Request) → IsOnlyReading octets (Some own) → IsRequestUnit octets req → req ≡ own
only_one octets own req only is = let same = only is.0 req is.1 is.2 in cc

-- octets that are read as none are none
not_one : (octets : List ℕ) (req : Request) → IsOnlyReading octets None → IsRequestUnit octets req → ⊥
not_one octets req only is = let same = only is.0 req is.1 is.2 in cc

-- ---- a request that is taken

left_at : (gone : Bool) (sets : List NamedSet) → AreLeft sets (cond gone [] sets)
left_at true sets name = inr refl
left_at false sets name = inl refl

-- each set is found or is gone
are_left : (happening : Happening) (req : Request) (sets : List NamedSet) → AreLeft sets (sets_found happening req sets)
are_left happening (request.Present present) sets = left_at (nat_lt 0 happening.presents) sets
are_left happening (request.Init init) sets = λ name. inl refl
are_left happening (request.Search search) sets = λ name. inl refl
are_left happening (request.Scan scan) sets = λ name. inl refl
are_left happening (request.Close close) sets = λ name. inl refl

-- a test target is told inside any login
pub told_inside : (n : ℕ) (login : Option (List ℕ)) → told_of (inside login (at.Test n))
told_inside n None = tt
told_inside n (Some login) = tt

-- one more is owed
owed_more : (before : List OwedReply) (last : OwedReply) → map (λ o. o.reply) (before ++ last ∷ []) ≡ map (λ o. o.reply) before ++ last.reply ∷ []
owed_more [] last = refl
owed_more (first ∷ rest) last = ap (λ owed. first.reply ∷ owed) (owed_more rest last)

module _ (happening : Happening) (req : Request) (old mid new : Peer) (before after : List OwedReply) (last : OwedReply) (answer : Reply) (t : mid.target ≡ old.target) (k : mid.login ≡ old.login) (s : mid.sets.items ≡ sets_found happening req old.sets.items) (n : new.target ≡ mid.target) (i : new.login ≡ login_after mid.login req answer) (e : last.reply ≡ answer) (a : after ≡ before ++ last ∷ []) where
  -- a step of the peer with the sets that are found, and its reply behind those that are owed
  login_is : new.login ≡ login_after old.login req last.reply
  login_is = i ∙ ap (λ login. login_after login req answer) k ∙ ap (login_after old.login req) (sym e)

  pub takes : {W : Type 0} (w : world.Ghosts W) → IsPeerStep w (inside mid.login (at.Test mid.target)) req mid.sets.items new.sets.items answer
      → TakesRequest w true (sets_found happening req old.sets.items) req (peer_of old before) (peer_of new after)
  takes w step = record {
    left = mid.sets.items;
    answer = last.reply;
    are_left = subst (λ sets. AreLeft old.sets.items sets) (sym s) (are_left happening req old.sets.items);
    are_found = λ steady name. ap (λ sets. held sets name) s;
    step = subst (λ given. IsPeerStep w (inside old.login (at.Test old.target)) req mid.sets.items new.sets.items given) (sym e)
        (subst (λ login. IsPeerStep w (inside login (at.Test old.target)) req mid.sets.items new.sets.items answer) k
        (subst (λ target. IsPeerStep w (inside mid.login (at.Test target)) req mid.sets.items new.sets.items answer) t step));
    owed = ap (λ owed. map (λ o. o.reply) owed) a ∙ owed_more before last;
    address = ap at.Test (n ∙ t);
    login = login_is;
  }

module _ {W : Type 0} (w : world.Ghosts W) (octets : List ℕ) (h : Happened) where
  -- octets that are one request hand it over
  pub hands : (own : Request) (old new : peers.Peer) (result : Sent) → IsOnlyReading octets (Some own)
      → (result ≡ sent.Sent → TakesRequest w h.steady (sets_found (at_address h old.address) own old.sets) own old new)
      → SendFits w octets h (Some old) (Some new) result
  hands own old new sent.Sent only takes = λ req is short.
      subst (λ r. TakesRequest w h.steady (sets_found (at_address h old.address) r old.sets) r old new) (sym (only_one octets own req only is)) (takes refl)
  hands own old new sent.Failed only takes = tt
  hands own old new sent.Memory only takes = tt

  -- octets that are none change nothing
  pub hands_none : (peer : peers.Peer) → IsOnlyReading octets None → SendFits w octets h (Some peer) (Some peer) sent.Sent
  hands_none peer only req is short = absurd (not_one octets req only is)

-- they are taken as that request
pub send_takes : (octets : List ℕ) (happening : Happening) (own : Request) (old new : Peer) (before after : List OwedReply) (result : Sent)
    → IsOnlyReading octets (Some own) → has_not_sent result ≡ false → (result ≡ sent.Sent → HasTaken happening own old new before after)
    → SendTakes octets happening old new before after result
send_takes octets happening own old new before after sent.Sent only e taken = λ req is.
    subst (λ r. HasTaken happening r old new before after) (sym (only_one octets own req only is)) (taken refl)
send_takes octets happening own old new before after sent.Failed only e taken = cc
send_takes octets happening own old new before after sent.Memory only e taken = tt

-- octets that are none are not taken
pub takes_none : (octets : List ℕ) (happening : Happening) (old new : Peer) (before after : List OwedReply) → IsOnlyReading octets None
    → SendTakes octets happening old new before after sent.Sent
takes_none octets happening old new before after only = λ req is. absurd (not_one octets req only is)

-- the looks that are to find nothing before a reply that is owed now
delays_more : (before : List OwedReply) (last : OwedReply) → delays_of (before ++ last ∷ []) ≡ delays_of before ++ last.looks ∷ []
delays_more [] last = refl
delays_more (first ∷ rest) last = ap (λ delays. first.looks ∷ delays) (delays_more rest last)

delays_taken : (happening : Happening) (own : Request) (old new : Peer) (before after : List OwedReply)
    → HasTaken happening own old new before after → delays_of after ≡ delays_of before ++ happening.delay ∷ []
delays_taken happening own old new before after taken =
    ap delays_of taken.owed ∙ delays_more before taken.last ∙ ap (λ looks. delays_of before ++ looks ∷ []) taken.looks

-- ---- what happens

-- what is kept of a target was made to happen
pub made : (target : ℕ) (change : Happening → Happening) (old new : Table) → IsPut target (change (happening_of old target)) old new
    → IsMade target change (happened_in old) (happened_in new)
made target change old new put = record { steady = refl; lent = refl; own = put.own; others = put.others }

pub made_if : {A E : Type 0} (result : Result A E) (target : ℕ) (change : Happening → Happening) (old new : Table)
    → OnOk result (IsPut target (change (happening_of old target)) old new)
    → OnOk result (IsMade target change (happened_in old) (happened_in new))
made_if (Ok a) target change old new put = made target change old new put
made_if (Err e) target change old new put = tt

-- so are the links that are cut
pub cut_if : {A E : Type 0} (result : Result A E) (target dials : ℕ) (old new : Table)
    → OnOk result (IsPut target (record (happening_of old target) { cut = dials }) old new)
    → OnOk result (AreCut true target dials (happened_in old) (happened_in new))
cut_if (Ok a) target dials old new put = record {
  last = dials;
  is_last = λ exact. refl;
  made = made target (λ happening. record happening { cut = dials }) old new put;
}
cut_if (Err e) target dials old new put = tt

-- what is kept is the same
pub same : (old new : Table) → new.entries ≡ old.entries → AreSame (happened_in old) (happened_in new)
same old new e = record {
  steady = refl;
  lent = refl;
  of_target = λ target. ap (λ entries. unwrap_or (lookup (is_at (nat_cmp target)) entries) nothing_happens) e;
}

less_after : (req : Request) (happening : Happening) → (happening_after happening req).presents ≤ happening.presents
less_after (request.Init init) happening = omega arith
less_after (request.Search search) happening = omega arith
less_after (request.Present present) happening = omega arith
less_after (request.Scan scan) happening = omega arith
less_after (request.Close close) happening = omega arith

delay_after : (req : Request) (happening : Happening) → (happening_after happening req).delay ≡ happening.delay
delay_after (request.Init init) happening = refl
delay_after (request.Search search) happening = refl
delay_after (request.Present present) happening = refl
delay_after (request.Scan scan) happening = refl
delay_after (request.Close close) happening = refl

cut_after : (req : Request) (happening : Happening) → (happening_after happening req).cut ≡ happening.cut
cut_after (request.Init init) happening = refl
cut_after (request.Search search) happening = refl
cut_after (request.Present present) happening = refl
cut_after (request.Scan scan) happening = refl
cut_after (request.Close close) happening = refl

-- a fact of what was and what is that holds where a request was asked and where nothing changed
along : (P : Happening → Happening → Type 0) (b : Bool) (own other : ℕ) (req : Request) (old new : Happened) → (other == own) ≡ b
    → IsMade own (λ happening. happening_after happening req) old new
    → ((happening : Happening) → P happening (happening_after happening req)) → ((happening : Happening) → P happening happening)
    → P (old.of_target other) (new.of_target other)
along P true own other req old new e m there elsewhere =
    let same = eqb-true other own e in
    subst (λ target. P (old.of_target target) (new.of_target target)) (sym same)
    (subst (λ happening. P (old.of_target own) happening) (sym m.own) (there (old.of_target own)))
along P false own other req old new e m there elsewhere =
    subst (λ happening. P (old.of_target other) happening) (sym (m.others other (eqb-false other own e))) (elsewhere (old.of_target other))

-- at most some Presents less are left after a request, and where nothing changed
pub asked_less : (own : ℕ) (req : Request) (old new : Happened) → IsMade own (λ happening. happening_after happening req) old new → AreLess old new
asked_less own req old new m = record {
  steady = m.steady;
  lent = m.lent;
  presents = λ other. along (λ was is. is.presents ≤ was.presents) (other == own) own other req old new refl m (less_after req) (λ happening. omega arith);
  delay = λ other. along (λ was is. is.delay ≡ was.delay) (other == own) own other req old new refl m (delay_after req) (λ happening. refl);
  cut = λ other. along (λ was is. is.cut ≡ was.cut) (other == own) own other req old new refl m (cut_after req) (λ happening. refl);
}

le_of : (a b : ℕ) → a ≡ b → a ≤ b
le_of a b e = omega arith

pub same_less : (old new : Happened) → AreSame old new → AreLess old new
same_less old new s = record {
  steady = s.steady;
  lent = s.lent;
  presents = λ other. le_of (new.of_target other).presents (old.of_target other).presents (ap (λ happening. happening.presents) (s.of_target other));
  delay = λ other. ap (λ happening. happening.delay) (s.of_target other);
  cut = λ other. ap (λ happening. happening.cut) (s.of_target other);
}

pub as_many : (h : Happened) → AreLess h h
as_many h = same_less h h (record { steady = refl; lent = refl; of_target = λ target. refl })

module _ {L : Type 0} (l : linked.Ghosts L) (octets : List ℕ) (link_old link_new : L) (old new : Happened) where
  -- octets that are one request are sent steadily
  pub sends : (own : Request) (result : Sent) (happening : Happening) (from to : Peer) (before after : List OwedReply) → IsOnlyReading octets (Some own)
      → has_not_sent result ≡ false → (result ≡ sent.Sent → IsSentTo (l.peer link_old) own old new) → AreLess old new → l.number link_new ≡ l.number link_old
      → (result ≡ sent.Sent → HasTaken happening own from to before after)
      → l.delays link_old ≡ delays_of before → l.delays link_new ≡ delays_of after → (to_peer old (l.peer link_old)).delay ≡ happening.delay
      → SendsSteadily l octets link_old link_new old new result
  sends own sent.Sent happening from to before after only e asked less same taken was is delay = record {
    fails = λ f. cc;
    happened = λ req unit. subst (λ r. IsSentTo (l.peer link_old) r old new) (sym (only_one octets own req only unit)) (asked refl);
    less = less;
    number = same;
    delays = λ steady s req unit.
        is ∙ delays_taken happening own from to before after (taken refl) ∙ ap (λ delays. delays ++ happening.delay ∷ []) (sym was)
        ∙ ap (λ looks. l.delays link_old ++ looks ∷ []) (sym delay);
  }
  sends own sent.Failed happening from to before after only e asked less same taken was is delay = cc
  sends own sent.Memory happening from to before after only e asked less same taken was is delay = record {
    fails = λ f. cc;
    happened = tt;
    less = less;
    number = same;
    delays = λ steady s. cc;
  }

  -- so are octets that are none, of which nothing follows
  pub sends_none : IsOnlyReading octets None → AreLess old new → l.number link_new ≡ l.number link_old → SendsSteadily l octets link_old link_new old new sent.Sent
  sends_none only less same = record {
    fails = λ f. cc;
    happened = λ req unit. absurd (not_one octets req only unit);
    less = less;
    number = same;
    delays = λ steady s req unit. absurd (not_one octets req only unit);
  }

-- ---- counts

-- so is one that does not fail
unfailing : (exact : Bool) (call : Counted) (old new : Counts) → call.fault ≡ false → new ≡ after call old → WireCounts exact call old new
unfailing exact call old new f e = record {
  waits = ap (λ c. c.waits) e;
  faults = le_of old.faults new.faults (sym (ap (λ c. c.faults) e ∙ ap (λ b. one_more b old.faults) f));
  failed = λ g. cc;
  exactly = λ x. e;
}

some_counts : (req own : Request) (result : Sent) (old new : Counts) → has_not_sent result ≡ false → new ≡ after (send_counted own result) old
    → WireCounts false (send_counted req result) old new
some_counts req own sent.Sent old new f e =
    let w = unfailing false (send_counted own sent.Sent) old new refl e in
    record { waits = w.waits; faults = w.faults; failed = λ g. cc; exactly = λ x. cc }
some_counts req own sent.Failed old new f e = cc
some_counts req own sent.Memory old new f e =
    let w = unfailing false (send_counted own sent.Memory) old new refl e in
    record { waits = w.waits; faults = w.faults; failed = λ g. cc; exactly = λ x. cc }

-- so is a send, whichever request its unit is
pub send_counts : (octets : List ℕ) (own : Request) (result : Sent) (old new : Counts) → IsOnlyReading octets (Some own) → has_not_sent result ≡ false
    → new ≡ after (send_counted own result) old → SendCounts true octets result old new
send_counts octets own result old new only f e = record {
  some = λ req. some_counts req own result old new f e;
  exactly = λ req is x. e ∙ ap (λ r. after (send_counted r result) old) (sym (only_one octets own req only is));
}

-- octets that are no request count nothing
pub none_counts : (octets : List ℕ) (counted : Counts) → IsOnlyReading octets None → SendCounts true octets sent.Sent counted counted
none_counts octets counted only = record {
  some = λ req. record { waits = refl; faults = omega arith; failed = λ f. cc; exactly = λ x. cc };
  exactly = λ req is x. absurd (not_one octets req only is);
}

-- ---- a look

-- the first reply comes whole
pub comes : (peer : Peer) (old new : List OwedReply) (found : OwedReply) → IsNextOwed old new (Some found) → IsReplyUnit found.octets found.reply
    → HandsOver (peer_of peer old) (peer_of peer new) found.octets
comes peer [] new found h u = absurd h
comes peer (first ∷ rest) new found h u = record {
  reply = found.reply;
  rest = map (λ o. o.reply) rest;
  was_owed = ap (λ o. o.reply ∷ map (λ o. o.reply) rest) (sym h.1);
  still_owed = ap (λ owed. peer_of peer owed) h.2;
  unit = u;
}

-- so it arrives
pub arrives : (peer still : Peer) (old mid new : List OwedReply) (found : OwedReply) (before after : List ℕ) (result : Looked)
    → IsNextOwed old mid (Some found) → IsReplyUnit found.octets found.reply → HasArrived found.octets before after result
    → still ≡ peer → new ≡ mid → LookFits (Some (peer_of peer old)) (Some (peer_of still new)) before after result
arrives peer still old mid new found before after looked.Arrived n u a e f =
    let hands_over = subst (λ end. HandsOver (peer_of peer old) (peer_of end new) found.octets) (sym e)
    (subst (λ owed. HandsOver (peer_of peer old) (peer_of peer owed) found.octets) (sym f) (comes peer old mid found n u)) in
    (found.octets, a, hands_over)
arrives peer still old mid new found before after looked.NotYet n u a e f = absurd a
arrives peer still old mid new found before after looked.Failed n u a e f = absurd a
arrives peer still old mid new found before after looked.Memory n u a e f = tt

-- ---- a new table

nothing_in : (table : Table) → table.entries ≡ [] → (target : ℕ) → happening_of table target ≡ nothing_happens
nothing_in table e target = ap (λ entries. unwrap_or (lookup (is_at (nat_cmp target)) entries) nothing_happens) e

pub quiet : (table : Table) → table.entries ≡ [] → AreQuiet (happened_in table)
quiet table e = record { steady = refl; nothing = nothing_in table e }
