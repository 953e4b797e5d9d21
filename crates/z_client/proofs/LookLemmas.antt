-- What a look finds, and keeps of a session (this project's own)
use Rattle.std.proofs.Common.{inl, ◌≡◌, ◌∙◌, inr, ◌⊎◌, ℕ, Bool, true, false, cond, List, take, drop, Option, None, Some, refl, sym, ap, subst, []}
use Rattle.std.proofs.lemmas.List.{take-append-drop}
use Rattle.z_ber.specs.Due.{Stands}
use Rattle.z_ber.specs.Frames.{IsFrame}
use Rattle.z_ber.specs.Header.{IsBadFor}
use Rattle.z_types.specs.Pending.{Pending, IsPending, resting, opening, asked, broken}
use Rattle.z_types.specs.declared.address.Address.{Address}
use Rattle.z_types.specs.declared.ask.Ask.TheVariants.{Search, Present, Scan}
use Rattle.z_types.specs.declared.key.SetKey.{SetKey}
use Rattle.z_types.specs.declared.world.World as world
use Rattle.z_types.specs.Same.{is_same}
use Rattle.gw_outside.specs.Counts.{Counts, WireCounts, nothing, after}
use Rattle.gw_outside.specs.declared.backends.Heard.{Heard}
use Rattle.gw_outside.specs.declared.backends.Heard.TheVariants.{Opened, Hits, Refused, Items, Gone, Scanned, NotYet, Failed, Memory}
use Rattle.gw_outside.specs.declared.links.Linked as linked
use Rattle.gw_outside.specs.Peers.{Peer}
use Rattle.gw_outside.specs.Sessions.{Made, Fits, IsWorlds, RecordsOf, made_after}
use Rattle.gw_outside.specs.Wires.{HandsOver, first_says_gone}
use Rattle.z_client.specs.declared.arrivals.Arrival.{Arrival}
use Rattle.z_client.specs.declared.arrivals.Arrival.TheVariants.{Unit as Whole, NotYet as NotCome, Breach as BadOctets, Failed as NoLink, Memory as NoMemory}
use Rattle.z_client.specs.declared.found.Found.{Found}
use Rattle.z_client.specs.declared.found.Found.TheVariants as found
use Rattle.z_client.specs.declared.session.LinkParts.{LinkParts}
use Rattle.z_client.specs.Arrivals.{ArrivesBy, arrival_counted, reply_counted}
use Rattle.z_client.specs.Heard.{heard_of}
use Rattle.z_client.specs.Looks.{IsHeardIn, IsFirstOwed, IsOwed, EndsWait, IsToldCome, HasArrived, IsListened, FoundFits, FoundIn, FoundCounts, KeepsBreach, answer_of}
use Rattle.z_client.specs.Sets.{made_in, pending_of}
use Rattle.z_client.specs.TrueSession.{IsToldTrue, IsTruePeer, IsTrueSession}
use Rattle.z_client.proofs.GoneLemmas.{gone_in, heard_gone}
use Rattle.z_client.proofs.HearingLemmas.{heard_ends}
use Rattle.z_client.proofs.TrueLooks.{come_worlds, come_rests, come_heard, has_come, reply_one}

-- ---- answers that say nothing

either_same : {A : Type 0} (b : Bool) (a : A) → cond b a a ≡ a
either_same true a = refl
either_same false a = refl

pub not_yet_made : (p : Pending) (made : Made) (name : List ℕ) → made name ≡ made_after p NotYet made name
not_yet_made resting made name = refl
not_yet_made opening made name = refl
not_yet_made broken made name = refl
not_yet_made (asked (Search own key)) made name = sym (either_same (is_same own name) (made name))
not_yet_made (asked (Present own first count syntax element)) made name = refl
not_yet_made (asked (Scan dbs ask)) made name = refl

pub not_yet_fits : (p : Pending) → Fits p NotYet
not_yet_fits resting = tt
not_yet_fits opening = tt
not_yet_fits broken = tt
not_yet_fits (asked ask) = tt

pub failed_made : (p : Pending) (made : Made) (name : List ℕ) → made name ≡ made_after p Failed made name
failed_made resting made name = refl
failed_made opening made name = refl
failed_made broken made name = refl
failed_made (asked (Search own key)) made name = sym (either_same (is_same own name) (made name))
failed_made (asked (Present own first count syntax element)) made name = refl
failed_made (asked (Scan dbs ask)) made name = refl

pub memory_made : (p : Pending) (made : Made) (name : List ℕ) → made name ≡ made_after p Memory made name
memory_made resting made name = refl
memory_made opening made name = refl
memory_made broken made name = refl
memory_made (asked (Search own key)) made name = sym (either_same (is_same own name) (made name))
memory_made (asked (Present own first count syntax element)) made name = refl
memory_made (asked (Scan dbs ask)) made name = refl

pub failed_fits : (p : Pending) → Fits p Failed
failed_fits resting = tt
failed_fits opening = tt
failed_fits broken = tt
failed_fits (asked ask) = tt

pub memory_fits : (p : Pending) → Fits p Memory
memory_fits resting = tt
memory_fits opening = tt
memory_fits broken = tt
memory_fits (asked ask) = tt

module _ {W : Type 0} (w : world.Ghosts W) (address : Address) (made : Made) where
  records_not_yet : (set : Option (SetKey × ℕ)) (syntax element : Option (List ℕ)) (first : ℕ) → RecordsOf w address set syntax element first NotYet
  records_not_yet None syntax element first = tt
  records_not_yet (Some set) syntax element first = tt

  records_failed : (set : Option (SetKey × ℕ)) (syntax element : Option (List ℕ)) (first : ℕ) → RecordsOf w address set syntax element first Failed
  records_failed None syntax element first = tt
  records_failed (Some set) syntax element first = tt

  records_memory : (set : Option (SetKey × ℕ)) (syntax element : Option (List ℕ)) (first : ℕ) → RecordsOf w address set syntax element first Memory
  records_memory None syntax element first = tt
  records_memory (Some set) syntax element first = tt

  pub not_yet_worlds : (p : Pending) → IsWorlds w address made p NotYet
  not_yet_worlds resting = tt
  not_yet_worlds opening = tt
  not_yet_worlds broken = tt
  not_yet_worlds (asked (Search own key)) = tt
  not_yet_worlds (asked (Present own first count syntax element)) = records_not_yet (made own) syntax element first
  not_yet_worlds (asked (Scan dbs ask)) = tt

  pub failed_worlds : (p : Pending) → IsWorlds w address made p Failed
  failed_worlds resting = tt
  failed_worlds opening = tt
  failed_worlds broken = tt
  failed_worlds (asked (Search own key)) = tt
  failed_worlds (asked (Present own first count syntax element)) = records_failed (made own) syntax element first
  failed_worlds (asked (Scan dbs ask)) = tt

  pub memory_worlds : (p : Pending) → IsWorlds w address made p Memory
  memory_worlds resting = tt
  memory_worlds opening = tt
  memory_worlds broken = tt
  memory_worlds (asked (Search own key)) = tt
  memory_worlds (asked (Present own first count syntax element)) = records_memory (made own) syntax element first
  memory_worlds (asked (Scan dbs ask)) = tt

  -- ---- where a peer is told

  -- what is heard of a reply that has come is the world's
  told_worlds : (p : Pending) (peer : Option Peer) (octets : List ℕ) (heard : Heard) → IsToldCome w address made p peer octets
      → IsHeardIn p octets (Some heard) → IsWorlds w address made p heard
  told_worlds p None octets heard come is = absurd come
  told_worlds p (Some peer) octets heard come is = come_worlds w address made p peer octets is.0 heard come is.1 is.2

  -- something is
  told_heard : (p : Pending) (peer : Option Peer) (octets : List ℕ) → IsHeardIn p octets None → ¬ IsToldCome w address made p peer octets
  told_heard p None octets none come = come
  told_heard p (Some peer) octets none come = come_heard w address made p peer octets come none

  -- and then the session rests
  told_rests : (p : Pending) (old new : Option Peer) (octets : List ℕ) (heard : Heard) (then_ : Made) → IsPending p
      → IsToldCome w address made p old octets → new ≡ old → EndsWait p heard → IsWorlds w address made p heard
      → ((name : List ℕ) → then_ name ≡ made_after p heard made name) → IsToldTrue w address then_ resting new
  told_rests p None new octets heard then_ is come same ends worlds made_then = absurd come
  told_rests p (Some peer) new octets heard then_ is come same ends worlds made_then =
      subst (λ at. IsToldTrue w address then_ resting at) (sym same)
      (come_rests w address made p peer octets heard then_ is come ends.fits ends.rests worlds made_then)

-- ---- what becomes of a session

module _ {W L : Type 0} (w : world.Ghosts W) (l : linked.Ghosts L) (p : Pending) (s : LinkParts L) where
  broken_kept : pending_of s.waiting ≡ broken → IsTrueSession w l s
  broken_kept is not = absurd (not is)

  pub memory_listened : (made : Made) → pending_of s.waiting ≡ broken → ((name : List ℕ) → made_in s.made.items name ≡ made name) → IsListened w l s.address made p s Memory
  memory_listened made is same = record {
    fits = memory_fits p;
    worlds = λ told. memory_worlds w s.address made p;
    pending = is;
    made_then = λ name. same name ∙ memory_made p made name;
    same_address = refl;
    kept = broken_kept is;
  }

  pub failed_listened : pending_of s.waiting ≡ broken → IsListened w l s.address (made_in s.made.items) p s Failed
  failed_listened is = record {
    fits = failed_fits p;
    worlds = λ told. failed_worlds w s.address (made_in s.made.items) p;
    pending = is;
    made_then = λ name. failed_made p (made_in s.made.items) name;
    same_address = refl;
    kept = broken_kept is;
  }

  pub breach_listened : (arrived : List ℕ) (said : Found) → KeepsBreach arrived said → pending_of s.waiting ≡ broken
      → IsListened w l s.address (made_in s.made.items) p s (answer_of said)
  breach_listened arrived (found.Breach octets) keeps is = failed_listened is
  breach_listened arrived (found.Gone octets) keeps is = absurd keeps
  breach_listened arrived (found.Heard heard) keeps is =
      subst (λ h. IsListened w l s.address (made_in s.made.items) p s h) (sym keeps) (memory_listened (made_in s.made.items) is (λ name. refl))

  -- a session that waits on
  pub not_yet_listened : pending_of s.waiting ≡ p → IsTrueSession w l s → IsListened w l s.address (made_in s.made.items) p s NotYet
  not_yet_listened same kept = record {
    fits = not_yet_fits p;
    worlds = λ told. not_yet_worlds w s.address (made_in s.made.items) p;
    pending = same;
    made_then = λ name. not_yet_made p (made_in s.made.items) name;
    same_address = refl;
    kept = kept;
  }

  -- one that rests once an answer was heard
  pub rest_listened : (size : ℕ) (heard : Heard) (new : LinkParts L) → HasArrived w l s p size → IsHeardIn p (take size (l.arrived s.link)) (Some heard)
      → pending_of new.waiting ≡ resting → ((name : List ℕ) → made_in new.made.items name ≡ made_after p heard (made_in s.made.items) name)
      → new.address ≡ s.address → l.arrived new.link ≡ drop size (l.arrived s.link) → l.peer new.link ≡ l.peer s.link
      → Stands (l.arrived new.link) new.scan.passed new.scan.opened → IsListened w l s.address (made_in s.made.items) p new heard
  rest_listened size heard new has is rests made_then same left peer stands =
      let ends = heard_ends p is.0 heard is.2 in
      let worlds = λ (told : w.told s.address). told_worlds w s.address (made_in s.made.items) p (l.peer s.link) (take size (l.arrived s.link)) heard (has.come told) is in
      record {
        fits = ends.fits;
        worlds = worlds;
        pending = rests ∙ sym ends.rests;
        made_then = made_then;
        same_address = same;
        kept = λ waits. record {
          scanned = stands;
          nothing = λ told. left ∙ has.all (subst (λ a. w.told a) same told);
          peer = λ told.
              let here = subst (λ a. w.told a) same told in
              subst (λ a. IsToldTrue w a (made_in new.made.items) (pending_of new.waiting) (l.peer new.link)) (sym same)
              (subst (λ q. IsToldTrue w s.address (made_in new.made.items) q (l.peer new.link)) (sym rests)
              (told_rests w s.address (made_in s.made.items) p (l.peer s.link) (l.peer new.link) (take size (l.arrived s.link)) heard (made_in new.made.items)
              has.waits (has.come here) peer ends (worlds here) made_then));
          exact = λ x. subst (λ a. w.told a) (sym same) (has.exact x);
        };
      }

-- ---- what is found of a unit

-- octets that begin with a whole unit of which nothing is heard
pub another_found : (told : Type 0) (p : Pending) (arrived : List ℕ) (size : ℕ) (said : Found) → KeepsBreach arrived said → IsFrame (take size arrived)
    → IsHeardIn p (take size arrived) None → ¬ told → FoundIn told p (take size arrived) arrived said
another_found told p arrived size (found.Heard heard) keeps frame none untold =
    subst (λ h. FoundIn told p (take size arrived) arrived (found.Heard h)) (sym keeps) tt
another_found told p arrived size (found.Gone octets) keeps frame none untold = absurd keeps
another_found told p arrived size (found.Breach octets) keeps frame none untold = record {
  breach = inr (record {
    unit = take size arrived;
    rest = drop size arrived;
    frame = frame;
    spelled = keeps ∙ sym (take-append-drop size arrived);
    no_reply = none;
  });
  all = keeps;
  untold = untold;
}

-- something is heard of what has come from a told address
pub none_untold : {W L : Type 0} (w : world.Ghosts W) (l : linked.Ghosts L) (p : Pending) (s : LinkParts L) (size : ℕ) → HasArrived w l s p size
    → IsHeardIn p (take size (l.arrived s.link)) None → ¬ w.told s.address
none_untold w l p s size has none told =
    told_heard w s.address (made_in s.made.items) p (l.peer s.link) (take size (l.arrived s.link)) none (has.come told)

-- octets that begin with no unit
pub bad_found : (told : Type 0) (p : Pending) (arrived : List ℕ) (said : Found) → KeepsBreach arrived said → IsBadFor IsFrame arrived → ¬ told
    → FoundFits told p arrived said
bad_found told p arrived (found.Heard heard) keeps bad untold = subst (λ h. FoundFits told p arrived (found.Heard h)) (sym keeps) tt
bad_found told p arrived (found.Gone octets) keeps bad untold = absurd keeps
bad_found told p arrived (found.Breach octets) keeps bad untold =
    record { breach = inl (subst (λ o. IsBadFor IsFrame o) (sym keeps) bad); all = keeps; untold = untold }

-- what was found of a unit fits
pub in_fits : (told : Type 0) (p : Pending) (unit arrived : List ℕ) (said : Found) → FoundIn told p unit arrived said → FoundFits told p arrived said
in_fits told p unit arrived (found.Gone octets) is = is.1
in_fits told p unit arrived (found.Breach octets) is = is
in_fits told p unit arrived (found.Heard NotYet) is = absurd is
in_fits told p unit arrived (found.Heard Gone) is = absurd is
in_fits told p unit arrived (found.Heard Failed) is = absurd is
in_fits told p unit arrived (found.Heard Memory) is = tt
in_fits told p unit arrived (found.Heard Opened) is = tt
in_fits told p unit arrived (found.Heard (Hits hits)) is = tt
in_fits told p unit arrived (found.Heard (Refused diag)) is = tt
in_fits told p unit arrived (found.Heard (Items items)) is = tt
in_fits told p unit arrived (found.Heard (Scanned answer)) is = tt

-- ---- what has arrived

module _ {W : Type 0} (w : world.Ghosts W) (address : Address) (made : Made) (p : Pending) (exact : Bool) (old new : Option Peer) (arrived : List ℕ) (before now : Counts) where
  -- where the address is told its peer is true, and what has arrived is its
  abbrev pub Awaits : Arrival → Type 0
  Awaits answer = w.told address → IsToldTrue w address made p old × ArrivesBy exact old new arrived before now answer

-- ---- what is counted

module _ (exact : Bool) (before now : Counts) where
  counts_gone : (b : Bool) → WireCounts false nothing before now → (exact ≡ true → now ≡ after (record nothing { gone = b }) before)
      → WireCounts exact (record nothing { gone = b }) before now
  counts_gone b c e = record { waits = c.waits; faults = c.faults; failed = c.failed; exactly = e }

-- whether a reply that came says that a set is gone
abbrev CameEither : Counts → Counts → Type 0
CameEither before now = (now ≡ after nothing before) ⊎ (now ≡ after (record nothing { gone = true }) before)

either_gone : (b : Bool) (before now : Counts) → now ≡ after (record nothing { gone = b }) before → CameEither before now
either_gone true before now e = inr e
either_gone false before now e = inl e

memory_true : (before now : Counts) → WireCounts false nothing before now → CameEither before now → FoundCounts true (found.Heard Memory) before now
memory_true before now c (inl e) = inl (counts_gone true before now false c (λ x. e))
memory_true before now c (inr e) = inr (counts_gone true before now true c (λ x. e))

memory_found : (exact : Bool) (before now : Counts) → WireCounts false nothing before now → (exact ≡ true → CameEither before now)
    → FoundCounts exact (found.Heard Memory) before now
memory_found true before now c e = memory_true before now c (e refl)
memory_found false before now c e = inl c

-- ---- what was owed

abbrev HasOwed : Pending → Option Peer → Heard → Type 0
HasOwed p None heard = ⊥
HasOwed p (Some peer) heard = IsFirstOwed peer.owed p heard

owed_is : (p : Pending) (peer : Option Peer) (heard : Heard) → HasOwed p peer heard → IsOwed peer p heard
owed_is p None heard o = absurd o
owed_is p (Some peer) Opened o = o
owed_is p (Some peer) (Hits hits) o = o
owed_is p (Some peer) (Refused diag) o = o
owed_is p (Some peer) (Items items) o = o
owed_is p (Some peer) Gone o = o
owed_is p (Some peer) (Scanned answer) o = o
owed_is p (Some peer) NotYet o = tt
owed_is p (Some peer) Failed o = tt
owed_is p (Some peer) Memory o = tt

pub breach_owed : (p : Pending) (peer : Option Peer) (arrived : List ℕ) (said : Found) → KeepsBreach arrived said → IsOwed peer p (answer_of said)
breach_owed p peer arrived (found.Heard heard) keeps = subst (λ h. IsOwed peer p h) (sym keeps) tt
breach_owed p peer arrived (found.Gone octets) keeps = absurd keeps
breach_owed p peer arrived (found.Breach octets) keeps = tt

module _ {W : Type 0} (w : world.Ghosts W) (address : Address) (made : Made) (p : Pending) (exact : Bool) where
  not_yet_true : (old new : Option Peer) (arrived : List ℕ) (before now : Counts) → IsToldTrue w address made p old → ArrivesBy exact old new arrived before now NotCome
      → (arrived ≡ []) × IsToldTrue w address made p new
  not_yet_true None new arrived before now t by = absurd t
  not_yet_true (Some old) None arrived before now t by = absurd by
  not_yet_true (Some old) (Some new) arrived before now t by = (by.1, subst (λ at. IsTruePeer w address made p at) (sym by.0) t)

  unit_come : (old new : Option Peer) (arrived : List ℕ) (before now : Counts) (size : ℕ) → IsPending p → IsToldTrue w address made p old
      → ArrivesBy exact old new arrived before now (Whole size) → IsToldCome w address made p new (take size arrived) × (drop size arrived ≡ [])
  unit_come None new arrived before now size is t by = absurd t
  unit_come (Some old) None arrived before now size is t by = absurd by
  unit_come (Some old) (Some new) arrived before now size is t by = (has_come w address made p old new (take size arrived) is t by.0.hands, by.1)

  -- where the address is told a unit is the reply that is owed
  pub come_told : (old new : Option Peer) (arrived : List ℕ) (before now : Counts) (size : ℕ) → IsPending p → Awaits w address made p exact old new arrived before now (Whole size)
      → w.told address → IsToldCome w address made p new (take size arrived) × (drop size arrived ≡ [])
  come_told old new arrived before now size is by told = unit_come old new arrived before now size is (by told).0 (by told).1

  -- and where none has come a peer stays true
  pub still_told : (old new : Option Peer) (arrived : List ℕ) (before now : Counts) → Awaits w address made p exact old new arrived before now NotCome
      → w.told address → (arrived ≡ []) × IsToldTrue w address made p new
  still_told old new arrived before now by told = not_yet_true old new arrived before now (by told).0 (by told).1

  never_bad : {P : Type 0} (old new : Option Peer) (arrived : List ℕ) (before now : Counts) → IsToldTrue w address made p old
      → ArrivesBy exact old new arrived before now BadOctets → P
  never_bad None new arrived before now t by = absurd t
  never_bad (Some old) new arrived before now t by = absurd by

  -- no breach arrives from a told address
  pub bad_untold : (old new : Option Peer) (arrived : List ℕ) (before now : Counts) → Awaits w address made p exact old new arrived before now BadOctets → ¬ w.told address
  bad_untold old new arrived before now by told = never_bad old new arrived before now (by told).0 (by told).1

  -- ---- what it owed

  -- a reply that was handed over as a unit was the first that was owed
  owed_first : (old new : Peer) (unit : List ℕ) (heard : Heard) → HandsOver old new unit → IsHeardIn p unit (Some heard) → IsFirstOwed old.owed p heard
  owed_first old new unit heard by is =
      (by.reply, by.rest, by.was_owed, ap (λ said. heard_of p said) (reply_one unit by.reply is.0 by.unit is.1) ∙ is.2)

  said_owed : (old new : Option Peer) (arrived : List ℕ) (before now : Counts) (size : ℕ) (heard : Heard) → IsToldTrue w address made p old
      → ArrivesBy exact old new arrived before now (Whole size) → IsHeardIn p (take size arrived) (Some heard) → HasOwed p old heard
  said_owed None new arrived before now size heard t by is = absurd t
  said_owed (Some old) None arrived before now size heard t by is = absurd by
  said_owed (Some old) (Some new) arrived before now size heard t by is = owed_first old new (take size arrived) heard by.0.hands is

  module _ (old new : Option Peer) (arrived : List ℕ) (before now : Counts) where
    pub found_owed : (size : ℕ) (left : List ℕ) (said : Found) → Awaits w address made p exact old new arrived before now (Whole size)
        → FoundIn (w.told address) p (take size arrived) left said → w.told address → IsOwed old p (answer_of said)
    found_owed size left (found.Gone octets) by is told = owed_is p old Gone (said_owed old new arrived before now size Gone (by told).0 (by told).1 is.0)
    found_owed size left (found.Breach octets) by is told = tt
    found_owed size left (found.Heard NotYet) by is told = absurd is
    found_owed size left (found.Heard Gone) by is told = absurd is
    found_owed size left (found.Heard Failed) by is told = absurd is
    found_owed size left (found.Heard Memory) by is told = tt
    found_owed size left (found.Heard Opened) by is told = owed_is p old Opened (said_owed old new arrived before now size Opened (by told).0 (by told).1 is)
    found_owed size left (found.Heard (Hits hits)) by is told = owed_is p old (Hits hits) (said_owed old new arrived before now size (Hits hits) (by told).0 (by told).1 is)
    found_owed size left (found.Heard (Refused diag)) by is told = owed_is p old (Refused diag) (said_owed old new arrived before now size (Refused diag) (by told).0 (by told).1 is)
    found_owed size left (found.Heard (Items items)) by is told = owed_is p old (Items items) (said_owed old new arrived before now size (Items items) (by told).0 (by told).1 is)
    found_owed size left (found.Heard (Scanned answer)) by is told = owed_is p old (Scanned answer) (said_owed old new arrived before now size (Scanned answer) (by told).0 (by told).1 is)

  -- ---- what is counted for it

  unit_gone : (old new : Option Peer) (arrived : List ℕ) (before now : Counts) (size : ℕ) (heard : Heard) → exact ≡ true → IsToldTrue w address made p old
      → ArrivesBy exact old new arrived before now (Whole size) → IsHeardIn p (take size arrived) (Some heard) → now ≡ after (record nothing { gone = gone_in heard }) before
  unit_gone None new arrived before now size heard x t by is = absurd t
  unit_gone (Some old) None arrived before now size heard x t by is = absurd by
  unit_gone (Some old) (Some new) arrived before now size heard x t by is =
      let o = owed_first old new (take size arrived) heard by.0.hands is in
      by.0.counts x ∙ ap (λ b. after (record nothing { gone = b }) before) (ap (λ owed. first_says_gone owed) o.2 ∙ heard_gone p o.0 heard o.3)

  unit_either : (old new : Option Peer) (arrived : List ℕ) (before now : Counts) (size : ℕ) → exact ≡ true → IsToldTrue w address made p old
      → ArrivesBy exact old new arrived before now (Whole size) → CameEither before now
  unit_either None new arrived before now size x t by = absurd t
  unit_either (Some old) None arrived before now size x t by = absurd by
  unit_either (Some old) (Some new) arrived before now size x t by = either_gone (first_says_gone old.owed) before now (by.0.counts x)

  vain_either : (old : Peer) (before now : Counts) → (now ≡ after nothing before) ⊎ (now ≡ after (reply_counted old) before) → CameEither before now
  vain_either old before now (inl e) = inl e
  vain_either old before now (inr e) = either_gone (first_says_gone old.owed) before now e

  vain_memory : (old new : Option Peer) (arrived : List ℕ) (before now : Counts) → exact ≡ true → IsToldTrue w address made p old
      → ArrivesBy exact old new arrived before now NoMemory → CameEither before now
  vain_memory None new arrived before now x t by = absurd t
  vain_memory (Some old) new arrived before now x t by = vain_either old before now (by x)

  vain_failed : (old new : Option Peer) (arrived : List ℕ) (before now : Counts) → exact ≡ true → IsToldTrue w address made p old
      → ArrivesBy exact old new arrived before now NoLink → now ≡ after (record nothing { fault = true }) before
  vain_failed None new arrived before now x t by = absurd t
  vain_failed (Some old) new arrived before now x t by = by x

  vain_not_yet : (old new : Option Peer) (arrived : List ℕ) (before now : Counts) → exact ≡ true → IsToldTrue w address made p old
      → ArrivesBy exact old new arrived before now NotCome → now ≡ after (record nothing { wait = true }) before
  vain_not_yet None new arrived before now x t by = absurd t
  vain_not_yet (Some old) None arrived before now x t by = absurd by
  vain_not_yet (Some old) (Some new) arrived before now x t by = by.2 x

  module _ (old new : Option Peer) (arrived : List ℕ) (before now : Counts) (is_told : exact ≡ true → w.told address) where
    abbrev ByPeer : Arrival → Type 0
    ByPeer answer = Awaits w address made p exact old new arrived before now answer

    pub not_yet_counts : ByPeer NotCome → WireCounts false (arrival_counted NotCome) before now → FoundCounts exact (found.Heard NotYet) before now
    not_yet_counts by c = record {
      waits = c.waits;
      faults = c.faults;
      failed = c.failed;
      exactly = λ x. vain_not_yet old new arrived before now x (by (is_told x)).0 (by (is_told x)).1;
    }

    pub failed_counts : ByPeer NoLink → WireCounts false (arrival_counted NoLink) before now → FoundCounts exact (found.Heard Failed) before now
    failed_counts by c = record {
      waits = c.waits;
      faults = c.faults;
      failed = c.failed;
      exactly = λ x. vain_failed old new arrived before now x (by (is_told x)).0 (by (is_told x)).1;
    }

    pub memory_counts : ByPeer NoMemory → WireCounts false (arrival_counted NoMemory) before now → FoundCounts exact (found.Heard Memory) before now
    memory_counts by c = memory_found exact before now c (λ x. vain_memory old new arrived before now x (by (is_told x)).0 (by (is_told x)).1)

    pub bad_counts : (said : Found) → KeepsBreach arrived said → ByPeer BadOctets → WireCounts false (arrival_counted BadOctets) before now → FoundCounts exact said before now
    bad_counts (found.Heard heard) keeps by c =
        subst (λ h. FoundCounts exact (found.Heard h) before now) (sym keeps)
        (memory_found exact before now c (λ x. absurd (bad_untold old new arrived before now by (is_told x))))
    bad_counts (found.Gone octets) keeps by c = absurd keeps
    bad_counts (found.Breach octets) keeps by c = counts_gone exact before now false c (λ x. absurd (bad_untold old new arrived before now by (is_told x)))

    heard_counts_of : (size : ℕ) (heard : Heard) → ByPeer (Whole size) → WireCounts false nothing before now → IsHeardIn p (take size arrived) (Some heard)
        → WireCounts exact (record nothing { gone = gone_in heard }) before now
    heard_counts_of size heard by c is =
        counts_gone exact before now (gone_in heard) c (λ x. unit_gone old new arrived before now size heard x (by (is_told x)).0 (by (is_told x)).1 is)

    pub unit_counts : (size : ℕ) (left : List ℕ) (said : Found) → ByPeer (Whole size) → WireCounts false (arrival_counted (Whole size)) before now
        → FoundIn (w.told address) p (take size arrived) left said → FoundCounts exact said before now
    unit_counts size left (found.Gone octets) by c is = heard_counts_of size Gone by c is.0
    unit_counts size left (found.Breach octets) by c is = counts_gone exact before now false c (λ x. absurd (is.untold (is_told x)))
    unit_counts size left (found.Heard NotYet) by c is = absurd is
    unit_counts size left (found.Heard Gone) by c is = absurd is
    unit_counts size left (found.Heard Failed) by c is = absurd is
    unit_counts size left (found.Heard Memory) by c is =
        memory_found exact before now c (λ x. unit_either old new arrived before now size x (by (is_told x)).0 (by (is_told x)).1)
    unit_counts size left (found.Heard Opened) by c is = heard_counts_of size Opened by c is
    unit_counts size left (found.Heard (Hits hits)) by c is = heard_counts_of size (Hits hits) by c is
    unit_counts size left (found.Heard (Refused diag)) by c is = heard_counts_of size (Refused diag) by c is
    unit_counts size left (found.Heard (Items items)) by c is = heard_counts_of size (Items items) by c is
    unit_counts size left (found.Heard (Scanned answer)) by c is = heard_counts_of size (Scanned answer) by c is
