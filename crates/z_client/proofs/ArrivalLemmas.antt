-- A unit arrives over a link that tells its peer (X.690:2021, 8.1; what links tell is this project's own)
use Rattle.std.proofs.Common.{arith, ◌≡◌, ◌∙◌, inl, inr, ℕ, zero, suc, Bool, true, false, List, [], ◌++◌, append_assoc, length, take, drop, Option, None, Some, refl, sym, ap, subst}
use Rattle.std.proofs.lemmas.List.{take-append-drop, append-nil, append_cancel_left}
use Rattle.z_types.specs.Bounds.{most_levels}
use Rattle.z_ber.specs.Due.{Stands, StandsOn}
use Rattle.z_ber.specs.Element.{end_of_contents}
use Rattle.z_ber.specs.Frames.{IsFrame, IsExtent}
use Rattle.z_ber.specs.Header.{IsOpenFor, IsBadFor}
use Rattle.z_ber.specs.declared.tag.Tag.{Tag}
use Rattle.z_ber.proofs.OneSplit.{frame_begins_no_other}
use Rattle.z_ber.proofs.TreeLaws.{head_some}
use Rattle.z_ber.proofs.WrittenLaws.{element-extent}
use Rattle.z_ber.specs.Written.{element}
use Rattle.unit_forms.specs.Fields.{primitive}
use Rattle.gw_outside.specs.Counts.{Counts, WireCounts, nothing, after}
use Rattle.gw_outside.specs.Peers.{Peer}
use Rattle.gw_outside.specs.Wires.{HandsOver, look_counted}
use Rattle.gw_outside.specs.declared.wires.Looked.TheVariants as looked
use Rattle.z_client.specs.declared.arrivals.Arrival.{Arrival}
use Rattle.z_client.specs.declared.arrivals.Arrival.TheVariants.{Unit as Whole, NotYet, Breach, Failed, Memory}
use Rattle.z_client.specs.Arrivals.{ArrivalFits, HasNotCome, HasHandedOver, CameFrom, ArrivesBy, IsInFront, IsLooked, arrival_counted, reply_counted, looked_for}
use Rattle.z_client.proofs.CountLemmas.{counted_more}
use Rattle.z_client.proofs.SizeLemmas as size
use Rattle.z_client.proofs.SizeLemmas.{octets_within}

no_extent : {P : Type 0} (octets : List ℕ) (t : Tag) (b : List ℕ) → IsExtent most_levels octets t b → octets ≡ [] → P
unfolding IsExtent
no_extent octets t b (inl d) e = head_some d.head t (Some (length b)) b d.header (sym d.spelled ∙ e)
no_extent octets t b (inr d) e = head_some d.head t None (b ++ end_of_contents) d.header (sym (append_assoc d.head b end_of_contents) ∙ sym d.spelled ∙ e)

-- no frame is empty
pub no_frame : {P : Type 0} (octets : List ℕ) → IsFrame octets → octets ≡ [] → P
no_frame octets f e = no_extent octets f.0.0 f.0.1 f.0.2 e

-- octets that are a frame are open for none
pub not_open : {P : Type 0} (octets : List ℕ) → IsFrame octets → IsOpenFor IsFrame octets → P
not_open octets f o = absurd (o.0 (octets, [], f, sym (append-nil octets)))

take_nil : (size : ℕ) → ◌≡◌ {A = List ℕ} (take size []) []
take_nil zero = refl
take_nil (suc size) = refl

pub take_none : (size : ℕ) (octets : List ℕ) → octets ≡ [] → take size octets ≡ []
take_none size octets e = ap (λ o. take size o) e ∙ take_nil size

-- the frame in front of a frame is all of it
front_is_all : (octets : List ℕ) (size : ℕ) → IsFrame octets → IsFrame (take size octets) → take size octets ≡ octets
front_is_all octets size f g =
    frame_begins_no_other (take size octets) octets (drop size octets) [] g f (take-append-drop size octets ∙ sym (append-nil octets))

nothing_behind : (octets : List ℕ) (size : ℕ) → take size octets ≡ octets → drop size octets ≡ []
nothing_behind octets size e =
    append_cancel_left octets (drop size octets) [] (ap (λ front. front ++ drop size octets) (sym e) ∙ take-append-drop size octets ∙ sym (append-nil octets))

-- no octets begin a frame
pub nothing_opens : {P : Type 0} → IsBadFor IsFrame [] → P
nothing_opens bad =
    let few = octets_within 0 (omega arith) (omega arith) size.nothing in
    let frame : IsFrame (element (primitive 0) []) =
    ((primitive 0, [], element-extent most_levels (primitive 0) [] (omega arith) (omega arith, omega arith) (omega arith)), omega (arith, few.few)) in
    absurd (bad (element (primitive 0) [], (element (primitive 0) [], [], frame, sym (append-nil (element (primitive 0) [])))))

-- octets that are a frame begin one
pub frame_opens : {P : Type 0} (octets : List ℕ) → IsFrame octets → IsBadFor IsFrame octets → P
frame_opens octets f bad = absurd (bad ([], (octets, [], f, refl)))

module _ (exact : Bool) where
  -- a unit in front is what was handed over
  whole_told : (old new : Peer) (arrived : List ℕ) (before now : Counts) (size : ℕ) → IsFrame (take size arrived) → CameFrom exact (Some old) (Some new) arrived before now
      → HasHandedOver exact old new (take size arrived) before now × (drop size arrived ≡ [])
  whole_told old new arrived before now size f (inl h) = no_frame (take size arrived) f (take_none size arrived h.none)
  whole_told old new arrived before now size f (inr h) =
      let all = front_is_all arrived size h.hands.unit.frame f in
      (record { hands = subst (λ octets. HandsOver old new octets) (sym all) h.hands; counts = h.counts }, nothing_behind arrived size all)

  -- where octets are open nothing has come
  open_told : (old new : Peer) (arrived : List ℕ) (before now : Counts) → IsOpenFor IsFrame arrived → CameFrom exact (Some old) (Some new) arrived before now
      → HasNotCome exact old new arrived before now
  open_told old new arrived before now o (inl h) = h
  open_told old new arrived before now o (inr h) = not_open arrived h.hands.unit.frame o

  -- what has come is no breach
  bad_told : {P : Type 0} (old new : Peer) (arrived : List ℕ) (before now : Counts) → IsBadFor IsFrame arrived → CameFrom exact (Some old) (Some new) arrived before now → P
  bad_told old new arrived before now bad (inl h) = nothing_opens (subst (λ octets. IsBadFor IsFrame octets) h.none bad)
  bad_told old new arrived before now bad (inr h) = frame_opens arrived h.hands.unit.frame bad

  pub front_arrives : (old new : Option Peer) (arrived : List ℕ) (before now : Counts) (answer : Arrival) → IsInFront arrived (Some answer)
      → CameFrom exact old new arrived before now → ArrivesBy exact old new arrived before now answer
  front_arrives None new arrived before now answer f c = tt
  front_arrives (Some old) None arrived before now answer f c = absurd c
  front_arrives (Some old) (Some new) arrived before now (Whole size) f c = whole_told old new arrived before now size f.1 c
  front_arrives (Some old) (Some new) arrived before now Breach f c = bad_told old new arrived before now f c
  front_arrives (Some old) (Some new) arrived before now NotYet f c = absurd f
  front_arrives (Some old) (Some new) arrived before now Failed f c = absurd f
  front_arrives (Some old) (Some new) arrived before now Memory f c = absurd f

  -- more has arrived
  came : (old mid new : Peer) (start end octets : List ℕ) (before now then_ : Counts) → HasNotCome exact old mid start before now → end ≡ start ++ octets
      → HandsOver mid new octets → WireCounts exact (look_counted (Some mid) looked.Arrived) now then_ → HasHandedOver exact old new end before then_
  came old mid new start end octets before now then_ h e hands counts =
      let all : end ≡ octets = e ∙ ap (λ front. front ++ octets) h.none in
      record {
        hands = subst (λ at. HandsOver at new end) h.same (subst (λ bytes. HandsOver mid new bytes) (sym all) hands);
        counts = λ x. counts.exactly x ∙ ap (λ peer. after (reply_counted peer) now) h.same ∙ ap (λ count. after (reply_counted old) count) (h.counts x);
      }

  pub look_comes : (old mid new : Option Peer) (start end : List ℕ) (before now then_ : Counts) → CameFrom exact old mid start before now → IsOpenFor IsFrame start
      → IsLooked mid new start end None → WireCounts exact (look_counted mid looked.Arrived) now then_ → CameFrom exact old new end before then_
  look_comes None mid new start end before now then_ c o l counts = tt
  look_comes (Some old) None new start end before now then_ c o l counts = absurd c
  look_comes (Some old) (Some mid) None start end before now then_ c o l counts = l.2
  look_comes (Some old) (Some mid) (Some new) start end before now then_ c o l counts =
      inr (came old mid new start end l.0 before now then_ (open_told old mid start before now o c) l.1 l.2 counts)

  not_yet_told : (old mid : Peer) (new : Option Peer) (start end : List ℕ) (before now then_ : Counts) → HasNotCome exact old mid start before now
      → (end ≡ start) × (new ≡ Some mid) → WireCounts exact (arrival_counted NotYet) now then_ → ArrivesBy exact (Some old) new end before then_ NotYet
  not_yet_told old mid None start end before now then_ h l counts = absurd cc
  not_yet_told old mid (Some new) start end before now then_ h l counts =
      let same : new ≡ mid = cc in
      (same ∙ h.same, l.0 ∙ h.none, λ x. counts.exactly x ∙ ap (λ count. after (arrival_counted NotYet) count) (h.counts x))

  -- a look ends it
  pub look_arrives : (old mid new : Option Peer) (start end : List ℕ) (before now then_ : Counts) (answer : Arrival) → CameFrom exact old mid start before now
      → IsOpenFor IsFrame start → IsLooked mid new start end (Some answer) → WireCounts exact (look_counted mid (looked_for (Some answer))) now then_
      → ArrivesBy exact old new end before then_ answer
  look_arrives None mid new start end before now then_ answer c o l counts = tt
  look_arrives (Some old) None new start end before now then_ answer c o l counts = absurd c
  look_arrives (Some old) (Some mid) new start end before now then_ Failed c o l counts =
      let h = open_told old mid start before now o c in
      λ x. counts.exactly x ∙ ap (λ count. after (arrival_counted Failed) count) (h.counts x)
  look_arrives (Some old) (Some mid) new start end before now then_ Memory c o l counts =
      let h = open_told old mid start before now o c in
      λ x. inl (counts.exactly x ∙ ap (λ count. after nothing count) (h.counts x))
  look_arrives (Some old) (Some mid) new start end before now then_ Breach c o l counts = absurd l
  look_arrives (Some old) (Some mid) new start end before now then_ (Whole size) c o l counts = absurd l
  look_arrives (Some old) (Some mid) new start end before now then_ NotYet c o l counts =
      not_yet_told old mid new start end before now then_ (open_told old mid start before now o c) l counts

  -- no look ended it
  pub loop_arrives : (old new : Option Peer) (arrived : List ℕ) (before now : Counts) → CameFrom exact old new arrived before now
      → ArrivesBy exact old new arrived before now Memory
  loop_arrives None new arrived before now c = tt
  loop_arrives (Some old) None arrived before now c = absurd c
  loop_arrives (Some old) (Some new) arrived before now (inl h) = λ x. inl (h.counts x)
  loop_arrives (Some old) (Some new) arrived before now (inr h) = λ x. inr (h.counts x)

  -- nothing has come at first
  pub comes_first : (peer : Option Peer) (arrived : List ℕ) (counts : Counts) → arrived ≡ [] → CameFrom exact peer peer arrived counts counts
  comes_first None arrived counts e = tt
  comes_first (Some peer) arrived counts e = inl (record { same = refl; none = e; counts = λ x. refl })

pub front_fits : (arrived : List ℕ) (answer : Arrival) → IsInFront arrived (Some answer) → ArrivalFits arrived answer
front_fits arrived (Whole size) f = f
front_fits arrived Breach f = f
front_fits arrived NotYet f = absurd f
front_fits arrived Failed f = tt
front_fits arrived Memory f = tt

pub look_fits : (old new : Option Peer) (before after : List ℕ) (answer : Arrival) → IsOpenFor IsFrame before
    → IsLooked old new before after (Some answer) → ArrivalFits after answer
look_fits old new before after NotYet o l = subst (λ octets. IsOpenFor IsFrame octets) (sym l.0) o
look_fits old new before after Failed o l = tt
look_fits old new before after Memory o l = tt
look_fits old new before after Breach o l = absurd l
look_fits old new before after (Whole size) o l = absurd l

-- a scan stands on in what has arrived
pub look_stands : StandsOn → (old new : Option Peer) (before after : List ℕ) (passed opened : ℕ) → Stands before passed opened
    → IsLooked old new before after None → Stands after passed opened
look_stands on old new before after passed opened s l =
    subst (λ octets. Stands octets passed opened) (sym l.1) (on before l.0 passed opened s)

-- ---- what a wire counts until then

-- in front stands what nothing is counted for
pub front_counts : (arrived : List ℕ) (answer : Arrival) (old new : Counts) → IsInFront arrived (Some answer) → WireCounts false nothing old new
    → WireCounts false (arrival_counted answer) old new
front_counts arrived (Whole size) old new f c = c
front_counts arrived Breach old new f c = c
front_counts arrived NotYet old new f c = absurd f
front_counts arrived Failed old new f c = absurd f
front_counts arrived Memory old new f c = absurd f

-- a look that ended it
pub look_counts : (exact : Bool) (peer : Option Peer) (answer : Arrival) (old mid new : Counts) → WireCounts false nothing old mid
    → WireCounts exact (look_counted peer (looked_for (Some answer))) mid new → WireCounts false (arrival_counted answer) old new
look_counts exact peer (Whole size) old mid new c d = counted_more exact nothing old mid new c d
look_counts exact peer Breach old mid new c d = counted_more exact nothing old mid new c d
look_counts exact peer NotYet old mid new c d = counted_more exact (record nothing { wait = true }) old mid new c d
look_counts exact peer Failed old mid new c d = counted_more exact (record nothing { fault = true }) old mid new c d
look_counts exact peer Memory old mid new c d = counted_more exact nothing old mid new c d

-- one at which more arrived
pub arrived_counts : (exact : Bool) (peer : Option Peer) (old mid new : Counts) → WireCounts false nothing old mid
    → WireCounts exact (look_counted peer looked.Arrived) mid new → WireCounts false nothing old new
arrived_counts exact peer old mid new c d =
    let sum = counted_more exact (look_counted peer looked.Arrived) old mid new c d in
    record { waits = sum.waits; faults = sum.faults; failed = sum.failed; exactly = λ e. absurd cc }
