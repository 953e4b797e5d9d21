-- What a front has done, at first, further on and at its end
use Rattle.std.proofs.Common.{◌≡◌, ◌∙◌, ◌⊎◌, inl, inr, ℕ, zero, suc, ◌+◌, ◌<◌, ◌≤◌, true, false, List, [], ◌∷◌, ◌++◌, Option, None, Some, IfSome, IsSome, length, get_or, set, refl, sym, ap, subst, append-nil, arith}
use Rattle.std.specs.Prelude.{option_map}
use Rattle.std.specs.List.{sum_by}
use Rattle.std.proofs.lemmas.Bool.{cases_lt}
use Rattle.std.proofs.lemmas.Grind.{get_or-set_at}
use Rattle.std.proofs.lemmas.List.{get_or-set_other, length-set, set-get_or, set-set}
use Rattle.std.proofs.lemmas.List.Sums.{get_or-le-sum_by}
use Rattle.z_types.specs.declared.sitting.Sitting as sitting
use Rattle.z_types.specs.declared.world.World as world
use Rattle.route_config.specs.declared.route.Route.{Route}
use Rattle.event_outside.specs.declared.sinks.EdgeSink as to
use Rattle.event_outside.specs.declared.sources.EdgeSource as from
use Rattle.event_front.specs.Tasks.{TaskView}
use Rattle.event_front.specs.conn_served.Costs.{Tally}
use Rattle.event_front.specs.conn_served.Seats.{AreGivenBack}
use Rattle.event_front.specs.conn_served.front_conn.steps.Answering.{Outside}
use Rattle.event_front.specs.conn_served.front_conn.steps.States.{IsConnOf}
use Rattle.event_loop.specs.Fronts.{AreTaken, FrontView, HasFronted, HasServed, HasServedTo, HaveCost, IsNoneLeft}
use Rattle.event_loop.specs.declared.fronted.Fronted.{Fronted}
use Rattle.event_loop.specs.declared.fronted.Fronted.TheVariants as fronted
use Rattle.event_loop.specs.declared.places.Coming.{Coming}
use Rattle.event_loop.specs.declared.places.Coming.TheVariants as coming
use Rattle.event_loop.specs.steps.Places.{AreNone, ComesTo, EndsSo, GivesAllUp, GivesUp, GoesOnWith, IsAllGone, IsFront, IsOver, IsPlace, IsSomeFront, ServesOn, end_by, met_at, open_at, searches_at, unused_at}
use Rattle.event_loop.proofs.PlaceLemmas.{some-out}
use Rattle.event_loop.proofs.SeatedLemmas.{none-sum, open-none, seated-first, seated-last}

-- ---- counts that do not fall

pub le-same : (old new : ℕ) → new ≡ old → old ≤ new
le-same old new same = omega (arith, same)

pub le-then : (old mid new : ℕ) → old ≤ mid → mid ≤ new → old ≤ new
le-then old mid new one other = omega (arith, one, other)

-- ---- where none is open

-- none is below a place
abbrev pub AreNoneBelow : {S I K : Type 0} → ℕ → List (Option (TaskView S I K)) → Type 0
AreNoneBelow place places = (other : ℕ) → other < place → get_or places other None ≡ None

module _ {S I K : Type 0} where
  -- what a read at a place that is there gives, whatever stands for none
  pub place-read : (places : List (Option (TaskView S I K))) (place : ℕ) (other : Option (TaskView S I K)) → place < length places
      → get_or places place None ≡ get_or places place other
  place-read [] place other inside = absurd (omega (arith, inside))
  place-read (here ∷ places) zero other inside = refl
  place-read (here ∷ places) (suc place) other inside = place-read places place other (omega (arith, inside))

  none-behind : (places : List (Option (TaskView S I K))) (other : ℕ) → length places ≤ other → get_or places other None ≡ None
  none-behind [] other beyond = refl
  none-behind (here ∷ places) zero beyond = absurd (omega (arith, beyond))
  none-behind (here ∷ places) (suc other) beyond = none-behind places other (omega (arith, beyond))

  all-by : (places : List (Option (TaskView S I K))) (place : ℕ) → length places ≤ place → AreNoneBelow place places → (other : ℕ)
      → (other < place) ⊎ (place ≤ other) → get_or places other None ≡ None
  all-by places place all below other (inl inside) = below other inside
  all-by places place all below other (inr beyond) = none-behind places other (omega (arith, all, beyond))

  pub none-all : (places : List (Option (TaskView S I K))) (place : ℕ) → length places ≤ place → AreNoneBelow place places → AreNone places
  none-all places place all below = λ other. all-by places place all below other (cases_lt other place)

  next-by : (places : List (Option (TaskView S I K))) (place : ℕ) → AreNoneBelow place places → get_or places place None ≡ None
      → (other : ℕ) → other < place + 1 → (other < place) ⊎ (place ≤ other) → get_or places other None ≡ None
  next-by places place below here other inside (inl less) = below other less
  next-by places place below here other inside (inr more) =
      subst (λ (n : ℕ). get_or places n None ≡ None) (let same : place ≡ other = omega (arith, inside, more) in same) here

  pub none-next : (places : List (Option (TaskView S I K))) (place : ℕ) → AreNoneBelow place places → get_or places place None ≡ None
      → AreNoneBelow (place + 1) places
  none-next places place below here = λ other inside. next-by places place below here other inside (cases_lt other place)

  set-below : (places : List (Option (TaskView S I K))) (place : ℕ) (new : Option (TaskView S I K)) → AreNoneBelow place places
      → AreNoneBelow place (set places place new)
  set-below places place new below = λ other inside.
      get_or-set_other places place other new None (λ same. absurd (omega (arith, inside, same))) ∙ below other inside

  -- one is set to none
  pub none-set : (places : List (Option (TaskView S I K))) (place : ℕ) → place < length places → AreNoneBelow place places
      → AreNoneBelow (place + 1) (set places place None)
  none-set places place inside below =
      none-next (set places place None) place (set-below places place None below) (get_or-set_at places place place None None refl inside)

  pub none-push : (places : List (Option (TaskView S I K))) → AreNone places → AreNone (places ++ None ∷ [])
  none-push [] none zero = refl
  none-push [] none (suc other) = refl
  none-push (here ∷ places) none zero = none 0
  none-push (here ∷ places) none (suc other) = none-push places (λ n. none (suc n)) other

-- ---- where connections come from

-- what comes then, of what came before
pub comes-on : (come : Coming) (from then : ℕ) (left : Option ℕ) → ComesTo come from then left → (last : ℕ) → then ≤ last
    → (next : Option ℕ) → next ≡ left → ComesTo come from last next
comes-on coming.On from then left h last more next same = tt
comes-on coming.Ended from then left h last more next same = subst IsNoneLeft (sym same) h
comes-on coming.Failed from then left h last more next same = omega (arith, h, more)

-- counted from earlier on
pub comes-since : (come : Coming) (first from then : ℕ) (left : Option ℕ) → first ≤ from → ComesTo come from then left
    → ComesTo come first then left
comes-since coming.On first from then left more h = tt
comes-since coming.Ended first from then left more h = h
comes-since coming.Failed first from then left more h = omega (arith, h, more)

-- the end of a front, counted from earlier on
pub ends-since : {S I K : Type 0} (how : Fronted) (places : List (Option (TaskView S I K))) (accepts accepted first polls polled : ℕ)
    (left : Option ℕ) → first ≤ polls → EndsSo how places accepts accepted polls polled left
    → EndsSo how places accepts accepted first polled left
ends-since fronted.Ended places accepts accepted first polls polled left more h = h
ends-since fronted.AcceptFailed places accepts accepted first polls polled left more h = h
ends-since fronted.PollFailed places accepts accepted first polls polled left more h =
    (h.0, (let rose = h.1 in omega (arith, more, rose)))
ends-since fronted.Memory places accepts accepted first polls polled left more h = h

-- how a front ends once none is open
pub ends-by : {S I K : Type 0} (come : Coming) (places : List (Option (TaskView S I K))) → sum_by open_at places ≡ 0
    → (from then polls polled : ℕ) (left : Option ℕ) → ComesTo come from then left
    → IfSome (end_by come) (λ how. EndsSo how places from then polls polled left)
ends-by coming.On places none from then polls polled left h = tt
ends-by coming.Ended places none from then polls polled left h = ((none, h), tt)
ends-by coming.Failed places none from then polls polled left h = (none, h)

-- what was counted outside
abbrev tally_on : {S : Type 0} → Outside S → Tally
tally_on here = record { door = here.door.counts; backend = here.backend.counts }

module _ {W S I K : Type 0} (w : world.Ghosts W) (t : sitting.Ghosts S W) (i : from.Ghosts I) (k : to.Ghosts K) (route : Route) where
  -- ---- a place

  -- nothing becomes of it
  pub serves-nothing : (here : Option (TaskView S I K)) (now : FrontView I K) (outside : Outside S)
      → ServesOn w t i k route here here now now outside outside
  unfolding ServesOn
  serves-nothing here now outside = λ start before places at inside is front.
      subst (λ ps. IsFront w t i k route start before [] ps now outside)
      (sym (ap (λ h. set places at h) (sym is) ∙ set-get_or places at None)) front

  -- something, and then more
  pub serves-then : (old mid new : Option (TaskView S I K)) (now amid then : FrontView I K) (here there next : Outside S)
      → ServesOn w t i k route old mid now amid here there → ServesOn w t i k route mid new amid then there next
      → ServesOn w t i k route old new now then here next
  unfolding ServesOn
  serves-then old mid new now amid then here there next one other = λ start before places at inside is front.
      let long = length-set places at mid in
      subst (λ ps. IsFront w t i k route start before [] ps then next) (set-set places at mid new)
      (other start before (set places at mid) at (omega (arith, inside, long)) (get_or-set_at places at at mid None refl inside)
      (one start before places at inside is front))

  -- at a place that is none, and is filled with something
  pub serves-as : (old new here then : Option (TaskView S I K)) (now amid : FrontView I K) (outside next : Outside S) → here ≡ old → then ≡ new
      → ServesOn w t i k route old new now amid outside next → ServesOn w t i k route here then now amid outside next
  serves-as old new here then now amid outside next e f serves =
      subst (λ (h : Option (TaskView S I K)). ServesOn w t i k route h then now amid outside next) (sym e)
      (subst (λ (h : Option (TaskView S I K)). ServesOn w t i k route old h now amid outside next) (sym f) serves)

  place-of : (left : Option ℕ) (most : ℕ) (here : Option (TaskView S I K)) → IsPlace w t i k route left most here
      → IfSome here (λ task. IsConnOf w t route most task.conn)
  place-of left most None h = tt
  place-of left most (Some task) h = h.of

  since-of : (start : FrontView I K) (before : Outside S) (places : List (Option (TaskView S I K))) (now : FrontView I K) (here : Outside S)
      → IsFront w t i k route start before [] places now here → (place : ℕ) (at : Option (TaskView S I K)) → get_or places place None ≡ at
      → IfSome at (λ task. IsConnOf w t route here.door.counts.most task.conn)
  since-of start before places now here front place at is =
      subst (λ h. IfSome h (λ task. IsConnOf w t route here.door.counts.most task.conn)) is
      (subst (λ (n : ℕ). IfSome (get_or places place None) (λ task. IsConnOf w t route n task.conn)) (sym front.most)
      (place-of start.left before.door.counts.most (get_or places place None) (front.tasks place)))

  -- the connection of a place is of the route
  pub front-of : (places : List (Option (TaskView S I K))) (now : FrontView I K) (here : Outside S) → IsSomeFront w t i k route places now here
      → (place : ℕ) (at : Option (TaskView S I K)) → get_or places place None ≡ at
      → IfSome at (λ task. IsConnOf w t route here.door.counts.most task.conn)
  unfolding IsSomeFront
  front-of places now here some place at is =
      since-of some.0 some.1 places now here some.2 place at is

  one-open : (here : Option (TaskView S I K)) → IsSome here → 0 < open_at here
  one-open None some = let wrong : false ≡ true = some in absurd cc
  one-open (Some task) some = omega arith

  -- and out, where that is told
  pub gone-out : (start : FrontView I K) (before : Outside S) (gone : List (I × K)) (places : List (Option (TaskView S I K)))
      (now : FrontView I K) (here : Outside S) → IsFront w t i k route start before gone places now here
      → (place : ℕ) (at : Option (TaskView S I K)) → place < length places → get_or places place None ≡ at
      → IsSome at → IfSome now.out (λ count. 0 < count)
  gone-out start before gone places now here front place at inside is some =
      some-out start.out now.out (sum_by open_at places)
      (let one = one-open at some in let part = get_or-le-sum_by open_at places place None inside in
      let same = ap (λ h. open_at h) is in omega (arith, one, part, same))
      front.out

  pub front-out : (places : List (Option (TaskView S I K))) (now : FrontView I K) (here : Outside S) → IsSomeFront w t i k route places now here
      → (place : ℕ) (at : Option (TaskView S I K)) → place < length places → get_or places place None ≡ at
      → IsSome at → IfSome now.out (λ count. 0 < count)
  unfolding IsSomeFront
  front-out places now here some = gone-out some.0 some.1 [] places now here some.2

  -- ---- all places

  pub goes-nothing : (places : List (Option (TaskView S I K))) (now : FrontView I K) (here : Outside S)
      → GoesOnWith w t i k route places places now now here here
  unfolding GoesOnWith
  goes-nothing places now here = λ start before front. front

  pub goes-then : (old mid new : List (Option (TaskView S I K))) (now amid then : FrontView I K) (here there next : Outside S)
      → GoesOnWith w t i k route old mid now amid here there → GoesOnWith w t i k route mid new amid then there next
      → GoesOnWith w t i k route old new now then here next
  unfolding GoesOnWith
  goes-then old mid new now amid then here there next one other = λ start before front. other start before (one start before front)

  pub goes-at : (old mid : List (Option (TaskView S I K))) (place : ℕ) (here new : Option (TaskView S I K)) (now amid then : FrontView I K)
      (outside there next : Outside S) → place < length mid → get_or mid place None ≡ here
      → GoesOnWith w t i k route old mid now amid outside there → ServesOn w t i k route here new amid then there next
      → GoesOnWith w t i k route old (set mid place new) now then outside next
  unfolding GoesOnWith ServesOn
  goes-at old mid place here new now amid then outside there next inside is one other = λ start before front.
      other start before mid place inside is (one start before front)

  -- a front that began goes on
  pub some-on : (old new : List (Option (TaskView S I K))) (now then : FrontView I K) (here next : Outside S)
      → GoesOnWith w t i k route old new now then here next → IsSomeFront w t i k route old now here → IsSomeFront w t i k route new then next
  unfolding GoesOnWith IsSomeFront
  some-on old new now then here next goes some = (some.0, some.1, goes some.0 some.1 some.2)

  -- ---- what is given up

  -- the connections below a place were given up
  pub record IsGoneBelow (start : FrontView I K) (before : Outside S) (places : List (Option (TaskView S I K))) (place : ℕ)
      (left : List (Option (TaskView S I K))) (then : FrontView I K) (next : Outside S) : Type 0 where
    pub all : List (I × K)
    pub front : IsFront w t i k route start before all left then next
    pub many : length all + sum_by open_at left ≡ sum_by open_at places
    pub none : AreNoneBelow place left

  pub gone-none : (start : FrontView I K) (before : Outside S) (places : List (Option (TaskView S I K))) (now : FrontView I K) (here : Outside S)
      → IsFront w t i k route start before [] places now here → IsGoneBelow start before places 0 places now here
  gone-none start before places now here front = record {
    all = [];
    front = front;
    many = omega arith;
    none = λ other inside. absurd (omega (arith, inside));
  }

  pub gone-next : (start : FrontView I K) (before : Outside S) (places : List (Option (TaskView S I K))) (place : ℕ)
      (left : List (Option (TaskView S I K))) (here : Option (TaskView S I K)) (now then : FrontView I K) (outside next : Outside S)
      → place < length left → get_or left place None ≡ here
      → GivesUp w t i k route here now then outside next
      → IsGoneBelow start before places place left now outside
      → IsGoneBelow start before places (place + 1) (set left place None) then next
  unfolding GivesUp
  gone-next start before places place left here now then outside next inside is gives gone =
      let at = gives start before gone.all left place inside is gone.front in record {
        all = at.all;
        front = at.front;
        many = (let some = gone.many in let more = at.many in omega (arith, some, more));
        none = none-set left place inside gone.none;
      }

  -- where what stands at the place then is none
  pub gone-set : (start : FrontView I K) (before : Outside S) (places : List (Option (TaskView S I K))) (place : ℕ)
      (left : List (Option (TaskView S I K))) (new : Option (TaskView S I K)) (then : FrontView I K) (next : Outside S) → new ≡ None
      → IsGoneBelow start before places (place + 1) (set left place None) then next
      → IsGoneBelow start before places (place + 1) (set left place new) then next
  gone-set start before places place left new then next none gone =
      subst (λ h. IsGoneBelow start before places (place + 1) (set left place h) then next) (sym none) gone

  pub gone-all : (start : FrontView I K) (before : Outside S) (places : List (Option (TaskView S I K))) (place : ℕ)
      (left : List (Option (TaskView S I K))) (then : FrontView I K) (next : Outside S) → length left ≤ place
      → IsGoneBelow start before places place left then next → IsAllGone w t i k route start before places then next
  gone-all start before places place left then next all gone =
      let zero_ = none-sum open_at refl left (none-all left place all gone.none) in record {
        all = gone.all;
        left = left;
        front = gone.front;
        many = (let many = gone.many in omega (arith, many, zero_));
        none = zero_;
      }

  -- whenever the front began, the connections below a place were given up
  unfoldable pub GivesBelow : (old : List (Option (TaskView S I K))) (place : ℕ) (left : List (Option (TaskView S I K)))
      (now then : FrontView I K) (here next : Outside S) → Type 0
  GivesBelow old place left now then here next =
      (start : FrontView I K) (before : Outside S) → IsFront w t i k route start before [] old now here
      → IsGoneBelow start before old place left then next

  pub gives-first : (old : List (Option (TaskView S I K))) (now : FrontView I K) (here : Outside S) → GivesBelow old 0 old now now here here
  unfolding GivesBelow
  gives-first old now here = λ start before front. gone-none start before old now here front

  -- one more was, at whose place none is then
  pub gives-next : (old : List (Option (TaskView S I K))) (place : ℕ) (left : List (Option (TaskView S I K))) (at new : Option (TaskView S I K))
      (now amid then : FrontView I K) (here there next : Outside S) → place < length left → get_or left place None ≡ at → new ≡ None
      → GivesBelow old place left now amid here there → GivesUp w t i k route at amid then there next
      → GivesBelow old (place + 1) (set left place new) now then here next
  unfolding GivesBelow
  gives-next old place left at new now amid then here there next inside is none below gives = λ start before front.
      gone-set start before old place left new then next none
      (gone-next start before old place left at amid then there next inside is gives (below start before front))

  pub gives-all : (old : List (Option (TaskView S I K))) (place : ℕ) (left : List (Option (TaskView S I K))) (now then : FrontView I K)
      (here next : Outside S) → length left ≤ place → GivesBelow old place left now then here next
      → GivesAllUp w t i k route old now then here next
  unfolding GivesBelow GivesAllUp
  gives-all old place left now then here next all below = λ start before front.
      gone-all start before old place left then next all (below start before front)

  -- one that is to be given up next is out
  pub gives-out : (old : List (Option (TaskView S I K))) (place : ℕ) (left : List (Option (TaskView S I K))) (now then : FrontView I K)
      (here next : Outside S) → IsSomeFront w t i k route old now here → GivesBelow old place left now then here next
      → (at : Option (TaskView S I K)) → place < length left → get_or left place None ≡ at → IsSome at → IfSome then.out (λ count. 0 < count)
  unfolding GivesBelow IsSomeFront
  gives-out old place left now then here next some below at inside is one =
      let gone = below some.0 some.1 some.2 in
      gone-out some.0 some.1 gone.all left then next gone.front place at inside is one

  -- ---- at first

  none-taken : (told : Option ℕ) (count : ℕ) → count ≡ 0 → AreTaken count told told
  none-taken None count e = refl
  none-taken (Some left) count e = (omega (arith, e), ap Some (omega (arith, e)))

  none-closed : {A : Type 0} (told : Option (List A)) → told ≡ option_map (λ earlier. earlier ++ []) told
  none-closed None = refl
  none-closed (Some items) = ap Some (sym (append-nil items))

  none-more : (told : Option ℕ) (count : ℕ) → count ≡ 0 → told ≡ option_map (λ n. n + count) told
  none-more None count e = refl
  none-more (Some n) count e = ap Some (omega (arith, e))

  pub front-first : (places : List (Option (TaskView S I K))) → AreNone places → (start : FrontView I K) (before : Outside S)
      → IsFront w t i k route start before [] places start before
  front-first places none start before =
      let opened = none-sum open_at refl places none in record {
        connections = [];
        others = [];
        served = sym (append-nil start.served);
        closed = none-closed start.closed;
        each = tt;
        taken = none-taken start.left (0 + 0 + sum_by open_at places) (omega (arith, opened));
        out = none-more start.out (sum_by open_at places) opened;
        most = refl;
        tasks = λ place. subst (λ p. IsPlace w t i k route start.left before.door.counts.most p) (sym (none place)) tt;
        marks = tt;
        causes = λ kind others h. (let met = none-sum (met_at route.pool kind) refl places none in omega (arith, met, h));
        cost = record { dials = 0; searches = 0; gones = 0; faults = 0; booked = 0; opens = 0 };
        raised = record {
          searches = λ others h. h;
          booked = λ others h. h;
          opens = λ others h. h;
          dials = λ others h. h;
          gones = λ others h. h;
          faults = λ others h. h;
        };
        searches = (let sums = none-sum searches_at refl places none in omega (arith, sums));
        opens = omega arith;
        seats = seated-first places none before.door.pool;
      }

  -- a front that has just begun
  pub some-first : (places : List (Option (TaskView S I K))) → AreNone places → (start : FrontView I K) (before : Outside S)
      → IsSomeFront w t i k route places start before
  unfolding IsSomeFront
  some-first places none start before = (start, before, front-first places none start before)

  -- it went on, and all that were open then were given up
  pub all-gone : (places left : List (Option (TaskView S I K))) → AreNone places → (start now then : FrontView I K)
      (before here next : Outside S) → GoesOnWith w t i k route places left start now before here
      → GivesAllUp w t i k route left now then here next → IsAllGone w t i k route start before left then next
  unfolding GoesOnWith GivesAllUp
  all-gone places left none start now then before here next goes gives =
      gives start before (goes start before (front-first places none start before))

  -- ---- at the end

  module _ (start : FrontView I K) (before : Outside S) (gone : List (I × K)) (left : List (Option (TaskView S I K)))
      (then : FrontView I K) (next : Outside S) (none : sum_by open_at left ≡ 0)
      (front : IsFront w t i k route start before gone left then next) where
    nothing : AreNone left
    nothing = open-none left none

    out-none : (told : Option ℕ) → option_map (λ count. count + sum_by open_at left) told ≡ told
    out-none None = refl
    out-none (Some count) = ap Some (omega (arith, none))

    pub fronted-of : HasFronted w i k route gone start then
    fronted-of = record {
      connections = front.connections;
      others = front.others;
      served = front.served;
      closed = front.closed;
      each = front.each;
      taken = subst (λ (n : ℕ). AreTaken n start.left then.left) (omega (arith, none)) front.taken;
      out = front.out ∙ out-none start.out;
    }

    pub cost-of : HaveCost route.pool (length gone) start.served then.served
        (tally_on before) (tally_on next)
    cost-of = record {
      others = front.others;
      served = front.served;
      causes = λ kind others h. (let causes = front.causes kind others in
          let met = none-sum (met_at route.pool kind) refl left nothing in
          let enough = causes (omega (arith, met, h)) in omega (arith, met, enough));
      marks = front.marks;
      paid = record {
        cost = front.cost;
        raised = front.raised;
        searches = (let paid = front.searches in let sums = none-sum searches_at refl left nothing in omega (arith, paid, sums));
        opens = (let paid = front.opens in let sums = none-sum unused_at refl left nothing in omega (arith, paid, sums));
      };
    }

    pub seats-of : AreGivenBack before.door.pool next.door.pool
    seats-of = seated-last left nothing before.door.pool next.door.pool front.seats

  no-length : {A : Type 0} (items : List A) → length items ≡ 0 → items ≡ []
  no-length [] e = refl
  no-length (item ∷ items) e = absurd (omega (arith, e))

  served-all : (start : FrontView I K) (before : Outside S) (places : List (Option (TaskView S I K)))
      (then : FrontView I K) (next : Outside S) (all : IsAllGone w t i k route start before places then next)
      → HasServed w i k route all.all start then (tally_on before) (tally_on next)
  served-all start before places then next all = (
    fronted-of start before all.all all.left then next all.none all.front,
    cost-of start before all.all all.left then next all.none all.front,
  )

  -- where none was open at the end
  served-none : (start : FrontView I K) (before : Outside S) (places : List (Option (TaskView S I K)))
      (then : FrontView I K) (next : Outside S) → sum_by open_at places ≡ 0 → IsAllGone w t i k route start before places then next
      → HasServed w i k route [] start then (tally_on before) (tally_on next)
  served-none start before places then next none all =
      subst (λ gone. HasServed w i k route gone start then (tally_on before) (tally_on next))
      (no-length all.all (let many = all.many in omega (arith, many, none)))
      (served-all start before places then next all)

  -- by how the front ended
  pub served-to : (how : Fronted) (start : FrontView I K) (before : Outside S) (places : List (Option (TaskView S I K)))
      (then : FrontView I K) (next : Outside S) (told : Option ℕ) → IsOver how places told → then.left ≡ told
      → IsAllGone w t i k route start before places then next
      → HasServedTo w i k route how start then (tally_on before) (tally_on next)
  served-to fronted.Ended start before places then next told over same all =
      (served-none start before places then next over.0 all, subst IsNoneLeft (sym same) over.1)
  served-to fronted.AcceptFailed start before places then next told over same all =
      served-none start before places then next over all
  served-to fronted.PollFailed start before places then next told over same all =
      (all.all, served-all start before places then next all)
  served-to fronted.Memory start before places then next told over same all =
      (all.all, served-all start before places then next all)

  pub seats-to : (start : FrontView I K) (before : Outside S) (places : List (Option (TaskView S I K)))
      (then : FrontView I K) (next : Outside S) → IsAllGone w t i k route start before places then next
      → AreGivenBack before.door.pool next.door.pool
  seats-to start before places then next all = seats-of start before all.all all.left then next all.none all.front

  pub most-to : (start : FrontView I K) (before : Outside S) (places : List (Option (TaskView S I K)))
      (then : FrontView I K) (next : Outside S) → IsAllGone w t i k route start before places then next
      → next.door.counts.most ≡ before.door.counts.most
  most-to start before places then next all = all.front.most

  -- nothing was done
  pub gone-first : (start : FrontView I K) (before : Outside S) → IsAllGone w t i k route start before [] start before
  gone-first start before = record {
    all = [];
    left = [];
    front = front-first [] (λ place. refl) start before;
    many = refl;
    none = refl;
  }
