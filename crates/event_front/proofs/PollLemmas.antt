-- Rounds of a poll, one behind another
use Rattle.std.proofs.Common.{◌≡◌, ◌∙◌, inl, inr, ℕ, ◌+◌, ◌≤◌, ◌<◌, Bool, List, [], ◌∷◌, ◌++◌, Option, None, Some, refl, sym, subst, arith, length, length-append, take}
use Rattle.std.specs.Prelude.{option_map}
use Rattle.std.proofs.lemmas.List.{length-take-le}
use Rattle.z_types.specs.declared.sitting.Sitting as sitting
use Rattle.z_types.specs.declared.world.World as world
use Rattle.z_types.proofs.ChainLemmas.{steps-nowhere, steps-on}
use Rattle.route_config.specs.declared.route.Route.{Route}
use Rattle.conn_served.specs.Costs.{AreMarksOf}
use Rattle.conn_served.specs.Runs.{GoesOnTo, IsCalm}
use Rattle.conn_served.specs.Serving.{SourceView}
use Rattle.conn_served.specs.front_conn.declared.stepped.Stepped.TheVariants.{Idle}
use Rattle.conn_served.specs.front_conn.steps.Drives.{ConnAt}
use Rattle.conn_served.specs.front_conn.steps.States.{ConnectionState}
use Rattle.conn_served.specs.front_conn_costs.steps.Laws.{CostsNothing, PaysOn}
use Rattle.conn_served.specs.steps.Rounds.{GoesSo}
use Rattle.conn_served.proofs.RoundLemmas.{round-meets, so-calmly}
use Rattle.conn_served.proofs.ServingLemmas.{appended-none, mapped-appended, more-told}
use Rattle.event_front.specs.Edges.{AreInVain, Looks}
use Rattle.event_front.specs.Polls.{GoesRound, IsFed, MakesFew, MakesRounds, Reads, most_read, most_steps, written_at}
use Rattle.event_front.specs.declared.awaits.Awaits.TheVariants.{Client, Nothing, Target}
use Rattle.event_front.specs.declared.came.Came.{Came}
use Rattle.event_front.specs.declared.came.Came.TheVariants as came
use Rattle.event_front.specs.steps.Rounds.{AwaitsAt, AwaitsSo, MakesRound, ReadsSo}

-- ---- what is read

-- nothing was
pub reads-none : (left : ℕ) (old new : SourceView) → new.given ≡ old.given → Reads left left old new
reads-none left old new same = record { octets = []; given = same ∙ appended-none old.given; spent = omega arith }

-- a piece was
pub reads-piece : (most left count : ℕ) (into : List ℕ) (old new : SourceView)
    → new.given ≡ option_map (λ before. before ++ take count into) old.given → count ≤ length into → count + left ≡ most
    → Reads most left old new
reads-piece most left count into old new gave within e = record {
  octets = take count into;
  given = gave ∙ mapped-appended old.given (take count into);
  spent = omega (arith, e, length-take-le count into within);
}

-- some, and more behind them
pub reads-more : (most mid left : ℕ) (old amid new : SourceView) → Reads most mid old amid → Reads mid left amid new → Reads most left old new
reads-more most mid left old amid new one other =
    let some = one.spent in
    let more = other.spent in record {
      octets = one.octets ++ other.octets;
      given = more-told old.given amid.given new.given one.octets other.octets one.given other.given;
      spent = omega (arith, some, more, length-append one.octets other.octets);
    }

module _ {S : Type 0} where
  -- what is fed costs nothing
  pub fed-calm : (old new : ConnectionState S) → IsFed Idle old new → IsCalm old new
  fed-calm old new (inl same) = inl same
  fed-calm old new (inr (inl piece)) = inr (inl piece)
  fed-calm old new (inr (inr ended)) = inr (inr (inl ended))

-- ---- looks in vain

pub in_vain-since : (from mid then : Looks) → from.input ≤ mid.input → from.output ≤ mid.output → AreInVain mid then → AreInVain from then
in_vain-since from mid then inputs outputs (inl rose) = inl (omega (arith, inputs, rose))
in_vain-since from mid then inputs outputs (inr rose) = inr (omega (arith, outputs, rose))

-- ---- the way

module _ {W S : Type 0} (w : world.Ghosts W) (t : sitting.Ghosts S W) (exact : Bool) (route : Route) where
  -- nothing was done
  pub so-none : CostsNothing S → (here : ConnAt S) → GoesSo w t exact route here here
  so-none costs here = record {
    goes = steps-nowhere (GoesOnTo w t exact route) here;
    met = λ kind others h. h;
    paid = (costs exact route here.conn here.outside).paid;
    marks = λ fit. fit;
  }

  -- some, and others behind them, over a door that opens as many sessions as before
  pub so-then : PaysOn S → (first mid last : ConnAt S) → last.outside.door.counts.most ≡ mid.outside.door.counts.most
      → GoesSo w t exact route first mid → GoesSo w t exact route mid last → GoesSo w t exact route first last
  so-then pays first mid last most one other = record {
    goes = steps-on (GoesOnTo w t exact route) first mid last one.goes other.goes;
    met = round-meets route.pool first.conn mid.conn last.conn first.outside mid.outside last.outside one.met other.met;
    paid = pays first.conn mid.conn last.conn first.outside mid.outside last.outside one.paid other.paid;
    marks = λ fit.
        other.marks (subst (λ (n : ℕ). AreMarksOf route.pool n mid.conn.marks) (sym most)
        (one.marks (subst (λ (n : ℕ). AreMarksOf route.pool n first.conn.marks) most fit)));
  }

  -- what was out is written, and then some
  pub so-written : CostsNothing S → PaysOn S → (first last : ConnAt S) → last.outside.door.counts.most ≡ first.outside.door.counts.most
      → GoesSo w t exact route (written_at first) last → GoesSo w t exact route first last
  so-written costs pays first last most so =
      so-then pays first (written_at first) last most
      (so-calmly w t exact route first first (written_at first).conn (so-none costs first) (inr (inr (inr refl)))) so

  -- ---- rounds

  -- none was made
  pub made-none : (first : ConnAt S) → MakesRounds w t exact route 0 first first
  made-none first = record { earlier = []; went = refl; many = refl }

  -- one more was
  pub made-more : (count : ℕ) (first mid last : ConnAt S) → MakesRounds w t exact route count first mid → GoesRound w t exact route mid last
      → MakesRounds w t exact route (count + 1) first last
  made-more count first mid last h round = record {
    earlier = mid ∷ h.earlier;
    went = (h.went, round);
    many = (let many = h.many in omega (arith, many));
  }

  -- a round that made its step, whatever it found
  pub made-any : (come : Option Came) (here next : ConnAt S) → GoesRound w t exact route here next → MakesRound w t exact route come here next
  made-any None here next round = round
  made-any (Some come) here next round = inr round

  -- where it goes on
  pub made-on : (come : Option Came) (here next : ConnAt S) → come ≡ None → MakesRound w t exact route come here next
      → GoesRound w t exact route here next
  made-on None here next e round = round
  made-on (Some come) here next e round = absurd cc

  -- no more than a poll makes, whatever the last one was
  pub made-few : (come : Came) (count : ℕ) (first mid last : ConnAt S) → count < most_steps → MakesRounds w t exact route count first mid
      → MakesRound w t exact route (Some come) mid last → MakesFew w t exact route first last
  made-few come count first mid last few h (inl same) =
      (count, subst (λ (p : ConnAt S). MakesRounds w t exact route count first p) (sym same) h, omega (arith, few))
  made-few come count first mid last few h (inr round) =
      (count + 1, made-more count first mid last h round, omega (arith, few))

  -- ---- what is awaited

  -- behind a read
  pub read-awaits : (come : Option Came) (last : ConnAt S) (waited waits left from then : ℕ) → ReadsSo come waited waits left
      → AwaitsSo w t exact route come last (record { input = waited; output = from }) (record { input = waits; output = then }) left
  read-awaits None last waited waits left from then h = tt
  read-awaits (Some (came.To Client)) last waited waits left from then h = inl h
  read-awaits (Some (came.To Target)) last waited waits left from then h = absurd h
  read-awaits (Some (came.To Nothing)) last waited waits left from then h = h
  read-awaits (Some (came.End end)) last waited waits left from then h = tt

  -- behind the last round
  pub last-awaits : (come : Came) (first last : ConnAt S) (from mid then : Looks) (left : ℕ) (old new : SourceView)
      → from.input ≤ mid.input → from.output ≤ mid.output → Reads most_read left old new
      → AwaitsSo w t exact route (Some come) last mid then left → AwaitsAt w t exact route come first last from then old new
  last-awaits (came.To Client) first last from mid then left old new inputs outputs reads h =
      in_vain-since from mid then inputs outputs h
  last-awaits (came.To Target) first last from mid then left old new inputs outputs reads h = h
  last-awaits (came.To Nothing) first last from mid then left old new inputs outputs reads h =
      inl (subst (λ (n : ℕ). Reads most_read n old new) h reads)
  last-awaits (came.End end) first last from mid then left old new inputs outputs reads h = tt
