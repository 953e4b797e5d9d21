-- All that a connection goes through: each seat that is out is held by it, or is out for others
use Rattle.std.proofs.Common.{◌≡◌, ◌∙◌, ℕ, Bool, inl, inr, List, [], ◌∷◌, Option, None, Some, refl, sym, ap, subst, arith}
use Rattle.z_types.specs.Chains.{GoesThrough, last_of}
use Rattle.z_types.specs.declared.marks.End.{End}
use Rattle.z_types.specs.declared.sitting.Sitting as sitting
use Rattle.z_types.specs.declared.world.World as world
use Rattle.route_config.specs.declared.route.Route.{Route}
use Rattle.pool_sets.specs.Plain.{Ascends, Pool, out_of}
use Rattle.pool_sets.specs.declared.doors.Seat.{Seat}
use Rattle.front_conn.specs.package.steps.Packages.{PackageView}
use Rattle.front_conn.specs.steps.Answering.{legs_in}
use Rattle.front_conn.specs.steps.Feeding.{fed_piece}
use Rattle.front_conn.specs.steps.States.{ConnectionState}
use Rattle.front_conn_seats.specs.steps.Laws.{pool_behind}
use Rattle.front_conn_seats.specs.steps.Seats.{AreHeld, AreHeldOn}
use Rattle.front_conn_seats.specs.steps.Through.{EndsInput, GoesAlone, GoesAmong, IsFed, IsParted, IsWritten, Point, TakesStep, at_first}
use Rattle.front_conn_seats.proofs.ConnLemmas.{step-keeps}
use Rattle.front_conn_seats.proofs.PackageLemmas.{seats-lost}

module _ {S : Type 0} where
  -- what comes leaves the request in work
  fed-work : (end : Option End) (state : ConnectionState S) (piece : List ℕ) → (fed_piece end state piece).in_work ≡ state.in_work
  fed-work None state piece = refl
  fed-work (Some end) state piece = refl

  fed-parted : (old new : Point S) → IsFed old new → IsParted old → IsParted new
  fed-parted old new h k =
      subst (λ (p : Point S). IsParted p) (sym h.then)
      (subst (λ (i : Option (PackageView S)). AreHeld (legs_in i) old.others (Some old.pool)) (sym (fed-work old.state.end old.state h.piece)) k)

  ended-parted : (old new : Point S) → EndsInput old new → IsParted old → IsParted new
  ended-parted old new h k = subst (λ (p : Point S). IsParted p) (sym h) k

  written-parted : (old new : Point S) → IsWritten old new → IsParted old → IsParted new
  written-parted old new h k = subst (λ (p : Point S). IsParted p) (sym h) k

  -- at first all that is out is out for others
  pub first-parted : (pool : Pool S) → Ascends 0 pool.given pool.sessions → IsParted (at_first pool)
  first-parted pool a = record { tasks = tt; out = record { ascend = a; each = λ seat. omega arith } }

module _ {W S : Type 0} (w : world.Ghosts W) (t : sitting.Ghosts S W) (exact : Bool) (route : Route) where
  step-parted : (old new : Point S) → TakesStep w t exact route old new → IsParted old → IsParted new
  step-parted old new h k =
      subst (λ (o : Seat → ℕ). AreHeldOn new.state o (Some new.pool)) (sym h.others)
      (subst (λ (q : Option (Pool S)). AreHeldOn new.state old.others q) h.told_then
      (step-keeps w t exact route h.now old.state new.state h.answer h.before h.behind old.others h.of h.stepped
      (subst (λ (q : Option (Pool S)). AreHeldOn old.state old.others q) (sym h.told) k)))

  alone-parted : (old new : Point S) → GoesAlone w t exact route old new → IsParted old → IsParted new
  alone-parted old new (inl h) k = step-parted old new h k
  alone-parted old new (inr (inl h)) k = fed-parted old new h k
  alone-parted old new (inr (inr (inl h))) k = ended-parted old new h k
  alone-parted old new (inr (inr (inr h))) k = written-parted old new h k

  among-parted : (old new : Point S) → GoesAmong w t exact route old new → IsParted old → IsParted new
  among-parted old new (inl h) k = alone-parted old new h k
  among-parted old new (inr h) k = h.parted

  pub goes-parted : (start : Point S) (points : List (Point S)) → GoesThrough (GoesAmong w t exact route) start points → IsParted start
      → IsParted (last_of start points)
  goes-parted start [] h k = k
  goes-parted start (next ∷ points) h k = goes-parted next points h.1 (among-parted start next h.0 k)

  -- ---- given up in the end

  pub run-gives-back : (pool : Pool S) (points : List (Point S)) (seat : Seat) → Ascends 0 pool.given pool.sessions
      → GoesThrough (GoesAmong w t exact route) (at_first pool) points
      → out_of (pool_behind (last_of (at_first pool) points)) seat ≡ (last_of (at_first pool) points).others seat
  run-gives-back pool points seat a h =
      let last = last_of (at_first pool) points in
      let held = goes-parted (at_first pool) points h (first-parted pool a) in
      let e = (seats-lost (legs_in last.state.in_work) last.others (Some last.pool) held).each seat in
      omega (arith, e)

  -- ---- where no others go on

  alone-others : (old new : Point S) → GoesAlone w t exact route old new → new.others ≡ old.others
  alone-others old new (inl h) = h.others
  alone-others old new (inr (inl h)) = ap (λ (p : Point S). p.others) h.then
  alone-others old new (inr (inr (inl h))) = ap (λ (p : Point S). p.others) h
  alone-others old new (inr (inr (inr h))) = ap (λ (p : Point S). p.others) h

  through-others : (start : Point S) (points : List (Point S)) → GoesThrough (GoesAlone w t exact route) start points
      → (last_of start points).others ≡ start.others
  through-others start [] h = refl
  through-others start (next ∷ points) h = through-others next points h.1 ∙ alone-others start next h.0

  through-among : (start : Point S) (points : List (Point S)) → GoesThrough (GoesAlone w t exact route) start points
      → GoesThrough (GoesAmong w t exact route) start points
  through-among start [] h = tt
  through-among start (next ∷ points) h = (inl h.0, through-among next points h.1)

  pub alone-gives-back : (pool : Pool S) (points : List (Point S)) (seat : Seat) → Ascends 0 pool.given pool.sessions
      → GoesThrough (GoesAlone w t exact route) (at_first pool) points
      → out_of (pool_behind (last_of (at_first pool) points)) seat ≡ out_of pool seat
  alone-gives-back pool points seat a h =
      run-gives-back pool points seat a (through-among (at_first pool) points h)
      ∙ ap (λ (o : Seat → ℕ). o seat) (through-others (at_first pool) points h)
