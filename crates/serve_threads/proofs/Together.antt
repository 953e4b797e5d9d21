-- What jobs that were done add up to
use Rattle.std.proofs.Common.{◌≡◌, ◌∙◌, ◌<◌, ℕ, suc, List, [], ◌∷◌, ◌++◌, length, map, reverse, append-nil, arith, refl, sym, subst, ap}
use Rattle.std.proofs.Common.{◌⊎◌, inl, inr}
use Rattle.std.specs.List.{AllByRecursion, AllZip, sum_by}
use Rattle.z_types.specs.declared.world.World as world
use Rattle.route_config.specs.declared.route.Route.{Route}
use Rattle.gw_outside.specs.declared.accepts.Accept as accept
use Rattle.gw_outside.specs.declared.sinks.Sink as to
use Rattle.gw_outside.specs.declared.sources.Source as from
use Rattle.gw_outside.specs.declared.watched.Watched as watched
use Rattle.serve.specs.front_conn_costs.steps.Growth.{last64}
use Rattle.pool_locked.specs.Books.{FullOpens, counted}
use Rattle.std.proofs.lemmas.List.{append_cancel_left}
use Rattle.serve.specs.Working.{AreAllMarksOf}
use Rattle.serve.specs.conn_served.declared.served.Served.{Served}
use Rattle.serve.specs.declared.working.Worked.{Worked}
use Rattle.serve.specs.declared.working.Worked.TheVariants.{Ended, Failed, Memory}
use Rattle.serve.specs.declared.working.Worker.{Worker}
use Rattle.serve_threads.specs.Serving.{AreBooked, HasFailed, HasNoneLeft, HasServed, HaveBackendCauses, HaveServed, SomeZip, view_of}
use Rattle.serve_threads.specs.steps.Jobs.{Amounts, IsDone, amounts, worse, worst_after}
use Rattle.serve.proofs.WorkingLemmas.{worked-none}
use Rattle.serve_threads.proofs.Dialled.{Costs, full-caused}
use Rattle.serve_threads.proofs.Lists.{all-reverse, some-reverse, zip-seen}
use Rattle.serve_threads.proofs.Searched.{all-booked}

-- ---- ends

worse-ended : (worked other : Worked) → worse worked other ≡ Ended → (worked ≡ Ended) × (other ≡ Ended)
worse-ended Ended other e = (refl, e)
worse-ended Failed other e = absurd (let f = e in cc)
worse-ended Memory Failed e = absurd (let f = e in cc)
worse-ended Memory Ended e = absurd (let f = e in cc)
worse-ended Memory Memory e = absurd (let f = e in cc)

worse-failed : (worked other : Worked) → worse worked other ≡ Failed → (worked ≡ Failed) ⊎ (other ≡ Failed)
worse-failed Ended other e = inr e
worse-failed Failed other e = inl refl
worse-failed Memory Failed e = inr refl
worse-failed Memory Ended e = absurd (let f = e in cc)
worse-failed Memory Memory e = absurd (let f = e in cc)

worst-ended : (worked : Worked) (others : List Worked) → worst_after worked others ≡ Ended
    → (worked ≡ Ended) × AllByRecursion (λ other. other ≡ Ended) others
worst-ended worked [] e = (e, tt)
worst-ended worked (other ∷ others) e =
    let rest = worst-ended (worse worked other) others e in
    let both = worse-ended worked other rest.0 in
    (both.0, (both.1, rest.1))

-- ---- jobs

module _ {W A B C I K X : Type 0} (w : world.Ghosts W) (i : from.Ghosts I) (k : to.Ghosts K) (a : accept.Ghosts A I K) (b : watched.Ghosts B)
    (route : Route) (most : ℕ) (worker : X → Worker B A C) (held : X → Amounts) (worked : X → Worked) where
  abbrev Did : X → X → Type 0
  Did x y = IsDone w i k a b route most (worker x) (held x) (worker y) (held y) (worked y)

  none-left : (xs ys : List X) → AllZip Did xs ys → AllByRecursion (λ other. other ≡ Ended) (map worked ys)
      → AllByRecursion (HasNoneLeft a) (map worker ys)
  none-left [] [] did ended = tt
  none-left [] (y ∷ ys) did ended = absurd did
  none-left (x ∷ xs) [] did ended = absurd did
  none-left (x ∷ xs) (y ∷ ys) did ended = (did.0.ended ended.0, none-left xs ys did.1 ended.1)

  long : (xs ys : List X) → AllZip Did xs ys → length (map worker xs) ≡ length (map worker ys)
  long [] [] did = refl
  long [] (y ∷ ys) did = absurd did
  long (x ∷ xs) [] did = absurd did
  long (x ∷ xs) (y ∷ ys) did = ap suc (long xs ys did.1)

  failed-either : (before : Worked) (x y : X) (xs ys : List X) → Did x y → (before ≡ Failed) ⊎ (worked y ≡ Failed)
      → (before ≡ Failed) ⊎ SomeZip (HasFailed a) (map worker (x ∷ xs)) (map worker (y ∷ ys))
  failed-either before x y xs ys did (inl earlier) = inl earlier
  failed-either before x y xs ys did (inr here) = inr (inl (did.failed here))

  failed-rest : (before : Worked) (x y : X) (xs ys : List X) → Did x y
      → (worse before (worked y) ≡ Failed) ⊎ SomeZip (HasFailed a) (map worker xs) (map worker ys)
      → (before ≡ Failed) ⊎ SomeZip (HasFailed a) (map worker (x ∷ xs)) (map worker (y ∷ ys))
  failed-rest before x y xs ys did (inl now) = failed-either before x y xs ys did (worse-failed before (worked y) now)
  failed-rest before x y xs ys did (inr later) = inr (inr later)

  one-failed : (before : Worked) (xs ys : List X) → AllZip Did xs ys → worst_after before (map worked ys) ≡ Failed
      → (before ≡ Failed) ⊎ SomeZip (HasFailed a) (map worker xs) (map worker ys)
  one-failed before [] [] did e = inl e
  one-failed before [] (y ∷ ys) did e = absurd did
  one-failed before (x ∷ xs) [] did e = absurd did
  one-failed before (x ∷ xs) (y ∷ ys) did e =
      failed-rest before x y xs ys did.0 (one-failed (worse before (worked y)) xs ys did.1 e)

  not-ended : {R : Type 0} → (Ended ≡ Failed) ⊎ R → R
  not-ended (inl e) = absurd (let f = e in cc)
  not-ended (inr r) = r

  their-costs : (xs ys : List X) → AllZip Did xs ys → AllZip (Costs b route.pool most worker held) xs ys
  their-costs [] [] did = tt
  their-costs [] (y ∷ ys) did = absurd did
  their-costs (x ∷ xs) [] did = absurd did
  their-costs (x ∷ xs) (y ∷ ys) did = (did.0.cost, their-costs xs ys did.1)

  -- workers that were moved into jobs, and back when these were done; where the pool was full it had opened so many sessions
  pub have-served : (old new rest : List (Worker B A C)) (xs ys : List X) (worst : Worked) → reverse (map worker xs) ≡ old
      → rest ≡ [] → new ≡ rest ++ reverse (map worker ys) → worst ≡ worst_after Ended (map worked ys)
      → AllByRecursion (λ x. held x ≡ amounts 0 0 0) xs → most < last64
      → FullOpens most (sum_by (λ y. (held y).fulls) ys) (sum_by (λ y. (held y).opens) ys) → AllZip Did xs ys
      → HaveServed w i k a b route most old new worst
  have-served old new rest xs ys worst before left after told none few full did =
      let e : new ≡ reverse (map worker ys) = rw (after, left) refl in record {
        fulls = rw (← before, e)
            (full-caused b route.pool most worker held xs ys none few (their-costs xs ys did) full);
        each = rw (← before, e)
            (zip-seen Did (HasServed w i k a b route most) worker worker xs ys (λ x y one. one.served) did);
        ended = λ all. rw e (all-reverse (HasNoneLeft a) (map worker ys)
            (none-left xs ys did (worst-ended Ended (map worked ys) (sym told ∙ all)).1));
        failed = λ one. rw (← before, e) (some-reverse (HasFailed a) (map worker xs) (map worker ys) (long xs ys did)
            (not-ended (one-failed Ended xs ys did (sym told ∙ one))));
      }

  -- and what all of them searched was booked at the pool
  pub have-booked : (old new rest : List (Worker B A C)) (xs ys : List X) → reverse (map worker xs) ≡ old → rest ≡ []
      → new ≡ rest ++ reverse (map worker ys) → AllByRecursion (λ x. held x ≡ amounts 0 0 0) xs → AllZip Did xs ys
      → AreBooked b (counted (sum_by (λ y. (held y).booked) ys)) old new
  have-booked old new rest xs ys before left after none did =
      let e : new ≡ reverse (map worker ys) = rw (after, left) refl in
      rw (← before, e) (all-booked b route.pool most worker held xs ys none (their-costs xs ys did))

module _ {W A B C I K : Type 0} (w : world.Ghosts W) (i : from.Ghosts I) (k : to.Ghosts K) (a : accept.Ghosts A I K) (b : watched.Ghosts B)
    (route : Route) (most : ℕ) where
  -- nothing was done
  each-same : (workers : List (Worker B A C)) → AllZip (HasServed w i k a b route most) workers workers
  each-same [] = tt
  each-same (worker ∷ workers) =
      let worked = worked-none w i k route (view_of a worker) in
      let none : worked.others ≡ [] = append_cancel_left worker.served worked.others [] (sym worked.served ∙ sym (append-nil worker.served)) in (
        record {
          worked = worked;
          causes = subst (λ (o : List Served). HaveBackendCauses route.pool o (b.counts worker.backend) (b.counts worker.backend)) (sym none)
              (record { links = λ others h. h; silents = λ others h. h; gones = λ others h. h });
          marks = subst (λ (o : List Served). AreAllMarksOf route.pool most o) (sym none) tt;
          faults = omega arith;
        },
        each-same workers,
      )

  pub same-workers : (old new : List (Worker B A C)) → new ≡ old → HaveServed w i k a b route most old new Memory
  same-workers old new e = rw e (record {
    fulls = λ below more. absurd (omega (arith, more));
    each = each-same old;
    ended = λ f. absurd (let g = f in cc);
    failed = λ f. absurd (let g = f in cc);
  })
