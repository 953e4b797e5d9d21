-- What a turn of a leg, and of a package, has paid for
use Rattle.std.proofs.Common.{◌≡◌, ◌∙◌, ℕ, ◌+◌, ◌≤◌, Bool, true, false, inl, inr, List, [], ◌∷◌, ◌++◌, Option, refl, sym, ap, subst, arith}
use Rattle.std.proofs.lemmas.List.Sums.{sum_by-append, sum_by-cons}
use Rattle.z_types.specs.Bounds.{within64}
use Rattle.z_types.specs.Counts.{one_more}
use Rattle.z_types.specs.declared.key.SetKey.{SetKey}
use Rattle.z_types.specs.declared.sitting.Sitting as sitting
use Rattle.z_types.specs.declared.world.World as world
use Rattle.route_config.specs.declared.route.Route.{Route}
use Rattle.gw_outside.specs.Counts.{Counts, Counted, BackendCounts}
use Rattle.gw_outside.specs.declared.backends.Began.TheVariants as start
use Rattle.gw_outside.specs.declared.backends.Heard.TheVariants as look
use Rattle.gw_outside.specs.declared.backends.Opening.TheVariants as opening
use Rattle.pool_sets.specs.Counts.{DoorCounts}
use Rattle.pool_sets.specs.declared.doors.Taken.TheVariants as taken
use Rattle.front_conn.specs.leg.declared.accounts.Account.{Account}
use Rattle.front_conn.specs.leg.declared.accounts.Rises.{Rises}
use Rattle.front_conn.specs.leg.declared.answers.Turned.{Turned}
use Rattle.front_conn.specs.leg.declared.answers.Turned.TheVariants as turned
use Rattle.front_conn.specs.leg.declared.phases.Phase.{Phase}
use Rattle.front_conn.specs.leg.declared.phases.Phase.TheVariants.{Begin, Dialling, Dialled, Ready, Searching, Presenting, Fetching, Scanning, Returning, Losing, Redialling, Spoiled, Done, Ended}
use Rattle.front_conn.specs.leg.declared.tasks.Task.{Task}
use Rattle.front_conn.specs.leg.Accounts.{more}
use Rattle.front_conn.specs.leg.Deeds.{Deed, took, opened, began, heard, put_back, gave_up, redialled, no_memory, nothing, rises_of, door_counts, BackendView, CountsMove}
use Rattle.front_conn.specs.leg.Kept.{one_if}
use Rattle.front_conn.specs.leg.LegView.{LegView}
use Rattle.front_conn.specs.leg.Rules.{Ends, Lack, always, never, perhaps, answer_of, lack_of, left_by, next}
use Rattle.front_conn.specs.leg.Tasks.{want_of}
use Rattle.front_conn.specs.leg.Terms.{Terms, terms_of}
use Rattle.front_conn.specs.leg.Turns.{DoorView, IsTurn}
use Rattle.front_conn.specs.package.steps.Packages.{AsksSo, PackageView}
use Rattle.front_conn.specs.package.steps.Turns.{HadTurn, IsPackageTurn}
use Rattle.front_conn_costs.specs.steps.Growth.{RisesAsMuch, RisesEnough}
use Rattle.front_conn_costs.specs.steps.Ledgers.{Cost, Dues, IsPaid, IsRaised, dues_in, dues_of}
use Rattle.front_conn_costs.proofs.GrowthLemmas.{as-both, as-nothing, as-one, enough-both, enough-nothing, enough-one}
use Rattle.front_conn_costs.proofs.PackageLemmas.{total, whole-turned}
use Rattle.front_conn_costs.proofs.PhaseLemmas.{due, due-goes, unused, unused-goes}
use Rattle.front_conn_costs.proofs.TurnLemmas.{deed-least, least-is}

-- ---- counts

one-more : (b : Bool) → one_if b ≡ more b 0
one-more true = refl
one-more false = refl

one-most-more : (b : Bool) → one_if b ≤ more b 0
one-most-more true = omega arith
one-most-more false = omega arith

raised-one : (b : Bool) (c d : ℕ) → d ≡ one_more b c → RisesAsMuch 0 (one_if b) c d
raised-one b c d e = as-one b 0 (one_if b) c d (one-more b) e

enough-raised : (b : Bool) (c d : ℕ) → within64 (one_more b c) ≤ d → RisesEnough 0 (one_if b) c d
enough-raised b c d e = enough-one b 0 (one_if b) c d (one-most-more b) e

call-searches : (exact : Bool) (told : Type 0) (call : Counted) (old new : Counts) → BackendCounts exact told call old new
    → new.searches ≡ one_more call.search old.searches
call-searches exact told call old new h = ap (λ (c : Counts). c.searches) h.others

call-dials : (exact : Bool) (told : Type 0) (call : Counted) (old new : Counts) → BackendCounts exact told call old new
    → within64 (one_more call.dial old.dials) ≤ new.dials
call-dials exact told call old new h = least-is call.dial old.dials new.dials (ap (λ (c : Counts). c.dials) h.others)

still-dials : (old new : Counts) → new ≡ old → within64 (one_more false old.dials) ≤ new.dials
still-dials old new same = least-is false old.dials new.dials (ap (λ (c : Counts). c.dials) same)

less-one : (old new : ℕ) → within64 (one_more true old) ≤ new → within64 (one_more false old) ≤ new
less-one old new few = omega (arith, few)

module _ {W S : Type 0} (w : world.Ghosts W) (t : sitting.Ghosts S W) (exact : Bool) where
  deed-searches : (want : Option SetKey) (deed : Deed S) (old new : Counts) → CountsMove w t exact deed old new
      → new.searches ≡ one_more (rises_of want deed).searches old.searches
  deed-searches want (took taken_) old new h = ap (λ (c : Counts). c.searches) h
  deed-searches want (opened (opening.Session session)) old new h = call-searches exact _ _ old new h
  deed-searches want (opened (opening.Failed linked)) old new h = call-searches exact _ _ old new h
  deed-searches want (opened opening.Memory) old new (inl h) = call-searches exact _ _ old new h
  deed-searches want (opened opening.Memory) old new (inr h) = call-searches exact _ _ old new h
  deed-searches want (began asked answer session) old new h = call-searches exact _ _ old new h
  deed-searches want (heard look.Opened session) old new h = call-searches exact _ _ old new h
  deed-searches want (heard (look.Hits hits) session) old new h = call-searches exact _ _ old new h
  deed-searches want (heard (look.Refused diag) session) old new h = call-searches exact _ _ old new h
  deed-searches want (heard (look.Items items) session) old new h = call-searches exact _ _ old new h
  deed-searches want (heard look.Gone session) old new h = call-searches exact _ _ old new h
  deed-searches want (heard (look.Scanned entries) session) old new h = call-searches exact _ _ old new h
  deed-searches want (heard look.NotYet session) old new h = call-searches exact _ _ old new h
  deed-searches want (heard look.Failed session) old new h = call-searches exact _ _ old new h
  deed-searches want (heard look.Memory session) old new (inl h) = call-searches exact _ _ old new h
  deed-searches want (heard look.Memory session) old new (inr h) = call-searches exact _ _ old new h
  deed-searches want put_back old new h = ap (λ (c : Counts). c.searches) h
  deed-searches want gave_up old new h = ap (λ (c : Counts). c.searches) h
  deed-searches want (redialled member) old new h = ap (λ (c : Counts). c.searches) h
  deed-searches want no_memory old new h = ap (λ (c : Counts). c.searches) h
  deed-searches want nothing old new h = ap (λ (c : Counts). c.searches) h

  deed-dials : (want : Option SetKey) (deed : Deed S) (old new : Counts) → CountsMove w t exact deed old new
      → within64 (one_more (rises_of want deed).dials old.dials) ≤ new.dials
  deed-dials want (took taken_) old new h = still-dials old new h
  deed-dials want (opened (opening.Session session)) old new h = call-dials exact _ _ old new h
  deed-dials want (opened (opening.Failed linked)) old new h = call-dials exact _ _ old new h
  deed-dials want (opened opening.Memory) old new (inl h) = call-dials exact _ _ old new h
  deed-dials want (opened opening.Memory) old new (inr h) = less-one old.dials new.dials (call-dials exact _ _ old new h)
  deed-dials want (began asked start.Started session) old new h = call-dials exact _ _ old new h
  deed-dials want (began asked start.Failed session) old new h = call-dials exact _ _ old new h
  deed-dials want (began asked start.Memory session) old new h = call-dials exact _ _ old new h
  deed-dials want (heard look.Opened session) old new h = call-dials exact _ _ old new h
  deed-dials want (heard (look.Hits hits) session) old new h = call-dials exact _ _ old new h
  deed-dials want (heard (look.Refused diag) session) old new h = call-dials exact _ _ old new h
  deed-dials want (heard (look.Items items) session) old new h = call-dials exact _ _ old new h
  deed-dials want (heard look.Gone session) old new h = call-dials exact _ _ old new h
  deed-dials want (heard (look.Scanned entries) session) old new h = call-dials exact _ _ old new h
  deed-dials want (heard look.NotYet session) old new h = call-dials exact _ _ old new h
  deed-dials want (heard look.Failed session) old new h = call-dials exact _ _ old new h
  deed-dials want (heard look.Memory session) old new (inl h) = call-dials exact _ _ old new h
  deed-dials want (heard look.Memory session) old new (inr h) = call-dials exact _ _ old new h
  deed-dials want put_back old new h = still-dials old new h
  deed-dials want gave_up old new h = still-dials old new h
  deed-dials want (redialled member) old new h = still-dials old new h
  deed-dials want no_memory old new h = still-dials old new h
  deed-dials want nothing old new h = still-dials old new h

-- no search is sent, and no address is named
abbrev IsQuiet : Rises → Type 0
IsQuiet r = (r.searches ≡ false) × (r.opens ≡ false)

module _ {S : Type 0} where
  deed-booked : (want : Option SetKey) (deed : Deed S) (door : DoorCounts)
      → (door_counts want deed door).booked ≡ one_more (rises_of want deed).booked door.booked
  deed-booked want (took taken_) door = refl
  deed-booked want (opened made) door = refl
  deed-booked want (began asked answer session) door = refl
  deed-booked want (heard reply session) door = refl
  deed-booked want put_back door = refl
  deed-booked want gave_up door = refl
  deed-booked want (redialled member) door = refl
  deed-booked want no_memory door = refl
  deed-booked want nothing door = refl

  deed-opens : (want : Option SetKey) (deed : Deed S) (door : DoorCounts)
      → (door_counts want deed door).opens ≡ one_more (rises_of want deed).opens door.opens
  deed-opens want (took taken_) door = refl
  deed-opens want (opened made) door = refl
  deed-opens want (began asked answer session) door = refl
  deed-opens want (heard reply session) door = refl
  deed-opens want put_back door = refl
  deed-opens want gave_up door = refl
  deed-opens want (redialled member) door = refl
  deed-opens want no_memory door = refl
  deed-opens want nothing door = refl

  -- ---- what is left for want of memory

  left-due : (task : Task) (old : Phase S) (deed : Deed S) → due task (left_by old deed) ≤ 0
  left-due task Begin (took (taken.Reuse seat parts slot hits)) = omega arith
  left-due task Begin (took (taken.Fresh seat parts)) = omega arith
  left-due task Begin (took (taken.Dial seat member)) = omega arith
  left-due task Begin (took (taken.Full open_)) = omega arith
  left-due task Begin (took taken.Memory) = omega arith
  left-due task Begin (opened made) = omega arith
  left-due task Begin (began asked answer session) = omega arith
  left-due task Begin (heard reply session) = omega arith
  left-due task Begin put_back = omega arith
  left-due task Begin gave_up = omega arith
  left-due task Begin (redialled member) = omega arith
  left-due task Begin no_memory = omega arith
  left-due task Begin nothing = omega arith
  left-due task (Dialling seat member) deed = omega arith
  left-due task (Dialled held looks) deed = omega arith
  left-due task (Ready held items) deed = omega arith
  left-due task (Searching held items slot looks) deed = omega arith
  left-due task (Presenting held items slot hits) deed = omega arith
  left-due task (Fetching held items slot hits looks) deed = omega arith
  left-due task (Scanning held looks) deed = omega arith
  left-due task (Returning held own) deed = omega arith
  left-due task (Losing seat own) deed = omega arith
  left-due task (Redialling seat) deed = omega arith
  left-due task (Spoiled seat) deed = omega arith
  left-due task (Done own) deed = omega arith
  left-due task Ended deed = omega arith

  left-unused : (task : Task) (old : Phase S) (deed : Deed S) → unused task old ≤ unused task (left_by old deed)
  left-unused task Begin deed = omega arith
  left-unused task (Dialling seat member) deed = omega arith
  left-unused task (Dialled held looks) deed = omega arith
  left-unused task (Ready held items) deed = omega arith
  left-unused task (Searching held items slot looks) deed = omega arith
  left-unused task (Presenting held items slot hits) deed = omega arith
  left-unused task (Fetching held items slot hits looks) deed = omega arith
  left-unused task (Scanning held looks) deed = omega arith
  left-unused task (Returning held own) deed = omega arith
  left-unused task (Losing seat own) deed = omega arith
  left-unused task (Redialling seat) deed = omega arith
  left-unused task (Spoiled seat) deed = omega arith
  left-unused task (Done own) deed = omega arith
  left-unused task Ended deed = omega arith

  -- a deed that may lack memory is so
  lacks-quiet : (want : Option SetKey) (deed : Deed S) → (lack_of deed ≡ never → ⊥) → IsQuiet (rises_of want deed)
  lacks-quiet want (took (taken.Reuse seat parts slot hits)) h = (refl, refl)
  lacks-quiet want (took (taken.Fresh seat parts)) h = (refl, refl)
  lacks-quiet want (took (taken.Dial seat member)) h = absurd (h refl)
  lacks-quiet want (took (taken.Full open_)) h = (refl, refl)
  lacks-quiet want (took taken.Memory) h = (refl, refl)
  lacks-quiet want (opened (opening.Session session)) h = (refl, refl)
  lacks-quiet want (opened (opening.Failed linked)) h = (refl, refl)
  lacks-quiet want (opened opening.Memory) h = (refl, refl)
  lacks-quiet want (began asked start.Started session) h = absurd (h refl)
  lacks-quiet want (began asked start.Failed session) h = (refl, refl)
  lacks-quiet want (began asked start.Memory session) h = (refl, refl)
  lacks-quiet want (heard look.Opened session) h = (refl, refl)
  lacks-quiet want (heard (look.Hits hits) session) h = (refl, refl)
  lacks-quiet want (heard (look.Refused diag) session) h = (refl, refl)
  lacks-quiet want (heard (look.Items items) session) h = (refl, refl)
  lacks-quiet want (heard look.Gone session) h = (refl, refl)
  lacks-quiet want (heard (look.Scanned entries) session) h = (refl, refl)
  lacks-quiet want (heard look.NotYet session) h = (refl, refl)
  lacks-quiet want (heard look.Failed session) h = (refl, refl)
  lacks-quiet want (heard look.Memory session) h = (refl, refl)
  lacks-quiet want put_back h = (refl, refl)
  lacks-quiet want gave_up h = (refl, refl)
  lacks-quiet want (redialled member) h = absurd (h refl)
  lacks-quiet want no_memory h = (refl, refl)
  lacks-quiet want nothing h = (refl, refl)

-- ---- one turn

-- what a turn costs by what rises in it
abbrev cost_of : Rises → Cost
cost_of r = record {
  dials = one_if r.dials;
  searches = one_if r.searches;
  gones = one_if r.gones;
  faults = one_if r.faults;
  booked = one_if r.booked;
  opens = one_if r.opens;
}

none-rises : (b : Bool) → b ≡ false → one_if b ≡ 0
none-rises b e = ap one_if e

module _ {W S : Type 0} (w : world.Ghosts W) (t : sitting.Ghosts S W) (exact : Bool) (terms : Terms) (task : Task) (now : ℕ)
    (old new : Phase S) (a b : Account) (answer : Turned) (door after : DoorView S) (backend moved : BackendView)
    (h : IsTurn w t exact terms task now old new a b answer door after backend moved) where
  abbrev r : Rises
  r = rises_of (want_of task) h.deed

  abbrev dues : Phase S → Dues
  dues phase = record { searches = due task phase; unused = unused task phase }

  abbrev wanted : Phase S
  wanted = next terms task now b.gones old h.deed

  abbrev Paid : Phase S → Type 0
  Paid phase = IsPaid (cost_of r) (dues old) (dues phase)

  paid-wanted : Paid wanted
  paid-wanted =
      let s = due-goes w t terms door.counts.most task now b.gones old h.deed h.due in
      let u = unused-goes w t terms door.counts.most task now b.gones old h.deed h.due in
      record { searches = omega (arith, s); opens = omega (arith, u) }

  paid-left : (lack_of h.deed ≡ never → ⊥) → Paid (left_by old h.deed)
  paid-left lacks =
      let quiet = lacks-quiet (want_of task) h.deed lacks in
      let s = none-rises r.searches quiet.0 in
      let o = none-rises r.opens quiet.1 in
      let d = left-due task old h.deed in
      let u = left-unused task old h.deed in
      record { searches = omega (arith, s, d); opens = omega (arith, o, u) }

  paid-by : (l : Lack) (said : Turned) → lack_of h.deed ≡ l → Ends l wanted (left_by old h.deed) (answer_of h.deed new) said new → Paid new
  paid-by never said e ends = subst Paid (sym ends.0) paid-wanted
  paid-by always said e ends = subst Paid (sym ends.0) (paid-left (λ f. let wrong : always ≡ never = sym e ∙ f in absurd cc))
  paid-by perhaps turned.Memory e ends = subst Paid (sym ends) (paid-left (λ f. let wrong : perhaps ≡ never = sym e ∙ f in absurd cc))
  paid-by perhaps turned.Went e ends = subst Paid (sym ends.0) paid-wanted
  paid-by perhaps turned.NotYet e ends = subst Paid (sym ends.0) paid-wanted
  paid-by perhaps turned.Done e ends = subst Paid (sym ends.0) paid-wanted

  pub turn-paid : IsPaid (cost_of r) (dues old) (dues new)
  turn-paid = paid-by (lack_of h.deed) answer refl h.goes

  pub turn-raised : IsRaised (cost_of r) door.counts after.counts backend.counts moved.counts
  turn-raised =
      let least = deed-least w t exact (want_of task) h.deed backend.counts moved.counts h.backend_moves.counts in
      record {
        searches = raised-one r.searches _ _ (deed-searches w t exact (want_of task) h.deed backend.counts moved.counts h.backend_moves.counts);
        booked = raised-one r.booked _ _ (ap (λ (c : DoorCounts). c.booked) h.door_counts ∙ deed-booked (want_of task) h.deed door.counts);
        opens = raised-one r.opens _ _ (ap (λ (c : DoorCounts). c.opens) h.door_counts ∙ deed-opens (want_of task) h.deed door.counts);
        dials = enough-raised r.dials _ _ (deed-dials w t exact (want_of task) h.deed backend.counts moved.counts h.backend_moves.counts);
        gones = enough-raised r.gones _ _ least.gones;
        faults = enough-raised r.faults _ _ least.faults;
      }

-- ---- one turn after another

-- the counts of a door and a backend
pub record Seen : Type 0 where
  pub door : DoorCounts
  pub backend : Counts

-- it was paid, at some cost
pub record Pays (old new : Dues) (before behind : Seen) : Type 0 where
  pub cost : Cost
  pub raised : IsRaised cost before.door behind.door before.backend behind.backend
  pub paid : IsPaid cost old new

abbrev pub no_dues : Dues
no_dues = record { searches = 0; unused = 0 }

abbrev pub with_dues : Dues → Dues → Dues
with_dues a b = record { searches = a.searches + b.searches; unused = a.unused + b.unused }

abbrev no_cost : Cost
no_cost = record { dials = 0; searches = 0; gones = 0; faults = 0; booked = 0; opens = 0 }

abbrev with_cost : Cost → Cost → Cost
with_cost a b = record {
  dials = a.dials + b.dials;
  searches = a.searches + b.searches;
  gones = a.gones + b.gones;
  faults = a.faults + b.faults;
  booked = a.booked + b.booked;
  opens = a.opens + b.opens;
}

pub pays-nothing : (m : Dues) (c : Seen) → Pays m m c c
pays-nothing m c = record {
  cost = no_cost;
  raised = record {
    searches = as-nothing 0 _;
    booked = as-nothing 0 _;
    opens = as-nothing 0 _;
    dials = enough-nothing 0 _;
    gones = enough-nothing 0 _;
    faults = enough-nothing 0 _;
  };
  paid = record { searches = omega arith; opens = omega arith };
}

pub pays-both : (m n r s : Dues) (c d e : Seen) → Pays m n c d → Pays r s d e → Pays (with_dues m r) (with_dues n s) c e
pays-both m n r s c d e one other =
    let x = one.paid.searches in
    let y = other.paid.searches in
    let u = one.paid.opens in
    let v = other.paid.opens in
    record {
      cost = with_cost one.cost other.cost;
      raised = record {
        searches = as-both 0 _ 0 _ _ _ _ one.raised.searches other.raised.searches;
        booked = as-both 0 _ 0 _ _ _ _ one.raised.booked other.raised.booked;
        opens = as-both 0 _ 0 _ _ _ _ one.raised.opens other.raised.opens;
        dials = enough-both 0 _ 0 _ _ _ _ one.raised.dials other.raised.dials;
        gones = enough-both 0 _ 0 _ _ _ _ one.raised.gones other.raised.gones;
        faults = enough-both 0 _ 0 _ _ _ _ one.raised.faults other.raised.faults;
      };
      paid = record { searches = omega (arith, x, y); opens = omega (arith, u, v) };
    }

-- ---- a package

module _ {W S : Type 0} (w : world.Ghosts W) (t : sitting.Ghosts S W) (exact : Bool) (route : Route) (now : ℕ) where
  abbrev seen : DoorView S → BackendView → Seen
  seen door backend = record { door = door.counts; backend = backend.counts }

  leg-pays : (old new : LegView S) (answer : Turned) (door after : DoorView S) (backend moved : BackendView)
      → HadTurn w t exact route now old new answer door after backend moved
      → Pays (dues_of old) (dues_of new) (seen door backend) (seen after moved)
  leg-pays old new answer door after backend moved h =
      let c : Cost = cost_of (rises_of (want_of old.task) h.law.deed) in
      record {
        cost = c;
        raised = turn-raised w t exact (terms_of route old.login old.leg) old.task now old.phase new.phase old.account new.account answer door after
            backend moved h.law;
        paid = subst (λ (task : Task).
            IsPaid c (dues_of old) (record { searches = due task new.phase; unused = unused task new.phase })) (sym h.task)
            (turn-paid w t exact (terms_of route old.login old.leg) old.task now old.phase new.phase old.account new.account answer door after
            backend moved h.law);
      }

  abbrev all_of : List (LegView S) → Dues
  all_of legs =
      total w t exact route now no_dues with_dues Pays pays-nothing pays-both dues_of seen false
      (λ old new answer door after backend moved goes had h. leg-pays old new answer door after backend moved h) legs

  all-is : (legs : List (LegView S)) → all_of legs ≡ dues_in legs
  all-is [] = refl
  all-is (leg ∷ legs) =
      ap (with_dues (dues_of leg)) (all-is legs)
      ∙ (λ i. record {
        searches = sym (sum_by-cons (λ (l : LegView S). (dues_of l).searches) leg legs) i;
        unused = sym (sum_by-cons (λ (l : LegView S). (dues_of l).unused) leg legs) i;
      })

  whole-is : (view : PackageView S) → with_dues (all_of view.first) (all_of view.later) ≡ dues_in (view.first ++ view.later)
  whole-is view =
      (λ i. with_dues (all-is view.first i) (all-is view.later i))
      ∙ (λ i. record {
        searches = sym (sum_by-append (λ (l : LegView S). (dues_of l).searches) view.first view.later) i;
        unused = sym (sum_by-append (λ (l : LegView S). (dues_of l).unused) view.first view.later) i;
      })

  pub package-pays : (old new : PackageView S) (answer : Turned) (door after : DoorView S) (backend moved : BackendView)
      → AsksSo route old → IsPackageTurn w t exact route now old new answer door after backend moved
      → Pays (dues_in (old.first ++ old.later)) (dues_in (new.first ++ new.later)) (seen door backend) (seen after moved)
  package-pays old new answer door after backend moved asks h =
      subst (λ (m : Dues). Pays m (dues_in (new.first ++ new.later)) (seen door backend) (seen after moved)) (whole-is old)
      (subst (λ (n : Dues). Pays (with_dues (all_of old.first) (all_of old.later)) n (seen door backend) (seen after moved)) (whole-is new)
      (whole-turned w t exact route now no_dues with_dues Pays pays-nothing pays-both dues_of seen false
      (λ old new answer door after backend moved goes had h. leg-pays old new answer door after backend moved h)
      refl (λ asked. refl) old new answer door after backend moved asks (λ c. absurd cc) h))
