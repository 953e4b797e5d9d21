-- A run of an HTTP client shares: it takes the head, ends both works of the GET, and asks all that the head asks
use Rattle.std.proofs.Common.{◌≡◌, ◌∙◌, ◌++◌, inl, inr, ℕ, Bool, true, false, List, [], ◌∷◌, map, Option, None, Some, refl, sym, ap, subst, append-nil}
use Rattle.z_types.specs.declared.marks.End.{End}
use Rattle.z_types.specs.declared.sitting.Sitting as sitting
use Rattle.z_types.specs.declared.work.Work.{Work}
use Rattle.z_types.specs.declared.world.World as world
use Rattle.route_config.specs.Sound.{IsSound}
use Rattle.route_config.specs.declared.route.Route.{Route}
use Rattle.replay.specs.gateway_rules.Answers as kind
use Rattle.replay.specs.gateway_rules.Answers.{Kind, kind_of}
use Rattle.replay.specs.gateway_rules.Fair.{IsFair}
use Rattle.package_shares.specs.package.steps.Packages.{PackageView}
use Rattle.replay.specs.front_conn.declared.stepped.Stepped.{Stepped}
use Rattle.replay.specs.front_conn.declared.stepped.Stepped.TheVariants.{Idle, Memory, NotYet, Went}
use Rattle.replay.specs.front_conn.declared.totals.Total.{Total}
use Rattle.replay.specs.front_conn.steps.Answering.{Outside}
use Rattle.replay.specs.front_conn.steps.Feeding.{without_out}
use Rattle.replay.specs.front_conn.steps.States.{ConnectionState, IsConnOf, IsStateOf, MayCome}
use Rattle.replay.specs.front_conn.steps.Steps.{GoesAhead, IsStepped, IsStepFrom}
use Rattle.sharing_rules.specs.Uses.{DatedWork, Use}
use Rattle.sharing_rules.specs.steps.Shared.{AreInOrder}
use Rattle.replay.specs.Clients.{ClientState, is_idle}
use Rattle.replay.specs.Trace.{AreSteps, HasRun, IsClientStep, Point}
use Rattle.replay_shares.specs.Orderly.{dated}
use Rattle.replay_shares.specs.Works.{Ask, AskAs, AskByHead}
use Rattle.replay_shares.specs.steps.Laws.{GetLaws, HasRunSo, RunsOfGetsShare, works_now}
use Rattle.replay_shares.specs.steps.Resting.{HasAskedAs, HasAskedGet, IsKeptOver, IsResting, MayDo}
use Rattle.replay_shares.proofs.GetSteps.{GetGoes, GetStands, HasAll, step-goes}
use Rattle.replay_shares.proofs.HeadWorks.{ask-one, ask-stays}
use Rattle.replay_shares.proofs.WorkLemmas.{cost-now, first-rests, kept-now, now-works}

-- ---- one step

module _ {W S : Type 0} (w : world.Ghosts W) (t : sitting.Ghosts S W) (exact : Bool) (route : Route) (now : ℕ) (old new : ConnectionState S)
    (here after : Outside S) where
  ahead-input : (answer : Stepped) → GoesAhead route old new answer → new.has_ended ≡ old.has_ended
  ahead-input Idle k = ap (λ (c : ConnectionState S). c.has_ended) k.1
  ahead-input NotYet k = absurd k
  ahead-input Went k = k.1
  ahead-input Memory k = k.has_ended

  from-input : (answer : Stepped) (end : Option End) (in_work : Option (PackageView S))
      → IsStepFrom w t exact route now end in_work old new answer here after → new.has_ended ≡ old.has_ended
  from-input answer (Some end) in_work s = ap (λ (c : ConnectionState S). c.has_ended) s.1
  from-input answer None None s = ahead-input answer s.0
  from-input answer None (Some view) s = s.input.has_ended

  -- no step ends the input
  step-input : (answer : Stepped) → IsStepped w t exact route now old new answer here after → new.has_ended ≡ old.has_ended
  step-input answer s = from-input answer old.end old.in_work s

idle-is : (answer : Stepped) → true ≡ is_idle answer → answer ≡ Idle
idle-is Idle e = refl
idle-is NotYet e = absurd cc
idle-is Went e = absurd cc
idle-is Memory e = absurd cc

none-comes : (has_ended : Bool) → MayCome has_ended []
none-comes true = refl
none-comes false = tt

-- ---- a run

module _ {W S : Type 0} (w : world.Ghosts W) (t : sitting.Ghosts S W) (laws : GetLaws w t) (exact : Bool) (route : Route) (now : ℕ)
    (octets : List ℕ) (ended : Bool) (all : List Work) (before : List Use) (start : List Total) (most : ℕ) (is : exact ≡ true)
    (fair : IsFair w route) (sound : IsSound route) (is_letter : kind_of octets ≡ kind.letter) (may : MayDo route before (map (dated now) all))
    (falls : AreInOrder now before) where
  -- what its steps keep
  pub record IsBetween (client : ClientState S) (outside : Outside S) : Type 0 where
    pub of : IsConnOf w t route most client.conn
    pub stands : IsStateOf w route octets client.written client.conn
    pub input : client.conn.has_ended ≡ ended
    pub door : outside.door.counts.most ≡ most

  abbrev Goes : Stepped → ConnectionState S → Outside S → Type 0
  Goes answer conn outside = GetGoes w t exact route now octets all before start answer conn outside

  abbrev Stands : ConnectionState S → Outside S → Type 0
  Stands conn outside = GetStands w t exact route now octets all before start conn outside

  one-step : (idle : Bool) (old new : ClientState S) (here after : Outside S) → (s : IsClientStep w t exact route now idle old new here after)
      → IsBetween old here → Stands old.conn here → IsBetween new after × Goes s.answer new.conn after
  one-step idle old new here after s k g =
      let upto = s.keeps fair octets old.written k.stands in
      let of = subst (λ (n : ℕ). IsConnOf w t route n s.stepped_to) (s.most ∙ k.door) s.of in
      let goes = step-goes w t exact route now octets all before start laws most old.written is fair sound is_letter may falls old.conn s.stepped_to
      here after s.answer s.remembers k.stands upto of s.steps g in
      let written : Goes s.answer (without_out s.stepped_to) after = record { stands = goes.stands; idle = goes.idle } in (
        record {
          of = subst (λ (c : ConnectionState S). IsConnOf w t route most c) (sym s.conn) of;
          stands = subst (λ (c : ConnectionState S). IsStateOf w route octets new.written c) (sym s.conn)
              (subst (λ (o : List ℕ). IsStateOf w route octets o (without_out s.stepped_to)) (sym s.written)
              (laws.written route octets old.written s.stepped_to upto));
          input = ap (λ (c : ConnectionState S). c.has_ended) s.conn
              ∙ step-input w t exact route now old.conn s.stepped_to here after s.answer s.steps ∙ k.input;
          door = s.most ∙ k.door;
        },
        subst (λ (c : ConnectionState S). Goes s.answer c after) (sym s.conn) written,
      )

  all-steps : (first : Point S) (earlier : List (Point S)) (last : Point S) → AreSteps w t exact route now first earlier last
      → IsBetween first.client first.outside → Stands first.client.conn first.outside
      → IsBetween last.client last.outside × Stands last.client.conn last.outside
  all-steps first [] last same k g =
      subst (λ (p : Point S). IsBetween p.client p.outside × Stands p.client.conn p.outside) (sym same) (k, g)
  all-steps first (mid ∷ earlier) last steps k g =
      let there = all-steps first earlier mid steps.0 k g in
      let next = one-step false mid.client last.client mid.outside last.outside steps.1 there.0 there.1 in (next.0, next.1.stands)

  -- in the end all was asked
  run-asks : (old new : ClientState S) (outside after : Outside S) → HasRun w t exact route now old new outside after → IsBetween old outside
      → Stands old.conn outside → IsBetween new after × HasAll w t exact route now octets all before start new.conn after
  run-asks old new outside after run k g =
      let there = all-steps (record { client = old; outside = outside }) run.earlier run.last run.steps k g in
      let next = one-step true run.last.client new run.last.outside after run.rests there.0 there.1 in
      (next.0, next.1.idle (idle-is run.rests.answer run.rests.is_idle))

module _ {W S : Type 0} (w : world.Ghosts W) (t : sitting.Ghosts S W) (laws : GetLaws w t) (exact : Bool) (route : Route) (now : ℕ)
    (octets : List ℕ) (ended : Bool) (asked all : List Work) (before : List Use) (old new : ClientState S) (outside after : Outside S)
    (is_letter : kind_of octets ≡ kind.letter) (is : exact ≡ true) (fair : IsFair w route) (sound : IsSound route)
    (rest : IsResting w t route outside.door.counts.most octets ended asked old) (kept : IsKeptOver w t route now before outside)
    (asks : Ask w route octets all) (falls : AreInOrder now before) (may : MayDo route before (works_now now asked all))
    (run : HasRun w t exact route now old new outside after) where
  by-head : AskByHead w route octets all
  by-head = subst (λ (k : Kind). AskAs k w route octets all) is_letter asks

  get-asked : (end : Option End) → old.conn.end ≡ end → HasAskedGet w route octets old.conn asked end
  get-asked end is =
      subst (λ (e : Option End). HasAskedGet w route octets old.conn asked e) is
      (subst (λ (k : Kind). HasAskedAs w route octets old.conn asked k) is_letter rest.has_asked)

  no-octets : octets ≡ [] → ⊥
  no-octets none = let wrong : kind.empty ≡ kind.letter = sym (ap kind_of none) ∙ is_letter in absurd cc

  runs-so : (fresh : List Work) → all ≡ asked ++ fresh
      → GetStands w t exact route now octets fresh before old.conn.totals old.conn outside
      → HasRunSo w t route now octets ended asked all before old new outside after
  runs-so fresh are first =
      let most = outside.door.counts.most in
      let may_fresh = subst (λ (ds : List DatedWork). MayDo route before ds) (now-works now asked fresh all are) may in
      let end = run-asks w t laws exact route now octets ended fresh before old.conn.totals most is fair sound is_letter may_fresh falls old new outside
      after run (record { of = rest.of; stands = rest.stands; input = rest.input; door = refl }) first in
      let between = end.0 in
      let last = end.1 in record {
        door = between.door;
        rests = record {
          of = between.of;
          stands = between.stands;
          input = between.input;
          rests = last.idle;
          made = last.rests.done.made;
          plain = last.rests.done.plain;
          has_asked = subst (λ (k : Kind). HasAskedAs w route octets new.conn all k) (sym is_letter)
              (subst (λ (e : Option End). HasAskedGet w route octets new.conn all e) (sym last.ended)
              (λ more comes. ask-stays w route octets all by-head laws.stays more));
          waits = λ none unended. absurd (no-octets none);
        };
        kept = kept-now w t exact route now before old.conn.totals asked fresh all new.conn.totals new.conn.marks after are last.rests;
        cost = λ number class others.
            cost-now w t exact route now before old.conn.totals asked fresh all new.conn.totals new.conn.marks after are last.rests number class others;
      }

  -- a new connection takes its head; one that has ended does nothing
  by-end : (end : Option End) → old.conn.end ≡ end → HasRunSo w t route now octets ended asked all before old new outside after
  by-end None goes =
      let none : asked ≡ [] = get-asked None goes in
      runs-so all (ap (λ (ws : List Work). ws ++ all) (sym none)) (inl (record {
        goes = goes;
        idle = rest.rests;
        asks = by-head;
        rests = first-rests w t exact route now before old.conn.totals old.conn.marks outside rest.made rest.plain kept;
      }))
  by-end (Some how) over =
      let was = get-asked (Some how) over [] (none-comes old.conn.has_ended) in
      let same = ask-one w route octets asked (subst (λ (o : List ℕ). AskByHead w route o asked) (append-nil octets) was) laws.one all by-head in
      runs-so [] (sym (append-nil asked ∙ same)) (inr (inr (inr (record {
        how = how;
        ended = over;
        idle = rest.rests;
        rests = first-rests w t exact route now before old.conn.totals old.conn.marks outside rest.made rest.plain kept;
      }))))

  pub get-shares : HasRunSo w t route now octets ended asked all before old new outside after
  get-shares = by-end old.conn.end refl

pub gets-share : {W S : Type 0} (w : world.Ghosts W) (t : sitting.Ghosts S W) → GetLaws w t → RunsOfGetsShare w t
gets-share w t laws exact route now octets ended asked all before old new outside after is_letter is fair sound rest kept asks falls may run =
    get-shares w t laws exact route now octets ended asked all before old new outside after is_letter is fair sound rest kept asks falls may run
