-- What a connection that goes on has taken and listed grows.
use Rattle.std.proofs.Common.{◌≡◌, ◌≢◌, ◌⊎◌, ℕ, Bool, List, [], ◌∷◌, ◌++◌, Option, Some, None, Result, Ok, Err, refl, sym, ap, ◌∙◌, append_assoc, append-nil, inl, inr}
use Rattle.std.specs.Prelude.{option_to_list}
use Rattle.z_types.specs.Chains.{GoesThrough, last_of}
use Rattle.z_types.specs.declared.marks.End.{End}
use Rattle.z_types.specs.declared.marks.Mark.{Mark}
use Rattle.z_types.specs.declared.memory.Memory.{Memory as NoMemory}
use Rattle.z_types.specs.declared.sitting.Sitting as sitting
use Rattle.z_types.specs.declared.world.World as world
use Rattle.route_config.specs.declared.route.Route.{Route}
use Rattle.front_conn.specs.front_sru.declared.begun.Begun as sru_begun
use Rattle.front_conn.specs.front_sru.declared.begun.Begun.TheVariants as get
use Rattle.front_conn.specs.front_sru.declared.state.SruStage.{SruStage}
use Rattle.front_conn.specs.front_sru.declared.state.SruStage.TheVariants.{Idle as NoGet, Searching, Fetching}
use Rattle.front_conn.specs.front_z.declared.units.Begun.{Begun}
use Rattle.front_conn.specs.front_z.declared.units.Begun.TheVariants as begun
use Rattle.front_conn.specs.leg.declared.answers.Turned.{Turned}
use Rattle.front_conn.specs.leg.declared.answers.Turned.TheVariants as turned
use Rattle.front_conn.specs.package.steps.Ends.{cause_in}
use Rattle.front_conn.specs.package.steps.Packages.{PackageView}
use Rattle.front_conn.specs.declared.stepped.Stepped.{Stepped}
use Rattle.front_conn.specs.declared.stepped.Stepped.TheVariants.{Idle, NotYet, Went, Memory}
use Rattle.front_conn.specs.steps.Answering.{AnsweringState, EndsAt, IsEndAfter, IsKeptBehind, IsKeptBehindGet, IsKeptBehindHead, Outside, WorksOn}
use Rattle.front_conn.specs.steps.Feeding.{fed_piece}
use Rattle.front_conn.specs.steps.States.{ConnectionState}
use Rattle.front_conn.specs.steps.Steps.{EndsByRest, GoesAhead, IsStepFrom, TakesHead, TakesUnit, answering_of}
use Rattle.front_conn_works.specs.steps.Through.{GoesOn, IsFed, Point}

module _ {S : Type 0} where
  -- octets were taken of those that were there and came, and marks were listed
  pub record Grows (old new : ConnectionState S) (more : List ℕ) : Type 0 where
    pub taken : List ℕ
    pub spelled : old.left ++ more ≡ taken ++ new.left
    pub marks : List Mark
    pub listed : new.marks ≡ old.marks ++ marks

  -- the same from point to point, of a connection that had not ended
  pub record GrowsTo (old new : Point S) : Type 0 where
    pub going : old.state.end ≡ None
    pub more : List ℕ
    pub fed : new.fed ≡ old.fed ++ more
    pub grown : Grows old.state new.state more

  -- none were taken
  grows-listed : (old new : ConnectionState S) (marks : List Mark) → new.left ≡ old.left → new.marks ≡ old.marks ++ marks → Grows old new []
  grows-listed old new marks left listed =
      record { taken = []; spelled = append-nil old.left ∙ sym left; marks = marks; listed = listed }

  grows-same : (old new : ConnectionState S) → new.left ≡ old.left → new.marks ≡ old.marks → Grows old new []
  grows-same old new left marks = grows-listed old new [] left (marks ∙ sym (append-nil old.marks))

  -- one behind another
  grows-on : (old mid new : ConnectionState S) (more others : List ℕ) → Grows old mid more → Grows mid new others
      → Grows old new (more ++ others)
  grows-on old mid new more others g h = record {
    taken = g.taken ++ h.taken;
    spelled = sym (append_assoc old.left more others) ∙ ap (λ o. o ++ others) g.spelled ∙ append_assoc g.taken mid.left others
        ∙ ap (λ o. g.taken ++ o) h.spelled ∙ sym (append_assoc g.taken h.taken new.left);
    marks = g.marks ++ h.marks;
    listed = h.listed ∙ ap (λ m. m ++ h.marks) g.listed ∙ append_assoc old.marks g.marks h.marks;
  }

  -- ---- a step

  unit-listed : (route : Route) (old new : ConnectionState S) (unit : List ℕ) (answer : Begun) → old.left ≡ unit ++ new.left
      → IsKeptBehind route (answering_of old) (answering_of new) new.end answer → Grows old new []
  unit-listed route old new unit (begun.Write mark end) taken kept = record {
    taken = unit;
    spelled = append-nil old.left ∙ taken;
    marks = option_to_list mark;
    listed = kept.1;
  }
  unit-listed route old new unit (begun.Work job) taken kept = record {
    taken = unit;
    spelled = append-nil old.left ∙ taken;
    marks = [];
    listed = kept.1 ∙ sym (append-nil old.marks);
  }
  unit-listed route old new unit begun.Memory taken kept = absurd kept

  head-listed : (route : Route) (old new : ConnectionState S) (answer : sru_begun.Begun) → new.left ≡ old.left
      → IsKeptBehindHead route (answering_of old) (answering_of new) new.end answer → Grows old new []
  head-listed route old new (get.Write mark end) left kept = grows-listed old new (option_to_list mark) left kept.1
  head-listed route old new (get.Work job) left kept = grows-same old new left kept.1
  head-listed route old new get.Memory left kept = absurd kept

  ahead-grows : (route : Route) (old new : ConnectionState S) (answer : Stepped) → answer ≢ Memory → GoesAhead route old new answer
      → Grows old new []
  ahead-grows route old new Idle had ahead =
      grows-same old new (ap (λ (s : ConnectionState S). s.left) ahead.1) (ap (λ (s : ConnectionState S). s.marks) ahead.1)
  ahead-grows route old new NotYet had ahead = absurd ahead
  ahead-grows route old new Went had ahead = went-grows ahead.2 where
    went-grows : TakesUnit route old new ⊎ TakesHead route old new ⊎ EndsByRest old new → Grows old new []
    went-grows (inl t) = unit-listed route old new t.unit t.begun.answer t.taken t.begun.kept
    went-grows (inr (inl t)) = head-listed route old new t.taken.answer t.left t.taken.kept
    went-grows (inr (inr t)) = grows-same old new t.left t.marks
  ahead-grows route old new Memory had ahead = absurd (had refl)

  get-listed : (route : Route) (old new : ConnectionState S) (next : PackageView S) (ended : Option End) (answer : sru_begun.Begun)
      → new.left ≡ old.left → IsKeptBehindGet route next (answering_of old) (answering_of new) ended answer → Grows old new []
  get-listed route old new next ended (get.Write mark end) left kept = grows-listed old new ((cause_in route next).mark ∷ []) left kept.1
  get-listed route old new next ended (get.Work job) left kept = grows-same old new left kept.1
  get-listed route old new next ended get.Memory left kept = absurd kept

  ends-grows : (route : Route) (old new : ConnectionState S) (next : PackageView S) (stage : SruStage) (done : Result (Option End) NoMemory)
      (answer : Stepped) → answer ≢ Memory → new.left ≡ old.left → EndsAt route stage next (answering_of old) (answering_of new) done
      → IsEndAfter done new.end answer → Grows old new []
  ends-grows route old new next NoGet (Ok ended) answer had left e after =
      grows-listed old new ((cause_in route next).mark ∷ []) left e.3.marks
  ends-grows route old new next (Searching retrieval) (Ok ended) answer had left e after =
      get-listed route old new next ended e.answer left e.kept
  ends-grows route old new next (Fetching retrieval hits) (Ok ended) answer had left e after =
      get-listed route old new next ended e.answer left e.kept
  ends-grows route old new next stage (Err want) answer had left e after = absurd (had after.1)

  works-grows : (route : Route) (old new : ConnectionState S) (next : PackageView S) (turned : Turned) (answer : Stepped)
      → answer ≢ Memory → new.left ≡ old.left → WorksOn route turned next (answering_of old) (answering_of new) answer new.end
      → Grows old new []
  works-grows route old new next turned.Went answer had left on = grows-same old new left (ap (λ (a : AnsweringState S). a.marks) on.1)
  works-grows route old new next turned.NotYet answer had left on = grows-same old new left (ap (λ (a : AnsweringState S). a.marks) on.1)
  works-grows route old new next turned.Done answer had left on =
      ends-grows route old new next old.stage on.done answer had left on.ends.went on.after
  works-grows route old new next turned.Memory answer had left on = absurd (had on.0)

module _ {W S : Type 0} (w : world.Ghosts W) (t : sitting.Ghosts S W) (exact : Bool) (route : Route) where
  -- where it has not ended it had not, and has grown
  record GoesOnGrown (old new : ConnectionState S) (more : List ℕ) : Type 0 where
    pub going : old.end ≡ None
    pub grown : Grows old new more

  step-grows : (now : ℕ) (old new : ConnectionState S) (answer : Stepped) (before behind : Outside S) (end : Option End)
      (in_work : Option (PackageView S)) → answer ≢ Memory → old.end ≡ end → new.end ≡ None
      → IsStepFrom w t exact route now end in_work old new answer before behind → GoesOnGrown old new []
  step-grows now old new answer before behind (Some end) in_work had is goes s =
      let wrong : Some end ≡ None = sym is ∙ ap (λ (c : ConnectionState S). c.end) (sym s.1) ∙ goes in absurd cc
  step-grows now old new answer before behind None None had is goes s =
      record { going = is; grown = ahead-grows route old new answer had s.0 }
  step-grows now old new answer before behind None (Some view) had is goes s = record {
    going = is;
    grown = works-grows route old new s.turns.next s.turns.turned answer had s.input.left s.turns.works;
  }

  -- ---- points

  fed-grows : (old new : Point S) (end : Option End) (f : IsFed old new) → old.state.end ≡ end → new.state.end ≡ None
      → new ≡ record old { state = fed_piece end old.state f.piece; fed = old.fed ++ f.piece } → GrowsTo old new
  fed-grows old new None f is goes same = record {
    going = is;
    more = f.piece;
    fed = ap (λ (p : Point S). p.fed) same;
    grown = record {
      taken = [];
      spelled = sym (ap (λ (p : Point S). p.state.left) same);
      marks = [];
      listed = ap (λ (p : Point S). p.state.marks) same ∙ sym (append-nil old.state.marks);
    };
  }
  fed-grows old new (Some end) f is goes same =
      let wrong : Some end ≡ None = sym is ∙ ap (λ (p : Point S). p.state.end) (sym same) ∙ goes in absurd cc

  -- nothing came
  still-grows : (old new : Point S) → old.state.end ≡ None → new.fed ≡ old.fed → Grows old.state new.state [] → GrowsTo old new
  still-grows old new going fed grown = record { going = going; more = []; fed = fed ∙ sym (append-nil old.fed); grown = grown }

  on-grows : (old new : Point S) → new.state.end ≡ None → GoesOn w t exact route old new → GrowsTo old new
  on-grows old new goes (inl s) =
      let one = step-grows s.now old.state new.state s.answer s.before s.behind old.state.end old.state.in_work s.remembers refl goes s.stepped in
      still-grows old new one.going s.fed one.grown
  on-grows old new goes (inr (inl f)) = fed-grows old new old.state.end f refl goes f.then
  on-grows old new goes (inr (inr (inl same))) =
      still-grows old new (ap (λ (p : Point S). p.state.end) (sym same) ∙ goes) (ap (λ (p : Point S). p.fed) same)
      (grows-same old.state new.state (ap (λ (p : Point S). p.state.left) same) (ap (λ (p : Point S). p.state.marks) same))
  on-grows old new goes (inr (inr (inr same))) =
      still-grows old new (ap (λ (p : Point S). p.state.end) (sym same) ∙ goes) (ap (λ (p : Point S). p.fed) same)
      (grows-same old.state new.state (ap (λ (p : Point S). p.state.left) same) (ap (λ (p : Point S). p.state.marks) same))

  pub through-grows : (point : Point S) (points : List (Point S)) → (last_of point points).state.end ≡ None
      → GoesThrough (GoesOn w t exact route) point points → GrowsTo point (last_of point points)
  through-grows point [] goes through =
      still-grows point point goes refl (grows-same point.state point.state refl refl)
  through-grows point (next ∷ points) goes through =
      let rest = through-grows next points goes through.1 in
      let one = on-grows point next rest.going through.0 in record {
        going = one.going;
        more = one.more ++ rest.more;
        fed = rest.fed ∙ ap (λ o. o ++ rest.more) one.fed ∙ append_assoc point.fed one.more rest.more;
        grown = grows-on point.state next.state (last_of next points).state one.more rest.more one.grown rest.grown;
      }
