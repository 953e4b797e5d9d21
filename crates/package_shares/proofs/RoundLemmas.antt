-- Legs that have their turns one after another: each shares its class
use Rattle.std.proofs.Common.{◌≡◌, ◌≢◌, ◌∙◌, ◌||◌, ℕ, Bool, true, false, inl, List, [], ◌∷◌, map, Option, Some, refl, sym, ap, subst, nat_eq}
use Rattle.std.specs.Cmp.{nat_eq_equiv}
use Rattle.std.specs.List.{AllByRecursion, IsDistinct, list_any}
use Rattle.std.proofs.lemmas.Bool.{or_parts}
use Rattle.z_types.specs.Logins.{same_login}
use Rattle.z_types.specs.declared.sitting.Sitting as sitting
use Rattle.z_types.specs.declared.world.World as world
use Rattle.route_config.specs.declared.route.Route.{Route}
use Rattle.pool_sets.specs.Plain.{Pool}
use Rattle.package_quiet.specs.leg.Deeds.{BackendView}
use Rattle.package_quiet.specs.leg.LegView.{LegView}
use Rattle.package_quiet.specs.leg.Phases.{is_done}
use Rattle.package_quiet.specs.leg.Rules.{next}
use Rattle.package_quiet.specs.leg.Tasks.{want_of}
use Rattle.package_quiet.specs.leg.Terms.{terms_of}
use Rattle.package_quiet.specs.leg.Turns.{DoorView}
use Rattle.package_quiet.specs.leg.declared.answers.Turned.{Turned}
use Rattle.package_quiet.specs.leg.declared.answers.Turned.TheVariants as turned
use Rattle.package_quiet.specs.leg.declared.tasks.Task.{Task}
use Rattle.package_quiet.specs.package.declared.turning.Round.{Round}
use Rattle.package_quiet.specs.package.steps.Turns.{HadTurn, HasTurned, HaveTurned}
use Rattle.sharing_rules.specs.Sharers.{Sharers, same_sharers}
use Rattle.sharing_rules.specs.Uses.{Use}
use Rattle.sharing_rules.specs.steps.Shared.{shared_by}
use Rattle.sharing_rules.proofs.SharerFacts.{apart_by_class, apart_by_login}
use Rattle.package_quiet.specs.steps.Quiet.{HasNoCause}
use Rattle.package_quiet.proofs.PackageLemmas.{HadMemories, lacks-kept, leg-memory, rest-memory}
use Rattle.leg_shares.specs.steps.Pools.{IsPoolOf, LeavesRest, MayUse, StayOrExpire, sharers_at}
use Rattle.leg_shares.specs.steps.Sharing.{AreOthersKept, IsKeptBehind, Shares}
use Rattle.leg_shares.proofs.OtherLemmas.{kept-on, shares-on}
use Rattle.leg_shares.proofs.StayLemmas.{stay-on}
use Rattle.leg_shares.proofs.TurnLemmas.{turn-shares}
use Rattle.package_shares.specs.steps.Together.{AreApart, AreSharing, AreSharingOver, AreUndisturbed, IsOfNone, IsSharing, MayShare, class_in, classes_of, who_in}
use Rattle.package_shares.proofs.FullLemmas.{turn-unfull}
use Rattle.package_shares.proofs.MemoryLemmas.{had-some}

-- no leg has found the door full
abbrev pub AreUnfull : {S : Type 0} → List (LegView S) → Type 0
AreUnfull legs = AllByRecursion (λ leg. leg.account.fulls ≡ 0) legs

-- who goes to another class than these legs shares with none of them
pub none-is : {S : Type 0} (route : Route) (who : Sharers) (legs : List (LegView S)) → AllByRecursion (λ k. nat_eq who.class k ≡ false) (classes_of route legs)
    → IsOfNone route legs who
none-is route who [] apart = refl
none-is route who (leg ∷ legs) apart =
    ap (λ (b : Bool). b || list_any (same_sharers who) (map (who_in route) legs)) (apart_by_class who (who_in route leg) apart.0)
    ∙ none-is route who legs apart.1

-- legs with the same sharers go to the same classes
classes-as : {S : Type 0} (route : Route) (legs : List (LegView S)) → classes_of route legs ≡ map (λ (k : Sharers). k.class) (map (who_in route) legs)
classes-as route [] = refl
classes-as route (leg ∷ legs) = ap (λ (ks : List ℕ). class_in route leg ∷ ks) (classes-as route legs)

classes-by : {S : Type 0} (route : Route) (news olds : List (LegView S)) → map (who_in route) news ≡ map (who_in route) olds → classes_of route news ≡ classes_of route olds
classes-by route news olds e = classes-as route news ∙ ap (λ (ks : List Sharers). map (λ (k : Sharers). k.class) ks) e ∙ sym (classes-as route olds)

-- of legs that go to different classes, none but one shares its class under a login
module _ {S : Type 0} (route : Route) where
  abbrev other_by : LegView S → Option (List ℕ) → Sharers
  other_by leg login = record { class = class_in route leg; login = login }

  abbrev pub IsOnlyTheirs : List (LegView S) → LegView S → Type 0
  IsOnlyTheirs legs leg = (login : Option (List ℕ)) → same_login login leg.login ≡ false → IsOfNone route legs (other_by leg login)

  only-more : (leg : LegView S) (legs among : List (LegView S)) → AllByRecursion (λ k. nat_eq (class_in route leg) k ≡ false) (classes_of route among)
      → AllByRecursion (IsOnlyTheirs legs) among → AllByRecursion (IsOnlyTheirs (leg ∷ legs)) among
  only-more leg legs [] apart are = tt
  only-more leg legs (one ∷ among) apart are = (
    λ login other.
        ap (λ (b : Bool). b || list_any (same_sharers (other_by one login)) (map (who_in route) legs))
        (apart_by_class (other_by one login) (who_in route leg) (nat_eq_equiv.symm (class_in route one) (class_in route leg) ∙ apart.0))
        ∙ are.0 login other,
    only-more leg legs among apart.1 are.1,
  )

  pub only-each : (legs : List (LegView S)) → AreApart route legs → AllByRecursion (IsOnlyTheirs legs) legs
  unfolding IsDistinct
  only-each [] apart = tt
  only-each (leg ∷ legs) apart = (
    λ login other.
        ap (λ (b : Bool). b || list_any (same_sharers (other_by leg login)) (map (who_in route) legs))
        (apart_by_login (other_by leg login) (who_in route leg) other)
        ∙ none-is route (other_by leg login) legs apart.0,
    only-more leg legs legs apart.0 (only-each legs apart.1),
  )

module _ {W S : Type 0} (w : world.Ghosts W) (t : sitting.Ghosts S W) (exact : Bool) (route : Route) (now : ℕ) (before : List Use) where
  abbrev MayUseBy : LegView S → Type 0
  MayUseBy leg = MayUse w route (who_in route leg) now before (want_of leg.task)

  -- the class of a leg is kept under each other login
  abbrev pub AreOthersBy : Pool S → LegView S → Type 0
  AreOthersBy pool leg = AreOthersKept w route (who_in route leg) now before pool

  -- behind the turn of one leg it shares its class, and the sessions of others are left
  record OneShares (old new : LegView S) (p : Pool S) (after : Option (Pool S)) : Type 0 where
    pool : Pool S
    told : after ≡ Some pool
    of_route : IsPoolOf route pool
    same : who_in route new ≡ who_in route old
    shares : IsSharing w t route now before pool new
    unfull : new.account.fulls ≡ old.account.fulls
    others : LeavesRest route (who_in route old) now p pool

  -- so each class is kept under each other login, where what is shared with none of them is
  others-kept : (legs among : List (LegView S)) (p : Pool S) → AllByRecursion (IsOnlyTheirs route legs) among
      → ((who : Sharers) → IsOfNone route legs who → IsKeptBehind w route who now before p) → AllByRecursion (AreOthersBy p) among
  others-kept legs [] p only rest = tt
  others-kept legs (leg ∷ among) p only rest = (λ login other. rest (other_by route leg login) (only.0 login other), others-kept legs among p only.1 rest)

  pub others-of : (legs : List (LegView S)) (p : Pool S) → AreApart route legs → AreSharing w t route now before legs p → AllByRecursion (AreOthersBy p) legs
  others-of legs p apart are = others-kept legs legs p (only-each route legs apart) are.rest

  one-shares : (old new : LegView S) (answer : Turned) (door after : DoorView S) (backend moved : BackendView) (p : Pool S) → MayUseBy old
      → HadTurn w t exact route now old new answer door after backend moved → answer ≢ turned.Memory → HasNoCause new.account
      → door.pool ≡ Some p → IsPoolOf route p → IsSharing w t route now before p old → AreOthersBy p old → OneShares old new p after.pool
  one-shares old new answer door after backend moved p may h had none told of is rest =
      let on = turn-shares w t exact route old.login old.leg now before old.task old.phase new.phase old.account new.account answer door after backend moved p
      may rest told of h.law (record { memory = had; faults = none.faults; gones = none.gones; looks = none.looks }) is in
      record {
        pool = on.pool;
        told = on.told;
        of_route = on.of;
        same = λ i. sharers_at route (h.login i) (h.leg i);
        shares =
            subst (λ (who : Sharers). Shares w t route who now before new.task new.phase new.account on.pool) (λ i. sharers_at route (sym h.login i) (sym h.leg i))
            (subst (λ (k : Task). Shares w t route (who_in route old) now before k new.phase new.account on.pool) (sym h.task) on.shares);
        unfull =
            turn-unfull w t route old.login old.leg now before old.task may p of rest exact old.phase new.phase old.account new.account answer door after backend moved
            told h.law is;
        others = on.others;
      }

  first-shares : (done : Bool) (old new : LegView S) (news : List (LegView S)) (round then last : Round) (door after : DoorView S)
      (backend moved : BackendView) (p : Pool S) → is_done old.phase ≡ done → MayUseBy old
      → HasTurned w t exact route now done old new round then door after backend moved → (last.lacks ≡ false → then.lacks ≡ false)
      → HadMemories last (new ∷ news) → HasNoCause new.account → door.pool ≡ Some p → IsPoolOf route p
      → IsSharing w t route now before p old → AreOthersBy p old → OneShares old new p after.pool
  first-shares true old new news round then last door after backend moved p goes may h kept had none told of is rest = record {
    pool = p;
    told = ap (λ (d : DoorView S). d.pool) h.2 ∙ told;
    of_route = of;
    same = ap (λ (l : LegView S). who_in route l) h.0;
    shares = subst (λ (l : LegView S). IsSharing w t route now before p l) (sym h.0) is;
    unfull = ap (λ (l : LegView S). l.account.fulls) h.0;
    others = λ other apart. inl refl;
  }
  first-shares false old new news round then last door after backend moved p goes may h kept had none told of is rest =
      one-shares old new h.0 door after backend moved p may h.2
      (had-some old.phase new.phase (next (terms_of route old.login old.leg) old.task now new.account.gones old.phase h.2.law.deed) h.2.law.deed h.0 (leg-memory w t exact route now h.0 old new news round then last goes h.1 kept had) h.2.law.goes)
      none told of is rest

  -- the legs behind it share theirs still
  each-on : (who : Sharers) (legs : List (LegView S)) (p m : Pool S) → AllByRecursion (λ k. nat_eq who.class k ≡ false) (classes_of route legs)
      → LeavesRest route who now p m → AllByRecursion (IsSharing w t route now before p) legs
      → AllByRecursion (IsSharing w t route now before m) legs
  each-on who [] p m apart left are = tt
  each-on who (leg ∷ legs) p m apart left are = (
    shares-on w t route (who_in route leg) now before p m
        (left (who_in route leg) (apart_by_class (who_in route leg) who (nat_eq_equiv.symm (class_in route leg) who.class ∙ apart.0)))
        leg.task leg.phase leg.account are.0,
    each-on who legs p m apart.1 left are.1,
  )

  -- and their classes are kept under each other login
  others-on : (who : Sharers) (legs : List (LegView S)) (p m : Pool S) → AllByRecursion (λ k. nat_eq who.class k ≡ false) (classes_of route legs)
      → LeavesRest route who now p m → AllByRecursion (AreOthersBy p) legs → AllByRecursion (AreOthersBy m) legs
  others-on who [] p m apart left are = tt
  others-on who (leg ∷ legs) p m apart left are = (
    λ login other.
        let those : Sharers = record { class = class_in route leg; login = login } in
        kept-on w route those now p m before
        (left those (apart_by_class those who (nat_eq_equiv.symm (class_in route leg) who.class ∙ apart.0))) (are.0 login other),
    others-on who legs p m apart.1 left are.1,
  )

  -- behind the turns of all of them
  pub record AllShare (olds news : List (LegView S)) (p : Pool S) (after : Option (Pool S)) : Type 0 where
    pub pool : Pool S
    pub told : after ≡ Some pool
    pub of_route : IsPoolOf route pool
    pub same : map (who_in route) news ≡ map (who_in route) olds
    pub each : AllByRecursion (IsSharing w t route now before pool) news
    pub unfull : AreUnfull olds → AreUnfull news
    pub left : (who : Sharers) → IsOfNone route olds who
        → StayOrExpire route now (shared_by who p.sessions) (shared_by who pool.sessions)

  pub legs-share : (olds news : List (LegView S)) (round last : Round) (door after : DoorView S) (backend moved : BackendView) (p : Pool S)
      → AreApart route olds → AllByRecursion MayUseBy olds → HaveTurned w t exact route now olds news round last door after backend moved
      → HadMemories last news → AreUndisturbed news → door.pool ≡ Some p → IsPoolOf route p
      → AllByRecursion (IsSharing w t route now before p) olds → AllByRecursion (AreOthersBy p) olds → AllShare olds news p after.pool
  unfolding IsDistinct
  legs-share [] [] round last door after backend moved p apart may h had none told of are others = record {
    pool = p;
    told = ap (λ (d : DoorView S). d.pool) h.1 ∙ told;
    of_route = of;
    same = refl;
    each = tt;
    unfull = λ none. none;
    left = λ who away. inl refl;
  }
  legs-share [] (new ∷ news) round last door after backend moved p apart may h had none told of are others = absurd h
  legs-share (old ∷ olds) [] round last door after backend moved p apart may h had none told of are others = absurd h
  legs-share (old ∷ olds) (new ∷ news) round last door after backend moved p apart may h had none told of are others =
      let one = first-shares (is_done old.phase) old new news round h.next last door h.between backend h.amid p refl may.0 h.turned
      (lacks-kept w t exact route now olds news h.next last h.between after h.amid moved h.others) had none.0 told of are.0 others.0 in
      let rest = legs-share olds news h.next last h.between after h.amid moved one.pool apart.1 may.1 h.others (rest-memory w t exact route now new news last had)
      none.1 one.told one.of_route (each-on (who_in route old) olds p one.pool apart.0 one.others are.1)
      (others-on (who_in route old) olds p one.pool apart.0 one.others others.1) in
      let away = none-is route (who_in route old) olds apart.0 in
      record {
        pool = rest.pool;
        told = rest.told;
        of_route = rest.of_route;
        same = λ i. one.same i ∷ rest.same i;
        each = (
          shares-on w t route (who_in route new) now before one.pool rest.pool
              (rest.left (who_in route new) (ap (λ (who : Sharers). list_any (same_sharers who) (map (who_in route) olds)) one.same ∙ away))
              new.task new.phase new.account one.shares,
          rest.each,
        );
        unfull = λ none. (one.unfull ∙ none.0, rest.unfull none.1);
        left = λ who none_of.
            let both = or_parts (same_sharers who (who_in route old)) (list_any (same_sharers who) (map (who_in route) olds)) none_of in
            stay-on route now (shared_by who p.sessions) (shared_by who one.pool.sessions) (shared_by who rest.pool.sessions)
            (one.others who both.0) (rest.left who both.1);
      }

  -- and what is shared with none of them is kept
  pub round-shares : (olds news : List (LegView S)) (round last : Round) (door after : DoorView S) (backend moved : BackendView) (p : Pool S)
      → MayShare w route now before olds → HaveTurned w t exact route now olds news round last door after backend moved
      → HadMemories last news → AreUndisturbed news → door.pool ≡ Some p → AreSharing w t route now before olds p
      → AreSharingOver w t route now before news after.pool × (classes_of route news ≡ classes_of route olds)
  round-shares olds news round last door after backend moved p may h had none told are =
      let all = legs-share olds news round last door after backend moved p may.apart may.each h had none told are.of are.each
      (others-of olds p may.apart are) in (
        record {
          pool = all.pool;
          told = all.told;
          share = record {
            of = all.of_route;
            each = all.each;
            rest = λ who none_of.
                let away = ap (λ (ks : List Sharers). list_any (same_sharers who) ks) (sym all.same) ∙ none_of in
                kept-on w route who now p all.pool before (all.left who away) (are.rest who away);
          };
        },
        classes-by route news olds all.same,
      )
