-- What a put leaves of a pool behind one use more: the sessions of those who used it are kept so, and so are all others
use Rattle.std.proofs.Common.{◌≡◌, ◌==◌, ◌&&◌, ◌∙◌, ◌≤◌, ℕ, Bool, true, false, cond, List, [], ◌∷◌, ◌++◌, map, find, Option, Some, option_map, refl, sym, subst, ap, nat_le, arith}
use Rattle.std.specs.List.{AllByRecursion}
use Rattle.std.specs.Cmp.{nat_eq_equiv}
use Rattle.std.proofs.lemmas.List.{append-nil}
use Rattle.std.proofs.lemmas.List.Elements.{filter-append}
use Rattle.std.proofs.lemmas.Bool.Decides.{leb_tells}
use Rattle.z_types.specs.Logins.{inner, login_of, same_login}
use Rattle.z_types.specs.declared.address.Address.{Address}
use Rattle.z_types.specs.declared.key.SetKey.{SetKey}
use Rattle.z_types.specs.declared.world.World as world
use Rattle.route_config.specs.declared.route.Route.{Route}
use Rattle.pool_sets.specs.declared.pooled.Parts.{Parts}
use Rattle.pool_sets.specs.declared.sessions.Stand.{Stand}
use Rattle.pool_sets.specs.declared.sessions.Stand.TheVariants.{Idle, Out}
use Rattle.pool_sets.specs.declared.doors.Seat.{Seat}
use Rattle.pool_sets.specs.Sessions.{Session, with_stand, is_among, is_out, stands_at}
use Rattle.pool_sets.specs.Plain.{put, is_seat, idle_again}
use Rattle.sharing_rules.specs.Sharers.{Sharers, same_sharers}
use Rattle.sharing_rules.specs.Uses.{Use}
use Rattle.sharing_rules.specs.Needed.{is_by, is_set_by, is_late, last_at}
use Rattle.sharing_rules.specs.steps.Shared.{HoldsUsed, IsKeptIn, AreKept, IsLent, is_of, pool_of, shared_by, sharers_of}
use Rattle.sharing_rules.proofs.SharerFacts.{sharers_equiv, sharers_itself}
use Rattle.sharing_rules.proofs.TableUses.{used_now, used_elsewhere, same_uses}
use Rattle.sharing_rules.proofs.PoolUses.{afresh, theirs_expire}

module _ {S : Type 0} where
  -- what keeps the sharers of each session keeps the sessions of some
  theirs_map : (who : Sharers) (f : Session S → Session S) → ((o : Session S) → sharers_of (f o) ≡ sharers_of o) → (os : List (Session S))
      → shared_by who (map f os) ≡ map f (shared_by who os)
  theirs_map who f same [] = refl
  theirs_map who f same (o ∷ os) =
      let rest = theirs_map who f same os in
      (elim (is_of who o) as (λ b. is_of who o ≡ b → shared_by who (map f (o ∷ os)) ≡ map f (cond b (o ∷ shared_by who os) (shared_by who os))) [
        | true ↦ λ k. let c : is_of who (f o) ≡ true = ap (λ n. same_sharers n who) (same o) ∙ k in rw c (ap (λ r. f o ∷ r) rest)
        | false ↦ λ k. let c : is_of who (f o) ≡ false = ap (λ n. same_sharers n who) (same o) ∙ k in rw c rest
      ]) refl

  pub again_theirs : (seat : Seat) (parts : Parts S) (now : ℕ) (o : Session S) → sharers_of (idle_again seat parts now o) ≡ sharers_of o
  again_theirs seat parts now o = (elim (is_seat seat o) as (λ b. sharers_of (cond b (with_stand (Idle parts now) o) o) ≡ sharers_of o) [
    | true ↦ refl
    | false ↦ refl
  ])

  pub again_number : (seat : Seat) (parts : Parts S) (now : ℕ) (o : Session S) → (idle_again seat parts now o).number ≡ o.number
  again_number seat parts now o = (elim (is_seat seat o) as (λ b. (cond b (with_stand (Idle parts now) o) o).number ≡ o.number) [
    | true ↦ refl
    | false ↦ refl
  ])

  -- the session of a seat is idle again
  pub put_back : (who : Sharers) (seat : Seat) (parts : Parts S) (now : ℕ) (route : Route) (given : ℕ) (os : List (Session S)) (o : Session S)
      → shared_by who os ≡ o ∷ [] → is_seat seat o ≡ true → parts.table.most ≤ route.pool.sets_max
      → shared_by who (put seat parts now (pool_of route given os)).sessions ≡ with_stand (Idle parts now) o ∷ []
  put_back who seat parts now route given os o e s few =
      let fits : nat_le parts.table.most route.pool.sets_max ≡ true = grind (arith, leb_tells) in
      rw fits (theirs_map who (idle_again seat parts now) (again_theirs seat parts now) os ∙ ap (λ r. map (idle_again seat parts now) r) e ∙ rw s refl)

  -- a number is of no session of others
  abbrev pub IsNumberOf : (number : ℕ) → Sharers → List (Session S) → Type 0
  IsNumberOf number who os = AllByRecursion (λ o. is_of who o ≡ false → (o.number == number) ≡ false) os

  -- what is done to the session of a number leaves the sessions of others
  none_of_theirs : (other who : Sharers) (number : ℕ) (f : Session S → Session S) → ((o : Session S) → (o.number == number) ≡ false → f o ≡ o) → (os : List (Session S))
      → same_sharers other who ≡ false → IsNumberOf number who os → map f (shared_by other os) ≡ shared_by other os
  none_of_theirs other who number f leaves [] n a = refl
  none_of_theirs other who number f leaves (o ∷ os) n a =
      let rest = none_of_theirs other who number f leaves os n a.1 in
      (elim (is_of other o) as (λ b. is_of other o ≡ b → map f (cond b (o ∷ shared_by other os) (shared_by other os)) ≡ cond b (o ∷ shared_by other os) (shared_by other os)) [
        | true ↦ λ c.
            let apart : is_of who o ≡ false = sharers_equiv.congr (sharers_of o) other who c ∙ n in
            rw (leaves o (a.0 apart)) (ap (λ r. o ∷ r) rest)
        | false ↦ λ c. rest
      ]) refl

  not_seat : (seat : Seat) (parts : Parts S) (now : ℕ) (o : Session S) → (o.number == seat.number) ≡ false → idle_again seat parts now o ≡ o
  not_seat seat parts now o n = rw n refl

  -- a put leaves the sessions of others
  pub put_elsewhere : (other who : Sharers) (seat : Seat) (parts : Parts S) (now : ℕ) (route : Route) (given : ℕ) (os : List (Session S))
      → same_sharers other who ≡ false → IsNumberOf seat.number who os → parts.table.most ≤ route.pool.sets_max
      → shared_by other (put seat parts now (pool_of route given os)).sessions ≡ shared_by other os
  put_elsewhere other who seat parts now route given os n a few =
      let fits : nat_le parts.table.most route.pool.sets_max ≡ true = grind (arith, leb_tells) in
      rw fits
      (theirs_map other (idle_again seat parts now) (again_theirs seat parts now) os
      ∙ none_of_theirs other who seat.number (idle_again seat parts now) (not_seat seat parts now) os n a)

module _ {W S : Type 0} (w : world.Ghosts W) (route : Route) (who : Sharers) (now : ℕ) (at : List Address) (before : List Use) where
  -- the session that was used is kept, once it is put back with what the use left in its table
  pub kept_put : (key : Option SetKey) (o : Session S) (parts : Parts S) → is_among at (inner parts.address) ≡ true → same_login who.login (login_of parts.address) ≡ true
      → HoldsUsed w route who now (used_now who key now ∷ before) parts.table
      → AreKept w route who at now (used_now who key now ∷ before) (with_stand (Idle parts now) o ∷ [])
  kept_put key o parts a i h = record {
    since_last = rw (sharers_itself who) refl;
    among = a;
    inside_ = i;
    holds = h;
  }

  elsewhere_in : (own : Sharers) (key : Option SetKey) (stand : Stand (Parts S) Address) → same_sharers own who ≡ false → IsKeptIn w route who at now before stand
      → IsKeptIn w route who at now (used_now own key now ∷ before) stand
  elsewhere_in own key (Out address) n h = h
  elsewhere_in own key (Idle parts since) n h = record {
    since_last = rw n h.since_last;
    among = h.among;
    inside_ = h.inside_;
    holds = used_elsewhere w route who now before parts.table own key h.holds n;
  }

  -- and all others are kept as they were
  pub kept_elsewhere : (own : Sharers) (key : Option SetKey) (os : List (Session S)) → same_sharers own who ≡ false → AreKept w route who at now before os
      → AreKept w route who at now (used_now own key now ∷ before) os
  kept_elsewhere own key [] n h = rw n h
  kept_elsewhere own key (o ∷ []) n h = elsewhere_in own key o.stand n h
  kept_elsewhere own key (o ∷ (p ∷ os)) n h = h

-- ---- what a take leaves

module _ {S : Type 0} where
  -- a session of that number is elsewhere
  abbrev moved_if : ℕ → Stand (Parts S) Address → Session S → Session S
  moved_if number stand o = cond (o.number == number) (with_stand stand o) o

  moved_theirs : (number : ℕ) (stand : Stand (Parts S) Address) (o : Session S) → sharers_of (moved_if number stand o) ≡ sharers_of o
  moved_theirs number stand o = (elim (o.number == number) as (λ b. sharers_of (cond b (with_stand stand o) o) ≡ sharers_of o) [
    | true ↦ refl
    | false ↦ refl
  ])

  -- the one session of some sharers is lent
  pub lent : (who : Sharers) (stand : Stand (Parts S) Address) (os : List (Session S)) (o : Session S) → shared_by who os ≡ o ∷ []
      → shared_by who (stands_at o.number stand os) ≡ with_stand stand o ∷ []
  lent who stand os o e =
      theirs_map who (moved_if o.number stand) (moved_theirs o.number stand) os ∙ ap (λ r. map (moved_if o.number stand) r) e ∙ rw (nat_eq_equiv.refl o.number) refl

  not_moved : (number : ℕ) (stand : Stand (Parts S) Address) (o : Session S) → (o.number == number) ≡ false → moved_if number stand o ≡ o
  not_moved number stand o n = rw n refl

  -- and the sessions of others stay
  pub lent_elsewhere : (number : ℕ) (who other : Sharers) (stand : Stand (Parts S) Address) (os : List (Session S)) → same_sharers other who ≡ false → IsNumberOf number who os
      → shared_by other (stands_at number stand os) ≡ shared_by other os
  lent_elsewhere number who other stand os n a =
      theirs_map other (moved_if number stand) (moved_theirs number stand) os ∙ none_of_theirs other who number (moved_if number stand) (not_moved number stand) os n a

  -- a session that is dialled is of those for whom it is
  pub dialled_in : (who : Sharers) (os : List (Session S)) (o : Session S) → sharers_of o ≡ who → shared_by who os ≡ [] → shared_by who (os ++ o ∷ []) ≡ o ∷ []
  dialled_in who os o c e =
      let own : is_of who o ≡ true = ap (λ n. same_sharers n who) c ∙ sharers_itself who in
      filter-append (is_of who) os (o ∷ []) ∙ ap (λ r. r ++ shared_by who (o ∷ [])) e ∙ rw own refl

  -- and of no others
  pub dialled_elsewhere : (who : Sharers) (os : List (Session S)) (o : Session S) → is_of who o ≡ false → shared_by who (os ++ o ∷ []) ≡ shared_by who os
  dialled_elsewhere who os o n =
      filter-append (is_of who) os (o ∷ []) ∙ rw n (append-nil (shared_by who os))

-- ---- the end of a use

pub at_most_itself : (a b : ℕ) → a ≡ b → a ≤ b
at_most_itself a b e = omega (arith, e)

-- ---- while a session is out

pub seat_is_out : (a b c : Bool) → ((a && b) && c) ≡ true → c ≡ true
seat_is_out true true c h = h
seat_is_out true false c h = cc
seat_is_out false b c h = cc

module _ {S : Type 0} (who : Sharers) (seat : Seat) (now session_ttl set_ttl : ℕ) where
  pub out_stays : (o : Session S) (stand : Stand (Parts S) Address) → o.stand ≡ stand → is_out stand ≡ true → afresh now session_ttl set_ttl (o ∷ []) ≡ with_stand stand o ∷ []
  out_stays o (Idle parts since) e h = cc
  out_stays o (Out address) e h = rw e refl

  -- a session that is out stays where the others expire
  pub lent_stays : (os : List (Session S)) → IsLent who seat os → IsLent who seat (afresh now session_ttl set_ttl os)
  lent_stays os l =
      let is_away = seat_is_out (l.0.number == seat.number) (l.0.class == seat.class) (is_out l.0.stand) l.2 in (
        with_stand l.0.stand l.0,
        theirs_expire who now session_ttl set_ttl os ∙ ap (λ r. afresh now session_ttl set_ttl r) l.1 ∙ out_stays l.0 l.0.stand refl is_away,
        l.2,
      )

-- ---- a use once more at one moment, as by the legs that fetch what a Search shows

same_last : (test : Use → Bool) (one : Use) (before : List Use) → last_at test (one ∷ one ∷ before) ≡ last_at test (one ∷ before)
same_last test one before = (elim (test one) as (λ b. option_map (λ u. u.at) (cond b (Some one) (cond b (Some one) (find test before))) ≡ option_map (λ u. u.at) (cond b (Some one) (find test before))) [
  | true ↦ refl
  | false ↦ refl
])

module _ {W S : Type 0} (w : world.Ghosts W) (route : Route) (who : Sharers) (now : ℕ) (at : List Address) (one : Use) (before : List Use) where
  repeated_in : (stand : Stand (Parts S) Address) → IsKeptIn w route who at now (one ∷ one ∷ before) stand → IsKeptIn w route who at now (one ∷ before) stand
  repeated_in (Out address) h = h
  repeated_in (Idle parts since) h = record {
    since_last = sym (same_last (is_by who) one before) ∙ h.since_last;
    among = h.among;
    inside_ = h.inside_;
    holds = same_uses w route who now (one ∷ one ∷ before) parts.table (one ∷ before) h.holds (λ key. sym (same_last (is_set_by who key) one before));
  }

  -- it counts once
  pub repeated : (os : List (Session S)) → AreKept w route who at now (one ∷ one ∷ before) os → AreKept w route who at now (one ∷ before) os
  repeated [] h = subst (λ o. is_late route.pool.session_ttl now o ≡ true) (same_last (is_by who) one before) h
  repeated (o ∷ []) h = repeated_in o.stand h
  repeated (o ∷ (p ∷ os)) h = h
