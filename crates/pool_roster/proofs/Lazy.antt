-- Sets that expire later expire as if they had expired each time
use Rattle.std.proofs.Common.{◌≡◌, ◌==◌, ◌&&◌, is_some, ℕ, ◌-◌, ◌+◌, ◌<◌, ◌≤◌, max, Bool, true, false, cond, nat_lt, List, [], ◌∷◌, map, filter, Option, None, refl, sym, ◌∙◌, ap, arith, All}
use Rattle.std.proofs.lemmas.Bool.Decides.{leb_tells}
use Rattle.std.proofs.lemmas.List.Elements.{All-head, All-tail}
use Rattle.z_types.specs.declared.address.Address.{Address}
use Rattle.pool_sets.specs.declared.pooled.Parts.{Parts}
use Rattle.pool_sets.specs.declared.sessions.Stand.{Stand}
use Rattle.pool_sets.specs.declared.sessions.Stand.TheVariants.{Idle, Out}
use Rattle.pool_sets.specs.Table.{Entry, Table, after_expire}
use Rattle.pool_sets.specs.declared.doors.Seat.{Seat}
use Rattle.z_types.specs.Logins.{same_login}
use Rattle.pool_sets.specs.Sessions.{Session, with_stand, with_table, stand_target, stand_login, is_out, is_among, in_class, is_for, idler, idle_in, idle_for}
use Rattle.pool_sets.specs.Plain.{is_seat, stays, stays_open, without_old_sets, with_fresh_sets, fresh_sessions}
use Rattle.pool_roster.specs.declared.berth.Berth.{Berth}
use Rattle.pool_roster.specs.declared.berth.Expiries.{Expiries}
use Rattle.pool_roster.specs.Told.{sharers_of, seen, told, settled, StandSince}

-- what passes the one test and with it the other
filter_twice : {X : Type 0} (p q : X → Bool) (xs : List X) → ((x : X) → p x ≡ true → q x ≡ true) → filter p (filter q xs) ≡ filter p xs
filter_twice p q [] h = refl
filter_twice p q (x ∷ xs) h = (elim (q x) as (λ b. q x ≡ b → filter p (cond b (x ∷ filter q xs) (filter q xs)) ≡ filter p (x ∷ xs)) [
  | true ↦ λ t. ap (λ r. cond (p x) (x ∷ r) r) (filter_twice p q xs h)
  | false ↦ λ t. (elim (p x) as (λ b. p x ≡ b → filter p (filter q xs) ≡ cond b (x ∷ filter p xs) (filter p xs)) [
    | true ↦ λ k. let bad : true ≡ false = sym (h x k) ∙ t in cc
    | false ↦ λ k. filter_twice p q xs h
  ]) refl
]) refl

later : (l a b : ℕ) → a ≤ b → max (max l a) b ≡ max l b
later l a b h = omega arith

older : (m n u ttl : ℕ) → m ≤ n → nat_lt (n - u) ttl ≡ true → nat_lt (m - u) ttl ≡ true
older m n u ttl h k = grind (arith, leb_tells)

grows : (l a b : ℕ) → max l a ≤ max (max l a) b
grows l a b = omega arith

-- a table that expires twice
pub expires_once : (a b ttl : ℕ) (t : Table) → a ≤ b → after_expire b ttl (after_expire a ttl t) ≡ after_expire b ttl t
expires_once a b ttl t h =
    let m = max t.latest a in
    let n = max (max t.latest a) b in
    let k = later t.latest a b h in
    let sets = filter_twice (λ (e : Entry). nat_lt (n - e.used) ttl) (λ e. nat_lt (m - e.used) ttl) t.entries (λ e p. older m n e.used ttl (grows t.latest a b) p) in
    let same : filter (λ (e : Entry). nat_lt (n - e.used) ttl) t.entries ≡ filter (λ e. nat_lt (max t.latest b - e.used) ttl) t.entries = ap (λ x. filter (λ (e : Entry). nat_lt (x - e.used) ttl) t.entries) k in
    λ i. record { entries = (sets ∙ same) i; most = t.most; latest = k i }

is_young : (now oldest since ttl : ℕ) → oldest ≤ since → now - oldest < ttl → nat_lt (now - since) ttl ≡ true
is_young now oldest since ttl h k = grind (arith, leb_tells)

stamped : (a n : ℕ) → a ≤ n → nat_lt a (n + 1) ≡ true
stamped a n h = grind (arith, leb_tells)

is_not : (n : ℕ) → nat_lt n n ≡ false
is_not n = grind (arith, leb_tells)

-- something is given alike
some_cond : {T : Type 0} (a b : Bool) (u v : Option T) → a ≡ b → is_some u ≡ is_some v → is_some (cond a u None) ≡ is_some (cond b v None)
some_cond true true u v e h = h
some_cond true false u v e h = cc
some_cond false true u v e h = cc
some_cond false false u v e h = refl

module _ {S : Type 0} where
  pub stand_once : (a b ttl : ℕ) (s : Stand (Parts S) Address) → a ≤ b → without_old_sets b ttl (without_old_sets a ttl s) ≡ without_old_sets b ttl s
  stand_once a b ttl (Idle parts since) h = ap (λ t. Idle (with_table t parts) since) (expires_once a b ttl parts.table h)
  stand_once a b ttl (Out address) h = refl

  -- a session that expires twice
  pub session_once : (a b ttl : ℕ) (o : Session S) → a ≤ b → with_fresh_sets b ttl (with_fresh_sets a ttl o) ≡ with_fresh_sets b ttl o
  session_once a b ttl o h = ap (λ s. with_stand s o) (stand_once a b ttl o.stand h)

  stays_same : (now ttl later set_ttl : ℕ) (s : Stand (Parts S) Address) → stays now ttl (without_old_sets later set_ttl s) ≡ stays now ttl s
  stays_same now ttl later set_ttl (Idle parts since) = refl
  stays_same now ttl later set_ttl (Out address) = refl

  -- what is told of a session stays as long as it does
  pub seen_stays : (x : Expiries) (now ttl set_ttl : ℕ) (b : Berth (Session S)) → stays_open now ttl (seen x set_ttl b) ≡ stays_open now ttl b.session
  seen_stays x now ttl set_ttl b = (elim (nat_lt b.stamp x.count) as (λ t. stays_open now ttl (cond t (with_fresh_sets x.last set_ttl b.session) b.session) ≡ stays_open now ttl b.session) [
    | true ↦ stays_same now ttl x.last set_ttl b.session.stand
    | false ↦ refl
  ])

  -- it is told without old sets, whatever was told before
  pub seen_fresh : (x : Expiries) (now ttl : ℕ) (b : Berth (Session S)) → x.last ≤ now → with_fresh_sets now ttl (seen x ttl b) ≡ with_fresh_sets now ttl b.session
  seen_fresh x now ttl b h = (elim (nat_lt b.stamp x.count) as (λ t. with_fresh_sets now ttl (cond t (with_fresh_sets x.last ttl b.session) b.session) ≡ with_fresh_sets now ttl b.session) [
    | true ↦ session_once x.last now ttl b.session h
    | false ↦ refl
  ])

  young_stays : (now oldest ttl : ℕ) (s : Stand (Parts S) Address) → StandSince oldest s → now - oldest < ttl → stays now ttl s ≡ true
  young_stays now oldest ttl (Idle parts since) h k = is_young now oldest since ttl h k
  young_stays now oldest ttl (Out address) h k = refl

  -- a pool of which no session expires, and whose clock did not go back
  pub expires_lazily : (x : Expiries) (now oldest session_ttl set_ttl : ℕ) (bs : List (Berth (Session S))) → x.last ≤ now → now - oldest < session_ttl →
      All (λ b. b.stamp ≤ x.count) bs → All (λ b. StandSince oldest b.session.stand) bs →
      told (record { count = x.count + 1; last = now }) set_ttl bs ≡ fresh_sessions now session_ttl set_ttl (told x set_ttl bs)
  expires_lazily x now oldest session_ttl set_ttl [] h k st si = refl
  expires_lazily x now oldest session_ttl set_ttl (b ∷ bs) h k st si =
      let rest = expires_lazily x now oldest session_ttl set_ttl bs h k (All-tail (λ b. b.stamp ≤ x.count) b bs st) (All-tail (λ b. StandSince oldest b.session.stand) b bs si) in
      let here : stays_open now session_ttl (seen x set_ttl b) ≡ true = seen_stays x now session_ttl set_ttl b ∙ young_stays now oldest session_ttl b.session.stand (All-head (λ b. StandSince oldest b.session.stand) b bs si) k in
      rw (here, stamped b.stamp x.count (All-head (λ b. b.stamp ≤ x.count) b bs st)) (λ i. sym (seen_fresh x now set_ttl b h) i ∷ rest i)

  -- a pool of which each session is looked at
  pub expires_each : (x : Expiries) (now session_ttl set_ttl : ℕ) (bs : List (Berth (Session S))) →
      told (record { count = 1; last = now }) set_ttl (map (settled x set_ttl 0) (filter (λ b. stays_open now session_ttl b.session) bs)) ≡ fresh_sessions now session_ttl set_ttl (told x set_ttl bs)
  expires_each x now session_ttl set_ttl [] = refl
  expires_each x now session_ttl set_ttl (b ∷ bs) =
      rw (seen_stays x now session_ttl set_ttl b)
      (elim (stays_open now session_ttl b.session) as (λ t. told (record { count = 1; last = now }) set_ttl (map (settled x set_ttl 0) (cond t (b ∷ filter (λ b. stays_open now session_ttl b.session) bs) (filter (λ b. stays_open now session_ttl b.session) bs)))
      ≡ map (with_fresh_sets now set_ttl) (cond t (seen x set_ttl b ∷ filter (stays_open now session_ttl) (told x set_ttl bs)) (filter (stays_open now session_ttl) (told x set_ttl bs)))) [
        | true ↦ ap (λ r. with_fresh_sets now set_ttl (seen x set_ttl b) ∷ r) (expires_each x now session_ttl set_ttl bs)
        | false ↦ expires_each x now session_ttl set_ttl bs
      ])

  -- a session that is settled is told as before
  pub settled_same : (x : Expiries) (ttl : ℕ) (b : Berth (Session S)) → seen x ttl (settled x ttl x.count b) ≡ seen x ttl b
  settled_same x ttl b = rw (is_not x.count) refl

  pub settled_all : (x : Expiries) (ttl : ℕ) (bs : List (Berth (Session S))) → told x ttl (map (settled x ttl x.count) bs) ≡ told x ttl bs
  settled_all x ttl [] = refl
  settled_all x ttl (b ∷ bs) = λ i. settled_same x ttl b i ∷ settled_all x ttl bs i

  -- its number, its class, its member and its address are as they were left
  stand_target_same : (now ttl : ℕ) (s : Stand (Parts S) Address) → stand_target (without_old_sets now ttl s) ≡ stand_target s
  stand_target_same now ttl (Idle parts since) = refl
  stand_target_same now ttl (Out address) = refl

  stand_login_same : (login : Option (List ℕ)) (now ttl : ℕ) (s : Stand (Parts S) Address) → stand_login login (without_old_sets now ttl s) ≡ stand_login login s
  stand_login_same login now ttl (Idle parts since) = refl
  stand_login_same login now ttl (Out address) = refl

  stand_out_same : (now ttl : ℕ) (s : Stand (Parts S) Address) → is_out (without_old_sets now ttl s) ≡ is_out s
  stand_out_same now ttl (Idle parts since) = refl
  stand_out_same now ttl (Out address) = refl

  -- what is told of a session's number is as it was left
  pub seen_number : (x : Expiries) (ttl : ℕ) (b : Berth (Session S)) → (seen x ttl b).number ≡ b.session.number
  seen_number x ttl b = (elim (nat_lt b.stamp x.count) as (λ t. (cond t (with_fresh_sets x.last ttl b.session) b.session).number ≡ b.session.number) [ true ↦ refl | false ↦ refl ])

  -- and so are its class and its login
  pub seen_sharers : (x : Expiries) (ttl : ℕ) (b : Berth (Session S)) → sharers_of (seen x ttl b) ≡ sharers_of b.session
  seen_sharers x ttl b = (elim (nat_lt b.stamp x.count) as (λ t. sharers_of (cond t (with_fresh_sets x.last ttl b.session) b.session) ≡ sharers_of b.session) [ true ↦ refl | false ↦ refl ])

  -- and so is whether it is of a class, of a member, of a seat, or idle
  pub seen_class : (x : Expiries) (ttl class : ℕ) (at : List Address) (b : Berth (Session S)) → in_class class at (seen x ttl b) ≡ in_class class at b.session
  seen_class x ttl class at b = (elim (nat_lt b.stamp x.count) as (λ t. in_class class at (cond t (with_fresh_sets x.last ttl b.session) b.session) ≡ in_class class at b.session) [
    | true ↦ ap (λ a. (b.session.class == class) && is_among at a) (stand_target_same x.last ttl b.session.stand)
    | false ↦ refl
  ])

  pub seen_seat : (x : Expiries) (ttl : ℕ) (seat : Seat) (b : Berth (Session S)) → is_seat seat (seen x ttl b) ≡ is_seat seat b.session
  seen_seat x ttl seat b = (elim (nat_lt b.stamp x.count) as (λ t. is_seat seat (cond t (with_fresh_sets x.last ttl b.session) b.session) ≡ is_seat seat b.session) [
    | true ↦ ap (λ o. (b.session.number == seat.number) && (b.session.class == seat.class) && o) (stand_out_same x.last ttl b.session.stand)
    | false ↦ refl
  ])

  pub seen_out : (x : Expiries) (ttl : ℕ) (b : Berth (Session S)) → is_out (seen x ttl b).stand ≡ is_out b.session.stand
  seen_out x ttl b = (elim (nat_lt b.stamp x.count) as (λ t. is_out (cond t (with_fresh_sets x.last ttl b.session) b.session).stand ≡ is_out b.session.stand) [
    | true ↦ stand_out_same x.last ttl b.session.stand
    | false ↦ refl
  ])

  idler_same : (now ttl number : ℕ) (s : Stand (Parts S) Address) → is_some (idler number (without_old_sets now ttl s)) ≡ is_some (idler number s)
  idler_same now ttl number (Idle parts since) = refl
  idler_same now ttl number (Out address) = refl

  idle_same : (now ttl class : ℕ) (at : List Address) (o : Session S) → is_some (idle_in class at (with_fresh_sets now ttl o)) ≡ is_some (idle_in class at o)
  idle_same now ttl class at o =
      some_cond (in_class class at (with_fresh_sets now ttl o)) (in_class class at o) (idler o.number (without_old_sets now ttl o.stand)) (idler o.number o.stand)
      (ap (λ a. (o.class == class) && is_among at a) (stand_target_same now ttl o.stand)) (idler_same now ttl o.number o.stand)

  for_same : (now ttl : ℕ) (login : Option (List ℕ)) (o : Session S) → is_for login (with_fresh_sets now ttl o) ≡ is_for login o
  for_same now ttl login o = ap (λ l. same_login login o.login && same_login login l) (stand_login_same o.login now ttl o.stand)

  own_same : (now ttl class : ℕ) (at : List Address) (login : Option (List ℕ)) (o : Session S) → is_some (idle_for class at login (with_fresh_sets now ttl o)) ≡ is_some (idle_for class at login o)
  own_same now ttl class at login o =
      some_cond (is_for login (with_fresh_sets now ttl o)) (is_for login o) (idle_in class at (with_fresh_sets now ttl o)) (idle_in class at o) (for_same now ttl login o) (idle_same now ttl class at o)

  pub seen_own : (x : Expiries) (ttl class : ℕ) (at : List Address) (login : Option (List ℕ)) (b : Berth (Session S)) → is_some (idle_for class at login (seen x ttl b)) ≡ is_some (idle_for class at login b.session)
  seen_own x ttl class at login b = (elim (nat_lt b.stamp x.count) as (λ t. is_some (idle_for class at login (cond t (with_fresh_sets x.last ttl b.session) b.session)) ≡ is_some (idle_for class at login b.session)) [
    | true ↦ own_same x.last ttl class at login b.session
    | false ↦ refl
  ])

  pub seen_idle : (x : Expiries) (ttl class : ℕ) (at : List Address) (b : Berth (Session S)) → is_some (idle_in class at (seen x ttl b)) ≡ is_some (idle_in class at b.session)
  seen_idle x ttl class at b = (elim (nat_lt b.stamp x.count) as (λ t. is_some (idle_in class at (cond t (with_fresh_sets x.last ttl b.session) b.session)) ≡ is_some (idle_in class at b.session)) [
    | true ↦ idle_same x.last ttl class at b.session
    | false ↦ refl
  ])
