-- where a pool that tells its sessions was full, it had named as many addresses as it may have open sessions of a class
use Rattle.std.proofs.Common.{◌≡◌, ◌∙◌, ℕ, ◌+◌, ◌≤◌, Bool, true, false, nat_lt, nat_le, not, ◌==◌, if◌then◌else◌, cond, List, [], ◌∷◌, length, map, filter, Option, None, Some, refl, sym, subst, arith}
use Rattle.std.specs.Prelude.{option_map}
use Rattle.std.proofs.lemmas.Bool.{ltb-false}
use Rattle.std.proofs.lemmas.List.{length-append, length-map}
use Rattle.std.proofs.lemmas.List.Sums.{count_by-le-length, length-filter}
use Rattle.z_types.specs.Bounds.{within64}
use Rattle.z_types.specs.Counts.{one_more}
use Rattle.z_types.specs.Logins.{inner}
use Rattle.z_types.specs.declared.address.Address.{Address}
use Rattle.z_types.specs.declared.key.SetKey.{SetKey}
use Rattle.z_types.specs.declared.sitting.Sitting as sitting
use Rattle.z_types.specs.declared.world.World as world
use Rattle.pool_sets.specs.Counts.{DoorCounts, after_redial, after_take, is_dial, is_full}
use Rattle.pool_sets.specs.Doors.{Redials, Takes}
use Rattle.pool_sets.specs.Plain.{Pool, any_idle, choice, dial_for, dial_in, expire, has_number, idle_again, is_seat, lend_of, lost, one_idle, open_one, put, redial, redial_at_seat, redial_member, stays_open, take_of, with_fresh_sets, with_sessions, without_idle, out_for}
use Rattle.pool_sets.specs.Sessions.{Idler, Session, idle_for, idle_in, idle_with, first_some, in_class, member_for, open_of, with_stand}
use Rattle.pool_sets.specs.Table.{Entry}
use Rattle.pool_sets.specs.declared.doors.Seat.{Seat}
use Rattle.pool_sets.specs.declared.doors.Taken.{Taken}
use Rattle.pool_sets.specs.declared.doors.Taken.TheVariants as taken
use Rattle.pool_sets.specs.declared.pooled.Parts.{Parts}
use Rattle.pool_sets.specs.declared.sessions.Stand.TheVariants.{Out}
use Rattle.package_quiet.specs.leg.Deeds.{Deed, BackendView, door_counts, took, opened, began, heard, put_back, gave_up, redialled, no_memory, nothing}
use Rattle.package_quiet.specs.leg.Tasks.{want_of}
use Rattle.package_quiet.specs.leg.Terms.{Terms}
use Rattle.package_quiet.specs.leg.Turns.{DoorView, IsTurn, PoolMoves}
use Rattle.package_quiet.specs.leg.declared.accounts.Account.{Account}
use Rattle.package_quiet.specs.leg.declared.answers.Turned.{Turned}
use Rattle.package_quiet.specs.leg.declared.phases.Phase.{Phase}
use Rattle.package_quiet.specs.leg.declared.phases.Phase.TheVariants.{Begin, Dialling, Dialled, Ready, Searching, Presenting, Fetching, Scanning, Returning, Losing, Redialling, Spoiled, Done, Ended}
use Rattle.package_quiet.specs.leg.declared.tasks.Task.{Task}

-- ---- what a pool gives

module _ {S : Type 0} where
  fewer : (p : Session S → Bool) (os : List (Session S)) → length (filter p os) ≤ length os
  fewer p os =
      let few = count_by-le-length p os in
      let all = length-filter p os in
      omega (arith, few, all)

  -- no more sessions are open than before, but for one that is dialled; and where it is full, as many as there may be
  pub record GivesFew (p : Pool S) (given : Taken S × Pool S) : Type 0 where
    pub most : given.1.max_sessions ≡ p.max_sessions
    pub few : length given.1.sessions ≤ length p.sessions + cond (is_dial given.0) 1 0
    pub full : is_full given.0 ≡ true → p.max_sessions ≤ length given.1.sessions

  if_gives : (p : Pool S) (b : Bool) (x y : Taken S × Pool S) → GivesFew p x → GivesFew p y → GivesFew p (if b then x else y)
  if_gives p true x y f g = f
  if_gives p false x y f g = g

  dial_gives : (class : ℕ) (at : List Address) (login : Option (List ℕ)) (member : ℕ) (p : Pool S) → GivesFew p (dial_for class at login member p)
  dial_gives class at login member p = record {
    most = refl;
    few = (let all = length-append p.sessions (out_for (p.given + 1) class at login member ∷ []) in omega (arith, all));
    full = λ is. absurd cc;
  }

  -- without an idle session it has no more
  dropped_gives : (p q : Pool S) (given : Taken S × Pool S) → q.max_sessions ≡ p.max_sessions → length q.sessions ≤ length p.sessions → GivesFew q given
      → (is_full given.0 ≡ true → ⊥) → GivesFew p given
  dropped_gives p q given most few h never = record {
    most = h.most ∙ most;
    few = (let own = h.few in omega (arith, own, few));
    full = λ is. absurd (never is);
  }

  dial_never : (class : ℕ) (at : List Address) (login : Option (List ℕ)) (p q : Pool S) → is_full (dial_in class at login p (Some q)).0 ≡ true → ⊥
  dial_never class at login p q =
      (elim (has_number q) as (λ (b : Bool). is_full (if b then dial_for class at login (member_for class at q.sessions) q else (taken.Memory, p)).0 ≡ true → ⊥) [
        | true ↦ λ is. cc
        | false ↦ λ is. cc
      ])

  -- one is dialled in a pool that has no more sessions
  dial_few : (class : ℕ) (at : List Address) (login : Option (List ℕ)) (p q : Pool S) → q.max_sessions ≡ p.max_sessions → length q.sessions ≤ length p.sessions
      → GivesFew p (dial_in class at login p (Some q))
  dial_few class at login p q most few =
      if_gives p (has_number q) (dial_for class at login (member_for class at q.sessions) q) (taken.Memory, p)
      (dropped_gives p q (dial_for class at login (member_for class at q.sessions) q) most few (dial_gives class at login (member_for class at q.sessions) q) (λ is. cc))
      (record { most = refl; few = omega arith; full = λ is. absurd cc })

  room_by : (class : ℕ) (at : List Address) (login : Option (List ℕ)) (p : Pool S) (idle : Option (Idler S)) → p.max_sessions ≤ open_of class at p.sessions
      → GivesFew p (dial_in class at login p (option_map (without_idle p) idle))
  room_by class at login p None much = record {
    most = refl;
    few = omega arith;
    full = λ is. (let few = count_by-le-length (in_class class at) p.sessions in omega (arith, much, few));
  }
  room_by class at login p (Some i) much =
      dial_few class at login p (without_idle p i) refl (fewer (λ o. not (o.number == i.number)) p.sessions)

  open_by : (class : ℕ) (at : List Address) (login : Option (List ℕ)) (p : Pool S) (b : Bool) → nat_lt (open_of class at p.sessions) p.max_sessions ≡ b
      → GivesFew p (dial_in class at login p (if b then Some p else option_map (without_idle p) (first_some (idle_in class at) p.sessions)))
  open_by class at login p true e = dial_few class at login p p refl (omega arith)
  open_by class at login p false e =
      room_by class at login p (first_some (idle_in class at) p.sessions) (let much = ltb-false (open_of class at p.sessions) p.max_sessions e in omega (arith, much))

  open_gives : (class : ℕ) (at : List Address) (login : Option (List ℕ)) (p : Pool S) → GivesFew p (open_one class at login p)
  open_gives class at login p = open_by class at login p (nat_lt (open_of class at p.sessions) p.max_sessions) refl

  lend_few : (i : Idler S) (p : Pool S) → length (lend_of i p).sessions ≤ length p.sessions
  lend_few i p =
      let all = length-map p.sessions (λ (o : Session S). if o.number == i.number then with_stand (Out (inner i.parts.address)) o else o) in omega (arith, all)

  any_gives : (class : ℕ) (at : List Address) (login : Option (List ℕ)) (p : Pool S) (idle : Option (Idler S)) → GivesFew p (any_idle class at login p idle)
  any_gives class at login p (Some i) = record {
    most = refl;
    few = (let few = lend_few i p in omega (arith, few));
    full = λ is. absurd cc;
  }
  any_gives class at login p None = open_gives class at login p

  one_gives : (class : ℕ) (at : List Address) (login : Option (List ℕ)) (key : SetKey) (now : ℕ) (p : Pool S) (idle : Option (Idler S × Entry))
      → GivesFew p (one_idle class at login key now p idle)
  one_gives class at login key now p (Some h) = record {
    most = refl;
    few = (let few = lend_few h.0 p in omega (arith, few));
    full = λ is. absurd cc;
  }
  one_gives class at login key now p None = any_gives class at login p (first_some (idle_for class at login) p.sessions)

  choice_gives : (class : ℕ) (at : List Address) (login : Option (List ℕ)) (want : Option SetKey) (now : ℕ) (p : Pool S) → GivesFew p (choice class at login want now p)
  choice_gives class at login None now p = any_gives class at login p (first_some (idle_for class at login) p.sessions)
  choice_gives class at login (Some key) now p = one_gives class at login key now p (first_some (idle_with class at login key) p.sessions)

  expire_few : (now : ℕ) (p : Pool S) → length (expire now p).sessions ≤ length p.sessions
  expire_few now p =
      let all = length-map (filter (stays_open now p.session_ttl) p.sessions) (with_fresh_sets now p.set_ttl) in
      let few = fewer (stays_open now p.session_ttl) p.sessions in
      omega (arith, all, few)

  take_gives : (class : ℕ) (at : List Address) (login : Option (List ℕ)) (want : Option SetKey) (now : ℕ) (p : Pool S) → GivesFew p (take_of class at login want now p)
  take_gives class at login want now p =
      let h = choice_gives class at login want now (expire now p) in
      let few = expire_few now p in record {
        most = h.most;
        few = (let own = h.few in omega (arith, own, few));
        full = h.full;
      }

  -- ---- what a door keeps

  -- no more sessions are open than addresses were named; and where it was full, as many were as there may be
  pub record IsFullKept (p : Pool S) (counts : DoorCounts) : Type 0 where
    pub most : p.max_sessions ≡ counts.most
    pub few : within64 (length p.sessions) ≤ counts.opens
    pub full : 1 ≤ counts.fulls → within64 counts.most ≤ counts.opens

  abbrev pub IsToldFull : Option (Pool S) → DoorCounts → Type 0
  IsToldFull None counts = ⊥
  IsToldFull (Some p) counts = IsFullKept p counts

  -- another pool of as few, where no less addresses were named
  fewer_kept : (p q : Pool S) (c d : DoorCounts) → q.max_sessions ≡ p.max_sessions → length q.sessions ≤ length p.sessions
      → d.most ≡ c.most → d.fulls ≡ c.fulls → c.opens ≤ d.opens → IsFullKept p c → IsFullKept q d
  fewer_kept p q c d m few e f o k = record {
    most = m ∙ k.most ∙ sym e;
    few = (let own = k.few in omega (arith, own, few, o));
    full = λ is. (let own = k.full (omega (arith, is, f)) in omega (arith, own, e, o));
  }

  dial_kept : (p q : Pool S) (c d : DoorCounts) → q.max_sessions ≡ p.max_sessions → length q.sessions ≤ length p.sessions + 1
      → d.most ≡ c.most → d.fulls ≡ c.fulls → d.opens ≡ one_more true c.opens → IsFullKept p c → IsFullKept q d
  dial_kept p q c d m few e f o k = record {
    most = m ∙ k.most ∙ sym e;
    few = (let own = k.few in omega (arith, own, few, o));
    full = λ is. (let own = k.full (omega (arith, is, f)) in omega (arith, own, e, o));
  }

  full_kept : (p q : Pool S) (c d : DoorCounts) → q.max_sessions ≡ p.max_sessions → length q.sessions ≤ length p.sessions
      → p.max_sessions ≤ length q.sessions → d.most ≡ c.most → d.opens ≡ c.opens → IsFullKept p c → IsFullKept q d
  full_kept p q c d m few much e o k = record {
    most = m ∙ k.most ∙ sym e;
    few = (let own = k.few in omega (arith, own, few, o));
    full = λ is. (let own = k.few in let own_most = k.most in omega (arith, own, own_most, few, much, e, o));
  }

  given_kept : (want : Option SetKey) (said : Taken S) (p q : Pool S) (c : DoorCounts) → GivesFew p (said, q) → IsFullKept p c
      → IsFullKept q (after_take {S = S} want said c)
  given_kept want (taken.Reuse seat parts slot hits) p q c h k =
      fewer_kept p q c (after_take {S = S} want (taken.Reuse seat parts slot hits) c) h.most (let few = h.few in omega (arith, few)) refl refl (omega arith) k
  given_kept want (taken.Fresh seat parts) p q c h k =
      fewer_kept p q c (after_take {S = S} want (taken.Fresh seat parts) c) h.most (let few = h.few in omega (arith, few)) refl refl (omega arith) k
  given_kept want (taken.Dial seat member) p q c h k =
      dial_kept p q c (after_take {S = S} want (taken.Dial seat member) c) h.most (let few = h.few in omega (arith, few)) refl refl refl k
  given_kept want (taken.Full open_) p q c h k =
      full_kept p q c (after_take {S = S} want (taken.Full open_) c) h.most (let few = h.few in omega (arith, few)) (h.full refl) refl refl k
  given_kept want taken.Memory p q c h k =
      fewer_kept p q c (after_take {S = S} want taken.Memory c) h.most (let few = h.few in omega (arith, few)) refl refl (omega arith) k

  gives_as : (said : Taken S) (p q : Pool S) (class : ℕ) (at : List Address) (login : Option (List ℕ)) (want : Option SetKey) (now : ℕ)
      → (said, q) ≡ take_of class at login want now p → GivesFew p (said, q)
  gives_as said p q class at login want now e = subst (λ (r : Taken S × Pool S). GivesFew p r) (sym e) (take_gives class at login want now p)

  took_kept : (said : Taken S) (p q : Option (Pool S)) (class : ℕ) (at : List Address) (login : Option (List ℕ)) (want : Option SetKey) (now : ℕ) (c : DoorCounts)
      → Takes p q class at login want now said → IsToldFull p c → IsToldFull q (after_take {S = S} want said c)
  took_kept said None q class at login want now c h k = absurd k
  took_kept said (Some p) None class at login want now c h k = absurd h
  took_kept (taken.Reuse seat parts slot hits) (Some p) (Some q) class at login want now c h k =
      given_kept want (taken.Reuse seat parts slot hits) p q c (gives_as _ p q class at login want now h) k
  took_kept (taken.Fresh seat parts) (Some p) (Some q) class at login want now c h k =
      given_kept want (taken.Fresh seat parts) p q c (gives_as _ p q class at login want now h) k
  took_kept (taken.Dial seat member) (Some p) (Some q) class at login want now c h k =
      given_kept want (taken.Dial seat member) p q c (gives_as _ p q class at login want now h) k
  took_kept (taken.Full open_) (Some p) (Some q) class at login want now c h k =
      given_kept want (taken.Full open_) p q c (gives_as _ p q class at login want now h) k
  took_kept taken.Memory (Some p) (Some q) class at login want now c h k =
      subst (λ (r : Pool S). IsFullKept r (after_take {S = S} want taken.Memory c)) (sym h)
      (fewer_kept p (expire now p) c (after_take {S = S} want taken.Memory c) refl (expire_few now p) refl refl (omega arith) k)

  -- a session is put back, given up, or dialled again
  lost_few : (seat : Seat) (p : Pool S) (c : DoorCounts) → IsFullKept p c → IsFullKept (lost seat p) c
  lost_few seat p c k = fewer_kept p (lost seat p) c c refl (fewer (λ o. not (is_seat seat o)) p.sessions) refl refl (omega arith) k

  put_by : (seat : Seat) (parts : Parts S) (now : ℕ) (p : Pool S) (c : DoorCounts) (b : Bool) → IsFullKept p c
      → IsFullKept (if b then with_sessions (map (idle_again seat parts now) p.sessions) p else lost seat p) c
  put_by seat parts now p c true k =
      fewer_kept p (with_sessions (map (idle_again seat parts now) p.sessions) p) c c refl
      (let all = length-map p.sessions (idle_again seat parts now) in omega (arith, all)) refl refl (omega arith) k
  put_by seat parts now p c false k = lost_few seat p c k

  put_few : (seat : Seat) (parts : Parts S) (now : ℕ) (p : Pool S) (c : DoorCounts) → IsFullKept p c → IsFullKept (put seat parts now p) c
  put_few seat parts now p c k =
      put_by seat parts now p c (nat_le parts.table.most p.sets_max) k

  mapped : (f : Pool S → Pool S) (p q : Option (Pool S)) (c : DoorCounts) → ((r : Pool S) → IsFullKept r c → IsFullKept (f r) c)
      → q ≡ option_map f p → IsToldFull p c → IsToldFull q c
  mapped f None q c keeps e k = absurd k
  mapped f (Some p) q c keeps e k = subst (λ (r : Option (Pool S)). IsToldFull r c) (sym e) (keeps p k)

  again_kept : (p q : Option (Pool S)) (seat : Seat) (at : List Address) (member : ℕ) (c : DoorCounts) → Redials p q seat at member
      → IsToldFull p c → IsToldFull q (after_redial c)
  again_kept None q seat at member c h k = absurd k
  again_kept (Some p) q seat at member c h k =
      subst (λ (r : Option (Pool S)). IsToldFull r (after_redial c)) (sym h.1)
      (dial_kept p (redial seat at p) c (after_redial c) refl (let all = length-map p.sessions (redial_at_seat seat at (redial_member seat at p)) in omega (arith, all))
      refl refl refl k)

-- ---- a turn

module _ {S : Type 0} (terms : Terms) (task : Task) (now : ℕ) where
  still_kept : (p q : Option (Pool S)) (c : DoorCounts) → q ≡ p → IsToldFull p c → IsToldFull q c
  still_kept p q c e k = subst (λ (r : Option (Pool S)). IsToldFull r c) (sym e) k

  named_kept : (p : Option (Pool S)) (c : DoorCounts) → IsToldFull p c → IsToldFull p (after_redial c)
  named_kept None c k = absurd k
  named_kept (Some p) c k = dial_kept p p c (after_redial c) refl (omega arith) refl refl refl k

  put_moves : (phase : Phase S) (p q : Option (Pool S)) (c : DoorCounts) → PoolMoves terms task now phase put_back p q → IsToldFull p c → IsToldFull q c
  put_moves Begin p q c h k = still_kept p q c h k
  put_moves (Dialling seat member) p q c h k = still_kept p q c h k
  put_moves (Dialled held looks) p q c h k = still_kept p q c h k
  put_moves (Ready held items) p q c h k = still_kept p q c h k
  put_moves (Searching held items slot looks) p q c h k = still_kept p q c h k
  put_moves (Presenting held items slot hits) p q c h k = still_kept p q c h k
  put_moves (Fetching held items slot hits looks) p q c h k = still_kept p q c h k
  put_moves (Scanning held looks) p q c h k = still_kept p q c h k
  put_moves (Returning held own) p q c h k = mapped (put held.seat held.parts now) p q c (λ r kept. put_few held.seat held.parts now r c kept) h k
  put_moves (Losing seat own) p q c h k = still_kept p q c h k
  put_moves (Redialling seat) p q c h k = still_kept p q c h k
  put_moves (Spoiled seat) p q c h k = still_kept p q c h k
  put_moves (Done own) p q c h k = still_kept p q c h k
  put_moves Ended p q c h k = still_kept p q c h k

  gave_moves : (phase : Phase S) (p q : Option (Pool S)) (c : DoorCounts) → PoolMoves terms task now phase gave_up p q → IsToldFull p c → IsToldFull q c
  gave_moves Begin p q c h k = still_kept p q c h k
  gave_moves (Dialling seat member) p q c h k = still_kept p q c h k
  gave_moves (Dialled held looks) p q c h k = still_kept p q c h k
  gave_moves (Ready held items) p q c h k = still_kept p q c h k
  gave_moves (Searching held items slot looks) p q c h k = still_kept p q c h k
  gave_moves (Presenting held items slot hits) p q c h k = still_kept p q c h k
  gave_moves (Fetching held items slot hits looks) p q c h k = still_kept p q c h k
  gave_moves (Scanning held looks) p q c h k = still_kept p q c h k
  gave_moves (Returning held own) p q c h k = still_kept p q c h k
  gave_moves (Losing seat own) p q c h k = mapped (lost seat) p q c (λ r kept. lost_few seat r c kept) h k
  gave_moves (Redialling seat) p q c h k = still_kept p q c h k
  gave_moves (Spoiled seat) p q c h k = still_kept p q c h k
  gave_moves (Done own) p q c h k = still_kept p q c h k
  gave_moves Ended p q c h k = still_kept p q c h k

  again_moves : (phase : Phase S) (member_ : ℕ) (p q : Option (Pool S)) (c : DoorCounts) → PoolMoves terms task now phase (redialled member_) p q → IsToldFull p c → IsToldFull q (after_redial c)
  again_moves Begin member_ p q c h k = still_kept p q (after_redial c) h (named_kept p c k)
  again_moves (Dialling seat member) member_ p q c h k = still_kept p q (after_redial c) h (named_kept p c k)
  again_moves (Dialled held looks) member_ p q c h k = still_kept p q (after_redial c) h (named_kept p c k)
  again_moves (Ready held items) member_ p q c h k = still_kept p q (after_redial c) h (named_kept p c k)
  again_moves (Searching held items slot looks) member_ p q c h k = still_kept p q (after_redial c) h (named_kept p c k)
  again_moves (Presenting held items slot hits) member_ p q c h k = still_kept p q (after_redial c) h (named_kept p c k)
  again_moves (Fetching held items slot hits looks) member_ p q c h k = still_kept p q (after_redial c) h (named_kept p c k)
  again_moves (Scanning held looks) member_ p q c h k = still_kept p q (after_redial c) h (named_kept p c k)
  again_moves (Returning held own) member_ p q c h k = still_kept p q (after_redial c) h (named_kept p c k)
  again_moves (Losing seat own) member_ p q c h k = still_kept p q (after_redial c) h (named_kept p c k)
  again_moves (Redialling seat) member_ p q c h k = again_kept p q seat terms.at member_ c h k
  again_moves (Spoiled seat) member_ p q c h k = still_kept p q (after_redial c) h (named_kept p c k)
  again_moves (Done own) member_ p q c h k = still_kept p q (after_redial c) h (named_kept p c k)
  again_moves Ended member_ p q c h k = still_kept p q (after_redial c) h (named_kept p c k)

  moves_kept : (phase : Phase S) (deed : Deed S) (p q : Option (Pool S)) (c : DoorCounts) → PoolMoves terms task now phase deed p q → IsToldFull p c
      → IsToldFull q (door_counts (want_of task) deed c)
  moves_kept phase (took said) p q c h k = took_kept said p q terms.class terms.at terms.login (want_of task) now c h k
  moves_kept phase (opened made) p q c h k = still_kept p q c h k
  moves_kept phase (began asked said session) p q c h k = still_kept p q c h k
  moves_kept phase (heard reply session) p q c h k = still_kept p q c h k
  moves_kept phase put_back p q c h k = put_moves phase p q c h k
  moves_kept phase gave_up p q c h k = gave_moves phase p q c h k
  moves_kept phase (redialled member_) p q c h k = again_moves phase member_ p q c h k
  moves_kept phase no_memory p q c h k = still_kept p q c h k
  moves_kept phase nothing p q c h k = still_kept p q c h k

pub turn_full : {W S : Type 0} (w : world.Ghosts W) (t : sitting.Ghosts S W) (exact : Bool) (terms : Terms) (task : Task) (now : ℕ) (old new : Phase S)
    (a b : Account) (answer : Turned) (door after : DoorView S) (backend moved : BackendView)
    → IsTurn w t exact terms task now old new a b answer door after backend moved → IsToldFull door.pool door.counts → IsToldFull after.pool after.counts
turn_full w t exact terms task now old new a b answer door after backend moved h k =
    subst (λ (c : DoorCounts). IsToldFull after.pool c) (sym h.door_counts)
    (moves_kept terms task now old h.deed door.pool after.pool door.counts h.pool k)
