-- What a roster keeps, and what is told of it
use Rattle.std.proofs.Common.{◌≡◌, ◌==◌, ℕ, suc, zero, ◌+◌, ◌-◌, ◌^◌, ◌<◌, ◌≤◌, min, nat_lt, true, false, cond, not, List, [], ◌∷◌, ◌++◌, length, get_or, set, map, filter, Contains, position, Option, is_some, refl, sym, ◌∙◌, ap, subst, arith, All}
use Rattle.std.specs.List.Sorted.{IsPermutation}
use Rattle.std.proofs.lemmas.Bool.Decides.{leb_tells}
use Rattle.std.proofs.lemmas.List.{map-set, map-append, get_or-map, length-map}
use Rattle.std.proofs.lemmas.List.Sorted.{Contains-permutation}
use Rattle.std.proofs.lemmas.List.Elements.{All-filter, All-nil, All-cons, All-map, All-set, All-push, All-weaker}
use Rattle.z_types.specs.declared.key.SetKey.{SetKey}
use Rattle.z_types.specs.declared.address.Address.{Address}
use Rattle.pool_sets.specs.declared.pooled.Parts.{Parts}
use Rattle.pool_sets.specs.declared.sessions.Stand.TheVariants.{Idle, Out}
use Rattle.pool_sets.specs.declared.doors.Seat.{Seat}
use Rattle.pool_sets.specs.Table.{Entry}
use Rattle.pool_sets.specs.Sessions.{Session, idle_with, with_stand}
use Rattle.pool_sets.specs.Plain.{is_seat, stays_open, with_fresh_sets, fresh_sessions, Ascends}
use Rattle.pool_core.specs.PoolView.{holder_place, at_member, out_session}
use Rattle.pool_core.proofs.Ascending.{ascends_filter, ascends_map, ascends_put}
use Rattle.pool_keys.specs.declared.index.Pair.{Pair}
use Rattle.pool_keys.specs.Pairs.{Indexed, Holds, Grows, pair}
use Rattle.pool_keys.specs.Digests.{Sharers}
use Rattle.pool_roster.specs.declared.berth.Berth.{Berth}
use Rattle.pool_roster.specs.declared.berth.Expiries.{Expiries}
use Rattle.pool_roster.specs.Told.{sharers_of, seen, told, settled, StandSince, sets_of, AreListed, IsListed, AreGathered, IsBerth, IsRoster}
use Rattle.pool_roster.specs.RosterView.{RiseIn, IsPlace, is_holder, IsOneOf}
use Rattle.pool_roster.proofs.Lazy.{expires_lazily, expires_each, settled_all, seen_number}
use Rattle.pool_roster.proofs.Settling.{since_lower, settled_berth}
use Rattle.pool_roster.proofs.Counting.{position_same, told_without, told_without_number}

not_less : (n : ℕ) → nat_lt n n ≡ false
not_less n = grind (arith, leb_tells)

le_by : (a b c : ℕ) → a < b → b ≤ c → a ≤ c
le_by a b c h k = omega arith

lt_by : (a b c : ℕ) → a < b → b < c → a < c
lt_by a b c h k = omega arith

le_one : (a n : ℕ) → a ≤ n → a ≤ n + 1
le_one a n h = omega arith

fits : (a : ℕ) → a ≤ 2 ^ 64 - 1 → a < 2 ^ 64
fits a h = omega arith

none_under : {X : Type 0} (j : ℕ) → j < 0 → X
none_under j h = absurd (omega arith)

module _ {S : Type 0} where
  ends : (m n : ℕ) (os : List (Session S)) → Ascends m n os → m ≤ n
  ends m n [] a = a
  ends m n (o ∷ os) a = le_by m o.number n a.0 (ends o.number n os a.1)

  above : (m n : ℕ) (os : List (Session S)) → Ascends m n os → All (λ o. m < o.number) os
  above m n [] a = All-nil (λ (o : Session S). m < o.number)
  above m n (o ∷ os) a = All-cons (λ (o : Session S). m < o.number) o os a.0 (All-weaker (λ (p : Session S). o.number < p.number) (λ p. m < p.number) (λ p h. lt_by m o.number p.number a.0 h) os (above o.number n os a.1))

  within : (m n : ℕ) (os : List (Session S)) → Ascends m n os → All (λ o. o.number ≤ n) os
  within m n [] a = All-nil (λ (o : Session S). o.number ≤ n)
  within m n (o ∷ os) a = All-cons (λ (o : Session S). o.number ≤ n) o os (ends o.number n os a.1) (within o.number n os a.1)

  in_order : (m n : ℕ) (os : List (Session S)) → Ascends m n os → (i j : ℕ) (d : Session S) → i < j → j < length os → (get_or os i d).number < (get_or os j d).number
  in_order m n [] a i j d h w = none_under j w
  in_order m n (o ∷ os) a i zero d h w = none_under i h
  in_order m n (o ∷ os) a zero (suc j) d h w = above o.number n os a.1 j d (omega arith)
  in_order m n (o ∷ os) a (suc i) (suc j) d h w = in_order o.number n os a.1 i j d (omega arith) (omega arith)

  -- numbers that ascend rise
  pub rise_in : (os : List (Session S)) → Ascends 0 (2 ^ 64 - 1) os → RiseIn os
  rise_in os a = record {
    order = in_order 0 (2 ^ 64 - 1) os a;
    small = All-weaker (λ (o : Session S). o.number ≤ 2 ^ 64 - 1) (λ o. o.number < 2 ^ 64) (λ o h. fits o.number h) os (within 0 (2 ^ 64 - 1) os a);
  }

  -- they ascend among the sessions that stay
  ascends_fresh : (n now session_ttl set_ttl : ℕ) (os : List (Session S)) → Ascends 0 n os → Ascends 0 n (fresh_sessions now session_ttl set_ttl os)
  ascends_fresh n now session_ttl set_ttl os a =
      ascends_map 0 n (with_fresh_sets now set_ttl) (filter (stays_open now session_ttl) os) (λ o. refl) (ascends_filter 0 n (stays_open now session_ttl) os a)

  module _ (x : Expiries) (ttl : ℕ) where
    -- what is told at a place
    pub told_at : (place : ℕ) (bs : List (Berth (Session S))) (b : Berth (Session S)) (d : Session S) → place < length bs → b ≡ get_or bs place b → get_or (told x ttl bs) place d ≡ seen x ttl b
    told_at place bs b d w e = get_or-map (seen x ttl) bs place b d w ∙ ap (seen x ttl) (sym e)

    -- what is told once a session is changed in its place
    pub told_set : (place : ℕ) (bs : List (Berth (Session S))) (b c : Berth (Session S)) (f : Session S → Session S) → place < length bs → b ≡ get_or bs place b → seen x ttl c ≡ f (seen x ttl b) → (d : Session S) → told x ttl (set bs place c) ≡ set (told x ttl bs) place (f (get_or (told x ttl bs) place d))
    told_set place bs b c f w e h d = map-set (seen x ttl) bs place c ∙ ap (set (told x ttl bs) place) (h ∙ ap f (sym (told_at place bs b d w e)))

    -- what was left after the last expiry is told as it was left
    pub left_now : (o : Session S) → seen x ttl (record { session = o; stamp = x.count }) ≡ o
    left_now o = rw (not_less x.count) refl

    -- a session that is added
    pub told_push : (bs : List (Berth (Session S))) (o : Session S) → told x ttl (bs ++ (record { session = o; stamp = x.count }) ∷ []) ≡ told x ttl bs ++ o ∷ []
    told_push bs o = map-append (seen x ttl) bs ((record { session = o; stamp = x.count }) ∷ []) ∙ ap (λ y. told x ttl bs ++ y ∷ []) (left_now o)

    -- a session that is put to rest
    pub rest_seen : (b : Berth (Session S)) (parts : Parts S) (since : ℕ) → seen x ttl (record { session = with_stand (Idle parts since) b.session; stamp = x.count }) ≡ with_stand (Idle parts since) (seen x ttl b)
    rest_seen b parts since = left_now (with_stand (Idle parts since) b.session) ∙ (elim (nat_lt b.stamp x.count) as (λ t. with_stand (Idle parts since) b.session ≡ with_stand (Idle parts since) (cond t (with_fresh_sets x.last ttl b.session) b.session)) [ true ↦ refl | false ↦ refl ])

    -- or out for another member
    pub moved_seen : (b : Berth (Session S)) (member : ℕ) (to : Address) → seen x ttl (record { session = at_member member to b.session; stamp = b.stamp }) ≡ at_member member to (seen x ttl b)
    moved_seen b member to = (elim (nat_lt b.stamp x.count) as (λ t. cond t (with_fresh_sets x.last ttl (at_member member to b.session)) (at_member member to b.session) ≡ at_member member to (cond t (with_fresh_sets x.last ttl b.session) b.session)) [ true ↦ refl | false ↦ refl ])

    -- the first of the settled sessions that holds a set is the first that is told to hold one
    pub settled_place : (class : ℕ) (at : List Address) (login : Option (List ℕ)) (key : SetKey) (bs : List (Berth (Session S))) → position (λ b. is_some (idle_with class at login key b.session)) (map (settled x ttl x.count) bs) ≡ holder_place class at login key (told x ttl bs)
    settled_place class at login key bs =
        position_same (λ b. is_some (idle_with class at login key b.session)) (λ b. is_some (idle_with class at login key (seen x ttl b))) (settled x ttl x.count) (λ b. refl) bs
        ∙ sym (position_same (λ o. is_some (idle_with class at login key o)) (λ b. is_some (idle_with class at login key (seen x ttl b))) (seen x ttl) (λ b. refl) bs)

    -- the session at a place is one that holds a set, once it is settled
    pub holder_at : (number class : ℕ) (at : List Address) (login : Option (List ℕ)) (key : SetKey) (bs : List (Berth (Session S))) (place : ℕ) (b c : Berth (Session S)) → IsPlace number bs place → b ≡ get_or bs place b → c ≡ settled x ttl x.count b → is_holder class at login key c.session ≡ true → IsOneOf (is_holder class at login key) number (told x ttl bs) place
    holder_at number class at login key bs place b c is e s h = record {
      within = subst (λ n. place < n) (sym (length-map bs (seen x ttl))) is.within;
      number_there = λ d. ap (λ o. o.number) (told_at place bs b d is.within e) ∙ seen_number x ttl b ∙ ap (λ y. y.session.number) e ∙ is.number_there b;
      passes = λ d. ap (is_holder class at login key) (told_at place bs b d is.within e ∙ sym (ap (λ y. y.session) s)) ∙ h;
    }

  module _ (digest : Sharers → SetKey → ℕ) (index : Indexed) (x : Expiries) (oldest ttl : ℕ) where
    -- the pool expires, and no session does
    pub told_lazily : (now session_ttl : ℕ) (bs : List (Berth (Session S))) → x.last ≤ now → now - oldest < session_ttl → IsRoster digest index x oldest ttl bs → told (record { count = x.count + 1; last = now }) ttl bs ≡ fresh_sessions now session_ttl ttl (told x ttl bs)
    told_lazily now session_ttl bs h k r =
        expires_lazily x now oldest session_ttl ttl bs h k
        (All-weaker (IsBerth digest index x.count oldest) (λ b. b.stamp ≤ x.count) (λ b is. is.stamped) bs r.each)
        (All-weaker (IsBerth digest index x.count oldest) (λ b. StandSince oldest b.session.stand) (λ b is. is.since) bs r.each)

    pub roster_lazily : (now session_ttl : ℕ) (bs : List (Berth (Session S))) → x.last ≤ now → now - oldest < session_ttl → IsRoster digest index x oldest ttl bs → IsRoster digest index (record { count = x.count + 1; last = now }) oldest ttl bs
    roster_lazily now session_ttl bs h k r = record {
      ascends = subst (Ascends 0 (2 ^ 64 - 1)) (sym (told_lazily now session_ttl bs h k r)) (ascends_fresh (2 ^ 64 - 1) now session_ttl ttl (told x ttl bs) r.ascends);
      each = All-weaker (IsBerth digest index x.count oldest) (IsBerth digest index (x.count + 1) oldest) (λ b is. record { stamped = le_one b.stamp x.count is.stamped; since = is.since; listed = is.listed }) bs r.each;
    }

    -- the pool expires, and each session is looked at
    pub roster_each : (now session_ttl since : ℕ) (bs : List (Berth (Session S))) → IsRoster digest index x oldest ttl bs →
        All (λ b. StandSince since b.session.stand) (map (settled x ttl 0) (filter (λ b. stays_open now session_ttl b.session) bs)) →
        IsRoster digest index (record { count = 1; last = now }) since ttl (map (settled x ttl 0) (filter (λ b. stays_open now session_ttl b.session) bs))
    roster_each now session_ttl since bs r s =
        let left = filter (λ b. stays_open now session_ttl b.session) bs in
        let settled_left : All (IsBerth digest index 1 oldest) (map (settled x ttl 0) left) =
        All-map (IsBerth digest index 1 oldest) (settled x ttl 0) left (All-weaker (IsBerth digest index x.count oldest) (λ b. IsBerth digest index 1 oldest (settled x ttl 0 b)) (λ b is. settled_berth digest index x ttl 0 1 oldest b (omega arith) is.since is.listed) left
        (All-filter (λ b. stays_open now session_ttl b.session) (IsBerth digest index x.count oldest) bs r.each)) in
        record {
          ascends = subst (Ascends 0 (2 ^ 64 - 1)) (sym (expires_each x now session_ttl ttl bs)) (ascends_fresh (2 ^ 64 - 1) now session_ttl ttl (told x ttl bs) r.ascends);
          each = λ k d w. record { stamped = (settled_left k d w).stamped; since = s k d w; listed = (settled_left k d w).listed };
        }

    -- each session is left as it is told
    pub roster_settled : (bs : List (Berth (Session S))) → IsRoster digest index x oldest ttl bs → IsRoster digest index x oldest ttl (map (settled x ttl x.count) bs)
    roster_settled bs r = record {
      ascends = subst (Ascends 0 (2 ^ 64 - 1)) (sym (settled_all x ttl bs)) r.ascends;
      each = All-map (IsBerth digest index x.count oldest) (settled x ttl x.count) bs (All-weaker (IsBerth digest index x.count oldest) (λ b. IsBerth digest index x.count oldest (settled x ttl x.count b)) (λ b is. settled_berth digest index x ttl x.count x.count oldest b (omega arith) is.since is.listed) bs r.each);
    }

    -- a session is dropped
    pub roster_without : (seat : Seat) (bs : List (Berth (Session S))) → IsRoster digest index x oldest ttl bs → IsRoster digest index x oldest ttl (filter (λ b. not (is_seat seat b.session)) bs)
    roster_without seat bs r = record {
      ascends = subst (Ascends 0 (2 ^ 64 - 1)) (sym (told_without x ttl seat bs)) (ascends_filter 0 (2 ^ 64 - 1) (λ o. not (is_seat seat o)) (told x ttl bs) r.ascends);
      each = All-filter (λ b. not (is_seat seat b.session)) (IsBerth digest index x.count oldest) bs r.each;
    }

    -- a session of a number is dropped
    pub roster_dropped : (number : ℕ) (bs : List (Berth (Session S))) → IsRoster digest index x oldest ttl bs → IsRoster digest index x oldest ttl (filter (λ b. not (b.session.number == number)) bs)
    roster_dropped number bs r = record {
      ascends = subst (Ascends 0 (2 ^ 64 - 1)) (sym (told_without_number x ttl number bs)) (ascends_filter 0 (2 ^ 64 - 1) (λ o. not (o.number == number)) (told x ttl bs) r.ascends);
      each = All-filter (λ b. not (b.session.number == number)) (IsBerth digest index x.count oldest) bs r.each;
    }

    -- a session is added
    pub roster_push : (bs : List (Berth (Session S))) (b : Berth (Session S)) → IsRoster digest index x oldest ttl bs → IsBerth digest index x.count oldest b → Ascends 0 (2 ^ 64 - 1) (told x ttl bs ++ seen x ttl b ∷ []) → IsRoster digest index x oldest ttl (bs ++ b ∷ [])
    roster_push bs b r is a = record {
      ascends = subst (Ascends 0 (2 ^ 64 - 1)) (sym (map-append (seen x ttl) bs (b ∷ []))) a;
      each = All-push (IsBerth digest index x.count oldest) bs b r.each is;
    }

    -- a session is changed in its place
    pub roster_set : (after : Indexed) (since place : ℕ) (bs : List (Berth (Session S))) (b c : Berth (Session S)) → IsRoster digest index x oldest ttl bs → Grows index after → since ≤ oldest → IsBerth digest after x.count since c →
        (seen x ttl c).number ≡ (seen x ttl b).number → place < length bs → b ≡ get_or bs place b → IsRoster digest after x since ttl (set bs place c)
    roster_set after since place bs b c r grows earlier is same w e = record {
      ascends = subst (Ascends 0 (2 ^ 64 - 1)) (sym (map-set (seen x ttl) bs place c)) (ascends_put 0 (2 ^ 64 - 1) place (told x ttl bs) (seen x ttl c) (seen x ttl b) (subst (λ n. place < n) (sym (length-map bs (seen x ttl))) w)
          (same ∙ ap (λ y. (seen x ttl y).number) e ∙ sym (ap (λ o. o.number) (get_or-map (seen x ttl) bs place b (seen x ttl b) w))) r.ascends);
      each = All-set (IsBerth digest after x.count since) bs place c is (All-weaker (IsBerth digest index x.count oldest) (IsBerth digest after x.count since) (λ y k. record {
        stamped = k.stamped;
        since = since_lower since oldest y.session.stand earlier k.since;
        listed = All-weaker (λ (f : Entry). Holds index (pair (digest (sharers_of y.session) f.key) y.session.number)) (λ f. Holds after (pair (digest (sharers_of y.session) f.key) y.session.number)) (λ f h. grows (pair (digest (sharers_of y.session) f.key) y.session.number) h) (sets_of y.session.stand) k.listed;
      }) bs r.each);
    }

    -- a session goes out
    pub lent_roster : (place : ℕ) (bs : List (Berth (Session S))) (b : Berth (Session S)) (spot : Address) → IsRoster digest index x oldest ttl bs → place < length bs → b ≡ get_or bs place b → IsRoster digest index x oldest ttl (set bs place (record { session = with_stand (Out spot) (seen x ttl b); stamp = x.count }))
    lent_roster place bs b spot r w e =
        roster_set index oldest place bs b (record { session = with_stand (Out spot) (seen x ttl b); stamp = x.count }) r (λ p h. h) (omega arith)
        (record { stamped = omega arith; since = tt; listed = All-nil (λ (f : Entry). Holds index (pair (digest (sharers_of (seen x ttl b)) f.key) (seen x ttl b).number)) })
        (ap (λ o. o.number) (left_now x ttl (with_stand (Out spot) (seen x ttl b)))) w e

    -- a session is put to rest, and its sets are found
    pub rested_roster : (after : Indexed) (since place : ℕ) (bs : List (Berth (Session S))) (b : Berth (Session S)) (parts : Parts S) → IsRoster digest index x oldest ttl bs → place < length bs → b ≡ get_or bs place b →
        Grows index after → AreListed (digest (sharers_of b.session)) after b.session.number parts.table.entries → IsRoster digest after x (min oldest since) ttl (set bs place (record { session = with_stand (Idle parts since) b.session; stamp = x.count }))
    rested_roster after since place bs b parts r w e grows listed =
        roster_set after (min oldest since) place bs b (record { session = with_stand (Idle parts since) b.session; stamp = x.count }) r grows (omega arith)
        (record { stamped = omega arith; since = omega arith; listed = listed })
        (ap (λ o. o.number) (rest_seen x ttl b parts since)) w e

    -- a session is out for another member
    pub moved_roster : (place : ℕ) (bs : List (Berth (Session S))) (b : Berth (Session S)) (member : ℕ) (to : Address) → IsRoster digest index x oldest ttl bs → place < length bs → b ≡ get_or bs place b → IsRoster digest index x oldest ttl (set bs place (record { session = at_member member to b.session; stamp = b.stamp }))
    moved_roster place bs b member to r w e =
        roster_set index oldest place bs b (record { session = at_member member to b.session; stamp = b.stamp }) r (λ p h. h) (omega arith)
        (record { stamped = subst (λ y. y.stamp ≤ x.count) (sym e) (r.each place b w).stamped; since = tt; listed = All-nil (λ (f : Entry). Holds index (pair (digest (sharers_of b.session) f.key) b.session.number)) })
        (ap (λ o. o.number) (moved_seen x ttl b member to)) w e

    -- a session is dialled
    pub dialled_roster : (bs : List (Berth (Session S))) (number class member : ℕ) (login : Option (List ℕ)) (spot : Address) → IsRoster digest index x oldest ttl bs → Ascends 0 (2 ^ 64 - 1) (told x ttl bs ++ out_session number class login member spot ∷ []) → IsRoster digest index x oldest ttl (bs ++ (record { session = out_session number class login member spot; stamp = x.count }) ∷ [])
    dialled_roster bs number class member login spot r a =
        roster_push bs (record { session = out_session number class login member spot; stamp = x.count }) r
        (record { stamped = omega arith; since = tt; listed = All-nil (λ (f : Entry). Holds index (pair (digest (class, login) f.key) number)) })
        (subst (λ o. Ascends 0 (2 ^ 64 - 1) (told x ttl bs ++ o ∷ [])) (sym (left_now x ttl (out_session number class login member spot))) a)

    pub relisted : (after : Indexed) (bs : List (Berth (Session S))) → IsRoster digest index x oldest ttl bs → All (IsListed digest after) bs → IsRoster digest after x oldest ttl bs
    relisted after bs r listed = record {
      ascends = r.ascends;
      each = λ k d w. record { stamped = (r.each k d w).stamped; since = (r.each k d w).since; listed = listed k d w };
    }

    -- an index that lacks some pairs promises none
    pub roster_lacking : (after : Indexed) (bs : List (Berth (Session S))) → after.whole ≡ false → IsRoster digest index x oldest ttl bs → IsRoster digest after x oldest ttl bs
    roster_lacking after bs lacks r = relisted after bs r (λ k d w i e h whole. let bad : true ≡ false = sym whole ∙ lacks in cc)

    -- an index that is filled with the pairs of all sets
    pub roster_filled : (after : Indexed) (ps : List Pair) (bs : List (Berth (Session S))) → IsPermutation ps after.pairs → All (λ b. AreGathered (digest (sharers_of b.session)) ps b.session.number (sets_of b.session.stand)) bs → IsRoster digest index x oldest ttl bs → IsRoster digest after x oldest ttl bs
    roster_filled after ps bs moved gathered r =
        relisted after bs r (λ k d w. All-weaker (λ (e : Entry). Contains ps (pair (digest (sharers_of (get_or bs k d).session) e.key) (get_or bs k d).session.number)) (λ e. Holds after (pair (digest (sharers_of (get_or bs k d).session) e.key) (get_or bs k d).session.number))
        (λ e there whole. Contains-permutation ps after.pairs (pair (digest (sharers_of (get_or bs k d).session) e.key) (get_or bs k d).session.number) moved there) (sets_of (get_or bs k d).session.stand) (gathered k d w))
