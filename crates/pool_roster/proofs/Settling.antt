-- Sessions that are left as they are told
use Rattle.std.proofs.Common.{◌≡◌, inl, inr, ℕ, suc, zero, ◌-◌, ◌<◌, ◌≤◌, nat_lt, true, false, cond, List, [], ◌∷◌, length, get_or, set, refl, sym, ◌∙◌, ap, subst, arith, All}
use Rattle.std.specs.List.{AllZip}
use Rattle.std.proofs.lemmas.List.{length-map, get_or-map}
use Rattle.std.proofs.lemmas.List.Elements.{All-filter, All-head, All-tail, All-nil, All-cons}
use Rattle.z_types.specs.declared.key.SetKey.{SetKey}
use Rattle.z_types.specs.declared.address.Address.{Address}
use Rattle.pool_sets.specs.declared.pooled.Parts.{Parts}
use Rattle.pool_sets.specs.declared.sessions.Stand.{Stand}
use Rattle.pool_sets.specs.declared.sessions.Stand.TheVariants.{Idle, Out}
use Rattle.pool_sets.specs.Table.{Entry, moment_of}
use Rattle.pool_sets.specs.Sessions.{Session}
use Rattle.pool_sets.specs.Plain.{without_old_sets, with_fresh_sets}
use Rattle.pool_keys.specs.Pairs.{Indexed, Holds, pair}
use Rattle.pool_roster.specs.declared.berth.Berth.{Berth}
use Rattle.pool_roster.specs.declared.berth.Expiries.{Expiries}
use Rattle.pool_keys.specs.Digests.{Sharers}
use Rattle.pool_roster.specs.Told.{sharers_of, seen, told, settled, StandSince, sets_of, AreListed, IsBerth}
use Rattle.pool_roster.specs.RosterView.{Rises, RiseIn, MaySettle}
use Rattle.pool_roster.proofs.Lazy.{settled_same, seen_number, seen_sharers}

le_by : (a b c : ℕ) → a ≤ b → b ≤ c → a ≤ c
le_by a b c h k = omega arith

no_place : (i : ℕ) → i < 0 → ⊥
no_place i h = omega arith

below_too : (i j n : ℕ) → i < j → j < n → i < n
below_too i j n h k = omega arith

module _ {S : Type 0} where
  -- an earlier moment
  pub since_lower : (a b : ℕ) (s : Stand (Parts S) Address) → a ≤ b → StandSince b s → StandSince a s
  since_lower a b (Idle parts since) h k = le_by a b since h k
  since_lower a b (Out address) h k = tt

  same_since : (oldest now ttl : ℕ) (s : Stand (Parts S) Address) → StandSince oldest s → StandSince oldest (without_old_sets now ttl s)
  same_since oldest now ttl (Idle parts since) h = h
  same_since oldest now ttl (Out address) h = h

  pub seen_since : (x : Expiries) (ttl oldest : ℕ) (b : Berth (Session S)) → StandSince oldest b.session.stand → StandSince oldest (seen x ttl b).stand
  seen_since x ttl oldest b h = (elim (nat_lt b.stamp x.count) as (λ t. StandSince oldest (cond t (with_fresh_sets x.last ttl b.session) b.session).stand) [
    | true ↦ same_since oldest x.last ttl b.session.stand h
    | false ↦ h
  ])

  same_listed : (digest : SetKey → ℕ) (index : Indexed) (number now ttl : ℕ) (s : Stand (Parts S) Address) → AreListed digest index number (sets_of s) → AreListed digest index number (sets_of (without_old_sets now ttl s))
  same_listed digest index number now ttl (Idle parts since) h = All-filter (λ (e : Entry). nat_lt (moment_of now parts.table - e.used) ttl) (λ e. Holds index (pair (digest e.key) number)) parts.table.entries h
  same_listed digest index number now ttl (Out address) h = h

  -- the sets that are told are among those that were left
  pub seen_listed : (digest : SetKey → ℕ) (index : Indexed) (number ttl : ℕ) (x : Expiries) (b : Berth (Session S)) → AreListed digest index number (sets_of b.session.stand) → AreListed digest index number (sets_of (seen x ttl b).stand)
  seen_listed digest index number ttl x b h = (elim (nat_lt b.stamp x.count) as (λ t. AreListed digest index number (sets_of (cond t (with_fresh_sets x.last ttl b.session) b.session).stand)) [
    | true ↦ same_listed digest index number x.last ttl b.session.stand h
    | false ↦ h
  ])

  -- and so are those of a session that is settled
  pub settled_listed : (digest : Sharers → SetKey → ℕ) (index : Indexed) (x : Expiries) (ttl : ℕ) (b : Berth (Session S)) →
      AreListed (digest (sharers_of b.session)) index b.session.number (sets_of b.session.stand) → AreListed (digest (sharers_of (seen x ttl b))) index (seen x ttl b).number (sets_of (seen x ttl b).stand)
  settled_listed digest index x ttl b l =
      subst (λ n. AreListed (digest (sharers_of (seen x ttl b))) index n (sets_of (seen x ttl b).stand)) (sym (seen_number x ttl b))
      (subst (λ m. AreListed (digest m) index b.session.number (sets_of (seen x ttl b).stand)) (sym (seen_sharers x ttl b)) (seen_listed (digest (sharers_of b.session)) index b.session.number ttl x b l))

  -- a session that is settled is one as before
  pub settled_berth : (digest : Sharers → SetKey → ℕ) (index : Indexed) (x : Expiries) (ttl stamp count oldest : ℕ) (b : Berth (Session S)) → stamp ≤ count → StandSince oldest b.session.stand → AreListed (digest (sharers_of b.session)) index b.session.number (sets_of b.session.stand) → IsBerth digest index count oldest (settled x ttl stamp b)
  settled_berth digest index x ttl stamp count oldest b h s l = record {
    stamped = h;
    since = seen_since x ttl oldest b s;
    listed = settled_listed digest index x ttl b l;
  }

  module _ (x : Expiries) (ttl : ℕ) where
    pub may_refl : (bs : List (Berth (Session S))) → AllZip (MaySettle x ttl) bs bs
    may_refl [] = tt
    may_refl (b ∷ bs) = (inl refl, may_refl bs)

    -- one is settled, at its place
    pub may_set : (bs : List (Berth (Session S))) (i : ℕ) (b : Berth (Session S)) → i < length bs → b ≡ get_or bs i b → AllZip (MaySettle x ttl) bs (set bs i (settled x ttl x.count b))
    may_set [] i b w e = absurd (no_place i w)
    may_set (c ∷ bs) zero b w e = (inr (ap (settled x ttl x.count) e), may_refl bs)
    may_set (c ∷ bs) (suc i) b w e = (inl refl, may_set bs i b (omega arith) e)

    again : (b : Berth (Session S)) → settled x ttl x.count (settled x ttl x.count b) ≡ settled x ttl x.count b
    again b = ap (λ o. (record { session = o; stamp = x.count })) (settled_same x ttl b)

    may_both : (b c e : Berth (Session S)) → MaySettle x ttl b c → MaySettle x ttl c e → MaySettle x ttl b e
    may_both b c e h (inl k) = subst (MaySettle x ttl b) (sym k) h
    may_both b c e (inl h) (inr k) = inr (k ∙ ap (settled x ttl x.count) h)
    may_both b c e (inr h) (inr k) = inr (k ∙ ap (settled x ttl x.count) h ∙ again b)

    pub may_then : (bs cs es : List (Berth (Session S))) → AllZip (MaySettle x ttl) bs cs → AllZip (MaySettle x ttl) cs es → AllZip (MaySettle x ttl) bs es
    may_then [] [] [] h k = tt
    may_then (b ∷ bs) (c ∷ cs) (e ∷ es) h k = (may_both b c e h.0 k.0, may_then bs cs es h.1 k.1)
    may_then [] [] (e ∷ es) h k = absurd k
    may_then [] (c ∷ cs) es h k = absurd h
    may_then (b ∷ bs) [] es h k = absurd h
    may_then (b ∷ bs) (c ∷ cs) [] h k = absurd k

    one_told : (b c : Berth (Session S)) → MaySettle x ttl b c → seen x ttl c ≡ seen x ttl b
    one_told b c (inl h) = ap (seen x ttl) h
    one_told b c (inr h) = ap (seen x ttl) h ∙ settled_same x ttl b

    -- they are told as before
    pub told_same : (bs cs : List (Berth (Session S))) → AllZip (MaySettle x ttl) bs cs → told x ttl cs ≡ told x ttl bs
    told_same [] [] h = refl
    told_same (b ∷ bs) (c ∷ cs) h = λ i. one_told b c h.0 i ∷ told_same bs cs h.1 i
    told_same [] (c ∷ cs) h = absurd h
    told_same (b ∷ bs) [] h = absurd h

    one_berth : (digest : Sharers → SetKey → ℕ) (index : Indexed) (oldest : ℕ) (b c : Berth (Session S)) → MaySettle x ttl b c → IsBerth digest index x.count oldest b → IsBerth digest index x.count oldest c
    one_berth digest index oldest b c (inl h) k = subst (IsBerth digest index x.count oldest) (sym h) k
    one_berth digest index oldest b c (inr h) k = subst (IsBerth digest index x.count oldest) (sym h) (settled_berth digest index x ttl x.count x.count oldest b (omega arith) k.since k.listed)

    -- and keep what they keep
    pub berths_same : (digest : Sharers → SetKey → ℕ) (index : Indexed) (oldest : ℕ) (bs cs : List (Berth (Session S))) → AllZip (MaySettle x ttl) bs cs → All (IsBerth digest index x.count oldest) bs → All (IsBerth digest index x.count oldest) cs
    berths_same digest index oldest [] [] h k = All-nil (IsBerth digest index x.count oldest)
    berths_same digest index oldest (b ∷ bs) (c ∷ cs) h k =
        All-cons (IsBerth digest index x.count oldest) c cs (one_berth digest index oldest b c h.0 (All-head (IsBerth digest index x.count oldest) b bs k)) (berths_same digest index oldest bs cs h.1 (All-tail (IsBerth digest index x.count oldest) b bs k))
    berths_same digest index oldest [] (c ∷ cs) h k = absurd h
    berths_same digest index oldest (b ∷ bs) [] h k = absurd h

    number_is : (bs : List (Berth (Session S))) (i : ℕ) (d : Berth (Session S)) → i < length bs → (get_or (told x ttl bs) i (seen x ttl d)).number ≡ (get_or bs i d).session.number
    number_is bs i d w = ap (λ o. o.number) (get_or-map (seen x ttl) bs i d (seen x ttl d) w) ∙ seen_number x ttl (get_or bs i d)

    -- their numbers rise as those that are told
    pub rises : (bs : List (Berth (Session S))) → RiseIn (told x ttl bs) → Rises bs
    rises bs up i j d h w =
        let long = length-map bs (seen x ttl) in
        let less = up.order i j (seen x ttl d) h (subst (λ n. j < n) (sym long) w) in
        subst (λ n. n < (get_or bs j d).session.number) (number_is bs i d (below_too i j (length bs) h w)) (subst (λ n. (get_or (told x ttl bs) i (seen x ttl d)).number < n) (number_is bs j d w) less)
