-- What a take gives of a pool that an orderly script has used: a dial exactly where one is needed, and the
-- set that is wanted exactly where no search is
use Rattle.std.proofs.Common.{◌≡◌, ◌==◌, ◌∙◌, ◌-◌, ℕ, Bool, true, false, cond, List, [], ◌∷◌, Option, None, Some, refl, subst, nat_lt, arith}
use Rattle.std.specs.Option.{option_map, option_or}
use Rattle.std.proofs.lemmas.Bool.Decides.{leb_tells}
use Rattle.z_types.specs.Logins.{inner, login_of, same_login}
use Rattle.z_types.specs.declared.address.Address.{Address}
use Rattle.z_types.specs.declared.key.SetKey.{SetKey}
use Rattle.z_types.specs.equality.Tests.{both_true}
use Rattle.pool_sets.specs.declared.pooled.Parts.{Parts}
use Rattle.pool_sets.specs.declared.sessions.Stand.TheVariants.{Idle}
use Rattle.pool_sets.specs.declared.doors.Taken.{Taken}
use Rattle.pool_sets.specs.declared.doors.Taken.TheVariants.{Fresh, Dial, Memory}
use Rattle.pool_sets.specs.Table.{Entry, set_of}
use Rattle.pool_sets.specs.Sessions.{Session, Idler, idle_for, is_among, member_for, open_of}
use Rattle.pool_sets.specs.Plain.{Pool, take_any, choice, has_number, one_idle, dial_for, lend_of, seat_of}
use Rattle.sharing_rules.specs.Needed.{is_late}
use Rattle.sharing_rules.specs.Sharers.{Sharers}
use Rattle.sharing_rules.specs.steps.Shared.{is_of, shared_by}
use Rattle.sharing_rules.proofs.PoolUses.{first_of_theirs, first_with}
use Rattle.sharing_rules.proofs.SharerFacts.{login_equiv}

pub not_late : (ttl now since : ℕ) → nat_lt (now - since) ttl ≡ true → is_late ttl now (Some since) ≡ false
not_late ttl now since h = grind (arith, leb_tells)

pub too_late : (ttl now since : ℕ) → nat_lt (now - since) ttl ≡ false → is_late ttl now (Some since) ≡ true
too_late ttl now since h = grind (arith, leb_tells)

-- a session of some sharers is theirs
pub is_theirs : {S : Type 0} (who : Sharers) (os : List (Session S)) (o : Session S) (ps : List (Session S)) → shared_by who os ≡ o ∷ ps → is_of who o ≡ true
is_theirs who [] o ps h = cc
is_theirs who (p ∷ os) o ps h = (elim (is_of who p) as (λ b. is_of who p ≡ b → is_of who o ≡ true) [
  | true ↦ λ k. let h' = rw k at h in let same : p ≡ o = cc in subst (λ z. is_of who z ≡ true) same k
  | false ↦ λ k. is_theirs who os o ps (rw k at h)
]) refl

-- a dial, or want of a number for one
abbrev pub asks_dial : {S : Type 0} → Taken S → Bool
asks_dial (Dial seat member) = true
asks_dial Memory = true
asks_dial other = false

module _ {S : Type 0} (who : Sharers) (at : List Address) (now : ℕ) (q : Pool S) where
  -- one is dialled where a number is left
  abbrev pub dials_one : Taken S × Pool S
  dials_one = cond (has_number q) (dial_for who.class at who.login (member_for who.class at q.sessions) q) (Memory, q)

  any_dials : shared_by who q.sessions ≡ [] → nat_lt (open_of who.class at q.sessions) q.max_sessions ≡ true → take_any who.class at who.login q ≡ dials_one
  any_dials e some = rw (first_of_theirs who at q.sessions, e, some) refl

  -- none of theirs is open, and there is room for one: it is dialled
  pub take_dials : (want : Option SetKey) → shared_by who q.sessions ≡ [] → nat_lt (open_of who.class at q.sessions) q.max_sessions ≡ true
      → choice who.class at who.login want now q ≡ dials_one
  take_dials None e some = any_dials e some
  take_dials (Some key) e some = rw (first_with who at key q.sessions, e) (any_dials e some)

  -- their one session, as it is lent
  abbrev pub one_of : Session S → Parts S → Idler S
  one_of o parts = record { number = o.number; parts = parts }

  is_idle_one : (o : Session S) (parts : Parts S) (since : ℕ) → is_of who o ≡ true → o.stand ≡ Idle parts since → is_among at (inner parts.address) ≡ true
      → same_login who.login (login_of parts.address) ≡ true → idle_for who.class at who.login o ≡ Some (one_of o parts)
  is_idle_one o parts since h s a i =
      let both = both_true (o.class == who.class) (same_login o.login who.login) h in
      let own : same_login who.login o.login ≡ true = login_equiv.symm who.login o.login ∙ both.1 in
      rw (both.0, own, s, a, i) refl

  pub any_lends : (o : Session S) (parts : Parts S) (since : ℕ) → shared_by who q.sessions ≡ o ∷ [] → o.stand ≡ Idle parts since → is_among at (inner parts.address) ≡ true
      → same_login who.login (login_of parts.address) ≡ true
      → take_any who.class at who.login q ≡ (Fresh (seat_of who.class (one_of o parts)) parts, lend_of (one_of o parts) q)
  any_lends o parts since e s a i =
      rw (first_of_theirs who at q.sessions, e, is_idle_one o parts since (is_theirs who q.sessions o [] e) s a i) refl

  -- what is given of the one session, by what its table holds
  abbrev pub given_by : SetKey → Session S → Parts S → Option Entry → Taken S × Pool S
  given_by key o parts r = one_idle who.class at who.login key now q (option_or (option_map (λ e. (one_of o parts, e)) r) None)

  -- a set is wanted of it
  pub choice_is : (key : SetKey) (o : Session S) (parts : Parts S) (since : ℕ) → shared_by who q.sessions ≡ o ∷ [] → o.stand ≡ Idle parts since → is_among at (inner parts.address) ≡ true
      → same_login who.login (login_of parts.address) ≡ true
      → choice who.class at who.login (Some key) now q ≡ given_by key o parts (set_of key parts.table)
  choice_is key o parts since e s a i =
      rw (first_with who at key q.sessions, e, is_idle_one o parts since (is_theirs who q.sessions o [] e) s a i) refl
