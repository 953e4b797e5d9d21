-- Legs that are given up, one leg more
use Rattle.std.proofs.Common.{◌≡◌, ◌∙◌, ◌<◌, ◌+◌, ℕ, List, [], ◌∷◌, ◌++◌, length, map, take, get_or, set, Option, None, Some, ap, sym, refl, option_map}
use Rattle.std.proofs.lemmas.List.{map-append, take_more_set}
use Rattle.pool_sets.specs.Plain as plain
use Rattle.leg.specs.LegView.{LegView}
use Rattle.leg.specs.Phases.{given_up, seat_of}
use Rattle.leg.specs.Turns.{lost_seat}
use Rattle.leg.specs.declared.accounts.Account.{Account}
use Rattle.package_rules.proofs.Taken.{take_next}
use Rattle.package.specs.steps.Ends.{gave_up, lost_seats}
use Rattle.package.specs.steps.Packages.{accounts_of}

module _ {S : Type 0} where
  -- the sessions of legs behind others
  pub seats_behind : (front legs : List (LegView S)) (pool : plain.Pool S)
      → lost_seats (front ++ legs) pool ≡ lost_seats legs (lost_seats front pool)
  seats_behind [] legs pool = refl
  seats_behind (leg ∷ front) legs pool = seats_behind front legs (lost_seat (seat_of leg.phase) pool)

  told_behind : (front legs : List (LegView S)) (pool : Option (plain.Pool S))
      → option_map (lost_seats legs) (option_map (lost_seats front) pool) ≡ option_map (lost_seats (front ++ legs)) pool
  told_behind front legs None = refl
  told_behind front legs (Some pool) = ap Some (sym (seats_behind front legs pool))

  -- those of all legs, in two parts
  pub seats_parts : (front legs : List (LegView S)) (old between after : Option (plain.Pool S))
      → between ≡ option_map (lost_seats front) old → after ≡ option_map (lost_seats legs) between
      → after ≡ option_map (lost_seats (front ++ legs)) old
  seats_parts front legs old between after one other = other ∙ ap (option_map (lost_seats legs)) one ∙ told_behind front legs old

  -- and of one leg more
  pub seats_more : (legs : List (LegView S)) (i : ℕ) (d leg : LegView S) (old between after : Option (plain.Pool S)) → i < length legs
      → get_or legs i d ≡ leg → between ≡ option_map (lost_seats (take i legs)) old
      → after ≡ option_map (lost_seat (seat_of leg.phase)) between → after ≡ option_map (lost_seats (take (i + 1) legs)) old
  seats_more legs i d leg old between after inside is so_far one =
      seats_parts (take i legs) (leg ∷ []) old between after so_far one
      ∙ ap (λ (ls : List (LegView S)). option_map (lost_seats ls) old) (sym (take_next legs i d leg inside is))

  -- nothing of no leg
  pub no_seats : (pool : Option (plain.Pool S)) → pool ≡ option_map (lost_seats []) pool
  no_seats None = refl
  no_seats (Some pool) = refl

  -- a leg that was given up
  pub given_is : (old new : LegView S) → new.phase ≡ given_up old.phase → new.task ≡ old.task → new.leg ≡ old.leg
      → new.login ≡ old.login → new.account ≡ old.account → new ≡ gave_up old
  given_is old new phase task leg login account = λ i. record {
    leg = leg i;
    login = login i;
    task = task i;
    phase = phase i;
    account = account i;
  }

  pub given_more : (before items : List (LegView S)) (i : ℕ) (d old new : LegView S) → i < length before → i < length items
      → get_or before i d ≡ old → new ≡ gave_up old → take i items ≡ map gave_up (take i before)
      → take (i + 1) (set items i new) ≡ map gave_up (take (i + 1) before)
  given_more before items i d old new inside there is given so_far =
      take_more_set items i new there ∙ ap (λ (ls : List (LegView S)). ls ++ new ∷ []) so_far
      ∙ ap (λ (l : LegView S). map gave_up (take i before) ++ l ∷ []) given
      ∙ sym (map-append gave_up (take i before) (old ∷ [])) ∙ ap (map gave_up) (sym (take_next before i d old inside is))

  -- their accounts stay
  pub accounts_stay : (legs : List (LegView S)) → accounts_of (map gave_up legs) ≡ accounts_of legs
  accounts_stay [] = refl
  accounts_stay (leg ∷ legs) = ap (λ (accounts : List Account). leg.account ∷ accounts) (accounts_stay legs)
