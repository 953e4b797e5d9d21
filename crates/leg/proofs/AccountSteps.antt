-- How an account goes on
use Rattle.std.proofs.Common.{◌≡◌, ◌≤◌, ◌+◌, ◌&&◌, ℕ, Bool, true, false, not, max, nat_le, Option, refl, subst, sym, arith}
use Rattle.std.proofs.lemmas.Bool.{leb-true}
use Rattle.z_types.specs.declared.key.SetKey.{SetKey}
use Rattle.gw_outside.specs.Sessions.{heard_counted}
use Rattle.gw_outside.specs.declared.backends.Heard.{Heard}
use Rattle.gw_outside.specs.declared.backends.Heard.TheVariants as look
use Rattle.route_config.specs.declared.route.PoolNumbers.{PoolNumbers}
use Rattle.route_config.specs.Sound.{ArePoolNumbers}
use Rattle.leg.specs.declared.accounts.Account.{Account}
use Rattle.leg.specs.declared.accounts.Rises.{Rises}
use Rattle.leg.specs.declared.phases.Phase.{Phase}
use Rattle.leg.specs.declared.phases.Phase.TheVariants.{Begin, Dialling, Dialled, Ready, Searching, Presenting, Fetching, Scanning, Returning, Losing, Redialling, Spoiled, Done, Ended}
use Rattle.leg.specs.Accounts.{more, counted, no_rises, AccountFits}
use Rattle.pool_sets.specs.Counts.{DoorCounts}
use Rattle.leg.specs.Deeds.{Deed, took, opened, began, heard, put_back, gave_up, redialled, no_memory, nothing, looks_then, door_counts}
use Rattle.leg.specs.Kept.{Ahead, AccountKept, IsWithin, IsFirst, ahead_of, ahead_with, nothing_ahead, one_if, may_wait}
use Rattle.leg.specs.Phases.{looks_of}
use Rattle.leg.specs.steps.Follows.{IsSmall}

-- ---- what may still be counted is enough for what is counted

abbrev is_enough : (h n : Ahead) → (r : Rises) → Bool
is_enough h n r =
    nat_le (n.searches + one_if r.searches) (h.searches + one_if r.booked + one_if r.gones + one_if r.faults)
    && (nat_le (one_if r.opens + h.unused) (one_if r.dials + one_if r.faults + n.unused)
    && (nat_le (one_if r.dials + n.dials) (one_if r.opens + h.dials)
    && (nat_le (one_if r.opens + n.opens) h.opens
    && (nat_le (one_if r.faults + n.faults) h.faults
    && (nat_le (n.takes + one_if r.fulls) h.takes
    && nat_le (n.takes + one_if r.booked) h.takes)))))

-- the same as inequalities
record Enough (h n : Ahead) (r : Rises) : Type 0 where
  searches : n.searches + one_if r.searches ≤ h.searches + one_if r.booked + one_if r.gones + one_if r.faults
  opens : one_if r.opens + h.unused ≤ one_if r.dials + one_if r.faults + n.unused
  dials : one_if r.dials + n.dials ≤ one_if r.opens + h.dials
  one_open : one_if r.opens + n.opens ≤ h.opens
  two_faults : one_if r.faults + n.faults ≤ h.faults
  one_full : n.takes + one_if r.fulls ≤ h.takes
  one_booked : n.takes + one_if r.booked ≤ h.takes

first_of : (a b : Bool) → (a && b) ≡ true → a ≡ true
first_of true b h = refl
first_of false b h = h

rest_of : (a b : Bool) → (a && b) ≡ true → b ≡ true
rest_of true b h = h
rest_of false b h = cc

enough : (h n : Ahead) (r : Rises) → is_enough h n r ≡ true → Enough h n r
enough h n r e =
    let e1 = rest_of _ _ e in
    let e2 = rest_of _ _ e1 in
    let e3 = rest_of _ _ e2 in
    let e4 = rest_of _ _ e3 in
    let e5 = rest_of _ _ e4 in
    record {
      searches = leb-true _ _ (first_of _ _ e);
      opens = leb-true _ _ (first_of _ _ e1);
      dials = leb-true _ _ (first_of _ _ e2);
      one_open = leb-true _ _ (first_of _ _ e3);
      two_faults = leb-true _ _ (first_of _ _ e4);
      one_full = leb-true _ _ (first_of _ _ e5);
      one_booked = leb-true _ _ (rest_of _ _ e5);
    }

-- one more is so many
more_is : (b : Bool) (n : ℕ) → more b n ≡ n + one_if b
more_is true n = refl
more_is false n = omega arith

spends : (f g : Bool) (s n : ℕ) → s ≤ n → more (f && g) s ≤ n + one_if f
spends true true s n h = omega arith
spends true false s n h = omega arith
spends false g s n h = omega arith

-- what an account keeps, after a turn
pub account_goes : (h n : Ahead) (l m class : ℕ) (r : Rises) (given : Bool) (looks : ℕ) (a b : Account)
    → b ≡ counted class r given looks a → is_enough h n r ≡ true → m ≤ looks → AccountKept h l a → AccountKept n m b
account_goes h n l m class r given looks a b e c d k =
    let s = enough h n r c in
    subst (AccountKept n m) (sym e) (record {
      searches = rw (more_is r.searches a.searches, more_is r.booked a.booked, more_is r.gones a.gones, more_is r.faults a.faults) (let x = s.searches in let y = k.searches in omega arith);
      opens = rw (more_is r.opens a.opens, more_is r.dials a.dials, more_is r.faults a.faults) (let x = s.opens in let y = k.opens in omega arith);
      dials = rw (more_is r.dials a.dials, more_is r.opens a.opens) (let x = s.dials in let y = k.dials in omega arith);
      one_open = rw (more_is r.opens a.opens) (let x = s.one_open in let y = k.one_open in omega arith);
      two_faults = rw (more_is r.faults a.faults) (let x = s.two_faults in let y = k.two_faults in omega arith);
      spent = rw (more_is r.faults a.faults) (spends r.faults (not given) a.spent a.faults k.spent);
      one_full = rw (more_is r.fulls a.fulls) (let x = s.one_full in let y = k.one_full in omega arith);
      one_booked = rw (more_is r.booked a.booked) (let x = s.one_booked in let y = k.one_booked in omega arith);
      most_looks = (let x = d in omega arith);
    })

-- ---- enough in each step

-- with a session as before, with one that has replied, and where no search may follow
pub on_enough : (w given : Bool) → is_enough (ahead_with (one_if w) given) (ahead_with (one_if w) given) no_rises ≡ true
on_enough true true = refl
on_enough true false = refl
on_enough false true = refl
on_enough false false = refl

pub reply_enough : (w given : Bool) → is_enough (ahead_with (one_if w) given) (ahead_with (one_if w) false) no_rises ≡ true
reply_enough true true = refl
reply_enough true false = refl
reply_enough false true = refl
reply_enough false false = refl

pub scan_enough : (w given : Bool) → is_enough (ahead_with (one_if w) given) (ahead_with 0 given) no_rises ≡ true
scan_enough true true = refl
scan_enough true false = refl
scan_enough false true = refl
scan_enough false false = refl

-- a search that is wanted
abbrev pub search : Rises
search = record no_rises { searches = true }

pub search_enough : (given : Bool) → is_enough (ahead_with 1 given) (ahead_with 0 given) search ≡ true
search_enough true = refl
search_enough false = refl

-- a Gone
abbrev pub gone : Rises
gone = record no_rises { gones = true }

pub gone_enough : (w given : Bool) → is_enough (ahead_with 0 given) (ahead_with (one_if w) false) gone ≡ true
gone_enough true true = refl
gone_enough true false = refl
gone_enough false true = refl
gone_enough false false = refl

pub last_gone_enough : (given : Bool) → is_enough (ahead_with 0 given) nothing_ahead gone ≡ true
last_gone_enough true = refl
last_gone_enough false = refl

-- a fault
abbrev pub fault : Rises
fault = record no_rises { faults = true }

abbrev pub ahead_redial : Bool → Ahead
ahead_redial w = record nothing_ahead { searches = one_if w; faults = 1; opens = 1 }

pub redial_enough : (v w : Bool) → is_enough (ahead_with (one_if v) true) (ahead_redial w) fault ≡ true
redial_enough true true = refl
redial_enough true false = refl
redial_enough false true = refl
redial_enough false false = refl

pub fault_enough : (w : Bool) → is_enough (ahead_with (one_if w) false) nothing_ahead fault ≡ true
fault_enough true = refl
fault_enough false = refl

-- the end, and the end for want of memory
abbrev pub ahead_spoiled : Ahead
ahead_spoiled = record nothing_ahead { unused = 1 }

pub end_enough : (w given : Bool) → is_enough (ahead_with (one_if w) given) nothing_ahead no_rises ≡ true
end_enough true true = refl
end_enough true false = refl
end_enough false true = refl
end_enough false false = refl

pub spoil_enough : (w given : Bool) → is_enough (ahead_with (one_if w) given) ahead_spoiled no_rises ≡ true
spoil_enough true true = refl
spoil_enough true false = refl
spoil_enough false true = refl
spoil_enough false false = refl

-- what is dialled
abbrev pub ahead_dial : Bool → Ahead
ahead_dial w = record nothing_ahead { searches = one_if w; unused = 1; dials = 1; faults = 1 }

pub dialled_enough : (w : Bool) → is_enough (ahead_dial w) (ahead_with (one_if w) false) (record no_rises { dials = true }) ≡ true
dialled_enough true = refl
dialled_enough false = refl

pub undialled_enough : (w linked : Bool) → is_enough (ahead_dial w) nothing_ahead (record no_rises { dials = linked; faults = true }) ≡ true
undialled_enough true true = refl
undialled_enough true false = refl
undialled_enough false true = refl
undialled_enough false false = refl

pub dial_spoil_enough : (w : Bool) → is_enough (ahead_dial w) ahead_spoiled no_rises ≡ true
dial_spoil_enough true = refl
dial_spoil_enough false = refl

pub redialled_enough : (w : Bool) → is_enough (ahead_redial w) (ahead_dial w) (record no_rises { opens = true }) ≡ true
redialled_enough true = refl
redialled_enough false = refl

-- what is taken
abbrev pub ahead_first : Ahead
ahead_first = record nothing_ahead { faults = 2; opens = 1; takes = 1 }

pub fresh_enough : (w : Bool) → is_enough ahead_first (ahead_with (one_if w) true) (record no_rises { booked = w }) ≡ true
fresh_enough true = refl
fresh_enough false = refl

pub dial_enough : (w : Bool) → is_enough ahead_first (ahead_dial w) (record no_rises { opens = true; booked = w }) ≡ true
dial_enough true = refl
dial_enough false = refl

-- ---- bounds

one_unused : {S : Type 0} (want : Option SetKey) (phase : Phase S) → (ahead_of want phase).unused ≤ 1
one_unused want Begin = omega arith
one_unused want (Dialling seat member) = omega arith
one_unused want (Dialled held looks) = omega arith
one_unused want (Ready held items) = omega arith
one_unused want (Searching held items slot looks) = omega arith
one_unused want (Presenting held items slot hits) = omega arith
one_unused want (Fetching held items slot hits looks) = omega arith
one_unused want (Scanning held looks) = omega arith
one_unused want (Returning held answer) = omega arith
one_unused want (Losing seat answer) = omega arith
one_unused want (Redialling seat) = omega arith
one_unused want (Spoiled seat) = omega arith
one_unused want (Done answer) = omega arith
one_unused want Ended = omega arith

-- what is kept of a leg that is given up
pub ended_from : (h : Ahead) (l : ℕ) (a : Account) → h.unused ≤ 1 → AccountKept h l a → AccountKept ahead_spoiled 0 a
ended_from h l a u k = record {
  searches = (let x = k.searches in omega arith);
  opens = (let x = k.opens in omega arith);
  dials = (let x = k.dials in omega arith);
  one_open = (let x = k.one_open in omega arith);
  two_faults = (let x = k.two_faults in omega arith);
  spent = k.spent;
  one_full = (let x = k.one_full in omega arith);
  one_booked = (let x = k.one_booked in omega arith);
  most_looks = omega arith;
}

pub given_up_from : {S : Type 0} (want : Option SetKey) (phase : Phase S) (a : Account) → AccountKept (ahead_of want phase) (looks_of phase) a → AccountKept ahead_spoiled 0 a
given_up_from want phase a k = ended_from (ahead_of want phase) (looks_of phase) a (one_unused want phase) k

-- what every account keeps
spoiled_fits : (a : Account) → AccountKept ahead_spoiled 0 a → AccountFits a
spoiled_fits a k = record {
  searches = (let x = k.searches in omega arith);
  opens = k.opens;
  dials = (let x = k.dials in omega arith);
  one_open = (let x = k.one_open in omega arith);
  two_faults = (let x = k.two_faults in omega arith);
  spent = k.spent;
  one_full = (let x = k.one_full in omega arith);
  one_booked = (let x = k.one_booked in omega arith);
}

pub account_fits : {S : Type 0} (want : Option SetKey) (phase : Phase S) (a : Account) → AccountKept (ahead_of want phase) (looks_of phase) a → AccountFits a
account_fits want phase a k = spoiled_fits a (given_up_from want phase a k)

one_wait : {S : Type 0} (phase : Phase S) → may_wait phase ≤ 1
one_wait Begin = omega arith
one_wait (Dialling seat member) = omega arith
one_wait (Dialled held looks) = omega arith
one_wait (Ready held items) = omega arith
one_wait (Searching held items slot looks) = omega arith
one_wait (Presenting held items slot hits) = omega arith
one_wait (Fetching held items slot hits looks) = omega arith
one_wait (Scanning held looks) = omega arith
one_wait (Returning held answer) = omega arith
one_wait (Losing seat answer) = omega arith
one_wait (Redialling seat) = omega arith
one_wait (Spoiled seat) = omega arith
one_wait (Done answer) = omega arith
one_wait Ended = omega arith

-- each count may be one more
pub may_count : {S : Type 0} (want : Option SetKey) (pool : PoolNumbers) (phase : Phase S) (a : Account) → ArePoolNumbers pool
    → AccountKept (ahead_of want phase) (looks_of phase) a → IsWithin pool phase a → IsSmall a
may_count want pool phase a p k w =
    let fits = account_fits want phase a k in
    let searches = fits.searches in
    let dials = fits.dials in
    let opens = fits.one_open in
    let faults = fits.two_faults in
    let spent = fits.spent in
    let fulls = fits.one_full in
    let booked = fits.one_booked in
    let gones = w.gones in
    let looks = w.looks in
    let repeats = p.repeats.1 in
    let patience = p.patience.1 in
    record {
      dials = omega arith;
      searches = omega arith;
      gones = omega arith;
      faults = omega arith;
      spent = omega arith;
      fulls = omega arith;
      booked = omega arith;
      opens = omega arith;
      looks = omega arith;
    }

-- ---- Gones and looks

module _ {S : Type 0} (pool : PoolNumbers) where
  still_within : (new : Phase S) (m n : ℕ) → m + 1 ≤ n → m + may_wait new ≤ n
  still_within new m n h = let x = one_wait new in omega arith

  -- a turn of a leg that may wait, which meets no Gone and whose looks in vain were known
  pub within_on : (old new : Phase S) (class : ℕ) (r : Rises) (given : Bool) (looks : ℕ) (a b : Account) → b ≡ counted class r given looks a
      → r.gones ≡ false → may_wait old ≡ 1 → looks ≤ a.looks → IsWithin pool old a → IsWithin pool new b
  within_on old new class r given looks a b e g l m k =
      subst (IsWithin pool new) (sym e) (record {
        gones = rw g (let x = rw l at k.gones in still_within new a.gones (pool.repeats + 1) x);
        looks = (let x = rw l at k.looks in still_within new (max a.looks looks) pool.patience (omega arith));
      })

  -- a look in vain
  pub within_wait : (old new : Phase S) (class : ℕ) (r : Rises) (given : Bool) (looks : ℕ) (a b : Account) → b ≡ counted class r given (looks + 1) a
      → r.gones ≡ false → may_wait old ≡ 1 → looks ≤ a.looks → looks + 1 + may_wait new ≤ pool.patience → IsWithin pool old a → IsWithin pool new b
  within_wait old new class r given looks a b e g l m p k =
      subst (IsWithin pool new) (sym e) (record {
        gones = rw g (let x = rw l at k.gones in still_within new a.gones (pool.repeats + 1) x);
        looks = (let x = rw l at k.looks in let y = one_wait new in omega arith);
      })

  -- a Gone
  pub within_gone : (old new : Phase S) (class : ℕ) (given : Bool) (a b : Account) → b ≡ counted class gone given 0 a
      → may_wait old ≡ 1 → b.gones + may_wait new ≤ pool.repeats + 1 → IsWithin pool old a → IsWithin pool new b
  within_gone old new class given a b e l h k = record {
    gones = h;
    looks = subst (λ (x : Account). x.looks + may_wait new ≤ pool.patience) (sym e)
        (let x = rw l at k.looks in still_within new (max a.looks 0) pool.patience (omega arith));
  }

  -- the first turn
  pub within_first : (new : Phase S) (class : ℕ) (r : Rises) (given : Bool) (a b : Account) → b ≡ counted class r given 0 a
      → r.gones ≡ false → ArePoolNumbers pool → IsFirst a → IsWithin pool new b
  within_first new class r given a b e g p f =
      subst (IsWithin pool new) (sym e) (record {
        gones = rw g (let x = f.gones in still_within new a.gones (pool.repeats + 1) (omega arith));
        looks = (let x = f.looks in let y = p.patience.0 in still_within new (max a.looks 0) pool.patience (omega arith));
      })

  -- a turn of a leg that does not wait
  pub within_still : (old new : Phase S) (class : ℕ) (r : Rises) (given : Bool) (a b : Account) → b ≡ counted class r given 0 a
      → r.gones ≡ false → may_wait new ≡ 0 → IsWithin pool old a → IsWithin pool new b
  within_still old new class r given a b e g l k =
      subst (IsWithin pool new) (sym e) (record {
        gones = rw (g, l) (let x = k.gones in omega arith);
        looks = rw l (let x = k.looks in omega arith);
      })

-- the looks grow by no more than what was heard in vain
pub looks_grow : (class : ℕ) (r : Rises) (given : Bool) (looks : ℕ) (reply : Heard) (a b : Account) → b ≡ counted class r given (looks_then looks reply) a
    → looks ≤ a.looks → b.looks ≤ more ((heard_counted reply).wait) a.looks
looks_grow class r given looks look.NotYet a b e h = subst (λ (x : Account). x.looks ≤ a.looks + 1) (sym e) (omega arith)
looks_grow class r given looks look.Opened a b e h = subst (λ (x : Account). x.looks ≤ a.looks) (sym e) (omega arith)
looks_grow class r given looks (look.Hits hits) a b e h = subst (λ (x : Account). x.looks ≤ a.looks) (sym e) (omega arith)
looks_grow class r given looks (look.Refused diag) a b e h = subst (λ (x : Account). x.looks ≤ a.looks) (sym e) (omega arith)
looks_grow class r given looks (look.Items items) a b e h = subst (λ (x : Account). x.looks ≤ a.looks) (sym e) (omega arith)
looks_grow class r given looks look.Gone a b e h = subst (λ (x : Account). x.looks ≤ a.looks) (sym e) (omega arith)
looks_grow class r given looks (look.Scanned entries) a b e h = subst (λ (x : Account). x.looks ≤ a.looks) (sym e) (omega arith)
looks_grow class r given looks look.Failed a b e h = subst (λ (x : Account). x.looks ≤ a.looks) (sym e) (omega arith)
looks_grow class r given looks look.Memory a b e h = subst (λ (x : Account). x.looks ≤ a.looks) (sym e) (omega arith)

pub looks_stay : (class : ℕ) (r : Rises) (given : Bool) (a b : Account) → b ≡ counted class r given 0 a → b.looks ≤ a.looks
looks_stay class r given a b e = subst (λ (x : Account). x.looks ≤ a.looks) (sym e) (omega arith)

-- a first turn without memory, and one that finds the door full
pub first_again : (class : ℕ) (a b : Account) → b ≡ counted class no_rises false 0 a → IsFirst a → IsFirst b
first_again class a b e f = subst IsFirst (sym e) (record { gones = f.gones; looks = (let x = f.looks in omega arith) })

pub full_once : (class : ℕ) (r : Rises) (a b : Account) → b ≡ counted class (record r { fulls = true }) false 0 a → 1 ≤ b.fulls
full_once class r a b e = subst (λ (x : Account). 1 ≤ x.fulls) (sym e) (omega arith)

-- how many sessions a door opens at most never changes
pub most_stays : {S : Type 0} (want : Option SetKey) (deed : Deed S) (counts : DoorCounts) → (door_counts want deed counts).most ≡ counts.most
most_stays want (took taken) counts = refl
most_stays want (opened made) counts = refl
most_stays want (began ask answer session) counts = refl
most_stays want (heard reply session) counts = refl
most_stays want put_back counts = refl
most_stays want gave_up counts = refl
most_stays want (redialled member) counts = refl
most_stays want no_memory counts = refl
most_stays want nothing counts = refl
