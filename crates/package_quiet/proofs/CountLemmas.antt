-- What is counted of a deed that goes well: no fault, no look in vain and no set that is gone
use Rattle.std.proofs.Common.{◌≡◌, ◌∙◌, ◌&&◌, ℕ, ◌-◌, ◌^◌, ◌<◌, ◌≤◌, Bool, true, false, not, inl, inr, Option, refl, sym, ap, subst, arith}
use Rattle.z_types.specs.Counts.{one_more}
use Rattle.z_types.specs.declared.key.SetKey.{SetKey}
use Rattle.z_types.specs.declared.sitting.Sitting as sitting
use Rattle.z_types.specs.declared.world.World as world
use Rattle.gw_outside.specs.Counts.{BackendCounts, Counted, Counts}
use Rattle.gw_outside.specs.Happened.{AreQuiet, Happened}
use Rattle.gw_outside.specs.Sessions.{OpenCounts, heard_counted, open_counted, start_counted}
use Rattle.gw_outside.specs.declared.backends.Began.TheVariants as start
use Rattle.gw_outside.specs.declared.backends.Heard.TheVariants as look
use Rattle.gw_outside.specs.declared.backends.Opening.{Opening}
use Rattle.gw_outside.specs.declared.backends.Opening.TheVariants as opening
use Rattle.gw_outside.proofs.QuietLemmas.{less_stays, same_stays}
use Rattle.package.specs.leg.Accounts.{counted, more}
use Rattle.package.specs.leg.Deeds.{CountsMove, Deed, HappensThen, took, opened, began, heard, put_back, gave_up, redialled, no_memory, nothing, rises_of, waits}
use Rattle.package.specs.leg.Rules.{always, lack_of}
use Rattle.package.specs.leg.declared.accounts.Account.{Account}
use Rattle.package_quiet.specs.steps.Bearing.{DialsGoOn}
use Rattle.package_quiet.specs.steps.Quiet.{CountsStay, HasNoCause}

-- no call fails, no look is in vain, and no set is gone
abbrev pub IsWell : {S : Type 0} → Deed S → Type 0
IsWell (opened (opening.Failed linked)) = ⊥
IsWell (began ask start.Failed session) = ⊥
IsWell (heard look.NotYet session) = ⊥
IsWell (heard look.Gone session) = ⊥
IsWell (heard look.Failed session) = ⊥
IsWell deed = Unit {0}

-- ---- links that were made

-- a link was got
abbrev pub GotLink : {S : Type 0} → Opening S → Type 0
GotLink (opening.Session session) = Unit {0}
GotLink (opening.Failed linked) = linked ≡ true
GotLink opening.Memory = ⊥

linked-as : {S : Type 0} (made : Opening S) (old new : Counts) → GotLink made → OpenCounts true made old new
    → new.dials ≡ one_more true old.dials
linked-as {S = S} (opening.Session session) old new got h = ap (λ (c : Counts). c.dials) h.others
linked-as {S = S} (opening.Failed linked) old new got h =
    ap (λ (c : Counts). c.dials) h.others ∙ ap (λ (b : Bool). one_more b old.dials) got
linked-as opening.Memory old new got h = absurd got

-- there is one
pub linked-then : {S : Type 0} (made : Opening S) (old new : Counts) → GotLink made → OpenCounts true made old new → 1 ≤ new.dials
linked-then made old new got h = let one = linked-as made old new got h in omega (arith, one)

-- there is one more
pub linked-more : {S : Type 0} (made : Opening S) (old new : Counts) → GotLink made → OpenCounts true made old new → DialsGoOn new
    → old.dials < new.dials
linked-more made old new got h go = let one = linked-as made old new got h in omega (arith, one, go)

-- the count of links never falls
one-on : (b : Bool) (old new : ℕ) → new ≡ one_more b old → new < 2 ^ 64 - 1 → old ≤ new
one-on true old new e go = omega (arith, e, go)
one-on false old new e go = omega (arith, e)

call-on : (exact : Bool) (told : Type 0) (call : Counted) (old new : Counts) → BackendCounts exact told call old new → DialsGoOn new
    → old.dials ≤ new.dials
call-on exact told call old new h go = one-on call.dial old.dials new.dials (ap (λ (c : Counts). c.dials) h.others) go

same-on : (old new : Counts) → new ≡ old → old.dials ≤ new.dials
same-on old new e = let same = ap (λ (c : Counts). c.dials) e in omega (arith, same)

module _ {W S : Type 0} (w : world.Ghosts W) (t : sitting.Ghosts S W) (exact : Bool) where
  pub dials-on : (deed : Deed S) (old new : Counts) → CountsMove w t exact deed old new → DialsGoOn new → old.dials ≤ new.dials
  dials-on (took gives) old new h go = same-on old new h
  dials-on (opened (opening.Session session)) old new h go = call-on exact _ (open_counted (opening.Session session)) old new h go
  dials-on (opened (opening.Failed linked)) old new h go = call-on exact _ (open_counted {S = S} (opening.Failed linked)) old new h go
  dials-on (opened opening.Memory) old new (inl h) go = call-on exact _ _ old new h go
  dials-on (opened opening.Memory) old new (inr h) go = call-on exact _ _ old new h go
  dials-on (began ask reply session) old new h go = call-on exact _ (start_counted ask reply) old new h go
  dials-on (heard look.Opened session) old new h go = call-on exact _ (heard_counted look.Opened) old new h go
  dials-on (heard (look.Hits hits) session) old new h go = call-on exact _ (heard_counted (look.Hits hits)) old new h go
  dials-on (heard (look.Refused diag) session) old new h go = call-on exact _ (heard_counted (look.Refused diag)) old new h go
  dials-on (heard (look.Items items) session) old new h go = call-on exact _ (heard_counted (look.Items items)) old new h go
  dials-on (heard look.Gone session) old new h go = call-on exact _ (heard_counted look.Gone) old new h go
  dials-on (heard (look.Scanned entries) session) old new h go = call-on exact _ (heard_counted (look.Scanned entries)) old new h go
  dials-on (heard look.NotYet session) old new h go = call-on exact _ (heard_counted look.NotYet) old new h go
  dials-on (heard look.Failed session) old new h go = call-on exact _ (heard_counted look.Failed) old new h go
  dials-on (heard look.Memory session) old new (inl h) go = call-on exact _ _ old new h go
  dials-on (heard look.Memory session) old new (inr h) go = call-on exact _ _ old new h go
  dials-on put_back old new h go = same-on old new h
  dials-on gave_up old new h go = same-on old new h
  dials-on (redialled member) old new h go = same-on old new h
  dials-on no_memory old new h go = same-on old new h
  dials-on nothing old new h go = same-on old new h

-- ---- the counts of the backend

-- of a call
by-call : (had told : Type 0) (call : Counted) (old new : Counts) → call.fault ≡ false → call.wait ≡ false → (had → call.gone ≡ false)
    → BackendCounts true told call old new → CountsStay had old new
by-call had told call old new fault wait gone h = record {
  faults = h.exactly refl ∙ ap (λ (b : Bool). one_more b old.faults) fault;
  waits = ap (λ (c : Counts). c.waits) h.others ∙ ap (λ (b : Bool). one_more b old.waits) wait;
  gones = λ has. ap (λ (c : Counts). c.gones) h.others ∙ ap (λ (b : Bool). one_more b old.gones) (gone has);
}

by-none : (had : Type 0) (old new : Counts) → new ≡ old → CountsStay had old new
by-none had old new e = record {
  faults = ap (λ (c : Counts). c.faults) e;
  waits = ap (λ (c : Counts). c.waits) e;
  gones = λ has. ap (λ (c : Counts). c.gones) e;
}

module _ {W S : Type 0} (w : world.Ghosts W) (t : sitting.Ghosts S W) where
  -- a deed that lacked no memory
  abbrev pub Had : Deed S → Type 0
  Had deed = (lack_of deed ≡ always) → ⊥

  pub counts-stay : (deed : Deed S) (old new : Counts) → IsWell deed → CountsMove w t true deed old new → CountsStay (Had deed) old new
  counts-stay (took gives) old new well h = by-none _ old new h
  counts-stay (opened (opening.Session session)) old new well h =
      by-call _ _ (open_counted (opening.Session session)) old new refl refl (λ has. refl) h
  counts-stay (opened (opening.Failed linked)) old new well h = absurd well
  counts-stay (opened opening.Memory) old new well (inl h) = by-call _ _ _ old new refl refl (λ has. refl) h
  counts-stay (opened opening.Memory) old new well (inr h) = by-call _ _ _ old new refl refl (λ has. refl) h
  counts-stay (began ask start.Started session) old new well h = by-call _ _ (start_counted ask start.Started) old new refl refl (λ has. refl) h
  counts-stay (began ask start.Failed session) old new well h = absurd well
  counts-stay (began ask start.Memory session) old new well h = by-call _ _ (start_counted ask start.Memory) old new refl refl (λ has. refl) h
  counts-stay (heard look.Opened session) old new well h = by-call _ _ (heard_counted look.Opened) old new refl refl (λ has. refl) h
  counts-stay (heard (look.Hits hits) session) old new well h = by-call _ _ (heard_counted (look.Hits hits)) old new refl refl (λ has. refl) h
  counts-stay (heard (look.Refused diag) session) old new well h = by-call _ _ (heard_counted (look.Refused diag)) old new refl refl (λ has. refl) h
  counts-stay (heard (look.Items items) session) old new well h = by-call _ _ (heard_counted (look.Items items)) old new refl refl (λ has. refl) h
  counts-stay (heard look.Gone session) old new well h = absurd well
  counts-stay (heard (look.Scanned entries) session) old new well h =
      by-call _ _ (heard_counted (look.Scanned entries)) old new refl refl (λ has. refl) h
  counts-stay (heard look.NotYet session) old new well h = absurd well
  counts-stay (heard look.Failed session) old new well h = absurd well
  counts-stay (heard look.Memory session) old new well (inl h) = by-call _ _ _ old new refl refl (λ has. refl) h
  counts-stay (heard look.Memory session) old new well (inr h) = by-call _ _ _ old new refl refl (λ has. absurd (has refl)) h
  counts-stay put_back old new well h = by-none _ old new h
  counts-stay gave_up old new well h = by-none _ old new h
  counts-stay (redialled member) old new well h = by-none _ old new h
  counts-stay no_memory old new well h = by-none _ old new h
  counts-stay nothing old new well h = by-none _ old new h

  -- ---- what happens to links

  same-quiet : (old new : Happened) → AreQuiet old → new ≡ old → AreQuiet new
  same-quiet old new q e = subst (λ (h : Happened). AreQuiet h) (sym e) q

  pub stays-quiet : (deed : Deed S) (old new : Happened) → AreQuiet old → HappensThen w t true deed old new → AreQuiet new
  stays-quiet (took gives) old new q h = same-quiet old new q h
  stays-quiet (opened (opening.Session session)) old new q h = same_stays old new q h
  stays-quiet (opened (opening.Failed linked)) old new q h = same_stays old new q h
  stays-quiet (opened opening.Memory) old new q h = less_stays old new q h
  stays-quiet (began ask reply session) old new q h = less_stays old new q h
  stays-quiet (heard reply session) old new q h = same_stays old new q h
  stays-quiet put_back old new q h = same-quiet old new q h
  stays-quiet gave_up old new q h = same-quiet old new q h
  stays-quiet (redialled member) old new q h = same-quiet old new q h
  stays-quiet no_memory old new q h = same-quiet old new q h
  stays-quiet nothing old new q h = same-quiet old new q h

-- ---- the account of the leg

zero-looks : (b : Bool) (looks old : ℕ) → b ≡ false → old ≡ 0 → looks ≤ more b old → looks ≡ 0
zero-looks true looks old e z h = absurd cc
zero-looks false looks old e z h = omega (arith, z, h)

module _ {S : Type 0} (want : Option SetKey) where
  -- none of these counts rises
  record NoneRises (deed : Deed S) : Type 0 where
    gones : (rises_of want deed).gones ≡ false
    faults : (rises_of want deed).faults ≡ false
    waited : waits deed ≡ false

  none-rises : (deed : Deed S) → IsWell deed → NoneRises deed
  none-rises (took gives) well = record { gones = refl; faults = refl; waited = refl }
  none-rises (opened (opening.Session session)) well = record { gones = refl; faults = refl; waited = refl }
  none-rises (opened (opening.Failed linked)) well = absurd well
  none-rises (opened opening.Memory) well = record { gones = refl; faults = refl; waited = refl }
  none-rises (began ask start.Started session) well = record { gones = refl; faults = refl; waited = refl }
  none-rises (began ask start.Failed session) well = absurd well
  none-rises (began ask start.Memory session) well = record { gones = refl; faults = refl; waited = refl }
  none-rises (heard look.Opened session) well = record { gones = refl; faults = refl; waited = refl }
  none-rises (heard (look.Hits hits) session) well = record { gones = refl; faults = refl; waited = refl }
  none-rises (heard (look.Refused diag) session) well = record { gones = refl; faults = refl; waited = refl }
  none-rises (heard (look.Items items) session) well = record { gones = refl; faults = refl; waited = refl }
  none-rises (heard look.Gone session) well = absurd well
  none-rises (heard (look.Scanned entries) session) well = record { gones = refl; faults = refl; waited = refl }
  none-rises (heard look.NotYet session) well = absurd well
  none-rises (heard look.Failed session) well = absurd well
  none-rises (heard look.Memory session) well = record { gones = refl; faults = refl; waited = refl }
  none-rises put_back well = record { gones = refl; faults = refl; waited = refl }
  none-rises gave_up well = record { gones = refl; faults = refl; waited = refl }
  none-rises (redialled member) well = record { gones = refl; faults = refl; waited = refl }
  none-rises no_memory well = record { gones = refl; faults = refl; waited = refl }
  none-rises nothing well = record { gones = refl; faults = refl; waited = refl }

  pub no-cause : (deed : Deed S) (class looks : ℕ) (given : Bool) (a b : Account) → IsWell deed
      → b ≡ counted class (rises_of want deed) given looks a → b.looks ≤ more (waits deed) a.looks → HasNoCause a → HasNoCause b
  no-cause deed class looks given a b well is few none =
      let no = none-rises deed well in
      record {
        gones = ap (λ (x : Account). x.gones) is ∙ ap (λ (r : Bool). more r a.gones) no.gones ∙ none.gones;
        faults = ap (λ (x : Account). x.faults) is ∙ ap (λ (r : Bool). more r a.faults) no.faults ∙ none.faults;
        spent = ap (λ (x : Account). x.spent) is ∙ ap (λ (r : Bool). more (r && not given) a.spent) no.faults ∙ none.spent;
        looks = zero-looks (waits deed) b.looks a.looks no.waited none.looks few;
      }
