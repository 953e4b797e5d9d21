-- How a leg goes on with records
use Rattle.std.proofs.Common.{◌≡◌, ◌≤◌, ◌+◌, ℕ, suc, Bool, true, false, nat_le, List, [], ◌∷◌, ◌++◌, length, Contains, Option, is_some, Result, Err, inl, inr, refl, ap, subst, sym, add-zero, arith, if◌then◌else◌}
use Rattle.std.proofs.lemmas.Bool.Decides.{leb_tells}
use Rattle.std.proofs.lemmas.Bool.{leb-true}
use Rattle.z_types.specs.Pending.{resting}
use Rattle.z_types.specs.declared.diagnostic.Diag.{Diag}
use Rattle.z_types.specs.declared.key.SetKey.{SetKey}
use Rattle.z_types.specs.declared.marks.Mark.TheVariants as mark
use Rattle.z_types.specs.declared.records.Item.{Item}
use Rattle.z_types.specs.declared.sitting.Sitting as sitting
use Rattle.z_types.specs.declared.world.World as world
use Rattle.gw_outside.specs.Peers.{AreRecords}
use Rattle.gw_outside.specs.declared.backends.Heard.{Heard}
use Rattle.gw_outside.specs.declared.backends.Heard.TheVariants as look
use Rattle.pool_sets.specs.Table.{after_forget}
use Rattle.leg.specs.declared.accounts.Account.{Account}
use Rattle.leg.specs.declared.answers.LegAnswer.TheVariants as answer
use Rattle.leg.specs.declared.answers.Turned.{Turned}
use Rattle.leg.specs.declared.phases.Held.{Held}
use Rattle.leg.specs.declared.phases.Phase.{Phase}
use Rattle.leg.specs.declared.phases.Phase.TheVariants.{Ready, Fetching, Returning, Spoiled}
use Rattle.leg.specs.declared.tasks.Task.{Task}
use Rattle.leg.specs.declared.tasks.Task.TheVariants.{Hits, Records, Scan}
use Rattle.gw_outside.specs.Sessions.{heard_counted}
use Rattle.pool_sets.specs.Doors.{LacksWanted}
use Rattle.pool_sets.specs.Kept.{TableKept}
use Rattle.pool_sets.proofs.KeptLemmas as kept_lemmas
use Rattle.leg.specs.Accounts.{counted, rises_by, no_rises}
use Rattle.leg.specs.Deeds as deed
use Rattle.leg.specs.Deeds.{looks_then}
use Rattle.leg.specs.Kept.{AccountKept, IsHeld, IsWithin, ItemsKept, HasOwnSet, ahead_with, nothing_ahead, one_if}
use Rattle.leg.specs.Phases.{hold, with_sets, is_done}
use Rattle.leg.specs.steps.Replies.{AreNext, IsNextRefused, IsPresentReply, IsUnfound, PresentHeard}
use Rattle.leg.specs.steps.Follows.{Holds}
use Rattle.route_config.specs.declared.route.PoolNumbers.{PoolNumbers}
use Rattle.leg.specs.Right.{AnswerFits, IsRightAt, IsCaused}
use Rattle.leg.specs.Rules.{after_present, gone_again, stopped, with_reply, Becomes}
use Rattle.leg.specs.Tasks.{want_of, MayDo, IsLeft}
use Rattle.leg.specs.Terms.{Terms, sites}
use Rattle.leg.proofs.Own.{goes_holds}
use Rattle.leg.proofs.Lacks.{forgot}
use Rattle.leg.proofs.Settled.{IsKeptIn, reply_account, spoiled_account}
use Rattle.leg.proofs.AccountSteps.{account_goes, within_gone, gone, gone_enough, last_gone_enough}

shifted : (first n : ℕ) → first + suc n ≡ (first + 1) + n
shifted first n = omega arith

-- records with those behind them
pub records_join : (record_at : ℕ → Result Item Diag) (first : ℕ) (items others : List Item) → AreRecords record_at first items
    → AreRecords record_at (first + length items) others → AreRecords record_at first (items ++ others)
records_join record_at first [] others h k = let P : ℕ → Type 0 = λ n. AreRecords record_at n others in subst P (add-zero first) k
records_join record_at first (item ∷ items) others h k = (
  h.0,
  records_join record_at (first + 1) items others h.1
      (let P : ℕ → Type 0 = λ n. AreRecords record_at n others in subst P (shifted first (length items)) k),
)

more_than : (a b : ℕ) → nat_le a b ≡ false → b + 1 ≤ a
more_than a b h = grind (arith, leb_tells)

module _ {W S : Type 0} (w : world.Ghosts W) (t : sitting.Ghosts S W) where
  pub items_join : (task : Task) (held : Held S) (items others all : List Item) → all ≡ items ++ others → ItemsKept w t task held items
      → AreNext w t task held items others → IsLeft task all → ItemsKept w t task held all
  items_join (Records key first count syntax element) held items others all e h n left = (
    left,
    λ told. let P : List Item → Type 0 = AreRecords (λ position. w.record_ held.parts.address key position syntax element) first in
        subst P (sym e) (records_join (λ position. w.record_ held.parts.address key position syntax element) first items others (h.1 told) (n.2 told)),
  )
  items_join (Hits key) held items others all e h n left = absurd n
  items_join (Scan scan) held items others all e h n left = absurd n

  pub items_right : (terms : Terms) (task : Task) (held : Held S) (items others all : List Item) → all ≡ items ++ others
      → ItemsKept w t task held items → AreNext w t task held items others → IsRightAt w terms.dbs task held.parts.address (answer.Items all)
  items_right terms (Records key first count syntax element) held items others all e h n =
      λ told. let P : List Item → Type 0 = AreRecords (λ position. w.record_ held.parts.address key position syntax element) first in
      subst P (sym e) (records_join (λ position. w.record_ held.parts.address key position syntax element) first items others (h.1 told) (n.2 told))
  items_right terms (Hits key) held items others all e h n = absurd n
  items_right terms (Scan scan) held items others all e h n = absurd n

  pub refused_fits : (task : Task) (held : Held S) (items : List Item) (diag : Diag) → IsNextRefused w t task held items diag
      → ItemsKept w t task held items → AnswerFits task (stopped items diag)
  refused_fits task held [] diag n h = tt
  refused_fits (Records key first count syntax element) held (item ∷ items) diag n h = h.0
  refused_fits (Hits key) held (item ∷ items) diag n h = absurd n
  refused_fits (Scan scan) held (item ∷ items) diag n h = absurd n

  pub refused_right : (terms : Terms) (task : Task) (held : Held S) (items : List Item) (diag : Diag) → IsNextRefused w t task held items diag
      → ItemsKept w t task held items → IsRightAt w terms.dbs task held.parts.address (stopped items diag)
  refused_right terms (Records key first count syntax element) held [] diag n h =
      λ told. inr (let P : ℕ → Type 0 = λ p. w.record_ held.parts.address key p syntax element ≡ Err diag in subst P (add-zero first) (n told))
  refused_right terms (Records key first count syntax element) held (item ∷ items) diag n h = λ told. (h.1 told, inl (n told))
  refused_right terms (Hits key) held items diag n h = absurd n
  refused_right terms (Scan scan) held items diag n h = absurd n

  -- a search that was refused
  pub unfound_right : (terms : Terms) (task : Task) (held : Held S) (diag : Diag) → IsUnfound w t task held diag
      → IsRightAt w terms.dbs task held.parts.address (answer.Refused diag)
  unfound_right terms (Hits own) held diag h = λ told. let same : own ≡ h.key = (let e = h.wants in cc) in rw same (h.right told)
  unfound_right terms (Records own first count syntax element) held diag h =
      λ told. let same : own ≡ h.key = (let e = h.wants in cc) in inl (rw same (h.right told))
  unfound_right terms (Scan scan) held diag h = let e = h.wants in cc

  items_still : (task : Task) (held : Held S) (items : List Item) (slot : ℕ) → ItemsKept w t task held items
      → ItemsKept w t task (with_sets (after_forget slot held.parts.table) (hold held.seat held.parts false)) items
  items_still (Records key first count syntax element) held items slot h = h
  items_still (Hits key) held items slot h = h
  items_still (Scan scan) held items slot h = h

  -- the set of the leg's own key is held no more
  own_gone : (task : Task) (held : Held S) (slot hits : ℕ) → TableKept w t held.parts → HasOwnSet w t task held slot hits
      → LacksWanted (want_of task) (after_forget slot held.parts.table)
  own_gone (Records key first count syntax element) held slot hits k own = forgot key slot hits held.parts.table k.once own.0
  own_gone (Hits key) held slot hits k own = absurd own
  own_gone (Scan scan) held slot hits k own = absurd own

  pub gone_holds : (terms : Terms) (most : ℕ) (task : Task) (held : Held S) (items : List Item) (slot hits looks : ℕ) (a b : Account)
      → b ≡ counted terms.class gone held.given 0 a → IsHeld w t resting held → ItemsKept w t task held items → HasOwnSet w t task held slot hits
      → MayDo task → Contains (sites terms) held.parts.address
      → AccountKept (ahead_with 0 held.given) looks a → IsWithin terms.pool (Fetching held items slot hits looks) a
      → Holds w t terms task most (gone_again terms.pool.repeats b.gones (with_sets (after_forget slot held.parts.table) (hold held.seat held.parts false)) items) b
  gone_holds terms most task held items slot hits looks a b e h i own m among k n =
      let left = with_sets (after_forget slot held.parts.table) (hold held.seat held.parts false) in
      let kept = kept_lemmas.forget_kept w t slot held.parts h.kept in
      let old : Phase S = Fetching held items slot hits looks in
      let wanted = is_some (want_of task) in
      let gones : b.gones ≡ a.gones + 1 = ap (λ (x : Account). x.gones) e in
      (elim (nat_le b.gones terms.pool.repeats) as (λ again. nat_le b.gones terms.pool.repeats ≡ again
      → Holds w t terms task most (if again then Ready left items else Returning left (answer.Marked mark.Gone)) b) [
        | true ↦ λ few. record {
          kept = record {
            may = m;
            session = (record { is_held = record { waits = h.waits; kept = kept }; lacks = own_gone task held slot hits h.kept own }, items_still task held items slot i);
            account = account_goes (ahead_with 0 held.given) (ahead_with (one_if wanted) false) looks 0 terms.class gone held.given 0 a b e (gone_enough wanted held.given) (omega arith) k;
          };
          stands = among;
          within = within_gone terms.pool old (Ready left items) terms.class held.given a b e refl (let x = leb-true b.gones terms.pool.repeats few in omega arith) n;
        }
        | false ↦ λ few. record {
          kept = record {
            may = m;
            session = (record { waits = h.waits; kept = kept }, tt);
            account = account_goes (ahead_with 0 held.given) nothing_ahead looks 0 terms.class gone held.given 0 a b e (last_gone_enough held.given) (omega arith) k;
          };
          stands = (among, tt, more_than b.gones terms.pool.repeats few);
          within = within_gone terms.pool old (Returning left (answer.Marked mark.Gone)) terms.class held.given a b e refl (let x = n.gones in omega arith) n;
        }
      ]) refl

module _ {S : Type 0} where
  pub gone_not_done : (repeats gones : ℕ) (held : Held S) (items : List Item) → false ≡ is_done (gone_again repeats gones held items)
  gone_not_done repeats gones held items =
      elim (nat_le gones repeats) as (λ again. false ≡ is_done {S = S} (if again then Ready held items else Returning held (answer.Marked mark.Gone))) [
        | true ↦ refl
        | false ↦ refl
      ]

  pub present_goes : (terms : Terms) (task : Task) (gones : ℕ) (held : Held S) (items : List Item) (slot hits looks : ℕ) (reply : Heard) (answer : Turned)
      (new : Phase S) → IsPresentReply reply
      → Becomes (deed.heard reply held.parts.session) (with_reply task (hold held.seat held.parts false) items slot hits reply) (Spoiled held.seat) answer new
      → Becomes (deed.heard reply held.parts.session) (after_present terms task gones held items slot hits looks reply held.parts.session) (Spoiled held.seat) answer new
  present_goes terms task gones held items slot hits looks (look.Items others) answer new r h = h
  present_goes terms task gones held items slot hits looks (look.Refused diag) answer new r h = h
  present_goes terms task gones held items slot hits looks look.Opened answer new r h = absurd r
  present_goes terms task gones held items slot hits looks (look.Hits found) answer new r h = absurd r
  present_goes terms task gones held items slot hits looks look.Gone answer new r h = absurd r
  present_goes terms task gones held items slot hits looks (look.Scanned entries) answer new r h = absurd r
  present_goes terms task gones held items slot hits looks look.NotYet answer new r h = absurd r
  present_goes terms task gones held items slot hits looks look.Failed answer new r h = absurd r
  present_goes terms task gones held items slot hits looks look.Memory answer new r h = absurd r

  -- what it keeps of the account
  pub present_account : (want : Option SetKey) (b : Account) (task : Task) (held : Held S) (items : List Item) (slot hits : ℕ) (reply : Heard) (answer : Turned)
      (new : Phase S) → IsPresentReply reply
      → Becomes (deed.heard reply held.parts.session) (with_reply task held items slot hits reply) (Spoiled held.seat) answer new
      → AccountKept (ahead_with 0 held.given) 0 b → IsKeptIn want b new
  present_account want b task held items slot hits (look.Items others) answer new r h k =
      goes_holds (IsKeptIn want b) (with_reply task held items slot hits (look.Items others)) (Spoiled held.seat) new answer h
      (reply_account want b task held items slot hits (look.Items others) r k) (spoiled_account want b held k)
  present_account want b task held items slot hits (look.Refused diag) answer new r h k =
      subst (IsKeptIn want b) (sym h.0) (reply_account want b task held items slot hits (look.Refused diag) r k)
  present_account want b task held items slot hits look.Opened answer new r h k = absurd r
  present_account want b task held items slot hits (look.Hits found) answer new r h k = absurd r
  present_account want b task held items slot hits look.Gone answer new r h k = absurd r
  present_account want b task held items slot hits (look.Scanned entries) answer new r h k = absurd r
  present_account want b task held items slot hits look.NotYet answer new r h k = absurd r
  present_account want b task held items slot hits look.Failed answer new r h k = absurd r
  present_account want b task held items slot hits look.Memory answer new r h k = absurd r

-- what is counted of it
pub present_counted : (class : ℕ) (given : Bool) (looks : ℕ) (reply : Heard) (a b : Account) → IsPresentReply reply
    → b ≡ counted class (rises_by (heard_counted reply)) given (looks_then looks reply) a → b ≡ counted class no_rises given 0 a
present_counted class given looks (look.Items others) a b r e = e
present_counted class given looks (look.Refused diag) a b r e = e
present_counted class given looks look.Opened a b r e = absurd r
present_counted class given looks (look.Hits found) a b r e = absurd r
present_counted class given looks look.Gone a b r e = absurd r
present_counted class given looks (look.Scanned entries) a b r e = absurd r
present_counted class given looks look.NotYet a b r e = absurd r
present_counted class given looks look.Failed a b r e = absurd r
present_counted class given looks look.Memory a b r e = absurd r

pub present_reply : {W S : Type 0} (w : world.Ghosts W) (t : sitting.Ghosts S W) (task : Task) (held : Held S) (items : List Item) (slot : ℕ) (reply : Heard)
    → PresentHeard w t task held items slot reply → (reply ≡ look.Gone → ⊥) → (reply ≡ look.NotYet → ⊥) → (reply ≡ look.Failed → ⊥) → (reply ≡ look.Memory → ⊥)
    → IsPresentReply reply
present_reply w t task held items slot (look.Items others) h g n f m = tt
present_reply w t task held items slot (look.Refused diag) h g n f m = tt
present_reply w t task held items slot look.Opened h g n f m = h
present_reply w t task held items slot (look.Hits found) h g n f m = h
present_reply w t task held items slot look.Gone h g n f m = g refl
present_reply w t task held items slot (look.Scanned entries) h g n f m = h
present_reply w t task held items slot look.NotYet h g n f m = n refl
present_reply w t task held items slot look.Failed h g n f m = f refl
present_reply w t task held items slot look.Memory h g n f m = m refl

pub stopped_caused : (pool : PoolNumbers) (most : ℕ) (a : Account) (items : List Item) (diag : Diag) → IsCaused pool most a (stopped items diag)
stopped_caused pool most a [] diag = tt
stopped_caused pool most a (item ∷ items) diag = tt
