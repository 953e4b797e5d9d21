-- Where a leg stands with a set or with records
use Rattle.std.proofs.Common.{◌≤◌, ◌+◌, ◌-◌, ℕ, true, false, nat_lt, List, ◌++◌, length, Option, None, Some, arith, if◌then◌else◌}
use Rattle.z_types.specs.declared.key.SetKey.{SetKey}
use Rattle.z_types.specs.declared.records.Item.{Item}
use Rattle.gw_outside.specs.declared.backends.Heard.{Heard}
use Rattle.gw_outside.specs.declared.backends.Heard.TheVariants as look
use Rattle.leg.specs.declared.accounts.Account.{Account}
use Rattle.leg.specs.declared.answers.LegAnswer.TheVariants as answer
use Rattle.leg.specs.declared.phases.Held.{Held}
use Rattle.leg.specs.declared.phases.Phase.{Phase}
use Rattle.leg.specs.declared.phases.Phase.TheVariants.{Presenting, Returning}
use Rattle.leg.specs.declared.tasks.Task.{Task}
use Rattle.leg.specs.declared.tasks.Task.TheVariants.{Hits, Records, Scan}
use Rattle.leg.specs.Kept.{Ahead, AccountKept, ahead_of, ahead_with, nothing_ahead}
use Rattle.leg.specs.Phases.{looks_of}
use Rattle.leg.specs.Rules.{with_set, with_items, with_reply, recorded, out_of_range}
use Rattle.leg.specs.steps.Replies.{IsPresentReply}
use Rattle.leg.proofs.AccountSteps.{ended_from, ahead_spoiled}

-- what an account keeps in a phase
abbrev pub IsKeptIn : {S : Type 0} → Option SetKey → Account → Phase S → Type 0
IsKeptIn want a phase = AccountKept (ahead_of want phase) (looks_of phase) a

-- it keeps less where nothing may follow
nothing_from : (h : Ahead) (l : ℕ) (a : Account) → h.unused ≤ 0 → AccountKept h l a → AccountKept nothing_ahead 0 a
nothing_from h l a u k = record {
  searches = (let x = k.searches in omega arith);
  opens = (let x = k.opens in omega arith);
  dials = (let x = k.dials in omega arith);
  one_open = (let x = k.one_open in omega arith);
  two_faults = (let x = k.two_faults in omega arith);
  spent = k.spent;
  one_full = (let x = k.one_full in omega arith);
  one_booked = (let x = k.one_booked in omega arith);
  most_looks = omega arith;
}

module _ {S : Type 0} (want : Option SetKey) (a : Account) where
  pub spoiled_account : (held : Held S) → AccountKept (ahead_with 0 held.given) 0 a → AccountKept ahead_spoiled 0 a
  spoiled_account held k = ended_from (ahead_with 0 held.given) 0 a (omega arith) k

  ended_account : (held : Held S) → AccountKept (ahead_with 0 held.given) 0 a → AccountKept nothing_ahead 0 a
  ended_account held k = nothing_from (ahead_with 0 held.given) 0 a (omega arith) k

  -- with a set
  pub set_account : (task : Task) (held : Held S) (items : List Item) (slot hits : ℕ) → AccountKept (ahead_with 0 held.given) 0 a
      → IsKeptIn want a (with_set task held items slot hits)
  set_account (Records key first count syntax element) held items slot hits k =
      elim (nat_lt hits (first + (count - 1))) as (λ few. IsKeptIn want a (if few then Returning held (answer.Broken items out_of_range) else Presenting held items slot hits)) [
        | true ↦ ended_account held k
        | false ↦ k
      ]
  set_account (Hits key) held items slot hits k = ended_account held k
  set_account (Scan scan) held items slot hits k = spoiled_account held k

  -- with one that was recorded
  pub recorded_account : (wanted : Option SetKey) (task : Task) (held : Held S) (items : List Item) (slot hits now : ℕ) → AccountKept (ahead_with 0 held.given) 0 a
      → IsKeptIn want a (with_set task (recorded wanted slot hits now held) items slot hits)
  recorded_account None task held items slot hits now k = set_account task held items slot hits k
  recorded_account (Some key) task held items slot hits now k = set_account task (recorded (Some key) slot hits now held) items slot hits k

  -- with records
  items_account : (task : Task) (held : Held S) (items : List Item) (slot hits : ℕ) → AccountKept (ahead_with 0 held.given) 0 a
      → IsKeptIn want a (with_items task held items slot hits)
  items_account (Records key first count syntax element) held items slot hits k =
      elim (nat_lt (length items) count) as (λ more. IsKeptIn want a (if more then Presenting held items slot hits else Returning held (answer.Items items))) [
        | true ↦ k
        | false ↦ ended_account held k
      ]
  items_account (Hits key) held items slot hits k = spoiled_account held k
  items_account (Scan scan) held items slot hits k = spoiled_account held k

  -- with the reply to a present
  pub reply_account : (task : Task) (held : Held S) (items : List Item) (slot hits : ℕ) (reply : Heard) → IsPresentReply reply → AccountKept (ahead_with 0 held.given) 0 a
      → IsKeptIn want a (with_reply task held items slot hits reply)
  reply_account task held items slot hits (look.Items others) r k = items_account task held (items ++ others) slot hits k
  reply_account task held items slot hits (look.Refused diag) r k = ended_account held k
  reply_account task held items slot hits look.Opened r k = absurd r
  reply_account task held items slot hits (look.Hits found) r k = absurd r
  reply_account task held items slot hits look.Gone r k = absurd r
  reply_account task held items slot hits (look.Scanned entries) r k = absurd r
  reply_account task held items slot hits look.NotYet r k = absurd r
  reply_account task held items slot hits look.Failed r k = absurd r
  reply_account task held items slot hits look.Memory r k = absurd r
