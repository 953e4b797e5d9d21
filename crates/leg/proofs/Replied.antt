-- How a leg goes on with the reply to a scan
use Rattle.std.proofs.Common.{◌≡◌, ℕ, false, Contains, refl, arith}
use Rattle.z_types.specs.declared.sitting.Sitting as sitting
use Rattle.z_types.specs.declared.world.World as world
use Rattle.gw_outside.specs.Sessions.{heard_counted}
use Rattle.gw_outside.specs.declared.backends.Heard.{Heard}
use Rattle.gw_outside.specs.declared.backends.Heard.TheVariants as look
use Rattle.leg.specs.declared.accounts.Account.{Account}
use Rattle.leg.specs.declared.answers.LegAnswer.{LegAnswer}
use Rattle.leg.specs.declared.answers.LegAnswer.TheVariants as answer
use Rattle.leg.specs.declared.answers.Turned.TheVariants as turned
use Rattle.leg.specs.declared.phases.Held.{Held}
use Rattle.leg.specs.declared.phases.Phase.TheVariants.{Scanning, Returning}
use Rattle.leg.specs.declared.tasks.Task.{Task}
use Rattle.leg.specs.declared.tasks.Task.TheVariants.{Hits, Records, Scan}
use Rattle.leg.specs.Accounts.{counted, rises_by, no_rises}
use Rattle.leg.specs.Deeds as deed
use Rattle.leg.specs.Deeds.{looks_then}
use Rattle.leg.specs.Kept.{AccountKept, IsHeld, IsWithin, ahead_with, nothing_ahead}
use Rattle.leg.specs.Phases.{hold}
use Rattle.leg.specs.Right.{AnswerFits, IsRightAt, IsCaused}
use Rattle.leg.specs.Rules.{scan_answer}
use Rattle.leg.specs.Tasks.{MayDo}
use Rattle.leg.specs.Terms.{Terms, sites}
use Rattle.leg.specs.steps.Follows.{Follows, Holds}
use Rattle.leg.specs.steps.Replies.{ScanHeard}
use Rattle.z_types.specs.Pending.{resting}
use Rattle.leg.proofs.AccountSteps.{account_goes, end_enough, within_on}

module _ {W S : Type 0} (w : world.Ghosts W) (t : sitting.Ghosts S W) (terms : Terms) where
  scan_holds : (task : Task) (most : ℕ) (held : Held S) (looks : ℕ) (reply : LegAnswer) (a b : Account)
      → b ≡ counted terms.class no_rises held.given 0 a → MayDo task → IsHeld w t resting held → AnswerFits task reply
      → Contains (sites terms) held.parts.address → IsRightAt w terms.dbs task held.parts.address reply → IsCaused terms.pool most b reply
      → AccountKept (ahead_with 0 held.given) looks a → IsWithin terms.pool (Scanning held looks) a
      → Holds w t terms task most (Returning (hold held.seat held.parts false) reply) b
  scan_holds task most held looks reply a b e may is_held fits among right caused k n = record {
    kept = record {
      may = may;
      session = (record { waits = is_held.waits; kept = is_held.kept }, fits);
      account = account_goes (ahead_with 0 held.given) nothing_ahead looks 0 terms.class no_rises held.given 0 a b e (end_enough false held.given) (omega arith) k;
    };
    stands = (among, right, caused);
    within = within_on terms.pool (Scanning held looks) (Returning (hold held.seat held.parts false) reply) terms.class no_rises held.given 0 a b e refl refl (omega arith) n;
  }

  pub scan_replied : (task : Task) (now most : ℕ) (held : Held S) (looks : ℕ) (reply : Heard) (a b : Account)
      → b ≡ counted terms.class (rises_by (heard_counted reply)) held.given (looks_then looks reply) a
      → (reply ≡ look.NotYet → ⊥) → (reply ≡ look.Failed → ⊥) → (reply ≡ look.Memory → ⊥)
      → ScanHeard w t terms task held reply → Contains (sites terms) held.parts.address → MayDo task
      → AccountKept (ahead_with 0 held.given) looks a → IsWithin terms.pool (Scanning held looks) a
      → Follows w t terms task now most (deed.heard reply held.parts.session) (Scanning held looks)
      (Returning (hold held.seat held.parts false) (scan_answer reply)) a b turned.Went
  scan_replied (Scan scan) now most held looks (look.Scanned entries) a b e n f m h among may k w = record {
    goes = (refl, refl);
    account = e;
    done = refl;
    holds = scan_holds (Scan scan) most held looks (answer.Scanned entries) a b e may h.0 tt among h.1 tt k w;
  }
  scan_replied (Scan scan) now most held looks (look.Refused diag) a b e n f m h among may k w = record {
    goes = (refl, refl);
    account = e;
    done = refl;
    holds = scan_holds (Scan scan) most held looks (answer.Refused diag) a b e may h.0 tt among h.1 tt k w;
  }
  scan_replied (Hits key) now most held looks (look.Scanned entries) a b e n f m h among may k w = absurd h.1
  scan_replied (Hits key) now most held looks (look.Refused diag) a b e n f m h among may k w = absurd h.1
  scan_replied (Records key first count syntax element) now most held looks (look.Scanned entries) a b e n f m h among may k w = absurd h.1
  scan_replied (Records key first count syntax element) now most held looks (look.Refused diag) a b e n f m h among may k w = absurd h.1
  scan_replied task now most held looks look.NotYet a b e n f m h among may k w = absurd (n refl)
  scan_replied task now most held looks look.Failed a b e n f m h among may k w = absurd (f refl)
  scan_replied task now most held looks look.Memory a b e n f m h among may k w = absurd (m refl)
  scan_replied task now most held looks look.Opened a b e n f m h among may k w = absurd h
  scan_replied task now most held looks (look.Hits hits) a b e n f m h among may k w = absurd h
  scan_replied task now most held looks (look.Items items) a b e n f m h among may k w = absurd h
  scan_replied task now most held looks look.Gone a b e n f m h among may k w = absurd h
