-- What is heard of a true peer's reply is the world's (this project's own)
use Rattle.std.proofs.Common.{◌≡◌, ◌∙◌, ℕ, ◌≤◌, Bool, true, false, cond, ◌&&◌, List, length, Option, None, Some, Result, Ok, Err, IfOk, option_map, option_and_then, refl, ap, subst}
use Rattle.std.proofs.lemmas.Bool.{le-leb}
use Rattle.z_types.specs.Bib1.{is_gone}
use Rattle.z_types.specs.Bounds.{most_number}
use Rattle.z_types.specs.Tree.{Tree, leaf, operand, and, or, and_not}
use Rattle.z_types.specs.Pending.{asked}
use Rattle.z_types.specs.declared.address.Address.{Address}
use Rattle.z_types.specs.declared.ask.Ask.TheVariants.{Search, Scan}
use Rattle.z_types.specs.declared.diagnostic.Diag.{Diag}
use Rattle.z_types.specs.declared.key.SetKey.{SetKey}
use Rattle.z_types.specs.declared.records.Item.{Item}
use Rattle.z_types.specs.declared.replies.Reply.{Reply}
use Rattle.z_types.specs.declared.scan.ScanAnswer.{ScanAnswer}
use Rattle.z_types.specs.declared.scan.ScanAsk.{ScanAsk}
use Rattle.z_types.specs.declared.world.World as world
use Rattle.gw_outside.specs.Asks.{HasNoSet}
use Rattle.gw_outside.specs.declared.backends.Heard.{Heard}
use Rattle.gw_outside.specs.declared.backends.Heard.TheVariants.{Hits, Refused, Items, Gone}
use Rattle.gw_outside.specs.Peers.{HasNoOperand, IsPresented, IsNotHeld}
use Rattle.gw_outside.specs.Replies.{search_said, scan_said}
use Rattle.gw_outside.specs.Sessions.{Made, IsWorlds, RecordsOf}
use Rattle.z_client.specs.Heard.{search_heard, records_heard, scan_heard, gone_or_refused}
use Rattle.z_client.specs.TrueSession.{IsTrueReply}

-- a query without sets has no operand that is one
pub no_operand : (tree : Tree) → HasNoSet tree → HasNoOperand tree
no_operand (leaf attrs term) h = tt
no_operand (operand name) h = h
no_operand (and l r) h = (no_operand l h.0, no_operand r h.1)
no_operand (or l r) h = (no_operand l h.0, no_operand r h.1)
no_operand (and_not l r) h = (no_operand l h.0, no_operand r h.1)

-- what is heard where a test passes
pub heard_if : (P : Heard → Type 0) (b : Bool) (one heard : Heard) → P one → cond b (Some one) None ≡ Some heard → P heard
heard_if P true one heard p e = let same : one ≡ heard = cc in subst P same p
heard_if P false one heard p e = absurd cc

pub heard_is : (P : Heard → Type 0) (one heard : Heard) → P one → Some one ≡ Some heard → P heard
heard_is P one heard p e = let same : one ≡ heard = cc in subst P same p

-- one of two things is heard
pub heard_of_two : (P : Heard → Type 0) (b : Bool) (one two heard : Heard) → P one → P two → Some (cond b one two) ≡ Some heard → P heard
heard_of_two P true one two heard p q e = let same : one ≡ heard = cc in subst P same p
heard_of_two P false one two heard p q e = let same : two ≡ heard = cc in subst P same q

both_are : {a b : Bool} → a ≡ true → b ≡ true → (a && b) ≡ true
both_are {a} {b} e f = cc

module _ {W : Type 0} (w : world.Ghosts W) (address : Address) (made : Made) where
  -- something is heard, and it is true
  abbrev pub Hears : (Heard → Type 0) → Option Heard → Type 0
  Hears P said = (answer : Heard) × (said ≡ Some answer) × P answer

  search_true : (name : List ℕ) (key : SetKey) (found : Result ℕ Diag) → w.search address key ≡ found → IfOk found (λ hits. hits ≤ most_number)
      → Hears (λ a. IsWorlds w address made (asked (Search name key)) a) (search_heard found)
  search_true name key (Ok hits) e few = (Hits hits, ap (λ b. cond b (Some (Hits hits)) None) (le-leb hits most_number few), e)
  search_true name key (Err diag) e few = (Refused diag, refl, e)

  -- of a reply to a Search
  pub search_reply_true : (name : List ℕ) (key : SetKey) (reply : Reply) → search_said reply ≡ Some (w.search address key)
      → IsTrueReply w address made (asked (Search name key)) reply
  search_reply_true name key reply said =
      let h = search_true name key (w.search address key) refl (w.hits_are_counts address key) in
      record { answer = h.0; heard = ap (λ s. option_and_then search_heard s) said ∙ h.1; worlds = h.2 }

  scan_true : (dbs : List (List ℕ)) (ask : ScanAsk) (found : Result ScanAnswer Diag) → w.scan address dbs ask ≡ found
      → IsWorlds w address made (asked (Scan dbs ask)) (scan_heard found)
  scan_true dbs ask (Ok answer) e = e
  scan_true dbs ask (Err diag) e = e

  -- of a reply to a Scan
  pub scan_reply_true : (dbs : List (List ℕ)) (ask : ScanAsk) (reply : Reply) → scan_said reply ≡ Some (w.scan address dbs ask)
      → IsTrueReply w address made (asked (Scan dbs ask)) reply
  scan_reply_true dbs ask reply said = record {
    answer = scan_heard (w.scan address dbs ask);
    heard = ap (λ s. option_map scan_heard s) said;
    worlds = scan_true dbs ask (w.scan address dbs ask) refl;
  }

  module _ (key : SetKey) (hits : ℕ) (syntax element : Option (List ℕ)) (first count : ℕ) where
    abbrev OfSet : Heard → Type 0
    OfSet heard = RecordsOf w address (Some (key, hits)) syntax element first heard

    refused_true : (b : Bool) (diag : Diag) → w.record_ address key first syntax element ≡ Err diag → OfSet (cond b Gone (Refused diag))
    refused_true true diag e = tt
    refused_true false diag e = e

    pub presented_true : (said : Option (Result (List Item) Diag))
        → IsPresented (λ position. w.record_ address key position syntax element) first count said
        → Hears OfSet (option_and_then (records_heard count) said)
    presented_true None p = absurd p
    presented_true (Some (Ok items)) p = (
      Items items,
      ap (λ b. cond b (Some (Items items)) None) (both_are (le-leb 1 (length items) p.0) (le-leb (length items) count p.1)),
      p.2,
    )
    presented_true (Some (Err diag)) p = (gone_or_refused diag, refl, refused_true (is_gone diag) diag p)

    -- where there is no such set it is heard to be gone
    pub not_held_true : (said : Option (Result (List Item) Diag)) → IsNotHeld said → Hears OfSet (option_and_then (records_heard count) said)
    not_held_true said p = (Gone, ap (λ s. option_and_then (records_heard count) s) p.1, tt)
