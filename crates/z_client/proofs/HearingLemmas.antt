-- What is heard of a unit by what is pending (this project's own)
use Rattle.std.proofs.Common.{◌≡◌, ◌∙◌, ℕ, Bool, true, false, cond, ◌&&◌, List, [], length, Option, None, Some, Result, Ok, Err, IfOk, option_map, option_and_then, nat_le, refl, sym, ap, subst}
use Rattle.std.proofs.lemmas.Bool.{leb-true}
use Rattle.z_ber.proofs.OnePlace.{unit_no_place}
use Rattle.z_ber.proofs.TreeLaws.{element_one}
use Rattle.unit_forms.specs.declared.refusal.Refusal.{Refusal}
use Rattle.unit_forms.specs.declared.refusal.Refusal.TheVariants as refusal
use Rattle.unit_forms.specs.Reading.Units.{reply_in}
use Rattle.z_types.specs.Bib1.{is_gone}
use Rattle.z_types.specs.Bounds.{most_levels, most_number}
use Rattle.z_types.specs.equality.Tests.{both_true}
use Rattle.z_types.specs.declared.ask.Ask.TheVariants.{Search, Present, Scan}
use Rattle.z_types.specs.declared.diagnostic.Diag.{Diag}
use Rattle.z_types.specs.declared.key.SetKey.{SetKey}
use Rattle.z_types.specs.declared.records.Item.{Item}
use Rattle.z_types.specs.declared.scan.ScanAnswer.{ScanAnswer}
use Rattle.z_types.specs.declared.scan.ScanAsk.{ScanAsk}
use Rattle.z_types.specs.Pending.{Pending, resting, opening, asked, broken}
use Rattle.z_types.specs.declared.replies.Reply.{Reply}
use Rattle.gw_outside.specs.declared.backends.Heard.{Heard}
use Rattle.gw_outside.specs.declared.backends.Heard.TheVariants.{Opened, Hits, Refused, Items, Gone, Scanned}
use Rattle.gw_outside.specs.Replies.{accepts, search_said, present_said, scan_said}
use Rattle.gw_outside.specs.Wires.{IsReplyUnit}
use Rattle.z_read.specs.Read.{IsReplyRead, IsReadAs}
use Rattle.z_read.specs.declared.fault.ReadFault.{ReadFault}
use Rattle.z_read.specs.declared.fault.ReadFault.TheVariants.{Ber, UnknownUnit, Missing, BadValue, LeftOut, Memory}
use Rattle.z_client.specs.Heard.{heard_of, opening_heard, search_heard, records_heard, scan_heard}
use Rattle.z_client.specs.Looks.{IsHeardIn, IsUnheard, EndsWait}
use Rattle.z_client.proofs.TrueLooks.{reply_one}
use Rattle.z_client.proofs.TrueReplies.{heard_is, heard_of_two}

-- what is heard of a reply is heard of the unit that it is
heard_is_in : (p : Pending) (unit : List ℕ) (reply : Reply) (heard : Option Heard) → IsReplyRead unit (Ok reply) → heard ≡ heard_of p reply
    → IsHeardIn p unit heard
heard_is_in p unit reply (Some heard) read e = (reply, read, sym e)
heard_is_in p unit reply None read e = λ other is. ap (λ said. heard_of p said) (reply_one unit other reply is read) ∙ sym e

-- where memory suffices
pub heard_is_in_if : {E : Type 0} (p : Pending) (unit : List ℕ) (reply : Reply) (heard : Result (Option Heard) E) → IsReplyRead unit (Ok reply)
    → IfOk heard (λ h. h ≡ heard_of p reply) → IfOk heard (λ h. IsHeardIn p unit h)
heard_is_in_if p unit reply (Ok heard) read e = heard_is_in p unit reply heard read e
heard_is_in_if p unit reply (Err why) read e = tt

-- a unit that is refused is no reply
not_refused : {P : Type 0} (unit : List ℕ) (reply : Reply) (why : Refusal) → IsReplyUnit unit reply → IsReadAs reply_in unit (Err why) → P
not_refused unit reply why is read =
    let trees = (element_one is.tree read.0 most_levels most_levels unit unit [] [] is.unit.element read.1.element refl).1 in
    let same : ◌≡◌ {A = Result Reply Refusal} (Ok reply) (Err why) = sym is.read ∙ ap reply_in trees ∙ read.2 in
    absurd cc

unheard : (p : Pending) (unit : List ℕ) (heard : Option Heard) (why : Refusal) → IsReadAs reply_in unit (Err why) → heard ≡ None → IsHeardIn p unit heard
unheard p unit heard why read e = subst (λ h. IsHeardIn p unit h) (sym e) (λ reply is. not_refused unit reply why is read)

-- of a unit that is refused nothing is heard
pub refused_unheard : (p : Pending) (unit : List ℕ) (fault : ReadFault) (heard : Option Heard) → IsReplyRead unit (Err fault) → IsUnheard fault heard
    → IsHeardIn p unit heard
refused_unheard p unit (Ber at) heard read e =
    subst (λ h. IsHeardIn p unit h) (sym e) (λ reply is. absurd (unit_no_place unit is.tree at is.unit read))
refused_unheard p unit (UnknownUnit n) heard read e = unheard p unit heard (refusal.UnknownUnit n) read e
refused_unheard p unit (Missing n) heard read e = unheard p unit heard (refusal.Missing n) read e
refused_unheard p unit (BadValue n) heard read e = unheard p unit heard (refusal.BadValue n) read e
refused_unheard p unit (LeftOut n) heard read e = unheard p unit heard (refusal.LeftOut n) read e
refused_unheard p unit Memory heard read e = absurd e

-- what is heard where a test passes, by the test
heard_where : (P : Heard → Type 0) (b : Bool) (one heard : Heard) → (b ≡ true → P one) → cond b (Some one) None ≡ Some heard → P heard
heard_where P true one heard p e = let same : one ≡ heard = cc in subst P same (p refl)
heard_where P false one heard p e = absurd cc

opening_ends : (heard : Heard) (reply : Reply) → opening_heard reply ≡ Some heard → EndsWait opening heard
opening_ends heard reply e =
    heard_where (λ h. EndsWait opening h) (accepts reply) Opened heard (λ t. record { fits = tt; rests = refl }) e

module _ (name : List ℕ) (key : SetKey) where
  search_ends : (said : Option (Result ℕ Diag)) (heard : Heard) → option_and_then search_heard said ≡ Some heard → EndsWait (asked (Search name key)) heard
  search_ends None heard e = absurd cc
  search_ends (Some (Ok hits)) heard e =
      heard_where (λ h. EndsWait (asked (Search name key)) h) (nat_le hits most_number) (Hits hits) heard
      (λ t. record { fits = leb-true hits most_number t; rests = refl }) e
  search_ends (Some (Err diag)) heard e =
      heard_is (λ h. EndsWait (asked (Search name key)) h) (Refused diag) heard (record { fits = tt; rests = refl }) e

module _ (name : List ℕ) (first count : ℕ) (syntax element : Option (List ℕ)) where
  abbrev presenting : Pending
  presenting = asked (Present name first count syntax element)

  present_ends : (said : Option (Result (List Item) Diag)) (heard : Heard) → option_and_then (records_heard count) said ≡ Some heard → EndsWait presenting heard
  present_ends None heard e = absurd cc
  present_ends (Some (Ok items)) heard e =
      heard_where (λ h. EndsWait presenting h) (nat_le 1 (length items) && nat_le (length items) count) (Items items) heard
      (λ t. record {
        fits = (leb-true 1 (length items) (both_true _ _ t).0, leb-true (length items) count (both_true _ _ t).1);
        rests = refl;
      }) e
  present_ends (Some (Err diag)) heard e =
      heard_of_two (λ h. EndsWait presenting h) (is_gone diag) Gone (Refused diag) heard
      (record { fits = tt; rests = refl }) (record { fits = tt; rests = refl }) e

scan_ends : (dbs : List (List ℕ)) (ask : ScanAsk) (said : Option (Result ScanAnswer Diag)) (heard : Heard) → option_map scan_heard said ≡ Some heard
    → EndsWait (asked (Scan dbs ask)) heard
scan_ends dbs ask None heard e = absurd cc
scan_ends dbs ask (Some (Ok answer)) heard e =
    heard_is (λ h. EndsWait (asked (Scan dbs ask)) h) (Scanned answer) heard (record { fits = tt; rests = refl }) e
scan_ends dbs ask (Some (Err diag)) heard e =
    heard_is (λ h. EndsWait (asked (Scan dbs ask)) h) (Refused diag) heard (record { fits = tt; rests = refl }) e

-- what is heard of a reply is an answer after which a session rests
pub heard_ends : (p : Pending) (reply : Reply) (heard : Heard) → heard_of p reply ≡ Some heard → EndsWait p heard
heard_ends resting reply heard e = absurd cc
heard_ends broken reply heard e = absurd cc
heard_ends opening reply heard e = opening_ends heard reply e
heard_ends (asked (Search name key)) reply heard e = search_ends name key (search_said reply) heard e
heard_ends (asked (Present name first count syntax element)) reply heard e =
    present_ends name first count syntax element (present_said reply) heard e
heard_ends (asked (Scan dbs ask)) reply heard e = scan_ends dbs ask (scan_said reply) heard e
