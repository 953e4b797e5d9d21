-- That a result set is gone is heard exactly where the reply says so (this project's own)
use Rattle.std.proofs.Common.{◌≡◌, ℕ, Bool, true, false, cond, ◌&&◌, List, length, Option, None, Some, Result, Ok, Err, option_map, option_and_then, nat_le, refl}
use Rattle.z_types.specs.Bib1.{is_gone}
use Rattle.z_types.specs.Bounds.{most_number}
use Rattle.z_types.specs.Pending.{Pending, resting, opening, asked, broken}
use Rattle.z_types.specs.declared.ask.Ask.TheVariants.{Search, Present, Scan}
use Rattle.z_types.specs.declared.diagnostic.Diag.{Diag}
use Rattle.z_types.specs.declared.records.Item.{Item}
use Rattle.z_types.specs.declared.replies.Reply.{Reply}
use Rattle.z_types.specs.declared.replies.Reply.TheVariants as reply
use Rattle.z_types.specs.declared.scan.ScanAnswer.{ScanAnswer}
use Rattle.gw_outside.specs.declared.backends.Heard.{Heard}
use Rattle.gw_outside.specs.declared.backends.Heard.TheVariants.{Opened, Hits, Refused, Items, Gone, Scanned, NotYet, Failed, Memory}
use Rattle.gw_outside.specs.Replies.{accepts, search_said, present_said, scan_said, says_gone, gone_said}
use Rattle.z_client.specs.Heard.{heard_of, opening_heard, search_heard, records_heard, scan_heard}
use Rattle.z_client.proofs.TrueReplies.{heard_if, heard_is}

-- that a set is gone
abbrev pub gone_in : Heard → Bool
gone_in Gone = true
gone_in Opened = false
gone_in (Hits hits) = false
gone_in (Refused diag) = false
gone_in (Items items) = false
gone_in (Scanned answer) = false
gone_in NotYet = false
gone_in Failed = false
gone_in Memory = false

opening_gone : (answer : Reply) (heard : Heard) → opening_heard answer ≡ Some heard → says_gone answer ≡ gone_in heard
opening_gone (reply.Init init result) heard e = heard_if (λ h. false ≡ gone_in h) (accepts (reply.Init init result)) Opened heard refl e
opening_gone (reply.Search ref_id count returned next ok status body) heard e = absurd cc
opening_gone (reply.Present ref_id returned next status body) heard e = absurd cc
opening_gone (reply.Scan ref_id status answer diags) heard e = absurd cc
opening_gone (reply.Close close) heard e = absurd cc

hits_not_gone : (said : Option (Result ℕ Diag)) (heard : Heard) → option_and_then search_heard said ≡ Some heard → false ≡ gone_in heard
hits_not_gone None heard e = absurd cc
hits_not_gone (Some (Ok hits)) heard e = heard_if (λ h. false ≡ gone_in h) (nat_le hits most_number) (Hits hits) heard refl e
hits_not_gone (Some (Err diag)) heard e = heard_is (λ h. false ≡ gone_in h) (Refused diag) heard refl e

search_gone : (answer : Reply) (heard : Heard) → option_and_then search_heard (search_said answer) ≡ Some heard → says_gone answer ≡ gone_in heard
search_gone (reply.Search ref_id count returned next ok status body) heard e = hits_not_gone (search_said (reply.Search ref_id count returned next ok status body)) heard e
search_gone (reply.Init init result) heard e = absurd cc
search_gone (reply.Present ref_id returned next status body) heard e = absurd cc
search_gone (reply.Scan ref_id status answer diags) heard e = absurd cc
search_gone (reply.Close close) heard e = absurd cc

scan_not_gone : (said : Option (Result ScanAnswer Diag)) (heard : Heard) → option_map scan_heard said ≡ Some heard → false ≡ gone_in heard
scan_not_gone None heard e = absurd cc
scan_not_gone (Some (Ok answer)) heard e = heard_is (λ h. false ≡ gone_in h) (Scanned answer) heard refl e
scan_not_gone (Some (Err diag)) heard e = heard_is (λ h. false ≡ gone_in h) (Refused diag) heard refl e

scan_gone : (answer : Reply) (heard : Heard) → option_map scan_heard (scan_said answer) ≡ Some heard → says_gone answer ≡ gone_in heard
scan_gone (reply.Scan ref_id status answer diags) heard e = scan_not_gone (scan_said (reply.Scan ref_id status answer diags)) heard e
scan_gone (reply.Init init result) heard e = absurd cc
scan_gone (reply.Search ref_id count returned next ok status body) heard e = absurd cc
scan_gone (reply.Present ref_id returned next status body) heard e = absurd cc
scan_gone (reply.Close close) heard e = absurd cc

diag_gone : (b : Bool) (diag : Diag) (heard : Heard) → Some (cond b Gone (Refused diag)) ≡ Some heard → b ≡ gone_in heard
diag_gone true diag heard e = heard_is (λ h. true ≡ gone_in h) Gone heard refl e
diag_gone false diag heard e = heard_is (λ h. false ≡ gone_in h) (Refused diag) heard refl e

present_gone : (count : ℕ) (said : Option (Result (List Item) Diag)) (heard : Heard) → option_and_then (records_heard count) said ≡ Some heard → gone_said said ≡ gone_in heard
present_gone count None heard e = absurd cc
present_gone count (Some (Ok items)) heard e =
    heard_if (λ h. false ≡ gone_in h) (nat_le 1 (length items) && nat_le (length items) count) (Items items) heard refl e
present_gone count (Some (Err diag)) heard e = diag_gone (is_gone diag) diag heard e

-- of a reply to what is pending
pub heard_gone : (p : Pending) (answer : Reply) (heard : Heard) → heard_of p answer ≡ Some heard → says_gone answer ≡ gone_in heard
heard_gone resting answer heard e = absurd cc
heard_gone broken answer heard e = absurd cc
heard_gone opening answer heard e = opening_gone answer heard e
heard_gone (asked (Search name key)) answer heard e = search_gone answer heard e
heard_gone (asked (Present name first count syntax element)) answer heard e = present_gone count (present_said answer) heard e
heard_gone (asked (Scan dbs ask)) answer heard e = scan_gone answer heard e
