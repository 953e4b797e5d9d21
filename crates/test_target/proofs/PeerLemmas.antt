-- The peer of a test target answers as its world says (this project's own)
use Rattle.z_types.specs.Logins.{inside}
use Rattle.z_types.specs.declared.address.Address.TheVariants.{Test}
use Rattle.test_target.specs.World.{number_inside, search_of, record_of, scan_of}
use Rattle.std.proofs.Common.{◌≡◌, ◌∙◌, ℕ, zero, suc, ℤ, pos, ◌+◌, ◌-◌, ◌≤◌, ◌<◌, ◌==◌, ◌&&◌, Bool, true, false, cond, not, List, [], ◌∷◌, ◌++◌, append_assoc, length, map, Option, None, Some, Result, Ok, Err, refl, sym, ap, subst, arith, min}
use Rattle.std.specs.Prelude.{bit_and, nat_le, IfOk, OnOk}
use Rattle.std.proofs.lemmas.Nat.{and_assoc}
use Rattle.std.proofs.lemmas.List.{length-map}
use Rattle.std.proofs.lemmas.Bool.{le-leb}
use Rattle.z_types.specs.equality.Tests.{text_exact}
use Rattle.z_types.specs.declared.address.Address.{Address}
use Rattle.z_types.specs.declared.diagnostic.Diag.{Diag}
use Rattle.z_types.specs.declared.key.SetKey.{SetKey}
use Rattle.z_types.specs.declared.records.Item.{Item}
use Rattle.z_types.specs.declared.records.NamedRecord.{NamedRecord}
use Rattle.z_types.specs.declared.replies.Reply.{Reply}
use Rattle.z_types.specs.declared.requests.Asked.{Asked}
use Rattle.z_types.specs.declared.requests.Asked.TheVariants.{Good, Bad}
use Rattle.z_types.specs.declared.requests.Search.{Search}
use Rattle.z_types.specs.declared.requests.Present.{Present}
use Rattle.z_types.specs.declared.requests.Scan.{Scan}
use Rattle.z_types.specs.declared.requests.Request.{Request}
use Rattle.z_types.specs.declared.requests.Request.TheVariants as request
use Rattle.z_types.specs.declared.query.RpnQuery.{RpnQuery}
use Rattle.z_types.specs.declared.scan.ScanAsk.{ScanAsk}
use Rattle.z_types.specs.declared.scan.ScanAnswer.{ScanAnswer}
use Rattle.z_types.specs.declared.world.World as world
use Rattle.z_types.specs.Same.{is_same}
use Rattle.gw_outside.specs.Peers.{NamedSet, held, set_of, ArePut, OthersStay, AreRecords, IsPresented, SearchAnswered, PresentAnswered, ScanAnswered, IsPeerStep}
use Rattle.z_types.specs.Services.{named_result_sets, own_options, has_named_result_sets}
use Rattle.gw_outside.specs.Replies.{search_said, present_said, scan_said}
use Rattle.test_target.specs.Searches.{search_at}
use Rattle.test_target.specs.Records.{record_at}
use Rattle.test_target.specs.Scans.{scan_at}
use Rattle.test_target.specs.Peer.{searched, search_reply, without, with_set, sets_after_search, with_record, given, unnamed, records_reply, presented, first_within, hits_or_none, hits_of, reply_from, set_reply, present_reply, scanned, scan_reply, reply_to, sets_after}

-- ---- result sets by their names

-- a name that is another one is not found under the own one
other_name : (own name first : List ℕ) → is_same own name ≡ false → is_same first own ≡ true → is_same first name ≡ false
other_name own name first e f = ap (λ n. is_same n name) (text_exact first own f) ∙ e

skip_own : (b : Bool) (own name : List ℕ) (first : NamedSet) (rest : List NamedSet) → is_same own name ≡ false → is_same first.0 own ≡ b
    → held (without own rest) name ≡ held rest name
    → held (cond (not b) (first ∷ without own rest) (without own rest)) name ≡ cond (is_same first.0 name) (Some first.1) (held rest name)
skip_own true own name first rest e f h =
    h ∙ sym (ap (λ c. cond c (Some first.1) (held rest name)) (other_name own name first.0 e f))
skip_own false own name first rest e f h = ap (λ o. cond (is_same first.0 name) (Some first.1) o) h

-- the sets of other names stay
held_without : (own name : List ℕ) (sets : List NamedSet) → is_same own name ≡ false → held (without own sets) name ≡ held sets name
held_without own name [] e = refl
held_without own name (first ∷ rest) e =
    skip_own (is_same first.0 own) own name first rest e refl (held_without own name rest e)

none_of_own : (b : Bool) (own : List ℕ) (first : NamedSet) (rest : List NamedSet) → is_same first.0 own ≡ b
    → held (without own rest) own ≡ None
    → held (cond (not b) (first ∷ without own rest) (without own rest)) own ≡ None
none_of_own true own first rest f h = h
none_of_own false own first rest f h = ap (λ c. cond c (Some first.1) (held (without own rest) own)) f ∙ h

-- the own name has none
none_held : (own : List ℕ) (sets : List NamedSet) → held (without own sets) own ≡ None
none_held own [] = refl
none_held own (first ∷ rest) = none_of_own (is_same first.0 own) own first rest refl (none_held own rest)

put_at : (b : Bool) (own name : List ℕ) (set : Option SetKey) (sets : List NamedSet) → is_same own name ≡ b
    → held (with_set own set sets) name ≡ cond b set (held sets name)
put_at true own name None sets e =
    ap (λ n. held (without own sets) n) (sym (text_exact own name e)) ∙ none_held own sets
put_at true own name (Some key) sets e = ap (λ c. cond c (Some key) (held (without own sets) name)) e
put_at false own name None sets e = held_without own name sets e
put_at false own name (Some key) sets e =
    ap (λ c. cond c (Some key) (held (without own sets) name)) e ∙ held_without own name sets e

-- a name has the set that was put under it, and the others have theirs
are_put : (own : List ℕ) (set : Option SetKey) (sets : List NamedSet) → ArePut own set sets (with_set own set sets)
are_put own set sets name = put_at (is_same own name) own name set sets refl

others_stay : (own : List ℕ) (set : Option SetKey) (sets : List NamedSet) → OthersStay own sets (with_set own set sets)
others_stay own set sets name e = put_at false own name set sets e

-- ---- records

given_at : (found : ℕ → Result Item Diag) (first : ℕ) (items : List Item) (answer : Result Item Diag) → found first ≡ answer
    → AreRecords found (first + 1) items → AreRecords found first (with_record answer items)
given_at found first items (Ok item) e h = (e, h)
given_at found first items (Err diag) e h = tt

given_are : (found : ℕ → Result Item Diag) (first count : ℕ) → AreRecords found first (given found first count)
given_are found first zero = tt
given_are found first (suc count) =
    given_at found first (given found (first + 1) count) (found first) refl (given_are found (first + 1) count)

fit_at : (items : List Item) (count : ℕ) (answer : Result Item Diag) → length items ≤ count → length (with_record answer items) ≤ suc count
fit_at items count (Ok item) h = omega (arith, h)
fit_at items count (Err diag) h = omega arith

given_fit : (found : ℕ → Result Item Diag) (first count : ℕ) → length (given found first count) ≤ count
given_fit found first zero = omega arith
given_fit found first (suc count) = fit_at (given found (first + 1) count) count (found first) (given_fit found (first + 1) count)

-- what is said of records under no name
said_again : (items : List Item) → map (λ named. named.item) (map unnamed items) ≡ items
said_again [] = refl
said_again (item ∷ items) = ap (λ rest. item ∷ rest) (said_again items)

presented_is : (found : ℕ → Result Item Diag) (present : Present) (first hits : ℕ) (answer : Result Item Diag) → found first ≡ answer
    → 1 ≤ present.number
    → IsPresented found first present.number (present_said (presented present first hits answer (given found (first + 1) (min present.number 5 - 1))))
presented_is found present first hits (Err diag) e p = e
presented_is found present first hits (Ok item) e p =
    let items = given found (first + 1) (min present.number 5 - 1) in
    subst (λ said. IsPresented found first present.number (Some (Ok said))) (sym (said_again (item ∷ items)))
    (omega arith, omega (arith, given_fit found (first + 1) (min present.number 5 - 1)), (e, given_are found (first + 1) (min present.number 5 - 1)))

some_same : {T : Type 0} {a b : T} → Some a ≡ Some b → a ≡ b
some_same e = cc

-- ---- records that are put one behind another

given_next : (found : ℕ → Result Item Diag) (position left : ℕ) (item : Item) → 0 < left → found position ≡ Ok item
    → given found position left ≡ item ∷ given found (position + 1) (left - 1)
given_next found position zero item h e = absurd (omega (arith, h))
given_next found position (suc left) item h e =
    ap (λ answer. with_record answer (given found (position + 1) left)) e
    ∙ ap (λ n. item ∷ given found (position + 1) n) (omega arith)

-- one record more, and those behind it
pub give_more : {E : Type 0} (found : ℕ → Result Item Diag) (position left : ℕ) (item : Item) (before mid after : List NamedRecord) (result : Result Unit E)
    → 0 < left → found position ≡ Ok item → mid ≡ before ++ unnamed item ∷ []
    → OnOk result (after ≡ mid ++ map unnamed (given found (position + 1) (left - 1)))
    → OnOk result (after ≡ before ++ map unnamed (given found position left))
give_more found position left item before mid after (Err error) h e m k = tt
give_more found position left item before mid after (Ok nothing) h e m k =
    let rest = map unnamed (given found (position + 1) (left - 1)) in
    k ∙ ap (λ front. front ++ rest) m ∙ append_assoc before (unnamed item ∷ []) rest
    ∙ ap (λ items. before ++ map unnamed items) (sym (given_next found position left item h e))

-- no more than one and those behind it
pub few_given : (found : ℕ → Result Item Diag) (position left : ℕ) (first : NamedRecord) (mid after : List NamedRecord) → mid ≡ first ∷ []
    → after ≡ mid ++ map unnamed (given found position left) → length after ≤ 1 + left
few_given found position left first mid after m k =
    subst (λ records. length records ≤ 1 + left) (sym (k ∙ ap (λ front. front ++ map unnamed (given found position left)) m))
    (omega (arith, length-map (given found position left) unnamed, given_fit found position left))

-- the reply with them
pub reply_with : {E : Type 0} (present : Present) (first hits : ℕ) (item : Item) (found : ℕ → Result Item Diag) (place count wanted : ℕ) (answer : Result Item Diag) (mid records : List NamedRecord) (result : Result Reply E)
    → answer ≡ Ok item → mid ≡ unnamed item ∷ [] → records ≡ mid ++ map unnamed (given found place (count - 1)) → count ≡ wanted
    → IfOk result (λ given_reply. given_reply ≡ records_reply present first hits records)
    → IfOk result (λ given_reply. given_reply ≡ presented present first hits answer (given found place (wanted - 1)))
reply_with present first hits item found place count wanted answer mid records (Err error) e m k c r = tt
reply_with present first hits item found place count wanted answer mid records (Ok given_reply) e m k c r =
    r ∙ ap (λ all. records_reply present first hits all) (k ∙ ap (λ front. front ++ map unnamed (given found place (count - 1))) m)
    ∙ ap (λ a. presented present first hits a (given found place (count - 1))) (sym e)
    ∙ ap (λ n. presented present first hits answer (given found place (n - 1))) c

all_true : (a b c : Bool) → a ≡ true → b ≡ true → c ≡ true → (a && b && c) ≡ true
all_true a b c p q r = grind arith

-- all that is asked for is within the hits
within_hits : (start : ℤ) (first number hits : ℕ) → start ≡ pos first → 1 ≤ first → 1 ≤ number → first + number ≤ hits + 1
    → first_within start number hits ≡ Some first
within_hits start first number hits e p q r =
    ap (λ s. first_within s number hits) e
    ∙ ap (λ b. cond b (Some first) None) (all_true (nat_le 1 first) (nat_le 1 number) (nat_le (first + number) (hits + 1)) (le-leb 1 first p) (le-leb 1 number q) (le-leb (first + number) (hits + 1) r))

-- ---- replies

options_kept : (options : ℕ) → bit_and (bit_and options own_options) named_result_sets ≡ bit_and options named_result_sets
options_kept options = and_assoc named_result_sets options own_options

-- an Init that asks for named result sets is accepted with them
named_kept : (options : ℕ) → has_named_result_sets options ≡ true → has_named_result_sets (bit_and options own_options) ≡ true
named_kept options e = ap (λ bits. not (bits == 0)) (options_kept options) ∙ e

search_answer : (ref_id : Option (List ℕ)) (answer : Result ℕ Diag) → search_said (searched ref_id answer) ≡ Some answer
search_answer ref_id (Ok hits) = refl
search_answer ref_id (Err diag) = refl

scan_answer : (ref_id : Option (List ℕ)) (answer : Result ScanAnswer Diag) → scan_said (scanned ref_id answer) ≡ Some answer
scan_answer ref_id (Ok answer) = refl
scan_answer ref_id (Err diag) = refl

-- what the world says of a target inside a login is what the target of that number answers
pub search_inside : (login : Option (List ℕ)) (n : ℕ) (key : SetKey) → search_of (inside login (Test n)) key ≡ search_at (number_inside login n) key
search_inside None n key = refl
search_inside (Some login) n key = refl

pub record_inside : (login : Option (List ℕ)) (n : ℕ) (key : SetKey) (position : ℕ) (syntax element : Option (List ℕ))
    → record_of (inside login (Test n)) key position syntax element ≡ record_at (number_inside login n) key position syntax element
record_inside None n key position syntax element = refl
record_inside (Some login) n key position syntax element = refl

pub scan_inside : (login : Option (List ℕ)) (n : ℕ) (dbs : List (List ℕ)) (ask : ScanAsk) → scan_of (inside login (Test n)) dbs ask ≡ scan_at (number_inside login n) dbs ask
scan_inside None n dbs ask = refl
scan_inside (Some login) n dbs ask = refl

-- the sets of other names stay at every Search
search_others : (n : ℕ) (search : Search) (query : Asked RpnQuery) (sets : List NamedSet)
    → OthersStay search.set_name sets (sets_after_search n search query sets)
search_others n asked (Good query) sets =
    let key : SetKey = record { dbs = asked.dbs; query = query } in
    others_stay asked.set_name (set_of key (search_at n key)) sets
search_others n asked (Bad diag) sets = others_stay asked.set_name None sets

module _ {W : Type 0} (w : world.Ghosts W) (address : Address) (n : ℕ) (hs : (key : SetKey) → w.search address key ≡ search_at n key) (hr : (key : SetKey) (position : ℕ) (syntax element : Option (List ℕ)) → w.record_ address key position syntax element ≡ record_at n key position syntax element) (hc : (dbs : List (List ℕ)) (ask : ScanAsk) → w.scan address dbs ask ≡ scan_at n dbs ask) where
  search_step : (search : Search) (query : Asked RpnQuery) (sets : List NamedSet)
      → SearchAnswered w address search query sets (sets_after_search n search query sets) (search_reply n search query)
  search_step asked (Good query) sets =
      let key : SetKey = record { dbs = asked.dbs; query = query } in
      λ replaces free. record {
        said = search_answer asked.ref_id (search_at n key) ∙ ap Some (sym (hs key));
        put = subst (λ answer. ArePut asked.set_name (set_of key answer) sets (with_set asked.set_name (set_of key (search_at n key)) sets)) (sym (hs key))
            (are_put asked.set_name (set_of key (search_at n key)) sets);
      }
  search_step asked (Bad diag) sets = tt

  scan_step : (scan : Scan) (asked : Asked ScanAsk) → ScanAnswered w address scan.dbs asked (scan_reply n scan asked)
  scan_step scan (Good ask) = scan_answer scan.ref_id (scan_at n scan.dbs ask) ∙ ap Some (sym (hc scan.dbs ask))
  scan_step scan (Bad diag) = tt

  from_first : (present : Present) (element : Option (List ℕ)) (key : SetKey) (first hits : ℕ) (place : Option ℕ) → place ≡ Some first
      → 1 ≤ present.number
      → IsPresented (λ position. record_at n key position present.syntax element) first present.number (present_said (reply_from n present element key place))
  from_first present element key first hits None e p = cc
  from_first present element key first hits (Some place) e p =
      subst (λ at. IsPresented (λ position. record_at n key position present.syntax element) at present.number (present_said (reply_from n present element key (Some place)))) (some_same e)
      (presented_is (λ position. record_at n key position present.syntax element) present place (hits_of n key) (record_at n key place present.syntax element) refl p)

  -- the world's records are the target's
  records_by : (key : SetKey) (present : Present) (element : Option (List ℕ)) (first : ℕ) (items : List Item)
      → AreRecords (λ position. record_at n key position present.syntax element) first items
      → AreRecords (λ position. w.record_ address key position present.syntax element) first items
  records_by key present element first [] h = tt
  records_by key present element first (item ∷ items) h =
      (hr key first present.syntax element ∙ h.0, records_by key present element (first + 1) items h.1)

  presented_by : (key : SetKey) (present : Present) (element : Option (List ℕ)) (first : ℕ) (said : Option (Result (List Item) Diag))
      → IsPresented (λ position. record_at n key position present.syntax element) first present.number said
      → IsPresented (λ position. w.record_ address key position present.syntax element) first present.number said
  presented_by key present element first None h = h
  presented_by key present element first (Some (Ok items)) h = (h.0, h.1, records_by key present element first items h.2)
  presented_by key present element first (Some (Err diag)) h = hr key first present.syntax element ∙ h

  bad_presented : (present : Present) (diag : Diag) (set : Option SetKey) (answer : Reply) → PresentAnswered w address present (Bad diag) set answer
  bad_presented present diag None answer = tt
  bad_presented present diag (Some key) answer = tt

  set_step : (present : Present) (element : Option (List ℕ)) (set : Option SetKey)
      → PresentAnswered w address present (Good element) set (set_reply n present element set)
  set_step present element None = (present.set_name, refl)
  set_step present element (Some key) = λ first hits e f p q r.
      let place = first_within present.start present.number (hits_of n key) in
      let same_hits = ap hits_or_none (sym (hs key) ∙ f) in
      let is = ap (λ h. first_within present.start present.number h) same_hits ∙ within_hits present.start first present.number hits e p q r in
      presented_by key present element first (present_said (reply_from n present element key place)) (from_first present element key first hits place is q)

  present_step : (present : Present) (asked : Asked (Option (List ℕ))) (sets : List NamedSet)
      → PresentAnswered w address present asked (held sets present.set_name) (present_reply n sets present asked)
  present_step present (Good element) sets = set_step present element (held sets present.set_name)
  present_step present (Bad diag) sets = bad_presented present diag (held sets present.set_name) (present_reply n sets present (Bad diag))

  -- each reply is a step of the peer
  peer_steps : (sets : List NamedSet) (req : Request) → IsPeerStep w address req sets (sets_after n sets req) (reply_to n sets req)
  peer_steps sets (request.Init init) = (λ name. refl, named_kept init.options)
  peer_steps sets (request.Search asked) = (search_others n asked asked.query sets, search_step asked asked.query sets)
  peer_steps sets (request.Present present) = (λ name. refl, present_step present present.element sets)
  peer_steps sets (request.Scan scan) = (λ name. refl, scan_step scan scan.ask)
  peer_steps sets (request.Close close) = λ name. refl

  step_as : (sets after : List NamedSet) (req : Request) (answer : Reply) → answer ≡ reply_to n sets req → after ≡ sets_after n sets req
      → IsPeerStep w address req sets after answer
  step_as sets after req answer e f =
      subst (λ held. IsPeerStep w address req sets held answer) (sym f)
      (subst (λ given. IsPeerStep w address req sets (sets_after n sets req) given) (sym e) (peer_steps sets req))

  -- where there is a reply
  pub step_if : {E : Type 0} (sets after : List NamedSet) (req : Request) (result : Result Reply E)
      → IfOk result (λ answer. answer ≡ reply_to n sets req) → OnOk result (after ≡ sets_after n sets req)
      → IfOk result (λ answer. IsPeerStep w address req sets after answer)
  step_if sets after req (Ok answer) e f = step_as sets after req answer e f
  step_if sets after req (Err error) e f = tt
