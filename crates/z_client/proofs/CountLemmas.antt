-- What a backend counts by what its wire does (this project's own)
use Rattle.std.proofs.Common.{arith, ◌∙◌, ℕ, Bool, false, List, refl, ap}
use Rattle.z_types.specs.Counts.{one_more}
use Rattle.z_types.specs.declared.ask.Ask.{Ask}
use Rattle.z_types.specs.declared.ask.Ask.TheVariants.{Search, Present, Scan}
use Rattle.z_types.specs.declared.requests.Request.{Request}
use Rattle.gw_outside.specs.Counts.{Counts, Counted, WireCounts, nothing}
use Rattle.gw_outside.specs.declared.wires.Sent.{Sent}
use Rattle.gw_outside.specs.declared.wires.Sent.TheVariants as sent
use Rattle.gw_outside.specs.Sessions.{start_counted}
use Rattle.gw_outside.specs.Wires.{SendCounts, IsRequestUnit, send_counted}
use Rattle.z_client.specs.Units.{request_of, began_by}

-- ---- a wire's counts

-- nothing was called
pub uncounted : (exact : Bool) (counts : Counts) → WireCounts exact nothing counts counts
uncounted exact counts = record { waits = refl; faults = omega arith; failed = λ e. absurd cc; exactly = λ e. refl }

-- a call after others that counted nothing
pub counted_more : (exact : Bool) (call : Counted) (old mid new : Counts) → WireCounts false nothing old mid → WireCounts exact call mid new → WireCounts false call old new
counted_more exact call old mid new c d = record {
  waits = d.waits ∙ ap (λ n. one_more call.wait n) c.waits;
  faults = omega (arith, c.faults, d.faults);
  failed = λ e. omega (arith, c.faults, d.failed e);
  exactly = λ e. absurd cc;
}

-- what is sent is a request
pub sent_counts : (exact : Bool) (unit : List ℕ) (request : Request) (answer : Sent) (old new : Counts) → IsRequestUnit unit request → SendCounts exact unit answer old new
    → WireCounts exact (send_counted request answer) old new
sent_counts exact unit request answer old new is c =
    let some = c.some request in
    record { waits = some.waits; faults = some.faults; failed = some.failed; exactly = λ e. c.exactly request is e }

-- what a session sends
pub asked_counts : (exact : Bool) (unit : List ℕ) (ask : Ask) (answer : Sent) (old new : Counts) → IsRequestUnit unit (request_of ask) → SendCounts exact unit answer old new
    → WireCounts exact (start_counted ask (began_by answer)) old new
asked_counts exact unit (Search name key) sent.Sent old new is c = sent_counts exact unit (request_of (Search name key)) sent.Sent old new is c
asked_counts exact unit (Present name first count syntax element) sent.Sent old new is c =
    sent_counts exact unit (request_of (Present name first count syntax element)) sent.Sent old new is c
asked_counts exact unit (Scan dbs ask) sent.Sent old new is c = sent_counts exact unit (request_of (Scan dbs ask)) sent.Sent old new is c
asked_counts exact unit ask sent.Failed old new is c = sent_counts exact unit (request_of ask) sent.Failed old new is c
asked_counts exact unit ask sent.Memory old new is c = sent_counts exact unit (request_of ask) sent.Memory old new is c
