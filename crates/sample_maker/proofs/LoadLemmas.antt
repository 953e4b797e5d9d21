-- loads of one client more, and that a script may have their events
use Rattle.std.proofs.Common.{◌≡◌, ◌∙◌, ◌≤◌, ◌<◌, ◌+◌, ◌*◌, ℕ, zero, suc, false, List, [], ◌∷◌, ◌++◌, length, refl, sym, ap, subst, arith, append_assoc, append-nil}
use Rattle.std.specs.List.{flat_map, range_with_len}
use Rattle.std.proofs.lemmas.Grind.{flat_map-append}
use Rattle.std.proofs.lemmas.List.{length-append}
use Rattle.std.proofs.lemmas.List.FromFn.{length-range_with_len}
use Rattle.script.specs.declared.event.Event.{Event}
use Rattle.script.specs.declared.event.Event.TheVariants.{Feed, Run}
use Rattle.script.specs.Events.{AreEvents, has_ended, most_clients, most_events}
use Rattle.script.proofs.OrderLemmas.{events_more, no_events}
use Rattle.sample_maker.specs.Load.{client_events, letter_of, load_events, octets_for}

-- one number more
next : (first many last : ℕ) → first + many ≡ last → range_with_len first (suc many) ≡ range_with_len first many ++ last ∷ []
next first zero last e = let same : first ≡ last = omega (arith, e) in ap (λ number. number ∷ []) same
next first (suc many) last e = ap (λ numbers. first ∷ numbers) (next (first + 1) many last (omega (arith, e)))

range_with_len-more : (first many last : ℕ) → first + many ≡ last → range_with_len first (many + 1) ≡ range_with_len first many ++ last ∷ []
range_with_len-more first many last e = let on : many + 1 ≡ suc many = omega arith in ap (range_with_len first) on ∙ next first many last e

-- no client
pub no_load : load_events 0 ≡ []
unfolding load_events
no_load = refl

-- one client more
pub load_events-more : (clients : ℕ) → load_events (clients + 1) ≡ load_events clients ++ client_events (clients + 1)
unfolding load_events
load_events-more clients =
    let range : range_with_len 1 (clients + 1) ≡ range_with_len 1 clients ++ (clients + 1) ∷ [] = range_with_len-more 1 clients (clients + 1) (omega arith) in
    ap (flat_map client_events) range ∙ flat_map-append client_events (range_with_len 1 clients) ((clients + 1) ∷ [])
    ∙ ap (λ own. flat_map client_events (range_with_len 1 clients) ++ own) (append-nil (client_events (clients + 1)))

-- there are two events of each client
length-flat : (clients : List ℕ) → length (flat_map client_events clients) ≡ 2 * length clients
length-flat [] = refl
length-flat (client ∷ clients) = omega (arith, length-flat clients)

length-load : (clients : ℕ) → length (load_events clients) ≡ 2 * clients
unfolding load_events
length-load clients = length-flat (range_with_len 1 clients) ∙ ap (λ many. 2 * many) (length-range_with_len 1 clients)

-- and none ends an input
never_ended : (clients : List ℕ) (client : ℕ) → has_ended (flat_map client_events clients) client ≡ false
never_ended [] client = refl
never_ended (other ∷ clients) client = never_ended clients client

load-never_ended : (clients client : ℕ) → has_ended (load_events clients) client ≡ false
unfolding load_events
load-never_ended clients client = never_ended (range_with_len 1 clients) client

-- a client that is fed and run behind events that do not end its input
client_more : (targets client : ℕ) (events : List Event) → AreEvents targets events → has_ended events client ≡ false → 1 ≤ client → client ≤ most_clients
    → length events + 1 < most_events → AreEvents targets (events ++ client_events client)
client_more targets client events are going low high few =
    let feed = Feed client (octets_for (letter_of client)) in
    let fed = events_more targets events feed are (low, high) (rw going refl) (omega (arith, few)) in
    let run = events_more targets (events ++ feed ∷ []) (Run client) fed (low, high) refl (rw (length-append events (feed ∷ [])) (omega (arith, few))) in
    subst (AreEvents targets) (append_assoc events (feed ∷ []) (Run client ∷ [])) run

-- the events of as many clients as a script may have
pub load-playable : (targets clients : ℕ) → clients ≤ most_clients → AreEvents targets (load_events clients)
load-playable targets zero h = subst (AreEvents targets) (sym no_load) (no_events targets)
load-playable targets (suc last) h =
    let on : suc last ≡ last + 1 = omega arith in
    let before = load-playable targets last (omega (arith, h)) in
    let more = client_more targets (last + 1) (load_events last) before (load-never_ended last (last + 1)) (omega arith) (omega (arith, h)) (omega (arith, length-load last, h)) in
    subst (AreEvents targets) (sym (ap load_events on ∙ load_events-more last)) more
