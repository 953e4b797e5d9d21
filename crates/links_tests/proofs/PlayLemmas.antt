-- What may be asked of a session that is played, and what it has after an answer (this project's own)
use Rattle.std.proofs.Common.{◌≡◌, ◌∙◌, ℕ, List, Option, None, Some, sym, subst, arith}
use Rattle.z_types.specs.Pending.{Pending, IsPending, asked}
use Rattle.z_types.specs.declared.ask.Ask.{Ask}
use Rattle.z_types.specs.declared.ask.Ask.TheVariants.{Search, Present, Scan}
use Rattle.z_types.specs.declared.key.SetKey.{SetKey}
use Rattle.z_types.specs.declared.sitting.Sitting as sitting
use Rattle.gw_outside.specs.Asks.{MayAsk}
use Rattle.gw_outside.specs.Sessions.{Made, made_after, pending_after}
use Rattle.gw_outside.specs.declared.backends.Heard.{Heard}
use Rattle.gw_outside.specs.declared.backends.Heard.TheVariants.{Opened, Hits, Refused, Items, Gone, Scanned, NotYet, Failed, Memory}
use Rattle.links_tests.specs.Stories.{set_name, MayAskOf, HasHits, IsOwn, IsStage, hits_after, stage_after, awaited}

-- ---- what may be asked

-- a session whose set has `hits` records may be asked
pub may_ask : (made : Made) (ask : Ask) (hits : ℕ) → HasHits made hits → MayAskOf hits ask → MayAsk made ask
may_ask made (Search name key) hits has h = rw h.0 h.1
may_ask made (Present name first count syntax element) hits has h =
    let set = has (omega (arith, h.1.from_one, h.1.some, h.1.within)) in
    rw h.0 (record {
      key = set.0;
      hits = hits;
      is_made = set.1;
      short = omega arith;
      from_one = h.1.from_one;
      some = h.1.some;
      within = h.1.within;
      first_number = h.1.first_number;
      count_number = h.1.count_number;
      short_element = h.2;
    })
may_ask made (Scan dbs ask) hits has h = h

-- ---- what is awaited and heard

-- a reply is awaited
pub awaits_reply : (p : Pending) (ask : Option Ask) → p ≡ awaited ask → IsPending p
awaits_reply p None e = rw e tt
awaits_reply p (Some ask) e = rw e tt

-- where each name keeps its set, the set keeps its records
pub hits_stay : (old new : Made) (hits : ℕ) → ((name : List ℕ) → new name ≡ old name) → HasHits old hits → HasHits new hits
hits_stay old new hits same has some = let set = has some in (set.0, same set_name ∙ set.1)

searched : (key : SetKey) (heard : Heard) (old new : Made) (hits : ℕ)
    → ((name : List ℕ) → new name ≡ made_after (asked (Search set_name key)) heard old name)
    → HasHits old hits → HasHits new (hits_after (Some (Search set_name key)) heard hits)
searched key (Hits found) old new hits after has some = (key, after set_name)
searched key (Refused diag) old new hits after has some = absurd (omega (arith, some))
searched key Opened old new hits after has some = let set = has some in (set.0, after set_name ∙ set.1)
searched key (Items items) old new hits after has some = let set = has some in (set.0, after set_name ∙ set.1)
searched key Gone old new hits after has some = let set = has some in (set.0, after set_name ∙ set.1)
searched key (Scanned answer) old new hits after has some = let set = has some in (set.0, after set_name ∙ set.1)
searched key NotYet old new hits after has some = let set = has some in (set.0, after set_name ∙ set.1)
searched key Failed old new hits after has some = let set = has some in (set.0, after set_name ∙ set.1)
searched key Memory old new hits after has some = let set = has some in (set.0, after set_name ∙ set.1)

-- after what is heard the set has the records that the last search under its name found
pub hits_heard : (p : Pending) (ask : Option Ask) (heard : Heard) (old new : Made) (hits : ℕ) → p ≡ awaited ask → IsOwn ask
    → ((name : List ℕ) → new name ≡ made_after p heard old name) → HasHits old hits → HasHits new (hits_after ask heard hits)
hits_heard p None heard old new hits e own after has =
    hits_stay old new hits (λ name. subst (λ q. new name ≡ made_after q heard old name) e (after name)) has
hits_heard p (Some (Present name first count syntax element)) heard old new hits e own after has =
    hits_stay old new hits (λ n. subst (λ q. new n ≡ made_after q heard old n) e (after n)) has
hits_heard p (Some (Scan dbs ask)) heard old new hits e own after has =
    hits_stay old new hits (λ n. subst (λ q. new n ≡ made_after q heard old n) e (after n)) has
hits_heard p (Some (Search name key)) heard old new hits e own after has =
    subst (λ own. HasHits new (hits_after (Some (Search own key)) heard hits)) (sym own)
    (searched key heard old new hits
    (λ n. subst (λ own. new n ≡ made_after (asked (Search own key)) heard old n) own
    (subst (λ q. new n ≡ made_after q heard old n) e (after n))) has)

-- so it stands at the stage that follows
pub heard_stage : {W S : Type 0} (t : sitting.Ghosts S W) (p : Pending) (session : S) (ask : Option Ask) (heard : Heard) (old : Made) (hits : ℕ)
    → t.pending session ≡ pending_after p heard → p ≡ awaited ask → IsOwn ask
    → ((name : List ℕ) → t.made session name ≡ made_after p heard old name) → HasHits old hits
    → IsStage t (stage_after session ask heard) (hits_after ask heard hits)
heard_stage t p session ask NotYet old hits e a own after has =
    record { pending = e ∙ a; own = own; has = hits_heard p ask NotYet old (t.made session) hits a own after has }
heard_stage t p session ask Failed old hits e a own after has = tt
heard_stage t p session ask Memory old hits e a own after has = tt
heard_stage t p session ask Opened old hits e a own after has =
    record { pending = e; has = hits_heard p ask Opened old (t.made session) hits a own after has }
heard_stage t p session ask (Hits found) old hits e a own after has =
    record { pending = e; has = hits_heard p ask (Hits found) old (t.made session) hits a own after has }
heard_stage t p session ask (Refused diag) old hits e a own after has =
    record { pending = e; has = hits_heard p ask (Refused diag) old (t.made session) hits a own after has }
heard_stage t p session ask (Items items) old hits e a own after has =
    record { pending = e; has = hits_heard p ask (Items items) old (t.made session) hits a own after has }
heard_stage t p session ask Gone old hits e a own after has =
    record { pending = e; has = hits_heard p ask Gone old (t.made session) hits a own after has }
heard_stage t p session ask (Scanned answer) old hits e a own after has =
    record { pending = e; has = hits_heard p ask (Scanned answer) old (t.made session) hits a own after has }
