-- What comes and the end of the input leave a client resting
use Rattle.std.proofs.Common.{◌≡◌, ◌∙◌, ℕ, Bool, true, false, List, [], ◌∷◌, ◌++◌, Option, None, Some, refl, sym, subst, append_assoc}
use Rattle.std.specs.Prelude.{if◌then◌else◌}
use Rattle.std.specs.Char.{is_ascii_alphabetic}
use Rattle.z_types.specs.declared.marks.End.{End}
use Rattle.z_types.specs.declared.sitting.Sitting as sitting
use Rattle.z_types.specs.declared.work.Work.{Work}
use Rattle.z_types.specs.declared.world.World as world
use Rattle.route_config.specs.declared.route.Route.{Route}
use Rattle.replay.specs.gateway_rules.Answers as kind
use Rattle.replay.specs.gateway_rules.Answers.{Kind, kind_of}
use Rattle.replay.specs.gateway_rules.OneAnswer.{AreMarksPlain}
use Rattle.replay.specs.front_conn.steps.Feeding.{fed_piece, with_end, with_piece}
use Rattle.replay.specs.front_conn.steps.States.{ConnectionState, MayCome}
use Rattle.replay.specs.front_conn.steps.Totals.{totals_for}
use Rattle.replay.specs.front_conn_costs.steps.Conns.{AreTotalsOf}
use Rattle.replay.proofs.front_conn_costs.TotalLemmas.{none-made}
use Rattle.front_conn_works.specs.steps.Begun.{HasBegun}
use Rattle.front_conn_works.specs.steps.Laws.{StaysSoBegun}
use Rattle.front_conn_works.proofs.BegunLemmas.{going-of, none-begun}
use Rattle.replay.specs.Clients.{ClientState, new_client}
use Rattle.replay.specs.Trace.{with_no_more, with_octets}
use Rattle.replay_shares.specs.Works.{AskByHead}
use Rattle.replay_shares.specs.steps.Laws.{ClientLaws}
use Rattle.replay_shares.specs.steps.Resting.{HasAsked, HasAskedAs, HasAskedGet, IsResting}

ended-comes : (has_ended : Bool) (more : List ℕ) → MayCome true more → MayCome has_ended more
ended-comes true more h = h
ended-comes false more h = tt

may-come : (has_ended : Bool) (more : List ℕ) → has_ended ≡ false → MayCome has_ended more
may-come true more h = absurd cc
may-come false more h = tt

module _ {W S : Type 0} (w : world.Ghosts W) (route : Route) (asked : List Work) where
  -- ---- a GET

  get-fed : (octets piece : List ℕ) (conn : ConnectionState S) (end : Option End) → conn.end ≡ end → conn.has_ended ≡ false
      → HasAskedGet w route octets conn asked end
      → HasAskedGet w route (octets ++ piece) (fed_piece end conn piece) asked (fed_piece end conn piece).end
  get-fed octets piece conn None is unended h = subst (λ (e : Option End). HasAskedGet w route (octets ++ piece) (record conn { left = conn.left ++ piece }) asked e) (sym is) h
  get-fed octets piece conn (Some end) is unended h =
      subst (λ (e : Option End). HasAskedGet w route (octets ++ piece) conn asked e) (sym is) (λ more may.
      subst (λ (o : List ℕ). AskByHead w route o asked) (sym (append_assoc octets piece more))
      (h (piece ++ more) (may-come conn.has_ended (piece ++ more) unended)))

  get-ended : (octets : List ℕ) (conn : ConnectionState S) (end : Option End) → HasAskedGet w route octets conn asked end
      → HasAskedGet w route octets (with_end conn) asked end
  get-ended octets conn None h = h
  get-ended octets conn (Some end) h = λ more may. h more (ended-comes conn.has_ended more may)

  as-ended : (octets : List ℕ) (conn : ConnectionState S) (is : Kind) → StaysSoBegun w S → HasAskedAs w route octets conn asked is
      → HasAskedAs w route octets (with_end conn) asked is
  as-ended octets conn kind.empty law h = (law route octets conn asked h).ended
  as-ended octets conn kind.unit law h = (law route octets conn asked h).ended
  as-ended octets conn kind.letter law h = get-ended octets conn conn.end h

  -- ---- octets behind others

  kind-fed : (octet : ℕ) (octets piece : List ℕ) (conn : ConnectionState S) (letter : Bool) → StaysSoBegun w S → conn.has_ended ≡ false
      → HasAskedAs w route (octet ∷ octets) conn asked (if letter then kind.letter else kind.unit)
      → HasAskedAs w route ((octet ∷ octets) ++ piece) (with_piece conn piece) asked (if letter then kind.letter else kind.unit)
  kind-fed octet octets piece conn true law unended h = get-fed (octet ∷ octets) piece conn conn.end refl unended h
  kind-fed octet octets piece conn false law unended h = (law route (octet ∷ octets) conn asked h).fed_on piece unended

  first-by : (piece : List ℕ) (conn : ConnectionState S) (is : Kind) → conn.end ≡ None → asked ≡ []
      → HasBegun w route piece (with_piece conn piece) asked → HasAskedAs w route piece (with_piece conn piece) asked is
  first-by piece conn kind.empty goes none h = h
  first-by piece conn kind.unit goes none h = h
  first-by piece conn kind.letter goes none h =
      subst (λ (e : Option End). HasAskedGet w route piece (fed_piece conn.end conn piece) asked (fed_piece e conn piece).end) (sym goes)
      (subst (λ (e : Option End). HasAskedGet w route piece (fed_piece conn.end conn piece) asked e) (sym goes) none)

module _ {W S : Type 0} (w : world.Ghosts W) (t : sitting.Ghosts S W) (laws : ClientLaws w t) (route : Route) where
  none-at-first : (octets : List ℕ) (conn : ConnectionState S) (asked : List Work) → octets ≡ [] → conn.end ≡ None
      → HasBegun w route octets conn asked → asked ≡ []
  none-at-first octets conn asked first goes h =
      none-begun w route conn.left octets conn.marks asked (going-of w route octets conn asked goes h) first

  asked-fed : (octets piece : List ℕ) (conn : ConnectionState S) (asked : List Work) → conn.has_ended ≡ false
      → (octets ≡ [] → conn.end ≡ None) → HasAsked w route octets conn asked
      → HasAsked w route (octets ++ piece) (with_piece conn piece) asked
  asked-fed [] piece conn asked unended waits h =
      let begun : HasBegun w route [] conn asked = h in
      first-by w route asked piece conn (kind_of piece) (waits refl) (none-at-first [] conn asked refl (waits refl) begun)
      ((laws.begun route [] conn asked begun).fed_on piece unended)
  asked-fed (octet ∷ octets) piece conn asked unended waits h =
      kind-fed w route asked octet octets piece conn (is_ascii_alphabetic octet) laws.begun unended h

  module _ (most : ℕ) (octets : List ℕ) (asked : List Work) (client : ClientState S) where
    nothing-came : (piece : List ℕ) → octets ++ piece ≡ [] → octets ≡ []
    nothing-came piece e = empty-front octets e where
      empty-front : (xs : List ℕ) → xs ++ piece ≡ [] → xs ≡ []
      empty-front [] e = refl
      empty-front (x ∷ xs) e = absurd cc

    fed-end : (piece : List ℕ) (end : Option End) → client.conn.end ≡ end → end ≡ None → (fed_piece end client.conn piece).end ≡ None
    fed-end piece None is goes = is
    fed-end piece (Some end) is goes = absurd cc

    fed-same : {A : Type 0} (f : ConnectionState S → A) → ((left : List ℕ) → f (record client.conn { left = left }) ≡ f client.conn)
        → (piece : List ℕ) (end : Option End) → f (fed_piece end client.conn piece) ≡ f client.conn
    fed-same f same piece None = same (client.conn.left ++ piece)
    fed-same f same piece (Some end) = refl

    -- what comes, where the input has not ended
    pub rests-fed : (piece : List ℕ) → IsResting w t route most octets false asked client
        → IsResting w t route most (octets ++ piece) false asked (with_octets piece client)
    rests-fed piece h =
        let end = client.conn.end in record {
          of = (laws.of route most client.conn h.of).fed piece;
          stands = laws.fed route octets client.written piece client.conn h.input h.stands;
          input = fed-same (λ c. c.has_ended) (λ left. refl) piece end ∙ h.input;
          rests = fed-same (λ c. c.in_work) (λ left. refl) piece end ∙ h.rests;
          made = subst (λ ts. AreTotalsOf route (totals_for route ts)) (sym (fed-same (λ c. c.totals) (λ left. refl) piece end)) h.made;
          plain = subst AreMarksPlain (sym (fed-same (λ c. c.marks) (λ left. refl) piece end)) h.plain;
          has_asked = asked-fed octets piece client.conn asked h.input (λ first. h.waits first refl) h.has_asked;
          waits = λ first unended. fed-end piece client.conn.end refl (h.waits (nothing-came piece first) refl);
        }

    -- the end of the input
    pub rests-ended : (ended : Bool) → IsResting w t route most octets ended asked client
        → IsResting w t route most octets true asked (with_no_more client)
    rests-ended ended h = record {
      of = (laws.of route most client.conn h.of).ended;
      stands = laws.ended route octets client.written client.conn h.stands;
      input = refl;
      rests = h.rests;
      made = h.made;
      plain = h.plain;
      has_asked = as-ended w route asked octets client.conn (kind_of octets) laws.begun h.has_asked;
      waits = λ first unended. absurd cc;
    }

  -- a client of which nothing is known
  pub rests-first : (most : ℕ) → IsResting w t route most [] false [] (new_client {S = S})
  rests-first most = record {
    of = λ goes. record { sets = tt; in_work = tt; one_work = tt };
    stands = laws.start route;
    input = refl;
    rests = refl;
    made = none-made route;
    plain = tt;
    has_asked = laws.none route;
    waits = λ first unended. refl;
  }
