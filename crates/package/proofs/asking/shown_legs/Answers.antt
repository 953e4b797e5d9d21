use Rattle.std.proofs.Common.{◌≡◌, ◌∙◌, ℕ, map, true, false, ap, sym, arith}
use Rattle.std.specs.Prelude.{nat_lt}
use Rattle.z_types.specs.MergedOrder.{total}
use Rattle.z_types.specs.Shown.{shown}
use Rattle.package_rules.specs.Asked.{element_shown, places_shown}
use Rattle.package.specs.steps.Packages.{begun}
use Rattle.package.proofs.ThenLemmas.{has_room, none_asked, none_shown, too_many}
use Rattle.package.proofs.asking.shown_legs.Goals as goal

pub returns-then-count-eq0 : goal.returns-then-count-eq0
returns-then-count-eq0 g c =
    let w = c.in-Search in
    let hits = c.args.hits.now in
    let all : c.total-all.result ≡ total hits = c.total-all.ensures ∙ ap total c.as_slice.ensures in
    let none : shown (total hits) w.small w.large w.medium ≡ 0 =
    ap (λ (n : ℕ). shown n w.small w.large w.medium) (sym all) ∙ sym c.shown_count-count.ensures.shown ∙ c.if-count-eq0.true in
    rw w.is (c.new.ensures.items ∙ ap (map begun) (sym (none_asked c.args.route.now w.login w.legs w.query w.syntax
    (element_shown w.small w.small_element w.medium_element hits) (places_shown w.small w.large w.medium w.room hits)
    (none_shown w.small w.large w.medium w.room hits none))))

pub returns-then-room-count : goal.returns-then-room-count
returns-then-room-count g c =
    let w = c.in-Search in
    let hits = c.args.hits.now in
    let all : c.total-all.result ≡ total hits = c.total-all.ensures ∙ ap total c.as_slice.ensures in
    let count : c.shown_count-count.result ≡ shown (total hits) w.small w.large w.medium =
    c.shown_count-count.ensures.shown ∙ ap (λ (n : ℕ). shown n w.small w.large w.medium) all in
    let many : nat_lt w.room c.shown_count-count.result ≡ true = grind (arith, c.if-room-count.true) in
    rw w.is (c.new-then-room-count.ensures.items ∙ ap (map begun) (sym (none_asked c.args.route.now w.login w.legs w.query w.syntax
    (element_shown w.small w.small_element w.medium_element hits) (places_shown w.small w.large w.medium w.room hits)
    (too_many w.small w.large w.medium w.room hits (ap (nat_lt w.room) (sym count) ∙ many)))))

pub returns : goal.returns
returns g c =
    let w = c.in-Search in
    let hits = c.args.hits.now in
    let all : c.total-all.result ≡ total hits = c.total-all.ensures ∙ ap total c.as_slice.ensures in
    let count : c.shown_count-count.result ≡ shown (total hits) w.small w.large w.medium =
    c.shown_count-count.ensures.shown ∙ ap (λ (n : ℕ). shown n w.small w.large w.medium) all in
    let few : nat_lt w.room c.shown_count-count.result ≡ false = grind (arith, c.if-room-count.false) in
    let places = has_room w.small w.large w.medium w.room hits (ap (nat_lt w.room) (sym count) ∙ few) in
    rw (w.is, places) (rw (c.as_ref.ensures.value, c.element_shown.ensures, count, all) at c.record_legs.ensures)
