-- the classes of sums stay
use Rattle.std.proofs.Common.{◌≡◌, ◌∙◌, ℕ, zero, suc, Bool, true, false, List, [], ◌∷◌, Option, None, Some, if◌then◌else◌, length, map, nat_lt, set, get_or, ◌++◌, take, drop, sym, arith, refl, ap}
use Rattle.std.proofs.Math.Seq.{map-set_same, take-length}
use Rattle.std.proofs.lemmas.List.{append-nil, drop_all, length-map}
use Rattle.front_conn_costs.specs.front_conn.declared.totals.Total.{Total}
use Rattle.route_config.specs.declared.route.Class.{Class}
use Rattle.replay.specs.declared.reports.ClassReport.{ClassReport}
use Rattle.replay.specs.Classes.{costless, costs_after, costs_of, costs_with, nameless, with_total}
use Rattle.replay.specs.Clients.{ClientState, client_at}
use Rattle.replay.specs.Trace.{costs_upto}

abbrev pub names_of : List ClassReport → List (List ℕ)
names_of classes = map (λ class. class.name) classes

names_if : (b : Bool) (changed classes : List ClassReport) → names_of changed ≡ names_of classes → names_of (if b then changed else classes) ≡ names_of classes
names_if true changed classes e = e
names_if false changed classes e = refl

pub names-costs_with : (classes : List ClassReport) (total : Total) → names_of (costs_with classes total) ≡ names_of classes
names-costs_with classes total =
    names_if (nat_lt total.class (length classes))
    (set classes total.class (with_total total (get_or classes total.class nameless))) classes
    (map-set_same (λ (c : ClassReport). c.name) classes total.class (with_total total (get_or classes total.class nameless)) nameless refl)

names-costs_after : (classes : List ClassReport) (totals : List Total) → names_of (costs_after classes totals) ≡ names_of classes
names-costs_after classes [] = refl
names-costs_after classes (total ∷ totals) = names-costs_after (costs_with classes total) totals ∙ names-costs_with classes total

-- of what a client's requests cost
pub names-costs_of : {S : Type 0} (client : Option (ClientState S)) (classes : List ClassReport) → names_of (costs_of client classes) ≡ names_of classes
names-costs_of None classes = refl
names-costs_of (Some client) classes = names-costs_after classes client.conn.totals

-- of classes without cost
pub names-costless : (classes : List Class) → names_of (map costless classes) ≡ map (λ (class : Class). class.name) classes
names-costless [] = refl
names-costless (class ∷ classes) = ap (λ names. class.name ∷ names) (names-costless classes)

-- of all clients'
pub names-costs_upto : {S : Type 0} (last : ℕ) (clients : List (Option (ClientState S))) (first : List ClassReport)
    → names_of (costs_upto last clients first) ≡ names_of first
names-costs_upto zero clients first = refl
names-costs_upto (suc last) clients first =
    names-costs_of (client_at clients last) (costs_upto last clients first) ∙ names-costs_upto last clients first

-- ---- what stands in a table whose slice was lent

-- a slice that was written back whole
pub written_back : {A : Type 0} (old new : List A) (n : ℕ) → n ≡ length old → length new ≡ length old
    → take n (new ++ drop (length new) old) ≡ new
written_back {A = A} old new n all same =
    ap (λ (rest : List A). take n (new ++ rest)) (drop_all (length new) old (omega (arith, same)))
    ∙ ap (take n) (append-nil new) ∙ ap (λ (m : ℕ). take m new) (all ∙ sym same) ∙ take-length new

pub same_length : {A B : Type 0} (f : A → B) (xs ys : List A) → map f xs ≡ map f ys → length xs ≡ length ys
same_length {B = B} f xs ys same = sym (length-map xs f) ∙ ap (λ (zs : List B). length zs) same ∙ length-map ys f
