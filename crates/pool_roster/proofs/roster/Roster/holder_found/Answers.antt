use Rattle.std.proofs.Common.{◌∙◌, ◌^◌, ◌-◌, ap, subst, sym}
use Rattle.pool_sets.specs.Plain.{Ascends}
use Rattle.pool_roster.specs.Told.{digest_by, told}
use Rattle.pool_roster.proofs.Settling.{told_same, berths_same}
use Rattle.pool_roster.proofs.Rosters.{rise_in}
use Rattle.pool_roster.proofs.roster.Roster.holder_found.Goals as goal

pub first_holder-requires : goal.first_holder-requires
first_holder-requires g c =
    let x = c.self.inside.expiries in
    let ttl = c.self.inside.set_ttl in
    let bs = c.self.inside.berths.items in
    record {
      order = rise_in (told x ttl bs) c.self.invariant.ascends;
      whole = sym c.is_whole.ensures ∙ c.if-not-is_whole.false;
      listed = λ k b w. (c.self.invariant.each k b w).listed;
    }

pub invariant_of-self : goal.invariant_of-self
invariant_of-self g c =
    let x = c.self.inside.expiries in
    let ttl = c.self.inside.set_ttl in
    let bs = c.self.inside.berths.items in
    let same = berths_same x ttl (digest_by g.D.Digest.own g.D.Digest.digest) c.self.inside.index c.self.inside.oldest bs c.first_holder.new.berths.items c.first_holder.ensures.berths c.self.invariant.each in
    record {
      ascends = subst (Ascends 0 (2 ^ 64 - 1)) (sym (told_same x ttl bs c.first_holder.new.berths.items c.first_holder.ensures.berths)) c.self.invariant.ascends;
      each = λ k b w. record { stamped = (same k b w).stamped; since = (same k b w).since; listed = c.first_holder.ensures.listed k b w };
    }

pub returns-clause-same : goal.returns-clause-same
returns-clause-same g c =
    let x = c.self.inside.expiries in
    let ttl = c.self.inside.set_ttl in
    rw (← c.self.view_is) (ap (λ os. (record { sessions = os; session_ttl = c.self.inside.session_ttl; set_ttl = ttl })) (told_same x ttl c.self.inside.berths.items c.first_holder.new.berths.items c.first_holder.ensures.berths))
