use Rattle.std.proofs.Common.{◌≡◌, ◌∙◌, ℕ, List, suc, length, Result, Ok, Err, sym, ap}
use Rattle.z_ber.specs.declared.fault.BerFault.{BerFault}
use Rattle.z_ber.specs.declared.tag.Tag.{Tag}
use Rattle.z_ber.specs.Reading.{close_at, inside_at}
use Rattle.z_ber.proofs.extent.inside.Goals as goal

-- tag, contents octets and rest, as the reading gives them
given : (t : Tag) (i r : List ℕ) → Result (Tag × List ℕ × List ℕ) BerFault
given t i r = Ok (t, i, r)

pub returns-in-Ok : goal.returns-in-Ok
unfolding given
returns-in-Ok c =
    let e : close_at (suc (length c.args.body.now)) 1 c.args.room c.args.body.now ≡ Ok c.in-Ok.rest.now = c.in-Ok.ensures in
    ap (inside_at c.args.tag c.args.body.now) e ∙ ap (λ i. given c.args.tag i c.in-Ok.rest.now) (sym c.inner.ensures)

pub returns-in-Err : goal.returns-in-Err
returns-in-Err c =
    let e : close_at (suc (length c.args.body.now)) 1 c.args.room c.args.body.now ≡ Err c.in-Err.fault = c.in-Err.ensures in
    ap (inside_at c.args.tag c.args.body.now) e
