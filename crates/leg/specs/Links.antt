-- What a turn does to the link of a leg's session over a steady wire (this project's own)
use Rattle.std.specs.Prelude.{◌≡◌, Bool, true, IfSome}
use Rattle.z_types.specs.declared.address.Address.{Address}
use Rattle.z_types.specs.declared.sitting.Sitting as sitting
use Rattle.z_types.specs.declared.world.World as world
use Rattle.gw_outside.specs.Happened.{at_address}
use Rattle.gw_outside.specs.Steady.{OpensSteadily, AsksSteadily, LooksSteadily}
use Rattle.leg.specs.declared.phases.Phase.{Phase}
use Rattle.leg.specs.declared.phases.Phase.TheVariants.{Dialling}
use Rattle.leg.specs.Deeds.{Deed, opened, began, heard, BackendView}
use Rattle.leg.specs.Phases.{session_of}
use Rattle.leg.specs.Terms.{Terms, opened_at}

module _ {W S : Type 0} (w : world.Ghosts W) (t : sitting.Ghosts S W) (exact : Bool) (terms : Terms)
    (backend moved : BackendView) where
  -- where the address is told and the wire is steady
  abbrev pub IfSteadyAt : Address → Type 0 → Type 0
  IfSteadyAt address P = w.told address → backend.happened.steady ≡ true → P

  -- the session that is opened, asked or looked at fares as its address lets it
  abbrev pub LinksMove : Deed S → Phase S → Type 0
  LinksMove (opened made) (Dialling seat member) =
      IfSteadyAt (opened_at terms member)
      (OpensSteadily t exact
      (at_address backend.happened (opened_at terms member)) moved.counts.dials made)
  LinksMove (began ask answer after) phase = IfSome (session_of phase) (λ before.
      IfSteadyAt (t.address before)
      (AsksSteadily w t.keeps (t.address before) ask (t.link before)
      (t.link after) backend.happened moved.happened answer))
  LinksMove (heard reply after) phase = IfSome (session_of phase) (λ before.
      IfSteadyAt (t.address before)
      (LooksSteadily t.keeps (t.address before) backend.happened (t.link before)
      (t.link after) reply))
  LinksMove deed phase = Unit {0}
