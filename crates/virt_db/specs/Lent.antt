-- For contracts alone: a leg whose parts are lent (this project's own)
use Rattle.virt_db.specs.Legs.{LegAt}
use Rattle.virt_db.specs.declared.place.LentLeg.{LentLeg}

-- the leg that it is
abbrev pub lent_leg : LentLeg → LegAt
lent_leg lent = record {
  database = lent.database.now;
  class = lent.class.now;
  address = lent.address.now;
  dbs = lent.dbs.now;
}
