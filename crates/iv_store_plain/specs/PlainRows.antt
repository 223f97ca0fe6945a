-- The database that a plain one keeps.
use Rattle.iv_machine.specs.declared.database.Database.{Database}
use Rattle.iv_store_plain.specs.declared.database.PlainDatabase.TheInside.{Inside}

abbrev pub database_of : Inside → Database
database_of d = record { rows = d.rows.items; next = d.next; count = d.count }
