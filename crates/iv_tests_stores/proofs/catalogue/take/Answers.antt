use Rattle.std.proofs.Common.{[], refl}
use Rattle.iv_catalogue.specs.Catalogues.{empty_schema}
use Rattle.iv_tests_stores.proofs.catalogue.take.Goals as goal

pub take_table-requires : goal.take_table-requires
take_table-requires g c =
    rw (c.put_table.ensures, c.requires)
    (empty_schema, c.table_of-table.result, [], record { added = refl; own = tt; others = tt })
