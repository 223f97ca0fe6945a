-- The worked columns compute.
use Rattle.std.proofs.Common.{refl}
use Rattle.std.specs.Fmt.{digits}
use Rattle.iv_text.specs.Json.{json_text, member}
use Rattle.iv_explain.specs.WorkedColumns.{WorkedColumns}

pub columns : WorkedColumns
unfolding digits json_text member
columns = record {
  in_the_order_of_the_list = refl;
  without_the_range = refl;
  as_written = refl;
  all = refl;
  count = refl;
  no_query = refl;
  json_all = refl;
  json_as_written = refl;
}
