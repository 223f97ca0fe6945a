use Rattle.std.proofs.Common.{[], sym}
use Rattle.iv_numbers.specs.Rows.{no_rows}
use Rattle.iv_store_groups.specs.Groups.{GroupOf}
use Rattle.iv_store_groups.proofs.GroupsLemmas.{place_found}
use Rattle.iv_store_groups.proofs.key_index.find_near.Goals as goal

pub returns-then-is_at : goal.returns-then-is_at
returns-then-is_at c =
    let d : GroupOf = record { key = []; held = no_rows } in
    let here = c.is_at.ensures c.if-is_at.true in
    record {
      place = sym (place_found c.args.groups.now c.args.key.now c.args.recent d c.requires.distinct here.0 (here.1 d));
      within = here.0;
    }
