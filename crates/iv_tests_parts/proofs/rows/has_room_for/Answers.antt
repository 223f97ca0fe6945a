use Rattle.std.proofs.Common.{Some, sym, ap, ◌∙◌}
use Rattle.iv_key.specs.Keys.{key_of}
use Rattle.iv_store_groups.specs.Groups.{groups_of, room_of}
use Rattle.iv_laws_kept.specs.Kept.{kept_key, key_or, null_key}
use Rattle.iv_tests_parts.proofs.TakenBack.{room_under}
use Rattle.iv_tests_parts.proofs.rows.has_room_for.Goals as goal

pub returns-in-PrimaryKey : goal.returns-in-PrimaryKey
returns-in-PrimaryKey c = λ e key is.
    room_under (room_of (groups_of c.args.groups.now.groups c.args.id)) (key_of c.as_slice-in-PrimaryKey.result.now c.args.row.now) key (Some null_key)
    (c.has_room_under.ensures.no_null e) (c.has_room_under.ensures.room e)
    (ap (λ columns. key_or (key_of columns c.args.row.now) (Some null_key)) c.as_slice-in-PrimaryKey.ensures ∙ sym (ap (λ r. kept_key r c.args.row.now) c.in-PrimaryKey.is) ∙ is)
