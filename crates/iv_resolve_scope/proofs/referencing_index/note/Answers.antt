use Rattle.std.proofs.Common.{◌∙◌, sym, ap, cond, Some, string_bytes}
use Rattle.std.specs.BTreeMap.{get_by_text}
use Rattle.std.specs.Str.{bytes_eq}
use Rattle.std.proofs.lemmas.Map.Text.{btree_map_updates_text}
use Rattle.iv_resolve_scope.proofs.Noted.{noted_before, noted_now}
use Rattle.iv_resolve_scope.proofs.referencing_index.note.Goals as goal

pub returns-then-contains_key : goal.returns-then-contains_key
returns-then-contains_key c other =
    noted_before (get_by_text c.args.sides.now) c.args.name.now c.args.side other (sym c.contains_key.ensures ∙ c.if-contains_key.true)

pub returns : goal.returns
returns c other =
    btree_map_updates_text (string_bytes c.in_ok-owned.owned) c.args.sides.now c.insert.new.self (Some c.args.side) c.in_ok-insert.ensures.updates other
    ∙ ap (λ n. cond (bytes_eq n other) (Some c.args.side) (get_by_text c.args.sides.now other)) c.in_ok-owned.ensures.ok
    ∙ noted_now (get_by_text c.args.sides.now) c.args.name.now c.args.side other (sym c.contains_key.ensures ∙ c.if-contains_key.false)
