use Rattle.std.proofs.Common.{◌≡◌, if◌then◌else◌, [], IfOk, ap, sym, subst, ◌∙◌}
use Rattle.iv_store_groups.specs.Groups.{groups_of, rows_of}
use Rattle.iv_store_index.proofs.referencing.holders.Goals as goal

pub returns-clause-numbers : goal.returns-clause-numbers
returns-clause-numbers c =
    let own = rows_of (groups_of c.args.groups.now.groups c.args.id) c.args.key.now in
    subst (λ l. IfOk c.list_rows.result (λ v. v.items ≡ l)) (ap (λ b. if b then own else []) (sym c.if-not-none_null.false ∙ c.none_null.ensures)) c.list_rows.ensures.rows
