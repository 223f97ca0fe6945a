use Rattle.std.proofs.Common.{◌≡◌, List, filter, if◌then◌else◌, []}
use Rattle.iv_store_groups.specs.Groups.{groups_of, rows_of}
use Rattle.iv_key.specs.Keys.{none_null}
use Rattle.iv_store_index.specs.Types.{Value, StoredRow}
use Rattle.iv_store_violating.specs.Shown.{shown}
use Rattle.iv_machine.specs.ReferentialActions.{reference}
use Rattle.iv_laws_kept.specs.Kept.{is_kept_under, rows_under}
use Rattle.iv_store.specs.Stores.{numbers_by, numbers_of}
use Rattle.iv_store_index.proofs.Children.{children_are, if_told}
use Rattle.iv_store_index.proofs.referencing.children_by.Goals as goal

pub returns-in-ForeignKey-clause-numbers : goal.returns-in-ForeignKey-clause-numbers
returns-in-ForeignKey-clause-numbers c =
    if_told c.holders.result (λ v. v.items) (if none_null c.args.key.now then rows_of (groups_of c.args.groups.now.groups c.args.id) c.args.key.now else [])
    (λ numbers. (rows : List StoredRow) → ((k : List Value) → rows_under (shown c.args.groups.now.groups) c.args.id k ≡ numbers_of (filter (is_kept_under c.args.constraint.now k) rows))
    → numbers ≡ numbers_by rows c.args.key.now (reference (c.args.id, c.args.constraint.now)))
    (λ rows show. children_are rows c.args.key.now c.args.id c.args.constraint.now c.in-ForeignKey.field-0 c.args.groups.now.groups c.in-ForeignKey.is show) c.holders.ensures.numbers
