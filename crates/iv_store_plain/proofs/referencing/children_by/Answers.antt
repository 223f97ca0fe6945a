use Rattle.std.proofs.Common.{◌≡◌, IfOk, subst, sym}
use Rattle.iv_store_plain.proofs.KeyHolders.{holders, numbers_are, numbers_rise, if_ok}
use Rattle.iv_store.specs.Stores.{numbers_of}
use Rattle.iv_store_plain.proofs.referencing.children_by.Goals as goal

pub returns-in-ForeignKey-clause-numbers : goal.returns-in-ForeignKey-clause-numbers
returns-in-ForeignKey-clause-numbers c =
    subst (λ l. IfOk c.numbers.result (λ v. v.items ≡ l))
    (sym (numbers_are c.args.rows.now c.args.key.now c.args.id c.args.constraint.now c.in-ForeignKey.foreign_key c.in-ForeignKey.is)) c.numbers.ensures

pub returns-in-ForeignKey-clause-rising : goal.returns-in-ForeignKey-clause-rising
returns-in-ForeignKey-clause-rising c =
    if_ok c.numbers.result (λ v. v.items) (numbers_of (holders c.args.rows.now c.args.constraint.now c.in-ForeignKey.foreign_key c.args.key.now))
    (numbers_rise c.args.rows.now c.args.constraint.now c.in-ForeignKey.foreign_key c.args.key.now c.requires) c.numbers.ensures
