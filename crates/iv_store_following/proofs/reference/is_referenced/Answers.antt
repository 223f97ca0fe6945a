use Rattle.std.proofs.Common.{◌≡◌, ◌&&◌, not, sym, ap, ◌∙◌}
use Rattle.iv_value.specs.Values.{all_same}
use Rattle.iv_key.specs.Keys.{key_of}
use Rattle.iv_laws_levels.proofs.RowNumbers.{some_same}
use Rattle.iv_laws_kept.specs.Kept.{KeyConstraint, groups_of, rows_in, is_empty}
use Rattle.iv_laws_kept.proofs.Naming.{Named, named_of}
use Rattle.iv_store_violating.specs.Shown.{shown_of}
use Rattle.iv_store_following.specs.References.{paired_with}
use Rattle.iv_store_following.proofs.Referenced.{told_paired, told_apart}
use Rattle.iv_store_following.proofs.reference.is_referenced.Goals as goal

pub returns-then-len-clause-told : goal.returns-then-len-clause-told
returns-then-len-clause-told c = λ constraints id k groups all at is there.
    told_apart constraints c.args.r.now.key (named_of constraints id k c.args.r.now.key all at is.rule_is) groups c.args.row.now
    (λ e. c.if-len.true (c.len.ensures ∙ e ∙ sym c.len-2.ensures))

pub returns-then-not-same-clause-told : goal.returns-then-not-same-clause-told
returns-then-not-same-clause-told c = λ constraints id k groups all at is there.
    let fk = c.args.r.now.key in
    let n : Named constraints fk = named_of constraints id k fk all at is.rule_is in
    let same : c.same.result ≡ all_same (key_of c.args.r.now.back c.args.row.now) (key_of fk.columns c.args.row.now) =
    c.same.ensures ∙ (λ i. all_same ((c.new.ensures ∙ ap (λ cs. key_of cs c.args.row.now) c.as_slice-2.ensures) i) ((c.new-own.ensures ∙ ap (λ cs. key_of cs c.args.row.now) c.as_slice.ensures) i)) in
    told_paired constraints fk n groups c.args.row.now (sym c.len.ensures ∙ c.if-len.false ∙ c.len-2.ensures)
    ∙ (λ i. all_same (key_of (sym is.back i) c.args.row.now) (key_of fk.columns c.args.row.now) && not (is_empty (rows_in (groups_of groups n.key.id) (key_of (paired_with fk n.key.columns) c.args.row.now))))
    ∙ ap (λ b. b && not (is_empty (rows_in (groups_of groups n.key.id) (key_of (paired_with fk n.key.columns) c.args.row.now)))) (sym same ∙ c.if-not-same.true)

pub returns-clause-told : goal.returns-clause-told
returns-clause-told c = λ constraints id k groups all at is there.
    let fk = c.args.r.now.key in
    let n : Named constraints fk = named_of constraints id k fk all at is.rule_is in
    let named : KeyConstraint = record { id = c.args.r.now.named; columns = c.args.r.now.named_columns } in
    let key_is : n.key ≡ named = some_same n.key named (sym n.found ∙ is.named) in
    let same : c.same.result ≡ all_same (key_of c.args.r.now.back c.args.row.now) (key_of fk.columns c.args.row.now) =
    c.same.ensures ∙ (λ i. all_same ((c.new.ensures ∙ ap (λ cs. key_of cs c.args.row.now) c.as_slice-2.ensures) i) ((c.new-own.ensures ∙ ap (λ cs. key_of cs c.args.row.now) c.as_slice.ensures) i)) in
    told_paired constraints fk n groups c.args.row.now (sym c.len.ensures ∙ c.if-len.false ∙ c.len-2.ensures)
    ∙ (λ i. all_same (key_of (sym is.back i) c.args.row.now) (key_of fk.columns c.args.row.now) && not (is_empty (rows_in (groups_of groups ((key_is i).id)) (key_of (paired_with fk ((key_is i).columns)) c.args.row.now))))
    ∙ (λ i. (sym same ∙ c.if-not-same.false) i && not (is_empty (rows_in (there i) (key_of (sym is.columns i) c.args.row.now))))
    ∙ ap (λ key. not (is_empty (rows_in (shown_of c.args.groups.now.groups c.args.r.now.named) key))) (sym (c.new-2.ensures ∙ ap (λ cs. key_of cs c.args.row.now) c.as_slice-3.ensures))
    ∙ sym c.has_rows.ensures.has
