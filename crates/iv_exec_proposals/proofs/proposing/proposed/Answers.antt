use Rattle.std.proofs.Common.{◌≡◌, ◌∙◌, ℕ, ap, sym, map, Ok}
use Rattle.iv_expr.specs.declared.tree.Cond.{Cond}
use Rattle.iv_expr.specs.Evaluation.{and_then}
use Rattle.iv_expr.specs.Scopes.{Frame, Scope, scope_of, table_rows}
use Rattle.iv_catalogue.specs.declared.plan.DataStatement.{DataStatement}
use Rattle.iv_catalogue.specs.declared.plan.DataStatement.TheVariants as variant
use Rattle.iv_machine.specs.declared.database.Database.{Database}
use Rattle.iv_machine.specs.Context.{Context, each}
use Rattle.iv_machine.specs.Proposals.{deletion, matching_rows, proposed_changes, proposed_insertions, update_of}
use Rattle.iv_exec_proposals.proofs.Steps.{answers_as}
use Rattle.iv_exec_proposals.proofs.proposing.proposed.Goals as goal

deleted : (context : Context) (db : Database) (frame : Frame) (statement : DataStatement) (scope : Scope) (table : ℕ) (filter : Cond)
    → scope ≡ scope_of frame db.rows → statement ≡ variant.Delete table filter
    → and_then (matching_rows scope filter (table_rows scope.rows table)) (λ found. Ok (map deletion found)) ≡ proposed_changes context db frame statement
deleted context db frame statement scope table filter e is =
    ap (λ (s : Scope). and_then (matching_rows s filter (table_rows s.rows table)) (λ found. Ok (map deletion found))) e
    ∙ ap (proposed_changes context db frame) (sym is)

pub insertions-requires : goal.insertions-requires
insertions-requires g c = ap (λ (s : Scope). s.rows) c.new-scope.ensures ∙ g.met.K.ChangeableRows.rows_are c.args.store.now

pub updates-requires : goal.updates-requires
updates-requires g c = ap (λ (s : Scope). s.rows) c.new-scope.ensures ∙ g.met.K.ChangeableRows.rows_are c.args.store.now

pub deletions-requires : goal.deletions-requires
deletions-requires g c = ap (λ (s : Scope). s.rows) c.new-scope.ensures ∙ g.met.K.ChangeableRows.rows_are c.args.store.now

pub returns-in-Insert : goal.returns-in-Insert
returns-in-Insert g c =
    let db = (g.K.ReferencingRows.view c.args.store.now).base in
    answers_as (λ v. v.items) c.insertions.result _ (proposed_changes c.args.context.now db c.args.frame.now c.args.statement.now)
    (ap (λ (s : Scope). proposed_insertions c.args.context.now s c.in-Insert.table c.in-Insert.columns c.in-Insert.rows) (c.new-scope.ensures ∙ ap (scope_of c.args.frame.now) (g.met.K.ChangeableRows.rows_are c.args.store.now))
    ∙ ap (λ (s : DataStatement). proposed_changes c.args.context.now db c.args.frame.now s) (sym c.in-Insert.is))
    c.insertions.ensures

pub returns-in-Update : goal.returns-in-Update
returns-in-Update g c =
    let db = (g.K.ReferencingRows.view c.args.store.now).base in
    answers_as (λ v. v.items) c.updates.result _ (proposed_changes c.args.context.now db c.args.frame.now c.args.statement.now)
    (ap (λ (s : Scope). and_then (matching_rows s c.in-Update.filter (table_rows s.rows c.in-Update.table)) (each (update_of c.args.context.now s c.as_slice.result.now))) (c.new-scope.ensures ∙ ap (scope_of c.args.frame.now) (g.met.K.ChangeableRows.rows_are c.args.store.now))
    ∙ ap (λ settings. proposed_changes c.args.context.now db c.args.frame.now (variant.Update c.in-Update.table settings c.in-Update.filter)) c.as_slice.ensures
    ∙ ap (λ (s : DataStatement). proposed_changes c.args.context.now db c.args.frame.now s) (sym c.in-Update.is))
    c.updates.ensures

pub returns-in-Delete : goal.returns-in-Delete
returns-in-Delete g c =
    answers_as (λ v. v.items) c.deletions.result _ _
    (deleted c.args.context.now (g.K.ReferencingRows.view c.args.store.now).base c.args.frame.now c.args.statement.now c.new-scope.result _ _
    (c.new-scope.ensures ∙ ap (scope_of c.args.frame.now) (g.met.K.ChangeableRows.rows_are c.args.store.now)) c.in-Delete.is)
    c.deletions.ensures
