use Rattle.std.proofs.Common.{◌∙◌, [], ◌∷◌, refl, sym, ap}
use Rattle.iv_resolve_tables.specs.KeySets.{some_reliable}
use Rattle.iv_resolve_tables.specs.Seen.{rule_seen}
use Rattle.iv_resolve_tables.specs.declared.written.WrittenRule.{WrittenRule}
use Rattle.iv_resolve_tables.proofs.SameSets.{constraint_of, unique_alone, primary_alone, deferrable_alone, none_alone}
use Rattle.iv_resolve_tables.proofs.key_sets.reliable_columns.Goals as goal

pub returns-then-is_deferrable : goal.returns-then-is_deferrable
returns-then-is_deferrable c columns names =
    deferrable_alone columns c.args.constraint.now.name.now (rule_seen c.args.constraint.now.rule) c.args.constraint.now.time names (sym c.is_deferrable.ensures ∙ c.if-is_deferrable.true)

pub returns-in-Unique : goal.returns-in-Unique
returns-in-Unique c columns names =
    ap (λ (r : WrittenRule). some_reliable columns (constraint_of c.args.constraint.now.name.now (rule_seen r) c.args.constraint.now.time ∷ []) names) c.in-Unique.is
    ∙ unique_alone columns c.args.constraint.now.name.now _ c.in-Unique.names.now c.args.constraint.now.time names (sym c.is_deferrable.ensures ∙ c.if-is_deferrable.false)

pub returns-in-PrimaryKey : goal.returns-in-PrimaryKey
returns-in-PrimaryKey c columns names =
    ap (λ (r : WrittenRule). some_reliable columns (constraint_of c.args.constraint.now.name.now (rule_seen r) c.args.constraint.now.time ∷ []) names) c.in-PrimaryKey.is
    ∙ primary_alone columns c.args.constraint.now.name.now c.in-PrimaryKey.names.now c.args.constraint.now.time names (sym c.is_deferrable.ensures ∙ c.if-is_deferrable.false)

pub returns-in-NotNull : goal.returns-in-NotNull
returns-in-NotNull c columns names =
    ap (λ (r : WrittenRule). some_reliable columns (constraint_of c.args.constraint.now.name.now (rule_seen r) c.args.constraint.now.time ∷ []) names) c.in-NotNull.is
    ∙ none_alone columns c.args.constraint.now.name.now _ c.args.constraint.now.time names refl

pub returns-in-Check : goal.returns-in-Check
returns-in-Check c columns names =
    ap (λ (r : WrittenRule). some_reliable columns (constraint_of c.args.constraint.now.name.now (rule_seen r) c.args.constraint.now.time ∷ []) names) c.in-Check.is
    ∙ none_alone columns c.args.constraint.now.name.now _ c.args.constraint.now.time names refl

pub returns-in-ForeignKey : goal.returns-in-ForeignKey
returns-in-ForeignKey c columns names =
    ap (λ (r : WrittenRule). some_reliable columns (constraint_of c.args.constraint.now.name.now (rule_seen r) c.args.constraint.now.time ∷ []) names) c.in-ForeignKey.is
    ∙ none_alone columns c.args.constraint.now.name.now _ c.args.constraint.now.time names refl
