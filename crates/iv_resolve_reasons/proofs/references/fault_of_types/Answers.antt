use Rattle.std.proofs.Common.{ℕ, List, ◌∙◌, ◌+◌, sym, ap, drop, zip, option_map}
use Rattle.iv_resolution.specs.Scopes.{type_named}
use Rattle.iv_resolve_scope.specs.Seen.{columns_seen}
use Rattle.iv_resolve_tables.specs.Keys.{key_names}
use Rattle.iv_resolve_reasons.specs.Seen.{reference_fault_seen}
use Rattle.iv_resolve_reasons.specs.SchemaFaults.{fault_of_types, types_told}
use Rattle.iv_resolve_reasons.proofs.Pairs.{found_first, found_later, none_mapped, some_mapped}
use Rattle.iv_resolve_reasons.proofs.ReferencePairs.{types_step}
use Rattle.iv_resolve_reasons.proofs.references.fault_of_types.Goals as goal

pub loop-at-preserved : goal.loop-at-preserved
loop-at-preserved c =
    found_later (fault_of_types (columns_seen c.args.columns.now) (columns_seen c.args.others.now) (zip c.args.referencing.now (key_names c.args.referenced.now)))
    (types_told c.index-referencing-at.result (type_named (columns_seen c.args.columns.now) c.index-referencing-at.result) c.in-Some.name.now (type_named (columns_seen c.args.others.now) c.in-Some.name.now))
    (fault_of_types (columns_seen c.args.columns.now) (columns_seen c.args.others.now) (zip (drop (c.loop-at.at + 1) c.args.referencing.now) (drop (c.loop-at.at + 1) (key_names c.args.referenced.now))))
    (option_map reference_fault_seen c.fault_of_pair-fault.result)
    (c.loop-at.invariant
    ∙ types_step (columns_seen c.args.columns.now) (columns_seen c.args.others.now) c.args.referencing.now (key_names c.args.referenced.now) c.loop-at.at c.index-referencing-at.result c.in-Some.name.now
    c.loop-at-test.true c.index-referencing-at.is (sym c.in-Some.ensures))
    (c.fault_of_pair-fault.ensures
    ∙ ap (λ (n : List ℕ). types_told n (type_named (columns_seen c.args.columns.now) n) c.in-Some.name.now (type_named (columns_seen c.args.others.now) c.in-Some.name.now)) c.as_str-column.ensures)
    (none_mapped reference_fault_seen c.fault_of_pair-fault.result (sym c.is_some.ensures ∙ c.if-is_some.false))

pub returns-then-is_some : goal.returns-then-is_some
returns-then-is_some c =
    found_first (fault_of_types (columns_seen c.args.columns.now) (columns_seen c.args.others.now) (zip c.args.referencing.now (key_names c.args.referenced.now)))
    (types_told c.index-referencing-at.result (type_named (columns_seen c.args.columns.now) c.index-referencing-at.result) c.in-Some.name.now (type_named (columns_seen c.args.others.now) c.in-Some.name.now))
    (fault_of_types (columns_seen c.args.columns.now) (columns_seen c.args.others.now) (zip (drop (c.loop-at.at + 1) c.args.referencing.now) (drop (c.loop-at.at + 1) (key_names c.args.referenced.now))))
    (option_map reference_fault_seen c.fault_of_pair-fault.result)
    (c.loop-at.invariant
    ∙ types_step (columns_seen c.args.columns.now) (columns_seen c.args.others.now) c.args.referencing.now (key_names c.args.referenced.now) c.loop-at.at c.index-referencing-at.result c.in-Some.name.now
    c.loop-at-test.true c.index-referencing-at.is (sym c.in-Some.ensures))
    (c.fault_of_pair-fault.ensures
    ∙ ap (λ (n : List ℕ). types_told n (type_named (columns_seen c.args.columns.now) n) c.in-Some.name.now (type_named (columns_seen c.args.others.now) c.in-Some.name.now)) c.as_str-column.ensures)
    (some_mapped reference_fault_seen c.fault_of_pair-fault.result (sym c.is_some.ensures ∙ c.if-is_some.true))
