-- What the code holds as the definitions say it.
use Rattle.std.specs.Prelude.{ℕ, List, decimal}
use Rattle.iv_resolve_name_faults.specs.Seen.{fault_seen, item_seen}
use Rattle.iv_resolve_reasons.specs.Seen.{reason_seen}
use Rattle.iv_explain.specs.Explanations as spec
use Rattle.iv_explain.specs.Expressions.{expression_text, literal_text, names_text, type_text, unsuited_text}
use Rattle.iv_explain.specs.Names.{item_text}
use Rattle.iv_explain.specs.Reasons.{columns_text, event_text, side_text, values_text, what_text}
use Rattle.iv_explain.specs.declared.explaining.Explanation.{Explanation}
use Rattle.iv_explain.specs.declared.explaining.Explanation.TheVariants.{Name, Reason}
use Rattle.iv_explain.specs.declared.explaining.Why.{Why}
use Rattle.iv_explain.specs.declared.explaining.Why.TheVariants.{Resolution, NoSavepoint, NotDeferrable}
use Rattle.iv_explain.specs.declared.parts.Part.{Part}
use Rattle.iv_explain.specs.declared.parts.Part.TheVariants as part

abbrev pub why_seen : Why → spec.Why
why_seen (Resolution reason) = spec.by_resolution (reason_seen reason)
why_seen (NoSavepoint name) = spec.no_savepoint name.now
why_seen (NotDeferrable name) = spec.not_deferrable name.now

abbrev pub explanation_seen : Explanation → spec.Explanation
explanation_seen (Name fault) = spec.of_name (fault_seen fault)
explanation_seen (Reason why) = spec.of_reason (why_seen why)

-- the text of a part of a sentence
abbrev pub part_text : Part → List ℕ
part_text (part.Words text) = text.now
part_text (part.Number n) = decimal n
part_text (part.Columns n) = columns_text n
part_text (part.Values n) = values_text n
part_text (part.Kind kind) = type_text kind
part_text (part.Unsuited kind) = unsuited_text kind
part_text (part.Expression e) = expression_text e.now
part_text (part.Default literal) = literal_text literal.now
part_text (part.Item item) = item_text (item_seen item)
part_text (part.Names names) = names_text names.now
part_text (part.Side side) = side_text side
part_text (part.What what) = what_text what
part_text (part.Event event) = event_text event
