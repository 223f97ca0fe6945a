-- Why resolution refuses a statement for a cause.
use Rattle.std.specs.Prelude.{Option, None, option_map}
use Rattle.iv_syntax.specs.declared.statement.Statement.{Statement}
use Rattle.iv_catalogue.specs.declared.cause.Cause.{Cause}
use Rattle.iv_catalogue.specs.declared.cause.Cause.TheVariants.{Limit, SchemaFault, WrongShape}
use Rattle.iv_catalogue.specs.Catalogues.{Schema}
use Rattle.iv_resolve_reasons.specs.Shapes.{ShapeFault, shape_fault}
use Rattle.iv_resolve_reasons.specs.SchemaFaults as rules
use Rattle.iv_resolve_reasons.specs.SchemaFaults.{schema_fault}
use Rattle.iv_resolve_reasons.specs.Limits.{LimitFault, limit_fault}

pub data Reason : Type 0 where
  schema_reason : rules.SchemaFault → Reason
  shape_reason : ShapeFault → Reason
  limit_reason : LimitFault → Reason

-- The reason that a statement deserves a cause; none is told of the other causes.
abbrev pub refusal_reason : Schema → Statement → Cause → Option Reason
refusal_reason schema s SchemaFault = option_map schema_reason (schema_fault schema s)
refusal_reason schema s WrongShape = option_map shape_reason (shape_fault schema s)
refusal_reason schema s Limit = option_map limit_reason (limit_fault schema s)
refusal_reason schema s _ = None
