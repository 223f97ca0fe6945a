-- What is told of a refusal besides its cause.
use Rattle.std.specs.Prelude.{ℕ, List, [], ◌++◌, codes, slice_get, Option, Some, None, option_map}
use Rattle.std.specs.Option.{option_or}
use Rattle.iv_syntax.specs.declared.statement.Statement.{Statement}
use Rattle.iv_syntax.specs.declared.statement.Statement.TheVariants.{Release, RollbackTo}
use Rattle.iv_catalogue.specs.Catalogues.{Schema}
use Rattle.iv_catalogue.specs.declared.cause.Cause.{Cause}
use Rattle.iv_catalogue.specs.declared.cause.Cause.TheVariants as cause
use Rattle.iv_text.specs.Json.{json_text, member}
use Rattle.iv_text.specs.Lines.{name_of}
use Rattle.iv_resolution.specs.Items.{Fault}
use Rattle.iv_resolution.specs.NameFaults.{name_fault}
use Rattle.iv_resolve_reasons.specs.Reasons.{Reason, refusal_reason}
use Rattle.iv_explain.specs.JsonNames.{json_fault}
use Rattle.iv_explain.specs.Names.{fault_text}
use Rattle.iv_explain.specs.Reasons.{reason_text}

-- Why a statement is refused: the reason of resolution; a savepoint of this name isn't there; the constraint of this name is NOT DEFERRABLE.
pub data Why : Type 0 where
  by_resolution : Reason → Why
  no_savepoint : List ℕ → Why
  not_deferrable : List ℕ → Why

-- what is wrong with a name, or why
pub data Explanation : Type 0 where
  of_name : Fault → Explanation
  of_reason : Why → Explanation

-- the savepoint that a statement goes back to or releases
abbrev pub savepoint_named : Statement → Option (List ℕ)
savepoint_named (RollbackTo name) = Some name
savepoint_named (Release name) = Some name
savepoint_named _ = None

abbrev pub why_refused : Schema → Statement → Cause → Option Why
why_refused s st cause.SchemaFault = option_map by_resolution (refusal_reason s st cause.SchemaFault)
why_refused s st cause.WrongShape = option_map by_resolution (refusal_reason s st cause.WrongShape)
why_refused s st cause.Limit = option_map by_resolution (refusal_reason s st cause.Limit)
why_refused s st cause.UnknownSavepoint = option_map no_savepoint (savepoint_named st)
why_refused s st (cause.NotDeferrable id) = Some (not_deferrable (name_of (slice_get s.constraints id)))
why_refused s st _ = None

-- What is told of the refusal of a statement for a cause: the name for Unknown and Duplicate, why for some other causes.
abbrev pub explanation_of : Schema → Statement → Cause → Option Explanation
explanation_of s st c = option_or (option_map of_name (name_fault s st c)) (option_map of_reason (why_refused s st c))

abbrev pub why_text : Why → List ℕ
why_text (by_resolution r) = reason_text r
why_text (no_savepoint name) = codes "savepoint " ++ (name ++ codes " isn't there")
why_text (not_deferrable name) = codes "constraint " ++ (name ++ codes " is NOT DEFERRABLE")

abbrev pub explanation_text : Explanation → List ℕ
explanation_text (of_name f) = fault_text f
explanation_text (of_reason w) = why_text w

-- ---- a line in words

abbrev pub explanation_line : Option Explanation → List ℕ
explanation_line (Some e) = codes "  " ++ (explanation_text e ++ codes "\n")
explanation_line None = []

-- The line of a statement that is refused for this cause.
abbrev pub explained_line : Schema → Statement → Cause → List ℕ
explained_line s st c = explanation_line (explanation_of s st c)

-- ---- a member in JSON

abbrev pub explanation_member : Explanation → List ℕ
explanation_member (of_name f) = member (codes "about") ++ json_fault f
explanation_member (of_reason w) = member (codes "reason") ++ json_text (why_text w)

abbrev pub explained_with : Option Explanation → List ℕ
explained_with (Some e) = explanation_member e
explained_with None = []

-- The member of a statement that is refused for this cause.
abbrev pub explained_member : Schema → Statement → Cause → List ℕ
explained_member s st c = explained_with (explanation_of s st c)
