-- Laws: what is read of a text can be written.
use Rattle.std.specs.Prelude.{ℕ, ◌≤◌, Option, List, IsUtf8}
use Rattle.iv_syntax.specs.declared.limits.TheConstants.{DEEPEST_TREE}
use Rattle.iv_syntax.specs.Trees.{depth, condition_depth}
use Rattle.iv_parse_terms.specs.Expressions.{IsExpression}
use Rattle.iv_parse_terms.specs.Conditions.{IsCondition}
use Rattle.iv_parse.specs.Script.{IsScript}
use Rattle.iv_template.specs.Templates.{words_of}
use Rattle.iv_write.specs.Types.{Condition, Expression, Statement}
use Rattle.iv_write.specs.Says.{ExpressionCanBeWritten, ConditionCanBeWritten}
use Rattle.iv_write.specs.Scripts.{AllCanBeWritten}

abbrev pub ReadExpressionsCanBeWritten : Type 0
ReadExpressionsCanBeWritten =
    (text : List ℕ) (e : Expression) → IsUtf8 text → IsExpression (words_of text) e → depth e ≤ DEEPEST_TREE → ExpressionCanBeWritten e

abbrev pub ReadConditionsCanBeWritten : Type 0
ReadConditionsCanBeWritten =
    (text : List ℕ) (c : Condition) → IsUtf8 text → IsCondition (words_of text) c → condition_depth c ≤ DEEPEST_TREE → ConditionCanBeWritten c

-- all statements of a script, whatever follows them
abbrev pub ReadStatementsCanBeWritten : Type 0
ReadStatementsCanBeWritten =
    (text : List ℕ) (statements : List Statement) (fault : Option ℕ) → IsUtf8 text → IsScript text statements fault → AllCanBeWritten statements
