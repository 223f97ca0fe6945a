-- Which trees can be written, and what a text says that was written from one.
use Rattle.std.specs.Prelude.{◌≡◌, ◌≤◌, ℕ, Some, None, List, []}
use Rattle.iv_syntax.specs.declared.limits.TheConstants.{DEEPEST_TREE}
use Rattle.iv_syntax.specs.Trees.{depth, condition_depth}
use Rattle.iv_lex.specs.Words.{Word}
use Rattle.iv_parse_terms.specs.Types.{Condition, Expression}
use Rattle.iv_parse_terms.specs.Expressions.{IsExpression}
use Rattle.iv_parse_terms.specs.Conditions.{IsCondition}
use Rattle.iv_parse_terms.specs.readers.Expressions.{read_expression}
use Rattle.iv_parse_terms.specs.readers.Conditions.{read_condition}
use Rattle.iv_template.specs.Templates.{words_of, fault_of}
use Rattle.iv_write.specs.Spelling.{AreWritten}

-- By the grammar some words are this tree, and each of them can be written. It isn't so of a tree whose operands lack parentheses that
-- they need, whose names aren't names of the language or are reserved words, whose numbers are too great, or which lacks a part.
abbrev pub CanBeWrittenAs : {A : Type 0} → (List Word → A → Type 0) → A → Type 0
CanBeWrittenAs Part a = (ws : List Word) × Part ws a × AreWritten ws

-- and it is no deeper than the deepest tree
pub record ExpressionCanBeWritten (e : Expression) : Type 0 where
  pub words : CanBeWrittenAs IsExpression e
  pub shallow : depth e ≤ DEEPEST_TREE

pub record ConditionCanBeWritten (c : Condition) : Type 0 where
  pub words : CanBeWrittenAs IsCondition c
  pub shallow : condition_depth c ≤ DEEPEST_TREE

-- All of the text is this expression, it is no other, and the reader finds it.
pub record SaysExpression (text : List ℕ) (e : Expression) : Type 0 where
  pub no_fault : fault_of text ≡ None
  pub is_tree : IsExpression (words_of text) e
  pub is_no_other : (other : Expression) → IsExpression (words_of text) other → other ≡ e
  pub read : read_expression DEEPEST_TREE (words_of text) ≡ Some (e, [])

-- All of the text is this condition, it is no other, and the reader finds it.
pub record SaysCondition (text : List ℕ) (c : Condition) : Type 0 where
  pub no_fault : fault_of text ≡ None
  pub is_tree : IsCondition (words_of text) c
  pub is_no_other : (other : Condition) → IsCondition (words_of text) other → other ≡ c
  pub read : read_condition DEEPEST_TREE (words_of text) ≡ Some (c, [])
