-- Columns that a list names once, and firings by the columns that are named.
use Rattle.std.proofs.Common.{◌≡◌, refl, ℕ, Bool, true, false, ◌&&◌, ◌||◌, not, List, [], ◌∷◌, ◌++◌, length, filter, flat_map, sym, ap, ◌∙◌}
use mathlib.Core.Bool.{or-false}
use Rattle.std.specs.Bool.{◌==◌}
use Rattle.std.specs.List.{list_any}
use Rattle.std.proofs.lemmas.Bool.{eqb-true, eq-eqb, ne_eqb, or_parts, true≢false}
use Rattle.iv_expr.specs.declared.wave.TableColumn.{TableColumn}
use Rattle.iv_expr.specs.Changes.{Wave, names_column}
use Rattle.iv_catalogue.specs.declared.plan.DataStatement.{DataStatement}
use Rattle.iv_catalogue.specs.declared.plan.Trigger.{Trigger}
use Rattle.iv_machine.specs.BeforeTriggers.{is_before}
use Rattle.iv_machine.specs.Context.{Context}
use Rattle.iv_machine.specs.Levels.{firings, firings_of, is_after_on, transitions_of}
use Rattle.iv_exec_triggers.specs.Distinct.{EachOnce}

-- Triggers fire by the columns that are named.
pub firings_by_name : (context : Context) (statement : DataStatement) (columns others : List TableColumn) (net : Wave)
    → ((table column : ℕ) → names_column columns table column ≡ names_column others table column)
    → firings context statement columns net ≡ firings context statement others net
firings_by_name context statement columns others net same =
    ap (λ (p : Trigger → Bool). flat_map (λ t. firings_of statement t (transitions_of t net)) (filter p context.schema.triggers)) (λ i t. same_on t i)
  where
    same_on : (t : Trigger) → is_after_on columns t ≡ is_after_on others t
    same_on t = λ i. not (is_before t) && ((length t.columns == 0) || list_any (λ c. same t.table c i) t.columns)

-- ---- one column more

one_added : (columns : List TableColumn) (x : TableColumn) (t c : ℕ)
    → names_column (columns ++ x ∷ []) t c ≡ (names_column columns t c || ((x.table == t) && (x.column == c)))
one_added [] x t c = or-false ((x.table == t) && (x.column == c))
one_added (y ∷ columns) x t c =
    elim ((y.table == t) && (y.column == c)) as (λ b. (b || names_column (columns ++ x ∷ []) t c) ≡ ((b || names_column columns t c) || ((x.table == t) && (x.column == c)))) [
      | true ↦ refl
      | false ↦ one_added columns x t c
    ]

turned : (a b : ℕ) → (a == b) ≡ (b == a)
turned a b =
    elim (a == b) as (λ x. (a == b) ≡ x → x ≡ (b == a)) [
      | true ↦ λ e. sym (eq-eqb b a (sym (eqb-true a b e)))
      | false ↦ λ e. sym (ne_eqb b a (λ f. true≢false (sym (eq-eqb a b (sym f)) ∙ e)))
    ] refl

-- a column that isn't there yet may be added
pub once_more : (columns : List TableColumn) (x : TableColumn) → names_column columns x.table x.column ≡ false → EachOnce columns → EachOnce (columns ++ x ∷ [])
once_more [] x e h = (refl, tt)
once_more (y ∷ columns) x e h =
    let parts = or_parts ((y.table == x.table) && (y.column == x.column)) (names_column columns x.table x.column) e in
    let apart : ((x.table == y.table) && (x.column == y.column)) ≡ false =
    (λ i. turned x.table y.table i && turned x.column y.column i) ∙ parts.0 in
    (one_added columns x y.table y.column ∙ ap (λ b. b || ((x.table == y.table) && (x.column == y.column))) h.0 ∙ apart, once_more columns x parts.1 h.1)
