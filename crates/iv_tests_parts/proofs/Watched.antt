-- Constraints that are watched if there is no row.
use Rattle.std.proofs.Common.{◌≡◌, ℕ, true, false, Bool, ◌&&◌, ◌||◌, List, [], ◌∷◌, map, Some, None, sym, ap, ◌∙◌}
use Rattle.std.specs.Bool.{◌==◌}
use Rattle.iv_catalogue.specs.declared.constraint.Constraint.{Constraint}
use Rattle.iv_catalogue.specs.declared.constraint.Rule.{Rule}
use Rattle.iv_catalogue.specs.declared.constraint.ForeignKey.{ForeignKey}
use Rattle.iv_catalogue.specs.declared.constraint.Rule.TheVariants as rule
use Rattle.iv_syntax.specs.declared.table.NullTreatment.{NullTreatment}
use Rattle.iv_store.specs.Stores.{has_key, is_named_key, unique_columns, are_same_columns}
use Rattle.iv_machine.specs.ReferentialActions.{foreign_key}
use Rattle.iv_store_groups.specs.Groups.{Contents, GroupOf, groups_of}
use Rattle.iv_laws_levels.proofs.RowNumbers.{some_none}
use Rattle.iv_laws_kept.specs.Kept.{AllNamed, Show, rows_in}
use Rattle.iv_store_violating.specs.Shown.{shown, shown_group}
use Rattle.iv_store_violating.proofs.Shown.{groups_shown}
use Rattle.iv_store_faults.specs.Watching.{IsShownBy}

-- groups without a row show no row
pub no_row_shown : (constraints : List Constraint) (groups : List (List GroupOf)) → ((k : ℕ) → groups_of groups k ≡ []) → Show [] constraints (shown groups)
no_row_shown constraints groups none id c key at = ap (λ own. rows_in own key) (groups_shown groups id ∙ ap (λ own. map shown_group own) (none id))

-- if no constraint is watched, all groups show no row
pub nothing_shown : (groups : Contents) → IsShownBy [] (record { constraints = []; violating = [] }) groups
nothing_shown groups = record {
  in_order = tt;
  shows = λ id c key at. absurd (some_none c (sym at));
  flagged = λ id c place at. absurd (some_none c (sym at));
}

-- a UNIQUE constraint names no key
pub unique_is_named : (c : Constraint) (nulls : NullTreatment) (columns : List ℕ) → c.rule ≡ rule.Unique nulls columns → AllNamed (c ∷ [])
unique_is_named c nulls columns e = ap (λ r. has_key (c ∷ []) (foreign_key r) && true) e

-- whether a constraint of this table and rule is the key that a foreign key names
abbrev is_key : ForeignKey → ℕ → Rule → Bool
is_key fk table r = (table == fk.referenced) && elim (unique_columns r) [ Some columns ↦ are_same_columns columns fk.key | None ↦ false ]

-- a foreign key with a PRIMARY KEY before it that is the key that it names
pub pair_is_named : (p f : Constraint) (fk : ForeignKey) → is_key fk p.table p.rule ≡ true → p.rule ≡ rule.PrimaryKey fk.key → f.rule ≡ rule.ForeignKey fk → AllNamed (p ∷ f ∷ [])
pair_is_named p f fk key primary foreign =
    ap (λ r. has_key (p ∷ f ∷ []) (foreign_key r) && (has_key (p ∷ f ∷ []) (foreign_key f.rule) && true)) primary
    ∙ ap (λ r. has_key (p ∷ f ∷ []) (foreign_key r) && true) foreign
    ∙ ap (λ b. (b || (is_named_key fk f || false)) && true) key
