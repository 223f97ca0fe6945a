-- An UPDATE by the columns of its table.
use Rattle.std.proofs.Common.{◌≡◌, ap, ◌∙◌, ℕ, List, ◌∷◌, Option}
use Rattle.std.specs.Option.{option_or}
use Rattle.iv_syntax.specs.declared.statement.Update.{Update}
use Rattle.iv_catalogue.specs.declared.catalogue.Column.{Column}
use Rattle.iv_resolution.specs.Scopes.{NamedRange, Names, named_columns, own_range}
use Rattle.iv_resolution.specs.Changes.{stored_columns}
use Rattle.iv_resolution.specs.Items.{first_of}
use Rattle.iv_resolve_reasons.specs.Shapes.{ShapeFault, shape_in_assignment, shape_in_filter, shape_in_update}

pub update_by : (names seen : Names) (ranges : List NamedRange) (u : Update) (table : List ℕ) (columns : List Column) (set filter whole : Option ShapeFault)
    → whole ≡ option_or set filter → table ≡ u.table → columns ≡ stored_columns names.tables table → seen ≡ names
    → set ≡ first_of (shape_in_assignment u.table (named_columns columns) (own_range table (named_columns columns) ∷ ranges)) u.assignments
    → filter ≡ shape_in_filter seen (own_range table (named_columns columns) ∷ ranges) u.filter
    → whole ≡ shape_in_update names ranges u
update_by names seen ranges u table columns set filter whole h t c n s f =
    h
    ∙ ap (λ (o : Option ShapeFault). option_or o filter) s
    ∙ ap (λ (o : Option ShapeFault). option_or (first_of (shape_in_assignment u.table (named_columns columns) (own_range table (named_columns columns) ∷ ranges)) u.assignments) o)
    (f ∙ ap (λ (m : Names). shape_in_filter m (own_range table (named_columns columns) ∷ ranges) u.filter) n)
    ∙ ap (λ (cs : List Column). option_or (first_of (shape_in_assignment u.table (named_columns cs) (own_range table (named_columns cs) ∷ ranges)) u.assignments) (shape_in_filter names (own_range table (named_columns cs) ∷ ranges) u.filter)) c
    ∙ ap (λ (m : List ℕ). option_or (first_of (shape_in_assignment u.table (named_columns (stored_columns names.tables m)) (own_range m (named_columns (stored_columns names.tables m)) ∷ ranges)) u.assignments)
    (shape_in_filter names (own_range m (named_columns (stored_columns names.tables m)) ∷ ranges) u.filter)) t
