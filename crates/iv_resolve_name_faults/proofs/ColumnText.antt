-- The columns of a CREATE TABLE up to a place of its text, and the text before the first column that comes again.
use Rattle.std.proofs.Common.{◌≡◌, ap, sym, ◌∙◌, ℕ, ◌+◌, ◌<◌, ◌≤◌, true, false, List, [], ◌∷◌, ◌++◌, if◌then◌else◌, map, length, take, drop, get_or, append-nil}
use Rattle.std.proofs.lemmas.List.{append_assoc, map-append, take_all}
use Rattle.std.proofs.lemmas.List.Elements.{filter_map-append}
use Rattle.iv_syntax.specs.declared.table.ColumnDefinition.{ColumnDefinition}
use Rattle.iv_syntax.specs.declared.table.TableConstraint.{TableConstraint}
use Rattle.iv_syntax.specs.declared.table.TableElement.{TableElement}
use Rattle.iv_syntax.specs.declared.table.TableElement.TheVariants as element
use Rattle.iv_catalogue.specs.Names.{is_among}
use Rattle.iv_resolution.specs.Constraints.{column_definition, written_columns}
use Rattle.iv_resolution.specs.Items.{first_again}
use Rattle.iv_resolution.specs.NameFaults.{before_column_again}
use Rattle.iv_resolve_scope.proofs.Places.{next_of, none_left}
use Rattle.iv_resolve_name_faults.proofs.InPlace.{again_passed, taken_next}

abbrev pub column_names : List TableElement → List (List ℕ)
column_names elements = map (λ c. c.name) (written_columns elements)

joined : (xs ys : List TableElement) → column_names (xs ++ ys) ≡ column_names xs ++ column_names ys
joined xs ys = ap (map (λ (c : ColumnDefinition). c.name)) (filter_map-append column_definition xs ys) ∙ map-append (λ (c : ColumnDefinition). c.name) (written_columns xs) (written_columns ys)

-- ---- a column at a place

rest_is : (elements : List TableElement) (i : ℕ) (e x : TableElement) → i < length elements → e ≡ get_or elements i e → e ≡ x → drop i elements ≡ x ∷ drop (i + 1) elements
rest_is elements i e x h g is = next_of elements i e h g ∙ ap (λ y. y ∷ drop (i + 1) elements) is

taken_is : (elements : List TableElement) (i : ℕ) (e x : TableElement) → i < length elements → e ≡ get_or elements i e → e ≡ x → take (i + 1) elements ≡ take i elements ++ x ∷ []
taken_is elements i e x h g is = taken_next elements i e h g ∙ ap (λ y. take i elements ++ y ∷ []) is

pub names_with : (elements : List TableElement) (i : ℕ) (e : TableElement) (c : ColumnDefinition) → i < length elements → e ≡ get_or elements i e → e ≡ element.Column c
    → column_names (take (i + 1) elements) ≡ column_names (take i elements) ++ c.name ∷ []
names_with elements i e c h g is = ap column_names (taken_is elements i e (element.Column c) h g is) ∙ joined (take i elements) (element.Column c ∷ [])

pub column_passed : (set : List (List ℕ)) (elements : List TableElement) (i : ℕ) (e : TableElement) (c : ColumnDefinition) → i < length elements → e ≡ get_or elements i e → e ≡ element.Column c
    → is_among set c.name ≡ false
    → first_again (λ n. n) set (column_names (drop i elements)) ≡ first_again (λ n. n) (set ++ c.name ∷ []) (column_names (drop (i + 1) elements))
column_passed set elements i e c h g is new =
    ap (λ l. first_again (λ n. n) set (column_names l)) (rest_is elements i e (element.Column c) h g is)
    ∙ again_passed (λ n. n) set c.name (column_names (drop (i + 1) elements)) new

pub text_passed : (set : List (List ℕ)) (elements : List TableElement) (i : ℕ) (e : TableElement) (c : ColumnDefinition) → i < length elements → e ≡ get_or elements i e → e ≡ element.Column c
    → is_among set c.name ≡ false
    → take i elements ++ before_column_again set (drop i elements) ≡ take (i + 1) elements ++ before_column_again (set ++ c.name ∷ []) (drop (i + 1) elements)
text_passed set elements i e c h g is new =
    ap (λ l. take i elements ++ before_column_again set l) (rest_is elements i e (element.Column c) h g is)
    ∙ ap (λ b. take i elements ++ (if b then [] else element.Column c ∷ before_column_again (set ++ c.name ∷ []) (drop (i + 1) elements))) new
    ∙ sym (append_assoc (take i elements) (element.Column c ∷ []) (before_column_again (set ++ c.name ∷ []) (drop (i + 1) elements)))
    ∙ ap (λ l. l ++ before_column_again (set ++ c.name ∷ []) (drop (i + 1) elements)) (sym (taken_is elements i e (element.Column c) h g is))

-- the text ends if the column is among those before it
pub text_found : (set : List (List ℕ)) (elements : List TableElement) (i : ℕ) (e : TableElement) (c : ColumnDefinition) → i < length elements → e ≡ get_or elements i e → e ≡ element.Column c
    → is_among set c.name ≡ true → take i elements ++ before_column_again set (drop i elements) ≡ take i elements
text_found set elements i e c h g is there =
    ap (λ l. take i elements ++ before_column_again set l) (rest_is elements i e (element.Column c) h g is)
    ∙ ap (λ b. take i elements ++ (if b then [] else element.Column c ∷ before_column_again (set ++ c.name ∷ []) (drop (i + 1) elements))) there
    ∙ append-nil (take i elements)

-- ---- a constraint at a place

pub names_without : {k : TableConstraint} (elements : List TableElement) (i : ℕ) (e : TableElement) → i < length elements → e ≡ get_or elements i e → e ≡ element.Constraint k
    → column_names (take (i + 1) elements) ≡ column_names (take i elements)
names_without {k} elements i e h g is =
    ap column_names (taken_is elements i e (element.Constraint k) h g is) ∙ joined (take i elements) (element.Constraint k ∷ []) ∙ append-nil (column_names (take i elements))

pub column_skipped : {k : TableConstraint} (set : List (List ℕ)) (elements : List TableElement) (i : ℕ) (e : TableElement) → i < length elements → e ≡ get_or elements i e → e ≡ element.Constraint k
    → first_again (λ n. n) set (column_names (drop i elements)) ≡ first_again (λ n. n) set (column_names (drop (i + 1) elements))
column_skipped {k} set elements i e h g is = ap (λ l. first_again (λ n. n) set (column_names l)) (rest_is elements i e (element.Constraint k) h g is)

pub text_skipped : {k : TableConstraint} (set : List (List ℕ)) (elements : List TableElement) (i : ℕ) (e : TableElement) → i < length elements → e ≡ get_or elements i e → e ≡ element.Constraint k
    → take i elements ++ before_column_again set (drop i elements) ≡ take (i + 1) elements ++ before_column_again set (drop (i + 1) elements)
text_skipped {k} set elements i e h g is =
    ap (λ l. take i elements ++ before_column_again set l) (rest_is elements i e (element.Constraint k) h g is)
    ∙ sym (append_assoc (take i elements) (element.Constraint k ∷ []) (before_column_again set (drop (i + 1) elements)))
    ∙ ap (λ l. l ++ before_column_again set (drop (i + 1) elements)) (sym (taken_is elements i e (element.Constraint k) h g is))

-- ---- the end of the text

pub text_ends : (set : List (List ℕ)) (elements : List TableElement) (i : ℕ) → length elements ≤ i → take i elements ++ before_column_again set (drop i elements) ≡ elements
text_ends set elements i h = ap (λ l. take i elements ++ before_column_again set l) (none_left elements i h) ∙ append-nil (take i elements) ∙ take_all i elements h
