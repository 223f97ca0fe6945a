-- The names of a query's columns, one after the other.
use Rattle.std.proofs.Common.{◌≡◌, ℕ, suc, ◌+◌, ◌-◌, ◌<◌, Option, unwrap_or, List, [], ◌∷◌, ◌++◌, sym, ◌∙◌, ap, arith, append_assoc}
use Rattle.std.specs.Prelude.{map}
use Rattle.std.proofs.lemmas.List.{map-append}
use Rattle.iv_catalogue.specs.Catalogues.{Schema}
use Rattle.iv_syntax.specs.declared.statement.Statement.{Statement}
use Rattle.iv_connection.specs.Queries.{query_column}
use Rattle.iv_connection.specs.Results.{names_from}

pub names_more : {A : Type 0} (f : A → List ℕ) (s : Schema) (st : Option Statement) (names : List A) (new : A) (place count : ℕ) (whole : List (List ℕ)) → place < count
    → f new ≡ unwrap_or (query_column s st place) [] → map f names ++ names_from s st place (count - place) ≡ whole
    → map f (names ++ new ∷ []) ++ names_from s st (place + 1) (count - (place + 1)) ≡ whole
names_more f s st names new place count whole l e i =
    let m : ℕ = count - (place + 1) in
    let n : count - place ≡ suc m = omega (arith, l) in
    let p : suc place ≡ place + 1 = omega arith in
    ap (λ t. t ++ names_from s st (place + 1) m) (map-append f names (new ∷ []))
    ∙ append_assoc (map f names) (f new ∷ []) (names_from s st (place + 1) m)
    ∙ ap (λ x. map f names ++ x ∷ names_from s st (place + 1) m) e
    ∙ ap (λ k. map f names ++ unwrap_or (query_column s st place) [] ∷ names_from s st k m) (sym p)
    ∙ ap (λ k. map f names ++ names_from s st place k) (sym n)
    ∙ i
