-- The words that a tree is written with are the tree by the grammar if any words are, and can be written if those can.
use Rattle.std.proofs.Common.{inl, inr, ◌≡◌, ℕ, Some, None, List, [], ◌∷◌, ◌++◌, refl, sym, ◌∙◌, ap, subst, append-nil}
use Rattle.std.specs.Prelude.{IsUtf8}
use Rattle.iv_syntax.specs.declared.limits.TheConstants.{DEEPEST_TREE}
use Rattle.iv_syntax.specs.Trees.{enclosed, negated, both, either, exists_where}
use Rattle.iv_lex.specs.declared.kind.TokenKind.TheVariants as kind
use Rattle.iv_lex.specs.Words.{Word, name, plain}
use Rattle.iv_parse_terms.specs.Types.{Condition, Expression}
use Rattle.iv_parse_terms.specs.Types.condition.{Compare, IsNull, IsNotNull, Exists}
use Rattle.iv_parse_terms.specs.Expressions.{spelling, IsExpression}
use Rattle.iv_parse_terms.specs.Conditions.{AliasSpelled, RangeSpelled, Spelled, exists_spelling, IsCondition}
use Rattle.iv_parse_terms.specs.readers.Expressions.{read_expression}
use Rattle.iv_parse_terms.specs.readers.Conditions.{read_condition}
use Rattle.iv_parse_terms.proofs.Theorems.{expression_complete, condition_complete, one_expression, one_condition}
use Rattle.iv_template.specs.Templates.{words_of}
use Rattle.iv_write.specs.Spelling.{AreWritten}
use Rattle.iv_write.specs.Layouts.{text_of}
use Rattle.iv_write.specs.Terms.{alias_words, range_words, condition_words}
use Rattle.iv_write.specs.Says.{ExpressionCanBeWritten, ConditionCanBeWritten, SaysExpression, SaysCondition}
use Rattle.iv_write.proofs.LaidOut.{written_words}

-- ---- words in parts

pub joined : (xs ys : List Word) → AreWritten xs → AreWritten ys → AreWritten (xs ++ ys)
joined [] ys h i = i
joined (x ∷ xs) ys (w, h) i = (w, joined xs ys h i)

pub parts : (xs ys : List Word) → AreWritten (xs ++ ys) → AreWritten xs × AreWritten ys
parts [] ys h = (tt {0}, h)
parts (x ∷ xs) ys (w, h) = let p = parts xs ys h in ((w, p.0), p.1)

-- these words are the part, and can be written
abbrev pub Both : {A : Type 0} → (List Word → A → Type 0) → List Word → A → Type 0
Both Part ws a = Part ws a × AreWritten ws

-- The words that a part is written with are the part if any words are.
abbrev pub Canonical : {A : Type 0} → (List Word → A → Type 0) → (A → List Word) → Type 0
Canonical {A} Part words = (ws : List Word) (a : A) → Part ws a → AreWritten ws → Both Part (words a) a

-- ---- FROM and conditions

alias_canonical : Canonical (λ ws o. AliasSpelled o ws) alias_words
alias_canonical ws None p w = (refl, tt {0})
alias_canonical ws (Some a) (inl e) w = (inr refl, (refl, ((subst AreWritten e w).0, tt {0})))
alias_canonical ws (Some a) (inr e) w = (inr refl, subst AreWritten e w)

pub range_canonical : Canonical (λ ws r. RangeSpelled r ws) range_words
range_canonical ws r (alias, p, e) w =
    let v : AreWritten (plain kind.From ∷ name r.table ∷ alias) = subst AreWritten e w in
    let a = alias_canonical alias r.alias p v.1.1 in
    ((alias_words r.alias, a.0, refl), (refl, (v.1.0, a.1)))

pub closed : (ws : List Word) → AreWritten ws → AreWritten (ws ++ plain kind.RightParenthesis ∷ [])
closed ws h = joined ws (plain kind.RightParenthesis ∷ []) h (refl, tt {0})

exists_written : (ws : List Word) → AreWritten ws → AreWritten (exists_spelling ws)
exists_written ws h = (refl, (refl, (refl, (refl, closed ws h))))

inside : (ws : List Word) → AreWritten (exists_spelling ws) → AreWritten ws
inside ws h = (parts ws (plain kind.RightParenthesis ∷ []) h.1.1.1.1).0

pub spelled_canonical : Canonical (λ ws c. Spelled c ws) condition_words
spelled_canonical ws (Compare o a b) e w = (refl, subst AreWritten e w)
spelled_canonical ws (IsNull a) e w = (refl, subst AreWritten e w)
spelled_canonical ws (IsNotNull a) e w = (refl, subst AreWritten e w)
spelled_canonical ws (Exists r) (from, p, e) w =
    let a = range_canonical from r p (inside from (subst AreWritten e w)) in
    ((range_words r, a.0, refl), exists_written (range_words r) a.1)
spelled_canonical ws (exists_where r c) (from, inner, p, q, e) w =
    let v = parts from (plain kind.Where ∷ inner) (inside (from ++ plain kind.Where ∷ inner) (subst AreWritten e w)) in
    let a = range_canonical from r p v.0 in
    let b = spelled_canonical inner c q v.1.1 in (
      (range_words r, condition_words c, a.0, b.0, refl),
      exists_written (range_words r ++ plain kind.Where ∷ condition_words c) (joined (range_words r) (plain kind.Where ∷ condition_words c) a.1 (refl, b.1)),
    )
spelled_canonical ws (enclosed c) (inner, p, e) w =
    let v : AreWritten (plain kind.LeftParenthesis ∷ (inner ++ plain kind.RightParenthesis ∷ [])) = subst AreWritten e w in
    let a = spelled_canonical inner c p (parts inner (plain kind.RightParenthesis ∷ []) v.1).0 in
    ((condition_words c, a.0, refl), (refl, closed (condition_words c) a.1))
spelled_canonical ws (negated c) (inner, p, e) w =
    let v : AreWritten (plain kind.Not ∷ inner) = subst AreWritten e w in
    let a = spelled_canonical inner c p v.1 in
    ((condition_words c, a.0, refl), (refl, a.1))
spelled_canonical ws (both c d) (left, right, p, q, e) w =
    let v = parts left (plain kind.And ∷ right) (subst AreWritten e w) in
    let a = spelled_canonical left c p v.0 in
    let b = spelled_canonical right d q v.1.1 in
    ((condition_words c, condition_words d, a.0, b.0, refl), joined (condition_words c) (plain kind.And ∷ condition_words d) a.1 (refl, b.1))
spelled_canonical ws (either c d) (left, right, p, q, e) w =
    let v = parts left (plain kind.Or ∷ right) (subst AreWritten e w) in
    let a = spelled_canonical left c p v.0 in
    let b = spelled_canonical right d q v.1.1 in
    ((condition_words c, condition_words d, a.0, b.0, refl), joined (condition_words c) (plain kind.Or ∷ condition_words d) a.1 (refl, b.1))

pub expression_canonical : Canonical IsExpression spelling
expression_canonical ws e i w = (record { formed = i.formed; spelled = refl }, subst AreWritten i.spelled w)

pub condition_canonical : Canonical IsCondition condition_words
condition_canonical ws c i w =
    let a = spelled_canonical ws c i.spelled w in
    (record { formed = i.formed; spelled = a.0 }, a.1)

-- ---- what a text says

pub says_expression : (text : List ℕ) (e : Expression) → IsUtf8 text → text ≡ text_of (spelling e) → ExpressionCanBeWritten e → SaysExpression text e
says_expression text e u t h =
    let (ws, i, v) = h.words in
    let a = expression_canonical ws e i v in
    let w = written_words text (spelling e) u t a.1 in
    let j : IsExpression (words_of text) e = record { formed = i.formed; spelled = w.0 } in
    record {
      no_fault = w.1;
      is_tree = j;
      is_no_other = λ other k. one_expression (words_of text) other e k j;
      read = ap (read_expression DEEPEST_TREE) (sym (append-nil (words_of text)))
          ∙ expression_complete (words_of text) [] e j h.shallow ((refl, refl), refl, refl);
    }

pub says_condition : (text : List ℕ) (c : Condition) → IsUtf8 text → text ≡ text_of (condition_words c) → ConditionCanBeWritten c → SaysCondition text c
says_condition text c u t h =
    let (ws, i, v) = h.words in
    let a = condition_canonical ws c i v in
    let w = written_words text (condition_words c) u t a.1 in
    let j : IsCondition (words_of text) c = subst (λ z. IsCondition z c) (sym w.0) a.0 in
    record {
      no_fault = w.1;
      is_tree = j;
      is_no_other = λ other k. one_condition (words_of text) other c k j;
      read = ap (read_condition DEEPEST_TREE) (sym (append-nil (words_of text)))
          ∙ condition_complete (words_of text) [] c j h.shallow ((((refl, refl), refl, refl), refl), refl);
    }
