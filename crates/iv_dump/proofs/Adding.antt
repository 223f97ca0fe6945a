-- Scripts with further statements.
use Rattle.std.proofs.Common.{inl, inr, ◌≡◌, ℕ, List, [], ◌∷◌, ◌++◌, ◌∙◌, Result, Ok, Err, OnOk, refl, sym, ap, subst, map, append-nil, append_assoc}
use Rattle.std.proofs.lemmas.Grind.{flat_map-append}
use Rattle.std.proofs.lemmas.List.{map-append}
use Rattle.iv_dump.specs.Types.{Statement}
use Rattle.iv_dump.specs.Scripts.{AreScripts, joined, statement_text, texts_of}
use Rattle.iv_dump.specs.declared.refusal.DumpRefusal.{DumpRefusal}
use Rattle.iv_dump.specs.Making.{Adds, Filled, Have, IsPushed}

pub adds_nothing : (a : Filled) → Adds a a []
adds_nothing a before h = subst (Have a) (sym (append-nil before)) h

pub adds_then : (a b c : Filled) (xs ys : List Statement) → Adds a b xs → Adds b c ys → Adds a c (xs ++ ys)
adds_then a b c xs ys f g before h = subst (Have c) (append_assoc before xs ys) (g (before ++ xs) (f before h))

-- at the end of the last script
at_end : (s : Statement) (old : Filled) (before : List Statement) → Have old before
    → Have (old.0, old.1 ++ statement_text s) (before ++ s ∷ [])
at_end s old before h = record {
  parts = h.parts;
  rest = h.rest ++ s ∷ [];
  all = ap (λ xs. xs ++ s ∷ []) h.all ∙ append_assoc (joined h.parts) h.rest (s ∷ []);
  full = h.full;
  last = ap (λ xs. xs ++ statement_text s) h.last ∙ ap (λ xs. texts_of h.rest ++ xs) (sym (append-nil (statement_text s))) ∙ sym (flat_map-append statement_text h.rest (s ∷ []));
}

-- in a further script
further : (s : Statement) (old : Filled) (before : List Statement) → Have old before
    → Have (old.0 ++ old.1 ∷ [], statement_text s) (before ++ s ∷ [])
further s old before h = record {
  parts = h.parts ++ h.rest ∷ [];
  rest = s ∷ [];
  all = ap (λ xs. xs ++ s ∷ []) (h.all ∙ ap (λ xs. joined h.parts ++ xs) (sym (append-nil h.rest)) ∙ sym (flat_map-append (λ (xs : List Statement). xs) h.parts (h.rest ∷ [])));
  full = ap (λ xs. xs ++ old.1 ∷ []) h.full ∙ ap (λ x. map texts_of h.parts ++ x ∷ []) h.last ∙ sym (map-append texts_of h.parts (h.rest ∷ []));
  last = sym (append-nil (statement_text s));
}

pub pushed_adds : (s : Statement) (old new : Filled) → IsPushed (statement_text s) old new → Adds old new (s ∷ [])
pushed_adds s old new (inl e) before h = subst (λ v. Have v (before ++ s ∷ [])) (sym e) (at_end s old before h)
pushed_adds s old new (inr e) before h = subst (λ v. Have v (before ++ s ∷ [])) (sym e) (further s old before h)

pub statement_pushed : (s : Statement) (text : List ℕ) (r : Result (Unit {0}) DumpRefusal) (old new : Filled) → text ≡ statement_text s → OnOk r (IsPushed text old new)
    → OnOk r (Adds old new (s ∷ []))
statement_pushed s text (Ok u) old new e h = pushed_adds s old new (subst (λ t. IsPushed t old new) e h)
statement_pushed s text (Err x) old new e h = tt {0}

-- from no script on
pub all_scripts : (new : Filled) (statements : List Statement) → Adds ([], []) new statements → AreScripts statements (new.0 ++ new.1 ∷ [])
all_scripts new statements f =
    let h = f [] (record { parts = []; rest = []; all = refl; full = refl; last = refl }) in
    record {
      parts = h.parts ++ h.rest ∷ [];
      all = h.all ∙ ap (λ xs. joined h.parts ++ xs) (sym (append-nil h.rest)) ∙ sym (flat_map-append (λ (xs : List Statement). xs) h.parts (h.rest ∷ []));
      texts = ap (λ xs. xs ++ new.1 ∷ []) h.full ∙ ap (λ x. map texts_of h.parts ++ x ∷ []) h.last ∙ sym (map-append texts_of h.parts (h.rest ∷ []));
    }
