-- What is at the front is read.
use Rattle.std.proofs.Common.{◌≡◌, ℕ, zero, suc, ◌+◌, ◌≤◌, Option, Some, None, List, [], ◌∷◌, ◌++◌, length, sym, ◌∙◌, ap, subst, arith, append_assoc, length-append}
use Rattle.iv_lex.specs.declared.kind.TokenKind.TheVariants as kind
use Rattle.iv_lex.specs.Words.{Word, plain}
use Rattle.iv_parse_terms.specs.After.{after, if_some, then_read}
use Rattle.iv_parse_data.specs.Series.{More, Series, InParentheses}
use Rattle.iv_parse_data.specs.readers.Series.{read_more, read_series, with_first, close, read_enclosed}

-- any words may follow
abbrev pub Anything : List Word → Type 0
Anything ws = Unit {0}

-- a part of the rule is read where what follows cannot go on with it
pub record Reads_all {A : Type 0} (Part : List Word → A → Type 0) (Ends : List Word → Type 0) (part : List Word → Option (A × List Word)) : Type 0 where
  pub reads : (a : A) (front rest : List Word) → Part front a → Ends rest → part (front ++ rest) ≡ Some (a, rest)

module _ {A : Type 0} where
  more_words : (Part : List Word → A → Type 0) (bs : List A) (ws : List Word) → More Part ws bs → length bs ≤ length ws
  more_words Part [] ws m = omega arith
  more_words Part (b ∷ bs) ws (front, back, p, m, e) =
      let shorter : length bs ≤ length back = more_words Part bs back m in
      let long : length ws ≡ suc (length front + length back) = ap length e ∙ ap suc (length-append front back) in
      omega arith

  -- what cannot go on with a part is what follows it in a series
  more_ends : (Part : List Word → A → Type 0) (Ends : List Word → Type 0) → ((ws : List Word) → Ends (plain kind.Comma ∷ ws))
      → (bs : List A) (back rest : List Word) → More Part back bs → Ends rest → Ends (back ++ rest)
  more_ends Part Ends comma [] back rest m e = subst (λ z. Ends (z ++ rest)) (sym m) e
  more_ends Part Ends comma (b ∷ bs) back rest (f, g, p, m, w) e = subst (λ z. Ends (z ++ rest)) (sym w) (comma ((f ++ g) ++ rest))

  more_complete : (Part : List Word → A → Type 0) (Ends : List Word → Type 0) (part : List Word → Option (A × List Word)) → Reads_all Part Ends part
      → ((ws : List Word) → Ends (plain kind.Comma ∷ ws))
      → (n : ℕ) (bs : List A) (front rest : List Word) → More Part front bs → length bs ≤ n → Ends rest → after kind.Comma rest ≡ None
      → read_more part n (front ++ rest) ≡ Some (bs, rest)
  more_complete Part Ends part all comma zero [] front rest m l e last =
      ap (λ z. read_more part zero (z ++ rest)) m ∙ ap (λ o. if_some o (λ others. None) (Some ([], rest))) last
  more_complete Part Ends part all comma (suc n) [] front rest m l e last =
      ap (λ z. read_more part (suc n) (z ++ rest)) m
      ∙ ap (λ o. if_some o (λ others. then_read (part others) (λ a more. then_read (read_more part n more) (with_first a))) (Some ([], rest))) last
  more_complete Part Ends part all comma zero (b ∷ bs) front rest m l e last = absurd (omega arith)
  more_complete Part Ends part all comma (suc n) (b ∷ bs) front rest (f, g, p, m, w) l e last =
      let one : part (f ++ (g ++ rest)) ≡ Some (b, g ++ rest) = all.reads b f (g ++ rest) p (more_ends Part Ends comma bs g rest m e) in
      let others : read_more part n (g ++ rest) ≡ Some (bs, rest) = more_complete Part Ends part all comma n bs g rest m (omega arith) e last in
      ap (λ z. read_more part (suc n) (z ++ rest)) w
      ∙ ap (λ z. then_read (part z) (λ a more. then_read (read_more part n more) (with_first a))) (append_assoc f g rest)
      ∙ ap (λ o. then_read o (λ a more. then_read (read_more part n more) (with_first a))) one
      ∙ ap (λ o. then_read o (with_first b)) others

  series_reads : (Part : List Word → A → Type 0) (Ends : List Word → Type 0) (part : List Word → Option (A × List Word)) → Reads_all Part Ends part
      → ((ws : List Word) → Ends (plain kind.Comma ∷ ws))
      → (bs : List A) (front rest : List Word) → Series Part front bs → Ends rest → after kind.Comma rest ≡ None → read_series part (front ++ rest) ≡ Some (bs, rest)
  unfolding read_series
  series_reads Part Ends part all comma [] front rest p e last = absurd p
  series_reads Part Ends part all comma (b ∷ bs) front rest (f, g, p, m, w) e last =
      let one : part (f ++ (g ++ rest)) ≡ Some (b, g ++ rest) = all.reads b f (g ++ rest) p (more_ends Part Ends comma bs g rest m e) in
      let long : length bs ≤ length (g ++ rest) = omega (arith, more_words Part bs g m, length-append g rest) in
      let others : read_more part (length (g ++ rest)) (g ++ rest) ≡ Some (bs, rest) = more_complete Part Ends part all comma (length (g ++ rest)) bs g rest m long e last in
      ap (λ z. read_series part (z ++ rest)) w
      ∙ ap (λ z. read_series part z) (append_assoc f g rest)
      ∙ ap (λ o. then_read o (λ a more. then_read (read_more part (length more) more) (with_first a))) one
      ∙ ap (λ o. then_read o (with_first b)) others

  -- a series is read
  pub series_complete : (Part : List Word → A → Type 0) (Ends : List Word → Type 0) (part : List Word → Option (A × List Word)) → Reads_all Part Ends part
      → ((ws : List Word) → Ends (plain kind.Comma ∷ ws))
      → Reads_all (Series Part) (λ rest. Ends rest × (after kind.Comma rest ≡ None)) (read_series part)
  series_complete Part Ends part all comma = record { reads = λ bs front rest p e. series_reads Part Ends part all comma bs front rest p e.0 e.1 }

  -- a part between parentheses is read
  pub enclosed_complete : (Part : List Word → A → Type 0) (Ends : List Word → Type 0) (part : List Word → Option (A × List Word)) → Reads_all Part Ends part
      → ((ws : List Word) → Ends (plain kind.RightParenthesis ∷ ws))
      → Reads_all (InParentheses Part) Anything (read_enclosed part)
  unfolding read_enclosed
  enclosed_complete Part Ends part all ends = record {
    reads = λ a front rest (inner, p, w) e.
        ap (λ z. read_enclosed part (z ++ rest)) w
        ∙ ap (λ z. then_read (part z) close) (append_assoc inner (plain kind.RightParenthesis ∷ []) rest)
        ∙ ap (λ o. then_read o close) (all.reads a inner (plain kind.RightParenthesis ∷ rest) p (ends rest));
  }
