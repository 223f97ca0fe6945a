-- What is read is at the front.
use Rattle.std.proofs.Common.{◌≡◌, inl, inr, ℕ, zero, suc, Bool, true, false, Option, Some, None, unwrap_or, List, [], ◌∷◌, ◌++◌, length, refl, sym, ◌∙◌, ap, subst, append_assoc, append-nil}
use Rattle.std.specs.Prelude.{if◌then◌else◌}
use Rattle.iv_lex.specs.declared.kind.TokenKind.{TokenKind}
use Rattle.iv_lex.specs.declared.kind.TokenKind.TheVariants as kind
use Rattle.iv_lex.specs.Words.{Word, name, number, quoted, plain}
use Rattle.iv_parse_terms.specs.After.{after, after_name, if_some, then_read, is_word}
use Rattle.iv_parse_terms.proofs.Exact.{exact}
use Rattle.iv_parse_data.specs.Series.{Optional, More, Series, InParentheses}
use Rattle.iv_parse_data.specs.readers.Series.{skip, read_more, read_series, with_first, close, read_closed, read_enclosed}

-- the words begin with a part of the rule, which is this tree
pub record Fits {A : Type 0} (Part : List Word → A → Type 0) (ws : List Word) (a : A) (rest : List Word) : Type 0 where
  pub front : List Word
  pub part : Part front a
  pub whole : ws ≡ front ++ rest

-- what was read is at the front
pub record Good {A : Type 0} (Part : List Word → A → Type 0) (ws : List Word) (found : Option (A × List Word)) : Type 0 where
  pub holds : (a : A) (rest : List Word) → found ≡ Some (a, rest) → Fits Part ws a rest

-- what was read is one thing
pub same_found : {A : Type 0} (a b : A) (ws rest : List Word) → ◌≡◌ {A = Option (A × List Word)} (Some (a, ws)) (Some (b, rest)) → (a ≡ b) × (ws ≡ rest)
same_found {A} a b ws rest h =
    let P : Type 0 = A × List Word in
    let held : Option P → P = λ o. unwrap_or {T = P} o (a, ws) in
    (ap (λ o. (held o).0) h, ap (λ o. (held o).1) h)

-- the word at the front is this one
is_this : (k : TokenKind) (w : Word) → is_word k w ≡ true → w ≡ plain k
is_this k (name n) h = absurd (cc)
is_this k (number n) h = absurd (cc)
is_this k (quoted t) h = absurd (cc)
is_this k (plain j) h = ap plain (exact j k h)

after_by : (k : TokenKind) (w : Word) (ws rest : List Word) (b : Bool) → is_word k w ≡ b → (if b then Some ws else None) ≡ Some rest → w ∷ ws ≡ plain k ∷ rest
after_by k w ws rest true e g = let h = is_this k w e in cc
after_by k w ws rest false e g = absurd (cc)

pub after_is : (k : TokenKind) (ws rest : List Word) → after k ws ≡ Some rest → ws ≡ plain k ∷ rest
after_is k [] rest h = absurd (cc)
after_is k (w ∷ ws) rest h = after_by k w ws rest (is_word k w) refl h

pub name_is : (ws : List Word) (n : List ℕ) (rest : List Word) → after_name ws ≡ Some (n, rest) → ws ≡ name n ∷ rest
name_is [] n rest h = absurd (cc)
name_is (name m ∷ ws) n rest h = let e = same_found m n ws rest h in let f = e.0 in let g = e.1 in cc
name_is (number m ∷ ws) n rest h = absurd (cc)
name_is (quoted m ∷ ws) n rest h = absurd (cc)
name_is (plain m ∷ ws) n rest h = absurd (cc)

module _ {A : Type 0} where
  pub nothing_good : (Part : List Word → A → Type 0) (ws : List Word) → Good Part ws None
  nothing_good Part ws = record { holds = λ a rest h. absurd (cc) }

  pub done_good : (Part : List Word → A → Type 0) (ws : List Word) (a : A) → Part [] a → Good Part ws (Some (a, ws))
  done_good Part ws a p = record {
    holds = λ b rest h.
        let e = same_found a b ws rest h in
        record { front = []; part = subst (λ x. Part [] x) e.0 p; whole = e.1 };
  }

  -- a part of the rest, after these words
  pub further : (Part : List Word → A → Type 0) (front ws rest : List Word) (found : Option (A × List Word))
      → ws ≡ front ++ rest → Good (λ back a. Part (front ++ back) a) rest found → Good Part ws found
  further Part front ws rest found e g = record {
    holds = λ a left h.
        let f = g.holds a left h in
        record { front = front ++ f.front; part = f.part; whole = e ∙ ap (λ z. front ++ z) f.whole ∙ sym (append_assoc front f.front left) };
  }

  after_option : (Part : List Word → A → Type 0) (k : TokenKind) (ws : List Word) (o : Option (List Word)) (f : List Word → Option (A × List Word)) (other : Option (A × List Word))
      → after k ws ≡ o → ((rest : List Word) → Good (λ back a. Part (plain k ∷ back) a) rest (f rest)) → Good Part ws other → Good Part ws (if_some o f other)
  after_option Part k ws None f other e g h = h
  after_option Part k ws (Some rest) f other e g h = further Part (plain k ∷ []) ws rest (f rest) (after_is k ws rest e) (g rest)

  -- where this word is at the front, and where it isn't
  pub after_good : (Part : List Word → A → Type 0) (k : TokenKind) (ws : List Word) (f : List Word → Option (A × List Word)) (other : Option (A × List Word))
      → ((rest : List Word) → Good (λ back a. Part (plain k ∷ back) a) rest (f rest)) → Good Part ws other → Good Part ws (if_some (after k ws) f other)
  after_good Part k ws f other g h = after_option Part k ws (after k ws) f other refl g h

  name_option : (Part : List Word → A → Type 0) (ws : List Word) (o : Option (List ℕ × List Word)) (f : List ℕ → List Word → Option (A × List Word))
      → after_name ws ≡ o → ((n : List ℕ) (rest : List Word) → Good (λ back a. Part (name n ∷ back) a) rest (f n rest)) → Good Part ws (then_read o f)
  name_option Part ws None f e g = nothing_good Part ws
  name_option Part ws (Some p) f e g = further Part (name p.0 ∷ []) ws p.1 (f p.0 p.1) (name_is ws p.0 p.1 e) (g p.0 p.1)

  -- a name at the front
  pub name_good : (Part : List Word → A → Type 0) (ws : List Word) (f : List ℕ → List Word → Option (A × List Word))
      → ((n : List ℕ) (rest : List Word) → Good (λ back a. Part (name n ∷ back) a) rest (f n rest)) → Good Part ws (then_read (after_name ws) f)
  name_good Part ws f g = name_option Part ws (after_name ws) f refl g

module _ {A B : Type 0} where
  -- a part of another rule at the front
  pub then_good : (Part : List Word → A → Type 0) (Whole : List Word → B → Type 0) (ws : List Word) (o : Option (A × List Word)) (f : A → List Word → Option (B × List Word))
      → Good Part ws o → ((a : A) (front rest : List Word) → Part front a → Good (λ back b. Whole (front ++ back) b) rest (f a rest)) → Good Whole ws (then_read o f)
  then_good Part Whole ws None f g h = nothing_good Whole ws
  then_good Part Whole ws (Some p) f g h =
      let fit = g.holds p.0 p.1 refl in
      further Whole fit.front ws p.1 (f p.0 p.1) fit.whole (h p.0 fit.front p.1 fit.part)

module _ {A : Type 0} where
  more_good : (Part : List Word → A → Type 0) (part : List Word → Option (A × List Word)) → ((ws : List Word) → Good Part ws (part ws))
      → (n : ℕ) (ws : List Word) → Good (More Part) ws (read_more part n ws)
  more_good Part part g zero ws =
      after_good (More Part) kind.Comma ws (λ rest. None) (Some ([], ws)) (λ rest. nothing_good _ rest) (done_good (More Part) ws [] refl)
  more_good Part part g (suc n) ws =
      after_good (More Part) kind.Comma ws _ (Some ([], ws))
      (λ rest. then_good Part (λ back bs. More Part (plain kind.Comma ∷ back) bs) rest (part rest) _ (g rest)
      (λ a front others p. then_good (More Part) (λ back bs. More Part (plain kind.Comma ∷ (front ++ back)) bs) others (read_more part n others) (with_first a) (more_good Part part g n others)
      (λ bs back left q. done_good _ left (a ∷ bs) (front, back, p, q, ap (λ z. plain kind.Comma ∷ (front ++ z)) (append-nil back)))))
      (done_good (More Part) ws [] refl)

  -- the parts of a series at the front
  pub series_good : (Part : List Word → A → Type 0) (part : List Word → Option (A × List Word)) → ((ws : List Word) → Good Part ws (part ws))
      → (ws : List Word) → Good (Series Part) ws (read_series part ws)
  unfolding read_series
  series_good Part part g ws =
      then_good Part (Series Part) ws (part ws) _ (g ws)
      (λ a front rest p. then_good (More Part) (λ back bs. Series Part (front ++ back) bs) rest (read_more part (length rest) rest) (with_first a) (more_good Part part g (length rest) rest)
      (λ bs back left q. done_good _ left (a ∷ bs) (front, back, p, q, ap (λ z. front ++ z) (append-nil back))))

module _ {A : Type 0} where
  skip_option : (Part : List Word → A → Type 0) (k : TokenKind) (ws : List Word) (o : Option (List Word)) (f : List Word → Option (A × List Word))
      → after k ws ≡ o → ((front rest : List Word) → Optional k front → Good (λ back a. Part (front ++ back) a) rest (f rest)) → Good Part ws (f (if_some o (λ rest. rest) ws))
  skip_option Part k ws None f e g = g [] ws (inl refl)
  skip_option Part k ws (Some rest) f e g = further Part (plain k ∷ []) ws rest (f rest) (after_is k ws rest e) (g (plain k ∷ []) rest (inr refl))

  -- a word that may be left out at the front
  pub skip_good : (Part : List Word → A → Type 0) (k : TokenKind) (ws : List Word) (f : List Word → Option (A × List Word))
      → ((front rest : List Word) → Optional k front → Good (λ back a. Part (front ++ back) a) rest (f rest)) → Good Part ws (f (skip k ws))
  skip_good Part k ws f g = skip_option Part k ws (after k ws) f refl g

module _ {A : Type 0} where
  -- what is read up to the parenthesis that closes
  pub closed_good : (Part : List Word → A → Type 0) (part : List Word → Option (A × List Word)) → ((ws : List Word) → Good Part ws (part ws))
      → (ws : List Word) → Good (λ back a. InParentheses Part (plain kind.LeftParenthesis ∷ back) a) ws (read_closed part ws)
  closed_good Part part g ws =
      then_good Part _ ws (part ws) close (g ws)
      (λ a front rest p. after_good _ kind.RightParenthesis rest (λ more. Some (a, more)) None
      (λ more. done_good _ more a (front, p, refl))
      (nothing_good _ rest))

  pub enclosed_good : (Part : List Word → A → Type 0) (part : List Word → Option (A × List Word)) → ((ws : List Word) → Good Part ws (part ws))
      → (ws : List Word) → Good (InParentheses Part) ws (read_enclosed part ws)
  unfolding read_enclosed
  enclosed_good Part part g ws = after_good _ kind.LeftParenthesis ws (read_closed part) None (λ rest. closed_good Part part g rest) (nothing_good _ ws)

module _ {A B : Type 0} where
  -- what is made of a part
  pub made_good : (Part : List Word → A → Type 0) (Whole : List Word → B → Type 0) (ws : List Word) (o : Option (A × List Word)) (make : A → B)
      → Good Part ws o → ((a : A) (front : List Word) → Part front a → Whole front (make a)) → Good Whole ws (then_read o (λ a rest. Some (make a, rest)))
  made_good Part Whole ws o make g h =
      then_good Part Whole ws o _ g
      (λ a front rest p. done_good _ rest (make a) (subst (λ z. Whole z (make a)) (sym (append-nil front)) (h a front p)))

module _ {A : Type 0} where
  ahead_second : (Part : List Word → A → Type 0) (j k : TokenKind) (ws rest : List Word) (o : Option (List Word)) (f : List Word → Option (A × List Word)) (other : Option (A × List Word))
      → ws ≡ plain j ∷ rest → after k rest ≡ o → ((more : List Word) → Good (λ back a. Part (plain j ∷ plain k ∷ back) a) more (f more)) → Good Part ws other → Good Part ws (if_some o f other)
  ahead_second Part j k ws rest None f other d e g h = h
  ahead_second Part j k ws rest (Some more) f other d e g h =
      further Part (plain j ∷ plain k ∷ []) ws more (f more) (d ∙ ap (λ z. plain j ∷ z) (after_is k rest more e)) (g more)

  ahead_first : (Part : List Word → A → Type 0) (j k : TokenKind) (ws : List Word) (o : Option (List Word)) (f : List Word → Option (A × List Word)) (other : Option (A × List Word))
      → after j ws ≡ o → ((more : List Word) → Good (λ back a. Part (plain j ∷ plain k ∷ back) a) more (f more)) → Good Part ws other → Good Part ws (if_some o (λ rest. if_some (after k rest) f other) other)
  ahead_first Part j k ws None f other e g h = h
  ahead_first Part j k ws (Some rest) f other e g h = ahead_second Part j k ws rest (after k rest) f other (after_is j ws rest e) refl g h

  -- where these two words are at the front, and where they aren't
  pub ahead_good : (Part : List Word → A → Type 0) (j k : TokenKind) (ws : List Word) (f : List Word → Option (A × List Word)) (other : Option (A × List Word))
      → ((more : List Word) → Good (λ back a. Part (plain j ∷ plain k ∷ back) a) more (f more)) → Good Part ws other → Good Part ws (if_some (after j ws) (λ rest. if_some (after k rest) f other) other)
  ahead_good Part j k ws f other g h = ahead_first Part j k ws (after j ws) f other refl g h
