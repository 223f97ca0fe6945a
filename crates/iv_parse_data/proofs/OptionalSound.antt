-- What is read of numbers, texts, signs and parts that may be left out is at the front.
use Rattle.std.proofs.Common.{◌≡◌, inl, inr, ℕ, zero, suc, Option, Some, None, List, [], ◌∷◌, ◌++◌, refl, ◌∙◌, ap, append-nil}
use Rattle.iv_lex.specs.declared.kind.TokenKind.TheVariants as kind
use Rattle.iv_lex.specs.Words.{Word, name, number, quoted, plain}
use Rattle.iv_syntax.specs.declared.tree.Sign.{Sign}
use Rattle.iv_syntax.specs.declared.tree.Sign.TheVariants as sign
use Rattle.iv_parse_terms.specs.After.{if_some, then_read}
use Rattle.iv_parse_terms.specs.Expressions.{sign_kind}
use Rattle.iv_parse_terms.specs.readers.Expressions.{after_sign}
use Rattle.iv_parse_data.specs.Series.{Sequence, Maybe, InEitherOrder}
use Rattle.iv_parse_data.specs.readers.Series.{read_sequence, read_either_order, with_first}
use Rattle.iv_parse_data.proofs.Fronts.{Good, nothing_good, done_good, after_good, then_good, further, same_found}
use Rattle.iv_parse_data.proofs.Readers.{read_number, read_quoted}

abbrev pub IsNumber : List Word → ℕ → Type 0
IsNumber ws n = ws ≡ number n ∷ []

abbrev pub IsQuoted : List Word → List ℕ → Type 0
IsQuoted ws t = ws ≡ quoted t ∷ []

abbrev pub IsSign : List Word → Sign → Type 0
IsSign ws s = ws ≡ plain (sign_kind s) ∷ []

number_is : (ws : List Word) (n : ℕ) (rest : List Word) → read_number ws ≡ Some (n, rest) → ws ≡ number n ∷ rest
number_is [] n rest h = absurd (cc)
number_is (name m ∷ ws) n rest h = absurd (cc)
number_is (number m ∷ ws) n rest h = let e = same_found m n ws rest h in let f = e.0 in let g = e.1 in cc
number_is (quoted m ∷ ws) n rest h = absurd (cc)
number_is (plain m ∷ ws) n rest h = absurd (cc)

quoted_is : (ws : List Word) (n : List ℕ) (rest : List Word) → read_quoted ws ≡ Some (n, rest) → ws ≡ quoted n ∷ rest
quoted_is [] n rest h = absurd (cc)
quoted_is (name m ∷ ws) n rest h = absurd (cc)
quoted_is (number m ∷ ws) n rest h = absurd (cc)
quoted_is (quoted m ∷ ws) n rest h = let e = same_found m n ws rest h in let f = e.0 in let g = e.1 in cc
quoted_is (plain m ∷ ws) n rest h = absurd (cc)

pub number_good : (ws : List Word) → Good IsNumber ws (read_number ws)
number_good ws = record { holds = λ n rest h. record { front = number n ∷ []; part = refl; whole = number_is ws n rest h } }

pub quoted_good : (ws : List Word) → Good IsQuoted ws (read_quoted ws)
quoted_good ws = record { holds = λ n rest h. record { front = quoted n ∷ []; part = refl; whole = quoted_is ws n rest h } }

pub sign_good : (ws : List Word) → Good IsSign ws (after_sign ws)
sign_good ws =
    after_good IsSign kind.Plus ws _ _ (λ rest. done_good _ rest sign.Plus refl)
    (after_good IsSign kind.Minus ws _ None (λ rest. done_good _ rest sign.Minus refl) (nothing_good IsSign ws))

module _ {A B : Type 0} where
  -- where a part of another rule is at the front, and where none does
  pub found_good : (Part : List Word → A → Type 0) (Whole : List Word → B → Type 0) (ws : List Word) (o : Option (A × List Word)) (f : A × List Word → Option (B × List Word)) (other : Option (B × List Word))
      → Good Part ws o → ((a : A) (front rest : List Word) → Part front a → Good (λ back b. Whole (front ++ back) b) rest (f (a, rest))) → Good Whole ws other → Good Whole ws (if_some o f other)
  found_good Part Whole ws None f other g h n = n
  found_good Part Whole ws (Some p) f other g h n =
      let fit = g.holds p.0 p.1 refl in
      further Whole fit.front ws p.1 (f p) fit.whole (h p.0 fit.front p.1 fit.part)

module _ {A : Type 0} where
  sequence_option : (Part : List Word → A → Type 0) (part : List Word → Option (Option A × List Word)) (ws : List Word) (o : Option (Option A × List Word)) (next : List Word → Option (List A × List Word))
      → Good (Maybe Part) ws o → ((rest : List Word) → Good (Sequence Part) rest (next rest))
      → Good (Sequence Part) ws (then_read o (λ o rest. if_some o (λ a. then_read (next rest) (with_first a)) (Some ([], ws))))
  sequence_option Part part ws None next g h = nothing_good _ ws
  sequence_option Part part ws (Some (None, rest)) next g h = done_good (Sequence Part) ws [] refl
  sequence_option Part part ws (Some (Some a, rest)) next g h =
      let fit = g.holds (Some a) rest refl in
      further (Sequence Part) fit.front ws rest (then_read (next rest) (with_first a)) fit.whole
      (then_good (Sequence Part) (λ back bs. Sequence Part (fit.front ++ back) bs) rest (next rest) (with_first a) (h rest)
      (λ bs back left q. done_good _ left (a ∷ bs) (fit.front, back, fit.part, q, ap (λ z. fit.front ++ z) (append-nil back))))

  sequence_end : (Part : List Word → A → Type 0) (ws : List Word) (o : Option (Option A × List Word))
      → Good (Sequence Part) ws (then_read o (λ o rest. if_some o (λ a. None) (Some ([], ws))))
  sequence_end Part ws None = nothing_good _ ws
  sequence_end Part ws (Some (None, rest)) = done_good (Sequence Part) ws [] refl
  sequence_end Part ws (Some (Some a, rest)) = nothing_good _ ws

  -- the parts of a sequence at the front
  pub sequence_good : (Part : List Word → A → Type 0) (part : List Word → Option (Option A × List Word)) → ((ws : List Word) → Good (Maybe Part) ws (part ws))
      → (n : ℕ) (ws : List Word) → Good (Sequence Part) ws (read_sequence part n ws)
  sequence_good Part part g zero ws = sequence_end Part ws (part ws)
  sequence_good Part part g (suc n) ws = sequence_option Part part ws (part ws) (read_sequence part n) (g ws) (sequence_good Part part g n)

module _ {A B : Type 0} where
  second_good : (First : List Word → A → Type 0) (Second : List Word → B → Type 0) (first : List Word → Option (Option A × List Word))
      → ((ws : List Word) → Good (Maybe First) ws (first ws))
      → (a : Option A) (b : Option B) (f g rest : List Word) → Maybe First f a → Maybe Second g b
      → Good (λ back p. InEitherOrder (Maybe First) (Maybe Second) (f ++ (g ++ back)) p) rest
      (if_some a (λ x. Some ((Some x, b), rest)) (then_read (first rest) (λ c left. Some ((c, b), left))))
  second_good First Second first good (Some x) b f g rest p q = done_good _ rest (Some x, b) (f, g, p, q, inl (ap (λ z. f ++ z) (append-nil g)))
  second_good First Second first good None b f g rest p q =
      then_good (Maybe First) _ rest (first rest) _ (good rest)
      (λ c h left r. done_good _ left (c, b) (h, g, r, q, inr (ap (λ z. z ++ (g ++ (h ++ []))) p ∙ ap (λ z. g ++ z) (append-nil h))))

  -- two parts in either order
  pub either_order_good : (First : List Word → A → Type 0) (Second : List Word → B → Type 0) (first : List Word → Option (Option A × List Word)) (second : List Word → Option (Option B × List Word))
      → ((ws : List Word) → Good (Maybe First) ws (first ws)) → ((ws : List Word) → Good (Maybe Second) ws (second ws))
      → (ws : List Word) → Good (InEitherOrder (Maybe First) (Maybe Second)) ws (read_either_order first second ws)
  either_order_good First Second first second good other ws =
      then_good (Maybe First) _ ws (first ws) _ (good ws)
      (λ a f rest p. then_good (Maybe Second) _ rest (second rest) _ (other rest)
      (λ b g more q. second_good First Second first good a b f g more p q))
