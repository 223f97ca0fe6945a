-- Parts that may be left out, parts in either order and sequences of parts are read.
use Rattle.std.proofs.Common.{◌≡◌, inl, inr, ℕ, zero, suc, ◌+◌, ◌≤◌, Option, Some, None, List, [], ◌∷◌, ◌++◌, length, sym, ◌∙◌, ap, subst, arith, append_assoc, append-nil, length-append}
use Rattle.iv_lex.specs.declared.kind.TokenKind.{TokenKind}
use Rattle.iv_lex.specs.Words.{Word}
use Rattle.iv_parse_terms.specs.After.{after, if_some, then_read}
use Rattle.iv_parse_data.proofs.Fronts.{same_found}
use Rattle.iv_parse_data.specs.Series.{Sequence, Maybe, InEitherOrder}
use Rattle.iv_parse_data.specs.readers.Series.{read_sequence, read_either_order, with_first}

module _ {A : Type 0} where
  -- a part that may be left out, where it is left out or begins with another word
  pub maybe_after : (Part : List Word → A → Type 0) (k : TokenKind) → ((a : A) (f ws : List Word) → Part f a → after k (f ++ ws) ≡ None)
      → (o : Option A) (f ws : List Word) → Maybe Part f o → after k ws ≡ None → after k (f ++ ws) ≡ None
  maybe_after Part k other None f ws p e = ap (λ z. after k (z ++ ws)) p ∙ e
  maybe_after Part k other (Some a) f ws p e = other a f ws p

module _ {A B : Type 0} where
  pub either_after : (First : List Word → A → Type 0) (Second : List Word → B → Type 0) (k : TokenKind)
      → ((a : A) (f ws : List Word) → First f a → after k (f ++ ws) ≡ None) → ((b : B) (f ws : List Word) → Second f b → after k (f ++ ws) ≡ None)
      → (a : Option A) (b : Option B) (front ws : List Word) → InEitherOrder (Maybe First) (Maybe Second) front (a, b) → after k ws ≡ None → after k (front ++ ws) ≡ None
  either_after First Second k one other a b front ws (f, g, p, q, inl w) e =
      ap (λ z. after k (z ++ ws)) w ∙ ap (after k) (append_assoc f g ws) ∙ maybe_after First k one a f (g ++ ws) p (maybe_after Second k other b g ws q e)
  either_after First Second k one other a b front ws (f, g, p, q, inr w) e =
      ap (λ z. after k (z ++ ws)) w ∙ ap (after k) (append_assoc g f ws) ∙ maybe_after Second k other b g (f ++ ws) q (maybe_after First k one a f ws p e)

  -- what the readers of two parts in either order do
  pub record Orders (First : List Word → A → Type 0) (Second : List Word → B → Type 0) (first : List Word → Option (Option A × List Word)) (second : List Word → Option (Option B × List Word)) : Type 0 where
    pub firsts : (a : A) (f ws : List Word) → First f a → first (f ++ ws) ≡ Some (Some a, ws)
    pub seconds : (b : B) (f ws : List Word) → Second f b → second (f ++ ws) ≡ Some (Some b, ws)
    pub apart : (b : B) (f ws : List Word) → Second f b → first (f ++ ws) ≡ Some (None, f ++ ws)

  module _ (First : List Word → A → Type 0) (Second : List Word → B → Type 0) (first : List Word → Option (Option A × List Word)) (second : List Word → Option (Option B × List Word))
      (o : Orders First Second first second) (rest : List Word) (no_first : first rest ≡ Some (None, rest)) (no_second : second rest ≡ Some (None, rest)) where
    first_alone : (a : A) (f : List Word) → First f a → read_either_order first second (f ++ rest) ≡ Some ((Some a, None), rest)
    first_alone a f p = rw (o.firsts a f rest p, no_second)

    second_alone : (b : B) (g : List Word) → Second g b → read_either_order first second (g ++ rest) ≡ Some ((None, Some b), rest)
    second_alone b g q = rw (o.apart b g rest q, o.seconds b g rest q, no_first)

    neither : read_either_order first second rest ≡ Some ((None, None), rest)
    neither = rw (no_first, no_second, no_first)

    first_then : (a : A) (b : B) (f g : List Word) → First f a → Second g b → read_either_order first second (f ++ (g ++ rest)) ≡ Some ((Some a, Some b), rest)
    first_then a b f g p q = rw (o.firsts a f (g ++ rest) p, o.seconds b g rest q)

    second_then : (a : A) (b : B) (f g : List Word) → First f a → Second g b → read_either_order first second (g ++ (f ++ rest)) ≡ Some ((Some a, Some b), rest)
    second_then a b f g p q = rw (o.apart b g (f ++ rest) q, o.seconds b g (f ++ rest) q, o.firsts a f rest p)

    -- two parts in either order are read
    pub either_order_complete : (a : Option A) (b : Option B) (front : List Word) → InEitherOrder (Maybe First) (Maybe Second) front (a, b) → read_either_order first second (front ++ rest) ≡ Some ((a, b), rest)
    either_order_complete None None front (f, g, p, q, inl w) =
        ap (λ z. read_either_order first second (z ++ rest)) (w ∙ ap (λ z. z ++ g) p ∙ q) ∙ neither
    either_order_complete None None front (f, g, p, q, inr w) =
        ap (λ z. read_either_order first second (z ++ rest)) (w ∙ ap (λ z. g ++ z) p ∙ append-nil g ∙ q) ∙ neither
    either_order_complete (Some a) None front (f, g, p, q, inl w) =
        ap (λ z. read_either_order first second (z ++ rest)) (w ∙ ap (λ z. f ++ z) q ∙ append-nil f) ∙ first_alone a f p
    either_order_complete (Some a) None front (f, g, p, q, inr w) =
        ap (λ z. read_either_order first second (z ++ rest)) (w ∙ ap (λ z. z ++ f) q) ∙ first_alone a f p
    either_order_complete None (Some b) front (f, g, p, q, inl w) =
        ap (λ z. read_either_order first second (z ++ rest)) (w ∙ ap (λ z. z ++ g) p) ∙ second_alone b g q
    either_order_complete None (Some b) front (f, g, p, q, inr w) =
        ap (λ z. read_either_order first second (z ++ rest)) (w ∙ ap (λ z. g ++ z) p ∙ append-nil g) ∙ second_alone b g q
    either_order_complete (Some a) (Some b) front (f, g, p, q, inl w) =
        ap (λ z. read_either_order first second (z ++ rest)) w ∙ ap (read_either_order first second) (append_assoc f g rest) ∙ first_then a b f g p q
    either_order_complete (Some a) (Some b) front (f, g, p, q, inr w) =
        ap (λ z. read_either_order first second (z ++ rest)) w ∙ ap (read_either_order first second) (append_assoc g f rest) ∙ second_then a b f g p q

module _ {A : Type 0} where
  -- a part of a sequence is read where what follows cannot go on with it, and a part cannot go on with another
  pub record Parts (Part : List Word → A → Type 0) (Ends : List Word → Type 0) (part : List Word → Option (Option A × List Word)) : Type 0 where
    pub reads : (a : A) (f ws : List Word) → Part f a → Ends ws → part (f ++ ws) ≡ Some (Some a, ws)
    pub begins : (a : A) (f ws : List Word) → Part f a → Ends (f ++ ws)

  apart_of : (a : A) (ws : List Word) → ◌≡◌ {A = Option (Option A × List Word)} (Some (Some a, ws)) (Some (None, ws)) → ⊥
  apart_of a ws h = let e = (same_found (Some a) None ws ws h).0 in cc

  sequence_ends : (Part : List Word → A → Type 0) (Ends : List Word → Type 0) (part : List Word → Option (Option A × List Word)) → Parts Part Ends part
      → (bs : List A) (front rest : List Word) → Sequence Part front bs → Ends rest → Ends (front ++ rest)
  sequence_ends Part Ends part all [] front rest p e = subst (λ z. Ends (z ++ rest)) (sym p) e
  sequence_ends Part Ends part all (b ∷ bs) front rest (f, g, p, q, w) e =
      subst Ends (sym (ap (λ z. z ++ rest) w ∙ append_assoc f g rest)) (all.begins b f (g ++ rest) p)

  -- no part is empty, since none is read where none begins
  part_long : (Part : List Word → A → Type 0) (Ends : List Word → Type 0) (part : List Word → Option (Option A × List Word)) → Parts Part Ends part
      → (a : A) (f rest : List Word) → Part f a → Ends rest → part rest ≡ Some (None, rest) → 1 ≤ length f
  part_long Part Ends part all a [] rest p e h = absurd (apart_of a rest (sym (all.reads a [] rest p e) ∙ h))
  part_long Part Ends part all a (w ∷ f) rest p e h = omega arith

  sequence_long : (Part : List Word → A → Type 0) (Ends : List Word → Type 0) (part : List Word → Option (Option A × List Word)) → Parts Part Ends part
      → (bs : List A) (front rest : List Word) → Sequence Part front bs → Ends rest → part rest ≡ Some (None, rest) → length bs ≤ length front
  sequence_long Part Ends part all [] front rest p e h = omega arith
  sequence_long Part Ends part all (b ∷ bs) front rest (f, g, p, q, w) e h =
      let one : 1 ≤ length f = part_long Part Ends part all b f rest p e h in
      let more : length bs ≤ length g = sequence_long Part Ends part all bs g rest q e h in
      let long : length front ≡ length f + length g = ap length w ∙ length-append f g in
      omega arith

  sequence_reads : (Part : List Word → A → Type 0) (Ends : List Word → Type 0) (part : List Word → Option (Option A × List Word)) → Parts Part Ends part
      → (n : ℕ) (bs : List A) (front rest : List Word) → Sequence Part front bs → length bs ≤ n → Ends rest → part rest ≡ Some (None, rest) → read_sequence part n (front ++ rest) ≡ Some (bs, rest)
  sequence_reads Part Ends part all zero [] front rest p l e h =
      ap (λ z. read_sequence part zero (z ++ rest)) p ∙ ap (λ o. then_read o (λ o left. if_some o (λ a. None) (Some ([], rest)))) h
  sequence_reads Part Ends part all (suc n) [] front rest p l e h =
      ap (λ z. read_sequence part (suc n) (z ++ rest)) p
      ∙ ap (λ o. then_read o (λ o left. if_some o (λ a. then_read (read_sequence part n left) (with_first a)) (Some ([], rest)))) h
  sequence_reads Part Ends part all zero (b ∷ bs) front rest p l e h = absurd (omega arith)
  sequence_reads Part Ends part all (suc n) (b ∷ bs) front rest (f, g, p, q, w) l e h =
      ap (λ z. read_sequence part (suc n) (z ++ rest)) w
      ∙ ap (read_sequence part (suc n)) (append_assoc f g rest)
      ∙ ap (λ o. then_read o (λ o left. if_some o (λ a. then_read (read_sequence part n left) (with_first a)) (Some ([], f ++ (g ++ rest))))) (all.reads b f (g ++ rest) p (sequence_ends Part Ends part all bs g rest q e))
      ∙ ap (λ o. then_read o (with_first b)) (sequence_reads Part Ends part all n bs g rest q (omega arith) e h)

  -- a sequence is read
  pub sequence_complete : (Part : List Word → A → Type 0) (Ends : List Word → Type 0) (part : List Word → Option (Option A × List Word)) → Parts Part Ends part
      → (bs : List A) (front rest : List Word) → Sequence Part front bs → Ends rest → part rest ≡ Some (None, rest) → read_sequence part (length (front ++ rest)) (front ++ rest) ≡ Some (bs, rest)
  sequence_complete Part Ends part all bs front rest p e h =
      sequence_reads Part Ends part all (length (front ++ rest)) bs front rest p (omega (arith, sequence_long Part Ends part all bs front rest p e h, length-append front rest)) e h

  pub sequence_begins : (Part : List Word → A → Type 0) (Ends : List Word → Type 0) (part : List Word → Option (Option A × List Word)) → Parts Part Ends part
      → (bs : List A) (front rest : List Word) → Sequence Part front bs → Ends rest → Ends (front ++ rest)
  sequence_begins = sequence_ends
