-- Parts of a rule that come several times, with commas between them or without, or may be left out.
use Rattle.std.specs.Prelude.{◌≡◌, ◌⊎◌, Option, Some, None, List, [], ◌∷◌, ◌++◌}
use Rattle.iv_lex.specs.declared.kind.TokenKind.{TokenKind}
use Rattle.iv_lex.specs.declared.kind.TokenKind.TheVariants as kind
use Rattle.iv_lex.specs.Words.{Word, plain}

module _ {A : Type 0} where
  -- further parts, each after a comma
  abbrev pub More : (List Word → A → Type 0) → List Word → List A → Type 0
  More Part ws [] = ws ≡ []
  More Part ws (a ∷ bs) =
      (front : List Word) × (back : List Word) × Part front a × More Part back bs × (ws ≡ plain kind.Comma ∷ front ++ back)

  -- a part, and further ones
  abbrev pub Series : (List Word → A → Type 0) → List Word → List A → Type 0
  Series Part ws [] = ⊥
  Series Part ws (a ∷ bs) = (front : List Word) × (back : List Word) × Part front a × More Part back bs × (ws ≡ front ++ back)

  -- a part between parentheses
  abbrev pub InParentheses : (List Word → A → Type 0) → List Word → A → Type 0
  InParentheses Part ws a =
      (inner : List Word) × Part inner a × (ws ≡ plain kind.LeftParenthesis ∷ (inner ++ plain kind.RightParenthesis ∷ []))

  -- parts one after the other, or none
  abbrev pub Sequence : (List Word → A → Type 0) → List Word → List A → Type 0
  Sequence Part ws [] = ws ≡ []
  Sequence Part ws (a ∷ bs) = (front : List Word) × (back : List Word) × Part front a × Sequence Part back bs × (ws ≡ front ++ back)

-- a part that may be left out
abbrev pub Maybe : {A : Type 0} → (List Word → A → Type 0) → List Word → Option A → Type 0
Maybe Part ws None = ws ≡ []
Maybe Part ws (Some a) = Part ws a

-- two parts in either order
abbrev pub InEitherOrder : {A B : Type 0} → (List Word → A → Type 0) → (List Word → B → Type 0) → List Word → A × B → Type 0
InEitherOrder First Second ws p =
    (first : List Word) × (second : List Word) × First first p.0 × Second second p.1 × ((ws ≡ first ++ second) ⊎ (ws ≡ second ++ first))

-- a word that may be left out
abbrev pub Optional : TokenKind → List Word → Type 0
Optional k ws = (ws ≡ []) ⊎ (ws ≡ plain k ∷ [])
