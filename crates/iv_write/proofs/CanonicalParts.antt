-- Parts that come several times, in the words that they are written with.
use Rattle.std.proofs.Common.{inl, inr, List, [], ◌∷◌, ◌++◌, refl, subst}
use Rattle.iv_lex.specs.declared.kind.TokenKind.TheVariants as kind
use Rattle.iv_lex.specs.Words.{Word, plain}
use Rattle.iv_parse_data.specs.Series.{More, Series, Sequence, InParentheses, InEitherOrder}
use Rattle.iv_write.specs.Spelling.{AreWritten}
use Rattle.iv_write.specs.Parts.{more_words, series_words, sequence_words, enclosed_words}
use Rattle.iv_write.proofs.Canonical.{joined, parts, closed, Canonical}

more_canonical : {A : Type 0} (Part : List Word → A → Type 0) (words : A → List Word) → Canonical Part words → Canonical (More Part) (more_words words)
more_canonical Part words h ws [] e w = (refl, tt {0})
more_canonical Part words h ws (a ∷ bs) (front, back, p, m, e) w =
    let u : AreWritten (plain kind.Comma ∷ (front ++ back)) = subst AreWritten e w in
    let v = parts front back u.1 in
    let x = h front a p v.0 in
    let y = more_canonical Part words h back bs m v.1 in
    ((words a, more_words words bs, x.0, y.0, refl), (refl, joined (words a) (more_words words bs) x.1 y.1))

pub series_canonical : {A : Type 0} (Part : List Word → A → Type 0) (words : A → List Word) → Canonical Part words → Canonical (Series Part) (series_words words)
series_canonical Part words h ws [] p w = absurd p
series_canonical Part words h ws (a ∷ bs) (front, back, p, m, e) w =
    let v = parts front back (subst AreWritten e w) in
    let x = h front a p v.0 in
    let y = more_canonical Part words h back bs m v.1 in
    ((words a, more_words words bs, x.0, y.0, refl), joined (words a) (more_words words bs) x.1 y.1)

pub sequence_canonical : {A : Type 0} (Part : List Word → A → Type 0) (words : A → List Word) → Canonical Part words → Canonical (Sequence Part) (sequence_words words)
sequence_canonical Part words h ws [] e w = (refl, tt {0})
sequence_canonical Part words h ws (a ∷ bs) (front, back, p, m, e) w =
    let v = parts front back (subst AreWritten e w) in
    let x = h front a p v.0 in
    let y = sequence_canonical Part words h back bs m v.1 in
    ((words a, sequence_words words bs, x.0, y.0, refl), joined (words a) (sequence_words words bs) x.1 y.1)

pub enclosed_canonical : {A : Type 0} (Part : List Word → A → Type 0) (words : A → List Word) → Canonical Part words → Canonical (InParentheses Part) (λ a. enclosed_words (words a))
enclosed_canonical Part words h ws a (inner, p, e) w =
    let u : AreWritten (plain kind.LeftParenthesis ∷ (inner ++ plain kind.RightParenthesis ∷ [])) = subst AreWritten e w in
    let x = h inner a p (parts inner (plain kind.RightParenthesis ∷ []) u.1).0 in
    ((words a, x.0, refl), (refl, closed (words a) x.1))

pub order_canonical : {A B : Type 0} (First : List Word → A → Type 0) (Second : List Word → B → Type 0) (f : A → List Word) (g : B → List Word)
    → Canonical First f → Canonical Second g → Canonical (InEitherOrder First Second) (λ p. f p.0 ++ g p.1)
order_canonical First Second f g h i ws p (first, second, x, y, inl e) w =
    let v = parts first second (subst AreWritten e w) in
    let a = h first p.0 x v.0 in
    let b = i second p.1 y v.1 in
    ((f p.0, g p.1, a.0, b.0, inl refl), joined (f p.0) (g p.1) a.1 b.1)
order_canonical First Second f g h i ws p (first, second, x, y, inr e) w =
    let v = parts second first (subst AreWritten e w) in
    let a = h first p.0 x v.1 in
    let b = i second p.1 y v.0 in
    ((f p.0, g p.1, a.0, b.0, inl refl), joined (f p.0) (g p.1) a.1 b.1)
