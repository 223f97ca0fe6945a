-- Two kinds that are the same are equal. Cases over both would be eight thousand. Kinds that are the
-- same are the same as each other kind, and so have the same first place in the list of all of them:
-- then cases over one are enough.
use Rattle.std.specs.Prelude.{◌≡◌, ℕ, Bool, true, false, if◌then◌else◌, Option, Some, None, unwrap_or, is_some, List, [], ◌∷◌, refl}
use Rattle.std.proofs.Common.{ap, sym, ◌∙◌, ◌⊎◌, inl, inr}
use Rattle.std.proofs.lemmas.Bool.{eqb-true, false≢true}
use Rattle.iv_lex.specs.declared.kind.TokenKind.{TokenKind}
use Rattle.iv_lex.specs.declared.kind.TokenKind.TheVariants as kind
use Rattle.iv_lex.specs.contracts.kind.TokenKindEq.TheImpl.Laws.{laws-law}
use Rattle.iv_parse_terms.specs.After.{same}

-- nothing holds where two kinds that differ are the same
refute : {A : Type 0} → false ≡ true → A
refute h = absurd (false≢true h)

-- all kinds but the numbers
all : List TokenKind
all =
    kind.Name ∷ kind.Quoted ∷ kind.LeftParenthesis ∷ kind.RightParenthesis ∷ kind.Comma ∷
    kind.Semicolon ∷ kind.Period ∷ kind.Equals ∷ kind.NotEquals ∷ kind.Less ∷ kind.LessEquals ∷
    kind.Greater ∷ kind.GreaterEquals ∷ kind.Plus ∷ kind.Minus ∷ kind.Asterisk ∷ kind.Action ∷
    kind.Add ∷ kind.After ∷ kind.All ∷ kind.Alter ∷ kind.And ∷ kind.As ∷ kind.Atomic ∷
    kind.Before ∷ kind.Begin ∷ kind.Cascade ∷ kind.Char ∷ kind.Character ∷ kind.Check ∷
    kind.Commit ∷ kind.Constraint ∷ kind.Constraints ∷ kind.Count ∷ kind.Create ∷ kind.Default ∷
    kind.Deferrable ∷ kind.Deferred ∷ kind.Delete ∷ kind.Distinct ∷ kind.Drop ∷ kind.Each ∷
    kind.End ∷ kind.Exists ∷ kind.For ∷ kind.Foreign ∷ kind.From ∷ kind.Full ∷ kind.Immediate ∷
    kind.Initially ∷ kind.Insert ∷ kind.Int ∷ kind.Integer ∷ kind.Into ∷ kind.Is ∷ kind.Key ∷
    kind.Match ∷ kind.New ∷ kind.No ∷ kind.Not ∷ kind.Null ∷ kind.Nulls ∷ kind.Of ∷ kind.Old ∷
    kind.On ∷ kind.Or ∷ kind.Primary ∷ kind.References ∷ kind.Referencing ∷ kind.Release ∷
    kind.Restrict ∷ kind.Rollback ∷ kind.Row ∷ kind.Savepoint ∷ kind.Select ∷ kind.Set ∷
    kind.Signal ∷ kind.Simple ∷ kind.Start ∷ kind.Statement ∷ kind.Table ∷ kind.To ∷
    kind.Transaction ∷ kind.Trigger ∷ kind.Unique ∷ kind.Update ∷ kind.Values ∷ kind.Varchar ∷
    kind.Varying ∷ kind.When ∷ kind.Where ∷ kind.Work ∷ []

-- the first that is so
first : (TokenKind → Bool) → List TokenKind → Option TokenKind
first f [] = None
first f (k ∷ ks) = if f k then Some k else first f ks

alike : (f g : TokenKind → Bool) → ((k : TokenKind) → f k ≡ g k) → (ks : List TokenKind) → first f ks ≡ first g ks
unfolding first
alike f g e [] = refl
alike f g e (k ∷ ks) = rw (e k, alike f g e ks) refl

-- the first that is the same as a kind
place : TokenKind → Option TokenKind
place k = first (same k) all

same_place : (j k : TokenKind) → same j k ≡ true → place j ≡ place k
unfolding place
same_place j k h = alike (same j) (same k) (λ z. laws-law.congr j k z h) all

-- a number, or the first that is the same
abbrev IsKind : TokenKind → Type 0
IsKind k = ((n : ℕ) × (k ≡ kind.Number n)) ⊎ (place k ≡ Some k)

which : (k : TokenKind) → IsKind k
unfolding place first all
which (kind.Number n) = inl (n, refl)
which _ = inr refl

no_place : (n : ℕ) → place (kind.Number n) ≡ None
unfolding place first all
no_place n = refl

-- a number isn't the same as another kind
apart : (j k : TokenKind) (n : ℕ) → j ≡ kind.Number n → place k ≡ Some k → place j ≡ place k → j ≡ k
apart j k n e f g = refute (ap is_some (sym (ap place e ∙ no_place n) ∙ (g ∙ f)))

by_which : (j k : TokenKind) → IsKind j → IsKind k → same j k ≡ true → j ≡ k
by_which j k (inl p) (inl q) h =
    let e : same (kind.Number p.0) (kind.Number q.0) ≡ true = sym (ap (λ x. same x k) p.1 ∙ ap (same (kind.Number p.0)) q.1) ∙ h in
    p.1 ∙ (ap kind.Number (eqb-true p.0 q.0 e) ∙ sym q.1)
by_which j k (inl p) (inr q) h = apart j k p.0 p.1 q (same_place j k h)
by_which j k (inr p) (inl q) h = sym (apart k j q.0 q.1 p (sym (same_place j k h)))
by_which j k (inr p) (inr q) h = ap (λ o. unwrap_or o j) (sym p ∙ (same_place j k h ∙ q))

pub exact : (j k : TokenKind) → same j k ≡ true → j ≡ k
exact j k h = by_which j k (which j) (which k) h
