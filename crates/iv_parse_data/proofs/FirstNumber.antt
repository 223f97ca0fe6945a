-- A number at the front of tokens.
use Rattle.std.specs.Prelude.{◌≡◌, ◌≢◌, ℕ, ◌-◌, ◌≤◌, Option, Some, None, List, [], ◌∷◌, length, take, drop, slice_index_or, refl}
use Rattle.std.proofs.Common.{sym, ap, arith}
use Rattle.std.proofs.lemmas.List.{take_all}
use Rattle.iv_lex.specs.declared.kind.TokenKind.{TokenKind}
use Rattle.iv_lex.specs.declared.kind.TokenKind.TheVariants as kind
use Rattle.iv_lex.specs.declared.token.Token.{Token}
use Rattle.iv_lex.specs.Words.{Word, folded_text, unquoted_text, word_by, words}
use Rattle.iv_parse_data.proofs.Readers.{read_number}

other_kind : (k : TokenKind) (of_name of_text : Option (List ℕ)) (ws : List Word) → ((n : ℕ) → k ≢ kind.Number n) → None ≡ read_number (word_by k of_name of_text ∷ ws)
other_kind (kind.Number n) of_name of_text ws h = absurd (h n refl)
other_kind kind.Name (Some cs) of_text ws h = refl
other_kind kind.Name None of_text ws h = refl
other_kind kind.Quoted of_name (Some cs) ws h = refl
other_kind kind.Quoted of_name None ws h = refl
other_kind _ of_name of_text ws h = refl

pub no_number : (text : List ℕ) (d : Token) (all : List Token) → 1 ≤ length all → ((n : ℕ) → (slice_index_or all 0 d).kind ≢ kind.Number n) → None ≡ read_number (words text all)
no_number text d [] l h = absurd (omega arith)
no_number text d (t ∷ ts) l h = other_kind t.kind (folded_text text t) (unquoted_text text t) (words text ts) h

pub a_number : (text : List ℕ) (d : Token) (all : List Token) (n : ℕ) → 1 ≤ length all → (slice_index_or all 0 d).kind ≡ kind.Number n
    → Some (n, words text (take (length all - 1) (drop 1 all))) ≡ read_number (words text all)
a_number text d [] n l h = absurd (omega arith)
a_number text d (t ∷ ts) n l h =
    let m : length (t ∷ ts) - 1 ≡ length ts = omega arith in
    rw (m, take_all (length ts) ts (omega arith)) (sym (ap (λ k. read_number (word_by k (folded_text text t) (unquoted_text text t) ∷ words text ts)) h))
