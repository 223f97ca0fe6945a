-- Parts that come several times or may be left out: if each part can be written, all of them can.
use Rattle.std.proofs.Common.{◌≡◌, Bool, true, not, ◌&&◌, Some, None, List, [], ◌∷◌, ◌++◌, length, refl, ap, subst}
use Rattle.std.specs.Prelude.{◌==◌}
use Rattle.std.specs.List.{list_all}
use Rattle.std.proofs.Math.Dec.{eqb-suc-zero}
use Rattle.std.proofs.lemmas.Bool.{and_parts}
use Rattle.iv_lex.specs.declared.kind.TokenKind.TheVariants as kind
use Rattle.iv_lex.specs.Words.{Word, plain}
use Rattle.iv_parse_data.specs.Series.{More, Series, InParentheses, Sequence}
use Rattle.iv_parse_data.specs.Data.{IsName, Names, IsColumnList}
use Rattle.iv_resolution.specs.Writable.{is_name, is_name_list, is_name_list_or_none}
use Rattle.iv_laws_answers.proofs.Names.{Written, front, back, join}

-- what is read of words that can be written passes the test
abbrev pub Passes : {A : Type 0} → (List Word → A → Type 0) → (A → Bool) → Type 0
Passes {A} Part test = (ws : List Word) (a : A) → Part ws a → Written ws → test a ≡ true

module _ {A : Type 0} where
  -- at least one, and each passes
  abbrev pub some_pass : (A → Bool) → List A → Bool
  some_pass test xs = not (length xs == 0) && list_all test xs

  pub some_parts : (test : A → Bool) (xs : List A) → some_pass test xs ≡ true → (not (length xs == 0) ≡ true) × (list_all test xs ≡ true)
  some_parts test xs h = and_parts (not (length xs == 0)) (list_all test xs) h

  more_pass : (Part : List Word → A → Type 0) (test : A → Bool) → Passes Part test → Passes (More Part) (list_all test)
  more_pass Part test h ws [] p w = refl
  more_pass Part test h ws (a ∷ bs) (f, b, p, q, e) w =
      let v : Written (f ++ b) = (subst Written e w).1 in
      join (test a) _ (h f a p (front f b v)) (more_pass Part test h b bs q (back f b v))

  pub series_pass : (Part : List Word → A → Type 0) (test : A → Bool) → Passes Part test → Passes (Series Part) (some_pass test)
  series_pass Part test h ws [] p w = absurd p
  series_pass Part test h ws (a ∷ bs) (f, b, p, q, e) w =
      let v : Written (f ++ b) = subst Written e w in
      join (not (length (a ∷ bs) == 0)) _ (ap not (eqb-suc-zero (length bs)))
      (join (test a) _ (h f a p (front f b v)) (more_pass Part test h b bs q (back f b v)))

  pub sequence_passes : (Part : List Word → A → Type 0) (test : A → Bool) → Passes Part test → Passes (Sequence Part) (list_all test)
  sequence_passes Part test h ws [] p w = refl
  sequence_passes Part test h ws (a ∷ bs) (f, b, p, q, e) w =
      let v : Written (f ++ b) = subst Written e w in
      join (test a) _ (h f a p (front f b v)) (sequence_passes Part test h b bs q (back f b v))

  pub some_sequence : (Part : List Word → A → Type 0) (test : A → Bool) → Passes Part test
      → (ws : List Word) (a : A) (bs : List A) → Sequence Part ws (a ∷ bs) → Written ws → some_pass test (a ∷ bs) ≡ true
  some_sequence Part test h ws a bs p w =
      join (not (length (a ∷ bs) == 0)) _ (ap not (eqb-suc-zero (length bs))) (sequence_passes Part test h ws (a ∷ bs) p w)

  pub inner_passes : (Part : List Word → A → Type 0) (test : A → Bool) → Passes Part test → Passes (InParentheses Part) test
  inner_passes Part test h ws a (inner, p, e) w =
      h inner a p (front inner (plain kind.RightParenthesis ∷ []) (subst Written e w).1)

-- ---- lists of names

pub name_passes : Passes IsName is_name
name_passes ws n e w = (subst Written e w).0

pub names_pass : Passes Names is_name_list
names_pass ws ns p w = series_pass IsName is_name name_passes ws ns p w

pub column_list_passes : Passes IsColumnList is_name_list_or_none
column_list_passes ws None e w = refl
column_list_passes ws (Some ns) p w = inner_passes Names is_name_list names_pass ws ns p w
