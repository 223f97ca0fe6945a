-- The steps of merging two lists of changes.
use Rattle.std.proofs.Common.{◌⊎◌, inl, inr, Result, Ok, Err, OnOk, IfOk, ◌≡◌, refl, ℕ, ◌+◌, ◌<◌, ◌≤◌, true, false, if◌then◌else◌, List, [], ◌∷◌, ◌++◌, length, drop, get_or, Option, Some, None, sym, ap, subst, ◌∙◌, arith, append_assoc}
use Rattle.std.specs.Bool.{nat_lt}
use Rattle.std.specs.List.{cons_option}
use Rattle.std.proofs.lemmas.List.{drop_more, drop_all}
use Rattle.std.proofs.lemmas.Bool.Decides.{nat_tests}
use Rattle.iv_expr.specs.declared.row.Change.{Change}
use Rattle.iv_expr.specs.Changes.{RisingChangesFrom, RisingChanges, last_row}
use Rattle.iv_expr.proofs.Changes.{last_row_push}
use Rattle.iv_exec_triggers.specs.Merging.{kept, joined, merged_with, merged, Merging}
use Rattle.iv_exec_triggers.proofs.ChangesAt.{rising_lower}

pub merging_starts : (older newer out : List Change) → out ≡ [] → RisingChanges older → RisingChanges newer → Merging older newer 0 0 out
merging_starts older newer out e r s = record {
  older_within = omega arith;
  newer_within = omega arith;
  so_far = ap (λ l. l ++ merged older newer) e;
  older_rises = subst (λ l. RisingChangesFrom (last_row l) older) (sym e) r;
  newer_rises = subst (λ l. RisingChangesFrom (last_row l) newer) (sym e) s;
}

-- ---- which comes next

older_first : (c d : Change) (xs ys : List Change) → c.row < d.row → merged (c ∷ xs) (d ∷ ys) ≡ c ∷ merged xs (d ∷ ys)
older_first c d xs ys h =
    ap (λ b. if b then c ∷ merged xs (d ∷ ys) else (if nat_lt d.row c.row then d ∷ merged_with c (merged xs) ys else cons_option (joined c d) (merged xs ys))) (lemma h) where
      lemma : c.row < d.row → nat_lt c.row d.row ≡ true
      lemma h = grind (arith, nat_tests)

newer_first : (c d : Change) (xs ys : List Change) → d.row < c.row → merged (c ∷ xs) (d ∷ ys) ≡ d ∷ merged (c ∷ xs) ys
newer_first c d xs ys h =
    ap (λ b. if b then c ∷ merged xs (d ∷ ys) else (if nat_lt d.row c.row then d ∷ merged_with c (merged xs) ys else cons_option (joined c d) (merged xs ys))) (not_first h)
    ∙ ap (λ b. if b then d ∷ merged_with c (merged xs) ys else cons_option (joined c d) (merged xs ys)) (first h) where
      not_first : d.row < c.row → nat_lt c.row d.row ≡ false
      not_first h = grind (arith, nat_tests)

      first : d.row < c.row → nat_lt d.row c.row ≡ true
      first h = grind (arith, nat_tests)

same_first : (c d : Change) (xs ys : List Change) → c.row ≡ d.row → merged (c ∷ xs) (d ∷ ys) ≡ cons_option (joined c d) (merged xs ys)
same_first c d xs ys h =
    ap (λ b. if b then c ∷ merged xs (d ∷ ys) else (if nat_lt d.row c.row then d ∷ merged_with c (merged xs) ys else cons_option (joined c d) (merged xs ys))) (not_first h)
    ∙ ap (λ b. if b then d ∷ merged_with c (merged xs) ys else cons_option (joined c d) (merged xs ys)) (not_second h) where
      not_first : c.row ≡ d.row → nat_lt c.row d.row ≡ false
      not_first h = grind (arith, nat_tests)

      not_second : c.row ≡ d.row → nat_lt d.row c.row ≡ false
      not_second h = grind (arith, nat_tests)

-- ---- steps

module _ (older newer out more : List Change) (at to : ℕ) (c d : Change)
    (h : Merging older newer at to out)
    (at_less : at < length older) (to_less : to < length newer)
    (at_is : drop at older ≡ c ∷ drop (at + 1) older) (to_is : drop to newer ≡ d ∷ drop (to + 1) newer) where
  abbrev heads : merged (drop at older) (drop to newer) ≡ merged (c ∷ drop (at + 1) older) (d ∷ drop (to + 1) newer)
  heads = λ i. merged (at_is i) (to_is i)

  c_rises : RisingChangesFrom (last_row out) (c ∷ drop (at + 1) older)
  c_rises = subst (RisingChangesFrom (last_row out)) at_is h.older_rises

  d_rises : RisingChangesFrom (last_row out) (d ∷ drop (to + 1) newer)
  d_rises = subst (RisingChangesFrom (last_row out)) to_is h.newer_rises

  pub older_is_above : last_row out < c.row
  older_is_above = c_rises.0

  pub newer_is_above : last_row out < d.row
  newer_is_above = d_rises.0

  pub older_step : c.row < d.row → more ≡ out ++ c ∷ [] → Merging older newer (at + 1) to more
  older_step less e =
      let last : last_row more ≡ c.row = ap last_row e ∙ last_row_push out c in
      record {
        older_within = omega (arith, at_less);
        newer_within = h.newer_within;
        so_far = ap (λ l. l ++ merged (drop (at + 1) older) (drop to newer)) e ∙ append_assoc out (c ∷ []) (merged (drop (at + 1) older) (drop to newer))
            ∙ ap (λ l. out ++ c ∷ merged (drop (at + 1) older) l) to_is
            ∙ ap (λ l. out ++ l) (sym (older_first c d (drop (at + 1) older) (drop (to + 1) newer) less))
            ∙ ap (λ l. out ++ l) (sym heads) ∙ h.so_far;
        older_rises = subst (λ m. RisingChangesFrom m (drop (at + 1) older)) (sym last) c_rises.1;
        newer_rises = subst (λ m. RisingChangesFrom m (drop to newer)) (sym last) (subst (RisingChangesFrom c.row) (sym to_is) (less, d_rises.1));
      }

  pub newer_step : d.row < c.row → more ≡ out ++ d ∷ [] → Merging older newer at (to + 1) more
  newer_step less e =
      let last : last_row more ≡ d.row = ap last_row e ∙ last_row_push out d in
      record {
        older_within = h.older_within;
        newer_within = omega (arith, to_less);
        so_far = ap (λ l. l ++ merged (drop at older) (drop (to + 1) newer)) e ∙ append_assoc out (d ∷ []) (merged (drop at older) (drop (to + 1) newer))
            ∙ ap (λ l. out ++ d ∷ merged l (drop (to + 1) newer)) at_is
            ∙ ap (λ l. out ++ l) (sym (newer_first c d (drop (at + 1) older) (drop (to + 1) newer) less))
            ∙ ap (λ l. out ++ l) (sym heads) ∙ h.so_far;
        older_rises = subst (λ m. RisingChangesFrom m (drop at older)) (sym last) (subst (RisingChangesFrom d.row) (sym at_is) (less, c_rises.1));
        newer_rises = subst (λ m. RisingChangesFrom m (drop (to + 1) newer)) (sym last) d_rises.1;
      }

  pub joined_step : c.row ≡ d.row → more ≡ out ++ cons_option (joined c d) [] → last_row more ≤ c.row → Merging older newer (at + 1) (to + 1) more
  joined_step same e last =
      record {
        older_within = omega (arith, at_less);
        newer_within = omega (arith, to_less);
        so_far = ap (λ l. l ++ merged (drop (at + 1) older) (drop (to + 1) newer)) e
            ∙ append_assoc out (cons_option (joined c d) []) (merged (drop (at + 1) older) (drop (to + 1) newer))
            ∙ ap (λ l. out ++ l) (joins (joined c d) (merged (drop (at + 1) older) (drop (to + 1) newer)))
            ∙ ap (λ l. out ++ l) (sym (same_first c d (drop (at + 1) older) (drop (to + 1) newer) same))
            ∙ ap (λ l. out ++ l) (sym heads) ∙ h.so_far;
        older_rises = rising_lower (last_row more) c.row (drop (at + 1) older) last c_rises.1;
        newer_rises = rising_lower (last_row more) d.row (drop (to + 1) newer) (omega (arith, last, same)) d_rises.1;
      }
    where
      joins : (o : Option Change) (l : List Change) → cons_option o [] ++ l ≡ cons_option o l
      joins None l = refl
      joins (Some x) l = refl

-- ---- the ends

merged_nothing : (older : List Change) → merged older [] ≡ older
merged_nothing [] = refl
merged_nothing (c ∷ older) = ap (λ l. c ∷ l) (merged_nothing older)

pub drop_read : (xs : List Change) (i : ℕ) (x : Change) → x ≡ get_or xs i x → i < length xs → drop i xs ≡ x ∷ drop (i + 1) xs
drop_read xs i x is less = drop_more xs i x less ∙ ap (λ y. y ∷ drop (i + 1) xs) (sym is)

-- a change pushed among others that rise
pub pushed_rises : (out more rest : List Change) (c : Change) → more ≡ out ++ c ∷ [] → RisingChangesFrom (last_row out) (c ∷ rest) → RisingChangesFrom (last_row more) rest
pushed_rises out more rest c e r = subst (λ m. RisingChangesFrom m rest) (sym (ap last_row e ∙ last_row_push out c)) r.1

pub pushed_so_far : (out more rest : List Change) (c : Change) → more ≡ out ++ c ∷ [] → more ++ rest ≡ out ++ c ∷ rest
pushed_so_far out more rest c e = ap (λ l. l ++ rest) e ∙ append_assoc out (c ∷ []) rest

pub kept_so_far : (out more rest : List Change) (c : Change) → more ≡ out ++ cons_option (kept c) [] → more ++ rest ≡ out ++ cons_option (kept c) rest
kept_so_far out more rest c e = ap (λ l. l ++ rest) e ∙ append_assoc out (cons_option (kept c) []) rest ∙ ap (λ l. out ++ l) (joins (kept c) rest) where
  joins : (o : Option Change) (l : List Change) → cons_option o [] ++ l ≡ cons_option o l
  joins None l = refl
  joins (Some x) l = refl

-- the newer ones are at their end
pub rest_older : (older newer out more : List Change) (at to : ℕ) → Merging older newer at to out → (at ≡ length older) ⊎ (to ≡ length newer) → at < length older
    → more ≡ out ++ drop at older → more ≡ merged older newer
rest_older older newer out more at to h (inl e) less is = absurd (omega (arith, e, less))
rest_older older newer out more at to h (inr e) less is =
    is ∙ ap (λ l. out ++ l) (sym (merged_nothing (drop at older))) ∙ ap (λ l. out ++ merged (drop at older) l) (sym (drop_all to newer (omega (arith, e)))) ∙ h.so_far

pub on_ok : {A E : Type 0} (P Q : Type 0) (r : Result A E) → (P → Q) → OnOk r P → OnOk r Q
on_ok P Q (Ok x) f h = f h
on_ok P Q (Err e) f h = tt

pub if_ok : {A E : Type 0} (P Q : A → Type 0) (r : Result A E) → ((x : A) → P x → Q x) → IfOk r P → IfOk r Q
if_ok P Q (Ok x) f h = f x h
if_ok P Q (Err e) f h = tt
