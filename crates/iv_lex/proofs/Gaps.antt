-- What is passed over at the front of bytes is white space and comments, as far as they go.
use Rattle.std.proofs.Common.{◌≡◌, ℕ, zero, suc, ◌+◌, ◌≤◌, Bool, true, false, not, ◌&&◌, Option, Some, None, List, [], ◌∷◌, ◌++◌, length, drop, refl, sym, ◌∙◌, ap, subst, arith, nat_eq}
use Rattle.std.specs.Prelude.{if◌then◌else◌, slice_index}
use Rattle.std.specs.List.{list_all}
use Rattle.std.proofs.lemmas.Bool.{and_parts, eqb-true}
use Rattle.std.proofs.lemmas.Bool.Decides.{nat_tests}
use Rattle.iv_lex.specs.Tokens.{is_space, opens_comment, gap_step, gap_by, gap}
use Rattle.iv_lex.specs.IsTokens.{IsInLine, EndsLine, BeginsNoGap, AfterGap}
use Rattle.iv_lex.specs.IsTokens.AfterGap.{no_gap, space, comment}

-- a line up to its end, and what is left after the gap that goes on there
record Line (bs : List ℕ) : Type 0 where
  line : List ℕ
  more : List ℕ
  whole : bs ≡ line ++ more
  inside : IsInLine line
  ends : EndsLine more
  after : AfterGap more (drop (gap true bs) bs)

line_ends : (bs : List ℕ) (b : ℕ) → nat_eq b 10 ≡ true → AfterGap bs (drop (gap false bs) bs) → Line (b ∷ bs)
line_ends bs b e h =
    let s : is_space b ≡ true = grind (arith, nat_tests) in
    let n : gap true (b ∷ bs) ≡ suc (gap false bs) = ap (λ x. suc (gap (not x) bs)) e in
    record {
      line = [];
      more = b ∷ bs;
      whole = refl;
      inside = refl;
      ends = eqb-true b 10 e;
      after = space (b ∷ bs) b bs (drop (gap true (b ∷ bs)) (b ∷ bs)) refl s (subst (λ m. AfterGap bs (drop m (b ∷ bs))) (sym n) h);
    }

line_goes_on : (bs : List ℕ) (b : ℕ) → nat_eq b 10 ≡ false → Line bs → Line (b ∷ bs)
line_goes_on bs b e l =
    let n : gap true (b ∷ bs) ≡ suc (gap true bs) = ap (λ x. suc (gap (not x) bs)) e in
    record {
      line = b ∷ l.line;
      more = l.more;
      whole = ap (λ z. b ∷ z) l.whole;
      inside = ap (λ x. not x && list_all (λ b. not (nat_eq b 10)) l.line) e ∙ l.inside;
      ends = l.ends;
      after = subst (λ m. AfterGap l.more (drop m (b ∷ bs))) (sym n) l.after;
    }

line_by : (bs : List ℕ) (b : ℕ) (x : Bool) → nat_eq b 10 ≡ x → AfterGap bs (drop (gap false bs) bs) → Line bs → Line (b ∷ bs)
line_by bs b true e h l = line_ends bs b e h
line_by bs b false e h l = line_goes_on bs b e l

-- a gap, and a line that goes on
record Passed (bs : List ℕ) : Type 0 where
  gap_then : AfterGap bs (drop (gap false bs) bs)
  line_then : Line bs

gap_opens : (cs : List ℕ) (b c : ℕ) → is_space b ≡ false → opens_comment b c ≡ true → Line cs
    → AfterGap (b ∷ c ∷ cs) (drop (gap false (b ∷ c ∷ cs)) (b ∷ c ∷ cs))
gap_opens cs b c e f l =
    let two = and_parts (nat_eq b 45) (nat_eq c 45) f in
    let d : nat_eq c 10 ≡ false = grind (arith, nat_tests, eqb-true c 45 two.1) in
    let n : gap false (b ∷ c ∷ cs) ≡ suc (suc (gap true cs)) =
    ap (λ x. gap_by (if x then Some false else (if opens_comment b c then Some true else None)) (λ k. gap k (c ∷ cs))) e
    ∙ ap (λ x. gap_by (if x then Some true else None) (λ k. gap k (c ∷ cs))) f
    ∙ ap (λ x. suc (suc (gap (not x) cs))) d in
    let whole : b ∷ c ∷ cs ≡ 45 ∷ 45 ∷ (l.line ++ l.more) =
    ap (λ z. z ∷ c ∷ cs) (eqb-true b 45 two.0) ∙ ap (λ z. 45 ∷ z ∷ cs) (eqb-true c 45 two.1) ∙ ap (λ z. 45 ∷ 45 ∷ z) l.whole in
    subst (λ m. AfterGap (b ∷ c ∷ cs) (drop m (b ∷ c ∷ cs))) (sym n) (comment (b ∷ c ∷ cs) l.line l.more (drop (gap true cs) cs) whole l.inside l.ends l.after)

gap_spaced : (bs : List ℕ) (b : ℕ) → is_space b ≡ true → AfterGap bs (drop (gap false bs) bs) → AfterGap (b ∷ bs) (drop (gap false (b ∷ bs)) (b ∷ bs))
gap_spaced bs b e h =
    let n : gap false (b ∷ bs) ≡ suc (gap false bs) =
    ap (λ x. gap_by (if x then Some false else (if opens_comment b (slice_index bs 0) then Some true else None)) (λ k. gap k bs)) e in
    subst (λ m. AfterGap (b ∷ bs) (drop m (b ∷ bs))) (sym n) (space (b ∷ bs) b bs (drop (gap false bs) bs) refl e h)

-- no gap begins here
none_passed : (bs : List ℕ) → BeginsNoGap bs → gap false bs ≡ 0
none_passed [] h = refl
none_passed (b ∷ bs) h =
    ap (λ x. gap_by (if x then Some false else (if opens_comment b (slice_index bs 0) then Some true else None)) (λ k. gap k bs)) h.0
    ∙ ap (λ x. gap_by (if x then Some true else None) (λ k. gap k bs)) h.1

gap_none : (bs : List ℕ) → BeginsNoGap bs → AfterGap bs (drop (gap false bs) bs)
gap_none bs h = subst (λ m. AfterGap bs (drop m bs)) (sym (none_passed bs h)) (no_gap bs bs refl h)

one_left : (b : ℕ) (x y : Bool) → is_space b ≡ x → opens_comment b 0 ≡ y → AfterGap (b ∷ []) (drop (gap false (b ∷ [])) (b ∷ []))
one_left b true y e f = gap_spaced [] b e (no_gap [] [] refl tt)
one_left b false true e f = absurd (let two = and_parts (nat_eq b 45) false f in let g = two.1 in cc)
one_left b false false e f = gap_none (b ∷ []) (e, f)

gap_of : (cs : List ℕ) (b c : ℕ) (x y : Bool) → is_space b ≡ x → opens_comment b c ≡ y → Passed (c ∷ cs) → Line cs
    → AfterGap (b ∷ c ∷ cs) (drop (gap false (b ∷ c ∷ cs)) (b ∷ c ∷ cs))
gap_of cs b c true y e f p l = gap_spaced (c ∷ cs) b e p.gap_then
gap_of cs b c false true e f p l = gap_opens cs b c e f l
gap_of cs b c false false e f p l = gap_none (b ∷ c ∷ cs) (e, f)

no_line : Line []
no_line = record { line = []; more = []; whole = refl; inside = refl; ends = tt; after = no_gap [] [] refl tt }

passed : (bs : List ℕ) → Passed bs
passed [] = record { gap_then = no_gap [] [] refl tt; line_then = no_line }
passed (b ∷ []) = record {
  gap_then = one_left b (is_space b) (opens_comment b 0) refl refl;
  line_then = line_by [] b (nat_eq b 10) refl (no_gap [] [] refl tt) no_line;
}
passed (b ∷ c ∷ cs) =
    let p : Passed (c ∷ cs) = passed (c ∷ cs) in
    record {
      gap_then = gap_of cs b c (is_space b) (opens_comment b c) refl refl p ((passed cs).line_then);
      line_then = line_by (c ∷ cs) b (nat_eq b 10) refl p.gap_then p.line_then;
    }

pub gap_found : (bs : List ℕ) → AfterGap bs (drop (gap false bs) bs)
gap_found bs = (passed bs).gap_then

within_by : (bs : List ℕ) (o : Option Bool) → ((c : Bool) → gap c bs ≤ length bs) → gap_by o (λ c. gap c bs) ≤ suc (length bs)
within_by bs None h = omega arith
within_by bs (Some c) h = omega (arith, h c)

pub gap_within : (bs : List ℕ) (c : Bool) → gap c bs ≤ length bs
gap_within [] c = omega arith
gap_within (b ∷ bs) c = within_by bs (gap_step c b (slice_index bs 0)) (gap_within bs)

-- nothing else comes after a gap
line_passed : (line more : List ℕ) → IsInLine line → gap true (line ++ more) ≡ length line + gap true more
line_passed [] more h = omega arith
line_passed (b ∷ bs) more h =
    let two = and_parts (not (nat_eq b 10)) (list_all (λ b. not (nat_eq b 10)) bs) h in
    ap (λ x. suc (gap x (bs ++ more))) two.0 ∙ omega (arith, line_passed bs more two.1)

line_ended : (more : List ℕ) → EndsLine more → gap true more ≡ gap false more
line_ended [] h = refl
line_ended (b ∷ bs) h =
    ap (λ n. gap true (n ∷ bs)) h ∙ ap (λ n. gap false (n ∷ bs)) (sym h)

past_line : (line more : List ℕ) (n m : ℕ) → m ≡ length line + n → drop m (line ++ more) ≡ drop n more
past_line [] more n m h = ap (λ k. drop k more) (omega (arith, h))
past_line (b ∷ bs) more n zero h = absurd (omega (arith, h))
past_line (b ∷ bs) more n (suc m) h = past_line bs more n m (omega (arith, h))

passed_space : (more : List ℕ) (b : ℕ) → is_space b ≡ true → gap false (b ∷ more) ≡ suc (gap false more)
passed_space more b e =
    ap (λ x. gap_by (if x then Some false else (if opens_comment b (slice_index more 0) then Some true else None)) (λ k. gap k more)) e

passed_comment : (line more : List ℕ) → IsInLine line → EndsLine more → gap false (45 ∷ 45 ∷ (line ++ more)) ≡ suc (suc (length line + gap false more))
passed_comment line more i n =
    ap (λ g. suc (suc g)) (line_passed line more i ∙ ap (λ g. length line + g) (line_ended more n))

pub gap_only : (bs rest : List ℕ) → AfterGap bs rest → rest ≡ drop (gap false bs) bs
gap_only bs rest (no_gap _ _ e h) =
    sym e ∙ ap (λ n. drop n bs) (sym (none_passed bs (subst BeginsNoGap (sym e) h)))
gap_only bs rest (space _ b more _ e s h) =
    gap_only more rest h ∙ ap (λ n. drop n (b ∷ more)) (sym (passed_space more b s)) ∙ ap (λ z. drop (gap false z) z) (sym e)
gap_only bs rest (comment _ line more _ e i n h) =
    gap_only more rest h ∙ sym (past_line line more (gap false more) (length line + gap false more) refl)
    ∙ ap (λ n. drop n (45 ∷ 45 ∷ (line ++ more))) (sym (passed_comment line more i n)) ∙ ap (λ z. drop (gap false z) z) (sym e)
