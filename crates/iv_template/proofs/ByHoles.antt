-- A template that is filled hole by hole.
use Rattle.std.proofs.Common.{◌≡◌, ℕ, suc, ◌+◌, ◌-◌, ◌<◌, ◌≤◌, Option, Some, None, unwrap_or, List, [], ◌∷◌, ◌++◌, length, drop, get_or, refl, sym, ◌∙◌, ap, subst, arith, length-append, append_assoc, append-nil}
use Rattle.std.specs.Prelude.{map, slice_index, IsUtf8, Result, Ok, Err, IfErr, MatchOption}
use Rattle.std.specs.Result.{IsErrAnd}
use Rattle.iv_template.specs.declared.fault.FillFault.{FillFault}
use Rattle.iv_template.specs.declared.fault.FillFault.TheVariants.{NoMemory, NoToken, WrongCount}
use Rattle.std.proofs.Math.Seq.{drop-append_seam, drop-append-add, get_or-append_seam}
use Rattle.std.proofs.lemmas.Str.{IsUtf8-drop, IsCharBoundary-after_ascii}
use Rattle.iv_value.specs.declared.value.Value.{Value}
use Rattle.iv_lex.specs.Words.{Word}
use Rattle.iv_template.specs.Templates.{words_of, fault_of, Part, word, hole, IsTemplate, literal, filled, holes, Fills}
use Rattle.iv_template.specs.Templates.IsTemplate.{ends, goes_on}
use Rattle.iv_template.specs.Literals.{literal_text, IsSmall}
use Rattle.iv_template.specs.Holes.{HasHoles, IsHole, IsRefused, StopsAt, StopsBy, StopsFrom}
use Rattle.iv_template.specs.Holes.StopsAt.{at_once, later}
use Rattle.iv_template.proofs.Lexing.{Lexes, after_space, joined}
use Rattle.iv_template.proofs.Found.{left_from, text_lexes, whole_text}
use Rattle.iv_template.proofs.Literals.{literal_lexes}

pub filled_append : (ps qs : List Part) (vs us : List Value) → holes ps ≡ length vs → filled (ps ++ qs) (vs ++ us) ≡ filled ps vs ++ filled qs us
filled_append [] qs [] us h = refl
filled_append [] qs (v ∷ vs) us h = absurd (omega (arith, h))
filled_append (word w ∷ ps) qs vs us h = ap (λ z. w ∷ z) (filled_append ps qs vs us h)
filled_append (hole ∷ ps) qs [] us h = absurd (omega (arith, h))
filled_append (hole ∷ ps) qs (v ∷ vs) us h =
    ap (λ z. literal v ++ z) (filled_append ps qs vs us (omega (arith, h))) ∙ sym (append_assoc (literal v) (filled ps vs) (filled qs us))

-- words before other parts
pub filled_after : (ws : List Word) (ps : List Part) (vs : List Value) → filled (map word ws ++ ps) vs ≡ ws ++ filled ps vs
filled_after [] ps vs = refl
filled_after (w ∷ ws) ps vs = ap (λ z. w ∷ z) (filled_after ws ps vs)

pub holes_append : (ps qs : List Part) → holes (ps ++ qs) ≡ holes ps + holes qs
holes_append [] qs = omega arith
holes_append (word w ∷ ps) qs = holes_append ps qs
holes_append (hole ∷ ps) qs = omega (arith, holes_append ps qs)

pub holes_after : (ws : List Word) (ps : List Part) → holes (map word ws ++ ps) ≡ holes ps
holes_after [] ps = refl
holes_after (w ∷ ws) ps = holes_after ws ps

-- What is read of a text before the rest of it: the parts, and how many characters they are written with.
pub record Walked (text rest : List ℕ) : Type 0 where
  pub before : List Part
  pub passed : ℕ
  pub front : (ps : List Part) → IsTemplate rest ps → IsTemplate text (before ++ ps)
  pub back : (ps : List Part) → IsTemplate text ps → (qs : List Part) × (ps ≡ before ++ qs) × IsTemplate rest qs
  pub long : length text ≡ passed + length rest
  pub stops : (place : ℕ) → StopsAt rest place → StopsAt text (passed + place)
  pub few : holes before ≤ passed
  pub utf8 : IsUtf8 rest

-- The text that is written has the words of the template before the rest, with the values in place of its holes but for those that are
-- left.
pub record Reached (template : List ℕ) (values : List Value) (text rest : List ℕ) (left : List Value) : Type 0 where
  pub walked : Walked template rest
  pub used : List Value
  pub count : holes walked.before ≡ length used
  pub in_order : values ≡ used ++ left
  pub lexed : (other : List ℕ) (ws : List Word) (s : Option (List ℕ)) → Lexes other ws s → Lexes (text ++ other) (filled walked.before used ++ ws) s

pub walked_start : (text : List ℕ) → IsUtf8 text → Walked text text
walked_start text u = record {
  before = [];
  passed = 0;
  front = λ ps t. t;
  back = λ ps t. (ps, refl, t);
  long = omega arith;
  stops = λ place s. subst (StopsAt text) (let e : place ≡ 0 + place = omega arith in e) s;
  few = omega arith;
  utf8 = u;
}

pub counted_none : (text : List ℕ) (u : IsUtf8 text) → holes (walked_start text u).before ≡ 0
unfolding walked_start
counted_none text u = refl

pub reached_start : (template : List ℕ) (values : List Value) → IsUtf8 template → Reached template values [] template values
unfolding walked_start
reached_start template values u =
    record { walked = walked_start template u; used = []; count = refl; in_order = refl; lexed = λ other ws s l. l }

pub some_same : (a b : ℕ) → ◌≡◌ {A = Option ℕ} (Some a) (Some b) → a ≡ b
some_same a b h = ap (λ o. unwrap_or o a) h

pub same_rest : (a b c d : List ℕ) → a ++ 63 ∷ b ≡ c ++ 63 ∷ d → length a ≡ length c → b ≡ d
same_rest a b c d e n =
    ap (drop 1) (sym (drop-append_seam a (63 ∷ b)) ∙ ap (drop (length a)) e ∙ ap (λ k. drop k (c ++ 63 ∷ d)) n ∙ drop-append_seam c (63 ∷ d))

-- the parts from a hole on
past_hole : (text front rest : List ℕ) (ps : List Part) → IsHole text front rest → IsTemplate text ps
    → (qs : List Part) × (ps ≡ map word (words_of text) ++ hole ∷ qs) × IsTemplate rest qs
past_hole text front rest ps h (ends _ _ e p) = absurd (let f : None ≡ Some (length front) = sym e ∙ h.here in cc)
past_hole text front rest ps h (goes_on _ f r _ others w e t p) =
    let n : length f ≡ length front = some_same (length f) (length front) (sym e ∙ h.here) in
    (others, p, subst (λ z. IsTemplate z others) (same_rest f r front rest (sym w ∙ h.whole) n) t)

left_at_hole : (text front rest : List ℕ) → IsHole text front rest → left_from text (fault_of text) ≡ Some (63 ∷ rest)
left_at_hole text front rest h =
    ap (left_from text) h.here ∙ ap (λ z. Some (drop (length front) z)) h.whole ∙ ap Some (drop-append_seam front (63 ∷ rest))

-- what comes after a hole is a text
pub after_hole : (text front rest : List ℕ) → IsHole text front rest → IsUtf8 text → IsUtf8 rest
after_hole text front rest h u =
    let n : length text ≡ length front + suc (length rest) = ap length h.whole ∙ length-append front (63 ∷ rest) in
    let b : get_or text (length front) 0 ≡ 63 = ap (λ z. get_or z (length front) 0) h.whole ∙ get_or-append_seam front 63 rest 0 in
    let d : drop (length front + 1) text ≡ rest =
    ap (drop (length front + 1)) h.whole ∙ drop-append-add front (63 ∷ rest) 1 in
    subst IsUtf8 d (IsUtf8-drop text (length front + 1) u (IsCharBoundary-after_ascii text (length front) u (omega (arith, n)) (omega (arith, b))))

-- the part of a template from its rest up to a hole
abbrev up_to_hole : List ℕ → List Part
up_to_hole rest = map word (words_of rest) ++ hole ∷ []

regroup : (before : List Part) (rest : List ℕ) (qs : List Part) → before ++ (map word (words_of rest) ++ hole ∷ qs) ≡ (before ++ up_to_hole rest) ++ qs
regroup before rest qs =
    ap (λ z. before ++ z) (sym (append_assoc (map word (words_of rest)) (hole ∷ []) qs)) ∙ sym (append_assoc before (up_to_hole rest) qs)

holes_up_to : (before : List Part) (rest : List ℕ) → holes (before ++ up_to_hole rest) ≡ holes before + 1
holes_up_to before rest = holes_append before (up_to_hole rest) ∙ ap (λ n. holes before + n) (holes_after (words_of rest) (hole ∷ []))

long_by : (text front after : List ℕ) → IsHole text front after → length text ≡ length front + 1 + length after
long_by text front after h = omega (arith, ap length h.whole, length-append front (63 ∷ after))

pub walked_more : (text rest front after : List ℕ) → Walked text rest → IsHole rest front after → Walked text after
walked_more text rest front after w h = record {
  before = w.before ++ up_to_hole rest;
  passed = w.passed + (length front + 1);
  front = λ qs t. subst (IsTemplate text) (regroup w.before rest qs)
      (w.front (map word (words_of rest) ++ hole ∷ qs) (goes_on rest front after (map word (words_of rest) ++ hole ∷ qs) qs h.whole h.here t refl));
  back = λ qs t.
      let (xs, e, u) = w.back qs t in
      let (ys, f, v) = past_hole rest front after xs h u in
      (ys, e ∙ ap (λ z. w.before ++ z) f ∙ regroup w.before rest ys, v);
  long = omega (arith, w.long, long_by rest front after h);
  stops = λ place s. subst (StopsAt text)
      (let e : w.passed + (length front + 1 + place) ≡ w.passed + (length front + 1) + place = omega arith in e)
      (w.stops (length front + 1 + place) (later rest front after place h s));
  few = omega (arith, holes_up_to w.before rest, w.few);
  utf8 = after_hole rest front after h w.utf8;
}

pub counted_more : (text rest front after : List ℕ) (w : Walked text rest) (h : IsHole rest front after) → holes (walked_more text rest front after w h).before ≡ holes w.before + 1
unfolding walked_more
counted_more text rest front after w h = holes_up_to w.before rest

-- one hole more
pub reached_more : (template : List ℕ) (values : List Value) (text rest front after : List ℕ) (v : Value) (left : List Value) → Reached template values text rest (v ∷ left)
    → IsHole rest front after → IsSmall v → Reached template values (text ++ (front ++ 32 ∷ (literal_text v ++ 32 ∷ []))) after left
unfolding walked_more
reached_more template values text rest front after v left r h i =
    let ws : List Word = words_of rest in
    let ps : List Part = up_to_hole rest in
    let before : List Part = r.walked.before in
    record {
      walked = walked_more template rest front after r.walked h;
      used = r.used ++ v ∷ [];
      count = omega (arith, holes_up_to before rest, r.count, length-append r.used (v ∷ []));
      in_order = r.in_order ∙ sym (append_assoc r.used (v ∷ []) left);
      lexed = λ other vs s l.
          let one : Lexes (32 ∷ (literal_text v ++ 32 ∷ other)) (literal v ++ vs) s =
          after_space (literal_text v ++ 32 ∷ other) (literal v ++ vs) s (literal_lexes v other vs s i (after_space other vs s l)) in
          let two : Lexes (front ++ 32 ∷ (literal_text v ++ 32 ∷ other)) (ws ++ (literal v ++ vs)) s =
          joined rest ws (left_from rest (fault_of rest)) (text_lexes rest r.walked.utf8) front after (literal_text v ++ 32 ∷ other) (literal v ++ vs) s h.whole
          (left_at_hole rest front after h) one in
          let three = r.lexed (front ++ 32 ∷ (literal_text v ++ 32 ∷ other)) (ws ++ (literal v ++ vs)) s two in
          let chars : text ++ (front ++ 32 ∷ (literal_text v ++ 32 ∷ other)) ≡ (text ++ (front ++ 32 ∷ (literal_text v ++ 32 ∷ []))) ++ other =
          ap (λ z. text ++ (front ++ 32 ∷ z)) (sym (append_assoc (literal_text v) (32 ∷ []) other))
          ∙ ap (λ z. text ++ z) (sym (append_assoc front (32 ∷ (literal_text v ++ 32 ∷ [])) other))
          ∙ sym (append_assoc text (front ++ 32 ∷ (literal_text v ++ 32 ∷ [])) other) in
          let part : filled ps (v ∷ []) ≡ ws ++ literal v = filled_after ws (hole ∷ []) (v ∷ []) ∙ ap (λ z. ws ++ z) (append-nil (literal v)) in
          let words : filled before r.used ++ (ws ++ (literal v ++ vs)) ≡ filled (before ++ ps) (r.used ++ v ∷ []) ++ vs =
          ap (λ z. filled before r.used ++ z) (sym (append_assoc ws (literal v) vs))
          ∙ sym (append_assoc (filled before r.used) (ws ++ literal v) vs)
          ∙ ap (λ z. (filled before r.used ++ z) ++ vs) (sym part)
          ∙ ap (λ z. z ++ vs) (sym (filled_append before ps r.used (v ∷ []) r.count)) in
          subst (λ z. Lexes z (filled (before ++ ps) (r.used ++ v ∷ []) ++ vs) s) chars
          (subst (λ z. Lexes (text ++ (front ++ 32 ∷ (literal_text v ++ 32 ∷ other))) z s) words three);
    }

pub no_more : (ws : List Word) → map word ws ++ [] ≡ map word ws
no_more ws = append-nil (map word ws)

-- no hole is left
pub walked_end : (text rest : List ℕ) (w : Walked text rest) → fault_of rest ≡ None → HasHoles text (holes w.before)
walked_end text rest w f =
    let ws : List Word = words_of rest in
    let h : holes (map word ws) ≡ 0 = ap holes (sym (no_more ws)) ∙ holes_after ws [] in
    (w.before ++ map word ws, w.front (map word ws) (ends rest (map word ws) f refl), omega (arith, h, holes_append w.before (map word ws)))

-- no hole is left, and no value
pub reached_end : (template : List ℕ) (values : List Value) (text rest : List ℕ) → Reached template values text rest [] → fault_of rest ≡ None → IsUtf8 (text ++ rest)
    → Fills template values (text ++ rest)
reached_end template values text rest r f u =
    let ws : List Word = words_of rest in
    let ps : List Part = map word ws in
    let before : List Part = r.walked.before in
    let h : holes ps ≡ 0 = ap holes (sym (no_more ws)) ∙ holes_after ws [] in
    let l : Lexes rest ws None = subst (λ o. Lexes rest ws o) (ap (left_from rest) f) (text_lexes rest r.walked.utf8) in
    let w = whole_text (text ++ rest) (filled before r.used ++ ws) u (r.lexed rest ws None l) in
    let e : filled ps [] ≡ ws = ap (λ z. filled z []) (sym (no_more ws)) ∙ filled_after ws [] [] ∙ append-nil ws in
    let g : filled (before ++ ps) values ≡ filled before r.used ++ ws =
    ap (filled (before ++ ps)) r.in_order ∙ filled_append before ps r.used [] r.count ∙ ap (λ z. filled before r.used ++ z) e in
    record {
      parts = before ++ ps;
      of_template = r.walked.front ps (ends rest ps f refl);
      one_each = holes_append before ps ∙ omega (arith, h, r.count, ap length r.in_order, length-append r.used []);
      no_fault = w.1;
      words = w.0 ∙ sym g;
    }

-- a hole is left with so many behind it, and no value
pub too_few : (template : List ℕ) (values : List Value) (text rest front after : List ℕ) (more : ℕ) → Reached template values text rest [] → IsHole rest front after
    → HasHoles after more → IsRefused template values (WrongCount (length values + 1 + more) (length values))
unfolding walked_more
too_few template values text rest front after more r h (qs, t, e) =
    let w = walked_more template rest front after r.walked h in
    let n : holes (w.before ++ qs) ≡ length values + 1 + more =
    omega (arith, holes_append w.before qs, holes_up_to r.walked.before rest, e, r.count, ap length r.in_order, length-append r.used []) in
    ((w.before ++ qs, w.front qs t, n), refl, λ same. omega (arith, same))

-- a value is left, and no hole
pub too_many : (template : List ℕ) (values : List Value) (text rest : List ℕ) (left : List Value) → Reached template values text rest left → 0 < length left → fault_of rest ≡ None
    → IsRefused template values (WrongCount (length values - length left) (length values))
too_many template values text rest left r l f =
    let n : holes r.walked.before ≡ length values - length left = omega (arith, r.count, ap length r.in_order, length-append r.used left) in
    (subst (HasHoles template) n (walked_end template rest r.walked f), refl, λ same. omega (arith, same, l, ap length r.in_order, length-append r.used left))

-- what stops the search for a hole stops the text
pub stopped_from : (text rest : List ℕ) (from : ℕ) (w : Walked text rest) (f : FillFault) → StopsBy rest (from + (length text - length rest)) f → StopsFrom text from f
stopped_from text rest from w NoMemory s = tt {0}
stopped_from text rest from w (NoToken at) (place, e, b) =
    (w.passed + place, omega (arith, e, w.long), w.stops place (at_once rest place b))
stopped_from text rest from w (WrongCount a b) s = absurd s

pub refused_at : (template : List ℕ) (values : List Value) (f : FillFault) → StopsFrom template 0 f → IsRefused template values f
refused_at template values NoMemory s = tt {0}
refused_at template values (NoToken at) (place, e, b) = subst (StopsAt template) (let n : place ≡ at = omega (arith, e) in n) b
refused_at template values (WrongCount a b) s = absurd s

-- so of a text that begins behind a hole
pub stopped_behind : (template rest : List ℕ) (w : Walked template rest) (f : FillFault) → StopsFrom rest (length template - length rest) f → StopsFrom template 0 f
stopped_behind template rest w NoMemory s = tt {0}
stopped_behind template rest w (NoToken at) (place, e, b) = (w.passed + place, omega (arith, e, w.long), w.stops place b)
stopped_behind template rest w (WrongCount a b) s = absurd s

-- neither a token nor a hole is there
pub none_that_stops : (text : List ℕ) (place : ℕ) (ps : List Part) → StopsAt text place → IsTemplate text ps → ⊥
none_that_stops text place ps (at_once _ _ b) (ends _ _ e p) = absurd (let f : None ≡ Some place = sym e ∙ b.here in cc)
none_that_stops text place ps (at_once _ _ b) (goes_on _ f r _ others w e t p) =
    let n : length f ≡ place = some_same (length f) place (sym e ∙ b.here) in
    b.no_mark (ap (λ k. slice_index text k) (sym n) ∙ ap (λ z. slice_index z (length f)) w ∙ get_or-append_seam f 63 r 0)
none_that_stops text place ps (later _ front rest further h b) t =
    let (qs, e, u) = past_hole text front rest ps h t in none_that_stops rest further qs b u

pub told_on : {A : Type 0} (r : Result A FillFault) (f : FillFault) (P : FillFault → Type 0) → IsErrAnd r (λ y. y ≡ f) → P f → IfErr r P
told_on (Ok a) f P h p = absurd h
told_on (Err y) f P h p = subst P (sym h) p

-- a hole that was found
pub hole_found : {A : Type 0} (o : Option A) (a : A) (P : Type 0) (Q : A → Type 0) → MatchOption o P Q → o ≡ Some a → Q a
hole_found o a P Q h e = subst (λ z. MatchOption z P Q) e h

pub no_hole_found : {A : Type 0} (o : Option A) (P : Type 0) (Q : A → Type 0) → MatchOption o P Q → o ≡ None → P
no_hole_found o P Q h e = subst (λ z. MatchOption z P Q) e h
