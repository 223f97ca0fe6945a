-- One statement of a script more, and the end of its statements.
use Rattle.std.proofs.Common.{◌≡◌, ℕ, zero, suc, ◌+◌, ◌-◌, ◌<◌, ◌≤◌, ◌⊎◌, inl, inr, max, Bool, true, false, Option, Some, None, option_map, unwrap_or, IfSome, List, [], ◌∷◌, ◌++◌, length, take, drop, slice_get, Result, Ok, Err, refl, sym, ◌∙◌, ap, subst, arith, append_assoc, length-append, length-drop}
use Rattle.std.proofs.lemmas.Bool.{false≢true}
use Rattle.std.proofs.lemmas.Grind.{common_steps}
use Rattle.std.proofs.lemmas.List.{map-append, length-map}
use Rattle.iv_lex.specs.declared.kind.TokenKind.TheVariants as kind
use Rattle.iv_lex.specs.declared.token.Token.{Token}
use Rattle.iv_lex.specs.Words.{Word, plain, word_of, words}
use Rattle.iv_lex.specs.Tokens.{tokens_of}
use Rattle.iv_lex.specs.declared.lexer.Lexed.{Lexed}
use Rattle.iv_parse.specs.declared.parser.SyntaxFault.{SyntaxFault}
use Rattle.iv_parse_terms.specs.declared.stop.Stop.{Stop}
use Rattle.iv_parse_terms.specs.declared.stop.Stop.TheVariants.{NoMatch, TooDeep, NoMemory}
use Rattle.iv_parse_terms.specs.Reading.{At, Other, Like, ahead, ReadsAs}
use Rattle.iv_parse_terms.specs.Reading.{Reads as ReadsRule}
use Rattle.iv_parse.specs.Types.{Statement}
use Rattle.iv_parse.specs.Statements.{Reads}
use Rattle.iv_parse.specs.readers.Statements.{read_statement}
use Rattle.iv_parse.specs.Script.{AreStatements, BeginsStatement, ends_there, first_place, token_before, NoneBegins, IsScript, IsEnd, IsFault}
use Rattle.iv_parse.proofs.Rules.{statement_good, none_begins}

-- these statements are the tokens up to a place
pub record Run (text : List ℕ) (tokens : List Token) (place : ℕ) (statements : List Statement) : Type 0 where
  pub run : List Token
  pub whole : tokens ≡ run ++ drop place tokens
  pub are : AreStatements (words text run) statements

pub run_start : (text : List ℕ) (tokens : List Token) (ss : List Statement) → ss ≡ [] → Run text tokens 0 ss
run_start text tokens ss e = record { run = []; whole = refl; are = subst (λ z. AreStatements [] z) (sym e) refl }

are_more : (ss : List Statement) (ws front : List Word) (s : Statement) → AreStatements ws ss → Reads front s
    → AreStatements (ws ++ (front ++ plain kind.Semicolon ∷ [])) (ss ++ s ∷ [])
are_more [] ws front s e p = (front, [], p, refl, ap (λ z. z ++ (front ++ plain kind.Semicolon ∷ [])) e)
are_more (t ∷ ts) ws front s (f, b, q, m, w) p = (
  f,
  b ++ (front ++ plain kind.Semicolon ∷ []),
  q,
  are_more ts b front s m p,
  ap (λ z. z ++ (front ++ plain kind.Semicolon ∷ [])) w ∙ append_assoc f (plain kind.Semicolon ∷ b) (front ++ plain kind.Semicolon ∷ []),
)

-- ---- tokens and words by places

drop_words : (text : List ℕ) (p : ℕ) (ts : List Token) → drop p (words text ts) ≡ words text (drop p ts)
drop_words text zero ts = refl
drop_words text (suc p) [] = refl
drop_words text (suc p) (t ∷ ts) = drop_words text p ts

none_left : {A : Type 0} (n : ℕ) → ◌≡◌ {A = List A} (drop n []) []
none_left zero = refl
none_left (suc n) = refl

drop_drop : {A : Type 0} (p n : ℕ) (xs : List A) → drop n (drop p xs) ≡ drop (p + n) xs
drop_drop zero n xs = let e : 0 + n ≡ n = omega arith in ap (λ m. drop m xs) (sym e)
drop_drop {A} (suc p) n [] = let e : suc p + n ≡ suc (p + n) = omega arith in none_left n ∙ ap (λ m. drop {A = A} m []) (sym e)
drop_drop (suc p) n (x ∷ xs) = let e : suc p + n ≡ suc (p + n) = omega arith in drop_drop p n xs ∙ ap (λ m. drop m (x ∷ xs)) (sym e)

-- what is left is the same where as much is left
same_rest : {A : Type 0} (a b : ℕ) (ts : List A) → length ts - a ≡ length ts - b → drop a ts ≡ drop b ts
same_rest zero zero ts e = refl
same_rest zero (suc b) [] e = refl
same_rest zero (suc b) (x ∷ xs) e = absurd (omega (arith, e))
same_rest (suc a) zero [] e = refl
same_rest (suc a) zero (x ∷ xs) e = absurd (omega (arith, e))
same_rest (suc a) (suc b) [] e = refl
same_rest (suc a) (suc b) (x ∷ xs) e = same_rest a b xs (omega (arith, e))

-- the tokens of words at the front
front_of : (text : List ℕ) (ts : List Token) (front rest : List Word) → words text ts ≡ front ++ rest → words text (take (length front) ts) ≡ front
front_of text ts [] rest e = refl
front_of text [] (w ∷ ws) rest e = absurd (cc)
front_of text (t ∷ ts) (w ∷ ws) rest e =
    let f = front_of text ts ws rest (ap (drop 1) e) in
    let g = ap (λ (l : List Word). take 1 l) e in
    cc

split : {A : Type 0} (n : ℕ) (ts : List A) → ts ≡ take n ts ++ drop n ts
split n ts = grind (arith, common_steps)

-- ---- one statement more

own : (all : List Word) (n : At) → n.words ≡ all → Like n (record { words = all; all = all; most = n.place })
own all n e = record { own = e; same = refl; within = omega arith }

-- the words stay
kept : (all : List Word) (place : ℕ) (c n : At) (r : Result Statement Stop) → c ≡ record { words = all; place = place; furthest = place } → ReadsRule read_statement c r n → n.words ≡ all
kept all place c n r f h = sym (h (record { words = n.words; all = n.words; most = n.place }) (own n.words n refl)).0.own ∙ ap (λ (x : At). x.words) f

found : (text : List ℕ) (tokens : List Token) (all : List Word) (place : ℕ) (s : Statement) (c n : At) → all ≡ words text tokens → c ≡ record { words = all; place = place; furthest = place }
    → ReadsRule read_statement c (Ok s) n → read_statement (words text (drop place tokens)) ≡ Some (s, words text (drop n.place tokens))
found text tokens all place s c n e f h =
    let p = (h (record { words = all; all = all; most = n.place }) (own all n (kept all place c n (Ok s) f h))).1 in
    let at : drop c.place all ≡ words text (drop place tokens) = ap (λ (x : At). drop x.place all) f ∙ (ap (drop place) e ∙ drop_words text place tokens) in
    let to : drop n.place all ≡ words text (drop n.place tokens) = ap (drop n.place) e ∙ drop_words text n.place tokens in
    ap read_statement (sym at) ∙ (p ∙ ap (λ w. Some (s, w)) to)

rises_to : (all : List Word) (place : ℕ) (s : Statement) (c n : At) → c ≡ record { words = all; place = place; furthest = place } → ReadsRule read_statement c (Ok s) n → place ≤ n.place
rises_to all place s c n f h =
    let p = (h (record { words = all; all = all; most = n.place }) (own all n (kept all place c n (Ok s) f h))).0.within in
    let e = ap (λ (x : At). x.place) f in
    omega (arith, p, e)

-- a statement takes words
pub fewer : (text : List ℕ) (tokens : List Token) (all : List Word) (place : ℕ) (s : Statement) (c n : At) → all ≡ words text tokens → c ≡ record { words = all; place = place; furthest = place }
    → ReadsRule read_statement c (Ok s) n → length tokens - n.place < length tokens - place
fewer text tokens all place s c n e f h =
    let fit = (statement_good (words text (drop place tokens))).holds s (words text (drop n.place tokens)) (found text tokens all place s c n e f h) in
    let (front, p, w) = fit.part in
    let a = length-map (drop place tokens) (word_of text) in
    let b = length-map (drop n.place tokens) (word_of text) in
    let g = ap length fit.whole in
    let k = length-append fit.front (words text (drop n.place tokens)) in
    let l = ap length w in
    let m = length-append front (plain kind.Semicolon ∷ []) in
    let x = length-drop place tokens in
    let y = length-drop n.place tokens in
    omega (arith, a, b, g, k, l, m, x, y)

pub run_more : (text : List ℕ) (tokens : List Token) (all : List Word) (place : ℕ) (ss more : List Statement) (s : Statement) (c n : At) (next : ℕ)
    → all ≡ words text tokens → Run text tokens place ss → c ≡ record { words = all; place = place; furthest = place } → ReadsRule read_statement c (Ok s) n → next ≡ n.place → more ≡ ss ++ s ∷ []
    → Run text tokens next more
run_more text tokens all place ss more s c n next e r f h at d =
    let left = drop place tokens in
    let fit = (statement_good (words text left)).holds s (words text (drop n.place tokens)) (found text tokens all place s c n e f h) in
    let (front, p, w) = fit.part in
    let k = length fit.front in
    let a = length-map left (word_of text) in
    let b = length-map (drop n.place tokens) (word_of text) in
    let g = ap length fit.whole in
    let m = length-append fit.front (words text (drop n.place tokens)) in
    let x = length-drop place tokens in
    let y = length-drop n.place tokens in
    let up = rises_to all place s c n f h in
    let took : words text (take k left) ≡ front ++ plain kind.Semicolon ∷ [] = front_of text left fit.front (words text (drop n.place tokens)) fit.whole ∙ w in
    let both : words text (r.run ++ take k left) ≡ words text r.run ++ (front ++ plain kind.Semicolon ∷ []) = map-append (word_of text) r.run (take k left) ∙ ap (λ z. words text r.run ++ z) took in
    record {
      run = r.run ++ take k left;
      whole = r.whole ∙ (ap (λ z. r.run ++ z) (split k left ∙ ap (λ z. take k left ++ z) (drop_drop place k tokens ∙ same_rest (place + k) next tokens (omega (arith, up, at, a, b, g, m, x, y))))
          ∙ sym (append_assoc r.run (take k left) (drop next tokens)));
      are = subst (λ z. AreStatements (words text (r.run ++ take k left)) z) (sym d)
          (subst (λ z. AreStatements z (ss ++ s ∷ [])) (sym both) (are_more ss (words text r.run) front s r.are p));
    }

-- ---- where no statement begins

drop_after : (p : ℕ) (all ws : List Word) → p ≤ length all → drop p (take p all ++ ws) ≡ ws
drop_after zero all ws h = refl
drop_after (suc p) [] ws h = absurd (omega (arith, h))
drop_after (suc p) (x ∷ xs) ws h = drop_after p xs ws (omega (arith, h))

take_same : (m p : ℕ) (all ws : List Word) → p ≤ length all → take (m - p) ws ≡ take (m - p) (drop p all) → take m (take p all ++ ws) ≡ take m all
take_same m zero all ws h e = let z : m - 0 ≡ m = omega arith in subst (λ k. take k ws ≡ take k all) z e
take_same m (suc p) [] ws h e = absurd (omega (arith, h))
take_same zero (suc p) (x ∷ xs) ws h e = refl
take_same (suc m) (suc p) (x ∷ xs) ws h e =
    let z : suc m - suc p ≡ m - p = omega arith in
    ap (λ l. x ∷ l) (take_same m p xs ws (omega (arith, h)) (subst (λ k. take k ws ≡ take k (drop p xs)) z e))

take_less : (m n : ℕ) (xs ys : List Word) → m ≤ n → take n xs ≡ take n ys → take m xs ≡ take m ys
take_less zero n xs ys l e = refl
take_less (suc m) zero xs ys l e = absurd (omega (arith, l))
take_less (suc m) (suc n) [] [] l e = refl
take_less (suc m) (suc n) [] (y ∷ ys) l e = absurd (cc)
take_less (suc m) (suc n) (x ∷ xs) [] l e = absurd (cc)
take_less (suc m) (suc n) (x ∷ xs) (y ∷ ys) l e =
    let rest = take_less m n xs ys (omega (arith, l)) (ap (drop 1) e) in
    let first = ap (λ (z : List Word). take 1 z) e in
    cc

past_end : (p : ℕ) (all : List Word) → length all < p → drop p all ≡ []
past_end zero all h = absurd (omega (arith, h))
past_end (suc p) [] h = refl
past_end (suc p) (x ∷ xs) h = past_end p xs (omega (arith, h))

nothing_by : (n : ℕ) (ws : List Word) → take (suc n) ws ≡ [] → ws ≡ []
nothing_by n [] e = refl
nothing_by n (w ∷ ws) e = absurd (cc)

stops_here : (c n : At) (e : Stop) (o : Other) → (e ≡ NoMemory → ⊥) → ReadsRule read_statement c (Err e) n → Like n o → read_statement (ahead c o) ≡ None
stops_here c n NoMatch o m h l = (h o l).1
stops_here c n TooDeep o m h l = (h o l).1
stops_here c n NoMemory o m h l = absurd (m refl)

up : (m n : ℕ) → (m ≤ n) ⊎ (n < m) → (suc m ≤ suc n) ⊎ (suc n < suc m)
up m n (inl h) = inl (omega (arith, h))
up m n (inr h) = inr (omega (arith, h))

either : (m n : ℕ) → (m ≤ n) ⊎ (n < m)
either zero n = inl (omega arith)
either (suc m) zero = inr (omega arith)
either (suc m) (suc n) = up m n (either m n)

blocked_by : (all : List Word) (place : ℕ) (c n : At) (e : Stop) → (e ≡ NoMemory → ⊥) → c ≡ record { words = all; place = place; furthest = place } → ReadsRule read_statement c (Err e) n
    → (ws : List Word) → take (suc (max n.furthest place - place)) ws ≡ take (suc (max n.furthest place - place)) (drop place all)
    → (place ≤ length all) ⊎ (length all < place) → ¬ (BeginsStatement ws)
blocked_by all place c n e m f h ws alike (inl within) =
    let front = take_less (suc n.furthest - place) (suc (max n.furthest place - place)) ws (drop place all) (omega arith) alike in
    let o : Other = record { words = take place all ++ ws; all = all; most = n.place } in
    let none = stops_here c n e o m h (record { own = kept all place c n (Err e) f h; same = take_same (suc n.furthest) place all ws within front; within = omega arith }) in
    let at : drop c.place (take place all ++ ws) ≡ ws = ap (λ (x : At). drop x.place (take place all ++ ws)) f ∙ drop_after place all ws within in
    none_begins ws (ap read_statement (sym at) ∙ none)
blocked_by all place c n e m f h ws alike (inr past) =
    let nothing = past_end place all past in
    let w : ws ≡ [] = nothing_by (max n.furthest place - place) ws (alike ∙ ap (λ z. take (suc (max n.furthest place - place)) z) nothing) in
    let none = stops_here c n e (record { words = all; all = all; most = n.place }) m h (own all n (kept all place c n (Err e) f h)) in
    let at : drop c.place all ≡ [] = ap (λ (x : At). drop x.place all) f ∙ nothing in
    none_begins ws (ap read_statement (w ∙ sym at) ∙ none)

abbrev refused : Stop → Bool
refused NoMatch = false
refused TooDeep = false
refused NoMemory = true

pub no_match : NoMatch ≡ NoMemory → ⊥
no_match q = false≢true (ap refused q)

pub too_deep : TooDeep ≡ NoMemory → ⊥
too_deep q = false≢true (ap refused q)

-- the run ends where no statement begins
pub run_ends : (text : List ℕ) (tokens : List Token) (all : List Word) (place end word : ℕ) (ss : List Statement) (c n : At) (e : Stop) → all ≡ words text tokens → Run text tokens place ss
    → (e ≡ NoMemory → ⊥) → c ≡ record { words = all; place = place; furthest = place } → ReadsRule read_statement c (Err e) n → end ≡ place → word ≡ max n.furthest place → IsEnd text tokens ss end word
run_ends text tokens all place end word ss c n e a r m f h p w =
    subst (λ x. IsEnd text tokens ss x word) (sym p) (subst (λ x. IsEnd text tokens ss place x) (sym w) (record {
      run = r.run;
      whole = r.whole;
      are = r.are;
      order = omega arith;
      none = λ ws alike. blocked_by all place c n e m f h ws
          (alike ∙ ap (λ z. take (suc (max n.furthest place - place)) z) (sym (ap (drop place) a ∙ drop_words text place tokens))) (either place (length all));
    }))

-- ---- the fault of a script

pub script_is : (text : List ℕ) (tokens : List Token) (ss : List Statement) (place word : ℕ) (f : Option ℕ) → IsEnd text tokens ss place word → tokens ≡ (tokens_of text).tokens
    → f ≡ first_place (drop place tokens) (tokens_of text).fault → IsScript text ss f
script_is text tokens ss place word f r e h = record {
  run = r.run;
  left = drop place tokens;
  tokens = sym e ∙ r.whole;
  whole = r.are;
  longest = r.none (words text (drop place tokens)) refl;
  place = h;
}

pub fault_is : (text : List ℕ) (tokens : List Token) (ss : List Statement) (place word : ℕ) (f : SyntaxFault) → IsEnd text tokens ss place word → tokens ≡ (tokens_of text).tokens
    → Some f.at ≡ first_place (drop place tokens) (tokens_of text).fault → f.word ≡ unwrap_or (first_place (drop word tokens) (tokens_of text).fault) (length text)
    → f.token ≡ slice_get (drop word tokens) 0 → f.before ≡ token_before (drop place tokens) (word - place) → f.is_cut ≡ ends_there f.token (tokens_of text).fault → IsFault text ss f
fault_is text tokens ss place word f r e h b g k l =
    let sum : place + (word - place) ≡ word = let o = r.order in omega (arith, o) in
    let left : drop (word - place) (drop place tokens) ≡ drop word tokens = drop_drop place (word - place) tokens ∙ ap (λ n. drop n tokens) sum in
    record {
      run = r.run;
      left = drop place tokens;
      count = word - place;
      tokens = sym e ∙ r.whole;
      whole = r.are;
      at_is = h;
      word_is = b ∙ ap (λ z. unwrap_or (first_place z (tokens_of text).fault) (length text)) (sym left);
      token_is = g ∙ ap (λ z. slice_get z 0) (sym left);
      before_is = k;
      cut_is = l;
      none = r.none;
    }

pub fault_has : (text : List ℕ) (tokens : List Token) (ss : List Statement) (place word : ℕ) (o : Option SyntaxFault) → IsEnd text tokens ss place word → tokens ≡ (tokens_of text).tokens
    → option_map (λ f. f.at) o ≡ first_place (drop place tokens) (tokens_of text).fault
    → IfSome o (λ f. f.word ≡ unwrap_or (first_place (drop word tokens) (tokens_of text).fault) (length text))
    → IfSome o (λ f. f.token ≡ slice_get (drop word tokens) 0) → IfSome o (λ f. f.before ≡ token_before (drop place tokens) (word - place))
    → IfSome o (λ f. f.is_cut ≡ ends_there f.token (tokens_of text).fault) → IfSome o (λ f. IsFault text ss f)
fault_has text tokens ss place word None r e h b g k l = b
fault_has text tokens ss place word (Some f) r e h b g k l = fault_is text tokens ss place word f r e h b g k l

-- the fault as the code finds it
pub word_found : (text : List ℕ) (ts us : List Token) (lexed : Lexed) (word : ℕ) (o : Option SyntaxFault) → us ≡ ts → lexed ≡ tokens_of text
    → IfSome o (λ f. f.word ≡ unwrap_or (first_place (drop word us) lexed.fault) (length text))
    → IfSome o (λ f. f.word ≡ unwrap_or (first_place (drop word ts) (tokens_of text).fault) (length text))
word_found text ts us lexed word None e d h = h
word_found text ts us lexed word (Some f) e d h =
    h ∙ (ap (λ z. unwrap_or (first_place (drop word z) lexed.fault) (length text)) e ∙ ap (λ (l : Lexed). unwrap_or (first_place (drop word ts) l.fault) (length text)) d)

pub token_found : (ts us : List Token) (word : ℕ) (o : Option SyntaxFault) → us ≡ ts → IfSome o (λ f. f.token ≡ slice_get (drop word us) 0)
    → IfSome o (λ f. f.token ≡ slice_get (drop word ts) 0)
token_found ts us word None e h = h
token_found ts us word (Some f) e h = h ∙ ap (λ z. slice_get (drop word z) 0) e

pub before_found : (ts us : List Token) (place word : ℕ) (o : Option SyntaxFault) → us ≡ ts → IfSome o (λ f. f.before ≡ token_before (drop place us) (word - place))
    → IfSome o (λ f. f.before ≡ token_before (drop place ts) (word - place))
before_found ts us place word None e h = h
before_found ts us place word (Some f) e h = h ∙ ap (λ z. token_before (drop place z) (word - place)) e

pub cut_found : (text : List ℕ) (lexed : Lexed) (o : Option SyntaxFault) → lexed ≡ tokens_of text → IfSome o (λ f. f.is_cut ≡ ends_there f.token lexed.fault)
    → IfSome o (λ f. f.is_cut ≡ ends_there f.token (tokens_of text).fault)
cut_found text lexed None e h = h
cut_found text lexed (Some f) e h = h ∙ ap (λ (l : Lexed). ends_there f.token l.fault) e
