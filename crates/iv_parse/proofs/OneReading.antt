-- Words are at most one statement, and a script has one reading.
use Rattle.std.proofs.Common.{◌≡◌, List, [], ◌∷◌, ◌++◌, length, drop, refl, sym, ◌∙◌, ap, arith, append_assoc, length-append}
use Rattle.std.proofs.lemmas.List.{map-append, length-map}
use Rattle.std.proofs.lemmas.Grind.{common_steps}
use Rattle.iv_lex.specs.declared.kind.TokenKind.TheVariants as kind
use Rattle.iv_lex.specs.declared.token.Token.{Token}
use Rattle.iv_lex.specs.Words.{Word, plain, word_of, words}
use Rattle.iv_lex.specs.Tokens.{tokens_of}
use Rattle.iv_parse.specs.Types.{Statement}
use Rattle.iv_parse.specs.readers.Statements.{read_statement}
use Rattle.iv_parse.specs.Script.{AreStatements, BeginsStatement, first_place}
use Rattle.iv_parse.specs.Laws.{OneStatement, NoOtherBegins, OneScript}
use Rattle.iv_parse_data.proofs.Fronts.{same_found}
use Rattle.iv_parse.proofs.Rules.{statement_complete}

pub no_other_begins : NoOtherBegins
no_other_begins s t f g rest others p q e =
    same_found s t rest others (sym (statement_complete s f rest p) ∙ ap read_statement e ∙ statement_complete t g others q)

pub one_statement : OneStatement
one_statement ws s t p q = (no_other_begins s t ws ws [] [] p q refl).0

-- the words of the tokens that are left begin no statement, so both runs are as long
same_run : (ss ts : List Statement) (run left : List Word) (more other : List Word) → AreStatements run ss → AreStatements more ts → run ++ left ≡ more ++ other
    → ¬ (BeginsStatement left) → ¬ (BeginsStatement other) → (ss ≡ ts) × (left ≡ other)
same_run [] [] run left more other p q e h i =
    (refl, sym (ap (λ z. z ++ left) p) ∙ e ∙ ap (λ z. z ++ other) q)
same_run [] (t ∷ ts) run left more other p (f, b, r, m, w) e h i =
    absurd (h (t, f, b ++ other, r, sym (ap (λ z. z ++ left) p) ∙ e ∙ ap (λ z. z ++ other) w ∙ append_assoc f (plain kind.Semicolon ∷ b) other))
same_run (s ∷ ss) [] run left more other (f, b, r, m, w) q e h i =
    absurd (i (s, f, b ++ left, r, sym (ap (λ z. z ++ other) q) ∙ sym e ∙ ap (λ z. z ++ left) w ∙ append_assoc f (plain kind.Semicolon ∷ b) left))
same_run (s ∷ ss) (t ∷ ts) run left more other (f, b, r, m, w) (g, c, k, n, v) e h i =
    let one = no_other_begins s t f g (b ++ left) (c ++ other) r k
    (sym (append_assoc f (plain kind.Semicolon ∷ b) left) ∙ sym (ap (λ z. z ++ left) w) ∙ e ∙ ap (λ z. z ++ other) v ∙ append_assoc g (plain kind.Semicolon ∷ c) other) in
    let rest = same_run ss ts b left c other m n one.1 h i in
    (ap (λ z. z ∷ ss) one.0 ∙ ap (λ z. t ∷ z) rest.0, rest.1)

dropped : (xs ys : List Token) → drop (length xs) (xs ++ ys) ≡ ys
dropped xs ys = grind (arith, common_steps)

-- the ends of one list that are as long are the same
same_end : (xs ys zs ws : List Token) → xs ++ ys ≡ zs ++ ws → length ys ≡ length ws → ys ≡ ws
same_end xs ys zs ws e l =
    let long : length xs ≡ length zs = omega (arith, ap length e, length-append xs ys, length-append zs ws) in
    sym (dropped xs ys) ∙ ap (drop (length xs)) e ∙ ap (λ n. drop n (zs ++ ws)) long ∙ dropped zs ws

pub one_script : OneScript
one_script text ss ts f g a b =
    let tokens : words text a.run ++ words text a.left ≡ words text b.run ++ words text b.left =
    sym (map-append (word_of text) a.run a.left) ∙ ap (words text) (sym a.tokens ∙ b.tokens) ∙ map-append (word_of text) b.run b.left in
    let same = same_run ss ts (words text a.run) (words text a.left) (words text b.run) (words text b.left) a.whole b.whole tokens a.longest b.longest in
    let long : length a.left ≡ length b.left = sym (length-map a.left (word_of text)) ∙ ap length same.1 ∙ length-map b.left (word_of text) in
    let left : a.left ≡ b.left = same_end a.run a.left b.run b.left (sym a.tokens ∙ b.tokens) long in
    (same.0, a.place ∙ ap (λ z. first_place z (tokens_of text).fault) left ∙ sym b.place)
