-- How what a rule reads follows from what its parts read.
use Rattle.std.specs.Prelude.{◌≡◌, true, false, Option, Some, None, List, Result, Ok, Err}
use Rattle.std.proofs.Common.{sym, ap, subst}
use Rattle.std.specs.Result.{IsErr, IsErrAnd}
use Rattle.iv_lex.specs.Words.{Word}
use Rattle.iv_parse_terms.specs.After.{if_some, then_read}
use Rattle.iv_parse_terms.specs.declared.stop.Stop.{Stop}
use Rattle.iv_parse_terms.specs.declared.stop.Stop.TheVariants.{NoMatch, TooDeep, NoMemory}
use Rattle.iv_parse_terms.specs.Reading.{At, ahead, GivesAs, ReadsAs, MakesAs, Expects, Tries, TriesPart}

-- the rule in other words
pub by_rule : {A B : Type 0} (t : B → A) (f g : List Word → Option (A × List Word)) (c n : At) (r : Result B Stop)
    → ((ws : List Word) → f ws ≡ g ws) → ReadsAs t g c r n → ReadsAs t f c r n
by_rule t f g c n r e h o l = let p = h o l in (p.0, subst (λ x. GivesAs t x r (ahead n o)) (sym (e (ahead c o))) p.1)

-- what is made of what was read, without a further word
pub made : {A B : Type 0} (t : B → A) (f : List Word → Option (A × List Word)) (c : At) (r : Result B Stop) → MakesAs t f r → ReadsAs t f c r c
made t f c r h o l = (l, h (ahead c o))

-- words that stood there, or did not
pub on_word : {A B : Type 0} (t : B → A) (k : List Word → Option (List Word)) (f g : List Word → Option (A × List Word)) (c m n : At) (r : Result B Stop)
    → Tries k c true m → ReadsAs t f m r n → ReadsAs t (λ ws. if_some (k ws) f (g ws)) c r n
on_word t k f g c m n r a h o l =
    let p = h o l in
    let q = a o p.0 in
    (q.0, subst (λ x. GivesAs t (if_some x f (g (ahead c o))) r (ahead n o)) (sym q.1) p.1)

pub on_other : {A B : Type 0} (t : B → A) (k : List Word → Option (List Word)) (f g : List Word → Option (A × List Word)) (c m n : At) (r : Result B Stop)
    → Tries k c false m → ReadsAs t g m r n → ReadsAs t (λ ws. if_some (k ws) f (g ws)) c r n
on_other t k f g c m n r a h o l =
    let p = h o l in
    let q = a o p.0 in
    (q.0, subst (λ x. GivesAs t (if_some x f (g (ahead c o))) r (ahead n o)) (sym q.1.0) (subst (λ x. GivesAs t (g x) r (ahead n o)) q.1.1 p.1))

-- a part that stood there, or did not
pub on_part : {A B C : Type 0} (t : B → A) (k : List Word → Option (C × List Word)) (f : C × List Word → Option (A × List Word)) (g : List Word → Option (A × List Word))
    (c m n : At) (x : C) (r : Result B Stop)
    → TriesPart k c (Some x) m → ReadsAs t (λ ws. f (x, ws)) m r n → ReadsAs t (λ ws. if_some (k ws) f (g ws)) c r n
on_part t k f g c m n x r a h o l =
    let p = h o l in
    let q = a o p.0 in
    (q.0, subst (λ y. GivesAs t (if_some y f (g (ahead c o))) r (ahead n o)) (sym q.1) p.1)

pub on_no_part : {A B C : Type 0} (t : B → A) (k : List Word → Option (C × List Word)) (f : C × List Word → Option (A × List Word)) (g : List Word → Option (A × List Word))
    (c m n : At) (r : Result B Stop)
    → TriesPart k c None m → ReadsAs t g m r n → ReadsAs t (λ ws. if_some (k ws) f (g ws)) c r n
on_no_part t k f g c m n r a h o l =
    let p = h o l in
    let q = a o p.0 in
    (q.0, subst (λ y. GivesAs t (if_some y f (g (ahead c o))) r (ahead n o)) (sym q.1.0) (subst (λ y. GivesAs t (g y) r (ahead n o)) q.1.1 p.1))

-- one part, and then another; or the first stops
pub then_reads : {A B C D : Type 0} (s : D → C) (t : B → A) (a : List Word → Option (C × List Word)) (b : C → List Word → Option (A × List Word))
    (c m n : At) (x : D) (r : Result B Stop)
    → ReadsAs s a c (Ok x) m → ReadsAs t (b (s x)) m r n → ReadsAs t (λ ws. then_read (a ws) b) c r n
then_reads s t a b c m n x r g h o l =
    let p = h o l in
    let q = g o p.0 in
    (q.0, subst (λ y. GivesAs t (then_read y b) r (ahead n o)) (sym q.1) p.1)

pub then_stops : {A B C D : Type 0} (s : D → C) (t : B → A) (a : List Word → Option (C × List Word)) (b : C → List Word → Option (A × List Word))
    (c n : At) (e : Stop)
    → ReadsAs s a c (Err e) n → ReadsAs t (λ ws. then_read (a ws) b) c (Err e) n
then_stops s t a b c n NoMatch g o l = let q = g o l in (q.0, ap (λ y. then_read y b) q.1)
then_stops s t a b c n TooDeep g o l = let q = g o l in (q.0, ap (λ y. then_read y b) q.1)
then_stops s t a b c n NoMemory g o l = let q = g o l in (q.0, tt)

-- ---- what stops

abbrev pub StopsAt : {A : Type 0} → Stop → Option A → Type 0
StopsAt NoMatch found = found ≡ None
StopsAt TooDeep found = found ≡ None
StopsAt NoMemory found = Unit {0}

pub stopped : {A B : Type 0} (seen : B → A) (e : Stop) (found : Option (A × List Word)) (rest : List Word) → GivesAs seen found (Err e) rest → StopsAt e found
stopped seen NoMatch found rest h = h
stopped seen TooDeep found rest h = h
stopped seen NoMemory found rest h = tt

pub stops : {A B : Type 0} (seen : B → A) (e : Stop) (found : Option (A × List Word)) (rest : List Word) → StopsAt e found → GivesAs seen found (Err e) rest
stops seen NoMatch found rest h = h
stops seen TooDeep found rest h = h
stops seen NoMemory found rest h = tt

-- where nothing is found of a part, nothing is found of the whole
pub stop_in : {A B : Type 0} (e : Stop) (part : Option A) (whole : Option B) → (part ≡ None → whole ≡ None) → StopsAt e part → StopsAt e whole
stop_in NoMatch part whole f h = f h
stop_in TooDeep part whole f h = f h
stop_in NoMemory part whole f h = tt

-- the stop of a part is told on
pub told : {A B : Type 0} (seen : B → A) (r : Result B Stop) (e : Stop) (found : Option (A × List Word)) (rest : List Word)
    → IsErr r × IsErrAnd r (λ y. y ≡ e) → StopsAt e found → GivesAs seen found r rest
told seen (Ok b) e found rest h s = absurd h.1
told seen (Err y) e found rest h s = subst (λ z. GivesAs seen found (Err z) rest) (sym h.1) (stops seen e found rest s)

-- one part, which stops, and the stop is told on
pub then_told : {A B C D : Type 0} (s : D → C) (t : B → A) (a : List Word → Option (C × List Word)) (b : C → List Word → Option (A × List Word))
    (c n : At) (r : Result B Stop) (e : Stop)
    → ReadsAs s a c (Err e) n → IsErr r × IsErrAnd r (λ y. y ≡ e) → ReadsAs t (λ ws. then_read (a ws) b) c r n
then_told s t a b c n r e g i o l =
    let q = g o l in (
      q.0,
      told t r e (then_read (a (ahead c o)) b) (ahead n o) i
          (stop_in e (a (ahead c o)) (then_read (a (ahead c o)) b) (λ x. ap (λ y. then_read y b) x) (stopped s e (a (ahead c o)) (ahead n o) q.1)),
    )

-- what is made without a further word, and its stop told on
pub makes_told : {A B C D : Type 0} (s : D → C) (t : B → A) (a : List Word → Option (C × List Word)) (b : C → List Word → Option (A × List Word))
    (c : At) (r : Result B Stop) (e : Stop)
    → MakesAs s a (Err e) → IsErr r × IsErrAnd r (λ y. y ≡ e) → ReadsAs t (λ ws. then_read (a ws) b) c r c
makes_told s t a b c r e g i = then_told s t a b c c r e (made s a c (Err e) g) i

-- where the rest is known to stop
pub always : {A B : Type 0} (t : B → A) (f : List Word → Option (A × List Word)) (c : At) (r : Result B Stop) → ((ws : List Word) → GivesAs t (f ws) r ws) → ReadsAs t f c r c
always t f c r h o l = (l, h (ahead c o))

-- words that had to stand there
pub on_expected : {A B : Type 0} (t : B → A) (k : List Word → Option (List Word)) (f : List Word → Option (A × List Word)) (c m n : At) (u : Unit {0}) (r : Result B Stop)
    → Expects k c (Ok u) m → ReadsAs t f m r n → ReadsAs t (λ ws. if_some (k ws) f None) c r n
on_expected t k f c m n u r a h o l =
    let p = h o l in
    let q = a o p.0 in
    (q.0, subst (λ x. GivesAs t (if_some x f None) r (ahead n o)) (sym q.1) p.1)

pub not_there : {A : Type 0} (e : Stop) (found : Option A) → found ≡ None → StopsAt e found
not_there NoMatch found h = h
not_there TooDeep found h = h
not_there NoMemory found h = tt

pub expected_told : {A B : Type 0} (t : B → A) (k : List Word → Option (List Word)) (f : List Word → Option (A × List Word)) (c n : At) (r : Result B Stop) (e : Stop)
    → Expects k c (Err e) n → IsErr r × IsErrAnd r (λ y. y ≡ e) → ReadsAs t (λ ws. if_some (k ws) f None) c r n
expected_told t k f c n r e g i o l =
    let q = g o l in
    (q.0, told t r e (if_some (k (ahead c o)) f None) (ahead n o) i (not_there e (if_some (k (ahead c o)) f None) (ap (λ y. if_some y f None) q.1)))

-- ---- by one chain of equations: a word isn't there, or a part stops

pub word_told : {A B : Type 0} (t : B → A) (r : Result B Stop) (e : Stop) (whole : Option (A × List Word)) (rest : List Word)
    → IsErr r × IsErrAnd r (λ y. y ≡ e) → whole ≡ None → GivesAs t whole r rest
word_told t r e whole rest i n = told t r e whole rest i (not_there e whole n)

pub part_told : {A B C D : Type 0} (s : D → C) (t : B → A) (r : Result B Stop) (e : Stop) (part : Option (C × List Word)) (whole : Option (A × List Word)) (middle rest : List Word)
    → IsErr r × IsErrAnd r (λ y. y ≡ e) → GivesAs s part (Err e) middle → (part ≡ None → whole ≡ None) → GivesAs t whole r rest
part_told s t r e part whole middle rest i g f = told t r e whole rest i (stop_in e part whole f (stopped s e part middle g))
