-- One write after another.
use Rattle.std.proofs.Common.{◌≡◌, ℕ, List, [], ◌∷◌, ◌++◌, Result, Ok, Err, refl, sym, ◌∙◌, ap, append_assoc, append-nil, string_bytes}
use Rattle.std.specs.declared.alloc.AllocError.{AllocError}
use Rattle.iv_lex.specs.Words.{Word}
use Rattle.iv_write.specs.declared.layout.Layout.{Layout}
use Rattle.iv_write.specs.declared.writer.Writer.{Writer}
use Rattle.iv_write.specs.Spelling.{word_text}
use Rattle.iv_write.specs.Layouts.{word_class, gap, ending, after, start, text_from, text_of, layout_from}
use Rattle.iv_write.specs.Writing.{Writes}

-- words after words
pub text_joined : (l : Layout) (ws vs : List Word) → text_from l (ws ++ vs) ≡ text_from l ws ++ text_from (layout_from l ws) vs
text_joined l [] vs = refl
text_joined l (w ∷ ws) vs =
    let m : Layout = after l (word_class w) in
    let a : List ℕ = gap l (word_class w) in
    let b : List ℕ = word_text w in
    let c : List ℕ = ending (word_class w) in
    let d : List ℕ = text_from m ws in
    let e : List ℕ = text_from (layout_from m ws) vs in
    ap (λ z. a ++ (b ++ (c ++ z))) (text_joined m ws vs)
    ∙ ap (λ z. a ++ (b ++ z)) (sym (append_assoc c d e))
    ∙ ap (λ z. a ++ z) (sym (append_assoc b (c ++ d) e))
    ∙ sym (append_assoc a (b ++ (c ++ d)) e)

pub layout_joined : (l : Layout) (ws vs : List Word) → layout_from l (ws ++ vs) ≡ layout_from (layout_from l ws) vs
layout_joined l [] vs = refl
layout_joined l (w ∷ ws) vs = layout_joined (after l (word_class w)) ws vs

pub writes_then : (a b c : Writer) (r : Result (Unit {0}) AllocError) (ws vs : List Word)
    → Writes a b (Ok tt) ws → Writes b c r vs → Writes a c r (ws ++ vs)
writes_then a b c (Ok u) ws vs p q = (
  q.0 ∙ ap (λ z. z ++ text_from b.layout vs) p.0 ∙ append_assoc (string_bytes a.text) (text_from a.layout ws) (text_from b.layout vs)
      ∙ ap (λ z. string_bytes a.text ++ (text_from a.layout ws ++ text_from z vs)) p.1
      ∙ ap (λ z. string_bytes a.text ++ z) (sym (text_joined a.layout ws vs)),
  q.1 ∙ ap (λ z. layout_from z vs) p.1 ∙ sym (layout_joined a.layout ws vs),
)
writes_then a b c (Err e) ws vs p q = tt

pub writes_nothing : (a : Writer) → Writes a a (Ok tt) []
writes_nothing a = (sym (append-nil (string_bytes a.text)), refl)

-- ---- loops

-- what is left to write from now on is all that was to be written from the start
abbrev pub Remains : Writer → Writer → List Word → List Word → Type 0
Remains start now rest all =
    (string_bytes now.text ++ text_from now.layout rest ≡ string_bytes start.text ++ text_from start.layout all)
    × (layout_from now.layout rest ≡ layout_from start.layout all)

pub remains_start : (a : Writer) (ws vs : List Word) → ws ≡ vs → Remains a a ws vs
remains_start a ws vs e = (ap (λ z. string_bytes a.text ++ text_from a.layout z) e, ap (layout_from a.layout) e)

pub remains_step : (a b c : Writer) (xs rest whole all : List Word) → whole ≡ xs ++ rest → Remains a b whole all → Writes b c (Ok tt) xs → Remains a c rest all
remains_step a b c xs rest whole all e h w = (
  ap (λ z. z ++ text_from c.layout rest) w.0 ∙ append_assoc (string_bytes b.text) (text_from b.layout xs) (text_from c.layout rest)
      ∙ ap (λ z. string_bytes b.text ++ (text_from b.layout xs ++ text_from z rest)) w.1
      ∙ ap (λ z. string_bytes b.text ++ z) (sym (text_joined b.layout xs rest) ∙ ap (text_from b.layout) (sym e)) ∙ h.0,
  ap (λ z. layout_from z rest) w.1 ∙ sym (layout_joined b.layout xs rest) ∙ ap (layout_from b.layout) (sym e) ∙ h.1,
)

pub remains_end : (a b : Writer) (whole all : List Word) → whole ≡ [] → Remains a b whole all → Writes a b (Ok tt) all
remains_end a b whole all e h = (
  sym (append-nil (string_bytes b.text)) ∙ ap (λ z. string_bytes b.text ++ text_from b.layout z) (sym e) ∙ h.0,
  ap (layout_from b.layout) (sym e) ∙ h.1,
)

-- the text of a writer that was empty
pub from_start : (a b : Writer) (ws : List Word) (text : List ℕ) → text ≡ string_bytes b.text → string_bytes a.text ≡ [] → a.layout ≡ start
    → Writes a b (Ok tt) ws → text ≡ text_of ws
from_start a b ws text e f g w = e ∙ w.0 ∙ ap (λ z. z ++ text_from a.layout ws) f ∙ ap (λ z. text_from z ws) g
