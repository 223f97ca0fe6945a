-- One part of a series more.
use Rattle.std.proofs.Common.{◌≡◌, ℕ, Bool, if◌then◌else◌, zero, suc, ◌-◌, ◌<◌, ◌≤◌, true, false, Option, Some, None, List, [], ◌∷◌, ◌++◌, length, take, drop, Result, Ok, Err, refl, sym, ◌∙◌, ap, subst, arith, append_assoc, append-nil, length-drop}
use Rattle.std.proofs.lemmas.Option.{none-some, same_Some}
use Rattle.std.specs.Result.{IsErr, IsErrAnd}
use Rattle.iv_lex.specs.declared.kind.TokenKind.{TokenKind}
use Rattle.iv_lex.specs.declared.kind.TokenKind.TheVariants as kind
use Rattle.iv_lex.specs.Words.{Word}
use Rattle.iv_parse_terms.specs.After.{after, is_word, if_some, then_read}
use Rattle.iv_parse_terms.specs.declared.stop.Stop.{Stop}
use Rattle.iv_parse_terms.specs.Reading.{At, Other, Like, ahead, GivesAs, Reads, Tries}
use Rattle.iv_parse_terms.proofs.Rules.{told, stop_in, stopped}
use Rattle.iv_parse_data.specs.readers.Series.{read_more, read_series, read_sequence, read_all, with_first}

-- ---- the place rises, and what is left gets less

shorter_by : (b : Bool) (ws rest : List Word) (w : Word) → (if b then Some ws else None) ≡ Some rest → length rest < length (w ∷ ws)
shorter_by true ws rest w h = let e = ap length (same_Some ws rest h) in omega (arith, e)
shorter_by false ws rest w h = absurd (none-some rest h)

pub after_shorter : (k : TokenKind) (ws rest : List Word) → after k ws ≡ Some rest → length rest < length ws
after_shorter k [] rest h = absurd (none-some rest h)
after_shorter k (w ∷ ws) rest h = shorter_by (is_word k w) ws rest w h

left_less : (p q : ℕ) (ws : List Word) → p ≤ q → length (drop q ws) ≤ length (drop p ws)
left_less p q ws h = let e = length-drop p ws in let f = length-drop q ws in omega (arith, h, e, f)

module _ {A : Type 0} where
  pub rises : (rule : List Word → Option (A × List Word)) (c n : At) (r : Result A Stop) → Reads rule c r n → (o : Other) → Like n o → c.place ≤ n.place
  rises rule c n r h o l =
      let p = h (record { words = o.words; all = o.all; most = n.place }) (record { own = l.own; same = l.same; within = omega arith }) in
      p.0.within

  -- a word and a part take words
  pub fewer : (rule : List Word → Option (A × List Word)) (c m n : At) (k : TokenKind) (r : Result A Stop) → Tries (after k) c true m → Reads rule m r n
      → length n.words - n.place < length c.words - c.place
  fewer rule c m n k r a h =
      let mine : Other = record { words = n.words; all = n.words; most = n.place } in
      let own : Like n mine = record { own = refl; same = refl; within = omega arith } in
      let up = rises rule m n r h mine own in
      let q = a mine (h mine own).0 in
      let s = after_shorter k (drop c.place n.words) (drop m.place n.words) q.1 in
      let e = length-drop c.place n.words in
      let f = length-drop m.place n.words in
      let g = ap length q.0.own in
      omega (arith, up, s, e, f, g)

  -- these parts before those that were found
  abbrev pub preceded : List A → Option (List A × List Word) → Option (List A × List Word)
  preceded items None = None
  preceded items (Some p) = Some (items ++ p.0, p.1)

  -- these are the first parts of all that is found, and the words that are left have the others
  pub record Rest (part : List Word → Option (A × List Word)) (items : List A) (ws : List Word) (whole : Option (List A × List Word)) : Type 0 where
    pub most : ℕ
    pub enough : length ws ≤ most
    pub is : preceded items (read_more part most ws) ≡ whole

  -- so it is in words that are like these
  abbrev pub Along : (List Word → Option (A × List Word)) → At → List A → At → Type 0
  Along part start items c = (o : Other) → Like c o → Like start o × Rest part items (ahead c o) (read_series part (ahead start o))

  first_preceded : (a : A) (o : Option (List A × List Word)) → preceded (a ∷ []) o ≡ then_read o (with_first a)
  first_preceded a None = refl
  first_preceded a (Some p) = refl

  next_preceded : (items : List A) (a : A) (o : Option (List A × List Word)) → preceded (items ++ a ∷ []) o ≡ preceded items (then_read o (with_first a))
  next_preceded items a None = refl
  next_preceded items a (Some p) = ap (λ z. Some (z, p.1)) (append_assoc items (a ∷ []) p.0)

  pub begun : (part : List Word → Option (A × List Word)) (start c : At) (a : A) (old items : List A) → old ≡ [] → items ≡ old ++ a ∷ []
      → Reads part start (Ok a) c → Along part start items c
  unfolding read_series
  begun part start c a old items d e h o l =
      let p = h o l in
      let rest = ahead c o in (
        p.0,
        record {
          most = length rest;
          enough = omega arith;
          is = ap (λ i. preceded i (read_more part (length rest) rest)) (e ∙ ap (λ i. i ++ a ∷ []) d)
              ∙ (first_preceded a (read_more part (length rest) rest) ∙ ap (λ r. then_read r (λ b more. then_read (read_more part (length more) more) (with_first b))) (sym p.1));
        },
      )

  rest_more : (part : List Word → Option (A × List Word)) (items : List A) (a : A) (ws inner left : List Word) (whole : Option (List A × List Word)) (n : ℕ)
      → length ws ≤ n → preceded items (read_more part n ws) ≡ whole → after kind.Comma ws ≡ Some inner → part inner ≡ Some (a, left) → length left ≤ length inner → Rest part (items ++ a ∷ []) left whole
  rest_more part items a ws inner left whole zero l e h g f =
      let s = after_shorter kind.Comma ws inner h in absurd (omega (arith, s, l))
  rest_more part items a ws inner left whole (suc n) l e h g f =
      let s = after_shorter kind.Comma ws inner h in
      record {
        most = n;
        enough = omega (arith, s, l, f);
        is = next_preceded items a (read_more part n left)
            ∙ (ap (λ r. preceded items (then_read r (λ b others. then_read (read_more part n others) (with_first b)))) (sym g)
            ∙ (ap (λ r. preceded items (if_some r (λ others. then_read (part others) (λ b more. then_read (read_more part n more) (with_first b))) (Some ([], ws)))) (sym h)
            ∙ e));
      }

  pub next : (part : List Word → Option (A × List Word)) (start c m n : At) (a : A) (items more : List A) → Along part start items c
      → Tries (after kind.Comma) c true m → Reads part m (Ok a) n → more ≡ items ++ a ∷ [] → Along part start more n
  next part start c m n a items more along comma h e o l =
      let p = h o l in
      let q = comma o p.0 in
      let s = along o q.0 in
      let f = left_less m.place n.place o.words (rises part m n (Ok a) h o l) in (
        s.0,
        subst (λ i. Rest part i (ahead n o) (read_series part (ahead start o))) (sym e)
            (rest_more part items a (ahead c o) (ahead m o) (ahead n o) (read_series part (ahead start o)) s.1.most s.1.enough s.1.is q.1 p.1 f),
      )

  rest_end : (part : List Word → Option (A × List Word)) (items : List A) (ws : List Word) (whole : Option (List A × List Word)) (n : ℕ)
      → preceded items (read_more part n ws) ≡ whole → after kind.Comma ws ≡ None → whole ≡ Some (items, ws)
  rest_end part items ws whole zero e h =
      sym e ∙ (ap (λ r. preceded items (if_some r (λ rest. None) (Some ([], ws)))) h ∙ ap (λ z. Some (z, ws)) (append-nil items))
  rest_end part items ws whole (suc n) e h =
      sym e ∙ (ap (λ r. preceded items (if_some r (λ rest. then_read (part rest) (λ a others. then_read (read_more part n others) (with_first a))) (Some ([], ws)))) h
      ∙ ap (λ z. Some (z, ws)) (append-nil items))

  pub ended : (part : List Word → Option (A × List Word)) (start c n : At) (items : List A) → Along part start items c
      → Tries (after kind.Comma) c false n → Reads (read_series part) start (Ok items) n
  ended part start c n items along comma o l =
      let q = comma o l in
      let s = along o q.0 in
      (s.0, rest_end part items (ahead c o) (read_series part (ahead start o)) s.1.most s.1.is q.1.0 ∙ ap (λ w. Some (items, w)) (sym q.1.1))

  rest_none : (part : List Word → Option (A × List Word)) (items : List A) (ws inner : List Word) (whole : Option (List A × List Word)) (n : ℕ)
      → preceded items (read_more part n ws) ≡ whole → after kind.Comma ws ≡ Some inner → part inner ≡ None → whole ≡ None
  rest_none part items ws inner whole zero e h g = sym e ∙ ap (λ r. preceded items (if_some r (λ rest. None) (Some ([], ws)))) h
  rest_none part items ws inner whole (suc n) e h g =
      sym e ∙ (ap (λ r. preceded items (if_some r (λ rest. then_read (part rest) (λ a others. then_read (read_more part n others) (with_first a))) (Some ([], ws)))) h
      ∙ ap (λ r. preceded items (then_read r (λ a others. then_read (read_more part n others) (with_first a)))) g)

  pub series_told : (part : List Word → Option (A × List Word)) (start c m n : At) (items : List A) (r : Result (List A) Stop) (e : Stop) → Along part start items c
      → Tries (after kind.Comma) c true m → Reads part m (Err e) n → IsErr r × IsErrAnd r (λ y. y ≡ e) → Reads (read_series part) start r n
  series_told part start c m n items r e along comma h i o l =
      let p = h o l in
      let q = comma o p.0 in
      let s = along o q.0 in (
        s.0,
        told (λ x. x) r e (read_series part (ahead start o)) (ahead n o) i
            (stop_in e (part (ahead m o)) (read_series part (ahead start o)) (rest_none part items (ahead c o) (ahead m o) (read_series part (ahead start o)) s.1.most s.1.is q.1)
            (stopped (λ x. x) e (part (ahead m o)) (ahead n o) p.1)),
      )

  -- ---- parts one after the other

  -- these are the first parts of all that is found, and the words that are left have the others
  pub record Others (part : List Word → Option (Option A × List Word)) (items : List A) (ws : List Word) (whole : Option (List A × List Word)) : Type 0 where
    pub most : ℕ
    pub enough : length ws ≤ most
    pub is : preceded items (read_sequence part most ws) ≡ whole

  abbrev pub Amid : (List Word → Option (Option A × List Word)) → At → List A → At → Type 0
  Amid part start items c = (o : Other) → Like c o → Like start o × Others part items (ahead c o) (read_all part (ahead start o))

  abbrev pub Takes : (List Word → Option (Option A × List Word)) → Type 0
  Takes part = (ws rest : List Word) (a : A) → part ws ≡ Some (Some a, rest) → length rest < length ws

  all_preceded : (o : Option (List A × List Word)) → preceded [] o ≡ o
  all_preceded None = refl
  all_preceded (Some p) = refl

  pub amid_start : (part : List Word → Option (Option A × List Word)) (start : At) (items : List A) → items ≡ [] → Amid part start items start
  unfolding read_all
  amid_start part start items e o l = (
    l,
    record {
      most = length (ahead start o);
      enough = omega arith;
      is = ap (λ i. preceded i (read_all part (ahead start o))) e ∙ all_preceded (read_all part (ahead start o));
    },
  )

  others_none : (part : List Word → Option (Option A × List Word)) (items : List A) (ws : List Word) (whole : Option (List A × List Word)) (n : ℕ)
      → preceded items (read_sequence part n ws) ≡ whole → part ws ≡ None → whole ≡ None
  others_none part items ws whole zero e h = sym e ∙ ap (λ r. preceded items (then_read r (λ o rest. if_some o (λ a. None) (Some ([], ws))))) h
  others_none part items ws whole (suc n) e h =
      sym e ∙ ap (λ r. preceded items (then_read r (λ o rest. if_some o (λ a. then_read (read_sequence part n rest) (with_first a)) (Some ([], ws))))) h

  pub amid_told : (part : List Word → Option (Option A × List Word)) (start c n : At) (items : List A) (r : Result (List A) Stop) (e : Stop) → Amid part start items c
      → Reads part c (Err e) n → IsErr r × IsErrAnd r (λ y. y ≡ e) → Reads (read_all part) start r n
  amid_told part start c n items r e amid h i o l =
      let p = h o l in
      let s = amid o p.0 in (
        s.0,
        told (λ x. x) r e (read_all part (ahead start o)) (ahead n o) i
            (stop_in e (part (ahead c o)) (read_all part (ahead start o)) (others_none part items (ahead c o) (read_all part (ahead start o)) s.1.most s.1.is)
            (stopped (λ x. x) e (part (ahead c o)) (ahead n o) p.1)),
      )

  others_end : (part : List Word → Option (Option A × List Word)) (items : List A) (ws rest : List Word) (whole : Option (List A × List Word)) (n : ℕ)
      → preceded items (read_sequence part n ws) ≡ whole → part ws ≡ Some (None, rest) → whole ≡ Some (items, ws)
  others_end part items ws rest whole zero e h =
      sym e ∙ (ap (λ r. preceded items (then_read r (λ o rest. if_some o (λ a. None) (Some ([], ws))))) h ∙ ap (λ z. Some (z, ws)) (append-nil items))
  others_end part items ws rest whole (suc n) e h =
      sym e ∙ (ap (λ r. preceded items (then_read r (λ o rest. if_some o (λ a. then_read (read_sequence part n rest) (with_first a)) (Some ([], ws))))) h ∙ ap (λ z. Some (z, ws)) (append-nil items))

  -- no further part begins: back at its place
  pub amid_end : (part : List Word → Option (Option A × List Word)) (start c n m : At) (items : List A) (p : ℕ) → Amid part start items c
      → Reads part c (Ok None) n → p ≡ c.place → m ≡ record { words = n.words; place = p; furthest = n.furthest } → Reads (read_all part) start (Ok items) m
  amid_end part start c n m items p amid h e f o l =
      let place = ap (λ (x : At). x.place) f ∙ e in
      let wide : Other = record { words = o.words; all = o.all; most = n.place } in
      let same = subst (λ (x : At). take (suc x.furthest) o.words ≡ take (suc x.furthest) o.all) f l.same in
      let q = h wide (record { own = sym (ap (λ (x : At). x.words) f) ∙ l.own; same = same; within = omega arith }) in
      let here : Like c o = record { own = q.0.own; same = q.0.same; within = subst (λ x. x ≤ o.most) place l.within } in
      let s = amid o here in
      (s.0, others_end part items (ahead c o) (ahead n o) (read_all part (ahead start o)) s.1.most s.1.is q.1 ∙ ap (λ x. Some (items, drop x o.words)) (sym place))

  others_more : (part : List Word → Option (Option A × List Word)) (items : List A) (a : A) (ws left : List Word) (whole : Option (List A × List Word)) (n : ℕ)
      → length ws ≤ n → preceded items (read_sequence part n ws) ≡ whole → part ws ≡ Some (Some a, left) → length left < length ws → Others part (items ++ a ∷ []) left whole
  others_more part items a ws left whole zero l e h f = absurd (omega (arith, l, f))
  others_more part items a ws left whole (suc n) l e h f = record {
    most = n;
    enough = omega (arith, l, f);
    is = next_preceded items a (read_sequence part n left)
        ∙ (ap (λ r. preceded items (then_read r (λ o rest. if_some o (λ b. then_read (read_sequence part n rest) (with_first b)) (Some ([], ws))))) (sym h) ∙ e);
  }

  pub amid_next : (part : List Word → Option (Option A × List Word)) (start c n : At) (a : A) (items more : List A) → Takes part → Amid part start items c
      → Reads part c (Ok (Some a)) n → more ≡ items ++ a ∷ [] → Amid part start more n
  amid_next part start c n a items more takes amid h e o l =
      let p = h o l in
      let s = amid o p.0 in (
        s.0,
        subst (λ i. Others part i (ahead n o) (read_all part (ahead start o))) (sym e)
            (others_more part items a (ahead c o) (ahead n o) (read_all part (ahead start o)) s.1.most s.1.enough s.1.is p.1 (takes (ahead c o) (ahead n o) a p.1)),
      )

  -- a part takes words
  pub amid_fewer : (part : List Word → Option (Option A × List Word)) (c n : At) (a : A) → Takes part → Reads part c (Ok (Some a)) n → length n.words - n.place < length c.words - c.place
  amid_fewer part c n a takes h =
      let mine : Other = record { words = n.words; all = n.words; most = n.place } in
      let own : Like n mine = record { own = refl; same = refl; within = omega arith } in
      let p = h mine own in
      let s = takes (drop c.place n.words) (drop n.place n.words) a p.1 in
      let e = length-drop c.place n.words in
      let f = length-drop n.place n.words in
      let g = ap length p.0.own in
      omega (arith, s, e, f, g)
