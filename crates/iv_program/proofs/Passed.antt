-- What clap's value parsers have checked of the texts that matches give.
use Rattle.std.proofs.Common.{◌≡◌, ◌<◌, ◌≤◌, ◌==◌, ◌∙◌, ℕ, Bool, true, false, cond, List, [], ◌∷◌, length, Option, Some, None, All, arith, inl, inr, refl, sym, ap, subst, unwrap_or, pos, codes, map}
use Rattle.std.specs.Borrow.{Bor}
use Rattle.std.specs.List.{slice_index_or}
use Rattle.std.specs.Prelude.{option_map, slice_get}
use Rattle.std.specs.Str.{bytes_eq}
use Rattle.std.proofs.lemmas.Bool.{cases_lt}
use Rattle.std.proofs.lemmas.Int.{ints}
use Rattle.std.proofs.lemmas.List.{get_or-map, length-map}
use Rattle.std.proofs.lemmas.Slice.Eq.{bytes_eq-Decides}
use Rattle.clap.specs.Built.{BuildsTo, IsAuto, SameRules}
use Rattle.clap.specs.Facts.{Entry, EntryPasses, HasReading, PassesArg, ValuesPass, args_of, groups_of, parser_of, parser_of_value}
use Rattle.clap.specs.Matches.{matched_of, one_text}
use Rattle.clap.specs.Values.{Accepts, IsSignedIn, read_as, reading_of}
use Rattle.clap.specs.Walk.{Rule, Text, rule_of}
use Rattle.clap.specs.Lexer.{without_minus}
use Rattle.clap.specs.declared.builder.arg.Arg.{Arg}
use Rattle.clap.specs.declared.builder.command.Command.{Command}
use Rattle.clap.specs.declared.builder.value_parser.Reading.{Reading}
use Rattle.clap.specs.declared.builder.value_parser.Reading.TheVariants as reading
use Rattle.clap.specs.declared.builder.value_parser.ValueParser.{ValueParser}
use Rattle.clap.specs.declared.builder.value_parser.ValueParser.TheVariants as parser
use Rattle.clap.specs.declared.parser.matches.Found.{Found}
use Rattle.clap.specs.declared.parser.matches.MatchedArg.{MatchedArg}
use Rattle.clap.proofs.CallerLemmas.{entry_by_id}
use Rattle.iv_program.specs.Ranges.{WritesWithin}

-- a text that passed a range of numbers above zero writes a number in it
written : (low high : ℕ) (t : Text) → 1 ≤ low → IsSignedIn (pos low) (pos high) t → WritesWithin low high (Some (without_minus t))
written low high [] least passed = absurd (omega (arith, passed.0.0))
written low high (x ∷ xs) least passed = go (x == 45) refl where
  go : (b : Bool) → (x == 45) ≡ b → WritesWithin low high (Some (unwrap_or (cond (x == 45) (Some xs) None) (x ∷ xs)))
  go true minus =
      let low_ok = rw minus at passed.2 in
      absurd (omega (arith, ints))
  go false minus =
      let numeral = rw minus at passed.0 in
      let low_ok = rw minus at passed.2 in
      let high_ok = rw minus at passed.3 in
      rw minus (numeral, omega (arith, ints), omega (arith, ints))

-- each argument of this id has this parser
abbrev pub HasOnly : Command → Text → ValueParser → Type 0
HasOnly c id q = (j : ℕ) (a : Arg) → j < length (args_of c) → slice_index_or (args_of c) j a ≡ a → bytes_eq a.id.now id ≡ true → parser_of a ≡ q

-- the first of the values of an argument whose parser is a range of numbers
first_written : (c : Command) (id : Text) (low high : ℕ) → 1 ≤ low → HasOnly c id (parser.Signed (pos low) (pos high))
    → (vs : List (Bor Text)) → All (λ v. PassesArg c id v.now) vs
    → WritesWithin low high (option_map (λ s. read_as reading.WithoutMinus s.now) (slice_get vs 0))
first_written c id low high least only [] all = tt
first_written c id low high least only (v ∷ vs) all =
    let p = all 0 v (omega arith) in
    let is = only p.0 p.1 p.2 p.3 p.4.0 in
    written low high v.now least (subst (λ (q : ValueParser). Accepts p.1.ignore_case q v.now) is p.4.1)

-- the first value of an entry
entry_written : (c : Command) (id : Text) (low high : ℕ) → 1 ≤ low → HasOnly c id (parser.Signed (pos low) (pos high))
    → groups_of c ≡ [] → (id ≡ [] → ⊥)
    → (x : MatchedArg) (e : Entry) → e.1 ≡ x → e.0.now ≡ id → EntryPasses c e
    → WritesWithin low high (option_map (λ s. read_as x.reading s.now) (slice_get x.vals.items 0))
entry_written c id low high least only no_groups named x e same key pass =
    let no_group : e.1.is_group ≡ true → ⊥ = λ g. elim (pass.3 g) [
      | inl empty ↦ named (sym key ∙ empty)
      | inr lots ↦
          let bad : 0 < 0 = rw no_groups at lots in
          absurd (omega arith)
    ] in
    let all : All (λ v. PassesArg c id v.now) x.vals.items = elim pass.0 [
      | inl g ↦ absurd (no_group g)
      | inr vals ↦ subst (λ (w : Text). All (λ v. PassesArg c w v.now) x.vals.items) key (rw same at vals)
    ] in
    let is : e.1.reading ≡ reading.WithoutMinus = elim pass.4 [
      | inl g ↦ absurd (no_group g)
      | inr h ↦
          let any = subst (λ (w : Text). HasReading c w e.1.reading) key h in
          sym any.4.1 ∙ ap reading_of (only any.0 any.1 any.2 any.3 any.4.0)
    ] in
    let read : x.reading ≡ reading.WithoutMinus = ap (λ (y : MatchedArg). y.reading) (sym same) ∙ is in
    subst (λ (r : Reading). WritesWithin low high (option_map (λ s. read_as r s.now) (slice_get x.vals.items 0))) (sym read)
    (first_written c id low high least only x.vals.items all)

-- the text that is read of an id, where each argument of this id has a range of numbers above zero
pub text_written : (c : Command) (f : Found) (id : Text) (low high : ℕ) → 1 ≤ low → HasOnly c id (parser.Signed (pos low) (pos high))
    → groups_of c ≡ [] → (id ≡ [] → ⊥) → ValuesPass c f
    → WritesWithin low high (one_text f id)
text_written c f id low high least only no_groups named values = go (matched_of f id) refl where
  go : (o : Option MatchedArg) → matched_of f id ≡ o → WritesWithin low high (one_text f id)
  go None e = rw e tt
  go (Some x) e =
      let got = entry_by_id (EntryPasses c) f.entries.items id x values e in
      rw e (entry_written c id low high least only no_groups named x got.0 got.1 ((bytes_eq-Decides got.0.0.now id).0 got.2) got.3)

-- building keeps the parsers of the arguments that the caller gave, and adds none of another id than its own two
pub only_built : (old new : Command) (id : Text) (q : ValueParser) → BuildsTo old new
    → All (λ (r : Rule). bytes_eq r.id id ≡ true → r.parser ≡ Some q) (map rule_of (args_of old))
    → bytes_eq (codes "help") id ≡ false → bytes_eq (codes "version") id ≡ false
    → HasOnly new id q
only_built old new id q from rules no_help no_version j a high at same = elim (cases_lt j (length (args_of old))) [
  | inl under ↦
      let s = subst (λ (w : Arg). SameRules (slice_index_or (args_of old) j a) w) at (from.kept j a under).1 in
      let place = get_or-map rule_of (args_of old) j a (rule_of a) under in
      let rule = subst (λ (r : Rule). bytes_eq r.id id ≡ true → r.parser ≡ Some q) place (rules j (rule_of a) (omega (arith, length-map (args_of old) rule_of))) in
      let old_same : bytes_eq (slice_index_or (args_of old) j a).id.now id ≡ true = rw (← s.id) same in
      ap parser_of_value (s.parser q (rule old_same))
  | inr over ↦
      let flag = subst IsAuto at (from.extra j a over high) in
      elim flag [
        | inl h ↦
            let bad : bytes_eq (codes "help") id ≡ true = subst (λ (t : Text). bytes_eq t id ≡ true) h same in
            cc
        | inr h ↦
            let bad : bytes_eq (codes "version") id ≡ true = subst (λ (t : Text). bytes_eq t id ≡ true) h same in
            cc
      ]
]
