-- Constraints with more behind them.
use Rattle.std.proofs.Common.{◌≡◌, refl, ℕ, zero, suc, ◌+◌, ◌<◌, ◌≤◌, List, [], ◌∷◌, ◌++◌, length, map, filter_map, slice_get, get_or, take, option_map, Option, Some, None, sym, ap, subst, ◌∙◌, arith, Bool, true, ◌&&◌, ◌||◌}
use Rattle.std.specs.List.{cons_option, enumerate_from, list_all, list_any}
use Rattle.std.proofs.lemmas.List.Folds.{list_all-append, list_any-append}
use Rattle.std.proofs.lemmas.List.{map-append, take_all, take_more}
use Rattle.std.proofs.Math.Nat.{suc-ne-zero}
use Rattle.iv_laws_levels.proofs.Keys.{and_first, and_second, false_true}
use Rattle.iv_laws_levels.proofs.RowNumbers.{some_none, some_same}
use Rattle.iv_machine.specs.Databases.{first}
use Rattle.iv_machine.specs.ReferentialActions.{foreign_key}
use Rattle.iv_store.specs.Stores.{has_key, is_named_key}
use Rattle.iv_laws_kept.specs.Kept.{AllNamed, KeyConstraint, named_by, named_key}
use Rattle.iv_laws_kept.proofs.Naming.{named_of}
use Rattle.iv_store_faults.specs.Types.{Constraint, Rule, ForeignKey}
use Rattle.iv_store_faults.specs.Types.rule
use Rattle.iv_store_following.specs.declared.reference.KeyReference.{KeyReference}
use Rattle.iv_store_following.specs.Steps.{is_reference}
use Rattle.iv_store_faults.specs.declared.naming.ReferenceParts.{ReferenceParts}
use Rattle.iv_store_following.specs.References.{AreReferences, IsReference, reference_at}
use Rattle.iv_store_faults.specs.Watch.{AreReferencesOf, FindsKey, IsReferenceOf, as_reference}

-- ---- constraints by their numbers

-- a constraint keeps its number
pub still_at : {A : Type 0} (olds more : List A) (place : ℕ) (x : A) → slice_get olds place ≡ Some x → slice_get (olds ++ more) place ≡ Some x
still_at [] more place x e = absurd (some_none x (sym e))
still_at (y ∷ olds) more zero x e = e
still_at (y ∷ olds) more (suc place) x e = still_at olds more place x e

-- the new ones come behind
pub behind_at : {A : Type 0} (olds more : List A) (place : ℕ) → slice_get (olds ++ more) (length olds + place) ≡ slice_get more place
behind_at [] more place = let none : 0 + place ≡ place = omega arith in ap (slice_get more) none
behind_at (y ∷ olds) more place =
    let one : length (y ∷ olds) + place ≡ suc (length olds + place) = omega arith in
    ap (slice_get (y ∷ olds ++ more)) one ∙ behind_at olds more place

-- ---- the key that a foreign key names

-- the first key that is named, from a number on
abbrev pub first_key : ForeignKey → ℕ → List Constraint → Option KeyConstraint
first_key fk start constraints = first (filter_map (named_by fk) (enumerate_from start constraints))

-- one is named, or the next ones are looked at
abbrev pub or_key : Option KeyConstraint → Option KeyConstraint → Option KeyConstraint
or_key found next = elim found [ Some k ↦ Some k | None ↦ next ]

first_of : (o : Option KeyConstraint) (keys : List KeyConstraint) → first (cons_option o keys) ≡ or_key o (first keys)
first_of None keys = refl
first_of (Some k) keys = refl

or_or : (o next last : Option KeyConstraint) → or_key o (or_key next last) ≡ or_key (or_key o next) last
or_or None next last = refl
or_or (Some k) next last = refl

pub first_more : (fk : ForeignKey) (start : ℕ) (c : Constraint) (rest : List Constraint) → first_key fk start (c ∷ rest) ≡ or_key (named_by fk (start, c)) (first_key fk (start + 1) rest)
first_more fk start c rest = first_of (named_by fk (start, c)) (filter_map (named_by fk) (enumerate_from (start + 1) rest))

pub first_append : (fk : ForeignKey) (start : ℕ) (olds more : List Constraint) → first_key fk start (olds ++ more) ≡ or_key (first_key fk start olds) (first_key fk (start + length olds) more)
first_append fk start [] more = let none : start ≡ start + 0 = omega arith in ap (λ n. first_key fk n more) none
first_append fk start (c ∷ olds) more =
    let next : start + 1 + length olds ≡ start + length (c ∷ olds) = omega arith in
    first_more fk start c (olds ++ more)
    ∙ ap (or_key (named_by fk (start, c))) (first_append fk (start + 1) olds more ∙ ap (λ n. or_key (first_key fk (start + 1) olds) (first_key fk n more)) next)
    ∙ or_or (named_by fk (start, c)) (first_key fk (start + 1) olds) (first_key fk (start + length (c ∷ olds)) more)
    ∙ ap (λ o. or_key o (first_key fk (start + length (c ∷ olds)) more)) (sym (first_more fk start c olds))

-- a named key stays the one that is named
pub still_named : (olds more : List Constraint) (fk : ForeignKey) (k : KeyConstraint) → named_key olds fk ≡ Some k → named_key (olds ++ more) fk ≡ Some k
still_named olds more fk k e = first_append fk 0 olds more ∙ ap (λ o. or_key o (first_key fk (0 + length olds) more)) e

pub still_reference : (olds more : List Constraint) (c : Constraint) (r : KeyReference) → IsReference olds c r → IsReference (olds ++ more) c r
still_reference olds more c r i = record { rule_is = i.rule_is; named = still_named olds more r.key (record { id = r.named; columns = r.named_columns }) i.named; columns = i.columns; back = i.back }

-- if none of the old ones is named, it is among the new ones
pub next_named : (olds more : List Constraint) (fk : ForeignKey) → first_key fk 0 olds ≡ None → named_key (olds ++ more) fk ≡ first_key fk (length olds) more
next_named olds more fk e =
    let none : 0 + length olds ≡ length olds = omega arith in
    first_append fk 0 olds more ∙ ap (λ o. or_key o (first_key fk (0 + length olds) more)) e ∙ ap (λ n. first_key fk n more) none

-- a new foreign key finds the key that it names
pub new_key : (olds more : List Constraint) (place : ℕ) (c : Constraint) → AllNamed (olds ++ more) → slice_get more place ≡ Some c → FindsKey (olds ++ more) c.rule
new_key olds more place c all at fk is = let n = named_of (olds ++ more) (length olds + place) c fk all (behind_at olds more place ∙ at) is in (n.key, n.found)

-- a key that is named among the old constraints is named among all
pub still_has_key : (olds more : List Constraint) (fk : Option ForeignKey) → has_key olds fk ≡ true → has_key (olds ++ more) fk ≡ true
still_has_key olds more None e = refl
still_has_key olds more (Some fk) e = list_any-append (is_named_key fk) olds more ∙ ap (λ b. b || list_any (is_named_key fk) more) e

all_by : {A : Type 0} (p q : A → Bool) → ((x : A) → p x ≡ true → q x ≡ true) → (xs : List A) → list_all p xs ≡ true → list_all q xs ≡ true
all_by p q h [] e = refl
all_by p q h (x ∷ xs) e = ap (λ b. b && list_all q xs) (h x (and_first (p x) (list_all p xs) e)) ∙ all_by p q h xs (and_second (p x) (list_all p xs) e)

-- If the new foreign keys find the keys that they name, all do.
pub named_append : (olds more : List Constraint) → AllNamed olds → list_all (λ c. has_key (olds ++ more) (foreign_key c.rule)) more ≡ true → AllNamed (olds ++ more)
named_append olds more old new =
    list_all-append (λ c. has_key (olds ++ more) (foreign_key c.rule)) olds more
    ∙ ap (λ b. b && list_all (λ c. has_key (olds ++ more) (foreign_key c.rule)) more)
    (all_by (λ c. has_key olds (foreign_key c.rule)) (λ c. has_key (olds ++ more) (foreign_key c.rule)) (λ c. still_has_key olds more (foreign_key c.rule)) olds old)
    ∙ new

-- ---- references

-- one more
references_more : (constraints some : List Constraint) (rs : List (Option KeyReference)) (c : Constraint) (r : Option KeyReference) → AreReferencesOf constraints some rs → IsReferenceOf constraints c.rule r
    → AreReferencesOf constraints (some ++ c ∷ []) (rs ++ r ∷ [])
references_more constraints [] [] c r are is = (is, tt)
references_more constraints [] (o ∷ rs) c r are is = absurd are
references_more constraints (d ∷ some) [] c r are is = absurd are
references_more constraints (d ∷ some) (o ∷ rs) c r are is = (are.0, references_more constraints some rs c r are.1 is)

-- at a step of a loop
pub references_next : (constraints more : List Constraint) (place : ℕ) (c : Constraint) (parts : List (Option ReferenceParts)) (part : Option ReferenceParts) → place < length more → c ≡ get_or more place c
    → AreReferencesOf constraints (take place more) (map (option_map as_reference) parts) → IsReferenceOf constraints c.rule (option_map as_reference part)
    → AreReferencesOf constraints (take (place + 1) more) (map (option_map as_reference) (parts ++ part ∷ []))
references_next constraints more place c parts part inside here are is =
    subst (λ (some : List Constraint). AreReferencesOf constraints some (map (option_map as_reference) (parts ++ part ∷ [])))
    (ap (λ d. take place more ++ d ∷ []) here ∙ sym (take_more more place c inside))
    (subst (λ (rs : List (Option KeyReference)). AreReferencesOf constraints (take place more ++ c ∷ []) rs) (sym (map-append (option_map as_reference) parts (part ∷ [])))
    (references_more constraints (take place more) (map (option_map as_reference) parts) c (option_map as_reference part) are is))

pub references_all : (constraints more : List Constraint) (place : ℕ) (rs : List (Option KeyReference)) → length more ≤ place → AreReferencesOf constraints (take place more) rs → AreReferencesOf constraints more rs
references_all constraints more place rs h are = subst (λ (some : List Constraint). AreReferencesOf constraints some rs) (take_all place more h) are

-- ---- each reference at its place

module _ (constraints : List Constraint) where
  its_reference : (c : Constraint) (k : Rule) (o : Option KeyReference) (r : KeyReference) → c.rule ≡ k → o ≡ Some r → IsReferenceOf constraints k o → IsReference constraints c r
  its_reference c (rule.ForeignKey fk) (Some s) r e f is =
      subst (λ (s : KeyReference). IsReference constraints c s) (sym is.is ∙ some_same s r f) (record { rule_is = e; named = is.found; columns = refl; back = refl })
  its_reference c (rule.ForeignKey fk) None r e f is = absurd is
  its_reference c (rule.NotNull column) o r e f is = absurd (nothing o f is)
    where
      nothing : (o : Option KeyReference) → o ≡ Some r → IsReferenceOf constraints (rule.NotNull column) o → ⊥
      nothing None f is = some_none r (sym f)
      nothing (Some s) f is = is
  its_reference c (rule.Check condition) o r e f is = absurd (nothing o f is)
    where
      nothing : (o : Option KeyReference) → o ≡ Some r → IsReferenceOf constraints (rule.Check condition) o → ⊥
      nothing None f is = some_none r (sym f)
      nothing (Some s) f is = is
  its_reference c (rule.Unique nulls columns) o r e f is = absurd (nothing o f is)
    where
      nothing : (o : Option KeyReference) → o ≡ Some r → IsReferenceOf constraints (rule.Unique nulls columns) o → ⊥
      nothing None f is = some_none r (sym f)
      nothing (Some s) f is = is
  its_reference c (rule.PrimaryKey columns) o r e f is = absurd (nothing o f is)
    where
      nothing : (o : Option KeyReference) → o ≡ Some r → IsReferenceOf constraints (rule.PrimaryKey columns) o → ⊥
      nothing None f is = some_none r (sym f)
      nothing (Some s) f is = is

  has_reference : (k : Rule) (fk : ForeignKey) (o : Option KeyReference) → k ≡ rule.ForeignKey fk → IsReferenceOf constraints k o → (r : KeyReference) × (o ≡ Some r)
  has_reference (rule.ForeignKey gk) fk (Some s) e is = (s, refl)
  has_reference (rule.ForeignKey gk) fk None e is = absurd is
  has_reference (rule.NotNull column) fk o e is = absurd (false_true (ap is_reference e))
  has_reference (rule.Check condition) fk o e is = absurd (false_true (ap is_reference e))
  has_reference (rule.Unique nulls columns) fk o e is = absurd (false_true (ap is_reference e))
  has_reference (rule.PrimaryKey columns) fk o e is = absurd (false_true (ap is_reference e))

  -- the constraints of these references, and the references of these constraints
  abbrev Are : List Constraint → List (Option KeyReference) → Type 0
  Are some rs = (place : ℕ) (r : KeyReference) → reference_at rs place ≡ Some r → (c : Constraint) × (slice_get some place ≡ Some c) × IsReference constraints c r

  abbrev All : List Constraint → List (Option KeyReference) → Type 0
  All some rs = (place : ℕ) (c : Constraint) (fk : ForeignKey) → slice_get some place ≡ Some c → c.rule ≡ rule.ForeignKey fk → (r : KeyReference) × (reference_at rs place ≡ Some r)

  new_are : (some : List Constraint) (rs : List (Option KeyReference)) → AreReferencesOf constraints some rs → Are some rs
  new_are [] [] are place r e = absurd (some_none r (sym e))
  new_are [] (o ∷ rs) are place r e = absurd are
  new_are (c ∷ some) [] are place r e = absurd are
  new_are (c ∷ some) (o ∷ rs) are zero r e = (c, refl, its_reference c c.rule o r refl e are.0)
  new_are (c ∷ some) (o ∷ rs) are (suc place) r e = new_are some rs are.1 place r e

  new_all : (some : List Constraint) (rs : List (Option KeyReference)) → AreReferencesOf constraints some rs → All some rs
  new_all [] [] are place c fk at e = absurd (some_none c (sym at))
  new_all [] (o ∷ rs) are place c fk at e = absurd are
  new_all (d ∷ some) [] are place c fk at e = absurd are
  new_all (d ∷ some) (o ∷ rs) are zero c fk at e = has_reference d.rule fk o (ap (λ (c : Constraint). c.rule) (some_same d c at) ∙ e) are.0
  new_all (d ∷ some) (o ∷ rs) are (suc place) c fk at e = new_all some rs are.1 place c fk at e

  both_are : (olds more : List Constraint) (old rs : List (Option KeyReference)) → length old ≡ length olds → Are olds old → Are more rs → Are (olds ++ more) (old ++ rs)
  both_are [] more [] rs long old_ones next place r e = next place r e
  both_are [] more (o ∷ old) rs long old_ones next place r e = absurd (suc-ne-zero (length old) long)
  both_are (c ∷ olds) more [] rs long old_ones next place r e = absurd (suc-ne-zero (length olds) (sym long))
  both_are (c ∷ olds) more (o ∷ old) rs long old_ones next zero r e = old_ones 0 r e
  both_are (c ∷ olds) more (o ∷ old) rs long old_ones next (suc place) r e = both_are olds more old rs (omega (arith, long)) (λ p. old_ones (suc p)) next place r e

  both_all : (olds more : List Constraint) (old rs : List (Option KeyReference)) → length old ≡ length olds → All olds old → All more rs → All (olds ++ more) (old ++ rs)
  both_all [] more [] rs long old_ones next place d fk at e = next place d fk at e
  both_all [] more (o ∷ old) rs long old_ones next place d fk at e = absurd (suc-ne-zero (length old) long)
  both_all (c ∷ olds) more [] rs long old_ones next place d fk at e = absurd (suc-ne-zero (length olds) (sym long))
  both_all (c ∷ olds) more (o ∷ old) rs long old_ones next zero d fk at e = old_ones 0 d fk at e
  both_all (c ∷ olds) more (o ∷ old) rs long old_ones next (suc place) d fk at e = both_all olds more old rs (omega (arith, long)) (λ p. old_ones (suc p)) next place d fk at e

  same_length : (some : List Constraint) (rs : List (Option KeyReference)) → AreReferencesOf constraints some rs → length rs ≡ length some
  same_length [] [] are = refl
  same_length [] (o ∷ rs) are = absurd are
  same_length (c ∷ some) [] are = absurd are
  same_length (c ∷ some) (o ∷ rs) are = ap suc (same_length some rs are.1)

-- The references of old constraints with those of new ones behind them.
pub references_append : (olds more : List Constraint) (old rs : List (Option KeyReference)) → length old ≡ length olds → AreReferences olds old → AreReferencesOf (olds ++ more) more rs
    → AreReferences (olds ++ more) (old ++ rs)
references_append olds more old rs long right next = record {
  are =
      both_are (olds ++ more) olds more old rs long
      (λ place r e. let f = right.are place r e in (f.0, f.1, still_reference olds more f.0 r f.2)) (new_are (olds ++ more) more rs next);
  all = both_all (olds ++ more) olds more old rs long right.all (new_all (olds ++ more) more rs next);
}

pub references_length : (constraints some : List Constraint) (rs : List (Option KeyReference)) → AreReferencesOf constraints some rs → length rs ≡ length some
references_length constraints some rs are = same_length constraints some rs are
