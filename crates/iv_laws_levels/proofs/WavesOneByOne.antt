-- What is made of waves one after another needs no bound on their number: the waves after one that isn't empty have less of the budget.
use Rattle.std.proofs.Common.{◌≡◌, refl, ℕ, zero, suc, ◌-◌, ◌<◌, ◌≤◌, Bool, true, false, if◌then◌else◌, List, [], ◌∷◌, length, Result, Ok, sym, ◌∙◌, arith}
use Rattle.iv_laws_levels.specs.Types.{Change, Database}
use Rattle.iv_expr.specs.Changes.{Wave}
use Rattle.iv_machine.specs.Databases.{size, database_after}
use Rattle.iv_machine.specs.Context.{Context, Failure}
use Rattle.iv_machine.specs.Waves.{is_empty, AppliedWave, one_wave}
use Rattle.iv_laws_levels.proofs.Settling.{applied_is, size_applied, applied_of_one}

-- what is made of a wave and of those after it, over a database with a budget
abbrev pub OfWaves : Type 0 → Type 0
OfWaves R = Database → ℕ → Wave → R

-- what is made of the waves after this one
abbrev pub of_rest : {R : Type 0} → OfWaves R → Database → ℕ → AppliedWave → R
of_rest rest db budget one = rest (database_after db one.wave) (budget - size one.wave) one.next

-- how a wave that isn't empty and what is made of the rest are put together
abbrev pub Joins : Type 0 → Type 0
Joins R = Database → ℕ → Wave → Result AppliedWave Failure → (AppliedWave → R) → R

-- an empty wave ends; of another, it is joined with what is made of the rest
abbrev pub made_of_first : {R : Type 0} → Context → (Database → ℕ → R) → Joins R → OfWaves R → OfWaves R
made_of_first w end join rest db budget wave = if is_empty wave.changes then end db budget else join db budget wave (one_wave w db budget wave) (of_rest rest db budget)

-- What is made with a bound on the number of waves: with none of it `last` is made of what is left.
pub record Bounded {R : Type 0} (w : Context) (end : Database → ℕ → R) (join : Joins R) (last : OfWaves R) (bounded : ℕ → OfWaves R) : Type 0 where
  pub of_the_rest : (db : Database) (budget : ℕ) (wave : Wave) (r : Result AppliedWave Failure) (f g : AppliedWave → R) → ((one : AppliedWave) → r ≡ Ok one → f one ≡ g one)
      → join db budget wave r f ≡ join db budget wave r g
  pub at_zero : (db : Database) (budget : ℕ) (wave : Wave) → bounded zero db budget wave ≡ made_of_first w end join last db budget wave
  pub at_more : (most : ℕ) (db : Database) (budget : ℕ) (wave : Wave) → bounded (suc most) db budget wave ≡ made_of_first w end join (bounded most) db budget wave

some_changes : (changes : List Change) → is_empty changes ≡ false → 0 < length changes
some_changes [] e = cc
some_changes (c ∷ changes) e = omega arith

-- what is left of the budget after a wave that isn't empty is less
less_left : (w : Context) (db : Database) (budget : ℕ) (wave : Wave) (one : AppliedWave)
    → is_empty wave.changes ≡ false → one_wave w db budget wave ≡ Ok one → budget - size one.wave < budget
less_left w db budget wave one filled e =
    let applied = applied_is w db budget wave one.wave (applied_of_one w db budget wave one e) in
    omega (arith, some_changes wave.changes filled, applied.fits, size_applied w db budget wave one.wave applied)

not_below_none : (n : ℕ) → n < 0 → ⊥
not_below_none n h = omega (arith, h)

-- what is made is the same, if what is made of the rest is the same for each smaller budget
same_made : {R : Type 0} (w : Context) (end : Database → ℕ → R) (join : Joins R) (last : OfWaves R) (bounded : ℕ → OfWaves R) → Bounded w end join last bounded
    → (rest other : OfWaves R) (db : Database) (budget : ℕ) (wave : Wave)
    → ((db' : Database) (budget' : ℕ) (wave' : Wave) → budget' < budget → rest db' budget' wave' ≡ other db' budget' wave')
    → made_of_first w end join rest db budget wave ≡ made_of_first w end join other db budget wave
same_made w end join last bounded b rest other db budget wave same = by (is_empty wave.changes) refl
  where
    by : (empty : Bool) → is_empty wave.changes ≡ empty
        → (if empty then end db budget else join db budget wave (one_wave w db budget wave) (of_rest rest db budget))
        ≡ (if empty then end db budget else join db budget wave (one_wave w db budget wave) (of_rest other db budget))
    by true e = refl
    by false e =
        b.of_the_rest db budget wave (one_wave w db budget wave) (of_rest rest db budget) (of_rest other db budget)
        (λ one is. same (database_after db one.wave) (budget - size one.wave) one.next (less_left w db budget wave one e is))

-- bounds that are at least the budget make the same
same_bounded : {R : Type 0} (w : Context) (end : Database → ℕ → R) (join : Joins R) (last : OfWaves R) (bounded : ℕ → OfWaves R) → Bounded w end join last bounded
    → (most other : ℕ) (db : Database) (budget : ℕ) (wave : Wave) → budget ≤ most → budget ≤ other → bounded most db budget wave ≡ bounded other db budget wave
same_bounded w end join last bounded b zero zero db budget wave le le' = refl
same_bounded w end join last bounded b zero (suc other) db budget wave le le' =
    b.at_zero db budget wave
    ∙ same_made w end join last bounded b last (bounded other) db budget wave (λ db' budget' wave' less. absurd (not_below_none budget' (omega (arith, less, le))))
    ∙ sym (b.at_more other db budget wave)
same_bounded w end join last bounded b (suc most) zero db budget wave le le' =
    b.at_more most db budget wave
    ∙ same_made w end join last bounded b (bounded most) last db budget wave (λ db' budget' wave' less. absurd (not_below_none budget' (omega (arith, less, le'))))
    ∙ sym (b.at_zero db budget wave)
same_bounded w end join last bounded b (suc most) (suc other) db budget wave le le' =
    b.at_more most db budget wave
    ∙ same_made w end join last bounded b (bounded most) (bounded other) db budget wave
    (λ db' budget' wave' less. same_bounded w end join last bounded b most other db' budget' wave' (omega (arith, less, le)) (omega (arith, less, le')))
    ∙ sym (b.at_more other db budget wave)

-- with the budget as the bound, no bound is needed
pub one_by_one : {R : Type 0} (w : Context) (end : Database → ℕ → R) (join : Joins R) (last : OfWaves R) (bounded : ℕ → OfWaves R) → Bounded w end join last bounded
    → (budget : ℕ) (db : Database) (wave : Wave) → bounded budget db budget wave ≡ made_of_first w end join (λ db' budget' wave'. bounded budget' db' budget' wave') db budget wave
one_by_one w end join last bounded b zero db wave =
    b.at_zero db 0 wave
    ∙ same_made w end join last bounded b last (λ db' budget' wave'. bounded budget' db' budget' wave') db 0 wave (λ db' budget' wave' less. absurd (not_below_none budget' less))
one_by_one w end join last bounded b (suc budget) db wave =
    b.at_more budget db (suc budget) wave
    ∙ same_made w end join last bounded b (bounded budget) (λ db' budget' wave'. bounded budget' db' budget' wave') db (suc budget) wave
    (λ db' budget' wave' less. same_bounded w end join last bounded b budget budget' db' budget' wave' (omega (arith, less)) (omega arith))
