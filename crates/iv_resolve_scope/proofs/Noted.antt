-- A map from names, to which a value is added if none of its name is there.
use Rattle.std.proofs.Common.{◌≡◌, ℕ, Bool, true, false, List, ◌∙◌, Option, Some, None, refl, sym, ap, cond, if◌then◌else◌, is_some}
use Rattle.std.specs.Option.{option_or}
use Rattle.std.specs.Str.{bytes_eq}
use Rattle.std.specs.Cmp.Lexicographic.{bytes_decides}
use Rattle.iv_catalogue.proofs.WrittenNames.{same_turned}

-- what was noted, with a value that is noted if none of its name is there
abbrev noted : {A : Type 0} → Option A → Bool → A → Option A
noted o b x = option_or o (if b then Some x else None)

same_or_none : {A : Type 0} (o : Option A) → o ≡ option_or o None
same_or_none None = refl
same_or_none (Some f) = refl

there : {A : Type 0} (o : Option A) (x : A) → is_some o ≡ true → o ≡ option_or o (Some x)
there None x h = cc
there (Some f) x h = refl

-- a value of the name is there
pub noted_before : {A : Type 0} (m : List ℕ → Option A) (name : List ℕ) (x : A) (other : List ℕ) → is_some (m name) ≡ true
    → m other ≡ noted (m other) (bytes_eq other name) x
noted_before {A} m name x other h = noted_by (bytes_eq other name) refl
  where
    noted_by : (b : Bool) → bytes_eq other name ≡ b → m other ≡ noted (m other) b x
    noted_by true e = there (m other) x (ap (λ n. is_some (m n)) ((bytes_decides other name).0 e) ∙ h)
    noted_by false e = same_or_none (m other)

empty : {A : Type 0} (o : Option A) → is_some o ≡ false → o ≡ None
empty None h = refl
empty (Some f) h = cc

-- it is noted
pub noted_now : {A : Type 0} (m : List ℕ → Option A) (name : List ℕ) (x : A) (other : List ℕ) → is_some (m name) ≡ false
    → cond (bytes_eq name other) (Some x) (m other) ≡ noted (m other) (bytes_eq other name) x
noted_now {A} m name x other h = ap (λ b. cond b (Some x) (m other)) (same_turned name other) ∙ noted_by (bytes_eq other name) refl
  where
    noted_by : (b : Bool) → bytes_eq other name ≡ b → cond b (Some x) (m other) ≡ noted (m other) b x
    noted_by true e = sym (ap (λ o. option_or o (Some x)) (empty (m other) (ap (λ n. is_some (m n)) ((bytes_decides other name).0 e) ∙ h)))
    noted_by false e = same_or_none (m other)

-- the next value, noted or passed
pub noted_first : {A : Type 0} (o : Option A) (b : Bool) (x : A) (rest : Option A)
    → option_or (noted o b x) rest ≡ option_or o (if b then Some x else rest)
noted_first None true x rest = refl
noted_first None false x rest = refl
noted_first (Some f) true x rest = refl
noted_first (Some f) false x rest = refl
