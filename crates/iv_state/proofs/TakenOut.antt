-- Savepoints of a name are taken out one after another, with their marks.
use Rattle.std.proofs.Common.{◌≡◌, ℕ, zero, suc, ◌+◌, ◌-◌, ◌<◌, ◌≤◌, Bool, true, false, not, if◌then◌else◌, Option, Some, None, List, [], ◌∷◌, length, arith, refl, ap, sym, subst, ◌∙◌, unwrap_or, slice_get}
use Rattle.std.specs.List.{remove}
use Rattle.std.specs.Str.{bytes_eq}
use Rattle.std.proofs.lemmas.List.Edits.{length-remove}
use Rattle.iv_state.specs.Types.{Database}
use Rattle.iv_store.specs.Stores.{StoreState, marked_database, store_without_mark}
use Rattle.iv_state.specs.Saved.{Saved}
use Rattle.iv_state.specs.Kept.{later}
use Rattle.iv_state.specs.Saving.{last_from, last_named, saves_without, marks_without, with_marks, IsWithout}

-- ---- the last place of a name, from the end

-- by whether the first has the name
abbrev pub next_last : Option ℕ → Bool → Option ℕ
next_last (Some n) b = Some (suc n)
next_last None true = Some 0
next_last None false = None

-- the last place, by the rest of the list first
abbrev pub last_in : List ℕ → List Saved → Option ℕ
last_in name [] = None
last_in name (s ∷ saves) = next_last (last_in name saves) (bytes_eq name s.name)

abbrev placed : ℕ → Option ℕ → Option ℕ → Option ℕ
placed at found None = found
placed at found (Some n) = Some (at + n)

abbrev some_of : ℕ → Option ℕ
some_of n = Some n

some_same : (m n : ℕ) → m ≡ n → some_of m ≡ some_of n
some_same m n e = ap some_of e

last_is : (name : List ℕ) (found : Option ℕ) (at : ℕ) (saves : List Saved) → last_from name found at saves ≡ placed at found (last_in name saves)
last_is name found at [] = refl
last_is name found at (s ∷ saves) = last_is name (if bytes_eq name s.name then Some at else found) (at + 1) saves ∙ by (last_in name saves) (bytes_eq name s.name) where
  by : (o : Option ℕ) (b : Bool) → placed (at + 1) (if b then Some at else found) o ≡ placed at found (next_last o b)
  by (Some n) b = some_same (at + 1 + n) (at + suc n) (omega arith)
  by None true = some_same at (at + 0) (omega arith)
  by None false = refl

same_placed : (o : Option ℕ) → placed 0 None o ≡ o
same_placed None = refl
same_placed (Some n) = some_same (0 + n) n (omega arith)

pub last_named_is : (name : List ℕ) (saves : List Saved) → last_named name saves ≡ last_in name saves
last_named_is name saves = last_is name None 0 saves ∙ same_placed (last_in name saves)

-- ---- none of the name

-- the name of the first is another, and none of the rest has it
pub none_first : (o : Option ℕ) (b : Bool) → next_last o b ≡ None → (b ≡ false) × (o ≡ None)
none_first (Some n) b h = cc
none_first None true h = cc
none_first None false h = (refl, refl)

none_saves : (name : List ℕ) (saves : List Saved) → last_in name saves ≡ None → saves_without name saves ≡ saves
none_saves name [] h = refl
none_saves name (s ∷ saves) h =
    let f : (bytes_eq name s.name ≡ false) × (last_in name saves ≡ None) = none_first (last_in name saves) (bytes_eq name s.name) h in
    ap (λ (b : Bool). if not b then s ∷ saves_without name saves else saves_without name saves) f.0
    ∙ ap (λ (l : List Saved). s ∷ l) (none_saves name saves f.1)

none_marks : (name : List ℕ) (saves : List Saved) (dbs : List Database) → length saves ≤ length dbs → last_in name saves ≡ None → marks_without name saves dbs ≡ dbs
none_marks name [] dbs w h = refl
none_marks name (s ∷ saves) [] w h = absurd (omega (arith, w))
none_marks name (s ∷ saves) (db ∷ dbs) w h =
    let f : (bytes_eq name s.name ≡ false) × (last_in name saves ≡ None) = none_first (last_in name saves) (bytes_eq name s.name) h in
    ap (λ (b : Bool). if b then marks_without name saves dbs else db ∷ marks_without name saves dbs) f.0
    ∙ ap (λ (l : List Database). db ∷ l) (none_marks name saves dbs (omega (arith, w)) f.1)

-- ---- one of the name is taken out

-- the last place is that of the first, which has the name, or one of the rest
pub data At (o : Option ℕ) (b : Bool) (p : ℕ) : Type 0 where
  here : b ≡ true → o ≡ None → zero ≡ p → At o b p
  there : (n : ℕ) → o ≡ Some n → suc n ≡ p → At o b p

some_eq : (m n : ℕ) → some_of m ≡ some_of n → m ≡ n
some_eq m n h = ap (λ (o : Option ℕ). unwrap_or o 0) h

pub at_of : (o : Option ℕ) (b : Bool) (p : ℕ) → next_last o b ≡ Some p → At o b p
at_of (Some n) b p h = there n refl (some_eq (suc n) p h)
at_of None true p h = here refl refl (some_eq zero p h)
at_of None false p h = cc

one_save : (name : List ℕ) (saves : List Saved) (p : ℕ) → last_in name saves ≡ Some p → saves_without name (remove saves p) ≡ saves_without name saves
one_save name [] p h = cc
one_save name (s ∷ saves) p h = by (at_of (last_in name saves) (bytes_eq name s.name) p h) (λ n. one_save name saves n) where
  by : At (last_in name saves) (bytes_eq name s.name) p → ((n : ℕ) → last_in name saves ≡ Some n → saves_without name (remove saves n) ≡ saves_without name saves)
      → saves_without name (remove (s ∷ saves) p) ≡ saves_without name (s ∷ saves)
  by (here b o e) more =
      subst (λ (q : ℕ). saves_without name (remove (s ∷ saves) q) ≡ saves_without name (s ∷ saves)) e
      (ap (λ (x : Bool). if not x then s ∷ saves_without name saves else saves_without name saves) (sym b))
  by (there n o e) more =
      subst (λ (q : ℕ). saves_without name (remove (s ∷ saves) q) ≡ saves_without name (s ∷ saves)) e
      (ap (λ (l : List Saved). if not (bytes_eq name s.name) then s ∷ l else l) (more n o))

one_mark : (name : List ℕ) (saves : List Saved) (dbs : List Database) (p : ℕ) → length saves ≤ length dbs → last_in name saves ≡ Some p
    → marks_without name (remove saves p) (remove dbs p) ≡ marks_without name saves dbs
one_mark name [] dbs p w h = cc
one_mark name (s ∷ saves) [] p w h = absurd (omega (arith, w))
one_mark name (s ∷ saves) (db ∷ dbs) p w h = by (at_of (last_in name saves) (bytes_eq name s.name) p h) (λ n. one_mark name saves dbs n (omega (arith, w))) where
  by : At (last_in name saves) (bytes_eq name s.name) p → ((n : ℕ) → last_in name saves ≡ Some n → marks_without name (remove saves n) (remove dbs n) ≡ marks_without name saves dbs)
      → marks_without name (remove (s ∷ saves) p) (remove (db ∷ dbs) p) ≡ marks_without name (s ∷ saves) (db ∷ dbs)
  by (here b o e) more =
      subst (λ (q : ℕ). marks_without name (remove (s ∷ saves) q) (remove (db ∷ dbs) q) ≡ marks_without name (s ∷ saves) (db ∷ dbs)) e
      (ap (λ (x : Bool). if x then marks_without name saves dbs else db ∷ marks_without name saves dbs) (sym b))
  by (there n o e) more =
      subst (λ (q : ℕ). marks_without name (remove (s ∷ saves) q) (remove (db ∷ dbs) q) ≡ marks_without name (s ∷ saves) (db ∷ dbs)) e
      (ap (λ (l : List Database). if bytes_eq name s.name then l else db ∷ l) (more n o))

-- ---- all of the name

later_removed : (dbs : List Database) (p : ℕ) → 0 < length dbs → later (remove dbs (p + 1)) ≡ remove (later dbs) p
later_removed [] p h = absurd (omega (arith, h))
later_removed (db ∷ dbs) p h = let one : suc p ≡ p + 1 = omega arith in subst (λ (q : ℕ). later (remove (db ∷ dbs) q) ≡ remove dbs p) one refl

abbrev first_or : Database → List Database → Database
first_or base dbs = elim (slice_get dbs 0) [ Some db ↦ db | None ↦ base ]

first_stays : (base : Database) (dbs : List Database) (p : ℕ) → 0 < length dbs → first_or base (remove dbs (p + 1)) ≡ first_or base dbs
first_stays base [] p h = absurd (omega (arith, h))
first_stays base (db ∷ dbs) p h = let one : suc p ≡ p + 1 = omega arith in subst (λ (q : ℕ). first_or base (remove (db ∷ dbs) q) ≡ db) one refl

later_length : (dbs : List Database) → length (later dbs) ≡ length dbs - 1
later_length [] = refl
later_length (db ∷ dbs) = omega arith

-- while savepoints of the name are taken out
pub record Between (name : List ℕ) (saves : List Saved) (s : StoreState) (others : List Saved) (t : StoreState) : Type 0 where
  pub kept : saves_without name others ≡ saves_without name saves
  pub store : t ≡ with_marks s t.marks
  pub first : marked_database t 0 ≡ marked_database s 0
  pub marks : marks_without name others (later t.marks) ≡ marks_without name saves (later s.marks)
  pub room : length others < length t.marks
  pub fewer : length others ≤ length saves

pub between_begins : (name : List ℕ) (saves : List Saved) (s : StoreState) → length saves < length s.marks → Between name saves s saves s
between_begins name saves s h = record { kept = refl; store = refl; first = refl; marks = refl; room = h; fewer = omega arith }

pub between_next : (name : List ℕ) (saves : List Saved) (s : StoreState) (others : List Saved) (t : StoreState) (p : ℕ) (fewer : List Saved) (u : StoreState)
    → last_named name others ≡ Some p → p < length others → fewer ≡ remove others p → u ≡ store_without_mark t (p + 1)
    → Between name saves s others t → Between name saves s fewer u
between_next name saves s others t p fewer u l w e f b =
    let at : last_in name others ≡ Some p = sym (last_named_is name others) ∙ l in
    let some : 0 < length t.marks = omega (arith, b.room) in
    let wide : length others ≤ length (later t.marks) = omega (arith, b.room, later_length t.marks) in
    let short : length (remove others p) + 1 ≡ length others = length-remove others p w in
    let less : length (remove t.marks (p + 1)) + 1 ≡ length t.marks = length-remove t.marks (p + 1) (omega (arith, w, b.room)) in
    let marks : u.marks ≡ remove t.marks (p + 1) = ap (λ (x : StoreState). x.marks) f in
    rw e (record {
      kept = one_save name others p at ∙ b.kept;
      store = f ∙ ap (λ (m : List Database). with_marks t m) (sym marks) ∙ ap (λ (x : StoreState). with_marks x u.marks) b.store;
      first = ap (λ (x : StoreState). marked_database x 0) f ∙ first_stays t.base t.marks p some ∙ b.first;
      marks = ap (λ (m : List Database). marks_without name (remove others p) (later m)) marks
          ∙ ap (marks_without name (remove others p)) (later_removed t.marks p some)
          ∙ one_mark name others (later t.marks) p wide at ∙ b.marks;
      room = omega (arith, short, less, b.room, ap (λ (m : List Database). length m) marks);
      fewer = omega (arith, short, b.fewer);
    })

pub between_ends : (name : List ℕ) (saves : List Saved) (s : StoreState) (others : List Saved) (t : StoreState)
    → last_named name others ≡ None → Between name saves s others t → IsWithout name saves s others t
between_ends name saves s others t l b =
    let none : last_in name others ≡ None = sym (last_named_is name others) ∙ l in
    let wide : length others ≤ length (later t.marks) = omega (arith, b.room, later_length t.marks) in
    record {
      kept = sym (none_saves name others none) ∙ b.kept;
      store = b.store;
      first = b.first;
      marks = sym (none_marks name others (later t.marks) wide none) ∙ b.marks;
      room = b.room;
    }
