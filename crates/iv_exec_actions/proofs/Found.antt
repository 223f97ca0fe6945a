-- The rows that are found are those of the wave, and those to which a foreign key does something.
use Rattle.std.proofs.Common.{◌≡◌, refl, ℕ, zero, suc, ◌+◌, Bool, true, false, ◌&&◌, ◌||◌, if◌then◌else◌, List, [], ◌∷◌, map, filter, flat_map, find, Option, Some, None, is_some, slice_get, sym, ap, subst, ◌∙◌, inl, inr, arith}
use Rattle.std.specs.Bool.{◌==◌}
use Rattle.std.specs.List.{enumerate_from}
use Rattle.std.proofs.lemmas.Bool.{eq-eqb, true≢false, or_right, or_left}
use Rattle.iv_value.specs.declared.value.Value.{Value}
use Rattle.iv_value.specs.Values.{all_same}
use Rattle.iv_expr.specs.declared.row.StoredRow.{StoredRow}
use Rattle.iv_expr.specs.declared.row.Change.{Change}
use Rattle.iv_expr.specs.Changes.{wave_of}
use Rattle.iv_expr.specs.Scopes.{table_rows}
use Rattle.iv_syntax.specs.declared.table.ReferentialAction.{ReferentialAction}
use Rattle.iv_syntax.specs.declared.table.ReferentialAction.TheVariants as action
use Rattle.iv_catalogue.specs.declared.constraint.Constraint.{Constraint}
use Rattle.iv_catalogue.specs.declared.constraint.ForeignKey.{ForeignKey}
use Rattle.iv_key.specs.Keys.{key_of, none_null, holds_key}
use Rattle.iv_machine.specs.Databases.{row_at, has_change}
use Rattle.iv_machine.specs.ReferentialActions.{Reference, foreign_key, reference, references, Loss, LostKeys, action_on}
use Rattle.iv_store.specs.Stores.{StoreState, RisingNumbers, reference_at, numbers_by, children_of}
use Rattle.iv_laws_levels.specs.Holders.{loses_key, loss_of_new, keys_lost_by}
use Rattle.iv_laws_levels.proofs.RowNumbers.{some_none, some_same}
use Rattle.iv_laws_levels.proofs.Keys.{false_true, all_same_itself, all_same_is}
use Rattle.iv_laws_levels.proofs.Members.{In, in_filter, any_in, of_filter_map, in_flat_map, in_rows}
use Rattle.iv_laws_kept.specs.FollowingWaves.{is_among, EachReference, IsIdle, IsIdleElsewhere, FindsRows}
use Rattle.iv_account.specs.Accounts.{acts}
use Rattle.iv_exec_actions.specs.AffectedForeignKey.{AffectedForeignKey, under_wave, action_for, acts_on, acts_in, key_taken}
use Rattle.iv_exec_actions.specs.Finding.{leads, found_by, found_by_all, found}
use Rattle.iv_exec_actions.proofs.Taking.{loses_is}
use Rattle.iv_exec_actions.proofs.Numbers.{any_of_both}
use Rattle.iv_exec_actions.proofs.Matching.{loss_by}

-- ---- elements

in_map : {A B : Type 0} (f : A → B) (x : A) (xs : List A) → In x xs → In (f x) (map f xs)
in_map f x [] i = absurd i
in_map f x (y ∷ xs) (inl is) = inl (ap f is)
in_map f x (y ∷ xs) (inr i) = inr (in_map f x xs i)

in_find : {A : Type 0} (p : A → Bool) (x : A) (xs : List A) → find p xs ≡ Some x → In x xs × (p x ≡ true)
in_find p x [] e = absurd (some_none x (sym e))
in_find p x (y ∷ ys) e = by (p y) refl e (in_find p x ys)
  where
    by : (b : Bool) → p y ≡ b → (if b then Some y else find p ys) ≡ Some x → (find p ys ≡ Some x → In x ys × (p x ≡ true)) → In x (y ∷ ys) × (p x ≡ true)
    by true f g rest = let is = some_same y x g in (inl (sym is), ap p (sym is) ∙ f)
    by false f g rest = let r = rest g in (inr r.0, r.1)

each_reference : (P : Reference → Type 0) (ks : List Reference) → ((k : Reference) → In k ks → P k) → EachReference P ks
each_reference P [] h = tt
each_reference P (k ∷ ks) h = (h k (inl refl), each_reference P ks (λ j i. h j (inr i)))

-- ---- the constraint of a foreign key

place_of : (id : ℕ) (c : Constraint) (from : ℕ) (constraints : List Constraint) → In (id, c) (enumerate_from from constraints)
    → (i : ℕ) × (id ≡ from + i) × (slice_get constraints i ≡ Some c)
place_of id c from [] i = absurd i
place_of id c from (d ∷ constraints) (inl is) =
    (zero, (let first = ap (λ p. p.0) is in omega (arith, first)), ap Some (sym (ap (λ p. p.1) is)))
place_of id c from (d ∷ constraints) (inr i) = let r = place_of id c (from + 1) constraints i in (suc r.0, omega (arith, r.1), r.2)

id_of : (id : ℕ) (c : Constraint) (k : Reference) → reference (id, c) ≡ Some k → k.id ≡ id
id_of id c k e = by (foreign_key c.rule) e
  where
    by : (o : Option ForeignKey) → (elim o [ Some fk ↦ Some (record { id = id; table = c.table; key = fk }) | None ↦ None ]) ≡ Some k → k.id ≡ id
    by None f = absurd (some_none k (sym f))
    by (Some fk) f = ap (λ j. j.id) (sym (some_same _ k f))

reference_there : (constraints : List Constraint) (k : Reference) → In k (references constraints) → reference_at constraints k.id ≡ Some k
reference_there constraints k i =
    let found = of_filter_map reference k (enumerate_from 0 constraints) i in
    let id = found.element.0 in
    let c = found.element.1 in
    let place = place_of id c 0 constraints found.is_in in
    let same : k.id ≡ id = id_of id c k found.holds in
    let there : id ≡ place.0 = omega (arith, place.1) in
    ap (reference_at constraints) same
    ∙ ap (λ o. elim o [ Some d ↦ reference (id, d) | None ↦ None ]) (ap (slice_get constraints) there ∙ place.2)
    ∙ found.holds

-- ---- keys that were lost

idle_action : (a : ReferentialAction) → acts a ≡ false → a ≡ action.NoAction
idle_action action.NoAction e = refl
idle_action action.Restrict e = absurd (true≢false e)
idle_action action.Cascade e = absurd (true≢false e)
idle_action action.SetNull e = absurd (true≢false e)
idle_action action.SetDefault e = absurd (true≢false e)

-- the key that a change took away, which loses this one
taken_is : (fk : ForeignKey) (key : List Value) (c : Change) → loses_key fk key c ≡ true → key_taken fk c ≡ Some key
taken_is fk key c e = by (key_taken fk c) (sym (loses_is fk key c) ∙ e)
  where
    by : (o : Option (List Value)) → (elim o [ Some taken ↦ all_same taken key | None ↦ false ]) ≡ true → o ≡ Some key
    by None f = absurd (false_true f)
    by (Some taken) f = ap Some (all_same_is taken key f)

and_with : (a b : Bool) → b ≡ true → (a && b) ≡ a
and_with true b e = e
and_with false b e = refl

test_false : (a b : Bool) → (b ≡ true → a ≡ true) → a ≡ false → b ≡ false
test_false a true h e = absurd (true≢false (sym (h refl) ∙ e))
test_false a false h e = refl

-- the change that a loss comes from
lost_change : (fk : ForeignKey) (o : Option Change) (loss : Loss) → loss_by fk o ≡ Some loss → (c : Change) × (o ≡ Some c) × (loss_of_new fk c.new ≡ loss)
lost_change fk None loss e = absurd (some_none loss (sym e))
lost_change fk (Some c) loss e = (c, refl, some_same _ loss e)

module _ (changes : List Change) where
  abbrev lost : LostKeys
  lost = keys_lost_by (wave_of changes)

  -- a foreign key that does nothing has NO ACTION for every key that was lost
  pub idle : (k : Reference) → acts_in changes k ≡ false → IsIdle lost k
  idle k none key loss e =
      let behind = lost_change k.key (find (loses_key k.key key) changes) loss e in
      let c = behind.0 in
      let member = in_find (loses_key k.key key) c changes behind.1 in
      let not_on : acts_on k.key c ≡ false = test_false (acts_in changes k) (acts_on k.key c) (λ f. any_in (acts_on k.key) c changes member.0 f) none in
      let taken : is_some (key_taken k.key c) ≡ true = ap is_some (taken_is k.key key c member.1) in
      ap (action_on k.key) (sym behind.2)
      ∙ idle_action (action_for k.key c) (sym (and_with (acts (action_for k.key c)) (is_some (key_taken k.key c)) taken) ∙ not_on)

  module _ (s : StoreState) (ks : List Reference) (here : (k : Reference) → In k ks → In k (references s.constraints)) (numbers : List ℕ)
      (all : (number : ℕ) → is_among numbers number ≡ is_among (found s (map (under_wave changes) ks) changes) number) where
    abbrev by_keys : List ℕ
    by_keys = found_by_all s (map (under_wave changes) ks) changes

    -- the rows of the changes are among them
    rows_of : (some : List Change) (number : ℕ) → is_among (map (λ c. c.row) some) number ≡ has_change some number
    rows_of [] number = refl
    rows_of (c ∷ some) number = ap (λ b. (c.row == number) || b) (rows_of some number)

    changed_found : (number : ℕ) → has_change changes number ≡ true → is_among numbers number ≡ true
    changed_found number e =
        all number
        ∙ any_of_both (λ n. n == number) by_keys (map (λ c. c.row) changes)
        ∙ or_right (is_among by_keys number) (is_among (map (λ c. c.row) changes) number) (rows_of changes number ∙ e)

    -- a row that refers to a key for which something is done is found
    row_found : (k : Reference) → In k ks → (row : StoredRow) (c : Change) → row_at s.base.rows row.number ≡ Some row → (row.table == k.table) ≡ true
        → none_null (key_of k.key.columns row.values) ≡ true → find (loses_key k.key (key_of k.key.columns row.values)) changes ≡ Some c
        → acts (action_for k.key c) ≡ true → is_among numbers row.number ≡ true
    row_found k i row c there table full first does =
        all row.number
        ∙ any_of_both (λ n. n == row.number) by_keys (map (λ x. x.row) changes)
        ∙ or_left (is_among by_keys row.number) (is_among (map (λ x. x.row) changes) row.number)
        (any_in (λ n. n == row.number) row.number by_keys among (eq-eqb row.number row.number refl))
      where
        key : List Value
        key = key_of k.key.columns row.values

        x : AffectedForeignKey
        x = under_wave changes k

        member : In c changes × (loses_key k.key key c ≡ true)
        member = in_find (loses_key k.key key) c changes first

        holds : holds_key k.key.columns key row.values ≡ true
        holds = ap (λ b. b && all_same key key) full ∙ all_same_itself key

        child : In row.number (children_of s k.id key)
        child =
            subst (λ o. In row.number (numbers_by s.base.rows key o)) (sym (reference_there s.constraints k (here k i)))
            (in_map (λ r. r.number) row (filter (λ r. holds_key k.key.columns key r.values) (table_rows s.base.rows k.table))
            (in_filter (λ r. holds_key k.key.columns key r.values) row (table_rows s.base.rows k.table)
            (in_filter (λ r. r.table == k.table) row s.base.rows (in_rows s.base.rows row.number row there) table) holds))

        leading : leads x c key ≡ true
        leading =
            ap (λ o. elim o [ Some d ↦ (d.row == c.row) && acts (action_for k.key d) | None ↦ false ]) first
            ∙ ap (λ b. b && acts (action_for k.key c)) (eq-eqb c.row c.row refl)
            ∙ does

        so_far : found_by s x c ≡ children_of s k.id key
        so_far =
            ap (λ o. elim o [ Some taken ↦ if leads x c taken then children_of s k.id taken else [] | None ↦ [] ]) (taken_is k.key key c member.1)
            ∙ ap (λ b. if b then children_of s k.id key else []) leading

        among : In row.number by_keys
        among =
            in_flat_map (λ y. flat_map (found_by s y) changes) row.number x (map (under_wave changes) ks) (in_map (under_wave changes) k ks i)
            (in_flat_map (found_by s x) row.number c changes member.0 (subst (In row.number) (sym so_far) child))

    idle_there : (k : Reference) → In k ks → IsIdleElsewhere lost s.base.rows numbers k
    idle_there k i row loss there table apart e = by (none_null (key_of k.key.columns row.values)) refl e
      where
        key : List Value
        key = key_of k.key.columns row.values

        nothing : none_null key ≡ true → (c : Change) → find (loses_key k.key key) changes ≡ Some c → acts (action_for k.key c) ≡ false
        nothing full c first =
            test_false (is_among numbers row.number) (acts (action_for k.key c)) (λ f. row_found k i row c there table full first f) apart

        by : (b : Bool) → none_null key ≡ b → (if b then keys_lost_by (wave_of changes) k.key key else None) ≡ Some loss → action_on k.key loss ≡ action.NoAction
        by false full f = absurd (some_none loss (sym f))
        by true full f =
            let behind = lost_change k.key (find (loses_key k.key key) changes) loss f in
            ap (action_on k.key) (sym behind.2) ∙ idle_action (action_for k.key behind.0) (nothing full behind.0 behind.1)

    pub finds_rows : RisingNumbers 0 numbers → FindsRows ks changes s.base.rows numbers
    finds_rows up = record {
      rising = up;
      changed = changed_found;
      referring = each_reference (IsIdleElsewhere lost s.base.rows numbers) ks idle_there;
    }
