-- Which keys a wave took away, as the wave tells.
use Rattle.std.proofs.Common.{◌≡◌, refl, ℕ, ◌<◌, ◌≤◌, Bool, true, false, ◌&&◌, ◌||◌, not, if◌then◌else◌, List, [], ◌∷◌, filter, filter_map, Option, Some, None, sym, ap, ◌∙◌, arith}
use Rattle.std.specs.Bool.{◌==◌}
use Rattle.std.specs.List.{cons_option, find}
use Rattle.std.specs.Option.{option_map}
use Rattle.std.proofs.lemmas.Bool.{eqb-true, eq-eqb}
use Rattle.iv_laws_levels.specs.Types.{Value, StoredRow, Change, ForeignKey, Database}
use Rattle.iv_value.specs.Values.{all_same}
use Rattle.iv_expr.specs.Changes.{Wave, RisingChangesFrom, RisingChanges}
use Rattle.iv_key.specs.Keys.{key_of, holds_key}
use Rattle.iv_machine.specs.Databases.{row_at, has_change, in_order, first, rows_after, database_after}
use Rattle.iv_machine.specs.ReferentialActions.{Loss, deleted, updated, loss_of_row, lost_keys}
use Rattle.iv_laws_levels.specs.RisingRows.{Above, InOrder}
use Rattle.iv_laws_levels.specs.Reorderings.{Distinct, after_changes}
use Rattle.iv_laws_levels.specs.FittingWaves.{Current}
use Rattle.iv_laws_levels.specs.Holders.{old_rows, leaves_key, loses_key_from, loses_key, loss_of_new, keys_lost_by}
use Rattle.iv_laws_levels.proofs.RowNumbers.{row_at_in_order, sorted_in_order, in_order_filter, same_rows}
use Rattle.iv_laws_levels.proofs.AppliedRows.{row_of, side_here, side_elsewhere, no_side, news, row_at_rows_after}
use Rattle.iv_laws_levels.proofs.FittingWaves.{Present, present_itself, absent_rising, rising_distinct}
use Rattle.iv_laws_levels.proofs.Keys.{all_same_itself}
use Rattle.iv_laws_levels.proofs.Filters.{filter_both}
use Rattle.iv_laws_levels.proofs.Holders.{is_inside, inside_wave}

-- ---- rows that stay

pub present_filter : (rows some : List StoredRow) (p : StoredRow → Bool) → Present rows some → Present rows (filter p some)
present_filter rows [] p h = tt
present_filter rows (r ∷ some) p h =
    elim (p r) as (λ b. Present rows (if b then r ∷ filter p some else filter p some)) [ true ↦ (h.0, present_filter rows some p h.1) | false ↦ present_filter rows some p h.1 ]

-- a part of which nothing comes may be left out
pub filter_map_part : {B : Type 0} (f : StoredRow → Option B) (p : StoredRow → Bool) (rows some : List StoredRow) → Present rows some
    → ((r : StoredRow) → row_at rows r.number ≡ Some r → p r ≡ false → f r ≡ None) → filter_map f some ≡ filter_map f (filter p some)
filter_map_part f p rows [] h none = refl
filter_map_part f p rows (r ∷ some) h none =
    elim (p r) as (λ b. p r ≡ b → cons_option (f r) (filter_map f some) ≡ filter_map f (if b then r ∷ filter p some else filter p some)) [
      | true ↦ λ _. ap (cons_option (f r)) (filter_map_part f p rows some h.1 none)
      | false ↦ λ e. ap (λ o. cons_option o (filter_map f some)) (none r h.0 e) ∙ filter_map_part f p rows some h.1 none
    ] refl

outside_keeps : (db : Database) (wave : List Change) (fk : ForeignKey) (r : StoredRow) → row_at db.rows r.number ≡ Some r → has_change wave r.number ≡ false
    → loss_of_row (after_changes db wave).rows fk r ≡ None
outside_keeps db wave fk r e out =
    ap (λ o. elim o [
      | None ↦ Some deleted
      | Some after ↦ if all_same (key_of fk.key after.values) (key_of fk.key r.values) then None else Some (updated (key_of fk.key after.values))
    ]) (row_at_rows_after db.rows wave r.number ∙ ap (λ b. if b then row_at (news wave) r.number else row_at db.rows r.number) out ∙ e)
    ∙ ap (λ b. if b then None else Some (updated (key_of fk.key r.values))) (all_same_itself (key_of fk.key r.values))

-- the rows of a table that hold a key
abbrev held : ForeignKey → List Value → StoredRow → Bool
held fk key r = (r.table == fk.referenced) && holds_key fk.key key r.values

-- a key is lost only by rows of the wave
lost_inside : (db : Database) (wave : List Change) (fk : ForeignKey) (key : List Value) → InOrder db.rows → Distinct wave → Current db.rows wave
    → lost_keys db.rows (after_changes db wave).rows fk key
    ≡ first (filter_map (loss_of_row (after_changes db wave).rows fk) (in_order (filter (held fk key) (old_rows wave))))
lost_inside db wave fk key h d c =
    ap (λ l. first (filter_map (loss_of_row (after_changes db wave).rows fk) l)) (filter_both (λ r. holds_key fk.key key r.values) (λ r. r.table == fk.referenced) db.rows)
    ∙ ap first (filter_map_part (loss_of_row (after_changes db wave).rows fk) (is_inside wave) db.rows (filter (held fk key) db.rows)
    (present_filter db.rows db.rows (held fk key) (present_itself db.rows h)) (outside_keeps db wave fk))
    ∙ ap (λ l. first (filter_map (loss_of_row (after_changes db wave).rows fk) l)) (inside_wave db wave (held fk key) h d c)

-- ---- old rows by rising number

above_option : (n : ℕ) (c : Change) (side : Option (List Value)) (rows : List StoredRow) → n < c.row → Above n rows → Above n (cons_option (row_of c side) rows)
above_option n c None rows h a = a
above_option n c (Some values) rows h a = (h, a)

above_old_rows : (n low : ℕ) (wave : List Change) → n ≤ low → RisingChangesFrom low wave → Above n (old_rows wave)
above_old_rows n low [] le h = tt
above_old_rows n low (c ∷ wave) le h =
    above_option n c c.old (old_rows wave) (omega (arith, le, h.0)) (above_old_rows n c.row wave (omega (arith, le, h.0)) h.1)

in_order_option : (c : Change) (side : Option (List Value)) (rows : List StoredRow) → Above c.row rows → InOrder rows → InOrder (cons_option (row_of c side) rows)
in_order_option c None rows a h = h
in_order_option c (Some values) rows a h = (a, h)

in_order_old_rows : (low : ℕ) (wave : List Change) → RisingChangesFrom low wave → InOrder (old_rows wave)
in_order_old_rows low [] h = tt
in_order_old_rows low (c ∷ wave) h =
    in_order_option c c.old (old_rows wave) (above_old_rows c.row c.row wave (omega arith) h.1) (in_order_old_rows c.row wave h.1)

-- rows in rising number stay as they are
in_order_itself : (rows : List StoredRow) → InOrder rows → in_order rows ≡ rows
in_order_itself rows h = same_rows (in_order rows) rows (sorted_in_order rows) h (row_at_in_order rows)

-- ---- what the changes leave

-- each of these changes leaves what the later rows hold
abbrev Left : List StoredRow → List Change → Type 0
Left later [] = Unit {0}
Left later (c ∷ some) = (row_at later c.row ≡ row_of c c.new) × Left later some

left_more : (c : Change) (low : ℕ) (wave some : List Change) → c.row ≤ low → RisingChangesFrom low some → Left (news wave) some → Left (news (c ∷ wave)) some
left_more c low wave [] le h p = tt
left_more c low wave (d ∷ some) le h p =
    (side_elsewhere c c.new (news wave) d.row (apart (c.row == d.row) refl) ∙ p.0, left_more c d.row wave some (omega (arith, le, h.0)) h.1 p.1)
  where
    apart : (b : Bool) → (c.row == d.row) ≡ b → b ≡ false
    apart false e = refl
    apart true e = let same = eqb-true c.row d.row e in absurd (omega (arith, same, le, h.0))

left_by_news : (low : ℕ) (wave : List Change) → RisingChangesFrom low wave → Left (news wave) wave
left_by_news low [] h = tt
left_by_news low (c ∷ wave) h = (
  side_here c c.new (news wave) c.row (eq-eqb c.row c.row refl) (no_side (λ x. x.new) wave c.row (absent_rising c.row c.row wave (omega arith) h.1)),
  left_more c c.row wave wave (omega arith) h.1 (left_by_news c.row wave h.1),
)

-- each of these changes is one of the wave
abbrev Members : List Change → List Change → Type 0
Members wave [] = Unit {0}
Members wave (c ∷ some) = (has_change wave c.row ≡ true) × Members wave some

members_more : (c : Change) (wave some : List Change) → Members wave some → Members (c ∷ wave) some
members_more c wave [] h = tt
members_more c wave (d ∷ some) h = (more (c.row == d.row), members_more c wave some h.1)
  where
    more : (b : Bool) → (b || has_change wave d.row) ≡ true
    more true = refl
    more false = h.0

members_itself : (wave : List Change) → Members wave wave
members_itself [] = tt
members_itself (c ∷ wave) = (ap (λ b. b || has_change wave c.row) (eq-eqb c.row c.row refl), members_more c wave wave (members_itself wave))

left_after : (rows : List StoredRow) (wave some : List Change) → Members wave some → Left (news wave) some → Left (rows_after rows wave) some
left_after rows wave [] m p = tt
left_after rows wave (c ∷ some) m p =
    (row_at_rows_after rows wave c.row ∙ ap (λ b. if b then row_at (news wave) c.row else row_at rows c.row) m.0 ∙ p.0, left_after rows wave some m.1 p.1)

-- ---- the first change that takes a key away

-- how the row that a change took away lost its key, by what the change left
abbrev by_left : ForeignKey → List Value → Option StoredRow → Option Loss
by_left fk old o = elim o [
  | None ↦ Some deleted
  | Some after ↦ if all_same (key_of fk.key after.values) (key_of fk.key old) then None else Some (updated (key_of fk.key after.values))
]

by_new : (fk : ForeignKey) (c : Change) (old : List Value) (new : Option (List Value))
    → by_left fk old (row_of c new) ≡ (if leaves_key fk old new then Some (loss_of_new fk new) else None)
by_new fk c old None = refl
by_new fk c old (Some values) =
    elim (all_same (key_of fk.key values) (key_of fk.key old)) as (λ b.
    (if b then None else Some (updated (key_of fk.key values))) ≡ (if not b then Some (updated (key_of fk.key values)) else None)) [ true ↦ refl | false ↦ refl ]

-- how the first of these changes that takes a key away does so
abbrev lost_among : List Change → ForeignKey → List Value → Option Loss
lost_among some fk key = option_map (λ c. loss_of_new fk c.new) (find (loses_key fk key) some)

first_lost : (later : List StoredRow) (fk : ForeignKey) (key : List Value) (some : List Change) → Left later some
    → first (filter_map (loss_of_row later fk) (filter (held fk key) (old_rows some))) ≡ lost_among some fk key
first_lost later fk key [] h = refl
first_lost later fk key (c ∷ some) h = by_old (first_lost later fk key some h.1) c.old
  where
    losses : List Loss
    losses = filter_map (loss_of_row later fk) (filter (held fk key) (old_rows some))

    taken : Bool → Option Change
    taken b = if b then Some c else find (loses_key fk key) some

    joined : (a b d : Bool) → (a && b) && d ≡ a && (b && d)
    joined true b d = refl
    joined false b d = refl

    by_old : first losses ≡ lost_among some fk key → (o : Option (List Value))
        → first (filter_map (loss_of_row later fk) (filter (held fk key) (cons_option (row_of c o) (old_rows some))))
        ≡ option_map (λ x. loss_of_new fk x.new) (taken ((c.table == fk.referenced) && loses_key_from fk key o c.new))
    by_old rest None =
        rest
        ∙ elim (c.table == fk.referenced) as (λ b. lost_among some fk key ≡ option_map (λ x. loss_of_new fk x.new) (taken (b && false))) [ true ↦ refl | false ↦ refl ]
    by_old rest (Some old) = by_held ((c.table == fk.referenced) && holds_key fk.key key old) refl
      where
        row : StoredRow
        row = record { table = c.table; number = c.row; values = old }

        lost_here : loss_of_row later fk row ≡ (if leaves_key fk old c.new then Some (loss_of_new fk c.new) else None)
        lost_here = ap (by_left fk old) h.0 ∙ by_new fk c old c.new

        by_leaves : (b : Bool) → first (cons_option (if b then Some (loss_of_new fk c.new) else None) losses) ≡ option_map (λ x. loss_of_new fk x.new) (taken b)
        by_leaves true = refl
        by_leaves false = rest

        regrouped : (b : Bool) → ((c.table == fk.referenced) && holds_key fk.key key old) ≡ b
            → option_map (λ x. loss_of_new fk x.new) (taken (b && leaves_key fk old c.new))
            ≡ option_map (λ x. loss_of_new fk x.new) (taken ((c.table == fk.referenced) && (holds_key fk.key key old && leaves_key fk old c.new)))
        regrouped b f =
            ap (λ x. option_map (λ y. loss_of_new fk y.new) (taken x))
            (ap (λ x. x && leaves_key fk old c.new) (sym f) ∙ joined (c.table == fk.referenced) (holds_key fk.key key old) (leaves_key fk old c.new))

        by_held : (b : Bool) → ((c.table == fk.referenced) && holds_key fk.key key old) ≡ b
            → first (filter_map (loss_of_row later fk) (if b then row ∷ filter (held fk key) (old_rows some) else filter (held fk key) (old_rows some)))
            ≡ option_map (λ x. loss_of_new fk x.new) (taken ((c.table == fk.referenced) && (holds_key fk.key key old && leaves_key fk old c.new)))
        by_held true f = ap (λ o. first (cons_option o losses)) lost_here ∙ by_leaves (leaves_key fk old c.new) ∙ regrouped true f
        by_held false f = rest ∙ regrouped false f

-- Lost keys are what the wave tells.
pub lost_by_wave : (db : Database) (wave : Wave) (fk : ForeignKey) (key : List Value) → InOrder db.rows → RisingChanges wave.changes → Current db.rows wave.changes
    → lost_keys db.rows (database_after db wave).rows fk key ≡ keys_lost_by wave fk key
lost_by_wave db wave fk key h rising c =
    lost_inside db wave.changes fk key h (rising_distinct wave.changes rising) c
    ∙ ap (λ l. first (filter_map (loss_of_row (database_after db wave).rows fk) l))
    (in_order_itself (filter (held fk key) (old_rows wave.changes)) (in_order_filter (held fk key) (old_rows wave.changes) (in_order_old_rows 0 wave.changes rising)))
    ∙ first_lost (database_after db wave).rows fk key wave.changes
    (left_after db.rows wave.changes wave.changes (members_itself wave.changes) (left_by_news 0 wave.changes rising))
