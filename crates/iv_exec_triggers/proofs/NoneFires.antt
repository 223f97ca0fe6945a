-- If no trigger is on the table of a statement and on those that its waves change, none fires.
use Rattle.std.proofs.Common.{◌≡◌, refl, ◌==◌, nat_lt, Bool, true, false, ◌||◌, ◌&&◌, if◌then◌else◌, List, [], ◌∷◌, ◌++◌, filter, filter_map, flat_map, Some, None, is_none, ap, sym, ◌∙◌, arith}
use Rattle.std.specs.List.{cons_option, list_any}
use Rattle.std.proofs.lemmas.Bool.{or_parts, true≢false}
use Rattle.iv_expr.specs.declared.row.Change.{Change}
use Rattle.iv_expr.specs.declared.wave.TableColumn.{TableColumn}
use Rattle.iv_expr.specs.Changes.{Wave, wave_of}
use Rattle.iv_catalogue.specs.declared.plan.DataStatement.{DataStatement}
use Rattle.iv_catalogue.specs.declared.plan.Trigger.{Trigger}
use Rattle.iv_machine.specs.declared.database.Database.{Database}
use Rattle.iv_machine.specs.BeforeTriggers.{event_of_change, for_each_row, is_on}
use Rattle.iv_machine.specs.Context.{Context}
use Rattle.iv_machine.specs.Levels.{Firing, firings, firings_of, is_after_on, statement_firing, transitions_of}
use Rattle.iv_machine.specs.Proposals.{event_of, table_of}
use Rattle.iv_machine.specs.Waves.{net_wave}
use Rattle.iv_laws_levels.specs.FittingWaves.{Chain}
use Rattle.iv_exec_context.specs.Triggered.{has_trigger, some_have_triggers}
use Rattle.iv_exec_triggers.proofs.Untriggered.{apart, apart_of_each, not_on}
use Rattle.iv_exec_triggers.specs.Merging.{joined, kept, merged, merged_with}
use Rattle.iv_exec_triggers.specs.MayFire.{may_fire}
use Rattle.iv_exec_triggers.proofs.Nets.{AreNet, nets_of_both, nets_of_none, nets_of_one}

-- ---- the tables of the net changes are among those of the waves

-- a change more, on a table without triggers
one_more : (ts : List Trigger) (c : Change) (changes : List Change) → has_trigger ts c.table ≡ false → some_have_triggers ts changes ≡ false
    → some_have_triggers ts (c ∷ changes) ≡ false
one_more ts c changes e h = ap (λ b. b || some_have_triggers ts changes) e ∙ h

one_kept : (ts : List Trigger) (c : Change) (changes : List Change) → has_trigger ts c.table ≡ false → some_have_triggers ts changes ≡ false
    → some_have_triggers ts (cons_option (kept c) changes) ≡ false
one_kept ts c changes e h =
    elim (is_none c.old && is_none c.new) as (λ b. some_have_triggers ts (cons_option (if b then None else Some c) changes) ≡ false) [ true ↦ h | false ↦ one_more ts c changes e h ]

all_kept : (ts : List Trigger) (changes : List Change) → some_have_triggers ts changes ≡ false → some_have_triggers ts (filter_map kept changes) ≡ false
all_kept ts [] h = refl
all_kept ts (c ∷ changes) h =
    let parts = or_parts (has_trigger ts c.table) (some_have_triggers ts changes) h in
    one_kept ts c (filter_map kept changes) parts.0 (all_kept ts changes parts.1)

one_merged : (ts : List Trigger) (c : Change) (rest : List Change → List Change) → has_trigger ts c.table ≡ false
    → ((newer : List Change) → some_have_triggers ts newer ≡ false → some_have_triggers ts (rest newer) ≡ false)
    → (newer : List Change) → some_have_triggers ts newer ≡ false → some_have_triggers ts (merged_with c rest newer) ≡ false
one_merged ts c rest e h [] g = one_more ts c (rest []) e (h [] refl)
one_merged ts c rest e h (d ∷ newer) g =
    let parts = or_parts (has_trigger ts d.table) (some_have_triggers ts newer) g in
    let later = one_more ts d (merged_with c rest newer) parts.0 (one_merged ts c rest e h newer parts.1) in
    let both = one_kept ts (record c { new = d.new }) (rest newer) e (h newer parts.1) in
    elim (nat_lt c.row d.row) as (λ b. some_have_triggers ts (if b then c ∷ rest (d ∷ newer)
    else (if nat_lt d.row c.row then d ∷ merged_with c rest newer else cons_option (joined c d) (rest newer))) ≡ false) [
      | true ↦ one_more ts c (rest (d ∷ newer)) e (h (d ∷ newer) g)
      | false ↦ elim (nat_lt d.row c.row) as (λ b. some_have_triggers ts (if b then d ∷ merged_with c rest newer else cons_option (joined c d) (rest newer)) ≡ false) [ true ↦ later | false ↦ both ]
    ]

all_merged : (ts : List Trigger) (older newer : List Change) → some_have_triggers ts older ≡ false → some_have_triggers ts newer ≡ false
    → some_have_triggers ts (merged older newer) ≡ false
all_merged ts [] newer h g = g
all_merged ts (c ∷ older) newer h g =
    let parts = or_parts (has_trigger ts c.table) (some_have_triggers ts older) h in
    one_merged ts c (merged older) parts.0 (λ l k. all_merged ts older l parts.1 k) newer g

-- the net changes, wave after wave
abbrev nets : List Wave → List Change
nets [] = []
nets (wave ∷ waves) = merged (filter_map kept wave.changes) (nets waves)

are_nets : (waves : List Wave) → AreNet waves (wave_of (nets waves))
are_nets [] = nets_of_none [] (omega arith) (wave_of []) refl
are_nets (wave ∷ waves) =
    nets_of_both (wave ∷ waves) (wave ∷ []) waves (wave_of (filter_map kept wave.changes)) (wave_of (nets waves)) refl
    (nets_of_one (wave ∷ []) wave (omega arith) (omega arith) refl (wave_of (filter_map kept wave.changes)) refl) (are_nets waves) (wave_of (nets (wave ∷ waves))) refl

nets_untriggered : (ts : List Trigger) (waves : List Wave) → list_any (λ w. some_have_triggers ts w.changes) waves ≡ false → some_have_triggers ts (nets waves) ≡ false
nets_untriggered ts [] h = refl
nets_untriggered ts (wave ∷ waves) h =
    let parts = or_parts (some_have_triggers ts wave.changes) (list_any (λ w. some_have_triggers ts w.changes) waves) h in
    all_merged ts (filter_map kept wave.changes) (nets waves) (all_kept ts wave.changes parts.0) (nets_untriggered ts waves parts.1)

-- ---- the firings

none_of : (t : Trigger) (changes : List Change) → apart t changes ≡ false → filter (λ c. is_on c.table (event_of_change c) t) changes ≡ []
none_of t [] h = refl
none_of t (c ∷ changes) h =
    let parts = or_parts (t.table == c.table) (apart t changes) h in
    ap (λ b. if b then c ∷ filter (λ x. is_on x.table (event_of_change x) t) changes else filter (λ x. is_on x.table (event_of_change x) t) changes)
    (not_on c.table (event_of_change c) t parts.0)
    ∙ none_of t changes parts.1

never : (statement : DataStatement) (t : Trigger) (b : Bool) → b ≡ false
    → ◌≡◌ {A = List Firing} (if for_each_row t then [] else (if b || false then statement_firing t [] ∷ [] else [])) []
never statement t true e = absurd (true≢false e)
never statement t false e = elim (for_each_row t) as (λ x. ◌≡◌ {A = List Firing} (if x then [] else []) []) [ true ↦ refl | false ↦ refl ]

one_never : (statement : DataStatement) (net : Wave) (t : Trigger) → (t.table == table_of statement) ≡ false → apart t net.changes ≡ false
    → firings_of statement t (transitions_of t net) ≡ []
one_never statement net t own h =
    ap (firings_of statement t) (none_of t net.changes h)
    ∙ never statement t (is_on (table_of statement) (event_of statement) t) (not_on (table_of statement) (event_of statement) t own)

none_fires : (statement : DataStatement) (columns : List TableColumn) (net : Wave) (ts : List Trigger)
    → has_trigger ts (table_of statement) ≡ false → some_have_triggers ts net.changes ≡ false
    → flat_map (λ t. firings_of statement t (transitions_of t net)) (filter (is_after_on columns) ts) ≡ []
none_fires statement columns net [] own h = refl
none_fires statement columns net (t ∷ ts) own h =
    let here = or_parts (t.table == table_of statement) (has_trigger ts (table_of statement)) own in
    let parts = apart_of_each t ts net.changes h in
    let rest = none_fires statement columns net ts here.1 parts.1 in
    let all = filter (is_after_on columns) ts in
    elim (is_after_on columns t) as (λ b. flat_map (λ x. firings_of statement x (transitions_of x net)) (if b then t ∷ all else all) ≡ []) [
      | true ↦ ap (λ l. l ++ flat_map (λ x. firings_of statement x (transitions_of x net)) all) (one_never statement net t here.0 parts.0) ∙ rest
      | false ↦ rest
    ]

pub nothing_fires : (context : Context) (statement : DataStatement) (waves : List Wave) → may_fire context statement waves ≡ false
    → (columns : List TableColumn) (db last : Database) → Chain db waves last → firings context statement columns (net_wave db.rows last.rows waves) ≡ []
nothing_fires context statement waves e columns db last chain =
    let parts = or_parts (has_trigger context.schema.triggers (table_of statement)) (list_any (λ w. some_have_triggers context.schema.triggers w.changes) waves) e in
    ap (firings context statement columns) (sym (are_nets waves db last chain))
    ∙ none_fires statement columns (wave_of (nets waves)) context.schema.triggers parts.0 (nets_untriggered context.schema.triggers waves parts.1)
