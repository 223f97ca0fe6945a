use Rattle.std.proofs.Common.{◌∙◌, sym, ap, subst}
use Rattle.iv_store_rows.specs.Histories.{History, history_of, history_after, marked_of, after_change, rows_before}
use Rattle.iv_store_rows.proofs.Histories.{Fits, back, marked_after}
use Rattle.iv_store_rows.proofs.Keeping.{Made, changed_view, kept_changed, kept_refused}
use Rattle.iv_store_rows.proofs.versions.Versions.change.Goals as goal

pub invariant_of-self : goal.invariant_of-self
invariant_of-self c =
    let s = c.self.inside in
    kept_refused s.slots.slots c.make.new.slots.slots s.slots.numbers c.make.new.slots.numbers s.next s.journal c.make.new.journal s.marks.items
    c.in_err-make.ensures.kept_slots c.in_err-make.ensures.kept_journal c.in_err-make.ensures.room c.self.invariant

pub invariant_of-self-2 : goal.invariant_of-self-2
invariant_of-self-2 c =
    let s = c.self.inside in
    let made : Made s.slots.slots c.make.new.slots.slots s.next c.max-self-inside.result s.journal c.make.new.journal c.args.change.now =
    record { slots_are = c.in_ok-make.ensures.slots; next_is = c.max-self-inside.ensures; journal_is = c.in_ok-make.ensures.journal } in
    let r = c.requires in
    let fits : Fits (history_of s.slots.slots s.next s.journal s.marks.items) c.args.change.now =
    subst (λ (h : History). Fits h c.args.change.now) (sym c.self.view_is)
    (record { current = r.current; own = r.own; positive = r.positive; small = r.small; room = r.room }) in
    kept_changed s.slots.slots c.make.new.slots.slots s.slots.numbers c.make.new.slots.numbers s.next c.max-self-inside.result s.journal c.make.new.journal
    s.marks.items c.args.change.now c.recall_order.ensures.files c.in_ok-make.ensures.numbers made fits c.self.invariant

pub returns-clause-ok : goal.returns-clause-ok
returns-clause-ok c =
    let s = c.self.inside in
    let made : Made s.slots.slots c.make.new.slots.slots s.next c.max-self-inside.result s.journal c.make.new.journal c.args.change.now =
    record { slots_are = c.in_ok-make.ensures.slots; next_is = c.max-self-inside.ensures; journal_is = c.in_ok-make.ensures.journal } in
    changed_view s.slots.slots c.make.new.slots.slots s.next c.max-self-inside.result s.journal c.make.new.journal s.marks.items c.args.change.now
    c.recall_order.ensures.files.rises made
    ∙ ap (λ (h : History). history_after h c.args.change.now) c.self.view_is

pub returns-clause-marked : goal.returns-clause-marked
returns-clause-marked c =
    let s = c.self.inside in
    let made : Made s.slots.slots c.make.new.slots.slots s.next c.max-self-inside.result s.journal c.make.new.journal c.args.change.now =
    record { slots_are = c.in_ok-make.ensures.slots; next_is = c.max-self-inside.ensures; journal_is = c.in_ok-make.ensures.journal } in
    let r = c.requires in
    let fits : Fits (history_of s.slots.slots s.next s.journal s.marks.items) c.args.change.now =
    subst (λ (h : History). Fits h c.args.change.now) (sym c.self.view_is)
    (record { current = r.current; own = r.own; positive = r.positive; small = r.small; room = r.room }) in
    ap (λ (h : History). marked_of h)
    (changed_view s.slots.slots c.make.new.slots.slots s.next c.max-self-inside.result s.journal c.make.new.journal s.marks.items c.args.change.now
    c.recall_order.ensures.files.rises made)
    ∙ marked_after (history_of s.slots.slots s.next s.journal s.marks.items) c.args.change.now c.self.invariant.sound fits
    ∙ ap (λ (h : History). after_change c.args.change.now (marked_of h)) c.self.view_is

pub returns-clause-back : goal.returns-clause-back
returns-clause-back c =
    let s = c.self.inside in
    let made : Made s.slots.slots c.make.new.slots.slots s.next c.max-self-inside.result s.journal c.make.new.journal c.args.change.now =
    record { slots_are = c.in_ok-make.ensures.slots; next_is = c.max-self-inside.ensures; journal_is = c.in_ok-make.ensures.journal } in
    let r = c.requires in
    let fits : Fits (history_of s.slots.slots s.next s.journal s.marks.items) c.args.change.now =
    subst (λ (h : History). Fits h c.args.change.now) (sym c.self.view_is)
    (record { current = r.current; own = r.own; positive = r.positive; small = r.small; room = r.room }) in
    ap (λ (h : History). rows_before c.args.change.now h.rows)
    (changed_view s.slots.slots c.make.new.slots.slots s.next c.max-self-inside.result s.journal c.make.new.journal s.marks.items c.args.change.now
    c.recall_order.ensures.files.rises made)
    ∙ back (history_of s.slots.slots s.next s.journal s.marks.items) c.args.change.now c.self.invariant.sound fits
    ∙ ap (λ (h : History). h.rows) c.self.view_is
