-- Accounts in JSON: one entry after another, and the ends of statements.
use Rattle.std.proofs.Common.{◌≡◌, ℕ, zero, suc, ◌-◌, ◌<◌, Bool, List, ◌∷◌, ◌++◌, Result, codes, ◌∙◌, sym, ap, append_assoc, arith}
use Rattle.iv_catalogue.specs.Catalogues.{Schema}
use Rattle.iv_catalogue.specs.declared.cause.Refusal.{Refusal}
use Rattle.iv_machine.specs.declared.answer.Answer.{Answer}
use Rattle.iv_account.specs.declared.entry.Entry.{Entry}
use Rattle.iv_print.specs.AccountLines.{depth_after}
use Rattle.iv_print.specs.JsonAccounts.{begins, ends, json_entries, json_entry, separator}

pub ends_step : (depth : ℕ) → 0 < depth → ends depth ≡ codes "]}" ++ ends (depth - 1)
ends_step zero some = absurd (omega (arith, some))
ends_step (suc depth) some = ap (λ d. codes "]}" ++ ends d) (omega arith)

pub entries_step : (s : Schema) (outcome : Result Answer Refusal) (depth next : ℕ) (first later : Bool) (entry : Entry) (all rest : List Entry)
    → all ≡ entry ∷ rest → next ≡ depth_after depth entry → later ≡ begins entry
    → json_entries s outcome depth first all ≡ (separator first entry ++ json_entry s outcome entry rest) ++ json_entries s outcome next later rest
entries_step s outcome depth next first later entry all rest is after begun =
    ap (json_entries s outcome depth first) is
    ∙ ap (λ d. separator first entry ++ (json_entry s outcome entry rest ++ json_entries s outcome d (begins entry) rest)) (sym after)
    ∙ ap (λ b. separator first entry ++ (json_entry s outcome entry rest ++ json_entries s outcome next b rest)) (sym begun)
    ∙ sym (append_assoc (separator first entry) (json_entry s outcome entry rest) (json_entries s outcome next later rest))
