-- The depth of lines, and one entry after another.
use Rattle.std.proofs.Common.{◌≡◌, ℕ, zero, suc, ◌+◌, ◌-◌, ◌<◌, ◌≤◌, List, ◌∷◌, ◌++◌, Result, length, codes, ◌∙◌, sym, ap, arith}
use Rattle.iv_catalogue.specs.Catalogues.{Schema}
use Rattle.iv_catalogue.specs.declared.cause.Refusal.{Refusal}
use Rattle.iv_machine.specs.declared.answer.Answer.{Answer}
use Rattle.iv_account.specs.declared.entry.Entry.{Entry}
use Rattle.iv_print.specs.AccountLines.{spaces, depth_after, entry_text, entries_text}

pub spaces_step : (depth : ℕ) → 0 < depth → spaces depth ≡ codes "  " ++ spaces (depth - 1)
spaces_step zero some = absurd (omega (arith, some))
spaces_step (suc depth) some = ap (λ d. codes "  " ++ spaces d) (omega arith)

pub entries_step : (s : Schema) (outcome : Result Answer Refusal) (depth next : ℕ) (entry : Entry) (all rest : List Entry)
    → all ≡ entry ∷ rest → next ≡ depth_after depth entry
    → entries_text s outcome depth all ≡ entry_text s outcome depth entry rest ++ entries_text s outcome next rest
entries_step s outcome depth next entry all rest is after =
    ap (entries_text s outcome depth) is
    ∙ ap (λ d. entry_text s outcome depth entry rest ++ entries_text s outcome d rest) (sym after)
