-- One entry after another: how deep it is, what began last, and what was counted.
use Rattle.std.proofs.Common.{◌≡◌, ℕ, suc, ◌+◌, ◌≤◌, List, ◌∷◌, length, ◌∙◌, sym, ap, arith}
use Rattle.iv_account.specs.declared.entry.Entry.{Entry}
use Rattle.iv_account.specs.declared.entry.Entry.TheVariants.{Changed, Acted, Ran, Skipped, Began, Ended, Faulted, Disagreed, Failed, Standing, NotAdded}
use Rattle.iv_text.specs.Ways.{depth_after, depth_from, latest_after, latest_from, used_after, used_from}
use Rattle.iv_text.specs.declared.way.Latest.{Latest}

-- an entry makes what comes after it at most one deeper
pub depth_grows : (depth : ℕ) (entry : Entry) → depth_after depth entry ≤ suc depth
depth_grows depth (Changed changes) = omega arith
depth_grows depth (Acted actions) = omega arith
depth_grows depth (Ran id seen) = omega arith
depth_grows depth (Skipped id seen) = omega arith
depth_grows depth (Began place) = omega arith
depth_grows depth Ended = omega arith
depth_grows depth (Faulted fault rows) = omega arith
depth_grows depth (Disagreed fault rows how) = omega arith
depth_grows depth (Failed f) = omega arith
depth_grows depth (Standing names) = omega arith
depth_grows depth (NotAdded k rows) = omega arith

pub depth_bounded : (depth most : ℕ) (entry : Entry) (all rest : List Entry) → depth + length all ≤ most → all ≡ entry ∷ rest
    → depth_after depth entry + length rest ≤ most
depth_bounded depth most entry all rest bound is =
    let grows : depth_after depth entry ≤ suc depth = depth_grows depth entry in
    let size : length all ≡ suc (length rest) = ap length is in
    omega (arith, bound, grows, size)

pub depth_step : (depth next all_depth : ℕ) (entry : Entry) (all rest : List Entry) → all ≡ entry ∷ rest → next ≡ depth_after depth entry
    → depth_from depth all ≡ all_depth → depth_from next rest ≡ all_depth
depth_step depth next all_depth entry all rest is after same =
    ap (λ d. depth_from d rest) after ∙ sym (ap (depth_from depth) is) ∙ same

pub latest_step : (level depth next : ℕ) (latest later whole : Latest) (entry : Entry) (all rest : List Entry) → all ≡ entry ∷ rest
    → next ≡ depth_after depth entry → later ≡ latest_after level depth latest entry
    → latest_from level depth latest all ≡ whole → latest_from level next later rest ≡ whole
latest_step level depth next latest later whole entry all rest is after then same =
    ap (λ d. latest_from level d later rest) after ∙ ap (λ l. latest_from level (depth_after depth entry) l rest) then
    ∙ sym (ap (latest_from level depth latest) is) ∙ same

pub used_step : (used next whole : ℕ) (entry : Entry) (all rest : List Entry) → all ≡ entry ∷ rest → next ≡ used_after used entry
    → used_from used all ≡ whole → used_from next rest ≡ whole
used_step used next whole entry all rest is after same =
    ap (λ u. used_from u rest) after ∙ sym (ap (used_from used) is) ∙ same
