-- The line of the name that a refusal is about.
use Rattle.std.proofs.Common.{◌≡◌, ℕ, suc, ◌-◌, List, [], ◌∷◌, ◌++◌, length, take, drop, refl, ◌∙◌, ap, arith, length-append}
use Rattle.std.specs.Prelude.{min}
use Rattle.std.proofs.Math.Seq.{drop-append_seam}

-- what is behind the first line
pub behind_line : (line name both : List ℕ) → both ≡ line ++ name → drop (min (length line) (length both)) both ≡ name
behind_line line name both e =
    let n : min (length line) (length both) ≡ length line = omega (arith, ap length e, length-append line name) in
    ap (λ k. drop k both) n ∙ ap (drop (length line)) e ∙ drop-append_seam line name

-- a line behind its first character, without the second one and without its end
pub inner : (rest : List ℕ) → take (length rest - 1 - min (length rest - 1) 1) (drop (min (length rest - 1) 1) rest) ≡ take (length rest - 2) (drop 1 rest)
inner [] = refl
inner (a ∷ []) = refl
inner (a ∷ b ∷ rest) =
    let n : ℕ = length (a ∷ b ∷ rest) in
    let one : min (n - 1) 1 ≡ 1 = omega arith in
    let left : n - 1 - 1 ≡ n - 2 = omega arith in
    ap (λ k. take (n - 1 - k) (drop k (a ∷ b ∷ rest))) one ∙ ap (λ k. take k (drop 1 (a ∷ b ∷ rest))) left
