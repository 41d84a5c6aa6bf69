-- The rows of a table, which are the chunks of its cells.
use Rattle.std.proofs.Common.{◌≡◌, ℕ, zero, suc, ◌+◌, ◌*◌, ◌<◌, List, [], get_or, drop, ap, ◌∙◌, arith}
use Rattle.std.proofs.lemmas.List.{get_or-take, get_or-drop}
use Rattle.std.specs.Simd.{first_chunks}
use Rattle.cells.specs.Cells.{cell}

pub in_chunk : (n k : ℕ) (xs : List ℕ) (r m : ℕ) → r < k → m < n → get_or (get_or (first_chunks n k xs) r []) m 0 ≡ get_or xs (n * r + m) 0
in_chunk n zero xs r m rl ml = absurd (omega arith)
in_chunk n (suc k) xs zero m rl ml =
    let place : m ≡ n * 0 + m = omega arith in
    get_or-take n xs m 0 ml ∙ ap (λ p. get_or xs p 0) place
in_chunk n (suc k) xs (suc r) m rl ml =
    let place : n + (n * r + m) ≡ n * suc r + m = grind arith in
    in_chunk n k (drop n xs) r m (omega arith) ml ∙ get_or-drop n xs (n * r + m) 0 ∙ ap (λ p. get_or xs p 0) place

-- a cell of a row of a layer
pub cell_of_row : (x : List ℕ) (layers rows : List (List ℕ)) (m n i j k : ℕ) → layers ≡ first_chunks 64 m x → rows ≡ first_chunks 8 n (get_or layers k [])
    → i < 8 → j < n → j < 8 → k < m → get_or (get_or rows j []) i 0 ≡ cell x i j k
cell_of_row x layers rows m n i j k el er il jn jl kl =
    let place : 64 * k + (8 * j + i) ≡ i + 8 * j + 64 * k = omega arith in
    ap (λ rs. get_or (get_or rs j []) i 0) er ∙ in_chunk 8 n (get_or layers k []) j i jn il
    ∙ ap (λ ls. get_or (get_or ls k []) (8 * j + i) 0) el ∙ in_chunk 64 m x k (8 * j + i) kl (omega arith)
    ∙ ap (λ p. get_or x p 0) place
