-- The table of the factors to restore, for every alpha: the lent ones between those of alpha 0 and 255. Assumes nothing.
use Prim.Native.Nat.{ℕ, zero, suc, ◌+◌, ◌≤◌, ◌<◌}
use mathlib.Core.Path.{◌≡◌, refl, sym, ap, ◌∙◌}
use mathlib.Core.List.{List, [], ◌∷◌, ◌++◌}
use native.Mathlib.Omega.{arith}
use native.Mathlib.Nat.{div-zero}
use native.Mathlib.Numerals.{add-one}
use lib.ListN.{get_or, set, replicate}
use Rattle.arithmetic.specs.Matte.{restore_factor, restore_factors}
use Rattle.arithmetic.specs.Table.{tabulate}
use Rattle.arithmetic.proofs.Stores.{Stored, none_stored, keep, store, filled}
use Rattle.arithmetic.proofs.Tables.{get_d_tabulate}

-- the factors of the alphas up to i stand at the beginning
pub record Laid (every : List ℕ) (i : ℕ) : Type 0 where
  pub so_far : Stored restore_factor (replicate 256 0) every 256 (i + 1)

-- that of alpha 0 is 0
pub lay_first : Laid (replicate 256 0) 0
unfolding restore_factor
lay_first = record { so_far = keep (none_stored restore_factor (omega arith)) (omega arith) (sym (div-zero 4278190080)) }

-- the next alpha's is a lent one. Stored one by one so, they are all laid; here they are stored at once, below
pub lay_turn : {factors every : List ℕ} {i : ℕ} → factors ≡ restore_factors → Laid every i → i < 254 → Laid (set every (i + 1) (get_or factors i 0)) (i + 1)
unfolding restore_factors
lay_turn {i = i} lent l h =
    record { so_far = store l.so_far (omega arith) (rw lent (get_d_tabulate (λ n. restore_factor (suc n)) 254 i h ∙ ap restore_factor (sym (add-one i)))) }

-- and that of alpha 255 is 2^24
pub lay_last : {every : List ℕ} {i : ℕ} → Laid every i → i ≡ 254 → set every 255 16777216 ≡ tabulate restore_factor 256
unfolding restore_factor
lay_last {i = i} l e = filled (store (rw e at l.so_far) (omega arith) refl) refl (omega arith)

-- ---- the lent ones at once
-- a table is its first entry and the table of those after it
first_entry : (f : ℕ → ℕ) (n : ℕ) → tabulate f (suc n) ≡ f 0 ∷ tabulate (λ i. f (suc i)) n
unfolding tabulate
first_entry f zero = refl
first_entry f (suc n) = ap (λ (t : List ℕ). t ++ (f (suc n) ∷ [])) (first_entry f n)

laid_between : {few : List ℕ} → few ≡ restore_factors → Laid (0 ∷ (few ++ (0 ∷ []))) 254
unfolding restore_factors restore_factor
laid_between e =
    let lent = ap (λ (t : List ℕ). 0 ∷ (t ++ (0 ∷ []))) e in
    let first = ap (λ (t : ℕ). t ∷ (tabulate (λ i. restore_factor (suc i)) 254 ++ (0 ∷ []))) (sym (div-zero 4278190080)) in
    let all = ap (λ (t : List ℕ). t ++ (0 ∷ [])) (sym (first_entry restore_factor 254)) in
    record { so_far = record { at = omega arith; room = omega arith; so_far = lent ∙ first ∙ all } }

pub factors_laid : {few : List ℕ} → few ≡ restore_factors → 0 ∷ set (few ++ (0 ∷ [])) 254 16777216 ≡ tabulate restore_factor 256
factors_laid e = lay_last (laid_between e) refl
