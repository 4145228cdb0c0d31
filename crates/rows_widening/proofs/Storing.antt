-- Numbers stored side by side: a column's lanes are so many more entries of the row's table. Assumes nothing.
use Rattle.std.proofs.Common.{◌≡◌, ℕ, zero, suc, ◌+◌, ◌<◌, ◌≤◌, List, length, set, refl, ◌∙◌, arith, length-set}
use Rattle.arithmetic.proofs.Stores.{Stored, store, place}
use Rattle.rows_widening.specs.Inner.{set_all}

pub set_all_none : (half : List ℕ) (at : ℕ) (f : ℕ → ℕ) → half ≡ set_all half at f 0
unfolding set_all
set_all_none half at f = refl

pub set_all_more : (half : List ℕ) (at : ℕ) (f : ℕ → ℕ) (k v : ℕ) → v ≡ f k → set (set_all half at f k) (at + k) v ≡ set_all half at f (suc k)
unfolding set_all
set_all_more half at f k v e = rw e refl

pub set_all_length : (half : List ℕ) (at : ℕ) (f : ℕ → ℕ) (c : ℕ) → length (set_all half at f c) ≡ length half
unfolding set_all
set_all_length half at f zero = refl
set_all_length half at f (suc c) = length-set (set_all half at f c) (at + c) (f c) ∙ set_all_length half at f c

pub stored_all : {F : ℕ → ℕ} {half₀ half : List ℕ} {w at : ℕ} (f : ℕ → ℕ) (c : ℕ) → Stored F half₀ half w at → at + c ≤ w → ((k : ℕ) → k < c → f k ≡ F (at + k))
    → Stored F half₀ (set_all half at f c) w (at + c)
unfolding set_all
stored_all {at = at} f zero v l same = place v (at + 0) (omega arith)
stored_all {at = at} f (suc c) v l same =
    place (store (stored_all f c v (omega arith) (λ k u. same k (omega arith))) (omega arith) (same c (omega arith))) (at + suc c) (omega arith)
