-- A buffer filled from its start, stretch by stretch: what a store of the next stretch makes of it. Assumes nothing.
use Rattle.std.proofs.Common.{◌≡◌, ℕ, zero, suc, ◌+◌, ◌≤◌, List, [], ◌∷◌, ◌++◌, length, get_or, take, drop, set, sym, refl, ap, ◌∙◌, append_assoc, append-nil, add-zero, add-suc, arith, drop_of_length-le, drop-drop, take_at, drop_at}
use lib.Seq.{sets-eq}
use Rattle.arithmetic.specs.Table.{tabulate}

-- the next stretch, of m values, stored after the n that are done
pub stretch : (done part out out₀ : List ℕ) (n m : ℕ) → length done ≡ n → out ≡ done ++ drop n out₀ → take n out ++ (part ++ drop (n + m) out) ≡ (done ++ part) ++ drop (n + m) out₀
stretch done part out out₀ n m long e =
    let t : take n out ≡ done = ap (take n) e ∙ take_at done (drop n out₀) n long in
    let r : drop n out ≡ drop n out₀ = ap (drop n) e ∙ drop_at done (drop n out₀) n long in
    let d : drop (n + m) out ≡ drop (n + m) out₀ = sym (drop-drop m n out) ∙ ap (drop m) r ∙ drop-drop m n out₀ in
    rw (t, d) (sym (append_assoc done part (drop (n + m) out₀)))

-- a table in two parts
pub tabulate_add : (f : ℕ → ℕ) (n m : ℕ) → tabulate f (n + m) ≡ tabulate f n ++ tabulate (λ j. f (n + j)) m
unfolding tabulate
tabulate_add f n zero = rw (add-zero, append-nil)
tabulate_add f n (suc m) =
    rw add-suc (rw (tabulate_add f n m) (append_assoc (tabulate f n) (tabulate (λ j. f (n + j)) m) (f (n + m) ∷ [])))

-- four values stored one by one
pub put_four : (out px : List ℕ) (at : ℕ) → length px ≡ 4 → at + 4 ≤ length out → set (set (set (set out at (get_or px 0 0)) (at + 1) (get_or px 1 0)) (at + 2) (get_or px 2 0)) (at + 3) (get_or px 3 0) ≡ take at out ++ (px ++ drop (at + 4) out)
put_four out [] at n h = absurd (omega arith)
put_four out (a ∷ []) at n h = absurd (omega arith)
put_four out (a ∷ b ∷ []) at n h = absurd (omega arith)
put_four out (a ∷ b ∷ c ∷ []) at n h = absurd (omega arith)
put_four out (a ∷ b ∷ c ∷ d ∷ []) at n h =
    let e1 : at + 1 ≡ suc at = omega arith in
    let e2 : at + 2 ≡ suc (suc at) = omega arith in
    let e3 : at + 3 ≡ suc (suc (suc at)) = omega arith in
    rw (e1, e2, e3) (sets-eq (a ∷ b ∷ c ∷ d ∷ []) out at h ∙ append_assoc (take at out) (a ∷ b ∷ c ∷ d ∷ []) (drop (at + 4) out))
put_four out (a ∷ b ∷ c ∷ d ∷ e ∷ l) at n h = absurd (omega arith)

-- nothing is done yet, and all is done
pub none_filled : (f : ℕ → ℕ) (out : List ℕ) → out ≡ tabulate f 0 ++ drop 0 out
unfolding tabulate
none_filled f out = refl

pub all_filled : (f : ℕ → ℕ) (n : ℕ) (out out₀ : List ℕ) → length out₀ ≡ n → out ≡ tabulate f n ++ drop n out₀ → out ≡ tabulate f n
all_filled f n out out₀ h e =
    let d : drop n out₀ ≡ [] = drop_of_length-le out₀ {i = n} (omega arith) in
    e ∙ rw (d, append-nil)
