-- Laws of `tabulate`: its length, its entries, one more entry stored, and when two tables are the same. Assumes nothing.
use Rattle.std.proofs.Common.{◌≡◌, ℕ, zero, suc, ◌+◌, ◌<◌, List, [], ◌∷◌, ◌++◌, length, get_or, drop, set, sym, refl, ap, ◌∙◌, ap₂, ⊎_elim, append_assoc, le_of_suc-le-suc, eq-or-lt_of_le, arith, length-append, drop-cons, get_or-append-add, ext_get_or, drop_at}
use lib.ListN.{get_or-append}
use lib.Seq.{set_at, get_or_at}
use Rattle.arithmetic.specs.Table.{tabulate}

pub length_tabulate : (f : ℕ → ℕ) (n : ℕ) → length (tabulate f n) ≡ n
unfolding tabulate
length_tabulate f zero = refl
length_tabulate f (suc n) = omega (arith, length-append (tabulate f n) (f n ∷ []), length_tabulate f n)

-- ---- entries
pub get_d_tabulate : (f : ℕ → ℕ) (n i : ℕ) → i < n → get_or (tabulate f n) i 0 ≡ f i
unfolding tabulate
get_d_tabulate f zero i h = absurd (omega arith)
get_d_tabulate f (suc n) i h =
    ⊎_elim
    (λ e. rw e (get_or_at (tabulate f n) (f n) [] 0 n (length_tabulate f n)))
    (λ lt. get_or-append (tabulate f n) (f n ∷ []) 0 i (rw length_tabulate lt) ∙ get_d_tabulate f n i lt)
    (eq-or-lt_of_le (le_of_suc-le-suc h))

-- the entries of a table with a list after it
pub get_d_table : (f : ℕ → ℕ) (n : ℕ) (s : List ℕ) (i : ℕ) → i < n → get_or (tabulate f n ++ s) i 0 ≡ f i
get_d_table f n s i h =
    get_or-append (tabulate f n) s 0 i (rw length_tabulate h) ∙ get_d_tabulate f n i h

pub get_d_beyond : (f : ℕ → ℕ) (n : ℕ) (s : List ℕ) (i : ℕ) → get_or (tabulate f n ++ s) (n + i) 0 ≡ get_or s i 0
get_d_beyond f n s i =
    ap (λ (k : ℕ). get_or (tabulate f n ++ s) (k + i) 0) (sym (length_tabulate f n))
    ∙ get_or-append-add (tabulate f n) s i 0

-- ---- a store of the next entry
pub set_tabulate : (f : ℕ → ℕ) (n : ℕ) (s : List ℕ) → n < length s → set (tabulate f n ++ drop n s) n (f n) ≡ tabulate f (suc n) ++ drop (suc n) s
unfolding tabulate
set_tabulate f n s h =
    rw (drop-cons s n 0)
    (set_at (tabulate f n) (get_or s n 0) (drop (suc n) s) (f n) n (length_tabulate f n)
    ∙ sym (append_assoc (tabulate f n) (f n ∷ []) (drop (suc n) s)))

-- ---- the same entries, the same table
pub tabulate_cong : (f g : ℕ → ℕ) (n : ℕ) → ((i : ℕ) → i < n → f i ≡ g i) → tabulate f n ≡ tabulate g n
unfolding tabulate
tabulate_cong f g zero h = refl
tabulate_cong f g (suc n) h =
    ap₂ (λ (s : List ℕ) (x : ℕ). s ++ (x ∷ [])) (tabulate_cong f g n (λ i l. h i (omega arith))) (h n (omega arith))

-- a list is the table of its entries
pub tabulate_is : (f : ℕ → ℕ) (s : List ℕ) → ((i : ℕ) → i < length s → get_or s i 0 ≡ f i) → s ≡ tabulate f (length s)
tabulate_is f s h =
    ext_get_or 0 s (tabulate f (length s)) (sym (length_tabulate f (length s)))
    (λ i l. h i l ∙ sym (get_d_tabulate f (length s) i l))

-- ---- parts
pub drop_table : (f : ℕ → ℕ) (n : ℕ) (s : List ℕ) → drop n (tabulate f n ++ s) ≡ s
drop_table f n s = drop_at (tabulate f n) s n (length_tabulate f n)
