-- A loop that stores one entry of a table a turn: the invariant of every storing loop here, from its first turn to its last. Assumes nothing.
use Rattle.std.proofs.Common.{◌≡◌, ℕ, ◌+◌, ◌<◌, ◌≤◌, List, ◌++◌, length, get_or, drop, set, sym, refl, ap, ◌∙◌, subst, append-nil, add-zero, add-one, arith, length-append, length-drop, drop_of_length-le, get_or-drop}
use native.Mathlib.Nat.{le_dest}
use lib.Seq.{set-get_or}
use Rattle.arithmetic.specs.Table.{tabulate}
use Rattle.arithmetic.proofs.Tables.{length_tabulate, set_tabulate, get_d_beyond}

-- k of w entries of the table f stand at the beginning of s, which was s₀
pub record Stored (f : ℕ → ℕ) (s₀ s : List ℕ) (w k : ℕ) : Type 0 where
  pub at : k ≤ w
  pub room : w ≤ length s₀
  pub so_far : s ≡ tabulate f k ++ drop k s₀

pub none_stored : (f : ℕ → ℕ) {s₀ : List ℕ} {w : ℕ} → w ≤ length s₀ → Stored f s₀ s₀ w 0
unfolding tabulate
none_stored f h = record { at = omega arith; room = h; so_far = refl }

module _ {f : ℕ → ℕ} {s₀ s : List ℕ} {w k : ℕ} (i : Stored f s₀ s w k) where
  pub store : {v : ℕ} → k < w → v ≡ f k → Stored f s₀ (set s k v) w (k + 1)
  store {v} h q =
      let l : k < length s₀ = omega arith in
      record {
        at = omega arith;
        room = i.room;
        so_far = ap (λ (t : List ℕ). set t k v) i.so_far
            ∙ ap (set (tabulate f k ++ drop k s₀) k) q
            ∙ set_tabulate f k s₀ l
            ∙ ap (λ (n : ℕ). tabulate f n ++ drop n s₀) (sym (add-one k));
      }

  -- an entry that the list has already
  pub keep : k < w → get_or s₀ k 0 ≡ f k → Stored f s₀ s w (k + 1)
  keep h q =
      let e : get_or s k 0 ≡ f k = ap (λ (t : List ℕ). get_or t k 0) i.so_far ∙ at_next ∙ q in
      subst (λ (t : List ℕ). Stored f s₀ t w (k + 1)) (set-get_or s k 0) (store h e)
    where
      at_next : get_or (tabulate f k ++ drop k s₀) k 0 ≡ get_or s₀ k 0
      at_next =
          let z : k ≡ k + 0 = sym (add-zero k) in
          ap (λ (t : ℕ). get_or (tabulate f k ++ drop k s₀) t 0) z ∙ get_d_beyond f k (drop k s₀) 0 ∙ get_or-drop k s₀ 0 0 ∙ ap (λ (t : ℕ). get_or s₀ t 0) (add-zero k)

  -- the place by another name
  pub place : (n : ℕ) → k ≡ n → Stored f s₀ s w n
  place n e = rw e at i

  pub same : length s ≡ length s₀
  same = ap length i.so_far ∙ simp (length-append, length_tabulate, length-drop) (omega arith)

  -- an entry that the loop has not reached
  pub ahead : (x : ℕ) → k ≤ x → get_or s x 0 ≡ get_or s₀ x 0
  ahead x h =
      let (y, p) = le_dest h in
      rw (i.so_far, ← p) (get_d_beyond f k (drop k s₀) y ∙ get_or-drop k s₀ y 0)

  pub all_stored : w ≤ k → s ≡ tabulate f w ++ drop w s₀
  all_stored h =
      let e : k ≡ w = omega arith in
      i.so_far ∙ ap (λ (n : ℕ). tabulate f n ++ drop n s₀) e

  -- where nothing comes after the table
  pub filled : length s₀ ≡ w → w ≤ k → s ≡ tabulate f w
  filled l h =
      let short : length s₀ ≤ w = omega arith in
      all_stored h ∙ ap (λ (t : List ℕ). tabulate f w ++ t) (drop_of_length-le s₀ short) ∙ append-nil (tabulate f w)

-- four entries a turn, as the lanes of a pixel are stored
pub store_four : {f : ℕ → ℕ} {s₀ s : List ℕ} {w k : ℕ} {a b c d : ℕ} → Stored f s₀ s w k → k + 4 ≤ w → a ≡ f k → b ≡ f (k + 1) → c ≡ f (k + 2) → d ≡ f (k + 3)
    → Stored f s₀ (set (set (set (set s k a) (k + 1) b) (k + 2) c) (k + 3) d) w (k + 4)
store_four {k = k} i h p q r t =
    let two = place (store (store i (omega arith) p) (omega arith) q) (k + 2) (omega arith) in
    let three = place (store two (omega arith) r) (k + 3) (omega arith) in
    place (store three (omega arith) t) (k + 4) (omega arith)
