-- The tests of an offer and a take as the code makes them: each says whether its cause applies. Assumes nothing.
use Prim.Native.Nat.{ℕ, ◌*◌, ◌/◌, ◌%◌, ◌≤◌, ◌<◌}
use mathlib.Core.Path.{◌≡◌, sym, ap, ◌∙◌}
use mathlib.Core.Bool.{Bool, true, false, not, or-true}
use mathlib.Core.Logic.{◌⊎◌, inl, inr}
use native.Mathlib.Omega.{arith}
use lib.Dec.{ltb}
use borrow.Author.Tests.{eq-eqb, ne_eqb, lt-ltb, le-ltb, ltb-true, ltb-false}
use Rattle.pixels.proofs.Truths.{test}
use Rattle.pixels.specs.Sizes.{row_bytes}
use Rattle.job_rules.specs.declared.Plan.{Plan}
use Rattle.job_rules.specs.Rules.{lanes_of, R, lawful_of, bad_rows}

-- ---- the record; b is what `check` answered
module _ (p : Plan) (k t : ℕ) (f : Bool) (b : Bool) (is : b ≡ lawful_of p k t f) where
  pub unlawful : not b ≡ true → not (lawful_of p k t f) ≡ true
  unlawful e = ap not (sym is) ∙ e

  pub lawful_test : not b ≡ false → not (lawful_of p k t f) ≡ false
  lawful_test e = ap not (sym is) ∙ e

-- ---- the bytes lent; s is the length of a source row
pub rows_empty : (p : Plan) (n : ℕ) → n ≡ 0 → bad_rows p n ≡ true
rows_empty p n e = simp (eq-eqb n 0 e)

module _ (p : Plan) (n s : ℕ) (is : s ≡ row_bytes (lanes_of p) p.source.width) (some : n ≡ 0 → ⊥) where
  pub rows_ragged : (n % s ≡ 0 → ⊥) → bad_rows p n ≡ true
  rows_ragged e = simp (ne_eqb (n % row_bytes (lanes_of p) p.source.width) 0 (rw is at e), or-true)

  pub rows_whole : n % s ≡ 0 → bad_rows p n ≡ false
  rows_whole e = simp (ne_eqb n 0 some, eq-eqb (n % row_bytes (lanes_of p) p.source.width) 0 (rw is at e))

-- ---- the rows made; x is R(k)
module _ (p : Plan) (k t : ℕ) (f : Bool) (x : ℕ) (is : x ≡ R p k) where
  pub made_above : t < x → ltb t (R p k) ≡ true
  made_above l = lt-ltb t (R p k) (rw is at l)

  pub made_reached : x ≤ t → ltb t (R p k) ≡ false
  made_reached l = le-ltb t (R p k) (rw is at l)

-- ---- the work values: two halves of s values are more than n exactly if one half is more than n / 2
pub halves : (n s : ℕ) → ltb (n / 2) s ≡ ltb n (2 * s)
halves n s = by (test (ltb (n / 2) s))
  where
    by : (ltb (n / 2) s ≡ true) ⊎ (ltb (n / 2) s ≡ false) → ltb (n / 2) s ≡ ltb n (2 * s)
    by (inl e) = let l = ltb-true (n / 2) s e in e ∙ sym (lt-ltb n (2 * s) (omega arith))
    by (inr e) = let l = ltb-false (n / 2) s e in e ∙ sym (le-ltb n (2 * s) (omega arith))
