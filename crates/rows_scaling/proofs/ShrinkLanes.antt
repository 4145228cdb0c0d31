-- A turn of the loops of a height that does not grow: f is stored in the first half, and the byte that it leaves in the output. Assumes nothing.
use Rattle.std.proofs.Common.{◌≡◌, ℕ, ◌+◌, ◌%◌, ◌^◌, ◌<◌, ◌≤◌, List, length, get_or, set, refl, ap, ◌∙◌, ap₂, arith}
use Rattle.arithmetic.specs.Word.{wrap_sub}
use Rattle.arithmetic.specs.FixedPoint.{mult, floor}
use Rattle.arithmetic.proofs.Words.{wrap_sub_is}
use Rattle.rows.specs.Output.{clamp}
use Rattle.rows_scaling.specs.Inner.Scaling.{shrink_left, shrink_byte, low_byte}
use Rattle.arithmetic.proofs.Stores.{Stored, none_stored, store, ahead}

-- f by the step 0
pub floor_none : (v : ℕ) {step : ℕ} → step ≡ 0 → 0 ≡ floor v step
unfolding floor
floor_none v e = rw e (omega arith)

-- both lists, k turns on
pub record Shrunk (step q w : ℕ) (work₀ out₀ work out : List ℕ) (k : ℕ) : Type 0 where
  pub left : Stored (shrink_left step w work₀) work₀ work w k
  pub bytes : Stored (shrink_byte step q w work₀) out₀ out w k

pub shrink_first : (step q : ℕ) {work out : List ℕ} → length out + length out ≤ length work → Shrunk step q (length out) work out work out 0
shrink_first step q {work} {out} h =
    record { left = none_stored (shrink_left step (length out) work) (omega arith); bytes = none_stored (shrink_byte step q (length out) work) (omega arith) }

module _ {step q w k : ℕ} {work₀ out₀ work out : List ℕ} (i : Shrunk step q w work₀ out₀ work out k) where
  -- f is read from the second half, which no turn reaches, and the difference from the first half's next value
  pub shrink_turn : {f s r : ℕ} → k < w → f < 2 ^ 32 → s < 2 ^ 32 → get_or work k 0 < 2 ^ 32 → f ≡ floor (get_or work (w + k) 0) step
      → (s + f) % 2 ^ 32 ≡ get_or work k 0 → r ≡ clamp (mult s q)
      → Shrunk step q w work₀ out₀ (set work k f) (set out k r) (k + 1)
  unfolding shrink_left shrink_byte
  shrink_turn {f} {s} t hf hs hw e d b =
      let second : get_or work (w + k) 0 ≡ get_or work₀ (w + k) 0 = ahead i.left (w + k) (omega arith) in
      let f-is : f ≡ shrink_left step w work₀ k = e ∙ ap (λ (x : ℕ). floor x step) second in
      let s-is : s ≡ wrap_sub (get_or work₀ k 0) (shrink_left step w work₀ k) =
      wrap_sub_is s (get_or work k 0) f hs hw hf d ∙ ap₂ wrap_sub (ahead i.left k (omega arith)) f-is in
      record {
        left = store i.left t f-is;
        bytes = store i.bytes t (b ∙ ap (λ (x : ℕ). clamp (mult x q)) s-is);
      }

-- the ratio 2^32: the first half becomes 0
pub record Taken (w : ℕ) (work₀ out₀ work out : List ℕ) (k : ℕ) : Type 0 where
  pub left : Stored (λ x. 0) work₀ work w k
  pub bytes : Stored (low_byte work₀) out₀ out w k

pub take_first : {work out : List ℕ} → length out + length out ≤ length work → Taken (length out) work out work out 0
take_first {work} {out} h =
    record { left = none_stored (λ x. 0) (omega arith); bytes = none_stored (low_byte work) (omega arith) }

pub take_turn : {w k : ℕ} {work₀ out₀ work out : List ℕ} → Taken w work₀ out₀ work out k → k < w
    → Taken w work₀ out₀ (set work k 0) (set out k (get_or work k 0 % 256)) (k + 1)
unfolding low_byte
take_turn {w} {k} i t =
    record {
      left = store i.left t refl;
      bytes = store i.bytes t (ap (λ (x : ℕ). x % 256) (ahead i.left k (omega arith)));
    }
