-- A turn of the loops of a height that grows: the byte of the newer and the older value is stored. Assumes nothing.
use Rattle.std.proofs.Common.{◌≡◌, ℕ, ◌+◌, ◌<◌, List, length, get_or, set, sym, ap, ◌∙◌, ap₂, arith}
use Rattle.arithmetic.specs.FixedPoint.{mult}
use Rattle.rows.specs.Output.{clamp, mixed}
use Rattle.rows_scaling.specs.Inner.Scaling.{GrowAsks, grow_byte}
use Rattle.arithmetic.proofs.Stores.{Stored, none_stored, store, place}
use Rattle.rows_scaling.proofs.Factors.{mixed_none}

-- the output, k values on
pub record Grown (b factor : ℕ) (work : List ℕ) (new old : ℕ) (out₀ out : List ℕ) (w k : ℕ) : Type 0 where
  pub bytes : Stored (grow_byte b factor work new old) out₀ out w k

pub grow_first : (b factor : ℕ) {work out : List ℕ} {new old : ℕ} → GrowAsks work new old out → Grown b factor work new old out out (length out) 0
grow_first b factor {work} {out} {new} {old} a = record { bytes = none_stored (grow_byte b factor work new old) (omega arith) }

-- the count by another name
pub grown_to : {b factor new old w k : ℕ} {work out₀ out : List ℕ} (n : ℕ) → k ≡ n → Grown b factor work new old out₀ out w k → Grown b factor work new old out₀ out w n
grown_to n e i = record { bytes = place i.bytes n e }

module _ {factor w k new : ℕ} {work out₀ out : List ℕ} where
  pub grow_one : {b old j r : ℕ} → Grown b factor work new old out₀ out w k
      → k < w → j ≡ mixed b (get_or work (new + k) 0) (get_or work (old + k) 0) → r ≡ clamp (mult j factor)
      → Grown b factor work new old out₀ (set out k r) w (k + 1)
  unfolding grow_byte
  grow_one i t e d = record { bytes = store i.bytes t (d ∙ ap (λ (x : ℕ). clamp (mult x factor)) e) }

  -- none of the older row
  pub level_one : {r : ℕ} → Grown 0 factor work new new out₀ out w k → k < w → r ≡ clamp (mult (get_or work (new + k) 0) factor)
      → Grown 0 factor work new new out₀ (set out k r) w (k + 1)
  level_one i t d = grow_one i t (sym (mixed_none (get_or work (new + k) 0) (get_or work (new + k) 0))) d

-- two values, the second from the next places on
pub grow_two : {b factor new old next after w k x y p q : ℕ} {work out₀ out : List ℕ} → Grown b factor work new old out₀ out w k
    → k + 1 < w → (next ≡ new + 1) × (after ≡ old + 1)
    → x ≡ mixed b (get_or work (new + k) 0) (get_or work (old + k) 0) → y ≡ mixed b (get_or work (next + k) 0) (get_or work (after + k) 0)
    → p ≡ clamp (mult x factor) → q ≡ clamp (mult y factor)
    → Grown b factor work new old out₀ (set (set out k p) (k + 1) q) w (k + 2)
grow_two {b} {new = new} {old} {next} {after} {k = k} {y = y} {work = work} i t n ex ey ep eq =
    let one = grow_one i (omega arith) ex ep in
    let y-is : y ≡ mixed b (get_or work (new + (k + 1)) 0) (get_or work (old + (k + 1)) 0) =
    ey ∙ ap₂ (λ (c d : ℕ). mixed b (get_or work c 0) (get_or work d 0)) (omega (arith, n.0)) (omega (arith, n.1)) in
    record { bytes = place (grow_one one t y-is eq).bytes (k + 2) (omega arith) }
