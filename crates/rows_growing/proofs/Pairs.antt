-- What a column between two pixels is made of: so many parts of a byte, and four lanes of them by what the calls say. Assumes nothing.
use Prim.Native.Nat.{ℕ, ◌*◌, ◌%◌, ◌^◌, ◌≤◌, ◌<◌}
use mathlib.Core.Path.{◌≡◌, ap, ap₂, ◌∙◌}
use native.Mathlib.Omega.{arith}
use native.Mathlib.Nat.{mul-le-mul}
use Rattle.arithmetic.specs.Word.{wrap_add, wrap_sub, wrap_mul}
use Rattle.pixels.specs.Sizes.{max_side}
use Rattle.rows.specs.declared.Quad.{Quad}
use Rattle.rows.specs.Inner.Import.{at, Four}
use Rattle.rows.proofs.Lanes.{both, three}
use Rattle.rows_growing.specs.Inner.{ShareAsks}

-- ---- so many parts of a byte
pub share_is : (b p r : ℕ) → ShareAsks b p → r ≡ wrap_mul (b % 256) (p % 32768) → r % 4194304 ≡ wrap_mul b p
share_is b p r a e =
    let hb : b % 256 ≡ b = omega (arith, a.byte_small) in
    let hp : p % 32768 ≡ p = omega (arith, a.parts_small) in
    let most : b * p ≤ 255 * 16383 = mul-le-mul {n₁ = b} {m₁ = p} {n₂ = 255} {m₂ = 16383} a.byte_small (omega (arith, a.parts_small)) in
    ap (λ (t : ℕ). t % 4194304) (e ∙ ap₂ wrap_mul hb hp) ∙ cut (b * p) most
  where
    cut : (t : ℕ) → t ≤ 255 * 16383 → t % 2 ^ 32 % 4194304 ≡ t % 2 ^ 32
    cut t h = omega arith

-- four lanes, by what the calls say
pub between_of : (left right : Quad) (acc rest : ℕ) {kept most v : Quad} → rest < max_side → Four (λ k. at kept k ≡ wrap_mul (at left k) acc) → Four (λ k. at most k ≡ wrap_mul (at right k) (rest % 32768))
    → Four (λ k. at v k ≡ wrap_add (at kept k) (at most k)) → Four (λ k. at v k ≡ wrap_add (wrap_mul (at left k) acc) (wrap_mul (at right k) rest))
between_of left right acc rest small kept most v =
    let e : rest % 32768 ≡ rest = omega arith in
    three (λ k f g h. h ∙ ap₂ (λ (t u : ℕ). wrap_add t u) f (g ∙ ap (λ (u : ℕ). wrap_mul (at right k) u) e)) kept most v

pub fall_of_is : (left right : Quad) (step : ℕ) {d f : Quad} → Four (λ k. at d k ≡ wrap_sub (at left k) (at right k)) → Four (λ k. at f k ≡ wrap_mul (at d k) step)
    → Four (λ k. at f k ≡ wrap_mul (wrap_sub (at left k) (at right k)) step)
fall_of_is left right step d f = both (λ k g h. h ∙ ap (λ (t : ℕ). wrap_mul t step) g) d f
