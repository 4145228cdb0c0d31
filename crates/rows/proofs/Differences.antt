-- One lane of a column between two pixels, left and right, of which it has acc of span parts and the rest. One column on, acc is less by step and the value
-- by (left - right) × step: modulo 2^32 both are exact, and with bytes for pixels the value itself is. Assumes nothing.
use Rattle.std.proofs.Common.{◌≡◌, ℕ, suc, ◌+◌, ◌-◌, ◌*◌, ◌/◌, ◌%◌, ◌^◌, ◌<◌, ◌≤◌, ◌⊎◌, sym, ap, ◌∙◌, inl, inr, mul-le-mul, mul-le-mul_left, arith}
use native.Mathlib.Nat.{le_dest}
use Rattle.arithmetic.specs.Word.{wrap_add, wrap_sub, wrap_mul}
use Rattle.arithmetic.proofs.Orders.{le_or_lt}
use Rattle.arithmetic.proofs.Products.{times}
use Rattle.pixels.specs.Sizes.{max_side}
use Rattle.rows.specs.Column.{value}
use Rattle.rows.specs.Inner.Differences.{LaneStands}
use Rattle.rows.proofs.Columns.{blend_exact, grow_at, value_grow}

part_most : {b p : ℕ} → b ≤ 255 → p ≤ 16384 → b * p ≤ 4177920
part_most {b} {p} hb hp = mul-le-mul {n₁ = b} {m₁ = p} {n₂ = 255} {m₂ = 16384} hb hp

-- a fall taken off, with the products as numbers: x y are left × acc and right × acc after it, u v left × step and right × step, z right × span
fall_taken : (value fall value' u v x y y' z : ℕ) → x ≤ 4177920 → u ≤ 4177920 → z ≤ 4177920 → y ≤ z → fall < 2 ^ 32 → (fall + v) % 2 ^ 32 ≡ u
    → value + y' ≡ (x + u) + z → y' ≡ y + v → value' ≡ wrap_sub value fall → value' + y ≡ x + z
fall_taken value fall value' u v x y y' z hx hu hz hy hf f e q t =
    let back : (value' + fall) % 2 ^ 32 ≡ value = omega (arith, t) in
    let word : value' < 2 ^ 32 = omega (arith, t) in
    let (i, p) = whole_times back in
    let (k, w) = whole_times f in
    let (rest, o) = le_dest hy in
    same value' (x + rest) k i word (omega (arith, hx, hz, o)) (omega (arith, p, w, e, q, o)) (omega (arith, o))
  where
    whole_times : {a b : ℕ} → a % 2 ^ 32 ≡ b → (q : ℕ) × (a ≡ b + 2 ^ 32 * q)
    whole_times {a} h = (a / 2 ^ 32, omega (arith, h))

    same : (a b i j : ℕ) → a < 2 ^ 32 → b < 2 ^ 32 → a + 2 ^ 32 * i ≡ b + 2 ^ 32 * j → b + y ≡ x + z → a + y ≡ x + z
    same a b i j ha hb h g = omega arith

module _ (l r span step : ℕ) (l-byte : l ≤ 255) (r-byte : r ≤ 255) (span_small : span < max_side) (step_small : step ≤ span) where
  fall_exact : (fall : ℕ) → fall ≡ wrap_mul (wrap_sub l r) step → (fall + r * step) % 2 ^ 32 ≡ l * step
  fall_exact fall e = by (le_or_lt r l)
    where
      least : l * step ≤ 4177920
      least = part_most l-byte (omega arith)

      on : (d : ℕ) → d ≡ wrap_sub l r → (d + r ≡ l) ⊎ (d + r ≡ l + 2 ^ 32) → (fall + r * step) % 2 ^ 32 ≡ l * step
      on d q (inl h) =
          let f : fall ≡ d * step % 2 ^ 32 = e ∙ ap (λ (t : ℕ). wrap_mul t step) (sym q) in
          omega (arith, f, times step h, least)
      on d q (inr h) =
          let f : fall ≡ d * step % 2 ^ 32 = e ∙ ap (λ (t : ℕ). wrap_mul t step) (sym q) in
          omega (arith, f, times step h, least)

      by : (r ≤ l) ⊎ (l < r) → (fall + r * step) % 2 ^ 32 ≡ l * step
      by (inl h) = on (l - r) (omega arith) (inl (omega arith))
      by (inr h) = on (2 ^ 32 + l - r) (omega arith) (inr (omega arith))

  fall_small : (fall : ℕ) → fall ≡ wrap_mul (wrap_sub l r) step → fall < 2 ^ 32
  fall_small fall e = word (wrap_sub l r * step) e
    where
      word : (t : ℕ) → fall ≡ t % 2 ^ 32 → fall < 2 ^ 32
      word t h = omega arith

  -- a pair entered
  pub lane_enters : (acc rest value fall : ℕ) → acc + rest ≡ span → value ≡ wrap_add (wrap_mul l acc) (wrap_mul r rest) → fall ≡ wrap_mul (wrap_sub l r) step
      → LaneStands l r acc span step value fall
  lane_enters acc rest value fall whole v f =
      let exact : value ≡ l * acc + r * rest = v ∙ blend_exact l r acc rest l-byte r-byte (omega arith) (omega arith) in
      record { value_is = omega (arith, times r whole, exact); fall_is = fall_exact fall f; fall_word = fall_small fall f }

  -- one column on in the same pair
  pub lane_goes : (acc value fall value' : ℕ) → step ≤ acc → acc ≤ span → LaneStands l r acc span step value fall → value' ≡ wrap_sub value fall
      → LaneStands l r (acc - step) span step value' fall
  lane_goes acc value fall value' some most w e =
      let (a, up) = le_dest some in
      let down : acc - step ≡ a = omega arith in
      let small : a ≤ span = omega arith in
      rw down
      (record {
        value_is =
            fall_taken value fall value' (l * step) (r * step) (l * a) (r * a) (r * acc) (r * span) (part_most l-byte (omega arith)) (part_most l-byte (omega arith))
            (part_most r-byte (omega arith)) (mul-le-mul_left r small) w.fall_word w.fall_is (w.value_is ∙ omega (arith, times l up)) (omega (arith, times r up)) e;
        fall_is = w.fall_is;
        fall_word = w.fall_word;
      })

-- the value is exact
lane_is : {l r acc span step value fall : ℕ} → acc ≤ span → LaneStands l r acc span step value fall → value ≡ l * acc + r * (span - acc)
lane_is {l} {r} {acc} {span} small w =
    let (rest, whole) = le_dest small in
    let e : span - acc ≡ rest = omega arith in
    omega (arith, times r whole, w.value_is) ∙ ap (λ (t : ℕ). l * acc + r * t) (sym e)

-- so it is column j's: x is the left pixel, and r the one after it, where there is one
pub lane_value : (p : ℕ → ℕ) {n m j x acc r span step v fall : ℕ} → n < m → j < m → span ≡ m - 1 → step ≡ n - 1 → acc + j * step ≡ suc x * span → acc ≤ span → x < n
    → (suc x < n → r ≡ p (suc x)) → LaneStands (p x) r acc span step v fall → v ≡ value p n m j
lane_value p {n} {m} {j} {x} {acc} {r} grows below span_is step_is along most inside right w =
    let here : acc + j * (n - 1) ≡ suc x * (m - 1) = rw (← span_is, ← step_is) along in
    lane_is most w
    ∙ ap (λ (t : ℕ). p x * acc + r * (t - acc)) span_is
    ∙ sym (grow_at p n m j x acc r grows below here (omega arith) inside right)
    ∙ sym (value_grow p n m j grows)
