-- Pixels of one lane summed, one or four a turn: the sum so far is that of the pixels passed, and p is the place of the next. Assumes nothing.
use Rattle.std.proofs.Common.{◌≡◌, ℕ, ◌+◌, ◌*◌, ◌<◌, ◌≤◌, List, length, get_or, sym, ap, ◌∙◌, mul-le-mul, mul-le-mul_left, add-one, arith}
use Rattle.arithmetic.specs.Sum.{sum}
use Rattle.arithmetic.proofs.Sums.{sum_zero, sum_suc}
use Rattle.rows_widening.specs.Inner.{byte_of}
use Rattle.rows_planes.specs.Inner.{SumAsks}

pub record Summing (s : List ℕ) (lanes k from count total p i : ℕ) : Type 0 where
  pub so_far : i ≤ count
  pub place : p ≡ lanes * (from + i) + k
  pub sum_is : total ≡ sum (byte_of lanes s k) from i
  pub most : total ≤ 255 * i

module _ {s : List ℕ} {lanes k from count : ℕ} (asks : SumAsks s lanes k from count) where
  pub summing_first : Summing s lanes k from count 0 (lanes * from + k) 0
  summing_first = record {
    so_far = omega arith;
    place = ap (λ (t : ℕ). lanes * t + k) (let e : from ≡ from + 0 = omega arith in e);
    sum_is = sym (sum_zero (byte_of lanes s k) from);
    most = omega arith;
  }

  module _ {total p i : ℕ} (v : Summing s lanes k from count total p i) where
    -- the pixel q on from the next is in the row
    pub summing_inside : (q : ℕ) → i + q < count → p + q * lanes < length s
    summing_inside q l =
        let le : from + i + q + 1 ≤ from + count = omega arith in
        omega (arith, v.place, asks.whole, asks.lane, mul-le-mul_left lanes le)

    -- places fit a word
    pub summing_small : p + 4 * lanes ≤ 65556
    summing_small =
        let most : lanes * (from + i) ≤ 65536 = mul-le-mul {n₁ = lanes} {m₁ = from + i} {n₂ = 4} {m₂ = 16384} asks.lanes_small (omega (arith, v.so_far, asks.small)) in
        omega (arith, v.place, asks.lane, asks.lanes_small)

    -- one more
    pub summing_one : (b : ℕ) → i < count → b ≡ get_or s p 0 → Summing s lanes k from count (total + b) (p + lanes) (i + 1)
    unfolding byte_of
    summing_one b l e =
        let at : b ≡ get_or s (lanes * (from + i) + k) 0 = e ∙ ap (λ (t : ℕ). get_or s t 0) v.place in
        let small : get_or s (lanes * (from + i) + k) 0 ≤ 255 = asks.bytes (lanes * (from + i) + k) in
        record {
          so_far = omega arith;
          place = omega (arith, v.place);
          sum_is = rw (add-one i) (omega (arith, v.sum_is, sum_suc (λ x. get_or s (lanes * x + k) 0) from i));
          most = omega (arith, v.most);
        }

    pub summing_done : count ≤ i → total ≡ sum (byte_of lanes s k) from count
    summing_done l = v.sum_is ∙ ap (sum (byte_of lanes s k) from) (let e : i ≡ count = omega (arith, v.so_far) in e)

  -- the last three
  pub summing_three : {total p i : ℕ} (b₁ b₂ b₃ : ℕ) → Summing s lanes k from count total p i → count ≤ i + 3 → i + 2 < count → b₁ ≡ get_or s p 0 → b₂ ≡ get_or s (p + lanes) 0
      → b₃ ≡ get_or s (p + 2 * lanes) 0 → total + b₁ + b₂ + b₃ ≡ sum (byte_of lanes s k) from count
  summing_three {total} {p} {i} b₁ b₂ b₃ v m l e₁ e₂ e₃ =
      let two = summing_one (summing_one v b₁ (omega arith) e₁) b₂ (omega arith) e₂ in
      let p₂ : p + 2 * lanes ≡ p + lanes + lanes = omega arith in
      summing_done (summing_one two b₃ (omega arith) (rw p₂ at e₃)) (omega arith)

  -- four more
  pub summing_four : {total p i : ℕ} (b₁ b₂ b₃ b₄ : ℕ) → Summing s lanes k from count total p i → i + 3 < count → b₁ ≡ get_or s p 0 → b₂ ≡ get_or s (p + lanes) 0
      → b₃ ≡ get_or s (p + 2 * lanes) 0 → b₄ ≡ get_or s (p + 3 * lanes) 0
      → Summing s lanes k from count (total + b₁ + b₂ + b₃ + b₄) (p + 4 * lanes) (i + 4)
  summing_four {total} {p} {i} b₁ b₂ b₃ b₄ v l e₁ e₂ e₃ e₄ =
      let two = summing_one (summing_one v b₁ (omega arith) e₁) b₂ (omega arith) e₂ in
      let p₂ : p + 2 * lanes ≡ p + lanes + lanes = omega arith in
      let p₃ : p + 3 * lanes ≡ p + lanes + lanes + lanes = omega arith in
      let four = summing_one (summing_one two b₃ (omega arith) (rw p₂ at e₃)) b₄ (omega arith) (rw p₃ at e₄) in
      let p₄ : p + lanes + lanes + lanes + lanes ≡ p + 4 * lanes = omega arith in
      let i₄ : i + 1 + 1 + 1 + 1 ≡ i + 4 = omega arith in
      rw (p₄, i₄) at four
