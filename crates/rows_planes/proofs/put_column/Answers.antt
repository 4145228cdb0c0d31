-- `put_column`: a lane a turn; the carries of the lanes passed are the next column's. Assumes nothing.
use Rattle.std.proofs.Common.{◌≡◌, ℕ, suc, ◌+◌, ◌-◌, ◌*◌, ◌<◌, ◌≤◌, List, length, get_or, set, refl, ap, ◌∙◌, ap₂, mul-le-mul, mul-le-mul_left, add-one, arith}
use Rattle.arithmetic.specs.Word.{wrap_add, wrap_sub, wrap_mul}
use Rattle.arithmetic.specs.FixedPoint.{mult}
use Rattle.arithmetic.specs.Sum.{sum}
use Rattle.arithmetic.proofs.Sums.{sum_suc}
use Rattle.arithmetic.proofs.Stores.{none_stored, store, ahead, all_stored}
use Rattle.rows.specs.Column.{Finished}
use Rattle.rows_widening.specs.Inner.{byte_of, set_all}
use Rattle.rows_planes.specs.Inner.{SumAsks, column_value, column_carry, PutAsks}
use Rattle.rows_widening.proofs.Storing.{set_all_none, set_all_more, set_all_length}
use Rattle.rows_planes.proofs.put_column.Invariants.{Inv}
use Rattle.rows_planes.proofs.put_column.Goals as goal
use Rattle.rows_planes.proofs.put_column.Goals.{then-c-each, else-c-each}

module _ {s carry₀ half₀ carry half : List ℕ} {lanes m scale each from to over at k : ℕ} (asks : PutAsks s lanes m each from to over carry₀ half₀ at)
    (v : Inv s lanes m scale from to over carry₀ half₀ at carry half k) where
  sums : k < lanes → SumAsks s lanes k from each
  sums l =
      record {
        lane = l;
        lanes_small = asks.lane_count.most;
        whole = omega (arith, asks.whole, mul-le-mul_left lanes asks.fewest);
        small = omega (arith, asks.fewest, asks.small);
        bytes = asks.bytes;
      }

  -- the pixels that every column has, and the last where there is one more
  longer : (c : ℕ) {g t l : ℕ} → (to - from ≡ each → ⊥) → g ≡ sum (byte_of lanes s k) from each → t ≡ wrap_add c g → l ≡ byte_of lanes s k (from + each)
      → wrap_add t l ≡ wrap_add c (sum (byte_of lanes s k) from (to - from))
  longer c more g-is t-is l-is =
      let count : to - from ≡ suc each = omega (arith, more, asks.fewest, asks.most) in
      rw (count, sum_suc (byte_of lanes s k) from each) (omega arith)

  even : (c : ℕ) {g t : ℕ} → to - from ≡ each → g ≡ sum (byte_of lanes s k) from each → t ≡ wrap_add c g → t ≡ wrap_add c (sum (byte_of lanes s k) from (to - from))
  even c none g-is t-is = rw none (omega arith)

  more_in : (to - from ≡ each → ⊥) → k < lanes → lanes * (from + each) + k < length s
  more_in more l = let le : from + each + 1 ≤ to = omega (arith, more, asks.fewest) in omega (arith, asks.whole, mul-le-mul_left lanes le)

  more_small : k < lanes → lanes * (from + each) + k ≤ 65540
  more_small l = omega (arith, asks.lane_count.most, mul-le-mul {n₁ = lanes} {m₁ = from + each} {n₂ = 4} {m₂ = 16384} asks.lane_count.most (omega (arith, asks.fewest, asks.small)))

  -- the place of the column's last pixel
  last-small : k < lanes → lanes * (to - 1) + k ≤ 65540
  last-small l = omega (arith, asks.lane_count.most, mul-le-mul {n₁ = lanes} {m₁ = to - 1} {n₂ = 4} {m₂ = 16384} asks.lane_count.most (omega (arith, asks.small)))

  last_in : k < lanes → lanes * (to - 1) + k < length s
  last_in l = let le : to - 1 + 1 ≤ to = omega (arith, asks.more) in omega (arith, asks.whole, mul-le-mul_left lanes le)

  turn : (t l x carry' : ℕ) → k < lanes → t ≡ wrap_add (get_or carry k 0) (sum (byte_of lanes s k) from (to - from)) → l ≡ get_or s (lanes * (to - 1) + k) 0
      → Finished m scale over t l x carry' → Inv s lanes m scale from to over carry₀ half₀ at (set carry k carry') (set half (at + k) x) (k + 1)
  unfolding column_value column_carry byte_of
  turn t l x carry' below t-is l-is f =
      let total : t ≡ wrap_add (get_or carry₀ k 0) (sum (λ i. get_or s (lanes * i + k) 0) from (to - from)) =
      t-is ∙ ap (λ (a : ℕ). wrap_add a (sum (λ i. get_or s (lanes * i + k) 0) from (to - from))) (ahead v.carries k (omega arith)) in
      record {
        half_is = rw (v.half_is, add-one k) (set_all_more half₀ at (column_value lanes s m from to over carry₀) k x (f.value_is ∙ ap₂ (λ (a b : ℕ). wrap_sub (wrap_mul a m) (wrap_mul b over)) total l-is));
        carries = store v.carries below (f.carry_is ∙ ap (λ (b : ℕ). mult (wrap_mul b over) scale) l-is);
      }

  same_half : length half ≡ length half₀
  same_half = ap length v.half_is ∙ set_all_length half₀ at (column_value lanes s m from to over carry₀) k

  done : lanes ≤ k → half ≡ set_all half₀ at (column_value lanes s m from to over carry₀) lanes
  done l = v.half_is ∙ ap (set_all half₀ at (column_value lanes s m from to over carry₀)) (let e : k ≡ lanes = omega (arith, v.carries.at) in e)

pub loop-k-init : goal.loop-k-init
loop-k-init g c = record { half_is = set_all_none _ _ _; carries = none_stored _ c.requires.carry_room }

pub lane_sum-requires : goal.lane_sum-requires
lane_sum-requires g c = sums (c.requires) c.loop-k.invariant c.loop-k-test.true

pub loop-k-preserved : goal.loop-k-preserved
unfolding byte_of
loop-k-preserved g c =
    let asks = c.requires in
    let inv = c.loop-k.invariant in
    let more = c.loop-k-test.true in
    let before = get_or c.loop-k.carry c.loop-k.k 0 in
    let t = c.wrapping_add_u32-sum.ensures.value in
    let total : c.if-c-each.sum ≡ wrap_add before (sum (byte_of g.row.LANES c.args.row.now c.loop-k.k) c.args.c.from (c.args.c.to - c.args.c.from)) =
    elim c.if-c-each.branch [
      | then-c-each w ↦ rw (w.sum-is, w.wrapping_add_u32-sum-then-c-each.ensures.value) (longer asks inv before w.if-c-each.true c.lane_sum.ensures t refl)
      | else-c-each w ↦ rw w.sum-is (even asks inv before w.if-c-each.false c.lane_sum.ensures t)
    ] in
    turn asks inv _ _ _ _ more total refl c.finish-e.ensures

pub returns : goal.returns
returns g c =
    record {
      carry = all_stored c.loop-k.invariant.carries c.loop-k-test.false;
      half = done (c.requires) c.loop-k.invariant c.loop-k-test.false;
    }
