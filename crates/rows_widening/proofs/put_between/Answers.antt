-- `put_between`: a lane a turn. Assumes nothing.
-- the lane's part of a pixel may be read
use Rattle.std.proofs.Common.{◌≡◌, ℕ, ◌+◌, ◌<◌, List, length, set, ap, ◌∙◌, ap₂, add-one, arith}
use Rattle.arithmetic.specs.Word.{wrap_add}
use Rattle.rows_widening.specs.Inner.{set_all, between_value, PartAsks, BetweenAsks}
use Rattle.rows_widening.proofs.Storing.{set_all_none, set_all_more, set_all_length}
use Rattle.rows_widening.proofs.put_between.Goals as goal

reads : {s half : List ℕ} {lanes left right acc rest at : ℕ} (k : ℕ) → BetweenAsks s lanes left right acc rest half at → k < lanes
    → PartAsks s lanes k left acc × PartAsks s lanes k right rest
reads k q l = (
  record { lane = l; lanes_small = q.lane_count.most; inside = q.left_in; x_small = q.left_small; parts_small = q.acc_small },
  record { lane = l; lanes_small = q.lane_count.most; inside = q.right_in; x_small = q.right_small; parts_small = q.rest_small },
)

turn : (s half₀ half : List ℕ) (lanes left right acc rest at k v a b : ℕ) → half ≡ set_all half₀ at (between_value lanes s left right acc rest) k → v ≡ wrap_add a b
    → wrap_add a b ≡ between_value lanes s left right acc rest k → set half (at + k) v ≡ set_all half₀ at (between_value lanes s left right acc rest) (k + 1)
turn s half₀ half lanes left right acc rest at k v a b e v-is ab = rw (e, add-one k) (set_all_more half₀ at (between_value lanes s left right acc rest) k v (v-is ∙ ab))

pub loop-k-init : goal.loop-k-init
loop-k-init c = set_all_none _ _ _

pub part-requires : goal.part-requires
part-requires c = (reads _ (c.requires) c.loop-k-test.true).0

pub part-requires-in-loop-k : goal.part-requires-in-loop-k
part-requires-in-loop-k c = (reads _ (c.requires) c.loop-k-test.true).1

pub overflow_add-half : goal.overflow_add-half
overflow_add-half c = let a = c.args in omega (arith, c.requires.room, c.loop-k-test.true, c.well_formed.1.1.1.1.1.1.0)

pub bounds-half-at : goal.bounds-half-at
bounds-half-at c = let a = c.args in omega (arith, ap length c.loop-k.invariant ∙ set_all_length a.half.now a.at _ c.loop-k.k, c.requires.room, c.loop-k-test.true)

pub loop-k-preserved : goal.loop-k-preserved
unfolding between_value
loop-k-preserved c =
    let a = c.args in
    turn a.row.now a.half.now _ a.lanes a.left a.right a.acc a.rest a.at _ _ _ _ c.loop-k.invariant c.wrapping_add_u32.ensures.value (ap₂ (λ (x y : ℕ). wrap_add x y) c.part.ensures c.part-in-loop-k.ensures)

pub shape_of-half : goal.shape_of-half
shape_of-half c = let a = c.args in ap length c.loop-k.invariant ∙ set_all_length a.half.now a.at _ c.loop-k.k

pub returns : goal.returns
returns c = let a = c.args in c.loop-k.invariant ∙ ap (set_all a.half.now a.at (between_value a.lanes a.row.now a.left a.right a.acc a.rest)) (omega (arith, c.loop-k-test.false))
