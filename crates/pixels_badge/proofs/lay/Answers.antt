-- Each turn lays the next block. Assumes nothing.
use Prim.Native.Nat.{ℕ, ◌+◌, ◌*◌, ◌≤◌, min}
use mathlib.Core.Path.{◌≡◌, refl, sym}
use native.Mathlib.Omega.{arith}
use native.Mathlib.Nat.{le_of_suc-le-suc}
use lib.ListN.{length, get_or}
use Rattle.arithmetic.proofs.Stores.{same}
use Rattle.pixels_badge.specs.Inner.{block_bytes}
use Rattle.pixels_badge.proofs.LaidBlocks.{covering_first, end_after, end_inside, end_badge, turn_asks, alphas_kept, colours_kept, block_asks, covering_turn, covering_done}
use Rattle.pixels_badge.proofs.lay.Goals as goal

pub loop-block-init : goal.loop-block-init
loop-block-init c =
    let a = c.args in
    let start : min (length a.pixels.now) (block_bytes * 0) ≡ 0 = omega arith in
    rw start (covering_first a.layout a.pixels.now a.from a.badge.now refl refl)

pub slice_bounds-turn_by-count : goal.slice_bounds-turn_by-count
slice_bounds-turn_by-count c =
    let l = c.loop-block in
    let here : min (length c.args.pixels.now) (block_bytes * l.block) ≡ block_bytes * l.block = omega (arith, c.div_ceil-block-end.ensures) in
    let i = rw here at l.invariant in
    let q = c.requires in
    end_after i q (omega arith) c.min-end.ensures

pub slice_bounds-turn_by-start : goal.slice_bounds-turn_by-start
slice_bounds-turn_by-start c =
    let l = c.loop-block in
    let here : min (length c.args.pixels.now) (block_bytes * l.block) ≡ block_bytes * l.block = omega (arith, c.div_ceil-block-end.ensures) in
    let i = rw here at l.invariant in
    let q = c.requires in
    end_after i q (omega arith) c.min-end.ensures

pub slice_bounds-turn_by-end : goal.slice_bounds-turn_by-end
slice_bounds-turn_by-end c =
    let l = c.loop-block in
    let here : min (length c.args.pixels.now) (block_bytes * l.block) ≡ block_bytes * l.block = omega (arith, c.div_ceil-block-end.ensures) in
    let i = rw here at l.invariant in
    let q = c.requires in
    end_badge i q (omega arith) c.min-end.ensures

pub slice_bounds-turn_by-end-in-loop-block : goal.slice_bounds-turn_by-end-in-loop-block
slice_bounds-turn_by-end-in-loop-block c = sym c.loop-block.invariant.alphas_long

pub slice_bounds-turn_by-end-in-loop-block-2 : goal.slice_bounds-turn_by-end-in-loop-block-2
slice_bounds-turn_by-end-in-loop-block-2 c = sym c.loop-block.invariant.colours_long

pub turn_by-requires : goal.turn_by-requires
turn_by-requires c =
    let l = c.loop-block in
    let here : min (length c.args.pixels.now) (block_bytes * l.block) ≡ block_bytes * l.block = omega (arith, c.div_ceil-block-end.ensures) in
    let i = rw here at l.invariant in
    let q = c.requires in
    turn_asks i q (omega arith) c.min-end.ensures

pub slice_bounds-blend_block-count : goal.slice_bounds-blend_block-count
slice_bounds-blend_block-count c =
    let l = c.loop-block in
    let here : min (length c.args.pixels.now) (block_bytes * l.block) ≡ block_bytes * l.block = omega (arith, c.div_ceil-block-end.ensures) in
    let i = rw here at l.invariant in
    let q = c.requires in
    end_after i q (omega arith) c.min-end.ensures

pub slice_bounds-blend_block-start : goal.slice_bounds-blend_block-start
slice_bounds-blend_block-start c =
    let l = c.loop-block in
    let here : min (length c.args.pixels.now) (block_bytes * l.block) ≡ block_bytes * l.block = omega (arith, c.div_ceil-block-end.ensures) in
    let i = rw here at l.invariant in
    let q = c.requires in
    end_after i q (omega arith) c.min-end.ensures

pub slice_bounds-blend_block-end : goal.slice_bounds-blend_block-end
slice_bounds-blend_block-end c =
    let l = c.loop-block in
    let here : min (length c.args.pixels.now) (block_bytes * l.block) ≡ block_bytes * l.block = omega (arith, c.div_ceil-block-end.ensures) in
    let i = rw here at l.invariant in
    let q = c.requires in
    end_inside i q (omega arith) c.min-end.ensures

pub slice_bounds-blend_block-end-in-loop-block : goal.slice_bounds-blend_block-end-in-loop-block
slice_bounds-blend_block-end-in-loop-block c =
    let l = c.loop-block in
    let here : min (length c.args.pixels.now) (block_bytes * l.block) ≡ block_bytes * l.block = omega (arith, c.div_ceil-block-end.ensures) in
    let i = rw here at l.invariant in
    let q = c.requires in
    sym (alphas_kept i q (omega arith) c.min-end.ensures c.turn_by.ensures.a c.turn_by.ensures.c)

pub slice_bounds-blend_block-end-in-loop-block-2 : goal.slice_bounds-blend_block-end-in-loop-block-2
slice_bounds-blend_block-end-in-loop-block-2 c =
    let l = c.loop-block in
    let here : min (length c.args.pixels.now) (block_bytes * l.block) ≡ block_bytes * l.block = omega (arith, c.div_ceil-block-end.ensures) in
    let i = rw here at l.invariant in
    let q = c.requires in
    sym (colours_kept i q (omega arith) c.min-end.ensures c.turn_by.ensures.a c.turn_by.ensures.c)

pub blend_block-requires : goal.blend_block-requires
blend_block-requires c =
    let l = c.loop-block in
    let here : min (length c.args.pixels.now) (block_bytes * l.block) ≡ block_bytes * l.block = omega (arith, c.div_ceil-block-end.ensures) in
    let i = rw here at l.invariant in
    let q = c.requires in
    block_asks i q (omega arith) c.min-end.ensures c.turn_by.ensures.a c.turn_by.ensures.c

pub loop-block-preserved : goal.loop-block-preserved
loop-block-preserved c =
    let l = c.loop-block in
    let here : min (length c.args.pixels.now) (block_bytes * l.block) ≡ block_bytes * l.block = omega (arith, c.div_ceil-block-end.ensures) in
    let i = rw here at l.invariant in
    let q = c.requires in
    let a = c.args in
    let whole : (y : ℕ) → get_or a.pixels.now y 0 ≤ 255 = λ y. le_of_suc-le-suc (c.slice_known-1.given y).fits in
    let bytes : (y : ℕ) → get_or a.badge.now y 0 ≤ 255 = λ y. le_of_suc-le-suc (c.type_inv.badge y).fits in
    let next : min (length a.pixels.now) (block_bytes * (l.block + 1)) ≡ c.min-end.result = omega (arith, c.min-end.ensures) in
    rw next (covering_turn i q (omega arith) c.min-end.ensures c.turn_by.ensures.a c.turn_by.ensures.c whole bytes c.blend_block.ensures refl)

pub shape_of-pixels : goal.shape_of-pixels
shape_of-pixels c = same c.loop-block.invariant.bytes

pub returns : goal.returns
returns c = covering_done c.loop-block.invariant c.requires (omega (arith, c.div_ceil-block-end.ensures))
