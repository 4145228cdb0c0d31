-- The promises of specs/Claim.antt, each of them a law of the files beside this one. Assumes nothing.
use Prim.Native.Nat.{ℕ, ◌+◌, ◌*◌, ◌≤◌, ◌<◌}
use mathlib.Core.Path.{◌≡◌, refl, sym, ap, ◌∙◌}
use mathlib.Core.Logic.{◌⊎◌, inl, inr}
use mathlib.Core.Bool.{true, false, true≢false}
use mathlib.Core.List.{List}
use native.Mathlib.Omega.{arith}
use native.Mathlib.Nat.{mul-le-mul}
use lib.ListN.{length}
use Rattle.arithmetic.proofs.Orders.{le_or_lt}
use Rattle.pixels.specs.Sizes.{row_bytes}
use Rattle.pixels.proofs.Truths.{test}
use Rattle.rows_in.specs.In.{in_crop}
use Rattle.rows_in.proofs.Coming.{crop_inside}
use Rattle.job_rules.specs.declared.Plan.{Plan}
use Rattle.job_rules.specs.Rules.{lanes_of}
use Rattle.job_rules.proofs.Rules.{rules_good}
use Rattle.job.specs.declared.Job.{Job}
use Rattle.job.specs.Record.{Rules}
use Rattle.job_band.specs.Bands.{no_band, band_rows, next_band, bad_band, band_number, singly}
use Rattle.job_band.specs.Claim.{RowsClaim, WentClaim, BandTheorem}
use Rattle.job_band.proofs.Stretching.{stretches, stretch_is, band_none}
use Rattle.job_band.proofs.Testing.{next_some, row_some, band_went}
use Rattle.job_band.proofs.Views as views
use Rattle.job_band.proofs.Views.{band_wrong, not_wrong, none_right, one_right}
use Rattle.job_band.proofs.AnyOrder as order
use Rattle.job_band.proofs.Singly.{band_singly}

module _ (j : Job) (rules : Rules j) where
  abbrev p : Plan
  p = j.plan

  abbrev k : ℕ
  k = j.accepted

  asked : band_rows p k ≡ next_band j
  asked = next_some j (band_rows p k) (rules_good p k j.taken j.flag rules) refl

  inside : (i : ℕ) → i < next_band j → in_crop p.crop (k + i) ≡ true
  inside i l = by (test (no_band p k))
    where
      by : (no_band p k ≡ true) ⊎ (no_band p k ≡ false) → in_crop p.crop (k + i) ≡ true
      by (inl t) = absurd (omega (arith, asked, band_none p k t))
      by (inr f) =
          let s = stretches p k rules.sizes f in
          crop_inside p.crop (k + i) (omega (arith, s.reached)) (omega (arith, asked, s.inside))

  none : next_band j ≡ 0 → (n w : ℕ) → band_number j n w ≡ 17
  none e n w = band_wrong j n w rules (none_right p k (asked ∙ e) n)

  right : 0 < band_rows p k → bad_band p k (row_bytes (lanes_of p) p.source.width * band_rows p k) ≡ false
  right l =
      one_right p k
      (mul-le-mul {n₁ = 1} {m₁ = 1} {n₂ = row_bytes (lanes_of p) p.source.width} {m₂ = band_rows p k} (row_some j rules) l)

  some : 0 < next_band j → (w : ℕ) → band_number j (row_bytes (lanes_of p) p.source.width * next_band j) w ≡ 17 → ⊥
  some l w = rw (← asked) (not_wrong j (row_bytes (lanes_of p) p.source.width * band_rows p k) w rules (right (rw (← asked) at l)))

  equal : p.crop.height ≡ p.target.height → next_band j ≡ 0
  equal e = by (le_or_lt (next_band j) 0)
    where
      by : (next_band j ≤ 0) ⊎ (0 < next_band j) → next_band j ≡ 0
      by (inl l) = omega arith
      by (inr l) =
          let n = row_bytes (lanes_of p) p.source.width * band_rows p k in
          absurd (true≢false (sym (views.equal_heights j rules e n) ∙ right (rw (← asked) at l)))

  next_rows : RowsClaim j
  next_rows = record {
    closed = stretch_is p k rules.sizes;
    inside = inside;
    none = none;
    some = some;
    equal_heights = equal;
  }

module _ (j : Job) (rows work : List ℕ) (goes : band_number j (length rows) (length work) ≡ 0) where
  went : WentClaim j rows work
  went = record {
    in_order =
        band_singly j rows work goes
        ∙ ap (singly j rows work) (asked j (band_went j (length rows) (length work) goes).rules);
    none_ready = views.none_ready j (length rows) (length work) goes;
  }

-- an end in itself
pub band_theorem : BandTheorem
band_theorem = record {
  next_rows = next_rows;
  went = went;
  any_order = order.any_order;
  never_eight = views.never_eight;
}
