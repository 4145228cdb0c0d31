-- With bytes in a row, its matted lanes are what the places of its layout read. Assumes nothing.
use Rattle.std.proofs.Common.{◌≡◌, ℕ, zero, suc, ◌/◌, ◌%◌, ◌<◌, List, sym, ap, arith}
use mathlib.Core.Path.{fun_ext}
use Rattle.pixels_layout.specs.declared.PixelLayout.{PixelLayout}
use Rattle.pixels.specs.Sizes.{pixel_lanes}
use Rattle.pixels_layout.specs.Layout.{places_of}
use Rattle.pixels_layout.specs.Lanes.{matted}
use Rattle.pixels_layout.proofs.Matted.{matted_colour, matted_alpha}
use Rattle.pixels_layout.proofs.Tabled.{place_lt}
use Rattle.rows.specs.Column.{value}
use Rattle.rows.specs.Lanes.{row_value}
use Rattle.rows.specs.Inner.Import.{Bytes, Within, byte_at, matted_at, lane_bytes}

pub places_within : (layout : PixelLayout) → Within (places_of layout)
places_within layout =
    record {
      b_in = place_lt layout 0 (omega arith);
      g_in = place_lt layout 1 (omega arith);
      r_in = place_lt layout 2 (omega arith);
      a_in = place_lt layout 3 (omega arith);
    }

module _ (layout : PixelLayout) (s : List ℕ) (bytes : Bytes s) where
  pub matted_is : (k : ℕ) → k < pixel_lanes → (i : ℕ) → matted layout s k i ≡ lane_bytes (places_of layout) s k i
  unfolding lane_bytes matted_at byte_at
  matted_is zero h i = matted_colour layout s bytes i 0 (omega arith)
  matted_is (suc zero) h i = matted_colour layout s bytes i 1 (omega arith)
  matted_is (suc (suc zero)) h i = matted_colour layout s bytes i 2 (omega arith)
  matted_is (suc (suc (suc zero))) h i = matted_alpha layout s bytes i
  matted_is (suc (suc (suc (suc k)))) h i = absurd (omega arith)

  -- so the row's values are those of its matted lanes
  pub matted_row : (n m : ℕ) → row_value pixel_lanes (lane_bytes (places_of layout) s) n m ≡ row_value pixel_lanes (matted layout s) n m
  unfolding row_value
  matted_row n m =
      fun_ext
      (λ (x : ℕ).
      ap (λ (p : ℕ → ℕ). value p n m (x / pixel_lanes))
      (fun_ext (λ (i : ℕ). sym (matted_is (x % pixel_lanes) (let h : x % pixel_lanes < pixel_lanes = omega arith in h) i))))
