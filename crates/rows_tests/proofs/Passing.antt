-- A row's number is 0 exactly if every test passes, and what the tests say then. Assumes nothing.
use Prim.Native.Nat.{ℕ, ◌+◌, ◌≤◌}
use mathlib.Core.Path.{◌≡◌}
use mathlib.Core.Bool.{true, false}
use native.Mathlib.Omega.{arith}
use borrow.Author.Tests.{le-ltb, ltb-false, ne_eqb, eqb-false}
use Rattle.pixels.specs.declared.Dimensions.{Dimensions}
use Rattle.pixels.specs.Sizes.{row_bytes, half_values, work_values, bad_side, bad_size, Side, LaneCount}
use Rattle.pixels.proofs.Causes.{first_none, none_applies}
use Rattle.pixels.proofs.Fitting.{side_of, side_good, lanes_of_lem, lanes_good}
use Rattle.pixels.proofs.Truths.{neither_true, not_false, same, same_of}
use Rattle.rows_due.specs.Due.{due}
use Rattle.rows_tests.specs.declared.RowScale.{RowScale}
use Rattle.rows_tests.specs.Tests.{import_causes, import_number, scale_causes, scale_number, values_causes, values_number}

-- ---- a crop row that comes in

-- a row that is not turned away
pub record Importable (lanes n m bytes room : ℕ) : Type 0 where
  pub crop : Side n
  pub target : Side m
  pub lane_count : LaneCount lanes
  pub row_length : bytes ≡ row_bytes lanes n
  pub half_room : half_values lanes m ≤ room

module _ (lanes n m bytes room : ℕ) where
  pub import_fits : Importable lanes n m bytes room → import_number lanes n m bytes room ≡ 0
  unfolding import_number
  import_fits f =
      first_none (import_causes lanes n m bytes room)
      (simp (side_good n f.crop, side_good m f.target), (lanes_good lanes f.lane_count, (same bytes (row_bytes lanes n) f.row_length, (le-ltb room (half_values lanes m) f.half_room, tt))))

  pub import_of : import_number lanes n m bytes room ≡ 0 → Importable lanes n m bytes room
  unfolding import_number
  import_of e =
      let p = none_applies (import_causes lanes n m bytes room) e in
      let widths = neither_true (bad_side n) (bad_side m) p.0 in
      record {
        crop = side_of n widths.0;
        target = side_of m widths.1;
        lane_count = lanes_of_lem lanes p.1.0;
        row_length = same_of bytes (row_bytes lanes n) p.1.1.0;
        half_room = ltb-false room (half_values lanes m) p.1.1.1.0;
      }

-- ---- an output row that goes out

-- every test passes
pub record Passed (lanes : ℕ) (crop target : Dimensions) (u y outBytes workCount : ℕ) : Type 0 where
  pub crop_fits : bad_size crop ≡ false
  pub target_fits : bad_size target ≡ false
  pub lane_count : LaneCount lanes
  pub out_exact : outBytes ≡ row_bytes lanes target.width
  pub work_enough : work_values lanes target.width ≤ workCount
  pub ready : due crop.height target.height u y ≡ true

module _ (lanes : ℕ) (crop target : Dimensions) (u y outBytes workCount : ℕ) where
  pub scale_passes : Passed lanes crop target u y outBytes workCount → scale_number lanes crop target u y outBytes workCount ≡ 0
  unfolding scale_number
  scale_passes p =
      first_none (scale_causes lanes crop target u y outBytes workCount)
      (p.crop_fits, (p.target_fits, (lanes_good lanes p.lane_count, (same _ _ p.out_exact, (le-ltb _ _ p.work_enough, (simp p.ready, tt))))))

  pub passed_of : scale_number lanes crop target u y outBytes workCount ≡ 0 → Passed lanes crop target u y outBytes workCount
  unfolding scale_number
  passed_of e =
      let p = none_applies (scale_causes lanes crop target u y outBytes workCount) e in
      record {
        crop_fits = p.0;
        target_fits = p.1.0;
        lane_count = lanes_of_lem lanes p.1.1.0;
        out_exact = same_of _ _ p.1.1.1.0;
        work_enough = ltb-false _ _ p.1.1.1.1.0;
        ready = not_false _ p.1.1.1.1.1.0;
      }

-- ---- the same of a row of w values
pub record ValuesPass (s : RowScale) (u y outBytes workCount : ℕ) : Type 0 where
  pub span_some : 1 ≤ s.span
  pub h_some : 1 ≤ s.h
  pub out_exact : outBytes ≡ s.w
  pub work_enough : s.w + s.w ≤ workCount
  pub ready : due s.h s.g u y ≡ true

module _ (s : RowScale) (u y outBytes workCount : ℕ) where
  pub values_pass : ValuesPass s u y outBytes workCount → values_number s u y outBytes workCount ≡ 0
  unfolding values_number
  values_pass p =
      let span_some : s.span ≡ 0 → ⊥ = λ e. omega (arith, p.span_some) in
      let h_some : s.h ≡ 0 → ⊥ = λ e. omega (arith, p.h_some) in
      first_none (values_causes s u y outBytes workCount)
      (ne_eqb s.span 0 span_some, (ne_eqb s.h 0 h_some, (same _ _ p.out_exact, (le-ltb _ _ p.work_enough, (simp p.ready, tt)))))

  pub values_of : values_number s u y outBytes workCount ≡ 0 → ValuesPass s u y outBytes workCount
  unfolding values_number
  values_of e =
      let p = none_applies (values_causes s u y outBytes workCount) e in
      let span_some : s.span ≡ 0 → ⊥ = eqb-false s.span 0 p.0 in
      let h_some : s.h ≡ 0 → ⊥ = eqb-false s.h 0 p.1.0 in
      record {
        span_some = omega (arith, span_some);
        h_some = omega (arith, h_some);
        out_exact = same_of _ _ p.1.1.0;
        work_enough = ltb-false _ _ p.1.1.1.0;
        ready = not_false _ p.1.1.1.1.0;
      }
