-- A crop row comes into the work rows (SCOPE, "A row comes in"): what a call that is not turned away has, for the callers of `put_row`; and its steps:
-- the values go to the half that the definition names, and are added to the first where the height does not grow. Assumes nothing.
use Rattle.std.proofs.Common.{◌≡◌, ℕ, ◌+◌, ◌-◌, ◌%◌, ◌<◌, ◌≤◌, true, false, eqb, leb, ◌⊎◌, List, ◌++◌, length, take, drop, ap, ◌∙◌, inl, inr, append-nil, arith, length-append, length-drop, drop_of_length-le, length-take, take_all, ltb-false, le-ltb, eq-eqb, ne_eqb, le-leb}
use borrow.Author.Tests.{lt-leb}
use Rattle.arithmetic.proofs.Tables.{length_tabulate}
use Rattle.pixels.specs.declared.Dimensions.{Dimensions}
use Rattle.pixels.specs.Sizes.{row_bytes, half_values, work_values, bad_size, LaneCount}
use Rattle.pixels.proofs.Truths.{test, same, same_of}
use Rattle.pixels.proofs.Causes.{first_none, none_applies}
use Rattle.pixels.proofs.Fitting.{size_of_lem, lanes_of_lem, lanes_good}
use Rattle.rows.specs.WorkRows.{scale_of, written, added, row_in}
use Rattle.rows_tests.specs.Tests.{import_number}
use Rattle.rows_tests.proofs.Passing.{import_fits}
use Rattle.rows.specs.Lanes.{row_value}
use Rattle.rows.proofs.Importing.{import_written}
use Rattle.rows_form.specs.declared.RowForm.{RowForm}
use Rattle.rows_form.specs.declared.RowForm.TheVariants.{Pixels, Plain}
use Rattle.rows_form.specs.Form.{lanes_in, lane_in}
use Rattle.rows_planes.proofs.PlaneHalves.{plane_written_lem}
use Rattle.rows_adding.specs.Adding.{add_work}
use Rattle.rows_adding.specs.Put.{put_causes, put_number, put_value, put_work}
use Rattle.rows_adding.specs.Inner.{half_for, form_half}
use Rattle.rows_adding.proofs.Adding.{add_fits, add_written}

-- ---- a part `&mut xs[a..]` that is lent and comes back
module _ (xs : List ℕ) (a : ℕ) where
  short : length (drop a xs) ≤ length xs - a
  short = simp length-drop (omega arith)

  lent : take (length xs - a) (drop a xs) ≡ drop a xs
  lent = take_all (length xs - a) (drop a xs) short

  back : (ys : List ℕ) → take a xs ++ (ys ++ drop (length xs - a) (drop a xs)) ≡ take a xs ++ ys
  back ys = rw (drop_of_length-le (drop a xs) short, append-nil)

-- ---- the place of the half that crop row c goes to
module _ (h g w c : ℕ) where
  pub half_second : g ≤ h → half_for h g w c ≡ w
  half_second l = simp (le-leb g h l)

  pub half_even : h < g → c % 2 ≡ 0 → half_for h g w c ≡ w
  half_even l e = simp (lt-leb g h l, eq-eqb (c % 2) 0 e)

  pub half_odd : h < g → (c % 2 ≡ 0 → ⊥) → half_for h g w c ≡ 0
  half_odd l e = simp (lt-leb g h l, ne_eqb (c % 2) 0 e)

  -- it is one of the two halves
  half_low : half_for h g w c ≤ w
  half_low = by (test (leb g h)) (test (eqb (c % 2) 0))
    where
      by : (leb g h ≡ true) ⊎ (leb g h ≡ false) → (eqb (c % 2) 0 ≡ true) ⊎ (eqb (c % 2) 0 ≡ false) → half_for h g w c ≤ w
      by (inl e) f = rw e (omega arith)
      by (inr e) (inl f) = rw (e, f) (omega arith)
      by (inr e) (inr f) = rw (e, f) (omega arith)

-- ---- the tests

-- a row that is not turned away
pub record Puttable (lanes : ℕ) (crop target : Dimensions) (bytes room : ℕ) : Type 0 where
  pub crop_fits : bad_size crop ≡ false
  pub target_fits : bad_size target ≡ false
  pub lane_count : LaneCount lanes
  pub row_length : bytes ≡ row_bytes lanes crop.width
  pub work_room : work_values lanes target.width ≤ room

module _ (lanes : ℕ) (crop target : Dimensions) (bytes room : ℕ) where
  pub put_fits : Puttable lanes crop target bytes room → put_number lanes crop target bytes room ≡ 0
  unfolding put_number
  put_fits f =
      first_none (put_causes lanes crop target bytes room)
      (f.crop_fits, (f.target_fits, (lanes_good lanes f.lane_count, (same _ _ f.row_length, (le-ltb _ _ f.work_room, tt)))))

  pub put_of : put_number lanes crop target bytes room ≡ 0 → Puttable lanes crop target bytes room
  unfolding put_number
  put_of e =
      let p = none_applies (put_causes lanes crop target bytes room) e in
      record {
        crop_fits = p.0;
        target_fits = p.1.0;
        lane_count = lanes_of_lem lanes p.1.1.0;
        row_length = same_of _ _ p.1.1.1.0;
        work_room = ltb-false _ _ p.1.1.1.1.0;
      }

-- a row of either form that is not turned away is written
form_written : (form : RowForm) (n m : ℕ) (row half : List ℕ) → import_number (lanes_in form) n m (length row) (length half) ≡ 0
    → form_half form n m row half ≡ written (half_values (lanes_in form) m) (row_value (lanes_in form) (lane_in form row) n m) half
form_written (Pixels layout) n m row half e = import_written layout n m row half e
form_written (Plain lanes) n m row half e = plane_written_lem lanes n m row half e

module _ (form : RowForm) (crop target : Dimensions) (c : ℕ) (row work : List ℕ) (goes : put_number (lanes_in form) crop target (length row) (length work) ≡ 0) where
  -- the work rows with the row in them
  abbrev row_there : List ℕ
  row_there = row_in (scale_of (lanes_in form) crop target) c (put_value form crop target row) work

  -- where the number is 0, the row is there
  pub put_written : put_work form crop target c row work ≡ row_there
  unfolding put_work
  put_written = simp (eq-eqb (put_number (lanes_in form) crop target (length row) (length work)) 0 goes)

  abbrev fits : Puttable (lanes_in form) crop target (length row) (length work)
  fits = put_of (lanes_in form) crop target (length row) (length work) goes

  -- the values of a half
  abbrev w : ℕ
  w = half_values (lanes_in form) target.width

  -- ---- the steps; `at` is what the code has for the place of the half
  module _ (at : ℕ) (at-is : at ≡ half_for crop.height target.height w c) where
    -- there is room for a half behind its place
    pub at_low : at + w ≤ length work
    at_low = omega (arith, half_low crop.height target.height w c, fits.work_room)

    -- the row's values go to its half
    module _ (half next : List ℕ) (half_is : half ≡ drop at work) (next_is : next ≡ form_half form crop.width target.width row half) where
      imports : import_number (lanes_in form) crop.width target.width (length row) (length half) ≡ 0
      imports =
          import_fits (lanes_in form) crop.width target.width (length row) (length half)
          (record {
            crop = (size_of_lem crop fits.crop_fits).0;
            target = (size_of_lem target fits.target_fits).0;
            lane_count = fits.lane_count;
            row_length = fits.row_length;
            half_room = rw half_is (simp length-drop (omega (arith, at_low)));
          })

      half_written : next ≡ written w (put_value form crop target row) (drop at work)
      half_written = next_is ∙ form_written form crop.width target.width row half imports ∙ rw half_is

    -- the work rows with that part put back
    pub row_next : (ys : List ℕ) → ys ≡ form_half form crop.width target.width row (take (length work - at) (drop at work))
        → take at work ++ (ys ++ drop (length work - at) (drop at work)) ≡ take at work ++ written w (put_value form crop target row) (drop at work)
    row_next ys ys-is =
        back work at ys ∙ ap (λ (z : List ℕ). take at work ++ z) (half_written (take (length work - at) (drop at work)) ys (lent work at) ys-is)

    module _ (next : List ℕ) (next_is : next ≡ take at work ++ written w (put_value form crop target row) (drop at work)) where
      -- the height grows: the other half is the older row
      pub row_grows : crop.height < target.height → next ≡ row_there
      unfolding row_in
      row_grows l = next_is ∙ by (lt-leb target.height crop.height l) (test (eqb (c % 2) 0))
        where
          by : leb target.height crop.height ≡ false → (eqb (c % 2) 0 ≡ true) ⊎ (eqb (c % 2) 0 ≡ false)
              → take at work ++ written w (put_value form crop target row) (drop at work) ≡ row_there
          by e (inl f) = let q : at ≡ w = rw (e, f) at at-is in rw q (simp (e, f))
          by e (inr f) = let q : at ≡ 0 = rw (e, f) at at-is in rw q (simp (e, f))

      -- the height does not grow: the second half is added to the first
      pub row_adds : target.height ≤ crop.height → (last : List ℕ) → last ≡ add_work w next → last ≡ row_there
      unfolding row_in
      row_adds l last e =
          let long : length next ≡ length work = ap length next_is ∙ simp (length-append, length-take, length_tabulate, length-drop) (omega (arith, at_low)) in
          let f = le-leb target.height crop.height l in
          let q : at ≡ w = rw f at at-is in
          let z = add_fits w (length next) (omega (arith, fits.work_room)) in
          e ∙ add_written w next z
          ∙ ap (added w) (next_is ∙ ap (λ (x : ℕ). take x work ++ written w (put_value form crop target row) (drop x work)) q)
          ∙ (let there : added w (take w work ++ written w (put_value form crop target row) (drop w work)) ≡ row_there = simp f in there)
