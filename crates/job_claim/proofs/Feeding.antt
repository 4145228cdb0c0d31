-- The accepted rows one after another: what the work rows hold after each, and that lengths stay. Assumes nothing.
use Prim.Native.Nat.{ℕ, zero, suc, ◌+◌, ◌-◌, ◌*◌, ◌≤◌, ◌<◌}
use mathlib.Core.Path.{◌≡◌, refl, sym, ap, ◌∙◌}
use mathlib.Core.Logic.{◌⊎◌, inl, inr}
use mathlib.Core.List.{List}
use native.Mathlib.Omega.{arith}
use native.Mathlib.Nat.{le_trans, mul-le-mul_left}
use lib.ListN.{length, get_or, drop}
use lib.Seq.{get_or-take, get_or-drop, length-take-le}
use borrow.Author.Tests.{le-leb, lt-leb, lt-ltb, le-ltb}
use Rattle.pixels.specs.Sizes.{row_bytes, half_values, work_values, Fits}
use Rattle.pixels_crop.specs.Crop.{picture_row}
use Rattle.rows_schedule.specs.Schedule.{used}
use Rattle.rows_schedule.proofs.Crop.{Place, within, beside, place, inside, used_row, rows_le}
use Rattle.rows_schedule.proofs.Needed.{since_le}
use Rattle.rows.specs.WorkRows.{row_in}
use Rattle.rows_laws.proofs.Held.{Held, held_in}
use Rattle.rows_laws.proofs.WorkRows.{row_in_length, row_in_rest}
use Rattle.job_rules.specs.declared.Plan.{Plan}
use Rattle.job_rules.specs.Rules.{lanes_of, R}
use Rattle.job.specs.Calls.{scale_by, values_of, row_accepted, fed}
use Rattle.job_claim.proofs.Reading.{Shape, crop_value, values_are}

-- what the work rows hold once k source rows were accepted and t rows taken
abbrev pub Holds : Plan → (ℕ → ℕ) → ℕ → ℕ → List ℕ → Type 0
Holds p b k t work =
    Held (scale_by p) (crop_value p b) (used p.crop.y p.crop.height k) t work

-- ---- a row of the bytes lent
module _ (lanes : ℕ) (rows : List ℕ) (w n i : ℕ) (here : row_bytes lanes w * n ≤ length rows) (l : i < n) where
  row_inside : row_bytes lanes w * i + row_bytes lanes w ≤ length rows
  row_inside = omega (arith, mul-le-mul_left (row_bytes lanes w) l)

  pub row_length : length (picture_row lanes rows w i) ≡ row_bytes lanes w
  unfolding picture_row
  row_length = length-take-le (row_bytes lanes w) (drop (row_bytes lanes w * i) rows) (simp lib.ListN.length-drop (omega (arith, row_inside)))

  pub row_byte : (z : ℕ) → z < row_bytes lanes w → get_or (picture_row lanes rows w i) z 0 ≡ get_or rows (row_bytes lanes w * i + z) 0
  unfolding picture_row
  row_byte z u = get_or-take (row_bytes lanes w) (drop (row_bytes lanes w * i) rows) z 0 u ∙ get_or-drop (row_bytes lanes w * i) rows z 0

-- ---- one source row
module _ (p : Plan) (shape : Shape p) (fits : Fits p.source p.crop p.target) where
  pub row_in_lem : (row : List ℕ) (s : ℕ) (work : List ℕ) → p.crop.y ≤ s → s < p.crop.y + p.crop.height
      → row_accepted p row s work ≡ row_in (scale_by p) (s - p.crop.y) (values_of p row) work
  unfolding row_accepted
  row_in_lem row s work a b = simp (le-leb p.crop.y s a, lt-ltb s (p.crop.y + p.crop.height) b)

  pub row_beside : (row : List ℕ) (s : ℕ) (work : List ℕ) → (s < p.crop.y) ⊎ (p.crop.y + p.crop.height ≤ s) → row_accepted p row s work ≡ work
  unfolding row_accepted
  row_beside row s work (inl a) = simp (lt-leb p.crop.y s a)
  row_beside row s work (inr a) = simp (le-leb p.crop.y s (omega arith), le-ltb s (p.crop.y + p.crop.height) a)

  pub row_length_kept : (row : List ℕ) (s : ℕ) (work : List ℕ) → work_values (lanes_of p) p.target.width ≤ length work → length (row_accepted p row s work) ≡ length work
  row_length_kept row s work room = by (place p.crop.y p.crop.height s)
    where
      by : Place p.crop.y p.crop.height s → length (row_accepted p row s work) ≡ length work
      by (within a b) =
          ap length (row_in_lem row s work a b)
          ∙ row_in_length (scale_by p) (s - p.crop.y) (values_of p row) work (omega arith)
      by (beside e w) = ap length (row_beside row s work w)

  -- "the rest is untouched"
  row_rest : (row : List ℕ) (s : ℕ) (work : List ℕ) → work_values (lanes_of p) p.target.width ≤ length work
      → drop (work_values (lanes_of p) p.target.width) (row_accepted p row s work) ≡ drop (work_values (lanes_of p) p.target.width) work
  row_rest row s work room = by (place p.crop.y p.crop.height s)
    where
      both : work_values (lanes_of p) p.target.width ≡ half_values (lanes_of p) p.target.width + half_values (lanes_of p) p.target.width
      both = omega arith

      by : Place p.crop.y p.crop.height s
          → drop (work_values (lanes_of p) p.target.width) (row_accepted p row s work) ≡ drop (work_values (lanes_of p) p.target.width) work
      by (within a b) = rw (row_in_lem row s work a b, both) (row_in_rest (scale_by p) (s - p.crop.y) (values_of p row) work (omega arith))
      by (beside e w) = ap (drop (work_values (lanes_of p) p.target.width)) (row_beside row s work w)

  -- the row's bytes being those of b
  pub row_held : (b : ℕ → ℕ) (row : List ℕ) (k t : ℕ) (work : List ℕ) → t ≤ R p k → length row ≡ row_bytes (lanes_of p) p.source.width
      → ((z : ℕ) → z < row_bytes (lanes_of p) p.source.width → get_or row z 0 ≡ b (row_bytes (lanes_of p) p.source.width * k + z))
      → Holds p b k t work → Holds p b (suc k) t (row_accepted p row k work)
  row_held b row k t work le long agrees held = by (place p.crop.y p.crop.height k)
    where
      by : Place p.crop.y p.crop.height k → Holds p b (suc k) t (row_accepted p row k work)
      by (within a c) =
          let u : ℕ = used p.crop.y p.crop.height k in
          let e : k - p.crop.y ≡ u = omega arith in
          let at : p.crop.y + u ≡ k = used_row p.crop.y p.crop.height k a c in
          let same = values_are p shape b row u fits long (λ z l. agrees z l ∙ ap (λ (s : ℕ). b (row_bytes (lanes_of p) p.source.width * s + z)) (sym at)) in
          rw (row_in_lem row k work a c, e, inside p.crop.y p.crop.height k a c)
          (held_in (scale_by p) (crop_value p b) u t (values_of p row) work
          (since_le p.crop.height p.target.height u t fits.crop_height fits.target_height.some le) same held)
      by (beside e w) = rw (row_beside row k work w, e) held

  -- ---- the first c of the rows lent, the first being source row k
  pub fed_length : (rows : List ℕ) (k c : ℕ) (work : List ℕ) → work_values (lanes_of p) p.target.width ≤ length work → length (fed p rows k c work) ≡ length work
  unfolding fed
  fed_length rows k zero work room = refl
  fed_length rows k (suc c) work room =
      let h = fed_length rows k c work room in
      row_length_kept (picture_row (lanes_of p) rows p.source.width c) (k + c) (fed p rows k c work) (omega arith) ∙ h

  pub fed_rest : (rows : List ℕ) (k c : ℕ) (work : List ℕ) → work_values (lanes_of p) p.target.width ≤ length work
      → drop (work_values (lanes_of p) p.target.width) (fed p rows k c work) ≡ drop (work_values (lanes_of p) p.target.width) work
  unfolding fed
  fed_rest rows k zero work room = refl
  fed_rest rows k (suc c) work room =
      let h = fed_length rows k c work room in
      row_rest (picture_row (lanes_of p) rows p.source.width c) (k + c) (fed p rows k c work) (omega arith) ∙ fed_rest rows k c work room

  pub fed_held : (b : ℕ → ℕ) (rows : List ℕ) (k t c : ℕ) (work : List ℕ) → t ≤ R p k → row_bytes (lanes_of p) p.source.width * c ≤ length rows
      → ((z : ℕ) → z < row_bytes (lanes_of p) p.source.width * c → get_or rows z 0 ≡ b (row_bytes (lanes_of p) p.source.width * k + z))
      → Holds p b k t work → Holds p b (k + c) t (fed p rows k c work)
  unfolding fed
  fed_held b rows k t zero work le here agrees held = let e : k + zero ≡ k = omega arith in rw e held
  fed_held b rows k t (suc c) work le here agrees held =
      let w : ℕ = p.source.width in
      let e : k + suc c ≡ suc (k + c) = omega arith in
      let e' : c + k ≡ k + c = omega arith in
      let up = rows_le p.crop.y p.crop.height p.target.height fits.crop_height k c in
      let up' : R p k ≤ R p (k + c) = rw e' at up in
      let less : row_bytes (lanes_of p) w * c ≤ length rows = omega arith in
      let before = fed_held b rows k t c work le less (λ z l. agrees z (omega arith)) held in
      rw e
      (row_held b (picture_row (lanes_of p) rows w c) (k + c) t (fed p rows k c work) (le_trans le up') (row_length (lanes_of p) rows w (suc c) c here (omega arith))
      (λ z l. row_byte (lanes_of p) rows w (suc c) c here (omega arith) z l ∙ agrees (row_bytes (lanes_of p) w * c + z) (omega arith) ∙ ap b (omega arith)) before)
