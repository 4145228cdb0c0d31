-- The rows of a band in the work rows, place by place (SCOPE, "Bands"): fed in order, the first half is summed over them, the second is the last row's and the rest stays.
-- Assumes nothing.
use Prim.Native.Nat.{ℕ, zero, suc, ◌+◌, ◌-◌, ◌≤◌, ◌<◌}
use mathlib.Core.Path.{◌≡◌, refl, sym, ap, ◌∙◌}
use mathlib.Core.Logic.{◌⊎◌, inl, inr}
use mathlib.Core.List.{List, [], ◌∷◌, ◌++◌}
use native.Mathlib.Omega.{arith}
use lib.ListN.{length, get_or, drop, length-append, get_or-append}
use lib.Seq.{ext_get_or, get_or-drop, get_or-append-add}
use borrow.Author.Tests.{le-leb, lt-ltb}
use Rattle.arithmetic.specs.Word.{wrap_add}
use Rattle.arithmetic.proofs.Orders.{le_or_lt}
use Rattle.pixels.specs.Sizes.{half_values}
use Rattle.pixels_crop.specs.Crop.{picture_row}
use Rattle.rows.specs.WorkRows.{row_in}
use Rattle.rows_laws.proofs.WorkRows.{in_first, in_second, row_in_length, row_in_rest}
use Rattle.job_rules.specs.declared.Plan.{Plan}
use Rattle.job_rules.specs.Rules.{lanes_of}
use Rattle.job.specs.Calls.{scale_by, values_of, row_accepted, fed}
use Rattle.job_band.specs.Bands.{row_list}
use Rattle.job_band.proofs.Summing.{summed, summed_none, summed_last}

-- ---- two lists with the same halves of w values and the same rest
pub halves_same : (w : ℕ) (a b : List ℕ) → length a ≡ length b → ((x : ℕ) → x < w → get_or a x 0 ≡ get_or b x 0)
    → ((x : ℕ) → x < w → get_or a (w + x) 0 ≡ get_or b (w + x) 0) → drop (w + w) a ≡ drop (w + w) b → a ≡ b
halves_same w a b long first second rest = ext_get_or 0 a b long (λ i l. by i (le_or_lt w i) (le_or_lt (w + w) i))
  where
    by : (i : ℕ) → (w ≤ i) ⊎ (i < w) → (w + w ≤ i) ⊎ (i < w + w) → get_or a i 0 ≡ get_or b i 0
    by i (inr l) m = first i l
    by i (inl l) (inr m) = let e : w + (i - w) ≡ i = omega arith in let q = second (i - w) (omega arith) in rw e at q
    by i (inl l) (inl m) =
        let e : w + w + (i - (w + w)) ≡ i = omega arith in
        let q : get_or (drop (w + w) a) (i - (w + w)) 0 ≡ get_or (drop (w + w) b) (i - (w + w)) 0 = ap (λ (s : List ℕ). get_or s (i - (w + w)) 0) rest in
        let q' = sym (get_or-drop (w + w) a (i - (w + w)) 0) ∙ q ∙ get_or-drop (w + w) b (i - (w + w)) 0 in
        rw e at q'

-- ---- the rows as a list
module _ (p : Plan) (rows : List ℕ) where
  pub list_none : row_list p rows 0 ≡ []
  unfolding row_list
  list_none = refl

  list_more : (c : ℕ) → row_list p rows (suc c) ≡ row_list p rows c ++ (picture_row (lanes_of p) rows p.source.width c ∷ [])
  unfolding row_list
  list_more c = refl

  pub list_length : (c : ℕ) → length (row_list p rows c) ≡ c
  unfolding row_list
  list_length zero = refl
  list_length (suc c) = length-append (row_list p rows c) (picture_row (lanes_of p) rows p.source.width c ∷ []) ∙ (let h = list_length c in omega arith)

  pub list_at : (c i : ℕ) → i < c → get_or (row_list p rows c) i [] ≡ picture_row (lanes_of p) rows p.source.width i
  list_at zero i l = absurd (omega arith)
  list_at (suc c) i l = ap (λ (s : List (List ℕ)). get_or s i []) (list_more c) ∙ by (list_at c i) (le_or_lt c i)
    where
      by : (i < c → get_or (row_list p rows c) i [] ≡ picture_row (lanes_of p) rows p.source.width i) → (c ≤ i) ⊎ (i < c)
          → get_or (row_list p rows c ++ (picture_row (lanes_of p) rows p.source.width c ∷ [])) i [] ≡ picture_row (lanes_of p) rows p.source.width i
      by h (inr m) = get_or-append (row_list p rows c) (picture_row (lanes_of p) rows p.source.width c ∷ []) [] i (rw (list_length c) m) ∙ h m
      by h (inl m) =
          let e : i ≡ c = omega arith in
          let row : List ℕ = picture_row (lanes_of p) rows p.source.width c in
          let q : get_or (row_list p rows c ++ (row ∷ [])) (length (row_list p rows c) + 0) [] ≡ row = get_or-append-add (row_list p rows c) (row ∷ []) 0 [] in
          let z : length (row_list p rows c) + 0 ≡ c = omega (arith, list_length c) in
          rw e (rw z at q)

-- ---- a row inside the crop comes in
module _ (p : Plan) (down : p.target.height ≤ p.crop.height) where
  abbrev w : ℕ
  w = half_values (lanes_of p) p.target.width

  module _ (row : List ℕ) (s : ℕ) (work : List ℕ) (lo : p.crop.y ≤ s) (hi : s < p.crop.y + p.crop.height) (room : w + w ≤ length work) where
    accepted_in : row_accepted p row s work ≡ row_in (scale_by p) (s - p.crop.y) (values_of p row) work
    unfolding row_accepted
    accepted_in = simp (le-leb p.crop.y s lo, lt-ltb s (p.crop.y + p.crop.height) hi)

    pub accepted_first : (x : ℕ) → x < w → get_or (row_accepted p row s work) x 0 ≡ wrap_add (get_or work x 0) (values_of p row x)
    accepted_first x l = rw accepted_in (in_first (scale_by p) (s - p.crop.y) (values_of p row) work room down x l)

    pub accepted_second : (x : ℕ) → x < w → get_or (row_accepted p row s work) (w + x) 0 ≡ values_of p row x
    accepted_second x l = rw accepted_in (in_second (scale_by p) (s - p.crop.y) (values_of p row) work room down x l)

    pub accepted_length : length (row_accepted p row s work) ≡ length work
    accepted_length = rw accepted_in (row_in_length (scale_by p) (s - p.crop.y) (values_of p row) work room)

    pub accepted_rest : drop (w + w) (row_accepted p row s work) ≡ drop (w + w) work
    accepted_rest = rw accepted_in (row_in_rest (scale_by p) (s - p.crop.y) (values_of p row) work room)

  -- ---- rows k to k + c - 1 in order
  module _ (rows : List ℕ) (k : ℕ) (work : List ℕ) (lo : p.crop.y ≤ k) (room : w + w ≤ length work) where
    abbrev row : ℕ → List ℕ
    row c = picture_row (lanes_of p) rows p.source.width c

    fed_suc : (c : ℕ) → fed p rows k (suc c) work ≡ row_accepted p (row c) (k + c) (fed p rows k c work)
    unfolding fed
    fed_suc c = refl

    fed_zero : fed p rows k 0 work ≡ work
    unfolding fed
    fed_zero = refl

    pub fed_length : (c : ℕ) → k + c ≤ p.crop.y + p.crop.height → length (fed p rows k c work) ≡ length work
    fed_length zero hi = ap length fed_zero
    fed_length (suc c) hi =
        let h = fed_length c (omega arith) in
        ap length (fed_suc c) ∙ accepted_length (row c) (k + c) (fed p rows k c work) (omega arith) (omega arith) (omega arith) ∙ h

    pub fed_rest : (c : ℕ) → k + c ≤ p.crop.y + p.crop.height → drop (w + w) (fed p rows k c work) ≡ drop (w + w) work
    fed_rest zero hi = ap (drop (w + w)) fed_zero
    fed_rest (suc c) hi =
        let h = fed_length c (omega arith) in
        ap (drop (w + w)) (fed_suc c) ∙ accepted_rest (row c) (k + c) (fed p rows k c work) (omega arith) (omega arith) (omega arith) ∙ fed_rest c (omega arith)

    pub fed_first : (c : ℕ) → k + c ≤ p.crop.y + p.crop.height → (x : ℕ) → x < w
        → get_or (fed p rows k c work) x 0 ≡ summed (λ r. values_of p r x) (get_or work x 0) (row_list p rows c)
    fed_first zero hi x l = rw (fed_zero, list_none p rows) (sym (summed_none (λ r. values_of p r x) (get_or work x 0)))
    fed_first (suc c) hi x l =
        let h = fed_length c (omega arith) in
        ap (λ (s : List ℕ). get_or s x 0) (fed_suc c)
        ∙ accepted_first (row c) (k + c) (fed p rows k c work) (omega arith) (omega arith) (omega arith) x l
        ∙ ap (λ (z : ℕ). wrap_add z (values_of p (row c) x)) (fed_first c (omega arith) x l)
        ∙ sym (summed_last (λ r. values_of p r x) (get_or work x 0) (row c) (row_list p rows c))
        ∙ ap (summed (λ r. values_of p r x) (get_or work x 0)) (sym (list_more p rows c))

    pub fed_second : (c : ℕ) → k + suc c ≤ p.crop.y + p.crop.height → (x : ℕ) → x < w → get_or (fed p rows k (suc c) work) (w + x) 0 ≡ values_of p (row c) x
    fed_second c hi x l =
        let h = fed_length c (omega arith) in
        ap (λ (s : List ℕ). get_or s (w + x) 0) (fed_suc c)
        ∙ accepted_second (row c) (k + c) (fed p rows k c work) (omega arith) (omega arith) (omega arith) x l
