-- What the loop of a band keeps (SCOPE, "Bands"): the rows from the present one to the last are summed over the first half, the rest of the work values stays. Once all are,
-- and the last is in the second half, the work rows are those that the rows offered in order leave. Assumes nothing.
use Prim.Native.Nat.{ℕ, suc, ◌+◌, ◌*◌, ◌-◌, ◌≤◌, ◌<◌}
use mathlib.Core.Path.{◌≡◌, refl, sym, ap, subst, ◌∙◌}
use mathlib.Core.List.{List, [], ◌∷◌}
use native.Mathlib.Omega.{arith}
use native.Mathlib.Nat.{mul-le-mul_left}
use lib.ListN.{length, get_or, take, drop, length-drop, drop_of_length-le}
use lib.Seq.{drop-cons, length-take-le}
use Rattle.arithmetic.specs.Word.{wrap_add}
use Rattle.pixels.specs.Sizes.{row_bytes, half_values}
use Rattle.pixels_crop.specs.Crop.{picture_row}
use Rattle.pixels_crop.proofs.Windows.{row_part}
use Rattle.rows_in.specs.In.{in_work}
use Rattle.job_rules.specs.declared.Plan.{Plan}
use Rattle.job_rules.specs.Rules.{lanes_of, form_of}
use Rattle.job_rules.proofs.KindRules.{lane_count, lanes_form}
use Rattle.job.specs.declared.Job.{Job}
use Rattle.job.specs.Calls.{values_of, row_accepted, fed, offer_work}
use Rattle.job.specs.Inner.{RowAsks}
use Rattle.job.proofs.RowIn.{row_in_lem}
use Rattle.job.proofs.Views.{offer_went}
use Rattle.job_band.specs.Bands.{band_rows, row_list, band_number}
use Rattle.job_band.specs.Inner.{second_put}
use Rattle.job_band.proofs.Summing.{summed, summed_none, summed_first}
use Rattle.job_band.proofs.Feeding.{halves_same, list_length, list_at, accepted_first, accepted_second, accepted_length, accepted_rest, fed_length, fed_rest, fed_first, fed_second}
use Rattle.job_band.proofs.SecondHalf.{second_first, second_second, second_length, second_rest}
use Rattle.job_band.proofs.Testing.{BandWent, band_went, exact_some, counted_all}

-- rows i to n - 1 of the n lent have come in, the present one last
pub record Adding (p : Plan) (rows before : List ℕ) (n : ℕ) (work : List ℕ) (i : ℕ) : Type 0 where
  pub few : i ≤ n
  pub long : length work ≡ length before
  pub sums : (x : ℕ) → x < half_values (lanes_of p) p.target.width
      → get_or work x 0 ≡ summed (λ r. values_of p r x) (get_or before x 0) (drop i (row_list p rows n))
  pub rest : drop (half_values (lanes_of p) p.target.width + half_values (lanes_of p) p.target.width) work
      ≡ drop (half_values (lanes_of p) p.target.width + half_values (lanes_of p) p.target.width) before
  pub present : i < n → (x : ℕ) → x < half_values (lanes_of p) p.target.width
      → get_or work (half_values (lanes_of p) p.target.width + x) 0 ≡ values_of p (picture_row (lanes_of p) rows p.source.width i) x

module _ (j : Job) (rows before : List ℕ) (n : ℕ) (goes : band_number j (length rows) (length before) ≡ 0) (is : n ≡ band_rows j.plan j.accepted) where
  abbrev p : Plan
  p = j.plan

  abbrev k : ℕ
  k = j.accepted

  abbrev w : ℕ
  w = half_values (lanes_of p) p.target.width

  abbrev stride : ℕ
  stride = row_bytes (lanes_of p) p.source.width

  abbrev b : BandWent j (length rows) (length before)
  b = band_went j (length rows) (length before) goes

  pub some_rows : 0 < n
  some_rows = omega (arith, is, exact_some p k (length rows) b.exact)

  exact : length rows ≡ stride * n
  exact = b.exact.exact ∙ ap (λ (z : ℕ). stride * z) (sym is)

  bottom : k + n ≤ p.crop.y + p.crop.height
  bottom = omega (arith, is, b.band.inside)

  room : w + w ≤ length before
  room = omega (arith, b.room)

  pub adding_first : Adding p rows before n before n
  adding_first = record {
    few = omega arith;
    long = refl;
    sums = λ x l.
        let past : length (row_list p rows n) ≤ n = omega (arith, list_length p rows n) in
        rw (drop_of_length-le (row_list p rows n) past) (sym (summed_none (λ r. values_of p r x) (get_or before x 0)));
    rest = refl;
    present = λ l. absurd (omega arith);
  }

  pub last_less : n - 1 < n
  last_less = omega (arith, some_rows)

  -- ---- row m as the code lends it, s being what it has for the length of a row
  module _ (m : ℕ) (l : m < n) (s : ℕ) (s-is : s ≡ stride) where
    whole_row : stride * m + stride ≤ length rows
    whole_row = let u : suc m ≤ n = omega arith in omega (arith, exact, mul-le-mul_left stride u)

    pub in_lent : s * m + s ≤ length rows
    in_lent = rw s-is whole_row

    pub in_range : k + m < 16384
    in_range = omega (arith, bottom, b.rules.sizes.bottom, b.rules.sizes.source_height.most)

    abbrev row : List ℕ
    row = take (s * m + s - s * m) (drop (s * m) rows)

    row_is : row ≡ picture_row (lanes_of p) rows p.source.width m
    row_is = rw s-is (row_part (lanes_of p) rows p.source.width m)

    row_long : length (picture_row (lanes_of p) rows p.source.width m) ≡ stride
    unfolding picture_row
    row_long = length-take-le stride (drop (stride * m) rows) (simp length-drop (omega (arith, whole_row)))

    pub row_asks : (work : List ℕ) → length work ≡ length before → RowAsks p row work
    row_asks work long = record {
      fits = b.rules.sizes;
      lane_count = lane_count p.kind p.layout p.lanes j.flag b.rules.kind_fitting;
      lanes_form = lanes_form p.kind p.layout p.lanes j.flag b.rules.kind_fitting;
      long = ap length row_is ∙ row_long;
      room = omega (arith, b.room, long);
    }

    -- it comes in
    module _ (work : List ℕ) (a : Adding p rows before n work (suc m)) (next : List ℕ)
        (came : next ≡ in_work (form_of p) p.crop p.target (k + m) row work) where
      abbrev own : List ℕ
      own = picture_row (lanes_of p) rows p.source.width m

      next_is : next ≡ row_accepted p own (k + m) work
      next_is = came ∙ row_in_lem p row (k + m) work (row_asks work a.long) ∙ ap (λ (r : List ℕ). row_accepted p r (k + m) work) row_is

      lo : p.crop.y ≤ k + m
      lo = omega (arith, b.band.reached)

      hi : k + m < p.crop.y + p.crop.height
      hi = omega (arith, bottom)

      space : w + w ≤ length work
      space = omega (arith, room, a.long)

      list_is : drop m (row_list p rows n) ≡ own ∷ drop (suc m) (row_list p rows n)
      list_is =
          drop-cons (row_list p rows n) m [] (omega (arith, list_length p rows n))
          ∙ ap (λ (r : List ℕ). r ∷ drop (suc m) (row_list p rows n)) (list_at p rows n m l)

      pub adding_more : Adding p rows before n next m
      adding_more = record {
        few = omega arith;
        long = ap length next_is ∙ accepted_length p b.band.down own (k + m) work lo hi space ∙ a.long;
        sums = λ x u.
            ap (λ (z : List ℕ). get_or z x 0) next_is
            ∙ accepted_first p b.band.down own (k + m) work lo hi space x u
            ∙ ap (λ (z : ℕ). wrap_add z (values_of p own x)) (a.sums x u)
            ∙ sym (summed_first (λ r. values_of p r x) (get_or before x 0) own (drop (suc m) (row_list p rows n)))
            ∙ ap (summed (λ r. values_of p r x) (get_or before x 0)) (sym list_is);
        rest = ap (drop (w + w)) next_is ∙ accepted_rest p b.band.down own (k + m) work lo hi space ∙ a.rest;
        present = λ _ x u. ap (λ (z : List ℕ). get_or z (w + x) 0) next_is ∙ accepted_second p b.band.down own (k + m) work lo hi space x u;
      }

  -- as the loop has it: it comes from i to i - 1
  module _ (i : ℕ) (pos : 0 < i) (s : ℕ) (s-is : s ≡ stride) (work : List ℕ) (a : Adding p rows before n work i) where
    less : i - 1 < n
    less = omega (arith, a.few)

    pub turn_lent : s * (i - 1) + s ≤ length rows
    turn_lent = in_lent (i - 1) less s s-is

    pub turn_range : k + (i - 1) < 16384
    turn_range = in_range (i - 1) less s s-is

    pub turn : (next : List ℕ)
        → next ≡ in_work (form_of p) p.crop p.target (k + (i - 1)) (take (s * (i - 1) + s - s * (i - 1)) (drop (s * (i - 1)) rows)) work
        → Adding p rows before n next (i - 1)
    turn next came =
        let e : i ≡ suc (i - 1) = omega arith in
        adding_more (i - 1) less s s-is work (subst (λ (z : ℕ). Adding p rows before n work z) e a) next came

  -- ---- all have come in
  module _ (work : List ℕ) (i : ℕ) (ended : i ≤ 0) (last_of : Adding p rows before n work i) where
    a : Adding p rows before n work 0
    a = let e : i ≡ 0 = omega arith in subst (λ (z : ℕ). Adding p rows before n work z) e last_of

    -- m is the last of them: the same sums, its values in the second half
    module _ (m : ℕ) (e : n ≡ suc m) (next : List ℕ) (long : length next ≡ length work) (sums : (x : ℕ) → x < w → get_or next x 0 ≡ get_or work x 0)
        (second : (x : ℕ) → x < w → get_or next (w + x) 0 ≡ values_of p (picture_row (lanes_of p) rows p.source.width m) x)
        (rest : drop (w + w) next ≡ drop (w + w) work) where
      fed_same : next ≡ fed p rows k (suc m) before
      fed_same =
          let far : k + suc m ≤ p.crop.y + p.crop.height = omega (arith, bottom) in
          let at = b.band.reached in
          let down = b.band.down in
          halves_same w next (fed p rows k (suc m) before)
          (long ∙ a.long ∙ sym (fed_length p down rows k before at room (suc m) far))
          (λ x l.
          sums x l
          ∙ a.sums x l
          ∙ ap (λ (c : ℕ). summed (λ r. values_of p r x) (get_or before x 0) (row_list p rows c)) e
          ∙ sym (fed_first p down rows k before at room (suc m) far x l))
          (λ x l. second x l ∙ sym (fed_second p down rows k before at room m far x l))
          (rest ∙ a.rest ∙ sym (fed_rest p down rows k before at room (suc m) far))

      as_offer : next ≡ offer_work j rows before
      as_offer =
          fed_same
          ∙ ap (λ (c : ℕ). fed p rows k c before) (sym e ∙ is ∙ sym (counted_all j (length rows) (length before) b))
          ∙ sym (offer_went j rows before b.offers).work_after

    -- a band of one row leaves it in the second half
    pub added_one : n ≡ 1 → work ≡ offer_work j rows before
    added_one e = as_offer 0 e work refl (λ x l. refl) (λ x l. a.present some_rows x l) refl

    -- of more, the last goes there once more
    module _ (s : ℕ) (s-is : s ≡ stride) (next : List ℕ) (put : next ≡ second_put p (take (s * (n - 1) + s - s * (n - 1)) (drop (s * (n - 1)) rows)) work) where
      pub added_all : next ≡ offer_work j rows before
      added_all =
          let e : n ≡ suc (n - 1) = omega (arith, some_rows) in
          let own : List ℕ = picture_row (lanes_of p) rows p.source.width (n - 1) in
          let space : w + w ≤ length work = omega (arith, room, a.long) in
          let put-own : next ≡ second_put p own work = put ∙ ap (λ (r : List ℕ). second_put p r work) (row_is (n - 1) (omega (arith, some_rows)) s s-is) in
          as_offer (n - 1) e next
          (ap length put-own ∙ second_length p own work space)
          (λ x l. ap (λ (z : List ℕ). get_or z x 0) put-own ∙ second_first p own work space x l)
          (λ x l. ap (λ (z : List ℕ). get_or z (w + x) 0) put-own ∙ second_second p own work space x l)
          (ap (drop (w + w)) put-own ∙ second_rest p own work space)
