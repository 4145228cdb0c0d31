-- What the loop of an offer keeps (SCOPE: "stops at the first row that makes an output row ready, at the last offered or at the source's last"):
-- none was ready before the last row, and the rows so far are in the work rows. Where it stops, the rows so far are the count. Assumes nothing.
use Prim.Native.Nat.{ℕ, zero, suc, ◌+◌, ◌*◌, ◌-◌, ◌/◌, ◌≤◌, ◌<◌}
use mathlib.Core.Path.{◌≡◌, refl, sym, ◌∙◌, ap}
use mathlib.Core.Logic.{inl, inr}
use mathlib.Core.List.{List}
use native.Mathlib.Omega.{arith}
use native.Mathlib.Nat.{div-add-mod, mul-le-mul_left, le_trans}
use native.Mathlib.Numerals.{add-one}
use lib.ListN.{length, take, drop, length-drop}
use lib.Seq.{length-take-le}
use Rattle.pixels.specs.Sizes.{row_bytes}
use Rattle.pixels_crop.specs.Crop.{picture_row}
use Rattle.pixels_crop.proofs.Windows.{row_part}
use Rattle.rows_schedule.proofs.Crop.{rows_le}
use Rattle.rows_in.specs.In.{in_work}
use Rattle.job_rules.specs.declared.Plan.{Plan}
use Rattle.job.specs.declared.Job.{Job}
use Rattle.job_rules.specs.Rules.{lanes_of, form_of, R}
use Rattle.job_rules.proofs.KindRules.{lane_count, lanes_form}
use Rattle.job.specs.Inner.{RowAsks}
use Rattle.job.specs.Calls.{lent_rows, most_rows, count, row_accepted, fed, offer_number}
use Rattle.job.proofs.Counting.{counted_is}
use Rattle.job.proofs.RowIn.{row_in_lem}
use Rattle.job.proofs.Views.{OfferWent, offer_went}

-- ---- the most rows there may be, as the code finds them; s is the length of a source row
module _ (j : Job) (n s : ℕ) (is : s ≡ row_bytes (lanes_of j.plan) j.plan.source.width) where
  lent_is : n / s ≡ lent_rows j.plan n
  lent_is = ap (λ (x : ℕ). n / x) is

  pub most_lent : n / s < j.plan.source.height - j.accepted → n / s ≡ most_rows j n
  most_lent l = lent_is ∙ (let m : lent_rows j.plan n < j.plan.source.height - j.accepted = rw lent_is at l in omega arith)

  pub most_left : j.plan.source.height - j.accepted ≤ n / s → j.plan.source.height - j.accepted ≡ most_rows j n
  most_left l = let m : j.plan.source.height - j.accepted ≤ lent_rows j.plan n = rw lent_is at l in omega arith

fed_none : (p : Plan) (rows work : List ℕ) (k : ℕ) → work ≡ fed p rows k 0 work
unfolding fed
fed_none p rows work k = refl

fed_more : (p : Plan) (rows work : List ℕ) (k i : ℕ) → row_accepted p (picture_row (lanes_of p) rows p.source.width i) (k + i) (fed p rows k i work) ≡ fed p rows k (i + 1) work
unfolding fed
fed_more p rows work k i = rw (add-one i) refl

pub record Accepting (j : Job) (rows before : List ℕ) (most : ℕ) (work : List ℕ) (i : ℕ) : Type 0 where
  pub left : i < most
  pub quiet : R j.plan (j.accepted + i) ≤ j.taken
  pub fed_is : work ≡ fed j.plan rows j.accepted i before
  pub long : length work ≡ length before

module _ (j : Job) (rows before : List ℕ) (most : ℕ) (goes : offer_number j (length rows) (length before) ≡ 0) (m : most ≡ most_rows j (length rows)) where
  abbrev o : OfferWent j rows before
  o = offer_went j rows before goes

  abbrev stride : ℕ
  stride = row_bytes (lanes_of j.plan) j.plan.source.width

  lent : length rows ≡ stride * lent_rows j.plan (length rows)
  lent = omega (arith, div-add-mod (length rows) stride, o.whole.whole)

  some_lent : 0 < lent_rows j.plan (length rows)
  some_lent = by (lent_rows j.plan (length rows)) refl
    where
      by : (x : ℕ) → lent_rows j.plan (length rows) ≡ x → 0 < x
      by zero e = absurd (let q : length rows ≡ stride * 0 = lent ∙ ap (λ (z : ℕ). stride * z) e in omega (arith, o.whole.some))
      by (suc x) e = omega arith

  pub accepting_first : Accepting j rows before most before 0
  accepting_first =
      let e : j.accepted + 0 ≡ j.accepted = omega arith in
      record {
        left = omega (arith, some_lent, o.remain);
        quiet = rw e o.none_ready;
        fed_is = fed_none j.plan rows before j.accepted;
        long = refl;
      }

  module _ (work : List ℕ) (i : ℕ) (a : Accepting j rows before most work i) where
    whole_row : stride * i + stride ≤ length rows
    whole_row =
        let l : suc i ≤ lent_rows j.plan (length rows) = omega (arith, a.left) in
        omega (arith, lent, mul-le-mul_left stride l)

    picture_row_long : length (picture_row (lanes_of j.plan) rows j.plan.source.width i) ≡ stride
    unfolding picture_row
    picture_row_long = length-take-le stride (drop (stride * i) rows) (simp length-drop (omega (arith, whole_row)))

    -- the next row as the code lends it, s being what it has for the length of a row
    module _ (s : ℕ) (s-is : s ≡ stride) where
      pub in_lent : s * i + s ≤ length rows
      in_lent = rw s-is whole_row

      abbrev row : List ℕ
      row = take (s * i + s - s * i) (drop (s * i) rows)

      row_is : row ≡ picture_row (lanes_of j.plan) rows j.plan.source.width i
      row_is = rw s-is (row_part (lanes_of j.plan) rows j.plan.source.width i)

      asks : RowAsks j.plan row work
      asks = record {
        fits = o.rules.sizes;
        lane_count = lane_count j.plan.kind j.plan.layout j.plan.lanes j.flag o.rules.kind_fitting;
        lanes_form = lanes_form j.plan.kind j.plan.layout j.plan.lanes j.flag o.rules.kind_fitting;
        long = ap length row_is ∙ picture_row_long;
        room = omega (arith, o.room, a.long);
      }

      pub next_fed : (next : List ℕ) → next ≡ in_work (form_of j.plan) j.plan.crop j.plan.target (j.accepted + i) row work
          → next ≡ fed j.plan rows j.accepted (i + 1) before
      next_fed next e = e ∙ row_in_lem j.plan row (j.accepted + i) work asks ∙ rw (row_is, a.fed_is) (fed_more j.plan rows before j.accepted i)

    pub in_range : j.accepted + i < 16384
    in_range = omega (arith, a.left, o.rules.sizes.source_height.most)

    still : (x : ℕ) → x < i + 1 → R j.plan (j.accepted + x) ≤ j.taken
    still x l =
        let e : i - x + (j.accepted + x) ≡ j.accepted + i = omega arith in
        let up : R j.plan (j.accepted + x) ≤ R j.plan (i - x + (j.accepted + x)) =
        rows_le j.plan.crop.y j.plan.crop.height j.plan.target.height o.rules.sizes.crop_height (j.accepted + x) (i - x) in
        le_trans (rw e at up) a.quiet

    -- the last that there may be
    pub accepting_full : i + 1 ≡ most → i + 1 ≡ count j (length rows)
    accepting_full e =
        sym (counted_is (R j.plan) j.accepted j.taken o.none_ready (most_rows j (length rows)) (i + 1) (omega arith) still (inl (omega arith)))

    -- the first that makes an output row ready
    pub accepting_ready : j.taken < R j.plan (j.accepted + (i + 1)) → i + 1 ≡ count j (length rows)
    accepting_ready l =
        sym (counted_is (R j.plan) j.accepted j.taken o.none_ready (most_rows j (length rows)) (i + 1) (omega (arith, a.left)) still (inr l))

    -- after a row has come in
    module _ (next : List ℕ) (e : next ≡ fed j.plan rows j.accepted (i + 1) before) where
      pub next_count : i + 1 ≡ count j (length rows) → next ≡ fed j.plan rows j.accepted (count j (length rows)) before
      next_count q = e ∙ ap (λ (x : ℕ). fed j.plan rows j.accepted x before) q

      pub accepting_more : length next ≡ length work → (i + 1 ≡ most → ⊥) → R j.plan (j.accepted + (i + 1)) ≤ j.taken → Accepting j rows before most next (i + 1)
      accepting_more len ne l = record {
        left = omega (arith, a.left, ne);
        quiet = l;
        fed_is = e;
        long = len ∙ a.long;
      }
