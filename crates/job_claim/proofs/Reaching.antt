-- For every source of the right length there is a list of calls that brings all of it and takes every row, no call being turned away: offer one row after another,
-- and take while a row is ready. What is left to accept and to take falls with each call. Assumes nothing.
use Prim.Native.Nat.{ℕ, zero, suc, ◌+◌, ◌*◌, ◌-◌, ◌/◌, ◌%◌, ◌≤◌, ◌<◌}
use mathlib.Core.Path.{◌≡◌, refl, ◌∙◌, ap}
use mathlib.Core.Logic.{◌⊎◌, inl, inr}
use mathlib.Core.List.{List, [], ◌∷◌, ◌++◌}
use native.Mathlib.Omega.{arith}
use native.Mathlib.Nat.{div-add-mod, mul-le-mul}
use lib.ListN.{length, take, drop, replicate, length-replicate}
use lib.Seq.{take-length, take-add, take_all}
use Rattle.arithmetic.proofs.Orders.{le_or_lt}
use Rattle.arithmetic.proofs.Quotients.{div_is}
use Rattle.pixels.specs.Sizes.{row_bytes, picture_bytes}
use Rattle.pixels_crop.specs.Crop.{picture_row}
use Rattle.rows_schedule.proofs.Crop.{rows_most, rows_all}
use Rattle.job_rules.specs.declared.Plan.{Plan}
use Rattle.job_rules.specs.Rules.{lanes_of, Formed, R, start_number}
use Rattle.job.specs.Calls.{count, lent_rows}
use Rattle.job.proofs.Views
use Rattle.job.proofs.Views.{WholeRows}
use Rattle.job_claim.specs.Calls.{Call, Offer, Take, Seen, Run, nothing, step, run, offer_number, take_number, NoneRefused}
use Rattle.job_claim.specs.Claim.{Reached}
use Rattle.job_start.proofs.Starting.{start_went}
use Rattle.job_claim.proofs.Reading.{shape_of}
use Rattle.job_claim.proofs.Feeding.{row_length}
use Rattle.job_claim.proofs.Invariant.{job_at, run_at, Inv, offer_leads, offer_kept, take_leads, take_kept, count_some, count_most, begun_inv}

-- a list of calls that gets to the end from a run
record Way (p : Plan) (pixels : List ℕ) (r : Run) : Type 0 where
  calls : List Call
  none_refused : NoneRefused p r calls
  source : (run p r calls).seen.source ≡ pixels
  accepted : (run p r calls).seen.accepted ≡ p.source.height
  taken : (run p r calls).seen.taken ≡ p.target.height

offer_first : (p : Plan) (pixels : List ℕ) (r : Run) (rows : List ℕ) (lent : ℕ) → offer_number r rows lent ≡ 0 → Way p pixels (step p r (Offer rows lent)) → Way p pixels r
unfolding run
offer_first p pixels r rows lent e w = record { calls = Offer rows lent ∷ w.calls; none_refused = (e, w.none_refused); source = w.source; accepted = w.accepted; taken = w.taken }

take_first : (p : Plan) (pixels : List ℕ) (r : Run) (out : List ℕ) (lent : ℕ) → take_number r out lent ≡ 0 → Way p pixels (step p r (Take out lent)) → Way p pixels r
unfolding run
take_first p pixels r out lent e w = record { calls = Take out lent ∷ w.calls; none_refused = (e, w.none_refused); source = w.source; accepted = w.accepted; taken = w.taken }

-- one row is one row
one_row : (w : ℕ) → 0 < w → w / w ≡ 1
one_row w pos = div_is w (omega arith) (omega arith)

no_rest : (w : ℕ) → 0 < w → w % w ≡ 0
no_rest w pos = omega (arith, div-add-mod w w, ap (λ (x : ℕ). w * x) (one_row w pos))

module _ (p : Plan) (pixels : List ℕ) (long : length pixels ≡ picture_bytes (lanes_of p) p.source.width p.source.height) where
  left : Seen → ℕ
  left s = p.source.height - s.accepted + (p.target.height - s.taken)

  -- the bytes accepted are the first of the picture's
  First : Seen → Type 0
  First s = s.source ≡ take (row_bytes (lanes_of p) p.source.width * s.accepted) pixels

  -- one row more
  next : (k : ℕ) → length (picture_row (lanes_of p) pixels p.source.width k) ≡ row_bytes (lanes_of p) p.source.width
      → take (row_bytes (lanes_of p) p.source.width * k) pixels ++ take (row_bytes (lanes_of p) p.source.width * 1) (picture_row (lanes_of p) pixels p.source.width k) ≡ take (row_bytes (lanes_of p) p.source.width * (k + 1)) pixels
  unfolding picture_row
  next k len =
      let w : ℕ = row_bytes (lanes_of p) p.source.width in
      let one : w * 1 ≡ w = omega arith in
      let more : w * (k + 1) ≡ w * k + w = omega arith in
      rw (one, more, take-add (w * k) w pixels) (ap (λ (t : List ℕ). take (w * k) pixels ++ t) (take_all w (take w (drop (w * k) pixels)) (omega arith)))

  module _ (s : Seen) (work : List ℕ) (v : Inv p s work) (first : First s) where
    most : R p s.accepted ≤ p.target.height
    most = rows_most p.crop.y p.crop.height p.target.height v.rules.sizes.crop_height s.accepted

    -- the end
    arrived : R p s.accepted ≤ s.taken → p.source.height ≤ s.accepted → Way p pixels (run_at p s work)
    unfolding First run
    arrived a b =
        let same : s.accepted ≡ p.source.height = omega (arith, v.rules.rows) in
        record {
          calls = [];
          none_refused = tt;
          source = first ∙ take_all (row_bytes (lanes_of p) p.source.width * s.accepted) pixels (rw (long, same) (omega arith));
          accepted = same;
          taken = omega (arith, v.rules.high, rows_all p.crop.y p.crop.height p.target.height v.rules.sizes.crop_height s.accepted (omega (arith, v.rules.sizes.bottom)));
        }

    module _ (n : ℕ) (ih : (s : Seen) (work : List ℕ) → Inv p s work → First s → left s ≡ n → Way p pixels (run_at p s work)) (e : left s ≡ suc n) where
      by_take : s.taken < R p s.accepted → Way p pixels (run_at p s work)
      unfolding left First
      by_take a =
          let out : List ℕ = replicate (row_bytes (lanes_of p) p.target.width) 0 in
          let goes = Views.take_goes (job_at p s) (length out) (length (take (length work) work)) v.rules (length-replicate (row_bytes (lanes_of p) p.target.width) 0) (rw (take-length work) v.room) a in
          let o = Views.take_went (job_at p s) out (take (length work) work) goes in
          take_first p pixels (run_at p s work) out (length work) goes
          (rw (take_leads p s work v out (length work) o) (ih _ _ (take_kept p s work v out (length work) o) first (omega (arith, most))))

      by_offer : R p s.accepted ≤ s.taken → s.accepted < p.source.height → Way p pixels (run_at p s work)
      unfolding left First
      by_offer a b =
          let w : ℕ = row_bytes (lanes_of p) p.source.width in
          let row : List ℕ = picture_row (lanes_of p) pixels p.source.width s.accepted in
          let some_lane = (shape_of p s.accepted s.taken s.flag v.rules).lane_count.some in
          let some : 0 < w = mul-le-mul {n₁ = 1} {m₁ = 1} {n₂ = lanes_of p} {m₂ = p.source.width} some_lane v.rules.sizes.source_width.some in
          let len : length row ≡ w = row_length (lanes_of p) pixels p.source.width p.source.height s.accepted (omega arith) b in
          let whole : WholeRows p (length row) = record { some = omega arith; whole = rw len (no_rest w some) } in
          let one : lent_rows p (length row) ≡ 1 = rw len (one_row w some) in
          let goes = Views.offer_goes (job_at p s) (length row) (length (take (length work) work)) v.rules whole (rw (take-length work) v.room) a b in
          let o = Views.offer_went (job_at p s) row (take (length work) work) goes in
          let c : count (job_at p s) (length row) ≡ 1 = omega (arith, count_some (job_at p s) (length row) whole a b, count_most (job_at p s) (length row)) in
          offer_first p pixels (run_at p s work) row (length work) goes
          (rw (offer_leads p s work v row (length work) o)
          (ih _ _ (offer_kept p s work v row (length work) o) (rw (c, first) (next s.accepted len)) (rw c (omega arith))))

  way : (n : ℕ) (s : Seen) (work : List ℕ) → Inv p s work → First s → left s ≡ n → Way p pixels (run_at p s work)
  unfolding left
  way zero s work v first e = arrived s work v first (omega (arith, most s work v first)) (omega arith)
  way (suc n) s work v first e = by (way n) (le_or_lt (R p s.accepted) s.taken) (le_or_lt p.source.height s.accepted)
    where
      by : ((s : Seen) (work : List ℕ) → Inv p s work → First s → left s ≡ n → Way p pixels (run_at p s work))
          → (R p s.accepted ≤ s.taken) ⊎ (s.taken < R p s.accepted) → (p.source.height ≤ s.accepted) ⊎ (s.accepted < p.source.height) → Way p pixels (run_at p s work)
      by ih (inr a) b = by_take s work v first n ih e a
      by ih (inl a) (inr b) = by_offer s work v first n ih e a b
      by ih (inl a) (inl b) = arrived s work v first a b

pub some_list : (p : Plan) (work : List ℕ) → Formed p → start_number p (length work) ≡ 0 → (pixels : List ℕ) → length pixels ≡ picture_bytes (lanes_of p) p.source.width p.source.height
    → (calls : List Call) × Reached p work pixels calls
unfolding left First
some_list p work formed e pixels long =
    let o = start_went p work e in
    let w = way p pixels long _ nothing _ (begun_inv p work formed o) (ap (λ (n : ℕ). take n pixels) (let q : 0 ≡ row_bytes (lanes_of p) p.source.width * 0 = omega arith in q)) refl in (
      w.calls,
      record {
        none_refused = rw o.work_after w.none_refused;
        source = rw o.work_after w.source;
        accepted = rw o.work_after w.accepted;
        taken = rw o.work_after w.taken;
      },
    )
