-- The rows of a band offered one a call (SCOPE, "Bands"): each is accepted, and they leave the record and the work values that the band leaves. Assumes nothing.
use Prim.Native.Nat.{ℕ, zero, suc, ◌+◌, ◌*◌, ◌-◌, ◌/◌, ◌≤◌, ◌<◌}
use mathlib.Core.Path.{◌≡◌, refl, sym, ap, ap₂, ◌∙◌}
use mathlib.Core.List.{List}
use native.Mathlib.Omega.{arith}
use native.Mathlib.Nat.{mul-le-mul_left, mul-zero, mod_self}
use lib.ListN.{length, take, drop, length-drop}
use lib.Seq.{take_all, length-take-le}
use Rattle.arithmetic.proofs.Quotients.{div_is}
use Rattle.pixels.specs.Sizes.{row_bytes, work_values}
use Rattle.pixels_crop.specs.Crop.{picture_row}
use Rattle.job_rules.specs.declared.Plan.{Plan}
use Rattle.job_rules.specs.Rules.{lanes_of, R}
use Rattle.job.specs.declared.Job.{Job}
use Rattle.job.specs.Record.{Rules}
use Rattle.job.specs.Calls.{lent_rows, most_rows, count, more_accepted, fed, offer_job, offer_work, offer_number}
use Rattle.job.proofs.Counting.{counted_most, counted_some}
use Rattle.job.proofs.Views.{offer_goes, offer_went}
use Rattle.job_band.specs.Bands.{band_rows, singly, band_number, band_job, band_work}
use Rattle.job_band.proofs.Feeding.{fed_length}
use Rattle.job_band.proofs.Testing.{BandWent, band_went, row_some}
use Rattle.job_band.proofs.AnyOrder.{work_went}
use Rattle.job_band.proofs.Views.{next_is}

module _ (j : Job) (rows work : List ℕ) (goes : band_number j (length rows) (length work) ≡ 0) where
  abbrev p : Plan
  p = j.plan

  abbrev k : ℕ
  k = j.accepted

  abbrev stride : ℕ
  stride = row_bytes (lanes_of p) p.source.width

  abbrev b : BandWent j (length rows) (length work)
  b = band_went j (length rows) (length work) goes

  some : 1 ≤ stride
  some = row_some j b.rules

  low : (c : ℕ) → c ≤ band_rows p k → R p (k + c - 1) ≤ j.taken
  low zero l = let e : k + zero - 1 ≡ k - 1 = omega arith in rw e b.rules.low
  low (suc c) l = let e : k + suc c - 1 ≡ k + c = omega arith in rw (e, b.band.still c (omega arith)) b.quiet

  none_more : j ≡ more_accepted j 0
  none_more = let e : k ≡ k + 0 = omega arith in ap (λ (z : ℕ). record { plan = p; accepted = z; taken = j.taken; flag = j.flag }) e

  none_fed : work ≡ fed p rows k 0 work
  unfolding fed
  none_fed = refl

  -- ---- row c, the rows before it being accepted
  module _ (c : ℕ) (l : c < band_rows p k) where
    abbrev row : List ℕ
    row = picture_row (lanes_of p) rows p.source.width c

    abbrev before : List ℕ
    before = fed p rows k c work

    row_long : length row ≡ stride
    unfolding picture_row
    row_long =
        length-take-le stride (drop (stride * c) rows)
        (simp length-drop (let u : suc c ≤ band_rows p k = omega arith in omega (arith, b.exact.exact, mul-le-mul_left stride u)))

    own_row : picture_row (lanes_of p) row p.source.width 0 ≡ row
    unfolding picture_row
    own_row = rw (mul-zero stride) (take_all stride (take stride (drop (stride * c) rows)) (omega (arith, row_long)))

    still : R p (k + c) ≡ R p k
    still = b.band.still c (omega arith)

    room : work_values (lanes_of p) p.target.width ≤ length before
    room = omega (arith, b.room, fed_length p b.band.down rows k work b.band.reached (omega (arith, b.room)) c (omega (arith, b.band.inside)))

    rules : Rules (more_accepted j c)
    rules = record {
      sizes = b.rules.sizes;
      rows = omega (arith, b.band.inside, b.rules.sizes.bottom);
      low = low c (omega arith);
      high = rw still b.rules.high;
      kind_fitting = b.rules.kind_fitting;
      flagless = b.rules.flagless;
    }

    accepts : offer_number (more_accepted j c) (length row) (length before) ≡ 0
    accepts =
        rw row_long
        (offer_goes (more_accepted j c) stride (length before) rules (record { some = some; whole = mod_self stride }) room
        (rw still b.quiet) (omega (arith, b.band.inside, b.rules.sizes.bottom)))

    lent_one : lent_rows p (length row) ≡ 1
    lent_one = ap (λ (z : ℕ). z / stride) row_long ∙ div_is stride (omega arith) (omega (arith, some))

    counts_one : count (more_accepted j c) (length row) ≡ 1
    counts_one =
        let most : most_rows (more_accepted j c) (length row) ≡ 1 = omega (arith, lent_one, b.band.inside, b.rules.sizes.bottom) in
        omega (arith, counted_most (R p) (k + c) j.taken (most_rows (more_accepted j c) (length row)), counted_some (R p) (k + c) j.taken (most_rows (more_accepted j c) (length row)) (omega arith))

    one_fed : fed p row (k + c) 1 before ≡ fed p rows k (suc c) work
    unfolding fed
    one_fed = let e : k + c + 0 ≡ k + c = omega arith in rw (own_row, e) refl

    next_job : offer_job (more_accepted j c) (length row) (length before) ≡ more_accepted j (suc c)
    next_job =
        (offer_went (more_accepted j c) row before accepts).next
        ∙ ap (more_accepted (more_accepted j c)) counts_one
        ∙ (let e : k + c + 1 ≡ k + suc c = omega arith in ap (λ (z : ℕ). record { plan = p; accepted = z; taken = j.taken; flag = j.flag }) e)

    next_work : offer_work (more_accepted j c) row before ≡ fed p rows k (suc c) work
    next_work = (offer_went (more_accepted j c) row before accepts).work_after ∙ ap (λ (z : ℕ). fed p row (k + c) z before) counts_one ∙ one_fed

  singly_is : (c : ℕ) → c ≤ band_rows p k → singly j rows work c ≡ (more_accepted j c, fed p rows k c work)
  unfolding singly
  singly_is zero l = ap₂ (λ (x : Job) (y : List ℕ). (x, y)) none_more none_fed
  singly_is (suc c) l = rw (singly_is c (omega arith), next_job c l, next_work c l) refl

  pub band_singly : (band_job j (length rows) (length work), band_work j rows work) ≡ singly j rows work (band_rows p k)
  band_singly =
      ap₂ (λ (x : Job) (y : List ℕ). (x, y)) (next_is j (length rows) (length work) goes) (work_went j rows work goes)
      ∙ sym (singly_is (band_rows p k) (omega arith))
