-- Three planes: where no number applies, each plane's own start is accepted; where one does, none is started. Assumes nothing.
use Prim.Native.Nat.{ℕ, ◌*◌, ◌≤◌, ◌<◌}
use mathlib.Core.Path.{◌≡◌, sym, ◌∙◌}
use mathlib.Core.Bool.{true, false}
use mathlib.Core.List.{List}
use native.Mathlib.Omega.{arith}
use lib.ListN.{length}
use lib.Dec.{ltb}
use borrow.Author.Tests.{eq-eqb, lt-ltb, le-ltb, ltb-false}
use Rattle.pixels.specs.declared.Dimensions.{Dimensions}
use Rattle.pixels.specs.declared.Refusal.{Refusal}
use Rattle.pixels.specs.Refusals.{number}
use Rattle.pixels.specs.Sizes.{work_values, bad_size, rect_of}
use Rattle.pixels.proofs.Causes.{first_none, none_applies}
use Rattle.pixels.proofs.Fitting.{size_of_lem, lanes_good, not_empty, within, right_sizes}
use Rattle.pixels.proofs.Numbers.{buffer_refused}
use Rattle.job_rules.specs.declared.Plan.{Plan}
use Rattle.job_rules.specs.Rules.{start_causes, start_number}
use Rattle.job_start.specs.Start.{cleared, start_work}
use Rattle.job_start.proofs.Starting.{start_went}
use Rattle.job_planes.specs.Planes.{chroma_of, plane_for, chroma_for, planes_causes, planes_number, plane_work}

-- two halves of one lane, as the code counts them
pub too_few : (n w : ℕ) → n < 2 * w → ltb n (work_values 1 w) ≡ true
too_few n w l = lt-ltb n (work_values 1 w) (omega arith)

pub enough : (n w : ℕ) → 2 * w ≤ n → ltb n (work_values 1 w) ≡ false
enough n w l = le-ltb n (work_values 1 w) (omega arith)

-- an uncropped plane of one lane starts where its sizes pass and the work values suffice
plane_starts : (source target : Dimensions) (n : ℕ) → bad_size source ≡ false → bad_size target ≡ false → work_values 1 target.width ≤ n
    → start_number (plane_for source target) n ≡ 0
unfolding start_number
plane_starts source target n s t room =
    let sides = size_of_lem source s in
    let crop = rect_of 0 0 source.width source.height in
    let sizes = right_sizes source crop target s t (not_empty crop sides.0.some sides.1.some) in
    let inside = within crop source (omega arith) (omega arith) in
    let lane = lanes_good 1 (record { some = omega arith; most = omega arith }) in
    first_none (start_causes (plane_for source target) n) (sizes, (lane, (inside, (le-ltb n (work_values 1 target.width) room, tt))))

-- what passing all tests says of each plane
pub record AllStart (source target : Dimensions) (luma cb cr : ℕ) : Type 0 where
  pub luma_starts : start_number (plane_for source target) luma ≡ 0
  pub cb_starts : start_number (chroma_for source target) cb ≡ 0
  pub cr_starts : start_number (chroma_for source target) cr ≡ 0

pub all_start : (source target : Dimensions) (luma cb cr : ℕ) → planes_number source target luma cb cr ≡ 0 → AllStart source target luma cb cr
unfolding planes_number
all_start source target luma cb cr e =
    let q = none_applies (planes_causes source target luma cb cr) e in
    let half-source = q.1.1.0 in
    let half-target = q.1.1.1.0 in
    let rest = q.1.1.1.1 in
    record {
      luma_starts = plane_starts source target luma q.0 q.1.0 (ltb-false luma _ rest.0);
      cb_starts = plane_starts (chroma_of source) (chroma_of target) cb half-source half-target (ltb-false cb _ rest.1.0);
      cr_starts = plane_starts (chroma_of source) (chroma_of target) cr half-source half-target (ltb-false cr _ rest.1.1.0);
    }

-- a slice of a plane that is started, the number of all three being 0
pub slice_cleared : (n : ℕ) (p : Plan) (work next : List ℕ) → n ≡ 0 → start_number p (length work) ≡ 0 → next ≡ start_work p work → next ≡ plane_work n p work
slice_cleared n p work next z goes e = e ∙ (start_went p work goes).work_after ∙ sym (simp (eq-eqb n 0 z))

pub slice_kept : (why : Refusal) (n : ℕ) (p : Plan) (work : List ℕ) → n ≡ number why → work ≡ plane_work n p work
slice_kept why n p work e = (buffer_refused why n (cleared p work) work e).1
