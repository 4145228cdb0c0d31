-- A row of a job that was started has at most 65,536 bytes, source and preview, since `start` refuses a side above 16,384 and more than four lanes; a
-- header that is written has at most 73. Assumes nothing.
use Prim.Native.Nat.{ℕ, ◌≤◌}
use mathlib.Core.Bool.{Bool, true, false, cond}
use mathlib.Core.Path.{◌≡◌, sym, ◌∙◌, ap}
use native.Mathlib.Omega.{arith}
use lib.Dec.{eqb}
use native.Mathlib.Nat.{mul-le-mul}
use lib.ListN.{length, replicate, length-replicate}
use Rattle.std.specs.Prelude.{Result, Ok}
use Rattle.pixels.specs.declared.Dimensions.{Dimensions}
use Rattle.pixels.specs.declared.Refusal.{Refusal}
use Rattle.pixels.specs.Refusals.{answer_number, value_or}
use Rattle.pixels.specs.Sizes.{row_bytes, size_number}
use Rattle.job_rules.specs.declared.Plan.{Plan}
use Rattle.job_rules.specs.Rules.{lanes_of, start_number}
use Rattle.job.specs.declared.Job.{Job}
use Rattle.job.specs.Record.{fresh}
use Rattle.job_start.proofs.Starting.{start_went}
use Rattle.pam_heading.specs.Heading.{heading, length_bytes, bytes_if}
use Rattle.pam_heading.proofs.Chain.{heading_most}

pub record RowsFit (j : Job) : Type 0 where
  pub source : row_bytes (lanes_of j.plan) j.plan.source.width ≤ 65536
  pub target : row_bytes (lanes_of j.plan) j.plan.target.width ≤ 65536

pub rows_fit : (p : Plan) (n : ℕ) (r : Result Job Refusal) (j : Job) → answer_number r ≡ start_number p n → value_or (fresh p) r ≡ fresh p → r ≡ Ok j → RowsFit j
rows_fit p n r j told is e =
    let went = start_went p (replicate n 0) (ap (start_number p) (length-replicate n 0) ∙ sym told ∙ ap answer_number e) in
    let lanes = went.lane_count.most in
    let same : fresh p ≡ j = sym is ∙ ap (value_or (fresh p)) e in
    let fits : RowsFit (fresh p) = record { source = mul-le-mul lanes went.sizes.source_width.most; target = mul-le-mul lanes went.sizes.target_width.most } in
    rw same at fits

-- a header that is refused has none
at_most : {n : ℕ} (b : Bool) → n ≤ 73 → cond b n 0 ≤ 73
at_most true h = h
at_most false h = omega arith

pub header_fits : (size : Dimensions) (r : Result ℕ Refusal) (n : ℕ) → length_bytes r ≡ bytes_if (size_number size) (length (heading size)) → r ≡ Ok n → n ≤ 73
header_fits size r n is e =
    let told : n ≡ bytes_if (size_number size) (length (heading size)) = sym (ap length_bytes e) ∙ is in
    omega (arith, told, at_most (eqb (size_number size) 0) (heading_most size))
