-- What `resize` gives as its contract states it: a refusal with its number and every buffer kept, and the end of the job that it drives. Assumes nothing.
use Prim.Native.Nat.{ℕ, ◌≤◌}
use mathlib.Core.Path.{◌≡◌, refl, sym, ap, ◌∙◌, subst}
use mathlib.Core.Bool.{Bool, true, false}
use mathlib.Core.List.{List, ◌++◌}
use native.Mathlib.Omega.{arith}
use lib.ListN.{length, get_or, drop, replicate, length-append, length-replicate}
use lib.Seq.{drop_at}
use borrow.Author.Tests.{eq-eqb, ltb-false}
use Rattle.arithmetic.specs.Table.{tabulate}
use Rattle.pixels.specs.declared.Dimensions.{Dimensions}
use Rattle.pixels.specs.declared.Rect.{Rect}
use Rattle.pixels_layout.specs.declared.PixelLayout.{PixelLayout}
use Rattle.pixels.specs.declared.Refusal.{Refusal}
use Rattle.std.specs.Prelude.{Result, Ok}
use Rattle.pixels.specs.Refusals.{number, value_or}
use Rattle.pixels.specs.Sizes.{pixel_lanes, half_values, work_values, picture_bytes, sizes_causes, sizes_number, Fits}
use Rattle.pixels.proofs.Numbers.{not_zero, value_of}
use Rattle.pixels.proofs.Truths.{same_of}
use Rattle.pixels.proofs.Causes.{first_none, none_applies}
use Rattle.pixels.proofs.Fitting.{fits_of, lanes_good}
use Rattle.job_rules.specs.declared.Plan.{Plan}
use Rattle.job_rules.specs.Rules.{plan_of, kind_fits, start_causes, start_number}
use Rattle.job_rules.specs.declared.Kind.TheVariants.{Picture}
use Rattle.job.specs.declared.Job.{Job}
use Rattle.job_start.specs.Start.{start_work, cleared}
use Rattle.job.specs.Record.{fresh}
use Rattle.job_claim.specs.Rows.{full_crop, resize_plan, resized, resized_flag}
use Rattle.job_resize.specs.Resize.{resize_causes, resize_number, resize_flag, resize_out, resize_work, last_first, last_second, resized_work}
use Rattle.job_resize.specs.Inner.{Asked, Driven}

-- ---- what a call that passes has
pub record ResizeFits (source target : Dimensions) (n m w : ℕ) : Type 0 where
  pub sizes : Fits source (full_crop source) target
  pub picture : n ≡ picture_bytes pixel_lanes source.width source.height
  pub output : m ≡ picture_bytes pixel_lanes target.width target.height
  pub room : work_values pixel_lanes target.width ≤ w

pub resize_fits : (source target : Dimensions) (n m w : ℕ) → resize_number source target n m w ≡ 0 → ResizeFits source target n m w
unfolding resize_number sizes_number
resize_fits source target n m w e =
    let q = none_applies (resize_causes source target n m w) e in
    record {
      sizes = fits_of source (full_crop source) target (first_none (sizes_causes source (full_crop source) target) (q.0, (q.1.0, tt)));
      picture = same_of n _ q.1.1.0;
      output = same_of m _ q.1.1.1.0;
      room = ltb-false w _ q.1.1.1.1.0;
    }

-- the job with the full crop starts
pub start_passes : (source : Dimensions) (layout : PixelLayout) (target : Dimensions) (n m w : ℕ) → resize_number source target n m w ≡ 0 → start_number (resize_plan source layout target) w ≡ 0
unfolding resize_number start_number
start_passes source layout target n m w e =
    let q = none_applies (resize_causes source target n m w) e in
    first_none (start_causes (resize_plan source layout target) w) (q.0, (lanes_good pixel_lanes (record { some = omega arith; most = omega arith }), (q.1.0, (q.1.1.1.1.0, tt))))

module _ (source : Dimensions) (layout : PixelLayout) (target : Dimensions) (pixels out work : List ℕ) where
  abbrev pub n : ℕ
  n = resize_number source target (length pixels) (length out) (length work)

  -- the four clauses of the contract, of what is returned and what is left
  abbrev pub Answers : ℕ → Bool → List ℕ → List ℕ → Type 0
  Answers number flag out' work' =
      (number ≡ n)
      × ((flag ≡ resize_flag source layout target pixels (length out) (length work))
      × ((out' ≡ resize_out source layout target pixels out (length work)) × (work' ≡ resize_work source layout target pixels (length out) work)))

  pub resize_refused : (why : Refusal) → n ≡ number why → Answers (number why) false out work
  unfolding resize_flag resize_out resize_work
  resize_refused why e = let z = not_zero why n e in (sym e, (simp z, (simp z, simp z)))

  -- ---- the job
  module _ (goes : n ≡ 0) (crop : Rect) (full : crop ≡ full_crop source) where
    pub started_is : start_number (plan_of source layout crop target) (length work) ≡ 0
    started_is = rw full (start_passes source layout target (length pixels) (length out) (length work) goes)

    module _ (job : Job) (r : Result Job Refusal) (told : value_or (fresh (plan_of source layout crop target)) r ≡ fresh (plan_of source layout crop target)) (e : r ≡ Ok job) (begun : List ℕ) (begun_is : begun ≡ start_work (plan_of source layout crop target) work) where
      abbrev fits : ResizeFits source target (length pixels) (length out) (length work)
      fits = resize_fits source target (length pixels) (length out) (length work) goes

      abbrev both : ℕ
      both = work_values pixel_lanes target.width

      job_is : job ≡ fresh (resize_plan source layout target)
      job_is = rw full at (value_of _ r e told)

      begun_cleared : begun ≡ cleared (resize_plan source layout target) work
      unfolding start_work
      begun_cleared = begun_is ∙ simp (eq-eqb _ 0 started_is)

      begun_rest : drop both begun ≡ drop both work
      begun_rest = ap (drop both) begun_cleared ∙ drop_at (replicate both 0) (drop both work) both (length-replicate both 0)

      picture_fits : kind_fits Picture layout pixel_lanes false ≡ true
      unfolding kind_fits
      picture_fits = refl

      pub job_asked : Asked job pixels out begun
      job_asked =
          subst (λ (j : Job). Asked j pixels out begun) (sym job_is)
          (record {
            fresh_is = refl;
            sizes = fits.sizes;
            kind_fitting = picture_fits;
            pixels_long = fits.picture;
            out_long = fits.output;
            room = rw (begun_cleared, length-append, length-replicate) (omega arith);
            clear = begun_cleared ∙ ap (λ (s : List ℕ). replicate both 0 ++ s) (sym begun_rest);
          })

      pub finishes : (flag : Bool) (out' work' : List ℕ) → Driven job.plan pixels begun flag out' work' → Answers 0 flag out' work'
      unfolding resize_flag resize_out resize_work resized resized_flag resized_work
      finishes flag out' work' d =
          let p : Plan = resize_plan source layout target in
          let b : ℕ → ℕ = λ i. get_or pixels i 0 in
          let w : ℕ = half_values pixel_lanes target.width in
          let g : Driven p pixels begun flag out' work' = subst (λ (j : Job). Driven j.plan pixels begun flag out' work') job_is d in
          let z = eq-eqb n 0 goes in
          let rest = ap (λ (s : List ℕ). tabulate (last_first p b) w ++ (tabulate (last_second p b) w ++ s)) begun_rest in
          (sym goes, (g.flag_is ∙ simp z, (g.out_is ∙ simp z, g.work_is ∙ rest ∙ simp z)))
