-- What each way out of start_plane and start_planes gives, as the contracts state it. Where the call went through, the records that the library hands back are
-- the ones that are stored. Assumes nothing.
use Rattle.std.specs.Prelude.{Result, Ok, Err, IfOk}
use Prim.Native.Nat.{ℕ, ◌≤◌, ◌<◌}
use mathlib.Core.Path.{◌≡◌, refl, sym, ◌∙◌}
use mathlib.Core.Bool.{true, false}
use mathlib.Core.List.{List}
use lib.ListN.{length}
use borrow.Author.Tests.{lt-ltb, le-ltb}
use Rattle.pixels.specs.declared.Refusal.{Refusal}
use Rattle.pixels.specs.Refusals.{number, answer_number, value_or}
use Rattle.pixels.specs.Sizes.{size_of}
use Rattle.job_rules.specs.declared.Plan.{Plan}
use Rattle.job_rules.specs.Rules.{start_number}
use Rattle.job.specs.declared.Job.{Job}
use Rattle.job.specs.Record.{fresh}
use Rattle.job_start.specs.Start.{start_work}
use Rattle.job_planes.specs.declared.Planes as started
use Rattle.job_planes.specs.Planes.{planes_number, plane_work}
use Rattle.capi_record.specs.Record.{record_length, stored_job}
use Rattle.capi_words.specs.Boundary.{boundary}
use Rattle.capi_words.proofs.Boundary.{kept_by, written_by, written_once, misuse_told, misuse_kept, passed, buffer_told}
use Rattle.capi_planes.specs.Planes.{plane_plan, number_of_plane, work_after_plane, record_after_plane, luma_plan, chroma_plan, any_short, number_of_planes, luma_work_after_planes, cb_work_after_planes, cr_work_after_planes, luma_after_planes, cb_after_planes, cr_after_planes}

-- ---- start_plane
module _ (sw sh lanes x y cw ch tw th : ℕ) (work words : List ℕ) where
  abbrev pub Plane : ℕ → List ℕ → List ℕ → Type 0
  Plane r work' words' =
      (r ≡ number_of_plane sw sh lanes x y cw ch tw th (length work) (length words))
      × ((work' ≡ work_after_plane sw sh lanes x y cw ch tw th work (length words)) × (words' ≡ record_after_plane sw sh lanes x y cw ch tw th (length work) words))

  pub plane_short : length words < record_length → Plane boundary work words
  unfolding number_of_plane work_after_plane record_after_plane
  plane_short h =
      let f = lt-ltb (length words) record_length h in
      (misuse_told _ refl f, (misuse_kept _ refl f _ work, misuse_kept _ refl f _ words))

  abbrev pub plan : Plan
  plan = plane_plan sw sh lanes x y cw ch tw th

  abbrev pub theirs : ℕ
  theirs = start_number plan (length work)

  -- the words suffice, and the library has answered
  module _ (h : record_length ≤ length words) (answer : Result Job Refusal) (m : answer_number answer ≡ theirs) (work' : List ℕ) (w : work' ≡ start_work plan work) where
    plane_number : theirs ≡ number_of_plane sw sh lanes x y cw ch tw th (length work) (length words)
    unfolding number_of_plane
    plane_number = passed theirs refl (le-ltb (length words) record_length h)

    plane_work_lem : work' ≡ work_after_plane sw sh lanes x y cw ch tw th work (length words)
    unfolding work_after_plane start_work
    plane_work_lem = buffer_told _ theirs work' _ work plane_number (w ∙ written_once theirs _ work)

    pub plane_refused : (why : Refusal) (r : ℕ) → answer ≡ Err why → r ≡ number why → Plane r work' words
    unfolding record_after_plane
    plane_refused why r a e =
        let z : number why ≡ number_of_plane sw sh lanes x y cw ch tw th (length work) (length words) = (rw a at m) ∙ plane_number in
        (e ∙ z, (plane_work_lem, kept_by why _ _ words (sym z)))

    pub plane_fresh : (job : Job) (words' : List ℕ) → answer ≡ Ok job → value_or (fresh plan) answer ≡ fresh plan → words' ≡ stored_job job words
        → Plane 0 work' words'
    unfolding record_after_plane
    plane_fresh job words' a j s =
        let z : 0 ≡ number_of_plane sw sh lanes x y cw ch tw th (length work) (length words) = (rw a at m) ∙ plane_number in
        let q : job ≡ fresh plan = rw a at j in
        (z, (plane_work_lem, written_by _ words' _ words z (rw q at s)))

-- ---- start_planes
module _ (sw sh tw th : ℕ) (lumaWork cbWork crWork luma cb cr : List ℕ) where
  -- the number told, and the library's
  abbrev pub told : ℕ
  told = number_of_planes sw sh tw th (length lumaWork) (length cbWork) (length crWork) (length luma) (length cb) (length cr)

  abbrev pub three : ℕ
  three = planes_number (size_of sw sh) (size_of tw th) (length lumaWork) (length cbWork) (length crWork)

  abbrev pub Planes : ℕ → List ℕ → List ℕ → List ℕ → List ℕ → List ℕ → List ℕ → Type 0
  Planes r lumaWork' cbWork' crWork' luma' cb' cr' =
      (r ≡ told)
      × ((lumaWork' ≡ luma_work_after_planes sw sh tw th lumaWork (length cbWork) (length crWork) (length luma) (length cb) (length cr))
      × ((cbWork' ≡ cb_work_after_planes sw sh tw th (length lumaWork) cbWork (length crWork) (length luma) (length cb) (length cr))
      × ((crWork' ≡ cr_work_after_planes sw sh tw th (length lumaWork) (length cbWork) crWork (length luma) (length cb) (length cr))
      × ((luma' ≡ luma_after_planes sw sh tw th (length lumaWork) (length cbWork) (length crWork) luma (length cb) (length cr))
      × ((cb' ≡ cb_after_planes sw sh tw th (length lumaWork) (length cbWork) (length crWork) (length luma) cb (length cr))
      × (cr' ≡ cr_after_planes sw sh tw th (length lumaWork) (length cbWork) (length crWork) (length luma) (length cb) cr))))))

  short : any_short (length luma) (length cb) (length cr) ≡ true → Planes boundary lumaWork cbWork crWork luma cb cr
  unfolding number_of_planes luma_work_after_planes cb_work_after_planes cr_work_after_planes luma_after_planes cb_after_planes cr_after_planes
  short f =
      let k : (written kept : List ℕ) → _ = misuse_kept three refl f in
      (misuse_told three refl f, (k _ lumaWork, (k _ cbWork, (k _ crWork, (k _ luma, (k _ cb, k _ cr))))))

  pub luma_short : length luma < record_length → Planes boundary lumaWork cbWork crWork luma cb cr
  luma_short l = short (simp (lt-ltb (length luma) record_length l))

  pub cb_short : record_length ≤ length luma → length cb < record_length → Planes boundary lumaWork cbWork crWork luma cb cr
  cb_short l b = short (simp (le-ltb (length luma) record_length l, lt-ltb (length cb) record_length b))

  pub cr_short : record_length ≤ length luma → record_length ≤ length cb → length cr < record_length → Planes boundary lumaWork cbWork crWork luma cb cr
  cr_short l b r = short (simp (le-ltb (length luma) record_length l, le-ltb (length cb) record_length b, lt-ltb (length cr) record_length r))

  -- the words suffice, and the library has answered
  module _ (l : record_length ≤ length luma) (b : record_length ≤ length cb) (r : record_length ≤ length cr) (answer : Result started.Planes Refusal) (m : answer_number answer ≡ three)
      (lumaWork' cbWork' crWork' : List ℕ) (wl : lumaWork' ≡ plane_work three (luma_plan sw sh tw th) lumaWork)
      (wb : cbWork' ≡ plane_work three (chroma_plan sw sh tw th) cbWork) (wr : crWork' ≡ plane_work three (chroma_plan sw sh tw th) crWork) where
    planes_number_lem : three ≡ told
    unfolding number_of_planes
    planes_number_lem =
        let long : any_short (length luma) (length cb) (length cr) ≡ false = simp (le-ltb (length luma) record_length l, le-ltb (length cb) record_length b, le-ltb (length cr) record_length r) in
        passed three refl long

    -- a slice by the number told
    slice : (p : Plan) (work work' : List ℕ) → work' ≡ plane_work three p work → work' ≡ plane_work told p work
    slice p work work' w = buffer_told told three work' _ work planes_number_lem w

    pub planes_refused : (why : Refusal) (n : ℕ) → answer ≡ Err why → n ≡ number why → Planes n lumaWork' cbWork' crWork' luma cb cr
    unfolding luma_work_after_planes cb_work_after_planes cr_work_after_planes luma_after_planes cb_after_planes cr_after_planes
    planes_refused why n a e =
        let z : number why ≡ told = (rw a at m) ∙ planes_number_lem in
        let ul = slice (luma_plan sw sh tw th) lumaWork _ wl in
        let ub = slice (chroma_plan sw sh tw th) cbWork _ wb in
        let ur = slice (chroma_plan sw sh tw th) crWork _ wr in
        let k = sym z in
        (e ∙ z, (ul, (ub, (ur, (kept_by why told _ luma k, (kept_by why told _ cb k, kept_by why told _ cr k))))))

    pub planes_fresh : (all : started.Planes) (luma' cb' cr' : List ℕ) → answer ≡ Ok all
        → IfOk answer (λ p. (p.luma ≡ fresh (luma_plan sw sh tw th)) × (p.cb ≡ fresh (chroma_plan sw sh tw th)) × (p.cr ≡ fresh (chroma_plan sw sh tw th)))
        → luma' ≡ stored_job all.luma luma → cb' ≡ stored_job all.cb cb → cr' ≡ stored_job all.cr cr
        → Planes 0 lumaWork' cbWork' crWork' luma' cb' cr'
    unfolding luma_work_after_planes cb_work_after_planes cr_work_after_planes luma_after_planes cb_after_planes cr_after_planes
    planes_fresh all luma' cb' cr' a jobs sl sb sr =
        let z : 0 ≡ told = (rw a at m) ∙ planes_number_lem in
        let fresh-all : (all.luma ≡ fresh (luma_plan sw sh tw th)) × (all.cb ≡ fresh (chroma_plan sw sh tw th)) × (all.cr ≡ fresh (chroma_plan sw sh tw th)) = rw a at jobs in
        let ql = fresh-all.0 in
        let qb = fresh-all.1 in
        let qr = fresh-all.2 in
        let ul = slice (luma_plan sw sh tw th) lumaWork _ wl in
        let ub = slice (chroma_plan sw sh tw th) cbWork _ wb in
        let ur = slice (chroma_plan sw sh tw th) crWork _ wr in
        let vl = written_by told luma' _ luma z (rw ql at sl) in
        let vb = written_by told cb' _ cb z (rw qb at sb) in
        let vr = written_by told cr' _ cr z (rw qr at sr) in
        (z, (ul, (ub, (ur, (vl, (vb, vr))))))
