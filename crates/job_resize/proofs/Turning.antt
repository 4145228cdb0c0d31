-- A turn of resize's loop: where no row is ready the rows that remain are offered, and then one is; it is taken into its place. Each turn takes one row.
-- Assumes nothing.
use Prim.Native.Nat.{ℕ, ◌+◌, ◌-◌, ◌*◌, ◌≤◌, ◌<◌}
use mathlib.Core.Path.{◌≡◌, refl, sym, ap, ap₂, ◌∙◌, subst}
use mathlib.Core.Logic.{◌⊎◌, inl, inr}
use mathlib.Core.Bool.{true, false}
use mathlib.Core.List.{List, ◌++◌}
use native.Mathlib.Omega.{arith}
use native.Mathlib.Nat.{mul-le-mul_left, mul-pos}
use lib.Dec.{eqb}
use lib.ListN.{length, take, drop, length-append, length-drop}
use lib.Seq.{length-take-le, take_all}
use borrow.Author.Tests.{eq-eqb, ne_eqb}
use Rattle.arithmetic.proofs.Orders.{le_or_lt}
use Rattle.arithmetic.proofs.Quotients.{div_is}
use Rattle.pixels.specs.Sizes.{row_bytes}
use Rattle.rows_schedule.proofs.Crop.{rows_all, rows_most}
use Rattle.job_rules.specs.declared.Plan.{Plan}
use Rattle.job_rules.specs.Rules.{lanes_of, R}
use Rattle.job.specs.declared.Job.{Job}
use Rattle.job.specs.Record.{Rules, ready_of}
use Rattle.job.specs.Calls.{most_rows, count, lent_rows, offer_job, offer_work, take_job, take_out, take_work, more_taken, row_taken}
use Rattle.job_rules.proofs.Rules.{rules_good}
use Rattle.job.proofs.Views.{take_went}
use Rattle.job.proofs.Counting.{counted_stop}
use Rattle.job_start.specs.Start.{cleared}
use Rattle.job_claim.proofs.Invariant.{count_most}
use Rattle.job_resize.specs.Inner.{Asked, rest_of, fed_job, fed_work, row_size, from_next, emitted_out}
use Rattle.job_resize.proofs.Going.{bytes_of, Going, shape, rows_of_length, going_first, remain, lent_length, offered, offer_going, take_accepted, take_going}

-- ---- at the start
pub asked_going : (j : Job) (pixels out work : List ℕ) → Asked j pixels out work → Going j.plan pixels out work j out work
asked_going j pixels out work a =
    subst (λ (w : List ℕ). Going j.plan pixels out work j out w) (sym a.clear)
    (subst (λ (k : Job). Going j.plan pixels out work k out (cleared j.plan work)) (sym a.fresh_is)
    (going_first j.plan pixels out work a.sizes a.kind_fitting a.pixels_long a.out_long a.room))

-- ---- what is ready
ready_none : (j : Job) → Rules j → R j.plan j.accepted ≤ j.taken → eqb (ready_of j) 0 ≡ true
unfolding ready_of
ready_none j rules quiet = simp (rules_good j.plan j.accepted j.taken j.flag rules) (eq-eqb (R j.plan j.accepted - j.taken) 0 (omega arith))

ready_some : (j : Job) → Rules j → j.taken < R j.plan j.accepted → eqb (ready_of j) 0 ≡ false
unfolding ready_of
ready_some j rules ready = simp (rules_good j.plan j.accepted j.taken j.flag rules) (ne_eqb (R j.plan j.accepted - j.taken) 0 (λ e. omega arith))

module _ (p : Plan) (pixels out₀ work₀ : List ℕ) (j : Job) (out work : List ℕ) (g : Going p pixels out₀ work₀ j out work) where
  -- ---- lengths, for the parts that are lent
  pub pixels_room : row_bytes (lanes_of j.plan) j.plan.source.width * j.accepted ≤ length pixels
  pixels_room = rw g.pixels_long (mul-le-mul_left (row_bytes (lanes_of j.plan) j.plan.source.width) g.rules.rows)

  pub out_length : j.taken ≤ j.plan.target.height → length out ≡ row_size j * j.plan.target.height
  out_length l =
      let w : ℕ = row_size j in
      let k = rows_of_length j.plan (bytes_of pixels) j.taken in
      let a = length-append (rows_of_here) (drop (w * j.taken) out₀) in
      let d : length (drop (w * j.taken) out₀) ≡ w * j.plan.target.height - w * j.taken = length-drop (w * j.taken) out₀ ∙ ap (λ (n : ℕ). n - w * j.taken) g.out_long in
      omega (arith, ap length g.made, mul-le-mul_left w l)
    where
      rows_of_here : List ℕ
      rows_of_here = Rattle.job_claim.specs.Rows.rows_of j.plan (bytes_of pixels) j.taken

  pub out_same : length out ≡ length out₀
  out_same =
      let top = rows_most j.plan.crop.y j.plan.crop.height j.plan.target.height g.rules.sizes.crop_height j.accepted in
      out_length (omega (arith, g.rules.high)) ∙ sym g.out_long

  module _ (more : j.taken < j.plan.target.height) where
    -- ---- after feeding, a row is ready
    fed_quiet : R j.plan j.accepted ≤ j.taken → (fed_job j pixels (length work) ≡ offer_job j (length (rest_of j pixels)) (length work)) × (fed_work j pixels work ≡ offer_work j (rest_of j pixels) work)
    unfolding fed_job fed_work
    fed_quiet quiet = (simp (ready_none j g.rules quiet), simp (ready_none j g.rules quiet))

    fed_already : j.taken < R j.plan j.accepted → (fed_job j pixels (length work) ≡ j) × (fed_work j pixels work ≡ work)
    unfolding fed_job fed_work
    fed_already ready = (simp (ready_some j g.rules ready), simp (ready_some j g.rules ready))

    pub fed_going : Going p pixels out₀ work₀ (fed_job j pixels (length work)) out (fed_work j pixels work)
    fed_going = by (le_or_lt (R j.plan j.accepted) j.taken)
      where
        by : (R j.plan j.accepted ≤ j.taken) ⊎ (j.taken < R j.plan j.accepted) → Going p pixels out₀ work₀ (fed_job j pixels (length work)) out (fed_work j pixels work)
        by (inl quiet) = rw ((fed_quiet quiet).0, (fed_quiet quiet).1) (offer_going p pixels out₀ work₀ j out work g quiet more)
        by (inr ready) = rw ((fed_already ready).0, (fed_already ready).1) g

    -- the plan and the rows taken stay
    pub fed_same : ((fed_job j pixels (length work)).plan ≡ j.plan) × ((fed_job j pixels (length work)).taken ≡ j.taken)
    fed_same = by (le_or_lt (R j.plan j.accepted) j.taken)
      where
        by : (R j.plan j.accepted ≤ j.taken) ⊎ (j.taken < R j.plan j.accepted) → ((fed_job j pixels (length work)).plan ≡ j.plan) × ((fed_job j pixels (length work)).taken ≡ j.taken)
        by (inl quiet) = rw ((fed_quiet quiet).0, (offered p pixels out₀ work₀ j out work g quiet more).next) (refl, refl)
        by (inr ready) = rw (fed_already ready).0 (refl, refl)

    count_ready : R j.plan j.accepted ≤ j.taken → j.taken < R j.plan (j.accepted + count j (length (rest_of j pixels)))
    count_ready quiet = by (le_or_lt (most_rows j (length (rest_of j pixels))) (count j (length (rest_of j pixels))))
      where
        rest_rows : lent_rows j.plan (length (rest_of j pixels)) ≡ j.plan.source.height - j.accepted
        rest_rows =
            let w : ℕ = row_bytes (lanes_of j.plan) j.plan.source.width in
            let some : 0 < w = mul-pos (shape p pixels out₀ work₀ j out work g).lane_count.some g.rules.sizes.source_width.some in
            rw (lent_length p pixels out₀ work₀ j out work g quiet more)
            (div_is {x = row_bytes (lanes_of j.plan) j.plan.source.width * (j.plan.source.height - j.accepted)} w {q = j.plan.source.height - j.accepted} (omega arith) (omega arith))

        by : (most_rows j (length (rest_of j pixels)) ≤ count j (length (rest_of j pixels))) ⊎ (count j (length (rest_of j pixels)) < most_rows j (length (rest_of j pixels)))
            → j.taken < R j.plan (j.accepted + count j (length (rest_of j pixels)))
        by (inl all) =
            let here = remain p pixels out₀ work₀ j out work g quiet more in
            let e : j.accepted + count j (length (rest_of j pixels)) ≡ j.plan.source.height = omega (arith, count_most j (length (rest_of j pixels)), rest_rows) in
            let full = rows_all j.plan.crop.y j.plan.crop.height j.plan.target.height g.rules.sizes.crop_height (j.accepted + count j (length (rest_of j pixels))) (omega (arith, g.rules.sizes.bottom)) in
            omega arith
        by (inr stops) = counted_stop (R j.plan) j.accepted j.taken (most_rows j (length (rest_of j pixels))) stops

    pub fed_ready : (fed_job j pixels (length work)).taken < R (fed_job j pixels (length work)).plan (fed_job j pixels (length work)).accepted
    fed_ready = by (le_or_lt (R j.plan j.accepted) j.taken)
      where
        by : (R j.plan j.accepted ≤ j.taken) ⊎ (j.taken < R j.plan j.accepted) → (fed_job j pixels (length work)).taken < R (fed_job j pixels (length work)).plan (fed_job j pixels (length work)).accepted
        by (inl quiet) = rw ((fed_quiet quiet).0, (offered p pixels out₀ work₀ j out work g quiet more).next) (count_ready quiet)
        by (inr ready) = rw (fed_already ready).0 ready

-- ---- the row that is ready goes to its place
module _ (p : Plan) (pixels out₀ work₀ : List ℕ) (j : Job) (out work : List ℕ) (g : Going p pixels out₀ work₀ j out work) (ready : j.taken < R j.plan j.accepted) (below : j.taken < j.plan.target.height) where
  pub place_room : row_size j * j.taken + row_size j ≤ length out
  place_room = rw (out_length p pixels out₀ work₀ j out work g (omega arith)) (omega (arith, mul-le-mul_left (row_size j) below))

  abbrev pub part : List ℕ
  part = take (row_size j) (from_next j out)

  part_exact : length part ≡ row_size j
  part_exact =
      length-take-le (row_size j) (from_next j out)
      (rw length-drop (omega (arith, place_room)))

  pub emit_going : Going p pixels out₀ work₀ (take_job j (row_size j) work) (emitted_out j out work) (take_work j (row_size j) work)
  emit_going =
      subst (λ (n : ℕ). Going p pixels out₀ work₀ (take_job j n work) (emitted_out j out work) (take_work j n work)) part_exact
      (take_going p pixels out₀ work₀ j out work g ready part part_exact)

-- ---- the two ways out of feed
pub feed_keeps : (j : Job) (pixels work : List ℕ) (r : ℕ) → r ≡ ready_of j → (r ≡ 0 → ⊥) → (j ≡ fed_job j pixels (length work)) × (work ≡ fed_work j pixels work)
unfolding fed_job fed_work
feed_keeps j pixels work r e some =
    let b : eqb (ready_of j) 0 ≡ false = ne_eqb (ready_of j) 0 (λ z. some (e ∙ z)) in
    (simp b, simp b)

pub feed_offers : (j : Job) (pixels work : List ℕ) (r : ℕ) → r ≡ ready_of j → r ≡ 0 → (lent : List ℕ) → lent ≡ rest_of j pixels
    → (k : Job) → k ≡ offer_job j (length lent) (length work) → (after : List ℕ) → after ≡ offer_work j lent work
    → (k ≡ fed_job j pixels (length work)) × (after ≡ fed_work j pixels work)
unfolding fed_job fed_work
feed_offers j pixels work r e none lent l k ek after ea =
    let b : eqb (ready_of j) 0 ≡ true = eq-eqb (ready_of j) 0 (sym e ∙ none) in
    (ek ∙ simp (b, l), ea ∙ simp (b, l))

-- all that is left of a slice
pub rest_all : (n : ℕ) (s : List ℕ) → take (length s - n) (drop n s) ≡ drop n s
rest_all n s = take_all (length s - n) (drop n s) (rw length-drop (omega arith))

-- ---- what emit hands back: k is the length of the part lent, told as an end less a start
pub emits : (j : Job) (out work : List ℕ) (k : ℕ) → k ≡ row_size j
    → row_size j * j.taken + row_size j ≤ length out
    → (next : Job) → next ≡ take_job j (length (take k (from_next j out))) work
    → (row : List ℕ) → row ≡ take_out j (take k (from_next j out)) work
    → (after : List ℕ) → after ≡ take_work j (length (take k (from_next j out))) work
    → (next ≡ take_job j (row_size j) work)
    × ((take (row_size j * j.taken) out ++ (row ++ drop k (from_next j out)) ≡ emitted_out j out work)
    × (after ≡ take_work j (row_size j) work))
emits j out work k e room next en row er after ea =
    let m : ℕ = row_size j in
    let part : List ℕ = from_next j out in
    let len : length (take k part) ≡ m = length-take-le k part (rw length-drop (omega arith)) ∙ e in
    let row_is : row ≡ take_out j (take m part) work = er ∙ ap (λ (n : ℕ). take_out j (take n part) work) e in
    let rest_is : drop k part ≡ drop m part = ap (λ (n : ℕ). drop n part) e in (
      en ∙ ap (λ (n : ℕ). take_job j n work) len,
      (ap₂ (λ (r s : List ℕ). take (m * j.taken) out ++ (r ++ s)) row_is rest_is, ea ∙ ap (λ (n : ℕ). take_work j n work) len),
    )

pub end_less_start : (a n : ℕ) → a + n - a ≡ n
end_less_start a n = omega arith

-- ---- a turn: fed, then a row taken
module _ (p : Plan) (pixels out₀ work₀ : List ℕ) (j : Job) (out work : List ℕ) (g : Going p pixels out₀ work₀ j out work) (more : j.taken < j.plan.target.height) (fed : Job) (is : fed ≡ fed_job j pixels (length work)) (between : List ℕ) (left : between ≡ fed_work j pixels work) where
  turn_fed : Going p pixels out₀ work₀ fed out between
  turn_fed = rw (is, left) (fed_going p pixels out₀ work₀ j out work g more)

  turn_ready : fed.taken < R fed.plan fed.accepted
  turn_ready = rw is (fed_ready p pixels out₀ work₀ j out work g more)

  turn_below : fed.taken < fed.plan.target.height
  turn_below = rw is (let (a, b) = fed_same p pixels out₀ work₀ j out work g more in rw (a, b) more)

  pub turn_room : row_size fed * fed.taken + row_size fed ≤ length out
  turn_room = place_room p pixels out₀ work₀ fed out between turn_fed turn_ready turn_below

  module _ (next : Job) (next_is : next ≡ take_job fed (row_size fed) between) where
    pub turn_going : (out' work' : List ℕ) → out' ≡ emitted_out fed out between
        → work' ≡ take_work fed (row_size fed) between → Going p pixels out₀ work₀ next out' work'
    turn_going out' work' e f = rw (next_is, e, f) (emit_going p pixels out₀ work₀ fed out between turn_fed turn_ready turn_below)

    pub turn_less : next.plan.target.height - next.taken < j.plan.target.height - j.taken
    turn_less =
        let (a, b) = fed_same p pixels out₀ work₀ j out work g more in
        let exact = part_exact p pixels out₀ work₀ fed out between turn_fed turn_ready turn_below in
        let lent : List ℕ = take (row_size fed) (from_next fed out) in
        let t = (take_went fed lent between (take_accepted p pixels out₀ work₀ fed out between turn_fed turn_ready lent exact)).next in
        let n : next ≡ more_taken fed (row_taken fed between) = next_is ∙ ap (λ (k : ℕ). take_job fed k between) (sym exact) ∙ t in
        let h : next.plan.target.height ≡ j.plan.target.height = ap (λ (k : Job). k.plan.target.height) n ∙ ap (λ (k : Job). k.plan.target.height) is ∙ ap (λ (q : Plan). q.target.height) a in
        let c : next.taken ≡ j.taken + 1 = ap (λ (k : Job). k.taken) n ∙ ap (λ (k : Job). k.taken + 1) is ∙ ap (λ (x : ℕ). x + 1) b in
        omega arith
