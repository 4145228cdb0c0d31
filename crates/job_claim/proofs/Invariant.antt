-- What holds after every list of calls from a fresh job. The record is what was counted (`job_at`); the work rows hold, for every byte function that agrees with
-- the accepted bytes, what the closed form says; each row handed out is the closed form's. A call turned away changes nothing. Assumes nothing.
use Prim.Native.Nat.{ℕ, zero, suc, ◌+◌, ◌*◌, ◌-◌, ◌≤◌, ◌<◌, min}
use mathlib.Core.Path.{◌≡◌, refl, sym, ◌∙◌, ap}
use mathlib.Core.Logic.{◌⊎◌, inl, inr, ⊎_elim}
use mathlib.Core.Bool.{Bool, ◌||◌}
use mathlib.Core.List.{List, [], ◌∷◌, ◌++◌, append-nil}
use native.Mathlib.Omega.{arith}
use native.Mathlib.Nat.{eq-or-lt_of_le, le_of_suc-le-suc, div-add-mod, mul-le-mul_left, le_trans, mul-zero}
use native.Mathlib.Numerals.{add-one}
use lib.ListN.{length, get_or, take, drop, replicate, length-append, length-take, length-drop, length-replicate, take-append-drop, get_or-append}
use lib.Seq.{get_or-take, get_or-append-add, get_or_at, length-take-le, length_front, drop-append-le, drop_at}
use Rattle.pixels.specs.Sizes.{row_bytes, half_values, work_values}
use Rattle.rows_form.specs.Form.{flag_in}
use Rattle.rows_schedule.specs.Schedule.{used}
use Rattle.rows_schedule.proofs.Crop.{rows_le, rows_none}
use Rattle.rows_laws.proofs.Held.{held_start, held_same}
use Rattle.job_rules.specs.declared.Plan.{Plan}
use Rattle.job_rules.specs.Rules.{lanes_of, form_of, Formed, R, start_number}
use Rattle.job_rules.proofs.KindRules.{kind_kept, formed_fits}
use Rattle.job.specs.declared.Job.{Job}
use Rattle.job.specs.Record.{Rules}
use Rattle.job.specs.Calls as calls
use Rattle.job.specs.Calls.{scale_by, most_rows, count, lent_rows, more_accepted, more_taken, fed, row_taken, work_taken}
use Rattle.job_start.specs.Start.{cleared}
use Rattle.job_start.proofs.Starting.{StartWent, start_went}
use Rattle.job.proofs.Counting.{counted_most, counted_low, counted_some}
use Rattle.job.proofs.Views.{WholeRows, OfferTurned, OfferWent, offer_view, TakeTurned, TakeWent, take_view}
use Rattle.job_claim.specs.Rows.{row_of, joined}
use Rattle.job_claim.specs.Claim.{RestStays}
use Rattle.job_claim.specs.Calls.{Call, Offer, Take, Seen, Run, nothing, step, run, begun, seen_offer}
use Rattle.job_claim.proofs.Reading.{crop_value, shape_of}
use Rattle.job_claim.proofs.Feeding.{Holds, fed_held, fed_length, fed_rest}
use Rattle.job_claim.proofs.Taking.{row_is, left_holds, row_taken_length, left_length, left_rest}
use Rattle.job_claim.proofs.Flagged.{joined_append, joined_flag, flag_none}

-- b goes on where the list of bytes ends
abbrev pub Agrees : (ℕ → ℕ) → List ℕ → Type 0
Agrees b s = (i : ℕ) → i < length s → get_or s i 0 ≡ b i

-- the record of what was counted, and the run with it
abbrev pub job_at : Plan → Seen → Job
job_at p s = record { plan = p; accepted = s.accepted; taken = s.taken; flag = s.flag }

abbrev pub run_at : Plan → Seen → List ℕ → Run
run_at p s work = record { job = job_at p s; work = work; seen = s }

pub record Inv (p : Plan) (s : Seen) (work : List ℕ) : Type 0 where
  pub rules : Rules (job_at p s)
  pub room : work_values (lanes_of p) p.target.width ≤ length work
  pub bytes : length s.source ≡ row_bytes (lanes_of p) p.source.width * s.accepted
  pub outs : length s.rows ≡ s.taken
  pub out_bytes : length (joined s.rows) ≡ row_bytes (lanes_of p) p.target.width * s.taken
  pub held : (b : ℕ → ℕ) → Agrees b s.source → Holds p b s.accepted s.taken work
  pub handed : (b : ℕ → ℕ) → Agrees b s.source → (y : ℕ) → y < s.taken → get_or s.rows y [] ≡ row_of p b y
  pub flagged : s.flag ≡ flag_in (form_of p) (joined s.rows) (p.target.width * s.taken)

-- a run that a list of calls led to, from a start that was lent the work values `given`
pub record Kept (p : Plan) (given : List ℕ) (r : Run) : Type 0 where
  pub seen : Seen
  pub work : List ℕ
  pub is : r ≡ run_at p seen work
  pub inv : Inv p seen work
  pub rest : RestStays p given work

-- ---- what is lent of the work values holds what they hold
module _ (p : Plan) (b : ℕ → ℕ) (k t : ℕ) where
  held_lent : (lent : ℕ) (work : List ℕ) → work_values (lanes_of p) p.target.width ≤ length (take lent work) → Holds p b k t work → Holds p b k t (take lent work)
  held_lent lent work room held =
      let l : work_values (lanes_of p) p.target.width ≤ min lent (length work) = rw length-take at room in
      held_same (scale_by p) (crop_value p b) _ t work (take lent work) (omega arith)
      (λ i h. get_or-take lent work i 0 (omega arith)) held

  held_back : (part rest : List ℕ) → work_values (lanes_of p) p.target.width ≤ length part → Holds p b k t part → Holds p b k t (part ++ rest)
  held_back part rest room held =
      held_same (scale_by p) (crop_value p b) _ t part (part ++ rest) (rw length-append (omega arith))
      (λ i h. get_or-append part rest 0 i (omega arith)) held

-- ---- a call that writes over what was lent, and there only the halves
rest_on : (p : Plan) (given work after : List ℕ) (lent : ℕ) → work_values (lanes_of p) p.target.width ≤ length (take lent work) → length after ≡ length (take lent work)
    → drop (work_values (lanes_of p) p.target.width) after ≡ drop (work_values (lanes_of p) p.target.width) (take lent work)
    → RestStays p given work → RestStays p given (after ++ drop lent work)
rest_on p given work after lent room len same rest =
    let w : ℕ = work_values (lanes_of p) p.target.width in
    record {
      as_many = length_front work after lent len ∙ rest.as_many;
      as_given =
          drop-append-le w after (drop lent work) (omega arith)
          ∙ ap (λ (t : List ℕ). t ++ drop lent work) same
          ∙ sym (drop-append-le w (take lent work) (drop lent work) room)
          ∙ ap (drop w) (take-append-drop lent work)
          ∙ rest.as_given;
    }

agrees_left : (b : ℕ → ℕ) (s t : List ℕ) → Agrees b (s ++ t) → Agrees b s
agrees_left b s t h i l = sym (get_or-append s t 0 i l) ∙ h i (rw length-append (omega arith))

agrees_right : (b : ℕ → ℕ) (s t : List ℕ) → Agrees b (s ++ t) → (i : ℕ) → i < length t → get_or t i 0 ≡ b (length s + i)
agrees_right b s t h i l = sym (get_or-append-add s t i 0) ∙ h (length s + i) (rw length-append (omega arith))

-- ---- the rows lent, and how many are accepted
module _ (p : Plan) (n : ℕ) (whole : WholeRows p n) where
  pub rows_lent_lem : n ≡ row_bytes (lanes_of p) p.source.width * lent_rows p n
  rows_lent_lem = omega (arith, div-add-mod n (row_bytes (lanes_of p) p.source.width), whole.whole)

  pub some_lent : 0 < lent_rows p n
  some_lent = by (lent_rows p n) refl
    where
      by : (x : ℕ) → lent_rows p n ≡ x → 0 < x
      by zero e = absurd (let q : n ≡ row_bytes (lanes_of p) p.source.width * 0 = rows_lent_lem ∙ ap (λ (z : ℕ). row_bytes (lanes_of p) p.source.width * z) e in omega (arith, whole.some))
      by (suc x) e = omega arith

module _ (j : Job) (n : ℕ) where
  pub count_most : count j n ≤ most_rows j n
  count_most = counted_most (R j.plan) j.accepted j.taken (most_rows j n)

  pub count_low : R j.plan j.accepted ≤ j.taken → (i : ℕ) → i < count j n → R j.plan (j.accepted + i) ≤ j.taken
  count_low quiet i l = counted_low (R j.plan) j.accepted j.taken quiet (most_rows j n) i l

  pub count_some : WholeRows j.plan n → R j.plan j.accepted ≤ j.taken → j.accepted < j.plan.source.height → 0 < count j n
  count_some whole a b =
      let q = some_lent j.plan n whole in
      counted_some (R j.plan) j.accepted j.taken (most_rows j n) (omega arith)

  pub count_bytes : WholeRows j.plan n → row_bytes (lanes_of j.plan) j.plan.source.width * count j n ≤ n
  count_bytes whole =
      let l : count j n ≤ lent_rows j.plan n = omega (arith, count_most) in
      omega (arith, rows_lent_lem j.plan n whole, mul-le-mul_left (row_bytes (lanes_of j.plan) j.plan.source.width) l)

-- ---- the rules are kept
pub offer_rules : (j : Job) (n : ℕ) → Rules j → WholeRows j.plan n → R j.plan j.accepted ≤ j.taken → j.accepted < j.plan.source.height → Rules (more_accepted j (count j n))
offer_rules j n q whole a b =
    let c : ℕ = count j n in
    let some = count_some j n whole a b in
    let most = count_most j n in
    let e : j.accepted + (c - 1) ≡ j.accepted + c - 1 = omega arith in
    let e2 : c + j.accepted ≡ j.accepted + c = omega arith in
    let low : R j.plan (j.accepted + (c - 1)) ≤ j.taken = count_low j n a (c - 1) (omega arith) in
    let up : R j.plan j.accepted ≤ R j.plan (c + j.accepted) = rows_le j.plan.crop.y j.plan.crop.height j.plan.target.height q.sizes.crop_height j.accepted c in
    record {
      sizes = q.sizes;
      rows = omega (arith, q.rows);
      low = rw e at low;
      high = le_trans q.high (rw e2 at up);
      kind_fitting = q.kind_fitting;
      flagless = q.flagless;
    }

pub take_rules : (j : Job) (row : List ℕ) → Rules j → j.taken < R j.plan j.accepted → Rules (more_taken j row)
take_rules j row q l = record {
  sizes = q.sizes;
  rows = q.rows;
  low = omega (arith, q.low);
  high = omega arith;
  kind_fitting = kind_kept j.plan.kind j.plan.layout j.plan.lanes j.flag row j.plan.target.width q.kind_fitting;
  flagless = λ e. absurd (omega arith);
}

-- ---- an offer
none_seen : (p : Plan) (s : Seen) (rows : List ℕ) (c : ℕ) → c ≡ 0 → seen_offer p s rows c ≡ s
none_seen p s rows c e =
    let a : s.accepted + c ≡ s.accepted = omega arith in
    let z : row_bytes (lanes_of p) p.source.width * c ≡ 0 = ap (λ (t : ℕ). row_bytes (lanes_of p) p.source.width * t) e ∙ mul-zero (row_bytes (lanes_of p) p.source.width) in
    rw (a, z, append-nil s.source) refl

module _ (p : Plan) (s : Seen) (work : List ℕ) (v : Inv p s work) where
  module _ (rows : List ℕ) (lent : ℕ) where
    part : List ℕ
    part = take lent work

    offered : Seen
    offered = seen_offer p s rows (count (job_at p s) (length rows))

    pub offer_stays : OfferTurned (job_at p s) rows (take lent work) → step p (run_at p s work) (Offer rows lent) ≡ run_at p s work
    unfolding step
    offer_stays o = rw (o.same, o.kept, take-append-drop lent work, none_seen p s rows _ o.none) refl

    pub offer_leads : OfferWent (job_at p s) rows (take lent work)
        → step p (run_at p s work) (Offer rows lent) ≡ run_at p (seen_offer p s rows (count (job_at p s) (length rows))) (fed p rows s.accepted (count (job_at p s) (length rows)) (take lent work) ++ drop lent work)
    unfolding step
    offer_leads o = rw (o.some, o.next, o.work_after) refl

    pub offer_kept : OfferWent (job_at p s) rows (take lent work) → Inv p (seen_offer p s rows (count (job_at p s) (length rows))) (fed p rows s.accepted (count (job_at p s) (length rows)) (take lent work) ++ drop lent work)
    offer_kept o =
        let n : ℕ = count (job_at p s) (length rows) in
        let w : ℕ = row_bytes (lanes_of p) p.source.width in
        let here = count_bytes (job_at p s) (length rows) o.whole in
        let shape = shape_of p s.accepted s.taken s.flag o.rules in
        let len : length (fed p rows s.accepted n (take lent work)) ≡ length (take lent work) = fed_length p shape o.rules.sizes rows s.accepted n (take lent work) o.room in
        record {
          rules = offer_rules (job_at p s) (length rows) o.rules o.whole o.none_ready o.remain;
          room = rw (length-append, len) (omega (arith, o.room));
          bytes = rw (length-append, length-take-le (w * n) rows here, v.bytes) (omega arith);
          outs = v.outs;
          out_bytes = v.out_bytes;
          held = λ b agree.
              let old = agrees_left b s.source (take (w * n) rows) agree in
              let before = held_lent p b s.accepted s.taken lent work o.room (v.held b old) in
              let same : (z : ℕ) → z < w * n → get_or rows z 0 ≡ b (w * s.accepted + z) =
              λ z l.
              sym (get_or-take (w * n) rows z 0 l)
              ∙ agrees_right b s.source (take (w * n) rows) agree z (rw (length-take-le (w * n) rows here) l)
              ∙ ap (λ (t : ℕ). b (t + z)) v.bytes in
              let after = fed_held p shape o.rules.sizes b rows s.accepted s.taken n (take lent work) o.rules.high here same before in
              held_back p b (s.accepted + n) s.taken (fed p rows s.accepted n (take lent work)) (drop lent work) (rw len o.room) after;
          handed = λ b agree. v.handed b (agrees_left b s.source (take (w * n) rows) agree);
          flagged = v.flagged;
        }

  -- ---- a take
  module _ (out : List ℕ) (lent : ℕ) where
    abbrev pub row : List ℕ
    row = row_taken (job_at p s) (take lent work)

    abbrev pub took_seen : Seen
    took_seen = record {
      accepted = s.accepted;
      source = s.source;
      taken = s.taken + 1;
      rows = s.rows ++ (row ∷ []);
      flag = s.flag || flag_in (form_of p) row p.target.width;
    }

    pub take_stays : TakeTurned (job_at p s) out (take lent work) → step p (run_at p s work) (Take out lent) ≡ run_at p s work
    unfolding step
    take_stays o = rw (o.same, o.kept, o.refused, take-append-drop lent work) refl

    pub take_leads : TakeWent (job_at p s) out (take lent work) → step p (run_at p s work) (Take out lent) ≡ run_at p took_seen (work_taken (job_at p s) (take lent work) ++ drop lent work)
    unfolding step
    take_leads o = rw (o.next, o.work_after, o.out_after, o.goes) refl

    pub take_kept : TakeWent (job_at p s) out (take lent work) → Inv p took_seen (work_taken (job_at p s) (take lent work) ++ drop lent work)
    take_kept o =
        let j : Job = job_at p s in
        let m : ℕ = p.target.width in
        let same = (shape_of p s.accepted s.taken s.flag o.rules).lanes_form in
        let len : length (work_taken j (take lent work)) ≡ length (take lent work) = left_length j (take lent work) o.room in
        let lent-held : (b : ℕ → ℕ) → Agrees b s.source → Holds p b s.accepted s.taken (take lent work) =
        λ b agree. held_lent p b s.accepted s.taken lent work o.room (v.held b agree) in
        record {
          rules = take_rules j row o.rules o.ready;
          room = rw (length-append, len) (omega (arith, o.room));
          bytes = v.bytes;
          outs = rw (length-append, v.outs) refl;
          out_bytes = ap length (joined_append s.rows row) ∙ length-append (joined s.rows) row ∙ (omega (arith, v.out_bytes, row_taken_length j (take lent work)));
          held = λ b agree.
              rw (add-one s.taken)
              (held_back p b s.accepted (suc s.taken) (work_taken j (take lent work)) (drop lent work) (rw len o.room)
              (left_holds j o.rules o.ready b (take lent work) (lent-held b agree)));
          handed = λ b agree y l.
              ⊎_elim
              (λ e. rw e (get_or_at s.rows row [] [] s.taken v.outs ∙ row_is j o.rules o.ready b (take lent work) (lent-held b agree)))
              (λ before. get_or-append s.rows (row ∷ []) [] y (rw v.outs before) ∙ v.handed b agree y before)
              (eq-or-lt_of_le (le_of_suc-le-suc (rw add-one at l)));
          flagged = rw (add-one s.taken, joined_flag (form_of p) s.rows row m s.taken (rw same v.out_bytes)) (ap (λ (f : Bool). f || flag_in (form_of p) row m) v.flagged);
        }

  -- ---- any call
  pub step_kept : (given : List ℕ) → RestStays p given work → (call : Call) → Kept p given (step p (run_at p s work) call)
  step_kept given rest (Offer rows lent) = by (offer_view (job_at p s) rows (take lent work))
    where
      by : OfferTurned (job_at p s) rows (take lent work) ⊎ OfferWent (job_at p s) rows (take lent work) → Kept p given (step p (run_at p s work) (Offer rows lent))
      by (inl o) = record { seen = s; work = work; is = offer_stays rows lent o; inv = v; rest = rest }
      by (inr o) =
          let sizes = o.rules.sizes in
          let shape = shape_of p s.accepted s.taken s.flag o.rules in
          let n : ℕ = count (job_at p s) (length rows) in
          let len = fed_length p shape sizes rows s.accepted n (take lent work) o.room in
          let same = fed_rest p shape sizes rows s.accepted n (take lent work) o.room in
          record { seen = _; work = _; is = offer_leads rows lent o; inv = offer_kept rows lent o; rest = rest_on p given work _ lent o.room len same rest }
  step_kept given rest (Take out lent) = by (take_view (job_at p s) out (take lent work))
    where
      by : TakeTurned (job_at p s) out (take lent work) ⊎ TakeWent (job_at p s) out (take lent work) → Kept p given (step p (run_at p s work) (Take out lent))
      by (inl o) = record { seen = s; work = work; is = take_stays out lent o; inv = v; rest = rest }
      by (inr o) =
          let len = left_length (job_at p s) (take lent work) o.room in
          let same = left_rest (job_at p s) (take lent work) in
          record { seen = _; work = _; is = take_leads out lent o; inv = take_kept out lent o; rest = rest_on p given work _ lent o.room len same rest }

-- ---- a list of calls
pub run_kept : (p : Plan) (given : List ℕ) (calls : List Call) (r : Run) → Kept p given r → Kept p given (run p r calls)
unfolding run
run_kept p given [] r k = k
run_kept p given (call ∷ calls) r k = run_kept p given calls (step p r call) (rw k.is (step_kept p k.seen k.work k.inv given k.rest call))

-- ---- a fresh job
pub begun_inv : (p : Plan) (work : List ℕ) → Formed p → StartWent p work → Inv p nothing (cleared p work)
unfolding joined
begun_inv p work formed o =
    let none : R p 0 ≡ 0 = rows_none p.crop.y p.crop.height p.target.height o.sizes.crop_height in
    let unused : used p.crop.y p.crop.height 0 ≡ 0 = omega arith in
    let both : work_values (lanes_of p) p.target.width ≡ half_values (lanes_of p) p.target.width + half_values (lanes_of p) p.target.width = omega arith in
    record {
      rules = record {
        sizes = o.sizes;
        rows = omega arith;
        low = omega (arith, none);
        high = omega arith;
        kind_fitting = formed_fits p formed o.lane_count;
        flagless = λ q. refl;
      };
      room = rw (length-append, length-replicate) (omega arith);
      bytes = omega arith;
      outs = refl;
      out_bytes = omega arith;
      held = λ b agree. rw (unused, both) (held_start (scale_by p) (crop_value p b) (drop (half_values (lanes_of p) p.target.width + half_values (lanes_of p) p.target.width) work));
      handed = λ b agree y l. absurd (omega arith);
      flagged = rw mul-zero (sym (flag_none (form_of p) []));
    }

begun_rest : (p : Plan) (work : List ℕ) → work_values (lanes_of p) p.target.width ≤ length work → RestStays p work (cleared p work)
begun_rest p work room =
    let w : ℕ = work_values (lanes_of p) p.target.width in
    record {
      as_many = rw (length-append, length-replicate, length-drop) (omega arith);
      as_given = drop_at (replicate w 0) (drop w work) w (length-replicate w 0);
    }

pub begun_kept : (p : Plan) (work : List ℕ) → Formed p → start_number p (length work) ≡ 0 → Kept p work (begun p work)
begun_kept p work formed e =
    let o = start_went p work e in
    record {
      seen = nothing;
      work = cleared p work;
      is = ap (λ (w : List ℕ). run_at p nothing w) o.work_after;
      inv = begun_inv p work formed o;
      rest = begun_rest p work o.room;
    }
