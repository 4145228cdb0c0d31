-- The group's own claim, number by number, of a group that stands where a list of calls has led. Assumes nothing.
use Prim.Native.Nat.{ℕ, ◌+◌, ◌-◌, ◌/◌, ◌%◌, ◌≤◌, ◌<◌, min}
use mathlib.Core.Path.{◌≡◌, refl, sym, ◌∙◌, ap, ap₂, subst}
use mathlib.Core.List.{List}
use mathlib.Core.Bool.{Bool, true, false, not, ◌&&◌, or-true, true≢false}
use mathlib.Core.Logic.{◌⊎◌, inl, inr}
use native.Mathlib.Omega.{arith}
use lib.Dec.{eqb, leb, ltb}
use lib.ListN.{length, take}
use borrow.Author.Tests.{eq-eqb, ne_eqb, le-ltb, lt-ltb, le-leb, lt-leb, eqb-true, eqb-false}
use Rattle.arithmetic.proofs.Orders.{le_or_lt}
use Rattle.pixels.specs.Sizes.{row_bytes}
use Rattle.pixels.specs.Refusals.{Cause}
use Rattle.pixels.proofs.Truths.{test, neither_true, differ, same}
use Rattle.pixels.proofs.Causes.{first_at, first_none}
use Rattle.job_rules.specs.declared.Plan.{Plan}
use Rattle.job_rules.specs.Rules.{lanes_of, R, bad_rows}
use Rattle.job_rules.proofs.Rules.{rules_good}
use Rattle.job.specs.declared.Job.{Job}
use Rattle.job.specs.Record.{lawful, ready_of}
use Rattle.job.specs.Calls as job
use Rattle.job.proofs.Ready.{ready_some}
use Rattle.job.proofs.Views.{whole_good}
use Rattle.job_claim.specs.Claim.{WrongRows}
use Rattle.job_claim.proofs.Invariant.{some_lent}
use Rattle.group_rules.specs.declared.Group.{Group}
use Rattle.group_rules.specs.Group.{group_limit, job_at, plan_at, every, some, total, alike, differing, too_many, group_lawful, group_of}
use Rattle.group_rules.specs.Tests.{ready_at, some_ready, lacks, group_offer_causes, group_offer_number, group_take_causes, group_take_number}
use Rattle.group_rules.proofs.Jobs.{every_of, some_none, some_of, some_found}
use Rattle.group.specs.Calls.{most_rows, group_count, group_offer_rows, group_ready}
use Rattle.group.proofs.Counted.{count_most, count_some, count_stop, count_low}
use Rattle.group_claim.specs.Calls.{GroupRun, offer_number, offer_rows, take_number}
use Rattle.group_claim.specs.Claim.{plan_in, RightOffer, ShortWork, Ready, NoneReady, SomeReady, Smallest, GroupClaim}
use Rattle.group_claim.proofs.Stepping.{offer_same, take_same, take_out_same}
use Rattle.group_claim.proofs.Projecting.{total_kept}
use Rattle.group_claim.proofs.Standing.{counted, Standing}

-- ---- jobs with the same plans differ alike
differing_kept : (js ks : List Job) (n : ℕ) → ((k : ℕ) → plan_at js k ≡ plan_at ks k) → differing ks n ≡ false → differing js n ≡ false
unfolding differing
differing_kept js ks n h e =
    let a = neither_true (eqb n 0) _ e in
    let unlike : ℕ → Bool = λ i. not (alike (plan_at js 0) (plan_at js i)) in
    let before : ℕ → Bool = λ i. not (alike (plan_at ks 0) (plan_at ks i)) in
    let none : some unlike n ≡ false =
    some_of unlike n (λ i l. ap₂ (λ (p q : Plan). not (alike p q)) (h 0) (h i) ∙ some_none before n i a.1 l) in
    simp (a.0, none)

-- ---- lengths that are not right
wrong_rows : (p : Plan) (rows : List ℕ) → WrongRows p rows → bad_rows p (length rows) ≡ true
wrong_rows p rows (inl e) = simp (eq-eqb (length rows) 0 e)
wrong_rows p rows (inr h) = rw (differ (length rows % row_bytes (lanes_of p) p.source.width) 0 h) (or-true (eqb (length rows) 0))

right_rows : (p : Plan) (rows : List ℕ) → (WrongRows p rows → ⊥) → bad_rows p (length rows) ≡ false
right_rows p rows h =
    let w : ℕ = row_bytes (lanes_of p) p.source.width in
    by (test (eqb (length rows) 0)) (test (eqb (length rows % row_bytes (lanes_of p) p.source.width) 0))
  where
    by : (eqb (length rows) 0 ≡ true) ⊎ (eqb (length rows) 0 ≡ false)
        → (eqb (length rows % row_bytes (lanes_of p) p.source.width) 0 ≡ true) ⊎ (eqb (length rows % row_bytes (lanes_of p) p.source.width) 0 ≡ false)
        → bad_rows p (length rows) ≡ false
    by (inl e) f = absurd (h (inl (eqb-true _ 0 e)))
    by (inr e) (inl f) = simp (e, f)
    by (inr e) (inr f) = absurd (h (inr (eqb-false _ 0 f)))

module _ (plans : List Plan) (count : ℕ) (work : List ℕ) (r : GroupRun) (v : Standing plans count work r) where
  abbrev g : Group
  g = r.group

  abbrev js : List Job
  js = r.group.jobs

  abbrev all : ℕ
  all = total (group_of plans count).jobs count

  -- ---- the record is what was counted
  pub all_is : total js g.count ≡ all
  all_is = ap (λ (n : ℕ). total js n) v.count_is ∙ total_kept js (group_of plans count).jobs v.plan_is count

  lawful_so : (i : ℕ) → i < g.count → (lawful (job_at js i) && eqb (job_at js i).accepted (job_at js 0).accepted) ≡ true
  lawful_so i l =
      let m : i < count = omega (arith, v.count_is) in
      let j = v.job_is i m in
      let meets : lawful (job_at js i) ≡ true = ap lawful j ∙ rules_good _ _ _ _ (v.rules i m) in
      let alike-far : (job_at js i).accepted ≡ (job_at js 0).accepted =
      ap (λ (x : Job). x.accepted) j ∙ v.together i ∙ sym (ap (λ (x : Job). x.accepted) (v.job_is 0 v.some_job)) in
      simp (meets, eq-eqb (job_at js i).accepted (job_at js 0).accepted alike-far)

  pub lawful_group : group_lawful g ≡ true
  unfolding group_lawful
  lawful_group =
      let few : too_many g.count ≡ false = le-ltb group_limit g.count (omega (arith, v.few, v.count_is)) in
      let one-source : differing js g.count ≡ false =
      ap (λ (n : ℕ). differing js n) v.count_is ∙ differing_kept js (group_of plans count).jobs count v.plan_is v.same_source in
      let each : every (λ i. lawful (job_at js i) && eqb (job_at js i).accepted (job_at js 0).accepted) g.count ≡ true =
      every_of (λ i. lawful (job_at js i) && eqb (job_at js i).accepted (job_at js 0).accepted) g.count lawful_so in
      simp (few, one-source, each)

  lawful_passes : not (group_lawful g) ≡ false
  lawful_passes = simp lawful_group

  first_is : job_at js 0 ≡ counted (plan_in plans count 0) (r.seen 0)
  first_is = v.job_is 0 v.some_job

  accepted_is : (job_at js 0).accepted ≡ (r.seen 0).accepted
  accepted_is = ap (λ (x : Job). x.accepted) first_is

  -- ---- who has a row ready
  pub none_at : (k : ℕ) → NoneReady plans count r k → some_ready js g.count k ≡ false
  none_at k h =
      some_of (λ i. ready_at (job_at js i) k) g.count
      (λ i l.
      let m : i < count = omega (arith, v.count_is) in
      ap (λ (j : Job). ready_at j k) (v.job_is i m) ∙ le-ltb (r.seen i).taken (R (plan_in plans count i) k) (h i m))

  pub some_at : (k : ℕ) → SomeReady plans count r k → some_ready js g.count k ≡ true
  some_at k (i, m, h) =
      some_found (λ i. ready_at (job_at js i) k) g.count i (omega (arith, v.count_is))
      (ap (λ (j : Job). ready_at j k) (v.job_is i m) ∙ lt-ltb (r.seen i).taken (R (plan_in plans count i) k) h)

  -- ---- an offer
  module _ (rows : List ℕ) (lent : ℕ) where
    abbrev offer_tests : List Cause
    offer_tests = group_offer_causes r.group (length rows) (length (take lent r.work))

    rows_as : bad_rows (plan_at js 0) (length rows) ≡ bad_rows (plan_in plans count 0) (length rows)
    rows_as = ap (λ (p : Plan). bad_rows p (length rows)) (v.plan_is 0)

    pub offer_three : WrongRows (plan_in plans count 0) rows → offer_number r rows lent ≡ 3
    unfolding group_offer_number
    offer_three h = first_at offer_tests 1 (lawful_passes, tt) (rows_as ∙ wrong_rows (plan_in plans count 0) rows h)

    pub offer_five : (WrongRows (plan_in plans count 0) rows → ⊥) → ShortWork plans count r lent → offer_number r rows lent ≡ 5
    unfolding group_offer_number
    offer_five h short =
        let few = lt-ltb (length (take lent r.work)) (total js g.count) (omega (arith, all_is)) in
        first_at offer_tests 2 (lawful_passes, (rows_as ∙ right_rows (plan_in plans count 0) rows h, tt)) few

    module _ (b : RightOffer plans count r rows lent) where
      rows_pass : bad_rows (plan_at js 0) (length rows) ≡ false
      rows_pass = rows_as ∙ whole_good (plan_in plans count 0) (length rows) (record { some = b.some; whole = b.whole })

      room_passes : ltb (length (take lent r.work)) (total js g.count) ≡ false
      room_passes = le-ltb (length (take lent r.work)) (total js g.count) (omega (arith, all_is, b.room))

      pub offer_seven : SomeReady plans count r (r.seen 0).accepted → offer_number r rows lent ≡ 7
      unfolding group_offer_number
      offer_seven h =
          let ready = ap (λ (k : ℕ). some_ready js g.count k) accepted_is ∙ some_at (r.seen 0).accepted h in
          first_at offer_tests 3 (lawful_passes, (rows_pass, (room_passes, tt))) ready

      module _ (h : NoneReady plans count r (r.seen 0).accepted) where
        quiet : some_ready js g.count (job_at js 0).accepted ≡ false
        quiet = ap (λ (k : ℕ). some_ready js g.count k) accepted_is ∙ none_at (r.seen 0).accepted h

        height_is : (plan_at js 0).source.height ≡ (plan_in plans count 0).source.height
        height_is = ap (λ (p : Plan). p.source.height) (v.plan_is 0)

        pub offer_eight : (plan_in plans count 0).source.height ≤ (r.seen 0).accepted → offer_number r rows lent ≡ 8
        unfolding group_offer_number
        offer_eight l =
            let none_left = le-leb (plan_at js 0).source.height (job_at js 0).accepted (omega (arith, height_is, accepted_is)) in
            first_at offer_tests 4 (lawful_passes, (rows_pass, (room_passes, (quiet, tt)))) none_left

        module _ (l : (r.seen 0).accepted < (plan_in plans count 0).source.height) where
          pub offer_zero : offer_number r rows lent ≡ 0
          unfolding group_offer_number
          offer_zero =
              let left = lt-leb (plan_at js 0).source.height (job_at js 0).accepted (omega (arith, height_is, accepted_is)) in
              first_none offer_tests (lawful_passes, (rows_pass, (room_passes, (quiet, (left, tt)))))

          -- how many
          abbrev rows_in : ℕ
          rows_in = group_count r.group (length rows)

          abbrev lent_rows_lem : ℕ
          lent_rows_lem = length rows / row_bytes (lanes_of (plan_in plans count 0)) (plan_in plans count 0).source.width

          abbrev remaining : ℕ
          remaining = (plan_in plans count 0).source.height - (r.seen 0).accepted

          rows_are : offer_rows r rows lent ≡ rows_in
          unfolding group_offer_rows
          rows_are = simp (eq-eqb (offer_number r rows lent) 0 offer_zero)

          most_is : most_rows g (length rows) ≡ min lent_rows_lem remaining
          most_is = ap (λ (j : Job). job.most_rows j (length rows)) first_is

          rows_some : 0 < rows_in
          rows_some =
              let q = some_lent (plan_in plans count 0) (length rows) (record { some = b.some; whole = b.whole }) in
              count_some g (length rows) (omega (arith, most_is))

          pub offer_some : 0 < offer_rows r rows lent
          offer_some = rw rows_are rows_some

          -- no job has a row ready before the last of them, and one has at it, where it stops short
          low : (i : ℕ) → i < rows_in → some_ready js g.count ((r.seen 0).accepted + i) ≡ false
          low i m =
              let z : (job_at js 0).accepted + 0 ≡ (job_at js 0).accepted = omega arith in
              ap (λ (k : ℕ). some_ready js g.count (k + i)) (sym accepted_is) ∙ count_low g (length rows) (rw z quiet) i m

          stops : rows_in < min lent_rows_lem remaining → NoneReady plans count r ((r.seen 0).accepted + rows_in) → ⊥
          stops m none =
              let ready = ap (λ (k : ℕ). some_ready js g.count (k + rows_in)) (sym accepted_is) ∙ count_stop g (length rows) (omega (arith, most_is)) in
              true≢false (sym ready ∙ none_at ((r.seen 0).accepted + rows_in) none)

          most : rows_in ≤ min lent_rows_lem remaining
          most = omega (arith, most_is, count_most g (length rows))

          with_least : (c : ℕ) → 0 < c → SomeReady plans count r ((r.seen 0).accepted + c)
              → ((i : ℕ) → 0 < i → i < c → NoneReady plans count r ((r.seen 0).accepted + i))
              → (rows_in ≤ c) ⊎ (c < rows_in) → (min lent_rows_lem remaining ≤ rows_in) ⊎ (rows_in < min lent_rows_lem remaining) → (c ≤ rows_in) ⊎ (rows_in < c)
              → rows_in ≡ min (min lent_rows_lem remaining) c
          with_least c pos above below (inr x) y z = absurd (true≢false (sym (some_at ((r.seen 0).accepted + c) above) ∙ low c x))
          with_least c pos above below (inl x) (inl y) z = omega (arith, most)
          with_least c pos above below (inl x) (inr y) (inl z) = omega (arith, most)
          with_least c pos above below (inl x) (inr y) (inr z) = absurd (stops y (below rows_in rows_some z))

          with_none : ((i : ℕ) → 0 < i → NoneReady plans count r ((r.seen 0).accepted + i))
              → (min lent_rows_lem remaining ≤ rows_in) ⊎ (rows_in < min lent_rows_lem remaining) → rows_in ≡ min lent_rows_lem remaining
          with_none none (inl y) = omega (arith, most)
          with_none none (inr y) = absurd (stops y (none rows_in rows_some))

          pub offer_counts : Smallest plans count r lent_rows_lem remaining (offer_rows r rows lent)
          offer_counts =
              let so : Smallest plans count r lent_rows_lem remaining rows_in =
              record {
                with_least = λ c pos above below.
                    with_least c pos above below (le_or_lt rows_in c) (le_or_lt (min lent_rows_lem remaining) rows_in) (le_or_lt c rows_in);
                with_none = λ none. with_none none (le_or_lt (min lent_rows_lem remaining) rows_in);
              } in
              subst (λ (n : ℕ). Smallest plans count r lent_rows_lem remaining n) (sym rows_are) so

  -- ---- a take of job k
  module _ (k : ℕ) (out : List ℕ) (lent : ℕ) where
    abbrev take_tests : List Cause
    take_tests = group_take_causes r.group k (length out) (length (take lent r.work))

    abbrev row : ℕ
    row = row_bytes (lanes_of (plan_in plans count k)) (plan_in plans count k).target.width

    row_is : row_bytes (lanes_of (plan_at js k)) (plan_at js k).target.width ≡ row
    row_is = ap (λ (p : Plan). row_bytes (lanes_of p) p.target.width) (v.plan_is k)

    pub take_thirteen : count ≤ k → take_number r k out lent ≡ 13
    unfolding group_take_number
    take_thirteen l = first_at take_tests 1 (lawful_passes, tt) (le-leb g.count k (omega (arith, v.count_is)))

    module _ (l : k < count) where
      named_passes : lacks g k ≡ false
      named_passes = lt-leb g.count k (omega (arith, v.count_is))

      pub take_four : (length out ≡ row → ⊥) → take_number r k out lent ≡ 4
      unfolding group_take_number
      take_four h =
          let other = differ (length out) (row_bytes (lanes_of (plan_at js k)) (plan_at js k).target.width) (λ e. h (e ∙ row_is)) in
          first_at take_tests 2 (lawful_passes, (named_passes, tt)) other

      module _ (exact : length out ≡ row) where
        exact_passes : not (eqb (length out) (row_bytes (lanes_of (plan_at js k)) (plan_at js k).target.width)) ≡ false
        exact_passes = same (length out) (row_bytes (lanes_of (plan_at js k)) (plan_at js k).target.width) (exact ∙ sym row_is)

        pub take_five : ShortWork plans count r lent → take_number r k out lent ≡ 5
        unfolding group_take_number
        take_five short =
            let few = lt-ltb (length (take lent r.work)) (total js g.count) (omega (arith, all_is)) in
            first_at take_tests 3 (lawful_passes, (named_passes, (exact_passes, tt))) few

        module _ (room : all ≤ length (take lent r.work)) where
          take_room_passes : ltb (length (take lent r.work)) (total js g.count) ≡ false
          take_room_passes = le-ltb (length (take lent r.work)) (total js g.count) (omega (arith, all_is))

          -- of the job's record
          abbrev none_ready : Job → Bool
          none_ready j = leb (R j.plan j.accepted) j.taken

          pub take_zero : Ready plans count r (r.seen k).accepted k → take_number r k out lent ≡ 0
          unfolding group_take_number
          take_zero h =
              let ready = ap none_ready (v.job_is k l) ∙ lt-leb (R (plan_in plans count k) (r.seen k).accepted) (r.seen k).taken h in
              first_none take_tests (lawful_passes, (named_passes, (exact_passes, (take_room_passes, (ready, tt)))))

          pub take_nine : R (plan_in plans count k) (r.seen k).accepted ≤ (r.seen k).taken → take_number r k out lent ≡ 9
          unfolding group_take_number
          take_nine h =
              let away = ap none_ready (v.job_is k l) ∙ le-leb (R (plan_in plans count k) (r.seen k).accepted) (r.seen k).taken h in
              first_at take_tests 4 (lawful_passes, (named_passes, (exact_passes, (take_room_passes, tt)))) away

  -- ---- the rows ready
  pub ready_plus : (k : ℕ) → k < count → group_ready g k + (r.seen k).taken ≡ R (plan_in plans count k) (r.seen k).accepted
  unfolding group_ready
  ready_plus k l =
      let named : lacks g k ≡ false = lt-leb g.count k (omega (arith, v.count_is)) in
      let told : group_ready g k ≡ ready_of (job_at js k) = simp (lawful_group, named) in
      let good = rules_good (plan_in plans count k) _ _ _ (v.rules k l) in
      let some = ap ready_of (v.job_is k l) ∙ sym (ready_some (counted (plan_in plans count k) (r.seen k)) (R (plan_in plans count k) (r.seen k).accepted) good refl) in
      omega (arith, told, some, (v.rules k l).high)

  pub ready_none : (k : ℕ) → count ≤ k → group_ready g k ≡ 0
  unfolding group_ready
  ready_none k l = let lacking : lacks g k ≡ true = le-leb g.count k (omega (arith, v.count_is)) in simp (lawful_group, lacking)

  pub group_claim : GroupClaim plans count work r
  group_claim = record {
    count_stays = v.count_is;
    beyond_stays = v.beyond_is;
    together = λ i l. v.together i;
    offer_goes = λ rows lent b h l. (offer_zero rows lent b h l, offer_some rows lent b h l);
    offer_count = offer_counts;
    offer_ready = offer_seven;
    offer_all = offer_eight;
    ready_told = ready_plus;
    ready_lacking = ready_none;
    take_goes = λ k out lent l b. take_zero k out lent l b.exact b.room;
    take_none = λ k out lent l b. take_nine k out lent l b.exact b.room;
    take_lacking = take_thirteen;
    wrong_rows = offer_three;
    offer_short = offer_five;
    wrong_out = take_four;
    take_short = take_five;
    offer_turned = λ rows lent h. offer_same r rows lent (ne_eqb _ 0 h);
    take_turned = λ k out lent h. (take_same r k out lent (ne_eqb _ 0 h), take_out_same r k out lent (ne_eqb _ 0 h));
    as_many = v.as_many;
    rest_stays = v.rest_stays;
  }
