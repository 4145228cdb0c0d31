-- The rows that an offer to a group accepts: as the loop counts them, and that no job has a row ready before the last of them. Assumes nothing.
use Prim.Native.Nat.{ℕ, zero, suc, ◌+◌, ◌≤◌, ◌<◌, min}
use mathlib.Core.Path.{◌≡◌, refl, sym, ◌∙◌, ap}
use mathlib.Core.Bool.{true≢false, Bool, true, false}
use mathlib.Core.Logic.{⊎_elim}
use native.Mathlib.Omega.{arith}
use Rattle.arithmetic.proofs.Orders.{le_or_lt}
use Rattle.job.specs.Calls.{least}
use Rattle.job.proofs.Counting.{least_low, least_below, least_hit}
use Rattle.group_rules.specs.declared.Group.{Group}
use Rattle.group_rules.specs.Group.{job_at}
use Rattle.group_rules.specs.Tests.{some_ready}
use Rattle.group.specs.Calls.{most_rows, group_count}

-- ---- a number below which the test is false
module _ (P : ℕ → Bool) (c n x : ℕ) (below : (i : ℕ) → c ≤ i → i < x → P i ≡ false) where
  -- it is no more than the least, if it is among them
  pub least_from : x ≤ c + n → x ≤ least P c n
  least_from l =
      ⊎_elim (λ q. q)
      (λ q. absurd (true≢false (sym (least_hit P c n (omega arith)) ∙ below (least P c n) (least_low P c n) q)))
      (le_or_lt x (least P c n))

  -- and the least where the test is true of it
  pub least_is : c ≤ x → x < c + n → P x ≡ true → least P c n ≡ x
  least_is l m e =
      ⊎_elim
      (λ q. let h : x ≤ least P c n = least_from (omega arith) in omega arith)
      (λ q. absurd (true≢false (sym e ∙ least_below P c n x l q)))
      (le_or_lt (least P c n) x)

-- ---- the rows accepted, of n bytes lent
module _ (g : Group) (n : ℕ) where
  -- some job has a row ready after c more
  abbrev ready_after : ℕ → Bool
  ready_after c = some_ready g.jobs g.count ((job_at g.jobs 0).accepted + c)

  count_open : group_count g n ≡ min (most_rows g n) (least ready_after 1 (most_rows g n))
  unfolding group_count
  count_open = refl

  pub count_most : group_count g n ≤ most_rows g n
  count_most = rw count_open (omega arith)

  pub count_some : 0 < most_rows g n → 0 < group_count g n
  count_some l = rw count_open (omega (arith, least_low ready_after 1 (most_rows g n)))

  -- nothing was ready before the last of them
  pub count_low : ready_after 0 ≡ false → (i : ℕ) → i < group_count g n → ready_after i ≡ false
  count_low e zero l = e
  count_low e (suc i) l =
      let m : suc i < min (most_rows g n) (least ready_after 1 (most_rows g n)) = rw count_open at l in
      least_below ready_after 1 (most_rows g n) (suc i) (omega arith) (omega arith)

  -- it stops short only where a row is ready
  pub count_stop : group_count g n < most_rows g n → ready_after (group_count g n) ≡ true
  count_stop l =
      let m : min (most_rows g n) (least ready_after 1 (most_rows g n)) < most_rows g n = rw count_open at l in
      let e : group_count g n ≡ least ready_after 1 (most_rows g n) = count_open ∙ omega arith in
      ap ready_after e ∙ least_hit ready_after 1 (most_rows g n) (omega arith)

  -- the loop that counts them, most being as many as there may be
  pub record Counting (c : ℕ) : Type 0 where
    pub low : 0 < c
    pub quiet : (i : ℕ) → 1 ≤ i → i < c → ready_after i ≡ false

  module _ (most : ℕ) (is : most ≡ most_rows g n) where
    pub counting_first : 0 < most → Counting 1
    counting_first l = record { low = omega arith; quiet = λ i a b. absurd (omega arith) }

    pub counting_more : (c : ℕ) → Counting c → c < most → ready_after c ≡ false → Counting (c + 1)
    counting_more c v l e = record {
      low = omega arith;
      quiet = λ i a b. ⊎_elim (λ q. let s : i ≡ c = omega arith in ap ready_after s ∙ e) (λ q. v.quiet i a q) (le_or_lt c i);
    }

    pub counting_ready : (c : ℕ) → Counting c → c < most → ready_after c ≡ true → c ≡ group_count g n
    counting_ready c v l e =
        let q : least ready_after 1 (most_rows g n) ≡ c = least_is ready_after 1 (most_rows g n) c v.quiet v.low (omega arith) e in
        sym (count_open ∙ omega (arith, q))

    pub counting_full : Counting most → most ≡ group_count g n
    counting_full v =
        let q : most ≤ least ready_after 1 (most_rows g n) = least_from ready_after 1 (most_rows g n) most v.quiet (omega arith) in
        sym (count_open ∙ omega (arith, q))
