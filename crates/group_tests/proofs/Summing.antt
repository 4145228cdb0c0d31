-- The loop that sums what the jobs need: so far it has the sum of the jobs before i, and no sum overflows. Assumes nothing.
use Prim.Native.Nat.{ℕ, ◌+◌, ◌*◌, ◌≤◌, ◌<◌}
use mathlib.Core.Path.{◌≡◌, sym, ap, ◌∙◌}
use mathlib.Core.Bool.{true}
use native.Mathlib.Omega.{arith}
use native.Mathlib.Numerals.{add-one}
use Rattle.pixels.specs.Sizes.{row_bytes}
use Rattle.job_rules.specs.Rules.{lanes_of}
use Rattle.group_parts.proofs.Cutting.{offset_zero, offset_suc}
use Rattle.group_rules.specs.declared.Group.{Group}
use Rattle.group_rules.specs.Group.{group_limit, plan_at, needs, total, group_lawful}
use Rattle.group_rules.proofs.Lawful.{lawful_group, need_most}

pub record Summing (g : Group) (at i : ℕ) : Type 0 where
  pub place : at ≡ total g.jobs i
  pub most : at ≤ i * 131072

pub summing_first : (g : Group) → Summing g 0 0
summing_first g = record { place = sym (offset_zero (needs g.jobs)); most = omega arith }

module _ (g : Group) (n : ℕ) (good : (group_lawful g ≡ true) × (n ≤ g.count)) (i : ℕ) (l : i < n) where
  pub within : i < group_limit
  within = omega (arith, (lawful_group g good.0).few, good.1)

  -- the bytes of a row of job i are one half of what it needs
  pub half_most : (b : ℕ) → b ≡ row_bytes (lanes_of (plan_at g.jobs i)) (plan_at g.jobs i).target.width → 2 * b ≤ 131072
  half_most b is = omega (arith, is, need_most g.jobs i ((lawful_group g good.0).member i (omega (arith, good.1))).rules)

  module _ (at : ℕ) (v : Summing g at i) (b : ℕ) (is : b ≡ row_bytes (lanes_of (plan_at g.jobs i)) (plan_at g.jobs i).target.width) where
    pub sum_most : at + 2 * b ≤ group_limit * 131072
    sum_most = omega (arith, v.most, within, half_most b is)

    pub summing_more : Summing g (at + 2 * b) (i + 1)
    summing_more = record {
      place = rw (add-one i) (rw (offset_suc (needs g.jobs) i) (rw v.place (ap (λ (x : ℕ). total g.jobs i + 2 * x) is)));
      most = omega (arith, v.most, half_most b is);
    }

pub summed : (g : Group) (n at i : ℕ) → Summing g at i → i ≡ n → at ≡ total g.jobs n
summed g n at i v e = v.place ∙ ap (total g.jobs) e
