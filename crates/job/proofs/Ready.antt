-- The rows ready, as the code finds them. Assumes nothing.
use Prim.Native.Nat.{ℕ, ◌-◌}
use mathlib.Core.Path.{◌≡◌}
use mathlib.Core.Bool.{true, false}
use Rattle.job.specs.declared.Job.{Job}
use Rattle.job_rules.specs.Rules.{R}
use Rattle.job.specs.Record.{lawful, ready_of}

pub ready_none : (j : Job) → lawful j ≡ false → 0 ≡ ready_of j
unfolding ready_of
ready_none j a = simp a

pub ready_some : (j : Job) (x : ℕ) → lawful j ≡ true → x ≡ R j.plan j.accepted → x - j.taken ≡ ready_of j
unfolding ready_of
ready_some j x a e = rw (e, a)
