-- `half`: a quotient and a remainder by 2, so that no sum is too large. Assumes nothing.
use native.Mathlib.Omega.{arith}
use Rattle.job_planes.proofs.half.Goals as goal

pub overflow_add-result : goal.overflow_add-result
overflow_add-result c = omega arith

pub returns : goal.returns
returns c = omega arith
