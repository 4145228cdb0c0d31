-- The work values are lent whole.
use Rattle.std.proofs.Common.{ℕ, sym}
use Rattle.std.proofs.lemmas.List.{length-replicate}
use Rattle.preview.proofs.also.also.Goals as goal

pub slice_bounds-start_all-end : goal.slice_bounds-start_all-end
slice_bounds-start_all-end c = sym (length-replicate {A = ℕ} _ 0)
