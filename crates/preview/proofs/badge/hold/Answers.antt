-- Both buffers are lent whole.
use Rattle.std.proofs.Common.{ℕ, sym}
use Rattle.std.proofs.lemmas.List.{length-replicate}
use Rattle.preview.proofs.badge.hold.Goals as goal

pub slice_bounds-lay_in-end : goal.slice_bounds-lay_in-end
slice_bounds-lay_in-end c = sym (length-replicate {A = ℕ} _ 0)

pub slice_bounds-lay_in-end-2 : goal.slice_bounds-lay_in-end-2
slice_bounds-lay_in-end-2 c = sym (length-replicate {A = ℕ} _ 0)
