-- What a row that is due tells of SCOPE's d, the rest: it is at least 0 and below its end. Assumes nothing.
use Rattle.std.proofs.Common.{◌≡◌, ℕ, suc, ◌+◌, ◌-◌, ◌*◌, ◌<◌, ◌≤◌, true, sym, ◌∙◌}
use Rattle.rows.specs.WorkRows.{Scale}
use Rattle.rows_due.specs.Due.{within}
use Rattle.rows_due.proofs.DueRow.{range_low, range_high, due_down, due_up, due_some}
use Rattle.rows_scaling.specs.Inner.Scaling.{RowAsks}

module _ {s : Scale} {u y : ℕ} (a : RowAsks s u y) where
  module _ (l : s.g ≤ s.h) where
    down : within (u * s.g) (suc y * s.h) s.g ≡ true
    down = sym (due_down s.h s.g u y l) ∙ a.ready

    pub down_low : suc y * s.h ≤ u * s.g
    down_low = range_low (u * s.g) (suc y * s.h) s.g down

    pub down_high : u * s.g < suc y * s.h + s.g
    down_high = range_high (u * s.g) (suc y * s.h) s.g down

  module _ (l : s.h < s.g) where
    pub up_some : 1 ≤ u
    up_some = due_some s.h s.g u y l a.ready

    up : within ((u - 1) * (s.g - 1)) (y * (s.h - 1)) (s.g - 1) ≡ true
    up = sym (due_up s.h s.g u y l up_some) ∙ a.ready

    pub up_low : y * (s.h - 1) ≤ (u - 1) * (s.g - 1)
    up_low = range_low ((u - 1) * (s.g - 1)) (y * (s.h - 1)) (s.g - 1) up

    pub up_high : (u - 1) * (s.g - 1) < y * (s.h - 1) + (s.g - 1)
    up_high = range_high ((u - 1) * (s.g - 1)) (y * (s.h - 1)) (s.g - 1) up
