-- The starred trials of SCOPE hold, all together and in every layout: by computing. An end in itself. Assumes nothing.
use mathlib.Core.Path.{refl}
use Rattle.arithmetic.specs.Quotient.{ceil}
use Rattle.arithmetic.specs.FixedPoint.{mult, floor, frac}
use Rattle.arithmetic.specs.Sum.{sum}
use Rattle.arithmetic.specs.Table.{tabulate}
use Rattle.arithmetic.specs.Weight.{span, grow_weight}
use Rattle.arithmetic.specs.Matte.{lane_of, matte_factor, restore_factor, factor_of, scale_colour, cut_colour, mult_lane, pixel_of, mult_argb}
use Rattle.pixels_layout.specs.declared.PixelLayout.TheVariants.{Rgba8, Argb8, Bgra8}
use Rattle.pixels.specs.Sizes.{bad_side, bad_size, size_number, derived_side, scaled_number}
use Rattle.pixels_layout.specs.Layout.{packed_byte}
use Rattle.pixels_layout.specs.Lanes.{restored_pixel, restored_place}
use Rattle.pixels_alpha.specs.Alpha.{some_clear, has_alpha}
use Rattle.rows_schedule.specs.Schedule.{made, needed, since}
use Rattle.rows.specs.Column.{start, over, last, column_sum, carry, shrink_value, grow_value, value}
use Rattle.rows.specs.Output.{share, ratio, byte_down, mixed, blend, byte_up}
use Rattle.rows.specs.Closed.{newest, share_before, first_half, scaled_byte, scaled}
use Rattle.job_claim.specs.Rows.{read_byte, scaled_lane, row_of, rows_of, resized, resized_flag}
use Rattle.job_claim.specs.Trials.{AllHold, trials, given_of, said_of, pixel, opaque}

pub all_hold : AllHold
unfolding trials given_of said_of pixel opaque read_byte scaled_lane row_of rows_of resized resized_flag
    newest share_before first_half scaled_byte scaled share ratio byte_down mixed blend byte_up start over last column_sum carry shrink_value grow_value value
    made needed since some_clear has_alpha restored_pixel restored_place packed_byte bad_side bad_size size_number derived_side scaled_number
    lane_of matte_factor restore_factor factor_of scale_colour cut_colour mult_lane pixel_of mult_argb span grow_weight tabulate sum mult floor frac ceil
all_hold Rgba8 = refl
all_hold Argb8 = refl
all_hold Bgra8 = refl
