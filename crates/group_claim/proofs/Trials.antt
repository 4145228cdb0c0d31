-- The trials of groups hold: by computing. An end in itself. Assumes nothing.
use mathlib.Core.Path.{◌≡◌, refl}
use Rattle.arithmetic.specs.Quotient.{ceil}
use Rattle.arithmetic.specs.FixedPoint.{mult, floor, frac}
use Rattle.arithmetic.specs.Sum.{sum}
use Rattle.arithmetic.specs.Table.{tabulate}
use Rattle.arithmetic.specs.Weight.{span}
use Rattle.arithmetic.specs.Matte.{lane_of, matte_factor, restore_factor, factor_of, scale_colour, cut_colour, mult_lane, pixel_of, mult_argb}
use Rattle.pixels.specs.Sizes.{bad_side, bad_size, empty_crop, crop_beyond, bad_lanes, sizes_number}
use Rattle.pixels_layout.specs.Layout.{pixel_at, packed_byte}
use Rattle.pixels_layout.specs.Lanes.{matted, restored_pixel, restored_place}
use Rattle.pixels_alpha.specs.Alpha.{some_clear, has_alpha}
use Rattle.pixels_crop.specs.Crop.{window_of, picture_row}
use Rattle.rows_schedule.specs.Schedule.{made, counts_fit, needed, since}
use Rattle.rows.specs.Column.{start, over, last, column_sum, carry, shrink_value, grow_value, value}
use Rattle.rows.specs.Lanes.{row_value}
use Rattle.rows.specs.Output.{share, ratio, byte_down, left_down}
use Rattle.rows.specs.WorkRows.{added, row_in, byte_out, row_left}
use Rattle.job_rules.specs.Rules.{kind_fits, lawful_of, offer_number_of, take_number_of}
use Rattle.job.specs.Calls.{row_accepted, fed, least, counted, offer_work, row_taken, work_taken, take_job, take_out, take_work}
use Rattle.job_claim.specs.Trials.{pixel, opaque}
use Rattle.group_parts.specs.Parts.{offset, each_part}
use Rattle.group_rules.specs.Group.{every, some, each_job, alike, differing, group_lawful, fresh_jobs}
use Rattle.group_rules.specs.Tests.{group_start_number, group_offer_number, group_take_number}
use Rattle.group.specs.Calls.{group_count, group_offer_rows, group_offered, group_offer_work, group_taken, group_take_out, group_take_work}
use Rattle.group_start.specs.Start.{group_started, group_start_work}
use Rattle.group_claim.specs.Calls.{group_step}
use Rattle.group_claim.specs.Trials.{starts_given, starts_said, told, calls_given, calls_said, TrialsHold}

starts_hold : starts_given ≡ starts_said
unfolding starts_given group_start_number fresh_jobs some differing alike offset bad_side bad_size empty_crop crop_beyond bad_lanes
starts_hold = refl

calls_hold : calls_given ≡ calls_said
unfolding calls_given told group_step group_started group_start_work group_start_number group_offer_number group_take_number group_lawful fresh_jobs every some each_job differing alike
    group_count group_offer_rows group_offered group_offer_work group_taken group_take_out group_take_work offset each_part
    kind_fits lawful_of offer_number_of take_number_of row_accepted fed least counted offer_work row_taken work_taken take_job take_out take_work
    added row_in byte_out row_left row_value share ratio byte_down left_down start over last column_sum carry shrink_value grow_value value
    made counts_fit needed since window_of picture_row some_clear has_alpha matted restored_pixel restored_place pixel_at packed_byte
    bad_side bad_size empty_crop crop_beyond bad_lanes sizes_number pixel opaque
    lane_of matte_factor restore_factor factor_of scale_colour cut_colour mult_lane pixel_of mult_argb span tabulate sum mult floor frac ceil
calls_hold = refl

pub trials_hold : TrialsHold
trials_hold = record { starts = starts_hold; calls = calls_hold }
