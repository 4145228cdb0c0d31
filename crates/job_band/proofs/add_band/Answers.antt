-- The loop keeps `Adding`: the rows from the present one to the last are summed. Then the last goes to the second half once more, if it is not the only one. Assumes nothing.
use native.Mathlib.Omega.{arith}
use Rattle.job_band.proofs.Testing.{band_went}
use Rattle.job_band.proofs.Adding.{adding_first, some_rows, last_less, in_lent, row_asks, turn_lent, turn_range, turn, added_one, added_all}
use Rattle.job_band.proofs.add_band.Goals as goal

pub band_of-n-requires : goal.band_of-n-requires
band_of-n-requires c = let a = c.args in (band_went a.j _ _ c.requires).rules

pub loop-i-init : goal.loop-i-init
loop-i-init c =
    let args = c.args in
    let pre = c.requires in
    let band-of = c.band_of-n in
    adding_first args.j args.rows.now args.work.now _ pre band-of.ensures

pub overflow_mul-at : goal.overflow_mul-at
overflow_mul-at c =
    let args = c.args in
    let pre = c.requires in
    let band-of = c.band_of-n in
    let loop = c.loop-i in
    let loop-test = c.loop-i-test in
    let row-bytes = c.row_bytes-stride in
    let good = c.well_formed in
    let a = args in
    let fits = turn_lent a.j a.rows.now a.work.now _ pre band-of.ensures loop.i loop-test.true _ row-bytes.ensures loop.work loop.invariant in
    omega (arith, fits, good.1.0.0)

pub overflow_add-j : goal.overflow_add-j
overflow_add-j c =
    let args = c.args in
    let pre = c.requires in
    let band-of = c.band_of-n in
    let loop = c.loop-i in
    let loop-test = c.loop-i-test in
    let row-bytes = c.row_bytes-stride in
    let a = args in
    omega (arith, turn_range a.j a.rows.now a.work.now _ pre band-of.ensures loop.i loop-test.true _ row-bytes.ensures loop.work loop.invariant)

pub overflow_add-at : goal.overflow_add-at
overflow_add-at c =
    let args = c.args in
    let pre = c.requires in
    let band-of = c.band_of-n in
    let loop = c.loop-i in
    let loop-test = c.loop-i-test in
    let row-bytes = c.row_bytes-stride in
    let good = c.well_formed in
    let a = args in
    let fits = turn_lent a.j a.rows.now a.work.now _ pre band-of.ensures loop.i loop-test.true _ row-bytes.ensures loop.work loop.invariant in
    omega (arith, fits, good.1.0.0)

pub slice_bounds-put_source_row-end : goal.slice_bounds-put_source_row-end
slice_bounds-put_source_row-end c =
    let args = c.args in
    let pre = c.requires in
    let band-of = c.band_of-n in
    let loop = c.loop-i in
    let loop-test = c.loop-i-test in
    let row-bytes = c.row_bytes-stride in
    let a = args in
    turn_lent a.j a.rows.now a.work.now _ pre band-of.ensures loop.i loop-test.true _ row-bytes.ensures loop.work loop.invariant

pub loop-i-preserved : goal.loop-i-preserved
loop-i-preserved c =
    let args = c.args in
    let row-form = c.row_form-form in
    let put-source-row = c.put_source_row in
    let pre = c.requires in
    let band-of = c.band_of-n in
    let loop = c.loop-i in
    let loop-test = c.loop-i-test in
    let row-bytes = c.row_bytes-stride in
    let a = args in
    let put = rw row-form.ensures at put-source-row.ensures.work in
    turn a.j a.rows.now a.work.now _ pre band-of.ensures loop.i loop-test.true _ row-bytes.ensures loop.work loop.invariant _ put

pub returns-then-n-eq1 : goal.returns-then-n-eq1
returns-then-n-eq1 c =
    let args = c.args in
    let pre = c.requires in
    let band-of = c.band_of-n in
    let loop = c.loop-i in
    let loop-test = c.loop-i-test in
    let if1 = c.if-n-eq1 in
    let a = args in
    let all = added_one a.j a.rows.now a.work.now _ pre band-of.ensures loop.work loop.i loop-test.false loop.invariant if1.true in
    record {
      rows = band-of.ensures;
      work = all;
    }

pub overflow_sub-last : goal.overflow_sub-last
overflow_sub-last c =
    let args = c.args in
    let pre = c.requires in
    let band-of = c.band_of-n in
    some_rows args.j args.rows.now args.work.now _ pre band-of.ensures

pub overflow_mul-last : goal.overflow_mul-last
overflow_mul-last c =
    let args = c.args in
    let pre = c.requires in
    let band-of = c.band_of-n in
    let row-bytes = c.row_bytes-stride in
    let good = c.well_formed in
    let a = args in
    let less = last_less a.j a.rows.now a.work.now _ pre band-of.ensures in
    omega (arith, in_lent a.j a.rows.now a.work.now _ pre band-of.ensures _ less _ row-bytes.ensures, good.1.0.0)

pub overflow_add-last : goal.overflow_add-last
overflow_add-last c =
    let args = c.args in
    let pre = c.requires in
    let band-of = c.band_of-n in
    let row-bytes = c.row_bytes-stride in
    let good = c.well_formed in
    let a = args in
    let less = last_less a.j a.rows.now a.work.now _ pre band-of.ensures in
    omega (arith, in_lent a.j a.rows.now a.work.now _ pre band-of.ensures _ less _ row-bytes.ensures, good.1.0.0)

pub slice_bounds-put_second-end : goal.slice_bounds-put_second-end
slice_bounds-put_second-end c =
    let args = c.args in
    let pre = c.requires in
    let band-of = c.band_of-n in
    let row-bytes = c.row_bytes-stride in
    let a = args in
    let less = last_less a.j a.rows.now a.work.now _ pre band-of.ensures in
    in_lent a.j a.rows.now a.work.now _ pre band-of.ensures _ less _ row-bytes.ensures

pub put_second-requires : goal.put_second-requires
put_second-requires c =
    let args = c.args in
    let pre = c.requires in
    let band-of = c.band_of-n in
    let row-bytes = c.row_bytes-stride in
    let loop = c.loop-i in
    let a = args in
    let less = last_less a.j a.rows.now a.work.now _ pre band-of.ensures in
    row_asks a.j a.rows.now a.work.now _ pre band-of.ensures _ less _ row-bytes.ensures loop.work loop.invariant.long

pub returns : goal.returns
returns c =
    let args = c.args in
    let band-of = c.band_of-n in
    let pre = c.requires in
    let loop = c.loop-i in
    let loop-test = c.loop-i-test in
    let row-bytes = c.row_bytes-stride in
    let put_second = c.put_second in
    let a = args in
    let n-is = band-of.ensures in
    let all = added_all a.j a.rows.now a.work.now _ pre n-is loop.work loop.i loop-test.false loop.invariant _ row-bytes.ensures _ put_second.ensures in
    record {
      rows = n-is;
      work = all;
    }
