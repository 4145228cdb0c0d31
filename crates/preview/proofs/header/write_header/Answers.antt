-- The part of the buffer that the header takes is lent.
use Rattle.std.proofs.Common.{rules, length-take-le}
use Rattle.preview.proofs.Buffers.{header_fits}
use Rattle.preview.proofs.header.write_header.Goals as goal

pub slice_bounds-text-end : goal.slice_bounds-text-end
slice_bounds-text-end c =
    header_fits c.args.size c.pam_header_length.result _ c.pam_header_length.ensures.bytes c.in-Ok.is

pub slice_bounds-put_header-end : goal.slice_bounds-put_header-end
slice_bounds-put_header-end c =
    let h = header_fits c.args.size c.pam_header_length.result _ c.pam_header_length.ensures.bytes c.in-Ok.is in
    search (rules, length-take-le, h)
