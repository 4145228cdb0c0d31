-- `end_column`: four lanes finished, put into lanes and stored. Assumes nothing.
use native.Mathlib.Omega.{arith}
use Prim.Native.Nat.{◌<◌}
use Rattle.rows_pixels.specs.Inner.{end_value}
use Rattle.rows_pixels.proofs.Bytes.{finished, ended_values, ended_carries, ended_lanes}
use Rattle.rows_pixels.proofs.end_column.Goals as goal

pub returns : goal.returns
returns c =
    let a = c.args in
    let small : a.over < 16384 = omega (arith, c.requires.over_small, c.requires.m_small) in
    let ends = finished c.finish-a.ensures c.finish-b.ensures c.finish-c.ensures c.finish-d.ensures in
    record {
      carry = ended_carries a.m a.scale a.over a.total a.last small _ _ ends;
      half = ended_lanes a.half.now a.j (end_value a.m a.over a.total a.last) c.requires.places
          (ended_values a.m a.scale a.over a.total a.last small _ _ ends)
          c.in_lanes.ensures c.put4.ensures;
    }
