-- `layout::stored::store_at` meets its contract: what is copied at once is stored cell by cell.
use Prim.Native.Nat.{◌+◌, ◌-◌}
use native.Mathlib.Omega.{arith}
use Rattle.layout.proofs.CellLaws.{put_at_once}
use Rattle.layout.proofs.stored.store_at.Goals as goal

pub returns : goal.returns
returns g c =
    let at = c.args.at in
    put_at_once c.args.row.now at (at + g.row.N - at) c.copy_from_slice.new.self (g.T.Stored.cells_of c.args.v) (cc)
    c.copy_from_slice.ensures.len (omega arith)
