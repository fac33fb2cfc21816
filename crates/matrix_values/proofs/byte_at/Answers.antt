-- `matrix_values::byte_at` meets its contract. Assumes nothing.
use Prim.Native.Nat.{◌+◌, ◌/◌, ◌<◌}
use native.Mathlib.Omega.{arith}
use lib.ListN.{get_or}
use Rattle.matrix_values.proofs.Values.{byte_of_two}
use Rattle.matrix_values.proofs.byte_at.Goals as goal

pub returns : goal.returns
returns c =
    let upper_fits : get_or c.args.packet.now c.args.index 0 < 256 =
    omega (arith, c.shared_slice_known-2-1.given c.args.index) in
    let lower-fits : get_or c.args.packet.now (c.args.index + (c.args.taken + 7) / 8) 0 < 256 =
    omega (arith, c.shared_slice_known-2-1.given (c.args.index + (c.args.taken + 7) / 8)) in
    byte_of_two c.args.packet.now c.args.index c.args.taken c.requires.1 (upper_fits) (lower-fits)
