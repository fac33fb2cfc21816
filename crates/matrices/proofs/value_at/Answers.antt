-- `matrices::value_at` meets its contract. Assumes nothing.
use Prim.Native.Nat.{◌+◌, ◌*◌, ◌/◌, ◌%◌}
use native.Mathlib.Omega.{arith}
use Rattle.bitstream.proofs.Numbers.{number_lt}
use Rattle.matrices.proofs.value_at.Goals as goal

pub interpolate-value-requires : goal.interpolate-value-requires
interpolate-value-requires c = (
  c.requires.3,
  omega (arith, c.byte_at-left.ensures, number_lt c.args.packet.now ((c.args.first / 8 + c.args.c) * 8 + c.args.first % 8) 8),
  omega (arith, c.byte_at-right.ensures, number_lt c.args.packet.now ((c.args.second / 8 + c.args.c) * 8 + c.args.second % 8) 8),
)
