-- `huffman::seven_bits` meets its contract. Assumes nothing.
use borrow.Author.Rules.{rules}
use Prim.Native.Nat.{◌+◌, ◌-◌, ◌/◌, ◌%◌, ◌<◌}
use lib.ListN.{get_or}
use native.Mathlib.Omega.{arith}
use Rattle.bitstream.proofs.Bytes.{bits_of_two}
use Rattle.huffman.proofs.seven_bits.Goals as goal

pub returns : goal.returns
returns c =
    let first_fits : get_or c.args.packet.now (c.args.at / 8) 0 < 256 =
    omega (arith, c.type_inv.packet (c.args.at / 8)) in
    let second_fits : get_or c.args.packet.now (c.args.at / 8 + 1) 0 < 256 =
    omega (arith, c.type_inv.packet (c.args.at / 8 + 1)) in
    (rw c.byte_or_zero-second.ensures (bits_of_two c.args.packet.now c.args.at 7 (9 - c.args.at % 8) (omega arith) (first_fits) (second_fits)), search rules)
