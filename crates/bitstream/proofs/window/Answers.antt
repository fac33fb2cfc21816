-- `bitstream::window` meets its contract: eight bytes, or the packet's last ones and zeros. Assumes nothing.
use borrow.Author.Rules.{rules}
use Prim.Native.Nat.{ℕ, ◌-◌, ◌*◌, ◌/◌, ◌%◌, ◌^◌}
use native.Mathlib.Omega.{arith}
use mathlib.Core.Path.{sym, ap, ◌∙◌}
use lib.ListN.{length}
use Rattle.bitstream.proofs.Bytes.{number_past, window_of_last}
use Rattle.bitstream.proofs.window.Goals as goal

pub returns-then-size-first : goal.returns-then-size-first
returns-then-size-first c = sym (number_past c.args.packet.now (c.args.at / 8 * 8) 64 (omega (arith, c.if-size-first.true)))

pub returns : goal.returns
returns c = let n = length c.args.packet.now - c.args.at / 8 in
    ap (λ (x : ℕ). x * 2 ^ (64 - n * 8) % 2 ^ 64) c.bytes_from-2.ensures ∙ window_of_last c.args.packet.now (c.args.at / 8) n (omega (arith, c.if-size-first.false)) (omega (arith, c.if-first-size.false))
