use borrow.Author.Rules.{rules}
use Prim.Native.Nat.{ℕ, ◌+◌, ◌-◌, ◌*◌, ◌^◌, ◌≤◌, ◌<◌}
use native.Mathlib.Omega.{arith}
use native.Mathlib.Nat.{lt_of_le_of_lt, le-add_right}
use mathlib.Core.Path.{◌≡◌, refl, sym, ap, ◌∙◌}
use lib.ListN.{length, get_or}
use Rattle.bitstream.specs.Bits.{number}
use Rattle.bitstream.proofs.Bytes.{byte_more, bytes_fit}
use Rattle.bitstream.proofs.bytes_from.Goals as goal

pub loop-k-init : goal.loop-k-init
unfolding number
loop-k-init c = (search rules, refl)

pub overflow_mul-value : goal.overflow_mul-value
overflow_mul-value c =
    let byte_fits : get_or c.args.packet.now (c.args.first + c.loop-k.k) 0 < 256 =
    omega (arith, c.shared_slice_known-1.given (c.args.first + c.loop-k.k)) in
    let turn : c.loop-k.value * 256 + get_or c.args.packet.now (c.args.first + c.loop-k.k) 0 ≡ number c.args.packet.now (c.args.first * 8) ((c.loop-k.k + 1) * 8) =
    rw c.loop-k.invariant.1 (byte_more _ _ _ (byte_fits)) in
    let turn-fits : c.loop-k.value * 256 + get_or c.args.packet.now (c.args.first + c.loop-k.k) 0 < 2 ^ 64 =
    rw (turn) (bytes_fit _ _ _ (omega arith)) in
    record { fits = lt_of_le_of_lt (le-add_right _ _) (turn-fits) }

pub overflow_add-value : goal.overflow_add-value
overflow_add-value c =
    let byte_fits : get_or c.args.packet.now (c.args.first + c.loop-k.k) 0 < 256 =
    omega (arith, c.shared_slice_known-1.given (c.args.first + c.loop-k.k)) in
    let turn : c.loop-k.value * 256 + get_or c.args.packet.now (c.args.first + c.loop-k.k) 0 ≡ number c.args.packet.now (c.args.first * 8) ((c.loop-k.k + 1) * 8) =
    rw c.loop-k.invariant.1 (byte_more _ _ _ (byte_fits)) in
    let turn-fits : c.loop-k.value * 256 + get_or c.args.packet.now (c.args.first + c.loop-k.k) 0 < 2 ^ 64 =
    rw (turn) (bytes_fit _ _ _ (omega arith)) in
    record { fits = turn-fits }

pub loop-k-preserved : goal.loop-k-preserved
loop-k-preserved c =
    let byte_fits : get_or c.args.packet.now (c.args.first + c.loop-k.k) 0 < 256 =
    omega (arith, c.shared_slice_known-1.given (c.args.first + c.loop-k.k)) in
    let turn : c.loop-k.value * 256 + get_or c.args.packet.now (c.args.first + c.loop-k.k) 0 ≡ number c.args.packet.now (c.args.first * 8) ((c.loop-k.k + 1) * 8) =
    rw c.loop-k.invariant.1 (byte_more _ _ _ (byte_fits)) in
    (search rules, turn)
