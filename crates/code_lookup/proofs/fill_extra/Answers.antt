use Prim.Native.Nat.{ℕ, ◌+◌, ◌/◌, ◌^◌}
use native.Mathlib.Omega.{arith}
use mathlib.Core.List.{List}
use lib.ListN.{length, get_or}
use Rattle.bitstream.proofs.Lists.{tabulated_is}
use Rattle.code_lookup.proofs.fill_extra.Goals as goal

-- the entry i
abbrev entry : List ℕ → ℕ → ℕ → ℕ → ℕ → ℕ
entry complete from shift bits i = get_or complete (from + i / 2 ^ shift) 0 + bits

pub returns : goal.returns
returns c = let f = entry c.args.complete.now c.args.from c.args.shift c.args.bits in
    tabulated_is f (length c.args.lookup.now) c.loop-i.lookup c.loop-i.invariant.1 (λ j h. c.loop-i.invariant.2 j (omega (arith, h, c.loop-i-test.false, c.loop-i.invariant.1)))
