-- `census_packets::read_setup` meets its contract. Assumes nothing.
use Prim.Native.Nat.{ℕ, ◌+◌, ◌-◌}
use native.Mathlib.Omega.{arith}
use mathlib.Core.Path.{◌≡◌, ap}
use lib.ListN.{get_or, take, drop}
use Rattle.census_packets.proofs.Headers.{total_three, setup_missing, setup_sound, setup_refused}
use borrow.Author.Rules.{rules}
use Rattle.bitstream.proofs.Clauses.{two}
use Rattle.census_packets.proofs.read_setup.Goals as goal

pub returns-then-lengths-lt3 : goal.returns-then-lengths-lt3
returns-then-lengths-lt3 c = two (λ a b. record { value = a; if_sound = b }) (setup_missing c.args.lengths.now c.args.packets.now c.args.table.now c.args.s c.if-lengths-lt3.true)

pub overflow_add-from : goal.overflow_add-from
overflow_add-from c = let z = total_three c.args.lengths.now c.if-lengths-lt3.false in omega (arith, z.1, c.requires)

pub overflow_add-to : goal.overflow_add-to
overflow_add-to c = let z = total_three c.args.lengths.now c.if-lengths-lt3.false in omega (arith, z.1, c.requires)

pub returns-in-Accepted : goal.returns-in-Accepted
returns-in-Accepted c = let n : ℕ = get_or c.args.lengths.now 0 0 + get_or c.args.lengths.now 1 0 in let k : n + get_or c.args.lengths.now 2 0 - n ≡ get_or c.args.lengths.now 2 0 = omega arith in let e = ap (λ (k : ℕ). take k (drop n c.args.packets.now)) k in two (λ a b. record { value = a; if_sound = b }) (setup_sound c.args.lengths.now c.args.packets.now c.args.table.now c.args.s c.if-lengths-lt3.false _ e _ (c.setup.ensures.value, c.setup.ensures.table_after) c.in-Accepted.is)

pub returns-in-Refused : goal.returns-in-Refused
returns-in-Refused c = let n : ℕ = get_or c.args.lengths.now 0 0 + get_or c.args.lengths.now 1 0 in let k : n + get_or c.args.lengths.now 2 0 - n ≡ get_or c.args.lengths.now 2 0 = omega arith in let e = ap (λ (k : ℕ). take k (drop n c.args.packets.now)) k in two (λ a b. record { value = a; if_sound = b }) (setup_refused c.args.lengths.now c.args.packets.now c.args.table.now c.args.s c.if-lengths-lt3.false _ e _ (c.setup.ensures.value, c.setup.ensures.table_after) c.in-Refused.is)

pub slice_bounds-setup-end : goal.slice_bounds-setup-end
slice_bounds-setup-end c = let z = total_three c.args.lengths.now c.if-lengths-lt3.false in omega (arith, z.1, c.requires)
