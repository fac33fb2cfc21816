-- `coded_list::list_super` meets its contract. Assumes nothing.
use Prim.Native.Nat.{ℕ, ◌+◌, ◌-◌}
use native.Mathlib.Omega.{arith}
use mathlib.Core.Path.{◌≡◌, sym, subst}
use Rattle.coded_flags.specs.Coded.{order}
use Rattle.super_list.specs.Listing.{Goes, NoneSet}
use Rattle.coded_flags.proofs.Order.{order_length}
use Rattle.super_list.proofs.Listing.{goes_over}
use Rattle.coded_list.proofs.list_super.Goals as goal

pub returns-then-none_set : goal.returns-then-none_set
returns-then-none_set c = let n = c.args.end - c.args.first in
    let z : c.args.first + n ≡ c.args.end = omega (arith, c.requires.6) in
    let o = subst (NoneSet c.args.flags.now c.args.first) (sym z) (c.none_set.ensures c.if-none_set.true) in
    let g = goes_over (order c.args.format c.args.w c.args.h) c.args.flags.now c.args.records.now c.args.coded.now c.args.before c.args.first n (omega (arith, z, c.requires.7, order_length c.args.format c.args.w c.args.h)) (omega (arith, z, c.requires.7, c.requires.2)) (omega (arith, z, c.requires.7, c.requires.4)) c.requires.5 o in
    (omega (arith, c.requires.5, c.requires.6), subst (λ (k : ℕ). Goes (order c.args.format c.args.w c.args.h) c.args.flags.now c.args.records.now c.args.coded.now c.args.before c.args.first c.args.records.now c.args.coded.now c.args.before k) z g)
