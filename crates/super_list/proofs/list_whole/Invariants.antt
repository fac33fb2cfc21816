-- `super_list::list_whole` meets its contract. The invariant: the first j blocks are done. Assumes nothing.
use Rattle.std.proofs.Common.{◌+◌, ◌≤◌}
use Rattle.coded_flags.specs.Coded.{order}
use Rattle.super_list.specs.Listing.{Goes}
use Rattle.super_list.proofs.list_whole.Given as goal

abbrev pub invariant-loop-j : goal.invariant-loop-j
invariant-loop-j l = (l.count ≤ l.first + l.j) × Goes (order l.fn.format l.w l.h) l.flags l.initial.records l.initial.coded l.before l.first l.records l.coded l.count (l.first + l.j)
