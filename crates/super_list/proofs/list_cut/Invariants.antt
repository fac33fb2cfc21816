-- `super_list::list_cut` meets its contract. The invariant: the blocks from the first to before i are done. Assumes nothing.
use Rattle.std.proofs.Common.{◌≤◌}
use Rattle.coded_flags.specs.Coded.{order}
use Rattle.super_list.specs.Listing.{Goes}
use Rattle.super_list.proofs.list_cut.Given as goal

abbrev pub invariant-loop-i : goal.invariant-loop-i
invariant-loop-i l = (l.count ≤ l.i) × Goes (order l.format l.w l.h) l.flags l.initial.records l.initial.coded l.before l.first l.records l.coded l.count l.i
