-- `coded_list::list_coded` meets its contract. The invariant: the numbers so far and those of the super blocks that are left are all, and so for the records. Assumes nothing.
use Rattle.std.proofs.Common.{◌≤◌}
use Rattle.coded_flags.specs.Coded.{order}
use Rattle.super_list.specs.Listing.{Listing}
use Rattle.coded_flags.proofs.Spread.{first_of}
use Rattle.coded_list.proofs.list_coded.Given as goal

abbrev pub invariant-loop-k : goal.invariant-loop-k
invariant-loop-k l = (l.count ≤ first_of l.format l.w l.h l.k) × Listing (order l.format l.w l.h) l.flags l.initial.records l.initial.coded l.records l.coded l.count (first_of l.format l.w l.h l.k)
