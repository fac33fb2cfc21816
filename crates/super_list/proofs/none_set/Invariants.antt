-- `super_list::none_set` meets its contract. The invariant: if so, none of the flags before is 1. Assumes nothing.
use Rattle.std.proofs.Common.{◌≡◌, ◌+◌, true}
use Rattle.super_list.specs.Listing.{NoneSet}
use Rattle.super_list.proofs.none_set.Given as goal

abbrev pub invariant-loop-flag : goal.invariant-loop-flag
invariant-loop-flag l = l.none ≡ true → NoneSet l.flags l.first (l.first + l.flag-index)
