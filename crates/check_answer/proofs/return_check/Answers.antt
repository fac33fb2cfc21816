-- `check_answer::return_check` meets its contract. Assumes nothing.
use native.Mathlib.Omega.{arith}
use lib.ListN.{length-set}
use Rattle.check_answer.proofs.Found.{found_passes, found_differs, found_refused}
use borrow.Author.Rules.{rules}
use Rattle.check_answer.proofs.return_check.Goals as goal

pub returns-in-Passes : goal.returns-in-Passes
returns-in-Passes c = found_passes c.args.found.now c.requires c.in-Passes.is

pub returns-in-Differs : goal.returns-in-Differs
returns-in-Differs c = found_differs c.args.found.now c.requires c.in-Differs.is

pub returns-in-Refused : goal.returns-in-Refused
returns-in-Refused c = found_refused c.args.found.now c.requires c.in-Refused.is
