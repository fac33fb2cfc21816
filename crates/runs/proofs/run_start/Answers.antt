-- `runs::run_start` meets its contract. Assumes nothing.
use mathlib.Core.Path.{◌≡◌, refl, sym, ap}
use Rattle.runs.specs.Runs.{start}
use Rattle.runs.proofs.Facts.{start_small}
use Rattle.runs.specs.declared.RunCode.{RunCode}
use Rattle.runs.specs.declared.RunCode.TheVariants.{Long, Short}
use borrow.Author.Rules.{rules}
use Rattle.runs.proofs.run_start.Goals as goal

pub returns-in-Long : goal.returns-in-Long
unfolding start
returns-in-Long c = (sym (ap (λ (k : RunCode). start k c.args.r) c.in-Long.is), start_small Long c.args.r c.requires)

pub returns-in-Short : goal.returns-in-Short
unfolding start
returns-in-Short c = (sym (ap (λ (k : RunCode). start k c.args.r) c.in-Short.is), start_small Short c.args.r c.requires)
