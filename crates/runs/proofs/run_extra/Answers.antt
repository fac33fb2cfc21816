-- `runs::run_extra` meets its contract. Assumes nothing.
use mathlib.Core.Path.{◌≡◌, refl, sym, ap}
use Rattle.runs.specs.Runs.{extra}
use Rattle.runs.proofs.Facts.{extra_small}
use Rattle.runs.specs.declared.RunCode.{RunCode}
use Rattle.runs.specs.declared.RunCode.TheVariants.{Long, Short}
use borrow.Author.Rules.{rules}
use Rattle.runs.proofs.run_extra.Goals as goal

pub returns-in-Long : goal.returns-in-Long
unfolding extra
returns-in-Long c = (sym (ap (λ (k : RunCode). extra k c.args.r) c.in-Long.is), extra_small Long c.args.r c.requires)

pub returns-in-Short : goal.returns-in-Short
unfolding extra
returns-in-Short c = (sym (ap (λ (k : RunCode). extra k c.args.r) c.in-Short.is), extra_small Short c.args.r c.requires)
