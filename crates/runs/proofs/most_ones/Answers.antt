-- `runs::most_ones` meets its contract. Assumes nothing.
use Rattle.runs.specs.Runs.{most}
use borrow.Author.Rules.{rules}
use Rattle.runs.proofs.most_ones.Goals as goal

pub returns-in-Long : goal.returns-in-Long
unfolding most
returns-in-Long c = search rules

pub returns-in-Short : goal.returns-in-Short
unfolding most
returns-in-Short c = search rules
