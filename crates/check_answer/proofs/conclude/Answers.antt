-- `check_answer::conclude` meets its contract. Assumes nothing.
use Rattle.check_answer.proofs.Sayings.{says_refused, says_differs, says_longer, says_passes}
use Rattle.check_answer.proofs.conclude.Goals as goal

pub returns-then-w : goal.returns-then-w
returns-then-w c = says_refused c.args.w c.args.file.now c.if-w.true

pub returns-then-compared : goal.returns-then-compared
returns-then-compared c = says_differs c.args.w c.args.file.now c.if-w.false c.if-compared.true

pub returns-then-compared-file : goal.returns-then-compared-file
returns-then-compared-file c = says_longer c.args.w c.args.file.now c.if-w.false c.if-compared.false c.if-compared-file.true

pub returns : goal.returns
returns c = says_passes c.args.w c.args.file.now c.if-w.false c.if-compared.false c.if-compared-file.false
