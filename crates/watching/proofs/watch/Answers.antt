-- `watching::watch` meets its contract. Assumes nothing.
use Rattle.stream_numbers.specs.Numbers.{numbers_of}
use Rattle.watching.proofs.Steps.{watched_stays, watched_refused, watched_accepted}
use borrow.Author.Rules.{rules}
use Rattle.watching.proofs.watch.Goals as goal

pub returns-then-w : goal.returns-then-w
returns-then-w c = (watched_stays (numbers_of c.args.s) c.args.file.now c.args.w c.args.verdict c.args.frame.now c.if-w.true, c.requires.2)

pub returns-in-Refused : goal.returns-in-Refused
returns-in-Refused c = (watched_refused (numbers_of c.args.s) c.args.file.now c.args.w c.args.frame.now c.if-w.false c.in-Refused.is, c.requires.2)

pub returns-in-Accepted : goal.returns-in-Accepted
returns-in-Accepted c = (watched_accepted (numbers_of c.args.s) c.args.file.now c.args.w c.args.frame.now c.compare_frame-compared.result c.if-w.false c.in-Accepted.is c.compare_frame-compared.ensures.0, c.compare_frame-compared.ensures.1)
