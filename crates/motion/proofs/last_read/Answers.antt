-- `motion::last_read` meets its contract. Assumes nothing.
use Rattle.motion.specs.Kept.{last_read}
use Rattle.motion.proofs.last_read.Goals as goal

pub returns-then-d : goal.returns-then-d
unfolding last_read
returns-then-d c = rw c.if-d.true

pub returns-then-c : goal.returns-then-c
unfolding last_read
returns-then-c c = rw (c.if-d.false, c.if-c.true)

pub returns-then-b : goal.returns-then-b
unfolding last_read
returns-then-b c = rw (c.if-d.false, c.if-c.false, c.if-b.true)

pub returns : goal.returns
unfolding last_read
returns c = rw (c.if-d.false, c.if-c.false, c.if-b.false)
