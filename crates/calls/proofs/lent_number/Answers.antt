-- `calls::lent_number` meets its contract. Assumes nothing.
use mathlib.Core.Path.{sym, ◌∙◌}
use Rattle.calls.proofs.Lengths.{blocks_few}
use Rattle.calls.proofs.Rooms.{by_8, by_1, by_0}
use Rattle.calls.proofs.lent_number.Goals as goal

pub buffers_fit-buffers-requires : goal.buffers_fit-buffers-requires
buffers_fit-buffers-requires c = blocks_few c.args.s (sym c.session_fits.ensures ∙ c.if-session_fits.true) c.lengths_of-l.ensures

pub returns-then-buffers-work : goal.returns-then-buffers-work
returns-then-buffers-work c = by_0 c.args.s c.args.table c.args.room (sym c.session_fits.ensures ∙ c.if-session_fits.true) c.lengths_of-l.ensures c.buffers_fit-buffers.ensures c.work_fits-work.ensures c.if-buffers-work.true

pub returns-then-session_fits : goal.returns-then-session_fits
returns-then-session_fits c = by_1 c.args.s c.args.table c.args.room (sym c.session_fits.ensures ∙ c.if-session_fits.true) c.lengths_of-l.ensures c.buffers_fit-buffers.ensures c.work_fits-work.ensures c.if-buffers-work.false

pub returns : goal.returns
returns c = by_8 c.args.s c.args.table c.args.room (sym c.session_fits.ensures ∙ c.if-session_fits.false)
