-- `work_memory::clear_memory` meets its contract. Assumes nothing.
use mathlib.Core.Path.{◌∙◌}
use lib.IntN.{pos}
use Rattle.buffer.proofs.Laws.{cleared_all}
use Rattle.work_memory.proofs.Clearing.{fit_cleared}
use Rattle.work_memory.proofs.clear_memory.Goals as goal

pub returns : goal.returns
returns c l fit = let d = c.clear_shorts.ensures ∙ cleared_all (pos 0) c.args.dc.now in
    let m = c.clear_bytes.ensures ∙ cleared_all 0 c.args.modes.now in
    fit_cleared l _ fit c.clear_read.ensures.0 c.clear_read.ensures.1 c.clear_read.ensures.2 d c.clear_read.ensures.3 c.clear_scratch.ensures.0 c.clear_scratch.ensures.1 c.clear_scratch.ensures.2 m c.clear_scratch.ensures.3
