-- `counting::count_frame` meets its contract. Assumes nothing.
use mathlib.Core.Path.{ap, ◌∙◌}
use Rattle.counting.specs.Counts.{block_counts}
use Rattle.counting.proofs.Laws.{intra_counts, inter_counts, repeat_counts}
use Rattle.counting.proofs.count_frame.Goals as goal

pub returns-in-Intra : goal.returns-in-Intra
returns-in-Intra c = c.count_blocks.ensures ∙ intra_counts c.args.format c.args.w c.args.h c.args.coded.now c.args.modes.now c.args.kind c.in-Intra.is

pub returns-in-Inter : goal.returns-in-Inter
returns-in-Inter c = c.count_blocks-in-Inter.ensures ∙ ap (block_counts c.args.format c.args.w c.args.h c.args.coded.now) c.count_modes-counts.ensures ∙ inter_counts c.args.format c.args.w c.args.h c.args.coded.now c.args.modes.now c.args.kind c.in-Inter.is

pub returns-in-Repeat : goal.returns-in-Repeat
returns-in-Repeat c = c.no_counts.ensures ∙ repeat_counts c.args.format c.args.w c.args.h c.args.coded.now c.args.modes.now c.args.kind c.in-Repeat.is
