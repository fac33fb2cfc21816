-- `tokens::keep_active` meets its contract. Assumes nothing.
use Rattle.tokens.proofs.Unfinished.{behind_front, both_kept}
use Rattle.tokens.proofs.keep_active.Goals as goal

pub keep_unfinished-right-requires : goal.keep_unfinished-right-requires
keep_unfinished-right-requires c = let e = behind_front c.args.positions.now c.args.active.now c.keep_unfinished-left.new.blocks c.args.luma c.args.lumas c.args.end c.keep_unfinished-left.auto.blocks c.requires.lumas_le_luma.0 c.requires.lumas_le_luma.1 c.requires.lumas_le_luma.2 in
    rw e c.requires.below.1

pub returns : goal.returns
returns c = both_kept c.args.positions.now c.args.active.now c.keep_unfinished-left.new.blocks c.args.luma c.args.lumas c.args.end c.keep_unfinished-left.auto.blocks c.requires.lumas_le_luma.0 c.requires.lumas_le_luma.1 c.requires.lumas_le_luma.2 c.keep_unfinished-right.new.blocks c.keep_unfinished-left.result c.keep_unfinished-right.result c.keep_unfinished-right.auto.blocks
    c.keep_unfinished-left.ensures.1 c.keep_unfinished-right.ensures.1 c.keep_unfinished-left.ensures.0 c.keep_unfinished-right.ensures.0
