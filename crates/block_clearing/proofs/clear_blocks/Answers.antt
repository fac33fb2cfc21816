-- `block_clearing::clear_blocks` meets its contract.
-- Assumes nothing.
use mathlib.Core.Path.{◌∙◌}
use Prim.Native.Nat.{◌*◌}
use lib.IntN.{pos}
use Rattle.buffer.proofs.Laws.{cleared_all, cleared_front}
use Rattle.block_clearing.proofs.clear_blocks.Goals as goal

pub returns : goal.returns
returns c = (
  c.clear_words.ensures ∙ cleared_all 0 c.args.records.now,
  c.clear_longs.ensures ∙ cleared_front 0 c.args.count c.args.coded.now c.requires.0 c.requires.1,
  c.clear_shorts.ensures ∙ cleared_front (pos 0) (c.args.count * 64) c.args.coefs.now c.requires.2 c.requires.3,
  c.clear_shorts-2.ensures ∙ cleared_all (pos 0) c.args.dc.now,
  c.clear_bytes.ensures ∙ cleared_front 0 c.args.count c.args.lasts.now c.requires.4 c.requires.5,
)
