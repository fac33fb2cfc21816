-- `memory_clearing::clear_kept` meets its contract. Behind the front that is cleared there is nothing but zeros. Assumes nothing.
use Prim.Native.Nat.{◌*◌}
use lib.IntN.{pos}
use Rattle.memory_clearing.proofs.Clearing.{clear_whole, clear_front}
use borrow.Author.Rules.{rules}
use Rattle.memory_clearing.proofs.clear_kept.Goals as goal

pub returns : goal.returns
returns c = (
  clear_whole 0 c.args.records.now _ c.clear_words.ensures,
  clear_front 0 c.args.count c.args.coded.now _ c.requires.0 c.requires.1 c.clear_longs.ensures,
  clear_front (pos 0) (64 * c.args.count) c.args.coefs.now _ c.requires.2 c.requires.3 c.clear_shorts.ensures,
  clear_front 0 c.args.count c.args.lasts.now _ c.requires.4 c.requires.5 c.clear_bytes.ensures,
  clear_whole 0 c.args.modes.now _ c.clear_bytes-2.ensures,
)
