-- `geometry::squares::block_rank` meets its contract. Assumes nothing.
use native.Mathlib.Omega.{arith}
use Rattle.geometry.specs.Order.{block_walk}
use Rattle.geometry.proofs.Tables.{block_rank}
use Rattle.geometry.proofs.TableLaws.{ranks, block_ranks}
use Rattle.geometry.proofs.squares.block_rank.Goals as goal

pub returns : goal.returns
unfolding block_rank
returns c = (ranks 4 block_walk block_rank block_ranks c.args.u c.args.v c.args.x c.args.y c.requires.0 c.requires.1 c.requires.2 c.requires.3, omega arith)
