-- `setup_trees::load_two` meets its contract. Assumes nothing.
use Rattle.setup_trees.proofs.Loop.{pair_laid}
use Rattle.bitstream.proofs.Clauses.{two}
use Rattle.setup_trees.proofs.load_two.Goals as goal

pub returns-then-load_pair : goal.returns-then-load_pair
returns-then-load_pair c = two (λ a b. record { value = a; trees_filled = b }) (pair_laid c.args.packet.now c.args.at c.load_pair.new.nodes (c.load_pair.ensures c.if-load_pair.true))
