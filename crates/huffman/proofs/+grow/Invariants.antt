-- The cycle of calls {grow}: the measure is the depth that is left. Assumes nothing.
use Rattle.huffman.proofs.+grow.Given as goal

abbrev pub decreases-grow : goal.decreases-grow
decreases-grow l = l.depth
