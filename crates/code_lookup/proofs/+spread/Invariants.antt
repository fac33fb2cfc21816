-- The cycle of calls {spread}: the measure is how many bits are left. Assumes nothing.
use Rattle.code_lookup.proofs.+spread.Given as goal

abbrev pub decreases-spread : goal.decreases-spread
decreases-spread l = l.left
