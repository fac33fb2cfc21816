-- `loop_filter::filter_frame` meets its contract. The loop's invariant: p of the planes are filtered. Assumes nothing.
use Rattle.std.proofs.Common.{◌≡◌}
use Rattle.ways.specs.Loops.{up_to}
use Rattle.loop_filter.proofs.Frame.{steps}
use Rattle.loop_filter.proofs.filter_frame.Given as goal

abbrev pub invariant-loop-p : goal.invariant-loop-p
invariant-loop-p l = l.new ≡ up_to l.p (steps l.format l.w l.h l.records l.limit) l.initial.new
