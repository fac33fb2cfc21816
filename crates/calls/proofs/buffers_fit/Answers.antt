-- `calls::buffers_fit` meets its contract. Assumes nothing.
use native.Mathlib.Omega.{arith}
use Rattle.headers.proofs.Fitting.{chain_all}
use Rattle.calls.specs.Room.{room_for_frames}
use Rattle.calls.proofs.buffers_fit.Goals as goal

pub returns : goal.returns
unfolding room_for_frames
returns c = chain_all _ _
