-- `calls::work_fits` meets its contract. Assumes nothing.
use Rattle.headers.proofs.Fitting.{chain_all}
use Rattle.calls.specs.Room.{room_for_work}
use Rattle.calls.proofs.work_fits.Goals as goal

pub returns : goal.returns
unfolding room_for_work
returns c = chain_all _ _
