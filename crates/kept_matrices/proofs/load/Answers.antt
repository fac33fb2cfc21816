-- `kept_matrices::load` meets its contract. Assumes nothing.
use Rattle.kept_matrices.proofs.Kept.{all_are}
use Rattle.kept_matrices.proofs.load.Goals as goal

pub returns : goal.returns
returns c = let m = all_are c.args.table.now c.args.parameters c.args.qis c.args.count c.all_matrices.new.out c.all_matrices.ensures in
    record { keeps = record { long = c.values-2-1.given; own = m }; asked = m }
