-- `opening::open` meets its contract. Assumes nothing.
use mathlib.Core.Path.{ap}
use Rattle.setup.specs.declared.SetupRead.{SetupRead}
use Rattle.opening.specs.Call.{shot_call}
use Rattle.opening.proofs.Tests.{shot_lent, number_is}
use Rattle.opening.proofs.open.Goals as goal

pub returns : goal.returns
returns c = record {
  number_value = λ m x y z w e l.
      number_is (shot_call c.args.s c.args.names c.args.lengths.now c.args.packets.now c.args.table.now m x y z w) (shot_lent c.args.s c.args.names c.args.lengths.now c.args.packets.now c.args.table.now m x y z w e l c.lent_number-lent.ensures)
      c.load_table-held.ensures c.lengths_reach-reach.ensures c.number_of-number.ensures;
  setup_value = ap (λ (r : SetupRead). r.setup) c.load_table-held.ensures;
}
