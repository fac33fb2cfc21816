-- `matrix_values::scale_value` meets its contract. Assumes nothing.
use Rattle.matrix_values.proofs.Values.{scaled_high, scaled_low, scaled_middle}
use Rattle.matrix_values.proofs.scale_value.Goals as goal

pub returns-then-quarter-ge25600 : goal.returns-then-quarter-ge25600
returns-then-quarter-ge25600 c = scaled_high c.args.low c.args.scale c.args.value c.requires c.if-quarter-ge25600.true

pub returns-then-whole-low : goal.returns-then-whole-low
returns-then-whole-low c = scaled_low c.args.low c.args.scale c.args.value c.requires c.if-quarter-ge25600.false c.if-whole-low.true

pub returns : goal.returns
returns c = scaled_middle c.args.low c.args.scale c.args.value c.requires c.if-quarter-ge25600.false c.if-whole-low.false
