-- `zig_zag::place_values` meets its contract. Assumes nothing.
use mathlib.Core.Path.{refl, ◌∙◌}
use native.Mathlib.Omega.{arith}
use Rattle.zig_zag.specs.Values.{zig_zag}
use Rattle.zig_zag.proofs.Placed.{all_turned}
use Rattle.zig_zag.proofs.place_values.Goals as goal

pub place-requires : goal.place-requires
unfolding zig_zag
place-requires c = (c.requires.0, c.requires.1, c.requires.2, omega arith, (omega arith, refl))

pub place-requires-2 : goal.place-requires-2
unfolding zig_zag
place-requires-2 c = (c.requires.0, c.requires.1, c.place.auto.out ∙ c.requires.2, omega arith, (omega arith, refl))

pub place-requires-3 : goal.place-requires-3
unfolding zig_zag
place-requires-3 c = (c.requires.0, c.requires.1, c.place-2.auto.out ∙ c.place.auto.out ∙ c.requires.2, omega arith, (omega arith, refl))

pub place_four-requires : goal.place_four-requires
unfolding zig_zag
place_four-requires c = (c.requires.0, c.requires.1, c.place-3.auto.out ∙ c.place-2.auto.out ∙ c.place.auto.out ∙ c.requires.2, omega arith, ((omega arith, refl), (omega arith, refl), (omega arith, refl), (omega arith, refl)))

pub returns-else-n-gt8 : goal.returns-else-n-gt8
returns-else-n-gt8 c dc q z e = all_turned c.args.coefs.now c.args.at dc q c.args.matrix.now _ 8 c.args.n (omega arith) (omega arith) z
    (c.place_four.ensures dc q 8 refl (c.place-3.ensures dc q 4 refl (c.place-2.ensures dc q 3 refl (c.place.ensures dc q 2 refl e))))
