-- `motion_reader::mean_4` meets its contract. Assumes nothing.
use mathlib.Core.Path.{ap, ◌∙◌}
use mir.Syntax.{w32}
use lib.IntN.{◌+ℤ◌}
use Rattle.numeric.proofs.Magnitude.{size}
use Rattle.numeric.proofs.Known.{Known, k_of, k_add, back}
use Rattle.numeric.specs.Divide.{round_over}
use Rattle.motion_reader.proofs.mean_4.Goals as goal

pub returns : goal.returns
returns c =
    let a : Known w32 c.args.a 31 =
    k_of c.ranges.a (size c.requires.0) in
    let b : Known w32 c.args.b 31 =
    k_of c.ranges.b (size c.requires.1) in
    let c' : Known w32 c.args.c 31 =
    k_of c.ranges.c (size c.requires.2) in
    let d : Known w32 c.args.d 31 =
    k_of c.ranges.d (size c.requires.3) in
    let lower : Known w32 (c.args.a +ℤ c.args.b) 62 =
    k_add a b tt in
    let upper : Known w32 (c.args.c +ℤ c.args.d) 62 =
    k_add c' d tt in
    let sum : Known w32 ((c.args.a +ℤ c.args.b) +ℤ (c.args.c +ℤ c.args.d)) 124 =
    k_add lower upper tt in
    back w32 c.round_over_4.result c.round_over_4.type_inv ∙ c.round_over_4.ensures.0 ∙ ap (round_over 4) (sum).reads
