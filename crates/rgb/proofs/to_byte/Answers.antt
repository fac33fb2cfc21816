-- `rgb::to_byte` meets its contract. Assumes nothing.
use mathlib.Core.Path.{ap, ◌∙◌}
use Rattle.numeric.specs.Clamp.{clamp255}
use Rattle.numeric.proofs.Known.{k_any, k_shr}
use Rattle.rgb.specs.Pixel.{to_byte}
use Rattle.rgb.proofs.to_byte.Goals as goal

pub returns : goal.returns
unfolding to_byte
returns c = c.clamp_to_byte.ensures ∙ ap clamp255 (k_shr 16 32768 (k_any c.ranges.sum) tt tt tt).reads
