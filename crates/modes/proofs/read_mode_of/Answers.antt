-- `modes::read_mode_of` meets its contract. Assumes nothing.
use mathlib.Core.Path.{sym, ap, ◌∙◌}
use Rattle.modes.specs.Modes.{as_mode}
use Rattle.modes.proofs.Facts.{mode_read, mode_none}
use Rattle.modes.proofs.read_mode_of.Goals as goal

pub returns-then-luma_is_coded : goal.returns-then-luma_is_coded
returns-then-luma_is_coded c = c.read_mode.ensures ∙ sym (ap as_mode (mode_read c.args.scheme c.args.alphabet.now c.args.flags.now c.args.m c.args.packet.now c.args.at (sym c.luma_is_coded.ensures ∙ c.if-luma_is_coded.true)))

pub returns : goal.returns
returns c = sym (ap as_mode (mode_none c.args.scheme c.args.alphabet.now c.args.flags.now c.args.m c.args.packet.now c.args.at (sym c.luma_is_coded.ensures ∙ c.if-luma_is_coded.false)))
