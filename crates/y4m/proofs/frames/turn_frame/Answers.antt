-- `y4m::frames::turn_frame` meets its contract. Assumes nothing.
use mathlib.Core.Path.{◌∙◌}
use Rattle.y4m.proofs.Fitting.{fit}
use Rattle.y4m.proofs.FrameLaws.{bytes_by}
use Rattle.y4m.proofs.frames.turn_frame.Goals as goal

pub turn_planes-requires : goal.turn_planes-requires
turn_planes-requires c = let f = fit c.args.n c.requires.0 in
    let e = bytes_by c.args.n c.pixel_format-format.result c.pixel_format-format.ensures in
    (f.width.most, f.height.most, c.requires.1 ∙ e, c.requires.2 ∙ e)
