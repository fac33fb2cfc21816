-- `stream_check::compare_frame` meets its contract. Assumes nothing.
use Prim.Native.Nat.{ℕ}
use mathlib.Core.Path.{ap, ◌∙◌}
use mathlib.Core.List.{List}
use Rattle.frame_marks.specs.Marks.{frame_line}
use Rattle.y4m.specs.Stream.{frame_rows}
use Rattle.stream_check.specs.declared.Compared.{Compared}
use Rattle.stream_check.specs.Compared.{onward}
use Rattle.stream_check.proofs.Onward.{onward_parts}
use Rattle.stream_check.proofs.Planes.{frame_sized, frame_small, frame_parts}
use Rattle.stream_check.proofs.compare_frame.Goals as goal

pub compare_planes-requires : goal.compare_planes-requires
compare_planes-requires c = let s = frame_small c.args.s c.requires.0 in (s.0, s.1, frame_sized c.args.s _ c.pixel_format-format.ensures c.args.planes.now c.requires.1, c.compare-marked.ensures.1)

pub returns : goal.returns
returns c = let rows = frame_rows c.pixel_format-format.result c.args.s.fields.fmbw c.args.s.fields.fmbh c.args.planes.now in (
  c.compare_planes.ensures.0 ∙ ap (λ (d : Compared). onward d rows c.args.file.now) c.compare-marked.ensures.0 ∙ onward_parts c.args.c frame_line rows c.args.file.now
      ∙ ap (λ (t : List ℕ). onward c.args.c t c.args.file.now) (frame_parts c.args.s c.pixel_format-format.result c.pixel_format-format.ensures c.args.planes.now),
  c.compare_planes.ensures.1,
)
