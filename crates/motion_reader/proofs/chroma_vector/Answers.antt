-- `motion_reader::chroma_vector` meets its contract. Assumes nothing.
use mathlib.Core.Path.{sym, ap, ◌∙◌}
use Rattle.geometry.specs.declared.PixelFormat.{PixelFormat}
use Rattle.motion_reader.specs.Motion.{chroma_vector}
use Rattle.motion_reader.proofs.Motions.{row_lower, row_upper}
use Rattle.motion_reader.proofs.chroma_vector.Goals as goal

pub returns-then-k-eq0 : goal.returns-then-k-eq0
returns-then-k-eq0 c = c.mean_of_two.ensures ∙ row_lower c.args.l c.args.u c.args.k c.if-k-eq0.true ∙ sym (ap (λ (f : PixelFormat). chroma_vector f c.args.l c.args.u c.args.k) c.in-Chroma422.is)

pub returns-in-Chroma420 : goal.returns-in-Chroma420
unfolding chroma_vector
returns-in-Chroma420 c = c.mean_of_four.ensures ∙ sym (ap (λ (f : PixelFormat). chroma_vector f c.args.l c.args.u c.args.k) c.in-Chroma420.is)

pub returns-else-k-eq0 : goal.returns-else-k-eq0
returns-else-k-eq0 c = c.mean_of_two-in-Chroma422.ensures ∙ row_upper c.args.l c.args.u c.args.k c.if-k-eq0.false ∙ sym (ap (λ (f : PixelFormat). chroma_vector f c.args.l c.args.u c.args.k) c.in-Chroma422.is)

pub returns-in-Chroma444 : goal.returns-in-Chroma444
unfolding chroma_vector
returns-in-Chroma444 c = c.luma_vector.ensures ∙ sym (ap (λ (f : PixelFormat). chroma_vector f c.args.l c.args.u c.args.k) c.in-Chroma444.is)
