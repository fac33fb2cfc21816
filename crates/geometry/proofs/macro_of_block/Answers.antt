-- `geometry::macro_of_block` meets its contract. Assumes nothing.
use mathlib.Core.Path.{sym, ap, ◌∙◌}
use Rattle.geometry.specs.declared.PixelFormat.{PixelFormat}
use Rattle.geometry.specs.Macro.{macro_of, macro_of_chroma}
use Rattle.geometry.proofs.MacroLaws.{macro_in_luma, macro_in_chroma}
use Rattle.geometry.proofs.macro_of_block.Goals as goal

pub returns-then-plane-eq0 : goal.returns-then-plane-eq0
unfolding macro_of
returns-then-plane-eq0 c = macro_in_luma c.args.format c.args.b.plane c.args.b.x c.args.b.y c.if-plane-eq0.true

pub returns-in-Chroma420 : goal.returns-in-Chroma420
unfolding macro_of
returns-in-Chroma420 c = ap (λ (f : PixelFormat). macro_of_chroma f c.args.b.x c.args.b.y) (sym c.in-Chroma420.is)
    ∙ macro_in_chroma c.args.format c.args.b.plane c.args.b.x c.args.b.y c.if-plane-eq0.false

pub returns-in-Chroma422 : goal.returns-in-Chroma422
unfolding macro_of
returns-in-Chroma422 c = ap (λ (f : PixelFormat). macro_of_chroma f c.args.b.x c.args.b.y) (sym c.in-Chroma422.is)
    ∙ macro_in_chroma c.args.format c.args.b.plane c.args.b.x c.args.b.y c.if-plane-eq0.false

pub returns-in-Chroma444 : goal.returns-in-Chroma444
unfolding macro_of
returns-in-Chroma444 c = ap (λ (f : PixelFormat). macro_of_chroma f c.args.b.x c.args.b.y) (sym c.in-Chroma444.is)
    ∙ macro_in_chroma c.args.format c.args.b.plane c.args.b.x c.args.b.y c.if-plane-eq0.false
