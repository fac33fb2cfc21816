-- `geometry::block_of_macro` meets its contract. Assumes nothing.
use Rattle.geometry.proofs.MacroLaws.{luma_at, chroma_420, chroma_422, chroma_444}
use mathlib.Core.Path.{◌∙◌}
use Rattle.geometry.proofs.block_of_macro.Goals as goal

pub returns-then-k-lt4 : goal.returns-then-k-lt4
returns-then-k-lt4 c = c.one_of_four.ensures ∙ luma_at c.args.format c.args.x c.args.y c.args.k c.if-k-lt4.true

pub returns-in-Chroma420 : goal.returns-in-Chroma420
returns-in-Chroma420 c = chroma_420 c.args.format c.args.x c.args.y c.args.k c.if-k-lt4.false c.requires.2 c.in-Chroma420.is

pub returns-in-Chroma422 : goal.returns-in-Chroma422
returns-in-Chroma422 c = chroma_422 c.args.format c.args.x c.args.y c.args.k c.if-k-lt4.false c.requires.2 c.in-Chroma422.is

pub returns-in-Chroma444 : goal.returns-in-Chroma444
returns-in-Chroma444 c = c.one_of_four-in-Chroma444.ensures
    ∙ chroma_444 c.args.format c.args.x c.args.y c.args.k c.if-k-lt4.false c.requires.2 c.in-Chroma444.is
