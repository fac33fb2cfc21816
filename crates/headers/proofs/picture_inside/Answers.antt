-- `headers::picture_inside` meets its contract. Assumes nothing.
use borrow.Author.Tests.{lt-leb, le-leb}
use mathlib.Core.Path.{sym}
use Rattle.headers.specs.Fits.{picture_inside}
use Rattle.headers.proofs.picture_inside.Goals as goal

pub returns-then-frame-size : goal.returns-then-frame-size
unfolding picture_inside
returns-then-frame-size c = sym (rw (lt-leb _ _ c.if-frame-size.true))

pub returns : goal.returns
unfolding picture_inside
returns c = sym (rw (le-leb _ _ c.if-frame-size.false))
