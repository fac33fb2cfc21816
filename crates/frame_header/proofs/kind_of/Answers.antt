-- `frame_header::kind_of` meets its contract. Assumes nothing.
use Rattle.frame_header.proofs.Facts.{kind_intra, kind_inter}
use Rattle.frame_header.proofs.kind_of.Goals as goal

pub returns-then-kind-eq0 : goal.returns-then-kind-eq0
returns-then-kind-eq0 c = kind_intra _ c.if-kind-eq0.true

pub returns : goal.returns
returns c = kind_inter _ c.if-kind-eq0.false
