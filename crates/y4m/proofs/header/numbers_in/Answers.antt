-- `y4m::header::numbers_in` meets its contract. Assumes nothing.
use Rattle.y4m.proofs.HeaderLaws.{numbers_found}
use Rattle.y4m.proofs.header.numbers_in.Goals as goal

pub returns : goal.returns
returns c = numbers_found c.args.stream.now _ _ _ _ _ _ _ _ _ _ _ _ _ _ c.scan-w.ensures c.scan-h.ensures c.scan-frn.ensures c.scan-frd.ensures c.scan-parn.ensures c.scan-pard.ensures
    c.byte_or_zero.ensures c.format_in-pf.ensures
