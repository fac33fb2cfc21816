-- `y4m::header::format_in` meets its contract. Assumes nothing.
use Rattle.y4m.proofs.HeaderLaws.{format_letter_0, format_letter_2, format_letter_3}
use Rattle.y4m.proofs.header.format_in.Goals as goal

pub returns-then-letter-eq48 : goal.returns-then-letter-eq48
returns-then-letter-eq48 c = format_letter_0 c.args.letter c.if-letter-eq48.true

pub returns-then-letter-eq50 : goal.returns-then-letter-eq50
returns-then-letter-eq50 c = format_letter_2 c.args.letter c.if-letter-eq48.false c.if-letter-eq50.true

pub returns : goal.returns
returns c = format_letter_3 c.args.letter c.if-letter-eq48.false c.if-letter-eq50.false
