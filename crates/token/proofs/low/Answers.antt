-- `token::low` meets its contract. Assumes nothing.
use borrow.Author.Rules.{rules}
use Rattle.token.proofs.Facts.{shl_pos, low_is}
use Rattle.token.proofs.low.Goals as goal

pub returns : goal.returns
returns c = low_is c.args.x c.args.n c.requires
