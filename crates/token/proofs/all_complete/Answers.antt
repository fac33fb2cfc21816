-- `token::all_complete` meets its contract: the code's table is the definition's. Assumes nothing.
use mathlib.Core.Path.{refl}
use Rattle.bitstream.specs.Lists.{tabulated}
use Rattle.token.specs.Token.{row_of}
use Rattle.token.specs.Answer.{token_complete}
use Rattle.token.proofs.all_complete.Goals as goal

pub returns : goal.returns
unfolding row_of tabulated token_complete
returns c = refl
