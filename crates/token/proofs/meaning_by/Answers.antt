-- `token::meaning_by` meets its contract. Assumes nothing.
use borrow.Author.Rules.{rules}
use mathlib.Core.Path.{◌∙◌}
use Rattle.token.proofs.Rows.{row_unpacked, extra_small}
use Rattle.token.proofs.meaning_by.Goals as goal

pub meaning_of-requires : goal.meaning_of-requires
meaning_of-requires c = let e = c.unpacked.ensures ∙ row_unpacked c.args.t c.args.row c.requires.0 in
    (e, rw e (extra_small c.args.t), c.requires.1)
