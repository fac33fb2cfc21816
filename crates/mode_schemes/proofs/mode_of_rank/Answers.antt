-- `mode_schemes::mode_of_rank` meets its contract. Assumes nothing.
use mathlib.Core.Path.{◌∙◌}
use Rattle.mode_schemes.proofs.Facts.{digit_by, of_rank_sent, of_rank_listed}
use Rattle.mode_schemes.proofs.mode_of_rank.Goals as goal

pub returns-then-scheme-eq0 : goal.returns-then-scheme-eq0
returns-then-scheme-eq0 c = of_rank_sent c.args.scheme c.args.alphabet.now c.args.r c.if-scheme-eq0.true

pub returns : goal.returns
returns c = digit_by c.args.scheme c.args.r c.requires.1 ∙ of_rank_listed c.args.scheme c.args.alphabet.now c.args.r c.if-scheme-eq0.false
