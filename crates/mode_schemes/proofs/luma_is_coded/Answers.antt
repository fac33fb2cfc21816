-- `mode_schemes::luma_is_coded` meets its contract. Assumes nothing.
use native.Mathlib.Omega.{arith}
use mathlib.Core.Path.{sym}
use Rattle.mode_schemes.proofs.Facts.{coded_by, coded_last}
use Rattle.mode_schemes.proofs.luma_is_coded.Goals as goal

pub returns-then-flags-first-gt0 : goal.returns-then-flags-first-gt0
returns-then-flags-first-gt0 c = sym (coded_by c.args.flags.now c.args.m (omega arith))

pub returns-then-flags-first-gt0-2 : goal.returns-then-flags-first-gt0-2
returns-then-flags-first-gt0-2 c = sym (coded_by c.args.flags.now c.args.m (omega arith))

pub returns-then-flags-first-gt0-3 : goal.returns-then-flags-first-gt0-3
returns-then-flags-first-gt0-3 c = sym (coded_by c.args.flags.now c.args.m (omega arith))

pub returns : goal.returns
returns c = coded_last c.args.flags.now c.args.m (omega arith)
