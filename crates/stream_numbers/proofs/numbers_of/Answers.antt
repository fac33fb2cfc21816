-- `stream_numbers::numbers_of` meets its contract. Assumes nothing.
use Prim.Native.Nat.{◌*◌}
use native.Mathlib.Omega.{arith}
use Rattle.headers.proofs.Fitting.{fits_macro_blocks}
use Rattle.stream_numbers.specs.Numbers.{numbers_of}
use Rattle.stream_numbers.proofs.numbers_of.Goals as goal

pub overflow_mul-result : goal.overflow_mul-result
overflow_mul-result c = let b = fits_macro_blocks c.args.s c.requires in record { fits = omega arith }

pub overflow_mul-result-2 : goal.overflow_mul-result-2
overflow_mul-result-2 c = let b = fits_macro_blocks c.args.s c.requires in record { fits = omega arith }

pub returns : goal.returns
unfolding numbers_of
returns c = λ i. record { width = 16 * c.args.s.fields.fmbw; height = 16 * c.args.s.fields.fmbh; frn = c.args.s.fields.frn; frd = c.args.s.fields.frd; parn = c.aspect-parn.ensures i; pard = c.aspect-pard.ensures i; pf = c.args.s.fields.pf }
