-- `settings::put_line` meets its contract. Assumes nothing.
use native.Mathlib.Omega.{arith}
use Rattle.text.proofs.Decimals.{decimal_length}
use Rattle.settings.proofs.Lines.{line_written}
use Rattle.bitstream.proofs.Clauses.{two}
use Rattle.settings.proofs.put_line.Goals as goal

pub put-requires : goal.put-requires
put-requires c = let d = decimal_length c.args.n in
    omega arith

pub returns : goal.returns
returns c = two (λ a b. record { value = a; out_after = b }) (line_written c.args.key.now c.args.n c.args.at c.args.out.now c.requires.1 c.requires.2 _ _ _ _ _ _
    c.put-value.ensures.value c.put-value.ensures.out_after c.put_decimal-end.ensures.value c.put_decimal-end.ensures.out_after c.put.ensures.value c.put.ensures.out_after)
