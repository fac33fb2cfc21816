-- `y4m::header::put_two` meets its contract. Assumes nothing.
use native.Mathlib.Omega.{arith}
use Rattle.text.proofs.Decimals.{decimal_length}
use Rattle.y4m.proofs.HeaderLaws.{two_written}
use Rattle.bitstream.proofs.Clauses.{two}
use Rattle.y4m.proofs.header.put_two.Goals as goal

pub put-third-requires : goal.put-third-requires
put-third-requires c = let d = decimal_length c.args.a in
    omega arith

pub put_decimal-requires : goal.put_decimal-requires
put_decimal-requires c = let d = decimal_length c.args.a in
    (c.requires.1, omega arith)

pub returns : goal.returns
returns c = two (λ a b. record { value = a; out_after = b }) (two_written c.args.before.now c.args.between.now c.args.a c.args.b c.args.at c.args.out.now c.requires.4 c.requires.2 c.requires.3 _ _ _ _ _ _ _ _
    c.put-first.ensures.value c.put-first.ensures.out_after c.put_decimal-second.ensures.value c.put_decimal-second.ensures.out_after c.put-third.ensures.value c.put-third.ensures.out_after c.put_decimal.ensures.value c.put_decimal.ensures.out_after)
