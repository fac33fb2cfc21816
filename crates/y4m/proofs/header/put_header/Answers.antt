-- `y4m::header::put_header` meets its contract. Assumes nothing.
use native.Mathlib.Omega.{arith}
use Rattle.y4m.proofs.Fitting.{fit}
use Rattle.y4m.proofs.HeaderLaws.{size_length, rate_length, aspect_length, header_written}
use Rattle.bitstream.proofs.Clauses.{two}
use Rattle.y4m.proofs.header.put_header.Goals as goal

pub put_two-rate-requires : goal.put_two-rate-requires
put_two-rate-requires c = let f = fit c.args.n c.requires.0 in
    (omega (arith, f.width.most, f.width.is), omega (arith, f.height.most, f.height.is), omega arith, omega arith, omega (arith, c.requires.1))

pub put_two-ratio-requires : goal.put_two-ratio-requires
put_two-ratio-requires c = let f = fit c.args.n c.requires.0 in
    let a = size_length c.args.n in
    (omega (arith, f.frn.most), omega (arith, f.frd.most), omega arith, omega arith, omega (arith, c.requires.1))

pub put_two-format-requires : goal.put_two-format-requires
put_two-format-requires c = let f = fit c.args.n c.requires.0 in
    let a = size_length c.args.n in
    let b = rate_length c.args.n in
    (omega (arith, f.aspect_small.0), omega (arith, f.aspect_small.1), omega arith, omega arith, omega (arith, c.requires.1))

pub put_format-requires : goal.put_format-requires
put_format-requires c = let a = size_length c.args.n in
    let b = rate_length c.args.n in
    let d = aspect_length c.args.n in
    omega (arith, c.requires.1)

pub returns : goal.returns
returns c = two (λ a b. record { value = a; out_after = b }) (header_written c.args.n c.args.out.now c.requires.1 _ _ _ _ _ _ _ _
    c.put_two-rate.ensures.value c.put_two-rate.ensures.out_after c.put_two-ratio.ensures.value c.put_two-ratio.ensures.out_after c.put_two-format.ensures.value c.put_two-format.ensures.out_after c.put_format.ensures.value c.put_format.ensures.out_after)
