-- `settings::put_first_lines` meets its contract. Assumes nothing.
use native.Mathlib.Omega.{arith}
use Rattle.settings.specs.Settings.{version_key, tile_key, first_key}
use Rattle.settings.proofs.Lines.{fit, line_short, first_written}
use Rattle.bitstream.proofs.Clauses.{two}
use Rattle.settings.proofs.put_first_lines.Goals as goal

pub put_line-first-requires : goal.put_line-first-requires
put_line-first-requires c = let f = fit c.args.s c.requires.1 in
    let a = line_short version_key c.args.version (omega arith) in
    (omega (arith, f.tile), omega arith, omega (arith, c.requires.2))

pub put_line-last-requires : goal.put_line-last-requires
put_line-last-requires c = let f = fit c.args.s c.requires.1 in
    let a = line_short version_key c.args.version (omega arith) in
    let b = line_short tile_key c.args.s.tile (omega arith) in
    (omega (arith, f.first, f.last), omega arith, omega (arith, c.requires.2))

pub put_line-requires : goal.put_line-requires
put_line-requires c = let f = fit c.args.s c.requires.1 in
    let a = line_short version_key c.args.version (omega arith) in
    let b = line_short tile_key c.args.s.tile (omega arith) in
    let d = line_short first_key c.args.s.shot_first (omega arith) in
    (omega (arith, f.last), omega arith, omega (arith, c.requires.2))

pub returns : goal.returns
returns c = two (λ a b. record { value = a; out_after = b }) (first_written c.args.version c.args.s c.args.out.now c.requires.2 _ _ _ _ _ _ _ _
    c.put_line-tile.ensures.value c.put_line-tile.ensures.out_after c.put_line-first.ensures.value c.put_line-first.ensures.out_after c.put_line-last.ensures.value c.put_line-last.ensures.out_after c.put_line.ensures.value c.put_line.ensures.out_after)
