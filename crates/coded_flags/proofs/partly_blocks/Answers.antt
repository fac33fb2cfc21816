use Prim.Native.Nat.{ℕ}
use native.Mathlib.Omega.{arith}
use mathlib.Core.Path.{◌≡◌, ap, ◌∙◌}
use lib.ListN.{get_or}
use Rattle.bitstream.specs.Reading.{choose}
use Rattle.geometry.specs.Sizes.{super_blocks_of}
use Rattle.geometry.proofs.SizeLaws.{sizes_small}
use lib.Dec.{eqb}
use Rattle.coded_flags.proofs.Spread.{blocks_step, blocks_done}
use Rattle.coded_flags.proofs.partly_blocks.Goals as goal

pub overflow_add-n : goal.overflow_add-n
overflow_add-n c = omega (arith, (sizes_small c.args.format c.args.w c.args.h c.requires.0 c.requires.1).super_blocks)

pub loop-k-preserved : goal.loop-k-preserved
loop-k-preserved c = let s =
    blocks_step c.args.format c.args.w c.args.h (super_blocks_of c.args.format c.args.w c.args.h) c.loop-k.k c.args.partly.now
    c.requires.2 (omega arith) in
    let e : c.count_if-n.result ≡ choose (eqb (get_or c.args.partly.now c.loop-k.k 0) 1) _ 0 =
    c.count_if-n.ensures.0 ∙ ap (λ (n : ℕ). choose (eqb (get_or c.args.partly.now c.loop-k.k 0) 1) n 0) c.super_block-s.ensures.1 in
    (omega arith, omega arith, omega arith)

pub returns : goal.returns
returns c = omega (arith, blocks_done c.args.format c.args.w c.args.h (super_blocks_of c.args.format c.args.w c.args.h) c.loop-k.k c.args.partly.now c.requires.2 (omega arith))
