use Prim.Native.Nat.{◌<◌}
use native.Mathlib.Omega.{arith}
use mathlib.Core.Path.{refl, ◌∙◌}
use Rattle.geometry.specs.Sizes.{super_blocks_of}
use Rattle.coded_flags.proofs.Spread.{spreading_start, spreading_done, bits_enough, full_enough, spreading_by}
use Rattle.coded_flags.proofs.spread_flags.Goals as goal

pub loop-k-init : goal.loop-k-init
loop-k-init c = (refl, spreading_start c.args.format c.args.w c.args.h c.args.partly.now c.args.full.now c.args.bits.now c.requires.2 c.args.flags.now c.requires.3 c.requires.4)

pub flag_blocks-taken-requires : goal.flag_blocks-taken-requires
flag_blocks-taken-requires c = let r : c.loop-k.k < super_blocks_of c.args.format c.args.w c.args.h = omega (arith, c.loop-k-test.true, c.requires.2) in (
  omega (arith, c.super_block-s.ensures.3, c.loop-k.invariant.0, c.requires.5),
  λ e. omega (arith, c.super_block-s.ensures.1, bits_enough c.args.format c.args.w c.args.h c.args.partly.now c.args.full.now c.args.bits.now c.requires.2 c.loop-k.flags c.loop-k.k c.loop-k.taken c.loop-k.invariant.1 r e),
  full_enough c.args.format c.args.w c.args.h c.args.partly.now c.args.full.now c.args.bits.now c.requires.2 c.loop-k.flags c.loop-k.k c.loop-k.taken c.loop-k.invariant.1 r,
)

pub loop-k-preserved : goal.loop-k-preserved
loop-k-preserved c = (
  c.flag_blocks-taken.auto.flags ∙ c.loop-k.invariant.0,
  spreading_by c.args.format c.args.w c.args.h c.args.partly.now c.args.full.now c.args.bits.now c.requires.2 c.loop-k.flags c.loop-k.k c.loop-k.taken c.loop-k.invariant.1
      (omega (arith, c.loop-k-test.true, c.requires.2)) c.super_block-s.result.first c.super_block-s.result.count c.flag_blocks-taken.result c.flag_blocks-taken.new.flags
      c.super_block-s.ensures.0 c.super_block-s.ensures.1 (omega (arith, c.super_block-s.ensures.3, c.loop-k.invariant.0, c.requires.5)) c.flag_blocks-taken.ensures.value c.flag_blocks-taken.ensures.flags_after,
)

pub returns : goal.returns
returns c = spreading_done c.args.format c.args.w c.args.h c.args.partly.now c.args.full.now c.args.bits.now c.requires.2 c.loop-k.flags c.loop-k.k c.loop-k.taken c.loop-k.invariant.1
    (omega (arith, c.loop-k-test.false, c.requires.2)) (c.loop-k.invariant.0 ∙ c.requires.5)
