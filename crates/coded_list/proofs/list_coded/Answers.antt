use Rattle.std.proofs.Common.{◌≡◌, ℕ, ◌+◌, ◌≤◌, ◌<◌, length, take, sym, ap, ◌∙◌, arith}
use Rattle.std.proofs.Math.ListN.{length-replicate}
use Rattle.geometry.specs.declared.FrameSizes.{FrameSizes}
use Rattle.geometry.specs.Sizes.{blocks_of, super_blocks_of}
use Rattle.block_record.specs.Record.{now_coded}
use Rattle.block_record.specs.Packed.{packed}
use Rattle.coded_flags.specs.Coded.{order, coded_luma, coded_blocks, set_at}
use Rattle.coded_flags.specs.Flags.{ones}
use Rattle.coded_flags.proofs.Order.{order_length}
use Rattle.coded_flags.proofs.Spread.{first_of, first_zero, first_next, first_all}
use Rattle.super_list.proofs.Listing.{listing_start, listing_count, listing_numbers, listing_marks}
use Rattle.super_list.proofs.Whole.{whole_at}
use Rattle.coded_list.proofs.Listing.{records_packed, listed_by, luma_blocks, luma_part}
use Rattle.coded_list.proofs.list_coded.Goals as goal

pub loop-k-init : goal.loop-k-init
loop-k-init c = rw (first_zero c.args.format c.args.w c.args.h) (omega arith, listing_start _ _ _ _)

pub list_super-count-requires : goal.list_super-count-requires
list_super-count-requires c =
    let supers : c.sizes-k-end.result.super_blocks ≡ super_blocks_of c.args.format c.args.w c.args.h = ap (λ (s : FrameSizes). s.super_blocks) c.sizes-k-end.ensures in
    let n : length c.args.records.now ≡ blocks_of c.args.format c.args.w c.args.h = ap length c.requires.3 ∙ length-replicate {A = ℕ} _ 0 in
    let k : c.loop-k.k < super_blocks_of c.args.format c.args.w c.args.h = omega arith in
    let s = c.super_block-s.ensures in (
      c.requires.0,
      c.requires.1,
      c.requires.2,
      omega arith,
      omega arith,
      omega (arith, c.loop-k.invariant.0),
      omega arith,
      omega arith,
      λ e. rw s.0 (whole_at c.args.format c.args.w c.args.h c.loop-k.k k (omega arith)),
    )

pub loop-k-preserved : goal.loop-k-preserved
loop-k-preserved c =
    let s = c.super_block-s.ensures in
    let next : c.super_block-s.result.first + c.super_block-s.result.count ≡ first_of c.args.format c.args.w c.args.h (c.loop-k.k + 1) =
    omega (arith, first_next c.args.format c.args.w c.args.h c.loop-k.k) in
    rw (← next) (c.list_super-count.ensures.0, c.list_super-count.ensures.1 _ _ (rw s.0 c.loop-k.invariant.1))

pub slice_bounds-count_ones-end : goal.slice_bounds-count_ones-end
slice_bounds-count_ones-end c = sym (luma_part c.args.format c.args.w c.args.h c.plane_of-luma.result c.args.flags.now c.plane_of-luma.ensures c.requires.2)

pub returns : goal.returns
unfolding coded_blocks coded_luma
returns c =
    let supers : c.sizes-k-end.result.super_blocks ≡ super_blocks_of c.args.format c.args.w c.args.h = ap (λ (s : FrameSizes). s.super_blocks) c.sizes-k-end.ensures in
    let z : c.loop-k.k ≡ super_blocks_of c.args.format c.args.w c.args.h = omega arith in
    let y : first_of c.args.format c.args.w c.args.h c.loop-k.k ≡ blocks_of c.args.format c.args.w c.args.h =
    ap (first_of c.args.format c.args.w c.args.h) z ∙ first_all c.args.format c.args.w c.args.h in
    let r : length (order c.args.format c.args.w c.args.h) ≤ first_of c.args.format c.args.w c.args.h c.loop-k.k = omega (arith, order_length c.args.format c.args.w c.args.h) in
    let m : c.loop-k.count ≤ length c.loop-k.coded = omega arith in
    let l = c.loop-k.invariant.1 in record {
      value = listed_by c.args.format c.args.w c.args.h c.args.flags.now _ _ (listing_count _ _ _ _ _ _ _ _ l r m)
          (c.count_ones-first.ensures.0 ∙ ap (λ (k : ℕ). ones (take k c.args.flags.now))
          (luma_blocks c.args.format c.args.w c.args.h c.plane_of-luma.result c.plane_of-luma.ensures));
      records_after = listing_marks _ _ _ _ _ _ _ _ l r m
          ∙ ap (set_at (packed now_coded) (coded_blocks c.args.format c.args.w c.args.h c.args.flags.now)) c.requires.3 ∙ sym (records_packed c.args.format c.args.w c.args.h c.args.flags.now);
      coded_after = listing_numbers _ _ _ _ _ _ _ _ l r m;
    }
