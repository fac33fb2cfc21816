-- `loop_filter::filter_block_at` meets its contract.
-- Assumes nothing.
use mathlib.Core.Path.{sym, ◌∙◌}
use mathlib.Core.Bool.{not}
use Prim.Native.Nat.{ℕ, ◌+◌, ◌*◌, ◌<◌}
use native.Mathlib.Omega.{arith}
use borrow.Author.Tests.{ltb-true}
use Rattle.ways.proofs.Kept.{there}
use Rattle.block_edges.specs.Flags.{coded_at}
use Rattle.loop_filter.proofs.Facts.{Room, room, uncoded_step, coded_step}
use Rattle.loop_filter.proofs.filter_block_at.Goals as goal

pub returns-then-not-is_coded : goal.returns-then-not-is_coded
returns-then-not-is_coded c = uncoded_step c.args.records.now c.args.limit c.args.first c.args.a c.args.u c.args.y c.args.x c.args.s.now (sym c.is_coded.ensures ∙ c.if-not-is_coded.true)

pub filter_block-requires : goal.filter_block-requires
filter_block-requires c =
    let room_at : Room c.args.a c.args.u c.args.y c.args.x =
    room _ _ _ _ c.requires.0 c.requires.1 in
    let number : ℕ =
    c.args.first + (c.args.y * c.args.a + c.args.x) in
    let r = room_at in
    let n = number in (
      λ e. let h : 0 < c.args.x = ltb-true _ _ e in omega arith,
      λ e. let h = r.lower (ltb-true _ _ e) in omega arith,
      omega arith,
      λ e. let h = there (c.args.x + 1) c.args.a (not (coded_at c.args.records.now (n + 1))) (sym c.is_open-right.ensures ∙ e) in omega arith,
      λ e. let h = r.over (there (c.args.y + 1) c.args.u (not (coded_at c.args.records.now (n + c.args.a))) (sym c.is_open-upper.ensures ∙ e)) in omega arith,
      omega arith,
      omega arith,
    )

pub returns : goal.returns
returns c = c.filter_block.ensures
    ∙ coded_step c.args.records.now c.args.limit c.args.first c.args.a c.args.u c.args.y c.args.x c.args.s.now
    (sym c.is_coded.ensures ∙ c.if-not-is_coded.false) c.is_open-right.result c.is_open-upper.result c.is_open-right.ensures c.is_open-upper.ensures
