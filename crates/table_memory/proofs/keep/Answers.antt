-- `table_memory::keep` meets its contract: whole bytes are copied, over zeros, and a part of one is put behind them. Assumes nothing.
use borrow.Author.Rules.{rules}
use Prim.Native.Nat.{ℕ, zero, ◌/◌}
use native.Mathlib.Omega.{arith}
use mathlib.Core.Path.{◌≡◌, refl, ap, ◌∙◌}
use mathlib.Core.List.{List}
use lib.ListN.{length, set, replicate, length-set, length-replicate}
use Rattle.table_memory.proofs.Steps.{copied, copied_length, kept_whole, kept_part}
use Rattle.table_memory.proofs.keep.Goals as goal

pub returns-then-size-whole : goal.returns-then-size-whole
returns-then-size-whole c = c.copy_front.ensures ∙ kept_whole c.args.packet.now c.args.end (length c.args.table.now) c.requires.0 (λ k. (c.shared_slice_known-1.given k).fits) c.args.table.now refl c.if-size-whole.true

pub returns : goal.returns
returns c =
    let front : c.copy_front-2.new.table ≡ copied (replicate (length c.args.table.now) 0) c.args.packet.now (c.args.end / 8) =
    c.copy_front-2.ensures ∙ ap (λ (xs : List ℕ). copied xs c.args.packet.now (c.args.end / 8)) c.clear.ensures in
    ap (λ (xs : List ℕ). set xs (c.args.end / 8) c.part_byte.result) (front)
    ∙ kept_part c.args.packet.now c.args.end (length c.args.table.now) c.requires.0 (λ k. (c.shared_slice_known-1.given k).fits) _ (omega (arith, c.if-size-whole.false)) c.part_byte.ensures
