use mathlib.Core.Path.{◌≡◌, sym, ap, ◌∙◌, subst}
use mathlib.Core.List.{List}
use Prim.Native.Nat.{ℕ}
use native.Mathlib.Omega.{arith}
use lib.ListN.{length, get_or, length-set}
use Rattle.block_record.specs.Memory.{IsPacked}
use Rattle.block_record.proofs.MemoryLaws.{packed_at}
use Rattle.vectors.proofs.Start.{started_to, not_yet, start_turn, start_end}
use Rattle.vectors.proofs.start_records.Goals as goal

pub start_record-requires : goal.start_record-requires
start_record-requires c = subst IsPacked (sym (ap (λ (s : List ℕ). get_or s c.loop-i.i 0) c.loop-i.invariant.2 ∙ not_yet c.loop-i.i c.args.records.now)) (packed_at c.args.records.now c.loop-i.i c.requires)

pub loop-i-preserved : goal.loop-i-preserved
loop-i-preserved c = (omega (arith, c.loop-i-test.true, c.loop-i.invariant.1), simp length-set c.loop-i.invariant.1, start_turn c.args.records.now c.loop-i.records c.loop-i.i c.start_record.result (omega (arith, c.loop-i-test.true, c.loop-i.invariant.1)) c.loop-i.invariant.2 c.start_record.ensures)

pub returns : goal.returns
returns c = let e : c.loop-i.i ≡ length c.args.records.now = omega (arith, c.loop-i-test.false, c.loop-i.invariant.0, c.loop-i.invariant.1) in
    c.loop-i.invariant.2 ∙ ap (λ (n : ℕ). started_to n c.args.records.now) e ∙ start_end c.args.records.now
