-- A row of which no block is coded. Assumes nothing.
use mathlib.Core.Path.{◌≡◌, refl, sym, ap, ◌∙◌}
use mathlib.Core.Bool.{Bool, false}
use mathlib.Core.List.{List, map}
use Prim.Native.Nat.{ℕ, zero, suc, ◌+◌}
use native.Mathlib.Omega.{arith}
use lib.ListN.{get_or}
use Rattle.block_record.specs.declared.BlockRecord.{BlockRecord}
use Rattle.block_record.specs.Packed.{unpacked}
use Rattle.block_record.proofs.Laws.{unpacked_at}
use Rattle.ways.specs.Loops.{up_to}
use Rattle.dc_prediction.specs.Planes.{block_step, row, NoneCoded}
use Rattle.dc_neighbours.specs.Block.{DcState}

module _ (ns : List ℕ) (start : ℕ) where
  module _ (across : ℕ) (below : Bool) where
    pub uncoded : (x : ℕ) (s : DcState) → (unpacked (get_or ns (start + x) 0)).coded ≡ false → s ≡ block_step (map unpacked ns) start across below x s
    unfolding block_step
    uncoded x s e = sym (rw (ap (λ (b : BlockRecord). b.coded) (unpacked_at ns (start + x)) ∙ e))

    none_steps : (n : ℕ) (s : DcState) → NoneCoded ns start n → s ≡ up_to n (block_step (map unpacked ns) start across below) s
    unfolding NoneCoded up_to
    none_steps zero s k = refl
    none_steps (suc n) s k = uncoded n s (k n (omega arith)) ∙ ap (block_step (map unpacked ns) start across below n) (none_steps n s (λ x l. k x (omega arith)))

    pub none_row : (s : DcState) → NoneCoded ns start across → s ≡ row (map unpacked ns) start across below s
    unfolding row
    none_row s k = none_steps across s k
