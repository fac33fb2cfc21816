-- Every qi has a range in a table memory that passes number 8, and at a border both ranges give the same matrix. Assumes nothing.
use Prim.Native.Nat.{ℕ, ◌+◌, ◌*◌}
use native.Mathlib.Omega.{arith}
use mathlib.Core.Path.{◌≡◌, refl}
use mathlib.Core.List.{List}
use lib.ListN.{length}
use Rattle.bitstream.specs.Reading.{got}
use Rattle.quantization.specs.Sound.{Whole, Sound}
use Rattle.matrices.specs.Matrix.{set_of}
use Rattle.quant_ranges.proofs.Ranges.{range_found}
use Rattle.matrices.proofs.Borders.{border_same, two_same}
use Rattle.setup.specs.Header.{Setup}
use Rattle.setup.specs.Table.{held_setup}
use Rattle.setup.specs.Loaded.{loaded_setup}
use Rattle.setup.proofs.Held.{held_reads, held_parameters}
use Rattle.table_queries.specs.Ranges.{RangesHold}

-- the parameters that a table memory holds are sound
held_whole : (t : List ℕ) {s : Setup} {e : ℕ} → held_setup t ≡ got s e → Whole s.parameters t
held_whole t {s} {e} h = (held_parameters t (loaded_setup s) (record { end = e; reads = held_reads t h; is = refl })).whole

pub ranges_hold : RangesHold
ranges_hold t s e h type plane lt lp =
    let q = s.parameters in
    let set = set_of q type plane in
    let sound : Sound (length q.matrices) set = (held_whole t h).sound (3 * type + plane) (omega arith) in
    record {
      found = λ qi b. range_found set sound qi b;
      border = λ k b. border_same q set sound k b type;
      same = λ qi j k a b c d. two_same q set sound type qi j k a b c d;
    }
