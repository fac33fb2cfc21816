-- Inside the code, records start at what mode 0 says, so that macro blocks of mode 0 are passed over. No promise to other crates speaks of it.
use Rattle.std.specs.Prelude.{ℕ, ◌≤◌, ◌<◌, ◌≡◌, true, List, get_or}
use Rattle.geometry.specs.declared.PixelFormat.{PixelFormat}
use Rattle.geometry.specs.declared.Place.{Place}
use Rattle.geometry.specs.Sizes.{macro_blocks_of, blocks_each}
use Rattle.geometry.specs.Order.{at, coded_macros}
use Rattle.block_record.specs.declared.BlockRecord.{BlockRecord}
use Rattle.block_record.specs.Record.{uncoded}
use Rattle.vectors.specs.Vectors.{number_in}
use Rattle.motion.specs.Kept.{unmoved}

-- macro block m of the coded order
abbrev pub macro_no : ℕ → ℕ → ℕ → Place
macro_no w h m = get_or (coded_macros w h) m (at 0 0)

-- the coded blocks of the macro blocks from m on are as they started
unfoldable pub Waiting : PixelFormat → ℕ → ℕ → ℕ → List BlockRecord → Type 0
Waiting f w h m rs =
    (j k : ℕ) → m ≤ j → j < macro_blocks_of w h → k < blocks_each f → let r = get_or rs (number_in f w h (macro_no w h j) k) uncoded in
    r.coded ≡ true → r.prediction ≡ unmoved
