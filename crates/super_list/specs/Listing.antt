-- How the code lists the coded blocks, super block by super block. No promise to other crates speaks of it.
use Rattle.std.specs.Prelude.{ℕ, ◌+◌, ◌/◌, ◌%◌, ◌≤◌, ◌<◌, ◌≡◌, List, [], ◌∷◌, ◌++◌, get_or, take, drop}
use Rattle.geometry.specs.declared.PixelFormat.{PixelFormat}
use Rattle.geometry.specs.Frame.{block, frame_order}
use Rattle.block_record.specs.Record.{now_coded}
use Rattle.block_record.specs.Packed.{packed}
use Rattle.coded_flags.specs.Coded.{flagged, set_at}

-- i of the blocks bs are done: the first `count` of `coded` are the numbers of those that are flagged, and `records` has their records
pub record Listing (bs flags records₀ coded₀ records coded : List ℕ) (count i : ℕ) : Type 0 where
  pub fewer : count ≤ i
  pub numbers : flagged bs flags ≡ take count coded ++ flagged (drop i bs) (drop i flags)
  pub behind : drop count coded ≡ drop count coded₀
  pub marks : set_at (packed now_coded) (flagged bs flags) records₀ ≡ set_at (packed now_coded) (flagged (drop i bs) (drop i flags)) records

-- from i blocks done to i' blocks done, wherever that started
abbrev pub Goes : List ℕ → List ℕ → List ℕ → List ℕ → ℕ → ℕ → List ℕ → List ℕ → ℕ → ℕ → Type 0
Goes bs flags records coded count i records' coded' count' i' =
    (records₀ coded₀ : List ℕ) → Listing bs flags records₀ coded₀ records coded count i → Listing bs flags records₀ coded₀ records' coded' count' i'

-- of the flags from `first` to before `end` none is 1
unfoldable pub NoneSet : List ℕ → ℕ → ℕ → Type 0
NoneSet flags first end = (i : ℕ) → first ≤ i → i < end → get_or flags i 0 ≡ 1 → ⊥

-- the walk through a whole super block: 4 times the row, and the column
abbrev pub walk_places : List ℕ
walk_places = 0 ∷ 1 ∷ 5 ∷ 4 ∷ 8 ∷ 12 ∷ 13 ∷ 9 ∷ 10 ∷ 14 ∷ 15 ∷ 11 ∷ 7 ∷ 6 ∷ 2 ∷ 3 ∷ []

-- a whole super block begins with block number i
unfoldable pub WholeAt : PixelFormat → ℕ → ℕ → ℕ → Type 0
WholeAt f w h i =
    (j : ℕ) → j < 16 → let b = get_or (frame_order f w h) i (block 0 0 0) in
    get_or (frame_order f w h) (i + j) (block 0 0 0) ≡ block b.plane (b.x + get_or walk_places j 0 % 4) (b.y + get_or walk_places j 0 / 4)
