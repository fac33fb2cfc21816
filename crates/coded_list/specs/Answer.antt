-- What the code answers.
use Rattle.std.specs.Prelude.{ℕ, List, length}
use Rattle.geometry.specs.declared.PixelFormat.{PixelFormat}
use Rattle.coded_flags.specs.Coded.{coded_blocks, coded_luma}
use Rattle.coded_list.specs.declared.Listed.{Listed}

-- how many blocks are coded, and how many of them are luma blocks
abbrev pub listed_of : PixelFormat → ℕ → ℕ → List ℕ → Listed
listed_of f w h flags = record { count = length (coded_blocks f w h flags); luma = coded_luma f w h flags }
