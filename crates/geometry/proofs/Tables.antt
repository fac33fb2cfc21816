-- The tables of src/squares.rt.
use mathlib.Core.List.{List, [], ◌∷◌}
use Prim.Native.Nat.{ℕ}

unfoldable pub block_rank : List ℕ
block_rank =
    0x0 ∷
    0x10000 ∷
    0x200010000 ∷
    0x3000200010000 ∷
    0x10 ∷
    0x230010 ∷
    0x5400230010 ∷
    0x65007400230010 ∷
    0x210 ∷
    0x4230510 ∷
    0x65407230810 ∷
    0x96508740a230b10 ∷
    0x3210 ∷
    0x45237610 ∷
    0x76548923ba10 ∷
    0xa965b874cd23fe10 ∷
    []

unfoldable pub block_corner : List ℕ
block_corner =
    0x0 ∷
    0x40 ∷
    0x840 ∷
    0xc840 ∷
    0x10 ∷
    0x4510 ∷
    0x984510 ∷
    0x9dc84510 ∷
    0x210 ∷
    0x264510 ∷
    0x26a984510 ∷
    0x26ea9dc84510 ∷
    0x3210 ∷
    0x32674510 ∷
    0x3267ba984510 ∷
    0x3267bfea9dc84510 ∷
    []
