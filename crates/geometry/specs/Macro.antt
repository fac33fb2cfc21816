-- The blocks of a macro block (x, y), and the macro block of a block.
use Rattle.std.specs.Prelude.{List, [], ◌∷◌, ◌++◌, ℕ, zero, suc, ◌+◌, ◌*◌, ◌/◌}
use Rattle.geometry.specs.declared.PixelFormat.{PixelFormat}
use Rattle.geometry.specs.declared.PixelFormat.TheVariants.{Chroma420, Chroma422, Chroma444}
use Rattle.geometry.specs.declared.Place.{Place}
use Rattle.geometry.specs.declared.Block.{Block}
use Rattle.geometry.specs.Order.{at}
use Rattle.geometry.specs.Frame.{block}

-- "luma blocks A, B (lower), C, D": lower left, lower right, upper left, upper right
unfoldable pub four_of : ℕ → ℕ → ℕ → List Block
four_of p x y =
    block p (2 * x) (2 * y) ∷ block p (2 * x + 1) (2 * y) ∷ block p (2 * x) (2 * y + 1) ∷ block p (2 * x + 1) (2 * y + 1) ∷ []

-- the blocks of one chroma plane: 4:2:0 one, 4:2:2 a lower and an upper one, 4:4:4 four like luma
unfoldable pub chroma_of : PixelFormat → ℕ → ℕ → ℕ → List Block
chroma_of Chroma420 p x y = block p x y ∷ []
chroma_of Chroma422 p x y = block p x (2 * y) ∷ block p x (2 * y + 1) ∷ []
chroma_of Chroma444 p x y = four_of p x y

-- luma, then Cb, then Cr
unfoldable pub blocks_of_macro : PixelFormat → ℕ → ℕ → List Block
blocks_of_macro f x y = four_of 0 x y ++ (chroma_of f 1 x y ++ chroma_of f 2 x y)

-- the macro block that chroma block (x, y) belongs to
abbrev pub macro_of_chroma : PixelFormat → ℕ → ℕ → Place
macro_of_chroma Chroma420 x y = at x y
macro_of_chroma Chroma422 x y = at x (y / 2)
macro_of_chroma Chroma444 x y = at (x / 2) (y / 2)

abbrev pub macro_in : PixelFormat → ℕ → ℕ → ℕ → Place
macro_in f zero x y = at (x / 2) (y / 2)
macro_in f (suc p) x y = macro_of_chroma f x y

-- the macro block that a block belongs to
unfoldable pub macro_of : PixelFormat → Block → Place
macro_of f b = macro_in f b.plane b.x b.y
