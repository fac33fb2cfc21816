-- "three bytes a pixel, R, G, B, whole coded frame, top row first": the bytes of a picture, from a plane buffer.
use Rattle.std.specs.Prelude.{ℕ, ◌+◌, ◌*◌, ◌-◌, ◌/◌, Bool, ◌||◌, List, eqb, length, get_or}
use Rattle.bitstream.specs.Reading.{choose}
use Rattle.bitstream.specs.Numbers.{wrong_length, not_genuine, unknown_colour}
use Rattle.geometry.specs.declared.PixelFormat.{PixelFormat}
use Rattle.geometry.specs.declared.PixelFormat.TheVariants.{Chroma420, Chroma422, Chroma444}
use Rattle.geometry.specs.Sizes.{across, blocks_of, blocks_before}
use Rattle.geometry.specs.Order.{in_turn}
use Rattle.headers.specs.declared.Session.{Session}
use Rattle.headers.specs.Fits.{session_fits}
use Rattle.headers.specs.Sizes.{format}
use Rattle.output.specs.Output.{Output, refused, within}
use Rattle.rgb.specs.Pixel.{colours}

-- "Subsampled chroma is repeated": the column and the row of the chroma samples of pixel (x, y)
abbrev pub chroma_column : PixelFormat → ℕ → ℕ
chroma_column Chroma420 x = x / 2
chroma_column Chroma422 x = x / 2
chroma_column Chroma444 x = x

abbrev pub chroma_row : PixelFormat → ℕ → ℕ
chroma_row Chroma420 y = y / 2
chroma_row Chroma422 y = y
chroma_row Chroma444 y = y

-- a row of pixels, of a row of luma and one of each chroma plane
unfoldable pub row_of : (ℕ → ℕ) → (luma cb cr : List ℕ) → List ℕ
row_of column luma cb cr = in_turn (λ x. colours (get_or luma x 0) (get_or cb (column x) 0) (get_or cr (column x) 0)) (length luma)

module _ (f : PixelFormat) (w h : ℕ) (planes : List ℕ) where
  -- "All three planes lie in one buffer, plane 0 first, rows bottom first": the sample in column x and row y of plane p
  abbrev pub sample : (p x y : ℕ) → ℕ
  sample p x y = get_or planes (64 * blocks_before f w h p + (y * (8 * across f w p) + x)) 0

  -- pixel (x, y), from the lower left
  abbrev pub pixel : (x y : ℕ) → List ℕ
  pixel x y = colours (sample 0 x y) (sample 1 (chroma_column f x) (chroma_row f y)) (sample 2 (chroma_column f x) (chroma_row f y))

  unfoldable pub picture_row : ℕ → List ℕ
  picture_row y = in_turn (λ x. pixel x y) (16 * w)

  -- "top row first"
  unfoldable pub picture : List ℕ
  picture = in_turn (λ r. picture_row (16 * h - 1 - r)) (16 * h)

-- "Colour spaces 1 and 2 share those numbers"
abbrev pub known : ℕ → Bool
known cs = eqb cs 1 || eqb cs 2

-- the call: "refusals in the order 8, 1, 18, 14, with nothing written"
unfoldable pub picture_for : Session → (planes : List ℕ) → (room : ℕ) → Output
picture_for s planes room =
    let f = format s in
    let w = s.fields.fmbw in
    let h = s.fields.fmbh in
    choose (session_fits s)
    (choose (eqb (length planes) (64 * blocks_of f w h))
    (choose (known s.fields.cs) (within room (picture f w h planes)) (refused unknown_colour))
    (refused wrong_length))
    (refused not_genuine)
