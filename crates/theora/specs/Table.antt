-- "Table to prove": each row by the project's definitions, and as the paper states it.
use Rattle.std.specs.Prelude.{ℕ, false, List, [], ◌∷◌, map, ℤ, pos, negsuc, ◌+ℤ◌}
use Rattle.numeric.specs.Cut.{cut}
use Rattle.numeric.specs.Divide.{round_over}
use Rattle.bitstream.specs.Reading.{Outcome, got, refused, Parse, pure, bind, field, ◌>>=◌, ◌>>◌}
use Rattle.geometry.specs.declared.PixelFormat.{PixelFormat}
use Rattle.geometry.specs.Sizes.{plane_of, blocks_of}
use Rattle.geometry.specs.Frame.{block}
use Rattle.headers.specs.declared.Session.{Session}
use Rattle.queries.specs.Found.{Found, is, absent, refused as refused_by}
use Rattle.queries.specs.Orders.{block_number}
use Rattle.quantization.specs.Parameters.{matrix_count}
use Rattle.matrices.specs.Matrix.{minimum, scaled}
use Rattle.loop_filter.specs.Filter.{limited_of}
use Rattle.transform.specs.Residual.{dc_only}

-- the values that a reading gets
abbrev pub readings : Outcome (List ℕ) → List ℤ
readings (got l e) = map pos l
readings (refused k e) = []

-- 3 bits, then 5
unfoldable pub three_then_five : Parse (List ℕ)
three_then_five = do
  a ← field 3
  b ← field 5
  pure (a ∷ b ∷ [])

-- a session whose frames have w by h macro blocks in 4:2:0
abbrev pub framed : ℕ → ℕ → Session
framed w h = record {
  fields = record {
    vrev = 0;
    fmbw = w;
    fmbh = h;
    picw = 0;
    pich = 0;
    picx = 0;
    picy = 0;
    frn = 1;
    frd = 1;
    parn = 0;
    pard = 0;
    cs = 0;
    nombr = 0;
    qual = 0;
    kfgshift = 0;
    pf = 0;
  };
  references = false;
  key_frames = 0;
  others = 0;
}

-- the number that a question finds; no number of a block is negative
abbrev pub found_number : Found ℕ → ℤ
found_number (is n) = pos n
found_number absent = negsuc 0
found_number (refused_by k) = negsuc k

-- the number of luma block (x, y) of a frame of w by h macro blocks, as `queries::block_number` answers it
abbrev pub luma_number : ℕ → ℕ → ℕ → ℕ → ℤ
luma_number w h x y = found_number (block_number (framed w h) (block 0 x y))

-- 0 and the number that is read; or the number of the refusal
abbrev pub judgement : Outcome ℕ → List ℤ
judgement (got n e) = pos 0 ∷ pos n ∷ []
judgement (refused k e) = pos k ∷ []

-- each row by the definitions
unfoldable pub worked : List (List ℤ)
worked =
    readings (three_then_five (0xB1 ∷ []) 0)
    ∷ (luma_number 2 2 3 3 ∷ [])
    ∷ (luma_number 15 3 0 4 ∷ luma_number 15 3 3 5 ∷ [])
    ∷ (pos (plane_of PixelFormat.Chroma420 4096 4097 0).length ∷ pos (blocks_of PixelFormat.Chroma420 4096 4097) ∷ [])
    ∷ (pos (blocks_of PixelFormat.Chroma444 65535 65535) ∷ [])
    ∷ (round_over 4 (negsuc 1) ∷ [])
    ∷ (limited_of 10 (pos 15) ∷ limited_of 10 (negsuc 14) ∷ limited_of 10 (pos 20) ∷ [])
    ∷ (pos (scaled (minimum 0 0) 10 16) ∷ [])
    ∷ (pos (scaled (minimum 0 1) 65535 255) ∷ pos (scaled (minimum 1 1) 65535 255) ∷ [])
    ∷ (cut (pos 32767 +ℤ pos 1) ∷ [])
    ∷ (dc_only (negsuc 0) 16 ∷ dc_only (pos 1) 16 ∷ [])
    -- the field of NBMS less one: 383 and 384 in 9 bits
    ∷ judgement (matrix_count (0xBF ∷ 0x80 ∷ []) 0)
    ∷ judgement (matrix_count (0xC0 ∷ 0x00 ∷ []) 0)
    ∷ []

-- each row as the paper states it
unfoldable pub paper : List (List ℤ)
paper =
    -- "B1 hex read 3 then 5 bits: 5, 17"
    (pos 5 ∷ pos 17 ∷ [])
    -- "block (3,3) is 10"
    ∷ (pos 10 ∷ [])
    -- "240×48 luma: (0,4) is 120, (3,5) is 124"
    ∷ (pos 120 ∷ pos 124 ∷ [])
    -- "4:2:0 4096×4097 macro blocks: luma 4,296,015,872 bytes, NBS 100,687,872"
    ∷ (pos 4296015872 ∷ pos 100687872 ∷ [])
    -- "65,535 squared 4:4:4: NBS 51,538,034,700"
    ∷ (pos 51538034700 ∷ [])
    -- "round(−2/4) = −1"
    ∷ (negsuc 0 ∷ [])
    -- "L=10: R=15 gives 5, −15 gives −5, 20 gives 0"
    ∷ (pos 5 ∷ negsuc 4 ∷ pos 0 ∷ [])
    -- "intra DC, scale 10, BM 16: 16"
    ∷ (pos 16 ∷ [])
    -- "AC scale 65535, BM 255: 4096", of both types
    ∷ (pos 4096 ∷ pos 4096 ∷ [])
    -- "DC 32767+1 cut: −32768"
    ∷ (negsuc 32767 ∷ [])
    -- "DC-only, q 16: −1 gives −1, 1 gives 0"
    ∷ (negsuc 0 ∷ pos 0 ∷ [])
    -- "NBMS 384 passes, 385 is 7"
    ∷ (pos 0 ∷ pos 384 ∷ [])
    ∷ (pos 7 ∷ [])
    ∷ []
