-- "A frame packet": what it says, read to its end before any sample is made. Nothing here depends on golden, previous or the value of a vector.
use Rattle.std.specs.Prelude.{ℕ, List, [], ◌∷◌, Bool, true, false, length, replicate}
use Rattle.bitstream.specs.Reading.{Outcome, got, refused, Parse, pure, pick, choose, ◌>>=◌}
use Rattle.bitstream.specs.Numbers.{no_references}
use Rattle.geometry.specs.declared.PixelFormat.{PixelFormat}
use Rattle.geometry.specs.Sizes.{blocks_of, macro_blocks_of}
use Rattle.huffman.specs.Tree.{Tree}
use Rattle.block_record.specs.declared.BlockRecord.{BlockRecord}
use Rattle.block_record.specs.Record.{uncoded}
use Rattle.frame_header.specs.declared.Kind.{Kind}
use Rattle.frame_header.specs.declared.Kind.TheVariants.{Intra, Inter, Repeat}
use Rattle.frame_header.specs.Header.{FrameHeader, frame_header}
use Rattle.coded_flags.specs.Flags.{inter_flags, intra_flags}
use Rattle.coded_flags.specs.Coded.{coded_blocks, coded_luma, coded_records}
use Rattle.modes.specs.Modes.{macro_modes}
use Rattle.vectors.specs.Vectors.{vectors}
use Rattle.block_qi.specs.BlockQi.{block_qi}
use Rattle.tokens.specs.Tokens.{Tokens, read_tokens}

-- what a frame packet says of the blocks
pub record Body : Type 0 where
  -- the raster numbers of the coded blocks, in coded order. A block's place in this list is its rank
  pub coded : List ℕ
  -- the mode of each macro block, in coded order; none in an intra frame or a repeat
  pub modes : List ℕ
  -- each block's record, by raster number
  pub records : List BlockRecord
  -- the coefficients and the last visits of the coded blocks, by rank, and how many tokens were read
  pub tokens : Tokens

pub record Frame : Type 0 where
  pub header : FrameHeader
  pub body : Body

-- whether a frame is intra
abbrev pub is_intra : Kind → Bool
is_intra Intra = true
is_intra Inter = false
is_intra Repeat = false

-- a frame of w by h macro blocks
module _ (f : PixelFormat) (w h : ℕ) where
  -- "Intra: all coded"; "Inter: long runs say which super blocks are partly coded .."
  unfoldable pub flags_of : Kind → Parse (List ℕ)
  flags_of kind = pick (is_intra kind) (pure (intra_flags f w h)) (inter_flags f w h)

  -- "Modes (inter)": an intra frame sends none
  unfoldable pub modes_of : Kind → List ℕ → Parse (List ℕ)
  modes_of kind flags = pick (is_intra kind) (pure []) (macro_modes flags (macro_blocks_of w h))

  -- "Vectors (inter)": the records of the coded blocks get their predictions; those of an intra frame have none
  unfoldable pub vectors_of : Kind → List ℕ → List BlockRecord → Parse (List BlockRecord)
  vectors_of kind modes rs = pick (is_intra kind) (pure rs) (vectors f w h modes rs)

  -- what stands behind the header of a frame with so many qi: coded flags, modes and vectors, "Block qi", "Tokens"
  unfoldable pub body : List Tree → Kind → ℕ → Parse Body
  body trees kind qis = do
    flags ← flags_of kind
    modes ← modes_of kind flags
    predicted ← vectors_of kind modes (coded_records f w h flags)
    records ← block_qi qis (coded_blocks f w h flags) predicted
    t ← read_tokens trees (coded_luma f w h flags) (length (coded_blocks f w h flags))
    pure (record { coded = coded_blocks f w h flags; modes = modes; records = records; tokens = t })

  -- a packet that is not empty; trees are the setup's, references says whether there are references
  unfoldable pub frame : List Tree → Bool → Parse Frame
  frame trees references = do
    head ← frame_header references
    b ← body trees head.kind (length head.qis)
    pure (record { header = head; body = b })

  -- "Empty: repeat previous"; "the qi list (empty for repeat)"; "An empty packet codes no block"
  abbrev pub repeat_frame : Frame
  repeat_frame = record {
    header = record { kind = Repeat; qis = [] };
    body = record { coded = []; modes = []; records = replicate (blocks_of f w h) uncoded; tokens = record { coefs = []; lasts = []; tokens = 0 } };
  }

  -- a whole packet. "9 comes at the frame type bit (at once if empty)"
  unfoldable pub frame_packet : List Tree → Bool → List ℕ → Outcome Frame
  frame_packet trees references [] = choose references (got repeat_frame 0) (refused no_references 0)
  frame_packet trees references (b ∷ p) = frame trees references (b ∷ p) 0
