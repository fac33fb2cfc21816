-- The setup header (002, "Setup Header").
use Rattle.std.specs.Prelude.{ℕ, List}
use Rattle.bitstream.specs.Reading.{Parse, pure, ◌>>=◌, ◌>>◌, field, many}
use Rattle.headers.specs.Judgement.{common_header}
use Rattle.huffman.specs.Tree.{Tree, huffman_tree}
use Rattle.quantization.specs.Parameters.{Quantization, quantization}

-- what a setup packet says: the loop limits of the qi 0 to 63, the quantization parameters, and 80 Huffman trees
pub record Setup : Type 0 where
  pub limits : List ℕ
  pub parameters : Quantization
  pub trees : List Tree

-- "3-bit width, 64 loop limits of that width"
unfoldable pub loop_limits : Parse (List ℕ)
loop_limits = do
  w ← field 3
  many 64 (field w)

-- "byte 82 hex, "theora"; 3-bit width, 64 loop limits of that width; then quantization as 002 lists; then 80 Huffman trees"
unfoldable pub setup_header : Parse Setup
setup_header = do
  common_header 0x82
  l ← loop_limits
  q ← quantization
  ts ← many 80 huffman_tree
  pure (record { limits = l; parameters = q; trees = ts })
