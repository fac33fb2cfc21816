-- How one token is read.
use Rattle.bitstream.specs.Reading.{Parse, bind, whole}
use Rattle.huffman.specs.Tree.{Tree}
use Rattle.huffman.specs.Code.{token_code}
use Rattle.token.specs.Token.{Meaning, extra}

-- a token: its Huffman code and its extra bits. "a run or token after all its bits": whatever is cut is refused at the code's first bit
unfoldable pub token : Tree → Parse Meaning
token tree = whole (bind (token_code tree) extra)
