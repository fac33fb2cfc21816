-- What the readers answer and leave in the slices that they are lent.
use Rattle.std.specs.Prelude.{ℕ, ◌≡◌, List, Bool, true, false}
use Rattle.bitstream.specs.Reading.{Outcome, got, refused}
use Rattle.bitstream.specs.Numbers.{not_genuine}
use Rattle.bitstream.specs.Answer.{IfGot}
use Rattle.huffman.specs.Tree.{Tree, nodes_of}
use Rattle.quantization.specs.Layout.{laid}

-- the nodes of the trees, one after the other; after a refusal they may be anything
abbrev pub TreesFilled : Outcome (List Tree) → List ℕ → Type 0
TreesFilled o nodes = IfGot (λ ts. nodes ≡ laid nodes_of ts) o

-- what is told of a refusal: its number and place, or only that table memory is not genuine
abbrev pub told : {A : Type 0} → Bool → Outcome A → Outcome A
told true o = o
told false (got a e) = got a e
told false (refused k e) = refused not_genuine 0
