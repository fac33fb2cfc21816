-- What the code answers and leaves, as outcomes of the reading algebra.
use Rattle.std.specs.Prelude.{ℕ, zero, suc, ◌+◌, ◌-◌, ◌*◌, ◌^◌, ◌<◌, ◌≤◌, ◌≡◌, List, [], ◌∷◌, ◌++◌, false, ltb, length, get_or, take, drop, replicate, ℤ, pos}
use Rattle.bitstream.specs.Reading.{Outcome, got, refused, choose}
use Rattle.bitstream.specs.Answer.{IfGot}
use Rattle.huffman.specs.Tree.{Tree, Proper, leaf, nodes_of}
use Rattle.huffman.specs.Code.{tree_of}
use Rattle.token_reader.specs.Answer.{Lookup}
use Rattle.table_choices.specs.Choices.{group}
use Rattle.table_choices.specs.Answer.{begins_group}
use Rattle.tokens.specs.Tokens.{Tokens}
use Rattle.tokens.specs.declared.Counted.{Counted}
use Rattle.tokens.specs.declared.Counted.TheVariants as counted

abbrev pub as_counted : Outcome Tokens → Counted
as_counted (got t e) = counted.Done e t.tokens
as_counted (refused k e) = counted.Refused k e

-- no block is finished
pub record AllOpen (ps : List ℕ) : Type 0 where
  pub each : (b : ℕ) → get_or ps b 0 < 64

-- those of the blocks bs that are unfinished
unfoldable pub unfinished_of : List ℕ → List ℕ → List ℕ
unfinished_of ps [] = []
unfinished_of ps (b ∷ bs) = choose (ltb (get_or ps b 0) 64) (b ∷ unfinished_of ps bs) (unfinished_of ps bs)

-- a step of moving the unfinished blocks to the front: what is kept and what is still to be seen
pub record KeptOne (ps bs : List ℕ) (j kept : ℕ) (bs' : List ℕ) (kept' : ℕ) : Type 0 where
  pub most : kept' ≤ j + 1
  pub front : take kept' bs' ≡ take kept bs ++ unfinished_of ps (get_or bs j 0 ∷ [])
  pub rest : drop (j + 1) bs' ≡ drop (j + 1) bs

-- the luma blocks are the first `lumas`, the chroma blocks those from luma to `end`; after it the same with the finished ones left out
pub record KeptActive (ps bs : List ℕ) (luma lumas end : ℕ) (bs' : List ℕ) (lumas' end' : ℕ) : Type 0 where
  pub fewer : lumas' ≤ lumas
  pub from : luma ≤ end'
  pub to : end' ≤ end
  pub luma_blocks : take lumas' bs' ≡ unfinished_of ps (take lumas bs)
  pub chroma_blocks : take (end' - luma) (drop luma bs') ≡ unfinished_of ps (take (end - luma) (drop luma bs))

-- the slices have room for `count` blocks, and what belongs to those is zero
pub record Cleared (count : ℕ) (ps ls : List ℕ) (cs : List ℤ) (bs : List ℕ) : Type 0 where
  pub few : count ≤ 2 ^ 36
  pub positions : take count ps ≡ replicate count 0
  pub lasts : take count ls ≡ replicate count 0
  pub coefs : take (64 * count) cs ≡ replicate (64 * count) (pos 0)
  pub active : count ≤ length bs

-- what was read stands in front; after a refusal that is open
abbrev pub Stored : ℕ → List ℕ → List ℤ → Outcome Tokens → Type 0
Stored count ls cs o = IfGot (λ t. (take count ls ≡ t.lasts) × (take (64 * count) cs ≡ t.coefs)) o

-- what lies behind the elements of the coded blocks is as it was
pub record Untouched (count : ℕ) (ps ls : List ℕ) (cs : List ℤ) (bs ps' ls' : List ℕ) (cs' : List ℤ) (bs' : List ℕ) : Type 0 where
  pub positions : drop count ps' ≡ drop count ps
  pub lasts : drop count ls' ≡ drop count ls
  pub coefs : drop (64 * count) cs' ≡ drop (64 * count) cs
  pub active : drop count bs' ≡ drop count bs

-- ---- the tables of the setup as the code has them: 64 nodes for each tree
unfoldable pub tables_of : List Tree → List ℕ
tables_of [] = []
tables_of (t ∷ ts) = nodes_of t ++ tables_of ts

abbrev pub AllProper : List Tree → Type 0
AllProper [] = Unit {0}
AllProper (t ∷ ts) = Proper t × AllProper ts

-- the memory holds the nodes of 80 trees that were read
pub record Tables (nodes : List ℕ) : Type 0 where
  pub trees : List Tree
  pub count : length trees ≡ 80
  pub proper : AllProper trees
  pub there : nodes ≡ tables_of trees

-- the nodes of the tree j
abbrev pub nodes_at : List ℕ → ℕ → List ℕ
nodes_at nodes j = take 64 (drop (64 * j) nodes)

-- the lookup of the table that is used at the position k by a choice, for n blocks: for none it may be any; and what of it stands before the position: where a group begins, room
abbrev pub Ready : List ℕ → ℕ → ℕ → ℕ → List ℕ → Type 0
Ready nodes k choice n lookup = (length lookup ≡ 256) × (0 < n → Lookup (nodes_at nodes (16 * group k + choice)) lookup)

abbrev pub Current : List ℕ → ℕ → ℕ → ℕ → List ℕ → Type 0
Current nodes k choice n lookup = (length lookup ≡ 256) × (begins_group k ≡ false → 0 < n → Lookup (nodes_at nodes (16 * group k + choice)) lookup)

-- n trees; law `trees-of` of proofs/Tables says that `treesOf` undoes `tables_of`
unfoldable pub trees_from : ℕ → List ℕ → List Tree
trees_from zero nodes = []
trees_from (suc n) nodes = tree_of (take 64 nodes) ∷ trees_from n (drop 64 nodes)

unfoldable pub trees_of : List ℕ → List Tree
trees_of nodes = trees_from 80 nodes

-- the tree j of them
abbrev pub tree_at : List ℕ → ℕ → Tree
tree_at nodes j = get_or (trees_of nodes) j (leaf 0)
