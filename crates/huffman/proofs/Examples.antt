-- Worked examples.
use Prim.Native.Nat.{ℕ, zero, suc}
use mathlib.Core.Path.{◌≡◌, refl}
use mathlib.Core.List.{List, [], ◌∷◌, ◌++◌}
use lib.ListN.{replicate}
use Rattle.bitstream.specs.Bits.{bit_at, number}
use Rattle.bitstream.specs.Reading.{got, refused, field, judged, whole, many}
use Rattle.huffman.specs.Tree.{Tree, leaf, fork, leaf_bit, leaf_token, tree, huffman_tree, flat, nodes_of}
use Rattle.huffman.specs.Code.{code, token_code}

-- ---- a lone leaf: its bit 1, the token 5, and the empty code, also at the very end
lone : huffman_tree (0x94 ∷ []) 0 ≡ got (leaf 5) 6
unfolding huffman_tree tree leaf_bit leaf_token judged field number bit_at
lone = refl

lone_code : token_code (leaf 5) (0x94 ∷ []) 8 ≡ got 5 8
unfolding token_code code whole
lone_code = refl

-- the leaf bit and the token are two fields: a cut token is refused at its own first bit
lone_cut : huffman_tree (0x01 ∷ []) 7 ≡ refused 4 8
unfolding huffman_tree tree leaf_bit leaf_token judged field number bit_at
lone_cut = refl

-- ---- a short tree with its nodes, and its codes 0, 10 and 11
short : Tree
short = fork (leaf 1) (fork (leaf 2) (leaf 3))

short_read : huffman_tree (0x42 ∷ 0x8A ∷ 0x30 ∷ []) 0 ≡ got short 20
unfolding short huffman_tree tree leaf_bit leaf_token judged field number bit_at
short_read = refl

short_nodes : nodes_of short ≡ 130 ∷ 1 ∷ 132 ∷ 2 ∷ 3 ∷ replicate 59 0
unfolding short nodes_of flat
short_nodes = refl

short_codes : many 6 (token_code short) (0x58 ∷ []) 0 ≡ got (1 ∷ 2 ∷ 3 ∷ 1 ∷ 1 ∷ 1 ∷ []) 8
unfolding short many token_code code whole field number bit_at
short_codes = refl

-- a code that the packet's end cuts is refused at its first bit; one that ends with the packet is not
short_cut : token_code short (0x05 ∷ []) 7 ≡ refused 4 7
unfolding short token_code code whole field number bit_at
short_cut = refl

short_end : token_code short (0x06 ∷ []) 7 ≡ got 1 8
unfolding short token_code code whole field number bit_at
short_end = refl

-- ---- as deep as a tree can be: 32 leaves, one below the other
comb : ℕ → Tree
comb zero = leaf 0
comb (suc n) = fork (leaf 0) (comb n)

-- eight times a branch bit 0 and the leaf 0
eight : List ℕ
eight = 0x40 ∷ 0x81 ∷ 0x02 ∷ 0x04 ∷ 0x08 ∷ 0x10 ∷ 0x20 ∷ []

-- the last branch bit is a leaf's
comb_read : huffman_tree (eight ++ eight ++ eight ++ 0x40 ∷ 0x81 ∷ 0x02 ∷ 0x04 ∷ 0x08 ∷ 0x10 ∷ 0x40 ∷ []) 0 ≡ got (comb 31) 223
unfolding comb eight huffman_tree tree leaf_bit leaf_token judged field number bit_at
comb_read = refl

comb_code : token_code (comb 31) (0xFF ∷ 0xFF ∷ 0xFF ∷ 0xFF ∷ []) 0 ≡ got 0 31
unfolding comb token_code code whole field number bit_at
comb_code = refl

-- ---- refused by 7: a 33rd leaf at its leaf bit, and depth 32's branch bit
leaf_33 : huffman_tree (eight ++ eight ++ eight ++ eight ++ 0x80 ∷ []) 0 ≡ refused 7 224
unfolding eight huffman_tree tree leaf_bit leaf_token judged field number bit_at
leaf_33 = refl

bit_33 : huffman_tree (0 ∷ 0 ∷ 0 ∷ 0 ∷ 0 ∷ []) 0 ≡ refused 7 32
unfolding huffman_tree tree leaf_bit leaf_token judged field number bit_at
bit_33 = refl

-- where that bit is missing, 4 comes first
bit_33_cut : huffman_tree (0 ∷ 0 ∷ 0 ∷ 0 ∷ []) 0 ≡ refused 4 32
unfolding huffman_tree tree leaf_bit leaf_token judged field number bit_at
bit_33_cut = refl
