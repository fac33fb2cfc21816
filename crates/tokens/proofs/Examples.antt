-- Worked examples.
use Prim.Native.Nat.{ℕ}
use mathlib.Core.Path.{◌≡◌, refl}
use mathlib.Core.List.{List, [], ◌∷◌, ◌++◌}
use lib.ListN.{replicate}
use lib.IntN.{ℤ, pos}
use Rattle.bitstream.specs.Bits.{bit_at, number}
use Rattle.bitstream.specs.Reading.{got, refused, field, whole}
use Rattle.huffman.specs.Tree.{leaf, fork}
use Rattle.huffman.specs.Code.{code, token_code}
use Rattle.numeric.specs.Sign.{with_sign}
use Rattle.token.specs.Token.{row_of, meaning, extra}
use Rattle.token_reader.specs.Reader.{token}
use Rattle.block_positions.specs.Positions.{unfinished, run_of}
use Rattle.block_visits.specs.Visits.{act, read_for, visit}
use Rattle.token_visits.specs.Visits.{pass}
use Rattle.table_choices.specs.Choices.{group, choices}
use Rattle.tokens.specs.Tokens.{table, at_position, positions_from, ranks, start, Tokens, read_tokens}

abbrev given : List ℤ → List ℕ → ℕ → Tokens
given cs ls n = record { coefs = cs; lasts = ls; tokens = n }

-- one block, and lone leaves of the token 9: 64 times the value 1, for no bit but the four choices
ones : read_tokens (replicate 80 (leaf 9)) 1 1 (0 ∷ 0 ∷ []) 0 ≡ got (given (replicate 64 (pos 1)) (63 ∷ []) 64) 16
unfolding read_tokens positions_from at_position choices table group ranks start pass visit read_for act run_of unfinished token token_code code extra meaning with_sign row_of whole field number bit_at
ones = refl

-- "two 4-bit table choices .., also if no block is coded": a packet that ends before the third is refused there
no_block : read_tokens [] 0 0 (0 ∷ 0 ∷ []) 0 ≡ got (given [] [] 0) 16
unfolding read_tokens positions_from at_position choices table group ranks start pass whole field number bit_at
no_block = refl

cut_choice : read_tokens [] 0 0 (0 ∷ []) 0 ≡ refused 4 8
unfolding read_tokens positions_from at_position choices table group ranks start pass whole field number bit_at
cut_choice = refl

-- three blocks, two of luma: the token 6 with 12 bits 0 ends all unfinished blocks, and one token was read
all_end : read_tokens (replicate 80 (leaf 6)) 2 3 (replicate 4 0) 0 ≡ got (given (replicate 192 (pos 0)) (0 ∷ 0 ∷ 0 ∷ []) 1) 28
unfolding read_tokens positions_from at_position choices table group ranks start pass visit read_for act run_of unfinished token token_code code extra meaning with_sign row_of whole field number bit_at
all_end = refl

-- two blocks with the value 1 at position 0; the first then has an end-of-block run of 2 at position 1, which ends the second too, and is its last visit
ends_later : read_tokens (replicate 80 (fork (leaf 9) (leaf 1))) 2 2 (0x00 ∷ 0x00 ∷ 0x20 ∷ []) 0
    ≡ got (given (pos 1 ∷ replicate 63 (pos 0) ++ (pos 1 ∷ replicate 63 (pos 0))) (1 ∷ 1 ∷ []) 3) 19
unfolding read_tokens positions_from at_position choices table group ranks start pass visit read_for act run_of unfinished token token_code code extra meaning with_sign row_of whole field number bit_at
ends_later = refl

-- token 8 with 2 zeros, and at position 2 with 64: that passes 64, which is 13 at the token's first bit; reaching 64 exactly is well
past : read_tokens (replicate 80 (leaf 8)) 1 1 (0x00 ∷ 0x04 ∷ 0x03 ∷ 0xF0 ∷ []) 0 ≡ refused 13 22
unfolding read_tokens positions_from at_position choices table group ranks start pass visit read_for act run_of unfinished token token_code code extra meaning with_sign row_of whole field number bit_at
past = refl

exactly : read_tokens (replicate 80 (leaf 8)) 1 1 (0x00 ∷ 0xFC ∷ 0x00 ∷ []) 0 ≡ got (given (replicate 64 (pos 0)) (0 ∷ []) 1) 22
unfolding read_tokens positions_from at_position choices table group ranks start pass visit read_for act run_of unfinished token token_code code extra meaning with_sign row_of whole field number bit_at
exactly = refl

-- a token whose extra bits the packet cuts is refused by 4 at its code
cut_token : read_tokens (replicate 80 (fork (leaf 9) (leaf 6))) 1 1 (0x00 ∷ 0x80 ∷ []) 0 ≡ refused 4 8
unfolding read_tokens positions_from at_position choices table group ranks start pass visit read_for act run_of unfinished token token_code code extra meaning with_sign row_of whole field number bit_at
cut_token = refl
