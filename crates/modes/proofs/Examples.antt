-- Worked examples of modes.
use Prim.Native.Nat.{ℕ, ◌*◌}
use mathlib.Core.Path.{◌≡◌, refl}
use mathlib.Core.List.{List, [], ◌∷◌}
use lib.ListN.{replicate}
use Rattle.bitstream.specs.Bits.{bit_at, number}
use Rattle.bitstream.specs.Reading.{got, refused, field, whole, unary}
use Rattle.mode_schemes.specs.Schemes.{ranks_from, sent_alphabet, digit, mode_of_rank, luma_coded}
use Rattle.modes.specs.Modes.{mode, mode_of, modes_from, macro_modes}

-- all luma blocks of n macro blocks are coded
abbrev ones : ℕ → List ℕ
ones n = replicate (n * 4) 1

-- scheme 7: the raw mode 5; the second macro block has no coded luma block
raw : macro_modes (0 ∷ 0 ∷ 1 ∷ 0 ∷ 0 ∷ 0 ∷ 0 ∷ 0 ∷ []) 2 (0xF4 ∷ []) 0 ≡ got (5 ∷ 0 ∷ []) 6
unfolding macro_modes modes_from mode_of luma_coded mode sent_alphabet ranks_from mode_of_rank digit unary whole field number bit_at
raw = refl

-- scheme 1: 110 is unary 2, which is mode 2, and seven 1s are unary 7, mode 7
ranked : macro_modes (ones 2) 2 (0x3B ∷ 0xF8 ∷ []) 0 ≡ got (2 ∷ 7 ∷ []) 13
unfolding macro_modes modes_from mode_of luma_coded mode sent_alphabet ranks_from mode_of_rank digit unary whole field number bit_at
ranked = refl

-- scheme 0, every mode at unary 0: the last, 7, has it, and unary 1 is unset
overwritten : macro_modes (ones 2) 2 (0 ∷ 0 ∷ 0 ∷ 0x08 ∷ []) 0 ≡ got (7 ∷ 0 ∷ []) 30
unfolding macro_modes modes_from mode_of luma_coded mode sent_alphabet ranks_from mode_of_rank digit unary whole field number bit_at
overwritten = refl

-- a unary code that is cut is reported at its first bit
cut : macro_modes (ones 1) 1 (0x3F ∷ []) 0 ≡ refused 4 3
unfolding macro_modes modes_from mode_of luma_coded mode sent_alphabet ranks_from mode_of_rank digit unary whole field number bit_at
cut = refl

-- no block is coded: the scheme is read all the same
no_block : macro_modes (0 ∷ 0 ∷ 0 ∷ 0 ∷ []) 1 (0xC0 ∷ []) 0 ≡ got (0 ∷ []) 3
unfolding macro_modes modes_from mode_of luma_coded mode sent_alphabet ranks_from mode_of_rank digit unary whole field number bit_at
no_block = refl

-- and must be there
no_scheme : macro_modes [] 0 [] 0 ≡ refused 4 0
unfolding macro_modes modes_from mode_of luma_coded mode sent_alphabet ranks_from mode_of_rank digit unary whole field number bit_at
no_scheme = refl
