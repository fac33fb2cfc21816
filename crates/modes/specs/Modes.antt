-- "Modes (inter)": the coding mode of each macro block. 0 NOMV, 1 INTRA, 2 MV, 3 LAST, 4 LAST2, 5 GOLDEN_NOMV, 6 GOLDEN_MV, 7 FOUR.
use Rattle.std.specs.Prelude.{ℕ, zero, suc, ◌+◌, List, [], ◌∷◌, ◌++◌, eqb}
use Rattle.bitstream.specs.Reading.{Outcome, got, refused, Parse, pure, bind, pick, field, whole, ◌>>=◌, unary}
use Rattle.modes.specs.declared.Mode.{Mode}
use Rattle.modes.specs.declared.Mode.TheVariants.{Is, Refused}
use Rattle.mode_schemes.specs.Schemes.{mode_of_rank}
unfoldable pub use Rattle.mode_schemes.specs.Schemes.{sent_alphabet, luma_coded}

-- "7 sends modes raw". "Rank code: that many 1s and a 0; seven 1s is unary 7"; one that is cut is reported at its first bit
unfoldable pub mode : ℕ → List ℕ → Parse ℕ
mode scheme alphabet = pick (eqb scheme 7) (field 3) (bind (whole (unary 7 0)) (λ r. pure (mode_of_rank scheme alphabet r)))

-- "Macro blocks without a coded luma block are NOMV and send nothing"
unfoldable pub mode_of : ℕ → List ℕ → List ℕ → ℕ → Parse ℕ
mode_of scheme alphabet flags m = pick (luma_coded flags m) (mode scheme alphabet) (pure 0)

-- the modes so far, and those of n more macro blocks, from macro block m on
unfoldable pub modes_from : ℕ → List ℕ → List ℕ → ℕ → ℕ → List ℕ → Parse (List ℕ)
modes_from scheme alphabet flags zero m done = pure done
modes_from scheme alphabet flags (suc n) m done = bind (mode_of scheme alphabet flags m) (λ v. modes_from scheme alphabet flags n (m + 1) (done ++ v ∷ []))

-- "3-bit scheme", then the modes of n macro blocks in coded order
unfoldable pub macro_modes : List ℕ → ℕ → Parse (List ℕ)
macro_modes flags n = do
  scheme ← field 3
  alphabet ← sent_alphabet scheme
  modes_from scheme alphabet flags n 0 []

-- what the code answers of one mode
abbrev pub as_mode : Outcome ℕ → Mode
as_mode (got v e) = Is v e
as_mode (refused k e) = Refused k e
