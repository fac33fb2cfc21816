-- Groups of positions, and the table choices.
use Rattle.std.specs.Prelude.{ℕ, ltb}
use Rattle.bitstream.specs.Reading.{Parse, pure, bind, pick, choose, field}

-- "Groups 0, 1–5, 6–14, 15–27, 28–63"
unfoldable pub group : ℕ → ℕ
group k = choose (ltb k 1) 0 (choose (ltb k 6) 1 (choose (ltb k 15) 2 (choose (ltb k 28) 3 4)))

-- the choices for luma and for chroma
pub record Choices : Type 0 where
  pub luma : ℕ
  pub chroma : ℕ

abbrev pub choices_of : ℕ → ℕ → Choices
choices_of a b = record { luma = a; chroma = b }

-- "at 0 and 1, two 4-bit table choices (luma, chroma), also if no block is coded"
unfoldable pub choices : ℕ → Choices → Parse Choices
choices k ch = pick (ltb k 2) (bind (field 4) (λ a. bind (field 4) (λ b. pure (choices_of a b)))) (pure ch)
