-- What each chroma sample adds, laid out so that the bytes of neighbouring pixels are sums of neighbours.
use Rattle.std.specs.Prelude.{ℕ, ◌-◌, ◌/◌, List, [], ◌∷◌, ltb, ℤ, pos, ◌+ℤ◌}
use Rattle.bitstream.specs.Reading.{choose}
use Rattle.geometry.specs.Order.{in_turn}
use Rattle.colour_tables.specs.declared.Chroma.{Chroma}
use Rattle.colour_tables.specs.Rule.{red_cr, green_cb, green_cr, blue_cb, entry}

-- what a chroma sample adds by itself, Cr with the half
abbrev pub of_cb : ℕ → Chroma
of_cb v = record { red = pos 0; green = entry green_cb v; blue = entry blue_cb v }

abbrev pub of_cr : ℕ → Chroma
of_cr v = record { red = entry red_cr v +ℤ pos 32768; green = entry green_cr v +ℤ pos 32768; blue = pos 32768 }

-- sample i of 512: Cb, and behind them Cr
unfoldable pub part_of : ℕ → Chroma
part_of i = choose (ltb i 256) (of_cb i) (of_cr (i - 256))

abbrev pub three : Chroma → List ℤ
three c = c.red ∷ c.green ∷ c.blue ∷ []

-- each of them three times, one behind the other
unfoldable pub chroma_rows : List ℤ
chroma_rows = in_turn (λ k. three (part_of (k / 3))) 1536
