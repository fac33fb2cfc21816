-- The residual of a block: what is added to its prediction. 64 numbers, row by row, row 0 lowest.
use Rattle.std.specs.Prelude.{List, map, cond, ℕ, ltb, ℤ, pos, ◌+ℤ◌, ◌*ℤ◌, replicate}
use Rattle.numeric.specs.Cut.{cut}
use Rattle.numeric.specs.Divide.{floor_shift}
use Rattle.zig_zag.specs.Values.{values}
use Rattle.transform.specs.Block.{inverse}

-- "(c·q+15)>>5, cut only after the shift (c·q itself is not)"
unfoldable pub dc_only : ℤ → ℕ → ℤ
dc_only c q = cut (floor_shift (c *ℤ pos q +ℤ pos 15) 5)

-- "then (x+8)>>4"
unfoldable pub rounded : ℤ → ℤ
rounded x = floor_shift (x +ℤ pos 8) 4

-- "A block is DC-only if its last visit .. was below position 2"; "DC-only: every residual is ..", "Else the inverse transform .., then (x+8)>>4"
unfoldable pub residual : List ℤ → ℕ → ℤ → ℕ → ℕ → List ℕ → List ℤ
residual coefs at dc last q matrix =
    cond (ltb last 2) (replicate 64 (dc_only dc q)) (map rounded (inverse (values coefs at dc q matrix)))
