-- The places of a line in a list: its numbers, other numbers put there, and the line transformed in place.
use Rattle.std.specs.Prelude.{List, ℕ, ◌+◌, ◌*◌, ℤ, pos, get_or, set}
use Rattle.lines.specs.declared.Line.{Line}
use Rattle.lines.specs.Line.{transformed_line}

-- the line of a list that starts at `at` and has every `step`th number
unfoldable pub line_at : List ℤ → ℕ → ℕ → Line
line_at s at step = record {
  x0 = get_or s at (pos 0);
  x1 = get_or s (at + step) (pos 0);
  x2 = get_or s (at + step * 2) (pos 0);
  x3 = get_or s (at + step * 3) (pos 0);
  x4 = get_or s (at + step * 4) (pos 0);
  x5 = get_or s (at + step * 5) (pos 0);
  x6 = get_or s (at + step * 6) (pos 0);
  x7 = get_or s (at + step * 7) (pos 0);
}

-- the same places with other numbers
unfoldable pub put_line : List ℤ → ℕ → ℕ → Line → List ℤ
put_line s at step l =
    let s1 = set (set s at l.x0) (at + step) l.x1 in
    let s3 = set (set s1 (at + step * 2) l.x2) (at + step * 3) l.x3 in
    let s5 = set (set s3 (at + step * 4) l.x4) (at + step * 5) l.x5 in
    set (set s5 (at + step * 6) l.x6) (at + step * 7) l.x7

unfoldable pub transform_line : List ℤ → ℕ → ℕ → List ℤ
transform_line s at step = put_line s at step (transformed_line (line_at s at step))
