-- A walk in the corner of u by v of its square: when it comes to (x, y), and what it comes to as number i.
use Rattle.std.specs.Prelude.{List, ℕ, get_or}
use Rattle.geometry.specs.declared.Place.{Place}
use Rattle.geometry.specs.Order.{at, present, find}

-- when the walk comes to (x, y)
unfoldable pub rank_in : List Place → ℕ → ℕ → ℕ → ℕ → ℕ
rank_in walk u v x y = find x y (present u v walk)

-- what it comes to as number i
unfoldable pub in_corner : List Place → ℕ → ℕ → ℕ → Place
in_corner walk u v i = get_or (present u v walk) i (at 0 0)
