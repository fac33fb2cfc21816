-- A list that is filled from end to end.
-- Assumes nothing.
use Rattle.std.proofs.Common.{◌≡◌, ℕ, List, ◌++◌, ℤ, length, take, drop, replicate, arith}
use Rattle.std.proofs.lemmas.List.{take_all, drop_all, append-nil}

pub filled : (n : ℕ) (out new : List ℤ) (v : ℤ) → length out ≡ n → new ≡ replicate (length (take n out)) v → new ++ drop n out ≡ replicate n v
filled n out new v e h = grind (arith, take_all, drop_all, append-nil)
