-- A shape of the code: the values of a block go to their places one by one in zig-zag order, into a block that is turned.
use Rattle.std.specs.Prelude.{◌≡◌, cond, List, ℕ, ◌+◌, ◌*◌, ◌/◌, ◌%◌, ◌≤◌, ◌<◌, ltb, ℤ, pos, get_or}
use Rattle.zig_zag.specs.Values.{zig_zag, tabulated, value_at, values}

-- a block with its rows and columns exchanged
unfoldable pub turned : List ℤ → List ℤ
turned s = tabulated (λ (i : ℕ). get_or s (i % 8 * 8 + i / 8) (pos 0)) 0 64

-- of the 64 coefficients that start at `at`, those from n on are 0
abbrev pub ZerosFrom : List ℤ → ℕ → ℕ → Type 0
ZerosFrom s at n = (k : ℕ) → n ≤ k → k < 64 → get_or s (at + k) (pos 0) ≡ pos 0

module _ (coefs : List ℤ) (at : ℕ) (dc : ℤ) (q : ℕ) (matrix : List ℕ) where
  -- the number at an index when the positions below p are placed
  abbrev pub placed : ℕ → ℕ → ℤ
  placed p i = cond (ltb (get_or zig_zag i 0) p) (value_at coefs at dc q matrix i) (pos 0)

  -- the block then
  unfoldable pub partly : ℕ → List ℤ
  partly p = tabulated (placed p) 0 64

-- the coefficient with index i in natural order stands at position p of the zig-zag order
abbrev pub StandsAt : ℕ → ℕ → Type 0
StandsAt p i = (i < 64) × (get_or zig_zag i 0 ≡ p)

-- so do four from p on
abbrev pub Four : (p a b c d : ℕ) → Type 0
Four p a b c d = StandsAt p a × StandsAt (p + 1) b × StandsAt (p + 2) c × StandsAt (p + 3) d

module _ (coefs : List ℤ) (at : ℕ) (matrix : List ℕ) where
  -- whatever DC is: if the positions below p are placed in s, n more are in t
  abbrev pub Grows : (p n : ℕ) → List ℤ → List ℤ → Type 0
  Grows p n s t = (dc : ℤ) (q m : ℕ) → p + n ≡ m → s ≡ turned (partly coefs at dc q matrix p) → t ≡ turned (partly coefs at dc q matrix m)

  -- whatever DC is: if the positions below p are placed in s, and the coefficients from n on are 0, all are placed in t
  abbrev pub Fills : ℕ → ℕ → List ℤ → List ℤ → Type 0
  Fills p n s t = (dc : ℤ) (q : ℕ) → ZerosFrom coefs at n → s ≡ turned (partly coefs at dc q matrix p) → t ≡ turned (values coefs at dc q matrix)
