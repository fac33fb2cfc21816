-- A text is read as what was written, and nothing else is read. Assumes nothing.
use mathlib.Core.Path.{◌≡◌, refl, sym, ap, ◌∙◌}
use mathlib.Core.Bool.{Bool, true, false, ◌&&◌}
use mathlib.Core.List.{List, [], ◌∷◌, ◌++◌}
use Prim.Native.Nat.{ℕ, ◌^◌, ◌<◌}
use native.Mathlib.Omega.{arith}
use lib.ListN.{length, drop}
use Rattle.text.specs.Decimal.{scanned, decimal, number}
use Rattle.text.specs.Same.{same}
use Rattle.text.proofs.Decimals.{number_decimal}
use Rattle.text.proofs.Texts.{same_refl, same_eq, and_left, and_right}
use Rattle.settings.specs.declared.Settings.{Settings}
use Rattle.settings.specs.Settings.{settings_fit, version_key, tile_key, first_key, last_key, plane_key, line, lines_then, text_of, on_line, said_in, is_text_of, is_text, is, begins_version2, read}

-- ---- a line that was written is read
drop_key : (key t : List ℕ) → drop (length key) (key ++ t) ≡ t
drop_key [] t = refl
drop_key (c ∷ key) t = drop_key key t

line_said : (key : List ℕ) (n : ℕ) (t : List ℕ) → n < 10 ^ 10 → on_line key (line key n t) ≡ scanned n (10 ∷ t)
line_said key n t h = ap number (drop_key key (decimal n ++ (10 ∷ t))) ∙ number_decimal n (10 ∷ t) h refl

-- numbers of at most ten digits
pub record Short (s : Settings) : Type 0 where
  pub tile : s.tile < 10 ^ 10
  pub first : s.shot_first < 10 ^ 10
  pub last : s.shot_last < 10 ^ 10
  pub plane : s.plane < 10 ^ 10

-- what a text of version 2 says, and of version 1
pub said_2 : (s : Settings) → Short s → said_in 2 (text_of 2 s) ≡ s
unfolding said_in text_of lines_then
said_2 s h =
    rw (line_said version_key 2 (line tile_key s.tile (line first_key s.shot_first (line last_key s.shot_last (line plane_key s.plane [])))) (omega arith))
    (rw (line_said tile_key s.tile (line first_key s.shot_first (line last_key s.shot_last (line plane_key s.plane []))) h.tile)
    (rw (line_said first_key s.shot_first (line last_key s.shot_last (line plane_key s.plane [])) h.first)
    (rw (line_said last_key s.shot_last (line plane_key s.plane []) h.last)
    (rw (line_said plane_key s.plane [] h.plane) refl))))

pub said_1 : (s : Settings) → Short s → s.plane ≡ 0 → said_in 1 (text_of 1 s) ≡ s
unfolding said_in text_of lines_then
said_1 s h z =
    rw (line_said version_key 1 (line tile_key s.tile (line first_key s.shot_first (line last_key s.shot_last []))) (omega arith))
    (rw (line_said tile_key s.tile (line first_key s.shot_first (line last_key s.shot_last [])) h.tile)
    (rw (line_said first_key s.shot_first (line last_key s.shot_last []) h.first)
    (rw (line_said last_key s.shot_last [] h.last)
    (λ i. record { tile = s.tile; shot_first = s.shot_first; shot_last = s.shot_last; plane = sym z i }))))

-- ---- what is written is a text of its version, and only that
is_text_law : (version : ℕ) (s : Settings) → said_in version (text_of version s) ≡ s → settings_fit s ≡ true → is_text version (text_of version s) ≡ true
unfolding is_text_of
is_text_law version s e fit = rw e (rw fit (same_refl (text_of version s)))

pub text_only : (version : ℕ) (t : List ℕ) → is_text version t ≡ true → (settings_fit (said_in version t) ≡ true) × (t ≡ text_of version (said_in version t))
unfolding is_text_of
text_only version t h = (
  and_left (settings_fit (said_in version t)) (same t (text_of version (said_in version t))) h,
  same_eq t (text_of version (said_in version t)) (and_right (settings_fit (said_in version t)) (same t (text_of version (said_in version t))) h),
)

and_false : (a : Bool) → a && false ≡ false
and_false true = refl
and_false false = refl

-- a text of version 2 is none of version 1
pub apart : (s : Settings) → is_text 1 (text_of 2 s) ≡ false
unfolding is_text_of same text_of lines_then decimal Rattle.text.specs.Decimal.trimmed Rattle.text.specs.Decimal.digits
apart s = and_false (settings_fit (said_in 1 (text_of 2 s)))

-- read (write v) = v
not_19 : (s : Settings) → begins_version2 (text_of 1 s) ≡ false
unfolding begins_version2 same text_of lines_then decimal Rattle.text.specs.Decimal.trimmed Rattle.text.specs.Decimal.digits
not_19 s = refl

pub read_1 : (s : Settings) → Short s → s.plane ≡ 0 → settings_fit s ≡ true → read 1 (text_of 1 s) ≡ is s
unfolding read
read_1 s h z fit = rw (not_19 s) (rw (is_text_law 1 s (said_1 s h z) fit) (ap is (said_1 s h z)))

pub read_2 : (s : Settings) → Short s → settings_fit s ≡ true → read 2 (text_of 2 s) ≡ is s
unfolding read
read_2 s h fit = rw (apart s) (rw (is_text_law 2 s (said_2 s h) fit) (ap is (said_2 s h)))

pub read_2_of_1 : (s : Settings) → Short s → s.plane ≡ 0 → settings_fit s ≡ true → read 2 (text_of 1 s) ≡ is s
unfolding read
read_2_of_1 s h z fit = rw (is_text_law 1 s (said_1 s h z) fit) (ap is (said_1 s h z))
