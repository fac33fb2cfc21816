-- Sessions that fit: what their fields are, and that every accepted identification header gives one. Assumes nothing.
use Prim.Native.Nat.{ℕ, zero, suc, ◌*◌, ◌%◌, ◌^◌, ◌≤◌, ◌<◌}
use native.Mathlib.Omega.{arith}
use mathlib.Core.Path.{◌≡◌, refl, sym, ◌∙◌}
use mathlib.Core.List.{List, [], ◌∷◌}
use native.Mathlib.Nat.{lt_of_lt_of_le, one-mul}
use lib.ListN.{length, get_or}
use lib.Dec.{lit<}
use mathlib.Core.Bool.{Bool, true, false, ◌&&◌, false≢true, and-true, and_assoc}
use borrow.Author.Tests.{ltb-true, lt-ltb}
use Rattle.bitstream.proofs.ListLaws.{and_both}
use Rattle.headers.specs.declared.Fields.{Fields}
use Rattle.headers.specs.declared.Session.{Session}
use Rattle.headers.specs.Fits.{all, widths_fit, ranges_hold, within_shift, session_fits}
use lib.Pow.{pow_mono, pow_pos, shl_exact}

-- tests joined by `&` in the code, from the left
abbrev pub chain : Bool → List Bool → Bool
chain a [] = a
chain a (b ∷ bs) = chain (a && b) bs

chain_and : (a : Bool) (bs : List Bool) → chain a bs ≡ (a && all bs)
unfolding all
chain_and a [] = sym (and-true a)
chain_and a (b ∷ bs) = chain_and (a && b) bs ∙ and_assoc a b (all bs)

pub chain_all : (b : Bool) (bs : List Bool) → chain b bs ≡ all (b ∷ bs)
unfolding all
chain_all b bs = chain_and b bs

-- a list of tests that hold: each of them
pub all_at : (bs : List Bool) (k : ℕ) → all bs ≡ true → k < length bs → get_or bs k false ≡ true
unfolding all
all_at (true ∷ bs) zero h l = refl
all_at (true ∷ bs) (suc k) h l = all_at bs k h (omega arith)
all_at (false ∷ bs) k h l = absurd (false≢true h)
all_at [] k h l = absurd (omega arith)

pub widths_macro_blocks : (f : Fields) → widths_fit f ≡ true → (f.fmbw < 2 ^ 16) × (f.fmbh < 2 ^ 16)
unfolding widths_fit
widths_macro_blocks f h = (ltb-true _ _ (all_at _ 1 h (lit< tt)), ltb-true _ _ (all_at _ 2 h (lit< tt)))

ranges_macro_blocks : (f : Fields) → ranges_hold f ≡ true → (0 < f.fmbw) × (0 < f.fmbh)
unfolding ranges_hold
ranges_macro_blocks f h = (ltb-true _ _ (all_at _ 0 h (lit< tt)), ltb-true _ _ (all_at _ 1 h (lit< tt)))

pub widths_shift : (f : Fields) → widths_fit f ≡ true → f.kfgshift < 32
unfolding widths_fit
widths_shift f h = ltb-true _ _ (all_at _ 14 h (lit< tt))

fits_all : (s : Session) → session_fits s ≡ true → (widths_fit s.fields ≡ true) × (ranges_hold s.fields ≡ true) × (within_shift s.fields s.others ≡ true)
unfolding session_fits
fits_all s h = let a = and_both _ _ h in let b = and_both _ _ a.1 in (a.0, b.0, b.1)

-- the second number is below 2 to the power KFGSHIFT, which has 5 bits
pub fits_others : (s : Session) → session_fits s ≡ true → (s.fields.kfgshift < 32) × (s.others < 2 ^ 31)
unfolding within_shift
fits_others s h =
    let f = fits_all s h in
    let k = widths_shift s.fields f.0 in
    let l : s.fields.kfgshift ≤ 31 = omega arith in
    (k, lt_of_lt_of_le (ltb-true _ _ f.2) (pow_mono l))

-- a frame has 1 to 65,535 macro blocks each way
pub fits_macro_blocks : (s : Session) → session_fits s ≡ true → (0 < s.fields.fmbw) × (s.fields.fmbw ≤ 65535) × (0 < s.fields.fmbh) × (s.fields.fmbh ≤ 65535)
fits_macro_blocks s h =
    let f = fits_all s h in
    let w = widths_macro_blocks s.fields f.0 in
    let r = ranges_macro_blocks s.fields f.1 in
    (r.0, omega arith, r.1, omega arith)

-- 2 to the power KFGSHIFT, as the code makes it
pub one_shifted : (f : Fields) → f.kfgshift < 32 → 1 * 2 ^ f.kfgshift % 2 ^ 64 ≡ 2 ^ f.kfgshift
one_shifted f h = shl_exact {a = 1} 1 f.kfgshift 64 (omega arith) (omega arith) ∙ one-mul (2 ^ f.kfgshift)

-- a session with other flags and numbers fits, if its second number keeps its bound
pub others_fit : (s : Session) → session_fits s ≡ true → (references : Bool) (keys others : ℕ) → within_shift s.fields others ≡ true
    → session_fits (record { fields = s.fields; references = references; key_frames = keys; others = others }) ≡ true
unfolding session_fits
others_fit s h references keys others w = let f = fits_all s h in rw (f.0, f.1, w)

pub none_fit : (s : Session) → session_fits s ≡ true → (references : Bool) (keys : ℕ) → session_fits (record { fields = s.fields; references = references; key_frames = keys; others = 0 }) ≡ true
unfolding within_shift
none_fit s h references keys = others_fit s h references keys 0 (lt-ltb 0 (2 ^ s.fields.kfgshift) (pow_pos s.fields.kfgshift))
