-- The session's two numbers: their bounds as the code tests them. Assumes nothing.
use Prim.Native.Nat.{◌+◌, ◌^◌, ◌<◌}
use native.Mathlib.Omega.{arith}
use mathlib.Core.Path.{◌≡◌, refl, sym, ap, ◌∙◌}
use mathlib.Core.Bool.{Bool, true, false}
use lib.Dec.{ltb}
use borrow.Author.Tests.{ltb-true, ltb-false, lt-ltb, le-ltb}
use Rattle.headers.specs.declared.Session.{Session}
use Rattle.headers.specs.Fits.{session_fits}
use Rattle.headers.proofs.Fitting.{fits_others}
use Rattle.frame_header.specs.declared.Kind.{Kind}
use Rattle.frame_header.specs.declared.Kind.TheVariants.{Intra}
use Rattle.session_steps.specs.Steps.{stays_counted}

-- one more does not pass 64 bits
pub keys_few : (kind : Kind) (s : Session) → stays_counted kind s ≡ true → kind ≡ Intra → s.key_frames + 1 < 2 ^ 64
unfolding stays_counted
keys_few kind s c k = ltb-true _ _ (sym (ap (λ (x : Kind). stays_counted x s) k) ∙ c)

pub others_few : (s : Session) → session_fits s ≡ true → s.others + 1 < 2 ^ 64
others_few s h = omega (arith, (fits_others s h).1)

-- the test of a key frame, as the code makes it
pub keys_test : (s : Session) → ltb s.key_frames 18446744073709551615 ≡ stays_counted Intra s
unfolding stays_counted
keys_test s = go (ltb s.key_frames 18446744073709551615) refl
  where
    go : (b : Bool) → ltb s.key_frames 18446744073709551615 ≡ b → b ≡ ltb (s.key_frames + 1) (2 ^ 64)
    go true h = sym (lt-ltb (s.key_frames + 1) (2 ^ 64) (omega (arith, ltb-true s.key_frames 18446744073709551615 h)))
    go false h = sym (le-ltb (s.key_frames + 1) (2 ^ 64) (omega (arith, ltb-false s.key_frames 18446744073709551615 h)))
