-- Sessions and the numbers of their streams. The one file that opens number 8. Assumes nothing.
use Prim.Native.Nat.{ℕ, zero, suc, ◌*◌, ◌-◌, ◌/◌, ◌%◌, ◌^◌, ◌≤◌}
use native.Mathlib.Omega.{arith}
use mathlib.Core.Path.{◌≡◌, refl, sym}
use mathlib.Core.Bool.{Bool, true, false, not, ◌&&◌, ◌||◌}
use mathlib.Core.List.{[], ◌∷◌}
use mathlib.Core.Logic.{inl, inr}
use lib.Dec.{eqb, ltb, lit<}
use borrow.Author.Tests.{ltb-true, lt-ltb, eqb-true, eqb-false, eq-eqb, ne_eqb, le-leb, not-true}
use Rattle.bitstream.specs.Reading.{choose}
use Rattle.headers.specs.declared.Fields.{Fields}
use Rattle.headers.specs.declared.Session.{Session}
use Rattle.headers.specs.Fits.{all, widths_fit, picture_inside, ranges_hold, within_shift, session_fits}
use Rattle.bitstream.proofs.ListLaws.{and_both}
use Rattle.headers.proofs.Fitting.{all_at}
use Rattle.stream_numbers.specs.declared.Numbers.{Numbers}
use Rattle.stream_numbers.specs.Numbers.{aspect, numbers_of}
use Rattle.y4m.specs.Film.{size_fits, rate_fits, aspect_fits, format_fits, numbers_fit}
use Rattle.y4m.proofs.Fitting.{Between, Aspects, Format, Fit, fit}

fits_both : (s : Session) → session_fits s ≡ true → (widths_fit s.fields ≡ true) × (ranges_hold s.fields ≡ true)
unfolding session_fits
fits_both s h = let a = and_both _ _ h in (a.0, (and_both _ _ a.1).0)

-- what number 8 says of the fields that a stream's header has
pub record InRange (f : Fields) : Type 0 where
  pub fmbw : Between 1 f.fmbw 65535
  pub fmbh : Between 1 f.fmbh 65535
  pub frn : Between 1 f.frn 4294967295
  pub frd : Between 1 f.frd 4294967295
  pub parn : f.parn ≤ 16777215
  pub pard : f.pard ≤ 16777215
  pub pf : f.pf ≤ 3
  pub pf_not : eqb f.pf 1 ≡ false

in_range : (f : Fields) → widths_fit f ≡ true → ranges_hold f ≡ true → InRange f
unfolding widths_fit ranges_hold
in_range f w r =
    let fmbw = ltb-true f.fmbw (2 ^ 16) (all_at _ 1 w (lit< tt)) in
    let fmbh = ltb-true f.fmbh (2 ^ 16) (all_at _ 2 w (lit< tt)) in
    let frn = ltb-true f.frn (2 ^ 32) (all_at _ 7 w (lit< tt)) in
    let frd = ltb-true f.frd (2 ^ 32) (all_at _ 8 w (lit< tt)) in
    let parn = ltb-true f.parn (2 ^ 24) (all_at _ 9 w (lit< tt)) in
    let pard = ltb-true f.pard (2 ^ 24) (all_at _ 10 w (lit< tt)) in
    let pf = ltb-true f.pf (2 ^ 2) (all_at _ 15 w (lit< tt)) in record {
      fmbw = record { least = ltb-true 0 f.fmbw (all_at _ 0 r (lit< tt)); most = omega arith };
      fmbh = record { least = ltb-true 0 f.fmbh (all_at _ 1 r (lit< tt)); most = omega arith };
      frn = record { least = ltb-true 0 f.frn (all_at _ 4 r (lit< tt)); most = omega arith };
      frd = record { least = ltb-true 0 f.frd (all_at _ 5 r (lit< tt)); most = omega arith };
      parn = omega arith;
      pard = omega arith;
      pf = omega arith;
      pf_not = not-true (eqb f.pf 1) (all_at _ 6 r (lit< tt));
    }

pub session_range : (s : Session) → session_fits s ≡ true → InRange s.fields
session_range s h = let b = fits_both s h in in_range s.fields b.0 b.1

-- ---- a session that passes 8 has numbers that fit
size_fits_law : (m : ℕ) → Between 1 m 65535 → size_fits (16 * m) ≡ true
size_fits_law m b =
    let z : 16 * m % 16 ≡ 0 = omega arith in
    rw (eq-eqb (16 * m % 16) 0 z, le-leb 16 (16 * m) (omega (arith, b.least)), le-leb (16 * m) 1048560 (omega (arith, b.most)))

rate_fits_law : (v : ℕ) → Between 1 v 4294967295 → rate_fits v ≡ true
rate_fits_law v b = rw (le-leb 1 v b.least, le-leb v 4294967295 b.most)

-- "if either aspect number is 0"
aspect_fits_law : (a b : ℕ) (x y : Bool) → eqb a 0 ≡ x → eqb b 0 ≡ y → a ≤ 16777215 → b ≤ 16777215 → aspect_fits (choose y 0 a) (choose x 0 b) ≡ true
aspect_fits_law a b true true ea eb la lb = refl
aspect_fits_law a b true false ea eb la lb = rw (eqb-true a 0 ea)
aspect_fits_law a b false true ea eb la lb = rw (eqb-true b 0 eb)
aspect_fits_law a b false false ea eb la lb =
    let p = le-leb 1 a (some a ea) in
    let q = le-leb a 16777215 la in
    let r = le-leb 1 b (some b eb) in
    let t = le-leb b 16777215 lb in
    λ i. (ea i && eb i) || ((p i && q i) && (r i && t i))
  where
    some : (v : ℕ) → eqb v 0 ≡ false → 1 ≤ v
    some zero e = absurd (eqb-false 0 0 e refl)
    some (suc v) e = omega arith

format_fits_law : (pf : ℕ) → pf ≤ 3 → eqb pf 1 ≡ false → format_fits pf ≡ true
format_fits_law zero h e = refl
format_fits_law (suc zero) h e = absurd (eqb-false 1 1 e refl)
format_fits_law (suc (suc zero)) h e = refl
format_fits_law (suc (suc (suc zero))) h e = refl
format_fits_law (suc (suc (suc (suc k)))) h e = absurd (omega arith)

pub numbers_fit_law : (s : Session) → session_fits s ≡ true → numbers_fit (numbers_of s) ≡ true
unfolding numbers_fit numbers_of aspect
numbers_fit_law s h =
    let f = s.fields in
    let r = session_range s h in
    rw (
      size_fits_law f.fmbw r.fmbw,
      size_fits_law f.fmbh r.fmbh,
      rate_fits_law f.frn r.frn,
      rate_fits_law f.frd r.frd,
      aspect_fits_law f.parn f.pard (eqb f.parn 0) (eqb f.pard 0) refl refl r.parn r.pard,
      format_fits_law f.pf r.pf r.pf_not,
    )

-- ---- numbers that fit are those of a session that passes 8
abbrev pub some_session : Numbers → Session
some_session n = record {
  fields = record {
    vrev = 0;
    fmbw = n.width / 16;
    fmbh = n.height / 16;
    picw = 0;
    pich = 0;
    picx = 0;
    picy = 0;
    frn = n.frn;
    frd = n.frd;
    parn = n.parn;
    pard = n.pard;
    cs = 0;
    nombr = 0;
    qual = 0;
    kfgshift = 0;
    pf = n.pf;
  };
  references = false;
  key_frames = 0;
  others = 0;
}

format_in : (pf : ℕ) → Format pf → (ltb pf (2 ^ 2) ≡ true) × (eqb pf 1 ≡ false)
format_in pf (inl e) = rw e (refl, refl)
format_in pf (inr (inl e)) = rw e (refl, refl)
format_in pf (inr (inr e)) = rw e (refl, refl)

some_widths : (n : Numbers) → Fit n → widths_fit (some_session n).fields ≡ true
unfolding widths_fit all
some_widths n f =
    let a = lt-ltb (n.width / 16) (2 ^ 16) (omega (arith, f.width.most)) in
    let b = lt-ltb (n.height / 16) (2 ^ 16) (omega (arith, f.height.most)) in
    let c = lt-ltb n.frn (2 ^ 32) (omega (arith, f.frn.most)) in
    let d = lt-ltb n.frd (2 ^ 32) (omega (arith, f.frd.most)) in
    let e = lt-ltb n.parn (2 ^ 24) (omega (arith, f.aspect_small.0)) in
    let g = lt-ltb n.pard (2 ^ 24) (omega (arith, f.aspect_small.1)) in
    let p = (format_in n.pf f.format).0 in
    λ i. all (true ∷ a i ∷ b i ∷ true ∷ true ∷ true ∷ true ∷ c i ∷ d i ∷ e i ∷ g i ∷ true ∷ true ∷ true ∷ true ∷ p i ∷ [])

inside_none : (frame : ℕ) → picture_inside frame 0 0 ≡ true
unfolding picture_inside
inside_none frame = let a = le-leb 0 frame (omega arith) in let b = le-leb 0 (frame - 0) (omega arith) in λ i. a i && b i

some_ranges : (n : Numbers) → Fit n → ranges_hold (some_session n).fields ≡ true
unfolding ranges_hold all
some_ranges n f =
    let a = lt-ltb 0 (n.width / 16) f.width.some in
    let b = lt-ltb 0 (n.height / 16) f.height.some in
    let x = inside_none (16 * (n.width / 16)) in
    let y = inside_none (16 * (n.height / 16)) in
    let c = lt-ltb 0 n.frn f.frn.least in
    let d = lt-ltb 0 n.frd f.frd.least in
    let p = (format_in n.pf f.format).1 in
    λ i. all (a i ∷ b i ∷ x i ∷ y i ∷ c i ∷ d i ∷ not (p i) ∷ [])

some_fits : (n : Numbers) → Fit n → session_fits (some_session n) ≡ true
unfolding session_fits within_shift
some_fits n f = let w = some_widths n f in let r = some_ranges n f in λ i. w i && (r i && true)

aspect_same : (a b : ℕ) → Aspects a b → (aspect a b ≡ a) × (aspect b a ≡ b)
unfolding aspect
aspect_same a b (inl e) = rw (e.0, e.1) (refl, refl)
aspect_same a b (inr e) = rw (ne_eqb a 0 (λ z. omega (arith, e.0.least)), ne_eqb b 0 (λ z. omega (arith, e.1.least))) (refl, refl)

some_numbers : (n : Numbers) → Fit n → numbers_of (some_session n) ≡ n
unfolding numbers_of
some_numbers n f =
    let a = aspect_same n.parn n.pard f.aspect in
    λ i. record { width = sym f.width.is i; height = sym f.height.is i; frn = n.frn; frd = n.frd; parn = a.0 i; pard = a.1 i; pf = n.pf }

pub some_session_law : (n : Numbers) → numbers_fit n ≡ true → (session_fits (some_session n) ≡ true) × (numbers_of (some_session n) ≡ n)
some_session_law n h = let f = fit n h in (some_fits n f, some_numbers n f)
