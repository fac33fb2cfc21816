-- Every accepted identification header gives a session that fits, without references. Assumes nothing.
use Prim.Native.Nat.{ℕ, ◌*◌, ◌-◌, ◌^◌}
use mathlib.Core.Path.{◌≡◌, refl, sym, ap, ◌∙◌}
use mathlib.Core.List.{List}
use mathlib.Core.Bool.{Bool, true, false}
use lib.Pow.{pow_pos}
use borrow.Author.Tests.{lt-ltb}
use Rattle.bitstream.specs.Reading.{Outcome, got, refused, after, field, judged}
use Rattle.bitstream.proofs.Fields.{no_mix, field_lt}
use Rattle.headers.specs.declared.Session.{Session}
use Rattle.header_fields.specs.declared.FrameSize.{FrameSize}
use Rattle.header_groups.specs.declared.Rates.{Rates}
use Rattle.header_groups.specs.declared.Coding.{Coding}
use Rattle.header_groups.specs.Judgement.{common_header}
use Rattle.header_fields.specs.Tests.{is_exactly, is_positive, is_at_most, is_format}
use Rattle.header_groups.specs.Groups.{rates, coding}
use Rattle.headers.specs.Identification.{fresh_session, identification}
use Rattle.header_fields.specs.Frame.{version, frame_size}
use Rattle.headers.specs.Fits.{within, all, widths_fit, picture_inside, ranges_hold, within_shift, session_fits}
use Rattle.header_fields.proofs.Answers.{judged_got}

-- what a reading that got a value went through: a part of it, a field, a judged field
after_got : {A B : Type 0} (o : Outcome A) (g : A → ℕ → Outcome B) {b : B} {e : ℕ} → after o g ≡ got b e → (a : A) × (d : ℕ) × (o ≡ got a d) × (g a d ≡ got b e)
after_got (got a d) g h = (a, d, refl, h)
after_got (refused k d) g h = no_mix (sym h)

value_same : {A : Type 0} {a b : A} {d e : ℕ} → ◌≡◌ {A = Outcome A} (got a d) (got b e) → a ≡ b
value_same h = cc

field_then : {B : Type 0} (n : ℕ) (g : ℕ → ℕ → Outcome B) (p : List ℕ) (i : ℕ) {b : B} {e : ℕ} → after (field n p i) g ≡ got b e
    → (v : ℕ) × (d : ℕ) × (within n v ≡ true) × (g v d ≡ got b e)
field_then n g p i h = let a = after_got (field n p i) g h in (a.0, a.1, lt-ltb _ _ (field_lt n p i a.2), a.3)

judged_then : {B : Type 0} (n : ℕ) (test : ℕ → Bool) (k : ℕ) (g : ℕ → ℕ → Outcome B) (p : List ℕ) (i : ℕ) {b : B} {e : ℕ} → after (judged n test k p i) g ≡ got b e
    → (v : ℕ) × (d : ℕ) × (within n v ≡ true) × (test v ≡ true) × (g v d ≡ got b e)
judged_then n test k g p i h =
    let a = after_got (judged n test k p i) g h in
    let j = judged_got n test k p i a.2 in
    (a.0, a.1, lt-ltb _ _ j.1, j.0, a.3)

-- the values of the groups
abbrev FrameSizeFits : FrameSize → Type 0
FrameSizeFits f =
    (within 16 f.fmbw ≡ true) × (within 16 f.fmbh ≡ true) × (within 24 f.picw ≡ true) × (within 24 f.pich ≡ true) × (within 8 f.picx ≡ true) × (within 8 f.picy ≡ true)
    × (is_positive f.fmbw ≡ true) × (is_positive f.fmbh ≡ true) × (picture_inside (16 * f.fmbw) f.picw f.picx ≡ true) × (picture_inside (16 * f.fmbh) f.pich f.picy ≡ true)

abbrev RatesFit : Rates → Type 0
RatesFit r =
    (within 32 r.frn ≡ true) × (within 32 r.frd ≡ true) × (within 24 r.parn ≡ true) × (within 24 r.pard ≡ true) × (within 8 r.cs ≡ true)
    × (is_positive r.frn ≡ true) × (is_positive r.frd ≡ true)

abbrev CodingFits : Coding → Type 0
CodingFits c =
    (within 24 c.nombr ≡ true) × (within 6 c.qual ≡ true) × (within 5 c.kfgshift ≡ true) × (within 2 c.pf ≡ true) × (is_format c.pf ≡ true)

version_value : (p : List ℕ) (i : ℕ) {v e : ℕ} → version p i ≡ got v e → within 8 v ≡ true
unfolding version
version_value p i h =
    let a = judged_then 8 (is_exactly 3) 3 _ p i h in
    let b = judged_then 8 (is_exactly 2) 3 _ p a.1 a.4 in
    lt-ltb _ _ (field_lt 8 p b.1 b.4)

frame_size_value : (p : List ℕ) (i : ℕ) {f : FrameSize} {e : ℕ} → frame_size p i ≡ got f e → FrameSizeFits f
unfolding frame_size picture_inside
frame_size_value p i {f} {e} h =
    let fmbw = judged_then 16 is_positive 5 _ p i h in
    let fmbh = judged_then 16 is_positive 5 _ p fmbw.1 fmbw.4 in
    let picw = judged_then 24 (is_at_most (16 * fmbw.0)) 5 _ p fmbh.1 fmbh.4 in
    let pich = judged_then 24 (is_at_most (16 * fmbh.0)) 5 _ p picw.1 picw.4 in
    let picx = judged_then 8 (is_at_most (16 * fmbw.0 - picw.0)) 5 _ p pich.1 pich.4 in
    let picy = judged_then 8 (is_at_most (16 * fmbh.0 - pich.0)) 5 _ p picx.1 picx.4 in
    let z : f ≡ record { fmbw = fmbw.0; fmbh = fmbh.0; picw = picw.0; pich = pich.0; picx = picx.0; picy = picy.0 } = sym (value_same picy.4) in
    rw z (fmbw.2, fmbh.2, picw.2, pich.2, picx.2, picy.2, fmbw.3, fmbh.3, rw picw.3 picx.3, rw pich.3 picy.3)

rates_value : (p : List ℕ) (i : ℕ) {r : Rates} {e : ℕ} → rates p i ≡ got r e → RatesFit r
unfolding rates
rates_value p i {r} {e} h =
    let frn = judged_then 32 is_positive 5 _ p i h in
    let frd = judged_then 32 is_positive 5 _ p frn.1 frn.4 in
    let parn = field_then 24 _ p frd.1 frd.4 in
    let pard = field_then 24 _ p parn.1 parn.3 in
    let cs = field_then 8 _ p pard.1 pard.3 in
    let z : r ≡ record { frn = frn.0; frd = frd.0; parn = parn.0; pard = pard.0; cs = cs.0 } = sym (value_same cs.3) in
    rw z (frn.2, frd.2, parn.2, pard.2, cs.2, frn.3, frd.3)

coding_value : (p : List ℕ) (i : ℕ) {c : Coding} {e : ℕ} → coding p i ≡ got c e → CodingFits c
unfolding coding
coding_value p i {c} {e} h =
    let nombr = field_then 24 _ p i h in
    let qual = field_then 6 _ p nombr.1 nombr.3 in
    let kfgshift = field_then 5 _ p qual.1 qual.3 in
    let pf = judged_then 2 is_format 6 _ p kfgshift.1 kfgshift.3 in
    let zero_bits = judged_then 3 (is_exactly 0) 6 _ p pf.1 pf.4 in
    let z : c ≡ record { nombr = nombr.0; qual = qual.0; kfgshift = kfgshift.0; pf = pf.0 } = sym (value_same zero_bits.4) in
    rw z (nombr.2, qual.2, kfgshift.2, pf.2, pf.3)

fresh_fits : (v : ℕ) (f : FrameSize) (r : Rates) (c : Coding) → within 8 v ≡ true → FrameSizeFits f → RatesFit r → CodingFits c → session_fits (fresh_session v f r c) ≡ true
unfolding session_fits widths_fit ranges_hold within_shift all
fresh_fits v f r c vv fv rv cv =
    rw (lt-ltb 0 (2 ^ c.kfgshift) (pow_pos c.kfgshift), vv, fv.0, fv.1, fv.2, fv.3, fv.4, fv.5, fv.6, fv.7, fv.8, fv.9, rv.0, rv.1, rv.2, rv.3, rv.4, rv.5, rv.6, cv.0, cv.1, cv.2, cv.3, cv.4)

pub accepted_fits : (p : List ℕ) (i : ℕ) {s : Session} {e : ℕ} → identification p i ≡ got s e → (session_fits s ≡ true) × (s.references ≡ false) × (s.key_frames ≡ 0) × (s.others ≡ 0)
unfolding identification
accepted_fits p i {s} {e} h =
    let h0 = after_got (common_header 0x80 p i) _ h in
    let v = after_got (version p h0.1) _ h0.3 in
    let f = after_got (frame_size p v.1) _ v.3 in
    let r = after_got (rates p f.1) _ f.3 in
    let c = after_got (coding p r.1) _ r.3 in
    let z : s ≡ fresh_session v.0 f.0 r.0 c.0 = sym (value_same c.3) in (
      ap session_fits z ∙ fresh_fits v.0 f.0 r.0 c.0 (version_value p h0.1 v.2) (frame_size_value p v.1 f.2) (rates_value p f.1 r.2) (coding_value p r.1 c.2),
      ap (λ (x : Session). x.references) z,
      ap (λ (x : Session). x.key_frames) z,
      ap (λ (x : Session). x.others) z,
    )
