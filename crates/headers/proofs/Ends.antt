-- Where an accepted identification header ends: every one takes the same number of bits. Assumes nothing.
use Prim.Native.Nat.{ℕ, ◌+◌, ◌-◌, ◌*◌}
use native.Mathlib.Omega.{arith}
use mathlib.Core.Path.{◌≡◌, sym}
use mathlib.Core.List.{List, [], ◌∷◌}
use mathlib.Core.Bool.{Bool, true, false}
use lib.ListN.{length}
use Rattle.bitstream.specs.Reading.{got, Parse, pure, bind, here, guard, field, judged}
use Rattle.bitstream.proofs.Fields.{no_mix, field_value}
use Rattle.bitstream.proofs.Laws.{bind_got}
use Rattle.headers.specs.declared.Session.{Session}
use Rattle.header_groups.specs.Judgement.{spelled, theora, common_header}
use Rattle.header_fields.specs.Tests.{is_exactly, is_positive, is_at_most, is_format}
use Rattle.header_groups.specs.Groups.{rates, coding}
use Rattle.headers.specs.Identification.{identification}
use Rattle.header_fields.specs.Frame.{version, frame_size}

-- what is got, is got from n bits
record Takes {A : Type 0} (n : ℕ) (m : Parse A) : Type 0 where
  takes : (p : List ℕ) (i : ℕ) (a : A) (e : ℕ) → m p i ≡ got a e → e ≡ i + n

takes_as : {A : Type 0} {m : Parse A} {a b : ℕ} → a ≡ b → Takes a m → Takes b m
takes_as h s = record { takes = λ p i x e r. omega (arith, h, s.takes p i x e r) }

pure_takes : {A : Type 0} (a : A) → Takes 0 (pure a)
pure_takes a = record { takes = λ p i x e r. let z : i ≡ e = cc in omega arith }

here_takes : Takes 0 here
here_takes = record { takes = λ p i x e r. let z : i ≡ e = cc in omega arith }

guard_takes : (b : Bool) (k at : ℕ) → Takes 0 (guard b k at)
guard_takes true k at = pure_takes tt
guard_takes false k at = record { takes = λ p i x e r. no_mix (sym r) }

field_takes : (n : ℕ) → Takes n (field n)
field_takes n = record { takes = λ p i v e r. (field_value n p i r).1 }

bind_takes : {A B : Type 0} {a b : ℕ} {m : Parse A} {f : A → Parse B} → Takes a m → ((x : A) → Takes b (f x)) → Takes (a + b) (bind m f)
bind_takes {m = m} {f} s t = record {
  takes = λ p i y e r.
      let u = bind_got m f p i r in
      omega (arith, s.takes p i u.0 u.1 u.2, (t u.0).takes p u.1 y e u.3);
}

judged_takes : (n : ℕ) (test : ℕ → Bool) (k : ℕ) → Takes n (judged n test k)
unfolding judged
judged_takes n test k =
    takes_as (omega arith)
    (bind_takes {a = 0} here_takes (λ at. bind_takes {b = 0} (field_takes n) (λ v. bind_takes {b = 0} (guard_takes (test v) k at) (λ _. pure_takes v))))

spelled_takes : (bs : List ℕ) → Takes (length bs * 8) (spelled bs)
unfolding spelled
spelled_takes [] = pure_takes tt
spelled_takes (b ∷ bs) = takes_as (omega arith) (bind_takes (judged_takes 8 (is_exactly b) 2) (λ _. spelled_takes bs))

-- ---- the groups
header_takes : (mark : ℕ) → Takes 56 (common_header mark)
unfolding common_header
header_takes mark = spelled_takes (mark ∷ theora)

version_takes : Takes 24 version
unfolding version
version_takes = bind_takes (judged_takes 8 (is_exactly 3) 3) (λ vmaj. bind_takes (judged_takes 8 (is_exactly 2) 3) (λ vmin. field_takes 8))

frame_size_takes : Takes 96 frame_size
unfolding frame_size
frame_size_takes =
    bind_takes (judged_takes 16 is_positive 5) (λ fmbw.
    bind_takes (judged_takes 16 is_positive 5) (λ fmbh.
    bind_takes (judged_takes 24 (is_at_most (16 * fmbw)) 5) (λ picw.
    bind_takes (judged_takes 24 (is_at_most (16 * fmbh)) 5) (λ pich.
    bind_takes (judged_takes 8 (is_at_most (16 * fmbw - picw)) 5) (λ picx.
    bind_takes (judged_takes 8 (is_at_most (16 * fmbh - pich)) 5) (λ picy.
    pure_takes _))))))

rates_takes : Takes 120 rates
unfolding rates
rates_takes =
    bind_takes (judged_takes 32 is_positive 5) (λ frn.
    bind_takes (judged_takes 32 is_positive 5) (λ frd.
    bind_takes (field_takes 24) (λ parn.
    bind_takes (field_takes 24) (λ pard.
    bind_takes (field_takes 8) (λ cs.
    pure_takes _)))))

coding_takes : Takes 40 coding
unfolding coding
coding_takes =
    bind_takes (field_takes 24) (λ nombr.
    bind_takes (field_takes 6) (λ qual.
    bind_takes (field_takes 5) (λ kfgshift.
    bind_takes (judged_takes 2 is_format 6) (λ pf.
    bind_takes (judged_takes 3 (is_exactly 0) 6) (λ zero_bits.
    pure_takes _)))))

identification_takes : Takes 336 identification
unfolding identification
identification_takes =
    bind_takes (header_takes 0x80) (λ _.
    bind_takes version_takes (λ v.
    bind_takes frame_size_takes (λ f.
    bind_takes rates_takes (λ r.
    bind_takes coding_takes (λ c.
    pure_takes _)))))

-- "Identification .. 42 bytes": an accepted header ends there
pub identification_ends : (p : List ℕ) {s : Session} {e : ℕ} → identification p 0 ≡ got s e → e ≡ 336
identification_ends p {s} {e} h = omega (arith, identification_takes.takes p 0 s e h)
