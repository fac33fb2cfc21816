-- The third law: how many bits a parser may need. From the place i,
--     ends     what it gets ends at i + n or before
--     short    it refuses by 4 only where fewer than i + n bits are there
-- Assumes nothing.
use Prim.Native.Nat.{ℕ, zero, suc, ◌+◌, ◌-◌, ◌*◌, ◌≤◌, ◌<◌, ◌^◌}
use native.Mathlib.Omega.{arith}
use native.Mathlib.Nat.{zero-mul, suc-mul}
use mathlib.Core.Path.{◌≡◌, refl, sym, ap, ◌∙◌}
use mathlib.Core.List.{List, [], ◌∷◌, ◌++◌}
use mathlib.Core.Bool.{Bool, true, false}
use lib.Dec.{leb, eqb}
use lib.ListN.{length, take, drop, length-take, take-append-drop}
use lib.Seq.{take_all, length-take-le}
use Rattle.bitstream.specs.Answer.{readable}
use borrow.Author.Tests.{leb-true, leb-false, eqb-true, eqb-false}
use Rattle.bitstream.specs.Bits.{bits}
use Rattle.bitstream.specs.Reading.{Outcome, got, refused, Parse, after, pure, bind, here, refuse, guard, field, judged, whole, until, pick, many}
use Rattle.bitstream.proofs.Laws.{Lawful, got_more, refused_more, whole_cases}
use Rattle.bitstream.proofs.Fields.{no_mix, field_cases, field_value, field_lt}

pub record Spends {A : Type 0} (n : ℕ) (m : Parse A) : Type 0 where
  pub ends : (p : List ℕ) (i : ℕ) (a : A) (e : ℕ) → m p i ≡ got a e → e ≤ i + n
  pub short : (p : List ℕ) (i e : ℕ) → m p i ≡ refused 4 e → bits p < i + n

-- a larger bound
pub spends_more : {A : Type 0} {m : Parse A} {a b : ℕ} → a ≤ b → Spends a m → Spends b m
spends_more h s = record { ends = λ p i x e r. omega (arith, s.ends p i x e r); short = λ p i e r. omega (arith, s.short p i e r) }

pub pure_spends : {A : Type 0} (a : A) → Spends 0 (pure a)
pure_spends a = record { ends = λ p i x e r. let z : i ≡ e = cc in omega arith; short = λ p i e r. no_mix r }

pub refuse_spends : {A : Type 0} (k e : ℕ) → (k ≡ 4 → ⊥) → Spends 0 (refuse {A = A} k e)
refuse_spends k e h = record { ends = λ p i x d r. no_mix (sym r); short = λ p i d r. absurd (h cc) }

pub guard_spends : (b : Bool) (k e : ℕ) → (k ≡ 4 → ⊥) → Spends 0 (guard b k e)
guard_spends true k e h = pure_spends tt
guard_spends false k e h = refuse_spends k e h

pub field_spends : (n : ℕ) → Spends n (field n)
field_spends n =
    record {
      ends = λ p i a e r. let v = field_value n p i r in omega arith;
      short = λ p i e r. field_cases n p i (λ h s. no_mix (sym s ∙ r)) (λ h s. h);
    }

-- the second part may use what it knows of the value that was got
pub bind_spends_got : {A B : Type 0} {m : Parse A} {f : A → Parse B} {a b : ℕ} → Spends a m
    → ((x : A) → ((p : List ℕ) (i e : ℕ) → (m p i ≡ got x e) → Spends b (f x))) → Spends (a + b) (bind m f)
bind_spends_got {A} {B} {m} {f} {a} {b} sm sf =
    record {
      ends = λ p i y e r. go_ends p i y e (m p i) refl r;
      short = λ p i e r. go_short p i e (m p i) refl r;
    }
  where
    go_ends : (p : List ℕ) (i : ℕ) (y : B) (e : ℕ) (o : Outcome A) → m p i ≡ o → after o (λ x d. f x p d) ≡ got y e → e ≤ i + (a + b)
    go_ends p i y e (got x d) s r = omega (arith, sm.ends p i x d s, (sf x p i d s).ends p d y e r)
    go_ends p i y e (refused k d) s r = no_mix (sym r)

    go_short : (p : List ℕ) (i e : ℕ) (o : Outcome A) → m p i ≡ o → after o (λ x d. f x p d) ≡ refused 4 e → bits p < i + (a + b)
    go_short p i e (got x d) s r = omega (arith, sm.ends p i x d s, (sf x p i d s).short p d e r)
    go_short p i e (refused k d) s r = let z : k ≡ 4 = cc in omega (arith, sm.short p i d (s ∙ ap (λ (j : ℕ). refused j d) z))

pub bind_spends : {A B : Type 0} {m : Parse A} {f : A → Parse B} {a b : ℕ} → Spends a m → ((x : A) → Spends b (f x)) → Spends (a + b) (bind m f)
bind_spends sm sf = bind_spends_got sm (λ x p i e s. sf x)

-- a field whose value is a width or a count: it is below 2 ^ n
pub field_then : {B : Type 0} (n : ℕ) {f : ℕ → Parse B} {b : ℕ} → ((v : ℕ) → v < 2 ^ n → Spends b (f v)) → Spends (n + b) (bind (field n) f)
field_then n s = bind_spends_got (field_spends n) (λ v p i e r. s v (field_lt n p i r))

-- a place costs nothing, and a judgement that is passed tells its test
pub here_then : {B : Type 0} {f : ℕ → Parse B} {b : ℕ} → ((at : ℕ) → Spends b (f at)) → Spends b (bind here f)
here_then s = record { ends = λ p i y e r. (s i).ends p i y e r; short = λ p i e r. (s i).short p i e r }

pub guard_then : {B : Type 0} {f : Unit {0} → Parse B} {b : ℕ} (t : Bool) (k e : ℕ) → (k ≡ 4 → ⊥) → ((u : Unit {0}) → t ≡ true → Spends b (f u)) → Spends b (bind (guard t k e) f)
guard_then true k e h s = let g = s tt refl in record { ends = λ p i y d r. g.ends p i y d r; short = λ p i d r. g.short p i d r }
guard_then false k e h s = record { ends = λ p i y d r. no_mix (sym r); short = λ p i d r. absurd (h cc) }

-- a first part whose value tells what it cost, w: what is left of n is for the second part
pub bind_spends_by : {A B : Type 0} {m : Parse A} {f : A → Parse B} {n : ℕ} (w : A → ℕ) → ((p : List ℕ) (i e : ℕ) → m p i ≡ refused 4 e → bits p < i + n)
    → ((p : List ℕ) (i : ℕ) (x : A) (e : ℕ) → m p i ≡ got x e → (e ≤ i + w x) × (w x ≤ n) × Spends (n - w x) (f x)) → Spends n (bind m f)
bind_spends_by {A} {B} {m} {f} {n} w sm sf =
    record {
      ends = λ p i y e r. go_ends p i y e (m p i) refl r;
      short = λ p i e r. go_short p i e (m p i) refl r;
    }
  where
    go_ends : (p : List ℕ) (i : ℕ) (y : B) (e : ℕ) (o : Outcome A) → m p i ≡ o → after o (λ x d. f x p d) ≡ got y e → e ≤ i + n
    go_ends p i y e (got x d) s r = let g = sf p i x d s in omega (arith, g.0, g.1, g.2.ends p d y e r)
    go_ends p i y e (refused k d) s r = no_mix (sym r)

    go_short : (p : List ℕ) (i e : ℕ) (o : Outcome A) → m p i ≡ o → after o (λ x d. f x p d) ≡ refused 4 e → bits p < i + n
    go_short p i e (got x d) s r = let g = sf p i x d s in omega (arith, g.0, g.1, g.2.short p d e r)
    go_short p i e (refused k d) s r = let z : k ≡ 4 = cc in sm p i d (s ∙ ap (λ (j : ℕ). refused j d) z)

pub judged_spends : (n : ℕ) (test : ℕ → Bool) (k : ℕ) → (k ≡ 4 → ⊥) → Spends n (judged n test k)
unfolding judged
judged_spends n test k h = spends_more (omega arith) (here_then (λ at. bind_spends {b = 0} (field_spends n) (λ v. guard_then (test v) k at h (λ _ _. pure_spends v))))

pub whole_spends : {A : Type 0} {n : ℕ} {m : Parse A} → Spends n m → Spends n (whole m)
whole_spends {A} {n} {m} s =
    record {
      ends = λ p i a e r. whole_cases m p i (λ b d t w. s.ends p i a e (t ∙ (sym w ∙ r))) (λ k d t w. no_mix (sym r ∙ w));
      short = λ p i e r. whole_cases m p i (λ b d t w. no_mix (sym w ∙ r))
          (λ k d t w. let y = sym w ∙ r in let z : k ≡ 4 = cc in s.short p i d (t ∙ ap (λ (j : ℕ). refused j d) z));
    }

pub pick_spends : {A : Type 0} {a : ℕ} (b : Bool) {m n : Parse A} → (b ≡ true → Spends a m) → (b ≡ false → Spends a n) → Spends a (pick b m n)
pick_spends true sm sn = sm refl
pick_spends false sm sn = sn refl

pub many_spends : {A : Type 0} (n : ℕ) {a : ℕ} {m : Parse A} → Spends a m → Spends (n * a) (many n m)
unfolding many
many_spends zero {a} s = rw zero-mul (pure_spends [])
many_spends (suc n) {a} s = spends_more (rw suc-mul (omega arith)) (bind_spends s (λ x. bind_spends (many_spends n s) (λ l. pure_spends (x ∷ l))))

pub until_spends : {S : Type 0} (stop : S → Bool) (step : S → Parse S) (k n : ℕ) {a : ℕ} (s : S) → (k ≡ 4 → ⊥) → ((s : S) → Spends a (step s)) → Spends (n * a) (until stop step k n s)
unfolding until
until_spends stop step k zero {a} s h l = rw zero-mul (pick_spends (stop s) (λ _. pure_spends s) (λ _. here_then (λ at. refuse_spends k at h)))
until_spends stop step k (suc n) {a} s h l =
    pick_spends (stop s) (λ _. spends_more (omega arith) (pure_spends s))
    (λ _. spends_more (rw suc-mul (omega arith)) (bind_spends (l s) (λ t. until_spends stop step k n t h l)))

-- ---- packets of any length: one that is cut to its first k bytes, where no more is ever needed, is read as the whole
pub cut_same : {A : Type 0} {m : Parse A} {n : ℕ} → Lawful m → Spends n m → (p : List ℕ) (i k : ℕ) → i ≤ bits (take k p) → i + n ≤ k * 8 → m (take k p) i ≡ m p i
cut_same {A} {m} {n} l s p i k h r = go (m (take k p) i) refl
  where
    whole : take k p ++ drop k p ≡ p
    whole = take-append-drop k p

    short : bits (take k p) < i + n → take k p ≡ p
    short b = take_all k p (go_le (leb (length p) k) refl)
      where
        go_le : (t : Bool) → leb (length p) k ≡ t → length p ≤ k
        go_le true t = leb-true _ _ t
        go_le false t = let j : k < length p = leb-false _ _ t in let e : length (take k p) ≡ k = length-take-le k p (omega arith) in absurd (omega arith)

    go : (o : Outcome A) → m (take k p) i ≡ o → m (take k p) i ≡ m p i
    go (got a e) q = q ∙ sym (ap (λ (x : List ℕ). m x i) (sym whole) ∙ got_more l (take k p) (drop k p) i a e h q)
    go (refused j e) q = go_four (eqb j 4) refl
      where
        go_four : (t : Bool) → eqb j 4 ≡ t → m (take k p) i ≡ m p i
        go_four true t = let z : j ≡ 4 = eqb-true _ _ t in ap (λ (x : List ℕ). m x i) (short (s.short (take k p) i e (q ∙ ap (λ (j : ℕ). refused j e) z)))
        go_four false t = q ∙ sym (ap (λ (x : List ℕ). m x i) (sym whole) ∙ refused_more l (take k p) (drop k p) i j e h q (eqb-false _ _ t))

-- so the part that is handed on to readers is read as the whole packet, by every parser that spends fewer than 2 ^ 61 bits
pub readable_same : {A : Type 0} {m : Parse A} {n : ℕ} → Lawful m → Spends n m → n ≤ 2 ^ 58 * 8 → (p : List ℕ) → m (readable p) 0 ≡ m p 0
readable_same l s h p = cut_same l s p 0 (2 ^ 58) (omega arith) (omega arith)

pub readable_short : (p : List ℕ) → length (readable p) ≤ 2 ^ 58
readable_short p = omega (arith, length-take (2 ^ 58) p)
