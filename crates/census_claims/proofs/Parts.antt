-- Sums of parts of a report. Assumes nothing.
use Prim.Native.Nat.{ℕ, zero, suc, ◌+◌, ◌<◌}
use native.Mathlib.Omega.{arith}
use mathlib.Core.Path.{◌≡◌, refl, ap, ◌∙◌}
use mathlib.Core.List.{List, [], ◌∷◌, ◌++◌}
use lib.ListN.{length, get_or, take, drop, replicate, get_or-replicate, get_or-append}
use lib.Seq.{take_all}
use Rattle.counting.specs.Counts.{sum}
use Rattle.report.specs.Report.{plus}
use Rattle.census_claims.specs.Sums.{part}

sum_plus : (l m : List ℕ) → length l ≡ length m → sum (plus l m) ≡ sum l + sum m
unfolding sum plus
sum_plus [] [] h = refl
sum_plus [] (y ∷ m) h = absurd (omega arith)
sum_plus (x ∷ l) [] h = absurd (omega arith)
sum_plus (x ∷ l) (y ∷ m) h = let e = sum_plus l m (omega arith) in omega (arith, e)

take_plus : (n : ℕ) (l m : List ℕ) → take n (plus l m) ≡ plus (take n l) (take n m)
unfolding plus
take_plus zero l m = refl
take_plus (suc n) [] m = refl
take_plus (suc n) (x ∷ l) [] = refl
take_plus (suc n) (x ∷ l) (y ∷ m) = ap (λ (k : List ℕ). (x + y) ∷ k) (take_plus n l m)

plus_nil : (l : List ℕ) → [] ≡ plus l []
unfolding plus
plus_nil [] = refl
plus_nil (x ∷ l) = refl

drop_plus : (n : ℕ) (l m : List ℕ) → drop n (plus l m) ≡ plus (drop n l) (drop n m)
unfolding plus
drop_plus zero l m = refl
drop_plus (suc n) [] m = refl
drop_plus (suc n) (x ∷ l) [] = plus_nil (drop n l)
drop_plus (suc n) (x ∷ l) (y ∷ m) = drop_plus n l m

same_take : (n : ℕ) (l m : List ℕ) → length l ≡ length m → length (take n l) ≡ length (take n m)
same_take zero l m h = refl
same_take (suc n) [] [] h = refl
same_take (suc n) [] (y ∷ m) h = absurd (omega arith)
same_take (suc n) (x ∷ l) [] h = absurd (omega arith)
same_take (suc n) (x ∷ l) (y ∷ m) h = ap suc (same_take n l m (omega arith))

same_drop : (n : ℕ) (l m : List ℕ) → length l ≡ length m → length (drop n l) ≡ length (drop n m)
same_drop zero l m h = h
same_drop (suc n) [] [] h = refl
same_drop (suc n) [] (y ∷ m) h = absurd (omega arith)
same_drop (suc n) (x ∷ l) [] h = absurd (omega arith)
same_drop (suc n) (x ∷ l) (y ∷ m) h = same_drop n l m (omega arith)

-- the sum of a part is that of both
pub part_plus : (from n : ℕ) (l m : List ℕ) → length l ≡ length m → part from n (plus l m) ≡ part from n l + part from n m
part_plus from n l m h =
    ap (λ (k : List ℕ). sum (take n k)) (drop_plus from l m) ∙ ap sum (take_plus n (drop from l) (drop from m))
    ∙ sum_plus (take n (drop from l)) (take n (drop from m)) (same_take n (drop from l) (drop from m) (same_drop from l m h))

-- the numbers of a frame's blocks and macro blocks, behind those of packets
pub record Listed (c u m : List ℕ) (l : List ℕ) : Type 0 where
  pub long : length l ≡ 34
  pub accepted : part 0 3 l ≡ 0
  pub inters : part 1 1 l ≡ 0
  pub coding : part 0 2 l ≡ 0
  pub refusals : part 3 17 l ≡ 0
  pub blocks : part 20 6 l ≡ sum c + sum u
  pub modes : part 26 8 l ≡ sum m
  pub planes : (p : ℕ) → p < 3 → (get_or l (20 + p) 0 ≡ get_or c p 0) × (get_or l (23 + p) 0 ≡ get_or u p 0)
  pub low : (k : ℕ) → k < 20 → get_or l k 0 ≡ 0

module _ (c₀ c₁ c₂ u₀ u₁ u₂ : ℕ) (m : List ℕ) (h : length m ≡ 8) where
  abbrev c : List ℕ
  c = c₀ ∷ c₁ ∷ c₂ ∷ []

  abbrev u : List ℕ
  u = u₀ ∷ u₁ ∷ u₂ ∷ []

  abbrev l : List ℕ
  l = replicate 20 0 ++ (c ++ (u ++ m))

  planes_are : (p : ℕ) → p < 3 → (get_or l (20 + p) 0 ≡ get_or c p 0) × (get_or l (23 + p) 0 ≡ get_or u p 0)
  planes_are zero k = (refl, refl)
  planes_are (suc zero) k = (refl, refl)
  planes_are (suc (suc zero)) k = (refl, refl)
  planes_are (suc (suc (suc p))) k = absurd (omega arith)

  listed_of : Listed c u m l
  unfolding sum
  listed_of = record {
    long = omega (arith, h);
    accepted = refl;
    inters = refl;
    coding = refl;
    refusals = refl;
    blocks = omega arith;
    modes = ap sum (take_all 8 m (omega (arith, h)));
    planes = planes_are;
    low = λ k q. get_or-append (replicate 20 0) (c ++ (u ++ m)) 0 k q ∙ get_or-replicate 20 k 0 0 q;
  }

pub listed : (c u m : List ℕ) → length c ≡ 3 → length u ≡ 3 → length m ≡ 8 → Listed c u m (replicate 20 0 ++ (c ++ (u ++ m)))
listed [] u m hc hu hm = absurd (omega arith)
listed (a ∷ []) u m hc hu hm = absurd (omega arith)
listed (a ∷ b ∷ []) u m hc hu hm = absurd (omega arith)
listed (a ∷ b ∷ d ∷ e ∷ c) u m hc hu hm = absurd (omega arith)
listed (a ∷ b ∷ d ∷ []) [] m hc hu hm = absurd (omega arith)
listed (a ∷ b ∷ d ∷ []) (x ∷ []) m hc hu hm = absurd (omega arith)
listed (a ∷ b ∷ d ∷ []) (x ∷ y ∷ []) m hc hu hm = absurd (omega arith)
listed (a ∷ b ∷ d ∷ []) (x ∷ y ∷ z ∷ w ∷ u) m hc hu hm = absurd (omega arith)
listed (a ∷ b ∷ d ∷ []) (x ∷ y ∷ z ∷ []) m hc hu hm = listed_of a b d x y z m hm
