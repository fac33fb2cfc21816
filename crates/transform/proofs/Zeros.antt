-- A line of zeros, and lists that have zeros from a place on.
-- Assumes nothing.
use mathlib.Core.Path.{◌≡◌, refl, ap, ◌∙◌}
use mathlib.Core.Bool.{Bool, true, false, not, ◌&&◌}
use mathlib.Core.List.{List}
use Prim.Native.Nat.{ℕ, zero, suc, ◌+◌, ◌-◌, ◌≤◌, ◌<◌}
use native.Mathlib.Nat.{add-zero}
use native.Mathlib.Omega.{arith}
use borrow.Author.Tests.{ltb-true, ltb-false}
use lib.Dec.{ltb}
use lib.IntN.{ℤ, pos}
use lib.ListN.{get_or}
use Rattle.std.specs.Ordering.{int_eq}
use Rattle.std.proofs.lemmas.Bool.{and_parts, not-false}
use Rattle.std.proofs.lemmas.Bool.Decides.{Decides-int_eq}
use Rattle.lines.specs.declared.Line.{Line}
use Rattle.lines.specs.Places.{line_at}
use Rattle.zig_zag.specs.Placing.{ZerosFrom}

abbrev pub zeros : Line
zeros = record { x0 = pos 0; x1 = pos 0; x2 = pos 0; x3 = pos 0; x4 = pos 0; x5 = pos 0; x6 = pos 0; x7 = pos 0 }

-- a line that equals it, as the code tests that
abbrev is_zero : Line → Bool
is_zero l =
    int_eq l.x0 (pos 0) && (int_eq l.x1 (pos 0) && (int_eq l.x2 (pos 0) && (int_eq l.x3 (pos 0)
    && (int_eq l.x4 (pos 0) && (int_eq l.x5 (pos 0) && (int_eq l.x6 (pos 0) && int_eq l.x7 (pos 0)))))))

pub all_zero : (l : Line) → not (is_zero l) ≡ false → l ≡ zeros
all_zero l e =
    let zero = λ (x : ℤ) (t : int_eq x (pos 0) ≡ true). (Decides-int_eq x (pos 0)).0 t in
    let p0 = and_parts _ _ (not-false _ e) in
    let p1 = and_parts _ _ p0.1 in
    let p2 = and_parts _ _ p1.1 in
    let p3 = and_parts _ _ p2.1 in
    let p4 = and_parts _ _ p3.1 in
    let p5 = and_parts _ _ p4.1 in
    let p6 = and_parts _ _ p5.1 in
    λ i. record {
      x0 = zero l.x0 p0.0 i;
      x1 = zero l.x1 p1.0 i;
      x2 = zero l.x2 p2.0 i;
      x3 = zero l.x3 p3.0 i;
      x4 = zero l.x4 p4.0 i;
      x5 = zero l.x5 p5.0 i;
      x6 = zero l.x6 p6.0 i;
      x7 = zero l.x7 p6.1 i;
    }

zero_at : (s : List ℤ) (at j : ℕ) → line_at s at 1 ≡ zeros → j < 8 → get_or s (at + j) (pos 0) ≡ pos 0
unfolding line_at
zero_at s at zero e h = ap (λ (i : ℕ). get_or s i (pos 0)) (add-zero at) ∙ ap (λ (l : Line). l.x0) e
zero_at s at (suc zero) e h = ap (λ (l : Line). l.x1) e
zero_at s at (suc (suc zero)) e h = ap (λ (l : Line). l.x2) e
zero_at s at (suc (suc (suc zero))) e h = ap (λ (l : Line). l.x3) e
zero_at s at (suc (suc (suc (suc zero)))) e h = ap (λ (l : Line). l.x4) e
zero_at s at (suc (suc (suc (suc (suc zero))))) e h = ap (λ (l : Line). l.x5) e
zero_at s at (suc (suc (suc (suc (suc (suc zero)))))) e h = ap (λ (l : Line). l.x6) e
zero_at s at (suc (suc (suc (suc (suc (suc (suc zero))))))) e h = ap (λ (l : Line). l.x7) e
zero_at s at (suc (suc (suc (suc (suc (suc (suc (suc j)))))))) e h = absurd (omega arith)

either : (s : List ℤ) (at m n k : ℕ) (t : Bool) → ltb k n ≡ t → n ≡ m + 8 → line_at s (at + m) 1 ≡ zeros → ZerosFrom s at n → m ≤ k → k < 64 → get_or s (at + k) (pos 0) ≡ pos 0
either s at m n k true e d l z a b =
    let h = ltb-true k n e in
    let i : at + k ≡ at + m + (k - m) = omega arith in
    ap (λ (i : ℕ). get_or s i (pos 0)) i ∙ zero_at s (at + m) (k - m) l (omega arith)
either s at m n k false e d l z a b = z k (ltb-false k n e) b

-- eight more
pub zeros_before : (s : List ℤ) (at m n : ℕ) → n ≡ m + 8 → line_at s (at + m) 1 ≡ zeros → ZerosFrom s at n → ZerosFrom s at m
zeros_before s at m n d l z k a b = either s at m n k (ltb k n) refl d l z a b
