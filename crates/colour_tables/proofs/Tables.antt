-- The five tables behind one another: what stands where (`luma-at` ..), that no entry is large, found by one test, and that each is a nearest
-- integer to its rule (`luma-nearest` ..). Assumes nothing.
use Prim.Native.Nat.{ℕ, zero, suc, ◌+◌, ◌≤◌, ◌<◌}
use native.Mathlib.Nat.{zero-add, le_of_suc-le-suc, not-suc-le-zero}
use native.Mathlib.Omega.{arith}
use mathlib.Core.Path.{◌≡◌, refl, sym, ap, ◌∙◌, subst}
use mathlib.Core.Bool.{Bool, true, false, ◌&&◌}
use mathlib.Core.List.{List, [], ◌∷◌, ◌++◌}
use lib.Dec.{T, leb, leb→le}
use lib.IntN.{ℤ, pos, nat_abs}
use lib.ListN.{length, get_or, length-append, get_or-append}
use lib.Seq.{get_or-append-add}
use Rattle.numeric.specs.Divide.{round_over}
use Rattle.colour_tables.specs.Rule.{Rule, luma, red_cr, green_cb, green_cr, blue_cb, ruled, entry, entries_from, table, contributions}
use Rattle.colour_tables.specs.Near.{Nearest}
use Rattle.colour_tables.proofs.Nearest.{entry_nearest}

entries_length : (r : Rule) (v n : ℕ) → length (entries_from r v n) ≡ n
unfolding entries_from
entries_length r v zero = refl
entries_length r v (suc n) = ap suc (entries_length r (suc v) n)

entries_at : (r : Rule) (v n i : ℕ) → i < n → get_or (entries_from r v n) i (pos 0) ≡ entry r (v + i)
unfolding entries_from
entries_at r v zero i h = absurd (not-suc-le-zero h)
entries_at r v (suc n) zero h = let e : v ≡ v + 0 = omega arith in ap (entry r) e
entries_at r v (suc n) (suc i) h = let e : suc v + i ≡ v + suc i = omega arith in entries_at r (suc v) n i (le_of_suc-le-suc h) ∙ ap (entry r) e

-- an entry of the first table, and one behind it
first : (r : Rule) (l : List ℤ) (v : ℕ) → v < 256 → get_or (table r ++ l) v (pos 0) ≡ entry r v
first r l v h =
    get_or-append (table r) l (pos 0) v (subst (λ (n : ℕ). v < n) (sym (entries_length r 0 256)) h)
    ∙ entries_at r 0 256 v h ∙ ap (entry r) (zero-add v)

behind : (r : Rule) (l : List ℤ) (m n : ℕ) → m ≡ 256 + n → get_or (table r ++ l) m (pos 0) ≡ get_or l n (pos 0)
behind r l m n e =
    ap (λ (k : ℕ). get_or (table r ++ l) k (pos 0)) (e ∙ ap (λ (k : ℕ). k + n) (sym (entries_length r 0 256)))
    ∙ get_or-append-add (table r) l n (pos 0)

pub tables_length : length contributions ≡ 1280
unfolding contributions
tables_length =
    let d = entries_length in
    omega (
      arith,
      length-append (table luma) (table red_cr ++ (table green_cb ++ (table green_cr ++ table blue_cb))),
      length-append (table red_cr) (table green_cb ++ (table green_cr ++ table blue_cb)),
      length-append (table green_cb) (table green_cr ++ table blue_cb),
      length-append (table green_cr) (table blue_cb),
      d luma 0 256,
      d red_cr 0 256,
      d green_cb 0 256,
      d green_cr 0 256,
      d blue_cb 0 256,
    )

-- no entry is large
abbrev every : (ℤ → Bool) → List ℤ → Bool
every f [] = f (pos 0)
every f (x ∷ xs) = f x && every f xs

left : (a b : Bool) → T (a && b) → T a
left true b t = tt
left false b t = t

right : (a b : Bool) → T (a && b) → T b
right true b t = t
right false b t = absurd t

every_at : (f : ℤ → Bool) (l : List ℤ) → T (every f l) → (i : ℕ) → T (f (get_or l i (pos 0)))
every_at f [] h i = h
every_at f (x ∷ xs) h zero = left (f x) (every f xs) h
every_at f (x ∷ xs) h (suc i) = every_at f xs (right (f x) (every f xs) h) i

small : (i : ℕ) → nat_abs (get_or contributions i (pos 0)) ≤ 33554432
unfolding contributions entries_from entry round_over
small i = leb→le _ _ (every_at (λ z. leb (nat_abs z) 33554432) contributions tt i)

-- number i of all is z, which is not large
pub record Stands (i : ℕ) (z : ℤ) : Type 0 where
  pub there : get_or contributions i (pos 0) ≡ z
  pub small : nat_abs z ≤ 33554432

stands : (i : ℕ) (z : ℤ) → get_or contributions i (pos 0) ≡ z → Stands i z
stands i z e = record { there = e; small = subst (λ (x : ℤ). nat_abs x ≤ 33554432) e (small i) }

module _ (v : ℕ) (h : v < 256) where
  abbrev from2 : List ℤ
  from2 = table red_cr ++ (table green_cb ++ (table green_cr ++ table blue_cb))

  abbrev from3 : List ℤ
  from3 = table green_cb ++ (table green_cr ++ table blue_cb)

  abbrev from4 : List ℤ
  from4 = table green_cr ++ table blue_cb

  open_up : contributions ≡ table luma ++ from2
  unfolding contributions
  open_up = refl

  at : (i : ℕ) {z : ℤ} → get_or (table luma ++ from2) i (pos 0) ≡ z → Stands i z
  at i e = stands i _ (ap (λ (l : List ℤ). get_or l i (pos 0)) open_up ∙ e)

  pub luma_at : Stands v (entry luma v)
  luma_at = at v (first luma from2 v h)

  pub red_at : Stands (256 + v) (entry red_cr v)
  red_at = at (256 + v) (behind luma from2 (256 + v) v refl ∙ first red_cr from3 v h)

  pub green_cb_at : Stands (512 + v) (entry green_cb v)
  green_cb_at = at (512 + v) (behind luma from2 (512 + v) (256 + v) (omega arith) ∙ behind red_cr from3 (256 + v) v refl ∙ first green_cb from4 v h)

  pub green_cr_at : Stands (768 + v) (entry green_cr v)
  green_cr_at =
      at (768 + v)
      (behind luma from2 (768 + v) (512 + v) (omega arith) ∙ behind red_cr from3 (512 + v) (256 + v) (omega arith) ∙ behind green_cb from4 (256 + v) v refl ∙ first green_cr (table blue_cb) v h)

  pub blue_at : Stands (1024 + v) (entry blue_cb v)
  blue_at =
      at (1024 + v)
      (behind luma from2 (1024 + v) (768 + v) (omega arith) ∙ behind red_cr from3 (768 + v) (512 + v) (omega arith) ∙ behind green_cb from4 (512 + v) (256 + v) (omega arith)
      ∙ behind green_cr (table blue_cb) (256 + v) v refl ∙ entries_at blue_cb 0 256 v h ∙ ap (entry blue_cb) (zero-add v))

-- ---- "each entry .. rounded to nearest": each number of the tables is a nearest integer to its rule
nearest_at : (i : ℕ) (r : Rule) (v : ℕ) → 0 < r.over → Stands i (entry r v) → Nearest (get_or contributions i (pos 0)) (ruled r v) r.over
nearest_at i r v h t = subst (λ (z : ℤ). Nearest z (ruled r v) r.over) (sym t.there) (entry_nearest r v h)

module _ (v : ℕ) (h : v < 256) where
  pub luma_nearest : Nearest (get_or contributions v (pos 0)) (ruled luma v) luma.over
  luma_nearest = nearest_at v luma v (omega arith) (luma_at v h)

  pub red_nearest : Nearest (get_or contributions (256 + v) (pos 0)) (ruled red_cr v) red_cr.over
  red_nearest = nearest_at (256 + v) red_cr v (omega arith) (red_at v h)

  pub green_cb_nearest : Nearest (get_or contributions (512 + v) (pos 0)) (ruled green_cb v) green_cb.over
  green_cb_nearest = nearest_at (512 + v) green_cb v (omega arith) (green_cb_at v h)

  pub green_cr_nearest : Nearest (get_or contributions (768 + v) (pos 0)) (ruled green_cr v) green_cr.over
  green_cr_nearest = nearest_at (768 + v) green_cr v (omega arith) (green_cr_at v h)

  pub blue_nearest : Nearest (get_or contributions (1024 + v) (pos 0)) (ruled blue_cb v) blue_cb.over
  blue_nearest = nearest_at (1024 + v) blue_cb v (omega arith) (blue_at v h)
