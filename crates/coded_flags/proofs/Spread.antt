-- The flags, super block by super block. Assumes nothing.
use Prim.Native.Nat.{ℕ, zero, suc, ◌+◌, ◌-◌, ◌≤◌, ◌<◌}
use native.Mathlib.Omega.{arith}
use native.Mathlib.Nat.{add-zero, zero-add}
use native.Mathlib.Numerals.{add-one}
use mathlib.Core.Path.{◌≡◌, refl, sym, ap, ◌∙◌}
use mathlib.Core.List.{List, [], ◌∷◌, ◌++◌, append-nil, append_assoc}
use mathlib.Core.Bool.{Bool, true, false}
use lib.Dec.{eqb}
use lib.ListN.{length, get_or, take, drop, replicate, length-append, length-drop, length-replicate, drop_of_length-le}
use lib.Seq.{drop-length, drop-drop, get_or-drop, take_at, take_all, length-take-le}
use borrow.Author.Tests.{eq-eqb, ne_eqb, eqb-true}
use Rattle.bitstream.specs.Reading.{choose}
use Rattle.bitstream.proofs.ListLaws.{drop_next}
use Rattle.geometry.specs.declared.PixelFormat.{PixelFormat}
use Rattle.geometry.specs.Sizes.{blocks_of, super_blocks_of}
use Rattle.geometry.specs.Order.{in_turn}
use Rattle.geometry.specs.Frame.{super_block_of}
use Rattle.geometry.proofs.FrameLaws.{frame_length}
use Rattle.geometry.proofs.SuperBlockLaws.{frame_flat}
use Rattle.block_flags.specs.declared.Taken.{Taken}
use Rattle.coded_flags.specs.Flags.{ones, rest, sizes_from, super_sizes, partly_blocks, spread}
use Rattle.block_flags.specs.Flags.{block_flags, taken_next}

-- ---- how many are 1
one_most : (t : Bool) → choose t 1 0 ≤ 1
one_most true = omega arith
one_most false = omega arith

pub ones_most : (l : List ℕ) → ones l ≤ length l
unfolding ones
ones_most [] = omega arith
ones_most (b ∷ l) = omega (arith, one_most (eqb b 1), ones_most l)

module _ (l : List ℕ) (i : ℕ) where
  pub ones_step : i < length l → ones (drop i l) ≡ choose (eqb (get_or l i 0) 1) 1 0 + ones (drop (i + 1) l)
  unfolding ones
  ones_step h = rw (drop_next l i h)

  pub ones_done : length l ≤ i → ones (drop i l) ≡ 0
  unfolding ones
  ones_done h = rw (drop_of_length-le l h)

-- ---- the sizes of super blocks
module _ (f : PixelFormat) (w h : ℕ) where
  sizes_step : (n k : ℕ) → k < n → sizes_from f w h k (n - k) ≡ length (super_block_of f w h k) ∷ sizes_from f w h (k + 1) (n - (k + 1))
  unfolding sizes_from
  sizes_step n k l = let z : n - k ≡ suc (n - (k + 1)) = omega arith in rw z

  sizes_none : (n k : ℕ) → n ≤ k → sizes_from f w h k (n - k) ≡ []
  unfolding sizes_from
  sizes_none n k l = let z : n - k ≡ 0 = omega arith in rw z

  sizes_all : (n : ℕ) → sizes_from f w h 0 (n - 0) ≡ sizes_from f w h 0 n
  sizes_all n = let z : n - 0 ≡ n = omega arith in ap (sizes_from f w h 0) z

  -- the number of the first block of a super block
  abbrev pub first_of : ℕ → ℕ
  first_of k = length (in_turn (super_block_of f w h) k)

  pub first_zero : first_of 0 ≡ 0
  unfolding in_turn
  first_zero = refl

  pub first_next : (k : ℕ) → first_of (k + 1) ≡ first_of k + length (super_block_of f w h k)
  unfolding in_turn
  first_next k = rw add-one (length-append (in_turn (super_block_of f w h) k) (super_block_of f w h k))

  pub first_all : first_of (super_blocks_of f w h) ≡ blocks_of f w h
  first_all = sym (ap length (frame_flat f w h)) ∙ frame_length f w h

  -- ---- the blocks of the partly coded super blocks
  module _ (n k : ℕ) (partly : List ℕ) (e : length partly ≡ n) where
    pub blocks_step : k < n → partly_blocks (sizes_from f w h k (n - k)) (drop k partly)
        ≡ choose (eqb (get_or partly k 0) 1) (length (super_block_of f w h k)) 0 + partly_blocks (sizes_from f w h (k + 1) (n - (k + 1))) (drop (k + 1) partly)
    unfolding partly_blocks
    blocks_step l = rw (sizes_step n k l, drop_next partly k (omega arith))

    pub blocks_done : n ≤ k → partly_blocks (sizes_from f w h k (n - k)) (drop k partly) ≡ 0
    unfolding partly_blocks
    blocks_done l = rw (sizes_none n k l)

  pub blocks_start : (n : ℕ) (partly : List ℕ) → partly_blocks (sizes_from f w h 0 (n - 0)) (drop 0 partly) ≡ partly_blocks (sizes_from f w h 0 n) partly
  blocks_start n partly = rw (sizes_all n)

  -- ---- what is left of the flags, from super block k on, after j of the one string and m of the other
  abbrev left : ℕ → ℕ → List ℕ → List ℕ → List ℕ → ℕ → ℕ → List ℕ
  left n k partly full bits j m = spread (sizes_from f w h k (n - k)) (drop k partly) (drop j full) (drop m bits)

  left_step : (n k : ℕ) (partly full bits : List ℕ) (t : Taken) → length partly ≡ n → k < n
      → let b = get_or partly k 0 in let c = length (super_block_of f w h k) in let u = taken_next b c t in
      left n k partly full bits t.full t.bits ≡ block_flags b c full bits t ++ left n (k + 1) partly full bits u.full u.bits
  unfolding spread
  left_step n k partly full bits t e l = rw (sizes_step n k l, drop_next partly k (omega arith)) (go (eqb (get_or partly k 0) 1))
    where
      go : (b : Bool) → let c = length (super_block_of f w h k) in let s = sizes_from f w h (k + 1) (n - (k + 1)) in let q = drop (k + 1) partly in let j = t.full in let m = t.bits in
          let u = choose {X = Taken} b (record { full = j; bits = m + c }) (record { full = j + 1; bits = m }) in
          choose b (take c (drop m bits) ++ spread s q (drop j full) (drop c (drop m bits))) (replicate c (get_or (drop j full) 0 0) ++ spread s q (drop 1 (drop j full)) (drop m bits))
          ≡ choose b (take c (drop m bits)) (replicate c (get_or full j 0)) ++ spread s q (drop u.full full) (drop u.bits bits)
      go true = rw (drop-drop (length (super_block_of f w h k)) t.bits bits)
      go false = rw (drop-drop 1 t.full full, get_or-drop t.full full 0 0, add-zero)

-- what the loop over the super blocks keeps
pub record Spreading (f : PixelFormat) (w h : ℕ) (partly full bits flags : List ℕ) (k : ℕ) (t : Taken) : Type 0 where
  pub reaches : k ≤ super_blocks_of f w h
  pub goes : spread (super_sizes f w h) partly full bits ≡ take (first_of f w h k) flags ++ left f w h (super_blocks_of f w h) k partly full bits t.full t.bits
  pub full_left : t.full + rest (drop k partly) ≡ length full
  pub bits_left : t.bits + partly_blocks (sizes_from f w h k (super_blocks_of f w h - k)) (drop k partly) ≡ length bits

module _ (f : PixelFormat) (w h : ℕ) (partly full bits : List ℕ) (ep : length partly ≡ super_blocks_of f w h) where
  -- at the start nothing is taken
  pub spreading_start : (flags : List ℕ) → length full ≡ rest partly → length bits ≡ partly_blocks (super_sizes f w h) partly
      → Spreading f w h partly full bits flags 0 (record { full = 0; bits = 0 })
  spreading_start flags ef eb =
      let z = first_zero f w h in
      let s = sizes_all f w h (super_blocks_of f w h) in
      record {
        reaches = omega arith;
        goes = rw (z, s);
        full_left = omega arith;
        bits_left = omega (arith, blocks_start f w h (super_blocks_of f w h) partly);
      }

  module _ (flags : List ℕ) (k : ℕ) (t : Taken) (l : Spreading f w h partly full bits flags k t) where
    -- all super blocks are done
    pub spreading_done : super_blocks_of f w h ≤ k → length flags ≡ blocks_of f w h → flags ≡ spread (super_sizes f w h) partly full bits
    unfolding spread
    spreading_done r e =
        let z : k ≡ super_blocks_of f w h = omega (arith, l.reaches) in
        let a : first_of f w h k ≡ length flags = ap (first_of f w h) z ∙ first_all f w h ∙ sym e in
        sym (l.goes ∙ rw (sizes_none f w h (super_blocks_of f w h) k r, append-nil) (take_all (first_of f w h k) flags (omega arith)))

    module _ (r : k < super_blocks_of f w h) where
      abbrev b : ℕ
      b = get_or partly k 0

      abbrev c : ℕ
      c = length (super_block_of f w h k)

      longer : length (drop k partly) ≡ suc (length (drop (k + 1) partly))
      longer = omega (arith, length-drop k partly, length-drop (k + 1) partly)

      -- there is enough of both strings
      pub bits_enough : b ≡ 1 → t.bits + c ≤ length bits
      bits_enough e =
          let s = blocks_step f w h (super_blocks_of f w h) k partly ep r in
          let x : choose (eqb b 1) c 0 ≡ c = rw (eq-eqb b 1 e) in
          omega (arith, l.bits_left)

      pub full_enough : (b ≡ 1 → ⊥) → t.full < length full
      full_enough e =
          let s = ones_step partly k (omega arith) in
          let x : ◌≡◌ {A = ℕ} (choose (eqb b 1) 1 0) 0 = rw (ne_eqb b 1 e) in
          omega (arith, l.full_left, longer, ones_most (drop (k + 1) partly))

      flags_length : length (block_flags b c full bits t) ≡ c
      flags_length = go (eqb b 1) (λ e. bits_enough (eqb-true b 1 e))
        where
          go : (x : Bool) → (x ≡ true → t.bits + c ≤ length bits) → length (choose x (take c (drop t.bits bits)) (replicate c (get_or full t.full 0))) ≡ c
          go true g = let q = g refl in length-take-le c (drop t.bits bits) (omega (arith, length-drop t.bits bits))
          go false g = length-replicate c _

      -- one super block more
      pub spreading_on : (new : List ℕ) → first_of f w h k + c ≤ length flags → new ≡ take (first_of f w h k) flags ++ block_flags b c full bits t ++ drop (first_of f w h k + c) flags
          → Spreading f w h partly full bits new (k + 1) (taken_next b c t)
      spreading_on new fits e =
          let a = first_of f w h k in
          let p = take a flags ++ block_flags b c full bits t in
          let long : length p ≡ first_of f w h (k + 1) =
          length-append (take a flags) (block_flags b c full bits t) ∙ (λ i. length-take-le a flags (omega arith) i + flags_length i) ∙ sym (first_next f w h k) in
          let front : take (first_of f w h (k + 1)) new ≡ p = ap (take (first_of f w h (k + 1))) e ∙ take_at p (drop (a + c) flags) (first_of f w h (k + 1)) long in
          let u = taken_next b c t in
          record {
            reaches = omega arith;
            goes = l.goes ∙ ap (λ (x : List ℕ). take a flags ++ x) (left_step f w h (super_blocks_of f w h) k partly full bits t ep r)
                ∙ sym (append_assoc (take a flags) (block_flags b c full bits t) (left f w h (super_blocks_of f w h) (k + 1) partly full bits u.full u.bits))
                ∙ ap (λ (x : List ℕ). x ++ left f w h (super_blocks_of f w h) (k + 1) partly full bits u.full u.bits) (sym front);
            full_left = full_next (eqb b 1) refl;
            bits_left = bits_next (eqb b 1) refl;
          }
        where
          full_next : (x : Bool) → eqb b 1 ≡ x → (choose {X = Taken} x (record { full = t.full; bits = t.bits + c }) (record { full = t.full + 1; bits = t.bits })).full + rest (drop (k + 1) partly) ≡ length full
          full_next true q =
              let s = ones_step partly k (omega arith) in
              let y : ◌≡◌ {A = ℕ} (choose (eqb b 1) 1 0) 1 = rw q in
              omega (arith, l.full_left, longer, ones_most (drop (k + 1) partly))
          full_next false q =
              let s = ones_step partly k (omega arith) in
              let y : ◌≡◌ {A = ℕ} (choose (eqb b 1) 1 0) 0 = rw q in
              omega (arith, l.full_left, longer, ones_most (drop (k + 1) partly))

          bits_next : (x : Bool) → eqb b 1 ≡ x → (choose {X = Taken} x (record { full = t.full; bits = t.bits + c }) (record { full = t.full + 1; bits = t.bits })).bits
              + partly_blocks (sizes_from f w h (k + 1) (super_blocks_of f w h - (k + 1))) (drop (k + 1) partly) ≡ length bits
          bits_next true q =
              let s = blocks_step f w h (super_blocks_of f w h) k partly ep r in
              let y : choose (eqb b 1) c 0 ≡ c = rw q in
              omega (arith, l.bits_left)
          bits_next false q =
              let s = blocks_step f w h (super_blocks_of f w h) k partly ep r in
              let y : choose (eqb b 1) c 0 ≡ 0 = rw q in
              omega (arith, l.bits_left)

      -- over the numbers that a program has in its variables
      pub spreading_by : (a n : ℕ) (u : Taken) (new : List ℕ) → a ≡ first_of f w h k → n ≡ c → a + n ≤ length flags → u ≡ taken_next b n t
          → new ≡ take a flags ++ block_flags b n full bits t ++ drop (a + n) flags → Spreading f w h partly full bits new (k + 1) u
      spreading_by a n u new ea en fits eu e =
          let eu' : u ≡ taken_next b c t = eu ∙ ap (λ (m : ℕ). taken_next b m t) en in
          rw eu' (spreading_on new (omega arith) (e ∙ (λ i. take (ea i) flags ++ block_flags b (en i) full bits t ++ drop (ea i + en i) flags)))

-- ---- the flags of one super block
pub all_filled : (l : List ℕ) (v : ℕ) → take 0 l ++ replicate (length l) v ++ drop (0 + length l) l ≡ replicate (length l) v
all_filled l v = let z : 0 + length l ≡ length l = omega arith in rw (z, drop-length l, append-nil)

-- the partly coded super blocks have no more blocks than the frame
module _ (f : PixelFormat) (w h : ℕ) where
  blocks_upto : (n k : ℕ) (partly : List ℕ) → partly_blocks (sizes_from f w h k n) partly + first_of f w h k ≤ first_of f w h (k + n)
  unfolding partly_blocks sizes_from
  blocks_upto zero k partly = let z : first_of f w h (k + 0) ≡ first_of f w h k = ap (first_of f w h) (add-zero k) in omega arith
  blocks_upto (suc n) k [] =
      let z : k + suc n ≡ k + 1 + n = omega arith in
      rw z (omega (arith, blocks_upto n (k + 1) [], first_next f w h k))
  blocks_upto (suc n) k (b ∷ partly) =
      let z : k + suc n ≡ k + 1 + n = omega arith in
      rw z (omega (arith, blocks_upto n (k + 1) partly, first_next f w h k, at_most (eqb b 1) (length (super_block_of f w h k))))
    where
      at_most : (t : Bool) (c : ℕ) → choose t c 0 ≤ c
      at_most true c = omega arith
      at_most false c = omega arith

  pub blocks_most : (partly : List ℕ) → partly_blocks (super_sizes f w h) partly ≤ blocks_of f w h
  blocks_most partly =
      let z : first_of f w h (0 + super_blocks_of f w h) ≡ blocks_of f w h = ap (first_of f w h) (zero-add (super_blocks_of f w h)) ∙ first_all f w h in
      omega (arith, blocks_upto (super_blocks_of f w h) 0 partly)
