-- The flags keep the reading algebra's laws, and there is one for each block. Assumes nothing.
use Prim.Native.Nat.{ℕ, zero, suc, ◌+◌, ◌*◌}
use native.Mathlib.Omega.{arith}
use native.Mathlib.Nat.{add-zero, zero-add}
use mathlib.Core.Path.{◌≡◌, ap, ◌∙◌}
use mathlib.Core.List.{List, [], ◌∷◌, ◌++◌}
use mathlib.Core.Bool.{Bool, true, false}
use lib.Dec.{eqb}
use lib.ListN.{length, get_or, take, drop, replicate, length-append, length-drop, length-replicate}
use lib.Seq.{length-take-le}
use Rattle.bitstream.specs.Lists.{among}
use Rattle.bitstream.specs.Reading.{got, pure, bind, choose}
use Rattle.bitstream.proofs.Laws.{Lawful, pure_lawful, bind_lawful, bind_got}
use Rattle.bitstream.proofs.Inside.{Inside, pure_inside, bind_inside, Refuses, pure_refuses, bind_refuses}
use Rattle.bitstream.proofs.Spends.{Spends, spends_more, pure_spends, bind_spends, bind_spends_got}
use Rattle.runs.specs.Runs.{bit_string}
use Rattle.runs.specs.declared.RunCode.TheVariants.{Long, Short}
use Rattle.runs.proofs.Laws.{bit_string_lawful, bit_string_inside, bit_string_refuses, bit_string_spends}
use Rattle.runs.proofs.Strings.{string_length}
use Rattle.geometry.specs.declared.PixelFormat.{PixelFormat}
use Rattle.geometry.specs.Sizes.{blocks_of, super_blocks_of}
use Rattle.geometry.specs.Frame.{super_block_of}
use Rattle.coded_flags.specs.Flags.{rest, sizes_from, super_sizes, super_flags, partly_blocks, spread, inter_flags, intra_flags}
use Rattle.coded_flags.proofs.Spread.{first_of, first_zero, first_next, first_all, blocks_most}
use Rattle.coded_flags.proofs.Answers.{supers_length}

supers_lawful : (n : ℕ) → Lawful (super_flags n)
unfolding super_flags
supers_lawful n = bind_lawful (bit_string_lawful Long n) (λ partly. bind_lawful (bit_string_lawful Long (rest partly)) (λ full. pure_lawful _))

pub flags_lawful : (f : PixelFormat) (w h : ℕ) → Lawful (inter_flags f w h)
unfolding inter_flags
flags_lawful f w h = bind_lawful (supers_lawful (super_blocks_of f w h)) (λ s. bind_lawful (bit_string_lawful Short (partly_blocks (super_sizes f w h) s.partly)) (λ bits. pure_lawful _))

-- ---- what is refused lies in the packet
supers_inside : {d : ℕ} (n : ℕ) → Inside d (super_flags n)
unfolding super_flags
supers_inside n = bind_inside (bit_string_inside Long n) (λ partly. bind_inside (bit_string_inside Long (rest partly)) (λ full. pure_inside _))

pub flags_inside : {d : ℕ} (f : PixelFormat) (w h : ℕ) → Inside d (inter_flags f w h)
unfolding inter_flags
flags_inside f w h = bind_inside (supers_inside (super_blocks_of f w h)) (λ s. bind_inside (bit_string_inside Short (partly_blocks (super_sizes f w h) s.partly)) (λ bits. pure_inside _))

-- ---- and is refused by 4 or 12
module _ {ks : List ℕ} (four : among ks 4 ≡ true) (twelve : among ks 12 ≡ true) where
  supers_refuses : (n : ℕ) → Refuses ks (super_flags n)
  unfolding super_flags
  supers_refuses n = bind_refuses (bit_string_refuses four twelve Long n) (λ partly. bind_refuses (bit_string_refuses four twelve Long (rest partly)) (λ full. pure_refuses _))

  pub flags_refuses : (f : PixelFormat) (w h : ℕ) → Refuses ks (inter_flags f w h)
  unfolding inter_flags
  flags_refuses f w h =
      bind_refuses (supers_refuses (super_blocks_of f w h)) (λ s. bind_refuses (bit_string_refuses four twelve Short (partly_blocks (super_sizes f w h) s.partly)) (λ bits. pure_refuses _))

-- ---- bits that are spent: 19 for each bit of the three strings, of which two have at most a bit for each super block and one a bit for each block
supers_spends : (n : ℕ) → Spends (n * 38) (super_flags n)
unfolding super_flags
supers_spends n =
    spends_more (omega arith) (bind_spends_got {b = n * 19} (bit_string_spends Long n) (λ partly p i e g.
    spends_more (omega (arith, string_length Long n p i g)) (bind_spends {b = 0} (bit_string_spends Long (rest partly)) (λ full. pure_spends _))))

pub flags_spends : (f : PixelFormat) (w h : ℕ) → Spends (super_blocks_of f w h * 38 + blocks_of f w h * 19) (inter_flags f w h)
unfolding inter_flags
flags_spends f w h =
    bind_spends {b = blocks_of f w h * 19} (supers_spends (super_blocks_of f w h)) (λ s.
    spends_more (omega (arith, blocks_most f w h s.partly)) (bind_spends {b = 0} (bit_string_spends Short (partly_blocks (super_sizes f w h) s.partly)) (λ bits. pure_spends _)))

-- ---- a flag for each block
module _ (f : PixelFormat) (w h : ℕ) where
  spread_length : (n k : ℕ) (partly full bits : List ℕ) → length partly ≡ n → length bits ≡ partly_blocks (sizes_from f w h k n) partly
      → length (spread (sizes_from f w h k n) partly full bits) + first_of f w h k ≡ first_of f w h (k + n)
  unfolding spread sizes_from partly_blocks
  spread_length zero k partly full bits e b = let z : first_of f w h (k + 0) ≡ first_of f w h k = ap (first_of f w h) (add-zero k) in omega arith
  spread_length (suc n) k [] full bits e b = absurd (omega arith)
  spread_length (suc n) k (x ∷ partly) full bits e b =
      go (eqb x 1) b (λ full' bits' b'. spread_length n (k + 1) partly full' bits' (omega arith) b')
    where
      go : (t : Bool) → let c = length (super_block_of f w h k) in let s = sizes_from f w h (k + 1) n in length bits ≡ choose t c 0 + partly_blocks s partly
          → ((full' bits' : List ℕ) → length bits' ≡ partly_blocks s partly → length (spread s partly full' bits') + first_of f w h (k + 1) ≡ first_of f w h (k + 1 + n))
          → length (choose t (take c bits ++ spread s partly full (drop c bits)) (replicate c (get_or full 0 0) ++ spread s partly (drop 1 full) bits)) + first_of f w h k ≡ first_of f w h (k + suc n)
      go true b' r =
          let c = length (super_block_of f w h k) in
          let s = sizes_from f w h (k + 1) n in
          let z : first_of f w h (k + 1 + n) ≡ first_of f w h (k + suc n) = ap (first_of f w h) (omega arith) in
          omega (arith, z, first_next f w h k, length-append (take c bits) (spread s partly full (drop c bits)), length-take-le c bits (omega arith), r full (drop c bits) (omega (arith, length-drop c bits)))
      go false b' r =
          let c = length (super_block_of f w h k) in
          let s = sizes_from f w h (k + 1) n in
          let z : first_of f w h (k + 1 + n) ≡ first_of f w h (k + suc n) = ap (first_of f w h) (omega arith) in
          omega (arith, z, first_next f w h k, length-append (replicate c (get_or full 0 0)) (spread s partly (drop 1 full) bits), length-replicate c (get_or full 0 0), r (drop 1 full) bits (omega arith))

  pub flags_length : (p : List ℕ) (i : ℕ) (flags : List ℕ) (e : ℕ) → inter_flags f w h p i ≡ got flags e → length flags ≡ blocks_of f w h
  unfolding inter_flags
  flags_length p i flags e g =
      let S = super_blocks_of f w h in
      let u = bind_got (super_flags S) (λ s. bind (bit_string Short (partly_blocks (super_sizes f w h) s.partly)) (λ bits. pure (spread (super_sizes f w h) s.partly s.full bits))) p i g in
      let s = u.0 in
      let v = bind_got (bit_string Short (partly_blocks (super_sizes f w h) s.partly)) (λ bits. pure (spread (super_sizes f w h) s.partly s.full bits)) p u.1 u.3 in
      let z : spread (super_sizes f w h) s.partly s.full v.0 ≡ flags = cc in
      let l = spread_length S 0 s.partly s.full v.0 (supers_length S p i u.2).0 (string_length Short _ p u.1 v.2) in
      let y : first_of f w h (0 + S) ≡ blocks_of f w h = ap (first_of f w h) (zero-add S) ∙ first_all f w h in
      omega (arith, l, y, ap length z, first_zero f w h)

  pub intra_length : length (intra_flags f w h) ≡ blocks_of f w h
  unfolding intra_flags
  intra_length = length-replicate (blocks_of f w h) 1
