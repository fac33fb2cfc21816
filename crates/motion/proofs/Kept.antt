-- The modes that send nothing, and how a record starts. Assumes nothing.
use Prim.Native.Nat.{ℕ}
use native.Mathlib.Omega.{arith}
use mathlib.Core.Bool.{Bool, true, false}
use lib.Dec.{eqb}
use borrow.Author.Tests.{eq-eqb, ne_eqb}
use Rattle.bitstream.specs.Reading.{choose}
use Rattle.block_record.specs.declared.Vector.{Vector}
use Rattle.block_record.specs.declared.Prediction.TheVariants.{None, Previous, Golden}
use Rattle.motion.specs.declared.Motion.TheVariants.{One}
use mathlib.Core.Path.{◌≡◌, sym, ap, ◌∙◌}
use Rattle.block_record.specs.Record.{VectorInRange, InRange, with_prediction}
use Rattle.block_record.specs.Packed.{packed, unpacked}
use Rattle.block_record.specs.Memory.{IsPacked}
use Rattle.block_record.proofs.Laws.{unpacked_packed}
use Rattle.block_record.proofs.MemoryLaws.{is_packed}
use Rattle.motion.specs.Kept.{zero_vector, behind, still, MovedInRange, unmoved, predicted_as, started}

pub zero_small : VectorInRange zero_vector
zero_small = record { x = omega arith; y = omega arith }

-- ---- the modes that send nothing
module _ (mode : ℕ) (last last2 : Vector) where
  pub still_intra : mode ≡ 1 → behind (One None) last last2 ≡ still mode last last2
  unfolding still
  still_intra h = rw (eq-eqb mode 1 h)

  module _ (n1 : mode ≡ 1 → ⊥) where
    pub still_last : mode ≡ 3 → behind (One (Previous last)) last last2 ≡ still mode last last2
    unfolding still
    still_last h = rw (ne_eqb mode 1 n1, eq-eqb mode 3 h)

    module _ (n3 : mode ≡ 3 → ⊥) where
      pub still_last2 : mode ≡ 4 → behind (One (Previous last2)) last2 last ≡ still mode last last2
      unfolding still
      still_last2 h = rw (ne_eqb mode 1 n1, ne_eqb mode 3 n3, eq-eqb mode 4 h)

      module _ (n4 : mode ≡ 4 → ⊥) where
        pub still_golden : mode ≡ 5 → behind (One (Golden zero_vector)) last last2 ≡ still mode last last2
        unfolding still
        still_golden h = rw (ne_eqb mode 1 n1, ne_eqb mode 3 n3, ne_eqb mode 4 n4, eq-eqb mode 5 h)

        pub still_nomv : (mode ≡ 5 → ⊥) → behind (One (Previous zero_vector)) last last2 ≡ still mode last last2
        unfolding still
        still_nomv h = rw (ne_eqb mode 1 n1, ne_eqb mode 3 n3, ne_eqb mode 4 n4, ne_eqb mode 5 h)

  module _ (h : VectorInRange last) (h2 : VectorInRange last2) where
    go_still : (a b c d : Bool) → MovedInRange
        (choose a (behind (One None) last last2) (choose b (behind (One (Previous last)) last last2)
        (choose c (behind (One (Previous last2)) last2 last) (choose d (behind (One (Golden zero_vector)) last last2) (behind (One (Previous zero_vector)) last last2)))))
    go_still true b c d = record { motion = tt; last = h; last2 = h2 }
    go_still false true c d = record { motion = h; last = h; last2 = h2 }
    go_still false false true d = record { motion = h2; last = h2; last2 = h }
    go_still false false false true = record { motion = zero_small; last = h; last2 = h2 }
    go_still false false false false = record { motion = zero_small; last = h; last2 = h2 }

    pub still_small : MovedInRange (still mode last last2)
    unfolding still
    still_small = go_still (eqb mode 1) (eqb mode 3) (eqb mode 4) (eqb mode 5)

-- ---- the number of a record as it starts
module _ (n : ℕ) where
  pub started_coded : (unpacked n).coded ≡ true → packed (with_prediction unmoved (unpacked n)) ≡ started n
  unfolding started
  started_coded e = sym (ap (λ (b : Bool). packed (choose b (with_prediction unmoved (unpacked n)) (unpacked n))) e)

  module _ (k : IsPacked n) where
    pub started_not : (unpacked n).coded ≡ false → n ≡ started n
    unfolding started
    started_not e = sym (ap (λ (b : Bool). packed (choose b (with_prediction unmoved (unpacked n)) (unpacked n))) e ∙ k.same)

    pub in_range : InRange (predicted_as unmoved (unpacked n))
    in_range = go (unpacked n).coded
      where
        go : (b : Bool) → InRange (choose b (with_prediction unmoved (unpacked n)) (unpacked n))
        go true = record { qi_index = k.in_range.qi_index; prediction = zero_small }
        go false = k.in_range

    pub started_packed : IsPacked (started n)
    unfolding started
    started_packed = is_packed (predicted_as unmoved (unpacked n)) in_range

    pub started_record : unpacked (started n) ≡ predicted_as unmoved (unpacked n)
    unfolding started
    started_record = unpacked_packed (predicted_as unmoved (unpacked n)) in_range
