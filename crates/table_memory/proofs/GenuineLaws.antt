-- A memory is what an accepted packet leaves if and only if it passes the test. Assumes nothing.
use Prim.Native.Nat.{ℕ, ◌*◌}
use native.Mathlib.Omega.{arith}
use mathlib.Core.Path.{◌≡◌, refl}
use mathlib.Core.List.{List}
use mathlib.Core.Bool.{Bool, true, false, ◌&&◌}
use lib.ListN.{length, replicate}
use borrow.Author.Tests.{eqb-true, eq-eqb}
use Rattle.bitstream.specs.Bits.{number}
use Rattle.bitstream.specs.Reading.{Outcome, got, refused, Parse}
use Rattle.bitstream.proofs.Laws.{Lawful}
use Rattle.bitstream.proofs.Spends.{Spends}
use Rattle.bitstream.proofs.ListLaws.{and_both}
use Rattle.table_memory.specs.Kept.{kept, clear_from}
use Rattle.table_memory.specs.Genuine.{Bytes, ends_clear, Leaves, genuine}
use Rattle.table_memory.proofs.KeptLaws.{kept_length, kept_bytes, kept_back, kept_agree, kept_self, clear_bits, bits_clear, zeros_number}

untrue : {X : Type 0} → false ≡ true → X
untrue h = let z : ◌≡◌ {A = ℕ} 0 1 = cc in absurd (omega arith)

module _ {A : Type 0} (m : Parse A) (n : ℕ) where
  genuine_outcome : (t : List ℕ) → genuine m n t ≡ true → (length t ≡ n) × (a : A) × (e : ℕ) × (m t 0 ≡ got a e) × (clear_from t e ≡ true)
  unfolding genuine
  genuine_outcome t h = let b = and_both _ _ h in let g = go (m t 0) refl b.1 in (eqb-true _ _ b.0, g.0, g.1, g.2, g.3)
    where
      go : (o : Outcome A) → m t 0 ≡ o → ends_clear t o ≡ true → (a : A) × (e : ℕ) × (m t 0 ≡ got a e) × (clear_from t e ≡ true)
      go (got a e) s c = (a, e, s, c)
      go (refused k e) s c = untrue c

  -- the memory itself is a packet that leaves it
  pub genuine_leaves : (t : List ℕ) → Bytes t → genuine m n t ≡ true → Leaves m n t t
  genuine_leaves t b h =
      let g = genuine_outcome t h in
      (g.1, g.2, g.3, kept_self t g.2 n g.0 b (λ i l u. clear_bits t g.2 g.4 i l (rw g.0 u)))

  module _ (lawful : Lawful m) (spends : Spends (n * 8) m) where
    -- whatever an accepted packet leaves reads as the packet did, and passes
    pub kept_read : (p : List ℕ) (a : A) (e : ℕ) → m p 0 ≡ got a e → m (kept p e n) 0 ≡ got a e
    kept_read p a e h = lawful.local p (kept p e n) 0 a e (omega arith) h (kept_agree p e n (omega (arith, spends.ends p 0 a e h)))

    pub leaves_genuine : (p t : List ℕ) → Leaves m n p t → Bytes t × (genuine m n t ≡ true)
    unfolding genuine
    leaves_genuine p t (a, e, h, s) =
        let c : clear_from (kept p e n) e ≡ true = bits_clear (kept p e n) e (λ i l u. kept_back p e n i l (rw (← kept_length p e n) u)) in
        rw s (kept_bytes p e n, rw (eq-eqb _ _ (kept_length p e n), kept_read p a e h) c)

    pub genuine_iff : (t : List ℕ) → ((Bytes t × (genuine m n t ≡ true)) → (p : List ℕ) × Leaves m n p t) × (((p : List ℕ) × Leaves m n p t) → Bytes t × (genuine m n t ≡ true))
    genuine_iff t = (λ g. (t, genuine_leaves t g.0 g.1), λ l. leaves_genuine l.0 t l.1)

  -- no packet leaves zeros, if what is accepted has a first byte other than 0
  pub zeros_not : ((p : List ℕ) (a : A) (e : ℕ) → m p 0 ≡ got a e → number p 0 8 ≡ 0 → ⊥) → genuine m n (replicate n 0) ≡ false
  zeros_not h = go (genuine m n (replicate n 0)) refl
    where
      go : (b : Bool) → genuine m n (replicate n 0) ≡ b → b ≡ false
      go true s = let g = genuine_outcome (replicate n 0) s in absurd (h (replicate n 0) g.1 g.2 g.3 (zeros_number n 0 8))
      go false s = refl
