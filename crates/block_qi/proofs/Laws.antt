-- The steps keep the reading algebra's laws; they change nothing but the index, which stays in its range. Assumes nothing.
use Prim.Native.Nat.{ℕ, zero, suc, ◌+◌, ◌-◌, ◌*◌, ◌≤◌, ◌<◌}
use native.Mathlib.Omega.{arith}
use native.Mathlib.Nat.{zero-mul, suc-mul}
use mathlib.Core.Path.{◌≡◌, refl, ap, ◌∙◌, subst}
use mathlib.Core.List.{List, [], ◌∷◌}
use mathlib.Core.Bool.{Bool, true, false}
use lib.Dec.{eqb}
use lib.ListN.{length, get_or, drop, set, length-set}
use Rattle.bitstream.specs.Lists.{among}
use Rattle.bitstream.specs.Reading.{got, pure, choose}
use Rattle.bitstream.proofs.Laws.{Lawful, pure_lawful, bind_lawful, bind_got}
use Rattle.bitstream.proofs.Inside.{Inside, pure_inside, bind_inside, Refuses, pure_refuses, bind_refuses}
use Rattle.bitstream.proofs.Spends.{Spends, spends_more, pure_spends, bind_spends}
use Rattle.bitstream.specs.Lists.{AllBelow, one, none}
use Rattle.bitstream.proofs.ListLaws.{set_cases}
use Rattle.runs.specs.Runs.{bit_string}
use Rattle.runs.specs.declared.RunCode.TheVariants.{Long}
use Rattle.runs.proofs.Laws.{bit_string_lawful, bit_string_inside, bit_string_refuses, bit_string_spends}
use Rattle.runs.proofs.Strings.{string_bits}
use Rattle.block_record.specs.declared.BlockRecord.{BlockRecord}
use Rattle.block_record.specs.Record.{uncoded, with_qi_index}
use Rattle.block_record.proofs.MemoryLaws.{AllInRange, in_range_at, in_range_set}
use Rattle.block_qi.specs.BlockQi.{index_at, at_step, raised, one_step, qi_steps, block_qi}

step_lawful : (q : ℕ) (coded : List ℕ) (rs : List BlockRecord) → Lawful (one_step q coded rs)
unfolding one_step
step_lawful q coded rs = bind_lawful (bit_string_lawful Long (at_step q coded rs)) (λ bits. pure_lawful _)

steps_lawful : (n q : ℕ) (coded : List ℕ) (rs : List BlockRecord) → Lawful (qi_steps n q coded rs)
unfolding qi_steps
steps_lawful zero q coded rs = pure_lawful rs
steps_lawful (suc n) q coded rs = bind_lawful (step_lawful q coded rs) (steps_lawful n (q + 1) coded)

pub qi_lawful : (n : ℕ) (coded : List ℕ) (rs : List BlockRecord) → Lawful (block_qi n coded rs)
unfolding block_qi
qi_lawful n coded rs = steps_lawful (n - 1) 0 coded rs

-- ---- what is refused lies in the packet
step_inside : {d : ℕ} (q : ℕ) (coded : List ℕ) (rs : List BlockRecord) → Inside d (one_step q coded rs)
unfolding one_step
step_inside q coded rs = bind_inside (bit_string_inside Long (at_step q coded rs)) (λ bits. pure_inside _)

steps_inside : {d : ℕ} (n q : ℕ) (coded : List ℕ) (rs : List BlockRecord) → Inside d (qi_steps n q coded rs)
unfolding qi_steps
steps_inside zero q coded rs = pure_inside rs
steps_inside (suc n) q coded rs = bind_inside (step_inside q coded rs) (steps_inside n (q + 1) coded)

pub qi_inside : {d : ℕ} (n : ℕ) (coded : List ℕ) (rs : List BlockRecord) → Inside d (block_qi n coded rs)
unfolding block_qi
qi_inside n coded rs = steps_inside (n - 1) 0 coded rs

-- ---- and is refused by 4 or 12
module _ {ks : List ℕ} (four : among ks 4 ≡ true) (twelve : among ks 12 ≡ true) where
  step_refuses : (q : ℕ) (coded : List ℕ) (rs : List BlockRecord) → Refuses ks (one_step q coded rs)
  unfolding one_step
  step_refuses q coded rs = bind_refuses (bit_string_refuses four twelve Long (at_step q coded rs)) (λ bits. pure_refuses _)

  steps_refuses : (n q : ℕ) (coded : List ℕ) (rs : List BlockRecord) → Refuses ks (qi_steps n q coded rs)
  unfolding qi_steps
  steps_refuses zero q coded rs = pure_refuses rs
  steps_refuses (suc n) q coded rs = bind_refuses (step_refuses q coded rs) (steps_refuses n (q + 1) coded)

  pub qi_refuses : (n : ℕ) (coded : List ℕ) (rs : List BlockRecord) → Refuses ks (block_qi n coded rs)
  unfolding block_qi
  qi_refuses n coded rs = steps_refuses (n - 1) 0 coded rs

-- ---- bits that are spent: a step has at most a bit for each coded block, and 19 for each of these
at_most : (q : ℕ) (coded : List ℕ) (rs : List BlockRecord) → at_step q coded rs ≤ length coded
unfolding at_step
at_most q [] rs = omega arith
at_most q (b ∷ coded) rs = omega (arith, at_most q coded rs, one_most (eqb (index_at rs b) q))
  where
    one_most : (t : Bool) → choose t 1 0 ≤ 1
    one_most true = omega arith
    one_most false = omega arith

step_spends : (q : ℕ) (coded : List ℕ) (rs : List BlockRecord) → Spends (length coded * 19) (one_step q coded rs)
unfolding one_step
step_spends q coded rs = spends_more (omega (arith, at_most q coded rs)) (bind_spends {b = 0} (bit_string_spends Long (at_step q coded rs)) (λ bits. pure_spends _))

steps_spends : (n q : ℕ) (coded : List ℕ) (rs : List BlockRecord) → Spends (n * (length coded * 19)) (qi_steps n q coded rs)
unfolding qi_steps
steps_spends zero q coded rs = rw zero-mul (pure_spends rs)
steps_spends (suc n) q coded rs = spends_more (rw suc-mul (omega arith)) (bind_spends (step_spends q coded rs) (steps_spends n (q + 1) coded))

pub qi_spends : (n : ℕ) (coded : List ℕ) (rs : List BlockRecord) → Spends ((n - 1) * (length coded * 19)) (block_qi n coded rs)
unfolding block_qi
qi_spends n coded rs = steps_spends (n - 1) 0 coded rs

-- ---- what holds of the records after each raised block holds of them in the end
module _ (P : List BlockRecord → Type 0) (q : ℕ) (keeps : (rs : List BlockRecord) (b bit : ℕ) → bit < 2 → P rs → P (set rs b (with_qi_index (q + bit) (get_or rs b uncoded)))) where
  raised_keeps : (coded bits : List ℕ) (rs : List BlockRecord) → AllBelow 2 bits → P rs → P (raised q coded bits rs)
  unfolding raised
  raised_keeps [] bits rs small h = h
  raised_keeps (b ∷ coded) bits rs small h =
      go (eqb (index_at rs b) q) (raised_keeps coded (drop 1 bits) (set rs b (with_qi_index (q + get_or bits 0 0) (get_or rs b uncoded))) (rest small) (keeps rs b (get_or bits 0 0) (first small) h)) (raised_keeps coded bits rs small h)
    where
      first : {l : List ℕ} → AllBelow 2 l → get_or l 0 0 < 2
      first none = omega arith
      first (one k a) = k

      rest : {l : List ℕ} → AllBelow 2 l → AllBelow 2 (drop 1 l)
      rest none = none
      rest (one k a) = a

      go : {x y : List BlockRecord} (t : Bool) → P x → P y → P (choose t x y)
      go true a b = a
      go false a b = b

module _ (P : List BlockRecord → Type 0) (coded : List ℕ) where
  steps_keep : (keeps : (q : ℕ) → q ≤ 1 → (rs : List BlockRecord) (b bit : ℕ) → bit < 2 → P rs → P (set rs b (with_qi_index (q + bit) (get_or rs b uncoded))))
      → (n q : ℕ) → q + n ≤ 2 → (rs : List BlockRecord) (p : List ℕ) (i : ℕ) (rs' : List BlockRecord) (e : ℕ) → P rs → qi_steps n q coded rs p i ≡ got rs' e → P rs'
  unfolding qi_steps one_step
  steps_keep keeps zero q l rs p i rs' e h g = subst P (cc) h
  steps_keep keeps (suc n) q l rs p i rs' e h g =
      let u = bind_got (one_step q coded rs) (qi_steps n (q + 1) coded) p i g in
      let v = bind_got (bit_string Long (at_step q coded rs)) (λ bits. pure (raised q coded bits rs)) p i u.2 in
      let z : raised q coded v.0 rs ≡ u.0 = cc in
      steps_keep keeps n (q + 1) (omega arith) u.0 p u.1 rs' e
      (subst P z (raised_keeps P q (keeps q (omega arith)) coded v.0 rs (string_bits Long (at_step q coded rs) p i v.2) h)) u.3

  qi_keeps : (keeps : (q : ℕ) → q ≤ 1 → (rs : List BlockRecord) (b bit : ℕ) → bit < 2 → P rs → P (set rs b (with_qi_index (q + bit) (get_or rs b uncoded))))
      → (n : ℕ) → n ≤ 3 → (rs : List BlockRecord) (p : List ℕ) (i : ℕ) (rs' : List BlockRecord) (e : ℕ) → P rs → block_qi n coded rs p i ≡ got rs' e → P rs'
  unfolding block_qi
  qi_keeps keeps n l rs p i rs' e h g = steps_keep keeps (n - 1) 0 (omega arith) rs p i rs' e h g

-- another index, and a block's record with its index left out
set_but : (rs : List BlockRecord) (b k n : ℕ) → with_qi_index 0 (get_or (set rs b (with_qi_index k (get_or rs b uncoded))) n uncoded) ≡ with_qi_index 0 (get_or rs n uncoded)
set_but rs b k n =
    set_cases (λ r. with_qi_index 0 r ≡ with_qi_index 0 (get_or rs n uncoded)) rs b n (with_qi_index k (get_or rs b uncoded)) uncoded
    (λ z. ap (λ (m : ℕ). with_qi_index 0 (get_or rs m uncoded)) z) refl

module _ (n : ℕ) (few : n ≤ 3) (coded : List ℕ) (rs : List BlockRecord) (p : List ℕ) (i : ℕ) (rs' : List BlockRecord) (e : ℕ) (g : block_qi n coded rs p i ≡ got rs' e) where
  pub qi_in_range : AllInRange rs → AllInRange rs'
  qi_in_range h =
      qi_keeps AllInRange coded
      (λ q l s b bit k a. in_range_set s b _ a (record { qi_index = omega arith; prediction = (in_range_at s b a).prediction }))
      n few rs p i rs' e h g

  pub qi_length : length rs' ≡ length rs
  qi_length = qi_keeps (λ s. length s ≡ length rs) coded (λ q l s b bit k a. length-set s b _ ∙ a) n few rs p i rs' e refl g

  -- nothing but the index changes
  pub qi_but : (m : ℕ) → with_qi_index 0 (get_or rs' m uncoded) ≡ with_qi_index 0 (get_or rs m uncoded)
  qi_but m = qi_keeps (λ s. with_qi_index 0 (get_or s m uncoded) ≡ with_qi_index 0 (get_or rs m uncoded)) coded (λ q l s b bit k a. set_but s b (q + bit) m ∙ a) n few rs p i rs' e refl g

-- ---- the index is one of the n: each step raises it once at most
module _ (coded : List ℕ) where
  abbrev Most : ℕ → List BlockRecord → Type 0
  Most q rs = (m : ℕ) → index_at rs m ≤ q

  most_set : (q : ℕ) (rs : List BlockRecord) (b bit : ℕ) → bit < 2 → Most (q + 1) rs → Most (q + 1) (set rs b (with_qi_index (q + bit) (get_or rs b uncoded)))
  most_set q rs b bit l a m = set_cases (λ r. r.qi_index ≤ q + 1) rs b m (with_qi_index (q + bit) (get_or rs b uncoded)) uncoded (λ _. omega arith) (a m)

  steps_most : (n q : ℕ) (rs : List BlockRecord) (p : List ℕ) (i : ℕ) (rs' : List BlockRecord) (e : ℕ) → Most q rs → qi_steps n q coded rs p i ≡ got rs' e → Most (q + n) rs'
  unfolding qi_steps one_step
  steps_most zero q rs p i rs' e a g m = let z : rs ≡ rs' = cc in omega (arith, a m, ap (λ (s : List BlockRecord). index_at s m) z)
  steps_most (suc n) q rs p i rs' e a g m =
      let u = bind_got (one_step q coded rs) (qi_steps n (q + 1) coded) p i g in
      let v = bind_got (bit_string Long (at_step q coded rs)) (λ bits. pure (raised q coded bits rs)) p i u.2 in
      let z : raised q coded v.0 rs ≡ u.0 = cc in
      let k = raised_keeps (Most (q + 1)) q (most_set q) coded v.0 rs (string_bits Long (at_step q coded rs) p i v.2) (λ m. omega (arith, a m)) in
      omega (arith, steps_most n (q + 1) u.0 p u.1 rs' e (subst (Most (q + 1)) z k) u.3 m)

  pub qi_most : (n : ℕ) (rs : List BlockRecord) (p : List ℕ) (i : ℕ) (rs' : List BlockRecord) (e : ℕ) → Most 0 rs → block_qi n coded rs p i ≡ got rs' e → Most (n - 1) rs'
  unfolding block_qi
  qi_most n rs p i rs' e a g m = omega (arith, steps_most (n - 1) 0 rs p i rs' e a g m)
