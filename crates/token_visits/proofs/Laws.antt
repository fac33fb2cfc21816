-- The laws of a visit and of a pass. Assumes nothing.
use Prim.Native.Nat.{ℕ, ◌+◌, ◌*◌}
use native.Mathlib.Omega.{arith}
use native.Mathlib.Nat.{le_refl}
use mathlib.Core.Path.{◌≡◌}
use mathlib.Core.List.{List, [], ◌∷◌}
use mathlib.Core.Bool.{true}
use lib.Dec.{eqb, ltb, leb}
use lib.ListN.{length, get_or}
use Rattle.bitstream.specs.Lists.{among}
use Rattle.bitstream.proofs.Laws.{Lawful, pure_lawful, here_lawful, guard_lawful, pick_lawful, bind_lawful}
use Rattle.bitstream.proofs.Inside.{Inside, pure_inside, here_inside, guard_inside, pick_inside, bind_inside, Refuses, pure_refuses, here_refuses, guard_refuses, pick_refuses, bind_refuses}
use Rattle.bitstream.proofs.Spends.{Spends, spends_more, pure_spends, here_then, guard_spends, pick_spends, bind_spends}
use Rattle.huffman.specs.Tree.{Tree, Proper}
use Rattle.token.specs.Token.{Meaning, end_of_block, zero_run, coefficient}
use Rattle.block_visits.specs.Visits.{TokenState, act, read_for, visit}
use Rattle.token_visits.specs.Visits.{pass}
use Rattle.token_reader.proofs.Laws.{token_lawful, token_inside, token_refuses, token_spends}

-- ---- local and firm
act_lawful : (k b at : ℕ) (m : Meaning) (s : TokenState) → Lawful (act k b at m s)
unfolding act
act_lawful k b at (end_of_block n) s = pure_lawful _
act_lawful k b at (zero_run n) s = bind_lawful (guard_lawful (leb (k + n) 64) 13 at) (λ _. pure_lawful _)
act_lawful k b at (coefficient n v) s = bind_lawful (guard_lawful (leb (k + n + 1) 64) 13 at) (λ _. pure_lawful _)

pub visit_lawful : (tree : Tree) (k b : ℕ) (s : TokenState) → Lawful (visit tree k b s)
unfolding visit read_for
visit_lawful tree k b s =
    pick_lawful (eqb (get_or s.positions b 0) k)
    (pick_lawful (ltb 0 s.run) (pure_lawful _) (bind_lawful here_lawful (λ at. bind_lawful (token_lawful tree) (λ m. act_lawful k b at m s))))
    (pure_lawful s)

pub pass_lawful : (tree : Tree) (k : ℕ) (bs : List ℕ) (s : TokenState) → Lawful (pass tree k bs s)
unfolding pass
pass_lawful tree k [] s = pure_lawful s
pass_lawful tree k (b ∷ bs) s = bind_lawful (visit_lawful tree k b s) (pass_lawful tree k bs)

-- ---- what is refused lies in the packet; `act` reports at the code's first bit, so it has the law from there on
act_inside : (k b at : ℕ) (m : Meaning) (s : TokenState) → Inside at (act k b at m s)
unfolding act
act_inside k b at (end_of_block n) s = pure_inside _
act_inside k b at (zero_run n) s = bind_inside (guard_inside (leb (k + n) 64) 13 at (le_refl at)) (λ _. pure_inside _)
act_inside k b at (coefficient n v) s = bind_inside (guard_inside (leb (k + n + 1) 64) 13 at (le_refl at)) (λ _. pure_inside _)

pub visit_inside : {d : ℕ} (tree : Tree) (k b : ℕ) (s : TokenState) → Inside d (visit tree k b s)
unfolding visit read_for
visit_inside tree k b s =
    pick_inside (eqb (get_or s.positions b 0) k)
    (pick_inside (ltb 0 s.run) (pure_inside _) (here_inside (λ at _. bind_inside (token_inside tree) (λ m. act_inside k b at m s))))
    (pure_inside s)

pub pass_inside : {d : ℕ} (tree : Tree) (k : ℕ) (bs : List ℕ) (s : TokenState) → Inside d (pass tree k bs s)
unfolding pass
pass_inside tree k [] s = pure_inside s
pass_inside tree k (b ∷ bs) s = bind_inside (visit_inside tree k b s) (pass_inside tree k bs)

-- ---- and is refused by 4 or 13
module _ {ks : List ℕ} (four : among ks 4 ≡ true) (thirteen : among ks 13 ≡ true) where
  act_refuses : (k b at : ℕ) (m : Meaning) (s : TokenState) → Refuses ks (act k b at m s)
  unfolding act
  act_refuses k b at (end_of_block n) s = pure_refuses _
  act_refuses k b at (zero_run n) s = bind_refuses (guard_refuses (leb (k + n) 64) 13 at thirteen) (λ _. pure_refuses _)
  act_refuses k b at (coefficient n v) s = bind_refuses (guard_refuses (leb (k + n + 1) 64) 13 at thirteen) (λ _. pure_refuses _)

  pub visit_refuses : (tree : Tree) (k b : ℕ) (s : TokenState) → Refuses ks (visit tree k b s)
  unfolding visit read_for
  visit_refuses tree k b s =
      pick_refuses (eqb (get_or s.positions b 0) k)
      (pick_refuses (ltb 0 s.run) (pure_refuses _) (bind_refuses here_refuses (λ at. bind_refuses (token_refuses four tree) (λ m. act_refuses k b at m s))))
      (pure_refuses s)

  pub pass_refuses : (tree : Tree) (k : ℕ) (bs : List ℕ) (s : TokenState) → Refuses ks (pass tree k bs s)
  unfolding pass
  pass_refuses tree k [] s = pure_refuses s
  pass_refuses tree k (b ∷ bs) s = bind_refuses (visit_refuses tree k b s) (pass_refuses tree k bs)

-- ---- bits: there is at most one token for a block
act_spends : (k b at : ℕ) (m : Meaning) (s : TokenState) → Spends 0 (act k b at m s)
unfolding act
act_spends k b at (end_of_block n) s = pure_spends _
act_spends k b at (zero_run n) s = bind_spends {a = 0} {b = 0} (guard_spends (leb (k + n) 64) 13 at (λ e. omega (arith, e))) (λ _. pure_spends _)
act_spends k b at (coefficient n v) s = bind_spends {a = 0} {b = 0} (guard_spends (leb (k + n + 1) 64) 13 at (λ e. omega (arith, e))) (λ _. pure_spends _)

pub visit_spends : {tree : Tree} → Proper tree → (k b : ℕ) (s : TokenState) → Spends 44 (visit tree k b s)
unfolding visit read_for
visit_spends f k b s =
    pick_spends (eqb (get_or s.positions b 0) k)
    (λ _. pick_spends (ltb 0 s.run) (λ _. spends_more (omega arith) (pure_spends _)) (λ _. here_then (λ at. spends_more (omega arith) (bind_spends (token_spends f) (λ m. act_spends k b at m s)))))
    (λ _. spends_more (omega arith) (pure_spends s))

pub pass_spends : {tree : Tree} → Proper tree → (k : ℕ) (bs : List ℕ) (s : TokenState) → Spends (44 * length bs) (pass tree k bs s)
unfolding pass
pass_spends f k [] s = spends_more (omega arith) (pure_spends s)
pass_spends f k (b ∷ bs) s = spends_more (omega arith) (bind_spends (visit_spends f k b s) (λ s. pass_spends f k bs s))
