-- Ranks, and the ways that a position and all positions can go. Assumes nothing.
use Prim.Native.Nat.{ℕ, zero, suc, ◌+◌, ◌-◌, ◌*◌, ◌≤◌, ◌<◌}
use native.Mathlib.Omega.{arith}
use native.Mathlib.Numerals.{add-one}
use native.Mathlib.Nat.{add-zero}
use mathlib.Core.Path.{◌≡◌, refl, sym, ap, ◌∙◌}
use mathlib.Core.List.{List, [], ◌∷◌, ◌++◌}
use lib.ListN.{length, set, take, drop}
use lib.Seq.{take-suc-set, take_all, take_at, drop_at}
use Rattle.bitstream.specs.Reading.{got, refused, bind}
use Rattle.bitstream.proofs.Laws.{bind_got}
use Rattle.huffman.specs.Tree.{Tree}
use Rattle.block_visits.specs.Visits.{TokenState}
use Rattle.token_visits.specs.Visits.{pass}
use Rattle.table_choices.specs.Choices.{group, Choices, choices}
use Rattle.tokens.specs.Tokens.{table, at_position, positions_from, ranks}
use Rattle.tokens.specs.Answer.{trees_of, tree_at}
use Rattle.token_visits.proofs.Goes.{Goes, goes_same, goes_on, AllBelow, pass_goes}

-- ---- a position: luma's pass and then chroma's
module _ (trees : List Tree) (lumas chromas : List ℕ) (k : ℕ) (ch : Choices) (s : TokenState) (p : List ℕ) (i : ℕ) where
  pub position_refused : {j e : ℕ} → pass (table trees k ch.luma) k lumas s p i ≡ refused j e → at_position trees lumas chromas k ch s p i ≡ refused j e
  unfolding at_position
  position_refused h = rw h

  pub position_got : {s' : TokenState} {e : ℕ} → pass (table trees k ch.luma) k lumas s p i ≡ got s' e
      → at_position trees lumas chromas k ch s p i ≡ pass (table trees k ch.chroma) k chromas s' p e
  unfolding at_position
  position_got h = rw h

-- ---- a turn of all positions
module _ (trees : List Tree) (lumas chromas : List ℕ) (k : ℕ) (ch : Choices) (s : TokenState) (p : List ℕ) (i : ℕ) where
  pub positions_none : 64 ≤ k → positions_from trees lumas chromas (64 - k) k ch s p i ≡ got s i
  unfolding positions_from
  positions_none h = let z : 64 - k ≡ 0 = omega arith in rw z

  pub positions_choices : k < 64 → {j e : ℕ} → choices k ch p i ≡ refused j e → positions_from trees lumas chromas (64 - k) k ch s p i ≡ refused j e
  unfolding positions_from
  positions_choices l h = let z : 64 - k ≡ suc (64 - (k + 1)) = omega arith in rw (z, h)

  pub positions_refused : k < 64 → {ch' : Choices} {e j d : ℕ} → choices k ch p i ≡ got ch' e → at_position trees lumas chromas k ch' s p e ≡ refused j d
      → positions_from trees lumas chromas (64 - k) k ch s p i ≡ refused j d
  unfolding positions_from
  positions_refused l h f = let z : 64 - k ≡ suc (64 - (k + 1)) = omega arith in rw (z, h, f)

  positions_suc : (n : ℕ) {ch' : Choices} {e d : ℕ} {s' : TokenState} → choices k ch p i ≡ got ch' e → at_position trees lumas chromas k ch' s p e ≡ got s' d
      → positions_from trees lumas chromas (suc n) k ch s p i ≡ positions_from trees lumas chromas n (k + 1) ch' s' p d
  unfolding positions_from
  positions_suc n h f = rw (h, f)

  pub positions_got : k < 64 → {ch' : Choices} {e d : ℕ} {s' : TokenState} → choices k ch p i ≡ got ch' e → at_position trees lumas chromas k ch' s p e ≡ got s' d
      → positions_from trees lumas chromas (64 - k) k ch s p i ≡ positions_from trees lumas chromas (64 - (k + 1)) (k + 1) ch' s' p d
  positions_got l h f =
      let z : 64 - k ≡ suc (64 - (k + 1)) = omega arith in
      ap (λ (n : ℕ). positions_from trees lumas chromas n k ch s p i) z ∙ positions_suc (64 - (k + 1)) h f

-- ---- what they do to the state
pub position_goes : (trees : List Tree) (lumas chromas : List ℕ) (k : ℕ) (ch : Choices) (s : TokenState) (p : List ℕ) (i : ℕ) → k < 64 → AllBelow (length s.positions) lumas
    → AllBelow (length s.positions) chromas → {s' : TokenState} {e : ℕ} → at_position trees lumas chromas k ch s p i ≡ got s' e → Goes s s'
unfolding at_position
position_goes trees lumas chromas k ch s p i l v w h =
    let u = bind_got (pass (table trees k ch.luma) k lumas s) (λ s₁. pass (table trees k ch.chroma) k chromas s₁) p i h in
    let f = pass_goes (table trees k ch.luma) k p l lumas s i v u.2 in
    goes_on f (pass_goes (table trees k ch.chroma) k p l chromas u.0 u.1 (rw f.blocks w) u.3)

pub positions_go : (trees : List Tree) (lumas chromas : List ℕ) (p : List ℕ) (n k : ℕ) (ch : Choices) (s : TokenState) (i : ℕ) → k + n ≤ 64 → AllBelow (length s.positions) lumas
    → AllBelow (length s.positions) chromas → {s' : TokenState} {e : ℕ} → positions_from trees lumas chromas n k ch s p i ≡ got s' e → Goes s s'
unfolding positions_from
positions_go trees lumas chromas p zero k ch s i l v w {s'} {e} h = let z : s ≡ s' = cc in rw (← z) (goes_same s)
positions_go trees lumas chromas p (suc n) k ch s i l v w h =
    let u = bind_got (choices k ch) (λ ch. bind (at_position trees lumas chromas k ch s) (positions_from trees lumas chromas n (k + 1) ch)) p i h in
    let x = bind_got (at_position trees lumas chromas k u.0 s) (positions_from trees lumas chromas n (k + 1) u.0) p u.1 u.3 in
    let f = position_goes trees lumas chromas k u.0 s p u.1 (omega (arith, l)) v w x.2 in
    goes_on f (positions_go trees lumas chromas p n (k + 1) u.0 x.0 x.1 (omega (arith, l)) (rw f.blocks v) (rw f.blocks w) x.3)

-- ---- ranks
pub ranks_length : (b n : ℕ) → length (ranks b n) ≡ n
unfolding ranks
ranks_length b zero = refl
ranks_length b (suc n) = ap suc (ranks_length (b + 1) n)

pub ranks_below : (b n m : ℕ) → b + n ≤ m → AllBelow m (ranks b n)
unfolding ranks
ranks_below b zero m h = tt
ranks_below b (suc n) m h = (omega (arith, h), ranks_below (b + 1) n m (omega (arith, h)))

pub ranks_add : (b n m : ℕ) → ranks b (n + m) ≡ ranks b n ++ ranks (b + n) m
unfolding ranks
ranks_add b zero m = let z : 0 + m ≡ m = omega arith in rw (z, add-zero)
ranks_add b (suc n) m =
    let z : suc n + m ≡ suc (n + m) = omega arith in
    let y : b + 1 + n ≡ b + suc n = omega arith in
    rw z (ap (λ (l : List ℕ). b ∷ l) (ranks_add (b + 1) n m ∙ ap (λ (x : ℕ). ranks (b + 1) n ++ ranks x m) y))

ranks_one : (b : ℕ) → ranks b 1 ≡ b ∷ []
unfolding ranks
ranks_one b = refl

-- the loop that writes them
pub written_start : (bs : List ℕ) → take 0 bs ≡ ranks 0 0
unfolding ranks
written_start bs = refl

pub written_on : (bs : List ℕ) (b : ℕ) → b < length bs → take b bs ≡ ranks 0 b → take (b + 1) (set bs b b) ≡ ranks 0 (b + 1)
written_on bs b h i =
    let z : 0 + b ≡ b = omega arith in
    rw (add-one b) (take-suc-set bs b b h) ∙ (ap (λ (l : List ℕ). l ++ b ∷ []) i ∙ sym (ranks_add 0 b 1 ∙ ap (λ (l : List ℕ). ranks 0 b ++ l) (ranks_one (0 + b) ∙ ap (λ (x : ℕ). x ∷ []) z)))

pub written_all : (bs : List ℕ) (b : ℕ) → length bs ≤ b → take b bs ≡ ranks 0 b → bs ≡ ranks 0 b
written_all bs b h i = sym (take_all b bs h) ∙ i

-- luma's ranks stand in front, chroma's behind them
pub ranks_front : (luma count : ℕ) → luma ≤ count → take luma (ranks 0 count) ≡ ranks 0 luma
ranks_front luma count h =
    let z : luma + (count - luma) ≡ count = omega arith in
    ap (λ (n : ℕ). take luma (ranks 0 n)) (sym z) ∙ (ap (take luma) (ranks_add 0 luma (count - luma)) ∙ take_at (ranks 0 luma) (ranks (0 + luma) (count - luma)) luma (ranks_length 0 luma))

pub ranks_back : (luma count : ℕ) → luma ≤ count → drop luma (ranks 0 count) ≡ ranks luma (count - luma)
ranks_back luma count h =
    let z : luma + (count - luma) ≡ count = omega arith in
    let y : 0 + luma ≡ luma = omega arith in
    ap (λ (n : ℕ). drop luma (ranks 0 n)) (sym z)
    ∙ (ap (drop luma) (ranks_add 0 luma (count - luma)) ∙ (drop_at (ranks 0 luma) (ranks (0 + luma) (count - luma)) luma (ranks_length 0 luma) ∙ ap (λ (x : ℕ). ranks x (count - luma)) y))

-- the table that the code takes
pub table_is : (nodes : List ℕ) (k choice g : ℕ) → g ≡ group k → table (trees_of nodes) k choice ≡ tree_at nodes (16 * g + choice)
unfolding table
table_is nodes k choice g h = ap (λ (x : ℕ). tree_at nodes (16 * x + choice)) (sym h)
