-- The laws of reading tokens, and what holds of all that they give. Assumes nothing.
use Prim.Native.Nat.{ℕ, zero, suc, ◌+◌, ◌-◌, ◌*◌, ◌≤◌}
use native.Mathlib.Omega.{arith}
use native.Mathlib.Nat.{suc-mul, zero-mul}
use mathlib.Core.Path.{◌≡◌, ◌∙◌}
use mathlib.Core.List.{List}
use mathlib.Core.Bool.{true}
use lib.Dec.{ltb}
use lib.ListN.{length, length-replicate}
use lib.IntN.{pos}
use Rattle.bitstream.specs.Lists.{among}
use Rattle.bitstream.specs.Reading.{got, pure}
use Rattle.bitstream.proofs.Laws.{Lawful, lawful, pure_lawful, bind_lawful, bind_got}
use Rattle.bitstream.proofs.Inside.{Inside, inside, pure_inside, bind_inside, Refuses, refuses, pure_refuses, bind_refuses}
use Rattle.bitstream.proofs.Spends.{Spends, spends_more, pure_spends, pick_spends, bind_spends, field_spends}
use Rattle.huffman.specs.Tree.{Tree}
use Rattle.block_visits.specs.Visits.{TokenState}
use Rattle.table_choices.specs.Choices.{group, Choices, choices_of, choices}
use Rattle.tokens.specs.Tokens.{table, at_position, positions_from, ranks, start, Tokens, tokens_of, read_tokens}
use Rattle.tokens.specs.Answer.{AllProper}
use Rattle.token_visits.proofs.Laws.{pass_lawful, pass_inside, pass_refuses, pass_spends}
use Rattle.token_visits.proofs.Goes.{Visits, Bounded, room_most}
use Rattle.tokens.proofs.Positions.{positions_go, ranks_length, ranks_below}
use Rattle.tokens.proofs.Tables.{proper_at}
use Rattle.tokens.proofs.Fronts.{same_at}

-- ---- local and firm
choices_lawful : (k : ℕ) (ch : Choices) → Lawful (choices k ch)
unfolding choices
choices_lawful k ch = search lawful depth 10

position_lawful : (trees : List Tree) (lumas chromas : List ℕ) (k : ℕ) (ch : Choices) (s : TokenState) → Lawful (at_position trees lumas chromas k ch s)
unfolding at_position
position_lawful trees lumas chromas k ch s = bind_lawful (pass_lawful (table trees k ch.luma) k lumas s) (pass_lawful (table trees k ch.chroma) k chromas)

positions_lawful : (trees : List Tree) (lumas chromas : List ℕ) (n k : ℕ) (ch : Choices) (s : TokenState) → Lawful (positions_from trees lumas chromas n k ch s)
unfolding positions_from
positions_lawful trees lumas chromas zero k ch s = pure_lawful s
positions_lawful trees lumas chromas (suc n) k ch s =
    bind_lawful (choices_lawful k ch) (λ ch. bind_lawful (position_lawful trees lumas chromas k ch s) (λ s. positions_lawful trees lumas chromas n (k + 1) ch s))

pub tokens_lawful : (trees : List Tree) (luma count : ℕ) → Lawful (read_tokens trees luma count)
unfolding read_tokens
tokens_lawful trees luma count = bind_lawful (positions_lawful trees _ _ 64 0 _ _) (λ s. pure_lawful (tokens_of s))

-- ---- what is refused lies in the packet
choices_inside : {d : ℕ} (k : ℕ) (ch : Choices) → Inside d (choices k ch)
unfolding choices
choices_inside k ch = search inside depth 10

position_inside : {d : ℕ} (trees : List Tree) (lumas chromas : List ℕ) (k : ℕ) (ch : Choices) (s : TokenState) → Inside d (at_position trees lumas chromas k ch s)
unfolding at_position
position_inside trees lumas chromas k ch s = bind_inside (pass_inside (table trees k ch.luma) k lumas s) (pass_inside (table trees k ch.chroma) k chromas)

positions_inside : {d : ℕ} (trees : List Tree) (lumas chromas : List ℕ) (n k : ℕ) (ch : Choices) (s : TokenState) → Inside d (positions_from trees lumas chromas n k ch s)
unfolding positions_from
positions_inside trees lumas chromas zero k ch s = pure_inside s
positions_inside trees lumas chromas (suc n) k ch s =
    bind_inside (choices_inside k ch) (λ ch. bind_inside (position_inside trees lumas chromas k ch s) (λ s. positions_inside trees lumas chromas n (k + 1) ch s))

pub tokens_inside : {d : ℕ} (trees : List Tree) (luma count : ℕ) → Inside d (read_tokens trees luma count)
unfolding read_tokens
tokens_inside trees luma count = bind_inside (positions_inside trees _ _ 64 0 _ _) (λ s. pure_inside (tokens_of s))

-- ---- and is refused by 4 or 13
module _ {ks : List ℕ} (four : among ks 4 ≡ true) where
  choices_refuses : (k : ℕ) (ch : Choices) → Refuses ks (choices k ch)
  unfolding choices
  choices_refuses k ch = search (refuses, four) depth 10

  module _ (thirteen : among ks 13 ≡ true) where
    position_refuses : (trees : List Tree) (lumas chromas : List ℕ) (k : ℕ) (ch : Choices) (s : TokenState) → Refuses ks (at_position trees lumas chromas k ch s)
    unfolding at_position
    position_refuses trees lumas chromas k ch s = bind_refuses (pass_refuses four thirteen (table trees k ch.luma) k lumas s) (pass_refuses four thirteen (table trees k ch.chroma) k chromas)

    positions_refuses : (trees : List Tree) (lumas chromas : List ℕ) (n k : ℕ) (ch : Choices) (s : TokenState) → Refuses ks (positions_from trees lumas chromas n k ch s)
    unfolding positions_from
    positions_refuses trees lumas chromas zero k ch s = pure_refuses s
    positions_refuses trees lumas chromas (suc n) k ch s =
        bind_refuses (choices_refuses k ch) (λ ch. bind_refuses (position_refuses trees lumas chromas k ch s) (λ s. positions_refuses trees lumas chromas n (k + 1) ch s))

    pub tokens_refuses : (trees : List Tree) (luma count : ℕ) → Refuses ks (read_tokens trees luma count)
    unfolding read_tokens
    tokens_refuses trees luma count = bind_refuses (positions_refuses trees _ _ 64 0 _ _) (λ s. pure_refuses (tokens_of s))

-- ---- bits: a token takes at most 32 + 12, and there are at most 64 for each block
choices_spends : (k : ℕ) (ch : Choices) → Spends 8 (choices k ch)
unfolding choices
choices_spends k ch =
    pick_spends (ltb k 2) (λ _. spends_more (omega arith) (bind_spends (field_spends 4) (λ a. bind_spends {b = 0} (field_spends 4) (λ b. pure_spends _)))) (λ _. spends_more (omega arith) (pure_spends ch))

module _ (trees : List Tree) (f : AllProper trees) where
  position_spends : (lumas chromas : List ℕ) (k : ℕ) (ch : Choices) (s : TokenState) → Spends (44 * (length lumas + length chromas)) (at_position trees lumas chromas k ch s)
  unfolding at_position table
  position_spends lumas chromas k ch s =
      spends_more (omega arith)
      (bind_spends (pass_spends (proper_at trees (16 * group k + ch.luma) f) k lumas s) (λ s. pass_spends (proper_at trees (16 * group k + ch.chroma) f) k chromas s))

  positions_spends : (lumas chromas : List ℕ) (n k : ℕ) (ch : Choices) (s : TokenState) → Spends (n * (8 + 44 * (length lumas + length chromas))) (positions_from trees lumas chromas n k ch s)
  unfolding positions_from
  positions_spends lumas chromas zero k ch s = rw zero-mul (pure_spends s)
  positions_spends lumas chromas (suc n) k ch s =
      spends_more (rw suc-mul (omega arith))
      (bind_spends (choices_spends k ch) (λ ch. bind_spends (position_spends lumas chromas k ch s) (λ s. positions_spends lumas chromas n (k + 1) ch s)))

  -- 8 bits at each position, and 44 for each block there
  pub tokens_spends : (luma count : ℕ) → luma ≤ count → Spends (512 + 2816 * count) (read_tokens trees luma count)
  unfolding read_tokens
  tokens_spends luma count h =
      spends_more (omega (arith, ranks_length 0 luma, ranks_length luma (count - luma)))
      (bind_spends {b = 0} (positions_spends (ranks 0 luma) (ranks luma (count - luma)) 64 0 (choices_of 0 0) (start count)) (λ s. pure_spends (tokens_of s)))

-- ---- what is given
pub record Given (count : ℕ) (t : Tokens) : Type 0 where
  pub tokens : t.tokens ≤ 64 * count  -- at most 64 tokens for each coded block
  pub lasts : length t.lasts ≡ count
  pub coefs : length t.coefs ≡ 64 * count
  pub visits : Visits t.lasts  -- every last visit is at one of the 64 positions
  pub bounded : Bounded t.coefs  -- no coefficient is larger than 580

pub tokens_given : (trees : List Tree) (luma count : ℕ) (p : List ℕ) (i : ℕ) → luma ≤ count → {t : Tokens} {e : ℕ} → read_tokens trees luma count p i ≡ got t e → Given count t
unfolding read_tokens start
tokens_given trees luma count p i h {t} {e} r =
    let u = bind_got (positions_from trees (ranks 0 luma) (ranks luma (count - luma)) 64 0 (choices_of 0 0) (start count)) (λ s. pure (tokens_of s)) p i r in
    let n : length (start count).positions ≡ count = length-replicate count 0 in
    let g =
    positions_go trees (ranks 0 luma) (ranks luma (count - luma)) p 64 0 (choices_of 0 0) (start count) i (omega arith)
    (ranks_below 0 luma (length (start count).positions) (omega (arith, n)))
    (ranks_below luma (count - luma) (length (start count).positions) (omega (arith, n))) u.2 in
    let z : tokens_of u.0 ≡ t = cc in
    rw (← z)
    (record {
      tokens = omega (arith, g.tokens, room_most (start count).positions, n);
      lasts = g.lasts ∙ length-replicate count 0;
      coefs = g.coefs ∙ length-replicate (64 * count) (pos 0);
      visits = g.visits (λ b. omega (arith, same_at {A = ℕ} count b 0));
      bounded = g.bounded (λ j. rw (same_at (64 * count) j (pos 0)) (omega arith));
    })
