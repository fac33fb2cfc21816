-- The ways that a visit can go, and what an answer says of them. Assumes nothing.
use Prim.Native.Nat.{ℕ, ◌+◌, ◌-◌, ◌*◌, ◌≤◌, ◌<◌}
use native.Mathlib.Omega.{arith}
use mathlib.Core.Path.{◌≡◌, refl, sym, ◌∙◌}
use mathlib.Core.List.{List, []}
use lib.ListN.{get_or, set}
use lib.IntN.{ℤ}
use borrow.Author.Tests.{lt-ltb, le-ltb, eq-eqb, ne_eqb, le-leb, lt-leb}
use Rattle.bitstream.specs.Reading.{Outcome, got, refused, after}
use Rattle.huffman.specs.Tree.{Tree}
use Rattle.token.specs.Token.{Meaning, end_of_block, zero_run, coefficient}
use Rattle.token.specs.Answer.{as_token}
use Rattle.token.specs.declared.Token.{Token}
use Rattle.token.specs.declared.Token.TheVariants as t
use Rattle.token_reader.specs.Reader.{token}
use Rattle.block_positions.specs.Positions.{run_of}
use Rattle.block_visits.specs.Visits.{TokenState, state_of, act, read_for, visit}
use Rattle.block_visits.specs.Answer.{as_visit, Kept, outcome_of, acted}
use Rattle.block_visits.specs.declared.Visit.{Visit}
use Rattle.block_visits.specs.declared.Visit.TheVariants.{Done, Refused}

-- ---- what the answer of `read_token` says, by its arm
module _ {r : Token} (o : Outcome Meaning) (s : r ≡ as_token o) where
  pub is_end : {n e : ℕ} → r ≡ t.EndOfBlock n e → o ≡ got (end_of_block n) e
  is_end {n} {e} g = go o (sym s ∙ g)
    where
      go : (o : Outcome Meaning) → as_token o ≡ t.EndOfBlock n e → o ≡ got (end_of_block n) e
      go (got (end_of_block a) d) h = cc
      go (got (zero_run a) d) h = let z : ◌≡◌ {A = ℕ} 0 1 = cc in absurd (omega arith)
      go (got (coefficient a v) d) h = let z : ◌≡◌ {A = ℕ} 0 1 = cc in absurd (omega arith)
      go (refused k d) h = let z : ◌≡◌ {A = ℕ} 0 1 = cc in absurd (omega arith)

  pub is_zeros : {n e : ℕ} → r ≡ t.ZeroRun n e → o ≡ got (zero_run n) e
  is_zeros {n} {e} g = go o (sym s ∙ g)
    where
      go : (o : Outcome Meaning) → as_token o ≡ t.ZeroRun n e → o ≡ got (zero_run n) e
      go (got (end_of_block a) d) h = let z : ◌≡◌ {A = ℕ} 0 1 = cc in absurd (omega arith)
      go (got (zero_run a) d) h = cc
      go (got (coefficient a v) d) h = let z : ◌≡◌ {A = ℕ} 0 1 = cc in absurd (omega arith)
      go (refused k d) h = let z : ◌≡◌ {A = ℕ} 0 1 = cc in absurd (omega arith)

  pub is_value : {n e : ℕ} {v : ℤ} → r ≡ t.Coefficient n v e → o ≡ got (coefficient n v) e
  is_value {n} {e} {v} g = go o (sym s ∙ g)
    where
      go : (o : Outcome Meaning) → as_token o ≡ t.Coefficient n v e → o ≡ got (coefficient n v) e
      go (got (end_of_block a) d) h = let z : ◌≡◌ {A = ℕ} 0 1 = cc in absurd (omega arith)
      go (got (zero_run a) d) h = let z : ◌≡◌ {A = ℕ} 0 1 = cc in absurd (omega arith)
      go (got (coefficient a w) d) h = cc
      go (refused k d) h = let z : ◌≡◌ {A = ℕ} 0 1 = cc in absurd (omega arith)

  pub is_refused : {k e : ℕ} → r ≡ t.Refused k e → o ≡ refused k e
  is_refused {k} {e} g = go o (sym s ∙ g)
    where
      go : (o : Outcome Meaning) → as_token o ≡ t.Refused k e → o ≡ refused k e
      go (got (end_of_block a) d) h = let z : ◌≡◌ {A = ℕ} 0 1 = cc in absurd (omega arith)
      go (got (zero_run a) d) h = let z : ◌≡◌ {A = ℕ} 0 1 = cc in absurd (omega arith)
      go (got (coefficient a w) d) h = let z : ◌≡◌ {A = ℕ} 0 1 = cc in absurd (omega arith)
      go (refused j d) h = cc

-- ---- the ways of a token for a block
module _ (k b : ℕ) (s : TokenState) (p : List ℕ) (i e : ℕ) where
  pub act_end : (n : ℕ) → act k b i (end_of_block n) s p e ≡ got (state_of (set s.positions b 64) (set s.lasts b k) s.coefs (run_of s.positions n - 1) (s.tokens + 1)) e
  unfolding act
  act_end n = refl

  pub act_zeros : (n : ℕ) → k + n ≤ 64 → act k b i (zero_run n) s p e ≡ got (state_of (set s.positions b (k + n)) (set s.lasts b k) s.coefs s.run (s.tokens + 1)) e
  unfolding act
  act_zeros n h = rw (le-leb _ _ h)

  pub zeros_past : (n : ℕ) → 64 < k + n → act k b i (zero_run n) s p e ≡ refused 13 i
  unfolding act
  zeros_past n h = rw (lt-leb _ _ h)

  pub act_value : (n : ℕ) (v : ℤ) → k + n + 1 ≤ 64
      → act k b i (coefficient n v) s p e ≡ got (state_of (set s.positions b (k + n + 1)) (set s.lasts b k) (set s.coefs (64 * b + (k + n)) v) s.run (s.tokens + 1)) e
  unfolding act
  act_value n v h = rw (le-leb _ _ h)

  pub value_past : (n : ℕ) (v : ℤ) → 64 < k + n + 1 → act k b i (coefficient n v) s p e ≡ refused 13 i
  unfolding act
  value_past n v h = rw (lt-leb _ _ h)

-- ---- what an answer says, and what a token does
pub said : (r : Token) → r ≡ as_token (outcome_of r)
said (t.EndOfBlock k e) = refl
said (t.ZeroRun k e) = refl
said (t.Coefficient k v e) = refl
said (t.Refused k e) = refl

heard : (o : Outcome Meaning) → outcome_of (as_token o) ≡ o
heard (got (end_of_block k) e) = refl
heard (got (zero_run k) e) = refl
heard (got (coefficient k v) e) = refl
heard (refused k e) = refl

no_packet : (k b i : ℕ) (m : Meaning) (s : TokenState) (p : List ℕ) (e : ℕ) → act k b i m s p e ≡ act k b i m s [] e
unfolding act
no_packet k b i (end_of_block n) s p e = refl
no_packet k b i (zero_run n) s p e = refl
no_packet k b i (coefficient n v) s p e = refl

pub read_acts : (tree : Tree) (k b : ℕ) (s : TokenState) (p : List ℕ) (i : ℕ) (r : Token) → r ≡ as_token (token tree p i) → read_for tree k b s p i ≡ acted k b i s (outcome_of r)
unfolding read_for
read_acts tree k b s p i r h = rw (h, heard (token tree p i)) (go (token tree p i))
  where
    go : (o : Outcome Meaning) → after o (λ m e. act k b i m s p e) ≡ after o (λ m e. act k b i m s [] e)
    go (got m e) = no_packet k b i m s p e
    go (refused j e) = refl

-- ---- the ways of a visit
module _ (tree : Tree) (k b : ℕ) (s : TokenState) (p : List ℕ) (i : ℕ) where
  pub visit_other : (get_or s.positions b 0 ≡ k → ⊥) → visit tree k b s p i ≡ got s i
  unfolding visit
  visit_other h = rw (ne_eqb _ _ h)

  pub visit_run : get_or s.positions b 0 ≡ k → 0 < s.run
      → visit tree k b s p i ≡ got (state_of (set s.positions b 64) (set s.lasts b k) s.coefs (s.run - 1) s.tokens) i
  unfolding visit
  visit_run h r = rw (eq-eqb _ _ h, lt-ltb _ _ r)

  pub visit_token : get_or s.positions b 0 ≡ k → s.run ≤ 0 → visit tree k b s p i ≡ read_for tree k b s p i
  unfolding visit
  visit_token h r = rw (eq-eqb _ _ h, le-ltb _ _ r)

-- ---- what the answer and the slices say of an outcome
module _ {r : Visit} (o : Outcome TokenState) (s : r ≡ as_visit o) where
  pub visit_done : (ps ls : List ℕ) (cs : List ℤ) {e run tokens : ℕ} → Kept ps ls cs o → r ≡ Done e run tokens → o ≡ got (state_of ps ls cs run tokens) e
  visit_done ps ls cs {e} {run} {tokens} w g = go o w (sym s ∙ g)
    where
      go : (o : Outcome TokenState) → Kept ps ls cs o → as_visit o ≡ Done e run tokens → o ≡ got (state_of ps ls cs run tokens) e
      go (got a d) w h =
          let x : d ≡ e = cc in
          let y : a.run ≡ run = cc in
          let z : a.tokens ≡ tokens = cc in
          λ i. got (state_of (sym w.0 i) (sym w.1 i) (sym w.2 i) (y i) (z i)) (x i)
      go (refused k d) w h = let z : ◌≡◌ {A = ℕ} 0 1 = cc in absurd (omega arith)

  pub visit_refused : {k e : ℕ} → r ≡ Refused k e → o ≡ refused k e
  visit_refused {k} {e} g = go o (sym s ∙ g)
    where
      go : (o : Outcome TokenState) → as_visit o ≡ Refused k e → o ≡ refused k e
      go (got a d) h = let z : ◌≡◌ {A = ℕ} 0 1 = cc in absurd (omega arith)
      go (refused j d) h = cc

-- ---- what a return has to show
module _ (ps ls : List ℕ) (cs : List ℤ) (o : Outcome TokenState) where
  pub on_refusal : {k e : ℕ} → o ≡ refused k e → (Refused k e ≡ as_visit o) × Kept ps ls cs o
  on_refusal h = rw h (refl, tt)

  pub on_refused : {r : Visit} {k e : ℕ} → r ≡ Refused k e → o ≡ refused k e → (r ≡ as_visit o) × Kept ps ls cs o
  on_refused s h = rw h (s, tt)

  pub on_state : {run tokens e : ℕ} → o ≡ got (state_of ps ls cs run tokens) e → (Done e run tokens ≡ as_visit o) × Kept ps ls cs o
  on_state h = rw h (refl, (refl, refl, refl))

  pub on_same : {r : Visit} (o' : Outcome TokenState) → o ≡ o' → r ≡ as_visit o' → Kept ps ls cs o' → (r ≡ as_visit o) × Kept ps ls cs o
  on_same o' h x y = rw h (x, y)
