-- The blocks of a list that stand at a position: visiting them is visiting all. Assumes nothing.
use Prim.Native.Nat.{ℕ, zero, suc, ◌+◌, ◌-◌, ◌*◌, ◌≤◌, ◌<◌}
use native.Mathlib.Omega.{arith}
use mathlib.Core.Path.{◌≡◌, refl, sym, ap, ◌∙◌}
use mathlib.Core.List.{List, [], ◌∷◌, ◌++◌}
use mathlib.Core.Bool.{Bool, true, false}
use lib.Dec.{eqb, ltb, leb}
use lib.ListN.{get_or, set, take, drop, take-append-drop}
use lib.Seq.{drop-drop}
use Rattle.bitstream.specs.Reading.{Outcome, got, refused, after, bind, pure, pick, guard}
use Rattle.bitstream.proofs.Fields.{no_mix}
use Rattle.huffman.specs.Tree.{Tree}
use Rattle.token.specs.Token.{Meaning, end_of_block, zero_run, coefficient}
use Rattle.token.proofs.Laws.{Sound}
use Rattle.token_reader.specs.Reader.{token}
use Rattle.token_reader.proofs.Laws.{token_sound}
use Rattle.block_positions.specs.Positions.{run_of}
use Rattle.block_positions.specs.Answer.{due_of}
use Rattle.block_positions.proofs.Due.{due, elsewhere, either, due_nil}
use Rattle.block_visits.specs.Visits.{TokenState, state_of, act, read_for, visit}
use Rattle.block_visits.proofs.Ways.{visit_other}
use Rattle.token_visits.specs.Visits.{pass}
use Rattle.token_visits.proofs.Goes.{AllBelow}

pub below_due : (m k : ℕ) (ps bs : List ℕ) → AllBelow m bs → AllBelow m (due_of k ps bs)
below_due m k ps [] h = rw (due_nil k ps) tt
below_due m k ps (b ∷ bs) h = either k ps b (λ e. rw (due k ps b bs e) (h.0, below_due m k ps bs h.1)) (λ e. rw (elsewhere k ps b bs e) (below_due m k ps bs h.1))

-- ---- a visit leaves no block at k that was not there
abbrev Stays : ℕ → List ℕ → List ℕ → Type 0
Stays k ps qs = (c : ℕ) → (get_or ps c 0 ≡ k → ⊥) → get_or qs c 0 ≡ k → ⊥

stays_set : (k : ℕ) (ps : List ℕ) (b x : ℕ) → (x ≡ k → ⊥) → Stays k ps (set ps b x)
stays_set k [] b x h c n e = n e
stays_set k (p ∷ ps) zero x h zero n e = h e
stays_set k (p ∷ ps) zero x h (suc c) n e = n e
stays_set k (p ∷ ps) (suc b) x h zero n e = n e
stays_set k (p ∷ ps) (suc b) x h (suc c) n e = stays_set k ps b x h c n e

module _ (k b : ℕ) (s : TokenState) (l : k < 64) where
  act_stays : (m : Meaning) → Sound m → (p : List ℕ) (i d : ℕ) {s' : TokenState} {e : ℕ} → act k b i m s p d ≡ got s' e → Stays k s.positions s'.positions
  unfolding act
  act_stays (end_of_block n) o p i d {s'} {e} h =
      let z : state_of (set s.positions b 64) (set s.lasts b k) s.coefs (run_of s.positions n - 1) (s.tokens + 1) ≡ s' = cc in
      rw (← z) (stays_set k s.positions b 64 (λ x. omega (arith, x)))
  act_stays (zero_run n) o p i d {s'} {e} h = go (leb (k + n) 64) h
    where
      go : (c : Bool) → bind (guard c 13 i) (λ _. pure (state_of (set s.positions b (k + n)) (set s.lasts b k) s.coefs s.run (s.tokens + 1))) p d ≡ got s' e → Stays k s.positions s'.positions
      go true h =
          let z : state_of (set s.positions b (k + n)) (set s.lasts b k) s.coefs s.run (s.tokens + 1) ≡ s' = cc in
          rw (← z) (stays_set k s.positions b (k + n) (λ x. omega (arith, x, o)))
      go false h = no_mix (sym h)
  act_stays (coefficient n v) o p i d {s'} {e} h = go (leb (k + n + 1) 64) h
    where
      go : (c : Bool) → bind (guard c 13 i) (λ _. pure (state_of (set s.positions b (k + n + 1)) (set s.lasts b k) (set s.coefs (64 * b + (k + n)) v) s.run (s.tokens + 1))) p d ≡ got s' e → Stays k s.positions s'.positions
      go true h =
          let z : state_of (set s.positions b (k + n + 1)) (set s.lasts b k) (set s.coefs (64 * b + (k + n)) v) s.run (s.tokens + 1) ≡ s' = cc in
          rw (← z) (stays_set k s.positions b (k + n + 1) (λ x. omega (arith, x)))
      go false h = no_mix (sym h)

  read_stays : (tree : Tree) (p : List ℕ) (i : ℕ) {s' : TokenState} {e : ℕ} → read_for tree k b s p i ≡ got s' e → Stays k s.positions s'.positions
  unfolding read_for
  read_stays tree p i {s'} {e} h = go (token tree p i) refl h
    where
      go : (o : Outcome Meaning) → token tree p i ≡ o → after o (λ m d. act k b i m s p d) ≡ got s' e → Stays k s.positions s'.positions
      go (got m d) c r = act_stays m (token_sound tree p i c) p i d r
      go (refused j d) c r = no_mix (sym r)

  visit_stays : (tree : Tree) (p : List ℕ) (i : ℕ) {s' : TokenState} {e : ℕ} → visit tree k b s p i ≡ got s' e → Stays k s.positions s'.positions
  unfolding visit
  visit_stays tree p i {s'} {e} h = go (eqb (get_or s.positions b 0) k) (ltb 0 s.run) h
    where
      go : (x y : Bool) → pick x (pick y (pure (state_of (set s.positions b 64) (set s.lasts b k) s.coefs (s.run - 1) s.tokens)) (read_for tree k b s)) (pure s) p i ≡ got s' e → Stays k s.positions s'.positions
      go false y r = let z : s ≡ s' = cc in rw (← z) (λ c n. n)
      go true true r =
          let z : state_of (set s.positions b 64) (set s.lasts b k) s.coefs (s.run - 1) s.tokens ≡ s' = cc in
          rw (← z) (stays_set k s.positions b 64 (λ x. omega (arith, x)))
      go true false r = read_stays tree p i r

-- ---- so a pass over those that stood at k is the pass over all
module _ (tree : Tree) (k : ℕ) (p : List ℕ) (l : k < 64) where
  after_visit : (b : ℕ) (bs cs : List ℕ) (s : TokenState) (i : ℕ) → ((s' : TokenState) (e : ℕ) → visit tree k b s p i ≡ got s' e → pass tree k bs s' p e ≡ pass tree k cs s' p e)
      → pass tree k (b ∷ bs) s p i ≡ pass tree k (b ∷ cs) s p i
  unfolding pass
  after_visit b bs cs s i h = go (visit tree k b s p i) refl
    where
      go : (o : Outcome TokenState) → visit tree k b s p i ≡ o → after o (λ s' e. pass tree k bs s' p e) ≡ after o (λ s' e. pass tree k cs s' p e)
      go (got s' e) v = h s' e v
      go (refused n e) v = refl

  skip : (b : ℕ) (bs : List ℕ) (s : TokenState) (i : ℕ) → (get_or s.positions b 0 ≡ k → ⊥) → pass tree k (b ∷ bs) s p i ≡ pass tree k bs s p i
  unfolding pass
  skip b bs s i h = rw (visit_other tree k b s p i h)

  pass_due : (ps bs : List ℕ) (s : TokenState) (i : ℕ) → Stays k ps s.positions → pass tree k (due_of k ps bs) s p i ≡ pass tree k bs s p i
  pass_due ps [] s i h = ap (λ (x : List ℕ). pass tree k x s p i) (due_nil k ps)
  pass_due ps (b ∷ bs) s i h =
      either k ps b
      (λ e. ap (λ (x : List ℕ). pass tree k x s p i) (due k ps b bs e)
      ∙ after_visit b (due_of k ps bs) bs s i (λ s' d v. let g = visit_stays k b s l tree p i v in pass_due ps bs s' d (λ c n. g c (h c n))))
      (λ e. ap (λ (x : List ℕ). pass tree k x s p i) (elsewhere k ps b bs e) ∙ (pass_due ps bs s i h ∙ sym (skip b bs s i (h b e))))

  pass_append : (bs cs : List ℕ) (s : TokenState) (i : ℕ) → pass tree k (bs ++ cs) s p i ≡ after (pass tree k bs s p i) (λ s' e. pass tree k cs s' p e)
  unfolding pass
  pass_append [] cs s i = refl
  pass_append (b ∷ bs) cs s i = go (visit tree k b s p i) (λ s' e. pass_append bs cs s' e)
    where
      go : (o : Outcome TokenState) → ((s' : TokenState) (e : ℕ) → pass tree k (bs ++ cs) s' p e ≡ after (pass tree k bs s' p e) (λ s'' d. pass tree k cs s'' p d)) → after o (λ s' e. pass tree k (bs ++ cs) s' p e) ≡ after (after o (λ s' e. pass tree k bs s' p e)) (λ s' e. pass tree k cs s' p e)
      go (got s' e) f = f s' e
      go (refused n e) f = refl

  -- ---- a part of the list, from the index j to `end`
  module _ (bs : List ℕ) (j end : ℕ) (s : TokenState) (i : ℕ) (h : j ≤ end) where
    abbrev part : List ℕ
    part = take (end - j) (drop j bs)

    in_parts : pass tree k (drop j bs) s p i ≡ after (pass tree k (due_of k s.positions part) s p i) (λ s' e. pass tree k (drop end bs) s' p e)
    in_parts =
        let z : j + (end - j) ≡ end = omega arith in
        let d : drop (end - j) (drop j bs) ≡ drop end bs = drop-drop (end - j) j bs ∙ ap (λ (n : ℕ). drop n bs) z in
        ap (λ (x : List ℕ). pass tree k x s p i) (sym (take-append-drop (end - j) (drop j bs)) ∙ ap (λ (x : List ℕ). part ++ x) d)
        ∙ (pass_append part (drop end bs) s i ∙ ap (λ (o : Outcome TokenState). after o (λ s' e. pass tree k (drop end bs) s' p e)) (sym (pass_due s.positions part s i (λ c n. n))))

    pub part_got : {s' : TokenState} {e : ℕ} → pass tree k (due_of k s.positions part) s p i ≡ got s' e → pass tree k (drop j bs) s p i ≡ pass tree k (drop end bs) s' p e
    part_got g = in_parts ∙ ap (λ (o : Outcome TokenState). after o (λ s' e. pass tree k (drop end bs) s' p e)) g

    pub part_refused : {n e : ℕ} → pass tree k (due_of k s.positions part) s p i ≡ refused n e → pass tree k (drop j bs) s p i ≡ refused n e
    part_refused g = in_parts ∙ ap (λ (o : Outcome TokenState). after o (λ s' e. pass tree k (drop end bs) s' p e)) g

-- ---- every block of a part is one of n
all_take : (n m : ℕ) (bs : List ℕ) → AllBelow n bs → AllBelow n (take m bs)
all_take n zero bs h = tt
all_take n (suc m) [] h = tt
all_take n (suc m) (b ∷ bs) h = (h.0, all_take n m bs h.1)

all_drop : (n m : ℕ) (bs : List ℕ) → AllBelow n bs → AllBelow n (drop m bs)
all_drop n zero bs h = h
all_drop n (suc m) [] h = tt
all_drop n (suc m) (b ∷ bs) h = all_drop n m bs h.1

pub below_part : (n j m : ℕ) (bs : List ℕ) → AllBelow n bs → AllBelow n (take m (drop j bs))
below_part n j m bs h = all_take n m (drop j bs) (all_drop n j bs h)
