-- What a visit and a pass do to the state: how the blocks move on. Assumes nothing.
use Prim.Native.Nat.{ℕ, zero, suc, ◌+◌, ◌-◌, ◌*◌, ◌≤◌, ◌<◌}
use native.Mathlib.Omega.{arith}
use native.Mathlib.Nat.{le_trans, le_refl}
use mathlib.Core.Path.{◌≡◌, refl, sym, ap, ◌∙◌}
use mathlib.Core.List.{List, [], ◌∷◌}
use mathlib.Core.Bool.{Bool, true, false}
use lib.Dec.{eqb, ltb, leb}
use lib.ListN.{length, get_or, set, length-set}
use lib.Seq.{get_or-set_other}
use lib.IntN.{ℤ, pos, nat_abs}
use borrow.Author.Tests.{eqb-true}
use Rattle.bitstream.specs.Reading.{Outcome, got, refused, after, bind, pure, pick, guard}
use Rattle.bitstream.proofs.Fields.{no_mix}
use Rattle.bitstream.proofs.Laws.{bind_got}
use Rattle.huffman.specs.Tree.{Tree}
use Rattle.token.specs.Token.{Meaning, end_of_block, zero_run, coefficient}
use Rattle.token.proofs.Laws.{Sound}
use Rattle.token_reader.specs.Reader.{token}
use Rattle.token_reader.proofs.Laws.{token_sound}
use Rattle.block_positions.specs.Positions.{run_of}
use Rattle.block_visits.specs.Visits.{TokenState, state_of, act, read_for, visit}
use Rattle.token_visits.specs.Visits.{pass}
use Rattle.block_positions.specs.Answer.{Below}
use Rattle.token_visits.specs.Answer.{room}

-- ---- the room that the blocks have
pub room_set : (ps : List ℕ) (b x : ℕ) → b < length ps → room (set ps b x) + (64 - get_or ps b 0) ≡ room ps + (64 - x)
unfolding room
room_set [] b x h = absurd (omega (arith, h))
room_set (p ∷ ps) zero x h = omega arith
room_set (p ∷ ps) (suc b) x h = omega (arith, room_set ps b x (omega (arith, h)))

pub room_most : (ps : List ℕ) → room ps ≤ 64 * length ps
unfolding room
room_most [] = omega arith
room_most (p ∷ ps) = omega (arith, room_most ps)

-- a block that is finished stays so
abbrev pub Later : List ℕ → List ℕ → Type 0
Later ps qs = (b : ℕ) → 64 ≤ get_or ps b 0 → 64 ≤ get_or qs b 0

-- every last visit is at one of the 64 positions; no coefficient is larger than 580
abbrev pub Visits : List ℕ → Type 0
Visits ls = (b : ℕ) → get_or ls b 0 < 64

abbrev pub Bounded : List ℤ → Type 0
Bounded cs = (j : ℕ) → nat_abs (get_or cs j (pos 0)) ≤ 580

-- how the state s goes to s'
pub record Goes (s s' : TokenState) : Type 0 where
  pub blocks : length s'.positions ≡ length s.positions
  pub lasts : length s'.lasts ≡ length s.lasts
  pub coefs : length s'.coefs ≡ length s.coefs
  pub tokens : s'.tokens + room s'.positions ≤ s.tokens + room s.positions
  pub later : Later s.positions s'.positions
  pub visits : Visits s.lasts → Visits s'.lasts
  pub bounded : Bounded s.coefs → Bounded s'.coefs

pub goes_same : (s : TokenState) → Goes s s
goes_same s = record { blocks = refl; lasts = refl; coefs = refl; tokens = le_refl _; later = λ b h. h; visits = λ h. h; bounded = λ h. h }

pub goes_on : {s₁ s₂ s₃ : TokenState} → Goes s₁ s₂ → Goes s₂ s₃ → Goes s₁ s₃
goes_on f g =
    record {
      blocks = g.blocks ∙ f.blocks;
      lasts = g.lasts ∙ f.lasts;
      coefs = g.coefs ∙ f.coefs;
      tokens = le_trans g.tokens f.tokens;
      later = λ b h. g.later b (f.later b h);
      visits = λ h. g.visits (f.visits h);
      bounded = λ h. g.bounded (f.bounded h);
    }

-- ---- lists with one element changed
set_keeps : {A : Type 0} (P : A → Type 0) (d : A) (l : List A) (i : ℕ) (a : A) → P a → ((j : ℕ) → P (get_or l j d)) → (j : ℕ) → P (get_or (set l i a) j d)
set_keeps P d [] i a h w j = w j
set_keeps P d (x ∷ l) zero a h w zero = h
set_keeps P d (x ∷ l) zero a h w (suc j) = w (suc j)
set_keeps P d (x ∷ l) (suc i) a h w zero = w zero
set_keeps P d (x ∷ l) (suc i) a h w (suc j) = set_keeps P d l i a h (λ k. w (suc k)) j

visits_set : (ls : List ℕ) (b k : ℕ) → k < 64 → Visits ls → Visits (set ls b k)
visits_set ls b k h v j = set_keeps (λ x. x < 64) 0 ls b k h v j

bounded_set : (cs : List ℤ) (i : ℕ) (v : ℤ) → nat_abs v ≤ 580 → Bounded cs → Bounded (set cs i v)
bounded_set cs i v h w j = set_keeps (λ x. nat_abs x ≤ 580) (pos 0) cs i v h w j

later_set : (ps : List ℕ) (b x : ℕ) → get_or ps b 0 < 64 → Later ps (set ps b x)
later_set ps b x h j l = rw (get_or-set_other ps b j x 0 (λ e. absurd (omega (arith, ap (λ (i : ℕ). get_or ps i 0) e)))) l

-- ---- a block that stands at k, and moves on
module _ (k b : ℕ) (s : TokenState) (l : k < 64) (w : b < length s.positions) (at : get_or s.positions b 0 ≡ k) where
  moves : (j run tokens : ℕ) (cs : List ℤ) → k < j → tokens ≤ s.tokens + 1 → length cs ≡ length s.coefs → (Bounded s.coefs → Bounded cs)
      → Goes s (state_of (set s.positions b j) (set s.lasts b k) cs run tokens)
  moves j run tokens cs f n c v =
      record {
        blocks = length-set s.positions b j;
        lasts = length-set s.lasts b k;
        coefs = c;
        tokens = omega (arith, room_set s.positions b j w, at);
        later = later_set s.positions b j (omega (arith, at));
        visits = visits_set s.lasts b k l;
        bounded = v;
      }

  act_goes : (m : Meaning) → Sound m → (p : List ℕ) (i d : ℕ) {s' : TokenState} {e : ℕ} → act k b i m s p d ≡ got s' e → Goes s s'
  unfolding act
  act_goes (end_of_block n) o p i d {s'} {e} h =
      let z : state_of (set s.positions b 64) (set s.lasts b k) s.coefs (run_of s.positions n - 1) (s.tokens + 1) ≡ s' = cc in
      rw (← z) (moves 64 _ (s.tokens + 1) s.coefs l (le_refl _) refl (λ v. v))
  act_goes (zero_run n) o p i d {s'} {e} h = go (leb (k + n) 64) h
    where
      go : (c : Bool) → bind (guard c 13 i) (λ _. pure (state_of (set s.positions b (k + n)) (set s.lasts b k) s.coefs s.run (s.tokens + 1))) p d ≡ got s' e → Goes s s'
      go true h =
          let z : state_of (set s.positions b (k + n)) (set s.lasts b k) s.coefs s.run (s.tokens + 1) ≡ s' = cc in
          rw (← z) (moves (k + n) _ (s.tokens + 1) s.coefs (omega (arith, o)) (le_refl _) refl (λ v. v))
      go false h = no_mix (sym h)
  act_goes (coefficient n v) o p i d {s'} {e} h = go (leb (k + n + 1) 64) h
    where
      go : (c : Bool) → bind (guard c 13 i) (λ _. pure (state_of (set s.positions b (k + n + 1)) (set s.lasts b k) (set s.coefs (64 * b + (k + n)) v) s.run (s.tokens + 1))) p d ≡ got s' e → Goes s s'
      go true h =
          let z : state_of (set s.positions b (k + n + 1)) (set s.lasts b k) (set s.coefs (64 * b + (k + n)) v) s.run (s.tokens + 1) ≡ s' = cc in
          rw (← z) (moves (k + n + 1) _ (s.tokens + 1) (set s.coefs (64 * b + (k + n)) v) (omega arith) (le_refl _) (length-set s.coefs (64 * b + (k + n)) v) (bounded_set s.coefs (64 * b + (k + n)) v o))
      go false h = no_mix (sym h)

  read_goes : (tree : Tree) (p : List ℕ) (i : ℕ) {s' : TokenState} {e : ℕ} → read_for tree k b s p i ≡ got s' e → Goes s s'
  unfolding read_for
  read_goes tree p i {s'} {e} h = go (token tree p i) refl h
    where
      go : (o : Outcome Meaning) → token tree p i ≡ o → after o (λ m d. act k b i m s p d) ≡ got s' e → Goes s s'
      go (got m d) c r = act_goes m (token_sound tree p i c) p i d r
      go (refused j d) c r = no_mix (sym r)

pub visit_goes : (tree : Tree) (k b : ℕ) (s : TokenState) (p : List ℕ) (i : ℕ) → k < 64 → b < length s.positions → {s' : TokenState} {e : ℕ} → visit tree k b s p i ≡ got s' e → Goes s s'
unfolding visit
visit_goes tree k b s p i l w {s'} {e} h = go (eqb (get_or s.positions b 0) k) (ltb 0 s.run) refl h
  where
    go : (x y : Bool) → eqb (get_or s.positions b 0) k ≡ x
        → pick x (pick y (pure (state_of (set s.positions b 64) (set s.lasts b k) s.coefs (s.run - 1) s.tokens)) (read_for tree k b s)) (pure s) p i ≡ got s' e → Goes s s'
    go false y a r = let z : s ≡ s' = cc in rw (← z) (goes_same s)
    go true true a r =
        let z : state_of (set s.positions b 64) (set s.lasts b k) s.coefs (s.run - 1) s.tokens ≡ s' = cc in
        rw (← z) (moves k b s l w (eqb-true _ _ a) 64 _ s.tokens s.coefs l (omega arith) refl (λ v. v))
    go true false a r = read_goes k b s l w (eqb-true _ _ a) tree p i r

-- every block of the list is one of n
abbrev pub AllBelow : ℕ → List ℕ → Type 0
AllBelow n [] = Unit {0}
AllBelow n (b ∷ bs) = (b < n) × AllBelow n bs

-- ---- the two ways to say that every block of a list is one of n
pub below_each : (n : ℕ) (bs : List ℕ) → AllBelow n bs → Below n bs
below_each n bs h = record { each = λ j l. go bs h j l }
  where
    go : (bs : List ℕ) → AllBelow n bs → (j : ℕ) → j < length bs → get_or bs j 0 < n
    go [] h j l = absurd (omega (arith, l))
    go (b ∷ bs) h zero l = h.0
    go (b ∷ bs) h (suc j) l = go bs h.1 j (omega (arith, l))

pub all_below : (n : ℕ) (bs : List ℕ) → Below n bs → AllBelow n bs
all_below n bs h = go bs h.each
  where
    go : (bs : List ℕ) → ((j : ℕ) → j < length bs → get_or bs j 0 < n) → AllBelow n bs
    go [] f = tt
    go (b ∷ bs) f = (f 0 (omega arith), go bs (λ j l. f (suc j) (omega (arith, l))))

-- ---- a pass
pub pass_goes : (tree : Tree) (k : ℕ) (p : List ℕ) → k < 64 → (bs : List ℕ) (s : TokenState) (i : ℕ) → AllBelow (length s.positions) bs → {s' : TokenState} {e : ℕ}
    → pass tree k bs s p i ≡ got s' e → Goes s s'
unfolding pass
pass_goes tree k p l [] s i w {s'} {e} h = let z : s ≡ s' = cc in rw (← z) (goes_same s)
pass_goes tree k p l (b ∷ bs) s i w {s'} {e} h =
    let u = bind_got (visit tree k b s) (pass tree k bs) p i h in
    let f = visit_goes tree k b s p i l w.0 u.2 in
    goes_on f (pass_goes tree k p l bs u.0 u.1 (rw f.blocks w.1) u.3)
