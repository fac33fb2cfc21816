-- Two laws that every parser made of the combinators has:
--     local    what it gets depends on no bit behind the place where it ends
--     firm     what it refuses by a number other than 4 it refuses on every longer packet too
-- and a third, `moves`, that they rest on. Assumes nothing.
use Prim.Native.Nat.{ℕ, zero, suc, ◌+◌, ◌-◌, ◌*◌, ◌/◌, ◌%◌, ◌^◌, ◌≤◌, ◌<◌}
use native.Mathlib.Omega.{arith}
use native.Mathlib.Nat.{le_trans}
use mathlib.Core.Path.{◌≡◌, refl, sym, ap, ◌∙◌, subst}
use mathlib.Core.List.{List, [], ◌∷◌, ◌++◌, append-nil, append_assoc}
use mathlib.Core.Bool.{Bool, true, false}
use lib.ListN.{length, get_or, length-append, get_or-append}
use Rattle.bitstream.specs.Bits.{bits, bit_at, number}
use Rattle.bitstream.specs.Reading.{Outcome, got, refused, Parse, after, pure, bind, here, refuse, guard, field, judged, whole, times, until, pick, many}
use Rattle.bitstream.proofs.Numbers.{number_same}
use Rattle.bitstream.proofs.Fields.{no_mix, field_got, field_cases, field_value}

-- the first e bits of p are those of q, which has as many
pub record Agree (e : ℕ) (p q : List ℕ) : Type 0 where
  pub same : (k : ℕ) → k < e → bit_at p k ≡ bit_at q k
  pub room : e ≤ bits q

pub agree_less : {e d : ℕ} {p q : List ℕ} → d ≤ e → Agree e p q → Agree d p q
agree_less h g = record { same = λ k l. g.same k (omega arith); room = le_trans h g.room }

pub agree_more : (p more : List ℕ) → Agree (bits p) p (p ++ more)
unfolding bit_at
agree_more p more =
    record {
      same = λ k l. ap (λ (b : ℕ). b / 2 ^ (7 - k % 8) % 2) (sym (get_or-append p more 0 (k / 8) (omega arith)));
      room = rw length-append (omega arith);
    }

pub record Lawful {A : Type 0} (m : Parse A) : Type 0 where
  pub moves : (p : List ℕ) (i : ℕ) (a : A) (e : ℕ) → i ≤ bits p → m p i ≡ got a e → (i ≤ e) × (e ≤ bits p)
  pub local : (p q : List ℕ) (i : ℕ) (a : A) (e : ℕ) → i ≤ bits p → m p i ≡ got a e → Agree e p q → m q i ≡ got a e
  pub firm : (p q : List ℕ) (i k e : ℕ) → i ≤ bits p → m p i ≡ refused k e → (k ≡ 4 → ⊥) → Agree (bits p) p q → m q i ≡ refused k e

pub pure_lawful : {A : Type 0} (a : A) → Lawful (pure a)
pure_lawful {A} a =
    record {
      moves = λ p i b e h r. let z : i ≡ e = cc in (omega arith, omega arith);
      local = λ p q i b e h r g. r;
      firm = λ p q i k e h r n g. r;
    }

pub here_lawful : Lawful here
here_lawful =
    record {
      moves = λ p i b e h r. let z : i ≡ e = cc in (omega arith, omega arith);
      local = λ p q i b e h r g. r;
      firm = λ p q i k e h r n g. r;
    }

pub refuse_lawful : {A : Type 0} (k e : ℕ) → Lawful (refuse {A = A} k e)
refuse_lawful {A} k e =
    record {
      moves = λ p i b d h r. no_mix (sym r);
      local = λ p q i b d h r g. r;
      firm = λ p q i k' e' h r n g. r;
    }

pub guard_lawful : (b : Bool) (k e : ℕ) → Lawful (guard b k e)
guard_lawful true k e = pure_lawful tt
guard_lawful false k e = refuse_lawful k e

pub field_lawful : (n : ℕ) → Lawful (field n)
field_lawful n =
    record {
      moves = λ p i a e h r. let v = field_value n p i r in (omega arith, omega arith);
      local = λ p q i a e h r g. go p q i a e (field_value n p i r) g;
      firm = λ p q i k e h r f g. field_cases n p i (λ h s. no_mix (sym s ∙ r)) (λ h s. let t = sym s ∙ r in absurd (f (cc)));
    }
  where
    go : (p q : List ℕ) (i a e : ℕ) → ((a ≡ number p i n) × (e ≡ i + n) × (i + n ≤ bits p)) → Agree e p q → field n q i ≡ got a e
    go p q i a e v g =
        let s : number p i n ≡ number q i n = number_same p q i n (λ k l. g.same k (omega arith)) in
        field_got n q i (omega (arith, g.room)) ∙ (cc)

pub bind_lawful : {A B : Type 0} {m : Parse A} {f : A → Parse B} → Lawful m → ((a : A) → Lawful (f a)) → Lawful (bind m f)
bind_lawful {A} {B} {m} {f} lm lf =
    record {
      moves = λ p i b e h r. go_moves p i b e h (m p i) refl r;
      local = λ p q i b e h r g. go_local p q i b e h (m p i) refl r g;
      firm = λ p q i k e h r n g. go_firm p q i k e h (m p i) refl r n g;
    }
  where
    go_moves : (p : List ℕ) (i : ℕ) (b : B) (e : ℕ) → i ≤ bits p → (o : Outcome A) → m p i ≡ o → after o (λ a d. f a p d) ≡ got b e → (i ≤ e) × (e ≤ bits p)
    go_moves p i b e h (got a d) s r =
        let u = lm.moves p i a d h s in
        let v = (lf a).moves p d b e u.1 r in
        (le_trans u.0 v.0, v.1)
    go_moves p i b e h (refused k d) s r = no_mix (sym r)

    go_local : (p q : List ℕ) (i : ℕ) (b : B) (e : ℕ) → i ≤ bits p → (o : Outcome A) → m p i ≡ o → after o (λ a d. f a p d) ≡ got b e → Agree e p q → bind m f q i ≡ got b e
    go_local p q i b e h (got a d) s r g =
        let u = lm.moves p i a d h s in
        let v = (lf a).moves p d b e u.1 r in
        rw (lm.local p q i a d h s (agree_less v.0 g)) ((lf a).local p q d b e u.1 r g)
    go_local p q i b e h (refused k d) s r g = no_mix (sym r)

    go_firm : (p q : List ℕ) (i k e : ℕ) → i ≤ bits p → (o : Outcome A) → m p i ≡ o → after o (λ a d. f a p d) ≡ refused k e → (k ≡ 4 → ⊥) → Agree (bits p) p q → bind m f q i ≡ refused k e
    go_firm p q i k e h (got a d) s r n g =
        let u = lm.moves p i a d h s in
        rw (lm.local p q i a d h s (agree_less u.1 g)) ((lf a).firm p q d k e u.1 r n g)
    go_firm p q i k e h (refused k' d) s r n g = rw (lm.firm p q i k' d h s (λ z. n (cc)) g) r

pub times_lawful : {A : Type 0} (n : ℕ) {m : Parse A} (done : List A) → Lawful m → Lawful (times n m done)
unfolding times
times_lawful zero done l = pure_lawful done
times_lawful (suc n) done l = bind_lawful l (λ a. times_lawful n (done ++ a ∷ []) l)

pub pick_lawful : {A : Type 0} (b : Bool) {m n : Parse A} → Lawful m → Lawful n → Lawful (pick b m n)
pick_lawful true lm ln = lm
pick_lawful false lm ln = ln

pub until_lawful : {S : Type 0} (stop : S → Bool) (step : S → Parse S) (k n : ℕ) (s : S) → ((s : S) → Lawful (step s)) → Lawful (until stop step k n s)
unfolding until
until_lawful stop step k zero s l = pick_lawful (stop s) (pure_lawful s) (bind_lawful here_lawful (refuse_lawful k))
until_lawful stop step k (suc n) s l = pick_lawful (stop s) (pure_lawful s) (bind_lawful (l s) (λ t. until_lawful stop step k n t l))

-- ---- enough steps: where each step raises a size, and the test holds from the size n on, n steps from the size 0 are enough
-- no packet reaches the last clause of `until` then: whatever number stands there, the outcome is the same
pub until_enough : {S : Type 0} (stop : S → Bool) (step : S → Parse S) (size : S → ℕ) (n : ℕ)
    → ((s : S) → n ≤ size s → stop s ≡ true)
    → ((s : S) (p : List ℕ) (i : ℕ) (t : S) (e : ℕ) → step s p i ≡ got t e → size s < size t)
    → (k l m : ℕ) (s : S) → n ≤ size s + m → (p : List ℕ) (i : ℕ) → until stop step k m s p i ≡ until stop step l m s p i
unfolding until
until_enough stop step size n ends grows k l zero s h p i = rw (ends s (omega arith))
until_enough {S} stop step size n ends grows k l (suc m) s h p i =
    go (stop s) (λ t e x. until_enough stop step size n ends grows k l m t x p e)
  where
    Later : Type 0
    Later = (t : S) (e : ℕ) → n ≤ size t + m → until stop step k m t p e ≡ until stop step l m t p e

    same : (o : Outcome S) → step s p i ≡ o → Later → after o (λ t e. until stop step k m t p e) ≡ after o (λ t e. until stop step l m t p e)
    same (got t e) q f = f t e (omega (arith, h, grows s p i t e q))
    same (refused j e) q f = refl

    go : (b : Bool) → Later → pick b (pure s) (bind (step s) (until stop step k m)) p i ≡ pick b (pure s) (bind (step s) (until stop step l m)) p i
    go true f = refl
    go false f = same (step s p i) refl f

pub many_lawful : {A : Type 0} (n : ℕ) {m : Parse A} → Lawful m → Lawful (many n m)
unfolding many
many_lawful zero l = pure_lawful []
many_lawful (suc n) l = bind_lawful l (λ a. bind_lawful (many_lawful n l) (λ r. pure_lawful (a ∷ r)))

-- a judgement, and a refusal that is reported at the first bit, keep the laws
pub judged_lawful : (n : ℕ) (test : ℕ → Bool) (k : ℕ) → Lawful (judged n test k)
unfolding judged
judged_lawful n test k = bind_lawful here_lawful (λ at. bind_lawful (field_lawful n) (λ v. bind_lawful (guard_lawful (test v) k at) (λ _. pure_lawful v)))

-- the outcome of `whole m` and that of m
pub whole_got : {A : Type 0} (m : Parse A) (p : List ℕ) (i : ℕ) {a : A} {e : ℕ} → m p i ≡ got a e → whole m p i ≡ got a e
unfolding whole
whole_got m p i h = rw h

pub whole_refused : {A : Type 0} (m : Parse A) (p : List ℕ) (i : ℕ) {k e : ℕ} → m p i ≡ refused k e → whole m p i ≡ refused k i
unfolding whole
whole_refused m p i h = rw h

pub whole_cases : {X A : Type 0} (m : Parse A) (p : List ℕ) (i : ℕ) → ((a : A) (e : ℕ) → (m p i ≡ got a e) → (whole m p i ≡ got a e) → X)
    → ((k e : ℕ) → (m p i ≡ refused k e) → (whole m p i ≡ refused k i) → X) → X
whole_cases {X} {A} m p i f g = go (m p i) refl
  where
    go : (o : Outcome A) → m p i ≡ o → X
    go (got a e) h = f a e h (whole_got m p i h)
    go (refused k e) h = g k e h (whole_refused m p i h)

pub whole_lawful : {A : Type 0} {m : Parse A} → Lawful m → Lawful (whole m)
whole_lawful {A} {m} l =
    record {
      moves = λ p i a e h r. l.moves p i a e h (inside p i r);
      local = λ p q i a e h r g. whole_got m q i (l.local p q i a e h (inside p i r) g);
      firm = λ p q i k e h r n g.
          whole_cases m p i (λ b d s w. no_mix (sym w ∙ r))
          (λ j d s w. let t = sym w ∙ r in let z : j ≡ k = cc in whole_refused m q i (l.firm p q i j d h s (λ y. n (sym z ∙ y)) g) ∙ t);
    }
  where
    inside : (p : List ℕ) (i : ℕ) {a : A} {e : ℕ} → whole m p i ≡ got a e → m p i ≡ got a e
    inside p i r = whole_cases m p i (λ b d s w. s ∙ (sym w ∙ r)) (λ k d s w. no_mix (sym r ∙ w))

-- ---- on a packet with more behind it
pub got_more : {A : Type 0} {m : Parse A} → Lawful m → (p more : List ℕ) (i : ℕ) (a : A) (e : ℕ) → i ≤ bits p → m p i ≡ got a e → m (p ++ more) i ≡ got a e
got_more l p more i a e h r = l.local p (p ++ more) i a e h r (agree_less (l.moves p i a e h r).1 (agree_more p more))

pub refused_more : {A : Type 0} {m : Parse A} → Lawful m → (p more : List ℕ) (i k e : ℕ) → i ≤ bits p → m p i ≡ refused k e → (k ≡ 4 → ⊥) → m (p ++ more) i ≡ refused k e
refused_more l p more i k e h r n = l.firm p (p ++ more) i k e h r n (agree_more p more)

-- what a bind that got a value went through
pub bind_got : {A B : Type 0} (m : Parse A) (f : A → Parse B) (p : List ℕ) (i : ℕ) {b : B} {e : ℕ} → bind m f p i ≡ got b e
    → (a : A) × (d : ℕ) × (m p i ≡ got a d) × (f a p d ≡ got b e)
bind_got {A} {B} m f p i {b} {e} h = go (m p i) refl h
  where
    go : (o : Outcome A) → m p i ≡ o → after o (λ a d. f a p d) ≡ got b e → (a : A) × (d : ℕ) × (m p i ≡ got a d) × (f a p d ≡ got b e)
    go (got a d) s r = (a, d, s, r)
    go (refused k d) s r = no_mix (sym r)

-- a bind, by the outcome of its first part
module _ {A B : Type 0} (m : Parse A) (f : A → Parse B) (p : List ℕ) (i : ℕ) where
  pub bind_step : {a : A} {e : ℕ} → m p i ≡ got a e → bind m f p i ≡ f a p e
  bind_step h = rw h

  pub bind_refused : {k e : ℕ} → m p i ≡ refused k e → bind m f p i ≡ refused k e
  bind_refused h = rw h

-- for `search lawful`: the laws of a composite, found from its parts
pub ruleset lawful = (pure_lawful, here_lawful, refuse_lawful, guard_lawful, field_lawful, judged_lawful, whole_lawful, pick_lawful, times_lawful, many_lawful, bind_lawful)

-- `times` is `many` with a list to start from: so a definition may say `many n m`, and a loop's invariant `times (n - k) m done`
times_step : {A : Type 0} (done : List A) (a : A) (o : Outcome (List A))
    → after o (λ l e. got (done ++ a ∷ [] ++ l) e) ≡ after (after o (λ l e. got (a ∷ l) e)) (λ l e. got (done ++ l) e)
times_step done a (got l e) = ap (λ (x : List _). got x e) (append_assoc done (a ∷ []) l)
times_step done a (refused k e) = refl

pub times_many : {A : Type 0} (n : ℕ) (m : Parse A) (done : List A) (p : List ℕ) (i : ℕ) → times n m done p i ≡ after (many n m p i) (λ l e. got (done ++ l) e)
unfolding times many
times_many zero m done p i = ap (λ (x : List _). got x i) (sym (append-nil done))
times_many {A} (suc n) m done p i = go (m p i) (λ d j. times_many n m d p j)
  where
    go : (o : Outcome A) → ((d : List A) (j : ℕ) → times n m d p j ≡ after (many n m p j) (λ l e. got (d ++ l) e))
        → after o (λ a e. times n m (done ++ a ∷ []) p e) ≡ after (after o (λ a e. after (many n m p e) (λ l f. got (a ∷ l) f))) (λ l e. got (done ++ l) e)
    go (got a e) ih = ih (done ++ a ∷ []) e ∙ times_step done a (many n m p e)
    go (refused k e) ih = refl

pub times_is_many : {A : Type 0} (n : ℕ) (m : Parse A) (p : List ℕ) (i : ℕ) → many n m p i ≡ times n m [] p i
times_is_many {A} n m p i = sym (times_many n m [] p i ∙ go (many n m p i))
  where
    go : (o : Outcome (List A)) → after o (λ l e. got ([] ++ l) e) ≡ o
    go (got l e) = refl
    go (refused k e) = refl

-- ---- what every step keeps holds at the end, and so does the test
pub until_keeps : {S : Type 0} (stop : S → Bool) (step : S → Parse S) (k : ℕ) (P : S → Type 0)
    → ((s : S) (p : List ℕ) (i : ℕ) (t : S) (e : ℕ) → P s → step s p i ≡ got t e → P t)
    → (n : ℕ) (s : S) → P s → (p : List ℕ) (i : ℕ) (t : S) (e : ℕ) → until stop step k n s p i ≡ got t e → P t × (stop t ≡ true)
unfolding until
until_keeps {S} stop step k P f zero s h p i t e g = go (stop s) refl g
  where
    go : (b : Bool) → stop s ≡ b → pick b (pure s) (bind here (refuse k)) p i ≡ got t e → P t × (stop t ≡ true)
    go true q r = let z : s ≡ t = cc in (subst P z h, ap stop (sym z) ∙ q)
    go false q r = no_mix (sym r)
until_keeps {S} stop step k P f (suc n) s h p i t e g = go (stop s) refl g (λ u j x. until_keeps stop step k P f n u x p j t e)
  where
    go : (b : Bool) → stop s ≡ b → pick b (pure s) (bind (step s) (until stop step k n)) p i ≡ got t e
        → ((u : S) (j : ℕ) → P u → until stop step k n u p j ≡ got t e → P t × (stop t ≡ true)) → P t × (stop t ≡ true)
    go true q r _ = let z : s ≡ t = cc in (subst P z h, ap stop (sym z) ∙ q)
    go false q r f' = let u = bind_got (step s) (until stop step k n) p i r in f' u.0 u.1 (f s p i u.0 u.1 h u.2) u.3
