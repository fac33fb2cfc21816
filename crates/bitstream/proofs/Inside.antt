-- Two more laws of every parser that is made of the combinators.
--     Inside d m     from a place of the packet that is d or behind it, what m gets ends in the packet, and what it refuses it reports at a place of the packet.
--                    `refuse k e` reports at e, so it has the law from e on; a parser that reports no place of its own has it from 0 on
--     Refuses ks m   m refuses by the numbers of ks alone
-- A place of the packet is one from 0 to the number of its bits. Assumes nothing.
use Prim.Native.Nat.{ℕ, zero, suc, ◌≤◌}
use native.Mathlib.Omega.{arith}
use native.Mathlib.Nat.{le_refl, le_trans}
use mathlib.Core.Path.{◌≡◌, refl, sym, ap, ◌∙◌}
use mathlib.Core.List.{List, [], ◌∷◌, ◌++◌}
use mathlib.Core.Bool.{Bool, true, false}
use Rattle.bitstream.specs.Bits.{bits}
use Rattle.bitstream.specs.Lists.{among}
use Rattle.bitstream.specs.Reading.{Outcome, got, refused, Parse, after, pure, bind, here, refuse, guard, field, judged, whole, times, until, pick, many}
use Rattle.bitstream.proofs.Fields.{no_mix, field_cases, field_value}
use Rattle.bitstream.proofs.Laws.{whole_cases}

pub record Inside {A : Type 0} (d : ℕ) (m : Parse A) : Type 0 where
  pub ends : (p : List ℕ) (i : ℕ) (a : A) (e : ℕ) → d ≤ i → i ≤ bits p → m p i ≡ got a e → (i ≤ e) × (e ≤ bits p)
  pub faults : (p : List ℕ) (i k e : ℕ) → d ≤ i → i ≤ bits p → m p i ≡ refused k e → e ≤ bits p

-- from a later place on
pub inside_later : {A : Type 0} {m : Parse A} {d e : ℕ} → d ≤ e → Inside d m → Inside e m
inside_later h l =
    record {
      ends = λ p i a f s r. l.ends p i a f (le_trans h s) r;
      faults = λ p i k f s r. l.faults p i k f (le_trans h s) r;
    }

pub pure_inside : {A : Type 0} {d : ℕ} (a : A) → Inside d (pure a)
pure_inside {A} {d} a =
    record {
      ends = λ p i b e s h r. let z : i ≡ e = cc in (omega arith, omega arith);
      faults = λ p i k e s h r. no_mix r;
    }

pub refuse_inside : {A : Type 0} {d : ℕ} (k e : ℕ) → e ≤ d → Inside d (refuse {A = A} k e)
refuse_inside k e l =
    record {
      ends = λ p i b f s h r. no_mix (sym r);
      faults = λ p i j f s h r. let z : e ≡ f = cc in omega arith;
    }

pub guard_inside : {d : ℕ} (b : Bool) (k e : ℕ) → e ≤ d → Inside d (guard b k e)
guard_inside true k e l = pure_inside tt
guard_inside false k e l = refuse_inside k e l

pub field_inside : {d : ℕ} (n : ℕ) → Inside d (field n)
field_inside n =
    record {
      ends = λ p i a e s h r. let v = field_value n p i r in (omega arith, omega arith);
      faults = λ p i k e s h r. field_cases n p i (λ g q. no_mix (sym q ∙ r)) (λ g q. let t = sym q ∙ r in let z : i ≡ e = cc in omega arith);
    }

pub bind_inside : {A B : Type 0} {d : ℕ} {m : Parse A} {f : A → Parse B} → Inside d m → ((a : A) → Inside d (f a)) → Inside d (bind m f)
bind_inside {A} {B} {d} {m} {f} lm lf =
    record {
      ends = λ p i b e s h r. go_ends p i b e s h (m p i) refl r;
      faults = λ p i k e s h r. go_faults p i k e s h (m p i) refl r;
    }
  where
    go_ends : (p : List ℕ) (i : ℕ) (b : B) (e : ℕ) → d ≤ i → i ≤ bits p → (o : Outcome A) → m p i ≡ o → after o (λ a c. f a p c) ≡ got b e → (i ≤ e) × (e ≤ bits p)
    go_ends p i b e s h (got a c) q r =
        let u = lm.ends p i a c s h q in
        let v = (lf a).ends p c b e (le_trans s u.0) u.1 r in
        (le_trans u.0 v.0, v.1)
    go_ends p i b e s h (refused k c) q r = no_mix (sym r)

    go_faults : (p : List ℕ) (i k e : ℕ) → d ≤ i → i ≤ bits p → (o : Outcome A) → m p i ≡ o → after o (λ a c. f a p c) ≡ refused k e → e ≤ bits p
    go_faults p i k e s h (got a c) q r = let u = lm.ends p i a c s h q in (lf a).faults p c k e (le_trans s u.0) u.1 r
    go_faults p i k e s h (refused j c) q r = let z : c ≡ e = cc in rw (← z) (lm.faults p i j c s h q)

-- what follows `here` may report at that place
pub here_inside : {B : Type 0} {d : ℕ} {f : ℕ → Parse B} → ((at : ℕ) → d ≤ at → Inside at (f at)) → Inside d (bind here f)
here_inside l =
    record {
      ends = λ p i b e s h r. (l i s).ends p i b e (le_refl i) h r;
      faults = λ p i k e s h r. (l i s).faults p i k e (le_refl i) h r;
    }

pub pick_inside : {A : Type 0} {d : ℕ} (b : Bool) {m n : Parse A} → Inside d m → Inside d n → Inside d (pick b m n)
pick_inside true lm ln = lm
pick_inside false lm ln = ln

pub judged_inside : {d : ℕ} (n : ℕ) (test : ℕ → Bool) (k : ℕ) → Inside d (judged n test k)
unfolding judged
judged_inside n test k = here_inside (λ at s. bind_inside (field_inside n) (λ v. bind_inside (guard_inside (test v) k at (le_refl at)) (λ _. pure_inside v)))

pub whole_inside : {A : Type 0} {d : ℕ} {m : Parse A} → Inside d m → Inside d (whole m)
whole_inside {A} {d} {m} l =
    record {
      ends = λ p i a e s h r. whole_cases m p i (λ b c q w. l.ends p i a e s h (q ∙ (sym w ∙ r))) (λ k c q w. no_mix (sym r ∙ w));
      faults = λ p i k e s h r. whole_cases m p i (λ b c q w. no_mix (sym w ∙ r)) (λ j c q w. let y = sym w ∙ r in let z : i ≡ e = cc in omega arith);
    }

pub many_inside : {A : Type 0} {d : ℕ} (n : ℕ) {m : Parse A} → Inside d m → Inside d (many n m)
unfolding many
many_inside zero l = pure_inside []
many_inside (suc n) l = bind_inside l (λ a. bind_inside (many_inside n l) (λ r. pure_inside (a ∷ r)))

pub times_inside : {A : Type 0} {d : ℕ} (n : ℕ) {m : Parse A} (done : List A) → Inside d m → Inside d (times n m done)
unfolding times
times_inside zero done l = pure_inside done
times_inside (suc n) done l = bind_inside l (λ a. times_inside n (done ++ a ∷ []) l)

pub until_inside : {S : Type 0} {d : ℕ} (stop : S → Bool) (step : S → Parse S) (k n : ℕ) (s : S) → ((s : S) → Inside d (step s)) → Inside d (until stop step k n s)
unfolding until
until_inside stop step k zero s l = pick_inside (stop s) (pure_inside s) (here_inside (λ at h. refuse_inside k at (le_refl at)))
until_inside stop step k (suc n) s l = pick_inside (stop s) (pure_inside s) (bind_inside (l s) (λ t. until_inside stop step k n t l))

-- for `search inside`: the law of a composite, found from its parts
pub ruleset inside = (pure_inside, refuse_inside, guard_inside, field_inside, judged_inside, whole_inside, pick_inside, times_inside, many_inside, here_inside, bind_inside, le_refl)

-- a packet that is read from its first bit on: the place of a refusal is a place of the packet, and so is the place behind what was got
pub place_inside : {A : Type 0} {m : Parse A} → Inside 0 m → (p : List ℕ) (k e : ℕ) → m p 0 ≡ refused k e → e ≤ bits p
place_inside l p k e r = l.faults p 0 k e (omega arith) (omega arith) r

pub end_inside : {A : Type 0} {m : Parse A} → Inside 0 m → (p : List ℕ) (a : A) (e : ℕ) → m p 0 ≡ got a e → e ≤ bits p
end_inside l p a e r = (l.ends p 0 a e (omega arith) (omega arith) r).1

-- ---- the numbers
pub record Refuses {A : Type 0} (ks : List ℕ) (m : Parse A) : Type 0 where
  pub by : (p : List ℕ) (i k e : ℕ) → m p i ≡ refused k e → among ks k ≡ true

pub pure_refuses : {A : Type 0} {ks : List ℕ} (a : A) → Refuses ks (pure a)
pure_refuses a = record { by = λ p i k e r. no_mix r }

pub here_refuses : {ks : List ℕ} → Refuses ks here
here_refuses = record { by = λ p i k e r. no_mix r }

pub refuse_refuses : {A : Type 0} {ks : List ℕ} (k e : ℕ) → among ks k ≡ true → Refuses ks (refuse {A = A} k e)
refuse_refuses {A} {ks} k e h = record { by = λ p i j f r. let z : k ≡ j = cc in rw (← z) h }

pub guard_refuses : {ks : List ℕ} (b : Bool) (k e : ℕ) → among ks k ≡ true → Refuses ks (guard b k e)
guard_refuses true k e h = pure_refuses tt
guard_refuses false k e h = refuse_refuses k e h

pub field_refuses : {ks : List ℕ} (n : ℕ) → among ks 4 ≡ true → Refuses ks (field n)
field_refuses {ks} n h =
    record { by = λ p i k e r. field_cases n p i (λ g q. no_mix (sym q ∙ r)) (λ g q. let t = sym q ∙ r in let z : 4 ≡ k = cc in rw (← z) h) }

pub bind_refuses : {A B : Type 0} {ks : List ℕ} {m : Parse A} {f : A → Parse B} → Refuses ks m → ((a : A) → Refuses ks (f a)) → Refuses ks (bind m f)
bind_refuses {A} {B} {ks} {m} {f} lm lf = record { by = λ p i k e r. go p i k e (m p i) refl r }
  where
    go : (p : List ℕ) (i k e : ℕ) (o : Outcome A) → m p i ≡ o → after o (λ a c. f a p c) ≡ refused k e → among ks k ≡ true
    go p i k e (got a c) q r = (lf a).by p c k e r
    go p i k e (refused j c) q r = let z : j ≡ k = cc in rw (← z) (lm.by p i j c q)

pub pick_refuses : {A : Type 0} {ks : List ℕ} (b : Bool) {m n : Parse A} → Refuses ks m → Refuses ks n → Refuses ks (pick b m n)
pick_refuses true lm ln = lm
pick_refuses false lm ln = ln

pub judged_refuses : {ks : List ℕ} (n : ℕ) (test : ℕ → Bool) (k : ℕ) → among ks 4 ≡ true → among ks k ≡ true → Refuses ks (judged n test k)
unfolding judged
judged_refuses n test k h j = bind_refuses here_refuses (λ at. bind_refuses (field_refuses n h) (λ v. bind_refuses (guard_refuses (test v) k at j) (λ _. pure_refuses v)))

pub whole_refuses : {A : Type 0} {ks : List ℕ} {m : Parse A} → Refuses ks m → Refuses ks (whole m)
whole_refuses {A} {ks} {m} l =
    record { by = λ p i k e r. whole_cases m p i (λ b c q w. no_mix (sym w ∙ r)) (λ j c q w. let y = sym w ∙ r in let z : j ≡ k = cc in rw (← z) (l.by p i j c q)) }

pub many_refuses : {A : Type 0} {ks : List ℕ} (n : ℕ) {m : Parse A} → Refuses ks m → Refuses ks (many n m)
unfolding many
many_refuses zero l = pure_refuses []
many_refuses (suc n) l = bind_refuses l (λ a. bind_refuses (many_refuses n l) (λ r. pure_refuses (a ∷ r)))

pub times_refuses : {A : Type 0} {ks : List ℕ} (n : ℕ) {m : Parse A} (done : List A) → Refuses ks m → Refuses ks (times n m done)
unfolding times
times_refuses zero done l = pure_refuses done
times_refuses (suc n) done l = bind_refuses l (λ a. times_refuses n (done ++ a ∷ []) l)

pub until_refuses : {S : Type 0} {ks : List ℕ} (stop : S → Bool) (step : S → Parse S) (k n : ℕ) (s : S) → among ks k ≡ true → ((s : S) → Refuses ks (step s)) → Refuses ks (until stop step k n s)
unfolding until
until_refuses stop step k zero s h l = pick_refuses (stop s) (pure_refuses s) (bind_refuses here_refuses (λ at. refuse_refuses k at h))
until_refuses stop step k (suc n) s h l = pick_refuses (stop s) (pure_refuses s) (bind_refuses (l s) (λ t. until_refuses stop step k n t h l))

-- for `search refuses`
pub ruleset refuses = (pure_refuses, here_refuses, refuse_refuses, guard_refuses, field_refuses, judged_refuses, whole_refuses, pick_refuses, times_refuses, many_refuses, bind_refuses)
