-- The quantization parameters have the laws of the reading algebra. Assumes nothing.
use Prim.Native.Nat.{ℕ, zero, suc, ◌+◌, ◌-◌, ◌*◌, ◌≤◌}
use native.Mathlib.Omega.{arith}
use mathlib.Core.Path.{◌≡◌, refl, ◌∙◌}
use mathlib.Core.Bool.{Bool, true, false}
use borrow.Author.Tests.{eqb-true}
use mathlib.Core.List.{List, [], ◌∷◌, ◌++◌}
use lib.Dec.{eqb, ltb, leb}
use lib.ListN.{length, get_or}
use Rattle.bitstream.specs.Lists.{among}
use Rattle.bitstream.specs.Reading.{Outcome, got, refused, Parse, after, pure, bind, pick, choose, many}
use Rattle.bitstream.proofs.Laws.{Lawful, lawful, pure_lawful, bind_lawful, until_lawful}
use Rattle.bitstream.proofs.Inside.{Inside, inside, pure_inside, bind_inside, until_inside, Refuses, refuses, pure_refuses, bind_refuses, until_refuses}
use Rattle.bitstream.proofs.Spends.{Spends, spends_more, pure_spends, here_then, field_then, field_spends, judged_spends, bind_spends, bind_spends_got, bind_spends_by, pick_spends, many_spends, until_spends}
use Rattle.quantization.specs.Parameters.{Ranges, Begun, with_range, scales, matrix_count, base_matrix, range, new_set, none, set_from, more_sets, quantization}
use Rattle.set_fields.specs.Fields.{ilog, index, range_size, origin}
use Rattle.quantization.proofs.Steps.{count_range}
use Rattle.set_fields.proofs.Fields.{ilog_le}
use Rattle.quantization.proofs.Sets.{Origin, origin_is}

-- ---- local and firm
pub scales_lawful : Lawful scales
unfolding scales
scales_lawful = search lawful depth 10

pub count_lawful : Lawful matrix_count
unfolding matrix_count
count_lawful = search lawful depth 10

pub base_lawful : Lawful base_matrix
unfolding base_matrix
base_lawful = search lawful depth 10

pub index_lawful : (n : ℕ) → Lawful (index n)
unfolding index
index_lawful n = search lawful depth 10

pub size_lawful : (qi : ℕ) → Lawful (range_size qi)
unfolding range_size
size_lawful qi = search lawful depth 10

pub range_lawful : (n : ℕ) (s : Begun) → Lawful (range n s)
unfolding range
range_lawful n s = search (lawful, size_lawful, index_lawful) depth 14

pub new_lawful : (n : ℕ) → Lawful (new_set n)
unfolding new_set
new_lawful n = search (lawful, index_lawful, range_lawful, until_lawful) depth 14

pub origin_lawful : (k : ℕ) → Lawful (origin k)
unfolding origin
origin_lawful k = search lawful depth 14

pub from_lawful : (n : ℕ) (done : List Ranges) (back : ℕ) → Lawful (set_from n done back)
unfolding set_from
from_lawful n done back = search (lawful, new_lawful) depth 14

pub sets_lawful : (k n : ℕ) (done : List Ranges) → Lawful (more_sets k n done)
unfolding more_sets
sets_lawful zero n done = pure_lawful done
sets_lawful (suc k) n done =
    bind_lawful (origin_lawful (length done)) (λ back. bind_lawful (from_lawful n done back) (λ r. sets_lawful k n (done ++ r ∷ [])))

pub quantization_lawful : Lawful quantization
unfolding quantization
quantization_lawful = search (lawful, scales_lawful, count_lawful, base_lawful, sets_lawful) depth 16

-- ---- what is refused lies in the packet
scales_inside : {d : ℕ} → Inside d scales
unfolding scales
scales_inside = search inside depth 10

count_inside : {d : ℕ} → Inside d matrix_count
unfolding matrix_count
count_inside = search inside depth 10

base_inside : {d : ℕ} → Inside d base_matrix
unfolding base_matrix
base_inside = search inside depth 10

index_inside : {d : ℕ} (n : ℕ) → Inside d (index n)
unfolding index
index_inside n = search inside depth 10

size_inside : {d : ℕ} (qi : ℕ) → Inside d (range_size qi)
unfolding range_size
size_inside qi = search inside depth 10

range_inside : {d : ℕ} (n : ℕ) (s : Begun) → Inside d (range n s)
unfolding range
range_inside n s = search (inside, size_inside, index_inside) depth 14

new_inside : {d : ℕ} (n : ℕ) → Inside d (new_set n)
unfolding new_set
new_inside n = search (inside, index_inside, range_inside, until_inside) depth 14

origin_inside : {d : ℕ} (k : ℕ) → Inside d (origin k)
unfolding origin
origin_inside k = search inside depth 14

from_inside : {d : ℕ} (n : ℕ) (done : List Ranges) (back : ℕ) → Inside d (set_from n done back)
unfolding set_from
from_inside n done back = search (inside, new_inside) depth 14

sets_inside : {d : ℕ} (k n : ℕ) (done : List Ranges) → Inside d (more_sets k n done)
unfolding more_sets
sets_inside zero n done = pure_inside done
sets_inside (suc k) n done =
    bind_inside (origin_inside (length done)) (λ back. bind_inside (from_inside n done back) (λ r. sets_inside k n (done ++ r ∷ [])))

pub quantization_inside : {d : ℕ} → Inside d quantization
unfolding quantization
quantization_inside = search (inside, scales_inside, count_inside, base_inside, sets_inside) depth 16

-- ---- and is refused by 4 or 7
module _ {ks : List ℕ} (four : among ks 4 ≡ true) where
  scales_refuses : Refuses ks scales
  unfolding scales
  scales_refuses = search (refuses, four) depth 10

  base_refuses : Refuses ks base_matrix
  unfolding base_matrix
  base_refuses = search (refuses, four) depth 10

  origin_refuses : (k : ℕ) → Refuses ks (origin k)
  unfolding origin
  origin_refuses k = search (refuses, four) depth 14

  module _ (seven : among ks 7 ≡ true) where
    count_refuses : Refuses ks matrix_count
    unfolding matrix_count
    count_refuses = search (refuses, four, seven) depth 10

    index_refuses : (n : ℕ) → Refuses ks (index n)
    unfolding index
    index_refuses n = search (refuses, four, seven) depth 10

    size_refuses : (qi : ℕ) → Refuses ks (range_size qi)
    unfolding range_size
    size_refuses qi = search (refuses, four, seven) depth 10

    range_refuses : (n : ℕ) (s : Begun) → Refuses ks (range n s)
    unfolding range
    range_refuses n s = search (refuses, size_refuses, index_refuses) depth 14

    new_refuses : (n : ℕ) → Refuses ks (new_set n)
    unfolding new_set
    new_refuses n = search (refuses, index_refuses, range_refuses, until_refuses, seven) depth 14

    from_refuses : (n : ℕ) (done : List Ranges) (back : ℕ) → Refuses ks (set_from n done back)
    unfolding set_from
    from_refuses n done back = search (refuses, new_refuses) depth 14

    sets_refuses : (k n : ℕ) (done : List Ranges) → Refuses ks (more_sets k n done)
    unfolding more_sets
    sets_refuses zero n done = pure_refuses done
    sets_refuses (suc k) n done =
        bind_refuses (origin_refuses (length done)) (λ back. bind_refuses (from_refuses n done back) (λ r. sets_refuses k n (done ++ r ∷ [])))

    pub quantization_refuses : Refuses ks quantization
    unfolding quantization
    quantization_refuses = search (refuses, scales_refuses, count_refuses, base_refuses, sets_refuses) depth 16

-- ---- how many bits
after_after : {A B C : Type 0} (o : Outcome A) (f : A → ℕ → Outcome B) (g : B → ℕ → Outcome C) → after (after o f) g ≡ after o (λ a e. after (f a e) g)
after_after (got a e) f g = refl
after_after (refused k e) f g = refl

-- in which way three parts are joined changes nothing
bind_assoc_spends : {A B C : Type 0} (m : Parse A) (f : A → Parse B) (g : B → Parse C) {n : ℕ} → Spends n (bind (bind m f) g) → Spends n (bind m (λ a. bind (f a) g))
bind_assoc_spends m f g s =
    record {
      ends = λ p i x e r. s.ends p i x e (after_after (m p i) (λ a d. f a p d) (λ b d. g b p d) ∙ r);
      short = λ p i e r. s.short p i e (after_after (m p i) (λ a d. f a p d) (λ b d. g b p d) ∙ r);
    }

seven : ◌≡◌ {A = ℕ} 7 4 → ⊥
seven z = absurd (omega arith)

pub scales_spends : Spends 1028 scales
unfolding scales
scales_spends = field_then 4 (λ n h. many_spends 64 {a = 16} (spends_more (omega arith) (field_spends (n + 1))))

pub count_spends : Spends 9 matrix_count
unfolding matrix_count
count_spends = bind_spends (judged_spends 9 (λ v. leb (v + 1) 384) 7 seven) (λ v. pure_spends (v + 1))

pub index_spends : (n : ℕ) → n ≤ 384 → Spends 9 (index n)
unfolding index
index_spends n h = spends_more (ilog_le (n - 1) 9 (omega arith)) (judged_spends (ilog (n - 1)) (λ v. ltb v n) 7 seven)

pub size_spends : (qi : ℕ) → Spends 6 (range_size qi)
unfolding range_size
size_spends qi = spends_more (ilog_le (62 - qi) 6 (omega arith)) (judged_spends (ilog (62 - qi)) (λ v. leb (qi + (v + 1)) 63) 7 seven)

pub range_spends : (n : ℕ) (s : Begun) → n ≤ 384 → Spends 15 (range n s)
unfolding range
range_spends n s h = bind_spends (size_spends s.reached) (λ v. bind_spends (index_spends n h) (λ b. pure_spends (with_range s v b)))

pub new_spends : (n : ℕ) → n ≤ 384 → Spends 954 (new_set n)
unfolding new_set
new_spends n h =
    bind_spends (index_spends n h)
    (λ b. bind_spends (until_spends (λ s. leb 63 s.reached) (range n) 7 63 (record { reached = 0; sizes = []; indices = b ∷ [] }) seven (λ s. range_spends n s h))
    (λ s. pure_spends (record { sizes = s.sizes; indices = s.indices })))

origin_short : (k : ℕ) → Spends 2 (origin k)
unfolding origin
origin_short k =
    pick_spends (eqb k 0) (λ _. spends_more (omega arith) (pure_spends 0))
    (λ _. field_then 1 {b = 1} (λ newqr _. pick_spends (eqb newqr 1) (λ _. spends_more (omega arith) (pure_spends 0))
    (λ _. pick_spends (ltb k 3) (λ _. spends_more (omega arith) (pure_spends 1)) (λ _. bind_spends (field_spends 1) (λ rpqr. pure_spends (choose (eqb rpqr 1) 3 1))))))

-- a set that is new takes at most one bit for its origin, and one that is copied two bits in all
pub set_spends : (n : ℕ) (done : List Ranges) → n ≤ 384 → Spends 955 (bind (origin (length done)) (set_from n done))
unfolding set_from
set_spends n done h =
    bind_spends_by (λ back. choose (eqb back 0) 1 2) (λ p i e r. omega (arith, (origin_short (length done)).short p i e r))
    (λ p i back e r. go back (eqb back 0) refl (origin_is (length done) p i r))
  where
    go : (back : ℕ) (t : Bool) → eqb back 0 ≡ t → {i e : ℕ} → Origin (length done) i back e
        → (e ≤ i + choose t 1 2) × (choose t 1 2 ≤ 955) × Spends (955 - choose t 1 2) (pick t (new_set n) (pure (get_or done (length done - back) none)))
    go back true t o = (o.new_ends (eqb-true _ _ t), omega arith, new_spends n h)
    go back false t o = (o.ends, omega arith, spends_more (omega arith) (pure_spends (get_or done (length done - back) none)))

pub sets_spends : (k n : ℕ) (done : List Ranges) → n ≤ 384 → Spends (k * 955) (more_sets k n done)
unfolding more_sets
sets_spends zero n done h = pure_spends done
sets_spends (suc k) n done h = spends_more (omega arith) (bind_assoc_spends (origin (length done)) (set_from n done) (λ r. more_sets k n (done ++ r ∷ [])) (bind_spends (set_spends n done h) (λ r. sets_spends k n (done ++ r ∷ []) h)))

matrices_spend : (n : ℕ) → n ≤ 384 → Spends 196608 (many n base_matrix)
unfolding base_matrix
matrices_spend n h = spends_more {a = n * 512} (omega arith) (many_spends n {a = 512} (many_spends 64 {a = 8} (field_spends 8)))

pub quantization_spends : Spends 204403 quantization
unfolding quantization
quantization_spends =
    bind_spends scales_spends (λ ac. bind_spends scales_spends (λ dc. bind_spends_got count_spends (λ n p i e r. let h = (count_range p i r).1 in
    here_then (λ at. bind_spends (matrices_spend n h) (λ ms. bind_spends (sets_spends 6 n [] h)
    (λ sets. pure_spends (record { ac_scale = ac; dc_scale = dc; matrices_at = at; matrices = ms; sets = sets })))))))
