-- How `tree` goes, by what its fields are, and the list of the nodes that `grow` stores. Assumes nothing.
use Prim.Native.Nat.{ℕ, zero, suc, ◌+◌, ◌-◌, ◌*◌, ◌/◌, ◌%◌, ◌≤◌, ◌<◌}
use native.Mathlib.Nat.{zero-add}
use native.Mathlib.Omega.{arith}
use native.Mathlib.Numerals.{add-one}
use mathlib.Core.Path.{◌≡◌, refl, sym, ap, ap₂, ◌∙◌}
use mathlib.Core.Logic.{inl, inr}
use mathlib.Core.List.{List, [], ◌∷◌, ◌++◌, append_assoc, append-nil}
use mathlib.Core.Bool.{Bool, true, false, ◌&&◌, false≢true}
use lib.Dec.{leb, ltb}
use lib.ListN.{length, get_or, take, drop, set, replicate, length-append, length-replicate, replicate-append-replicate}
use lib.Seq.{take-suc, append_snoc, set_split, set_at, take_at, drop_at, drop-append-add, drop-drop, length-take-le, paste-suc, take-append-add, drop-length}
use borrow.Author.Tests.{eq-eqb, ne_eqb, lt-ltb, le-ltb, leb-true, ltb-true}
use Rattle.bitstream.specs.Bits.{bits, number}
use Rattle.bitstream.specs.Reading.{Outcome, got, refused, after, field}
use Rattle.bitstream.proofs.Fields.{field_got, field_end, judged_end, judged_fails, judged_passes}
use Rattle.huffman.specs.Tree.{Tree, leaf, fork, leaves, size, allowed, leaf_bit, leaf_token, tree, huffman_tree, flat, nodes_of}
use Rattle.huffman.specs.Answer.{nodes_after, Told, Stored}
use Rattle.bitstream.specs.Answer.{as_end}
use Rattle.bitstream.specs.declared.End.TheVariants as end
use Rattle.huffman.proofs.Two.{leaf_bit_law, leaf_token_law, fork_bit, left_bit, left_token}
use Rattle.huffman.proofs.Trees.{branches, proper_size, read_proper}

-- ---- the steps, by the leaf bit
module _ (d seen : ℕ) (p : List ℕ) (i : ℕ) where
  bit_end : field 1 p i ≡ refused 4 i → leaf_bit d seen p i ≡ refused 4 i
  unfolding leaf_bit
  bit_end f = judged_end 1 (allowed d seen) 7 p i f

  bit_fails : {b e : ℕ} → field 1 p i ≡ got b e → allowed d seen b ≡ false → leaf_bit d seen p i ≡ refused 7 i
  unfolding leaf_bit
  bit_fails f t = judged_fails 1 (allowed d seen) 7 p i f t

  bit_passes : {b e : ℕ} → field 1 p i ≡ got b e → allowed d seen b ≡ true → leaf_bit d seen p i ≡ got b e
  unfolding leaf_bit
  bit_passes f t = judged_passes 1 (allowed d seen) 7 p i f t

module _ (seen : ℕ) (p : List ℕ) (i : ℕ) where
  bit_refused : (d : ℕ) {k e : ℕ} → leaf_bit d seen p i ≡ refused k e → tree d seen p i ≡ refused k e
  unfolding tree
  bit_refused zero f = rw f
  bit_refused (suc d) f = rw f

  pub tree_end : (d : ℕ) → field 1 p i ≡ refused 4 i → tree d seen p i ≡ refused 4 i
  tree_end d f = bit_refused d (bit_end d seen p i f)

  tree_full : (d : ℕ) {b e : ℕ} → field 1 p i ≡ got b e → b ≡ 1 → 32 ≤ seen → tree d seen p i ≡ refused 7 i
  tree_full d f h l = bit_refused d (bit_fails d seen p i f (rw (eq-eqb _ _ h) (le-ltb seen 32 l)))

  tree_deep : (d : ℕ) {b e : ℕ} → field 1 p i ≡ got b e → (b ≡ 1 → ⊥) → d ≡ 0 → tree d seen p i ≡ refused 7 i
  tree_deep d f h z = bit_refused d (bit_fails d seen p i f (rw (ne_eqb _ _ h) (le-ltb 0 d (omega arith))))

  pub tree_leaf : (d : ℕ) {b e : ℕ} → field 1 p i ≡ got b e → b ≡ 1 → seen < 32 → tree d seen p i ≡ leaf_token p e
  unfolding tree
  tree_leaf zero f h l = rw (bit_passes zero seen p i f (rw (eq-eqb _ _ h) (lt-ltb seen 32 l)))
  tree_leaf (suc d) f h l = rw (bit_passes (suc d) seen p i f (rw (eq-eqb _ _ h) (lt-ltb seen 32 l)), eq-eqb _ _ h)

  fork_suc : (d : ℕ) {b e : ℕ} → field 1 p i ≡ got b e → (b ≡ 1 → ⊥) → tree (suc d) seen p i ≡ branches d seen p e
  unfolding tree
  fork_suc d f h = rw (bit_passes (suc d) seen p i f (rw (ne_eqb _ _ h) (lt-ltb 0 (suc d) (omega arith))), ne_eqb _ _ h)

  tree_fork : (d : ℕ) {b e : ℕ} → field 1 p i ≡ got b e → (b ≡ 1 → ⊥) → (d ≡ 0 → ⊥) → tree d seen p i ≡ branches (d - 1) seen p e
  tree_fork d f h z = ap (λ (k : ℕ). tree k seen p i) (omega arith) ∙ fork_suc (d - 1) f h

  fork_refused : (d : ℕ) {b e k j : ℕ} → field 1 p i ≡ got b e → (b ≡ 1 → ⊥) → (d ≡ 0 → ⊥) → tree (d - 1) seen p e ≡ refused k j → tree d seen p i ≡ refused k j
  fork_refused d f h z r = tree_fork d f h z ∙ rw r

  pub fork_left : (d : ℕ) {b e j : ℕ} {l : Tree} → field 1 p i ≡ got b e → (b ≡ 1 → ⊥) → (d ≡ 0 → ⊥) → tree (d - 1) seen p e ≡ got l j
      → tree d seen p i ≡ after (tree (d - 1) (seen + leaves l) p j) (λ r e. got (fork l r) e)
  fork_left d f h z r = tree_fork d f h z ∙ rw r

module _ (p : List ℕ) (i : ℕ) where
  token_end : field 5 p i ≡ refused 4 i → leaf_token p i ≡ refused 4 i
  unfolding leaf_token
  token_end f = rw f

  pub token_got : {t e : ℕ} → field 5 p i ≡ got t e → leaf_token p i ≡ got (leaf t) e
  unfolding leaf_token
  token_got f = rw f

-- ---- the steps, by the seven bits s at a node
module _ (seen : ℕ) (p : List ℕ) (at s : ℕ) (is : s ≡ number p at 7) where
  first_bit : at < bits p → field 1 p at ≡ got (number p at 1) (at + 1)
  first_bit h = field_got 1 p at (omega arith)

  pub seven_full : (d : ℕ) → at < bits p → 64 ≤ s → 32 ≤ seen → tree d seen p at ≡ refused 7 at
  seven_full d h b l = tree_full seen p at d (first_bit h) (leaf_bit_law p at s is b) l

  pub seven_cut : (d : ℕ) → at < bits p → 64 ≤ s → seen < 32 → bits p < at + 6 → tree d seen p at ≡ refused 4 (at + 1)
  seven_cut d h b l c = tree_leaf seen p at d (first_bit h) (leaf_bit_law p at s is b) l ∙ token_end p (at + 1) (field_end 5 p (at + 1) (omega arith))

  pub seven_leaf : (d : ℕ) → at + 6 ≤ bits p → 64 ≤ s → seen < 32 → tree d seen p at ≡ got (leaf (s / 2 % 32)) (at + 6)
  seven_leaf d h b l =
      let e : at + 1 + 5 ≡ at + 6 = omega arith in
      tree_leaf seen p at d (first_bit (omega arith)) (leaf_bit_law p at s is b) l
      ∙ token_got p (at + 1) (field_got 5 p (at + 1) (omega arith))
      ∙ ap₂ (λ (t n : ℕ). got (leaf t) n) (sym (leaf_token_law p at s is b)) e

  pub seven_deep : (d : ℕ) → at < bits p → s < 64 → d ≡ 0 → tree d seen p at ≡ refused 7 at
  seven_deep d h b z = tree_deep seen p at d (first_bit h) (fork_bit p at s is b) z

  pub seven_refused : (d : ℕ) {k j : ℕ} → at < bits p → s < 64 → (d ≡ 0 → ⊥) → tree (d - 1) seen p (at + 1) ≡ refused k j → tree d seen p at ≡ refused k j
  seven_refused d h b z r = fork_refused seen p at d (first_bit h) (fork_bit p at s is b) z r

  pub seven_fork : (d : ℕ) {j : ℕ} {l : Tree} → at < bits p → s < 64 → (d ≡ 0 → ⊥) → tree (d - 1) seen p (at + 1) ≡ got l j
      → tree d seen p at ≡ after (tree (d - 1) (seen + leaves l) p j) (λ r e. got (fork l r) e)
  seven_fork d h b z r = fork_left seen p at d (first_bit h) (fork_bit p at s is b) z r

  -- a 0 branch that is a leaf
  pub seven_left : (d : ℕ) → at + 7 ≤ bits p → s < 64 → 32 ≤ s → seen < 32 → (d ≡ 0 → ⊥)
      → tree d seen p at ≡ after (tree (d - 1) (seen + 1) p (at + 7)) (λ r e. got (fork (leaf (s % 32)) r) e)
  seven_left d h b m l z =
      let e : at + 1 + 1 + 5 ≡ at + 7 = omega arith in
      seven_fork d (omega arith) b z
      (tree_leaf seen p (at + 1) (d - 1) (field_got 1 p (at + 1) (omega arith)) (left_bit p at s is b m) l
      ∙ token_got p (at + 1 + 1) (field_got 5 p (at + 1 + 1) (omega arith))
      ∙ ap₂ (λ (t n : ℕ). got (leaf t) n) (sym (left_token p at s is b m)) e)

-- when a 0 branch that is a leaf is taken at once
pub at_once : (s seen e total : ℕ) → ((leb 32 s && ltb seen 32) && leb e total) ≡ true → (32 ≤ s) × (seen < 32) × (e ≤ total)
at_once s seen e total h = go (leb 32 s) (ltb seen 32) (leb e total) refl refl refl h
  where
    go : (a b c : Bool) → leb 32 s ≡ a → ltb seen 32 ≡ b → leb e total ≡ c → ((a && b) && c) ≡ true → (32 ≤ s) × (seen < 32) × (e ≤ total)
    go true true true x y z h = (leb-true _ _ x, ltb-true _ _ y, leb-true _ _ z)
    go true true false x y z h = absurd (false≢true h)
    go true false c x y z h = absurd (false≢true h)
    go false b c x y z h = absurd (false≢true h)

-- ---- what an answer says
pub told_tree : (o : Outcome Tree) (r : ℕ) → Told r o → r % 4 ≡ 0 → (t : Tree) × (o ≡ got t (r / 4))
told_tree (got t e) r a h = (t, ap (got t) (omega (arith, a)))
told_tree (refused k e) r (inl a) h = absurd (omega (arith, a.0, h))
told_tree (refused k e) r (inr a) h = absurd (omega (arith, a.0, h))

pub told_refused : (o : Outcome Tree) (r : ℕ) → Told r o → (r % 4 ≡ 0 → ⊥) → (k : ℕ) × (e : ℕ) × (o ≡ refused k e) × Told r (refused k e)
told_refused (got t e) r a h = absurd (h (omega (arith, a)))
told_refused (refused k e) r a h = (k, e, refl, a)

-- the leaves of a 0 branch that ends at e, by its bits
pub leaves_told : (at e : ℕ) (l : Tree) (seen : ℕ) → e + 1 ≡ at + 1 + 7 * leaves l → seen + leaves l ≤ 32 → ((e - at) / 7 ≡ leaves l) × (at ≤ e) × (seen + leaves l ≤ 32)
leaves_told at e l seen h c = (omega (arith, h), omega (arith, h), c)

-- ---- the list of nodes
pub flat_length : (base : ℕ) (t : Tree) → length (flat base t) ≡ size t
unfolding flat
flat_length base (leaf t) = refl
flat_length base (fork l r) = simp length-append (omega (arith, flat_length (base + 1) l, flat_length (base + 1 + size l) r))

pub stored_leaf : (base : ℕ) (old : List ℕ) (t : ℕ) → base < length old → set old base t ≡ take base old ++ flat base (leaf t) ++ drop (base + 1) old
unfolding flat
stored_leaf base old t h = set_split old base t h ∙ rw (add-one base) (sym (append_snoc (take base old) t (drop (suc base) old)))

put_before : (a l d : List ℕ) (x v n : ℕ) → length a ≡ n → set (a ++ (x ∷ []) ++ l ++ d) n v ≡ (a ++ v ∷ l) ++ d
put_before a l d x v n h = simp append_assoc (set_at a x (l ++ d) v n h)

module _ (base : ℕ) (old new₁ new₂ : List ℕ) (l r : Tree) (h : base < length old) where
  abbrev mid : ℕ
  mid = base + 1 + size l

  abbrev head : List ℕ
  head = take base old ++ (128 + mid) ∷ flat (base + 1) l

  head_length : length head ≡ mid
  head_length = simp (length-append, length-take-le base old (omega arith), flat_length) (omega arith)

  -- the nodes of the 0 branch are there, and the fork is put before them
  left_stored : new₁ ≡ take (base + 1) old ++ flat (base + 1) l ++ drop mid old → set new₁ base (128 + mid) ≡ head ++ drop mid old
  left_stored e =
      let s : take (base + 1) old ≡ take base old ++ get_or old base 0 ∷ [] = rw (add-one base) (take-suc old base 0 h) in
      rw (e, s) (put_before (take base old) (flat (base + 1) l) (drop mid old) _ (128 + mid) base (length-take-le base old (omega arith)))

  pub stored_fork : new₁ ≡ take (base + 1) old ++ flat (base + 1) l ++ drop mid old
      → new₂ ≡ take mid (set new₁ base (128 + mid)) ++ flat mid r ++ drop (mid + size r) (set new₁ base (128 + mid))
      → new₂ ≡ take base old ++ flat base (fork l r) ++ drop (base + size (fork l r)) old
  unfolding flat
  stored_fork e₁ e₂ =
      let s = left_stored e₁ in
      let t : take mid (head ++ drop mid old) ≡ head = take_at head (drop mid old) mid head_length in
      let d : drop (mid + size r) (head ++ drop mid old) ≡ drop (mid + size r) old
      = ap (λ (k : ℕ). drop (k + size r) (head ++ drop mid old)) (sym head_length) ∙ drop-append-add head (drop mid old) (size r) ∙ drop-drop (size r) mid old in
      let n : base + size (fork l r) ≡ mid + size r = omega arith in
      e₂ ∙ rw (s, t, d, n) (simp append_assoc)

-- ---- what a return of `grow` has to show
module _ (base : ℕ) (old new : List ℕ) (o : Outcome Tree) where
  pub on_4 : {e : ℕ} → o ≡ refused 4 e → Told (4 * e + 1) o × Stored base old new o
  on_4 h = rw h (inl (refl, refl), tt)

  pub on_7 : {e : ℕ} → o ≡ refused 7 e → Told (4 * e + 2) o × Stored base old new o
  on_7 h = rw h (inr (refl, refl), tt)

  pub on_refusal : (r : ℕ) {k e : ℕ} → o ≡ refused k e → Told r (refused k e) → Told r o × Stored base old new o
  on_refusal r h a = rw h (a, tt)

  pub on_tree : {t : Tree} {e : ℕ} → o ≡ got t e → new ≡ take base old ++ flat base t ++ drop (base + size t) old → Told (4 * e) o × Stored base old new o
  on_tree h s = rw h (refl, s)

  pub stored_got : {t : Tree} {e : ℕ} → o ≡ got t e → Stored base old new o → new ≡ take base old ++ flat base t ++ drop (base + size t) old
  stored_got h s = rw h at s

-- the 0 branch, the fork before it, and what the call for the 1 branch answers and leaves
at_fork : (base : ℕ) (old new₁ new₂ : List ℕ) (l : Tree) (o : Outcome Tree) (r : ℕ) → base < length old
    → new₁ ≡ take (base + 1) old ++ flat (base + 1) l ++ drop (base + 1 + size l) old
    → Told r o
    → Stored (base + 1 + size l) (set new₁ base (128 + (base + 1 + size l))) new₂ o
    → Told r (after o (λ t e. got (fork l t) e)) × Stored base old new₂ (after o (λ t e. got (fork l t) e))
at_fork base old new₁ new₂ l (got t e) r h s a b = (a, stored_fork base old new₁ new₂ l t h s b)
at_fork base old new₁ new₂ l (refused k e) r h s a b = (a, tt)

pub on_fork : (base seen mid count : ℕ) (old new₁ new₂ : List ℕ) (l : Tree) (o : ℕ → Outcome Tree) (r : ℕ) (all : Outcome Tree) → base < length old
    → new₁ ≡ take (base + 1) old ++ flat (base + 1) l ++ drop (base + 1 + size l) old
    → mid ≡ base + 1 + size l → count ≡ seen + leaves l
    → all ≡ after (o (seen + leaves l)) (λ t e. got (fork l t) e)
    → Told r (o count)
    → Stored mid (set new₁ base (128 + mid)) new₂ (o count)
    → Told r all × Stored base old new₂ all
on_fork base seen mid count old new₁ new₂ l o r all h s e₁ e₂ w a b =
    rw w (at_fork base old new₁ new₂ l (o (seen + leaves l)) r h s (rw e₂ at a) (rw (e₁, e₂) at b))

-- ---- filling a table from a list's front
abbrev pub filled : List ℕ → List ℕ → ℕ → List ℕ
filled d s i = take i s ++ drop i d

pub filled_more : (d s : List ℕ) (i : ℕ) → i < length d → i < length s → set (filled d s i) i (get_or s i 0) ≡ filled d s (i + 1)
filled_more d s i h l = rw (add-one i) (simp zero-add at (paste-suc d 0 s i 0 (rw zero-add h) l))

pub filled_all : (d s : List ℕ) → filled d s (length d) ≡ take (length d) s
filled_all d s = rw drop-length (append-nil _)

-- ---- the whole tree: the front of the scratch memory is its table
zeros_split : (k n : ℕ) → k ≤ n → replicate n 0 ≡ replicate k 0 ++ replicate (n - k) (zero)
zeros_split k n h = let e : n ≡ k + (n - k) = omega arith in ap (λ (m : ℕ). replicate m 0) e ∙ sym (replicate-append-replicate k (n - k) 0)

pub drop_zeros : (k n : ℕ) → k ≤ n → drop k (replicate n 0) ≡ replicate (n - k) (zero)
drop_zeros k n h = ap (λ (l : List ℕ). drop k l) (zeros_split k n h) ∙ drop_at (replicate k 0) (replicate (n - k) 0) k (length-replicate k 0)

take_zeros : (k n : ℕ) → k ≤ n → take k (replicate n 0) ≡ replicate k (zero)
take_zeros k n h = ap (λ (l : List ℕ). take k l) (zeros_split k n h) ∙ take_at (replicate k 0) (replicate (n - k) 0) k (length-replicate k 0)

table_front : (t : Tree) → size t ≤ 63 → take 64 (flat 0 t ++ drop (size t) (replicate 97 0)) ≡ nodes_of t
unfolding nodes_of
table_front t h =
    let n : 64 ≡ length (flat 0 t) + (64 - size t) = omega (arith, flat_length 0 t) in
    ap (λ (k : ℕ). take k (flat 0 t ++ drop (size t) (replicate 97 0))) n ∙ take-append-add (flat 0 t) (drop (size t) (replicate 97 0)) (64 - size t)
    ∙ ap (λ (l : List ℕ). flat 0 t ++ l) (ap (λ (l : List ℕ). take (64 - size t) l) (drop_zeros (size t) 97 (omega arith)) ∙ take_zeros (64 - size t) (97 - size t) (omega arith))

-- ---- what a return of `read_tree` has to show
module _ (p : List ℕ) (at : ℕ) (old : List ℕ) where
  pub tree_past : bits p < at → (end.Refused 4 at ≡ as_end (huffman_tree p at)) × (old ≡ nodes_after old (huffman_tree p at))
  unfolding huffman_tree
  tree_past h = rw (tree_end 0 p at 32 (field_end 1 p at (omega arith))) (refl, refl)

  pub tree_4 : (r : ℕ) → Told r (tree 32 0 p at) → r % 4 ≡ 1 → (end.Refused 4 (r / 4) ≡ as_end (huffman_tree p at)) × (old ≡ nodes_after old (huffman_tree p at))
  unfolding huffman_tree
  tree_4 r a h = go (tree 32 0 p at) a
    where
      go : (o : Outcome Tree) → Told r o → (end.Refused 4 (r / 4) ≡ as_end o) × (old ≡ nodes_after old o)
      go (got t e) x = absurd (omega (arith, x, h))
      go (refused k e) (inl x) = (ap₂ (λ (m n : ℕ). end.Refused m n) (sym x.1) (omega (arith, x.0)), refl)
      go (refused k e) (inr x) = absurd (omega (arith, x.0, h))

  pub tree_7 : (r : ℕ) → Told r (tree 32 0 p at) → r % 4 ≡ 2 → (end.Refused 7 (r / 4) ≡ as_end (huffman_tree p at)) × (old ≡ nodes_after old (huffman_tree p at))
  unfolding huffman_tree
  tree_7 r a h = go (tree 32 0 p at) a
    where
      go : (o : Outcome Tree) → Told r o → (end.Refused 7 (r / 4) ≡ as_end o) × (old ≡ nodes_after old o)
      go (got t e) x = absurd (omega (arith, x, h))
      go (refused k e) (inl x) = absurd (omega (arith, x.0, h))
      go (refused k e) (inr x) = (ap₂ (λ (m n : ℕ). end.Refused m n) (sym x.1) (omega (arith, x.0)), refl)

  pub tree_stored : (r : ℕ) (scratch new : List ℕ) → length old ≡ 64 → Told r (tree 32 0 p at) → (r % 4 ≡ 1 → ⊥) → (r % 4 ≡ 2 → ⊥)
      → Stored 0 (replicate 97 0) scratch (tree 32 0 p at) → new ≡ take (length old) scratch
      → (end.At (r / 4) ≡ as_end (huffman_tree p at)) × (new ≡ nodes_after old (huffman_tree p at))
  unfolding huffman_tree
  tree_stored r scratch new h a x y s f =
      let g = told_tree (tree 32 0 p at) r a (whole (tree 32 0 p at) a) in
      go g.0 (tree 32 0 p at) g.1 s (table_front g.0 (proper_size (read_proper p at g.1)))
    where
      whole : (o : Outcome Tree) → Told r o → r % 4 ≡ 0
      whole (got t e) z = omega (arith, z)
      whole (refused k e) (inl z) = absurd (x (omega (arith, z.0)))
      whole (refused k e) (inr z) = absurd (y (omega (arith, z.0)))

      go : (t : Tree) (o : Outcome Tree) → o ≡ got t (r / 4) → Stored 0 (replicate 97 0) scratch o → take 64 (flat 0 t ++ drop (size t) (replicate 97 0)) ≡ nodes_of t
          → (end.At (r / 4) ≡ as_end o) × (new ≡ nodes_after old o)
      go t o x y z =
          let w = stored_got 0 (replicate 97 0) scratch o x y in
          let k : 0 + size t ≡ size t = omega arith in
          rw x (refl, f ∙ rw (h, w, k) z)
