-- What every tree that was read is, and the laws of its reading: Lawful, and at most 257 bits. Assumes nothing.
use Prim.Native.Nat.{ℕ, zero, suc, ◌+◌, ◌-◌, ◌*◌, ◌≤◌, ◌<◌, max}
use native.Mathlib.Omega.{arith}
use mathlib.Core.Path.{◌≡◌, refl, sym, ap, ◌∙◌, subst}
use mathlib.Core.List.{List}
use mathlib.Core.Bool.{Bool, true, false}
use lib.Dec.{eqb}
use borrow.Author.Tests.{ltb-true, eqb-true, eqb-false}
use Rattle.bitstream.specs.Bits.{bit_at, number}
use Rattle.bitstream.specs.Lists.{among}
use Rattle.bitstream.specs.Reading.{got, Parse, pure, bind, pick, field, judged}
use Rattle.bitstream.proofs.Numbers.{number_one, bit_lt}
use Rattle.bitstream.proofs.Fields.{no_mix, field_cases, field_value, field_lt, judged_end, judged_fails, judged_passes}
use Rattle.bitstream.proofs.Laws.{Lawful, pure_lawful, pick_lawful, bind_lawful, field_lawful, judged_lawful, bind_got}
use Rattle.bitstream.proofs.Inside.{Inside, inside, pure_inside, pick_inside, bind_inside, judged_inside, Refuses, refuses, pure_refuses, pick_refuses, bind_refuses, judged_refuses}
use Rattle.bitstream.proofs.Spends.{Spends, spends_more, pure_spends, field_spends, judged_spends, bind_spends, bind_spends_got, bind_spends_by, pick_spends}
use Rattle.huffman.specs.Tree.{Tree, leaf, fork, leaves, size, allowed, leaf_bit, leaf_token, tree, huffman_tree, Tokens, Proper}

-- ---- shapes of a tree
pub size_leaves : (t : Tree) → size t + 1 ≡ 2 * leaves t
size_leaves (leaf t) = refl
size_leaves (fork l r) = omega (arith, size_leaves l, size_leaves r)

pub some_leaf : (t : Tree) → 1 ≤ leaves t
some_leaf (leaf t) = omega arith
some_leaf (fork l r) = omega (arith, some_leaf l)

-- how many bits the longest code has. "A lone leaf has the empty code."
abbrev pub longest : Tree → ℕ
longest (leaf t) = 0
longest (fork l r) = max (longest l) (longest r) + 1

pub longest_leaves : (t : Tree) → longest t + 1 ≤ leaves t
longest_leaves (leaf t) = omega arith
longest_leaves (fork l r) = omega (arith, longest_leaves l, longest_leaves r)

-- so a tree that was read has at most 63 nodes, and no code of more than 31 bits
pub proper_size : {t : Tree} → Proper t → size t ≤ 63
proper_size {t} g = omega (arith, size_leaves t)

pub proper_longest : {t : Tree} → Proper t → longest t ≤ 31
proper_longest {t} g = omega (arith, longest_leaves t)

-- ---- a leaf bit that was got
judged_got : (n : ℕ) (test : ℕ → Bool) (k : ℕ) (p : List ℕ) (i : ℕ) {v e : ℕ} → judged n test k p i ≡ got v e → (field n p i ≡ got v e) × (test v ≡ true)
judged_got n test k p i {v} {e} h = field_cases n p i (λ _ f. go (test (number p i n)) refl f) (λ _ f. no_mix (sym h ∙ judged_end n test k p i f))
  where
    go : (t : Bool) → test (number p i n) ≡ t → field n p i ≡ got (number p i n) (i + n) → (field n p i ≡ got v e) × (test v ≡ true)
    go true s f =
        let w = sym h ∙ judged_passes n test k p i f s in
        let x : v ≡ number p i n = cc in
        (f ∙ sym w, ap test x ∙ s)
    go false s f = no_mix (sym h ∙ judged_fails n test k p i f s)

leaf_bit_got : (d seen : ℕ) (p : List ℕ) (i : ℕ) {b e : ℕ} → leaf_bit d seen p i ≡ got b e → (allowed d seen b ≡ true) × (e ≡ i + 1) × (b ≡ bit_at p i)
unfolding leaf_bit
leaf_bit_got d seen p i h =
    let g = judged_got 1 (allowed d seen) 7 p i h in
    let v = field_value 1 p i g.0 in
    (g.1, v.1, v.0 ∙ number_one p i)

-- it is a leaf's, and fewer than 32 were seen, or a fork's, and codes may grow
by_bit : {X : Type 0} (d seen b : ℕ) → allowed d seen b ≡ true → (eqb b 1 ≡ true → seen < 32 → X) → (eqb b 1 ≡ false → 0 < d → X) → X
by_bit {X} d seen b a f g = go (eqb b 1) refl
  where
    go : (t : Bool) → eqb b 1 ≡ t → X
    go true h = f h (ltb-true seen 32 (rw h at a))
    go false h = g h (ltb-true 0 d (rw h at a))

-- ---- the bits from a place to a place spell a tree
abbrev pub Spells : List ℕ → ℕ → Tree → ℕ → Type 0
Spells p q (leaf t) e = (bit_at p q ≡ 1) × (number p (q + 1) 5 ≡ t) × (e ≡ q + 6)
Spells p q (fork l r) e = (bit_at p q ≡ 0) × (m : ℕ) × Spells p (q + 1) l m × Spells p m r e

-- what is known of a tree that was read: its leaves, its tokens, its 7 bits for each leaf, less 1, and that they spell it
pub record Read (p : List ℕ) (seen i e : ℕ) (t : Tree) : Type 0 where
  pub count : seen + leaves t ≤ 32
  pub tokens : Tokens t
  pub ends : e + 1 ≡ i + 7 * leaves t
  pub spells : Spells p i t e

leaf_read : (seen : ℕ) (p : List ℕ) (i j : ℕ) {t : Tree} {e : ℕ} → seen < 32 → bit_at p i ≡ 1 → j ≡ i + 1 → leaf_token p j ≡ got t e → Read p seen i e t
unfolding leaf_token
leaf_read seen p i j {t} {e} h b s r =
    let u = bind_got (field 5) (λ t. pure (leaf t)) p j r in
    let v : leaf u.0 ≡ t = cc in
    let w : u.1 ≡ e = cc in
    let x = field_value 5 p j u.2 in
    let y : number p (i + 1) 5 ≡ u.0 = ap (λ (k : ℕ). number p k 5) (sym s) ∙ sym x.0 in
    rw (← v) (record { count = omega arith; tokens = field_lt 5 p j u.2; ends = omega (arith, x.1); spells = (b, y, omega (arith, x.1)) })

-- the 0 branch and the 1 branch
abbrev pub branches : ℕ → ℕ → Parse Tree
branches d seen = bind (tree d seen) (λ l. bind (tree d (seen + leaves l)) (λ r. pure (fork l r)))

pub tree_read : (d seen : ℕ) (p : List ℕ) (i : ℕ) {t : Tree} {e : ℕ} → tree d seen p i ≡ got t e → Read p seen i e t
unfolding tree
tree_read zero seen p i h =
    let u = bind_got (leaf_bit zero seen) (λ _. leaf_token) p i h in
    let g = leaf_bit_got zero seen p i u.2 in
    by_bit zero seen u.0 g.0 (λ x l. leaf_read seen p i u.1 l (sym g.2 ∙ eqb-true _ _ x) g.1 u.3) (λ _ l. absurd (omega arith))
tree_read (suc d) seen p i {t} {e} h =
    let u = bind_got (leaf_bit (suc d) seen) (λ b. pick (eqb b 1) leaf_token (branches d seen)) p i h in
    let g = leaf_bit_got (suc d) seen p i u.2 in
    by_bit (suc d) seen u.0 g.0 (λ x l. leaf_read seen p i u.1 l (sym g.2 ∙ eqb-true _ _ x) g.1 (picked u.0 u.1 true x u.3))
    (λ x _. on_fork u.1 (no_one u.0 g.2 (eqb-false _ _ x)) g.1 (picked u.0 u.1 false x u.3) (λ s j t e r. tree_read d s p j r))
  where
    picked : (b j : ℕ) (w : Bool) → eqb b 1 ≡ w → pick (eqb b 1) leaf_token (branches d seen) p j ≡ got t e → pick w leaf_token (branches d seen) p j ≡ got t e
    picked b j w x r = rw x at r

    no_one : (b : ℕ) → b ≡ bit_at p i → (b ≡ 1 → ⊥) → bit_at p i ≡ 0
    no_one b h n = omega (arith, h, n, bit_lt p i)

    on_fork : (j : ℕ) → bit_at p i ≡ 0 → j ≡ i + 1 → branches d seen p j ≡ got t e → ((s j : ℕ) (t : Tree) (e : ℕ) → tree d s p j ≡ got t e → Read p s j e t) → Read p seen i e t
    on_fork j z s r ih =
        let u = bind_got (tree d seen) (λ l. bind (tree d (seen + leaves l)) (λ r. pure (fork l r))) p j r in
        let w = bind_got (tree d (seen + leaves u.0)) (λ r. pure (fork u.0 r)) p u.1 u.3 in
        let v : fork u.0 w.0 ≡ t = cc in
        let x : w.1 ≡ e = cc in
        let a = ih seen j u.0 u.1 u.2 in
        let b = ih (seen + leaves u.0) u.1 w.0 w.1 w.2 in
        let k = subst (λ (m : ℕ). Spells p m u.0 u.1) s a.spells in
        let m = subst (λ (m : ℕ). Spells p u.1 w.0 m) x b.spells in
        rw (← v) (record { count = omega (arith, b.count); tokens = (a.tokens, b.tokens); ends = omega (arith, a.ends, b.ends); spells = (z, u.1, k, m) })

pub read_proper : (p : List ℕ) (i : ℕ) {t : Tree} {e : ℕ} → huffman_tree p i ≡ got t e → Proper t
unfolding huffman_tree
read_proper p i h = let r = tree_read 32 0 p i h in record { few = omega (arith, r.count); tokens = r.tokens }

-- ---- Local and Firm
leaf_bit_lawful : (d seen : ℕ) → Lawful (leaf_bit d seen)
unfolding leaf_bit
leaf_bit_lawful d seen = judged_lawful 1 (allowed d seen) 7

leaf_token_lawful : Lawful leaf_token
unfolding leaf_token
leaf_token_lawful = bind_lawful (field_lawful 5) (λ t. pure_lawful (leaf t))

pub tree_lawful : (d seen : ℕ) → Lawful (tree d seen)
unfolding tree
tree_lawful zero seen = bind_lawful (leaf_bit_lawful zero seen) (λ _. leaf_token_lawful)
tree_lawful (suc d) seen =
    bind_lawful (leaf_bit_lawful (suc d) seen) (λ b. pick_lawful (eqb b 1) leaf_token_lawful
    (bind_lawful (tree_lawful d seen) (λ l. bind_lawful (tree_lawful d (seen + leaves l)) (λ r. pure_lawful (fork l r)))))

pub huffman_lawful : Lawful huffman_tree
unfolding huffman_tree
huffman_lawful = tree_lawful 32 0

-- ---- Inside and Refuses: by 4 and 7
leaf_bit_inside : {d : ℕ} (depth seen : ℕ) → Inside d (leaf_bit depth seen)
unfolding leaf_bit
leaf_bit_inside depth seen = judged_inside 1 (allowed depth seen) 7

leaf_token_inside : {d : ℕ} → Inside d leaf_token
unfolding leaf_token
leaf_token_inside = search inside

pub tree_inside : {d : ℕ} (depth seen : ℕ) → Inside d (tree depth seen)
unfolding tree
tree_inside zero seen = bind_inside (leaf_bit_inside zero seen) (λ _. leaf_token_inside)
tree_inside (suc n) seen =
    bind_inside (leaf_bit_inside (suc n) seen) (λ b. pick_inside (eqb b 1) leaf_token_inside
    (bind_inside (tree_inside n seen) (λ l. bind_inside (tree_inside n (seen + leaves l)) (λ r. pure_inside (fork l r)))))

pub huffman_inside : {d : ℕ} → Inside d huffman_tree
unfolding huffman_tree
huffman_inside = tree_inside 32 0

module _ {ks : List ℕ} (four : among ks 4 ≡ true) (seven : among ks 7 ≡ true) where
  leaf_bit_refuses : (depth seen : ℕ) → Refuses ks (leaf_bit depth seen)
  unfolding leaf_bit
  leaf_bit_refuses depth seen = judged_refuses 1 (allowed depth seen) 7 four seven

  leaf_token_refuses : Refuses ks leaf_token
  unfolding leaf_token
  leaf_token_refuses = search (refuses, four)

  pub tree_refuses : (depth seen : ℕ) → Refuses ks (tree depth seen)
  unfolding tree
  tree_refuses zero seen = bind_refuses (leaf_bit_refuses zero seen) (λ _. leaf_token_refuses)
  tree_refuses (suc n) seen =
      bind_refuses (leaf_bit_refuses (suc n) seen) (λ b. pick_refuses (eqb b 1) leaf_token_refuses
      (bind_refuses (tree_refuses n seen) (λ l. bind_refuses (tree_refuses n (seen + leaves l)) (λ r. pure_refuses (fork l r)))))

  pub huffman_refuses : Refuses ks huffman_tree
  unfolding huffman_tree
  huffman_refuses = tree_refuses 32 0

-- ---- Spends: at most 32 leaves of 7 bits, the forks that are not closed yet, and the bit at fault
leaf_bit_spends : (d seen : ℕ) → Spends 1 (leaf_bit d seen)
unfolding leaf_bit
leaf_bit_spends d seen = judged_spends 1 (allowed d seen) 7 (λ z. absurd (omega arith))

leaf_token_spends : (seen : ℕ) → seen < 32 → Spends (7 * (32 - seen)) leaf_token
unfolding leaf_token
leaf_token_spends seen h = spends_more (omega arith) (bind_spends (field_spends 5) (λ t. pure_spends (leaf t)))

tree_spends : (d seen : ℕ) → Spends (1 + (d + 7 * (32 - seen))) (tree d seen)
unfolding tree
tree_spends zero seen =
    bind_spends_got (leaf_bit_spends zero seen)
    (λ b p i e r. by_bit zero seen b (leaf_bit_got zero seen p i r).0 (λ _ l. spends_more (omega arith) (leaf_token_spends seen l)) (λ _ l. absurd (omega arith)))
tree_spends (suc d) seen =
    bind_spends_got (leaf_bit_spends (suc d) seen)
    (λ b p i e r. let a = (leaf_bit_got (suc d) seen p i r).0 in
    pick_spends (eqb b 1) (λ x. spends_more (omega arith) (leaf_token_spends seen (by_bit (suc d) seen b a (λ _ l. l) (λ y _. absurd (both x y)))))
    (λ _. bind_spends_by (λ (l : Tree). 7 * leaves l) (λ p i e r. omega (arith, (tree_spends d seen).short p i e r))
    (λ p i l e r. let c = tree_read d seen p i r in (
      omega (arith, c.ends),
      omega (arith, c.count),
      bind_spends_by (λ (r : Tree). 7 * leaves r) (λ p i e r. omega (arith, c.count, (tree_spends d (seen + leaves l)).short p i e r))
          (λ p i t e r. let c₂ = tree_read d (seen + leaves l) p i r in (omega (arith, c₂.ends), omega (arith, c₂.count), spends_more (omega arith) (pure_spends (fork l t)))),
    ))))
  where
    both : {b : Bool} → b ≡ true → b ≡ false → ⊥
    both x y = let z : ◌≡◌ {A = ℕ} 0 1 = cc in omega arith

pub huffman_spends : Spends 257 huffman_tree
unfolding huffman_tree
huffman_spends = tree_spends 32 0
