-- The walk over a table of nodes by the bits of a window: its turns, and what it says of the code that stands there. Assumes nothing.
use Prim.Native.Nat.{ℕ, ◌+◌, ◌-◌, ◌*◌, ◌/◌, ◌%◌, ◌^◌, ◌≤◌, ◌<◌}
use native.Mathlib.Omega.{arith}
use native.Mathlib.Nat.{add-zero}
use mathlib.Core.Path.{◌≡◌, refl, sym, ap, ◌∙◌}
use mathlib.Core.List.{List}
use mathlib.Core.Bool.{Bool, true, false}
use lib.Dec.{eqb}
use lib.ListN.{length, get_or}
use borrow.Author.Tests.{eq-eqb, ne_eqb}
use Rattle.bitstream.specs.Bits.{bits, bit_at, number}
use Rattle.bitstream.specs.Reading.{got, choose, field}
use Rattle.bitstream.proofs.Numbers.{number_one, number_part}
use Rattle.bitstream.proofs.Fields.{field_got}
use Rattle.bitstream.proofs.Laws.{whole_got}
use Rattle.huffman.specs.Tree.{Tree, leaf, fork, size, Tokens}
use Rattle.huffman.specs.Code.{code, token_code, Formed, tree_of}
use Rattle.code_walk.specs.Walk.{branch, entry_in}
use Rattle.huffman.proofs.Trees.{longest, proper_longest}
use Rattle.huffman.proofs.Nodes.{Nodes, nodes_in, formed_length, formed_nodes, formed_tree}

-- ---- a step
pub branch_zero : (n v b : ℕ) → b ≡ 0 → n + 1 ≡ branch n v b
branch_zero n v b h = rw (eq-eqb b 0 h)

pub branch_one : (n v b : ℕ) → (b ≡ 0 → ⊥) → v - 128 ≡ branch n v b
branch_one n v b h = rw (ne_eqb b 0 h)

-- ---- the loop's invariant: the entry from the start is the entry below the tree that is left, and the codes of that one end within 31 bits
module _ (nodes values : List ℕ) (w from : ℕ) where
  abbrev pub Below : ℕ → ℕ → Type 0
  Below node n = (s : Tree) × Nodes nodes node s × (entry_in (tree_of nodes) values w from 0 ≡ entry_in s values w from n) × (n + longest s ≤ 31)

  pub below_start : Formed nodes → Below 0 0
  below_start f = (f.tree, formed_nodes nodes f, ap (λ (t : Tree). entry_in t values w from 0) (formed_tree nodes f), omega (arith, proper_longest f.proper))

  at_leaf : (node n : ℕ) (s : Tree) → Nodes nodes node s → get_or nodes node 0 < 128 → (get_or nodes node 0 < 32) × (entry_in s values w from n ≡ get_or values (get_or nodes node 0) 0 + n * 2 ^ 36)
  unfolding entry_in
  at_leaf node n (leaf t) h l = (omega (arith, h.1, h.2), ap (λ (x : ℕ). get_or values x 0 + n * 2 ^ 36) (sym h.1))
  at_leaf node n (fork a b) h l = absurd (omega (arith, h.1))

  pub below_leaf : (node n : ℕ) → Below node n → get_or nodes node 0 < 128 → (get_or nodes node 0 < 32) × (entry_in (tree_of nodes) values w from 0 ≡ get_or values (get_or nodes node 0) 0 + n * 2 ^ 36)
  below_leaf node n g l = let u = at_leaf node n g.0 g.1 l in (u.0, g.2 ∙ u.1)

  pub below_room : (node n : ℕ) → Below node n → n ≤ 31
  below_room node n g = omega (arith, g.3)

  abbrev bit : ℕ → ℕ
  bit n = w / 2 ^ (63 - (from + n)) % 2

  abbrev Onward : ℕ → ℕ → Tree → ℕ → Type 0
  Onward node n s m = (node < m) × (m < length nodes) × (t : Tree) × Nodes nodes m t × (entry_in s values w from n ≡ entry_in t values w from (n + 1)) × (longest t + 1 ≤ longest s)

  on : (node n v : ℕ) (a b : Tree) → Nodes nodes node (fork a b) → v ≡ get_or nodes node 0 → (t : Bool) → eqb (bit n) 0 ≡ t → Onward node n (fork a b) (choose t (node + 1) (v - 128))
  unfolding entry_in
  on node n v a b h e true t = (omega arith, nodes_in nodes (node + 1) a h.2, a, h.2, rw t, omega arith)
  on node n v a b h e false t =
      let k : v - 128 ≡ node + 1 + size a = omega (arith, h.1, e) in
      rw k (omega arith, nodes_in nodes (node + 1 + size a) b h.3, b, h.3, rw t, omega arith)

  onward : (node n v : ℕ) (s : Tree) → Nodes nodes node s → v ≡ get_or nodes node 0 → 128 ≤ v → Onward node n s (branch node v (bit n))
  onward node n v (leaf t) h e l = absurd (omega (arith, h.1, h.2, e))
  onward node n v (fork a b) h e l = on node n v a b h e _ refl

  pub below_on : (node n v m : ℕ) → Below node n → v ≡ get_or nodes node 0 → 128 ≤ v → m ≡ branch node v (w / 2 ^ (63 - (from + n)) % 2) → (node < m) × (m < length nodes) × (n < 31) × Below m (n + 1)
  below_on node n v m g e l h =
      let o = onward node n v g.0 g.1 e l in
      rw h (o.0, o.1, omega (arith, o.5, g.3), (o.2, o.3, g.2 ∙ o.4, omega (arith, o.5, g.3)))

-- ---- the bits of a packet, by fields and by its window
pub one_bit : (p : List ℕ) (i : ℕ) → i < bits p → field 1 p i ≡ got (bit_at p i) (i + 1)
one_bit p i h = field_got 1 p i (omega arith) ∙ ap (λ (x : ℕ). got x (i + 1)) (number_one p i)

-- the bit at a place, out of the 64 bits from `first` on
pub bit_of_window : (p : List ℕ) (first place w : ℕ) → w ≡ number p first 64 → first ≤ place → place < first + 64 → w / 2 ^ (63 - (place - first)) % 2 ≡ bit_at p place
bit_of_window p first place w is l h =
    let k = place - first in
    let e : k + 1 + (63 - k) ≡ 64 = omega arith in
    let f : first + k ≡ place = omega arith in
    ap (λ (x : ℕ). x / 2 ^ (63 - k) % 2) (is ∙ ap (λ (n : ℕ). number p first n) (sym e)) ∙ number_part p first k 1 (63 - k) ∙ number_one p (first + k) ∙ ap (λ (i : ℕ). bit_at p i) f

-- ---- what an entry says of the code at a place: the token, and how many bits it has
module _ (nodes values p : List ℕ) (at : ℕ) (long : length nodes ≡ 64) where
  pub record Found (e : ℕ) : Type 0 where
    pub token : ℕ
    pub taken : ℕ
    pub is : e ≡ get_or values (token % 32) 0 + taken * 2 ^ 36
    pub few : taken ≤ 31
    pub code : token_code (tree_of nodes) p at ≡ got token (at + taken)

-- ---- the code at a place, where the window is the packet's there and the packet has as many bits as a code can have
module _ (values p : List ℕ) (at w : ℕ) (is : w ≡ number p (at / 8 * 8) 64) where
  record Told (s : Tree) (n : ℕ) : Type 0 where
    token : ℕ
    taken : ℕ
    small : token < 32
    entry : entry_in s values w (at % 8) n ≡ get_or values token 0 + taken * 2 ^ 36
    few : taken ≤ n + longest s
    there : code s p (at + n) ≡ got token (at + taken)

  told : (s : Tree) (n : ℕ) → Tokens s → n + longest s ≤ 31 → at + 31 ≤ bits p → Told s n
  unfolding entry_in code
  told (leaf t) n k h b = record { token = t; taken = n; small = k; entry = refl; few = omega arith; there = refl }
  told (fork l r) n k h b =
      let i : at + n - at / 8 * 8 ≡ at % 8 + n = omega arith in
      let x : w / 2 ^ (63 - (at % 8 + n)) % 2 ≡ bit_at p (at + n) = ap (λ (j : ℕ). w / 2 ^ (63 - j) % 2) (sym i) ∙ bit_of_window p (at / 8 * 8) (at + n) w is (omega arith) (omega arith) in
      let y = one_bit p (at + n) (omega arith) in
      let f = told l (n + 1) k.0 (omega (arith, h)) b in
      let g = told r (n + 1) k.1 (omega (arith, h)) b in
      go x y f g (eqb (bit_at p (at + n)) 0) refl
    where
      go : w / 2 ^ (63 - (at % 8 + n)) % 2 ≡ bit_at p (at + n) → field 1 p (at + n) ≡ got (bit_at p (at + n)) (at + n + 1) → Told l (n + 1) → Told r (n + 1)
          → (t : Bool) → eqb (bit_at p (at + n)) 0 ≡ t → Told (fork l r) n
      go x y f g true t =
          record {
            token = f.token;
            taken = f.taken;
            small = f.small;
            entry = rw (x, t) f.entry;
            few = omega (arith, f.few);
            there = let q : at + n + 1 ≡ at + (n + 1) = omega arith in rw (y, t, q) f.there;
          }
      go x y f g false t =
          record {
            token = g.token;
            taken = g.taken;
            small = g.small;
            entry = rw (x, t) g.entry;
            few = omega (arith, g.few);
            there = let q : at + n + 1 ≡ at + (n + 1) = omega arith in rw (y, t, q) g.there;
          }

pub walk_code : (nodes values p : List ℕ) (at w : ℕ) (f : Formed nodes) → w ≡ number p (at / 8 * 8) 64 → at + 31 ≤ bits p → Found nodes values p at (formed_length f) (entry_in (tree_of nodes) values w (at % 8) 0)
unfolding token_code
walk_code nodes values p at w f is b =
    let l = proper_longest f.proper in
    let u = told values p at w is f.tree 0 f.proper.tokens (omega (arith, l)) b in
    let t = formed_tree nodes f in
    let m : u.token % 32 ≡ u.token = omega (arith, u.small) in
    record {
      token = u.token;
      taken = u.taken;
      is = ap (λ (s : Tree). entry_in s values w (at % 8) 0) t ∙ (u.entry ∙ ap (λ (x : ℕ). get_or values x 0 + u.taken * 2 ^ 36) (sym m));
      few = omega (arith, u.few, l);
      code = whole_got (code (tree_of nodes)) p at (ap (λ (s : Tree). code s p at) t ∙ (ap (λ (i : ℕ). code f.tree p i) (sym (add-zero at)) ∙ u.there));
    }
