-- How `load_tree` goes, node by node: the trees that are still to come, what the open forks are, and what the window shows. Assumes nothing.
use Prim.Native.Nat.{ℕ, suc, ◌+◌, ◌-◌, ◌*◌, ◌/◌, ◌%◌, ◌^◌, ◌≤◌, ◌<◌}
use native.Mathlib.Omega.{arith}
use native.Mathlib.Nat.{zero-add, add-mul, mul_assoc, pow-suc}
use mathlib.Core.Path.{◌≡◌, refl, sym, ap, ap₂, ◌∙◌, subst}
use mathlib.Core.Logic.{◌⊎◌, inl, inr}
use mathlib.Core.List.{List, [], ◌∷◌, ◌++◌}
use lib.ListN.{length, get_or, take, drop, set, replicate, length-set}
use lib.Seq.{get_or-set_same, get_or-set_other, take-set-le, drop-set-lt}
use lib.Pow.{pow-add, shl_lt, low}
use Rattle.bitstream.specs.Bits.{bits, bit_at, number}
use Rattle.bitstream.specs.Reading.{Outcome, got, refused}
use Rattle.bitstream.specs.Answer.{IfGot}
use Rattle.bitstream.proofs.Numbers.{bit_lt, number_lt, number_one, number_add}
use Rattle.bitstream.proofs.Fields.{field_got}
use Rattle.huffman.specs.Tree.{Tree, leaf, fork, leaves, size, tree, huffman_tree, flat, nodes_of}
use Rattle.stored_trees.specs.Answer.{leaves_of}
use Rattle.huffman.proofs.Trees.{longest, longest_leaves, size_leaves, some_leaf, Spells, tree_read, read_proper, huffman_lawful}
use Rattle.huffman.proofs.Grows.{tree_leaf, fork_left, token_got, stored_leaf, stored_fork, drop_zeros}

-- ---- bits that spell a tree are read as that tree
pub spells_ends : (p : List ℕ) (q : ℕ) (t : Tree) (e : ℕ) → Spells p q t e → e + 1 ≡ q + 7 * leaves t
spells_ends p q (leaf t) e s = omega (arith, s.2)
spells_ends p q (fork l r) e s = omega (arith, spells_ends p (q + 1) l s.1 s.2, spells_ends p s.1 r e s.3)

pub spelled_tree : (d seen : ℕ) (p : List ℕ) (q : ℕ) (t : Tree) (e : ℕ) → Spells p q t e → longest t ≤ d → seen + leaves t ≤ 32 → e ≤ bits p → tree d seen p q ≡ got t e
spelled_tree d seen p q (leaf t) e s l c b =
    let x : number p q 1 ≡ 1 = number_one p q ∙ s.0 in
    let y : q + 1 + 5 ≡ e = omega (arith, s.2) in
    tree_leaf seen p q d (field_got 1 p q (omega (arith, s.2, b))) x (omega (arith, c))
    ∙ token_got p (q + 1) (field_got 5 p (q + 1) (omega (arith, s.2, b)))
    ∙ ap₂ (λ (t n : ℕ). got (leaf t) n) s.1 y
spelled_tree d seen p q (fork l r) e s g c b =
    let x : number p q 1 ≡ 0 = number_one p q ∙ s.0 in
    let u = spells_ends p (q + 1) l s.1 s.2 in
    let v = spells_ends p s.1 r e s.3 in
    let y = some_leaf l in
    let z = some_leaf r in
    let f = spelled_tree (d - 1) seen p (q + 1) l s.1 s.2 (omega (arith, g)) (omega (arith, c)) (omega (arith, v, z, b)) in
    let h = spelled_tree (d - 1) (seen + leaves l) p s.1 r e s.3 (omega (arith, g)) (omega (arith, c)) b in
    fork_left seen p q d (field_got 1 p q (omega (arith, u, v, y, z, b))) (λ w. absurd (omega (arith, w, x))) (λ w. absurd (omega (arith, g, w))) f ∙ rw h

-- ---- trees one behind the other, their leaves, and the table that they make: before each but the first stands an open fork, whose 1 branch it is
abbrev pub Forest : List ℕ → ℕ → List Tree → ℕ → Type 0
Forest p q [] e = q ≡ e
Forest p q (t ∷ ts) e = (m : ℕ) × Spells p q t m × Forest p m ts e

abbrev pub total : List Tree → ℕ
total [] = 0
total (t ∷ ts) = leaves t + total ts

at_least : (ts : List Tree) → length ts ≤ total ts
at_least [] = omega arith
at_least (t ∷ ts) = omega (arith, some_leaf t, at_least ts)

abbrev pub put : ℕ → Tree → List ℕ → List ℕ
put i t ns = take i ns ++ flat i t ++ drop (i + size t) ns

abbrev pub lay : List ℕ → ℕ → List Tree → List ℕ → List ℕ
lay fs i [] ns = ns
lay [] i (t ∷ ts) ns = put i t ns
lay (f ∷ fs) i (t ∷ ts) ns = lay fs (i + size t) ts (set (put i t ns) f (128 + (i + size t)))

put_fork : (i x : ℕ) (ns : List ℕ) (l r : Tree) → i < length ns → put (i + 1 + size l) r (set (put (i + 1) l (set ns i x)) i (128 + (i + 1 + size l))) ≡ put i (fork l r) ns
put_fork i x ns l r h =
    let m = set ns i x in
    let n = put (i + 1) l m in
    let k : i < length m = rw (length-set ns i x) h in
    let a : take i m ≡ take i ns = take-set-le i ns i x (omega arith) in
    let b : drop (i + size (fork l r)) m ≡ drop (i + size (fork l r)) ns = drop-set-lt (i + size (fork l r)) ns i x (omega arith) in
    stored_fork i m n (put (i + 1 + size l) r (set n i (128 + (i + 1 + size l)))) l r k refl refl ∙ ap₂ (λ (y z : List ℕ). y ++ flat i (fork l r) ++ z) a b

lay_fork : (fs : List ℕ) (i x : ℕ) (ns : List ℕ) (l r : Tree) (ts : List Tree) → i < length ns → lay (i ∷ fs) (i + 1) (l ∷ r ∷ ts) (set ns i x) ≡ lay fs i (fork l r ∷ ts) ns
lay_fork [] i x ns l r ts h = put_fork i x ns l r h
lay_fork (f ∷ fs) i x ns l r ts h = ap₂ (λ (n : ℕ) (m : List ℕ). lay fs n ts (set m f (128 + n))) (omega arith) (put_fork i x ns l r h)

lay_leaf : (f : ℕ) (fs : List ℕ) (i t : ℕ) (ns : List ℕ) (ts : List Tree) → i < length ns → lay fs (i + 1) ts (set (set ns i t) f (128 + (i + 1))) ≡ lay (f ∷ fs) i (leaf t ∷ ts) ns
lay_leaf f fs i t ns ts h = ap (λ (m : List ℕ). lay fs (i + 1) ts (set m f (128 + (i + 1)))) (stored_leaf i ns t h)

-- ---- what is left to read at the place q: a tree, and one for each of the open forks fs, the innermost first; L leaves stand before. All comes to the table F, to c leaves and to the place e
pub record Rest (p : List ℕ) (q i L : ℕ) (fs ns F : List ℕ) (c e : ℕ) : Type 0 where
  pub trees : List Tree
  pub each : length trees ≡ 1 + length fs
  pub spelled : Forest p q trees e
  pub laid : lay fs i trees ns ≡ F
  pub count : L + total trees ≡ c

module _ (p : List ℕ) (q i L : ℕ) (fs ns F : List ℕ) (c e : ℕ) (inside : i < length ns) where
  -- a bit 0 is a fork: its branches are left
  fork_on : (x : ℕ) → bit_at p q ≡ 0 → Rest p q i L fs ns F c e → Rest p (q + 1) (i + 1) L (i ∷ fs) (set ns i x) F c e
  fork_on x b g = go g.trees g.each g.spelled g.laid g.count
    where
      go : (ts : List Tree) → length ts ≡ 1 + length fs → Forest p q ts e → lay fs i ts ns ≡ F → L + total ts ≡ c → Rest p (q + 1) (i + 1) L (i ∷ fs) (set ns i x) F c e
      go [] n s l k = absurd (omega (arith, n))
      go (leaf t ∷ ts) n s l k = absurd (omega (arith, b, s.1.0))
      go (fork a d ∷ ts) n s l k =
          record {
            trees = a ∷ d ∷ ts;
            each = omega (arith, n);
            spelled = (s.1.1, s.1.2, (s.0, s.1.3, s.2));
            laid = lay_fork fs i x ns a d ts inside ∙ l;
            count = omega (arith, k);
          }

  pub fork_back : (x : ℕ) → bit_at p q ≡ 0 → Rest p (q + 1) (i + 1) L (i ∷ fs) (set ns i x) F c e → Rest p q i L fs ns F c e
  fork_back x b g = go g.trees g.each g.spelled g.laid g.count
    where
      go : (ts : List Tree) → length ts ≡ 1 + length (i ∷ fs) → Forest p (q + 1) ts e → lay (i ∷ fs) (i + 1) ts (set ns i x) ≡ F → L + total ts ≡ c → Rest p q i L fs ns F c e
      go [] n s l k = absurd (omega (arith, n))
      go (a ∷ []) n s l k = absurd (omega (arith, n))
      go (a ∷ d ∷ ts) n s l k =
          record {
            trees = fork a d ∷ ts;
            each = omega (arith, n);
            spelled = (s.2.0, (b, s.0, s.1, s.2.1), s.2.2);
            laid = sym (lay_fork fs i x ns a d ts inside) ∙ l;
            count = omega (arith, k);
          }

-- a bit 1 and a token are a leaf: the 1 branch of the innermost open fork is left
module _ (p : List ℕ) (q i L f : ℕ) (fs ns F : List ℕ) (c e t : ℕ) (inside : i < length ns) (b : bit_at p q ≡ 1) (is : t ≡ number p (q + 1) 5) where
  leaf_on : Rest p q i L (f ∷ fs) ns F c e → Rest p (q + 6) (i + 1) (L + 1) fs (set (set ns i t) f (128 + (i + 1))) F c e
  leaf_on g = go g.trees g.each g.spelled g.laid g.count
    where
      go : (ts : List Tree) → length ts ≡ 1 + length (f ∷ fs) → Forest p q ts e → lay (f ∷ fs) i ts ns ≡ F → L + total ts ≡ c → Rest p (q + 6) (i + 1) (L + 1) fs (set (set ns i t) f (128 + (i + 1))) F c e
      go [] n s l k = absurd (omega (arith, n))
      go (fork a d ∷ ts) n s l k = absurd (omega (arith, b, s.1.0))
      go (leaf u ∷ ts) n s l k =
          let z : t ≡ u = is ∙ s.1.1 in
          record {
            trees = ts;
            each = omega (arith, n);
            spelled = subst (λ (m : ℕ). Forest p m ts e) s.1.2 s.2;
            laid = lay_leaf f fs i t ns ts inside ∙ ap (λ (x : ℕ). lay (f ∷ fs) i (leaf x ∷ ts) ns) z ∙ l;
            count = omega (arith, k);
          }

  pub leaf_back : Rest p (q + 6) (i + 1) (L + 1) fs (set (set ns i t) f (128 + (i + 1))) F c e → Rest p q i L (f ∷ fs) ns F c e
  leaf_back g =
      record {
        trees = leaf t ∷ g.trees;
        each = omega (arith, g.each);
        spelled = (q + 6, (b, sym is, refl), g.spelled);
        laid = sym (lay_leaf f fs i t ns g.trees inside) ∙ g.laid;
        count = omega (arith, g.count);
      }

-- the last leaf, with no fork open
module _ (p : List ℕ) (q i L : ℕ) (ns : List ℕ) (t : ℕ) (inside : i < length ns) (b : bit_at p q ≡ 1) (is : t ≡ number p (q + 1) 5) where
  pub last_leaf : Rest p q i L [] ns (set ns i t) (L + 1) (q + 6)
  last_leaf = record { trees = leaf t ∷ []; each = refl; spelled = (q + 6, (b, sym is, refl), refl); laid = sym (stored_leaf i ns t inside); count = omega arith }

-- all of a tree that ends in the packet, from its start
pub rest_whole : (p : List ℕ) (at : ℕ) (F : List ℕ) (c e : ℕ) → Rest p at 0 0 [] (replicate 64 0) F c e → c ≤ 32 → e ≤ bits p → (t : Tree) × (huffman_tree p at ≡ got t e) × (c ≡ leaves t) × (F ≡ nodes_of t)
unfolding huffman_tree nodes_of
rest_whole p at F c e r m d = go r.trees r.each r.spelled r.laid r.count
  where
    go : (ts : List Tree) → length ts ≡ 1 + 0 → Forest p at ts e → lay [] 0 ts (replicate 64 0) ≡ F → 0 + total ts ≡ c → (t : Tree) × (huffman_tree p at ≡ got t e) × (c ≡ leaves t) × (F ≡ nodes_of t)
    go [] n s l k = absurd (omega (arith, n))
    go (u ∷ x ∷ ts) n s l k = absurd (omega (arith, n))
    go (u ∷ []) n s l k =
        let z = spelled_tree 32 0 p at u s.0 s.1 (omega (arith, longest_leaves u, k, m)) (omega (arith, k, m)) (omega (arith, s.2, d)) in
        let v : drop {A = ℕ} (0 + size u) (replicate 64 0) ≡ replicate (64 - size u) 0 = ap (λ (k : ℕ). drop {A = ℕ} k (replicate 64 0)) (zero-add (size u)) ∙ drop_zeros (size u) 64 (omega (arith, size_leaves u, k, m)) in
        (u, z ∙ ap (got u) s.2, omega (arith, k), sym l ∙ ap (λ (w : List ℕ). flat 0 u ++ w) v)

-- ---- the open forks: each has as its entry the one above it, the outermost 64, and each stands behind the one above it
abbrev Chain : List ℕ → ℕ → List ℕ → Type 0
Chain ns top [] = top ≡ 64
Chain ns top (f ∷ fs) = (top ≡ f) × Chain ns (get_or ns f 0) fs

abbrev Falling : ℕ → List ℕ → Type 0
Falling i [] = Unit {0}
Falling i (f ∷ fs) = (f < i) × Falling f fs

falling_more : (i j : ℕ) (fs : List ℕ) → i ≤ j → Falling i fs → Falling j fs
falling_more i j [] h g = tt
falling_more i j (f ∷ fs) h g = (omega (arith, g.0), g.1)

chain_set : (ns : List ℕ) (k x i top : ℕ) (fs : List ℕ) → i ≤ k → Falling i fs → Chain ns top fs → Chain (set ns k x) top fs
chain_set ns k x i top [] h g c = c
chain_set ns k x i top (f ∷ fs) h g c =
    let e : get_or (set ns k x) f 0 ≡ get_or ns f 0 = get_or-set_other ns k f x 0 (λ z. absurd (omega (arith, z, g.0))) in
    (c.0, chain_set ns k x f (get_or (set ns k x) f 0) fs (omega (arith, g.0)) g.1 (subst (λ (m : ℕ). Chain ns m fs) (sym e) c.1))

-- ---- the loop's state at the place q, before the node i, behind L leaves: what is left there comes to the same as all from the start
pub record Going (p : List ℕ) (at q i L top : ℕ) (ns : List ℕ) : Type 0 where
  forks : List ℕ
  on : (F : List ℕ) (c e : ℕ) → Rest p at 0 0 [] (replicate 64 0) F c e → Rest p q i L forks ns F c e
  back : (F : List ℕ) (c e : ℕ) → Rest p q i L forks ns F c e → Rest p at 0 0 [] (replicate 64 0) F c e
  nodes : length forks + 2 * L ≡ i
  chain : Chain ns top forks
  falling : Falling i forks
  pub long : length ns ≡ 64
  pub place : q ≡ at + i + 5 * L
  pub few : i ≤ 31 + L

module _ (p : List ℕ) (at : ℕ) where
  whole_rest : (t : Tree) (e : ℕ) → Spells p at t e → Rest p at 0 0 [] (replicate 64 0) (put 0 t (replicate 64 0)) (leaves t) e
  whole_rest t e s = record { trees = t ∷ []; each = refl; spelled = (e, s, refl); laid = refl; count = omega arith }

  pub going_start : (ns : List ℕ) → ns ≡ replicate 64 0 → Going p at at 0 0 64 ns
  going_start ns h =
      record {
        forks = [];
        on = λ F c e g. subst (λ (m : List ℕ). Rest p at 0 0 [] m F c e) (sym h) g;
        back = λ F c e g. subst (λ (m : List ℕ). Rest p at 0 0 [] m F c e) h g;
        nodes = refl;
        chain = refl;
        falling = tt;
        long = ap length h;
        place = omega arith;
        few = omega arith;
      }

  module _ (q i L top : ℕ) (ns : List ℕ) (g : Going p at q i L top ns) where
    -- a node more fits the table
    pub going_room : (i < 64) × (L ≤ 31)
    going_room = (omega (arith, g.nodes, g.few), omega (arith, g.nodes, g.few))

    pub going_less : L ≤ i
    going_less = omega (arith, g.nodes)

    inside : i < length ns
    inside = omega (arith, going_room.0, g.long)

    -- the innermost open fork stands in the table
    open_low : (fs : List ℕ) → Chain ns top fs → Falling i fs → (top < i) ⊎ (top ≡ 64)
    open_low [] c f = inr c
    open_low (x ∷ fs) c f = inl (omega (arith, c.0, f.0))

    pub going_open : top ≤ 64
    going_open = go (open_low g.forks g.chain g.falling)
      where
        go : (top < i) ⊎ (top ≡ 64) → top ≤ 64
        go (inl h) = omega (arith, h, going_room.0)
        go (inr h) = omega (arith, h)

    pub going_fork : bit_at p q ≡ 0 → (i ≡ 31 + L → ⊥) → Going p at (q + 1) (i + 1) L i (set ns i top)
    going_fork b h =
        record {
          forks = i ∷ g.forks;
          on = λ F c e r. fork_on p q i L g.forks ns F c e inside top b (g.on F c e r);
          back = λ F c e r. g.back F c e (fork_back p q i L g.forks ns F c e inside top b r);
          nodes = omega (arith, g.nodes);
          chain = (refl, subst (λ (m : ℕ). Chain (set ns i top) m g.forks) (sym (get_or-set_same ns i top 0 inside)) (chain_set ns i top i top g.forks (omega arith) g.falling g.chain));
          falling = (omega arith, g.falling);
          long = length-set ns i top ∙ g.long;
          place = omega (arith, g.place);
          few = omega (arith, g.few, h);
        }

    -- a leaf, and the innermost fork gets its 1 branch
    module _ (t : ℕ) (b : bit_at p q ≡ 1) (is : t ≡ number p (q + 1) 5) where
      abbrev next : List ℕ
      next = set (set ns i t) top (128 + (i + 1))

      pub open_there : (top ≡ 64 → ⊥) → top < i
      open_there h = go (open_low g.forks g.chain g.falling)
        where
          go : (top < i) ⊎ (top ≡ 64) → top < i
          go (inl l) = l
          go (inr e) = absurd (h e)

      pub going_leaf : (top ≡ 64 → ⊥) → Going p at (q + 6) (i + 1) (L + 1) (get_or (set ns i t) top 0) next
      going_leaf h = go g.forks g.on g.back g.nodes g.chain g.falling
        where
          go : (fs : List ℕ) → ((F : List ℕ) (c e : ℕ) → Rest p at 0 0 [] (replicate 64 0) F c e → Rest p q i L fs ns F c e)
              → ((F : List ℕ) (c e : ℕ) → Rest p q i L fs ns F c e → Rest p at 0 0 [] (replicate 64 0) F c e)
              → length fs + 2 * L ≡ i → Chain ns top fs → Falling i fs → Going p at (q + 6) (i + 1) (L + 1) (get_or (set ns i t) top 0) next
          go [] on back n c f = absurd (h c)
          go (x ∷ fs) on back n c f =
              let z : top ≡ x = c.0 in
              let y : get_or (set ns i t) top 0 ≡ get_or ns x 0 = ap (λ (k : ℕ). get_or (set ns i t) k 0) z ∙ get_or-set_other ns i x t 0 (λ e. absurd (omega (arith, e, f.0))) in
              let v : set (set ns i t) x (128 + (i + 1)) ≡ next = ap (λ (k : ℕ). set (set ns i t) k (128 + (i + 1))) (sym z) in
              let w = chain_set ns i t i (get_or ns x 0) fs (omega arith) (falling_more x i fs (omega (arith, f.0)) f.1) c.1 in
              let u = chain_set (set ns i t) top (128 + (i + 1)) x (get_or ns x 0) fs (omega (arith, z)) f.1 w in
              record {
                forks = fs;
                on = λ F c e r. subst (λ (m : List ℕ). Rest p (q + 6) (i + 1) (L + 1) fs m F c e) v (leaf_on p q i L x fs ns F c e t inside b is (on F c e r));
                back = λ F c e r. back F c e (leaf_back p q i L x fs ns F c e t inside b is (subst (λ (m : List ℕ). Rest p (q + 6) (i + 1) (L + 1) fs m F c e) (sym v) r));
                nodes = omega (arith, n);
                chain = subst (λ (m : ℕ). Chain next m fs) (sym y) u;
                falling = falling_more x (i + 1) fs (omega (arith, f.0)) f.1;
                long = length-set (set ns i t) top (128 + (i + 1)) ∙ (length-set ns i t ∙ g.long);
                place = omega (arith, g.place);
                few = omega (arith, g.few);
              }

      -- no fork is open: the tree is whole
      ends_here : (F : List ℕ) (c e : ℕ) → Rest p q i L [] ns F c e → c ≡ L + 1
      ends_here F c e r = go r.trees r.each r.spelled r.count
        where
          go : (ts : List Tree) → length ts ≡ 1 + 0 → Forest p q ts e → L + total ts ≡ c → c ≡ L + 1
          go [] n s k = absurd (omega (arith, n))
          go (fork a d ∷ ts) n s k = absurd (omega (arith, b, s.1.0))
          go (leaf u ∷ []) n s k = omega (arith, k)
          go (leaf u ∷ x ∷ ts) n s k = absurd (omega (arith, n))

      module _ (shut : top ≡ 64) where
        none_open : (fs : List ℕ) → Chain ns top fs → Falling i fs → fs ≡ []
        none_open [] c f = refl
        none_open (x ∷ fs) c f = absurd (omega (arith, shut, c.0, f.0, going_room.0))

        no_forks : g.forks ≡ []
        no_forks = none_open g.forks g.chain g.falling

        -- it passes the packet's end
        pub going_cut : at ≤ bits p → bits p < at + 7 * (L + 1) - 1 → (0 ≡ leaves_of (huffman_tree p at)) × IfGot (λ s. set ns i t ≡ nodes_of s) (huffman_tree p at)
        unfolding huffman_tree
        going_cut h d = go (huffman_tree p at) refl
          where
            past : (s : Tree) (e : ℕ) → huffman_tree p at ≡ got s e → ⊥
            past s e r =
                let w = (tree_read 32 0 p at r).spells in
                let x = ends_here (put 0 s (replicate 64 0)) (leaves s) e (subst (λ (fs : List ℕ). Rest p q i L fs ns (put 0 s (replicate 64 0)) (leaves s) e) no_forks (g.on (put 0 s (replicate 64 0)) (leaves s) e (whole_rest s e w))) in
                omega (arith, x, spells_ends p at s e w, (huffman_lawful.moves p at s e h r).1, d)

            go : (o : Outcome Tree) → huffman_tree p at ≡ o → (0 ≡ leaves_of o) × IfGot (λ s. set ns i t ≡ nodes_of s) o
            go (got s e) r = absurd (past s e r)
            go (refused k e) r = (refl, tt)

        pub going_whole : at + 7 * (L + 1) - 1 ≤ bits p → (L + 1 ≡ leaves_of (huffman_tree p at)) × IfGot (λ s. set ns i t ≡ nodes_of s) (huffman_tree p at)
        going_whole d =
            let n : length g.forks ≡ 0 = ap length no_forks in
            let r = g.back (set ns i t) (L + 1) (q + 6) (subst (λ (fs : List ℕ). Rest p q i L fs ns (set ns i t) (L + 1) (q + 6)) (sym no_forks) (last_leaf p q i L ns t inside b is)) in
            let w = rest_whole p at (set ns i t) (L + 1) (q + 6) r (omega (arith, going_room.1)) (omega (arith, d, n, g.nodes, g.place)) in
            rw w.1 (w.2, w.3)

    -- one fork more than 31, and there is no tree
    pub going_full : bit_at p q ≡ 0 → i ≡ 31 + L → (0 ≡ leaves_of (huffman_tree p at)) × IfGot (λ t. ns ≡ nodes_of t) (huffman_tree p at)
    unfolding huffman_tree
    going_full b h = go (huffman_tree p at) refl
      where
        too_many : (t : Tree) (e : ℕ) → huffman_tree p at ≡ got t e → ⊥
        too_many t e r =
            let x = fork_on p q i L g.forks ns (put 0 t (replicate 64 0)) (leaves t) e inside 0 b (g.on (put 0 t (replicate 64 0)) (leaves t) e (whole_rest t e (tree_read 32 0 p at r).spells)) in
            omega (arith, x.each, x.count, at_least x.trees, (read_proper p at r).few, g.nodes, h)

        go : (o : Outcome Tree) → huffman_tree p at ≡ o → (0 ≡ leaves_of o) × IfGot (λ t. ns ≡ nodes_of t) o
        go (got t e) r = absurd (too_many t e r)
        go (refused k e) r = (refl, tt)

-- ---- the window: its upper v bits are those of the packet from the place q on, enough for the leaves up to the next filling
pub record Shows (p : List ℕ) (q w i L : ℕ) : Type 0 where
  pub shown : ℕ
  pub most : shown ≤ 64
  pub enough : 57 + L ≤ shown + i + 6 * (L % 4)
  pub is : w ≡ number p q shown * 2 ^ (64 - shown)

-- k of its bits, and the rest
pub parted : (p : List ℕ) (q v k m : ℕ) → k + m ≡ v → v ≤ 64
    → (number p q v * 2 ^ (64 - v) ≡ number p q k * 2 ^ (64 - k) + number p (q + k) m * 2 ^ (64 - v)) × (number p (q + k) m * 2 ^ (64 - v) < 2 ^ (64 - k))
parted p q v k m e h =
    let s = 2 ^ (64 - v) in
    let x : m + (64 - v) ≡ 64 - k = omega arith in
    let y : 2 ^ m * s ≡ 2 ^ (64 - k) = sym (pow-add 2 m (64 - v)) ∙ ap (λ (n : ℕ). 2 ^ n) x in (
      ap (λ (n : ℕ). number p q n * s) (sym e) ∙ (ap (λ (n : ℕ). n * s) (number_add p q k m) ∙ (add-mul (number p q k * 2 ^ m) (number p (q + k) m) s
          ∙ ap (λ (n : ℕ). n + number p (q + k) m * s) (mul_assoc (number p q k) (2 ^ m) s ∙ ap (λ (n : ℕ). number p q k * n) y))),
      subst (λ (n : ℕ). number p (q + k) m * s < 2 ^ n) x (shl_lt m (64 - v) (number_lt p (q + k) m)),
    )

pub shows_filled : (p : List ℕ) (q w i L : ℕ) → w ≡ number p (q / 8 * 8) 64 * 2 ^ (q % 8) % 2 ^ 64 → L % 4 ≡ 0 → L ≤ i → Shows p q w i L
shows_filled p q w i L h z l =
    let m = q % 8 in
    let v = 64 - m in
    let a = number p (q / 8 * 8) m in
    let n : m + v ≡ 64 = omega arith in
    let f : q / 8 * 8 + m ≡ q = omega arith in
    let r : 64 - v ≡ m = omega arith in
    let o : v + m ≡ 64 = omega arith in
    let x : number p (q / 8 * 8) 64 ≡ a * 2 ^ v + number p q v = ap (λ (k : ℕ). number p (q / 8 * 8) k) (sym n) ∙ (number_add p (q / 8 * 8) m v ∙ ap (λ (k : ℕ). a * 2 ^ v + number p k v) f) in
    let y : 2 ^ v * 2 ^ m ≡ 2 ^ 64 = sym (pow-add 2 v m) ∙ ap (λ (k : ℕ). 2 ^ k) o in
    let u : (a * 2 ^ v + number p q v) * 2 ^ m ≡ a * 2 ^ 64 + number p q v * 2 ^ m = add-mul (a * 2 ^ v) (number p q v) (2 ^ m) ∙ ap (λ (k : ℕ). k + number p q v * 2 ^ m) (mul_assoc a (2 ^ v) (2 ^ m) ∙ ap (λ (k : ℕ). a * k) y) in
    let t : number p q v * 2 ^ m < 2 ^ 64 = subst (λ (k : ℕ). number p q v * 2 ^ m < 2 ^ k) o (shl_lt v m (number_lt p q v)) in
    record {
      shown = v;
      most = omega arith;
      enough = omega (arith, z, l);
      is = h ∙ (ap (λ (k : ℕ). k * 2 ^ m % 2 ^ 64) x ∙ (ap (λ (k : ℕ). k % 2 ^ 64) u ∙ (low a 64 t ∙ ap (λ (k : ℕ). number p q v * 2 ^ k) (sym r))));
    }

module _ (p : List ℕ) (q w i L : ℕ) (g : Shows p q w i L) (few : i ≤ 31 + L) where
  least : 8 ≤ g.shown
  least = omega (arith, g.enough, few)

  -- the first bit, and the others
  first : (w ≡ bit_at p q * 2 ^ 63 + number p (q + 1) (g.shown - 1) * 2 ^ (64 - g.shown)) × (number p (q + 1) (g.shown - 1) * 2 ^ (64 - g.shown) < 2 ^ 63)
  first = let x = parted p q g.shown 1 (g.shown - 1) (omega (arith, least)) g.most in (g.is ∙ (x.0 ∙ ap (λ (b : ℕ). b * 2 ^ 63 + number p (q + 1) (g.shown - 1) * 2 ^ (64 - g.shown)) (number_one p q)), x.1)

  pub shows_fork : w < 2 ^ 63 → bit_at p q ≡ 0
  shows_fork h = omega (arith, first.0, first.1, bit_lt p q, h)

  pub shows_leaf : (w < 2 ^ 63 → ⊥) → bit_at p q ≡ 1
  shows_leaf h = omega (arith, first.0, first.1, bit_lt p q, h)

  pub shows_behind : w < 2 ^ 63 → Shows p (q + 1) (w * 2) (i + 1) L
  shows_behind h =
      let v = g.shown in
      let n : 64 - (v - 1) ≡ suc (64 - v) = omega (arith, least, g.most) in
      let x : w ≡ number p (q + 1) (v - 1) * 2 ^ (64 - v) = omega (arith, first.0, shows_fork h) in
      record {
        shown = v - 1;
        most = omega (arith, g.most);
        enough = omega (arith, g.enough, least);
        is = ap (λ (k : ℕ). k * 2) x ∙ (mul_assoc (number p (q + 1) (v - 1)) (2 ^ (64 - v)) 2 ∙ ap (λ (k : ℕ). number p (q + 1) (v - 1) * k) (sym (pow-suc 2 (64 - v)) ∙ ap (λ (k : ℕ). 2 ^ k) (sym n)));
      }

  six : (w ≡ number p q 6 * 2 ^ 58 + number p (q + 6) (g.shown - 6) * 2 ^ (64 - g.shown)) × (number p (q + 6) (g.shown - 6) * 2 ^ (64 - g.shown) < 2 ^ 58)
  six = let x = parted p q g.shown 6 (g.shown - 6) (omega (arith, least)) g.most in (g.is ∙ x.0, x.1)

  pub shows_token : w / 2 ^ 58 % 32 ≡ number p (q + 1) 5
  shows_token = omega (arith, six.0, six.1, number_add p q 1 5, number_lt p (q + 1) 5)

  pub shows_next : ((L + 1) % 4 ≡ 0 → ⊥) → Shows p (q + 6) (w * 2 ^ 6 % 2 ^ 64) (i + 1) (L + 1)
  shows_next h =
      let v = g.shown in
      let n : 64 - (v - 6) ≡ 64 - v + 6 = omega (arith, least, g.most) in
      let x : w * 2 ^ 6 % 2 ^ 64 ≡ number p (q + 6) (v - 6) * 2 ^ (64 - v) * 2 ^ 6 = omega (arith, six.0, six.1) in
      record {
        shown = v - 6;
        most = omega (arith, g.most);
        enough = omega (arith, g.enough, least, h);
        is = x ∙ (mul_assoc (number p (q + 6) (v - 6)) (2 ^ (64 - v)) (2 ^ 6) ∙ ap (λ (k : ℕ). number p (q + 6) (v - 6) * k) (sym (pow-add 2 (64 - v) 6) ∙ ap (λ (k : ℕ). 2 ^ k) (sym n)));
      }

-- ---- the invariants. At each leaf: what is left, and what the window shows of it, if it is not filled anew; at each fork before it: what the window shows
pub record Head (p : List ℕ) (at w i L top : ℕ) (ns : List ℕ) : Type 0 where
  q : ℕ
  left : Going p at q i L top ns
  seen : (L % 4 ≡ 0 → ⊥) → Shows p q w i L

pub record State (p : List ℕ) (at w i L top : ℕ) (ns : List ℕ) : Type 0 where
  q : ℕ
  left : Going p at q i L top ns
  seen : Shows p q w i L

module _ (p : List ℕ) (at : ℕ) where
  pub head_start : (w : ℕ) (ns : List ℕ) → ns ≡ replicate 64 0 → Head p at w 0 0 64 ns
  head_start w ns z = record { q = at; left = going_start p at ns z; seen = λ h. absurd (h refl) }

  module _ (w i L top : ℕ) (ns : List ℕ) (s : Head p at w i L top ns) where
    pub head_room : (i < 64) × (L ≤ 31)
    head_room = going_room p at s.q i L top ns s.left

    pub head_kept : (x : ℕ) → x ≡ w → (L % 4 ≡ 0 → ⊥) → State p at x i L top ns
    head_kept x e h = record { q = s.q; left = s.left; seen = subst (λ (y : ℕ). Shows p s.q y i L) (sym e) (s.seen h) }

    pub head_filled : (x k : ℕ) → L % 4 ≡ 0 → k ≡ at + i + 5 * L → x ≡ number p (k / 8 * 8) 64 * 2 ^ (k % 8) % 2 ^ 64 → State p at x i L top ns
    head_filled x k h n e =
        let y : k ≡ s.q = n ∙ sym s.left.place in
        record {
          q = s.q;
          left = s.left;
          seen = shows_filled p s.q x i L (e ∙ ap (λ (k : ℕ). number p (k / 8 * 8) 64 * 2 ^ (k % 8) % 2 ^ 64) y) h (going_less p at s.q i L top ns s.left);
        }

  module _ (w i L top : ℕ) (ns : List ℕ) (s : State p at w i L top ns) where
    pub state_room : (i < 64) × (L ≤ 31) × (top ≤ 64) × (length ns ≡ 64)
    state_room =
        let r = going_room p at s.q i L top ns s.left in
        (r.0, r.1, going_open p at s.q i L top ns s.left, s.left.long)

    is_leaf : 2 ^ 63 ≤ w → bit_at p s.q ≡ 1
    is_leaf h = shows_leaf p s.q w i L s.seen s.left.few (λ l. absurd (omega (arith, l, h)))

    its_token : w / 2 ^ 58 % 32 ≡ number p (s.q + 1) 5
    its_token = shows_token p s.q w i L s.seen s.left.few

    pub state_fork : w < 2 ^ 63 → (i ≡ 31 + L → ⊥) → State p at (w * 2) (i + 1) L i (set ns i top)
    state_fork h n =
        record {
          q = s.q + 1;
          left = going_fork p at s.q i L top ns s.left (shows_fork p s.q w i L s.seen s.left.few h) n;
          seen = shows_behind p s.q w i L s.seen s.left.few h;
        }

    pub state_full : w < 2 ^ 63 → i ≡ 31 + L → (0 ≡ leaves_of (huffman_tree p at)) × IfGot (λ t. ns ≡ nodes_of t) (huffman_tree p at)
    state_full h n = going_full p at s.q i L top ns s.left (shows_fork p s.q w i L s.seen s.left.few h) n

    module _ (h : 2 ^ 63 ≤ w) where
      pub state_cut : top ≡ 64 → at ≤ bits p → bits p < at + 7 * (L + 1) - 1 → (0 ≡ leaves_of (huffman_tree p at)) × IfGot (λ t. set ns i (w / 2 ^ 58 % 32) ≡ nodes_of t) (huffman_tree p at)
      state_cut z b d = going_cut p at s.q i L top ns s.left (w / 2 ^ 58 % 32) (is_leaf h) its_token z b d

      pub state_whole : top ≡ 64 → at + 7 * (L + 1) - 1 ≤ bits p → (L + 1 ≡ leaves_of (huffman_tree p at)) × IfGot (λ t. set ns i (w / 2 ^ 58 % 32) ≡ nodes_of t) (huffman_tree p at)
      state_whole z d = going_whole p at s.q i L top ns s.left (w / 2 ^ 58 % 32) (is_leaf h) its_token z d

      module _ (n : top ≡ 64 → ⊥) where
        pub state_open : top < 64
        state_open = omega (arith, open_there p at s.q i L top ns s.left (w / 2 ^ 58 % 32) (is_leaf h) its_token n, state_room.0)

        after_leaf : Going p at (s.q + 6) (i + 1) (L + 1) (get_or (set ns i (w / 2 ^ 58 % 32)) top 0) (set (set ns i (w / 2 ^ 58 % 32)) top (128 + (i + 1)))
        after_leaf = going_leaf p at s.q i L top ns s.left (w / 2 ^ 58 % 32) (is_leaf h) its_token n

        pub state_leaf : Head p at (w * 2 ^ 6 % 2 ^ 64) (i + 1) (L + 1) (get_or (set ns i (w / 2 ^ 58 % 32)) top 0) (set (set ns i (w / 2 ^ 58 % 32)) top (128 + (i + 1)))
        state_leaf = record { q = s.q + 6; left = after_leaf; seen = λ d. shows_next p s.q w i L s.seen s.left.few d }
