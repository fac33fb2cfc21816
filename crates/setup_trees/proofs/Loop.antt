-- The trees, in a loop. Assumes nothing.
use Prim.Native.Nat.{ℕ, ◌+◌, ◌-◌, ◌*◌, ◌≤◌, ◌<◌}
use native.Mathlib.Omega.{arith}
use mathlib.Core.Path.{◌≡◌, refl, sym, ap, ap₂, ◌∙◌}
use mathlib.Core.List.{List, [], ◌∷◌, ◌++◌, append-nil, append_assoc}
use mathlib.Core.Bool.{Bool, false}
use lib.ListN.{length, replicate, length-append, length-replicate}
use lib.Seq.{take_at}
use borrow.Rule.Slice.PartMut.{mid_of, put_mid}
use Rattle.bitstream.specs.Bits.{bits}
use Rattle.bitstream.specs.Reading.{Outcome, got, refused, many, times}
use Rattle.bitstream.specs.Answer.{as_end, IfGot}
use Rattle.bitstream.specs.declared.End.{End}
use Rattle.bitstream.specs.declared.End.TheVariants.{At, Refused}
use Rattle.huffman.specs.Tree.{Tree, Proper, nodes_of, huffman_tree}
use Rattle.huffman.specs.Answer.{nodes_after}
use Rattle.huffman.proofs.Answers.{tree_refused, tree_next}
use Rattle.stored_trees.specs.Answer.{leaves_of}
use Rattle.stored_trees.proofs.Answers.{loaded_none, loaded_next}
use Rattle.huffman.proofs.Nodes.{nodes_length}
use Rattle.huffman.proofs.Trees.{read_proper, huffman_lawful}
use Rattle.quantization.specs.Layout.{padded, laid}
use Rattle.bitstream.proofs.Loops.{times_all, times_start, times_refused, times_got, many_first, many_later, many_cons}
use Rattle.quantization.proofs.Layouts.{laid_length, free_parts, put_all, put_more}
use Rattle.tree_pairs.specs.Pair.{Pair}
use Rattle.setup_trees.specs.Answer.{TreesFilled, told}

pub proper_padded : {t : Tree} → Proper t → padded (nodes_of t) ≡ nodes_of t
unfolding padded
proper_padded {t} h = take_at (nodes_of t) (replicate 64 0) 64 (nodes_length t h)

-- of n trees the first k, at the front of a slice of zeros
pub record Trees (n : ℕ) (p : List ℕ) (at place k : ℕ) (nodes : List ℕ) : Type 0 where
  pub done : List Tree
  pub long : length done ≡ k
  pub held : nodes ≡ laid nodes_of done ++ replicate (64 * n - length done * 64) 0
  pub goes : many n huffman_tree p at ≡ times (n - k) huffman_tree done p place

-- ---- what is told of an outcome, and the outcome
told_got : {A : Type 0} (o : Outcome A) {r : End} {d : ℕ} → r ≡ as_end (told false o) → r ≡ At d → (a : A) × (o ≡ got a d)
told_got (got a e) {r} {d} x y = let z : e ≡ d = cc in (a, ap (got a) z)
told_got (refused k e) x y = let z : ◌≡◌ {A = ℕ} 0 1 = cc in absurd (omega arith)

told_none : {A : Type 0} (o : Outcome A) {r : End} {j d : ℕ} → r ≡ as_end (told false o) → r ≡ Refused j d → (k : ℕ) × (e : ℕ) × (o ≡ refused k e) × (Refused j d ≡ Refused 8 0)
told_none (got a e) x y = let z : ◌≡◌ {A = ℕ} 0 1 = cc in absurd (omega arith)
told_none (refused k e) x y = (k, e, refl, sym y ∙ x)

-- ---- two at a time
record Two (p : List ℕ) (i : ℕ) (ts : List Tree) (e : ℕ) : Type 0 where
  first : Tree
  second : Tree
  between : ℕ
  both : ts ≡ first ∷ second ∷ []
  here : huffman_tree p i ≡ got first between
  behind : huffman_tree p between ≡ got second e

many_none : (p : List ℕ) (i : ℕ) → many 0 huffman_tree p i ≡ got [] i
unfolding many
many_none p i = refl

pub two_read : (p : List ℕ) (i : ℕ) {a b : Tree} {d e : ℕ} → huffman_tree p i ≡ got a d → huffman_tree p d ≡ got b e → many 2 huffman_tree p i ≡ got (a ∷ b ∷ []) e
two_read p i {a} {b} {d} {e} x y = many_cons 1 huffman_tree p i x (many_cons 0 huffman_tree p d y (many_none p e))

two_got : (p : List ℕ) (i : ℕ) (ts : List Tree) (e : ℕ) → many 2 huffman_tree p i ≡ got ts e → Two p i ts e
two_got p i ts e h = go (huffman_tree p i) refl
  where
    later : (a : Tree) (d : ℕ) → huffman_tree p i ≡ got a d → (o : Outcome Tree) → huffman_tree p d ≡ o → Two p i ts e
    later a d x (refused k f) y =
        let r = many_later 1 huffman_tree p i x (many_first 0 huffman_tree p d y) in
        let z : ◌≡◌ {A = ℕ} 0 1 = cc in absurd (omega arith)
    later a d x (got b f) y =
        let r = two_read p i x y in
        let u : ts ≡ a ∷ b ∷ [] = cc in
        let v : f ≡ e = cc in
        record { first = a; second = b; between = d; both = u; here = x; behind = y ∙ ap (got b) v }

    go : (o : Outcome Tree) → huffman_tree p i ≡ o → Two p i ts e
    go (got a d) x = later a d x (huffman_tree p d) refl
    go (refused k f) x =
        let r = many_first 1 huffman_tree p i x in
        let z : ◌≡◌ {A = ℕ} 0 1 = cc in absurd (omega arith)

module _ (n : ℕ) (p : List ℕ) (at : ℕ) where
  pub trees_start : (nodes : List ℕ) → nodes ≡ replicate (64 * n) 0 → Trees n p at at 0 nodes
  unfolding laid
  trees_start nodes h = let e : 64 * n ≡ 64 * n - 0 = omega arith in record { done = []; long = refl; held = h ∙ ap (λ (m : ℕ). replicate m 0) e; goes = times_start huffman_tree p at n }

  module _ (place k : ℕ) (nodes : List ℕ) (g : Trees n p at place k nodes) where
    pub trees_long : k ≤ n → length nodes ≡ 64 * n
    trees_long h =
        ap (λ (x : List ℕ). length x) g.held ∙ length-append (laid nodes_of g.done) (replicate (64 * n - length g.done * 64) 0)
        ∙ omega (arith, laid_length nodes_of g.done, length-replicate {A = ℕ} (64 * n - length g.done * 64) 0, g.long)

    pub trees_done : n ≤ k → k ≤ n → (At place ≡ as_end (many n huffman_tree p at)) × TreesFilled (many n huffman_tree p at) nodes
    trees_done h l =
        let y : 64 * n - length g.done * 64 ≡ 0 = omega (arith, g.long) in
        let e : many n huffman_tree p at ≡ got g.done place = g.goes ∙ times_all huffman_tree p place n k g.done h in
        rw e (refl, g.held ∙ rw (y, append-nil))

    pub trees_loaded_all : n ≤ k → k ≤ n → (At place ≡ as_end (told false (many n huffman_tree p at))) × TreesFilled (many n huffman_tree p at) nodes
    trees_loaded_all h l = let d = trees_done h l in (at_told (many n huffman_tree p at) d.0, d.1)
      where
        at_told : (o : Outcome (List Tree)) → At place ≡ as_end o → At place ≡ as_end (told false o)
        at_told (got a e) h = h
        at_told (refused k e) h = let z : ◌≡◌ {A = ℕ} 0 1 = cc in absurd (omega arith)

    -- the next m of them are still zeros
    pub trees_free : (m : ℕ) → k + m ≤ n → (w : ℕ) → w ≡ m * 64 → mid_of (k * 64) w nodes ≡ replicate (m * 64) 0
    trees_free m h w z =
        ap (λ (x : ℕ). mid_of (k * 64) x nodes) z ∙ ap (λ (x : ℕ). mid_of (x * 64) (m * 64) nodes) (sym g.long) ∙ free_parts nodes_of (64 * n) g.done nodes g.held (m * 64) (omega (arith, g.long, h))

    module _ (h : k < n) (w : ℕ) (z : w ≡ 64) (new : List ℕ) where
      trees_none : {j d : ℕ} → huffman_tree p place ≡ refused j d → many n huffman_tree p at ≡ refused j d
      trees_none r = g.goes ∙ times_refused huffman_tree p place n k g.done h r

      trees_one : (x : Tree) {d : ℕ} → huffman_tree p place ≡ got x d → new ≡ nodes_of x → Trees n p at d (k + 1) (put_mid (k * 64) w nodes new)
      trees_one x {d} o f =
          let l = g.long in
          let t : put_mid (length g.done * 64) 64 nodes new ≡ laid nodes_of (g.done ++ x ∷ []) ++ replicate (64 * n - length (g.done ++ x ∷ []) * 64) 0 =
          put_more nodes_of (64 * n) g.done nodes g.held (omega arith) x new (f ∙ sym (proper_padded (read_proper p place o))) in
          record {
            done = g.done ++ x ∷ [];
            long = length-append g.done (x ∷ []) ∙ omega arith;
            held = ap (λ (x : ℕ). put_mid (k * 64) x nodes new) z ∙ ap (λ (x : ℕ). put_mid (x * 64) 64 nodes new) (sym l) ∙ t;
            goes = g.goes ∙ times_got huffman_tree p place n k g.done h o;
          }

      module _ {r : End} (a : r ≡ as_end (huffman_tree p place)) (f : new ≡ nodes_after (mid_of (k * 64) w nodes) (huffman_tree p place)) where
        pub trees_refused : {j d : ℕ} → r ≡ Refused j d → (Refused j d ≡ as_end (many n huffman_tree p at)) × TreesFilled (many n huffman_tree p at) (put_mid (k * 64) w nodes new)
        trees_refused q = rw (trees_none (tree_refused (huffman_tree p place) (mid_of (k * 64) w nodes) new a f q).0) (refl, tt)

        pub trees_more : {d : ℕ} → r ≡ At d → Trees n p at d (k + 1) (put_mid (k * 64) w nodes new)
        trees_more q = let o = tree_next (huffman_tree p place) (mid_of (k * 64) w nodes) new a f q in trees_one o.0 o.1 o.2

      -- by the number of leaves
      module _ (m : ℕ) (a : m ≡ leaves_of (huffman_tree p place)) where
        pub trees_unloaded : m ≡ 0 → (Refused 8 0 ≡ as_end (told false (many n huffman_tree p at))) × TreesFilled (many n huffman_tree p at) (put_mid (k * 64) w nodes new)
        trees_unloaded y = let o = loaded_none (huffman_tree p place) m a y in rw (trees_none o.2) (refl, tt)

        pub trees_loaded : (m ≡ 0 → ⊥) → place ≤ bits p → IfGot (λ t. new ≡ nodes_of t) (huffman_tree p place)
            → (place + 7 * m - 1 ≤ bits p) × Trees n p at (place + 7 * m - 1) (k + 1) (put_mid (k * 64) w nodes new)
        trees_loaded y b f = let o = loaded_next p place m new a y f in ((huffman_lawful.moves p place o.0 _ b o.1).1, trees_one o.0 o.1 o.2)

        pub few_leaves : m ≤ 32
        few_leaves = go (huffman_tree p place) refl a
          where
            go : (o : Outcome Tree) → huffman_tree p place ≡ o → m ≡ leaves_of o → m ≤ 32
            go (got t e) r x = omega (arith, x, (read_proper p place r).few)
            go (refused k e) r x = omega (arith, x)

    -- two of them
    module _ (h : k + 2 ≤ n) (w : ℕ) (z : w ≡ 128) (new : List ℕ) {r : End} (a : r ≡ as_end (told false (many 2 huffman_tree p place))) where
      pub pair_refused : {j d : ℕ} → r ≡ Refused j d → (Refused j d ≡ as_end (told false (many n huffman_tree p at))) × TreesFilled (many n huffman_tree p at) (put_mid (k * 64) w nodes new)
      pair_refused {j} {d} q = let o = told_none (many 2 huffman_tree p place) a q in go (huffman_tree p place) refl o.0 o.1 o.2 o.3
        where
          none : (l f : ℕ) → many n huffman_tree p at ≡ refused l f → Refused j d ≡ Refused 8 0 → (Refused j d ≡ as_end (told false (many n huffman_tree p at))) × TreesFilled (many n huffman_tree p at) (put_mid (k * 64) w nodes new)
          none l f e y = rw e (y, tt)

          later : (x : Tree) (b : ℕ) → huffman_tree p place ≡ got x b → (o : Outcome Tree) → huffman_tree p b ≡ o → (l f : ℕ) → many 2 huffman_tree p place ≡ refused l f → Refused j d ≡ Refused 8 0
              → (Refused j d ≡ as_end (told false (many n huffman_tree p at))) × TreesFilled (many n huffman_tree p at) (put_mid (k * 64) w nodes new)
          later x b u (refused c s) v l f e y = none c s (g.goes ∙ (times_got huffman_tree p place n k g.done (omega arith) u ∙ times_refused huffman_tree p b n (k + 1) (g.done ++ x ∷ []) (omega arith) v)) y
          later x b u (got t s) v l f e y =
              let i = two_read p place u v in
              let z : ◌≡◌ {A = ℕ} 0 1 = cc in absurd (omega arith)

          go : (o : Outcome Tree) → huffman_tree p place ≡ o → (l f : ℕ) → many 2 huffman_tree p place ≡ refused l f → Refused j d ≡ Refused 8 0
              → (Refused j d ≡ as_end (told false (many n huffman_tree p at))) × TreesFilled (many n huffman_tree p at) (put_mid (k * 64) w nodes new)
          go (refused c s) u l f e y = none c s (g.goes ∙ times_refused huffman_tree p place n k g.done (omega arith) u) y
          go (got x b) u l f e y = later x b u (huffman_tree p b) refl l f e y

      pub pair_more : {d : ℕ} → r ≡ At d → place ≤ bits p → TreesFilled (many 2 huffman_tree p place) new → (d ≤ bits p) × Trees n p at d (k + 2) (put_mid (k * 64) w nodes new)
      pair_more {d} q b f =
          let o = told_got (many 2 huffman_tree p place) a q in
          let t = two_got p place o.0 d o.1 in
          let m = (huffman_lawful.moves p place t.first t.between b t.here).1 in
          let e : new ≡ laid nodes_of o.0 = rw o.1 at f in
          let c : 2 ≡ length o.0 = sym (ap length t.both) in
          let x : k + 1 + 1 ≡ k + 2 = omega arith in
          let y : (g.done ++ t.first ∷ []) ++ t.second ∷ [] ≡ g.done ++ o.0 = append_assoc g.done (t.first ∷ []) (t.second ∷ []) ∙ ap (λ (s : List Tree). g.done ++ s) (sym t.both) in (
            (huffman_lawful.moves p t.between t.second d m t.behind).1,
            record {
              done = g.done ++ o.0;
              long = length-append g.done o.0 ∙ omega (arith, g.long, c);
              held = ap (λ (x : ℕ). put_mid (x * 64) w nodes new) (sym g.long) ∙ put_all nodes_of (64 * n) g.done nodes g.held o.0 new w (omega (arith, z, c)) (omega (arith, g.long, h, z)) e;
              goes =
                  g.goes
                  ∙ (times_got huffman_tree p place n k g.done (omega arith) t.here
                  ∙ (times_got huffman_tree p t.between n (k + 1) (g.done ++ t.first ∷ []) (omega arith) t.behind
                  ∙ (ap (λ (s : ℕ). times (n - s) huffman_tree ((g.done ++ t.first ∷ []) ++ t.second ∷ []) p d) x ∙ ap (λ (s : List Tree). times (n - (k + 2)) huffman_tree s p d) y)));
            },
          )

-- two trees that were read at once
pub pair_laid : (p : List ℕ) (at : ℕ) (nodes : List ℕ) → Pair p at nodes → (At (at + 446) ≡ as_end (told false (many 2 huffman_tree p at))) × TreesFilled (many 2 huffman_tree p at) nodes
unfolding laid
pair_laid p at nodes g =
    let e = two_read p at g.here g.behind in
    let a = proper_padded (read_proper p at g.here) in
    let b = proper_padded (read_proper p (at + 223) g.behind) in
    rw e (refl, g.laid ∙ sym (ap₂ (λ (x y : List ℕ). x ++ (y ++ [])) a b ∙ ap (λ (x : List ℕ). nodes_of g.first ++ x) (append-nil (nodes_of g.second))))

-- the one reader of trees, and the other
pub told_by : (b : Bool) (w : Bool) (o : Outcome (List Tree)) {r : End} → b ≡ w → r ≡ as_end (told w o) → r ≡ as_end (told b o)
told_by b w o h a = rw h a
