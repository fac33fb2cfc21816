-- How the sets of quant ranges go, by what their fields are. Assumes nothing.
use Prim.Native.Nat.{ℕ, zero, suc, ◌+◌, ◌-◌, ◌*◌, ◌≤◌, ◌<◌}
use native.Mathlib.Omega.{arith}
use native.Mathlib.Numerals.{add-one}
use mathlib.Core.Path.{◌≡◌, refl, sym, ap, ap₂, ◌∙◌}
use mathlib.Core.List.{List, [], ◌∷◌, ◌++◌, append-nil}
use mathlib.Core.Bool.{Bool, true, false}
use lib.Dec.{eqb, ltb, leb}
use lib.ListN.{length, get_or, take, drop, set, replicate, length-append, length-set, length-drop, length-replicate}
use lib.Seq.{take-suc-set, drop-set-lt, drop-drop, length-take-le, paste}
use borrow.Author.Tests.{ltb-false, eqb-false, le-leb, lt-leb, ne_eqb}
use borrow.Rule.Slice.PartMut.{mid_of, put_mid}
use Rattle.bitstream.specs.Reading.{Outcome, got, refused, after, pure, bind, pick, choose, field, until}
use Rattle.bitstream.proofs.Fields.{no_mix, field_value}
use Rattle.bitstream.proofs.Laws.{bind_got}
use Rattle.quantization.specs.Parameters.{Ranges, Begun, with_range, range, new_set, none, set_from, more_sets}
use Rattle.set_fields.specs.Fields.{index, range_size, origin}
use Rattle.quantization.specs.Layout.{over, laid}
use Rattle.quantization.specs.Answer.{SetFilled, Held, HeldMore, SetAnswer, SetsHeld}
use Rattle.bitstream.specs.Answer.{as_end}
use Rattle.bitstream.specs.declared.End.{End}
use Rattle.bitstream.specs.declared.End.TheVariants.{Refused, At}
use Rattle.bitstream.proofs.Ends.{end_refused, end_at}
use Rattle.quantization.proofs.Layouts.{laid_length, over_zeros, over_parts, free_part, put_more, paste_more}
use Rattle.set_fields.proofs.Fields.{size_le}

pub one_le : (k : ℕ) → (k ≡ 0 → ⊥) → 1 ≤ k
one_le zero h = absurd (h refl)
one_le (suc k) h = omega arith

-- a set comes from one that is there, and a new one took one bit at most to say so
pub record Origin (k i back e : ℕ) : Type 0 where
  pub there : back ≤ k
  pub ends : e ≤ i + 2
  pub new_ends : back ≡ 0 → e ≤ i + 1

pub origin_is : (k : ℕ) (p : List ℕ) (i : ℕ) {back e : ℕ} → origin k p i ≡ got back e → Origin k i back e
unfolding origin
origin_is k p i {back} {e} r = first (eqb k 0) refl r
  where
    copied : (d : ℕ) → 1 ≤ back → back ≤ k → d ≡ e → d ≤ i + 2 → Origin k i back e
    copied d a b c h = record { there = b; ends = omega arith; new_ends = λ z. absurd (omega arith) }

    new : (d : ℕ) → 0 ≡ back → d ≡ e → d ≤ i + 1 → Origin k i back e
    new d a c h = record { there = omega arith; ends = omega arith; new_ends = λ z. omega arith }

    fourth : (d : ℕ) (t : Bool) → 3 ≤ k → d ≤ i + 2 → pure (choose t 3 1) p d ≡ got back e → Origin k i back e
    fourth d true h l r = let z : 3 ≡ back = cc in copied d (omega arith) (omega arith) (cc) l
    fourth d false h l r = let z : 1 ≡ back = cc in copied d (omega arith) (omega arith) (cc) l

    third : (d : ℕ) (t : Bool) → ltb k 3 ≡ t → (k ≡ 0 → ⊥) → d ≡ i + 1 → pick t (pure 1) (bind (field 1) (λ rpqr. pure (choose (eqb rpqr 1) 3 1))) p d ≡ got back e → Origin k i back e
    third d true t h l r = let z : 1 ≡ back = cc in copied d (omega arith) (omega (arith, one_le k h)) (cc) (omega arith)
    third d false t h l r =
        let u = bind_got (field 1) (λ rpqr. pure (choose (eqb rpqr 1) 3 1)) p d r in
        fourth u.1 (eqb u.0 1) (ltb-false _ _ t) (omega (arith, (field_value 1 p d u.2).1)) u.3

    second : (d : ℕ) (t : Bool) → (k ≡ 0 → ⊥) → d ≡ i + 1 → pick t (pure 0) (pick (ltb k 3) (pure 1) (bind (field 1) (λ rpqr. pure (choose (eqb rpqr 1) 3 1)))) p d ≡ got back e → Origin k i back e
    second d true h l r = let z : 0 ≡ back = cc in new d z (cc) (omega arith)
    second d false h l r = third d (ltb k 3) refl h l r

    first : (t : Bool) → eqb k 0 ≡ t
        → pick t (pure 0) (bind (field 1) (λ newqr. pick (eqb newqr 1) (pure 0) (pick (ltb k 3) (pure 1) (bind (field 1) (λ rpqr. pure (choose (eqb rpqr 1) 3 1)))))) p i ≡ got back e → Origin k i back e
    first true t r = let z : 0 ≡ back = cc in new i z (cc) (omega arith)
    first false t r =
        let u = bind_got (field 1) (λ newqr. pick (eqb newqr 1) (pure 0) (pick (ltb k 3) (pure 1) (bind (field 1) (λ rpqr. pure (choose (eqb rpqr 1) 3 1))))) p i r in
        second u.1 (eqb u.0 1) (eqb-false _ _ t) (field_value 1 p i u.2).1 u.3

-- ---- a new set, in a loop: the sizes and the indices so far are those at the front of two slices
abbrev ended : Begun → Bool
ended s = leb 63 s.reached

abbrev ranges : Begun → Ranges
ranges s = record { sizes = s.sizes; indices = s.indices }

until_stop : (n : ℕ) (p : List ℕ) (i fuel : ℕ) (s : Begun) → ended s ≡ true → until ended (range n) 7 fuel s p i ≡ got s i
unfolding until
until_stop n p i zero s h = rw h
until_stop n p i (suc fuel) s h = rw h

until_go : (n : ℕ) (p : List ℕ) (i fuel : ℕ) (s : Begun) → ended s ≡ false → until ended (range n) 7 (suc fuel) s p i ≡ after (range n s p i) (λ t e. until ended (range n) 7 fuel t p e)
unfolding until
until_go n p i fuel s h = rw h

range_size_law : (n : ℕ) (s : Begun) (p : List ℕ) (i : ℕ) {k e : ℕ} → range_size s.reached p i ≡ refused k e → range n s p i ≡ refused k e
unfolding range
range_size_law n s p i f = rw f

range_index : (n : ℕ) (s : Begun) (p : List ℕ) (i : ℕ) {v e k d : ℕ} → range_size s.reached p i ≡ got v e → index n p e ≡ refused k d → range n s p i ≡ refused k d
unfolding range
range_index n s p i f g = rw (f, g)

range_got : (n : ℕ) (s : Begun) (p : List ℕ) (i : ℕ) {v e b d : ℕ} → range_size s.reached p i ≡ got v e → index n p e ≡ got b d → range n s p i ≡ got (with_range s v b) d
unfolding range
range_got n s p i f g = rw (f, g)

drop_more : (k : ℕ) (l m : List ℕ) → drop k l ≡ drop k m → drop (k + 1) l ≡ drop (k + 1) m
drop_more k l m h = sym (drop-drop 1 k l) ∙ ap (λ (x : List ℕ). drop 1 x) h ∙ drop-drop 1 k m

-- the state that the loop's variables stand for
abbrev begun : (reached k : ℕ) (sizes indices : List ℕ) → Begun
begun reached k sizes indices = record { reached = reached; sizes = take k sizes; indices = take (k + 1) indices }

abbrev finish : Outcome Begun → Outcome Ranges
finish o = after o (λ s e. got (ranges s) e)

pub record Reading (n : ℕ) (p : List ℕ) (at : ℕ) (sizes₀ indices₀ : List ℕ) (place reached k : ℕ) (sizes indices : List ℕ) : Type 0 where
  pub fuel : ℕ
  pub enough : 63 ≤ reached + fuel
  pub few : k ≤ reached
  pub low : reached ≤ 63
  pub long : (length sizes ≡ 64) × (length indices ≡ 64) × (length sizes₀ ≡ 64) × (length indices₀ ≡ 64)
  pub sizes_behind : drop k sizes ≡ drop k sizes₀
  pub indices_behind : drop (k + 1) indices ≡ drop (k + 1) indices₀
  pub goes : new_set n p at ≡ finish (until ended (range n) 7 fuel (begun reached k sizes indices) p place)

module _ (n : ℕ) (p : List ℕ) (at : ℕ) (sizes₀ indices₀ : List ℕ) where
  pub new_bad : {k e : ℕ} → index n p at ≡ refused k e → new_set n p at ≡ refused k e
  unfolding new_set
  new_bad f = rw f

  pub reading_start : {b e : ℕ} → index n p at ≡ got b e → length sizes₀ ≡ 64 → length indices₀ ≡ 64 → Reading n p at sizes₀ (set indices₀ 0 b) e 0 0 sizes₀ (set indices₀ 0 b)
  unfolding new_set
  reading_start {b} {e} f ls li =
      record {
        fuel = 63;
        enough = omega arith;
        few = omega arith;
        low = omega arith;
        long = (ls, length-set indices₀ 0 b ∙ li, ls, length-set indices₀ 0 b ∙ li);
        sizes_behind = refl;
        indices_behind = refl;
        goes = rw (f, take-suc-set indices₀ 0 b (omega arith));
      }

  module _ (place reached k : ℕ) (sizes indices : List ℕ) (g : Reading n p at sizes₀ indices₀ place reached k sizes indices) where
    -- the set is whole: the slice of indices was `old` before its first element was written
    pub reading_done : 63 ≤ reached → (old : List ℕ) (b : ℕ) → indices₀ ≡ set old 0 b → (At place ≡ as_end (new_set n p at)) × SetFilled (new_set n p at) sizes₀ sizes old indices
    reading_done h old b q =
        let e : new_set n p at ≡ got (ranges (begun reached k sizes indices)) place = g.goes ∙ ap finish (until_stop n p place g.fuel (begun reached k sizes indices) (le-leb 63 reached h)) in
        let l = g.long in
        let d : drop (k + 1) indices ≡ drop (k + 1) old = g.indices_behind ∙ ap (λ (x : List ℕ). drop (k + 1) x) q ∙ drop-set-lt (k + 1) old 0 b (omega arith) in
        rw e (refl, (over_parts sizes sizes₀ k (omega (arith, g.few, g.low)) g.sizes_behind, over_parts indices old (k + 1) (omega (arith, g.few, g.low)) d))

    module _ (h : reached < 63) where
      step : (f : ℕ) × (63 ≤ reached + suc f)
          × (new_set n p at ≡ finish (after (range n (begun reached k sizes indices) p place) (λ t e. until ended (range n) 7 f t p e)))
      step = go g.fuel g.enough g.goes
        where
          go : (f : ℕ) → 63 ≤ reached + f → new_set n p at ≡ finish (until ended (range n) 7 f (begun reached k sizes indices) p place)
              → (f : ℕ) × (63 ≤ reached + suc f) × (new_set n p at ≡ finish (after (range n (begun reached k sizes indices) p place) (λ t e. until ended (range n) 7 f t p e)))
          go zero l e = absurd (omega arith)
          go (suc f) l e = (f, l, e ∙ ap finish (until_go n p place f (begun reached k sizes indices) (lt-leb 63 reached h)))

      pub reading_size : {j e : ℕ} → range_size reached p place ≡ refused j e → new_set n p at ≡ refused j e
      reading_size f = let s = step in s.2 ∙ rw (range_size_law n (begun reached k sizes indices) p place f)

      module _ {v e : ℕ} (f : range_size reached p place ≡ got v e) where
        pub reading_index : {j d : ℕ} → index n p e ≡ refused j d → new_set n p at ≡ refused j d
        reading_index r = let s = step in s.2 ∙ rw (range_index n (begun reached k sizes indices) p place f r)

        pub reading_more : {b d : ℕ} → index n p e ≡ got b d
            → Reading n p at sizes₀ indices₀ d (reached + (v + 1)) (k + 1) (set sizes k (v + 1)) (set indices (k + 1) b)
        reading_more {b} {d} r =
            let s = step in
            let l = g.long in
            let w = size_le reached p place f in
            let a : k < length sizes = omega (arith, g.few) in
            let c : k + 1 < length indices = omega (arith, g.few) in
            let t : with_range (begun reached k sizes indices) v b ≡ begun (reached + (v + 1)) (k + 1) (set sizes k (v + 1)) (set indices (k + 1) b) =
            ap₂ (λ (x y : List ℕ). record { reached = reached + (v + 1); sizes = x; indices = y })
            (sym (rw (add-one k) (take-suc-set sizes k (v + 1) a)))
            (sym (rw (add-one (k + 1)) (take-suc-set indices (k + 1) b c))) in
            record {
              fuel = s.0;
              enough = omega (arith, s.1);
              few = omega (arith, g.few);
              low = w;
              long = (length-set sizes k (v + 1) ∙ l.0, length-set indices (k + 1) b ∙ l.1, l.2, l.3);
              sizes_behind = drop-set-lt (k + 1) sizes k (v + 1) (omega arith) ∙ drop_more k sizes sizes₀ g.sizes_behind;
              indices_behind = drop-set-lt (k + 1 + 1) indices (k + 1) b (omega arith) ∙ drop_more (k + 1) indices indices₀ g.indices_behind;
              goes = s.2 ∙ ap (λ (o : Outcome Begun). finish (after o (λ t e. until ended (range n) 7 s.0 t p e))) (range_got n (begun reached k sizes indices) p place f r ∙ ap (λ (x : Begun). got x d) t);
            }

pub set_refused : (o : Outcome Ranges) (sizes sizes' indices indices' : List ℕ) {r : End} {k e : ℕ} → r ≡ Refused k e → o ≡ refused k e → (r ≡ as_end o) × SetFilled o sizes sizes' indices indices'
set_refused o sizes sizes' indices indices' q h = rw h (q, tt)

-- ---- one set in its place
set_filled : (o : Outcome Ranges) (sizes sizes' indices indices' : List ℕ) {r : Ranges} {e : ℕ} → SetFilled o sizes sizes' indices indices' → o ≡ got r e
    → (sizes' ≡ over r.sizes sizes) × (indices' ≡ over r.indices indices)
set_filled (got x d) sizes sizes' indices indices' {r} f h = let z : x ≡ r = cc in rw (← z) f
set_filled (refused k d) sizes sizes' indices indices' f h = no_mix (sym h)

module _ (n : ℕ) (done : List Ranges) (p : List ℕ) (i : ℕ) where
  set_new : set_from n done 0 p i ≡ new_set n p i
  unfolding set_from
  set_new = refl

  set_copy : (back : ℕ) → (back ≡ 0 → ⊥) → set_from n done back p i ≡ got (get_or done (length done - back) none) i
  unfolding set_from
  set_copy back h = rw (ne_eqb _ _ h)

  module _ (sizes indices : List ℕ) (held : Held done sizes indices) (room : length done < 6) where
    -- a new one, through the parts that a callee was lent
    pub new_held : (s' i' : List ℕ) {r : End} → r ≡ as_end (new_set n p i)
        → SetFilled (new_set n p i) (mid_of (length done * 64) 64 sizes) s' (mid_of (length done * 64) 64 indices) i'
        → length s' ≡ 64 → length i' ≡ 64
        → (r ≡ as_end (set_from n done 0 p i)) × HeldMore done (set_from n done 0 p i) (put_mid (length done * 64) 64 sizes s') (put_mid (length done * 64) 64 indices i')
    new_held s' i' {r} a f ls li = (a ∙ sym (ap as_end set_new), go (new_set n p i) refl)
      where
        go : (o : Outcome Ranges) → new_set n p i ≡ o → HeldMore done (set_from n done 0 p i) (put_mid (length done * 64) 64 sizes s') (put_mid (length done * 64) 64 indices i')
        go (got x d) e =
            let g = set_filled (new_set n p i) _ s' _ i' f e in
            let zs = free_part (λ r. r.sizes) 384 done sizes held.sizes_are (omega arith) in
            let zi = free_part (λ r. r.indices) 384 done indices held.indices_are (omega arith) in
            let us : s' ≡ over x.sizes (replicate 64 0) = g.0 ∙ ap (over x.sizes) zs in
            let ui : i' ≡ over x.indices (replicate 64 0) = g.1 ∙ ap (over x.indices) zi in
            rw (set_new ∙ e)
            (record {
              sizes_are = put_more (λ r. r.sizes) 384 done sizes held.sizes_are (omega arith) x s' (us ∙ over_zeros x.sizes (ap (λ (l : List ℕ). length l) (sym us) ∙ ls));
              indices_are = put_more (λ r. r.indices) 384 done indices held.indices_are (omega arith) x i' (ui ∙ over_zeros x.indices (ap (λ (l : List ℕ). length l) (sym ui) ∙ li));
            })
        go (refused k d) e = rw (set_new ∙ e) tt

    -- a copy
    pub copy_held : (back : ℕ) → (back ≡ 0 → ⊥) → back ≤ length done → (s' i' : List ℕ)
        → s' ≡ paste sizes (length done * 64) (drop ((length done - back) * 64) sizes) 64
        → i' ≡ paste indices (length done * 64) (drop ((length done - back) * 64) indices) 64
        → (At i ≡ as_end (set_from n done back p i)) × HeldMore done (set_from n done back p i) s' i'
    copy_held back h l s' i' es ei =
        let j : length done - back < length done = omega (arith, one_le back h) in
        rw (set_copy back h) (
          refl,
          record {
            sizes_are = es ∙ paste_more (λ r. r.sizes) 384 done sizes held.sizes_are (omega arith) (length done - back) none j;
            indices_are = ei ∙ paste_more (λ r. r.indices) 384 done indices held.indices_are (omega arith) (length done - back) none j;
          },
        )

-- the answer to one set more: new, in the parts of two slices that were lent, or a copy
module _ (n : ℕ) (p : List ℕ) (i k : ℕ) (sizes indices : List ℕ) (room : k < 6) (back : ℕ) where
  pub new_answer : (w : ℕ) → w ≡ 64 → length sizes ≡ 384 → length indices ≡ 384 → back ≡ 0 → (s' i' : List ℕ) {r : End} → r ≡ as_end (new_set n p i)
      → SetFilled (new_set n p i) (mid_of (k * 64) w sizes) s' (mid_of (k * 64) w indices) i'
      → length s' ≡ length (mid_of (k * 64) w sizes) → length i' ≡ length (mid_of (k * 64) w indices)
      → SetAnswer n p i k back sizes (put_mid (k * 64) w sizes s') indices (put_mid (k * 64) w indices i') r
  new_answer w z ls li b s' i' {r} a f es ei done l held =
      let t : length (mid_of (k * 64) w sizes) ≡ 64 = part sizes ls in
      let u : length (mid_of (k * 64) w indices) ≡ 64 = part indices li in
      rw (b, z, ← l) (new_held n done p i sizes indices held (omega arith) s' i' a (rw (z, ← l) at f) (es ∙ t) (ei ∙ u))
    where
      part : (s : List ℕ) → length s ≡ 384 → length (mid_of (k * 64) w s) ≡ 64
      part s q = length-take-le w (drop (k * 64) s) (omega (arith, length-drop (k * 64) s)) ∙ z

  pub copy_answer : (back ≡ 0 → ⊥) → back ≤ k → (s' i' : List ℕ)
      → s' ≡ paste sizes (k * 64) (drop (k * 64 - back * 64) sizes) 64
      → i' ≡ paste indices (k * 64) (drop (k * 64 - back * 64) indices) 64
      → SetAnswer n p i k back sizes s' indices i' (At i)
  copy_answer b m s' i' es ei done l held =
      let z : k * 64 - back * 64 ≡ (length done - back) * 64 = omega arith in
      copy_held n done p i sizes indices held (omega arith) back b (omega arith) s' i' (es ∙ rw (z, ← l)) (ei ∙ rw (z, ← l))

-- ---- six sets, in a loop
pub record Sets (n : ℕ) (p : List ℕ) (at place k : ℕ) (sizes indices : List ℕ) : Type 0 where
  pub done : List Ranges
  pub long : length done ≡ k
  pub held : Held done sizes indices
  pub goes : more_sets 6 n [] p at ≡ more_sets (6 - k) n done p place

sets_first : (j n : ℕ) (done : List Ranges) (p : List ℕ) (i : ℕ) {k e : ℕ} → origin (length done) p i ≡ refused k e → more_sets (suc j) n done p i ≡ refused k e
unfolding more_sets
sets_first j n done p i f = rw f

sets_set : (j n : ℕ) (done : List Ranges) (p : List ℕ) (i : ℕ) {b e k d : ℕ} → origin (length done) p i ≡ got b e → set_from n done b p e ≡ refused k d → more_sets (suc j) n done p i ≡ refused k d
unfolding more_sets
sets_set j n done p i f g = rw (f, g)

sets_next : (j n : ℕ) (done : List Ranges) (p : List ℕ) (i : ℕ) {b e d : ℕ} {r : Ranges} → origin (length done) p i ≡ got b e → set_from n done b p e ≡ got r d
    → more_sets (suc j) n done p i ≡ more_sets j n (done ++ r ∷ []) p d
unfolding more_sets
sets_next j n done p i f g = rw (f, g)

held_more : (done : List Ranges) (o : Outcome Ranges) (sizes indices : List ℕ) {r : Ranges} {e : ℕ} → HeldMore done o sizes indices → o ≡ got r e → Held (done ++ r ∷ []) sizes indices
held_more done (got x d) sizes indices {r} f h = let z : x ≡ r = cc in rw (← z) f
held_more done (refused k d) sizes indices f h = no_mix (sym h)

held_long : (f : Ranges → List ℕ) (done : List Ranges) (s : List ℕ) → s ≡ laid f done ++ replicate (384 - length done * 64) 0 → length done ≤ 6 → length s ≡ 384
held_long f done s h l = ap (λ (x : List ℕ). length x) h ∙ length-append (laid f done) (replicate (384 - length done * 64) 0) ∙ omega (arith, laid_length f done, length-replicate {A = ℕ} (384 - length done * 64) 0)

module _ (n : ℕ) (p : List ℕ) (at : ℕ) where
  pub sets_start : (sizes indices : List ℕ) → sizes ≡ replicate 384 0 → indices ≡ replicate 384 0 → Sets n p at at 0 sizes indices
  unfolding laid
  sets_start sizes indices s i = record { done = []; long = refl; held = record { sizes_are = s; indices_are = i }; goes = refl }

  module _ (place k : ℕ) (sizes indices : List ℕ) (g : Sets n p at place k sizes indices) where
    pub sets_long : k ≤ 6 → (length sizes ≡ 384) × (length indices ≡ 384)
    sets_long h = (held_long (λ r. r.sizes) g.done sizes g.held.sizes_are (omega (arith, g.long)), held_long (λ r. r.indices) g.done indices g.held.indices_are (omega (arith, g.long)))

    pub sets_done : 6 ≤ k → k ≤ 6 → (At place ≡ as_end (more_sets 6 n [] p at)) × SetsHeld (more_sets 6 n [] p at) sizes indices
    unfolding more_sets
    sets_done h l =
        let z : 6 - k ≡ 0 = omega arith in
        let y : 384 - length g.done * 64 ≡ 0 = omega (arith, g.long) in
        let e : more_sets 6 n [] p at ≡ got g.done place = g.goes ∙ rw z in
        rw e
        (refl, (g.held.sizes_are ∙ rw (y, append-nil), g.held.indices_are ∙ rw (y, append-nil)))

    module _ (h : k < 6) where
      more : 6 - k ≡ suc (6 - (k + 1))
      more = omega arith

      pub sets_origin : {j e : ℕ} → origin k p place ≡ refused j e → more_sets 6 n [] p at ≡ refused j e
      sets_origin f = g.goes ∙ rw more (sets_first (6 - (k + 1)) n g.done p place (rw g.long f))

      module _ {b e : ℕ} (f : origin k p place ≡ got b e) (s' i' : List ℕ) {r : End} (a : SetAnswer n p e k b sizes s' indices i' r) where
        f' : origin (length g.done) p place ≡ got b e
        f' = rw g.long f

        pub sets_refused : {j d : ℕ} → r ≡ Refused j d → more_sets 6 n [] p at ≡ refused j d
        sets_refused q = g.goes ∙ rw more (sets_set (6 - (k + 1)) n g.done p place f' (end_refused (set_from n g.done b p e) (a g.done g.long g.held).0 q))

        pub sets_more : {d : ℕ} → r ≡ At d → Sets n p at d (k + 1) s' i'
        sets_more {d} q =
            let w = a g.done g.long g.held in
            let o = end_at (set_from n g.done b p e) w.0 q in
            record {
              done = g.done ++ o.0 ∷ [];
              long = length-append g.done (o.0 ∷ []) ∙ omega (arith, g.long);
              held = held_more g.done (set_from n g.done b p e) s' i' w.1 o.1;
              goes = g.goes ∙ rw more (sets_next (6 - (k + 1)) n g.done p place f' o.1);
            }

pub sets_bad : (o : Outcome (List Ranges)) (sizes indices : List ℕ) {r : End} {k e : ℕ} → r ≡ Refused k e → o ≡ refused k e → (r ≡ as_end o) × SetsHeld o sizes indices
sets_bad o sizes indices q h = rw h (q, tt)
