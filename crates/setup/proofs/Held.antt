-- What a loaded setup holds. Assumes nothing.
use Prim.Native.Nat.{ℕ, zero, suc, ◌^◌, ◌≤◌, ◌<◌}
use native.Mathlib.Nat.{pow-le-pow_right}
use native.Mathlib.Omega.{arith}
use mathlib.Core.Path.{◌≡◌, refl, sym, ap, ◌∙◌, subst}
use mathlib.Core.List.{List, [], ◌∷◌}
use mathlib.Core.Bool.{Bool, true, false, ◌&&◌}
use lib.Dec.{eqb}
use lib.ListN.{length, get_or}
use Rattle.bitstream.specs.Reading.{Outcome, got, refused, Parse, pure, bind, choose, field, many}
use Rattle.bitstream.proofs.Fields.{no_mix, field_lt}
use Rattle.bitstream.proofs.Laws.{bind_got}
use Rattle.headers.specs.Judgement.{common_header}
use Rattle.huffman.specs.Tree.{Tree, leaf, Proper, nodes_of, huffman_tree}
use Rattle.huffman.proofs.Trees.{read_proper}
use Rattle.quantization.specs.Layout.{laid}
use Rattle.bitstream.specs.Answer.{as_end}
use Rattle.bitstream.specs.declared.End.TheVariants.{Refused, At}
use Rattle.quantization.specs.Parameters.{Quantization, quantization}
use Rattle.quantization.specs.Sound as parameters
use Rattle.quantization.proofs.Soundness.{read_holds, many_long}
use Rattle.setup.specs.Header.{Setup, loop_limits, setup_header}
use Rattle.setup.specs.Loaded.{loaded_setup, Holds, as_setup_read}
use Rattle.setup.specs.declared.LoadedSetup.{LoadedSetup}
use Rattle.setup.specs.declared.SetupRead.{SetupRead}
use Rattle.setup.specs.Table.{table_bytes, is_table, held_setup}
use Rattle.table_memory.specs.Kept.{clear_from}
use Rattle.table_memory.specs.Genuine.{ends_clear, genuine}

-- ---- every value of a list that was read is one that its parser gives
many_each : {A : Type 0} (P : A → Type 0) (m : Parse A) → ((p : List ℕ) (i : ℕ) (a : A) (e : ℕ) → m p i ≡ got a e → P a)
    → (n : ℕ) (p : List ℕ) (i : ℕ) {l : List A} {e : ℕ} → many n m p i ≡ got l e → (k : ℕ) (d : A) → k < length l → P (get_or l k d)
unfolding many
many_each P m f zero p i {l} h k d r = let z : [] ≡ l = cc in absurd (let y : length l ≡ 0 = ap length (sym z) in omega arith)
many_each P m f (suc n) p i {l} h k d r =
    let u = bind_got m (λ a. bind (many n m) (λ l. pure (a ∷ l))) p i h in
    let w = bind_got (many n m) (λ l. pure (u.0 ∷ l)) p u.1 u.3 in
    let s = w.3 in
    let z : u.0 ∷ w.0 ≡ l = cc in
    rw (← z) (go u.0 w.0 (f p i u.0 u.1 u.2) (λ j v. many_each P m f n p u.1 w.2 j d v) k (omega (arith, ap length z)))
  where
    go : (a : _) (x : List _) → P a → ((j : ℕ) → j < length x → P (get_or x j d)) → (k : ℕ) → k < length (a ∷ x) → P (get_or (a ∷ x) k d)
    go a x pa f zero v = pa
    go a x pa f (suc k) v = f k (omega arith)

-- ---- a setup that was read
record Parts (p : List ℕ) (s : Setup) (e : ℕ) : Type 0 where
  a : ℕ
  b : ℕ
  c : ℕ
  limits_read : loop_limits p a ≡ got s.limits b
  parameters_read : quantization p b ≡ got s.parameters c
  trees_read : many 80 huffman_tree p c ≡ got s.trees e

parts : (p : List ℕ) {s : Setup} {e : ℕ} → setup_header p 0 ≡ got s e → Parts p s e
unfolding setup_header
parts p {s} {e} h =
    let u = bind_got (common_header 0x82) (λ _. bind loop_limits (λ l. bind quantization (λ q. bind (many 80 huffman_tree) (λ ts. pure (record { limits = l; parameters = q; trees = ts }))))) p 0 h in
    let v = bind_got loop_limits (λ l. bind quantization (λ q. bind (many 80 huffman_tree) (λ ts. pure (record { limits = l; parameters = q; trees = ts })))) p u.1 u.3 in
    let w = bind_got quantization (λ q. bind (many 80 huffman_tree) (λ ts. pure (record { limits = v.0; parameters = q; trees = ts }))) p v.1 v.3 in
    let x = bind_got (many 80 huffman_tree) (λ ts. pure (record { limits = v.0; parameters = w.0; trees = ts })) p w.1 w.3 in
    finish v.0 w.0 x.0 u.1 v.1 w.1 x.1 v.2 w.2 x.2 x.3
  where
    finish : (l : List ℕ) (q : Quantization) (ts : List Tree) (a b c d : ℕ) → loop_limits p a ≡ got l b → quantization p b ≡ got q c → many 80 huffman_tree p c ≡ got ts d
        → pure (record { limits = l; parameters = q; trees = ts }) p d ≡ got s e → Parts p s e
    finish l q ts a b c d k f g r =
        let y : Setup = record { limits = l; parameters = q; trees = ts } in
        let z : y ≡ s = cc in
        let t : d ≡ e = cc in
        record {
          a = a;
          b = b;
          c = c;
          limits_read = k ∙ ap (λ (x : Setup). got x.limits b) z;
          parameters_read = f ∙ ap (λ (x : Setup). got x.parameters c) z;
          trees_read = g ∙ rw t (ap (λ (x : Setup). got x.trees e) z);
        }

-- "3-bit width, 64 loop limits of that width"
limits_of : (p : List ℕ) (i : ℕ) {l : List ℕ} {e : ℕ} → loop_limits p i ≡ got l e → (length l ≡ 64) × ((qi : ℕ) → qi < 64 → get_or l qi 0 ≤ 127)
unfolding loop_limits
limits_of p i h =
    let u = bind_got (field 3) (λ w. many 64 (field w)) p i h in
    let w = field_lt 3 p i u.2 in
    let n = many_long 64 (field u.0) p u.1 u.3 in
    let few : 2 ^ u.0 ≤ 128 = pow-le-pow_right {n = 2} (omega arith) {j = 7} (omega arith) in
    (n, λ qi l. many_each (λ v. v ≤ 127) (field u.0) (λ p i v e r. omega (arith, field_lt u.0 p i r)) 64 p u.1 u.3 qi 0 (omega arith))

pub limits_few : (p : List ℕ) {s : Setup} {e : ℕ} → setup_header p 0 ≡ got s e → (length s.limits ≡ 64) × ((qi : ℕ) → qi < 64 → get_or s.limits qi 0 ≤ 127)
limits_few p h = let g = parts p h in limits_of p g.a g.limits_read

-- 80 trees, each of them as `huffmanTree` gives it
pub trees_whole : (p : List ℕ) {s : Setup} {e : ℕ} → setup_header p 0 ≡ got s e → (length s.trees ≡ 80) × ((k : ℕ) → k < 80 → Proper (get_or s.trees k (leaf 0)))
trees_whole p h =
    let g = parts p h in
    let l = many_long 80 huffman_tree p g.c g.trees_read in
    (l, λ k v. many_each Proper huffman_tree (λ p i a e r. read_proper p i r) 80 p g.c g.trees_read k (leaf 0) (omega arith))

-- ---- what a loaded setup holds
module _ (t : List ℕ) (l : LoadedSetup) {s : Setup} (h : Holds t l s) where
  pub held_limits : l.limits ≡ s.limits
  unfolding loaded_setup
  held_limits = ap (λ (x : LoadedSetup). x.limits) h.is

  pub held_few : (qi : ℕ) → qi < 64 → get_or l.limits qi 0 ≤ 127
  held_few = subst (λ (x : List ℕ). (qi : ℕ) → qi < 64 → get_or x qi 0 ≤ 127) (sym held_limits) (limits_few t h.reads).1

  -- its parameters, whose base matrices stand in the memory
  pub held_parameters : parameters.Holds t l.parameters s.parameters
  unfolding loaded_setup
  held_parameters =
      let g = parts t h.reads in
      subst (λ (x : LoadedSetup). parameters.Holds t x.parameters s.parameters) (sym h.is) (read_holds t g.b g.parameters_read)

  pub held_nodes : l.nodes ≡ laid nodes_of s.trees
  unfolding loaded_setup
  held_nodes = ap (λ (x : LoadedSetup). x.nodes) h.is

-- what a table memory holds is what it reads as
pub held_reads : (t : List ℕ) {s : Setup} {e : ℕ} → held_setup t ≡ got s e → setup_header t 0 ≡ got s e
unfolding held_setup
held_reads t {s} {e} h = go (is_table t) h
  where
    go : (b : Bool) → choose b (setup_header t 0) (refused 8 0) ≡ got s e → setup_header t 0 ≡ got s e
    go true r = r
    go false r = no_mix (sym r)

-- a memory that holds no setup is refused by 8, which has no place
pub held_refused : (t : List ℕ) {k e : ℕ} → held_setup t ≡ refused k e → (8 ≡ k) × (0 ≡ e)
unfolding held_setup genuine
held_refused t {k} {e} h = go (eqb (length t) table_bytes) (setup_header t 0) h
  where
    ends : (b : Bool) (s : Setup) (d : ℕ) → choose b (got s d) (refused 8 0) ≡ refused k e → (8 ≡ k) × (0 ≡ e)
    ends true s d r = no_mix r
    ends false s d r = (cc, cc)

    go : (b : Bool) (o : Outcome Setup) → choose (b && ends_clear t o) o (refused 8 0) ≡ refused k e → (8 ≡ k) × (0 ≡ e)
    go false o r = (cc, cc)
    go true (got s d) r = ends (clear_from t d) s d r
    go true (refused j d) r = (cc, cc)

-- ---- what the loader of a table memory answers
pub record HeldIn (o : Outcome Setup) (l : LoadedSetup) : Type 0 where
  pub setup : Setup
  pub end : ℕ
  pub held : o ≡ got setup end
  pub loaded : l ≡ loaded_setup setup

pub held_in : (o : Outcome Setup) {r : SetupRead} {e : ℕ} → r ≡ as_setup_read o → r.place ≡ At e → HeldIn o r.setup
held_in (got s d) a h = record { setup = s; end = d; held = refl; loaded = ap (λ (x : SetupRead). x.setup) a }
held_in (refused k d) a h = let y = ap (λ (x : SetupRead). x.place) a in let z : ◌≡◌ {A = ℕ} 0 1 = cc in absurd (omega arith)

-- a memory that is not genuine is refused by 8 alone
pub held_8 : (t : List ℕ) {r : SetupRead} {k e : ℕ} → r ≡ as_setup_read (held_setup t) → r.place ≡ Refused k e → held_setup t ≡ refused 8 0
unfolding held_setup genuine
held_8 t {r} {k} {e} a n = go (eqb (length t) table_bytes) (setup_header t 0) (sym n ∙ ap (λ (x : SetupRead). x.place) a)
  where
    ends : (b : Bool) (s : Setup) (d : ℕ) → Refused k e ≡ as_end (choose b (got s d) (refused 8 0)) → choose b (got s d) (refused 8 0) ≡ refused 8 0
    ends true s d h = let z : ◌≡◌ {A = ℕ} 0 1 = cc in absurd (omega arith)
    ends false s d h = refl

    go : (b : Bool) (o : Outcome Setup) → Refused k e ≡ as_end (choose (b && ends_clear t o) o (refused 8 0)) → choose (b && ends_clear t o) o (refused 8 0) ≡ refused 8 0
    go false o h = refl
    go true (got s d) h = ends (clear_from t d) s d h
    go true (refused j d) h = refl

-- a genuine one: its setup
module _ (t : List ℕ) {r : SetupRead} {e : ℕ} (a : r ≡ as_setup_read (held_setup t)) (g : r.place ≡ At e) where
  abbrev pub genuine_setup : Setup
  genuine_setup = (held_in (held_setup t) a g).setup

  pub genuine_held : held_setup t ≡ got genuine_setup (held_in (held_setup t) a g).end
  genuine_held = (held_in (held_setup t) a g).held

  pub genuine_holds : Holds t r.setup genuine_setup
  genuine_holds = record { end = _; reads = held_reads t genuine_held; is = (held_in (held_setup t) a g).loaded }
