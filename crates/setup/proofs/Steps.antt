-- How the setup header goes, by what its parts are. Assumes nothing.
use Prim.Native.Nat.{ℕ, ◌≤◌}
use native.Mathlib.Omega.{arith}
use mathlib.Core.Path.{◌≡◌, refl, sym}
use mathlib.Core.List.{List}
use mathlib.Core.Bool.{Bool, true, false}
use Rattle.bitstream.specs.Bits.{bits}
use Rattle.bitstream.specs.Reading.{Outcome, got, refused, field, many}
use Rattle.bitstream.proofs.Fields.{no_mix}
use Rattle.headers.specs.Judgement.{common_header}
use Rattle.headers.proofs.Judged.{common_header_lawful}
use Rattle.bitstream.specs.Answer.{as_end}
use Rattle.bitstream.specs.declared.End.{End}
use Rattle.huffman.specs.Tree.{Tree, huffman_tree}
use Rattle.quantization.specs.Parameters.{Quantization, quantization}
use Rattle.quantization.specs.Answer.{Filled, as_parameters, loaded_parameters}
use Rattle.quantization.specs.Answer as parameters
use Rattle.quantization.specs.declared.Parameters.{Parameters}
use Rattle.quantization.specs.declared.Parameters.TheVariants as parameters-are
use Rattle.quantization.proofs.Laws.{quantization_lawful}
use Rattle.setup.specs.Header.{Setup, loop_limits, setup_header}
use Rattle.setup_trees.specs.Answer.{TreesFilled, told}
use Rattle.setup.specs.Loaded.{loaded_setup, Loaded}
use Rattle.setup.specs.declared.LoadedSetup.{LoadedSetup}
use Rattle.setup.proofs.Laws.{limits_lawful}

-- ---- the loop limits
module _ (p : List ℕ) (i : ℕ) where
  pub limits_end : {k e : ℕ} → field 3 p i ≡ refused k e → loop_limits p i ≡ refused k e
  unfolding loop_limits
  limits_end f = rw f

  pub limits_filled : {v e : ℕ} → field 3 p i ≡ got v e → (n : ℕ) → n ≡ 64 → (r : End) (new : List ℕ)
      → r ≡ as_end (many n (field v) p e) → Filled (many n (field v) p e) new → (r ≡ as_end (loop_limits p i)) × Filled (loop_limits p i) new
  unfolding loop_limits
  limits_filled f n z r new a s = rw (f, ← z) (a, s)

-- ---- what is told of a refusal
pub told_refused : {A B : Type 0} (b : Bool) (o : Outcome A) {n f : ℕ} → told b o ≡ refused n f → (k : ℕ) × (e : ℕ) × (o ≡ refused k e) × (◌≡◌ {A = Outcome B} (told b (refused k e)) (refused n f))
told_refused true (got a d) h = no_mix h
told_refused {A} {B} true (refused k e) {n} {f} h =
    let x : k ≡ n = cc in
    let y : e ≡ f = cc in
    (k, e, refl, λ i. refused (x i) (y i))
told_refused false (got a d) h = no_mix h
told_refused {A} {B} false (refused k e) {n} {f} h =
    let x : 8 ≡ n = cc in
    let y : 0 ≡ f = cc in
    (k, e, refl, λ i. refused (x i) (y i))

pub told_got : {A : Type 0} (b : Bool) (o : Outcome A) {a : A} {e : ℕ} → told b o ≡ got a e → o ≡ got a e
told_got true o h = h
told_got false (got a d) h = h
told_got false (refused k d) h = no_mix (sym h)

-- ---- the whole header
pub parameters_read : (o : Outcome Quantization) {r : Parameters} {m e : ℕ} → r ≡ as_parameters o → r ≡ parameters-are.Read m e → (q : Quantization) × (o ≡ got q e) × (q.matrices_at ≡ m)
parameters_read (got q d) s h = (q, cc, cc)
parameters_read (refused k d) s h = let z : ◌≡◌ {A = ℕ} 0 1 = cc in absurd (omega arith)

pub parameters_refused : (o : Outcome Quantization) {r : Parameters} {k e : ℕ} → r ≡ as_parameters o → r ≡ parameters-are.Refused k e → o ≡ refused k e
parameters_refused (got q d) s h = let z : ◌≡◌ {A = ℕ} 0 1 = cc in absurd (omega arith)
parameters_refused (refused j d) s h = cc

module _ (p : List ℕ) where
  pub header_common : {k e : ℕ} → common_header 0x82 p 0 ≡ refused k e → setup_header p 0 ≡ refused k e
  unfolding setup_header
  header_common f = rw f

  module _ {u : Unit {0}} {a : ℕ} (f : common_header 0x82 p 0 ≡ got u a) where
    pub header_limits : {k e : ℕ} → loop_limits p a ≡ refused k e → setup_header p 0 ≡ refused k e
    unfolding setup_header
    header_limits g = rw (f, g)

    module _ {l : List ℕ} {b : ℕ} (g : loop_limits p a ≡ got l b) where
      pub header_parameters : {k e : ℕ} → quantization p b ≡ refused k e → setup_header p 0 ≡ refused k e
      unfolding setup_header
      header_parameters h = rw (f, g, h)

      module _ {q : Quantization} {c : ℕ} (h : quantization p b ≡ got q c) where
        pub header_trees : {k e : ℕ} → many 80 huffman_tree p c ≡ refused k e → setup_header p 0 ≡ refused k e
        unfolding setup_header
        header_trees m = rw (f, g, h, m)

        pub header_inside : c ≤ bits p
        header_inside =
            let x = ((common_header_lawful 0x82).moves p 0 u a (omega arith) f).1 in
            (quantization_lawful.moves p b q c (limits_lawful.moves p a l b x g).1 h).1

        pub header_got : {ts : List Tree} {e : ℕ} → many 80 huffman_tree p c ≡ got ts e → setup_header p 0 ≡ got (record { limits = l; parameters = q; trees = ts }) e
        unfolding setup_header
        header_got m = rw (f, g, h, m)

        -- where the header ends, or what is told of its refusal, is what reading the trees gives
        pub header_end : (b : Bool) → as_end (told b (many 80 huffman_tree p c)) ≡ as_end (told b (setup_header p 0))
        header_end b = go b (many 80 huffman_tree p c) refl
          where
            go : (b : Bool) (o : Outcome (List Tree)) → many 80 huffman_tree p c ≡ o → as_end (told b o) ≡ as_end (told b (setup_header p 0))
            go true (got ts e) m = rw (header_got m) refl
            go true (refused k e) m = rw (header_trees m) refl
            go false (got ts e) m = rw (header_got m) refl
            go false (refused k e) m = rw (header_trees m) refl

-- the parts that were read, in the struct
parameters_loaded : (o : Outcome Quantization) (ac dc sizes indices : List ℕ) {q : Quantization} {m e : ℕ} → parameters.Loaded o ac dc sizes indices → o ≡ got q e → q.matrices_at ≡ m
    → record { place = m; ac_scale = ac; dc_scale = dc; sizes = sizes; indices = indices } ≡ loaded_parameters q
parameters_loaded (got x d) ac dc sizes indices {q} f h y = let z : x ≡ q = cc in rw (← y, ← z) f
parameters_loaded (refused k d) ac dc sizes indices f h y = no_mix (sym h)

-- beside a refusal nothing is said
pub refused_loaded : {o : Outcome Setup} {k e : ℕ} (l : LoadedSetup) → o ≡ refused k e → Loaded o l
refused_loaded l h = rw h tt

-- the parts in their places are the setup that the header says
module _ (p : List ℕ) {u : Unit {0}} {a : ℕ} (f : common_header 0x82 p 0 ≡ got u a) {l : List ℕ} {b : ℕ} (g : loop_limits p a ≡ got l b)
    {q : Quantization} {c m : ℕ} (h : quantization p b ≡ got q c)
    (limits ac dc sizes indices nodes : List ℕ) (i : limits ≡ l) (s : parameters.Loaded (quantization p b) ac dc sizes indices) (y : q.matrices_at ≡ m)
  where
    pub header_loaded : TreesFilled (many 80 huffman_tree p c) nodes
        → Loaded (setup_header p 0) (record { limits = limits; parameters = record { place = m; ac_scale = ac; dc_scale = dc; sizes = sizes; indices = indices }; nodes = nodes })
    unfolding loaded_setup
    header_loaded t = go (many 80 huffman_tree p c) refl t
      where
        go : (o : Outcome (List Tree)) → many 80 huffman_tree p c ≡ o → TreesFilled o nodes
            → Loaded (setup_header p 0) (record { limits = limits; parameters = record { place = m; ac_scale = ac; dc_scale = dc; sizes = sizes; indices = indices }; nodes = nodes })
        go (got ts e) z n =
            let k = parameters_loaded (quantization p b) ac dc sizes indices s h y in
            rw (header_got p f g h z) (λ j. record { limits = i j; parameters = k j; nodes = n j })
        go (refused k e) z n = rw (header_trees p f g h z) tt
