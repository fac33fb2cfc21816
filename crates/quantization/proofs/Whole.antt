-- How the quantization parameters go as a whole, by what their parts are. Assumes nothing.
use Prim.Native.Nat.{ℕ, ◌+◌, ◌≤◌}
use native.Mathlib.Omega.{arith}
use mathlib.Core.Path.{◌≡◌, refl, sym}
use mathlib.Core.List.{List, []}
use mathlib.Core.Bool.{Bool, true, false}
use lib.Dec.{leb}
use Rattle.bitstream.specs.Bits.{bits}
use Rattle.bitstream.specs.Reading.{Outcome, got, refused, pure, bind, guard, field, judged, many}
use Rattle.bitstream.proofs.Fields.{no_mix, field_value}
use Rattle.bitstream.proofs.Laws.{bind_got}
use Rattle.quantization.specs.Parameters.{Ranges, Quantization, scales, matrix_count, base_matrix, more_sets, quantization}
use Rattle.quantization.specs.Layout.{laid}
use Rattle.quantization.specs.Answer.{SetsHeld, as_parameters, loaded_parameters, Loaded}
use Rattle.quantization.specs.declared.Parameters.TheVariants.{Read, Refused}

-- the count ends within the packet
pub count_ends : (p : List ℕ) (i : ℕ) {n e : ℕ} → matrix_count p i ≡ got n e → e ≤ bits p
unfolding matrix_count judged
count_ends p i {n} {e} h =
    let u = bind_got (judged 9 (λ v. leb (v + 1) 384) 7) (λ v. pure (v + 1)) p i h in
    let w = bind_got (field 9) (λ v. bind (guard (leb (v + 1) 384) 7 i) (λ _. pure v)) p i u.2 in
    let g = field_value 9 p i w.2 in
    let y = u.3 in
    let z : u.1 ≡ e = cc in
    go w.0 w.1 (leb (w.0 + 1) 384) w.3 (omega (arith, g.1, g.2)) z
  where
    go : (v d : ℕ) (t : Bool) {v' d' : ℕ} → bind (guard t 7 i) (λ _. pure v) p d ≡ got v' d' → d ≤ bits p → d' ≡ e → e ≤ bits p
    go v d true {v'} {d'} r l z = let y : d ≡ d' = cc in omega arith
    go v d false r l z = no_mix (sym r)

-- the parameters, by their parts
module _ (p : List ℕ) (i : ℕ) where
  pub quant_ac : {k e : ℕ} → scales p i ≡ refused k e → quantization p i ≡ refused k e
  unfolding quantization
  quant_ac f = rw f

  module _ {x : List ℕ} {a : ℕ} (f : scales p i ≡ got x a) where
    pub quant_dc : {k e : ℕ} → scales p a ≡ refused k e → quantization p i ≡ refused k e
    unfolding quantization
    quant_dc g = rw (f, g)

    module _ {y : List ℕ} {b : ℕ} (g : scales p a ≡ got y b) where
      pub quant_count : {k e : ℕ} → matrix_count p b ≡ refused k e → quantization p i ≡ refused k e
      unfolding quantization
      quant_count h = rw (f, g, h)

      module _ {n c : ℕ} (h : matrix_count p b ≡ got n c) where
        pub quant_matrices : {k e : ℕ} → many n base_matrix p c ≡ refused k e → quantization p i ≡ refused k e
        unfolding quantization
        quant_matrices l = rw (f, g, h, l)

        module _ {ms : List (List ℕ)} {d : ℕ} (l : many n base_matrix p c ≡ got ms d) where
          pub quant_sets : {k e : ℕ} → more_sets 6 n [] p d ≡ refused k e → quantization p i ≡ refused k e
          unfolding quantization
          quant_sets m = rw (f, g, h, l, m)

          pub quant_got : {sets : List Ranges} {e : ℕ} → more_sets 6 n [] p d ≡ got sets e
              → quantization p i ≡ got (record { ac_scale = x; dc_scale = y; matrices_at = c; matrices = ms; sets = sets }) e
          unfolding quantization
          quant_got m = rw (f, g, h, l, m)

-- what is answered and left
pub quant_refused : (o : Outcome Quantization) (ac dc sizes indices : List ℕ) {k e : ℕ} → o ≡ refused k e → (Refused k e ≡ as_parameters o) × Loaded o ac dc sizes indices
quant_refused o ac dc sizes indices h = rw h (refl, tt)

sets_held : (o : Outcome (List Ranges)) (sizes indices : List ℕ) {sets : List Ranges} {e : ℕ} → SetsHeld o sizes indices → o ≡ got sets e
    → (sizes ≡ laid (λ r. r.sizes) sets) × (indices ≡ laid (λ r. r.indices) sets)
sets_held (got x d) sizes indices {sets} f h = let z : x ≡ sets = cc in rw (← z) f
sets_held (refused k d) sizes indices f h = no_mix (sym h)

pub quant_stored : (o : Outcome Quantization) (so : Outcome (List Ranges)) (ac dc sizes indices : List ℕ) {x y : List ℕ} {c e : ℕ} {ms : List (List ℕ)} {sets : List Ranges}
    → o ≡ got (record { ac_scale = x; dc_scale = y; matrices_at = c; matrices = ms; sets = sets }) e → ac ≡ x → dc ≡ y → SetsHeld so sizes indices → so ≡ got sets e
    → (Read c e ≡ as_parameters o) × Loaded o ac dc sizes indices
unfolding loaded_parameters
quant_stored o so ac dc sizes indices {c = c} h a b s m =
    let g = sets_held so sizes indices s m in
    rw h (refl, λ i. record { place = c; ac_scale = a i; dc_scale = b i; sizes = g.0 i; indices = g.1 i })
