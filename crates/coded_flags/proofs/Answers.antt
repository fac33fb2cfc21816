-- The three strings one after the other, and what the answers say of the outcomes. Assumes nothing.
use Prim.Native.Nat.{ℕ, ◌+◌, ◌-◌, ◌*◌, ◌/◌, ◌≤◌}
use native.Mathlib.Omega.{arith}
use mathlib.Core.Path.{◌≡◌, refl, sym, ap, ◌∙◌}
use mathlib.Core.List.{List, ◌++◌}
use lib.ListN.{length, take, drop, length-drop}
use lib.Seq.{take_at, drop_at, length-take-le}
use Rattle.bitstream.specs.Reading.{Outcome, got, refused, pure, bind}
use Rattle.bitstream.proofs.Laws.{bind_got}
use Rattle.runs.proofs.Strings.{string_length}
use Rattle.runs.specs.Runs.{bit_string}
use Rattle.runs.specs.declared.RunCode.TheVariants.{Long, Short}
use Rattle.geometry.specs.declared.PixelFormat.{PixelFormat}
use Rattle.geometry.specs.Sizes.{super_blocks_of}
use Rattle.coded_flags.specs.declared.SuperRead.{SuperRead}
use Rattle.coded_flags.specs.declared.SuperRead.TheVariants.{At, Refused}
use Rattle.coded_flags.specs.Flags.{rest, super_sizes, SuperFlags, super_flags, partly_blocks, spread, inter_flags}
use Rattle.coded_flags.specs.Answer.{as_supers, StoredSupers}

-- ---- the strings of super blocks
module _ (n : ℕ) (p : List ℕ) (i : ℕ) where
  pub supers_first : {k e : ℕ} → bit_string Long n p i ≡ refused k e → super_flags n p i ≡ refused k e
  unfolding super_flags
  supers_first f = rw f

  module _ {partly : List ℕ} {e : ℕ} (f : bit_string Long n p i ≡ got partly e) where
    pub supers_second : {k d : ℕ} → bit_string Long (rest partly) p e ≡ refused k d → super_flags n p i ≡ refused k d
    unfolding super_flags
    supers_second g = rw (f, g)

    pub supers_got : {full : List ℕ} {d : ℕ} → bit_string Long (rest partly) p e ≡ got full d → super_flags n p i ≡ got (record { partly = partly; full = full }) d
    unfolding super_flags
    supers_got g = rw (f, g)

-- a part in the middle of a list: what is before it stays, and it stands there
module _ (n left : ℕ) (s q more : List ℕ) (h : n ≤ length s) (e : length q ≡ left) where
  pub half_first : take n (take n s ++ (q ++ more)) ≡ take n s
  half_first = take_at (take n s) (q ++ more) n (length-take-le n s h)

  pub half_second : take left (drop n (take n s ++ (q ++ more))) ≡ q
  half_second = ap (take left) (drop_at (take n s) (q ++ more) n (length-take-le n s h)) ∙ take_at q more left e

-- what a return has to show
module _ (out : List ℕ) (n : ℕ) (o : Outcome SuperFlags) where
  pub on_refused : {k e : ℕ} → o ≡ refused k e → (Refused k e ≡ as_supers o) × StoredSupers out n o
  on_refused h = rw h (refl, tt)

  pub on_supers : {partly full : List ℕ} {e left : ℕ} → o ≡ got (record { partly = partly; full = full }) e → left ≡ length full → take n out ≡ partly → take left (drop n out) ≡ full
      → (At left e ≡ as_supers o) × StoredSupers out n o
  on_supers {partly} {full} {e} {left} h el a b = rw h (ap (λ (m : ℕ). At m e) el, (a, ap (λ (m : ℕ). take m (drop n out)) (sym el) ∙ b))

-- what the answer of `read_super_flags` says of the outcome o, by its arm
pub supers_refused : (o : Outcome SuperFlags) {r : SuperRead} {k e : ℕ} → r ≡ as_supers o → r ≡ Refused k e → o ≡ refused k e
supers_refused (got s d) a g = let z : ◌≡◌ {A = ℕ} 0 1 = cc in absurd (omega arith)
supers_refused (refused j d) a g = cc

pub supers_at : (o : Outcome SuperFlags) (out : List ℕ) (n : ℕ) {r : SuperRead} {left e : ℕ} → r ≡ as_supers o → StoredSupers out n o → r ≡ At left e
    → (left ≡ length (take left (drop n out))) × (o ≡ got (record { partly = take n out; full = take left (drop n out) }) e)
supers_at (got s d) out n {r} {left} {e} a t g =
    let z : At (length s.full) d ≡ At left e = sym a ∙ g in
    let m : length s.full ≡ left = cc in
    let y : take left (drop n out) ≡ s.full = ap (λ (k : ℕ). take k (drop n out)) (sym m) ∙ t.1 in
    (sym (ap length y ∙ m), (λ i. got (record { partly = sym t.0 i; full = sym y i }) d) ∙ ap (got (record { partly = take n out; full = take left (drop n out) })) (cc))
supers_at (refused j d) out n a t g = let z : ◌≡◌ {A = ℕ} 0 1 = cc in absurd (omega arith)

-- ---- the flags of the blocks
module _ (f : PixelFormat) (w h : ℕ) (p : List ℕ) (i : ℕ) where
  pub inter_supers : {k e : ℕ} → super_flags (super_blocks_of f w h) p i ≡ refused k e → inter_flags f w h p i ≡ refused k e
  unfolding inter_flags
  inter_supers g = rw g

  module _ {s : SuperFlags} {e : ℕ} (g : super_flags (super_blocks_of f w h) p i ≡ got s e) where
    pub inter_blocks : {k d : ℕ} → bit_string Short (partly_blocks (super_sizes f w h) s.partly) p e ≡ refused k d → inter_flags f w h p i ≡ refused k d
    unfolding inter_flags
    inter_blocks q = rw (g, q)

    pub inter_got : {bits : List ℕ} {d : ℕ} → bit_string Short (partly_blocks (super_sizes f w h) s.partly) p e ≡ got bits d → inter_flags f w h p i ≡ got (spread (super_sizes f w h) s.partly s.full bits) d
    unfolding inter_flags
    inter_got q = rw (g, q)

-- as long as they must be
pub supers_length : (n : ℕ) (p : List ℕ) (i : ℕ) {s : SuperFlags} {e : ℕ} → super_flags n p i ≡ got s e → (length s.partly ≡ n) × (length s.full ≡ rest s.partly)
unfolding super_flags
supers_length n p i {s} {e} g =
    let u = bind_got (bit_string Long n) (λ partly. bind (bit_string Long (rest partly)) (λ full. pure (record { partly = partly; full = full }))) p i g in
    let v = bind_got (bit_string Long (rest u.0)) (λ full. pure (record { partly = u.0; full = full })) p u.1 u.3 in
    let z : ◌≡◌ {A = SuperFlags} (record { partly = u.0; full = v.0 }) s = cc in
    let a : u.0 ≡ s.partly = ap (λ (x : SuperFlags). x.partly) z in
    let b : v.0 ≡ s.full = ap (λ (x : SuperFlags). x.full) z in
    (sym (ap length a) ∙ string_length Long n p i u.2, sym (ap length b) ∙ string_length Long (rest u.0) p u.1 v.2 ∙ ap rest a)

-- ---- the halves of a slice s, and the first m of a string with something behind it
pub half_length : (s : List ℕ) → length (take (length s / 2) s) ≡ length s / 2
half_length s = length-take-le (length s / 2) s (omega arith)

pub middle_length : (n left : ℕ) (s : List ℕ) → n + left ≤ length s → length (take (n + left - n) (drop n s)) ≡ left
middle_length n left s h =
    let z : n + left - n ≡ left = omega arith in
    length-take-le (n + left - n) (drop n s) (omega (arith, length-drop n s)) ∙ z

-- the halves, where there are S super blocks
module _ (S left : ℕ) (s : List ℕ) (e : length s ≡ 2 * S) (el : left ≡ rest (take S s)) where
  pub halves : length s / 2 ≡ S
  halves = omega arith

  first_long : length (take S s) ≡ S
  first_long = length-take-le S s (omega arith)

  pub left_small : left ≤ S
  left_small = omega (arith, first_long)

  pub first_length : length (take (length s / 2) s) ≡ S
  first_length = half_length s ∙ halves

  pub first_same : take (length s / 2) s ≡ take S s
  first_same = ap (λ (n : ℕ). take n s) halves

  pub second_same : take (length s / 2 + left - length s / 2) (drop (length s / 2) s) ≡ take left (drop S s)
  second_same = let z : length s / 2 + left - length s / 2 ≡ left = omega arith in λ i. take (z i) (drop (halves i) s)

  pub second_length : length (take (length s / 2 + left - length s / 2) (drop (length s / 2) s)) ≡ rest (take (length s / 2) s)
  second_length = middle_length (length s / 2) left s (omega (arith, left_small)) ∙ el ∙ ap rest (sym first_same)
