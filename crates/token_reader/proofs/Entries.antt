-- What the entry of a code says of the token at a place. Assumes nothing.
use Prim.Native.Nat.{ℕ, zero, suc, ◌+◌, ◌-◌, ◌*◌, ◌/◌, ◌%◌, ◌^◌, ◌≤◌, ◌<◌}
use native.Mathlib.Omega.{arith}
use native.Mathlib.Nat.{one-mul, mod-lt, lt_of_lt_of_le}
use mathlib.Core.Path.{◌≡◌, refl, sym, ap, ◌∙◌}
use mathlib.Core.List.{List, [], ◌∷◌, ◌++◌}
use mathlib.Core.Bool.{Bool, true, false}
use mathlib.Core.Logic.{◌⊎◌, inl, inr}
use lib.Dec.{eqb, leb}
use lib.ListN.{get_or, replicate, length-append, length-replicate}
use lib.Pow.{pow_pos, pow_mono, shl_exact, shr-shr}
use borrow.Author.Tests.{eq-eqb, ne_eqb, eqb-false, leb-true, leb-false}
use Rattle.bitstream.specs.Bits.{bits, bit_at, number}
use Rattle.bitstream.specs.Reading.{Outcome, got, refused, choose}
use Rattle.bitstream.proofs.Numbers.{number_part, number_same, number_lt}
use Rattle.bitstream.proofs.Bytes.{bits_of_window}
use Rattle.bitstream.proofs.Fields.{no_mix, field_got}
use Rattle.bitstream.proofs.Laws.{got_more}
use Rattle.huffman.specs.Code.{Formed, tree_of}
use Rattle.huffman.proofs.Codes.{token_code_lt}
use Rattle.huffman.proofs.Nodes.{formed_length, formed_proper}
use Rattle.code_walk.specs.Walk.{entry_in}
use Rattle.code_walk.proofs.Walks.{Found, walk_code}
use Rattle.code_lookup.specs.Lookup.{lookup_of, extra_of}
use Rattle.code_lookup.proofs.Spreads.{Completed, found_code}
use Rattle.token.specs.Token.{Meaning, row_of}
use Rattle.token.specs.Answer.{packed, value_of, token_values, token_complete, extra_bits, complete_of, kind_of, complete_meaning}
use Rattle.token.proofs.Rows.{bits_most, packed_lt, value_at_law}
use Rattle.token.proofs.Facts.{extra_got}
use Rattle.token.proofs.Complete.{complete_bits, complete_kind, complete_meaning_law, complete_at_law}
use Rattle.token_reader.specs.Reader.{token}
use Rattle.token_reader.specs.Answer.{Lookup, looked_up, entry_at, row_says, token_by, token_of}
use Rattle.token_reader.proofs.Lookups.{none_set}
use Rattle.token_reader.proofs.Ways.{token_got, token_past}
use Rattle.token_reader.proofs.Laws.{token_lawful, token_four}

-- ---- w bits that stand a bits behind a place, out of the 64 from its byte on, which are halved first
bits_behind : (p : List ℕ) (at a w c : ℕ) → at % 8 + a + w + (1 + c) ≡ 64 → number p (at / 8 * 8) 64 / 2 / 2 ^ c % 2 ^ w ≡ number p (at + a) w
bits_behind p at a w c h =
    let e : at / 8 * 8 + (at % 8 + a) ≡ at + a = omega arith in
    let f : at % 8 + a + w + (1 + c) ≡ 64 = h in
    ap (λ (x : ℕ). x % 2 ^ w) (shr-shr (number p (at / 8 * 8) 64) 1 c)
    ∙ (ap (λ (n : ℕ). number p (at / 8 * 8) n / 2 ^ (1 + c) % 2 ^ w) (sym f) ∙ (number_part p (at / 8 * 8) (at % 8 + a) w (1 + c) ∙ ap (λ (i : ℕ). number p i w) e))

-- the lowest w bits, as the code takes them
pub low_bits : (x w : ℕ) → w ≤ 12 → x % (1 * 2 ^ w % 2 ^ 64) ≡ x % 2 ^ w
low_bits x w h = ap (λ (m : ℕ). x % m) (shl_exact {a = 1} 1 w 64 (omega arith) (omega arith) ∙ one-mul (2 ^ w))

pub few_bits : (x w : ℕ) → w ≤ 12 → x % (1 * 2 ^ w % 2 ^ 64) < 2 ^ 16
few_bits x w h = let l : w ≤ 16 = omega arith in rw (low_bits x w h) (lt_of_lt_of_le (mod-lt x (pow_pos w)) (pow_mono l))

-- ---- the ways of an entry
pub entry_found : (nodes lookup : List ℕ) (w k e : ℕ) → e ≡ looked_up lookup w k → (e ≡ 0 → ⊥) → e ≡ entry_at nodes lookup w k
entry_found nodes lookup w k e h n = rw (ne_eqb (looked_up lookup w k) 0 (λ z. n (h ∙ z))) h

pub entry_walked : (nodes lookup : List ℕ) (w k : ℕ) → looked_up lookup w k ≡ 0 → entry_in (tree_of nodes) token_values w k 0 ≡ entry_at nodes lookup w k
entry_walked nodes lookup w k h = rw (eq-eqb (looked_up lookup w k) 0 h)

-- ---- where the packet goes on for 64 bits: what is to be known of the entry e
module _ (nodes p : List ℕ) (at w : ℕ) (f : Formed nodes) (is : w ≡ number p (at / 8 * 8) 64) (room : at + 64 ≤ bits p) where
  record Entry (e : ℕ) : Type 0 where
    row_is : kind_of e ≡ 0 → e % 2 ^ 28 ≡ packed (row_of (e / 2 ^ 28 % 32))
    bits_few : e / 2 ^ 36 ≤ 43
    token_is : token (tree_of nodes) p at ≡ token_of e w at

  value_of_law : (v : ℕ) → v < 32 → get_or token_values (v % 32) 0 ≡ value_of v
  value_of_law v small = let z : v % 32 ≡ v = omega (arith, small) in ap (λ (k : ℕ). get_or token_values k 0) z ∙ value_at_law v small

  -- an entry that names its token
  module _ (e : ℕ) (found : Found nodes token_values p at (formed_length f) e) where
    abbrev v : ℕ
    v = found.token

    small : v < 32
    small = token_code_lt (tree_of nodes) p at (formed_proper nodes f) found.code

    whole_entry : e ≡ packed (row_of v) + v * 2 ^ 28 + (extra_bits v + found.taken) * 2 ^ 36
    whole_entry = omega (arith, found.is, value_of_law v small)

    which : e / 2 ^ 28 % 32 ≡ v
    which = let z : e / 2 ^ 28 ≡ v + (extra_bits v + found.taken) * 256 = omega (arith, whole_entry, packed_lt v) in omega (arith, z, small)

    all_bits : e / 2 ^ 36 ≡ extra_bits v + found.taken
    all_bits = omega (arith, whole_entry, packed_lt v, small)

    kind : kind_of e ≡ 0
    kind = let z : e / 2 ^ 33 ≡ (extra_bits v + found.taken) * 8 = omega (arith, whole_entry, packed_lt v, small) in omega (arith, z)

    named : token (tree_of nodes) p at ≡ token_by e w at
    named =
        let b = extra_bits v in
        let a = found.taken in
        let l = bits_most v in
        let x = ap (λ (y : ℕ). y / 2 / 2 ^ (63 - at % 8 - e / 2 ^ 36) % 2 ^ b) is ∙ bits_behind p at a b (63 - at % 8 - e / 2 ^ 36) (omega (arith, all_bits, l, found.few)) in
        let q : at + a + b ≡ at + e / 2 ^ 36 = omega (arith, all_bits) in
        token_got (tree_of nodes) p at found.code (extra_got v p (at + a) (field_got b p (at + a) (omega (arith, l, found.few))))
        ∙ ((λ i. got (row_says v (sym x i)) (q i)) ∙ (λ i. got (row_says (sym which i) (w / 2 / 2 ^ (63 - at % 8 - e / 2 ^ 36) % 2 ^ extra_bits (sym which i))) (at + e / 2 ^ 36)))

    by_row : Entry e
    by_row =
        record {
          row_is = λ _. let z : e % 2 ^ 28 ≡ packed (row_of v) = omega (arith, whole_entry, packed_lt v, small) in rw which z;
          bits_few = omega (arith, all_bits, bits_most v, found.few);
          token_is = rw (eq-eqb (kind_of e) 0 kind) named;
        }

  -- a complete one: its extra bits were among the eight, and its token means what it says
  module _ (e : ℕ) (done : Completed nodes token_values token_complete p at (formed_length f) e) where
    abbrev t : ℕ
    t = done.token

    t_small : t < 32
    t_small = token_code_lt (tree_of nodes) p at (formed_proper nodes f) done.code

    extra_is : extra_of token_values (t % 32) ≡ extra_bits t
    extra_is = omega (arith, value_of_law t t_small, packed_lt t, t_small)

    short : extra_bits t ≤ 3
    short = omega (arith, extra_is, done.short)

    abbrev x : ℕ
    x = number p (at + done.taken) (extra_bits t)

    complete_is : e ≡ complete_of t x + done.taken * 2 ^ 36
    complete_is =
        let z : t % 32 ≡ t = omega (arith, t_small) in
        done.is
        ∙ ((λ i. get_or token_complete (8 * z i + number p (at + done.taken) (extra_is i)) 0 + done.taken * 2 ^ 36)
        ∙ ap (λ (y : ℕ). y + done.taken * 2 ^ 36) (complete_at_law t x t_small short (number_lt p (at + done.taken) (extra_bits t))))

    all_of_it : e / 2 ^ 36 ≡ extra_bits t + done.taken
    all_of_it = ap (λ (y : ℕ). y / 2 ^ 36) complete_is ∙ complete_bits t x short done.taken

    of_a_kind : kind_of e ≡ 0 → ⊥
    of_a_kind h = complete_kind t x short done.taken (sym (ap kind_of complete_is) ∙ h)

    says : complete_meaning e ≡ row_says t x
    says = ap complete_meaning complete_is ∙ complete_meaning_law t x short done.taken

    by_itself : Entry e
    by_itself =
        let b = extra_bits t in
        let a = done.taken in
        let q : at + a + b ≡ at + e / 2 ^ 36 = omega (arith, all_of_it) in
        record {
          row_is = λ h. absurd (of_a_kind h);
          bits_few = omega (arith, all_of_it, short, done.few);
          token_is = rw (ne_eqb (kind_of e) 0 of_a_kind) (token_got (tree_of nodes) p at done.code (extra_got t p (at + a) (field_got b p (at + a) (omega (arith, short, done.few)))) ∙ (λ i. got (sym says i) (q i)));
        }

-- the entry that is looked up or walked to
module _ (nodes lookup p : List ℕ) (at w : ℕ) (f : Formed nodes) (g : Lookup nodes lookup) (is : w ≡ number p (at / 8 * 8) 64) (room : at + 64 ≤ bits p) where
  known : Entry nodes p at w f is room (entry_at nodes lookup w (at % 8))
  known = go (eqb (looked_up lookup w (at % 8)) 0) refl
    where
      said : looked_up lookup w (at % 8) ≡ get_or lookup (number p at 8) 0
      said =
          let x : w / 2 ^ (56 - at % 8) % 2 ^ 8 ≡ number p at 8 = ap (λ (y : ℕ). y / 2 ^ (56 - at % 8) % 2 ^ 8) is ∙ bits_of_window p at 8 (56 - at % 8) (omega arith) in
          ap (λ (k : ℕ). get_or lookup k 0) x

      either : {e : ℕ} → Found nodes token_values p at (formed_length f) e ⊎ Completed nodes token_values token_complete p at (formed_length f) e → Entry nodes p at w f is room e
      either {e} (inl u) = by_row nodes p at w f is room e u
      either {e} (inr u) = by_itself nodes p at w f is room e u

      by_code : (◌≡◌ {A = ℕ} (looked_up lookup w (at % 8)) 0 → ⊥) → (◌≡◌ {A = ℕ} (get_or lookup (number p at 8) 0) 0) ⊎ (get_or lookup (number p at 8) 0 ≡ get_or (lookup_of nodes token_values token_complete) (number p at 8) 0) → Entry nodes p at w f is room (looked_up lookup w (at % 8))
      by_code n (inl z) = absurd (n (said ∙ z))
      by_code n (inr s) = let first = said ∙ s in rw first (either (found_code nodes token_values token_complete p at (formed_length f) f (omega arith) (λ z. n (first ∙ z))))

      go : (t : Bool) → eqb (looked_up lookup w (at % 8)) 0 ≡ t → Entry nodes p at w f is room (choose t (entry_in (tree_of nodes) token_values w (at % 8) 0) (looked_up lookup w (at % 8)))
      go true t = either (inl (walk_code nodes token_values p at w f is (omega arith)))
      go false t = by_code (eqb-false (looked_up lookup w (at % 8)) 0 t) (g.each (number p at 8))

-- ---- any packet: with zeros behind it has the same window
same_byte : (p : List ℕ) (n j : ℕ) → get_or (p ++ replicate n 0) j 0 ≡ get_or p j 0
same_byte [] n j = none_set n j
same_byte (x ∷ p) n zero = refl
same_byte (x ∷ p) n (suc j) = same_byte p n j

module _ (p : List ℕ) (n : ℕ) where
  same_bit : (k : ℕ) → bit_at (p ++ replicate n 0) k ≡ bit_at p k
  unfolding bit_at
  same_bit k = ap (λ (b : ℕ). b / 2 ^ (7 - k % 8) % 2) (same_byte p n (k / 8))

  same_window : (i m : ℕ) → number p i m ≡ number (p ++ replicate n 0) i m
  same_window i m = number_same p (p ++ replicate n 0) i m (λ k _. sym (same_bit k))

  longer : bits (p ++ replicate n 0) ≡ bits p + n * 8
  longer = let e = length-append p (replicate n 0) in let f = length-replicate {A = ℕ} n 0 in omega (arith, e, f)

module _ (nodes lookup p : List ℕ) (at w e : ℕ) (f : Formed nodes) (g : Lookup nodes lookup) (is : w ≡ number p (at / 8 * 8) 64) (it : e ≡ entry_at nodes lookup w (at % 8)) where
  abbrev q : List ℕ
  q = p ++ replicate (at + 8) 0

  on_q : w ≡ number q (at / 8 * 8) 64
  on_q = is ∙ same_window p (at + 8) (at / 8 * 8) 64

  enough : at + 64 ≤ bits q
  enough = omega (arith, longer p (at + 8))

  pub entry_row : kind_of e ≡ 0 → e % 2 ^ 28 ≡ packed (row_of (e / 2 ^ 28 % 32))
  entry_row = rw it (known nodes lookup q at w f g on_q enough).row_is

  pub entry_bits : e / 2 ^ 36 ≤ 43
  entry_bits = rw it (known nodes lookup q at w f g on_q enough).bits_few

  there : token (tree_of nodes) q at ≡ token_of e w at
  there = rw it (known nodes lookup q at w f g on_q enough).token_is

  -- a token that ends in the packet is the packet's
  pub entry_got : at + e / 2 ^ 36 ≤ bits p → token (tree_of nodes) p at ≡ token_of e w at
  entry_got h = (token_lawful (tree_of nodes)).local q p at _ (at + e / 2 ^ 36) (omega (arith, enough)) there (record { same = λ k _. same_bit p (at + 8) k; room = h })

  -- one that ends behind it is cut
  pub entry_cut : bits p < at + e / 2 ^ 36 → token (tree_of nodes) p at ≡ refused 4 at
  entry_cut h = go (token (tree_of nodes) p at) refl
    where
      within : {m : Meaning} {d : ℕ} → token (tree_of nodes) p at ≡ got m d → (b : Bool) → leb at (bits p) ≡ b → ⊥
      within {m} {d} s true b =
          let i = leb-true at (bits p) b in
          let u = (token_lawful (tree_of nodes)).moves p at m d i s in
          let z = sym (got_more (token_lawful (tree_of nodes)) p (replicate (at + 8) 0) at m d i s) ∙ there in
          let y : d ≡ at + e / 2 ^ 36 = cc in
          omega (arith, u.1, h, y)
      within {m} {d} s false b = no_mix (sym s ∙ token_past (tree_of nodes) p at (leb-false at (bits p) b))

      go : (o : Outcome Meaning) → token (tree_of nodes) p at ≡ o → token (tree_of nodes) p at ≡ refused 4 at
      go (got m d) s = absurd (within s (leb at (bits p)) refl)
      go (refused k d) s = let u = token_four (tree_of nodes) p at s in s ∙ (λ i. refused (u.0 i) (u.1 i))
