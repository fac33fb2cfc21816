-- The fronts of the lent slices, which belong to the coded blocks. Assumes nothing.
use Prim.Native.Nat.{ℕ, zero, suc, ◌-◌, ◌*◌, ◌≤◌}
use native.Mathlib.Omega.{arith}
use mathlib.Core.Path.{◌≡◌, refl, sym, ap, ◌∙◌}
use mathlib.Core.List.{List, ◌++◌}
use lib.ListN.{length, get_or, take, drop, replicate, length-take, length-replicate}
use lib.Seq.{take_at, drop_at, length-take-le}
use lib.IntN.{ℤ, pos}
use Rattle.bitstream.specs.Reading.{Outcome, got, refused}
use Rattle.huffman.specs.Tree.{Tree}
use Rattle.block_visits.specs.Visits.{TokenState, state_of}
use Rattle.table_choices.specs.Choices.{choices_of}
use Rattle.tokens.specs.Tokens.{positions_from, ranks, start, Tokens, tokens_of, read_tokens}
use Rattle.block_visits.specs.Answer.{Shape}
use Rattle.tokens.specs.Answer.{AllOpen, Cleared, Stored, Untouched, as_counted}
use Rattle.tokens.specs.declared.Counted.TheVariants as counted

front_fits : {A : Type 0} (n : ℕ) (l : List A) (a : A) → take n l ≡ replicate n a → n ≤ length l
front_fits n l a h = omega (arith, ap length h, length-take n l, length-replicate n a)

-- every element of a list of one value is that, and so is what stands past it
pub same_at : {A : Type 0} (n b : ℕ) (a : A) → get_or (replicate n a) b a ≡ a
same_at zero b a = refl
same_at (suc n) zero a = refl
same_at (suc n) (suc b) a = same_at n b a

module _ (count : ℕ) (ps ls : List ℕ) (cs : List ℤ) (bs : List ℕ) (f : Cleared count ps ls cs bs) where
  pub fits_positions : count ≤ length ps
  fits_positions = front_fits count ps 0 f.positions

  pub fits_lasts : count ≤ length ls
  fits_lasts = front_fits count ls 0 f.lasts

  pub fits_coefs : 64 * count ≤ length cs
  fits_coefs = front_fits (64 * count) cs (pos 0) f.coefs

  pub front_length : length (take count ps) ≡ count
  front_length = length-take-le count ps fits_positions

  pub front_shape : Shape (take count ps) (take count ls) (take (64 * count) cs)
  front_shape =
      record {
        lasts = length-take-le count ls fits_lasts ∙ sym front_length;
        coefs = length-take-le (64 * count) cs fits_coefs ∙ ap (λ (n : ℕ). 64 * n) (sym front_length);
        few = omega (arith, front_length, f.few);
      }

  pub front_open : AllOpen (take count ps)
  front_open = record { each = λ b. rw f.positions (omega (arith, same_at {A = ℕ} count b 0)) }

  -- the ranks that were written
  pub front_ranks : (ks : List ℕ) → length ks ≡ length (take count bs) → ks ≡ ranks 0 (length (take count bs)) → take count (ks ++ drop count bs) ≡ ranks 0 (length (take count ps))
  front_ranks ks n e =
      let m : length (take count bs) ≡ count = length-take-le count bs f.active in
      take_at ks (drop count bs) count (n ∙ m) ∙ (e ∙ ap (ranks 0) (m ∙ sym front_length))

  -- the state from which the code reads is the definition's
  pub front_start : (trees : List Tree) (luma : ℕ) (p : List ℕ) (at : ℕ)
      → positions_from trees (ranks 0 luma) (ranks luma (count - luma)) 64 0 (choices_of 0 0) (start count) p at
      ≡ positions_from trees (ranks 0 luma) (ranks luma (length (take count ps) - luma)) 64 0 (choices_of 0 0) (state_of (take count ps) (take count ls) (take (64 * count) cs) 0 0) p at
  unfolding start
  front_start trees luma p at =
      λ i. positions_from trees (ranks 0 luma) (ranks luma (sym front_length i - luma)) 64 0 (choices_of 0 0) (state_of (sym f.positions i) (sym f.lasts i) (sym f.coefs i) 0 0) p at

  -- what came back stands in front of what was behind
  module _ (ps₁ ls₁ : List ℕ) (cs₁ : List ℤ) (ks bs₁ : List ℕ) (a : length ps₁ ≡ length (take count ps)) (b : length ls₁ ≡ length (take count ls)) (c : length cs₁ ≡ length (take (64 * count) cs))
      (d : length ks ≡ length (take count bs)) (e : length bs₁ ≡ length (take count (ks ++ drop count bs))) where
    active_front : length ks ≡ count
    active_front = d ∙ length-take-le count bs f.active

    pub untouched : Untouched count ps ls cs bs (ps₁ ++ drop count ps) (ls₁ ++ drop count ls) (cs₁ ++ drop (64 * count) cs) (bs₁ ++ drop count (ks ++ drop count bs))
    untouched =
        record {
          positions = drop_at ps₁ (drop count ps) count (a ∙ front_length);
          lasts = drop_at ls₁ (drop count ls) count (b ∙ length-take-le count ls fits_lasts);
          coefs = drop_at cs₁ (drop (64 * count) cs) (64 * count) (c ∙ length-take-le (64 * count) cs fits_coefs);
          active =
              drop_at bs₁ (drop count (ks ++ drop count bs)) count (e ∙ (ap length (take_at ks (drop count bs) count active_front) ∙ active_front))
              ∙ drop_at ks (drop count bs) count active_front;
        }

    pub on_refused_tokens : (o : Outcome Tokens) {k n : ℕ} → o ≡ refused k n → (counted.Refused k n ≡ as_counted o) × Stored count (ls₁ ++ drop count ls) (cs₁ ++ drop (64 * count) cs) o
    on_refused_tokens o h = rw h (refl, tt)

    pub on_tokens : (o : Outcome Tokens) (run : ℕ) {tokens n : ℕ} → o ≡ got (tokens_of (state_of ps₁ ls₁ cs₁ run tokens)) n
        → (counted.Done n tokens ≡ as_counted o) × Stored count (ls₁ ++ drop count ls) (cs₁ ++ drop (64 * count) cs) o
    on_tokens o run h =
        rw h (refl, (take_at ls₁ (drop count ls) count (b ∙ length-take-le count ls fits_lasts), take_at cs₁ (drop (64 * count) cs) (64 * count) (c ∙ length-take-le (64 * count) cs fits_coefs)))

-- ---- all tokens, by the outcome of the positions
module _ (trees : List Tree) (luma count : ℕ) (p : List ℕ) (i : ℕ) where
  pub tokens_got : {s : TokenState} {e : ℕ} → positions_from trees (ranks 0 luma) (ranks luma (count - luma)) 64 0 (choices_of 0 0) (start count) p i ≡ got s e → read_tokens trees luma count p i ≡ got (tokens_of s) e
  unfolding read_tokens
  tokens_got h = rw h

  pub tokens_refused : {k e : ℕ} → positions_from trees (ranks 0 luma) (ranks luma (count - luma)) 64 0 (choices_of 0 0) (start count) p i ≡ refused k e → read_tokens trees luma count p i ≡ refused k e
  unfolding read_tokens
  tokens_refused h = rw h
