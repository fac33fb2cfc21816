-- The ways that reading a token can go. Assumes nothing.
use Prim.Native.Nat.{ℕ, ◌<◌}
use native.Mathlib.Omega.{arith}
use mathlib.Core.Path.{◌≡◌, refl, sym, ap, ◌∙◌}
use mathlib.Core.List.{List}
use Rattle.bitstream.specs.Bits.{bits}
use Rattle.bitstream.specs.Reading.{got, refused, bind, whole}
use Rattle.bitstream.proofs.Fields.{no_mix, field_end}
use Rattle.bitstream.proofs.Laws.{whole_got, whole_refused, whole_cases, bind_step, bind_refused}
use Rattle.huffman.specs.Tree.{Tree, leaf, fork}
use Rattle.huffman.specs.Code.{code, token_code}
use Rattle.token.specs.Token.{Meaning, extra}
use Rattle.token.proofs.Facts.{extra_cut}
use Rattle.token_reader.specs.Reader.{token}

-- ---- its code and its extra bits
module _ (tree : Tree) (p : List ℕ) (i : ℕ) where
  pub token_cut : {k e : ℕ} → token_code tree p i ≡ refused k e → token tree p i ≡ refused k i
  unfolding token
  token_cut h = whole_refused (bind (token_code tree) extra) p i (bind_refused (token_code tree) extra p i h)

  module _ {v d : ℕ} (c : token_code tree p i ≡ got v d) where
    pub token_got : {m : Meaning} {e : ℕ} → whole (extra v) p d ≡ got m e → token tree p i ≡ got m e
    unfolding token
    token_got {m} {e} h =
        whole_cases (extra v) p d (λ a b s w. whole_got (bind (token_code tree) extra) p i (bind_step (token_code tree) extra p i c ∙ (s ∙ (sym w ∙ h))))
        (λ k b s w. no_mix (sym h ∙ w))

    pub token_refused : {k e : ℕ} → whole (extra v) p d ≡ refused k e → token tree p i ≡ refused k i
    unfolding token
    token_refused {k} {e} h =
        whole_cases (extra v) p d (λ a b s w. no_mix (sym w ∙ h))
        (λ j b s w. let z = sym w ∙ h in let n : j ≡ k = cc in whole_refused (bind (token_code tree) extra) p i (bind_step (token_code tree) extra p i c ∙ (s ∙ ap (λ (x : ℕ). refused x b) n)))

-- ---- behind the packet's end there is none, not even one of no bits
pub token_past : (tree : Tree) (p : List ℕ) (i : ℕ) → bits p < i → token tree p i ≡ refused 4 i
unfolding token_code code
token_past (leaf t) p i h = token_refused (leaf t) p i (whole_got (code (leaf t)) p i refl) (extra_cut t p i (omega arith))
token_past (fork l r) p i h = token_cut (fork l r) p i (whole_refused (code (fork l r)) p i {k = 4} {e = i} (rw (field_end 1 p i (omega arith))))
