-- The laws of reading one token. Assumes nothing.
use Prim.Native.Nat.{ℕ}
use native.Mathlib.Omega.{arith}
use mathlib.Core.Path.{◌≡◌, refl, sym, ◌∙◌}
use mathlib.Core.List.{List, [], ◌∷◌}
use mathlib.Core.Bool.{Bool, true, false, ◌||◌}
use lib.Dec.{eqb}
use borrow.Author.Tests.{eqb-true}
use Rattle.bitstream.specs.Lists.{among}
use Rattle.bitstream.specs.Reading.{got, refused, bind}
use Rattle.bitstream.proofs.Fields.{no_mix}
use Rattle.bitstream.proofs.Laws.{Lawful, bind_lawful, whole_lawful, whole_cases, bind_got}
use Rattle.bitstream.proofs.Inside.{Inside, bind_inside, whole_inside, Refuses, bind_refuses, whole_refuses}
use Rattle.bitstream.proofs.Spends.{Spends, bind_spends, whole_spends}
use Rattle.huffman.specs.Tree.{Tree, Proper}
use Rattle.huffman.specs.Code.{token_code}
use Rattle.huffman.proofs.Codes.{token_code_lawful, token_code_inside, token_code_refuses, token_code_spends}
use Rattle.token.specs.Token.{Meaning, extra}
use Rattle.token.proofs.Laws.{extra_lawful, extra_inside, extra_refuses, extra_spends, Sound, extra_sound}
use Rattle.token_reader.specs.Reader.{token}

pub token_lawful : (tree : Tree) → Lawful (token tree)
unfolding token
token_lawful tree = whole_lawful (bind_lawful (token_code_lawful tree) extra_lawful)

pub token_inside : {d : ℕ} (tree : Tree) → Inside d (token tree)
unfolding token
token_inside tree = whole_inside (bind_inside (token_code_inside tree) extra_inside)

pub token_refuses : {ks : List ℕ} → among ks 4 ≡ true → (tree : Tree) → Refuses ks (token tree)
unfolding token
token_refuses four tree = whole_refuses (bind_refuses (token_code_refuses four tree) (extra_refuses four))

-- at most 32 + 12 bits
pub token_spends : {tree : Tree} → Proper tree → Spends 44 (token tree)
unfolding token
token_spends f = whole_spends (bind_spends (token_code_spends f) extra_spends)

-- by 4 alone, at its first bit
pub token_four : (tree : Tree) (p : List ℕ) (i : ℕ) {k e : ℕ} → token tree p i ≡ refused k e → (k ≡ 4) × (e ≡ i)
unfolding token among
token_four tree p i {k} {e} h =
    let four : k ≡ 4 = only k (eqb 4 k) refl ((token_refuses {ks = 4 ∷ []} refl tree).by p i k e h) in
    whole_cases (bind (token_code tree) extra) p i (λ a d s w. no_mix (sym w ∙ h)) (λ j d s w. let z = sym w ∙ h in (four, cc))
  where
    only : (k : ℕ) → (b : Bool) → eqb 4 k ≡ b → (b || false) ≡ true → k ≡ 4
    only k true e h = sym (eqb-true 4 k e)
    only k false e h = let z : ◌≡◌ {A = ℕ} 0 1 = cc in absurd (omega arith)

-- what a token means is sound
pub token_sound : (tree : Tree) (p : List ℕ) (i : ℕ) {m : Meaning} {e : ℕ} → token tree p i ≡ got m e → Sound m
unfolding token
token_sound tree p i {m} {e} h =
    whole_cases (bind (token_code tree) extra) p i
    (λ a d s w. let z = sym w ∙ h in let y : a ≡ m = cc in let u = bind_got (token_code tree) extra p i s in rw (← y) (extra_sound u.0 p u.1 u.3))
    (λ k d s w. no_mix (sym h ∙ w))
