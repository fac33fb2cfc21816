-- The laws of codes. Assumes nothing.
use Prim.Native.Nat.{ℕ, ◌+◌, ◌<◌, max}
use native.Mathlib.Omega.{arith}
use mathlib.Core.Path.{◌≡◌, sym, ◌∙◌}
use mathlib.Core.List.{List}
use mathlib.Core.Bool.{Bool, true, false}
use lib.Dec.{eqb}
use Rattle.bitstream.specs.Bits.{number}
use Rattle.bitstream.specs.Lists.{among}
use Rattle.bitstream.specs.Reading.{got, refused, after, pick, field}
use Rattle.bitstream.proofs.Fields.{no_mix, field_cases}
use Rattle.bitstream.proofs.Laws.{Lawful, pure_lawful, pick_lawful, bind_lawful, field_lawful, whole_lawful, whole_cases, bind_got}
use Rattle.bitstream.proofs.Inside.{Inside, pure_inside, field_inside, pick_inside, bind_inside, whole_inside, Refuses}
use Rattle.bitstream.proofs.Spends.{Spends, spends_more, pure_spends, field_spends, bind_spends, pick_spends, whole_spends}
use Rattle.huffman.specs.Tree.{Tree, leaf, fork, Tokens, Proper}
use Rattle.huffman.specs.Code.{code, token_code}
use Rattle.huffman.proofs.Trees.{longest, proper_longest}

-- ---- Local, Firm, Inside and Spends
code_lawful : (t : Tree) → Lawful (code t)
unfolding code
code_lawful (leaf t) = pure_lawful t
code_lawful (fork l r) = bind_lawful (field_lawful 1) (λ b. pick_lawful (eqb b 0) (code_lawful l) (code_lawful r))

pub token_code_lawful : (t : Tree) → Lawful (token_code t)
unfolding token_code
token_code_lawful t = whole_lawful (code_lawful t)

code_inside : {d : ℕ} (t : Tree) → Inside d (code t)
unfolding code
code_inside (leaf t) = pure_inside t
code_inside (fork l r) = bind_inside (field_inside 1) (λ b. pick_inside (eqb b 0) (code_inside l) (code_inside r))

pub token_code_inside : {d : ℕ} (t : Tree) → Inside d (token_code t)
unfolding token_code
token_code_inside t = whole_inside (code_inside t)

code_spends : (t : Tree) → Spends (longest t) (code t)
unfolding code
code_spends (leaf t) = pure_spends t
code_spends (fork l r) =
    spends_more (omega arith)
    (bind_spends {b = max (longest l) (longest r)} (field_spends 1)
    (λ b. pick_spends (eqb b 0) (λ _. spends_more (omega arith) (code_spends l)) (λ _. spends_more (omega arith) (code_spends r))))

pub token_code_spends : {t : Tree} → Proper t → Spends 32 (token_code t)
unfolding token_code
token_code_spends {t} g = spends_more (omega (arith, proper_longest g)) (whole_spends (code_spends t))

-- ---- a code is refused by 4 alone, at its first bit
code_refused : (t : Tree) (p : List ℕ) (i : ℕ) {k e : ℕ} → code t p i ≡ refused k e → k ≡ 4
unfolding code
code_refused (leaf t) p i h = no_mix h
code_refused (fork l r) p i {k} {e} h =
    field_cases 1 p i
    (λ _ f. go (eqb (number p i 1) 0) (i + 1) (step f) (λ j. code_refused l p j) (λ j. code_refused r p j))
    (λ _ f. let z = sym h ∙ stop f in cc)
  where
    step : {b j : ℕ} → field 1 p i ≡ got b j → pick (eqb b 0) (code l) (code r) p j ≡ refused k e
    step f = rw f at h

    stop : {m j : ℕ} → field 1 p i ≡ refused m j → after (field 1 p i) (λ b j. pick (eqb b 0) (code l) (code r) p j) ≡ refused m j
    stop f = rw f

    go : (c : Bool) (j : ℕ) → pick c (code l) (code r) p j ≡ refused k e → ((j : ℕ) → code l p j ≡ refused k e → k ≡ 4) → ((j : ℕ) → code r p j ≡ refused k e → k ≡ 4) → k ≡ 4
    go true j x f g = f j x
    go false j x f g = g j x

pub token_code_refused : (t : Tree) (p : List ℕ) (i : ℕ) {k e : ℕ} → token_code t p i ≡ refused k e → (k ≡ 4) × (e ≡ i)
unfolding token_code
token_code_refused t p i h =
    whole_cases (code t) p i (λ a d _ w. no_mix (sym w ∙ h)) (λ j d s w. let z = sym w ∙ h in let f = code_refused t p i s in (cc, cc))

pub token_code_refuses : {ks : List ℕ} → among ks 4 ≡ true → (t : Tree) → Refuses ks (token_code t)
token_code_refuses four t = record { by = λ p i k e r. rw (token_code_refused t p i r).0 four }

-- ---- a code that was got is a token
code_token : (t : Tree) (p : List ℕ) (i : ℕ) {v e : ℕ} → Tokens t → code t p i ≡ got v e → v < 32
unfolding code
code_token (leaf x) p i {v} h r = let z : x ≡ v = cc in omega (arith, h, z)
code_token (fork l r) p i {v} {e} h g =
    let u = bind_got (field 1) (λ b. pick (eqb b 0) (code l) (code r)) p i g in
    go (eqb u.0 0) u.1 u.3 (λ j. code_token l p j h.0) (λ j. code_token r p j h.1)
  where
    go : (c : Bool) (j : ℕ) → pick c (code l) (code r) p j ≡ got v e → ((j : ℕ) → code l p j ≡ got v e → v < 32) → ((j : ℕ) → code r p j ≡ got v e → v < 32) → v < 32
    go true j x f g = f j x
    go false j x f g = g j x

pub token_code_lt : (t : Tree) (p : List ℕ) (i : ℕ) {v e : ℕ} → Proper t → token_code t p i ≡ got v e → v < 32
unfolding token_code
token_code_lt t p i g h = whole_cases (code t) p i (λ a d s w. code_token t p i g.tokens (s ∙ (sym w ∙ h))) (λ j d _ w. no_mix (sym h ∙ w))
