-- The header line as its pieces are written, and its numbers as they are read. Assumes nothing.
use Prim.Native.Nat.{ℕ, ◌+◌, ◌≤◌}
use native.Mathlib.Omega.{arith}
use mathlib.Core.Path.{◌≡◌, refl, sym, ap, ◌∙◌}
use mathlib.Core.Bool.{Bool, true, false}
use mathlib.Core.List.{List, [], ◌∷◌, ◌++◌, append_assoc}
use lib.Dec.{eqb}
use borrow.Author.Tests.{eq-eqb, ne_eqb}
use lib.ListN.{length, take, drop, get_or, length-append}
use lib.Seq.{length-take-le, drop-drop, get_or-drop, take_at}
use Rattle.bitstream.specs.Reading.{choose}
use Rattle.output.specs.Output.{spliced}
use Rattle.output.proofs.Splices.{spliced_length, spliced_next, spliced_first}
use Rattle.text.specs.Decimal.{Scanned, decimal, number, FoundAt}
use Rattle.text.specs.Same.{same}
use Rattle.text.proofs.Decimals.{decimal_length}
use Rattle.stream_numbers.specs.declared.Numbers.{Numbers}
use Rattle.y4m.specs.Stream.{two, size_text, rate_text, aspect_text, format_text, header_text}
use Rattle.y4m.specs.Film.{format_in, numbers_in, numbers_fit, is_header, header_end}

-- ---- two numbers, each behind some text
pub two_length : (before between : List ℕ) (a b : ℕ) → length (two before a between b) ≡ length before + (length (decimal a) + (length between + length (decimal b)))
two_length before between a b = simp length-append

module _ (before between : List ℕ) (a b at : ℕ) (o : List ℕ) (room : at + 33 ≤ length o) (hb : length before ≤ 11) (ht : length between ≤ 2) where
  pub two_written : (first second third r : ℕ) (o₁ o₂ o₃ o₄ : List ℕ)
      → first ≡ at + length before → o₁ ≡ spliced at before o
      → second ≡ first + length (decimal a) → o₂ ≡ spliced first (decimal a) o₁
      → third ≡ second + length between → o₃ ≡ spliced second between o₂
      → r ≡ third + length (decimal b) → o₄ ≡ spliced third (decimal b) o₃
      → (r ≡ at + length (two before a between b)) × (o₄ ≡ spliced at (two before a between b) o)
  two_written first second third r o₁ o₂ o₃ o₄ e₁ s₁ e₂ s₂ e₃ s₃ e₄ s₄ =
      let la = decimal_length a in
      let lb = decimal_length b in
      let p₁ = length-append before (decimal a) in
      let p₂ = length-append (before ++ decimal a) between in
      let t₂ = s₂ ∙ spliced_next at first before (decimal a) o o₁ s₁ e₁ (omega arith) in
      let t₃ = s₃ ∙ spliced_next at second (before ++ decimal a) between o o₂ t₂ (omega arith) (omega arith) in
      let t₄ = s₄ ∙ spliced_next at third ((before ++ decimal a) ++ between) (decimal b) o o₃ t₃ (omega arith) (omega arith) in
      let flat : ((before ++ decimal a) ++ between) ++ decimal b ≡ two before a between b = simp append_assoc in
      (omega (arith, two_length before between a b), t₄ ∙ ap (λ (x : List ℕ). spliced at x o) flat)

-- ---- the format
pub format_420 : (pf : ℕ) → pf ≡ 0 → format_text pf ≡ 32 ∷ 67 ∷ 52 ∷ 50 ∷ 48 ∷ 106 ∷ 112 ∷ 101 ∷ 103 ∷ 10 ∷ []
unfolding format_text
format_420 pf e = rw (eq-eqb pf 0 e)

pub format_422 : (pf : ℕ) → (pf ≡ 0 → ⊥) → pf ≡ 2 → format_text pf ≡ 32 ∷ 67 ∷ 52 ∷ 50 ∷ 50 ∷ 10 ∷ []
unfolding format_text
format_422 pf z e = rw (ne_eqb pf 0 z, eq-eqb pf 2 e)

pub format_444 : (pf : ℕ) → (pf ≡ 0 → ⊥) → (pf ≡ 2 → ⊥) → format_text pf ≡ 32 ∷ 67 ∷ 52 ∷ 52 ∷ 52 ∷ 10 ∷ []
unfolding format_text
format_444 pf z e = rw (ne_eqb pf 0 z, ne_eqb pf 2 e)

by_format : (P : List ℕ → Type 0) (a b : Bool) (x y z : List ℕ) → P x → P y → P z → P (choose a x (choose b y z))
by_format P true b x y z px py pz = px
by_format P false true x y z px py pz = py
by_format P false false x y z px py pz = pz

pub format_length : (pf : ℕ) → length (format_text pf) ≤ 10
unfolding format_text
format_length pf = by_format (λ l. length l ≤ 10) (eqb pf 0) (eqb pf 2) _ _ _ (omega arith) (omega arith) (omega arith)

pub format_some : (pf : ℕ) → 6 ≤ length (format_text pf)
unfolding format_text
format_some pf = by_format (λ l. 6 ≤ length l) (eqb pf 0) (eqb pf 2) _ _ _ (omega arith) (omega arith) (omega arith)

-- ---- the whole line
pub size_length : (n : Numbers) → length (size_text n) ≤ 33
size_length n = omega (arith, two_length (89 ∷ 85 ∷ 86 ∷ 52 ∷ 77 ∷ 80 ∷ 69 ∷ 71 ∷ 50 ∷ 32 ∷ 87 ∷ []) (32 ∷ 72 ∷ []) n.width n.height, decimal_length n.width, decimal_length n.height)

pub rate_length : (n : Numbers) → length (rate_text n) ≤ 33
rate_length n = omega (arith, two_length (32 ∷ 70 ∷ []) (58 ∷ []) n.frn n.frd, decimal_length n.frn, decimal_length n.frd)

pub aspect_length : (n : Numbers) → length (aspect_text n) ≤ 33
aspect_length n = omega (arith, two_length (32 ∷ 73 ∷ 112 ∷ 32 ∷ 65 ∷ []) (58 ∷ []) n.parn n.pard, decimal_length n.parn, decimal_length n.pard)

pub header_length : (n : Numbers) → length (header_text n) ≡ length (size_text n) + (length (rate_text n) + (length (aspect_text n) + length (format_text n.pf)))
unfolding header_text
header_length n =
    length-append (size_text n) (rate_text n ++ (aspect_text n ++ format_text n.pf))
    ∙ omega (arith, length-append (rate_text n) (aspect_text n ++ format_text n.pf), length-append (aspect_text n) (format_text n.pf))

pub header_short : (n : Numbers) → (6 ≤ length (header_text n)) × (length (header_text n) ≤ 109)
header_short n =
    let l = header_length n in
    let a = size_length n in
    let b = rate_length n in
    let c = aspect_length n in
    let d = format_length n.pf in
    let e = format_some n.pf in
    (omega arith, omega arith)

module _ (n : Numbers) (o : List ℕ) (room : 110 ≤ length o) where
  pub header_written : (rate ratio format r : ℕ) (o₁ o₂ o₃ o₄ : List ℕ)
      → rate ≡ 0 + length (size_text n) → o₁ ≡ spliced 0 (size_text n) o
      → ratio ≡ rate + length (rate_text n) → o₂ ≡ spliced rate (rate_text n) o₁
      → format ≡ ratio + length (aspect_text n) → o₃ ≡ spliced ratio (aspect_text n) o₂
      → r ≡ format + length (format_text n.pf) → o₄ ≡ spliced format (format_text n.pf) o₃
      → (r ≡ length (header_text n)) × (o₄ ≡ spliced 0 (header_text n) o)
  unfolding header_text
  header_written rate ratio format r o₁ o₂ o₃ o₄ e₁ s₁ e₂ s₂ e₃ s₃ e₄ s₄ =
      let A = size_text n in
      let B = rate_text n in
      let C = aspect_text n in
      let D = format_text n.pf in
      let la = size_length n in
      let lb = rate_length n in
      let lc = aspect_length n in
      let ld = format_length n.pf in
      let p₁ = length-append A B in
      let p₂ = length-append (A ++ B) C in
      let t₂ = s₂ ∙ spliced_next 0 rate A B o o₁ s₁ e₁ (omega arith) in
      let t₃ = s₃ ∙ spliced_next 0 ratio (A ++ B) C o o₂ t₂ (omega arith) (omega arith) in
      let t₄ = s₄ ∙ spliced_next 0 format ((A ++ B) ++ C) D o o₃ t₃ (omega arith) (omega arith) in
      let flat : ((A ++ B) ++ C) ++ D ≡ A ++ (B ++ (C ++ D)) = append_assoc (A ++ B) C D ∙ append_assoc A B (C ++ D) in
      (omega (arith, header_length n), t₄ ∙ ap (λ (x : List ℕ). spliced 0 x o) flat)

-- ---- the numbers by their places
pub format_letter_0 : (c : ℕ) → c ≡ 48 → 0 ≡ format_in c
unfolding format_in
format_letter_0 c e = rw (eq-eqb c 48 e)

pub format_letter_2 : (c : ℕ) → (c ≡ 48 → ⊥) → c ≡ 50 → 2 ≡ format_in c
unfolding format_in
format_letter_2 c z e = rw (ne_eqb c 48 z, eq-eqb c 50 e)

pub format_letter_3 : (c : ℕ) → (c ≡ 48 → ⊥) → (c ≡ 50 → ⊥) → 3 ≡ format_in c
unfolding format_in
format_letter_3 c z e = rw (ne_eqb c 48 z, ne_eqb c 50 e)

-- the text k bytes behind a number, and the number there
behind : (t : List ℕ) (at v next k : ℕ) (m : Scanned) → FoundAt t at v next → number (drop at t) ≡ m → drop (next + k) t ≡ drop k m.rest
behind t at v next k m f e = sym (drop-drop k next t) ∙ ap (λ (l : List ℕ). drop k l) f.behind ∙ ap (λ (x : Scanned). drop k x.rest) e

value : (t : List ℕ) (at v next : ℕ) (m : Scanned) → FoundAt t at v next → number (drop at t) ≡ m → v ≡ m.value
value t at v next m f e = f.is ∙ ap (λ (x : Scanned). x.value) e

pub numbers_found : (t : List ℕ) (v₁ n₁ v₂ n₂ v₃ n₃ v₄ n₄ v₅ n₅ v₆ n₆ letter pf : ℕ)
    → FoundAt t 11 v₁ n₁ → FoundAt t (n₁ + 2) v₂ n₂ → FoundAt t (n₂ + 2) v₃ n₃ → FoundAt t (n₃ + 1) v₄ n₄ → FoundAt t (n₄ + 5) v₅ n₅ → FoundAt t (n₅ + 1) v₆ n₆
    → letter ≡ get_or t (n₆ + 4) 0 → pf ≡ format_in letter
    → ◌≡◌ {A = Numbers} (record { width = v₁; height = v₂; frn = v₃; frd = v₄; parn = v₅; pard = v₆; pf = pf }) (numbers_in t)
unfolding numbers_in
numbers_found t v₁ n₁ v₂ n₂ v₃ n₃ v₄ n₄ v₅ n₅ v₆ n₆ letter pf f₁ f₂ f₃ f₄ f₅ f₆ el ep =
    let m₁ = number (drop 11 t) in
    let m₂ = number (drop 2 m₁.rest) in
    let m₃ = number (drop 2 m₂.rest) in
    let m₄ = number (drop 1 m₃.rest) in
    let m₅ = number (drop 5 m₄.rest) in
    let m₆ = number (drop 1 m₅.rest) in
    let e₂ : number (drop (n₁ + 2) t) ≡ m₂ = ap number (behind t 11 v₁ n₁ 2 m₁ f₁ refl) in
    let e₃ : number (drop (n₂ + 2) t) ≡ m₃ = ap number (behind t (n₁ + 2) v₂ n₂ 2 m₂ f₂ e₂) in
    let e₄ : number (drop (n₃ + 1) t) ≡ m₄ = ap number (behind t (n₂ + 2) v₃ n₃ 1 m₃ f₃ e₃) in
    let e₅ : number (drop (n₄ + 5) t) ≡ m₅ = ap number (behind t (n₃ + 1) v₄ n₄ 5 m₄ f₄ e₄) in
    let e₆ : number (drop (n₅ + 1) t) ≡ m₆ = ap number (behind t (n₄ + 5) v₅ n₅ 1 m₅ f₅ e₅) in
    let w₁ = f₁.is in
    let w₂ = value t (n₁ + 2) v₂ n₂ m₂ f₂ e₂ in
    let w₃ = value t (n₂ + 2) v₃ n₃ m₃ f₃ e₃ in
    let w₄ = value t (n₃ + 1) v₄ n₄ m₄ f₄ e₄ in
    let w₅ = value t (n₄ + 5) v₅ n₅ m₅ f₅ e₅ in
    let w₆ = value t (n₅ + 1) v₆ n₆ m₆ f₆ e₆ in
    let c : letter ≡ get_or m₆.rest 4 0 = el ∙ sym (get_or-drop n₆ t 4 0) ∙ ap (λ (l : List ℕ). get_or l 4 0) f₆.behind ∙ ap (λ (x : Scanned). get_or x.rest 4 0) e₆ in
    let p = ep ∙ ap format_in c in
    λ i. record { width = w₁ i; height = w₂ i; frn = w₃ i; frd = w₄ i; parn = w₅ i; pard = w₆ i; pf = p i }

-- ---- the header's end, by what the tests come to
module _ (n : Numbers) (t line : List ℕ) (end : ℕ) where
  -- the part of the line that was written
  pub line_taken : end ≡ length (header_text n) → (l : List ℕ) → line ≡ spliced 0 (header_text n) l → take end line ≡ header_text n
  line_taken e l s =
      (λ i. take (e i) ((s ∙ spliced_first (header_text n) l) i))
      ∙ take_at (header_text n) (drop (length (header_text n)) l) (length (header_text n)) refl

  -- it lies in the line
  pub line_room : end ≡ length (header_text n) → (l : List ℕ) → line ≡ spliced 0 (header_text n) l → length l ≡ 110 → (end ≤ length line) × (end ≡ length (take end line))
  line_room e l s k =
      let short = header_short n in
      let long : length line ≡ 110 = ap (λ (x : List ℕ). length x) s ∙ spliced_length 0 (header_text n) l (omega (arith, short.1)) ∙ k in
      let room : end ≤ length line = omega (arith, short.1) in
      (room, sym (length-take-le end line room))

  pub end_not_fit : numbers_fit n ≡ false → 0 ≡ header_end n t
  unfolding is_header
  end_not_fit h = rw h

  -- numbers that fit, and whether the line stands there
  stands : numbers_fit n ≡ true → (b : Bool) → b ≡ same (take (length (take end line)) t) (take end line) → take end line ≡ header_text n → is_header n t ≡ b
  unfolding is_header
  stands h b e m = rw h (sym (e ∙ ap (λ (x : List ℕ). same (take (length x) t) x) m))

  pub end_there : numbers_fit n ≡ true → (b : Bool) → b ≡ same (take (length (take end line)) t) (take end line) → b ≡ true → end ≡ length (header_text n) → (l : List ℕ) → line ≡ spliced 0 (header_text n) l → end ≡ header_end n t
  end_there h b e g k l s = k ∙ sym (ap (λ (x : Bool). choose x (length (header_text n)) 0) (stands h b e (line_taken k l s) ∙ g))

  pub end_not_there : numbers_fit n ≡ true → (b : Bool) → b ≡ same (take (length (take end line)) t) (take end line) → b ≡ false → end ≡ length (header_text n) → (l : List ℕ) → line ≡ spliced 0 (header_text n) l → 0 ≡ header_end n t
  end_not_there h b e g k l s = sym (ap (λ (x : Bool). choose x (length (header_text n)) 0) (stands h b e (line_taken k l s) ∙ g))
