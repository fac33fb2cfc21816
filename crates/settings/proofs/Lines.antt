-- The lines of a text as they are written, and what they say by their places. Assumes nothing.
use Prim.Native.Nat.{ℕ, ◌+◌, ◌≤◌}
use native.Mathlib.Omega.{arith}
use mathlib.Core.Path.{◌≡◌, refl, sym, ap, ◌∙◌}
use mathlib.Core.Bool.{Bool, true, false, ◌&&◌, ◌||◌, false≢true}
use mathlib.Core.List.{List, [], ◌∷◌, ◌++◌, append_assoc}
use lib.Dec.{eqb, leb}
use borrow.Author.Tests.{eq-eqb, ne_eqb, eqb-true, eqb-false, leb-true}
use lib.ListN.{length, take, drop, length-append}
use lib.Seq.{length-take-le, drop-drop, take_at}
use Rattle.bitstream.specs.Reading.{choose}
use Rattle.output.specs.Output.{Output, within, part, spliced}
use Rattle.output.proofs.Splices.{spliced_length, spliced_next, spliced_first}
use Rattle.text.specs.Decimal.{Scanned, digits, trimmed, decimal, number, FoundAt}
use Rattle.text.specs.Same.{same}
use Rattle.text.proofs.Decimals.{decimal_length}
use Rattle.text.proofs.Texts.{and_left, and_right}
use Rattle.settings.specs.declared.Settings.{Settings}
use Rattle.settings.specs.declared.Found.{Found}
use Rattle.settings.specs.declared.Found.TheVariants.{Is, Not}
use Rattle.settings.specs.declared.Verdict.TheVariants.{Accepted, Refused}
use Rattle.settings.specs.Settings.{settings_fit, holds, version_key, tile_key, first_key, last_key, plane_key, line, lines_then, first_lines, text_of, on_line, behind, said_in, is_text_of, is_text, Outcome, is, refused, text_found, begins_version2, read, as_found, as_loaded, settings_text}

-- ---- values in range
pub record Fit (s : Settings) : Type 0 where
  pub tile : s.tile ≤ 32
  pub last : s.shot_last ≤ 999999
  pub first : s.shot_first ≤ s.shot_last
  pub plane : s.plane ≤ 2

tile_small : (v : ℕ) (a b c : Bool) → eqb v 8 ≡ a → eqb v 16 ≡ b → eqb v 32 ≡ c → (a || b || c) ≡ true → v ≤ 32
tile_small v true b c x y z h = omega (arith, eqb-true v 8 x)
tile_small v false true c x y z h = omega (arith, eqb-true v 16 y)
tile_small v false false true x y z h = omega (arith, eqb-true v 32 z)
tile_small v false false false x y z h = absurd (false≢true h)

pub fit : (s : Settings) → settings_fit s ≡ true → Fit s
unfolding settings_fit
fit s h =
    let a = eqb s.tile 8 || eqb s.tile 16 || eqb s.tile 32 in
    let b = leb s.shot_last 999999 in
    let c = leb s.shot_first s.shot_last in
    let d = leb s.plane 2 in
    let r = and_right a (b && (c && d)) h in
    let q = and_right b (c && d) r in record {
      tile = tile_small s.tile (eqb s.tile 8) (eqb s.tile 16) (eqb s.tile 32) refl refl refl (and_left a (b && (c && d)) h);
      last = leb-true s.shot_last 999999 (and_left b (c && d) r);
      first = leb-true s.shot_first s.shot_last (and_left c d q);
      plane = leb-true s.plane 2 (and_right c d q);
    }

-- ---- a line
pub line_length : (key : List ℕ) (n : ℕ) (t : List ℕ) → length (line key n t) ≡ length key + (length (decimal n) + (1 + length t))
line_length key n t = length-append key (decimal n ++ (10 ∷ t)) ∙ ap (λ (m : ℕ). length key + m) (length-append (decimal n) (10 ∷ t)) ∙ omega arith

pub line_short : (key : List ℕ) (n : ℕ) → length key ≤ 11 → length (line key n []) ≤ 22
line_short key n h = omega (arith, line_length key n [], decimal_length n)

pub line_then : (key : List ℕ) (n : ℕ) (t : List ℕ) → line key n [] ++ t ≡ line key n t
line_then key n t = append_assoc key (decimal n ++ (10 ∷ [])) t ∙ ap (λ (x : List ℕ). key ++ x) (append_assoc (decimal n) (10 ∷ []) t)

module _ (key : List ℕ) (n at : ℕ) (o : List ℕ) (small : length key ≤ 11) (room : at + 22 ≤ length o) where
  pub line_written : (value end r : ℕ) (o₁ o₂ o₃ : List ℕ)
      → value ≡ at + length key → o₁ ≡ spliced at key o
      → end ≡ value + length (decimal n) → o₂ ≡ spliced value (decimal n) o₁
      → r ≡ end + 1 → o₃ ≡ spliced end (10 ∷ []) o₂
      → (r ≡ at + length (line key n [])) × (o₃ ≡ spliced at (line key n []) o)
  line_written value end r o₁ o₂ o₃ e₁ s₁ e₂ s₂ e₃ s₃ =
      let d = decimal_length n in
      let p = length-append key (decimal n) in
      let t₂ = s₂ ∙ spliced_next at value key (decimal n) o o₁ s₁ e₁ (omega arith) in
      let t₃ = s₃ ∙ spliced_next at end (key ++ decimal n) (10 ∷ []) o o₂ t₂ (omega arith) (omega arith) in
      (omega (arith, line_length key n []), t₃ ∙ ap (λ (x : List ℕ). spliced at x o) (append_assoc key (decimal n) (10 ∷ [])))

-- ---- the lines that both versions have
module _ (version : ℕ) (s : Settings) where
  pub lines_then_law : (t : List ℕ) → first_lines version s ++ t ≡ lines_then version s t
  unfolding lines_then
  lines_then_law t = simp append_assoc

  flat_lines : ((line version_key version [] ++ line tile_key s.tile []) ++ line first_key s.shot_first []) ++ line last_key s.shot_last [] ≡ first_lines version s
  unfolding lines_then
  flat_lines = simp append_assoc

  first_length : length (first_lines version s)
      ≡ length (line version_key version []) + (length (line tile_key s.tile []) + (length (line first_key s.shot_first []) + length (line last_key s.shot_last [])))
  unfolding lines_then
  first_length =
      let d = line last_key s.shot_last [] in
      let c = line first_key s.shot_first d in
      let b = line tile_key s.tile c in
      omega (
        arith,
        line_length version_key version b,
        line_length tile_key s.tile c,
        line_length first_key s.shot_first d,
        line_length last_key s.shot_last [],
        line_length version_key version [],
        line_length tile_key s.tile [],
        line_length first_key s.shot_first [],
      )

  pub first_short : length (first_lines version s) ≤ 78
  first_short =
      omega (
        arith,
        first_length,
        line_length version_key version [],
        line_length tile_key s.tile [],
        line_length first_key s.shot_first [],
        line_length last_key s.shot_last [],
        decimal_length version,
        decimal_length s.tile,
        decimal_length s.shot_first,
        decimal_length s.shot_last,
      )

  pub first_written : (o : List ℕ) → 110 ≤ length o → (tile first last r : ℕ) (o₁ o₂ o₃ o₄ : List ℕ)
      → tile ≡ 0 + length (line version_key version []) → o₁ ≡ spliced 0 (line version_key version []) o
      → first ≡ tile + length (line tile_key s.tile []) → o₂ ≡ spliced tile (line tile_key s.tile []) o₁
      → last ≡ first + length (line first_key s.shot_first []) → o₃ ≡ spliced first (line first_key s.shot_first []) o₂
      → r ≡ last + length (line last_key s.shot_last []) → o₄ ≡ spliced last (line last_key s.shot_last []) o₃
      → (r ≡ length (first_lines version s)) × (o₄ ≡ spliced 0 (first_lines version s) o)
  first_written o room tile first last r o₁ o₂ o₃ o₄ e₁ s₁ e₂ s₂ e₃ s₃ e₄ s₄ =
      let A = line version_key version [] in
      let B = line tile_key s.tile [] in
      let C = line first_key s.shot_first [] in
      let D = line last_key s.shot_last [] in
      let all = first_length in
      let short = first_short in
      let p₁ = length-append A B in
      let p₂ = length-append (A ++ B) C in
      let t₂ = s₂ ∙ spliced_next 0 tile A B o o₁ s₁ e₁ (omega arith) in
      let t₃ = s₃ ∙ spliced_next 0 first (A ++ B) C o o₂ t₂ (omega arith) (omega arith) in
      let t₄ = s₄ ∙ spliced_next 0 last ((A ++ B) ++ C) D o o₃ t₃ (omega arith) (omega arith) in
      (omega arith, t₄ ∙ ap (λ (x : List ℕ). spliced 0 x o) flat_lines)

-- ---- the whole text
module _ (version : ℕ) (s : Settings) where
  pub text_1 : (version ≡ 2 → ⊥) → text_of version s ≡ first_lines version s
  unfolding text_of
  text_1 z = rw (ne_eqb version 2 z)

  pub text_2 : version ≡ 2 → text_of version s ≡ first_lines version s ++ line plane_key s.plane []
  unfolding text_of
  text_2 e = rw (eq-eqb version 2 e) (sym (lines_then_law version s (line plane_key s.plane [])))

  by_version : (b : Bool) → eqb version 2 ≡ b → length (text_of version s) ≤ 95
  by_version true e = omega (arith, ap (λ (x : List ℕ). length x) (text_2 (eqb-true version 2 e)), length-append (first_lines version s) (line plane_key s.plane []), first_short version s, line_length plane_key s.plane [], decimal_length s.plane)
  by_version false e = omega (arith, ap (λ (x : List ℕ). length x) (text_1 (eqb-false version 2 e)), first_short version s)

  pub text_fits : length (text_of version s) ≤ 95
  text_fits = by_version (eqb version 2) refl

  pub text_written_2 : version ≡ 2 → (o o₁ o₂ : List ℕ) (plane r : ℕ) → 110 ≤ length o → plane ≡ length (first_lines version s) → o₁ ≡ spliced 0 (first_lines version s) o
      → r ≡ plane + length (line plane_key s.plane []) → o₂ ≡ spliced plane (line plane_key s.plane []) o₁
      → (r ≡ length (text_of version s)) × (o₂ ≡ spliced 0 (text_of version s) o)
  text_written_2 v o o₁ o₂ plane r room e₁ s₁ e₂ s₂ =
      let short = first_short version s in
      let here = line_length plane_key s.plane [] in
      let d = decimal_length s.plane in
      let both = length-append (first_lines version s) (line plane_key s.plane []) in (
        omega (arith, ap (λ (x : List ℕ). length x) (text_2 v)),
        s₂ ∙ spliced_next 0 plane (first_lines version s) (line plane_key s.plane []) o o₁ s₁ (omega arith) (omega arith) ∙ ap (λ (x : List ℕ). spliced 0 x o) (sym (text_2 v)),
      )

  -- a slice in which the text was written: it lies in it, and is its beginning
  pub line_room : (made o : List ℕ) (end : ℕ) → end ≡ length (text_of version s) → made ≡ spliced 0 (text_of version s) o → length o ≡ 110 → (end ≤ length made) × (end ≡ length (take end made))
  line_room made o end e k l =
      let short = text_fits in
      let long : length made ≡ 110 = ap (λ (x : List ℕ). length x) k ∙ spliced_length 0 (text_of version s) o (omega arith) ∙ l in
      let room : end ≤ length made = omega arith in
      (room, sym (length-take-le end made room))

  pub line_taken : (made o : List ℕ) (end : ℕ) → end ≡ length (text_of version s) → made ≡ spliced 0 (text_of version s) o → take end made ≡ text_of version s
  line_taken made o end e k =
      (λ i. take (e i) ((k ∙ spliced_first (text_of version s) o) i))
      ∙ take_at (text_of version s) (drop (length (text_of version s)) o) (length (text_of version s)) refl

  -- ---- the writing call
  pub text_20 : (room : ℕ) → (settings_fit s && holds version s) ≡ false → settings_text version s room ≡ Output.refused 20
  unfolding settings_text
  text_20 room h = rw h

  pub text_is : (room : ℕ) → (settings_fit s && holds version s) ≡ true → settings_text version s room ≡ within room (text_of version s)
  unfolding settings_text
  text_is room h = rw h

  by_holds : (a b c : Bool) → eqb version 1 ≡ a → eqb version 2 ≡ c → ((a && b) || c) ≡ true → version ≤ 2
  by_holds true b c x y h = omega (arith, eqb-true version 1 x)
  by_holds false b true x y h = omega (arith, eqb-true version 2 y)
  by_holds false b false x y h = absurd (false≢true h)

  pub held_small : holds version s ≡ true → version ≤ 2
  unfolding holds
  held_small h = by_holds (eqb version 1) (eqb s.plane 0) (eqb version 2) refl refl h

-- ---- what the lines say, by their places
after : (t : List ℕ) (at v next k : ℕ) (m : Scanned) → FoundAt t at v next → number (drop at t) ≡ m → number (drop (next + (1 + k)) t) ≡ number (drop k (behind m))
after t at v next k m f e =
    ap number (sym (drop-drop (1 + k) next t) ∙ ap (λ (l : List ℕ). drop (1 + k) l) f.behind ∙ ap (λ (x : Scanned). drop (1 + k) x.rest) e ∙ sym (drop-drop k 1 m.rest))

value : (t : List ℕ) (at v next : ℕ) (m : Scanned) → FoundAt t at v next → number (drop at t) ≡ m → v ≡ m.value
value t at v next m f e = f.is ∙ ap (λ (x : Scanned). x.value) e

module _ (version : ℕ) (t : List ℕ) (v₁ n₁ v₂ n₂ v₃ n₃ v₄ n₄ v₅ n₅ : ℕ)
    (f₁ : FoundAt t 8 v₁ n₁) (f₂ : FoundAt t (n₁ + 6) v₂ n₂) (f₃ : FoundAt t (n₂ + 12) v₃ n₃) (f₄ : FoundAt t (n₃ + 11) v₄ n₄) (f₅ : FoundAt t (n₄ + 7) v₅ n₅) where
  said : (plane : ℕ) → plane ≡ choose (eqb version 2) v₅ 0 → ◌≡◌ {A = Settings} (record { tile = v₂; shot_first = v₃; shot_last = v₄; plane = plane }) (said_in version t)
  unfolding said_in
  said plane p =
      let m₁ = on_line version_key t in
      let m₂ = on_line tile_key (behind m₁) in
      let m₃ = on_line first_key (behind m₂) in
      let m₄ = on_line last_key (behind m₃) in
      let m₅ = on_line plane_key (behind m₄) in
      let e₂ : number (drop (n₁ + 6) t) ≡ m₂ = after t 8 v₁ n₁ 5 m₁ f₁ refl in
      let e₃ : number (drop (n₂ + 12) t) ≡ m₃ = after t (n₁ + 6) v₂ n₂ 11 m₂ f₂ e₂ in
      let e₄ : number (drop (n₃ + 11) t) ≡ m₄ = after t (n₂ + 12) v₃ n₃ 10 m₃ f₃ e₃ in
      let e₅ : number (drop (n₄ + 7) t) ≡ m₅ = after t (n₃ + 11) v₄ n₄ 6 m₄ f₄ e₄ in
      let w₂ = value t (n₁ + 6) v₂ n₂ m₂ f₂ e₂ in
      let w₃ = value t (n₂ + 12) v₃ n₃ m₃ f₃ e₃ in
      let w₄ = value t (n₃ + 11) v₄ n₄ m₄ f₄ e₄ in
      let w₅ = p ∙ ap (λ (x : ℕ). choose (eqb version 2) x 0) (value t (n₄ + 7) v₅ n₅ m₅ f₅ e₅) in
      λ i. record { tile = w₂ i; shot_first = w₃ i; shot_last = w₄ i; plane = w₅ i }

  pub said_there : version ≡ 2 → ◌≡◌ {A = Settings} (record { tile = v₂; shot_first = v₃; shot_last = v₄; plane = v₅ }) (said_in version t)
  said_there e = said v₅ (sym (ap (λ (b : Bool). choose b v₅ 0) (eq-eqb version 2 e)))

  pub said_0 : (version ≡ 2 → ⊥) → ◌≡◌ {A = Settings} (record { tile = v₂; shot_first = v₃; shot_last = v₄; plane = 0 }) (said_in version t)
  said_0 z = said 0 (sym (ap (λ (b : Bool). choose b v₅ 0) (ne_eqb version 2 z)))

-- ---- the reading calls
module _ (version : ℕ) (s : Settings) (t : List ℕ) where
  pub not_fit : settings_fit s ≡ false → false ≡ is_text_of version s t
  unfolding is_text_of
  not_fit h = rw h

  pub compared : settings_fit s ≡ true → (b : Bool) (made : List ℕ) → b ≡ same t made → made ≡ text_of version s → b ≡ is_text_of version s t
  unfolding is_text_of
  compared h b made e m = rw h (e ∙ ap (same t) m)

module _ (version : ℕ) (t : List ℕ) (s : Settings) (e : s ≡ said_in version t) where
  same_said : is_text_of version s t ≡ is_text version t
  same_said = ap (λ (x : Settings). is_text_of version x t) e

  pub text_there : is_text_of version s t ≡ true → Is s ≡ as_found (text_found version t)
  text_there h = ap Is e ∙ sym (ap as_found (ap (λ (b : Bool). choose b (is (said_in version t)) (refused 20)) (sym same_said ∙ h)))

  pub text_other : is_text_of version s t ≡ false → Not 20 ≡ as_found (text_found version t)
  text_other h = sym (ap as_found (ap (λ (b : Bool). choose b (is (said_in version t)) (refused 20)) (sym same_said ∙ h)))

module _ (version : ℕ) (t : List ℕ) where
  begins : (b : Bool) → b ≡ same (part t 0 10) (118 ∷ 101 ∷ 114 ∷ 115 ∷ 105 ∷ 111 ∷ 110 ∷ 61 ∷ 50 ∷ 10 ∷ []) → begins_version2 t ≡ b
  unfolding begins_version2 decimal trimmed digits
  begins b e = sym e

  pub read_19 : version ≡ 1 → (b : Bool) → b ≡ same (part t 0 10) (118 ∷ 101 ∷ 114 ∷ 115 ∷ 105 ∷ 111 ∷ 110 ∷ 61 ∷ 50 ∷ 10 ∷ []) → b ≡ true → Not 19 ≡ as_found (read version t)
  unfolding read
  read_19 v b e h = rw (eq-eqb version 1 v, begins b e ∙ h)

  pub read_by_1 : version ≡ 1 → (b : Bool) → b ≡ same (part t 0 10) (118 ∷ 101 ∷ 114 ∷ 115 ∷ 105 ∷ 111 ∷ 110 ∷ 61 ∷ 50 ∷ 10 ∷ []) → b ≡ false → (r : Found) → r ≡ as_found (text_found 1 t) → r ≡ as_found (read version t)
  unfolding read
  read_by_1 v b e h r f = rw (eq-eqb version 1 v, begins b e ∙ h) f

  -- version 2 takes a text of version 1 first
  by_1 : (b : Bool) → is_text 1 t ≡ b → (r : Found) (k : ℕ) → r ≡ as_found (choose b (is (said_in 1 t)) (refused 20)) → r ≡ Not k → is_text 1 t ≡ false
  by_1 true h r k e n = let z : ◌≡◌ {A = ℕ} 0 1 = cc in absurd (omega arith)
  by_1 false h r k e n = h

  pub read_old : (version ≡ 1 → ⊥) → version ≡ 2 → (r : Found) → r ≡ as_found (text_found 1 t) → (s : Settings) → r ≡ Is s → r ≡ as_found (read version t)
  unfolding read
  read_old z v r e s i = rw (ne_eqb version 1 z, eq-eqb version 2 v) (by (is_text 1 t) refl)
    where
      by : (b : Bool) → is_text 1 t ≡ b → r ≡ as_found (choose (is_text 1 t) (is (said_in 1 t)) (text_found 2 t))
      by true h = e ∙ ap as_found (ap (λ (b : Bool). choose b (is (said_in 1 t)) (refused 20)) h ∙ sym (ap (λ (b : Bool). choose b (is (said_in 1 t)) (text_found 2 t)) h))
      by false h = let w : r ≡ Not 20 = e ∙ ap as_found (ap (λ (b : Bool). choose b (is (said_in 1 t)) (refused 20)) h) in let q : ◌≡◌ {A = ℕ} 0 1 = cc in absurd (omega arith)

  pub read_new : (version ≡ 1 → ⊥) → version ≡ 2 → (r : Found) (k : ℕ) → r ≡ as_found (text_found 1 t) → r ≡ Not k → (x : Found) → x ≡ as_found (text_found 2 t) → x ≡ as_found (read version t)
  unfolding read
  read_new z v r k e n x f =
      rw (ne_eqb version 1 z, eq-eqb version 2 v) (f ∙ sym (ap as_found (ap (λ (b : Bool). choose b (is (said_in 1 t)) (text_found 2 t)) (by_1 (is_text 1 t) refl r k e n))))

  pub read_third : (version ≡ 1 → ⊥) → (version ≡ 2 → ⊥) → Not 20 ≡ as_found (read version t)
  unfolding read
  read_third z v = rw (ne_eqb version 1 z, ne_eqb version 2 v)

-- a verdict, by what was found
pub loaded_is : (old : Settings) (o : Outcome) (r : Found) (s : Settings) → r ≡ as_found o → r ≡ Is s → record { verdict = Accepted; settings = s } ≡ as_loaded old o
loaded_is old (is x) r s e h = let q : s ≡ x = cc in λ i. record { verdict = Accepted; settings = q i }
loaded_is old (refused k) r s e h = let q : ◌≡◌ {A = ℕ} 0 1 = cc in absurd (omega arith)

pub loaded_not : (old : Settings) (o : Outcome) (r : Found) (k : ℕ) → r ≡ as_found o → r ≡ Not k → record { verdict = Refused k 0; settings = old } ≡ as_loaded old o
loaded_not old (is x) r k e h = let q : ◌≡◌ {A = ℕ} 0 1 = cc in absurd (omega arith)
loaded_not old (refused j) r k e h = let q : k ≡ j = cc in λ i. record { verdict = Refused (q i) 0; settings = old }
