-- What was compared, part by part. Assumes nothing.
use Prim.Native.Nat.{ℕ, ◌+◌, ◌≤◌, ◌<◌}
use native.Mathlib.Omega.{arith}
use native.Mathlib.Nat.{add-zero}
use mathlib.Core.Path.{◌≡◌, refl, sym, ap, ◌∙◌}
use mathlib.Core.Bool.{Bool, true, false}
use mathlib.Core.List.{List, [], ◌++◌}
use lib.Dec.{ltb}
use lib.ListN.{length, drop, length-append, length-drop}
use lib.Seq.{drop-drop}
use borrow.Author.Tests.{ltb-true, ltb-false, lt-ltb, le-ltb}
use Rattle.bitstream.specs.Reading.{choose}
use Rattle.stream_check.specs.declared.Compared.{Compared}
use Rattle.stream_check.specs.Compared.{difference, onward}
use Rattle.stream_check.proofs.Differences.{within_want, within_file, parts_differ, parts_agree}

abbrev at : ℕ → Bool → Compared
at place differs = record { place = place; differs = differs }

-- a difference that was found stays
pub onward_found : (c : Compared) (want file : List ℕ) → c.differs ≡ true → onward c want file ≡ c
unfolding onward
onward_found c want file h = rw h

pub onward_on : (c : Compared) (want file : List ℕ) → c.differs ≡ false
    → onward c want file ≡ at (c.place + difference want (drop c.place file)) (ltb (difference want (drop c.place file)) (length want))
unfolding onward
onward_on c want file h = rw h

-- the place stays in the file
pub onward_inside : (c : Compared) (want file : List ℕ) → c.place ≤ length file → (onward c want file).place ≤ length file
unfolding onward
onward_inside c want file l = go c.differs
  where
    go : (t : Bool) → (choose t c (at (c.place + difference want (drop c.place file)) (ltb (difference want (drop c.place file)) (length want)))).place ≤ length file
    go true = l
    go false = omega (arith, within_file want (drop c.place file), length-drop c.place file)

-- nothing more
pub onward_none : (c : Compared) (file : List ℕ) → c ≡ onward c [] file
unfolding onward difference
onward_none c file = go c.differs refl
  where
    go : (t : Bool) → c.differs ≡ t → c ≡ choose t c (at (c.place + 0) false)
    go true h = refl
    go false h = λ i. at (sym (add-zero c.place) i) (h i)

-- one part after the other
module _ (c : Compared) (a b file : List ℕ) where
  abbrev f : List ℕ
  f = drop c.place file

  abbrev m : ℕ
  m = difference a f

  abbrev n : ℕ
  n = difference b (drop (length a) f)

  abbrev whole : ℕ
  whole = difference (a ++ b) f

  whole_test : whole ≡ length a + n → ltb n (length b) ≡ ltb whole (length (a ++ b))
  whole_test e = test (ltb n (length b)) refl
    where
      test : (t : Bool) → ltb n (length b) ≡ t → t ≡ ltb whole (length (a ++ b))
      test true h = sym (lt-ltb whole (length (a ++ b)) (omega (arith, e, length-append a b, ltb-true n (length b) h)))
      test false h = sym (le-ltb whole (length (a ++ b)) (omega (arith, e, length-append a b, ltb-false n (length b) h)))

  second : (t : Bool) → ltb m (length a) ≡ t → onward (at (c.place + m) t) b file ≡ at (c.place + whole) (ltb whole (length (a ++ b)))
  second true h =
      let l = ltb-true m (length a) h in
      let e = parts_differ a b f l in
      let k : whole < length (a ++ b) = omega (arith, e, l, length-append a b) in
      onward_found (at (c.place + m) true) b file refl ∙ (λ i. at (c.place + sym e i) (sym (lt-ltb whole (length (a ++ b)) k) i))
  second false h =
      let l = ltb-false m (length a) h in
      let s : m ≡ length a = omega (arith, l, within_want a f) in
      let e = parts_agree a b f s in
      let z : c.place + length a ≡ length a + c.place = omega arith in
      let q : drop (c.place + m) file ≡ drop (length a) f = ap (λ (k : ℕ). drop (c.place + k) file) s ∙ sym (drop-drop (length a) c.place file) in
      let w : c.place + m + n ≡ c.place + whole = omega (arith, s, e) in
      onward_on (at (c.place + m) false) b file refl
      ∙ ap (λ (g : List ℕ). at (c.place + m + difference b g) (ltb (difference b g) (length b))) q
      ∙ (λ i. at (w i) (whole_test e i))

  pub onward_parts : onward (onward c a file) b file ≡ onward c (a ++ b) file
  onward_parts = go c.differs refl
    where
      go : (t : Bool) → c.differs ≡ t → onward (onward c a file) b file ≡ onward c (a ++ b) file
      go true h = ap (λ (d : Compared). onward d b file) (onward_found c a file h) ∙ onward_found c b file h ∙ sym (onward_found c (a ++ b) file h)
      go false h = ap (λ (d : Compared). onward d b file) (onward_on c a file h) ∙ second (ltb m (length a)) refl ∙ sym (onward_on c (a ++ b) file h)
