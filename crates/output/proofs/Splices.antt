-- Bytes that are written into a slice from a place on, one after the other. Assumes nothing.
use Prim.Native.Nat.{ℕ, suc, ◌+◌, ◌-◌, ◌≤◌, ◌<◌}
use native.Mathlib.Omega.{arith}
use native.Mathlib.Nat.{add_assoc, zero-add}
use mathlib.Core.Path.{◌≡◌, refl, sym, ap, ◌∙◌, subst}
use mathlib.Core.List.{List, [], ◌∷◌, ◌++◌, append_assoc}
use lib.ListN.{length, take, drop, set, length-append, length-drop, take-append-drop}
use lib.Seq.{length-take-le, take_at, drop_at, drop-drop, take-append-add, drop-append-add, take-append-le, take-take, set_split}
use borrow.Author.Tests.{le-leb, lt-leb}
use borrow.Rule.Slice.PartMut.{put_mid, Post-is}
use Rattle.output.specs.Output.{Output, gives, refused, left_by, within, as_written, part, spliced}
use Rattle.output.specs.declared.Written.{Written}
use Rattle.output.specs.declared.Written.TheVariants.{Bytes, Refused}

-- the slice keeps its length
pub spliced_length : (at : ℕ) (t l : List ℕ) → at + length t ≤ length l → length (spliced at t l) ≡ length l
unfolding spliced
spliced_length at t l h =
    length-append (take at l) (t ++ drop (at + length t) l)
    ∙ omega (arith, h, length-take-le at l (omega arith), length-append t (drop (at + length t) l), length-drop (at + length t) l)

-- a part has the length that was asked for
pub part_length : (l : List ℕ) (at n : ℕ) → at + n ≤ length l → length (part l at n) ≡ n
part_length l at n h = length-take-le n (drop at l) (subst (λ (m : ℕ). n ≤ m) (sym (length-drop at l)) (omega arith))

-- what stands in front, with the bytes
pub spliced_take : (at : ℕ) (t l : List ℕ) → at + length t ≤ length l → take (at + length t) (spliced at t l) ≡ take at l ++ t
unfolding spliced
spliced_take at t l h =
    let front : length (take at l) ≡ at = length-take-le at l (omega arith) in
    ap (λ (n : ℕ). take (n + length t) (take at l ++ (t ++ drop (at + length t) l))) (sym front)
    ∙ take-append-add (take at l) (t ++ drop (at + length t) l) (length t)
    ∙ ap (λ (x : List ℕ). take at l ++ x) (take_at t (drop (at + length t) l) (length t) refl)

-- what stands behind
pub spliced_drop : (at : ℕ) (t l : List ℕ) (k : ℕ) → at + length t ≤ length l → drop (at + length t + k) (spliced at t l) ≡ drop (at + length t + k) l
unfolding spliced
spliced_drop at t l k h =
    let front : length (take at l) ≡ at = length-take-le at l (omega arith) in
    let tail = drop (at + length t) l in
    ap (λ (n : ℕ). drop n (take at l ++ (t ++ tail))) (add_assoc at (length t) k)
    ∙ ap (λ (n : ℕ). drop (n + (length t + k)) (take at l ++ (t ++ tail))) (sym front)
    ∙ drop-append-add (take at l) (t ++ tail) (length t + k)
    ∙ drop-append-add t tail k
    ∙ drop-drop k (at + length t) l

-- u is written first, and t in front of it
pub spliced_before : (at : ℕ) (t u l : List ℕ) → at + length t + length u ≤ length l → spliced at t (spliced (at + length t) u l) ≡ spliced at (t ++ u) l
unfolding spliced
spliced_before at t u l h =
    let mid = take (at + length t) l in
    let tail = drop (at + length t + length u) l in
    let n : length mid ≡ at + length t = length-take-le (at + length t) l (omega arith) in
    let a = take-append-le at mid (u ++ tail) (omega (arith, n)) ∙ take-take at (at + length t) l (omega arith) in
    let b = drop_at mid (u ++ tail) (at + length t) n in
    let k : at + length t + length u ≡ at + length (t ++ u) = omega (arith, length-append t u) in
    (λ i. a i ++ (t ++ b i))
    ∙ ap (λ (x : List ℕ). take at l ++ x) (sym (append_assoc t u tail))
    ∙ ap (λ (m : ℕ). take at l ++ ((t ++ u) ++ drop m l)) k

-- nothing is written
pub spliced_none : (at : ℕ) (l : List ℕ) → spliced at [] l ≡ l
unfolding spliced
spliced_none at l = let e : at + 0 ≡ at = omega arith in ap (λ (n : ℕ). take at l ++ drop n l) e ∙ take-append-drop at l

open_up : (at : ℕ) (t l : List ℕ) → spliced at t l ≡ take at l ++ (t ++ drop (at + length t) l)
unfolding spliced
open_up at t l = refl

-- t, and u behind it
pub spliced_then : (at : ℕ) (t u l : List ℕ) → at + length t + length u ≤ length l → spliced (at + length t) u (spliced at t l) ≡ spliced at (t ++ u) l
spliced_then at t u l h =
    let a = spliced_take at t l (omega arith) in
    let b = spliced_drop at t l (length u) (omega arith) in
    let n : at + length t + length u ≡ at + length (t ++ u) = omega (arith, length-append t u) in
    open_up (at + length t) u (spliced at t l)
    ∙ (λ i. a i ++ (u ++ b i))
    ∙ append_assoc (take at l) t (u ++ drop (at + length t + length u) l)
    ∙ ap (λ (x : List ℕ). take at l ++ x) (sym (append_assoc t u (drop (at + length t + length u) l)))
    ∙ ap (λ (k : ℕ). take at l ++ ((t ++ u) ++ drop k l)) n
    ∙ sym (open_up at (t ++ u) l)

-- the same, where the second place is told by its number
pub spliced_next : (at next : ℕ) (t u l m : List ℕ) → m ≡ spliced at t l → next ≡ at + length t → at + length t + length u ≤ length l → spliced next u m ≡ spliced at (t ++ u) l
spliced_next at next t u l m e n h = (λ i. spliced (n i) u (e i)) ∙ spliced_then at t u l h

-- a part that was lent comes back
pub spliced_part : (at e : ℕ) (t l : List ℕ) → at + length t ≡ e → put_mid at (e - at) l t ≡ spliced at t l
unfolding spliced
spliced_part at e t l h =
    ap (λ (x : List ℕ). take at l ++ (t ++ x)) (Post-is at e l (omega arith) ∙ ap (λ (n : ℕ). drop n l) (sym h))

-- one byte
pub spliced_byte : (at b : ℕ) (l : List ℕ) → at < length l → set l at b ≡ spliced at (b ∷ []) l
unfolding spliced
spliced_byte at b l h = let e : suc at ≡ at + 1 = omega arith in set_split l at b h ∙ ap (λ (n : ℕ). take at l ++ b ∷ drop n l) e

-- the last byte is written first
pub spliced_last : (at b i : ℕ) (t l : List ℕ) → length t ≡ i → at + i < length l → spliced at t (set l (at + i) b) ≡ spliced at (t ++ b ∷ []) l
spliced_last at b i t l e h =
    ap (λ (m : List ℕ). spliced at t m) (spliced_byte (at + i) b l h ∙ ap (λ (n : ℕ). spliced (at + n) (b ∷ []) l) (sym e))
    ∙ spliced_before at t (b ∷ []) l (omega arith)

-- what a call leaves that wrote from the slice's beginning
pub spliced_first : (t l : List ℕ) → spliced 0 t l ≡ left_by (gives t) l
unfolding spliced
spliced_first t l = ap (λ (n : ℕ). t ++ drop n l) (zero-add (length t))

-- the last test of a writing call
pub within_fits : (room : ℕ) (t : List ℕ) → length t ≤ room → within room t ≡ gives t
within_fits room t h = rw (le-leb (length t) room h)

pub within_short : (room : ℕ) (t : List ℕ) → room < length t → within room t ≡ refused 14
within_short room t h = rw (lt-leb (length t) room h)

-- what a call answers and leaves that wrote all of t, or nothing
pub written_whole : (t out new : List ℕ) (k : ℕ) → length t ≤ length out → k ≡ length t → new ≡ spliced 0 t out
    → (Bytes k ≡ as_written (within (length out) t)) × (new ≡ left_by (within (length out) t) out)
written_whole t out new k h e s = rw (within_fits (length out) t h) (ap Bytes e, s ∙ spliced_first t out)

pub written_nothing : (t out : List ℕ) → length out < length t → (Refused 14 0 ≡ as_written (within (length out) t)) × (out ≡ left_by (within (length out) t) out)
written_nothing t out h = rw (within_short (length out) t h) (refl, refl)

-- an answer and what is left, where what is to be written is known
pub answered : (o p : Output) (r : Written) (out new : List ℕ) → o ≡ p → r ≡ as_written p → new ≡ left_by p out → (r ≡ as_written o) × (new ≡ left_by o out)
answered o p r out new e a s = (a ∙ ap as_written (sym e), s ∙ ap (λ (x : Output). left_by x out) (sym e))
