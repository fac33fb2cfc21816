-- Walking the lengths: what is left of their sum, and the packets that are left. Assumes nothing.
use Prim.Native.Nat.{ℕ, ◌+◌, ◌-◌, ◌≤◌, ◌<◌}
use native.Mathlib.Omega.{arith}
use native.Mathlib.Numerals.{add-one}
use mathlib.Core.Path.{◌≡◌, sym, ap, ◌∙◌}
use mathlib.Core.List.{List, [], ◌∷◌}
use lib.ListN.{length, get_or, take, drop}
use lib.Seq.{drop-cons, drop-drop, drop-length}
use Rattle.packet_list.specs.Packets.{packets_in, total}

pub total_drop : (lengths : List ℕ) (i : ℕ) → i < length lengths → total (drop i lengths) ≡ get_or lengths i 0 + total (drop (i + 1) lengths)
unfolding total
total_drop lengths i l = ap total (drop-cons lengths i 0 l) ∙ ap (λ (k : ℕ). get_or lengths i 0 + total (drop k lengths)) (sym (add-one i))

pub total_end : (lengths : List ℕ) (i : ℕ) → length lengths ≤ i → i ≤ length lengths → total (drop i lengths) ≡ 0
unfolding total
total_end lengths i a b = let e : i ≡ length lengths = omega arith in ap (λ (k : ℕ). total (drop k lengths)) e ∙ ap total (drop-length lengths)

-- the packets from number i on, which begin at a place: the first of them, and those behind it
pub packets_left : (lengths packets : List ℕ) (i at end : ℕ) → i < length lengths → end ≡ at + get_or lengths i 0
    → packets_in (drop i lengths) (drop at packets) ≡ take (end - at) (drop at packets) ∷ packets_in (drop (i + 1) lengths) (drop end packets)
unfolding packets_in
packets_left lengths packets i at end l e =
    let n = get_or lengths i 0 in
    let long : n ≡ end - at = omega (arith, e) in
    ap (λ (l : List ℕ). packets_in l (drop at packets)) (drop-cons lengths i 0 l)
    ∙ (λ j. take (long j) (drop at packets) ∷ packets_in (drop (sym (add-one i) j) lengths) ((drop-drop n at packets ∙ ap (λ (k : ℕ). drop k packets) (sym e)) j))

pub packets_none : (lengths packets : List ℕ) (i at : ℕ) → length lengths ≤ i → i ≤ length lengths → packets_in (drop i lengths) (drop at packets) ≡ []
unfolding packets_in
packets_none lengths packets i at a b =
    let e : i ≡ length lengths = omega arith in
    ap (λ (k : ℕ). packets_in (drop k lengths) (drop at packets)) e ∙ ap (λ (l : List ℕ). packets_in l (drop at packets)) (drop-length lengths)
