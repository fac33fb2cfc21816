-- Lists of packets that are cut in two, and bytes behind the last packet. Assumes nothing.
use Prim.Native.Nat.{ℕ, suc, ◌+◌, ◌≤◌}
use native.Mathlib.Omega.{arith}
use mathlib.Core.Path.{◌≡◌, refl, ap, ap₂, ◌∙◌}
use mathlib.Core.List.{List, [], ◌∷◌, ◌++◌}
use lib.ListN.{length, take, drop, length-drop}
use lib.Seq.{drop-drop, take-append-le, drop-append-le}
use Rattle.packet_list.specs.Packets.{packets_in, total}

-- the lengths of two lists add up
pub total_cut : (first second : List ℕ) → total (first ++ second) ≡ total first + total second
unfolding total
total_cut [] second = omega arith
total_cut (n ∷ first) second = ap (λ (k : ℕ). n + k) (total_cut first second) ∙ omega arith

-- the packets of a second list begin where those of the first end
pub packets_cut : (first second joined : List ℕ) → packets_in (first ++ second) joined ≡ packets_in first joined ++ packets_in second (drop (total first) joined)
unfolding packets_in total
packets_cut [] second joined = refl
packets_cut (n ∷ first) second joined =
    ap (λ (l : List (List ℕ)). take n joined ∷ l)
    (packets_cut first second (drop n joined) ∙ ap (λ (l : List ℕ). packets_in first (drop n joined) ++ packets_in second l) (drop-drop (total first) n joined))

-- as many packets as lengths
pub packets_many : (lengths joined : List ℕ) → length (packets_in lengths joined) ≡ length lengths
unfolding packets_in
packets_many [] joined = refl
packets_many (n ∷ lengths) joined = ap suc (packets_many lengths (drop n joined))

-- "Bytes after the last packet are ignored"
pub packets_behind : (lengths joined behind : List ℕ) → total lengths ≤ length joined → packets_in lengths (joined ++ behind) ≡ packets_in lengths joined
unfolding packets_in total
packets_behind [] joined behind h = refl
packets_behind (n ∷ lengths) joined behind h =
    ap₂ {C = List (List ℕ)} (λ x xs. x ∷ xs) (take-append-le n joined behind (omega arith))
    (ap (packets_in lengths) (drop-append-le n joined behind (omega arith)) ∙ packets_behind lengths (drop n joined) behind (omega (arith, length-drop n joined)))
