use Prim.Native.Nat.{ℕ, ◌+◌, ◌-◌, ◌/◌, ◌%◌, ◌≤◌, ◌<◌}
use native.Mathlib.Omega.{arith}
use mathlib.Core.Path.{◌≡◌, refl}
use mathlib.Core.List.{List}
use lib.ListN.{length-set}
use Rattle.bitstream.specs.Bits.{bits}
use Rattle.bitstream.specs.Reading.{got}
use Rattle.bitstream.proofs.Clauses.{two}
use Rattle.bitstream.proofs.Fields.{field_end}
use Rattle.huffman.specs.Tree.{Tree, leaf, leaves, tree}
use Rattle.huffman.specs.Answer.{Told}
use Rattle.huffman.proofs.Trees.{size_leaves, tree_read, tree_lawful}
use Rattle.huffman.proofs.Grows.{tree_end, seven_full, seven_cut, seven_leaf, seven_deep, seven_refused, seven_fork, seven_left, at_once, told_tree, told_refused, leaves_told, stored_leaf, stored_got, on_4, on_7, on_refusal, on_tree, on_fork}
use Rattle.huffman.proofs.+grow.Goals as goal

-- the left tree was got, and its leaves, by the bits that it has
left_leaves : (d seen : ℕ) (p : List ℕ) (at r : ℕ) → Told r (tree d seen p (at + 1)) → r % 4 ≡ 0
    → (l : Tree) × (tree d seen p (at + 1) ≡ got l (r / 4)) × ((r / 4 - at) / 7 ≡ leaves l) × (at ≤ r / 4) × (seen + leaves l ≤ 32)
left_leaves d seen p at r a h =
    let g : (l : Tree) × (tree d seen p (at + 1) ≡ got l (r / 4)) = told_tree _ r a h in
    let w = tree_read _ _ _ _ g.1 in
    let f : ((r / 4 - at) / 7 ≡ leaves g.0) × (at ≤ r / 4) × (seen + leaves g.0 ≤ 32) = leaves_told at _ g.0 _ w.ends w.count in
    (g.0, g.1, f.0, f.1, f.2)

pub returns-then-total-at : goal.returns-then-total-at
returns-then-total-at t c =
    let a = c.args in
    two (λ x y. record { told = x; stored = y }) (on_4 a.base _ _ _ (tree_end a.seen a.packet.now a.at a.depth (field_end 1 a.packet.now a.at (omega (arith, c.if-total-at.true)))))

pub returns-then-seen-ge32 : goal.returns-then-seen-ge32
returns-then-seen-ge32 t c =
    let a = c.args in
    two (λ x y. record { told = x; stored = y }) (on_7 a.base _ _ _ (seven_full a.seen a.packet.now a.at _ c.seven_bits-seven.ensures.0 a.depth c.if-total-at.false c.if-seven-ge64.true c.if-seen-ge32.true))

pub returns-then-total-at-2 : goal.returns-then-total-at-2
returns-then-total-at-2 t c =
    let a = c.args in
    two (λ x y. record { told = x; stored = y })
    (on_4 a.base _ _ _ (seven_cut a.seen a.packet.now a.at _ c.seven_bits-seven.ensures.0 a.depth c.if-total-at.false c.if-seven-ge64.true c.if-seen-ge32.false c.if-total-at-2.true))

pub returns-then-seven-ge64 : goal.returns-then-seven-ge64
returns-then-seven-ge64 t c =
    let a = c.args in
    two (λ x y. record { told = x; stored = y })
    (on_tree a.base a.out.now _ _ (seven_leaf a.seen a.packet.now a.at _ c.seven_bits-seven.ensures.0 a.depth c.if-total-at-2.false c.if-seven-ge64.true c.if-seen-ge32.false)
    (stored_leaf a.base a.out.now _ (omega (arith, c.requires))))

pub returns-then-depth-eq0 : goal.returns-then-depth-eq0
returns-then-depth-eq0 t c =
    let a = c.args in
    two (λ x y. record { told = x; stored = y }) (on_7 a.base _ _ _ (seven_deep a.seen a.packet.now a.at _ c.seven_bits-seven.ensures.0 a.depth c.if-total-at.false c.if-seven-ge64.false c.if-depth-eq0.true))

pub returns-then-seven-seen : goal.returns-then-seven-seen
returns-then-seven-seen t c =
    let a = c.args in
    let f : (32 ≤ c.seven_bits-seven.result) × (a.seen < 32) × (a.at + 7 ≤ bits a.packet.now) = at_once _ _ _ _ c.if-seven-seen.true in
    two (λ x y. record { told = x; stored = y })
    (on_fork a.base a.seen (a.base + 2) (a.seen + 1) a.out.now _ _ (leaf (c.seven_bits-seven.result % 32)) (λ n. tree (a.depth - 1) n a.packet.now (a.at + 7)) _ _
    (omega (arith, c.requires))
    (stored_leaf (a.base + 1) a.out.now _ (omega (arith, c.requires)))
    (omega arith)
    refl
    (seven_left a.seen a.packet.now a.at _ c.seven_bits-seven.ensures.0 a.depth f.2 c.if-seven-ge64.false f.0 f.1 c.if-depth-eq0.false)
    c.grow.ensures.told
    c.grow.ensures.stored)

pub returns-then-left-ne0 : goal.returns-then-left-ne0
returns-then-left-ne0 t c =
    let a = c.args in
    let f = told_refused (tree (a.depth - 1) a.seen a.packet.now (a.at + 1)) c.grow-left.result c.grow-left.ensures.told c.if-left-ne0.true in
    two (λ x y. record { told = x; stored = y })
    (on_refusal a.base _ _ _ _ (seven_refused a.seen a.packet.now a.at _ c.seven_bits-seven.ensures.0 a.depth c.if-total-at.false c.if-seven-ge64.false c.if-depth-eq0.false f.2) f.3)

pub overflow_sub-leaves : goal.overflow_sub-leaves
overflow_sub-leaves t c = (left_leaves _ _ _ c.args.at _ c.grow-left.ensures.told c.if-left-ne0.false).3

pub overflow_cast-out-2 : goal.overflow_cast-out-2
overflow_cast-out-2 t c = let g = left_leaves _ _ _ c.args.at _ c.grow-left.ensures.told c.if-left-ne0.false in omega (arith, g.2, g.4, c.requires)

pub overflow_add-out-2 : goal.overflow_add-out-2
overflow_add-out-2 t c = let g = left_leaves _ _ _ c.args.at _ c.grow-left.ensures.told c.if-left-ne0.false in omega (arith, g.2, g.4, c.requires)

pub grow-requires-2 : goal.grow-requires-2
grow-requires-2 t c =
    let a = c.args in
    let g = left_leaves (a.depth - 1) a.seen a.packet.now a.at _ c.grow-left.ensures.told c.if-left-ne0.false in (
      omega arith,
      (
        omega (arith, c.requires),
        ((tree_lawful (a.depth - 1) a.seen).moves a.packet.now (a.at + 1) g.0 _ (omega (arith, c.if-total-at.false)) g.1).1,
        simp length-set (omega (arith, c.grow-left.auto.out)),
        omega arith,
        omega (arith, g.2, g.4),
        omega (arith, g.2, c.requires),
      ),
    )

pub returns : goal.returns
returns t c =
    let a = c.args in
    let g = left_leaves (a.depth - 1) a.seen a.packet.now a.at _ c.grow-left.ensures.told c.if-left-ne0.false in
    two (λ x y. record { told = x; stored = y })
    (on_fork a.base a.seen _ _ a.out.now _ _ g.0 (λ n. tree (a.depth - 1) n a.packet.now (c.grow-left.result / 4)) _ _
    (omega (arith, c.requires))
    (stored_got (a.base + 1) a.out.now _ _ g.1 c.grow-left.ensures.stored)
    (omega (arith, g.2, size_leaves g.0))
    (omega (arith, g.2))
    (seven_fork a.seen a.packet.now a.at _ c.seven_bits-seven.ensures.0 a.depth c.if-total-at.false c.if-seven-ge64.false c.if-depth-eq0.false g.1)
    c.grow-2.ensures.told
    c.grow-2.ensures.stored)
