use Prim.Native.Nat.{ℕ, ◌+◌, ◌*◌, ◌/◌, ◌%◌, ◌^◌}
use native.Mathlib.Omega.{arith}
use mathlib.Core.Path.{◌≡◌, ap, ◌∙◌}
use lib.ListN.{length-set}
use Rattle.stored_trees.proofs.Loads.{State, head_start, head_room, head_kept, head_filled, state_room, state_fork, state_full, state_cut, state_whole, state_open, state_leaf}
use Rattle.bitstream.proofs.Clauses.{two}
use Rattle.stored_trees.proofs.load_tree.Goals as goal
use Rattle.stored_trees.proofs.load_tree.Goals.{then-leaves-eq0, else-leaves-eq0}

pub loop-leaves-init : goal.loop-leaves-init
loop-leaves-init c = (omega arith, head_start c.args.packet.now c.args.at 0 c.args.nodes.now c.requires.2)

pub overflow_add-place : goal.overflow_add-place
overflow_add-place c = let r = head_room c.args.packet.now c.args.at c.loop-leaves.window c.loop-leaves.index c.loop-leaves.leaves c.loop-leaves.open c.loop-leaves.nodes c.loop-leaves.invariant.1 in
    record { fits = omega (arith, r.0, r.1, c.loop-leaves.invariant.0, c.requires.0, c.requires.1) }

pub overflow_add-from : goal.overflow_add-from
overflow_add-from c = let r = head_room c.args.packet.now c.args.at c.loop-leaves.window c.loop-leaves.index c.loop-leaves.leaves c.loop-leaves.open c.loop-leaves.nodes c.loop-leaves.invariant.1 in
    record { fits = omega (arith, r.1, c.loop-leaves.invariant.0, c.requires.0, c.requires.1) }

pub loop-window-init : goal.loop-window-init
loop-window-init c =
    let filled : (c.if-leaves-eq0.from ≡ c.args.at + (c.loop-leaves.leaves + 1 + 3) / 4 * 20) × State c.args.packet.now c.args.at c.if-leaves-eq0.window c.loop-leaves.index c.loop-leaves.leaves c.loop-leaves.open c.loop-leaves.nodes =
    let k = c.loop-leaves.from + c.loop-leaves.index in
    elim c.if-leaves-eq0.branch [
      | then-leaves-eq0 x ↦ (omega (arith, c.loop-leaves.invariant.0, x.if-leaves-eq0.true, x.from-is), head_filled c.args.packet.now c.args.at c.loop-leaves.window c.loop-leaves.index c.loop-leaves.leaves c.loop-leaves.open c.loop-leaves.nodes c.loop-leaves.invariant.1 c.if-leaves-eq0.window k x.if-leaves-eq0.true (omega (arith, c.loop-leaves.invariant.0, x.if-leaves-eq0.true)) (x.window-is ∙ ap (λ (y : ℕ). y * 2 ^ (k % 8) % 2 ^ 64) x.window.ensures))
      | else-leaves-eq0 x ↦ (omega (arith, c.loop-leaves.invariant.0, x.if-leaves-eq0.false, x.from-is), head_kept c.args.packet.now c.args.at c.loop-leaves.window c.loop-leaves.index c.loop-leaves.leaves c.loop-leaves.open c.loop-leaves.nodes c.loop-leaves.invariant.1 c.if-leaves-eq0.window x.window-is x.if-leaves-eq0.false)
    ] in
    (omega arith, (filled).1)

pub returns-then-index-leaves : goal.returns-then-index-leaves
returns-then-index-leaves c = let r = state_room c.args.packet.now c.args.at c.loop-window.window c.loop-window.index c.loop-leaves.leaves c.loop-window.open c.loop-window.nodes c.loop-window.invariant.1 in two (λ a b. record { value = a; if_got = b }) (state_full c.args.packet.now c.args.at c.loop-window.window c.loop-window.index c.loop-leaves.leaves c.loop-window.open c.loop-window.nodes c.loop-window.invariant.1 c.loop-window-test.true c.if-index-leaves.true)

pub overflow_cast-nodes : goal.overflow_cast-nodes
overflow_cast-nodes c = let r = state_room c.args.packet.now c.args.at c.loop-window.window c.loop-window.index c.loop-leaves.leaves c.loop-window.open c.loop-window.nodes c.loop-window.invariant.1 in
    record { fits = omega (arith, r.2) }

pub bounds-nodes-index : goal.bounds-nodes-index
bounds-nodes-index c = let r = state_room c.args.packet.now c.args.at c.loop-window.window c.loop-window.index c.loop-leaves.leaves c.loop-window.open c.loop-window.nodes c.loop-window.invariant.1 in
    omega (arith, r.0, r.3)

pub overflow_add-index : goal.overflow_add-index
overflow_add-index c = let r = state_room c.args.packet.now c.args.at c.loop-window.window c.loop-window.index c.loop-leaves.leaves c.loop-window.open c.loop-window.nodes c.loop-window.invariant.1 in
    record { fits = omega (arith, r.0) }

pub loop-window-smaller : goal.loop-window-smaller
loop-window-smaller c = let r = state_room c.args.packet.now c.args.at c.loop-window.window c.loop-window.index c.loop-leaves.leaves c.loop-window.open c.loop-window.nodes c.loop-window.invariant.1 in
    omega (arith, r.0)

pub loop-window-preserved : goal.loop-window-preserved
loop-window-preserved c = let r = state_room c.args.packet.now c.args.at c.loop-window.window c.loop-window.index c.loop-leaves.leaves c.loop-window.open c.loop-window.nodes c.loop-window.invariant.1 in
    (omega (arith, c.loop-window.invariant.0), state_fork c.args.packet.now c.args.at c.loop-window.window c.loop-window.index c.loop-leaves.leaves c.loop-window.open c.loop-window.nodes c.loop-window.invariant.1 c.loop-window-test.true c.if-index-leaves.false)

pub bounds-nodes-index-in-loop-leaves : goal.bounds-nodes-index-in-loop-leaves
bounds-nodes-index-in-loop-leaves c = let r = state_room c.args.packet.now c.args.at c.loop-window.window c.loop-window.index c.loop-leaves.leaves c.loop-window.open c.loop-window.nodes c.loop-window.invariant.1 in
    omega (arith, r.0, r.3)

pub overflow_add-index-in-loop-leaves : goal.overflow_add-index-in-loop-leaves
overflow_add-index-in-loop-leaves c = let r = state_room c.args.packet.now c.args.at c.loop-window.window c.loop-window.index c.loop-leaves.leaves c.loop-window.open c.loop-window.nodes c.loop-window.invariant.1 in
    record { fits = omega (arith, r.0) }

pub overflow_mul-leaves : goal.overflow_mul-leaves
overflow_mul-leaves c = let r = state_room c.args.packet.now c.args.at c.loop-window.window c.loop-window.index c.loop-leaves.leaves c.loop-window.open c.loop-window.nodes c.loop-window.invariant.1 in
    record { fits = omega (arith, r.1) }

pub overflow_add-at : goal.overflow_add-at
overflow_add-at c = let r = state_room c.args.packet.now c.args.at c.loop-window.window c.loop-window.index c.loop-leaves.leaves c.loop-window.open c.loop-window.nodes c.loop-window.invariant.1 in
    record { fits = omega (arith, r.1, c.requires.0, c.requires.1) }

pub returns-then-packet-at : goal.returns-then-packet-at
returns-then-packet-at c = let r = state_room c.args.packet.now c.args.at c.loop-window.window c.loop-window.index c.loop-leaves.leaves c.loop-window.open c.loop-window.nodes c.loop-window.invariant.1 in two (λ a b. record { value = a; if_got = b }) (state_cut c.args.packet.now c.args.at c.loop-window.window c.loop-window.index c.loop-leaves.leaves c.loop-window.open c.loop-window.nodes c.loop-window.invariant.1 (omega (arith, c.loop-window-test.false)) c.if-open-eq64.true c.requires.1 c.if-packet-at.true)

pub returns-then-open-eq64 : goal.returns-then-open-eq64
returns-then-open-eq64 c = let r = state_room c.args.packet.now c.args.at c.loop-window.window c.loop-window.index c.loop-leaves.leaves c.loop-window.open c.loop-window.nodes c.loop-window.invariant.1 in two (λ a b. record { value = a; if_got = b }) (state_whole c.args.packet.now c.args.at c.loop-window.window c.loop-window.index c.loop-leaves.leaves c.loop-window.open c.loop-window.nodes c.loop-window.invariant.1 (omega (arith, c.loop-window-test.false)) c.if-open-eq64.true c.if-packet-at.false)

pub bounds-nodes-fork : goal.bounds-nodes-fork
bounds-nodes-fork c = let r = state_room c.args.packet.now c.args.at c.loop-window.window c.loop-window.index c.loop-leaves.leaves c.loop-window.open c.loop-window.nodes c.loop-window.invariant.1 in
    simp length-set (omega (arith, r.3, state_open c.args.packet.now c.args.at c.loop-window.window c.loop-window.index c.loop-leaves.leaves c.loop-window.open c.loop-window.nodes c.loop-window.invariant.1 (omega (arith, c.loop-window-test.false)) c.if-open-eq64.false))

pub overflow_cast-nodes-in-loop-leaves-2 : goal.overflow_cast-nodes-in-loop-leaves-2
overflow_cast-nodes-in-loop-leaves-2 c = let r = state_room c.args.packet.now c.args.at c.loop-window.window c.loop-window.index c.loop-leaves.leaves c.loop-window.open c.loop-window.nodes c.loop-window.invariant.1 in
    record { fits = omega (arith, r.0) }

pub overflow_add-nodes : goal.overflow_add-nodes
overflow_add-nodes c = let r = state_room c.args.packet.now c.args.at c.loop-window.window c.loop-window.index c.loop-leaves.leaves c.loop-window.open c.loop-window.nodes c.loop-window.invariant.1 in
    record { fits = omega (arith, r.0) }

pub bounds-nodes-fork-in-loop-leaves : goal.bounds-nodes-fork-in-loop-leaves
bounds-nodes-fork-in-loop-leaves c = let r = state_room c.args.packet.now c.args.at c.loop-window.window c.loop-window.index c.loop-leaves.leaves c.loop-window.open c.loop-window.nodes c.loop-window.invariant.1 in
    simp length-set (omega (arith, r.3, state_open c.args.packet.now c.args.at c.loop-window.window c.loop-window.index c.loop-leaves.leaves c.loop-window.open c.loop-window.nodes c.loop-window.invariant.1 (omega (arith, c.loop-window-test.false)) c.if-open-eq64.false))

pub loop-leaves-smaller : goal.loop-leaves-smaller
loop-leaves-smaller c = let r = state_room c.args.packet.now c.args.at c.loop-window.window c.loop-window.index c.loop-leaves.leaves c.loop-window.open c.loop-window.nodes c.loop-window.invariant.1 in
    omega (arith, r.0, c.loop-window.invariant.0)

pub loop-leaves-preserved : goal.loop-leaves-preserved
loop-leaves-preserved c =
    let filled : (c.if-leaves-eq0.from ≡ c.args.at + (c.loop-leaves.leaves + 1 + 3) / 4 * 20) × State c.args.packet.now c.args.at c.if-leaves-eq0.window c.loop-leaves.index c.loop-leaves.leaves c.loop-leaves.open c.loop-leaves.nodes =
    let k = c.loop-leaves.from + c.loop-leaves.index in
    elim c.if-leaves-eq0.branch [
      | then-leaves-eq0 x ↦ (omega (arith, c.loop-leaves.invariant.0, x.if-leaves-eq0.true, x.from-is), head_filled c.args.packet.now c.args.at c.loop-leaves.window c.loop-leaves.index c.loop-leaves.leaves c.loop-leaves.open c.loop-leaves.nodes c.loop-leaves.invariant.1 c.if-leaves-eq0.window k x.if-leaves-eq0.true (omega (arith, c.loop-leaves.invariant.0, x.if-leaves-eq0.true)) (x.window-is ∙ ap (λ (y : ℕ). y * 2 ^ (k % 8) % 2 ^ 64) x.window.ensures))
      | else-leaves-eq0 x ↦ (omega (arith, c.loop-leaves.invariant.0, x.if-leaves-eq0.false, x.from-is), head_kept c.args.packet.now c.args.at c.loop-leaves.window c.loop-leaves.index c.loop-leaves.leaves c.loop-leaves.open c.loop-leaves.nodes c.loop-leaves.invariant.1 c.if-leaves-eq0.window x.window-is x.if-leaves-eq0.false)
    ] in
    let r = state_room c.args.packet.now c.args.at c.loop-window.window c.loop-window.index c.loop-leaves.leaves c.loop-window.open c.loop-window.nodes c.loop-window.invariant.1 in
    ((filled).0, state_leaf c.args.packet.now c.args.at c.loop-window.window c.loop-window.index c.loop-leaves.leaves c.loop-window.open c.loop-window.nodes c.loop-window.invariant.1 (omega (arith, c.loop-window-test.false)) c.if-open-eq64.false)
