use Prim.Native.Nat.{ℕ, ◌+◌, ◌-◌, ◌*◌}
use native.Mathlib.Omega.{arith}
use mathlib.Core.Path.{refl, sym, ap, ap₂, ◌∙◌, subst}
use lib.Count.{count_leading_zeros}
use lib.ListN.{length, get_or, set, replicate, length-replicate}
use Rattle.tree_pairs.proofs.Pairs.{Shown, put, both_start, both_more, same_both, shown_more, seen_at, seen_as, fits, ended, at_most, one_open, two_open, pair_whole}
use Rattle.tree_pairs.specs.Pair.{Pair}
use Rattle.tree_pairs.proofs.load_pair.Goals as goal
use Rattle.tree_pairs.proofs.load_pair.Goals.{then-leaves-eq0, else-leaves-eq0}

pub loop-leaves-init : goal.loop-leaves-init
loop-leaves-init c = (both_start c.args.packet.now c.args.at 0 0 (replicate 72 0) (replicate 72 0) c.args.nodes.now c.requires.2 (length-replicate {A = ℕ} 72 0) (length-replicate {A = ℕ} 72 0), λ h. absurd (h refl))

pub put_leaf-requires : goal.put_leaf-requires
put_leaf-requires c =
    let shown-now : Shown c.args.packet.now c.args.at c.loop-leaves.leaves c.if-leaves-eq0.a c.if-leaves-eq0.b c.loop-leaves.i c.loop-leaves.j =
    elim c.if-leaves-eq0.branch [
      | then-leaves-eq0 x ↦ (seen_at c.args.packet.now (c.args.at + 7 * c.loop-leaves.leaves + c.loop-leaves.i) (c.args.at + c.loop-leaves.i + 7 * c.loop-leaves.leaves) x.bits_at-a.result c.if-leaves-eq0.a c.loop-leaves.leaves (omega arith) x.bits_at-a.ensures x.a-is, seen_at c.args.packet.now (c.args.at + 7 * c.loop-leaves.leaves + 223 + c.loop-leaves.j) (c.args.at + 223 + c.loop-leaves.j + 7 * c.loop-leaves.leaves) x.bits_at-b.result c.if-leaves-eq0.b c.loop-leaves.leaves (omega arith) x.bits_at-b.ensures x.b-is)
      | else-leaves-eq0 x ↦ (seen_as c.args.packet.now (c.args.at + c.loop-leaves.i + 7 * c.loop-leaves.leaves) c.loop-leaves.a c.if-leaves-eq0.a c.loop-leaves.leaves x.a-is (c.loop-leaves.invariant.1 x.if-leaves-eq0.false).0, seen_as c.args.packet.now (c.args.at + 223 + c.loop-leaves.j + 7 * c.loop-leaves.leaves) c.loop-leaves.b c.if-leaves-eq0.b c.loop-leaves.leaves x.b-is (c.loop-leaves.invariant.1 x.if-leaves-eq0.false).1)
    ] in
    let s = shown-now in
    let m = at_most (count_leading_zeros 64 c.if-leaves-eq0.a) (count_leading_zeros 64 c.if-leaves-eq0.b) c.if-y-z.false in
    let o = fits (c.loop-leaves.i + count_leading_zeros 64 c.if-leaves-eq0.a) (c.loop-leaves.i + count_leading_zeros 64 c.if-leaves-eq0.a + 2 * c.loop-leaves.leaves) c.if-i-twice.false in
    (omega (arith, o.1, c.first-in-loop-leaves-1.given), one_open c.args.packet.now c.args.at c.loop-leaves.leaves c.if-leaves-eq0.a c.if-leaves-eq0.b c.loop-leaves.i c.loop-leaves.j c.loop-leaves.first c.loop-leaves.second c.loop-leaves.nodes c.push.new.stack c.push-in-loop-leaves.new.stack (same_both c.if-leaves-eq0.a c.if-leaves-eq0.b c.loop-leaves.invariant.0) s m.0 c.push.ensures o.0 o.1, omega (arith, o.0, o.1), omega (arith, c.loop-leaves.invariant.0.long), omega arith)

pub put_leaf-requires-in-loop-leaves : goal.put_leaf-requires-in-loop-leaves
put_leaf-requires-in-loop-leaves c =
    let shown-now : Shown c.args.packet.now c.args.at c.loop-leaves.leaves c.if-leaves-eq0.a c.if-leaves-eq0.b c.loop-leaves.i c.loop-leaves.j =
    elim c.if-leaves-eq0.branch [
      | then-leaves-eq0 x ↦ (seen_at c.args.packet.now (c.args.at + 7 * c.loop-leaves.leaves + c.loop-leaves.i) (c.args.at + c.loop-leaves.i + 7 * c.loop-leaves.leaves) x.bits_at-a.result c.if-leaves-eq0.a c.loop-leaves.leaves (omega arith) x.bits_at-a.ensures x.a-is, seen_at c.args.packet.now (c.args.at + 7 * c.loop-leaves.leaves + 223 + c.loop-leaves.j) (c.args.at + 223 + c.loop-leaves.j + 7 * c.loop-leaves.leaves) x.bits_at-b.result c.if-leaves-eq0.b c.loop-leaves.leaves (omega arith) x.bits_at-b.ensures x.b-is)
      | else-leaves-eq0 x ↦ (seen_as c.args.packet.now (c.args.at + c.loop-leaves.i + 7 * c.loop-leaves.leaves) c.loop-leaves.a c.if-leaves-eq0.a c.loop-leaves.leaves x.a-is (c.loop-leaves.invariant.1 x.if-leaves-eq0.false).0, seen_as c.args.packet.now (c.args.at + 223 + c.loop-leaves.j + 7 * c.loop-leaves.leaves) c.loop-leaves.b c.if-leaves-eq0.b c.loop-leaves.leaves x.b-is (c.loop-leaves.invariant.1 x.if-leaves-eq0.false).1)
    ] in
    let s = shown-now in
    let m = at_most (count_leading_zeros 64 c.if-leaves-eq0.a) (count_leading_zeros 64 c.if-leaves-eq0.b) c.if-y-z.false in
    let o = fits (c.loop-leaves.i + count_leading_zeros 64 c.if-leaves-eq0.a) (c.loop-leaves.i + count_leading_zeros 64 c.if-leaves-eq0.a + 2 * c.loop-leaves.leaves) c.if-i-twice.false in
    let t = fits (c.loop-leaves.j + count_leading_zeros 64 c.if-leaves-eq0.b) (c.loop-leaves.j + count_leading_zeros 64 c.if-leaves-eq0.b + 2 * c.loop-leaves.leaves) c.if-j-twice.false in
    (omega (arith, t.1, c.second-in-loop-leaves-1.given), two_open c.args.packet.now c.args.at c.loop-leaves.leaves c.if-leaves-eq0.a c.if-leaves-eq0.b c.loop-leaves.i c.loop-leaves.j c.loop-leaves.first c.loop-leaves.second c.loop-leaves.nodes c.push.new.stack c.push-in-loop-leaves.new.stack (same_both c.if-leaves-eq0.a c.if-leaves-eq0.b c.loop-leaves.invariant.0) s m.1 c.push-in-loop-leaves.ensures t.0 t.1, omega (arith, t.0, t.1), omega (arith, c.loop-leaves.invariant.0.long, c.nodes-1.given), omega arith)

pub loop-leaves-preserved : goal.loop-leaves-preserved
loop-leaves-preserved c =
    let shown-now : Shown c.args.packet.now c.args.at c.loop-leaves.leaves c.if-leaves-eq0.a c.if-leaves-eq0.b c.loop-leaves.i c.loop-leaves.j =
    elim c.if-leaves-eq0.branch [
      | then-leaves-eq0 x ↦ (seen_at c.args.packet.now (c.args.at + 7 * c.loop-leaves.leaves + c.loop-leaves.i) (c.args.at + c.loop-leaves.i + 7 * c.loop-leaves.leaves) x.bits_at-a.result c.if-leaves-eq0.a c.loop-leaves.leaves (omega arith) x.bits_at-a.ensures x.a-is, seen_at c.args.packet.now (c.args.at + 7 * c.loop-leaves.leaves + 223 + c.loop-leaves.j) (c.args.at + 223 + c.loop-leaves.j + 7 * c.loop-leaves.leaves) x.bits_at-b.result c.if-leaves-eq0.b c.loop-leaves.leaves (omega arith) x.bits_at-b.ensures x.b-is)
      | else-leaves-eq0 x ↦ (seen_as c.args.packet.now (c.args.at + c.loop-leaves.i + 7 * c.loop-leaves.leaves) c.loop-leaves.a c.if-leaves-eq0.a c.loop-leaves.leaves x.a-is (c.loop-leaves.invariant.1 x.if-leaves-eq0.false).0, seen_as c.args.packet.now (c.args.at + 223 + c.loop-leaves.j + 7 * c.loop-leaves.leaves) c.loop-leaves.b c.if-leaves-eq0.b c.loop-leaves.leaves x.b-is (c.loop-leaves.invariant.1 x.if-leaves-eq0.false).1)
    ] in
    let s = shown-now in
    let m = at_most (count_leading_zeros 64 c.if-leaves-eq0.a) (count_leading_zeros 64 c.if-leaves-eq0.b) c.if-y-z.false in
    let o = fits (c.loop-leaves.i + count_leading_zeros 64 c.if-leaves-eq0.a) (c.loop-leaves.i + count_leading_zeros 64 c.if-leaves-eq0.a + 2 * c.loop-leaves.leaves) c.if-i-twice.false in
    let t = fits (c.loop-leaves.j + count_leading_zeros 64 c.if-leaves-eq0.b) (c.loop-leaves.j + count_leading_zeros 64 c.if-leaves-eq0.b + 2 * c.loop-leaves.leaves) c.if-j-twice.false in
    let d = (c.loop-leaves.i + count_leading_zeros 64 c.if-leaves-eq0.a) - 1 in
    let e = (c.loop-leaves.j + count_leading_zeros 64 c.if-leaves-eq0.b) - 1 in (
      both_more c.args.packet.now c.args.at c.loop-leaves.leaves c.if-leaves-eq0.a c.if-leaves-eq0.b c.loop-leaves.i c.loop-leaves.j c.loop-leaves.first c.loop-leaves.second c.loop-leaves.nodes c.push.new.stack c.push-in-loop-leaves.new.stack (same_both c.if-leaves-eq0.a c.if-leaves-eq0.b c.loop-leaves.invariant.0) s m.0 c.push.ensures o.0 o.1 m.1 c.push-in-loop-leaves.ensures t.0 t.1 c.put_leaf.new.nodes c.put_leaf-in-loop-leaves.new.nodes c.loop-leaves-test.true c.first-in-loop-leaves-1.given c.second-in-loop-leaves-1.given
          (c.put_leaf.ensures ∙ ap (λ (t : ℕ). put c.loop-leaves.nodes 0 (2 * c.loop-leaves.leaves + d + 1) t (d + get_or c.push.new.stack d 0) (129 + (2 * c.loop-leaves.leaves + d + 1))) c.token_in.ensures)
          (c.put_leaf-in-loop-leaves.ensures ∙ ap (λ (t : ℕ). put c.put_leaf.new.nodes 64 (2 * c.loop-leaves.leaves + e + 1) t (e + get_or c.push-in-loop-leaves.new.stack e 0) (129 + (2 * c.loop-leaves.leaves + e + 1))) c.token_in-in-loop-leaves.ensures),
      shown_more c.args.packet.now c.args.at c.loop-leaves.leaves c.if-leaves-eq0.a c.if-leaves-eq0.b c.loop-leaves.i c.loop-leaves.j c.loop-leaves.first c.loop-leaves.second c.loop-leaves.nodes c.push.new.stack c.push-in-loop-leaves.new.stack (same_both c.if-leaves-eq0.a c.if-leaves-eq0.b c.loop-leaves.invariant.0) s m.0 c.push.ensures o.0 o.1 m.1 c.push-in-loop-leaves.ensures t.0 t.1,
    )

pub returns : goal.returns
returns c = let x = ended (c.loop-leaves.i + c.loop-leaves.j) (length c.args.packet.now * 8) (c.args.at + 446) c.loop-leaves.a c.loop-leaves.b c.if-i-j.false in
    let w = pair_whole c.args.packet.now c.args.at c.loop-leaves.a c.loop-leaves.b c.loop-leaves.first c.loop-leaves.second c.loop-leaves.nodes x.2 x.3 x.1 c.loop-leaves.leaves c.loop-leaves.i c.loop-leaves.j (omega (arith, c.loop-leaves.invariant.0.few, c.loop-leaves-test.false)) x.0 c.loop-leaves.invariant.0 c.loop-leaves.invariant.1 in
    λ h. subst (Pair c.args.packet.now c.args.at) (ap₂ (λ (t u : ℕ). set (set c.loop-leaves.nodes 62 t) 126 u) (sym c.token_in-2.ensures) (sym c.token_in-3.ensures)) w
