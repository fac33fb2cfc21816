use native.Mathlib.Omega.{arith}
use mathlib.Core.Path.{refl, sym, ap, ap₂, ◌∙◌}
use mathlib.Core.List.{List, ◌++◌}
use lib.ListN.{length}
use lib.Seq.{length-take-le, length_front}
use borrow.Rule.Slice.PartMut.{mid_len}
use Prim.Native.Nat.{ℕ, ◌/◌, ◌%◌, ◌^◌, ◌<◌}
use Rattle.code_lookup.proofs.Spreads.{spread_leaf, spread_none, spread_fork, halves, both_halves, one_entry}
use Rattle.code_lookup.proofs.+spread.Goals as goal

pub returns-then-value-lt128 : goal.returns-then-value-lt128
returns-then-value-lt128 t c =
    let a = c.args in
    c.fill_leaf.ensures ∙ sym (spread_leaf a.nodes.now a.values.now a.complete.now a.left a.node c.if-value-lt128.true)

pub returns-then-left-eq0 : goal.returns-then-left-eq0
returns-then-left-eq0 t c =
    let a = c.args in
    one_entry a.lookup.now 0 (c.requires.5 ∙ ap (λ (n : ℕ). 2 ^ n) c.if-left-eq0.true) ∙ sym (spread_none a.nodes.now a.values.now a.complete.now a.left a.node c.if-left-eq0.true c.if-value-lt128.false)

pub spread-requires : goal.spread-requires
spread-requires t c =
    let a = c.args in
    let p = c.requires in
    let n : 0 < a.left = omega (arith, c.if-left-eq0.false) in
    (omega arith, (p.0, p.1, p.2, omega arith, omega (arith, p.4), length-take-le (length a.lookup.now / 2) a.lookup.now (omega arith) ∙ omega (arith, halves a.left n, p.5)))

pub spread-requires-2 : goal.spread-requires-2
spread-requires-2 t c =
    let a = c.args in
    let p = c.requires in
    let n : 0 < a.left = omega (arith, c.if-left-eq0.false) in
    let h = length a.lookup.now / 2 in
    let f = length_front a.lookup.now c.spread.new.lookup h c.spread.auto.lookup in
    (omega arith, (p.0, p.1, p.2, omega (arith, c.type_inv.nodes (a.node % 64)), omega (arith, p.4), mid_len h (length a.lookup.now) _ (omega (arith, f)) ∙ omega (arith, halves a.left n, p.5)))

pub returns : goal.returns
returns t c =
    let a = c.args in
    let n : 0 < a.left = omega (arith, c.if-left-eq0.false) in
    both_halves a.lookup.now c.spread.new.lookup c.spread-2.new.lookup (length a.lookup.now / 2) (length a.lookup.now) c.spread.auto.lookup (omega arith) refl
    ∙ (ap₂ (λ (x y : List ℕ). x ++ y) c.spread.ensures c.spread-2.ensures ∙ sym (spread_fork a.nodes.now a.values.now a.complete.now a.left a.node n c.if-value-lt128.false))
