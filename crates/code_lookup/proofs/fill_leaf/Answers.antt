-- `code_lookup::fill_leaf` meets its contract. Assumes nothing.
use Prim.Native.Nat.{ℕ, ◌+◌, ◌-◌, ◌*◌, ◌/◌, ◌^◌, ◌≤◌}
use native.Mathlib.Omega.{arith}
use mathlib.Core.Path.{ap, ◌∙◌}
use lib.Dec.{leb}
use lib.ListN.{get_or, replicate}
use borrow.Author.Tests.{leb-true}
use Rattle.bitstream.specs.Lists.{tabulated}
use Rattle.bitstream.proofs.ListLaws.{and_both}
use Rattle.code_lookup.specs.Lookup.{extra_of}
use Rattle.code_lookup.proofs.Spreads.{leaf_plain, leaf_bare, leaf_extra, extra_index}
use Rattle.code_lookup.proofs.fill_leaf.Goals as goal

pub returns-then-extra-eq0 : goal.returns-then-extra-eq0
returns-then-extra-eq0 c = c.fill_with.ensures
    ∙ (ap (λ (n : ℕ). replicate n (get_or c.args.complete.now (8 * c.args.token) 0 + (8 - c.args.left) * 2 ^ 36)) c.requires.4 ∙ leaf_bare c.args.values.now c.args.complete.now c.args.left c.args.token c.if-extra-eq0.true)

pub fill_extra-requires : goal.fill_extra-requires
fill_extra-requires c =
    let within : (extra_of c.args.values.now c.args.token ≤ 3) × (extra_of c.args.values.now c.args.token ≤ c.args.left) =
    let e = extra_of c.args.values.now c.args.token in
    let b = and_both (leb e 3) (leb e c.args.left) c.if-extra-left.true in
    (leb-true e 3 b.0, leb-true e c.args.left b.1) in
    let w = within in
    let e = extra_of c.args.values.now c.args.token in
    (c.requires.1, omega (arith, c.requires.3), omega (arith, c.requires.3), omega (arith, c.requires.2), λ i h. extra_index c.args.left e i c.args.token w.0 w.1 c.requires.2 (omega (arith, h, c.requires.4)))

pub returns-then-extra-left : goal.returns-then-extra-left
returns-then-extra-left c = c.fill_extra.ensures
    ∙ (ap (λ (n : ℕ). tabulated (λ j. get_or c.args.complete.now (8 * c.args.token + j / 2 ^ (c.args.left - extra_of c.args.values.now c.args.token)) 0 + (8 - c.args.left) * 2 ^ 36) 0 n) c.requires.4
    ∙ leaf_extra c.args.values.now c.args.complete.now c.args.left c.args.token c.if-extra-left.true)

pub returns : goal.returns
returns c = c.fill_with-2.ensures
    ∙ (ap (λ (n : ℕ). replicate n (get_or c.args.values.now c.args.token 0 + (8 - c.args.left) * 2 ^ 36)) c.requires.4 ∙ leaf_plain c.args.values.now c.args.complete.now c.args.left c.args.token c.if-extra-left.false)
