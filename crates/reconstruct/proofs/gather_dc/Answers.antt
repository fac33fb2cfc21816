use mathlib.Core.Path.{◌≡◌, refl, sym, ap, ap₂, ◌∙◌}
use mathlib.Core.List.{List}
use Prim.Native.Nat.{ℕ, ◌*◌, ◌<◌}
use native.Mathlib.Omega.{arith}
use lib.IntN.{ℤ, pos}
use lib.ListN.{length, get_or, set, length-set}
use mir.Syntax.{w16}
use Rattle.numeric.proofs.Known.{back}
use Rattle.ways.specs.Loops.{up_to}
use Rattle.ways.proofs.Steps.{up_to_more}
use Rattle.reconstruct.proofs.Facts.{first_in, gather_is}
use borrow.Author.Rules.{rules}
use Rattle.reconstruct.proofs.gather_dc.Goals as goal

-- one coefficient
abbrev put : List ℕ → List ℤ → ℕ → List ℤ → List ℤ
put coded coefs k s = set s (get_or coded k 0) (get_or coefs (k * 64) (pos 0))

pub loop-k-init : goal.loop-k-init
unfolding up_to
loop-k-init c = (omega arith, refl, refl)

pub offset_bounds-dc-n : goal.offset_bounds-dc-n
offset_bounds-dc-n c =
    let below : get_or c.args.coded.now c.loop-k.k 0 < length c.loop-k.dc =
    let h = c.requires.2 (get_or c.args.coded.now c.loop-k.k 0) (first_in c.args.coded.now c.args.count c.requires.0 c.loop-k.k (omega arith)) in
    omega arith in
    let h = below in search rules

pub bounds-dc-n : goal.bounds-dc-n
bounds-dc-n c =
    let below : get_or c.args.coded.now c.loop-k.k 0 < length c.loop-k.dc =
    let h = c.requires.2 (get_or c.args.coded.now c.loop-k.k 0) (first_in c.args.coded.now c.args.count c.requires.0 c.loop-k.k (omega arith)) in
    omega arith in
    below

pub loop-k-preserved : goal.loop-k-preserved
loop-k-preserved c = let i = c.loop-k.k * 64 in
    (omega arith, simp length-set c.loop-k.invariant.1, ap₂ (λ (s : List ℤ) (v : ℤ). set s (get_or c.args.coded.now c.loop-k.k 0) v) c.loop-k.invariant.2 (back w16 (get_or c.args.coefs.now i (pos 0)) c.v-1.given) ∙ sym (up_to_more c.loop-k.k (put c.args.coded.now c.args.coefs.now) c.args.dc.now))

pub returns : goal.returns
returns c = let e : c.loop-k.k ≡ c.args.count = omega arith in
    c.loop-k.invariant.2 ∙ ap (λ (n : ℕ). up_to n (put c.args.coded.now c.args.coefs.now) c.args.dc.now) e ∙ gather_is c.args.coded.now c.args.count c.requires.0 c.args.coefs.now c.args.dc.now
