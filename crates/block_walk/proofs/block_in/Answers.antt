-- `block_walk::block_in` meets its contract.
-- Assumes nothing.
use mathlib.Core.Path.{◌≡◌, ap}
use Prim.Native.Nat.{ℕ, ◌+◌, ◌-◌, ◌*◌, ◌<◌}
use native.Mathlib.Nat.{add-mul}
use native.Mathlib.Omega.{arith}
use Rattle.geometry.specs.declared.Plane.{Plane}
use Rattle.geometry.specs.Sizes.{across}
use Rattle.block_walk.proofs.Bands.{block_here}
use Rattle.block_walk.proofs.block_in.Goals as goal
use Rattle.block_walk.proofs.block_in.Goals.{then-row-x, else-row-x}

pub returns-then-row-x-2 : goal.returns-then-row-x-2
returns-then-row-x-2 c =
    let row = across c.args.format c.args.w c.args.band.plane in
    let e : c.plane_of-row.result.across ≡ row = ap (λ (q : Plane). q.across) c.plane_of-row.ensures in
    -- after the first test two rows are left
    let t : (c.if-row-x.x < 2 * row) × (c.if-row-x.y * row + c.if-row-x.x ≡ c.args.band.y * row + (c.args.n - c.args.band.first)) =
    elim c.if-row-x.branch [
      | then-row-x w ↦ (
        omega (arith, e, w.x-is, c.requires.2.before, c.requires.2.from, c.requires.2.band.four_rows),
        omega (arith, e, w.if-row-x.true, w.x-is, ap (λ (y : ℕ). y * row) w.y-is, add-mul c.args.band.y 2 row),
      )
      | else-row-x w ↦ (omega (arith, e, w.if-row-x.false, w.x-is), omega (arith, w.x-is, ap (λ (y : ℕ). y * row) w.y-is))
    ] in
    block_here c.args.format c.args.w c.args.h c.args.band c.args.n c.requires.2 _ _ (omega (arith, e, c.if-row-x-2.true, t.0)) (omega (arith, e, c.if-row-x-2.true, t.1, add-mul c.if-row-x.y 1 row))

pub returns-else-row-x-2 : goal.returns-else-row-x-2
returns-else-row-x-2 c =
    let row = across c.args.format c.args.w c.args.band.plane in
    let e : c.plane_of-row.result.across ≡ row = ap (λ (q : Plane). q.across) c.plane_of-row.ensures in
    let t : c.if-row-x.y * row + c.if-row-x.x ≡ c.args.band.y * row + (c.args.n - c.args.band.first) =
    elim c.if-row-x.branch [
      | then-row-x w ↦ omega (arith, e, w.if-row-x.true, w.x-is, ap (λ (y : ℕ). y * row) w.y-is, add-mul c.args.band.y 2 row)
      | else-row-x w ↦ omega (arith, w.x-is, ap (λ (y : ℕ). y * row) w.y-is)
    ] in
    block_here c.args.format c.args.w c.args.h c.args.band c.args.n c.requires.2 _ _ (omega (arith, e, c.if-row-x-2.false)) t
