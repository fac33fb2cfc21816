-- The filter over all blocks of a frame is the filter over its three planes, one after the other.
-- Assumes nothing.
use mathlib.Core.Path.{◌≡◌, sym, ap, ◌∙◌}
use mathlib.Core.Bool.{false, not, cond}
use mathlib.Core.List.{List, [], ◌∷◌}
use Prim.Native.Nat.{ℕ, ◌+◌, ◌*◌, ◌/◌, ◌≤◌, ◌<◌}
use native.Mathlib.Omega.{arith}
use lib.Dec.{ltb}
use Rattle.geometry.specs.declared.PixelFormat.{PixelFormat}
use Rattle.geometry.specs.declared.Plane.{Plane}
use Rattle.geometry.specs.declared.Block.{Block}
use Rattle.geometry.specs.Sizes.{across, up, blocks_before, blocks_of, plane_of}
use Rattle.geometry.specs.Order.{in_turn}
use Rattle.geometry.specs.Frame.{block}
use Rattle.geometry.specs.Raster.{raster_number, raster, grid}
use Rattle.geometry.specs.Sample.{sample_at, sample_in}
use Rattle.geometry.proofs.SizeLaws.{before_next, before_to}
use Rattle.ways.specs.Loops.{up_to, over, when}
use Rattle.ways.specs.Ways.{edges_at, open_right, open_above, edges, filter_all}
use Rattle.ways.proofs.Steps.{up_to_same, over_turns, over_ones}
use Rattle.edge_filter.specs.Filter.{filtered}
use Rattle.block_edges.specs.Flags.{coded_at, coded_by}
use Rattle.loop_filter.specs.Plane.{block_step, row_steps, plane_steps}

module _ (f : PixelFormat) (w h : ℕ) where
  -- plane p lies in the frame
  pub plane_room : (p : ℕ) (q : Plane) → p < 3 → q ≡ plane_of f w h p → q.offset / 64 + q.up * q.across ≤ blocks_of f w h
  plane_room p q l e = rw e (let a = before_next f w h p in let b = before_to f w h p l in omega arith)

  module _ (records : List ℕ) (L : ℕ) where
    -- plane p, by its numbers
    abbrev pub steps : ℕ → List ℕ → List ℕ
    steps p = plane_steps records L (blocks_before f w h p) (across f w p) (up f h p)

    pub plane_steps_law : (p : ℕ) (q : Plane) (s : List ℕ) → q ≡ plane_of f w h p → plane_steps records L (q.offset / 64) q.across q.up s ≡ steps p s
    plane_steps_law p q s e = rw e (let n : 64 * blocks_before f w h p / 64 ≡ blocks_before f w h p = omega arith in ap (λ (m : ℕ). plane_steps records L m (across f w p) (up f h p) s) n)

    -- the step at a block of the raster
    abbrev step : Block → List ℕ → List ℕ
    step b = when (coded_by f w h records b) (edges f w h (coded_by f w h records) (filtered L) b)

    block_is : (p y x : ℕ) (s : List ℕ) → step (block p x y) s ≡ block_step records L (blocks_before f w h p) (across f w p) (up f h p) y x s
    unfolding block_step edges open_right open_above coded_by raster_number sample_at
    block_is p y x s =
        let a = across f w p in
        let n = blocks_before f w h p + (y * a + x) in
        let right : blocks_before f w h p + (y * a + (x + 1)) ≡ n + 1 = omega arith in
        let upper : blocks_before f w h p + ((y + 1) * a + x) ≡ n + a = omega arith in
        λ i. when (coded_at records n)
        (edges_at (filtered L) (64 * blocks_before f w h p + sample_in a x y 0 0) (8 * a) (ltb 0 x) (ltb 0 y)
        (cond (ltb (x + 1) a) (not (coded_at records (right i))) false) (cond (ltb (y + 1) (up f h p)) (not (coded_at records (upper i))) false)) s

    row_is : (p y : ℕ) (s : List ℕ) → over (in_turn (λ x. block p x y ∷ []) (across f w p)) step s ≡ row_steps records L (blocks_before f w h p) (across f w p) (up f h p) y s
    unfolding row_steps
    row_is p y s =
        over_ones (λ x. block p x y) (across f w p) step s
        ∙ up_to_same (across f w p) (λ x. step (block p x y)) (block_step records L (blocks_before f w h p) (across f w p) (up f h p) y) (λ x l. block_is p y x) s

    plane_is : (p : ℕ) (s : List ℕ) → over (in_turn (λ y. in_turn (λ x. block p x y ∷ []) (across f w p)) (up f h p)) step s ≡ steps p s
    unfolding plane_steps
    plane_is p s =
        over_turns (λ y. in_turn (λ x. block p x y ∷ []) (across f w p)) (up f h p) step s
        ∙ up_to_same (up f h p) (λ y. over (in_turn (λ x. block p x y ∷ []) (across f w p)) step)
        (row_steps records L (blocks_before f w h p) (across f w p) (up f h p)) (λ y l. row_is p y) s

    pub planes_all : (s : List ℕ) → up_to 3 steps s ≡ filter_all f w h (coded_by f w h records) (filtered L) s
    unfolding filter_all raster grid
    planes_all s =
        let rows : ℕ → List Block = λ p. in_turn (λ y. in_turn (λ x. block p x y ∷ []) (across f w p)) (up f h p) in
        sym (over_turns rows 3 step s ∙ up_to_same 3 (λ p. over (rows p) step) steps (λ p l. plane_is p) s)
