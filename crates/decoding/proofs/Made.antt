-- A frame that was made by the matrices and the limit of a loaded setup. Assumes nothing.
use Prim.Native.Nat.{ℕ}
use mathlib.Core.Path.{◌≡◌, ap, ◌∙◌}
use mathlib.Core.List.{List}
use lib.IntN.{ℤ}
use lib.ListN.{get_or}
use Rattle.geometry.specs.declared.PixelFormat.{PixelFormat}
use Rattle.matrices.specs.Matrix.{matrix_of}
use Rattle.kept_matrices.specs.Kept.{MatricesAre}
use Rattle.setup.specs.Header.{Setup}
use Rattle.setup.specs.Loaded.{limit_of, Holds}
use Rattle.setup.specs.declared.LoadedSetup.{LoadedSetup}
use Rattle.setup.proofs.Held.{held_limits, held_parameters}
use Rattle.ways.specs.Ways.{first_way}
use Rattle.reconstruct.specs.Picture.{picture_of}
use Rattle.reconstruct.specs.Lent.{blocks_in, matrix_in}
use Rattle.asked_frame.proofs.Lent.{BlocksLent, matrices_enough}

module _ (f : PixelFormat) (w h : ℕ) (records coded : List ℕ) (count : ℕ) (coefs : List ℤ) (lasts : List ℕ) (qis : ℕ) (bs : BlocksLent f w h records coded count coefs lasts qis) where
  pub frame_is : (p : List ℕ) (l : LoadedSetup) (list ms : List ℕ) (limit : ℕ) (golden previous new : List ℕ) → MatricesAre p l.parameters list qis ms → limit ≡ get_or l.limits (get_or list 0 0) 0
      → new ≡ first_way f w h (picture_of f w h (blocks_in records coded count coefs lasts) (matrix_in ms) limit golden previous) previous → (s : Setup) → Holds p l s
      → new ≡ first_way f w h (picture_of f w h (blocks_in records coded count coefs lasts) (λ type plane index. matrix_of s.parameters type plane (get_or list index 0)) (limit_of s (get_or list 0 0)) golden previous) previous
  frame_is p l list ms limit golden previous new loaded first made s holds =
      made
      ∙ ap (λ (x : ℕ). first_way f w h (picture_of f w h (blocks_in records coded count coefs lasts) (matrix_in ms) x golden previous) previous) (first ∙ ap (λ (x : List ℕ). get_or x (get_or list 0 0) 0) (held_limits p l holds))
      ∙ matrices_enough f w h records coded count coefs lasts qis bs (matrix_in ms) (λ type plane index. matrix_of s.parameters type plane (get_or list index 0)) (get_or s.limits (get_or list 0 0) 0) golden previous (loaded s.parameters (held_parameters p l holds))
