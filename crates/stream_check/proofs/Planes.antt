-- The planes of a frame as a stream has them. Assumes nothing.
use Prim.Native.Nat.{ℕ, ◌+◌, ◌-◌, ◌*◌, ◌≤◌}
use native.Mathlib.Omega.{arith}
use mathlib.Core.Path.{◌≡◌, sym, ap, ◌∙◌}
use mathlib.Core.Bool.{true}
use mathlib.Core.List.{List, ◌++◌}
use lib.ListN.{length, take, drop}
use Rattle.geometry.specs.declared.PixelFormat.{PixelFormat}
use Rattle.geometry.specs.declared.Plane.{Plane}
use Rattle.geometry.specs.Sizes.{blocks_of, plane_of, largest}
use Rattle.geometry.specs.Order.{in_turn}
use Rattle.headers.specs.declared.Session.{Session}
use Rattle.headers.specs.Fits.{session_fits}
use Rattle.headers.specs.Sizes.{format_of}
use Rattle.rows.specs.Rows.{turned}
use Rattle.stream_numbers.specs.Numbers.{numbers_of}
use Rattle.y4m.specs.Stream.{frame_bytes, plane_rows, frame_rows, frame_text}
use Rattle.frame_marks.specs.Marks.{frame_line}
use Rattle.y4m.proofs.Sessions.{session_range}
use Rattle.y4m.proofs.Streams.{session_bytes}
use native.Mathlib.Nat.{mul-div_right}

-- a plane as the code cuts it out
pub plane_turned : (f : PixelFormat) (w h : ℕ) (src : List ℕ) (p : ℕ) (q : Plane) → q ≡ plane_of f w h p
    → turned (8 * q.across) (8 * q.up) (take (q.offset + q.length - q.offset) (drop q.offset src)) ≡ plane_rows f w h src p
unfolding plane_rows
plane_turned f w h src p q e =
    let n : q.offset + q.length - q.offset ≡ q.length = omega arith in
    ap (λ (k : ℕ). turned (8 * q.across) (8 * q.up) (take k (drop q.offset src))) n
    ∙ ap (λ (q : Plane). turned (8 * q.across) (8 * q.up) (take q.length (drop q.offset src))) e

-- three are all
pub planes_three : (f : PixelFormat) (w h : ℕ) (src : List ℕ) (p : ℕ) → p ≤ 3 → 3 ≤ p → in_turn (plane_rows f w h src) p ≡ frame_rows f w h src
unfolding frame_rows
planes_three f w h src p l m = let e : p ≡ 3 = omega arith in ap (in_turn (plane_rows f w h src)) e

-- what a session says of its frames
module _ (s : Session) (f : PixelFormat) (e : f ≡ format_of s.fields.pf) where
  pub frame_sized : (planes : List ℕ) → length planes ≡ frame_bytes (numbers_of s) → length planes ≡ 64 * blocks_of f s.fields.fmbw s.fields.fmbh
  frame_sized planes h = h ∙ session_bytes s ∙ ap (λ (f : PixelFormat). 64 * blocks_of f s.fields.fmbw s.fields.fmbh) (sym e)

  pub frame_parts : (planes : List ℕ) → frame_line ++ frame_rows f s.fields.fmbw s.fields.fmbh planes ≡ frame_text (numbers_of s) planes
  unfolding frame_text numbers_of
  frame_parts planes =
      let w = mul-div_right s.fields.fmbw {m = 16} (omega arith) in
      let h = mul-div_right s.fields.fmbh {m = 16} (omega arith) in
      λ i. frame_line ++ frame_rows (e i) (sym w i) (sym h i) planes

pub frame_small : (s : Session) → session_fits s ≡ true → (s.fields.fmbw ≤ largest) × (s.fields.fmbh ≤ largest)
frame_small s fits = let r = session_range s fits in (r.fmbw.most, r.fmbh.most)
