-- Frames and their planes, as loops write and read them. Assumes nothing.
use Prim.Native.Nat.{ℕ, zero, suc, ◌+◌, ◌*◌, ◌-◌, ◌/◌, ◌≤◌, ◌<◌}
use native.Mathlib.Omega.{arith}
use native.Mathlib.Nat.{mul_assoc, mul_left_comm, le_of_eq, div-mul-le_self, le-div_iff_mul-le, div-lt_iff_lt-mul}
use mathlib.Core.Path.{◌≡◌, refl, sym, ap, ◌∙◌}
use mathlib.Core.List.{List, ◌++◌, append-nil}
use lib.ListN.{length, take, drop, length-append, drop_of_length-le}
use lib.Seq.{take_all, take-add}
use borrow.Rule.Slice.PartMut.{put_mid}
use Rattle.geometry.specs.declared.PixelFormat.{PixelFormat}
use Rattle.geometry.specs.declared.Plane.{Plane}
use Rattle.geometry.specs.Order.{in_turn}
use Rattle.geometry.specs.Sizes.{across, up, plane_blocks, blocks_before, blocks_of, plane_of}
use Rattle.geometry.proofs.Lists.{turn_same}
use Rattle.geometry.proofs.SizeLaws.{before_luma, before_next, before_all, before_to}
use Rattle.headers.specs.Sizes.{format_of}
use Rattle.output.specs.Output.{part, spliced}
use Rattle.output.proofs.Splices.{part_length, spliced_next, spliced_part, spliced_none, spliced_first}
use Rattle.rows.specs.Rows.{turned}
use Rattle.rows.proofs.Facts.{in_turn_more}
use Rattle.rows.proofs.Twice.{turn_part, in_turn_length, turned_length, turned_twice}
use Rattle.stream_numbers.specs.declared.Numbers.{Numbers}
use Rattle.y4m.specs.Stream.{header_text, wide, high, frame_bytes, plane_rows, frame_rows, rows_of, frame_text, frame_of, frames_text, stream_text, count_of}
use Rattle.frame_marks.specs.Marks.{frame_line}
use Rattle.y4m.specs.Film.{step, planes_at, planes_of}
use Rattle.frame_marks.proofs.Laws.{more_fits, part_behind}

-- one list more into a slice
pub turn_more : (f : ℕ → List ℕ) (k at place : ℕ) (o m : List ℕ)
    → m ≡ spliced at (in_turn f k) o → place ≡ at + length (in_turn f k) → at + length (in_turn f k) + length (f k) ≤ length o
    → spliced place (f k) m ≡ spliced at (in_turn f (k + 1)) o
turn_more f k at place o m s e h = spliced_next at place (in_turn f k) (f k) o m s e h ∙ ap (λ (x : List ℕ). spliced at x o) (sym (in_turn_more f k))

-- no list yet
pub turn_none : (f : ℕ → List ℕ) (at : ℕ) (o : List ℕ) → o ≡ spliced at (in_turn f 0) o
unfolding in_turn
turn_none f at o = sym (spliced_none at o)

-- ---- the planes of a frame
plane_opened : (f : PixelFormat) (w h : ℕ) (src : List ℕ) (p : ℕ)
    → plane_rows f w h src p ≡ turned (8 * across f w p) (8 * up f h p) (part src (64 * blocks_before f w h p) (64 * plane_blocks f w h p))
unfolding plane_rows
plane_opened f w h src p = refl

pub eights : (a b : ℕ) → 64 * (a * b) ≡ 8 * a * (8 * b)
eights a b = omega (arith, mul_assoc 8 a (8 * b), mul_left_comm a 8 b)

module _ (f : PixelFormat) (w h : ℕ) (src : List ℕ) (long : length src ≡ 64 * blocks_of f w h) where
  -- plane p as it stands in the buffer
  abbrev plane_part : ℕ → List ℕ
  plane_part p = part src (64 * blocks_before f w h p) (64 * plane_blocks f w h p)

  pub plane_part_length : (p : ℕ) → p < 3 → length (plane_part p) ≡ 64 * plane_blocks f w h p
  plane_part_length p l = part_length src (64 * blocks_before f w h p) (64 * plane_blocks f w h p) (omega (arith, before_next f w h p, before_to f w h p l))

  plane_samples : (p : ℕ) → p < 3 → length (plane_part p) ≡ 8 * up f h p * (8 * across f w p)
  plane_samples p l = plane_part_length p l ∙ eights (up f h p) (across f w p)

  pub plane_length : (p : ℕ) → p < 3 → length (plane_rows f w h src p) ≡ 64 * plane_blocks f w h p
  unfolding plane_rows
  plane_length p l = turned_length (8 * across f w p) (8 * up f h p) (plane_part p) (plane_samples p l) ∙ sym (eights (up f h p) (across f w p))

  pub planes_length : (p : ℕ) → p ≤ 3 → length (in_turn (plane_rows f w h src) p) ≡ 64 * blocks_before f w h p
  unfolding in_turn
  planes_length zero l = omega (arith, before_luma f w h)
  planes_length (suc p) l =
      length-append (in_turn (plane_rows f w h src) p) (plane_rows f w h src p)
      ∙ omega (arith, planes_length p (omega arith), plane_length p (omega arith), before_next f w h p)

  pub frame_length : length (frame_rows f w h src) ≡ 64 * blocks_of f w h
  unfolding frame_rows
  frame_length = planes_length 3 (omega arith) ∙ ap (λ (n : ℕ). 64 * n) (before_all f w h)

  -- where a plane ends, and how many samples it has
  pub plane_end : (p : ℕ) (q : Plane) → p < 3 → q ≡ plane_of f w h p → q.offset + q.length ≤ length src
  plane_end p q l e = omega (arith, ap (λ (x : Plane). x.offset) e, ap (λ (x : Plane). x.length) e, before_next f w h p, before_to f w h p l)

  pub plane_sized : (p : ℕ) (q : Plane) → p < 3 → q ≡ plane_of f w h p → length (take (q.offset + q.length - q.offset) (drop q.offset src)) ≡ 8 * q.up * (8 * q.across)
  plane_sized p q l e =
      let k : q.offset + q.length - q.offset ≡ q.length = omega arith in
      ap (λ (m : ℕ). length (take m (drop q.offset src))) k
      ∙ ap (λ (x : Plane). length (part src x.offset x.length)) e
      ∙ plane_samples p l ∙ ap (λ (x : Plane). 8 * x.up * (8 * x.across)) (sym e)

  -- one plane more
  pub plane_more : (p : ℕ) (dst o last : List ℕ) (q : Plane) → p < 3 → length o ≡ 64 * blocks_of f w h → q ≡ plane_of f w h p
      → dst ≡ spliced 0 (in_turn (plane_rows f w h src) p) o
      → last ≡ turned (8 * q.across) (8 * q.up) (take (q.offset + q.length - q.offset) (drop q.offset src))
      → put_mid q.offset (q.offset + q.length - q.offset) dst last ≡ spliced 0 (in_turn (plane_rows f w h src) (p + 1)) o
  unfolding plane_rows
  plane_more p dst o last q l lo e s el =
      let k : q.offset + q.length - q.offset ≡ 64 * plane_blocks f w h p = omega (arith, ap (λ (x : Plane). x.length) e) in
      let off : q.offset ≡ 64 * blocks_before f w h p = ap (λ (x : Plane). x.offset) e in
      let a : q.across ≡ across f w p = ap (λ (x : Plane). x.across) e in
      let b : q.up ≡ up f h p = ap (λ (x : Plane). x.up) e in
      let is : last ≡ plane_rows f w h src p = el ∙ (λ i. turned (8 * a i) (8 * b i) (take (k i) (drop (off i) src))) in
      let n : length last ≡ q.length = ap (λ (x : List ℕ). length x) is ∙ plane_length p l ∙ omega (arith, k) in
      let before = planes_length p (omega arith) in
      let here = plane_length p l in
      let top = before_to f w h p l in
      let next = before_next f w h p in
      spliced_part q.offset (q.offset + q.length) last dst (omega arith)
      ∙ ap (λ (x : List ℕ). spliced q.offset x dst) is
      ∙ turn_more (plane_rows f w h src) p 0 q.offset o dst s (omega arith) (omega arith)

  -- all of them
  pub planes_all : (p : ℕ) (dst o : List ℕ) → 3 ≤ p → p ≤ 3 → length o ≡ 64 * blocks_of f w h → dst ≡ spliced 0 (in_turn (plane_rows f w h src) p) o → dst ≡ frame_rows f w h src
  unfolding frame_rows spliced
  planes_all p dst o g l lo s =
      let e : p ≡ 3 = omega arith in
      let t = in_turn (plane_rows f w h src) 3 in
      let n : length t ≡ length o = frame_length ∙ sym lo in
      s ∙ ap (λ (m : ℕ). spliced 0 (in_turn (plane_rows f w h src) m) o) e ∙ whole t o n
    where
      whole : (t o : List ℕ) → length t ≡ length o → spliced 0 t o ≡ t
      whole t o n = spliced_first t o ∙ ap (λ (x : List ℕ). t ++ x) (drop_of_length-le o (le_of_eq (sym n))) ∙ append-nil t

  -- all planes in their order are the buffer
  planes_in_order : (p : ℕ) → p ≤ 3 → in_turn plane_part p ≡ take (64 * blocks_before f w h p) src
  unfolding in_turn
  planes_in_order zero l = let e : 64 * blocks_before f w h 0 ≡ 0 = omega (arith, before_luma f w h) in sym (ap (λ (m : ℕ). take m src) e)
  planes_in_order (suc p) l =
      let e : 64 * blocks_before f w h p + 64 * plane_blocks f w h p ≡ 64 * blocks_before f w h (suc p) = omega (arith, before_next f w h p) in
      ap (λ (x : List ℕ). x ++ plane_part p) (planes_in_order p (omega arith)) ∙ sym (take-add (64 * blocks_before f w h p) (64 * plane_blocks f w h p) src)
      ∙ ap (λ (m : ℕ). take m src) e

-- "gives the same planes": a frame whose rows are turned over twice is as it was
pub frame_twice : (f : PixelFormat) (w h : ℕ) (src : List ℕ) → length src ≡ 64 * blocks_of f w h → frame_rows f w h (frame_rows f w h src) ≡ src
unfolding frame_rows
frame_twice f w h src long =
    turn_same (plane_rows f w h (frame_rows f w h src)) (plane_part f w h src long) 3 (λ p l. plane_back p l)
    ∙ planes_in_order f w h src long 3 (omega arith)
    ∙ take_all (64 * blocks_before f w h 3) src (le_of_eq (long ∙ ap (λ (n : ℕ). 64 * n) (sym (before_all f w h))))
  where
    plane_there : (p : ℕ) → p < 3 → part (frame_rows f w h src) (64 * blocks_before f w h p) (64 * plane_blocks f w h p) ≡ plane_rows f w h src p
    plane_there p l =
        (λ i. part (frame_rows f w h src) (sym (planes_length f w h src long p (omega arith)) i) (sym (plane_length f w h src long p l) i))
        ∙ turn_part (plane_rows f w h src) 3 p l

    plane_back : (p : ℕ) → p < 3 → plane_rows f w h (frame_rows f w h src) p ≡ plane_part f w h src long p
    plane_back p l =
        plane_opened f w h (frame_rows f w h src) p ∙ ap (turned (8 * across f w p) (8 * up f h p)) (plane_there p l ∙ plane_opened f w h src p)
        ∙ turned_twice (8 * across f w p) (8 * up f h p) (plane_part f w h src long p) (plane_part_length f w h src long p l ∙ eights (up f h p) (across f w p))

-- ---- a frame of a stream
module _ (n : Numbers) where
  bytes_open : frame_bytes n ≡ 64 * blocks_of (format_of n.pf) (wide n) (high n)
  unfolding frame_bytes
  bytes_open = refl

  pub rows_length : (planes : List ℕ) → length planes ≡ frame_bytes n → length (rows_of n planes) ≡ frame_bytes n
  rows_length planes e = frame_length (format_of n.pf) (wide n) (high n) planes (e ∙ bytes_open) ∙ sym bytes_open

  pub rows_twice : (planes : List ℕ) → length planes ≡ frame_bytes n → rows_of n (rows_of n planes) ≡ planes
  rows_twice planes e = frame_twice (format_of n.pf) (wide n) (high n) planes (e ∙ bytes_open)

  pub text_length : (planes : List ℕ) → length planes ≡ frame_bytes n → length (frame_text n planes) ≡ step n
  unfolding frame_text
  text_length planes e = length-append frame_line (rows_of n planes) ∙ ap (λ (m : ℕ). 6 + m) (rows_length planes e)

  -- its line, and then its rows
  pub frame_written : (planes o o₁ last : List ℕ) (at begin end : ℕ) → length planes ≡ frame_bytes n → at + step n ≤ length o
      → begin ≡ at + 6 → o₁ ≡ spliced at frame_line o → end ≡ begin + length planes → last ≡ rows_of n planes
      → (end ≡ at + step n) × (put_mid begin (end - begin) o₁ last ≡ spliced at (frame_text n planes) o)
  unfolding frame_text
  frame_written planes o o₁ last at begin end long room eb s ee el =
      let r = rows_length planes long in
      let ll : length last ≡ length planes = ap (λ (x : List ℕ). length x) el ∙ r ∙ sym long in (
        omega arith,
        spliced_part begin end last o₁ (omega arith) ∙ ap (λ (x : List ℕ). spliced begin x o₁) el
            ∙ spliced_next at begin frame_line (rows_of n planes) o o₁ s eb (omega arith),
      )

-- ---- frames that lie one behind the other in a buffer
module _ (n : Numbers) (frames : List ℕ) (count : ℕ) (long : count * frame_bytes n ≤ length frames) where
  pub frame_there : (k : ℕ) → k < count → length (frame_of n frames k) ≡ frame_bytes n
  frame_there k l = part_length frames (k * frame_bytes n) (frame_bytes n) (omega (arith, more_fits k count (frame_bytes n) l))

  pub frames_length : (k : ℕ) → k ≤ count → length (frames_text n frames k) ≡ k * step n
  unfolding frames_text
  frames_length k l = in_turn_length (step n) (λ i. frame_text n (frame_of n frames i)) k (λ i h. text_length n (frame_of n frames i) (frame_there i (omega arith)))

  pub frames_none : (at : ℕ) (o : List ℕ) → o ≡ spliced at (frames_text n frames 0) o
  unfolding frames_text
  frames_none at o = turn_none (λ i. frame_text n (frame_of n frames i)) at o

  -- one frame more
  pub frames_more : (k at place from : ℕ) (o m m₁ : List ℕ) → k < count → at + count * step n ≤ length o → place ≡ at + k * step n → from ≡ k * frame_bytes n
      → m ≡ spliced at (frames_text n frames k) o
      → m₁ ≡ spliced place (frame_text n (take (from + frame_bytes n - from) (drop from frames))) m
      → m₁ ≡ spliced at (frames_text n frames (k + 1)) o
  unfolding frames_text
  frames_more k at place from o m m₁ l room ep ef s e =
      let z : from + frame_bytes n - from ≡ frame_bytes n = omega arith in
      let len = frames_length k (omega arith) in
      let more = more_fits k count (step n) l in
      e ∙ (λ i. spliced place (frame_text n (take (z i) (drop (ef i) frames))) m)
      ∙ turn_more (λ i. frame_text n (frame_of n frames i)) k at place o m s (omega arith) (omega (arith, text_length n (frame_of n frames k) (frame_there k l)))

-- ---- frames out of a stream
module _ (n : Numbers) (t : List ℕ) (at count : ℕ) (long : at + count * step n ≤ length t) where
  pub planes_there : (k : ℕ) → k < count → length (part (drop at t) (k * step n + 6) (frame_bytes n)) ≡ frame_bytes n
  planes_there k l =
      ap (λ (x : List ℕ). length x) (part_behind t at (k * step n + 6) (frame_bytes n))
      ∙ part_length t (at + (k * step n + 6)) (frame_bytes n) (omega (arith, more_fits k count (step n) l))

  pub planes_so_far : (k : ℕ) → k ≤ count → length (planes_of n (drop at t) k) ≡ k * frame_bytes n
  unfolding planes_of
  planes_so_far k l = in_turn_length (frame_bytes n) (planes_at n (drop at t)) k (λ i h. rows_length n (part (drop at t) (i * step n + 6) (frame_bytes n)) (planes_there i (omega arith)))

  pub planes_none : (o : List ℕ) → o ≡ spliced 0 (planes_of n (drop at t) 0) o
  unfolding planes_of
  planes_none o = turn_none (planes_at n (drop at t)) 0 o

  -- one frame more
  pub planes_more : (k place to : ℕ) (o m last : List ℕ) → k < count → count * frame_bytes n ≤ length o → place ≡ at + k * step n → to ≡ k * frame_bytes n
      → m ≡ spliced 0 (planes_of n (drop at t) k) o
      → last ≡ rows_of n (take (place + 6 + frame_bytes n - (place + 6)) (drop (place + 6) t))
      → put_mid to (to + frame_bytes n - to) m last ≡ spliced 0 (planes_of n (drop at t) (k + 1)) o
  unfolding planes_of
  planes_more k place to o m last l room ep et s el =
      let z : place + 6 + frame_bytes n - (place + 6) ≡ frame_bytes n = omega arith in
      let p : place + 6 ≡ at + (k * step n + 6) = omega arith in
      let is : last ≡ planes_at n (drop at t) k = el ∙ (λ i. rows_of n (take (z i) (drop (p i) t))) ∙ sym (ap (rows_of n) (part_behind t at (k * step n + 6) (frame_bytes n))) in
      let here : length (planes_at n (drop at t) k) ≡ frame_bytes n = rows_length n (part (drop at t) (k * step n + 6) (frame_bytes n)) (planes_there k l) in
      let ll : length last ≡ frame_bytes n = ap (λ (x : List ℕ). length x) is ∙ here in
      let before = planes_so_far k (omega arith) in
      let more = more_fits k count (frame_bytes n) l in
      spliced_part to (to + frame_bytes n) last m (omega arith)
      ∙ ap (λ (x : List ℕ). spliced to x m) is
      ∙ turn_more (planes_at n (drop at t)) k 0 to o m s (omega arith) (omega arith)

-- ---- the whole stream
module _ (n : Numbers) (frames : List ℕ) where
  pub count_fits : count_of n frames * frame_bytes n ≤ length frames
  count_fits = div-mul-le_self (length frames) (frame_bytes n)

  -- "header + n·(6 + 64·NBS)"
  pub stream_length : (count : ℕ) → count * frame_bytes n ≤ length frames → length (stream_text n frames count) ≡ length (header_text n) + count * step n
  unfolding stream_text
  stream_length count h = length-append (header_text n) (frames_text n frames count) ∙ ap (λ (m : ℕ). length (header_text n) + m) (frames_length n frames count h count (omega arith))

  -- the header, and then the frames
  pub stream_written : (out o₁ o₂ head : List ℕ) (begin end count : ℕ) → count * frame_bytes n ≤ length frames → length (header_text n) + count * step n ≤ length out
      → head ≡ header_text n → begin ≡ 0 + length head → o₁ ≡ spliced 0 head out
      → end ≡ begin + count * step n → o₂ ≡ spliced begin (frames_text n frames count) o₁
      → (length (stream_text n frames count) ≤ length out) × (end ≡ length (stream_text n frames count)) × (o₂ ≡ spliced 0 (stream_text n frames count) out)
  unfolding stream_text
  stream_written out o₁ o₂ head begin end count h room e eb s₁ ee s₂ =
      let len = stream_length count h in
      let f = frames_length n frames count h count (omega arith) in
      let b : begin ≡ 0 + length (header_text n) = eb ∙ ap (λ (x : List ℕ). 0 + length x) e in (
        omega arith,
        omega arith,
        s₂ ∙ spliced_next 0 begin (header_text n) (frames_text n frames count) out o₁ (s₁ ∙ ap (λ (x : List ℕ). spliced 0 x out) e) b (omega arith),
      )

-- room for `count` pieces of w behind `head`, by a division
pub room_enough : (head room w count : ℕ) → 0 < w → head ≤ room → count ≤ (room - head) / w → head + count * w ≤ room
room_enough head room w count some h c = let m = (le-div_iff_mul-le some).0 c in omega arith

pub room_short : (head room w count : ℕ) → 0 < w → head ≤ room → (room - head) / w < count → room < head + count * w
room_short head room w count some h c = let m = (div-lt_iff_lt-mul some).0 c in omega arith

-- a pixel format that was found
pub bytes_by : (n : Numbers) (f : PixelFormat) → f ≡ format_of n.pf → frame_bytes n ≡ 64 * blocks_of f (wide n) (high n)
bytes_by n f e = bytes_open n ∙ ap (λ (x : PixelFormat). 64 * blocks_of x (wide n) (high n)) (sym e)

pub rows_by : (n : Numbers) (f : PixelFormat) (src : List ℕ) → f ≡ format_of n.pf → frame_rows f (wide n) (high n) src ≡ rows_of n src
rows_by n f src e = ap (λ (x : PixelFormat). frame_rows x (wide n) (high n) src) e
