-- The theorems of streams: what was written is read, and nothing else is. Assumes nothing.
use Prim.Native.Nat.{ℕ, zero, suc, ◌+◌, ◌*◌, ◌/◌, ◌%◌, ◌≤◌, ◌<◌}
use native.Mathlib.Omega.{arith}
use native.Mathlib.Nat.{le_of_eq, le_trans, mul-div_cancel, mul-div_right, mul-mod_left, div-add-mod, mul_comm}
use mathlib.Core.Path.{◌≡◌, refl, sym, ap, ◌∙◌}
use mathlib.Core.Bool.{Bool, true, false, ◌&&◌, false≢true}
use mathlib.Core.List.{List, ◌∷◌, ◌++◌, append_assoc}
use mathlib.Core.Logic.{inl, inr}
use lib.Dec.{eqb}
use borrow.Author.Tests.{eq-eqb, eqb-true}
use lib.ListN.{length, take, drop, get_or, length-drop, take-append-drop}
use lib.Seq.{take_all, take_at, drop_at, take-take, drop-drop, take-add}
use Rattle.geometry.specs.Order.{in_turn}
use Rattle.geometry.specs.Sizes.{blocks_of}
use Rattle.geometry.proofs.Lists.{turn_same}
use Rattle.headers.specs.declared.Session.{Session}
use Rattle.headers.specs.Fits.{session_fits}
use Rattle.headers.specs.Sizes.{format}
use Rattle.output.specs.Output.{gives, part}
use Rattle.output.proofs.Splices.{within_fits}
use Rattle.text.specs.Decimal.{decimal}
use Rattle.text.specs.Same.{same}
use Rattle.text.proofs.Decimals.{NoDigit, number_decimal}
use Rattle.text.proofs.Texts.{and_left, and_right, same_refl, same_eq}
use Rattle.rows.proofs.Twice.{in_turn_part, in_order}
use Rattle.stream_numbers.specs.declared.Numbers.{Numbers}
use Rattle.stream_numbers.specs.Numbers.{numbers_of}
use Rattle.y4m.specs.Stream.{format_text, header_text, frame_bytes, rows_of, frame_text, frame_of, frames_text, stream_text, whole, count_of, header_for, frame_for}
use Rattle.frame_marks.specs.Marks.{frame_line, marked}
use Rattle.y4m.specs.Film.{format_in, numbers_in, numbers_fit, is_header, body_of, step, frames_of, is_stream_of, planes_at, planes_of, holds, film_with, film_in}
use Rattle.y4m.proofs.Fitting.{Format, Fit, fit}
use Rattle.y4m.proofs.FrameLaws.{rows_length, rows_twice, text_length, frame_there, frames_length, planes_there, planes_so_far, stream_length, count_fits}
use Rattle.frame_marks.proofs.Laws.{marked_none, marked_more, marked_not}
use Rattle.y4m.proofs.Looks.{Begins, stream_begins, film_holds}
use Rattle.y4m.proofs.Sessions.{numbers_fit_law, some_session, some_session_law}

-- ---- a header that was written is read
format_read : (pf : ℕ) (t : List ℕ) → Format pf → format_in (get_or (format_text pf ++ t) 4 0) ≡ pf
unfolding format_text format_in
format_read pf t (inl e) = rw e
format_read pf t (inr (inl e)) = rw e
format_read pf t (inr (inr e)) = rw e

-- the header and what stands behind it, with its numbers in front of what follows them
abbrev header_then : Numbers → List ℕ → List ℕ
header_then n t =
    89 ∷ 85 ∷ 86 ∷ 52 ∷ 77 ∷ 80 ∷ 69 ∷ 71 ∷ 50 ∷ 32 ∷ 87 ∷ (decimal n.width ++ (32 ∷ 72 ∷ (decimal n.height
    ++ (32 ∷ 70 ∷ (decimal n.frn ++ (58 ∷ (decimal n.frd
    ++ (32 ∷ 73 ∷ 112 ∷ 32 ∷ 65 ∷ (decimal n.parn ++ (58 ∷ (decimal n.pard
    ++ (format_text n.pf ++ t))))))))))))

header_then_law : (n : Numbers) (t : List ℕ) → header_text n ++ t ≡ header_then n t
unfolding header_text
header_then_law n t = simp append_assoc

format_no_digit : (pf : ℕ) (t : List ℕ) → Format pf → NoDigit (format_text pf ++ t)
unfolding format_text
format_no_digit pf t (inl e) = rw e refl
format_no_digit pf t (inr (inl e)) = rw e refl
format_no_digit pf t (inr (inr e)) = rw e refl

then_read : (n : Numbers) (t : List ℕ) → Fit n → numbers_in (header_then n t) ≡ n
unfolding numbers_in
then_read n t f =
    let c : List ℕ = format_text n.pf ++ t in
    let t₄ : List ℕ = 58 ∷ (decimal n.pard ++ c) in
    let t₃ : List ℕ = 32 ∷ 73 ∷ 112 ∷ 32 ∷ 65 ∷ (decimal n.parn ++ t₄) in
    let t₂ : List ℕ = 58 ∷ (decimal n.frd ++ t₃) in
    let t₁ : List ℕ = 32 ∷ 70 ∷ (decimal n.frn ++ t₂) in
    let t₀ : List ℕ = 32 ∷ 72 ∷ (decimal n.height ++ t₁) in
    rw (number_decimal n.width t₀ (omega (arith, f.width.most, f.width.is)) refl)
    (rw (number_decimal n.height t₁ (omega (arith, f.height.most, f.height.is)) refl)
    (rw (number_decimal n.frn t₂ (omega (arith, f.frn.most)) refl)
    (rw (number_decimal n.frd t₃ (omega (arith, f.frd.most)) refl)
    (rw (number_decimal n.parn t₄ (omega (arith, f.aspect_small.0)) refl)
    (rw (number_decimal n.pard c (omega (arith, f.aspect_small.1)) (format_no_digit n.pf t f.format))
    (rw (format_read n.pf t f.format) refl))))))

pub header_read : (n : Numbers) (t : List ℕ) → numbers_fit n ≡ true → numbers_in (header_text n ++ t) ≡ n
header_read n t h = ap numbers_in (header_then_law n t) ∙ then_read n t (fit n h)

-- ---- a frame's line and rows, where one frame's bytes stand
take_front : (x r : List ℕ) (b : ℕ) → take (6 + b) x ≡ frame_line ++ r → take 6 x ≡ frame_line
take_front x r b e = sym (take-take 6 (6 + b) x (omega arith)) ∙ ap (λ (l : List ℕ). take 6 l) e

take_behind : (x r : List ℕ) (b : ℕ) → take (6 + b) x ≡ frame_line ++ r → take b (drop 6 x) ≡ r
take_behind x r b e =
    let f = take_front x r b e in
    let s = take-add 6 b x in
    sym (drop_at (take 6 x) (take b (drop 6 x)) 6 (ap (λ (l : List ℕ). length l) f)) ∙ ap (λ (l : List ℕ). drop 6 l) (sym s ∙ e)

-- ---- the stream of frames that fill a buffer
module _ (n : Numbers) (ok : numbers_fit n ≡ true) (frames : List ℕ) (count : ℕ) (long : length frames ≡ count * frame_bytes n) where
  abbrev body : List ℕ
  body = frames_text n frames count

  fits : count * frame_bytes n ≤ length frames
  fits = le_of_eq (sym long)

  -- frame k of it
  frame_at : (k : ℕ) → k < count → take (6 + frame_bytes n) (drop (k * step n) body) ≡ frame_line ++ rows_of n (frame_of n frames k)
  unfolding frames_text frame_text
  frame_at k l =
      in_turn_part (step n) (λ i. frame_text n (frame_of n frames i)) count (λ i h. text_length n (frame_of n frames i) (frame_there n frames count fits i h)) k l

  all_marked : (k : ℕ) → k ≤ count → marked (step n) body k ≡ true
  all_marked zero l = marked_none (step n) body
  all_marked (suc k) l =
      let e : suc k ≡ k + 1 = omega arith in
      let s : part body (k * step n) 6 ≡ frame_line = take_front (drop (k * step n) body) (rows_of n (frame_of n frames k)) (frame_bytes n) (frame_at k (omega arith)) in
      ap (marked (step n) body) e
      ∙ marked_more (step n) body k (all_marked k (omega arith)) (ap (λ (x : List ℕ). same x frame_line) s ∙ same_refl frame_line)

  planes_back : (k : ℕ) → k < count → planes_at n body k ≡ frame_of n frames k
  planes_back k l =
      ap (λ (x : List ℕ). rows_of n (take (frame_bytes n) x)) (sym (drop-drop 6 (k * step n) body))
      ∙ ap (rows_of n) (take_behind (drop (k * step n) body) (rows_of n (frame_of n frames k)) (frame_bytes n) (frame_at k l))
      ∙ rows_twice n (frame_of n frames k) (frame_there n frames count fits k l)

  all_back : planes_of n body count ≡ frames
  unfolding planes_of
  all_back =
      turn_same (planes_at n body) (frame_of n frames) count (λ k l. planes_back k l)
      ∙ in_order (frame_bytes n) frames count ∙ take_all (count * frame_bytes n) frames (le_of_eq long)

  abbrev text : List ℕ
  text = stream_text n frames count

  stream_open : text ≡ header_text n ++ body
  unfolding stream_text
  stream_open = refl

  body_is : body_of n text ≡ body
  body_is = ap (λ (x : List ℕ). drop (length (header_text n)) x) stream_open ∙ drop_at (header_text n) body (length (header_text n)) refl

  body_long : length (body_of n text) ≡ count * step n
  body_long = ap (λ (x : List ℕ). length x) body_is ∙ frames_length n frames count fits count (omega arith)

  count_is : frames_of n text ≡ count
  count_is = ap (λ (m : ℕ). m / step n) body_long ∙ mul-div_cancel count (omega arith)

  is_header_law : is_header n text ≡ true
  unfolding is_header
  is_header_law =
      let h = ap (λ (x : List ℕ). take (length (header_text n)) x) stream_open ∙ take_at (header_text n) body (length (header_text n)) refl in
      let s = ap (λ (x : List ℕ). same x (header_text n)) h ∙ same_refl (header_text n) in
      λ i. ok i && s i

  pub is_stream : is_stream_of n text ≡ true
  unfolding is_stream_of
  is_stream =
      let m = eq-eqb (length (body_of n text) % step n) 0 (ap (λ (k : ℕ). k % step n) body_long ∙ mul-mod_left count (step n)) in
      let a = (λ i. marked (step n) (body_is i) (count_is i)) ∙ all_marked count (omega arith) in
      let h = is_header_law in
      λ i. h i && (m i && a i)

  pub stream_numbers : numbers_in text ≡ n
  stream_numbers = ap numbers_in stream_open ∙ header_read n body ok

  pub stream_read : (room : ℕ) → length frames ≤ room → film_in text room ≡ holds n count frames
  unfolding film_in
  stream_read room h =
      let p = (λ i. planes_of n (body_is i) (count_is i)) ∙ all_back in
      let c = count_is in
      ap (λ (m : Numbers). film_with m text room) stream_numbers
      ∙ film_holds n text room is_stream (le_trans (le_of_eq (ap (λ (k : ℕ). k * frame_bytes n) c ∙ sym long)) h)
      ∙ (λ i. holds n (c i) (p i))

-- ---- what is read is the stream of what it says
marked_at : (w : ℕ) (body : List ℕ) (count k : ℕ) → marked w body count ≡ true → k < count → part body (k * w) 6 ≡ frame_line
marked_at w body count k h l = by (same (part body (k * w) 6) frame_line) refl
  where
    by : (b : Bool) → same (part body (k * w) 6) frame_line ≡ b → part body (k * w) 6 ≡ frame_line
    by true e = same_eq (part body (k * w) 6) frame_line e
    by false e = absurd (false≢true (sym (marked_not w body count k l e) ∙ h))

module _ (n : Numbers) (t : List ℕ) (h : is_stream_of n t ≡ true) where
  abbrev count : ℕ
  count = frames_of n t

  abbrev planes : List ℕ
  planes = planes_of n (body_of n t) count

  tests : (eqb (length (body_of n t) % step n) 0 && marked (step n) (body_of n t) count) ≡ true
  unfolding is_stream_of
  tests = and_right (is_header n t) (eqb (length (body_of n t) % step n) 0 && marked (step n) (body_of n t) count) h

  body_whole : length (body_of n t) ≡ count * step n
  body_whole =
      let z = eqb-true (length (body_of n t) % step n) 0 (and_left (eqb (length (body_of n t) % step n) 0) (marked (step n) (body_of n t) count) tests) in
      omega (arith, div-add-mod (length (body_of n t)) (step n), mul_comm (step n) count)

  head : Begins n t
  head = stream_begins n t h

  there : length (header_text n) + count * step n ≤ length t
  there = omega (arith, head.long, length-drop (length (header_text n)) t, body_whole)

  frame_parts : (k : ℕ) → k < count → part (body_of n t) (k * step n) (step n) ≡ frame_text n (frame_of n planes k)
  unfolding frame_text planes_of
  frame_parts k l =
      let x = drop (k * step n) (body_of n t) in
      let line = marked_at (step n) (body_of n t) count k (and_right (eqb (length (body_of n t) % step n) 0) (marked (step n) (body_of n t) count) tests) l in
      let sized = planes_there n t (length (header_text n)) count there k l in
      let frame : frame_of n planes k ≡ planes_at n (body_of n t) k =
      in_turn_part (frame_bytes n) (planes_at n (body_of n t)) count (λ i g. rows_length n (part (body_of n t) (i * step n + 6) (frame_bytes n)) (planes_there n t (length (header_text n)) count there i g)) k l in
      let back : rows_of n (frame_of n planes k) ≡ take (frame_bytes n) (drop 6 x) =
      ap (rows_of n) frame ∙ rows_twice n (part (body_of n t) (k * step n + 6) (frame_bytes n)) sized
      ∙ ap (λ (y : List ℕ). take (frame_bytes n) y) (sym (drop-drop 6 (k * step n) (body_of n t))) in
      take-add 6 (frame_bytes n) x ∙ (λ i. line i ++ sym back i)

  pub stream_only : t ≡ stream_text n planes count
  unfolding stream_text frames_text
  stream_only =
      let b : body_of n t ≡ in_turn (λ k. frame_text n (frame_of n planes k)) count =
      sym (take_all (count * step n) (body_of n t) (le_of_eq body_whole)) ∙ sym (in_order (step n) (body_of n t) count)
      ∙ turn_same (λ k. part (body_of n t) (k * step n) (step n)) (λ k. frame_text n (frame_of n planes k)) count (λ k l. frame_parts k l) in
      let a = head.stands in
      sym (take-append-drop (length (header_text n)) t) ∙ (λ i. a i ++ b i)

  pub planes_long : length planes ≡ count * frame_bytes n
  planes_long = planes_so_far n t (length (header_text n)) count there count (omega arith)

-- ---- the theorems, over sessions
whole_count : (n : Numbers) (frames : List ℕ) → whole n frames ≡ true → length frames ≡ count_of n frames * frame_bytes n
whole_count n frames h =
    let z = eqb-true (length frames % frame_bytes n) 0 h in
    omega (arith, div-add-mod (length frames) (frame_bytes n), mul_comm (frame_bytes n) (count_of n frames))

-- what was written is read back: numbers, count and planes to the byte
pub read_written : (s : Session) (frames : List ℕ) (room : ℕ) → session_fits s ≡ true → whole (numbers_of s) frames ≡ true → length frames ≤ room
    → film_in (stream_text (numbers_of s) frames (count_of (numbers_of s) frames)) room ≡ holds (numbers_of s) (count_of (numbers_of s) frames) frames
read_written s frames room h w r = stream_read (numbers_of s) (numbers_fit_law s h) frames (count_of (numbers_of s) frames) (whole_count (numbers_of s) frames w) room r

-- what is read without 21 is what the writer writes, for some session that passes 8
pub written_read : (t : List ℕ) → is_stream_of (numbers_in t) t ≡ true
    → (t ≡ stream_text (numbers_in t) (planes_of (numbers_in t) (body_of (numbers_in t) t) (frames_of (numbers_in t) t)) (frames_of (numbers_in t) t))
    × (session_fits (some_session (numbers_in t)) ≡ true) × (numbers_of (some_session (numbers_in t)) ≡ numbers_in t)
written_read t h =
    let n = numbers_in t in
    let s = some_session_law n (stream_begins n t h).fits in
    (stream_only n t h, s.0, s.1)

-- 21 exactly if no session and no frames give the stream
pub never_written : (t : List ℕ) → is_stream_of (numbers_in t) t ≡ false → (s : Session) (frames : List ℕ) → session_fits s ≡ true → whole (numbers_of s) frames ≡ true
    → t ≡ stream_text (numbers_of s) frames (count_of (numbers_of s) frames) → ⊥
never_written t h s frames f w e =
    let n = numbers_of s in
    let long = whole_count n frames w in
    let count = count_of n frames in
    let is = is_stream n (numbers_fit_law s f) frames count long in
    let same_numbers = stream_numbers n (numbers_fit_law s f) frames count long in
    false≢true (sym h ∙ (λ i. is_stream_of (numbers_in (e i)) (e i)) ∙ ap (λ (m : Numbers). is_stream_of m (stream_text n frames count)) same_numbers ∙ is)

-- the header and the frames in pieces are the whole
pub pieces : (s : Session) (frames : List ℕ) → session_fits s ≡ true → whole (numbers_of s) frames ≡ true
    → (header_for s (length (header_text (numbers_of s))) ≡ gives (header_text (numbers_of s)))
    × ((k : ℕ) → k < count_of (numbers_of s) frames → frame_for s (frame_of (numbers_of s) frames k) (step (numbers_of s)) ≡ gives (frame_text (numbers_of s) (frame_of (numbers_of s) frames k)))
    × (stream_text (numbers_of s) frames (count_of (numbers_of s) frames)
    ≡ header_text (numbers_of s) ++ in_turn (λ k. frame_text (numbers_of s) (frame_of (numbers_of s) frames k)) (count_of (numbers_of s) frames))
unfolding header_for frame_for stream_text frames_text
pieces s frames f w =
    let n = numbers_of s in (
      rw f (within_fits (length (header_text n)) (header_text n) (omega arith)),
      (λ k l. let there = frame_there n frames (count_of n frames) (count_fits n frames) k l in
          rw (f, eq-eqb (length (frame_of n frames k)) (frame_bytes n) there) (within_fits (step n) (frame_text n (frame_of n frames k)) (le_of_eq (text_length n (frame_of n frames k) there)))),
      refl,
    )

-- how long a stream is
pub stream_bytes : (s : Session) (frames : List ℕ)
    → length (stream_text (numbers_of s) frames (count_of (numbers_of s) frames)) ≡ length (header_text (numbers_of s)) + count_of (numbers_of s) frames * (6 + frame_bytes (numbers_of s))
stream_bytes s frames = stream_length (numbers_of s) frames (count_of (numbers_of s) frames) (count_fits (numbers_of s) frames)

-- the bytes of a frame are those of the session's plane buffer: 64·NBS
pub session_bytes : (s : Session) → frame_bytes (numbers_of s) ≡ 64 * blocks_of (format s) s.fields.fmbw s.fields.fmbh
unfolding frame_bytes numbers_of
session_bytes s =
    let w = mul-div_right s.fields.fmbw {m = 16} (omega arith) in
    let h = mul-div_right s.fields.fmbh {m = 16} (omega arith) in
    λ i. 64 * blocks_of (format s) (w i) (h i)
