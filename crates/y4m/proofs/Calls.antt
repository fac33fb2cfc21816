-- What the writing calls answer and leave, test by test. Assumes nothing.
use Prim.Native.Nat.{ℕ, ◌+◌, ◌*◌, ◌-◌, ◌/◌, ◌%◌, ◌≤◌, ◌<◌}
use native.Mathlib.Omega.{arith}
use mathlib.Core.Path.{◌≡◌, sym, ap, ◌∙◌, subst}
use mathlib.Core.Bool.{true, false}
use mathlib.Core.List.{List}
use borrow.Author.Tests.{eq-eqb, ne_eqb}
use lib.ListN.{length}
use Rattle.headers.specs.declared.Session.{Session}
use Rattle.headers.specs.Fits.{session_fits}
use Rattle.output.specs.Output.{refused, left_by, within, as_written, spliced}
use Rattle.output.specs.declared.Written.TheVariants.{Bytes}
use Rattle.output.proofs.Splices.{written_whole}
use Rattle.stream_numbers.specs.declared.Numbers.{Numbers}
use Rattle.stream_numbers.specs.Numbers.{numbers_of}
use Rattle.y4m.specs.Stream.{header_text, frame_bytes, frame_text, frames_text, stream_text, count_of, stream_with, stream_for, header_for, frame_with, frame_for}
use Rattle.y4m.specs.Film.{step}
use Rattle.y4m.proofs.FrameLaws.{count_fits, stream_length, stream_written, room_enough, room_short}

module _ (s : Session) where
  pub stream_8 : (frames : List ℕ) (room : ℕ) → session_fits s ≡ false → stream_for s frames room ≡ refused 8
  unfolding stream_for
  stream_8 frames room h = rw h

  pub header_8 : (room : ℕ) → session_fits s ≡ false → header_for s room ≡ refused 8
  unfolding header_for
  header_8 room h = rw h

  pub frame_8 : (planes : List ℕ) (room : ℕ) → session_fits s ≡ false → frame_for s planes room ≡ refused 8
  unfolding frame_for
  frame_8 planes room h = rw h

  module _ (h : session_fits s ≡ true) (n : Numbers) (e : n ≡ numbers_of s) (size : ℕ) (es : size ≡ frame_bytes n) where
    stream_open : (frames : List ℕ) (room : ℕ) → stream_for s frames room ≡ stream_with n frames room
    unfolding stream_for
    stream_open frames room = rw h (ap (λ (m : Numbers). stream_with m frames room) (sym e))

    pub stream_1 : (frames : List ℕ) (room : ℕ) → (length frames % size ≡ 0 → ⊥) → stream_for s frames room ≡ refused 1
    stream_1 frames room z = stream_open frames room ∙ rw (ne_eqb (length frames % frame_bytes n) 0 (λ k. z (ap (λ (m : ℕ). length frames % m) es ∙ k)))

    pub stream_is : (frames : List ℕ) (room : ℕ) → length frames % size ≡ 0 → stream_for s frames room ≡ within room (stream_text n frames (count_of n frames))
    stream_is frames room z = stream_open frames room ∙ rw (eq-eqb (length frames % frame_bytes n) 0 (sym (ap (λ (m : ℕ). length frames % m) es) ∙ z))

    frame_open : (planes : List ℕ) (room : ℕ) → frame_for s planes room ≡ frame_with n planes room
    unfolding frame_for
    frame_open planes room = rw h (ap (λ (m : Numbers). frame_with m planes room) (sym e))

    pub frame_1 : (planes : List ℕ) (room : ℕ) → (length planes ≡ size → ⊥) → frame_for s planes room ≡ refused 1
    frame_1 planes room z = frame_open planes room ∙ rw (ne_eqb (length planes) (frame_bytes n) (λ k. z (k ∙ sym es)))

    pub frame_is : (planes : List ℕ) (room : ℕ) → length planes ≡ size → frame_for s planes room ≡ within room (frame_text n planes)
    frame_is planes room z = frame_open planes room ∙ rw (eq-eqb (length planes) (frame_bytes n) (z ∙ es))

  pub header_is : session_fits s ≡ true → (n : Numbers) → n ≡ numbers_of s → (room : ℕ) → header_for s room ≡ within room (header_text n)
  unfolding header_for
  header_is h n e room = rw h (ap (λ (m : Numbers). within room (header_text m)) (sym e))

-- ---- the stream of numbers that fit
module _ (n : Numbers) (frames out : List ℕ) (size head : ℕ) (es : size ≡ frame_bytes n) (eh : head ≡ length (header_text n)) where
  abbrev text : List ℕ
  text = stream_text n frames (count_of n frames)

  long : length text ≡ length (header_text n) + count_of n frames * step n
  long = stream_length n frames (count_of n frames) (count_fits n frames)

  count_same : length frames / size ≡ count_of n frames
  count_same = ap (λ (m : ℕ). length frames / m) es

  pub header_short_of : length out < head → length out < length text
  header_short_of h = omega (arith, long)

  pub frames_short_of : head ≤ length out → (length out - head) / (6 + size) < length frames / size → length out < length text
  frames_short_of h c =
      let m = room_short head (length out) (6 + size) (length frames / size) (omega arith) h c in
      let k : length frames / size * (6 + size) ≡ count_of n frames * step n = λ i. count_same i * (6 + es i) in
      omega (arith, long)

  pub room_for : head ≤ length out → length frames / size ≤ (length out - head) / (6 + size)
      → (length (header_text n) + count_of n frames * step n ≤ length out) × (head + length frames / size * step n ≤ length out)
  room_for h c =
      let m = room_enough head (length out) (6 + size) (length frames / size) (omega arith) h c in
      let k : length frames / size * (6 + size) ≡ count_of n frames * step n = λ i. count_same i * (6 + es i) in
      let j : length frames / size * step n ≡ count_of n frames * step n = ap (λ (x : ℕ). x * step n) count_same in
      (omega arith, omega arith)

  pub count_room : length frames / size * frame_bytes n ≤ length frames
  count_room = subst (λ (m : ℕ). m * frame_bytes n ≤ length frames) (sym count_same) (count_fits n frames)

  pub stream_done : (o₁ o₂ line : List ℕ) (begin end : ℕ) → length (header_text n) + count_of n frames * step n ≤ length out
      → line ≡ header_text n → begin ≡ 0 + length line → o₁ ≡ spliced 0 line out
      → end ≡ begin + length frames / size * step n → o₂ ≡ spliced begin (frames_text n frames (length frames / size)) o₁
      → (Bytes end ≡ as_written (within (length out) text)) × (o₂ ≡ left_by (within (length out) text) out)
  stream_done o₁ o₂ line begin end room e eb s₁ ee s₂ =
      let w = stream_written n frames out o₁ o₂ line begin end (count_of n frames) (count_fits n frames) room e eb s₁
      (ee ∙ ap (λ (x : ℕ). begin + x * step n) count_same) (s₂ ∙ ap (λ (x : ℕ). spliced begin (frames_text n frames x) o₁) count_same) in
      written_whole text out o₂ end w.0 w.1 w.2
