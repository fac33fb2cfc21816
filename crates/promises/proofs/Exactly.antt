-- The reader of streams accepts exactly what the writer writes, and gives the same planes. Assumes nothing.
use Prim.Native.Nat.{ℕ, ◌*◌, ◌/◌, ◌%◌, ◌≤◌}
use native.Mathlib.Omega.{arith}
use native.Mathlib.Nat.{mul-div_cancel, mul-mod_left}
use mathlib.Core.Path.{◌≡◌, refl, sym, ap, ◌∙◌, subst}
use mathlib.Core.Bool.{Bool, true, false}
use mathlib.Core.List.{List}
use lib.Dec.{leb}
use lib.ListN.{length}
use borrow.Author.Tests.{eq-eqb}
use Rattle.bitstream.specs.Reading.{choose}
use Rattle.headers.specs.declared.Session.{Session}
use Rattle.headers.specs.Fits.{session_fits}
use Rattle.output.specs.Output.{gives, refused as not_given}
use Rattle.output.proofs.Splices.{within_fits}
use Rattle.stream_numbers.specs.declared.Numbers.{Numbers}
use Rattle.stream_numbers.specs.Numbers.{numbers_of}
use Rattle.y4m.specs.Stream.{frame_bytes, stream_text, whole, count_of, stream_with, stream_for}
use Rattle.y4m.specs.Film.{numbers_in, body_of, frames_of, is_stream_of, planes_of, holds, refused, film_in}
use Rattle.y4m.proofs.Fitting.{bytes_some}
use Rattle.y4m.proofs.Looks.{stream_begins}
use Rattle.y4m.proofs.Sessions.{some_session}
use Rattle.y4m.proofs.Streams.{planes_long, read_written, written_read, never_written}
use Rattle.promises.specs.Exactly.{WrittenFrom, AcceptsExactly}

-- ---- what the writer gave
record Gave (s : Session) (frames t : List ℕ) : Type 0 where
  passes : session_fits s ≡ true
  all : whole (numbers_of s) frames ≡ true
  text : stream_text (numbers_of s) frames (count_of (numbers_of s) frames) ≡ t

gave : (s : Session) (frames t : List ℕ) (room : ℕ) → stream_for s frames room ≡ gives t → Gave s frames t
unfolding stream_for
gave s frames t room h =
    let text = stream_text (numbers_of s) frames (count_of (numbers_of s) frames) in
    go (session_fits s) (whole (numbers_of s) frames) (leb (length text) room) refl refl h
  where
    go : (x y z : Bool) → session_fits s ≡ x → whole (numbers_of s) frames ≡ y
        → choose x (choose y (choose z (gives (stream_text (numbers_of s) frames (count_of (numbers_of s) frames))) (not_given 14)) (not_given 1)) (not_given 8) ≡ gives t → Gave s frames t
    go true true true e f h = record { passes = e; all = f; text = cc }
    go true true false e f h = let z : ◌≡◌ {A = ℕ} 0 1 = cc in absurd (omega arith)
    go true false z e f h = let z : ◌≡◌ {A = ℕ} 0 1 = cc in absurd (omega arith)
    go false y z e f h = let z : ◌≡◌ {A = ℕ} 0 1 = cc in absurd (omega arith)

-- ---- what the reader found
module _ (t : List ℕ) where
  abbrev n : Numbers
  n = numbers_in t

  abbrev count : ℕ
  count = frames_of n t

  abbrev planes : List ℕ
  planes = planes_of n (body_of n t) count

  -- a stream, and what it holds
  held : (room : ℕ) {m : Numbers} {k : ℕ} {p : List ℕ} → film_in t room ≡ holds m k p → (is_stream_of n t ≡ true) × (holds n count planes ≡ holds m k p)
  unfolding film_in
  held room {m} {k} {p} h = go (is_stream_of n t) (leb (count * frame_bytes n) room) refl h
    where
      go : (x y : Bool) → is_stream_of n t ≡ x → choose x (choose y (holds n count planes) (refused 14)) (refused 21) ≡ holds m k p
          → (is_stream_of n t ≡ true) × (holds n count planes ≡ holds m k p)
      go true true e h = (e, h)
      go true false e h = let z : ◌≡◌ {A = ℕ} 0 1 = cc in absurd (omega arith)
      go false y e h = let z : ◌≡◌ {A = ℕ} 0 1 = cc in absurd (omega arith)

  -- 21
  not_held : (room : ℕ) → film_in t room ≡ refused 21 → is_stream_of n t ≡ false
  unfolding film_in
  not_held room h = go (is_stream_of n t) (leb (count * frame_bytes n) room) refl h
    where
      go : (x y : Bool) → is_stream_of n t ≡ x → choose x (choose y (holds n count planes) (refused 14)) (refused 21) ≡ refused 21 → is_stream_of n t ≡ false
      go true true e h = let z : ◌≡◌ {A = ℕ} 0 1 = cc in absurd (omega arith)
      go true false e h = let z : ◌≡◌ {A = ℕ} 14 21 = cc in absurd (omega arith)
      go false y e h = e

  module _ (h : is_stream_of n t ≡ true) where
    whole_planes : length planes ≡ count * frame_bytes n
    whole_planes = planes_long n t h

    count_back : count_of n planes ≡ count
    count_back = ap (λ (m : ℕ). m / frame_bytes n) whole_planes ∙ mul-div_cancel count (bytes_some n (stream_begins n t h).fits).0

    given_back : (s : Session) → session_fits s ≡ true → numbers_of s ≡ n → (room : ℕ) → length t ≤ room → stream_for s planes room ≡ gives t
    unfolding stream_for
    given_back s fits e room l =
        let w = eq-eqb (length planes % frame_bytes n) 0 (ap (λ (m : ℕ). m % frame_bytes n) whole_planes ∙ mul-mod_left count (frame_bytes n)) in
        let text : t ≡ stream_text n planes (count_of n planes) = (written_read t h).0 ∙ ap (stream_text n planes) (sym count_back) in
        rw fits (ap (λ (m : Numbers). stream_with m planes room) e ∙ rw w (ap (λ (x : List ℕ). choose (leb (length x) room) (gives x) (not_given 14)) (sym text) ∙ within_fits room t l))

    written_from : WrittenFrom t n count planes
    written_from = let w = written_read t h in record {
      session = some_session n;
      passes = w.1;
      numbers = w.2;
      whole = whole_planes;
      given = given_back (some_session n) w.1 w.2;
    }

pub accepts_exactly : (t : List ℕ) → AcceptsExactly t
accepts_exactly t = record {
  written = λ s frames room plane_room h l.
      let g = gave s frames t room h in
      subst (λ (x : List ℕ). film_in x plane_room ≡ holds (numbers_of s) (count_of (numbers_of s) frames) frames) g.text (read_written s frames plane_room g.passes g.all l);
  only = λ m k p room h.
      let e = held t room h in
      from m k p e.1 (written_from t e.0);
  other = λ plane_room h s frames room w. let g = gave s frames t room w in never_written t (not_held t plane_room h) s frames g.passes g.all (sym g.text);
}
  where
    from : (m : Numbers) (k : ℕ) (p : List ℕ) → holds (n t) (count t) (planes t) ≡ holds m k p → WrittenFrom t (n t) (count t) (planes t) → WrittenFrom t m k p
    from m k p e w =
        let a : n t ≡ m = cc in
        let b : count t ≡ k = cc in
        let c : planes t ≡ p = cc in
        subst (λ (m : Numbers). WrittenFrom t m k p) a (subst (λ (k : ℕ). WrittenFrom t (n t) k p) b (subst (λ (p : List ℕ). WrittenFrom t (n t) (count t) p) c w))
