-- What a look at a stream comes to, test by test. Assumes nothing.
use Prim.Native.Nat.{ℕ, ◌+◌, ◌*◌, ◌-◌, ◌/◌, ◌%◌, ◌≤◌, ◌<◌}
use native.Mathlib.Omega.{arith}
use native.Mathlib.Nat.{div-mul-le_self, le-div_iff_mul-le, div-lt_iff_lt-mul}
use mathlib.Core.Path.{◌≡◌, refl, sym, ap, ◌∙◌, subst}
use mathlib.Core.Bool.{Bool, true, false, ◌&&◌}
use mathlib.Core.List.{List}
use lib.Dec.{eqb}
use borrow.Author.Tests.{eq-eqb, ne_eqb, le-leb, lt-leb}
use lib.ListN.{length, take, drop, length-take, length-drop}
use Rattle.bitstream.specs.Reading.{choose}
use Rattle.output.specs.Output.{spliced}
use Rattle.output.proofs.Splices.{spliced_first}
use Rattle.text.specs.Same.{same}
use Rattle.text.proofs.Texts.{and_left, and_right, same_eq}
use Rattle.stream_numbers.specs.declared.Numbers.{Numbers}
use Rattle.y4m.specs.declared.Looked.{Looked}
use Rattle.y4m.specs.declared.Looked.TheVariants.{Frames, Other}
use Rattle.y4m.specs.declared.FilmAnswer.{FilmAnswer}
use Rattle.y4m.specs.Stream.{header_text, frame_bytes}
use Rattle.y4m.specs.Film.{numbers_in, film_in, numbers_fit, is_header, header_end, body_of, step, frames_of, is_stream_of, looked, planes_of, Holds, holds, refused, film_with, as_film, planes_by}
use Rattle.frame_marks.specs.Marks.{marked}
use Rattle.y4m.proofs.Fitting.{bytes_some}
use Rattle.y4m.proofs.HeaderLaws.{header_short}

-- a text that begins with the header of numbers that fit
pub record Begins (n : Numbers) (t : List ℕ) : Type 0 where
  pub fits : numbers_fit n ≡ true
  pub stands : take (length (header_text n)) t ≡ header_text n
  pub long : length (header_text n) ≤ length t

pub begins : (n : Numbers) (t : List ℕ) → is_header n t ≡ true → Begins n t
unfolding is_header
begins n t h =
    let s = same_eq (take (length (header_text n)) t) (header_text n) (and_right (numbers_fit n) (same (take (length (header_text n)) t) (header_text n)) h) in
    record { fits = and_left (numbers_fit n) (same (take (length (header_text n)) t) (header_text n)) h; stands = s; long = omega (arith, length-take (length (header_text n)) t, ap (λ (x : List ℕ). length x) s) }

module _ (n : Numbers) (t : List ℕ) where
  -- no header
  by_end : (b : Bool) (e : ℕ) → is_header n t ≡ b → e ≡ choose b (length (header_text n)) 0 → e ≡ 0 → is_header n t ≡ false
  by_end true e h k z = absurd (omega (arith, (header_short n).0))
  by_end false e h k z = h

  pub no_header : (e : ℕ) → e ≡ header_end n t → e ≡ 0 → Other ≡ looked n t
  unfolding is_stream_of
  no_header e k z = rw (by_end (is_header n t) e refl k z)

  -- a header
  by_some : (b : Bool) (e : ℕ) → is_header n t ≡ b → e ≡ choose b (length (header_text n)) 0 → (e ≡ 0 → ⊥) → (is_header n t ≡ true) × (e ≡ length (header_text n))
  by_some true e h k z = (h, k)
  by_some false e h k z = absurd (z k)

  pub some_header : (e : ℕ) → e ≡ header_end n t → (e ≡ 0 → ⊥) → (is_header n t ≡ true) × (e ≡ length (header_text n))
  some_header e k z = by_some (is_header n t) e refl k z

  module _ (h : is_header n t ≡ true) (begin size : ℕ) (eb : begin ≡ length (header_text n)) (es : size ≡ frame_bytes n) where
    rest_is : length t - begin ≡ length (body_of n t)
    rest_is = ap (λ (m : ℕ). length t - m) eb ∙ sym (length-drop (length (header_text n)) t)

    pub rest_cut : (length t - begin) % (6 + size) ≡ length (body_of n t) % step n
    rest_cut = λ i. rest_is i % (6 + es i)

    pub count_is : (length t - begin) / (6 + size) ≡ frames_of n t
    count_is = λ i. rest_is i / (6 + es i)

    -- the frames lie in the stream
    pub frames_there : begin + (length t - begin) / (6 + size) * (6 + size) ≤ length t
    frames_there = let l = (begins n t h).long in omega (arith, div-mul-le_self (length t - begin) (6 + size))

    marked_is : marked (6 + size) (drop begin t) ((length t - begin) / (6 + size)) ≡ marked (step n) (body_of n t) (frames_of n t)
    marked_is = λ i. marked (6 + es i) (drop (eb i) t) (count_is i)

    -- bytes are left over
    pub left_over : ((length t - begin) % (6 + size) ≡ 0 → ⊥) → Other ≡ looked n t
    unfolding is_stream_of
    left_over z = rw (h, ne_eqb (length (body_of n t) % step n) 0 (λ e. z (rest_cut ∙ e)))

    -- a line is missing
    pub not_marked : (length t - begin) % (6 + size) ≡ 0 → marked (6 + size) (drop begin t) ((length t - begin) / (6 + size)) ≡ false → Other ≡ looked n t
    unfolding is_stream_of
    not_marked z m = rw (h, eq-eqb (length (body_of n t) % step n) 0 (sym rest_cut ∙ z), sym marked_is ∙ m)

    pub stream_found : (length t - begin) % (6 + size) ≡ 0 → marked (6 + size) (drop begin t) ((length t - begin) / (6 + size)) ≡ true
        → Frames begin size ((length t - begin) / (6 + size)) ≡ looked n t
    unfolding is_stream_of
    stream_found z m = rw (h, eq-eqb (length (body_of n t) % step n) 0 (sym rest_cut ∙ z), sym marked_is ∙ m) (λ i. Frames (eb i) (es i) (count_is i))

  -- ---- by what the look says
  by_other : (b : Bool) (x : Looked) → is_stream_of n t ≡ b → x ≡ choose b (Frames (length (header_text n)) (frame_bytes n) (frames_of n t)) Other → x ≡ Other → is_stream_of n t ≡ false
  by_other true x h e o = let z : ◌≡◌ {A = ℕ} 0 1 = cc in absurd (omega arith)
  by_other false x h e o = h

  pub other : (x : Looked) → x ≡ looked n t → x ≡ Other → is_stream_of n t ≡ false
  other x e o = by_other (is_stream_of n t) x refl e o

  pub record Found (begin size count : ℕ) : Type 0 where
    pub is : is_stream_of n t ≡ true
    pub begins_at : begin ≡ length (header_text n)
    pub sized : size ≡ frame_bytes n
    pub counted : count ≡ frames_of n t

  by_found : (b : Bool) (x : Looked) (begin size count : ℕ) → is_stream_of n t ≡ b → x ≡ choose b (Frames (length (header_text n)) (frame_bytes n) (frames_of n t)) Other → x ≡ Frames begin size count → Found begin size count
  by_found true x begin size count h e o = record { is = h; begins_at = cc; sized = cc; counted = cc }
  by_found false x begin size count h e o = let z : ◌≡◌ {A = ℕ} 0 1 = cc in absurd (omega arith)

  pub found : (x : Looked) (begin size count : ℕ) → x ≡ looked n t → x ≡ Frames begin size count → Found begin size count
  found x begin size count e o = by_found (is_stream_of n t) x begin size count refl e o

  -- its header stands, and its frames lie in it
  pub stream_begins : is_stream_of n t ≡ true → Begins n t
  unfolding is_stream_of
  stream_begins h = begins n t (and_left (is_header n t) (eqb (length (body_of n t) % step n) 0 && marked (step n) (body_of n t) (frames_of n t)) h)

  -- ---- what is answered and left
  pub film_21 : (room : ℕ) → is_stream_of n t ≡ false → film_with n t room ≡ refused 21
  film_21 room h = rw h

  pub film_14 : (room : ℕ) → is_stream_of n t ≡ true → room < frames_of n t * frame_bytes n → film_with n t room ≡ refused 14
  film_14 room h l = rw (h, lt-leb (frames_of n t * frame_bytes n) room l)

  pub film_holds : (room : ℕ) → is_stream_of n t ≡ true → frames_of n t * frame_bytes n ≤ room → film_with n t room ≡ holds n (frames_of n t) (planes_of n (body_of n t) (frames_of n t))
  film_holds room h l = rw (h, le-leb (frames_of n t * frame_bytes n) room l)

  -- ---- a stream that was found
  module _ (begin size count : ℕ) (f : Found begin size count) where
    pub found_fits : numbers_fit n ≡ true
    found_fits = (stream_begins f.is).fits

    pub found_some : 0 < size
    found_some = omega (arith, f.sized, (bytes_some n found_fits).0)

    pub found_there : begin + count * step n ≤ length t
    found_there =
        let l = (stream_begins f.is).long in
        let m = div-mul-le_self (length (body_of n t)) (step n) in
        let k : count * step n ≡ frames_of n t * step n = ap (λ (x : ℕ). x * step n) f.counted in
        omega (arith, f.begins_at, length-drop (length (header_text n)) t)

    bytes_same : count * size ≡ frames_of n t * frame_bytes n
    bytes_same = λ i. f.counted i * f.sized i

    pub found_short : (room : ℕ) → room / size < count → room < frames_of n t * frame_bytes n
    found_short room c = subst (λ (m : ℕ). room < m) bytes_same ((div-lt_iff_lt-mul found_some).0 c)

    pub found_room : (room : ℕ) → count ≤ room / size → (frames_of n t * frame_bytes n ≤ room) × (count * frame_bytes n ≤ room)
    found_room room c =
        let m = (le-div_iff_mul-le found_some).0 c in
        let k : count * size ≡ count * frame_bytes n = ap (λ (x : ℕ). count * x) f.sized in
        (subst (λ (x : ℕ). x ≤ room) bytes_same m, subst (λ (x : ℕ). x ≤ room) k m)

    pub found_left : (planes new : List ℕ) → new ≡ spliced 0 (planes_of n (drop begin t) count) planes
        → new ≡ planes_by (holds n (frames_of n t) (planes_of n (body_of n t) (frames_of n t))) planes
    found_left planes new s =
        s ∙ (λ i. spliced 0 (planes_of n (drop (f.begins_at i) t) (f.counted i)) planes)
        ∙ spliced_first (planes_of n (body_of n t) (frames_of n t)) planes

-- an answer and what is left, where what the stream holds is known
pub read_answered : (t planes new : List ℕ) (n : Numbers) (p : Holds) (r : FilmAnswer) (room : ℕ) → n ≡ numbers_in t → film_with n t room ≡ p → r ≡ as_film p → new ≡ planes_by p planes
    → (r ≡ as_film (film_in t room)) × (new ≡ planes_by (film_in t room) planes)
unfolding film_in
read_answered t planes new n p r room e h a s =
    let o = sym h ∙ ap (λ (m : Numbers). film_with m t room) e in
    (a ∙ ap as_film o, s ∙ ap (λ (x : Holds). planes_by x planes) o)
