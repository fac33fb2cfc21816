-- The film of a list of calls, and of a shot. Assumes nothing.
use Prim.Native.Nat.{ℕ, ◌*◌, ◌/◌, ◌%◌, ◌≤◌}
use native.Mathlib.Nat.{mul-div_cancel, mul-mod_left}
use mathlib.Core.Path.{◌≡◌, sym, ap, ◌∙◌, subst}
use mathlib.Core.Bool.{true}
use mathlib.Core.List.{List}
use lib.ListN.{length}
use borrow.Author.Tests.{eq-eqb}
use Rattle.headers.specs.declared.Session.{Session}
use Rattle.headers.specs.Fits.{session_fits}
use Rattle.ways.specs.Ways.{first_way}
use Rattle.calls.specs.Call.{by_rules}
use Rattle.calls.specs.Demand.{Turn, turns}
use Rattle.output.specs.Output.{gives}
use Rattle.output.proofs.Splices.{within_fits}
use Rattle.stream_numbers.specs.Numbers.{numbers_of}
use Rattle.y4m.specs.Stream.{frame_bytes, stream_text, stream_for, count_of}
use Rattle.y4m.proofs.Fitting.{bytes_some}
use Rattle.y4m.proofs.Sessions.{numbers_fit_law}
use Rattle.y4m.proofs.Streams.{stream_read, session_bytes}
use Rattle.packet_list.specs.Packets.{packets_in}
use Rattle.shot_packets.specs.Play.{state_of}
use Rattle.shot.specs.Call.{start_of}
use Rattle.shot_claims.specs.Claims.{calls_of}
use Rattle.opening.proofs.Calls.{passes, accepted}
use Rattle.shot_claims.proofs.Turns.{shot_turns}
use Rattle.film.specs.Film.{frames_of, joined, film_of, accepted_in, FilmIs, FilmsHold, ShotFilmed}
use Rattle.film.proofs.Frames.{AllLong, joined_length, joined_at, frames_count, all_long}

-- turns whose frames have the session's length
module _ (s : Session) (fits : session_fits s ≡ true) (ts : List Turn) (long : AllLong (frame_bytes (numbers_of s)) (frames_of ts)) where
  abbrev b : ℕ
  b = frame_bytes (numbers_of s)

  whole_bytes : length (joined (frames_of ts)) ≡ length (frames_of ts) * b
  whole_bytes = joined_length b (frames_of ts) long

  count_is : count_of (numbers_of s) (joined (frames_of ts)) ≡ length (frames_of ts)
  count_is = ap (λ (m : ℕ). m / b) whole_bytes ∙ mul-div_cancel (length (frames_of ts)) (bytes_some (numbers_of s) (numbers_fit_law s fits)).0

  film_written : (room : ℕ) → length (film_of s ts) ≤ room → stream_for s (joined (frames_of ts)) room ≡ gives (film_of s ts)
  unfolding stream_for film_of
  film_written room h =
      rw (fits, eq-eqb (length (joined (frames_of ts)) % b) 0 (ap (λ (m : ℕ). m % b) whole_bytes ∙ mul-mod_left (length (frames_of ts)) b), count_is)
      (within_fits room (stream_text (numbers_of s) (joined (frames_of ts)) (length (frames_of ts))) h)

  film_is : FilmIs s ts
  unfolding film_of
  film_is = record {
    one_each = frames_count ts;
    each = λ k l. joined_at b (frames_of ts) long k l;
    written = film_written;
    back = λ room h. stream_read (numbers_of s) (numbers_fit_law s fits) (joined (frames_of ts)) (length (frames_of ts)) whole_bytes room h;
  }

pub films_hold : FilmsHold
films_hold st calls fits =
    let s = st.session in
    film_is s fits (turns (by_rules first_way) st calls)
    (subst (λ (n : ℕ). AllLong n (frames_of (turns (by_rules first_way) st calls))) (sym (session_bytes s)) (all_long st calls))

pub shot_filmed : ShotFilmed
shot_filmed c h three =
    let ps = packets_in c.lengths c.joined in
    let calls = calls_of (by_rules first_way) c.table (start_of c) ps in
    let ts = turns (by_rules first_way) (state_of (start_of c)) calls in (
      films_hold (state_of (start_of c)) calls (passes c (accepted c h).0).0,
      frames_count ts ∙ sym (ap accepted_in ((shot_turns c).in_turns h three first_way).answers),
    )
