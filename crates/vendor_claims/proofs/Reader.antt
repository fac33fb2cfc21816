-- A file passes exactly if request 1's reader gives these numbers and planes. Assumes nothing.
use Prim.Native.Nat.{ℕ, ◌*◌}
use native.Mathlib.Omega.{arith}
use mathlib.Core.Path.{◌≡◌, refl, ap, ◌∙◌}
use mathlib.Core.Bool.{Bool, true, false}
use mathlib.Core.List.{List}
use lib.Dec.{leb}
use lib.ListN.{length}
use Rattle.bitstream.specs.Reading.{choose}
use Rattle.stream_numbers.specs.declared.Numbers.{Numbers}
use Rattle.stream_numbers.specs.Numbers.{numbers_of}
use Rattle.y4m.specs.Stream.{frame_bytes, stream_text}
use Rattle.y4m.specs.Film.{holds, refused, numbers_in, is_stream_of, body_of, frames_of as countIn, planes_of, film_in}
use Rattle.y4m.proofs.Streams.{stream_only}
use Rattle.opening.proofs.Calls.{passes, accepted}
use Rattle.shot.specs.Call.{start_of}
use Rattle.shot_claims.specs.Claims.{calls_of}
use Rattle.shot_packets.specs.Play.{state_of}
use Rattle.calls.specs.Call.{by_rules}
use Rattle.ways.specs.Ways.{first_way}
use Rattle.packet_list.specs.Packets.{packets_in}
use Rattle.film.specs.Film.{frames_of, joined, film_of}
use Rattle.film.proofs.Films.{films_hold}
use Rattle.vendor_check.specs.Check.{turns_of}
use Rattle.vendor_claims.specs.Claims.{PassesByReader}
use Rattle.vendor_claims.proofs.Answers.{accepted_same, same_accepted}

-- a stream that is read is the stream of what is read
read_only : (t : List ℕ) (room : ℕ) (n : Numbers) (k : ℕ) (planes : List ℕ) → film_in t room ≡ holds n k planes → t ≡ stream_text n planes k
unfolding film_in
read_only t room n k planes h = go (is_stream_of (numbers_in t) t) refl (leb (countIn (numbers_in t) t * frame_bytes (numbers_in t)) room) h
  where
    go : (b : Bool) → is_stream_of (numbers_in t) t ≡ b → (r : Bool)
        → choose b (choose r (holds (numbers_in t) (countIn (numbers_in t) t) (planes_of (numbers_in t) (body_of (numbers_in t) t) (countIn (numbers_in t) t))) (refused 14)) (refused 21) ≡ holds n k planes → t ≡ stream_text n planes k
    go false e r h = let z : ◌≡◌ {A = ℕ} 0 1 = cc in absurd (omega arith)
    go true e false h = let z : ◌≡◌ {A = ℕ} 0 1 = cc in absurd (omega arith)
    go true e true h =
        let x : numbers_in t ≡ n = cc in
        let y : countIn (numbers_in t) t ≡ k = cc in
        let z : planes_of (numbers_in t) (body_of (numbers_in t) t) (countIn (numbers_in t) t) ≡ planes = cc in
        stream_only (numbers_in t) t e ∙ (λ i. stream_text (x i) (z i) (y i))

pub passes_by_reader : PassesByReader
unfolding film_of
passes_by_reader header setup file l c a room h =
    let f = films_hold (state_of (start_of c)) (calls_of (by_rules first_way) c.table (start_of c) (packets_in c.lengths c.joined)) (passes c (accepted c a.unrefused).0).0 in (
      (λ p. ap (λ (t : List ℕ). film_in t room) (accepted_same header setup file l c a p) ∙ f.back room h),
      (λ r. same_accepted header setup file l c a (read_only file room (numbers_of c.session) (length (frames_of (turns_of c))) (joined (frames_of (turns_of c))) r)),
    )
