-- The packets of a shot, one after the other, while a file is compared. Assumes nothing.
use Prim.Native.Nat.{ℕ, ◌+◌, ◌-◌, ◌*◌, ◌≤◌, ◌<◌}
use mathlib.Core.Path.{◌≡◌, refl, sym, ap, ◌∙◌}
use mathlib.Core.Bool.{true}
use mathlib.Core.List.{List, [], ◌∷◌, ◌++◌}
use lib.ListN.{length, get_or, take, drop}
use Rattle.headers.specs.declared.Session.{Session}
use Rattle.headers.specs.Fits.{session_fits}
use Rattle.setup.specs.Table.{table_bytes}
use Rattle.ways.specs.Ways.{first_way}
use Rattle.work_memory.specs.Memory.{Memory}
use Rattle.work_memory.specs.Lengths.{blocks, lengths_of, cleared}
use Rattle.reading.specs.declared.FrameAnswer.{FrameAnswer}
use Rattle.asked_frame.specs.Answer.{Done}
use Rattle.calls.specs.Call.{by_rules}
use Rattle.packet_list.specs.Packets.{packets_in, total, answer_size}
use Rattle.packet_list.proofs.Walk.{packets_left, packets_none}
use Rattle.buffer_names.specs.declared.Names.{Names}
use Rattle.buffer_names.specs.Names.{Sound}
use Rattle.stream_numbers.specs.declared.Numbers.{Numbers}
use Rattle.stream_numbers.specs.Numbers.{numbers_of}
use Rattle.y4m.specs.Stream.{frame_bytes}
use Rattle.y4m.proofs.Streams.{session_bytes}
use Rattle.frame_into.specs.Buffers.{buffer_of}
use Rattle.shot_packets.specs.Play.{Shot, shot, state_of, call_of, after, one_more, numbers_of as answerNumbersOf}
use Rattle.shot_packets.proofs.Loop.{Going, going_first, going_last, going_on, first_same, second_same, third_same}
use Rattle.watching.specs.declared.Watched.{Watched}
use Rattle.watching.specs.Watch.{watched}
use Rattle.checked_packets.specs.Watch.{watched_all, ChecksAll}
use Rattle.checked_packets.proofs.Steps.{watched_left, any_answers}

abbrev All : Numbers → (file table : List ℕ) → Watched → Shot → List (List ℕ) → Watched
All = watched_all (by_rules first_way)

-- a shot that is being played, and what was seen of it
pub record Watching (table lengths packets file : List ℕ) (s₀ : Session) (planes₀ : List (List ℕ)) (n₀ : Names) (m₀ : Memory) (w₀ : Watched) (s : Session) (x y z : List ℕ) (n : Names) (m : Memory) (numbers : List ℕ) (w : Watched) (at i : ℕ) : Type 0 where
  pub going : Going table lengths packets s₀ planes₀ n₀ m₀ s x y z n m numbers at i
  pub inside : w.compared.place ≤ length file
  pub sees : All (numbers_of s₀) file table w (shot s (x ∷ y ∷ z ∷ []) n m []) (packets_in (drop i lengths) (drop at packets)) ≡ All (numbers_of s₀) file table w₀ (shot s₀ planes₀ n₀ m₀ []) (packets_in lengths packets)

module _ (table lengths packets file : List ℕ) (s₀ : Session) (n₀ : Names) (m₀ : Memory) (w₀ : Watched) where
  pub watching_first : (x y z numbers : List ℕ) → total lengths ≤ length packets → session_fits s₀ ≡ true → Sound s₀ n₀ → m₀ ≡ cleared (lengths_of s₀)
      → length x ≡ 64 * blocks s₀ → length y ≡ 64 * blocks s₀ → length z ≡ 64 * blocks s₀ → length numbers ≡ answer_size * length lengths → w₀.compared.place ≤ length file
      → Watching table lengths packets file s₀ (x ∷ y ∷ z ∷ []) n₀ m₀ w₀ s₀ x y z n₀ m₀ numbers w₀ 0 0
  watching_first x y z numbers r f so w hx hy hz l inside = record {
    going = going_first table lengths packets s₀ n₀ m₀ x y z numbers r f so w hx hy hz l;
    inside = inside;
    sees = refl;
  }

  module _ (planes₀ : List (List ℕ)) (ht : length table ≡ table_bytes) (s : Session) (x y z : List ℕ) (n : Names) (m : Memory) (numbers : List ℕ) (w : Watched) (at i : ℕ)
      (g : Watching table lengths packets file s₀ planes₀ n₀ m₀ w₀ s x y z n m numbers w at i) where
    -- all are played
    pub watching_last : length lengths ≤ i → ChecksAll table file w₀ (shot s₀ planes₀ n₀ m₀ []) (packets_in lengths packets) w (x ∷ y ∷ z ∷ []) m numbers
    unfolding watched_all
    watching_last l = record {
      session = s;
      names = n;
      plays = going_last table lengths packets s₀ n₀ m₀ planes₀ ht s x y z n m numbers at i g.going l;
      sees = ap (All (numbers_of s₀) file table w (shot s (x ∷ y ∷ z ∷ []) n m [])) (sym (packets_none lengths packets i at l g.going.few)) ∙ g.sees;
    }

    -- one more
    module _ (l : i < length lengths) (end : ℕ) (ends : end ≡ at + get_or lengths i 0) (a : FrameAnswer) (x' y' z' : List ℕ) (n' : Names) (m' : Memory)
        (e : (answers : List FrameAnswer) → shot a.session (x' ∷ y' ∷ z' ∷ []) n' m' (answers ++ (a ∷ [])) ≡ one_more (by_rules first_way) table (shot s (x ∷ y ∷ z ∷ []) n m answers) (take (end - at) (drop at packets)))
        (hx : length x' ≡ length x) (hy : length y' ≡ length y) (hz : length z' ≡ length z)
        (w' : Watched) (ew : w' ≡ watched (numbers_of s₀) file w a.verdict (buffer_of (x' ∷ y' ∷ z' ∷ []) n'.previous)) (inside : w'.compared.place ≤ length file) where
      abbrev h : Shot
      h = shot s (x ∷ y ∷ z ∷ []) n m []

      abbrev p : List ℕ
      p = take (end - at) (drop at packets)

      abbrev d : Done
      d = by_rules first_way (state_of h) (call_of table h p)

      abbrev left : List (List ℕ)
      left = packets_in (drop (i + 1) lengths) (drop end packets)

      is_after : shot a.session (x' ∷ y' ∷ z' ∷ []) n' m' (a ∷ []) ≡ after h d
      unfolding one_more
      is_after = e []

      one_seen : All (numbers_of s₀) file table w h (p ∷ left) ≡ All (numbers_of s₀) file table (watched (numbers_of s₀) file w d.answer.verdict d.new) (after h d) left
      unfolding watched_all
      one_seen = refl

      pub watching_on : (numbers' behind : List ℕ) → numbers' ≡ take (8 * i) numbers ++ (answerNumbersOf a ++ behind) → length numbers' ≡ length numbers
          → Watching table lengths packets file s₀ planes₀ n₀ m₀ w₀ a.session x' y' z' n' m' numbers' w' end (i + 1)
      watching_on numbers' behind en hn = record {
        going = going_on table lengths packets s₀ n₀ m₀ planes₀ ht s x y z n m numbers at i g.going l end ends a x' y' z' n' m' e hx hy hz numbers' behind en hn;
        inside = inside;
        sees = any_answers (by_rules first_way) (numbers_of s₀) file table w' a.session (x' ∷ y' ∷ z' ∷ []) n' m' [] (a ∷ []) left
            ∙ (λ j. All (numbers_of s₀) file table ((ew ∙ watched_left (numbers_of s₀) file w h refl g.going.sound refl d a (x' ∷ y' ∷ z' ∷ []) n' m' is_after) j) (is_after j) left)
            ∙ sym one_seen
            ∙ sym (ap (All (numbers_of s₀) file table w h) (packets_left lengths packets i at end l ends)) ∙ g.sees;
      }

-- the buffers have the length of a frame
module _ {table lengths packets : List ℕ} {s₀ : Session} {planes₀ : List (List ℕ)} {n₀ : Names} {m₀ : Memory} {s : Session} {x y z : List ℕ} {n : Names} {m : Memory} {numbers : List ℕ} {at i : ℕ}
    (g : Going table lengths packets s₀ planes₀ n₀ m₀ s x y z n m numbers at i) {k l j : ℕ} (hx : k ≡ length x) (hy : l ≡ length y) (hz : j ≡ length z) where
  pub frames_long : (k ≡ frame_bytes (numbers_of s₀)) × (l ≡ frame_bytes (numbers_of s₀)) × (j ≡ frame_bytes (numbers_of s₀))
  frames_long =
      let b = sym (session_bytes s₀) in
      (hx ∙ first_same g refl ∙ b, hy ∙ second_same g refl ∙ b, hz ∙ third_same g refl ∙ b)
