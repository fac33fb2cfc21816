-- The packets of a shot, one after the other. Assumes nothing.
use Prim.Native.Nat.{ℕ, zero, suc, ◌+◌, ◌-◌, ◌*◌, ◌≤◌, ◌<◌}
use native.Mathlib.Omega.{arith}
use mathlib.Core.Path.{◌≡◌, refl, sym, ap, ◌∙◌, subst}
use mathlib.Core.Bool.{true}
use mathlib.Core.List.{List, [], ◌∷◌, ◌++◌}
use lib.ListN.{length, get_or, take, drop}
use lib.Seq.{take_all, length-take-le, take-append-add}
use Rattle.headers.specs.declared.Session.{Session}
use Rattle.headers.specs.Fits.{session_fits}
use Rattle.setup.specs.Table.{table_bytes}
use Rattle.ways.specs.Ways.{first_way}
use Rattle.work_memory.specs.Memory.{Memory}
use Rattle.work_memory.specs.Lengths.{blocks, lengths_of, lengths_fit, cleared}
use Rattle.reading.specs.declared.FrameAnswer.{FrameAnswer}
use Rattle.asked_frame.specs.Answer.{Done}
use Rattle.calls.specs.Call.{outcome_of, lengths_hold, by_rules}
use Rattle.calls.proofs.Tokens.{outcome_got}
use Rattle.packet_list.specs.Packets.{packets_in, total, answer_size}
use Rattle.packet_list.proofs.Walk.{total_drop, packets_left, packets_none}
use Rattle.buffer_names.specs.declared.Names.{Names}
use Rattle.buffer_names.specs.Names.{free, Sound}
use Rattle.buffer_names.proofs.Free.{free_is}
use Rattle.shot_packets.specs.Play.{Shot, shot, state_of, call_of, one_more, played, numbers_of, all_numbers}
use Rattle.shot_packets.specs.Inner.{PlaysAll}
use Rattle.shot_packets.proofs.Cut.{numbers_more, numbers_first}
use Rattle.shot_packets.proofs.Rules.{sound_after, session_kept, by_decoded}
use Rattle.shot_packets.proofs.Packet.{buffer_long, plane_long, cleared_memory, fit_with}

-- ---- inside a shot no packet is refused by 1
module _ (s : Session) (x y z : List ℕ) (n : Names) (m : Memory) (fit : lengths_fit (lengths_of s) m ≡ true) (table packet : List ℕ) (ht : length table ≡ table_bytes)
    (hx : length x ≡ 64 * blocks s) (hy : length y ≡ 64 * blocks s) (hz : length z ≡ 64 * blocks s) (answers : List FrameAnswer) where
  pub holds : let h = shot s (x ∷ y ∷ z ∷ []) n m answers in lengths_hold (state_of h) (call_of table h packet) ≡ true
  holds =
      let g = buffer_long x y z hx hy hz n.golden in
      let p = buffer_long x y z hx hy hz n.previous in
      let w = plane_long x y z hx hy hz (free n) (free_is n).named in
      fit_with s _ _ _ table g p w ht m fit

-- ---- what one packet more leaves as it was
module _ (s : Session) (fits : session_fits s ≡ true) (x y z : List ℕ) (n : Names) (sound : Sound s n) (m : Memory) (em : m ≡ cleared (lengths_of s)) (table packet : List ℕ) (ht : length table ≡ table_bytes)
    (hx : length x ≡ 64 * blocks s) (hy : length y ≡ 64 * blocks s) (hz : length z ≡ 64 * blocks s) (answers : List FrameAnswer) where
  abbrev h : Shot
  h = shot s (x ∷ y ∷ z ∷ []) n m answers

  abbrev Kept : Shot → Type 0
  Kept g = (session_fits g.session ≡ true) × (cleared (lengths_of g.session) ≡ cleared (lengths_of s)) × (blocks g.session ≡ blocks s) × Sound g.session g.names × (g.memory ≡ cleared (lengths_of s))

  pub more_kept : Kept (one_more (by_rules first_way) table h packet)
  unfolding one_more by_rules
  more_kept =
      let st = state_of h in
      let c = call_of table h packet in
      let k = session_kept s fits (outcome_of st c) (λ a e r. (outcome_got st c r).1) in
      (k.0, k.1, k.2, sound_after h refl sound first_way c, ap (λ (d : Done). d.memory) (by_decoded first_way st packet table c.new fits m (holds s x y z n m (ap (lengths_fit (lengths_of s)) em ∙ cleared_memory s) table packet ht hx hy hz answers)))

-- ---- a shot that is being played: what is left of it is what was to be played
pub record Going (table lengths packets : List ℕ) (s₀ : Session) (planes₀ : List (List ℕ)) (n₀ : Names) (m₀ : Memory) (s : Session) (x y z : List ℕ) (n : Names) (m : Memory) (numbers : List ℕ) (at i : ℕ) : Type 0 where
  pub few : i ≤ length lengths
  pub room : at + total (drop i lengths) ≤ length packets
  pub fits : session_fits s ≡ true
  pub sound : Sound s n
  pub work : m ≡ cleared (lengths_of s)
  pub same_work : cleared (lengths_of s) ≡ cleared (lengths_of s₀)
  pub long_first : length x ≡ 64 * blocks s
  pub long_second : length y ≡ 64 * blocks s
  pub long_third : length z ≡ 64 * blocks s
  pub same_blocks : blocks s ≡ blocks s₀
  pub size : length numbers ≡ answer_size * length lengths
  pub answers : List FrameAnswer
  pub rest : played (by_rules first_way) table (shot s (x ∷ y ∷ z ∷ []) n m answers) (packets_in (drop i lengths) (drop at packets)) ≡ played (by_rules first_way) table (shot s₀ planes₀ n₀ m₀ []) (packets_in lengths packets)
  pub stored : take (answer_size * i) numbers ≡ all_numbers answers

module _ (table lengths packets : List ℕ) (s₀ : Session) (n₀ : Names) (m₀ : Memory) where
  pub going_first : (x y z numbers : List ℕ) → total lengths ≤ length packets → session_fits s₀ ≡ true → Sound s₀ n₀ → m₀ ≡ cleared (lengths_of s₀)
      → length x ≡ 64 * blocks s₀ → length y ≡ 64 * blocks s₀ → length z ≡ 64 * blocks s₀ → length numbers ≡ answer_size * length lengths
      → Going table lengths packets s₀ (x ∷ y ∷ z ∷ []) n₀ m₀ s₀ x y z n₀ m₀ numbers 0 0
  unfolding all_numbers
  going_first x y z numbers r f so w hx hy hz l = record {
    few = omega arith;
    room = omega arith;
    fits = f;
    sound = so;
    work = w;
    same_work = refl;
    long_first = hx;
    long_second = hy;
    long_third = hz;
    same_blocks = refl;
    size = l;
    answers = [];
    rest = refl;
    stored = refl;
  }

  module _ (planes₀ : List (List ℕ)) (ht : length table ≡ table_bytes) (s : Session) (x y z : List ℕ) (n : Names) (m : Memory) (numbers : List ℕ) (at i : ℕ)
      (g : Going table lengths packets s₀ planes₀ n₀ m₀ s x y z n m numbers at i) where
    -- all are played
    pub going_last : length lengths ≤ i → PlaysAll table (shot s₀ planes₀ n₀ m₀ []) (packets_in lengths packets) s (x ∷ y ∷ z ∷ []) n m numbers
    unfolding played
    going_last l =
        let e : i ≡ length lengths = omega (arith, g.few) in
        record {
          answers = g.answers;
          ended = ap (played (by_rules first_way) table (shot s (x ∷ y ∷ z ∷ []) n m g.answers)) (sym (packets_none lengths packets i at l g.few)) ∙ g.rest;
          stored = sym (take_all (answer_size * i) numbers (omega (arith, g.size))) ∙ g.stored;
        }

    -- one more
    module _ (l : i < length lengths) (end : ℕ) (ends : end ≡ at + get_or lengths i 0) (a : FrameAnswer) (x' y' z' : List ℕ) (n' : Names) (m' : Memory)
        (e : (answers : List FrameAnswer) → shot a.session (x' ∷ y' ∷ z' ∷ []) n' m' (answers ++ (a ∷ [])) ≡ one_more (by_rules first_way) table (shot s (x ∷ y ∷ z ∷ []) n m answers) (take (end - at) (drop at packets)))
        (hx : length x' ≡ length x) (hy : length y' ≡ length y) (hz : length z' ≡ length z) where
      abbrev kept : (session_fits a.session ≡ true) × (cleared (lengths_of a.session) ≡ cleared (lengths_of s)) × (blocks a.session ≡ blocks s) × Sound a.session n' × (m' ≡ cleared (lengths_of s))
      kept = subst (λ (t : Shot). (session_fits t.session ≡ true) × (cleared (lengths_of t.session) ≡ cleared (lengths_of s)) × (blocks t.session ≡ blocks s) × Sound t.session t.names × (t.memory ≡ cleared (lengths_of s))) (sym (e g.answers))
          (more_kept s g.fits x y z n g.sound m g.work table (take (end - at) (drop at packets)) ht g.long_first g.long_second g.long_third g.answers)

      pub going_on : (numbers' behind : List ℕ) → numbers' ≡ take (8 * i) numbers ++ (numbers_of a ++ behind) → length numbers' ≡ length numbers
          → Going table lengths packets s₀ planes₀ n₀ m₀ a.session x' y' z' n' m' numbers' end (i + 1)
      unfolding played
      going_on numbers' behind en hn =
          let k = kept in
          let size : 64 * blocks s ≡ 64 * blocks a.session = ap (λ (n : ℕ). 64 * n) (sym k.2) in
          record {
            few = omega arith;
            room = omega (arith, total_drop lengths i l, g.room, ends);
            fits = k.0;
            sound = k.3;
            work = k.4 ∙ sym k.1;
            same_work = k.1 ∙ g.same_work;
            long_first = hx ∙ g.long_first ∙ size;
            long_second = hy ∙ g.long_second ∙ size;
            long_third = hz ∙ g.long_third ∙ size;
            same_blocks = k.2 ∙ g.same_blocks;
            size = hn ∙ g.size;
            answers = g.answers ++ (a ∷ []);
            rest = ap (λ (h : Shot). played (by_rules first_way) table h (packets_in (drop (i + 1) lengths) (drop end packets))) (e g.answers)
                ∙ sym (ap (played (by_rules first_way) table (shot s (x ∷ y ∷ z ∷ []) n m g.answers)) (packets_left lengths packets i at end l ends)) ∙ g.rest;
            stored = stored_more;
          }
        where
          stored_more : take (answer_size * (i + 1)) numbers' ≡ all_numbers (g.answers ++ (a ∷ []))
          stored_more =
              let p = take (8 * i) numbers in
              let lp : length p ≡ 8 * i = length-take-le (8 * i) numbers (omega (arith, g.size)) in
              let k : answer_size * (i + 1) ≡ length p + 8 = omega arith in
              ap (take (answer_size * (i + 1))) en ∙ ap (λ (k : ℕ). take k (p ++ (numbers_of a ++ behind))) k ∙ take-append-add p (numbers_of a ++ behind) 8
              ∙ (λ j. g.stored j ++ numbers_first a behind j) ∙ sym (numbers_more g.answers a)

-- what the loop's indices need
module _ {table lengths packets : List ℕ} {s₀ : Session} {planes₀ : List (List ℕ)} {n₀ : Names} {m₀ : Memory} {s : Session} {x y z : List ℕ} {n : Names} {m : Memory} {numbers : List ℕ} {at i : ℕ}
    (g : Going table lengths packets s₀ planes₀ n₀ m₀ s x y z n m numbers at i) where
  pub end_few : i < length lengths → at + get_or lengths i 0 ≤ length packets
  end_few l = omega (arith, total_drop lengths i l, g.room)

  pub slots_few : i < length lengths → 8 * i + 8 ≤ length numbers
  slots_few l = omega (arith, g.size)

  pub work_same : m₀ ≡ cleared (lengths_of s₀) → m ≡ m₀
  work_same e = g.work ∙ g.same_work ∙ sym e

  pub first_same : {l : ℕ} → l ≡ 64 * blocks s₀ → length x ≡ l
  first_same e = g.long_first ∙ ap (λ (k : ℕ). 64 * k) g.same_blocks ∙ sym e

  pub second_same : {l : ℕ} → l ≡ 64 * blocks s₀ → length y ≡ l
  second_same e = g.long_second ∙ ap (λ (k : ℕ). 64 * k) g.same_blocks ∙ sym e

  pub third_same : {l : ℕ} → l ≡ 64 * blocks s₀ → length z ≡ l
  third_same e = g.long_third ∙ ap (λ (k : ℕ). 64 * k) g.same_blocks ∙ sym e
