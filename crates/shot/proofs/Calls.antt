-- The shot call, one law for each way that it goes. Assumes nothing.
use Prim.Native.Nat.{ℕ, ◌*◌}
use native.Mathlib.Omega.{arith}
use mathlib.Core.Path.{◌≡◌, refl, sym, ap, ◌∙◌}
use mathlib.Core.Bool.{Bool, true, false, ◌&&◌}
use mathlib.Core.List.{List, [], ◌∷◌}
use lib.Dec.{eqb}
use lib.ListN.{length, get_or, take, drop}
use borrow.Author.Tests.{ne_eqb}
use Rattle.bitstream.specs.Reading.{Outcome, got, refused, choose}
use Rattle.headers.specs.declared.Session.{Session}
use Rattle.setup.specs.Header.{Setup, setup_header}
use Rattle.setup.specs.Loaded.{setup_of}
use Rattle.setup.specs.declared.LoadedSetup.{LoadedSetup}
use Rattle.setup.specs.Table.{table_bytes, is_table, held_setup}
use Rattle.table_memory.specs.Genuine.{ends_clear, genuine}
use Rattle.ways.specs.Ways.{first_way}
use Rattle.work_memory.specs.Memory.{Memory}
use Rattle.work_memory.specs.Lengths.{lengths_of, cleared}
use Rattle.asked_frame.specs.Answer.{Way, Done}
use Rattle.calls.specs.Call.{by_rules}
use Rattle.packet_list.specs.Packets.{packets_in, answer_size}
use Rattle.buffer_names.specs.declared.Names.{Names}
use Rattle.buffer_names.specs.Names.{names_of, free}
use Rattle.opening.specs.Call.{ShotCall, shot_call, lent_number, shot_number}
use Rattle.opening.proofs.Calls.{passes, accepted, answers_long, memory_fits, planes_long}
use Rattle.shot_packets.specs.Play.{Shot, shot, state_of, after, one_more, played, all_numbers}
use Rattle.shot_packets.specs.Inner.{TableLoaded, PlaysAll}
use Rattle.shot_packets.proofs.Rules.{any_memory}
use Rattle.shot_packets.proofs.Packet.{cleared_memory}
use Rattle.shot_packets.proofs.Loop.{holds}
use Rattle.shot.specs.declared.ShotAnswer.{ShotAnswer}
use Rattle.shot.specs.Call.{shot_done, start_of, ended, played_by, refused_by, unchanged, by_shot}

-- ---- the ways of a call
module _ (way : Way) (c : ShotCall) where
  pub shot_refused : (k : ℕ) → shot_number c ≡ k → (k ≡ 0 → ⊥) → unchanged k c ≡ by_shot way c
  unfolding by_shot
  shot_refused k e n = sym (rw (e, ne_eqb k 0 n))

  pub shot_played : shot_number c ≡ 0 → ended (played (by_rules way) c.table (start_of c) (packets_in c.lengths c.joined)) ≡ by_shot way c
  unfolding by_shot
  shot_played e = sym (rw e)

-- ---- table memory that is genuine
pub opened_table : (t : List ℕ) → is_table t ≡ true → {l : LoadedSetup} → l ≡ setup_of (held_setup t) → TableLoaded t l
unfolding held_setup genuine
opened_table t h {l} e = go (eqb (length t) table_bytes) (setup_header t 0) h (ap (λ (b : Bool). choose b (setup_header t 0) (refused 8 0)) h)
  where
    go : (b : Bool) (o : Outcome Setup) → (b && ends_clear t o) ≡ true → held_setup t ≡ o → TableLoaded t l
    go b (got s d) g w = record { setup = s; end = d; held = w; is = e ∙ ap setup_of w }
    go true (refused j d) g w = let z : ◌≡◌ {A = ℕ} 0 1 = cc in absurd (omega arith)
    go false (refused j d) g w = let z : ◌≡◌ {A = ℕ} 0 1 = cc in absurd (omega arith)

-- ---- packets from cleared memory
empty : (l : List ℕ) → length l ≡ 0 → l ≡ []
empty [] h = refl
empty (x ∷ l) h = absurd (omega arith)

module _ (s : Session) (n : Names) (lengths joined table : List ℕ) (m : Memory) (x y z answers : List ℕ) where
  abbrev c : ShotCall
  c = shot_call s n lengths joined table m x y z answers

  -- a refusal leaves all as it was
  pub left_by : (k : ℕ) (a : ShotAnswer) → a ≡ refused_by k s n → shot_number c ≡ k → (k ≡ 0 → ⊥) → shot_done a x y z m answers ≡ by_shot first_way c
  left_by k a e h some = ap (λ (a : ShotAnswer). shot_done a x y z m answers) e ∙ shot_refused first_way c k h some

  module _ (zero : shot_number c ≡ 0) where
    abbrev k : Names
    k = names_of s n

    passed : lent_number c ≡ 0
    passed = (accepted c zero).0

    -- a shot of one packet or more may begin with work memory cleared
    from_cleared : (ps : List (List ℕ)) (p : List ℕ)
        → played (by_rules first_way) table (shot s (x ∷ y ∷ z ∷ []) k (cleared (lengths_of s)) []) (p ∷ ps) ≡ played (by_rules first_way) table (shot s (x ∷ y ∷ z ∷ []) k m []) (p ∷ ps)
    unfolding played one_more
    from_cleared ps p =
        let l = planes_long s n lengths joined table m x y z answers passed in
        let h : Shot = shot s (x ∷ y ∷ z ∷ []) k m [] in
        let e = any_memory first_way (state_of h) p table (get_or (x ∷ y ∷ z ∷ []) (free k) []) (passes c passed).0 (cleared (lengths_of s)) m
        (holds s x y z k (cleared (lengths_of s)) (cleared_memory s) table p l.3 l.0 l.1 l.2 []) (holds s x y z k m (memory_fits s n lengths joined table m x y z answers passed) table p l.3 l.0 l.1 l.2 []) in
        ap (λ (d : Done). played (by_rules first_way) table (after h d) ps) e

    played_any : (length lengths ≡ 0 → ⊥)
        → played (by_rules first_way) table (shot s (x ∷ y ∷ z ∷ []) k (cleared (lengths_of s)) []) (packets_in lengths joined) ≡ played (by_rules first_way) table (shot s (x ∷ y ∷ z ∷ []) k m []) (packets_in lengths joined)
    unfolding packets_in
    played_any some = go lengths some
      where
        go : (lengths : List ℕ) → (length lengths ≡ 0 → ⊥)
            → played (by_rules first_way) table (shot s (x ∷ y ∷ z ∷ []) k (cleared (lengths_of s)) []) (packets_in lengths joined) ≡ played (by_rules first_way) table (shot s (x ∷ y ∷ z ∷ []) k m []) (packets_in lengths joined)
        go [] h = absurd (h refl)
        go (n ∷ ns) h = from_cleared (packets_in ns (drop n joined)) (take n joined)

    -- "An empty list changes nothing, work memory included"
    pub shot_empty : length lengths ≡ 0 → (k' : Names) → k' ≡ k → shot_done (played_by s k') x y z m answers ≡ by_shot first_way c
    unfolding played packets_in all_numbers
    shot_empty none k' ek =
        let e = empty lengths none in
        let a = empty answers (answers_long s n lengths joined table m x y z answers passed ∙ ap (λ (l : ℕ). answer_size * l) none) in
        (λ i. shot_done (played_by s (ek i)) x y z m (a i))
        ∙ ap (λ (l : List ℕ). ended (played (by_rules first_way) table (start_of c) (packets_in l joined))) (sym e)
        ∙ shot_played first_way c zero

    -- packets that were played from cleared memory
    pub shot_some : (length lengths ≡ 0 → ⊥) → {k' : Names} → k' ≡ k → {m₀ : Memory} → m₀ ≡ cleared (lengths_of s) → {s' : Session} {x' y' z' : List ℕ} {n' : Names} {m' : Memory} {numbers : List ℕ}
        → PlaysAll table (shot s (x ∷ y ∷ z ∷ []) k' m₀ []) (packets_in lengths joined) s' (x' ∷ y' ∷ z' ∷ []) n' m' numbers
        → shot_done (played_by s' n') x' y' z' m' numbers ≡ by_shot first_way c
    shot_some some ek em {s'} {x'} {y'} {z'} {n'} {m'} {numbers} p =
        ap (λ (l : List ℕ). shot_done (played_by s' n') x' y' z' m' l) p.stored
        ∙ ap ended (p.ended ∙ (λ i. played (by_rules first_way) table (shot s (x ∷ y ∷ z ∷ []) (ek i) (em i) []) (packets_in lengths joined)) ∙ played_any some)
        ∙ shot_played first_way c zero
