-- The shot call with maps, one law for each way that it goes. Assumes nothing.
use Prim.Native.Nat.{ℕ, ◌*◌}
use native.Mathlib.Omega.{arith}
use mathlib.Core.Path.{◌≡◌, refl, sym, ap, ◌∙◌}
use mathlib.Core.List.{List, [], ◌∷◌, ◌++◌}
use borrow.Author.Tests.{ne_eqb}
use lib.ListN.{length, get_or, take, drop}
use Rattle.headers.specs.declared.Session.{Session}
use Rattle.settings.specs.declared.Settings.{Settings}
use Rattle.ways.specs.Ways.{first_way}
use Rattle.work_memory.specs.Memory.{Memory}
use Rattle.work_memory.specs.Lengths.{lengths_of, cleared}
use Rattle.packet_list.specs.Packets.{packets_in}
use Rattle.buffer_names.specs.declared.Names.{Names}
use Rattle.buffer_names.specs.Names.{names_of, free}
use Rattle.shot_packets.specs.Play.{Shot, shot, state_of, call_of, after, one_more}
use Rattle.shot_packets.proofs.Rules.{any_memory}
use Rattle.shot_packets.proofs.Packet.{cleared_memory}
use Rattle.shot_packets.proofs.Loop.{holds}
use Rattle.shot.specs.declared.ShotAnswer.{ShotAnswer}
use Rattle.opening.specs.Call.{ShotCall, shot_call, lent_number, shot_number}
use Rattle.shot.specs.Call.{ShotDone, shot_done, start_of, played_by, refused_by, unchanged, by_shot}
use Rattle.opening.proofs.Calls.{passes, accepted, memory_fits, planes_long}
use Rattle.shot.proofs.Calls.{left_by, shot_empty, shot_some}
use Rattle.tile_calls.specs.Call.{map_length_of}
use Rattle.shot_maps.specs.Maps.{maps_number, maps_after}
use Rattle.shot_maps.proofs.Fits.{maps_long}
use Rattle.shot_maps.proofs.Maps.{map_same}
use Rattle.tiles_packets.specs.Inner.{PlaysMaps}
use Rattle.tiles_shot.specs.Call.{shot_for, maps_by, tiles_shot_done, tiles_shot}

module _ (st : Settings) (c : ShotCall) (maps : List ℕ) where
  -- 20 and the maps' 1
  pub call_refused : (k : ℕ) → maps_number st c.session (length c.lengths) (length maps) ≡ k → (k ≡ 0 → ⊥) → tiles_shot_done (unchanged k c) maps ≡ tiles_shot st c maps
  unfolding tiles_shot shot_for
  call_refused k e n = sym (rw (e, ne_eqb k 0 n))

  -- else a shot call
  pub call_made : maps_number st c.session (length c.lengths) (length maps) ≡ 0 → (d : ShotDone) (left : List ℕ) → d ≡ by_shot first_way c → left ≡ maps_by st c d.answer.verdict maps
      → tiles_shot_done d left ≡ tiles_shot st c maps
  unfolding tiles_shot shot_for
  call_made p d left e q = rw p ((λ i. tiles_shot_done (e i) (q i)) ∙ ap (λ (d : ShotDone). tiles_shot_done (by_shot first_way c) (maps_by st c d.answer.verdict maps)) e)

module _ (st : Settings) (s : Session) (n : Names) (lengths joined table : List ℕ) (m : Memory) (x y z answers maps : List ℕ) where
  abbrev c : ShotCall
  c = shot_call s n lengths joined table m x y z answers

  -- a refusal in front of the shot call
  pub left_early : (k : ℕ) (a : ShotAnswer) → a ≡ refused_by k s n → maps_number st s (length lengths) (length maps) ≡ k → (k ≡ 0 → ⊥) → tiles_shot_done (shot_done a x y z m answers) maps ≡ tiles_shot st c maps
  left_early k a e h some = ap (λ (a : ShotAnswer). tiles_shot_done (shot_done a x y z m answers) maps) e ∙ call_refused st c maps k h some

  module _ (pass : maps_number st s (length lengths) (length maps) ≡ 0) where
    -- a refusal of the shot call
    pub left_late : (k : ℕ) (a : ShotAnswer) → a ≡ refused_by k s n → shot_number c ≡ k → (k ≡ 0 → ⊥) → tiles_shot_done (shot_done a x y z m answers) maps ≡ tiles_shot st c maps
    left_late k a e h some =
        call_made st c maps pass (shot_done a x y z m answers) maps (left_by s n lengths joined table m x y z answers k a e h some)
        (ap (λ (a : ShotAnswer). maps_by st c a.verdict maps) (sym e))

    module _ (zero : shot_number c ≡ 0) where
      abbrev k : Names
      k = names_of s n

      passed : lent_number c ≡ 0
      passed = (accepted c zero).0

      pub lent_maps : length maps ≡ map_length_of st s * length lengths
      lent_maps = maps_long st s (length lengths) (length maps) pass (passes c passed).0

      -- maps of one packet or more may begin with work memory cleared
      maps_cleared : (p : List ℕ) (ps : List (List ℕ))
          → maps_after st table (shot s (x ∷ y ∷ z ∷ []) k (cleared (lengths_of s)) []) (p ∷ ps) maps ≡ maps_after st table (shot s (x ∷ y ∷ z ∷ []) k m []) (p ∷ ps) maps
      unfolding maps_after one_more
      maps_cleared p ps =
          let l = planes_long s n lengths joined table m x y z answers passed in
          let fits = (passes c passed).0 in
          let h : Shot = shot s (x ∷ y ∷ z ∷ []) k m [] in
          let g : Shot = shot s (x ∷ y ∷ z ∷ []) k (cleared (lengths_of s)) [] in
          let e = any_memory first_way (state_of h) p table (get_or (x ∷ y ∷ z ∷ []) (free k) []) fits (cleared (lengths_of s)) m
          (holds s x y z k (cleared (lengths_of s)) (cleared_memory s) table p l.3 l.0 l.1 l.2 [])
          (holds s x y z k m (memory_fits s n lengths joined table m x y z answers passed) table p l.3 l.0 l.1 l.2 []) in
          let same = map_same st (state_of h) (call_of table g p) (call_of table h p) e (take (map_length_of st s) maps) in
          λ i. same i ++ maps_after st table (after h (e i)) ps (drop (map_length_of st s) maps)

      maps_any : (length lengths ≡ 0 → ⊥)
          → maps_after st table (shot s (x ∷ y ∷ z ∷ []) k (cleared (lengths_of s)) []) (packets_in lengths joined) maps ≡ maps_after st table (shot s (x ∷ y ∷ z ∷ []) k m []) (packets_in lengths joined) maps
      unfolding packets_in
      maps_any some = go lengths some
        where
          go : (lengths : List ℕ) → (length lengths ≡ 0 → ⊥)
              → maps_after st table (shot s (x ∷ y ∷ z ∷ []) k (cleared (lengths_of s)) []) (packets_in lengths joined) maps ≡ maps_after st table (shot s (x ∷ y ∷ z ∷ []) k m []) (packets_in lengths joined) maps
          go [] h = absurd (h refl)
          go (n ∷ ns) h = maps_cleared (take n joined) (packets_in ns (drop n joined))

      -- no packet, no map
      maps_none : length lengths ≡ 0 → maps ≡ maps_after st table (start_of c) (packets_in lengths joined) maps
      unfolding maps_after packets_in
      maps_none none = go lengths none
        where
          go : (l : List ℕ) → length l ≡ 0 → maps ≡ maps_after st table (start_of c) (packets_in l joined) maps
          go [] h = refl
          go (n ∷ l) h = absurd (omega arith)

      -- "An empty list changes nothing"
      pub call_empty : length lengths ≡ 0 → (k' : Names) → k' ≡ k → tiles_shot_done (shot_done (played_by s k') x y z m answers) maps ≡ tiles_shot st c maps
      call_empty none k' ek =
          call_made st c maps pass _ maps (shot_empty s n lengths joined table m x y z answers zero none k' ek) (maps_none none)

      -- packets that were played from cleared memory
      pub call_some : (length lengths ≡ 0 → ⊥) → {k' : Names} → k' ≡ k → {m₀ : Memory} → m₀ ≡ cleared (lengths_of s) → {s' : Session} {x' y' z' : List ℕ} {n' : Names} {m' : Memory} {numbers left : List ℕ}
          → PlaysMaps st table (shot s (x ∷ y ∷ z ∷ []) k' m₀ []) (packets_in lengths joined) maps s' (x' ∷ y' ∷ z' ∷ []) n' m' numbers left
          → tiles_shot_done (shot_done (played_by s' n') x' y' z' m' numbers) left ≡ tiles_shot st c maps
      call_some some ek em {left = left} p =
          call_made st c maps pass _ left (shot_some s n lengths joined table m x y z answers zero some ek em p.plays)
          (p.maps_are ∙ (λ i. maps_after st table (shot s (x ∷ y ∷ z ∷ []) (ek i) (em i) []) (packets_in lengths joined) maps) ∙ maps_any some)
