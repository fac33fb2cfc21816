-- The maps of a shot that is being played, and maps that are cut. Assumes nothing.
use Prim.Native.Nat.{ℕ, zero, suc, ◌+◌, ◌-◌, ◌*◌, ◌≤◌, ◌<◌}
use native.Mathlib.Nat.{mul-suc}
use native.Mathlib.Numerals.{add-one}
use native.Mathlib.Omega.{arith}
use mathlib.Core.Path.{◌≡◌, refl, sym, ap, ◌∙◌}
use mathlib.Core.Bool.{Bool, true, false}
use mathlib.Core.List.{List, [], ◌∷◌, ◌++◌, append_assoc}
use lib.ListN.{length, get_or, take, drop, set, length-drop, length-append, take-append-drop}
use lib.Seq.{drop-drop, take_at, drop_at, length-take-le, get_or-set_other}
use borrow.Author.Tests.{eq-eqb}
use Rattle.bitstream.specs.Reading.{choose}
use Rattle.headers.specs.declared.Session.{Session}
use Rattle.headers.specs.Fits.{session_fits}
use Rattle.settings.specs.declared.Settings.{Settings}
use Rattle.settings.specs.Settings.{settings_fit}
use Rattle.ways.specs.Ways.{first_way}
use Rattle.work_memory.specs.Memory.{Memory}
use Rattle.reading.specs.declared.FrameAnswer.{FrameAnswer}
use Rattle.reading.specs.declared.Verdict.{Verdict}
use Rattle.reading.specs.declared.Verdict.TheVariants.{Refused}
use Rattle.asked_frame.specs.Answer.{State, Done, Way}
use Rattle.calls.specs.Call.{Call, outcome_of, by_rules}
use Rattle.packet_list.specs.Packets.{packets_in}
use Rattle.packet_list.proofs.Walk.{packets_left, packets_none}
use Rattle.buffer_names.specs.declared.Names.{Names}
use Rattle.buffer_names.specs.Names.{free, Sound}
use Rattle.buffer_names.proofs.Free.{free_is}
use Rattle.frame_into.specs.Buffers.{buffer_of, index}
use Rattle.shot_packets.specs.Play.{Shot, shot, state_of, call_of, after, one_more, played}
use Rattle.shot_packets.proofs.Rules.{answer_fields, apart}
use Rattle.tile_calls.specs.Call.{map_length_of, map_fits, map_after, refused_by, frame_for, tiles_call}
use Rattle.tile_calls.proofs.Calls.{map_here}
use Rattle.shot_maps.specs.Maps.{map_of, maps_after, with_part}
use Rattle.shot_maps.proofs.Parts.{part_ends}

-- ---- packets change no field of the session, so maps keep their length
more_fields : (way : Way) (table : List ℕ) (h : Shot) (p : List ℕ) → (one_more (by_rules way) table h p).session.fields ≡ h.session.fields
unfolding one_more by_rules
more_fields way table h p = answer_fields h.session (outcome_of (state_of h) (call_of table h p))

long_by : (set : Settings) (s s' : Session) → s'.fields ≡ s.fields → map_length_of set s' ≡ map_length_of set s
long_by set s s' e = λ i. map_length_of set (record { fields = e i; references = false; key_frames = 0; others = 0 })

pub long_after : (set : Settings) (table : List ℕ) (h : Shot) (p : List ℕ) → map_length_of set (one_more (by_rules first_way) table h p).session ≡ map_length_of set h.session
long_after set table h p = long_by set h.session (one_more (by_rules first_way) table h p).session (more_fields first_way table h p)

pub long_played : (set : Settings) (table : List ℕ) (h : Shot) (ps : List (List ℕ)) → map_length_of set (played (by_rules first_way) table h ps).session ≡ map_length_of set h.session
unfolding played
long_played set table h [] = refl
long_played set table h (p ∷ ps) = long_played set table (one_more (by_rules first_way) table h p) ps ∙ long_after set table h p

-- ---- the maps do not look at the answers before them
module _ (set : Settings) (table : List ℕ) where
  pub any_answers : (s : Session) (planes : List (List ℕ)) (n : Names) (m : Memory) (bs cs : List FrameAnswer) (ps : List (List ℕ)) (maps : List ℕ)
      → maps_after set table (shot s planes n m bs) ps maps ≡ maps_after set table (shot s planes n m cs) ps maps
  unfolding maps_after one_more
  any_answers s planes n m bs cs [] maps = refl
  any_answers s planes n m bs cs (p ∷ ps) maps =
      let h = shot s planes n m bs in
      let d = by_rules first_way (state_of h) (call_of table h p) in
      let g = after h d in
      let k = map_length_of set s in
      ap (λ (l : List ℕ). map_of set table h p (take k maps) ++ l) (any_answers g.session g.planes g.names g.memory (bs ++ (d.answer ∷ [])) (cs ++ (d.answer ∷ [])) ps (drop k maps))

-- ---- the map of one packet, from the buffers after it
abbrev first_verdict : List FrameAnswer → Verdict
first_verdict [] = Refused 0 0
first_verdict (a ∷ list) = a.verdict

put_in : (x y z new : List ℕ) (k : ℕ) → k < 3 → buffer_of (set (x ∷ y ∷ z ∷ []) k new) k ≡ new
put_in x y z new zero l = refl
put_in x y z new (suc zero) l = refl
put_in x y z new (suc (suc zero)) l = refl
put_in x y z new (suc (suc (suc k))) l = absurd (omega arith)

module _ (st : Settings) (table : List ℕ) (s : Session) (x y z : List ℕ) (n : Names) (m : Memory) (sound : Sound s n) (fits : session_fits s ≡ true) (fit : settings_fit st ≡ true) where
  abbrev h : Shot
  h = shot s (x ∷ y ∷ z ∷ []) n m []

  -- the per-packet call on a map that has its length
  map_is : (part map : List ℕ) → length map ≡ map_length_of st s
      → let d = by_rules first_way (state_of h) (call_of table h part) in map_of st table h part map ≡ map_after st s d.answer.verdict (state_of h).previous d.new map
  unfolding tiles_call frame_for
  map_is part map l = rw (fit, sym (map_here st s map fits (map_length_of st s) refl) ∙ eq-eqb (length map) (map_length_of st s) l)

  module _ (part : List ℕ) (a : FrameAnswer) (planes : List (List ℕ)) (n' : Names) (m' : Memory)
      (e : shot a.session planes n' m' (a ∷ []) ≡ one_more (by_rules first_way) table h part) where
    pub packet_map : (map : List ℕ) → length map ≡ map_length_of st s → map_after st s a.verdict (buffer_of planes n.previous) (buffer_of planes (free n)) map ≡ map_of st table h part map
    unfolding one_more
    packet_map map l =
        let d = by_rules first_way (state_of h) (call_of table h part) in
        let k = free n in
        let ev : a.verdict ≡ d.answer.verdict = ap (λ (t : Shot). first_verdict t.answers) e in
        let ep : planes ≡ set (x ∷ y ∷ z ∷ []) k d.new = ap (λ (t : Shot). t.planes) e in
        let old : buffer_of planes n.previous ≡ buffer_of (x ∷ y ∷ z ∷ []) n.previous =
        ap (λ (q : List (List ℕ)). buffer_of q n.previous) ep ∙ get_or-set_other (x ∷ y ∷ z ∷ []) k (index n.previous) d.new [] (apart s n sound).1 in
        let new : buffer_of planes k ≡ d.new = ap (λ (q : List (List ℕ)). buffer_of q k) ep ∙ put_in x y z d.new k (free_is n).named in
        (λ i. map_after st s (ev i) (old i) (new i) map) ∙ sym (map_is part map l)

-- ---- a shot that is being played: its maps, and those that are to be written, are what was to be written
pub record MapsGoing (st : Settings) (table lengths packets : List ℕ) (start : Shot) (maps₀ : List ℕ) (s : Session) (x y z : List ℕ) (n : Names) (m : Memory) (maps : List ℕ) (at i : ℕ) : Type 0 where
  pub same_long : map_length_of st s ≡ map_length_of st start.session
  pub size : length maps ≡ map_length_of st s * length lengths
  pub rest : take (map_length_of st s * i) maps ++ maps_after st table (shot s (x ∷ y ∷ z ∷ []) n m []) (packets_in (drop i lengths) (drop at packets)) (drop (map_length_of st s * i) maps)
      ≡ maps_after st table start (packets_in lengths packets) maps₀

module _ (st : Settings) (table lengths packets : List ℕ) (start : Shot) (maps₀ : List ℕ) where
  -- nothing is played yet
  pub maps_first : (s : Session) (x y z : List ℕ) (n : Names) (m : Memory) → start ≡ shot s (x ∷ y ∷ z ∷ []) n m [] → length maps₀ ≡ map_length_of st s * length lengths
      → MapsGoing st table lengths packets start maps₀ s x y z n m maps₀ 0 0
  maps_first s x y z n m e l =
      let k = map_length_of st s in
      let z : k * 0 ≡ 0 = omega arith in
      record {
        same_long = ap (λ (h : Shot). map_length_of st h.session) (sym e);
        size = l;
        rest = (λ i. take (z i) maps₀ ++ maps_after st table (sym e i) (packets_in lengths packets) (drop (z i) maps₀));
      }

  module _ (s : Session) (x y z : List ℕ) (n : Names) (m : Memory) (maps : List ℕ) (at i : ℕ) (g : MapsGoing st table lengths packets start maps₀ s x y z n m maps at i) where
    abbrev k : ℕ
    k = map_length_of st s

    -- all are played
    pub maps_last : length lengths ≤ i → i ≤ length lengths → maps ≡ maps_after st table start (packets_in lengths packets) maps₀
    unfolding maps_after
    maps_last l few =
        sym (take-append-drop (k * i) maps)
        ∙ ap (λ (ps : List (List ℕ)). take (k * i) maps ++ maps_after st table (shot s (x ∷ y ∷ z ∷ []) n m []) ps (drop (k * i) maps)) (sym (packets_none lengths packets i at l few))
        ∙ g.rest

    -- the part of map i lies in the maps
    pub map_ends : i < length lengths → k * i + k ≤ length maps
    map_ends l = omega (arith, part_ends k i (length lengths) l, g.size)

    pub maps_same : {l : ℕ} → l ≡ map_length_of st start.session * length lengths → length maps ≡ l
    maps_same e = g.size ∙ ap (λ (k : ℕ). k * length lengths) g.same_long ∙ sym e

    -- one more
    module _ (sound : Sound s n) (fits : session_fits s ≡ true) (fit : settings_fit st ≡ true) (l : i < length lengths) (end : ℕ) (ends : end ≡ at + get_or lengths i 0)
        (a : FrameAnswer) (x' y' z' : List ℕ) (n' : Names) (m' : Memory) (e : shot a.session (x' ∷ y' ∷ z' ∷ []) n' m' (a ∷ []) ≡ one_more (by_rules first_way) table (shot s (x ∷ y ∷ z ∷ []) n m []) (take (end - at) (drop at packets))) where
      abbrev part : List ℕ
      part = take (end - at) (drop at packets)

      abbrev begun : Shot
      begun = shot s (x ∷ y ∷ z ∷ []) n m []

      abbrev planes : List (List ℕ)
      planes = x' ∷ y' ∷ z' ∷ []

      old_long : length (take k (drop (k * i) maps)) ≡ k
      old_long = length-take-le k (drop (k * i) maps) (omega (arith, length-drop (k * i) maps, map_ends l))

      same : map_length_of st a.session ≡ k
      same = ap (λ (h : Shot). map_length_of st h.session) e ∙ long_after st table begun part

      pub maps_on : (maps' : List ℕ) → maps' ≡ with_part k i (map_after st s a.verdict (buffer_of planes n.previous) (buffer_of planes (free n))) maps → length maps' ≡ length maps
          → MapsGoing st table lengths packets start maps₀ a.session x' y' z' n' m' maps' end (i + 1)
      unfolding maps_after
      maps_on maps' em hm =
          let front = take (k * i) maps in
          let behind = drop (k * i + k) maps in
          let new = map_of st table begun part (take k (drop (k * i) maps)) in
          let ps = packets_in (drop (i + 1) lengths) (drop end packets) in
          let q : maps' ≡ front ++ (new ++ behind) = em ∙ ap (λ (p : List ℕ). front ++ (p ++ behind)) (packet_map st table s x y z n m sound fits fit part a planes n' m' e (take k (drop (k * i) maps)) old_long) in
          let lf : length front ≡ k * i = length-take-le (k * i) maps (omega (arith, map_ends l)) in
          let lb = length-drop (k * i + k) maps in
          let ln : length (front ++ new) ≡ k * (i + 1) =
          omega (arith, length-append front new, length-append front (new ++ behind), length-append new behind, ap (λ (l : List ℕ). length l) q, hm, lf, lb, map_ends l, mul-suc k i, ap (λ (j : ℕ). k * j) (add-one i)) in
          let q2 : maps' ≡ (front ++ new) ++ behind = q ∙ sym (append_assoc front new behind) in
          let et : take (k * (i + 1)) maps' ≡ front ++ new = ap (take (k * (i + 1))) q2 ∙ take_at (front ++ new) behind (k * (i + 1)) ln in
          let ed : drop (k * (i + 1)) maps' ≡ drop k (drop (k * i) maps) = ap (drop (k * (i + 1))) q2 ∙ drop_at (front ++ new) behind (k * (i + 1)) ln ∙ sym (drop-drop k (k * i) maps) in
          record {
            same_long = same ∙ g.same_long;
            size = hm ∙ g.size ∙ ap (λ (k : ℕ). k * length lengths) (sym same);
            rest =
                ap (λ (k : ℕ). take (k * (i + 1)) maps' ++ maps_after st table (shot a.session planes n' m' []) ps (drop (k * (i + 1)) maps')) same
                ∙ ap (λ (l : List ℕ). take (k * (i + 1)) maps' ++ l) (any_answers st table a.session planes n' m' [] (a ∷ []) ps (drop (k * (i + 1)) maps'))
                ∙ (λ j. et j ++ maps_after st table (e j) ps (ed j))
                ∙ append_assoc front new (maps_after st table (one_more (by_rules first_way) table begun part) ps (drop k (drop (k * i) maps)))
                ∙ ap (λ (qs : List (List ℕ)). front ++ maps_after st table begun qs (drop (k * i) maps)) (sym (packets_left lengths packets i at end l ends))
                ∙ g.rest;
          }

-- ---- the map does not look at what work memory held
pub map_same : (st : Settings) (s : State) (c c' : Call) → by_rules first_way s c ≡ by_rules first_way s c' → (map : List ℕ) → (tiles_call st s c map).map ≡ (tiles_call st s c' map).map
unfolding tiles_call frame_for
map_same st s c c' e map = go (settings_fit st) (map_fits st s.session map)
  where
    go : (a b : Bool)
        → let d = choose a (choose b (by_rules first_way s c) (refused_by 1 s c)) (refused_by 20 s c) in
        let d' = choose a (choose b (by_rules first_way s c') (refused_by 1 s c')) (refused_by 20 s c') in
        map_after st s.session d.answer.verdict s.previous d.new map ≡ map_after st s.session d'.answer.verdict s.previous d'.new map
    go true true = ap (λ (d : Done). map_after st s.session d.answer.verdict s.previous d.new map) e
    go true false = refl
    go false b = refl
