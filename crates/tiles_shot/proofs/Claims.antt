-- Each map is the map of the per-packet call; cutting; the shot call beside the maps. Assumes nothing.
use Prim.Native.Nat.{ℕ, ◌+◌, ◌*◌, ◌≤◌}
use native.Mathlib.Omega.{arith}
use mathlib.Core.Path.{◌≡◌, refl, sym, ap, ◌∙◌}
use mathlib.Core.List.{List, ◌++◌}
use lib.ListN.{length, get_or, take, drop}
use Rattle.geometry.specs.Sizes.{across, squares as tiles}
use Rattle.headers.specs.Sizes.{format}
use Rattle.settings.specs.declared.Settings.{Settings}
use Rattle.ways.specs.Ways.{first_way}
use Rattle.calls.specs.Call.{by_rules}
use Rattle.packet_list.specs.Packets.{packets_in, total}
use Rattle.packet_list.proofs.Cut.{packets_cut, packets_many}
use Rattle.shot_packets.specs.Play.{played}
use Rattle.opening.specs.Call.{ShotCall}
use Rattle.shot.specs.Call.{start_of, ended, unchanged, by_shot}
use Rattle.opening.proofs.Calls.{passes, accepted}
use Rattle.shot.proofs.Calls.{shot_refused, shot_played}
use Rattle.tile_calls.specs.Call.{map_length_of}
use Rattle.tile_calls.proofs.Said.{quiet_is_zero, repeat_is_zero, first_is_one, map_is_left}
use Rattle.shot_maps.specs.Maps.{maps_after}
use Rattle.shot_maps.proofs.Fits.{maps_pass, maps_long}
use Rattle.shot_maps.proofs.Each.{each, maps_cut}
use Rattle.tiles_shot.specs.Call.{tiles_shot}
use Rattle.tiles_shot.specs.Claims.{NotRefused, map_at, state_at, call_at, MapsEach, MapsSay, MapsCut, ShotBesideMaps}
use Rattle.tiles_shot.proofs.Calls.{call_refused, call_made}

-- the maps of a call that is not refused
played_maps : (set : Settings) (c : ShotCall) (maps : List ℕ) → NotRefused set c maps → (tiles_shot set c maps).maps ≡ maps_after set c.table (start_of c) (packets_in c.lengths c.joined) maps
played_maps set c maps h =
    let after = maps_after set c.table (start_of c) (packets_in c.lengths c.joined) maps in
    sym (ap (λ d. d.maps) (call_made set c maps h.by_maps (ended (played (by_rules first_way) c.table (start_of c) (packets_in c.lengths c.joined))) after (shot_played first_way c h.by_shot_law) refl))

pub maps_each : MapsEach
maps_each set c maps h i l =
    let k = map_length_of set c.session in
    let ps = packets_in c.lengths c.joined in
    let many = packets_many c.lengths c.joined in
    let fits = (passes c (accepted c h.by_shot_law).0).0 in
    let long = maps_long set c.session (length c.lengths) (length maps) h.by_maps fits in
    let room : k * length ps ≤ length maps = omega (arith, long, ap (λ (j : ℕ). k * j) many) in
    ap (λ (m : List ℕ). take k (drop (k * i) m)) (played_maps set c maps h)
    ∙ each set (maps_pass set c.session (length c.lengths) (length maps) h.by_maps).0 c.table (start_of c) ps maps k refl i (omega (arith, many)) room

pub maps_say : MapsSay
maps_say set c maps h i l =
    let e = maps_each set c maps h i l in
    let st = state_at set c maps i in
    let call = call_at set c maps i in
    let old = map_at set c maps i maps in
    record {
      refused_leaves = λ k p r. e ∙ (map_is_left set st call old).packet k p r;
      quiet = λ a q x y o t.
          let s = st.session in
          ap (λ (m : List ℕ). get_or m (y * tiles set.tile (8 * across (format s) s.fields.fmbw set.plane) + x) 0) e ∙ quiet_is_zero set st call old a q x y o t;
      repeat_zero = λ a q empty. e ∙ repeat_is_zero set st call old a q empty;
      first_one = λ a q none. e ∙ first_is_one set st call old a q none;
    }

pub maps_cuts : MapsCut
maps_cuts set table h first second joined maps =
    let n = map_length_of set h.session in
    let ps = packets_in first joined in
    let qs = packets_in second (drop (total first) joined) in
    ap (λ (l : List (List ℕ)). maps_after set table h l maps) (packets_cut first second joined) ∙ maps_cut set table h ps qs maps n refl
    ∙ ap (λ (k : ℕ). maps_after set table h ps (take (n * k) maps) ++ maps_after set table (played (by_rules first_way) table h ps) qs (drop (n * k) maps)) (packets_many first joined)

pub shot_beside_maps : ShotBesideMaps
shot_beside_maps set c maps = record {
  is_shot = λ p. sym (ap (λ d. d.shot) (call_made set c maps p (by_shot first_way c) _ refl refl));
  in_front = λ k p some. sym (call_refused set c maps k p some);
  behind = λ p k r some. sym (call_made set c maps p (unchanged k c) maps (shot_refused first_way c k r some) refl);
}
