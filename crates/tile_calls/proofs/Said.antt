-- What is said of the map of a call, from the definitions of the decoder, demand 3 and `first-codes-all`. Assumes nothing.
use Prim.Native.Nat.{ℕ, ◌+◌, ◌*◌, ◌/◌, ◌%◌, ◌≤◌, ◌<◌}
use native.Mathlib.Omega.{arith}
use mathlib.Core.Path.{◌≡◌, refl, sym, ap, ◌∙◌, subst}
use mathlib.Core.Bool.{Bool, true, false, false≢true}
use mathlib.Core.List.{List, [], ◌∷◌}
use mathlib.Core.Logic.{◌⊎◌, inl, inr}
use lib.ListN.{length, get_or, replicate, length-replicate, get_or-replicate}
use lib.Seq.{ext_get_or}
use Rattle.bitstream.specs.Reading.{Outcome, got, refused, choose}
use Rattle.geometry.specs.declared.Block.{Block}
use Rattle.geometry.specs.Sizes.{across, up, squares as tiles}
use Rattle.geometry.specs.Frame.{InFrame, block}
use Rattle.geometry.proofs.Products.{squares_begin}
use Rattle.geometry.proofs.Raster.{raster_back}
use Rattle.headers.specs.Sizes.{format}
use Rattle.settings.specs.declared.Settings.{Settings}
use Rattle.settings.specs.Settings.{settings_fit}
use Rattle.ways.specs.Ways.{first_way}
use Rattle.reading.specs.Answer.{Asked, answer_for}
use Rattle.asked_frame.specs.Answer.{State, Done, picture}
use Rattle.calls.specs.Call.{Call, outcome_of, by_rules}
use Rattle.calls.specs.Demand.{Turn, turn, turns, UncodedKept}
use Rattle.calls.proofs.Demand.{demand3}
use Rattle.calls.proofs.First.{first_codes_all, empty_codes_none}
use Rattle.tile_map.specs.Tiles.{map_length, tile_map, IsTile}
use Rattle.tile_map.specs.Quiet.{IsOne, Quiet, Kept}
use Rattle.tile_map.proofs.Said.{map_length_law, byte_two, differs_1, one_differs}
use Rattle.tile_map.proofs.Quiet.{quiet_tile, tile_eights}
use Rattle.tile_calls.specs.Call.{map_fits, refused_by, frame_for, tiles_done, tiles_call}
use Rattle.map_update.specs.Map.{map_length_of, accepted_map, map_after}
use Rattle.tile_calls.specs.Said.{AcceptedCall, byte_at, IsTileOf, QuietTile, QuietIsZero, RepeatIsZero, FirstIsOne, SaysChange, ChangeIsSaid, ZeroOrOne, RefusalLeaves, MapIsLeft}
use Rattle.map_update.proofs.Maps.{settings_tile, settings_plane, accepted_first, accepted_compared}

-- what demand 3 says of the turn of one call
kept_by : (st : State) (c : Call) → UncodedKept (turn st c (by_rules first_way st c))
unfolding turns
kept_by st c = (demand3 st (c ∷ [])).uncoded_kept (turn st c (by_rules first_way st c)) (inl refl)

module _ (set : Settings) (st : State) (c : Call) (map : List ℕ) (a : Asked) (h : AcceptedCall set st c map a) where
  -- the frame is the frame call's
  accepted_frame : (tiles_call set st c map).frame ≡ by_rules first_way st c
  unfolding tiles_call frame_for
  accepted_frame = rw (h.settings, h.map_fits_law)

  accepted_map_law : (tiles_call set st c map).map ≡ accepted_map set st.session st.previous (by_rules first_way st c).new
  unfolding tiles_call frame_for by_rules
  accepted_map_law = rw (h.settings, h.map_fits_law, h.asked)

  pub first_map : st.session.references ≡ false → (tiles_call set st c map).map ≡ replicate (map_length_of set st.session) 1
  first_map none = accepted_map_law ∙ accepted_first set st.session st.previous (by_rules first_way st c).new none

  pub compared_map : st.session.references ≡ true → let s = st.session in
      (tiles_call set st c map).map ≡ tile_map (format s) s.fields.fmbw s.fields.fmbh set.plane set.tile st.previous (by_rules first_way st c).new
  compared_map some = accepted_map_law ∙ accepted_compared set st.session st.previous (by_rules first_way st c).new some

  -- ---- every byte is 0 or 1
  two_by : (b : Bool) → st.session.references ≡ b → (length (tiles_call set st c map).map ≡ map_length_of set st.session)
      × ((i : ℕ) → i < map_length_of set st.session → (get_or (tiles_call set st c map).map i 0 ≡ 0) ⊎ (get_or (tiles_call set st c map).map i 0 ≡ 1))
  two_by true e =
      let s = st.session in
      let m = compared_map e in
      let new = (by_rules first_way st c).new in (
        ap (λ (l : List ℕ). length l) m ∙ map_length_law (format s) s.fields.fmbw s.fields.fmbh set.plane set.tile st.previous new,
        λ i l. subst (λ (k : List ℕ). (get_or k i 0 ≡ 0) ⊎ (get_or k i 0 ≡ 1)) (sym m) (byte_two (format s) s.fields.fmbw s.fields.fmbh set.plane set.tile st.previous new i l),
      )
  two_by false e =
      let m = first_map e in
      let n = map_length_of set st.session in (
        ap (λ (l : List ℕ). length l) m ∙ length-replicate n 1,
        λ i l. inr (ap (λ (k : List ℕ). get_or k i 0) m ∙ get_or-replicate n i 1 0 l),
      )

  -- ---- a quiet tile
  module _ (x y : ℕ) (o : IsTileOf set st c map x y) (q : QuietTile set st c map x y a) where
    quiet_compared : st.session.references ≡ true → byte_at set st c map x y ≡ 0
    unfolding UncodedKept
    quiet_compared e =
        let s = st.session in
        let f = format s in
        let w = s.fields.fmbw in
        let hh = s.fields.fmbh in
        let p = set.plane in
        let t = set.tile in
        let new = (by_rules first_way st c).new in
        ap (λ (l : List ℕ). get_or l (y * tiles t (8 * across f w p) + x) 0) (compared_map e)
        ∙ quiet_tile f w hh p t (settings_tile set h.settings) (picture s a st.golden st.previous) x y q st.previous new (kept_by st c a h.place h.asked) (settings_plane set h.settings) o

    -- without references no tile is quiet: each holds a block, and every block is coded
    quiet_first : st.session.references ≡ false → ⊥
    quiet_first e =
        let s = st.session in
        let f = format s in
        let w = s.fields.fmbw in
        let hh = s.fields.fmbh in
        let p = set.plane in
        let t = set.tile in
        let tile = settings_tile set h.settings in
        let ex = tile_eights t x tile.1 in
        let ey = tile_eights t y tile.1 in
        let bx = squares_begin t (8 * across f w p) x tile.0 o.column in
        let by = squares_begin t (8 * up f hh p) y tile.0 o.row in
        let b = block p (t / 8 * x) (t / 8 * y) in
        let there : InFrame f w hh b = record { of_three = settings_plane set h.settings; column = omega (arith, ex, bx); row = omega (arith, ey, by) } in
        let coded = (first_codes_all st c a h.place e h.asked).1 b there in
        let not-coded = q.holds_none b refl there (omega (arith, ex), omega (arith, ex, tile.0)) (omega (arith, ey), omega (arith, ey, tile.0)) in
        false≢true (sym not-coded ∙ coded)

    quiet_by : (b : Bool) → st.session.references ≡ b → byte_at set st c map x y ≡ 0
    quiet_by true e = quiet_compared e
    quiet_by false e = absurd (quiet_first e)

  -- ---- a repeat
  repeat_byte : c.packet ≡ [] → (i : ℕ) → i < map_length_of set st.session → get_or (tiles_call set st c map).map i 0 ≡ 0
  unfolding map_length
  repeat_byte empty i l =
      let s = st.session in
      let n = tiles set.tile (8 * across (format s) s.fields.fmbw set.plane) in
      let b = raster_back n (tiles set.tile (8 * up (format s) s.fields.fmbh set.plane)) i l in
      let none = empty_codes_none st c a h.place empty h.asked in
      let quiet : QuietTile set st c map (i % n) (i / n) a = record { holds_none = λ b m f u v. none b; left_or_right = λ b m f u v. none b; below_or_above = λ b m f u v. none b } in
      ap (λ (k : ℕ). get_or (tiles_call set st c map).map k 0) (sym b.3)
      ∙ quiet_by (i % n) (i / n) (record { column = b.1; row = b.2 }) quiet s.references refl

  repeat_all : c.packet ≡ [] → (tiles_call set st c map).map ≡ replicate (map_length_of set st.session) 0
  repeat_all empty =
      let n = map_length_of set st.session in
      let size = (two_by st.session.references refl).0 in
      ext_get_or 0 (tiles_call set st c map).map (replicate n 0) (size ∙ sym (length-replicate n 0))
      (λ i l. let k : i < n = omega (arith, size) in repeat_byte empty i k ∙ sym (get_or-replicate n i 0 0 k))

  -- ---- with references the map says what changed
  says : st.session.references ≡ true → SaysChange set st c map
  says e =
      let s = st.session in
      let f = format s in
      let w = s.fields.fmbw in
      let hh = s.fields.fmbh in
      let p = set.plane in
      let t = set.tile in
      let m : (tiles_call set st c map).map ≡ tile_map f w hh p t st.previous (tiles_call set st c map).frame.new =
      compared_map e ∙ ap (λ (d : Done). tile_map f w hh p t st.previous d.new) (sym accepted_frame) in
      record {
        one = λ x y col row o i l d. ap (λ (k : List ℕ). get_or k (y * tiles t (8 * across f w p) + x) 0) m ∙ differs_1 f w hh p t st.previous (tiles_call set st c map).frame.new x y o col row i l d;
        only = λ x y o b. one_differs f w hh p t st.previous (tiles_call set st c map).frame.new x y o (sym (ap (λ (k : List ℕ). get_or k (y * tiles t (8 * across f w p) + x) 0) m) ∙ b);
      }

pub quiet_is_zero : QuietIsZero
quiet_is_zero set st c map a h x y o q = quiet_by set st c map a h x y o q st.session.references refl

pub repeat_is_zero : RepeatIsZero
repeat_is_zero set st c map a h empty = repeat_all set st c map a h empty

pub first_is_one : FirstIsOne
first_is_one set st c map a h none = first_map set st c map a h none

pub change_is_said : ChangeIsSaid
change_is_said set st c map a h some = says set st c map a h some

pub zero_or_one : ZeroOrOne
zero_or_one set st c map a h = two_by set st c map a h st.session.references refl

-- ---- a refusal leaves the map
packet_left : (set : Settings) (st : State) (c : Call) (map : List ℕ) (k e : ℕ) → outcome_of st c ≡ refused k e → (a b : Bool)
    → let d = choose a (choose b (by_rules first_way st c) (refused_by 1 st c)) (refused_by 20 st c) in map_after set st.session d.answer.verdict st.previous d.new map ≡ map
unfolding by_rules
packet_left set st c map k e r true true = rw r
packet_left set st c map k e r true false = refl
packet_left set st c map k e r false b = refl

length_left : (set : Settings) (st : State) (c : Call) (map : List ℕ) (a : Bool)
    → let d = choose a (refused_by 1 st c) (refused_by 20 st c) in map_after set st.session d.answer.verdict st.previous d.new map ≡ map
length_left set st c map true = refl
length_left set st c map false = refl

pub map_is_left : MapIsLeft
unfolding tiles_call frame_for
map_is_left set st c map = record {
  range = λ f. rw f;
  length = λ f. rw f (length_left set st c map (settings_fit set));
  packet = λ k e r. packet_left set st c map k e r (settings_fit set) (map_fits set st.session map);
}
