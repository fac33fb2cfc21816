-- `map_update::write_accepted` meets its contract. Assumes nothing.
use Prim.Native.Nat.{ℕ, ◌+◌, ◌*◌, ◌≤◌}
use native.Mathlib.Omega.{arith}
use mathlib.Core.Path.{◌≡◌, sym, ap, ◌∙◌}
use lib.ListN.{length}
use Rattle.geometry.specs.declared.PixelFormat.{PixelFormat}
use Rattle.geometry.specs.Sizes.{blocks_of}
use Rattle.headers.proofs.Fitting.{fits_macro_blocks}
use Rattle.tile_map.specs.Tiles.{map_length, tile_map}
use Rattle.map_update.specs.Map.{map_length_of}
use Rattle.map_update.proofs.Maps.{settings_tile, settings_plane, accepted_compared, accepted_first, all_filled}
use borrow.Author.Rules.{rules}
use Rattle.map_update.proofs.write_accepted.Goals as goal

pub write_map-requires : goal.write_map-requires
write_map-requires c = let m = fits_macro_blocks c.args.s c.requires.1.0 in
    let e = sym c.pixel_format-format.ensures in
    let n = ap (λ (f : PixelFormat). 64 * blocks_of f c.args.s.fields.fmbw c.args.s.fields.fmbh) e in record { w_le_largest = (m.1, m.3, settings_plane c.args.set c.requires.0, settings_tile c.args.set c.requires.0); previous_len = (c.requires.1.1 ∙ n, c.requires.1.2 ∙ n, c.requires.1.3 ∙ ap (λ (f : PixelFormat). map_length f c.args.s.fields.fmbw c.args.s.fields.fmbh c.args.set.plane c.args.set.tile) e) }

pub returns-then-s : goal.returns-then-s
returns-then-s c = c.write_map.ensures
    ∙ ap (λ (f : PixelFormat). tile_map f c.args.s.fields.fmbw c.args.s.fields.fmbh c.args.set.plane c.args.set.tile c.args.previous.now c.args.new.now) c.pixel_format-format.ensures
    ∙ sym (accepted_compared c.args.set c.args.s c.args.previous.now c.args.new.now c.if-s.true)

pub returns : goal.returns
returns c = c.fill_bytes.ensures ∙ all_filled c.args.map.now (map_length_of c.args.set c.args.s) 1 c.requires.1.3 ∙ sym (accepted_first c.args.set c.args.s c.args.previous.now c.args.new.now c.if-s.false)
