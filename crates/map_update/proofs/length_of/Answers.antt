-- `map_update::length_of` meets its contract. Assumes nothing.
use Prim.Native.Nat.{ℕ}
use mathlib.Core.Path.{◌≡◌, sym, ap, ◌∙◌}
use Rattle.geometry.specs.declared.PixelFormat.{PixelFormat}
use Rattle.headers.proofs.Fitting.{fits_macro_blocks}
use Rattle.tile_map.specs.Tiles.{map_length}
use Rattle.map_update.proofs.Maps.{settings_tile, settings_plane}
use borrow.Author.Rules.{rules}
use Rattle.map_update.proofs.length_of.Goals as goal

pub map_length-requires : goal.map_length-requires
map_length-requires c = let m = fits_macro_blocks c.args.s c.requires.1 in
    (m.1, m.3, settings_plane c.args.set c.requires.0, settings_tile c.args.set c.requires.0)
