-- Settings as 4 numbers.
use Rattle.std.specs.Prelude.{ℕ, List, get_or}
use Rattle.settings.specs.declared.Settings.{Settings}

-- tile, shot_first, shot_last and plane
unfoldable pub settings_of : List ℕ → Settings
settings_of l = record { tile = get_or l 0 0; shot_first = get_or l 1 0; shot_last = get_or l 2 0; plane = get_or l 3 0 }
