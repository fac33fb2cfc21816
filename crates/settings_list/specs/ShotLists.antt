-- By what the lists of a shot call with settings are refused.
use Rattle.std.specs.Prelude.{ℕ, ◌&&◌, List, eqb, length}
use Rattle.bitstream.specs.Reading.{choose}
use Rattle.bitstream.specs.Numbers.{wrong_length, bad_settings}
use Rattle.settings.specs.Settings.{settings_fit}
use Rattle.settings_list.specs.List.{settings_of}

-- by what the lists are refused, 0 if by nothing: "20 before all other checks" that can be made on a list of 4 numbers
unfoldable pub tiles_shot_number : (settings : List ℕ) (session names : ℕ) → ℕ
tiles_shot_number settings session names =
    choose (eqb (length settings) 4) (choose (settings_fit (settings_of settings)) (choose (eqb session 19 && eqb names 2) 0 wrong_length) bad_settings) wrong_length
