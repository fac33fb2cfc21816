-- A setup as the code has it, in a struct by value.
use Rattle.std.specs.Prelude.{ℕ, ◌≡◌, List, get_or, replicate}
use Rattle.bitstream.specs.Reading.{Outcome, got, refused}
use Rattle.huffman.specs.Tree.{nodes_of}
use Rattle.quantization.specs.Layout.{laid}
use Rattle.quantization.specs.Answer.{loaded_parameters}
use Rattle.bitstream.specs.Answer.{as_end, IfGot}
use Rattle.setup.specs.Header.{Setup, setup_header}
use Rattle.setup.specs.declared.LoadedSetup.{LoadedSetup}
use Rattle.setup.specs.declared.SetupRead.{SetupRead}

-- a setup as the code has it: trees one after the other, 64 nodes each
unfoldable pub loaded_setup : Setup → LoadedSetup
loaded_setup s = record { limits = s.limits; parameters = loaded_parameters s.parameters; nodes = laid nodes_of s.trees }

-- "L is the limit of the first qi"
abbrev pub limit_of : Setup → ℕ → ℕ
limit_of s qi = get_or s.limits qi 0

-- no setup
unfoldable pub empty_setup : LoadedSetup
empty_setup = record {
  limits = replicate 64 0;
  parameters = record { place = 0; ac_scale = replicate 64 0; dc_scale = replicate 64 0; sizes = replicate 384 0; indices = replicate 384 0 };
  nodes = replicate 5120 0;
}

-- the memory t reads as the setup s, and l is that setup
pub record Holds (t : List ℕ) (l : LoadedSetup) (s : Setup) : Type 0 where
  pub end : ℕ
  pub reads : setup_header t 0 ≡ got s end
  pub is : l ≡ loaded_setup s

-- l is some setup, which t reads as
abbrev pub Held : List ℕ → LoadedSetup → Type 0
Held t l = (s : Setup) × Holds t l s

-- the setup that was read, none beside a refusal
abbrev pub setup_of : Outcome Setup → LoadedSetup
setup_of (got s e) = loaded_setup s
setup_of (refused k e) = empty_setup

-- what the reader of a setup answers
abbrev pub as_setup_read : Outcome Setup → SetupRead
as_setup_read o = record { place = as_end o; setup = setup_of o }

-- what a reader leaves in the setup that it fills: the setup that was read; after a refusal it may be anything
abbrev pub Loaded : Outcome Setup → LoadedSetup → Type 0
Loaded o l = IfGot (λ s. l ≡ loaded_setup s) o
