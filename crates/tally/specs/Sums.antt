-- What the counts of an accepted packet add up to.
use Rattle.std.specs.Prelude.{ℕ, ◌+◌, ◌<◌, ◌≡◌, get_or, replicate}
use Rattle.geometry.specs.Sizes.{plane_blocks}
use Rattle.headers.specs.declared.Session.{Session}
use Rattle.headers.specs.Sizes.{format}
use Rattle.frame_header.specs.declared.Kind.{Kind}
use Rattle.frame_header.specs.declared.Kind.TheVariants.{Intra, Inter, Repeat}
use Rattle.work_memory.specs.Lengths.{blocks, macro_blocks}
use Rattle.counting.specs.declared.Counts.{Counts}
use Rattle.counting.specs.Counts.{sum, Codes, no_counts}

pub record AddsUp (s : Session) (kind : Kind) (c : Counts) : Type 0 where
  -- an intra or inter frame: in each plane its blocks, and together NBS
  pub planes : Codes kind → (p : ℕ) → p < 3 → get_or c.coded p 0 + get_or c.uncoded p 0 ≡ plane_blocks (format s) s.fields.fmbw s.fields.fmbh p
  pub all_planes : Codes kind → sum c.coded + sum c.uncoded ≡ blocks s
  -- an inter frame: the eight modes together NMBS; an intra frame none
  pub modes : kind ≡ Inter → sum c.modes ≡ macro_blocks s
  pub no_modes : kind ≡ Intra → c.modes ≡ replicate 8 0
  -- a repeat: nothing
  pub repeats : kind ≡ Repeat → c ≡ no_counts
