-- The published lengths of work memory, and work memory of given lengths, all zero.
use Rattle.std.specs.Prelude.{ℕ, ◌+◌, ◌*◌, Bool, [], ◌∷◌, eqb, pos, length, replicate}
use Rattle.geometry.specs.declared.PixelFormat.{PixelFormat}
use Rattle.geometry.specs.Sizes.{blocks_of, super_blocks_of, macro_blocks_of}
use Rattle.headers.specs.declared.Session.{Session}
use Rattle.headers.specs.Fits.{all}
use Rattle.headers.specs.Sizes.{format}
use Rattle.work_memory.specs.declared.WorkLengths.{WorkLengths}
use Rattle.work_memory.specs.Memory.{Memory, memory}

-- the published lengths for frames of w by h macro blocks, in elements, and their bytes together
abbrev pub published : PixelFormat → (w h : ℕ) → WorkLengths
published f w h = record {
  records = blocks_of f w h;
  coded = blocks_of f w h;
  coefs = 64 * blocks_of f w h;
  dc = blocks_of f w h;
  lasts = blocks_of f w h;
  flags = blocks_of f w h;
  bits = blocks_of f w h;
  supers = 2 * super_blocks_of f w h;
  modes = macro_blocks_of w h;
  active = blocks_of f w h;
  bytes = 153 * blocks_of f w h + 2 * super_blocks_of f w h + macro_blocks_of w h;
}

-- the sizes of a session's frames
abbrev pub blocks : Session → ℕ
blocks s = blocks_of (format s) s.fields.fmbw s.fields.fmbh

abbrev pub super_blocks : Session → ℕ
super_blocks s = super_blocks_of (format s) s.fields.fmbw s.fields.fmbh

abbrev pub macro_blocks : Session → ℕ
macro_blocks s = macro_blocks_of s.fields.fmbw s.fields.fmbh

-- the published lengths for a session's frames
abbrev pub lengths_of : Session → WorkLengths
lengths_of s = published (format s) s.fields.fmbw s.fields.fmbh

-- every slice has its length
unfoldable pub lengths_fit : WorkLengths → Memory → Bool
lengths_fit l m =
    all (eqb (length m.work.records) l.records ∷ eqb (length m.work.coded) l.coded ∷ eqb (length m.work.coefs) l.coefs
    ∷ eqb (length m.dc) l.dc ∷ eqb (length m.work.lasts) l.lasts ∷ eqb (length m.work.flags) l.flags
    ∷ eqb (length m.work.bits) l.bits ∷ eqb (length m.work.supers) l.supers ∷ eqb (length m.work.modes) l.modes
    ∷ eqb (length m.work.active) l.active ∷ [])

-- "Work memory is all zero": that of these lengths
abbrev pub cleared : WorkLengths → Memory
cleared l =
    memory (replicate l.records 0) (replicate l.coded 0) (replicate l.coefs (pos 0)) (replicate l.dc (pos 0)) (replicate l.lasts 0)
    (replicate l.flags 0) (replicate l.bits 0) (replicate l.supers 0) (replicate l.modes 0) (replicate l.active 0)
