-- The published lengths: what they come to, and that a caller can lend them. Assumes nothing.
use Prim.Native.Nat.{◌+◌, ◌*◌, ◌≤◌}
use native.Mathlib.Omega.{arith}
use mathlib.Core.Path.{◌≡◌, ap, ◌∙◌}
use mathlib.Core.Bool.{true}
use Rattle.geometry.specs.declared.PixelFormat.{PixelFormat}
use Rattle.geometry.specs.declared.FrameSizes.{FrameSizes}
use Rattle.geometry.specs.Sizes.{sizes_of}
use Rattle.geometry.proofs.SizeLaws.{SizesSmall, sizes_small}
use Rattle.headers.specs.declared.Session.{Session}
use Rattle.headers.specs.Fits.{session_fits}
use Rattle.headers.proofs.Fitting.{fits_macro_blocks}
use Rattle.headers.specs.Sizes.{format}
use Rattle.work_memory.specs.declared.WorkLengths.{WorkLengths}
use Rattle.work_memory.specs.Lengths.{blocks, super_blocks, macro_blocks, lengths_of}

module _ (s : Session) where
  -- "work memory a length linear in NBS, NMBS, NSBS, at most 1,024·(NBS+NMBS+NSBS) bytes"
  pub work_bytes_few : (lengths_of s).bytes ≤ 1024 * (blocks s + macro_blocks s + super_blocks s)
  work_bytes_few = omega arith

  -- the bytes are those of the slices: 4 to a record, 8 to a number of a block or a rank, 2 to a coefficient
  pub work_bytes_sum : let l = lengths_of s in
      l.bytes ≡ 4 * l.records + 8 * l.coded + 2 * l.coefs + 2 * l.dc + l.lasts + l.flags + l.bits + l.supers + l.modes + 8 * l.active
  work_bytes_sum = omega arith

  -- the sizes of a session that fits
  module _ (fits : session_fits s ≡ true) where
    pub session_small : SizesSmall (format s) s.fields.fmbw s.fields.fmbh
    session_small = let m = fits_macro_blocks s fits in sizes_small (format s) s.fields.fmbw s.fields.fmbh m.1 m.3

    -- as a program comes to them
    module _ {f : PixelFormat} {z : FrameSizes} (ef : f ≡ format s) (ez : z ≡ sizes_of f s.fields.fmbw s.fields.fmbh) where
      sizes_are : z ≡ sizes_of (format s) s.fields.fmbw s.fields.fmbh
      sizes_are = ez ∙ ap (λ (f : PixelFormat). sizes_of f s.fields.fmbw s.fields.fmbh) ef

      pub counted_few : (z.blocks ≤ 51538034700) × (z.macro_blocks ≤ 4294836225) × (z.super_blocks ≤ 3221225472)
      counted_few =
          let n : z.blocks ≡ blocks s = ap (λ (z : FrameSizes). z.blocks) sizes_are in
          let m : z.macro_blocks ≡ macro_blocks s = ap (λ (z : FrameSizes). z.macro_blocks) sizes_are in
          let k : z.super_blocks ≡ super_blocks s = ap (λ (z : FrameSizes). z.super_blocks) sizes_are in
          let l = session_small in
          (omega arith, omega arith, omega arith)

      pub lengths_are : ◌≡◌ {A = WorkLengths} (record {
        records = z.blocks;
        coded = z.blocks;
        coefs = 64 * z.blocks;
        dc = z.blocks;
        lasts = z.blocks;
        flags = z.blocks;
        bits = z.blocks;
        supers = 2 * z.super_blocks;
        modes = z.macro_blocks;
        active = z.blocks;
        bytes = 153 * z.blocks + 2 * z.super_blocks + z.macro_blocks;
      }) (lengths_of s)
      lengths_are = λ i. let z = sizes_are i in record {
        records = z.blocks;
        coded = z.blocks;
        coefs = 64 * z.blocks;
        dc = z.blocks;
        lasts = z.blocks;
        flags = z.blocks;
        bits = z.blocks;
        supers = 2 * z.super_blocks;
        modes = z.macro_blocks;
        active = z.blocks;
        bytes = 153 * z.blocks + 2 * z.super_blocks + z.macro_blocks;
      }
