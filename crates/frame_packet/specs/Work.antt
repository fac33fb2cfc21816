-- How what was read lies in work memory.
use Rattle.std.specs.Prelude.{ℕ, ◌*◌, List, map, pos, replicate}
use Rattle.bitstream.specs.Reading.{Outcome, got, refused}
use Rattle.geometry.specs.declared.PixelFormat.{PixelFormat}
use Rattle.geometry.specs.Sizes.{blocks_of, super_blocks_of, macro_blocks_of}
use Rattle.block_record.specs.Packed.{packed}
use Rattle.frame_header.specs.Answer as header
use Rattle.work_memory.specs.Memory.{Work}
use Rattle.work_memory.specs.Lengths.{published, cleared}
use Rattle.packet_body.specs.Frame.{Body, Frame}
use Rattle.packet_body.specs.declared.Read.TheVariants.{Refused}
use Rattle.frame_packet.specs.declared.FrameRead.{FrameRead}
use Rattle.packet_body.specs.Work.{padded, as_read}

module _ (f : PixelFormat) (w h : ℕ) where
  -- what was read of the blocks, with zeros behind it, and these modes; the scratch is all zero
  abbrev pub holding_with : List ℕ → Body → Work
  holding_with modes b = record {
    records = map packed b.records;
    coded = padded 0 (blocks_of f w h) b.coded;
    coefs = padded (pos 0) (64 * blocks_of f w h) b.tokens.coefs;
    lasts = padded 0 (blocks_of f w h) b.tokens.lasts;
    flags = replicate (blocks_of f w h) 0;
    bits = replicate (blocks_of f w h) 0;
    supers = replicate (2 * super_blocks_of f w h) 0;
    modes = modes;
    active = replicate (blocks_of f w h) 0;
  }

  -- the modes among the scratch
  abbrev pub holding : Body → Work
  holding b = holding_with (replicate (macro_blocks_of w h) 0) b

  -- the modes, too, with zeros behind them
  abbrev pub keeping : Body → Work
  keeping b = holding_with (padded 0 (macro_blocks_of w h) b.modes) b

  -- after a refusal all zero
  abbrev pub work_after : Outcome Frame → Work
  work_after (got fr e) = holding fr.body
  work_after (refused k e) = (cleared (published f w h)).work

  abbrev pub work_kept : Outcome Frame → Work
  work_kept (got fr e) = keeping fr.body
  work_kept (refused k e) = (cleared (published f w h)).work

-- the same with the header beside it; after a refusal that of a repeat
abbrev pub as_frame : Outcome Frame → FrameRead
as_frame (got fr e) = record { read = as_read (got fr.body e); header = header.as_header fr.header }
as_frame (refused k e) = record { read = Refused k e; header = header.repeat_header }
