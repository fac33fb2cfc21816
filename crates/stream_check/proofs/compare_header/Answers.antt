-- `stream_check::compare_header` meets its contract. Assumes nothing.
use Prim.Native.Nat.{ℕ}
use mathlib.Core.Path.{refl, ap, ◌∙◌}
use mathlib.Core.List.{List}
use lib.ListN.{replicate}
use Rattle.stream_check.specs.Compared.{onward, beginning}
use Rattle.stream_check.proofs.Header.{header_line, header_written}
use Rattle.stream_check.proofs.compare_header.Goals as goal

pub returns-in-Bytes : goal.returns-in-Bytes
returns-in-Bytes c = (c.compare.ensures.0 ∙ ap (λ (t : List ℕ). onward beginning t c.args.file.now) (header_line c.args.s c.requires (replicate 110 0) refl _ c.write_header-written.ensures.value _ c.write_header-written.ensures.out_after _ c.in-Bytes.is).is, c.compare.ensures.1)

pub returns-in-Refused : goal.returns-in-Refused
returns-in-Refused c = absurd (header_written c.args.s c.requires (replicate 110 0) refl _ c.write_header-written.ensures.value c.in-Refused.is)
