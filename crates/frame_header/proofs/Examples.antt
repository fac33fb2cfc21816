-- Worked examples.
use mathlib.Core.Path.{◌≡◌, refl}
use mathlib.Core.List.{[], ◌∷◌}
use mathlib.Core.Bool.{true, false}
use Rattle.bitstream.specs.Bits.{bit_at, number}
use Rattle.bitstream.specs.Reading.{got, refused, field, judged}
use Rattle.frame_header.specs.declared.Kind.TheVariants.{Intra, Inter}
use Rattle.frame_type.specs.Judged.{frame_type, reserved}
use Rattle.frame_header.specs.Header.{more_qis, qi_list, kind_of, frame_header}

-- 0 0 010000 0 000: an intra frame with the qi 16
intra : frame_header false (0x10 ∷ 0x00 ∷ []) 0 ≡ got (record { kind = Intra; qis = 16 ∷ [] }) 12
unfolding frame_header frame_type more_qis qi_list reserved kind_of judged field number bit_at
intra = refl

-- 0 1 000001 1 000010 1 000011: an inter frame with three qi, and no closing bit
inter : frame_header true (0x41 ∷ 0x85 ∷ 0x0C ∷ []) 0 ≡ got (record { kind = Inter; qis = 1 ∷ 2 ∷ 3 ∷ [] }) 22
unfolding frame_header frame_type more_qis qi_list reserved kind_of judged field number bit_at
inter = refl

-- 10 stands before 9, 9 at the type bit before the rest is read
marked : frame_header false (0xC0 ∷ []) 0 ≡ refused 10 0
unfolding frame_header frame_type more_qis qi_list reserved kind_of judged field number bit_at
marked = refl

no_references : frame_header false (0x40 ∷ []) 0 ≡ refused 9 1
unfolding frame_header frame_type more_qis qi_list reserved kind_of judged field number bit_at
no_references = refl

-- the bit that announces a qi is a field of its own; the reserved bits are judged once all three are there
cut : frame_header true (0x41 ∷ []) 0 ≡ refused 4 8
unfolding frame_header frame_type more_qis qi_list reserved kind_of judged field number bit_at
cut = refl

reserved_set : frame_header false (0x10 ∷ 0x10 ∷ []) 0 ≡ refused 11 9
unfolding frame_header frame_type more_qis qi_list reserved kind_of judged field number bit_at
reserved_set = refl
