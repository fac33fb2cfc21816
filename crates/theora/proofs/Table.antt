-- The table of document 01, as one statement over one list.
use mathlib.Core.Path.{◌≡◌, refl}
use Rattle.numeric.specs.Cut.{mod16, read16, cut}
use Rattle.numeric.specs.Divide.{round_over}
use Rattle.bitstream.specs.Bits.{bit_at, number}
use Rattle.bitstream.specs.Reading.{field, judged}
use Rattle.geometry.specs.Sizes.{blocks_of, total}
use Rattle.geometry.specs.Order.{ordered, row, square, in_turn, shifted, present}
use Rattle.geometry.specs.Frame.{in_plane, plane_order, frame_order}
use Rattle.headers.specs.Fits.{all, widths_fit, picture_inside, ranges_hold, session_fits, within_shift}
use Rattle.queries.specs.Found.{on_session, position}
use Rattle.queries.specs.Orders.{block_number}
use Rattle.quantization.specs.Parameters.{matrix_count}
use Rattle.matrices.specs.Matrix.{minimum, scaled}
use Rattle.loop_filter.specs.Filter.{tent_of, limited_of}
use Rattle.transform.specs.Residual.{dc_only}
use Rattle.theora.specs.Table.{three_then_five, worked, paper}

pub table : worked ≡ paper
unfolding worked paper three_then_five field number bit_at ordered row square in_turn shifted present in_plane plane_order frame_order all widths_fit picture_inside ranges_hold within_shift session_fits on_session position block_number blocks_of total round_over cut mod16 read16 limited_of tent_of scaled minimum dc_only matrix_count judged
table = refl
