-- `y4m::read` meets its contract. Assumes nothing.
use Prim.Native.Nat.{ℕ}
use mathlib.Core.Path.{refl, ap}
use lib.ListN.{length}
use Rattle.y4m.specs.declared.FilmAnswer.TheVariants.{Is}
use Rattle.y4m.proofs.Looks.{other, found, film_21, film_14, film_holds, found_fits, found_some, found_there, found_short, found_room, found_left, read_answered}
use Rattle.bitstream.proofs.Clauses.{two}
use Rattle.y4m.proofs.read.Goals as goal

pub nonzero_div-planes : goal.nonzero_div-planes
nonzero_div-planes c = let f = found c.numbers_in-n.result c.args.stream.now c.look.result c.in-Frames.begin c.in-Frames.size c.in-Frames.count c.look.ensures c.in-Frames.is in found_some c.numbers_in-n.result c.args.stream.now c.in-Frames.begin c.in-Frames.size c.in-Frames.count f

pub returns-then-planes-size : goal.returns-then-planes-size
returns-then-planes-size c = let f = found c.numbers_in-n.result c.args.stream.now c.look.result c.in-Frames.begin c.in-Frames.size c.in-Frames.count c.look.ensures c.in-Frames.is in two (λ a b. record { value = a; planes_after = b }) (read_answered c.args.stream.now c.args.planes.now c.args.planes.now c.numbers_in-n.result _ _ (length c.args.planes.now) c.numbers_in-n.ensures
    (film_14 c.numbers_in-n.result c.args.stream.now (length c.args.planes.now) f.is (found_short c.numbers_in-n.result c.args.stream.now c.in-Frames.begin c.in-Frames.size c.in-Frames.count f (length c.args.planes.now) c.if-planes-size.true)) refl refl)

pub take_frames-requires : goal.take_frames-requires
take_frames-requires c = let f = found c.numbers_in-n.result c.args.stream.now c.look.result c.in-Frames.begin c.in-Frames.size c.in-Frames.count c.look.ensures c.in-Frames.is in (
  found_fits c.numbers_in-n.result c.args.stream.now c.in-Frames.begin c.in-Frames.size c.in-Frames.count f,
  f.sized,
  found_there c.numbers_in-n.result c.args.stream.now c.in-Frames.begin c.in-Frames.size c.in-Frames.count f,
  (found_room c.numbers_in-n.result c.args.stream.now c.in-Frames.begin c.in-Frames.size c.in-Frames.count f (length c.args.planes.now) c.if-planes-size.false).1,
)

pub returns-in-Other : goal.returns-in-Other
returns-in-Other c = two (λ a b. record { value = a; planes_after = b }) (read_answered c.args.stream.now c.args.planes.now c.args.planes.now c.numbers_in-n.result _ _ (length c.args.planes.now) c.numbers_in-n.ensures
    (film_21 c.numbers_in-n.result c.args.stream.now (length c.args.planes.now) (other c.numbers_in-n.result c.args.stream.now c.look.result c.look.ensures c.in-Other.is)) refl refl)

pub returns-else-planes-size : goal.returns-else-planes-size
returns-else-planes-size c = let f = found c.numbers_in-n.result c.args.stream.now c.look.result c.in-Frames.begin c.in-Frames.size c.in-Frames.count c.look.ensures c.in-Frames.is in two (λ a b. record { value = a; planes_after = b }) (read_answered c.args.stream.now c.args.planes.now c.take_frames.new.planes c.numbers_in-n.result _ _ (length c.args.planes.now) c.numbers_in-n.ensures
    (film_holds c.numbers_in-n.result c.args.stream.now (length c.args.planes.now) f.is (found_room c.numbers_in-n.result c.args.stream.now c.in-Frames.begin c.in-Frames.size c.in-Frames.count f (length c.args.planes.now) c.if-planes-size.false).0)
    (ap (λ (k : ℕ). Is (record { numbers = c.numbers_in-n.result; frames = k })) f.counted)
    (found_left c.numbers_in-n.result c.args.stream.now c.in-Frames.begin c.in-Frames.size c.in-Frames.count f c.args.planes.now c.take_frames.new.planes c.take_frames.ensures))
