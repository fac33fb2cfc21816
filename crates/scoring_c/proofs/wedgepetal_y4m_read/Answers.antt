-- `scoring_c::wedgepetal_y4m_read` meets its contract. Assumes nothing.
use lib.ListN.{length}
use Rattle.y4m.specs.Film.{film_in}
use Rattle.scoring_c.proofs.Calls.{film_1, film_pass}
use Rattle.bitstream.proofs.Clauses.{two}
use Rattle.scoring_c.proofs.wedgepetal_y4m_read.Goals as goal

pub returns-then-film-ne8 : goal.returns-then-film-ne8
returns-then-film-ne8 c = two (λ a b. record { film_after = a; planes_after = b }) (film_1 c.args.film.now c.args.planes.now (film_in c.args.stream.now (length c.args.planes.now)) c.if-film-ne8.true)

pub returns : goal.returns
returns c = two (λ a b. record { film_after = a; planes_after = b }) (film_pass c.args.film.now c.args.planes.now (film_in c.args.stream.now (length c.args.planes.now)) c.if-film-ne8.false c.read.result c.read.new.planes _ c.tell_film.ensures c.read.ensures.value c.read.ensures.planes_after)
