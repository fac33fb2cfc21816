-- What is said of a file after the last packet.
use Rattle.std.specs.Prelude.{ℕ, List, ltb, length}
use Rattle.bitstream.specs.Reading.{choose}
use Rattle.watching.specs.declared.Watched.{Watched}
use Rattle.check_answer.specs.declared.CheckAnswer.{CheckAnswer}
use Rattle.stream_check.specs.declared.Compared.{Compared}
use Rattle.check_answer.specs.declared.CheckAnswer.TheVariants.{Passes, Differs, Refused}

-- all is compared: "too long differs at the shorter length"
abbrev pub compared_all : Compared → (file : List ℕ) → CheckAnswer
compared_all c file = choose c.differs (Differs c.place) (choose (ltb c.place (length file)) (Differs c.place) Passes)

unfoldable pub said_by : Watched → (file : List ℕ) → CheckAnswer
said_by w file = choose w.refused (Refused w.number w.bit) (compared_all w.compared file)
