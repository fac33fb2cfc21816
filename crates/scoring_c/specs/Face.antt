-- The scoring product's face for C: sessions, settings and answers as lists of numbers, and what each call returns and leaves.
use Rattle.std.specs.Prelude.{ℕ, List, [], ◌∷◌, eqb, length}
use Rattle.bitstream.specs.Reading.{choose}
use Rattle.bitstream.specs.Numbers.{wrong_length}
use Rattle.headers.specs.declared.Session.{Session}
use Rattle.session_list.specs.List.{Returned, gives, session_of, lists_number}
use Rattle.settings_list.specs.List.{settings_of}
use Rattle.output.specs.declared.Written.{Written}
use Rattle.output.specs.declared.Written.TheVariants.{Bytes, Refused}
use Rattle.output.specs.Output.{Output}
use Rattle.y4m.specs.declared.FilmAnswer.{FilmAnswer}
use Rattle.y4m.specs.Stream.{stream_for, header_for, frame_for}
use Rattle.y4m.specs.Film.{Holds, planes_by}
use Rattle.settings.specs.declared.Settings.{Settings}
use Rattle.settings.specs.declared.Loaded.{Loaded}
use Rattle.settings.specs.declared.Verdict.{Verdict}
use Rattle.settings.specs.Settings.{settings_text}

-- a call on a session, behind the test of its lists
unfoldable pub behind : List ℕ → ℕ → (Session → Output) → Output
behind session room call = choose (eqb (lists_number 1 session room) 0) (call (session_of session)) (Output.refused (lists_number 1 session room))

abbrev pub stream_call : List ℕ → List ℕ → ℕ → ℕ → Output
stream_call session frames room list = behind session list (λ s. stream_for s frames room)

abbrev pub header_call : List ℕ → ℕ → ℕ → Output
header_call session room list = behind session list (λ s. header_for s room)

abbrev pub frame_call : List ℕ → List ℕ → ℕ → ℕ → Output
frame_call session planes room list = behind session list (λ s. frame_for s planes room)

-- how many bytes were written, as one number
abbrev pub wrote_returned : List ℕ → Written → Returned
wrote_returned old (Bytes n) = gives 0 (n ∷ [])
wrote_returned old (Refused k e) = gives k old

-- what a stream holds, as eight numbers
abbrev pub film_returned : List ℕ → FilmAnswer → Returned
film_returned old (FilmAnswer.Is f) =
    gives 0 (f.numbers.width ∷ f.numbers.height ∷ f.numbers.frn ∷ f.numbers.frd ∷ f.numbers.parn ∷ f.numbers.pard ∷ f.numbers.pf ∷ f.frames ∷ [])
film_returned old (FilmAnswer.Refused k e) = gives k old

-- another length of the list is 1, before all else
unfoldable pub film_call : List ℕ → FilmAnswer → Returned
film_call old answer = choose (eqb (length old) 8) (film_returned old answer) (gives wrong_length old)

unfoldable pub planes_left : ℕ → Holds → List ℕ → List ℕ
planes_left list film planes = choose (eqb list 8) (planes_by film planes) planes

unfoldable pub text_call : ℕ → List ℕ → ℕ → ℕ → Output
text_call version list room bytes = choose (eqb (length list) 4) (choose (eqb bytes 1) (settings_text version (settings_of list) room) (Output.refused wrong_length)) (Output.refused wrong_length)

-- a refusal leaves the list as it was
abbrev pub told_by : List ℕ → Settings → Verdict → Returned
told_by old s Verdict.Accepted = gives 0 (s.tile ∷ s.shot_first ∷ s.shot_last ∷ s.plane ∷ [])
told_by old s (Verdict.Refused k e) = gives k old

abbrev pub loaded_returned : List ℕ → Loaded → Returned
loaded_returned old answer = told_by old answer.settings answer.verdict

unfoldable pub read_call : List ℕ → Loaded → Returned
read_call old answer = choose (eqb (length old) 4) (loaded_returned old answer) (gives wrong_length old)
