-- The face for C: what the call returns and leaves. Sessions are lists of numbers, as `session_list` has them.
use Rattle.std.specs.Prelude.{ℕ, List, [], ◌∷◌, eqb, length}
use Rattle.bitstream.specs.Reading.{choose}
use Rattle.output.specs.declared.Written.{Written}
use Rattle.output.specs.declared.Written.TheVariants.{Bytes, Refused}
use Rattle.output.specs.Output.{left_by, as_written}
use Rattle.session_list.specs.List.{Returned, gives, session_of, lists_number, on_list}
use Rattle.rgb.specs.Picture.{picture_for}

-- 0 and the number of bytes; or the number of the refusal, and the list as it was
abbrev pub written_returned : List ℕ → Written → Returned
written_returned old (Bytes n) = gives 0 (n ∷ [])
written_returned old (Refused k e) = gives k old

-- a session's list, a plane buffer, the room for the picture, and the list for the number of bytes
abbrev pub rgb_call : List ℕ → List ℕ → ℕ → List ℕ → Returned
rgb_call session planes room old = on_list 1 session old (λ s. written_returned old (as_written (picture_for s planes room)))

-- what the bytes lent for the picture hold afterwards, where the other list has n numbers
unfoldable pub rgb_left : List ℕ → List ℕ → List ℕ → ℕ → List ℕ
rgb_left session planes out n = choose (eqb (lists_number 1 session n) 0) (left_by (picture_for (session_of session) planes (length out)) out) out
