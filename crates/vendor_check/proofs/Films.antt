-- The frames of a shot, as they are compared one after the other. Assumes nothing.
use Prim.Native.Nat.{ℕ, suc, ◌+◌}
use native.Mathlib.Omega.{arith}
use mathlib.Core.Path.{◌≡◌, refl, sym, ap, ◌∙◌, subst}
use mathlib.Core.Bool.{true, false}
use mathlib.Core.List.{List, [], ◌∷◌, ◌++◌, map}
use lib.ListN.{length, get_or}
use Rattle.geometry.specs.Order.{in_turn}
use Rattle.geometry.proofs.Lists.{turn_same, turn_add}
use Rattle.headers.specs.declared.Session.{Session}
use Rattle.ways.specs.Ways.{first_way}
use Rattle.reading.specs.declared.Verdict.{Verdict}
use Rattle.reading.specs.declared.Verdict.TheVariants as verdict
use Rattle.asked_frame.specs.Answer.{State, Done}
use Rattle.calls.specs.Call.{Call, by_rules}
use Rattle.calls.specs.Demand.{Turn, turns}
use Rattle.buffer_names.specs.Names.{Sound}
use Rattle.stream_numbers.specs.declared.Numbers.{Numbers}
use Rattle.stream_numbers.specs.Numbers.{numbers_of}
use Rattle.y4m.specs.Stream.{frame_bytes, frame_of, frame_text, frames_text, header_text, stream_text}
use Rattle.y4m.proofs.Streams.{session_bytes}
use Rattle.shot_packets.specs.Play.{Shot, state_of, call_of, after, one_more}
use Rattle.shot_packets.proofs.Rules.{state_handed, three_after, sound_after}
use Rattle.shot_claims.specs.Claims.{calls_of, answer_of}
use Rattle.film.specs.Film.{with_frame, frames_of, joined, film_of}
use Rattle.film.proofs.Frames.{AllLong, joined_at, all_long}
use Rattle.stream_check.specs.declared.Compared.{Compared}
use Rattle.stream_check.specs.Compared.{onward, beginning}
use Rattle.stream_check.proofs.Onward.{onward_none, onward_parts}
use Rattle.watching.specs.declared.Watched.{Watched}
use Rattle.watching.specs.Watch.{by_verdict, watched}
use Rattle.watching.proofs.Steps.{watched_stays}
use Rattle.checked_packets.specs.Watch.{watched_all}
use Rattle.check_answer.specs.declared.CheckAnswer.TheVariants.{Refused}
use Rattle.vendor_check.specs.Check.{compared, refused_or, first_refused, begun_by}
use Rattle.check_answer.specs.Said.{compared_all, said_by}
use Rattle.vendor_check.proofs.Compare.{compared_whole}

-- ---- the texts of some frames
unfoldable texts_of : Numbers → List (List ℕ) → List ℕ
texts_of n [] = []
texts_of n (f ∷ fs) = frame_text n f ++ texts_of n fs

module _ (n : Numbers) where
  in_turn_law : (fs : List (List ℕ)) → in_turn (λ k. frame_text n (get_or fs k [])) (length fs) ≡ texts_of n fs
  unfolding texts_of in_turn
  in_turn_law [] = refl
  in_turn_law (f ∷ fs) =
      let g : ℕ → List ℕ = λ k. frame_text n (get_or (f ∷ fs) k []) in
      let e : suc (length fs) ≡ 1 + length fs = omega arith in
      ap (in_turn g) e ∙ turn_add g 1 (length fs)
      ∙ ap (λ (l : List ℕ). frame_text n f ++ l) (turn_same (λ j. g (1 + j)) (λ j. frame_text n (get_or fs j [])) (length fs) (λ k l. let z : 1 + k ≡ suc k = omega arith in ap g z) ∙ in_turn_law fs)

  film_texts : (fs : List (List ℕ)) → AllLong (frame_bytes n) fs → stream_text n (joined fs) (length fs) ≡ header_text n ++ texts_of n fs
  unfolding stream_text frames_text
  film_texts fs long =
      ap (λ (l : List ℕ). header_text n ++ l)
      (turn_same (λ k. frame_text n (frame_of n (joined fs) k)) (λ k. frame_text n (get_or fs k [])) (length fs) (λ k l. ap (frame_text n) (joined_at (frame_bytes n) fs long k l)) ∙ in_turn_law fs)

-- ---- what is said after the last packet
module _ (n : Numbers) (file table : List ℕ) where
  abbrev D : State → Call → Done
  D = by_rules first_way

  abbrev All : Watched → Shot → List (List ℕ) → Watched
  All = watched_all D n file table

  abbrev turns_from : Shot → List (List ℕ) → List Turn
  turns_from h ps = turns D (state_of h) (calls_of D table h ps)

  -- nothing is refused yet
  abbrev unrefused : Compared → Watched
  unrefused c = record { compared = c; refused = false; number = 0; bit = 0 }

  -- a refusal stays
  stays : (w : Watched) → w.refused ≡ true → (h : Shot) (ps : List (List ℕ)) → All w h ps ≡ w
  unfolding watched_all
  stays w r h [] = refl
  stays w r h (p ∷ ps) =
      let d = D (state_of h) (call_of table h p) in
      ap (λ (x : Watched). All x (after h d) ps) (sym (watched_stays n file w d.answer.verdict d.new r)) ∙ stays w r (after h d) ps

  said_refused : (c : Compared) (k e : ℕ) (h : Shot) (ps : List (List ℕ)) → said_by (All (record { compared = c; refused = true; number = k; bit = e }) h ps) file ≡ Refused k e
  unfolding said_by
  said_refused c k e h ps = ap (λ (w : Watched). said_by w file) (stays (record { compared = c; refused = true; number = k; bit = e }) refl h ps)

  -- one packet more, whatever its verdict
  said_more : (c : Compared) (new : List ℕ) (h : Shot) (ps : List (List ℕ)) (ts : List Turn)
      → ((c : Compared) → said_by (All (unrefused c) h ps) file ≡ first_refused (map answer_of ts) (compared_all (onward c (texts_of n (frames_of ts)) file) file))
      → (v : Verdict) → said_by (All (by_verdict n file (unrefused c) v new) h ps) file ≡ refused_or v (first_refused (map answer_of ts) (compared_all (onward c (texts_of n (with_frame v new (frames_of ts))) file) file))
  unfolding texts_of
  said_more c new h ps ts rest (verdict.Refused k e) = said_refused c k e h ps
  said_more c new h ps ts rest (verdict.Accepted t) =
      rest (onward c (frame_text n new) file) ∙ ap (λ (x : Compared). first_refused (map answer_of ts) (compared_all x file)) (onward_parts c (frame_text n new) (texts_of n (frames_of ts)) file)

  said : (c : Compared) (h : Shot) → length h.planes ≡ 3 → Sound h.session h.names → (ps : List (List ℕ))
      → let ts = turns_from h ps in said_by (All (unrefused c) h ps) file ≡ first_refused (map answer_of ts) (compared_all (onward c (texts_of n (frames_of ts)) file) file)
  unfolding watched_all watched turns calls_of one_more frames_of first_refused texts_of said_by
  said c h three sound [] = ap (λ (x : Compared). compared_all x file) (onward_none c file)
  said c h three sound (p ∷ ps) =
      let call = call_of table h p in
      let d = D (state_of h) call in
      let g = after h d in
      said_more c d.new g ps (turns_from g ps) (λ c. said c g (three_after h three sound d) (sound_after h three sound first_way call) ps) d.answer.verdict
      ∙ ap (λ (st : State). let ts = turns D st (calls_of D table g ps) in
      refused_or d.answer.verdict (first_refused (map answer_of ts) (compared_all (onward c (texts_of n (with_frame d.answer.verdict d.new (frames_of ts))) file) file))) (state_handed h three sound d)

-- ---- from the header on
module _ (file table : List ℕ) (h : Shot) (three : length h.planes ≡ 3) (sound : Sound h.session h.names) (ps : List (List ℕ)) where
  abbrev s : Session
  s = h.session

  abbrev ts : List Turn
  ts = turns (by_rules first_way) (state_of h) (calls_of (by_rules first_way) table h ps)

  long : AllLong (frame_bytes (numbers_of s)) (frames_of ts)
  long = subst (λ (k : ℕ). AllLong k (frames_of ts)) (sym (session_bytes s)) (all_long (state_of h) (calls_of (by_rules first_way) table h ps))

  pub film_said : said_by (watched_all (by_rules first_way) (numbers_of s) file table (begun_by s file) h ps) file ≡ first_refused (map answer_of ts) (compared (film_of s ts) file)
  unfolding film_of
  film_said =
      let n = numbers_of s in
      said n file table (onward beginning (header_text n) file) h three sound ps
      ∙ ap (first_refused (map answer_of ts))
      (ap (λ (c : Compared). compared_all c file) (onward_parts beginning (header_text n) (texts_of n (frames_of ts)) file)
      ∙ ap (λ (t : List ℕ). compared_all (onward beginning t file) file) (sym (film_texts n (frames_of ts) long))
      ∙ compared_whole (stream_text n (joined (frames_of ts)) (length (frames_of ts))) file)
