-- The ways of a step. Assumes nothing.
use Prim.Native.Nat.{ℕ}
use mathlib.Core.Path.{◌≡◌, sym, ap, ◌∙◌}
use mathlib.Core.Bool.{Bool, true, false}
use mathlib.Core.List.{List}
use Rattle.bitstream.specs.Reading.{choose}
use Rattle.reading.specs.declared.Verdict.{Verdict}
use Rattle.reading.specs.declared.Verdict.TheVariants.{Accepted, Refused}
use Rattle.stream_numbers.specs.declared.Numbers.{Numbers}
use Rattle.y4m.specs.Stream.{frame_text}
use Rattle.stream_check.specs.declared.Compared.{Compared}
use Rattle.stream_check.specs.Compared.{onward}
use Rattle.watching.specs.declared.Watched.{Watched}
use Rattle.watching.specs.Watch.{by_verdict, watched}

module _ (n : Numbers) (file : List ℕ) (w : Watched) where
  pub watched_stays : (v : Verdict) (frame : List ℕ) → w.refused ≡ true → w ≡ watched n file w v frame
  unfolding watched
  watched_stays v frame h = sym (ap (λ (b : Bool). choose b w (by_verdict n file w v frame)) h)

  pub watched_on : (v : Verdict) (frame : List ℕ) → w.refused ≡ false → by_verdict n file w v frame ≡ watched n file w v frame
  unfolding watched
  watched_on v frame h = sym (ap (λ (b : Bool). choose b w (by_verdict n file w v frame)) h)

  pub watched_refused : {v : Verdict} {k e : ℕ} (frame : List ℕ) → w.refused ≡ false → v ≡ Refused k e
      → ◌≡◌ {A = Watched} (record { compared = w.compared; refused = true; number = k; bit = e }) (watched n file w v frame)
  watched_refused {v} {k} {e} frame h ev = ap (λ (v : Verdict). by_verdict n file w v frame) (sym ev) ∙ watched_on v frame h

  pub watched_accepted : {v : Verdict} {t : ℕ} (frame : List ℕ) (c : Compared) → w.refused ≡ false → v ≡ Accepted t → c ≡ onward w.compared (frame_text n frame) file
      → ◌≡◌ {A = Watched} (record { compared = c; refused = false; number = 0; bit = 0 }) (watched n file w v frame)
  watched_accepted {v} {t} frame c h ev ec =
      ap (λ (c : Compared). record { compared = c; refused = false; number = 0; bit = 0 }) ec ∙ ap (λ (v : Verdict). by_verdict n file w v frame) (sym ev) ∙ watched_on v frame h
