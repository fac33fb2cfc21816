-- A session that fits stays one. Assumes nothing.
use mathlib.Core.Path.{◌≡◌}
use mathlib.Core.Bool.{true}
use Rattle.headers.specs.declared.Session.{Session}
use Rattle.headers.specs.Fits.{session_fits}
use Rattle.headers.proofs.Fitting.{others_fit, none_fit}
use Rattle.frame_header.specs.declared.Kind.{Kind}
use Rattle.frame_header.specs.declared.Kind.TheVariants.{Intra, Inter, Repeat}
use Rattle.reading.specs.Answer.{stays_counted, session_after}

pub fits_after : (kind : Kind) (s : Session) → session_fits s ≡ true → stays_counted kind s ≡ true → session_fits (session_after kind s) ≡ true
unfolding session_after stays_counted
fits_after Intra s h c = none_fit s h _ _
fits_after Inter s h c = others_fit s h _ _ _ c
fits_after Repeat s h c = others_fit s h _ _ _ c
