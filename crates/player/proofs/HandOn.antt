-- What is handed on after a frame of each kind. Assumes nothing.
use Rattle.std.proofs.Common.{◌≡◌, ℕ, List}
use Rattle.frame_header.specs.declared.Kind.{Kind}
use Rattle.frame_header.specs.declared.Kind.TheVariants.{Intra, Inter, Repeat}
use Rattle.player.specs.HandOn.{HandsOn}

module _ (golden previous new : List ℕ) (kind : Kind) (p : List ℕ) (b : p ≡ new) where
  pub hands_intra : (g : List ℕ) → g ≡ new → kind ≡ Intra → HandsOn kind golden previous new g p
  hands_intra g a k s t = rw (k, a, b)

  pub hands_inter : kind ≡ Inter → HandsOn kind golden previous new golden p
  hands_inter k s t = rw (k, b)

  pub hands_repeat : kind ≡ Repeat → HandsOn kind golden previous new golden p
  hands_repeat k s t = rw (k, b)
