-- The call, by its tests in turn: what `pictureFor` is, and what the call then answers and leaves. Assumes nothing.
use Prim.Native.Nat.{ℕ, ◌*◌, ◌≤◌, ◌<◌}
use native.Mathlib.Omega.{arith}
use mathlib.Core.Path.{◌≡◌, sym, ap, ◌∙◌, subst}
use mathlib.Core.Bool.{true, false}
use mathlib.Core.List.{List}
use lib.Dec.{eqb}
use lib.ListN.{length}
use borrow.Author.Tests.{eq-eqb, ne_eqb}
use Rattle.geometry.specs.declared.PixelFormat.{PixelFormat}
use Rattle.geometry.specs.declared.FrameSizes.{FrameSizes}
use Rattle.geometry.specs.Sizes.{blocks_of, sizes_of}
use Rattle.geometry.proofs.SizeLaws.{sizes_small}
use Rattle.headers.specs.declared.Session.{Session}
use Rattle.headers.specs.Fits.{session_fits}
use Rattle.headers.specs.Sizes.{format_of, format}
use Rattle.headers.proofs.Fitting.{fits_macro_blocks}
use Rattle.output.specs.declared.Written.{Written}
use Rattle.output.specs.Output.{Output, gives, refused, left_by, within, as_written, spliced}
use Rattle.output.proofs.Splices.{spliced_first, within_fits, within_short}
use Rattle.rgb.specs.Picture.{known, picture, picture_for}
use Rattle.rgb.proofs.Rows.{picture_length}

-- what the call answers and leaves, once it is known what it gives
abbrev Kept : Session → List ℕ → List ℕ → Written → List ℕ → Type 0
Kept s planes out r left = (r ≡ as_written (picture_for s planes (length out))) × (left ≡ left_by (picture_for s planes (length out)) out)

module _ (s : Session) (planes out : List ℕ) where
  kept : (o : Output) → picture_for s planes (length out) ≡ o → Kept s planes out (as_written o) (left_by o out)
  kept o e = (sym (ap as_written e), sym (ap (λ (v : Output). left_by v out) e))

  gives_8 : session_fits s ≡ false → picture_for s planes (length out) ≡ refused 8
  unfolding picture_for
  gives_8 u = rw u

  pub call_8 : session_fits s ≡ false → Kept s planes out (as_written (refused 8)) out
  call_8 u = kept (refused 8) (gives_8 u)

  -- the session fits, and its sizes are n
  module _ (fit : session_fits s ≡ true) (f : PixelFormat) (ef : f ≡ format_of s.fields.pf) (n : FrameSizes) (en : n ≡ sizes_of f s.fields.fmbw s.fields.fmbh) where
    buffer_is : n.buffer ≡ 64 * blocks_of (format s) s.fields.fmbw s.fields.fmbh
    buffer_is = ap (λ (v : FrameSizes). v.buffer) en ∙ ap (λ (g : PixelFormat). 64 * blocks_of g s.fields.fmbw s.fields.fmbh) ef

    gives_1 : eqb (length planes) (64 * blocks_of (format s) s.fields.fmbw s.fields.fmbh) ≡ false → picture_for s planes (length out) ≡ refused 1
    unfolding picture_for
    gives_1 u = rw (fit, u)

    pub call_1 : (length planes ≡ n.buffer → ⊥) → Kept s planes out (as_written (refused 1)) out
    call_1 u = kept (refused 1) (gives_1 (ne_eqb _ _ (λ e. u (e ∙ sym buffer_is))))

    module _ (long : length planes ≡ n.buffer) where
      pub whole : length planes ≡ 64 * blocks_of f s.fields.fmbw s.fields.fmbh
      whole = long ∙ ap (λ (v : FrameSizes). v.buffer) en

      long_is : eqb (length planes) (64 * blocks_of (format s) s.fields.fmbw s.fields.fmbh) ≡ true
      long_is = eq-eqb _ _ (long ∙ buffer_is)

      gives_18 : known s.fields.cs ≡ false → picture_for s planes (length out) ≡ refused 18
      unfolding picture_for
      gives_18 u = rw (fit, long_is, u)

      pub call_18 : known s.fields.cs ≡ false → Kept s planes out (as_written (refused 18)) out
      call_18 u = kept (refused 18) (gives_18 u)

      module _ (space : known s.fields.cs ≡ true) where
        made : picture_for s planes (length out) ≡ within (length out) (picture f s.fields.fmbw s.fields.fmbh planes)
        unfolding picture_for
        made = rw (fit, long_is, space) (ap (λ (g : PixelFormat). within (length out) (picture g s.fields.fmbw s.fields.fmbh planes)) (sym ef))

        size_is : length (picture f s.fields.fmbw s.fields.fmbh planes) ≡ 768 * n.macro_blocks
        size_is = picture_length f s.fields.fmbw s.fields.fmbh planes ∙ ap (λ (v : FrameSizes). 768 * v.macro_blocks) (sym en)

        pub call_14 : length out < 768 * n.macro_blocks → Kept s planes out (as_written (refused 14)) out
        call_14 u = kept (refused 14) (made ∙ within_short (length out) (picture f s.fields.fmbw s.fields.fmbh planes) (omega (arith, u, size_is)))

        pub call_done : 768 * n.macro_blocks ≤ length out → (left : List ℕ) → left ≡ spliced 0 (picture f s.fields.fmbw s.fields.fmbh planes) out
            → Kept s planes out (Written.Bytes (768 * n.macro_blocks)) left
        call_done u left e =
            let t = picture f s.fields.fmbw s.fields.fmbh planes in
            let k = kept (gives t) (made ∙ within_fits (length out) t (omega (arith, u, size_is))) in
            (ap Written.Bytes (sym size_is) ∙ k.0, e ∙ spliced_first t out ∙ k.1)

    pub bytes_small : 768 * n.macro_blocks ≤ 3298434220800
    bytes_small =
        let m = fits_macro_blocks s fit in
        subst (λ (v : FrameSizes). 768 * v.macro_blocks ≤ 3298434220800) (sym en) (omega (arith, (sizes_small f s.fields.fmbw s.fields.fmbh m.1 m.3).macro_blocks))

    pub room_for : (k : ℕ) → 768 * n.macro_blocks ≤ k → 768 * (s.fields.fmbh * s.fields.fmbw) ≤ k
    room_for k h = subst (λ (v : FrameSizes). 768 * v.macro_blocks ≤ k) en h
