-- The lists of unfinished blocks: a pass over them is a pass over all. Assumes nothing.
use Prim.Native.Nat.{ℕ, suc, ◌+◌, ◌-◌, ◌≤◌, ◌<◌}
use native.Mathlib.Omega.{arith}
use native.Mathlib.Numerals.{add-one}
use native.Mathlib.Nat.{add-zero}
use mathlib.Core.Path.{◌≡◌, refl, sym, ap, ◌∙◌}
use mathlib.Core.List.{List, [], ◌∷◌, ◌++◌, append-nil, append_assoc}
use mathlib.Core.Bool.{Bool, true, false}
use lib.Dec.{ltb}
use lib.ListN.{length, get_or, set, take, drop, drop_of_length-le}
use lib.Seq.{drop-cons, take-set-le, take-suc-set, drop-set-lt, get_or-drop, drop-drop, drop-append-add, drop_at, take-append-le, take-take, length-take-le, length_front}
use borrow.Rule.Slice.PartMut.{put_mid, post_of, mid_len}
use borrow.Author.Tests.{lt-ltb, le-ltb, ltb-true, ltb-false}
use Rattle.bitstream.specs.Reading.{Outcome, got, refused, after}
use Rattle.huffman.specs.Tree.{Tree}
use Rattle.block_positions.specs.Positions.{unfinished}
use Rattle.block_visits.specs.Visits.{TokenState, visit}
use Rattle.token_visits.specs.Visits.{pass}
use Rattle.table_choices.specs.Choices.{Choices}
use Rattle.tokens.specs.Tokens.{table, at_position}
use Rattle.tokens.specs.Answer.{unfinished_of, KeptOne, KeptActive}
use Rattle.block_positions.proofs.Unfinished.{one_unfinished, one_finished}
use Rattle.block_visits.proofs.Ways.{visit_other}
use Rattle.token_visits.proofs.Goes.{Later, AllBelow, visit_goes, pass_goes}

-- ---- one block
module _ (ps : List ℕ) (b : ℕ) where
  pub kept : (bs : List ℕ) → get_or ps b 0 < 64 → unfinished_of ps (b ∷ bs) ≡ b ∷ unfinished_of ps bs
  unfolding unfinished_of
  kept bs h = rw (lt-ltb _ _ h)

  pub left_out : (bs : List ℕ) → 64 ≤ get_or ps b 0 → unfinished_of ps (b ∷ bs) ≡ unfinished_of ps bs
  unfolding unfinished_of
  left_out bs h = rw (le-ltb _ _ h)

  -- a block is unfinished or not
  pub either : {X : Type 0} → (get_or ps b 0 < 64 → X) → (64 ≤ get_or ps b 0 → X) → X
  either {X} f g = go (ltb (get_or ps b 0) 64) refl
    where
      go : (t : Bool) → ltb (get_or ps b 0) 64 ≡ t → X
      go true t = f (ltb-true _ _ t)
      go false t = g (ltb-false _ _ t)

pub unfinished_nil : (ps : List ℕ) → unfinished_of ps [] ≡ []
unfolding unfinished_of
unfinished_nil ps = refl

pub unfinished_cons : (ps : List ℕ) (b : ℕ) (bs : List ℕ) → unfinished_of ps (b ∷ bs) ≡ unfinished_of ps (b ∷ []) ++ unfinished_of ps bs
unfinished_cons ps b bs =
    either ps b (λ h. kept ps b bs h ∙ sym (ap (λ (l : List ℕ). l ++ unfinished_of ps bs) (kept ps b [] h ∙ ap (λ (l : List ℕ). b ∷ l) (unfinished_nil ps))))
    (λ h. left_out ps b bs h ∙ sym (ap (λ (l : List ℕ). l ++ unfinished_of ps bs) (left_out ps b [] h ∙ unfinished_nil ps)))

-- ---- a step of `keep_unfinished`
module _ (ps bs : List ℕ) (j k : ℕ) (h : j < length bs) (l : k ≤ j) where
  abbrev moved : List ℕ
  moved = set bs k (get_or bs j 0)

  rest : drop (j + 1) moved ≡ drop (j + 1) bs
  rest = drop-set-lt (j + 1) bs k (get_or bs j 0) (omega arith)

  one_left : 64 ≤ get_or ps (get_or bs j 0) 0 → KeptOne ps bs j k moved k
  one_left f = record { most = omega arith; front = rw (left_out ps (get_or bs j 0) [] f, unfinished_nil ps, take-set-le k bs k (get_or bs j 0) (omega arith)) (sym (append-nil _)); rest = rest }

  one_kept : get_or ps (get_or bs j 0) 0 < 64 → KeptOne ps bs j k moved (k + 1)
  one_kept f = record { most = omega arith; front = rw (kept ps (get_or bs j 0) [] f, unfinished_nil ps, add-one) (take-suc-set bs k (get_or bs j 0) (omega arith)); rest = rest }

  pub one_moved : KeptOne ps bs j k moved (k + unfinished (get_or ps (get_or bs j 0) 0 ∷ []))
  one_moved = either ps (get_or bs j 0) (λ f. rw (← one_unfinished _ f) (one_kept f)) (λ f. rw (← one_finished _ f, add-zero) (one_left f))

-- what is kept, and what is left of those that are still to be seen, are all
pub keeps_start : (ps bs : List ℕ) → unfinished_of ps bs ≡ take 0 bs ++ unfinished_of ps (drop 0 bs)
keeps_start ps bs = refl

pub keeps_on : (ps bs bs' all : List ℕ) (j k k' : ℕ) → j < length bs → all ≡ take k bs ++ unfinished_of ps (drop j bs) → KeptOne ps bs j k bs' k'
    → all ≡ take k' bs' ++ unfinished_of ps (drop (j + 1) bs')
keeps_on ps bs bs' all j k k' h i o =
    i ∙ rw (o.front, o.rest, drop-cons bs j 0, unfinished_cons ps (get_or bs j 0), add-one) (sym (append_assoc (take k bs) (unfinished_of ps (get_or bs j 0 ∷ [])) (unfinished_of ps (drop (suc j) bs))))

pub keeps_end : (ps bs all : List ℕ) (j k : ℕ) → length bs ≤ j → all ≡ take k bs ++ unfinished_of ps (drop j bs) → take k bs ≡ all
keeps_end ps bs all j k h i = sym (i ∙ rw (drop_of_length-le bs h, unfinished_nil ps) (append-nil (take k bs)))

-- ---- the unfinished blocks of those that were unfinished before
pub unfinished_twice : (ps qs bs : List ℕ) → Later ps qs → unfinished_of qs (unfinished_of ps bs) ≡ unfinished_of qs bs
unfinished_twice ps qs [] h = ap (unfinished_of qs) (unfinished_nil ps)
unfinished_twice ps qs (b ∷ bs) h =
    either ps b
    (λ f. ap (unfinished_of qs) (kept ps b bs f) ∙ (unfinished_cons qs b (unfinished_of ps bs) ∙ (ap (λ (l : List ℕ). unfinished_of qs (b ∷ []) ++ l) (unfinished_twice ps qs bs h) ∙ sym (unfinished_cons qs b bs))))
    (λ f. ap (unfinished_of qs) (left_out ps b bs f) ∙ (unfinished_twice ps qs bs h ∙ sym (left_out qs b bs (h b f))))

-- at the start all are unfinished
pub unfinished_all : (ps bs : List ℕ) → ((b : ℕ) → get_or ps b 0 < 64) → unfinished_of ps bs ≡ bs
unfinished_all ps [] h = unfinished_nil ps
unfinished_all ps (b ∷ bs) h = kept ps b bs (h b) ∙ ap (λ (l : List ℕ). b ∷ l) (unfinished_all ps bs h)

pub below_unfinished : (n : ℕ) (ps bs : List ℕ) → AllBelow n bs → AllBelow n (unfinished_of ps bs)
below_unfinished n ps [] h = rw (unfinished_nil ps) tt
below_unfinished n ps (b ∷ bs) h = either ps b (λ f. rw (kept ps b bs f) (h.0, below_unfinished n ps bs h.1)) (λ f. rw (left_out ps b bs f) (below_unfinished n ps bs h.1))

-- ---- a finished block's visit does nothing, so a pass over the blocks that were unfinished is the pass over all
module _ (tree : Tree) (k : ℕ) (p : List ℕ) (l : k < 64) where
  same_visit : (b : ℕ) (bs cs : List ℕ) (s : TokenState) (i : ℕ) → b < length s.positions
      → ((s' : TokenState) (e : ℕ) → visit tree k b s p i ≡ got s' e → pass tree k bs s' p e ≡ pass tree k cs s' p e) → pass tree k (b ∷ bs) s p i ≡ pass tree k (b ∷ cs) s p i
  unfolding pass
  same_visit b bs cs s i w h = go (visit tree k b s p i) refl
    where
      go : (o : Outcome TokenState) → visit tree k b s p i ≡ o → after o (λ s' e. pass tree k bs s' p e) ≡ after o (λ s' e. pass tree k cs s' p e)
      go (got s' e) v = h s' e v
      go (refused n e) v = refl

  skip : (b : ℕ) (bs : List ℕ) (s : TokenState) (i : ℕ) → 64 ≤ get_or s.positions b 0 → pass tree k (b ∷ bs) s p i ≡ pass tree k bs s p i
  unfolding pass
  skip b bs s i h = rw (visit_other tree k b s p i (λ e. absurd (omega (arith, e))))

  pub pass_unfinished : (ps bs : List ℕ) (s : TokenState) (i : ℕ) → AllBelow (length s.positions) bs → Later ps s.positions → pass tree k (unfinished_of ps bs) s p i ≡ pass tree k bs s p i
  pass_unfinished ps [] s i w h = ap (λ (x : List ℕ). pass tree k x s p i) (unfinished_nil ps)
  pass_unfinished ps (b ∷ bs) s i w h =
      either ps b
      (λ f. ap (λ (x : List ℕ). pass tree k x s p i) (kept ps b bs f)
      ∙ same_visit b (unfinished_of ps bs) bs s i w.0
      (λ s' e v. let g = visit_goes tree k b s p i l w.0 v in pass_unfinished ps bs s' e (rw g.blocks w.1) (λ c x. g.later c (h c x))))
      (λ f. ap (λ (x : List ℕ). pass tree k x s p i) (left_out ps b bs f) ∙ (pass_unfinished ps bs s i w.1 h ∙ sym (skip b bs s i (h b f))))

pub position_unfinished : (trees : List Tree) (lumas chromas : List ℕ) (k : ℕ) (ch : Choices) (s : TokenState) (p : List ℕ) (i : ℕ) → k < 64 → AllBelow (length s.positions) lumas
    → AllBelow (length s.positions) chromas
    → at_position trees (unfinished_of s.positions lumas) (unfinished_of s.positions chromas) k ch s p i ≡ at_position trees lumas chromas k ch s p i
unfolding at_position
position_unfinished trees lumas chromas k ch s p i l v w = rw (pass_unfinished (table trees k ch.luma) k p l s.positions lumas s i v (λ b h. h)) (go (pass (table trees k ch.luma) k lumas s p i) refl)
  where
    go : (o : Outcome TokenState) → pass (table trees k ch.luma) k lumas s p i ≡ o
        → after o (λ s₁ e. pass (table trees k ch.chroma) k (unfinished_of s.positions chromas) s₁ p e) ≡ after o (λ s₁ e. pass (table trees k ch.chroma) k chromas s₁ p e)
    go (got s₁ e) h =
        let g = pass_goes (table trees k ch.luma) k p l lumas s i v h in
        pass_unfinished (table trees k ch.chroma) k p l s.positions chromas s₁ e (rw g.blocks w) g.later
    go (refused n e) h = refl

-- ---- two lists that agree from the index j on
module _ (j : ℕ) (xs ys : List ℕ) (h : drop j xs ≡ drop j ys) where
  pub same_head : get_or xs j 0 ≡ get_or ys j 0
  same_head =
      ap (λ (n : ℕ). get_or xs n 0) (sym (add-zero j)) ∙ (sym (get_or-drop j xs 0 0) ∙ (ap (λ (l : List ℕ). get_or l 0 0) h ∙ (get_or-drop j ys 0 0 ∙ ap (λ (n : ℕ). get_or ys n 0) (add-zero j))))

  pub same_rest : drop (j + 1) xs ≡ drop (j + 1) ys
  same_rest = sym (drop-drop 1 j xs) ∙ (ap (drop 1) h ∙ drop-drop 1 j ys)

-- ---- the two lists in one slice: luma's front came back as ks₁, chroma's part as ks₂
module _ (ps bs ks₁ : List ℕ) (luma lumas end : ℕ) (n₁ : length ks₁ ≡ length (take lumas bs)) (x : lumas ≤ luma) (y : luma ≤ end) (z : end ≤ length bs) where
  front : length ks₁ ≡ lumas
  front = n₁ ∙ length-take-le lumas bs (omega arith)

  pub behind_front : drop luma (ks₁ ++ drop lumas bs) ≡ drop luma bs
  behind_front =
      let e : luma ≡ length ks₁ + (luma - lumas) = omega (arith, front) in
      let f : lumas + (luma - lumas) ≡ luma = omega arith in
      ap (λ (n : ℕ). drop n (ks₁ ++ drop lumas bs)) e ∙ (drop-append-add ks₁ (drop lumas bs) (luma - lumas) ∙ (drop-drop (luma - lumas) lumas bs ∙ ap (λ (n : ℕ). drop n bs) f))

  long : length (ks₁ ++ drop lumas bs) ≡ length bs
  long = length_front bs ks₁ lumas n₁

  pub both_kept : (ks₂ : List ℕ) (r₁ r₂ : ℕ) → length ks₂ ≡ length (take (end - luma) (drop luma (ks₁ ++ drop lumas bs))) → r₁ ≤ length (take lumas bs)
      → r₂ ≤ length (take (end - luma) (drop luma (ks₁ ++ drop lumas bs))) → take r₁ ks₁ ≡ unfinished_of ps (take lumas bs)
      → take r₂ ks₂ ≡ unfinished_of ps (take (end - luma) (drop luma (ks₁ ++ drop lumas bs)))
      → KeptActive ps bs luma lumas end (put_mid luma (end - luma) (ks₁ ++ drop lumas bs) ks₂) r₁ (luma + r₂)
  both_kept ks₂ r₁ r₂ n₂ l₁ l₂ f g =
      let w : length (take luma (ks₁ ++ drop lumas bs)) ≡ luma = length-take-le luma (ks₁ ++ drop lumas bs) (omega (arith, long)) in
      let m : length (take (end - luma) (drop luma (ks₁ ++ drop lumas bs))) ≡ end - luma = mid_len luma end (ks₁ ++ drop lumas bs) (omega (arith, long)) in
      let q : r₁ ≤ lumas = omega (arith, l₁, n₁, front) in
      let d : luma + r₂ - luma ≡ r₂ = omega arith in
      let post = post_of luma (end - luma) (ks₁ ++ drop lumas bs) in
      record {
        fewer = q;
        from = omega arith;
        to = omega (arith, l₂, m);
        luma_blocks =
            take-append-le r₁ (take luma (ks₁ ++ drop lumas bs)) (ks₂ ++ post) (omega (arith, w))
            ∙ (take-take r₁ luma (ks₁ ++ drop lumas bs) (omega arith) ∙ (take-append-le r₁ ks₁ (drop lumas bs) (omega (arith, front)) ∙ f));
        chroma_blocks =
            ap (λ (n : ℕ). take n (drop luma (put_mid luma (end - luma) (ks₁ ++ drop lumas bs) ks₂))) d
            ∙ (ap (take r₂) (drop_at (take luma (ks₁ ++ drop lumas bs)) (ks₂ ++ post) luma w)
            ∙ (take-append-le r₂ ks₂ post (omega (arith, n₂, l₂)) ∙ (g ∙ ap (λ (l : List ℕ). unfinished_of ps (take (end - luma) l)) behind_front)));
      }
