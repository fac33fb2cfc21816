-- One line of the inverse transform: eight numbers in, eight out.
use Rattle.std.specs.Prelude.{ℕ, ℤ, pos, ◌+ℤ◌, ◌-ℤ◌, ◌*ℤ◌}
use Rattle.numeric.specs.Cut.{cut}
use Rattle.numeric.specs.Divide.{floor_shift}
use Rattle.lines.specs.declared.Line.{Line}
use Rattle.lines.specs.declared.Terms.{Terms}

-- "C1..C7 = 64277, 60547, 54491, 46341, 36410, 25080, 12785"
abbrev pub C1 : ℕ
C1 = 64277

abbrev pub C2 : ℕ
C2 = 60547

abbrev pub C3 : ℕ
C3 = 54491

abbrev pub C4 : ℕ
C4 = 46341

abbrev pub C5 : ℕ
C5 = 36410

abbrev pub C6 : ℕ
C6 = 25080

abbrev pub C7 : ℕ
C7 = 12785

-- "each product >>16"
unfoldable pub upper_product : ℕ → ℤ → ℤ
upper_product c x = floor_shift (x *ℤ pos c) 16

-- "cut before each C4 product"
unfoldable pub times_c4 : ℤ → ℤ
times_c4 x = upper_product C4 (cut x)

-- "a=C4(x0+x4), b=C4(x0−x4), c=C6x2−C2x6, d=C2x2+C6x6, e=C7x1−C1x7, k=C3x5−C5x3, g=C5x5+C3x3, h=C1x1+C7x7; then E=e+k, K=C4(e−k), H=h+g, G=C4(h−g)"
module _ (l : Line) where
  unfoldable pub a : ℤ
  a = times_c4 (l.x0 +ℤ l.x4)

  unfoldable pub b : ℤ
  b = times_c4 (l.x0 -ℤ l.x4)

  unfoldable pub c : ℤ
  c = upper_product C6 l.x2 -ℤ upper_product C2 l.x6

  unfoldable pub d : ℤ
  d = upper_product C2 l.x2 +ℤ upper_product C6 l.x6

  unfoldable pub e : ℤ
  e = upper_product C7 l.x1 -ℤ upper_product C1 l.x7

  unfoldable pub k : ℤ
  k = upper_product C3 l.x5 -ℤ upper_product C5 l.x3

  unfoldable pub g : ℤ
  g = upper_product C5 l.x5 +ℤ upper_product C3 l.x3

  unfoldable pub h : ℤ
  h = upper_product C1 l.x1 +ℤ upper_product C7 l.x7

  abbrev pub E : ℤ
  E = e +ℤ k

  unfoldable pub K : ℤ
  K = times_c4 (e -ℤ k)

  abbrev pub H : ℤ
  H = h +ℤ g

  unfoldable pub G : ℤ
  G = times_c4 (h -ℤ g)

  -- "(a+d)+H, (b+c)+(G+K), (b−c)+(G−K), (a−d)+E": the first terms, and the last
  unfoldable pub first_terms : Terms
  first_terms = record { t0 = a +ℤ d; t1 = b +ℤ c; t2 = b -ℤ c; t3 = a -ℤ d }

  unfoldable pub last_terms : Terms
  last_terms = record { t0 = H; t1 = G +ℤ K; t2 = G -ℤ K; t3 = E }

-- "cut .. on each output", "Outputs 0 to 3: ..; 7 to 4: the same, last term subtracted"
abbrev pub outputs : Terms → Terms → Line
outputs f g = record {
  x0 = cut (f.t0 +ℤ g.t0);
  x1 = cut (f.t1 +ℤ g.t1);
  x2 = cut (f.t2 +ℤ g.t2);
  x3 = cut (f.t3 +ℤ g.t3);
  x4 = cut (f.t3 -ℤ g.t3);
  x5 = cut (f.t2 -ℤ g.t2);
  x6 = cut (f.t1 -ℤ g.t1);
  x7 = cut (f.t0 -ℤ g.t0);
}

unfoldable pub transformed_line : Line → Line
transformed_line l = outputs (first_terms l) (last_terms l)
