-- The reading algebra: all that is read from packets is defined with these few combinators.
-- A parser goes from a packet and a bit place to a value and the place behind it, or to the number of a refusal and the place of the field at fault.
use Rattle.std.specs.Prelude.{ℕ, zero, suc, ◌+◌, List, [], ◌∷◌, ◌++◌, Bool, cond, leb, eqb}
use Rattle.bitstream.specs.Bits.{bits, number}
use Rattle.bitstream.specs.Numbers.{packet_ends}

-- what a reading comes to: a value and the place behind it, or the number of a refusal and the place of the field at fault
pub data Outcome (A : Type 0) : Type 0 where
  got : A → ℕ → Outcome A
  refused : ℕ → ℕ → Outcome A

-- a parser: from a packet and a bit place to an outcome
abbrev pub Parse : Type 0 → Type 0
Parse A = List ℕ → ℕ → Outcome A

-- "Within a packet the first fault in reading order": a refusal ends the reading, a value is handed on
abbrev pub after : {A B : Type 0} → Outcome A → (A → ℕ → Outcome B) → Outcome B
after (got a e) f = f a e
after (refused k e) f = refused k e

-- a value, for which nothing is read
abbrev pub pure : {A : Type 0} → A → Parse A
pure a p i = got a i

-- one parser, and then the one that its value asks for
abbrev pub bind : {A B : Type 0} → Parse A → (A → Parse B) → Parse B
bind m f p i = after (m p i) (λ a e. f a p e)

infixl 10 ◌>>=◌
infixl 10 ◌>>◌
-- `bind` as a sign, for `do`
abbrev pub ◌>>=◌ : {A B : Type 0} → Parse A → (A → Parse B) → Parse B
m >>= f = bind m f

abbrev pub ◌>>◌ : {A B : Type 0} → Parse A → Parse B → Parse B
m >> n = bind m (λ _. n)

-- the present place
abbrev pub here : Parse ℕ
here p i = got i i

-- refuses by the number k at the place e
abbrev pub refuse : {A : Type 0} → ℕ → ℕ → Parse A
refuse k e p i = refused k e

-- the one value or the other: the library's `cond`
abbrev pub choose : {X : Type 0} → Bool → X → X → X
choose b x y = cond b x y

-- goes on where the test holds, and else refuses by the number k at the place e
abbrev pub guard : Bool → ℕ → ℕ → Parse (Unit {0})
guard b k e p i = choose b (got tt i) (refused k e)

-- the one parser or the other
abbrev pub pick : {A : Type 0} → Bool → Parse A → Parse A → Parse A
pick b m n = choose b m n

-- n bits as an unsigned number. Number 4, "a read passes the end of the packet", stands at the field's first bit. "A zero-bit read gives 0, even at the very end."
unfoldable pub field : ℕ → Parse ℕ
field n p i = choose (leb (i + n) (bits p)) (got (number p i n) (i + n)) (refused packet_ends i)

-- two fields, one behind the other
abbrev pub two_fields : ℕ → ℕ → Parse (ℕ × ℕ)
two_fields n m = bind (field n) (λ a. bind (field m) (λ b. pure (a, b)))

-- "a failing read is 4 before its value is judged; header fields are judged at once": n bits whose value must pass the test, else number k at the field's first bit
unfoldable pub judged : ℕ → (ℕ → Bool) → ℕ → Parse ℕ
judged n test k = do
  at ← here
  v ← field n
  guard (test v) k at
  pure v

-- whatever m refuses is reported at m's own first bit
unfoldable pub whole : {A : Type 0} → Parse A → Parse A
whole m p i = at_place i (m p i)
  where
    at_place : {A : Type 0} → ℕ → Outcome A → Outcome A
    at_place i (got a e) = got a e
    at_place i (refused k e) = refused k i

-- n values of m, as a list
unfoldable pub many : {A : Type 0} → ℕ → Parse A → Parse (List A)
many zero m = pure []
many (suc n) m = bind m (λ a. bind (many n m) (λ l. pure (a ∷ l)))

-- the values so far, and n more of m: `many` as a loop does it
unfoldable pub times : {A : Type 0} → ℕ → Parse A → List A → Parse (List A)
times zero m done = pure done
times (suc n) m done = bind m (λ a. times n m (done ++ a ∷ []))

-- steps from the state s until the test holds, at most n of them; past that the number k at the place
unfoldable pub until : {S : Type 0} → (S → Bool) → (S → Parse S) → ℕ → ℕ → S → Parse S
until stop step k zero s = pick (stop s) (pure s) (bind here (refuse k))
until stop step k (suc n) s = pick (stop s) (pure s) (bind (step s) (until stop step k n))

-- a number in unary, as 1s and a 0: how many 1s come before a 0, where r of them were read and n more are the most
unfoldable pub unary : ℕ → ℕ → Parse ℕ
unary zero r = pure r
unary (suc n) r = do
  b ← field 1
  pick (eqb b 0) (pure r) (unary n (r + 1))
