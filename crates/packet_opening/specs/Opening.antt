-- How a frame packet opens.
use Rattle.std.specs.Prelude.{ℕ, zero, suc, Bool, true, false}
use Rattle.packet_opening.specs.declared.Opening.{Opening}
use Rattle.packet_opening.specs.declared.Opening.TheVariants.{Header, Repeat, NoReferences}

-- "Empty: repeat previous"; 9, "an inter or empty packet and no references", comes at once if empty
unfoldable pub opening_of : (length : ℕ) → (references : Bool) → Opening
opening_of zero true = Repeat
opening_of zero false = NoReferences
opening_of (suc n) references = Header
