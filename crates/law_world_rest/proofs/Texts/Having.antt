-- each text that a role puts has bytes
use Rattle.law_order.proofs.Vocabulary.{◌≡◌, Bool, true, false, if◌then◌else◌, Some, None, Option}
use Rattle.rh_shell.specs.NearEnds.{is_empty}
use Rattle.law_moves.proofs.Vocabulary.{Message, Text, Pdu, Packet}

-- if it is a text, it has
abbrev pub HasText : Message → Type 0
HasText (Text text) = is_empty text ≡ false
HasText (Pdu pdu) = Unit {0}
HasText (Packet named) = Unit {0}

module _ {S : Type 0} where
  abbrev pub HasTexts : Option (S × Message) → Type 0
  HasTexts None = Unit {0}
  HasTexts (Some put) = HasText put.1

  pub has_if : (test : Bool) (role : S) (message : Message) → HasText message
      → HasTexts (if test then Some (role, message) else None)
  has_if true role message has = has
  has_if false role message has = tt
