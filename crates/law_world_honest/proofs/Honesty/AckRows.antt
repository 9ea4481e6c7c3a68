-- rows that refuse a value out of range in an acknowledgement alone, and those of them that find no
-- leg full
use Rattle.law_order.proofs.Vocabulary.{◌≡◌, ℕ, Bool, true, false, if◌then◌else◌, refl, Ok, Err, nat_lt, Result}
use Rattle.rh_shell.specs.declared.answers.Refused.TheVariants as refused
use Rattle.law_moves.proofs.Vocabulary.{BadAck, FLOW_CONTROL_ACK, GREATEST_WINDOW, Sender, ack_verdict, bad_ack, Row}
use Rattle.law_world_honest.specs.Honesty.Rows.{IsOfAck}

-- what a row answers
pub record RowFits {S : Type 0} (done : S × Row) : Type 0 where
  pub is : IsOfAck done.1

-- and one that finds no leg full either
abbrev pub IsPlain : Row → Type 0
IsPlain (Err (refused.Full full)) = ⊥
IsPlain (Err (refused.OutOfRange command value)) = command ≡ FLOW_CONTROL_ACK
IsPlain row = Unit {0}

pub record PlainRow {S : Type 0} (done : S × Row) : Type 0 where
  pub is : IsPlain done.1

pub either : {S : Type 0} (b : Bool) (x y : S × Row) → RowFits x → RowFits y
    → RowFits (if b then x else y)
either true x y a b = a
either false x y a b = b

pub plain : {S : Type 0} (b : Bool) (x y : S × Row) → PlainRow x → PlainRow y
    → PlainRow (if b then x else y)
plain true x y a b = a
plain false x y a b = b

of_plain : (row : Row) → IsPlain row → IsOfAck row
of_plain (Err (refused.Full full)) h = tt
of_plain (Err (refused.OutOfRange command value)) h = h
of_plain row h = tt

pub fits : {S : Type 0} (x : S × Row) → PlainRow x → RowFits x
fits x h = record { is = of_plain x.1 h.is }

-- ---- acknowledgements

abbrev pub IsBadAck : Result (Unit {0}) BadAck → Type 0
IsBadAck (Ok acked) = Unit {0}
IsBadAck (Err bad) = bad.command ≡ FLOW_CONTROL_ACK

pub verdict_is : (s : Sender) (received available : ℕ) → IsBadAck (ack_verdict s received available)
verdict_is s received available = by (nat_lt s.sent received)
  where
    window : (t : Bool) → IsBadAck (if t then Err (bad_ack available) else Ok tt)
    window true = refl
    window false = tt

    by : (t : Bool) → IsBadAck (if t then Err (bad_ack received)
        else (if nat_lt GREATEST_WINDOW available then Err (bad_ack available) else Ok tt))
    by true = refl
    by false = window (nat_lt GREATEST_WINDOW available)
