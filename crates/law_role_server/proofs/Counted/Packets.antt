-- packets of the replacement of OUT channels, and others
use Rattle.law_order.proofs.Vocabulary.{◌≡◌, Bool, true, refl, false≢true}
use Rattle.rh_sig.specs.declared.named.Named.TheVariants as named
use Rattle.rh_server.specs.declared.out_line.Kind.TheVariants as kind
use Rattle.law_moves.proofs.Vocabulary.{Named}
use Rattle.law_role_server.proofs.Vocabulary.{is_ack, is_kind, is_conn_c1, is_in_r1_a3, is_in_r2_a3, is_out_r1_a1, is_out_r1_a5, is_out_r1_a9}
use Rattle.law_role_server.proofs.Counted.Dues.{Apart, IsOfKind}

-- ---- packets

pub a1_kind : IsOfKind kind.OutR1 is_out_r1_a1
a1_kind = record { kinds = kinds; acks = acks }
  where
    kinds : (p : Named) → is_out_r1_a1 p ≡ true → is_kind kind.OutR1 p ≡ true
    kinds (named.OutR1A1 a) e = refl
    kinds p e = absurd (false≢true e)

    acks : Apart is_ack is_out_r1_a1
    acks (named.AckTo a b c d) e = refl
    acks p e = absurd (false≢true e)

pub a5_kind : IsOfKind kind.OutR1 is_out_r1_a5
a5_kind = record { kinds = kinds; acks = acks }
  where
    kinds : (p : Named) → is_out_r1_a5 p ≡ true → is_kind kind.OutR1 p ≡ true
    kinds (named.OutR1A5 a b c) e = refl
    kinds p e = absurd (false≢true e)

    acks : Apart is_ack is_out_r1_a5
    acks (named.AckTo a b c d) e = refl
    acks p e = absurd (false≢true e)

-- packets of this kind are none of a replacement
pub record LeavesAlone (kind : Named → Bool) : Type 0 where
  pub a1 : Apart kind is_out_r1_a1
  pub a5 : Apart kind is_out_r1_a5
  pub a9 : Apart kind is_out_r1_a9

pub c1_apart : LeavesAlone is_conn_c1
c1_apart = record { a1 = a1; a5 = a5; a9 = a9 }
  where
    a1 : Apart is_conn_c1 is_out_r1_a1
    a1 (named.ConnC1 a b c) e = refl
    a1 p e = absurd (false≢true e)

    a5 : Apart is_conn_c1 is_out_r1_a5
    a5 (named.ConnC1 a b c) e = refl
    a5 p e = absurd (false≢true e)

    a9 : Apart is_conn_c1 is_out_r1_a9
    a9 (named.ConnC1 a b c) e = refl
    a9 p e = absurd (false≢true e)

pub r1_apart : LeavesAlone is_in_r1_a3
r1_apart = record { a1 = a1; a5 = a5; a9 = a9 }
  where
    a1 : Apart is_in_r1_a3 is_out_r1_a1
    a1 (named.InR1A3 a b c d) e = refl
    a1 p e = absurd (false≢true e)

    a5 : Apart is_in_r1_a3 is_out_r1_a5
    a5 (named.InR1A3 a b c d) e = refl
    a5 p e = absurd (false≢true e)

    a9 : Apart is_in_r1_a3 is_out_r1_a9
    a9 (named.InR1A3 a b c d) e = refl
    a9 p e = absurd (false≢true e)

pub r2_apart : LeavesAlone is_in_r2_a3
r2_apart = record { a1 = a1; a5 = a5; a9 = a9 }
  where
    a1 : Apart is_in_r2_a3 is_out_r1_a1
    a1 (named.InR2A3 a) e = refl
    a1 p e = absurd (false≢true e)

    a5 : Apart is_in_r2_a3 is_out_r1_a5
    a5 (named.InR2A3 a) e = refl
    a5 p e = absurd (false≢true e)

    a9 : Apart is_in_r2_a3 is_out_r1_a9
    a9 (named.InR2A3 a) e = refl
    a9 p e = absurd (false≢true e)

pub ack_apart : LeavesAlone is_ack
ack_apart = record { a1 = a1; a5 = a5; a9 = a9 }
  where
    a1 : Apart is_ack is_out_r1_a1
    a1 (named.AckTo a b c d) e = refl
    a1 p e = absurd (false≢true e)

    a5 : Apart is_ack is_out_r1_a5
    a5 (named.AckTo a b c d) e = refl
    a5 p e = absurd (false≢true e)

    a9 : Apart is_ack is_out_r1_a9
    a9 (named.AckTo a b c d) e = refl
    a9 p e = absurd (false≢true e)
