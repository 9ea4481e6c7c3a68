-- packets that a server may put: their values have their sizes and ranges
use Rattle.law_order.proofs.Vocabulary.{◌≡◌, ℕ, ◌<◌, ◌≤◌, ◌^◌, [], length, arith, refl}
use Rattle.rh_sig.proofs.Members.{in_front}
use Rattle.rh_sig.specs.declared.named.Named.TheVariants as named
use Rattle.rh_sig.specs.declared.name.Name.TheVariants as name
use Rattle.law_moves.proofs.Vocabulary.{IsWindow, Cookie, COOKIE_LEN, GREATEST_DESTINATION, carried, IsD, OsD, row_of, IsTimeout, MayGo}

abbrev pub IsCookie : Cookie → Type 0
IsCookie cookie = length cookie.0 ≡ COOKIE_LEN

-- the values of an acknowledgement have their sizes
abbrev pub AreOfAck : ℕ → ℕ → Cookie → Type 0
AreOfAck received available cookie =
    (received < 2 ^ 32) × (available < 2 ^ 32) × IsCookie cookie

window_small : (size : ℕ) → IsWindow size → size < 2 ^ 32
window_small size is = omega (arith, is.greatest)

timeout_small : (timeout : ℕ) → IsTimeout timeout → timeout < 2 ^ 32
timeout_small timeout is = omega (arith, is.1)

-- ---- on os legs

pub conn_c1 : (window timeout : ℕ) → IsWindow window → IsTimeout timeout
    → MayGo OsD (named.ConnC1 1 window timeout)
conn_c1 window timeout w t = record {
  fine = record {
    sizes = (omega arith, (window_small window w, (timeout_small timeout t, tt)));
    ranges = (refl, (w, (t, tt)));
    destination = tt;
  };
  carried = in_front OsD [];
}

pub in_r1_a3 : (window timeout : ℕ) → IsWindow window → IsTimeout timeout
    → MayGo OsD (named.InR1A3 0 1 window timeout)
in_r1_a3 window timeout w t = record {
  fine = record {
    sizes = (omega arith, (omega arith, (window_small window w, (timeout_small timeout t, tt))));
    ranges = (tt, (refl, (w, (t, tt))));
    destination = omega arith;
  };
  carried = in_front OsD [];
}

pub in_r2_a3 : MayGo OsD (named.InR2A3 0)
in_r2_a3 = record {
  fine = record { sizes = (omega arith, tt); ranges = (tt, tt); destination = omega arith };
  carried = in_front OsD [];
}

pub out_r1_a1 : MayGo OsD (named.OutR1A1 0)
out_r1_a1 = record {
  fine = record { sizes = (omega arith, tt); ranges = (tt, tt); destination = omega arith };
  carried = in_front OsD [];
}

pub out_r1_a5 : (timeout : ℕ) → IsTimeout timeout → MayGo OsD (named.OutR1A5 0 1 timeout)
out_r1_a5 timeout t = record {
  fine = record {
    sizes = (omega arith, (omega arith, (timeout_small timeout t, tt)));
    ranges = (tt, (refl, (t, tt)));
    destination = omega arith;
  };
  carried = in_front OsD [];
}

pub out_r1_a9 : MayGo OsD named.OutR1A9
out_r1_a9 = record {
  fine = record { sizes = (tt, tt); ranges = (tt, tt); destination = tt };
  carried = in_front OsD [];
}

pub end_b1 : MayGo OsD named.EndB1
end_b1 = record {
  fine = record { sizes = (tt, tt); ranges = (tt, tt); destination = tt };
  carried = in_front OsD [];
}

pub ack_to : (destination received available : ℕ) (cookie : Cookie)
    → destination ≤ GREATEST_DESTINATION → AreOfAck received available cookie
    → MayGo OsD (named.AckTo destination received available cookie)
ack_to destination received available cookie to of = record {
  fine = record {
    sizes = (omega (arith, to), (of, tt));
    ranges = (tt, (tt, tt));
    destination = to;
  };
  carried = carried (row_of name.AckTo).pipes OsD refl;
}

-- ---- on is legs

pub conn_b3 : (window : ℕ) → IsWindow window → MayGo IsD (named.ConnB3 window 1)
conn_b3 window w = record {
  fine = record {
    sizes = (window_small window w, (omega arith, tt));
    ranges = (w, (refl, tt));
    destination = tt;
  };
  carried = in_front IsD [];
}

pub in_r1_b1 : MayGo IsD named.InR1B1
in_r1_b1 = record {
  fine = record { sizes = (tt, tt); ranges = (tt, tt); destination = tt };
  carried = in_front IsD [];
}

pub in_r1_b2 : (window : ℕ) → IsWindow window → MayGo IsD (named.InR1B2 window)
in_r1_b2 window w = record {
  fine = record {
    sizes = (window_small window w, tt);
    ranges = (w, tt);
    destination = tt;
  };
  carried = in_front IsD [];
}

pub ack : (received available : ℕ) (cookie : Cookie) → AreOfAck received available cookie
    → MayGo IsD (named.Ack received available cookie)
ack received available cookie of = record {
  fine = record { sizes = (of, tt); ranges = (tt, tt); destination = tt };
  carried = carried (row_of name.Ack).pipes IsD refl;
}
