-- what a server does that leaves its OUT legs as they are
use Rattle.law_order.proofs.Vocabulary.{◌≡◌, ℕ, List, rules}
use Rattle.law_moves.proofs.Vocabulary.{Cookie, Count}
use Rattle.law_role_server.proofs.Vocabulary.{OutLeg, Server, on_conn_b2, give, on_end_a2, settled, on_ack_to, on_pdu, on_in_r1_a2, on_in_r1_a6, on_in_r2_a2, take, on_out_r1_a8, recycle}

-- the legs, and the newest number
pub record Outs : Type 0 where
  pub legs : List OutLeg
  pub newest : ℕ

abbrev pub outs_of : Server → Outs
outs_of s = record { legs = s.outs; newest = s.newest_out }

pub settled_same : (s : Server) → outs_of (settled s) ≡ outs_of s
settled_same s = search rules

pub give_same : (s : Server) (pdu : List ℕ) → outs_of (give s pdu).0 ≡ outs_of s
give_same s pdu = search rules

pub recycle_same : (s : Server) → outs_of (recycle s).0 ≡ outs_of s
recycle_same s = search rules

pub take_same : (s : Server) → outs_of (take s) ≡ outs_of s
take_same s = search rules

pub pdu_same : (s : Server) (n : ℕ) (pdu : List ℕ) → outs_of (on_pdu s n pdu).0 ≡ outs_of s
pdu_same s n pdu = search rules

pub ack_to_same : (s : Server) (count : Count) (a b c : ℕ) (of : Cookie)
    → outs_of (on_ack_to s count a b c of).0 ≡ outs_of s
ack_to_same s count a b c of = search rules

pub a8_same : (s : Server) (count : Count) (d : ℕ) (of : Cookie)
    → outs_of (on_out_r1_a8 s count d of).0 ≡ outs_of s
a8_same s count d of = search rules

pub conn_b2_same : (s : Server) (n : ℕ) (count : Count) (connection cookie : Cookie)
    (window timeout : ℕ)
    → outs_of (on_conn_b2 s n count connection cookie window timeout).0 ≡ outs_of s
conn_b2_same s n count connection cookie window timeout = search rules

pub in_r1_a2_same : (s : Server) (n : ℕ) (count : Count)
    (connection predecessor successor : Cookie) (window timeout : ℕ)
    → outs_of (on_in_r1_a2 s n count connection predecessor successor window timeout).0
    ≡ outs_of s
in_r1_a2_same s n count connection predecessor successor window timeout = search rules

pub in_r1_a6_same : (s : Server) (n : ℕ) (successor : Cookie)
    → outs_of (on_in_r1_a6 s n successor).0 ≡ outs_of s
in_r1_a6_same s n successor = search rules

pub in_r2_a2_same : (s : Server) (n : ℕ) (count : Count) (successor : Cookie)
    → outs_of (on_in_r2_a2 s n count successor).0 ≡ outs_of s
in_r2_a2_same s n count successor = search rules

pub end_a2_same : (s : Server) (n : ℕ) (count : Count)
    → outs_of (on_end_a2 s n count).0 ≡ outs_of s
end_a2_same s n count = search rules
