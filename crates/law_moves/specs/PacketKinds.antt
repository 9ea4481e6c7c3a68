-- which packet it is (MS-RPCH 2.2.4; those of replacement and of the end are this profile's)
use Rattle.std.specs.Prelude.{Bool, true, false}
use Rattle.rh_rts.specs.declared.command.Cookie.{Cookie}
use Rattle.rh_sig.specs.declared.named.Named.{Named}
use Rattle.rh_sig.specs.declared.named.Named.TheVariants.{ConnA1, ConnA2, ConnA3, ConnB1, ConnB2, ConnB3, ConnC1, ConnC2, InR1A1, InR1A2, InR1A3, InR1A4, InR1A5, InR1A6, InR1B1, InR1B2, InR2A2, InR2A3, InR2A4, OutR1A1, OutR1A2, OutR1A3, OutR1A4, OutR1A5, OutR1A6, OutR1A7, OutR1A8, OutR1A9, OutR1A10, EndB1, EndB2}

-- ---- what an in proxy takes and puts

abbrev pub is_conn_b1 : Named → Bool
is_conn_b1 (ConnB1 version connection channel lifetime keepalive group) = true
is_conn_b1 packet = false

abbrev pub is_conn_b2 : Named → Bool
is_conn_b2 (ConnB2 version connection channel window timeout group address padding) = true
is_conn_b2 packet = false

-- IN_R1/A1 of a successor whose cookie passes a test
abbrev pub is_in_r1_a1 : (Cookie → Bool) → Named → Bool
is_in_r1_a1 of (InR1A1 version connection predecessor successor) = of successor
is_in_r1_a1 of packet = false

-- IN_R1/A2 or IN_R2/A2 of one
abbrev pub is_in_a2 : (Cookie → Bool) → Named → Bool
is_in_a2 of (InR1A2 version connection predecessor successor window timeout) = of successor
is_in_a2 of (InR2A2 successor) = of successor
is_in_a2 of packet = false

abbrev pub is_in_r1_a5 : Named → Bool
is_in_r1_a5 (InR1A5 successor) = true
is_in_r1_a5 packet = false

abbrev pub is_in_r1_a6 : Named → Bool
is_in_r1_a6 (InR1A6 successor) = true
is_in_r1_a6 packet = false

abbrev pub is_in_r1_b1 : Named → Bool
is_in_r1_b1 InR1B1 = true
is_in_r1_b1 packet = false

-- OUT_R1/A7 of a successor whose cookie passes a test
abbrev pub is_out_r1_a7 : (Cookie → Bool) → Named → Bool
is_out_r1_a7 of (OutR1A7 to successor) = of successor
is_out_r1_a7 of packet = false

-- OUT_R1/A8 of one
abbrev pub is_out_r1_a8 : (Cookie → Bool) → Named → Bool
is_out_r1_a8 of (OutR1A8 to successor) = of successor
is_out_r1_a8 of packet = false

-- CONN/B3 or IN_R1/B2, by which the server tells its window
abbrev pub opens_server : Named → Bool
opens_server (ConnB3 window version) = true
opens_server (InR1B2 window) = true
opens_server packet = false

-- ---- what an out proxy takes and puts

-- CONN/A1 or OUT_R1/A3, by which the client opens a channel
abbrev pub opens_client : Named → Bool
opens_client (ConnA1 version connection channel window) = true
opens_client (OutR1A3 version connection predecessor successor window) = true
opens_client packet = false

abbrev pub is_conn_a1 : Named → Bool
is_conn_a1 (ConnA1 version connection channel window) = true
is_conn_a1 packet = false

abbrev pub is_conn_a2 : Named → Bool
is_conn_a2 (ConnA2 version connection channel lifetime window) = true
is_conn_a2 packet = false

abbrev pub is_conn_a3 : Named → Bool
is_conn_a3 (ConnA3 timeout) = true
is_conn_a3 packet = false

abbrev pub is_conn_c1 : Named → Bool
is_conn_c1 (ConnC1 version window timeout) = true
is_conn_c1 packet = false

abbrev pub is_conn_c2 : Named → Bool
is_conn_c2 (ConnC2 version window timeout) = true
is_conn_c2 packet = false

abbrev pub is_in_r1_a3 : Named → Bool
is_in_r1_a3 (InR1A3 to version window timeout) = true
is_in_r1_a3 packet = false

abbrev pub is_in_r1_a4 : Named → Bool
is_in_r1_a4 (InR1A4 to version window timeout) = true
is_in_r1_a4 packet = false

abbrev pub is_in_r2_a3 : Named → Bool
is_in_r2_a3 (InR2A3 to) = true
is_in_r2_a3 packet = false

abbrev pub is_in_r2_a4 : Named → Bool
is_in_r2_a4 (InR2A4 to) = true
is_in_r2_a4 packet = false

abbrev pub is_out_r1_a1 : Named → Bool
is_out_r1_a1 (OutR1A1 to) = true
is_out_r1_a1 packet = false

abbrev pub is_out_r1_a2 : Named → Bool
is_out_r1_a2 (OutR1A2 to) = true
is_out_r1_a2 packet = false

abbrev pub is_out_r1_a3 : Named → Bool
is_out_r1_a3 (OutR1A3 version connection predecessor successor window) = true
is_out_r1_a3 packet = false

abbrev pub is_out_r1_a4 : Named → Bool
is_out_r1_a4 (OutR1A4 version connection predecessor successor lifetime window timeout) = true
is_out_r1_a4 packet = false

abbrev pub is_out_r1_a5 : Named → Bool
is_out_r1_a5 (OutR1A5 to version timeout) = true
is_out_r1_a5 packet = false

abbrev pub is_out_r1_a6 : Named → Bool
is_out_r1_a6 (OutR1A6 to version timeout) = true
is_out_r1_a6 packet = false

abbrev pub is_out_r1_a9 : Named → Bool
is_out_r1_a9 OutR1A9 = true
is_out_r1_a9 packet = false

abbrev pub is_out_r1_a10 : Named → Bool
is_out_r1_a10 OutR1A10 = true
is_out_r1_a10 packet = false

abbrev pub is_end_b1 : Named → Bool
is_end_b1 EndB1 = true
is_end_b1 packet = false

abbrev pub is_end_b2 : Named → Bool
is_end_b2 EndB2 = true
is_end_b2 packet = false
