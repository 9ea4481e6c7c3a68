-- the numbers of a client, written out
use Rattle.std.specs.Prelude.{◌≡◌}
use Rattle.rh_client.specs.declared.client.TheConstants.{ROOMS}
use Rattle.rh_client.specs.declared.lengths.TheConstants.{CONN_A1_LEN, OUT_R1_A3_C1_LEN}
use Rattle.rh_client.specs.declared.channels.TheConstants.{LAST_NUMBER, UNTOLD_TIMEOUT}

pub record AreFixed : Type 0 where
  -- the most unfinished legs of each kind (profile)
  pub rooms : ROOMS ≡ record { client_out = 2; out_server = 0; client_in = 2; in_server = 0 }
  -- the bytes of CONN/A1 (MS-RPCH 2.2.4), and of OUT_R1/A3 and OUT_R2/C1 together (profile)
  pub conn_a1 : CONN_A1_LEN ≡ 76
  pub out_r1_a3_c1 : OUT_R1_A3_C1_LEN ≡ 120
  -- the greatest number of a channel (profile)
  pub last_number : LAST_NUMBER ≡ 4_294_967_295
  -- the timeout that stands for one that wasn't told, in milliseconds (profile)
  pub untold_timeout : UNTOLD_TIMEOUT ≡ 120_000
