-- the numbers of heads, written out
use Rattle.std.specs.Prelude.{◌≡◌}
use Rattle.rh_http.specs.declared.config.TheConstants.{KEEPALIVE}
use Rattle.rh_http.specs.declared.got.TheConstants.{GREATEST_HEAD, GREATEST_FIELDS}
use Rattle.rh_http.specs.declared.host.TheConstants.{GREATEST_HOST}
use Rattle.rh_http.specs.declared.numbers.TheConstants.{LEAST_PORT, GREATEST_PORT, MOST_DIGITS}
use Rattle.rh_http.specs.declared.lengths.TheConstants.{GREATEST_ECHO, OPENS_OUT, REPLACES_OUT}
use Rattle.rh_http.specs.declared.lengths.TheConstants.{PING_ROOM, GREATEST_RESPONSE, SUCCESS}
use Rattle.rh_http.specs.declared.lengths.TheConstants.{BAD_REQUEST, NOT_FOUND, SERVICE_UNAVAILABLE}
use Rattle.rh_http.specs.declared.writing.TheConstants.{ECHO_LEN}

pub record AreFixed : Type 0 where
  -- the most bytes and fields of a head (profile)
  pub greatest_head : GREATEST_HEAD ≡ 16_384
  pub greatest_fields : GREATEST_FIELDS ≡ 64
  -- the most characters of a host, and the ports (profile)
  pub greatest_host : GREATEST_HOST ≡ 255
  pub least_port : LEAST_PORT ≡ 1
  pub greatest_port : GREATEST_PORT ≡ 65_535
  -- the most digits of a length (profile)
  pub most_digits : MOST_DIGITS ≡ 10
  -- the lengths of requests, in bytes: echoes, and OUT channels that open or follow another
  -- (profile)
  pub greatest_echo : GREATEST_ECHO ≡ 16
  pub opens_out : OPENS_OUT ≡ 76
  pub replaces_out : REPLACES_OUT ≡ 120
  -- the bytes of a response above its lifetime, and the most of a response (profile)
  pub ping_room : PING_ROOM ≡ 65_536
  pub greatest_response : GREATEST_RESPONSE ≡ 2_147_549_184
  -- the bytes of an Echo packet (MS-RPCH 2.1.2)
  pub echo_length : ECHO_LEN ≡ 20
  -- the statuses (profile)
  pub success : SUCCESS ≡ 200
  pub bad_request : BAD_REQUEST ≡ 400
  pub not_found : NOT_FOUND ≡ 404
  pub service_unavailable : SERVICE_UNAVAILABLE ≡ 503
  -- a client's keepalive where nothing else is said, in milliseconds (profile)
  pub keepalive : KEEPALIVE ≡ 300_000
