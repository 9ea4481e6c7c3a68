-- the verdicts compute on literals
use Rattle.std.proofs.Common.{◌≡◌, true, codes, refl, Ok, Err}
use Rattle.std.specs.Prelude.{⊤}
use Rattle.std.specs.Char.{encode_utf8}
use Rattle.std.specs.Fmt.{digits}
use Rattle.std.specs.Str.{chars, is_utf8}
use Rattle.httparse.proofs.OnLiterals.{httparse_on_literals}
use Rattle.rh_http.specs.declared.fault.HttpFault.TheVariants.{Method, Syntax, TooLong}
use Rattle.rh_http.specs.Heads.Verdicts.{request_verdict, response_verdict}

-- what an answer unfolds to compute them
unfoldable pub heads_on_literals : ⊤
unfolding chars digits encode_utf8 httparse_on_literals is_utf8 request_verdict response_verdict
heads_on_literals = tt

asked :
    request_verdict true
    (codes "RPC_IN_DATA /rpc/rpcproxy.dll?server:593 HTTP/1.1\r\nContent-Length: 131072\r\n\r\n")
    ≡ Ok (record { host = codes "server"; port = 593; length = 131072 })
unfolding heads_on_literals
asked = refl

wrong_method : request_verdict true (codes "RPC_OUT_DATA / HTTP/1.1\r\n\r\n") ≡ Err Method
unfolding heads_on_literals
wrong_method = refl

no_head : request_verdict true (codes "RPC_IN_DATA / HTTP/1.2\r\n\r\n") ≡ Err Syntax
unfolding heads_on_literals
no_head = refl

no_end : request_verdict true (codes "RPC_IN_DATA / HTTP/1.1\r\n\r\n\r\n") ≡ Err TooLong
unfolding heads_on_literals
no_end = refl

told :
    response_verdict (codes "HTTP/1.1 404 Not Found\r\nContent-Length: 7\r\n\r\n")
    ≡ Ok (record { status = 404; length = 7 })
unfolding heads_on_literals
told = refl
