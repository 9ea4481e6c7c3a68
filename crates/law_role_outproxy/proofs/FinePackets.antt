-- the packets that an out proxy puts are fine, and are carried where it puts them
use Rattle.law_order.proofs.Vocabulary.{◌≡◌, ℕ, ◌^◌, ◌<◌, true, length, arith, refl}
use Rattle.rh_sig.specs.declared.named.Named.TheVariants as named
use Rattle.law_moves.proofs.Vocabulary.{IsWindow, Cookie, COOKIE_LEN, HaveSizes, carried, Pipe, CoD, OsU, Named, PROTOCOL_VERSION, carries, row_of, AreInRange, IsLifetime, IsTimeout, MayBeWritten, commands_of, name_of_named, IsFine, MayGo}
use Rattle.law_role_outproxy.proofs.Vocabulary.{OutProxyConfig, IsConfig}

abbrev pub IsSized : Cookie → Type 0
IsSized cookie = length cookie.0 ≡ COOKIE_LEN

-- the row of its name lists the pipe, which computes
pub may_go : (pipe : Pipe) (n : Named) → carries (row_of (name_of_named n)).pipes pipe ≡ true
    → HaveSizes (commands_of n) → AreInRange (commands_of n) → MayBeWritten n → MayGo pipe n
may_go pipe n listed sizes ranges destination = record {
  fine = record { sizes = sizes; ranges = ranges; destination = destination };
  carried = carried (row_of (name_of_named n)).pipes pipe listed;
}

-- ---- numbers in range are in 32 bits

window_small : (n : ℕ) → IsWindow n → n < 2 ^ 32
window_small n within = omega (arith, within.greatest)

timeout_small : (n : ℕ) → IsTimeout n → n < 2 ^ 32
timeout_small n within = omega (arith, within.1)

lifetime_small : (n : ℕ) → IsLifetime n → n < 2 ^ 32
lifetime_small n within = omega (arith, within.1)

-- ---- the proxy's own packets to the client

pub timeout_goes : (timeout : ℕ) → IsTimeout timeout → MayGo CoD (named.ConnA3 timeout)
timeout_goes timeout within =
    may_go CoD (named.ConnA3 timeout) refl (timeout_small timeout within, tt) (within, tt) tt

pub end_goes : MayGo CoD named.EndB2
end_goes = may_go CoD named.EndB2 refl (tt, tt) (tt, tt) tt

pub handover_goes : MayGo CoD named.OutR1A10
handover_goes = may_go CoD named.OutR1A10 refl (tt, tt) (tt, tt) tt

pub ping_goes : MayGo CoD named.Ping
ping_goes = may_go CoD named.Ping refl tt tt tt

-- ---- its own packets to the server

pub conn_a2_goes : (config : OutProxyConfig) (connection cookie : Cookie) → IsConfig config
    → IsSized connection → IsSized cookie
    → MayGo OsU (named.ConnA2 PROTOCOL_VERSION connection cookie config.lifetime config.window)
conn_a2_goes config connection cookie own first last =
    let lifetime = lifetime_small config.lifetime own.lifetime in
    let window = window_small config.window own.window in
    may_go OsU (named.ConnA2 PROTOCOL_VERSION connection cookie config.lifetime config.window) refl
    (omega arith, (first, (last, (lifetime, (window, tt)))))
    (refl, (tt, (tt, (own.lifetime, (own.window, tt))))) tt

pub out_r1_a4_goes : (config : OutProxyConfig) (connection predecessor cookie : Cookie)
    → IsConfig config → IsSized connection → IsSized predecessor → IsSized cookie
    → MayGo OsU (
    named.OutR1A4 PROTOCOL_VERSION connection predecessor cookie config.lifetime config.window
    config.timeout
    )
out_r1_a4_goes config connection predecessor cookie own first before last =
    let lifetime = lifetime_small config.lifetime own.lifetime in
    let window = window_small config.window own.window in
    let timeout = timeout_small config.timeout own.timeout in
    may_go OsU (
    named.OutR1A4 PROTOCOL_VERSION connection predecessor cookie config.lifetime config.window
    config.timeout
    ) refl
    (omega arith, (first, (before, (last, (lifetime, (window, (timeout, tt)))))))
    (refl, (tt, (tt, (tt, (own.lifetime, (own.window, (own.timeout, tt))))))) tt

pub ack_goes : (received available : ℕ) (cookie : Cookie) → received < 2 ^ 32
    → available < 2 ^ 32 → IsSized cookie → MayGo OsU (named.Ack received available cookie)
ack_goes received available cookie small few sized =
    may_go OsU (named.Ack received available cookie) refl ((small, few, sized), tt) (tt, tt) tt

-- ---- what is forwarded to the client: the values of what came, and the destination of a client

pub conn_c2_goes : (version size timeout : ℕ) → IsFine (named.ConnC1 version size timeout)
    → MayGo CoD (named.ConnC2 version size timeout)
conn_c2_goes version size timeout fine =
    may_go CoD (named.ConnC2 version size timeout) refl fine.sizes fine.ranges tt

pub ack_to_goes : (to received available : ℕ) (of : Cookie)
    → IsFine (named.AckTo to received available of)
    → MayGo CoD (named.AckTo 0 received available of)
ack_to_goes to received available of fine =
    may_go CoD (named.AckTo 0 received available of) refl (omega arith, fine.sizes.1) fine.ranges
    (omega arith)

pub in_r1_a4_goes : (to version size timeout : ℕ)
    → IsFine (named.InR1A3 to version size timeout)
    → MayGo CoD (named.InR1A4 0 version size timeout)
in_r1_a4_goes to version size timeout fine =
    may_go CoD (named.InR1A4 0 version size timeout) refl (omega arith, fine.sizes.1) fine.ranges
    (omega arith)

pub in_r2_a4_goes : (to : ℕ) → IsFine (named.InR2A3 to) → MayGo CoD (named.InR2A4 0)
in_r2_a4_goes to fine =
    may_go CoD (named.InR2A4 0) refl (omega arith, fine.sizes.1) fine.ranges (omega arith)

pub out_r1_a2_goes : (to : ℕ) → IsFine (named.OutR1A1 to) → MayGo CoD (named.OutR1A2 0)
out_r1_a2_goes to fine =
    may_go CoD (named.OutR1A2 0) refl (omega arith, fine.sizes.1) fine.ranges (omega arith)

pub out_r1_a6_goes : (to version timeout : ℕ) → IsFine (named.OutR1A5 to version timeout)
    → MayGo CoD (named.OutR1A6 0 version timeout)
out_r1_a6_goes to version timeout fine =
    may_go CoD (named.OutR1A6 0 version timeout) refl (omega arith, fine.sizes.1) fine.ranges
    (omega arith)
