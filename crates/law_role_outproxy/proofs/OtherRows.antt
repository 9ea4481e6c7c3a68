-- the rows that order is not about: what they forward is no item
use Rattle.law_order.proofs.Vocabulary.{◌≡◌, ℕ, Bool, true, false, ◌&&◌, ◌==◌, nat_lt, if◌then◌else◌, List, [], ◌∷◌, ◌++◌, Some, None, Ok, Err, refl, Option, list_any}
use Rattle.rh_sig.specs.declared.named.Named.TheVariants as named
use Rattle.rh_shell.specs.declared.answers.Refused.TheVariants as refused
use Rattle.rh_shell.specs.Waiting as waits
use Rattle.rh_outproxy.specs.Acknowledging.{ack_by}
use Rattle.rh_outproxy.specs.declared.state.Channel.TheVariants as channels
use Rattle.rh_outproxy.specs.Machine as machine
use Rattle.law_moves.proofs.Vocabulary.{by_test, Cookie, TO_OUT_PROXY, Named, Leg, Count, Due, Message, Packet, Forwarded, Waiting, better, edge_of, merged, takes, Passage, taken_by}
use Rattle.law_role_outproxy.proofs.Vocabulary.{Channel, OutProxy, is_successor, is_client_marked, joined, Done, is_first, is_second, same_cookie, refuse, is_carrying, taken, unexpected, forwarded, forwarded_by, passed_on, told_length, new_length, successor_length, opened, conn_c1_by, acked, on_ack_to, on_ack, from_server, to_client, came_log}
use Rattle.law_role_outproxy.proofs.ProxyLaw.{picture_of, AreOther, Law, stays}

-- ---- what is forwarded is no item

pub record Alike (s t : OutProxy) : Type 0 where
  pub same : picture_of t ≡ picture_of s
  pub other : AreOther s.waiting.due → AreOther t.waiting.due

pub alike_self : (s : OutProxy) → Alike s s
alike_self s = record { same = refl; other = λ o. o }

pub better_other : (due : Due) (m : Named) → to_client (Packet m) ≡ []
    → to_client (Packet due.packet) ≡ [] → to_client (Packet (better due m).packet) ≡ []
better_other due m e o =
    by_test (λ (d : Due). to_client (Packet d.packet) ≡ [])
    (nat_lt (edge_of m) (edge_of due.packet)) due (record { packet = m; origin = due.origin })
    (λ t. o) (λ t. e)

pub merged_other : (dues : List Due) (m : Named) → to_client (Packet m) ≡ [] → AreOther dues
    → AreOther (merged dues m)
merged_other [] m e o = tt
merged_other (due ∷ dues) m e o =
    by_test AreOther (takes m due) (better due m ∷ dues) (due ∷ merged dues m)
    (λ t. (better_other due m e o.0, o.1)) (λ t. (o.0, merged_other dues m e o.1))

pub pushed_other : (dues : List Due) (due : Due) → to_client (Packet due.packet) ≡ []
    → AreOther dues → AreOther (dues ++ due ∷ [])
pushed_other [] due e o = (e, tt)
pushed_other (first ∷ dues) due e o = (o.0, pushed_other dues due e o.1)

pub forwarded_other : (w : Waiting) (m : Named) → to_client (Packet m) ≡ [] → AreOther w.due
    → AreOther (waits.forwarded w m).0.due
forwarded_other w m e o =
    by_test (λ (r : Waiting × Bool). AreOther r.0.due) (list_any (takes m) w.due)
    (waits.with_due w (merged w.due m), true)
    (if nat_lt (waits.count Forwarded w.due) w.room
    then (waits.pushed w (waits.to_forward m), true) else (w, false))
    (λ t. merged_other w.due m e o)
    (λ t. by_test (λ (r : Waiting × Bool). AreOther r.0.due)
    (nat_lt (waits.count Forwarded w.due) w.room) (waits.pushed w (waits.to_forward m), true)
    (w, false) (λ u. pushed_other w.due (waits.to_forward m) e o) (λ u. o))

pub by_room : (s : OutProxy) (r : Waiting × Bool) → (AreOther s.waiting.due → AreOther r.0.due)
    → Alike s (forwarded_by s r).0
by_room s (w, true) f = record { same = refl; other = f }
by_room s (w, false) f = record { same = refl; other = f }

pub forward_alike : (s : OutProxy) (m : Named) → to_client (Packet m) ≡ []
    → Alike s (forwarded s m).0
forward_alike s m e =
    by_test (λ (d : Done). Alike s d.0) (is_client_marked s.client) (taken s)
    (forwarded_by s (waits.forwarded s.waiting m)) (λ t. alike_self s)
    (λ t. by_room s (waits.forwarded s.waiting m) (forwarded_other s.waiting m e))

pub passed_alike : (s : OutProxy) (to : ℕ) (m : Named) → to_client (Packet m) ≡ []
    → Alike s (passed_on s to m).0
passed_alike s to m e =
    by_test (λ (d : Done). Alike s d.0) (is_carrying s && (to == 0)) (forwarded s m) (unexpected s)
    (λ t. forward_alike s m e) (λ t. alike_self s)

-- ---- rows that order is not about

pub conn_c1_alike : (channel : Channel) (s : OutProxy) (version size timeout : ℕ)
    → Alike s (conn_c1_by channel s version size timeout).0
conn_c1_alike channels.Unknown s version size timeout = alike_self s
conn_c1_alike (channels.New connection cookie) s version size timeout =
    let now : OutProxy = record s { channel = channels.Joined connection cookie } in
    let a = forward_alike now (named.ConnC2 version size timeout) refl in
    record { same = a.same; other = a.other }
conn_c1_alike (channels.Joined connection cookie) s version size timeout = alike_self s
conn_c1_alike (channels.Successor connection predecessor cookie) s version size timeout =
    alike_self s

pub ack_alike : (channel : Option Cookie) (s : OutProxy) (received available : ℕ) (of : Cookie)
    → Alike s (ack_by channel s received available of).0
ack_alike None s received available of = alike_self s
ack_alike (Some cookie) s received available of =
    by_test (λ (d : Done). Alike s d.0) (same_cookie cookie of) (acked s received available)
    (refuse s (refused.Cookie cookie of)) (λ t. record { same = refl; other = λ o. o })
    (λ t. alike_self s)

pub ack_to_alike : (s : OutProxy) (to received available : ℕ) (of : Cookie)
    → Alike s (on_ack_to s to received available of).0
ack_to_alike s to received available of =
    by_test (λ (d : Done). Alike s d.0) (to == TO_OUT_PROXY) (on_ack s received available of)
    (passed_on s to (named.AckTo 0 received available of))
    (λ t. ack_alike (joined s.channel) s received available of)
    (λ t. passed_alike s to (named.AckTo 0 received available of) refl)

pub co_alike : (s : OutProxy) (count : Count) (m : Named) → Alike s (machine.on_co s count m).0
co_alike s count (named.ConnA1 version connection cookie size) =
    by_test (λ (d : Done). Alike s d.0) (is_first count && told_length s.request new_length)
    (taken (opened s (channels.New connection cookie) size)) (unexpected s)
    (λ t. record { same = refl; other = λ o. o }) (λ t. alike_self s)
co_alike s count (named.OutR1A3 version connection predecessor cookie size) =
    by_test (λ (d : Done). Alike s d.0) (is_first count && told_length s.request successor_length)
    (taken (opened s (channels.Successor connection predecessor cookie) size)) (unexpected s)
    (λ t. record { same = refl; other = λ o. o }) (λ t. alike_self s)
co_alike s count named.OutR2C1 =
    by_test (λ (d : Done). Alike s d.0) (is_second count && is_successor s.channel) (taken s)
    (unexpected s) (λ t. alike_self s) (λ t. alike_self s)
co_alike s count _ = alike_self s

pub os_alike : (s : OutProxy) (m : Named) → from_server (Packet m) ≡ []
    → Alike s (machine.on_os s m).0
os_alike s (named.ConnC1 version size timeout) e = conn_c1_alike s.channel s version size timeout
os_alike s (named.AckTo to received available of) e = ack_to_alike s to received available of
os_alike s (named.InR1A3 to version size timeout) e =
    passed_alike s to (named.InR1A4 0 version size timeout) refl
os_alike s (named.InR2A3 to) e = passed_alike s to (named.InR2A4 0) refl
os_alike s (named.OutR1A1 to) e = passed_alike s to (named.OutR1A2 0) refl
os_alike s (named.OutR1A5 to version timeout) e =
    passed_alike s to (named.OutR1A6 0 version timeout) refl
os_alike s named.OutR1A9 e = absurd (cc)
os_alike s named.EndB1 e = absurd (cc)
os_alike s _ e = alike_self s

pub other_row : (n : ℕ) (p : Passage OutProxy) (leg : Leg) (m : Message) (row : Done)
    → Alike p.role row.0 → came_log (p.came ++ (leg, m) ∷ []) ≡ came_log p.came → Law n p
    → Law n (taken_by p leg m row)
other_row n p leg m (s, Ok t) a came l =
    stays n p (taken_by p leg m (s, Ok t)) a.same (a.other l.other) came refl l
other_row n p leg m (s, Err why) a came l =
    stays n p (taken_by p leg m (s, Err why)) a.same (a.other l.other) refl refl l
