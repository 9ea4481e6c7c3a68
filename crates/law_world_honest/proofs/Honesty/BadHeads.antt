-- no node refuses a head that is a request or a response where it is read
use Rattle.law_order.proofs.Vocabulary.{◌≡◌, ℕ, List, true, false, nat_le, Ok, Err, ◌==◌, Result}
use Rattle.rh_line.specs.declared.cause.Cause.TheVariants as cause
use Rattle.rh_inproxy.specs.Opening as in_opening
use Rattle.rh_outproxy.specs.Opening as out_opening
use Rattle.rh_client.specs.Opening as client_opening
use Rattle.law_moves.proofs.Vocabulary.{Dir, U, D, by_test, HttpFault, Response, greatest_echo, Asked, request_verdict, response_verdict, Leg, LegKind, ClientOut, OutServer, ClientIn, InServer, HeadRefused, HeadTaken, Stage}
use Rattle.law_role_inproxy.proofs.Vocabulary.{ECHO_LENGTH, InProxy}
use Rattle.law_node_history.proofs.Vocabulary.{receiver, leg_at, node_by}
use Rattle.law_role_outproxy.proofs.Vocabulary.{OutProxy}
use Rattle.law_node_streams.specs.Streams.{IsFirstHead}
use Rattle.law_world_honest.specs.Honesty.Heads.{BreaksRule, HeadIsRead, IsHeadThere}
use Rattle.law_world_honest.specs.Honesty.Honest.{IsOfNode}

-- ---- what each role takes

client_takes : (kind : LegKind) (verdict : Result Response HttpFault) (response : Response)
    → verdict ≡ Ok response → BreaksRule (client_opening.head_by kind verdict) → ⊥
client_takes kind (Err fault) response is = absurd cc
client_takes ClientOut (Ok other) response is =
    by_test (λ (x : Result HeadTaken HeadRefused). BreaksRule x → ⊥)
    (other.status == client_opening.success) _ _ (λ t breaks. breaks) (λ t breaks. breaks)
client_takes OutServer (Ok other) response is = λ breaks. breaks
client_takes ClientIn (Ok other) response is = λ breaks. breaks
client_takes InServer (Ok other) response is = λ breaks. breaks

in_takes : (s : InProxy) (number : ℕ) (verdict : Result Asked HttpFault) (asked : Asked)
    → verdict ≡ Ok asked → BreaksRule (in_opening.head_by s number verdict).1 → ⊥
in_takes s number (Err fault) asked is = absurd cc
in_takes s number (Ok other) asked is =
    by_test (λ (x : InProxy × Result HeadTaken HeadRefused). BreaksRule x.1 → ⊥)
    (nat_le other.length ECHO_LENGTH) _ _ (λ t breaks. breaks) (λ t breaks. breaks)

out_takes : (s : OutProxy) (verdict : Result Asked HttpFault) (asked : Asked)
    → verdict ≡ Ok asked → BreaksRule (out_opening.head_by s verdict).1 → ⊥
out_takes s (Err fault) asked is = absurd cc
out_takes s (Ok other) asked is =
    by_test (λ (x : OutProxy × Result HeadTaken HeadRefused). BreaksRule x.1 → ⊥)
    (nat_le other.length greatest_echo) _ _ (λ t breaks. breaks) (λ t breaks. breaks)

-- ---- the node that reads a direction of a leg

first_of : (start : Stage) (heard text : List ℕ) → IsHeadThere start 0 heard text
    → IsFirstHead text heard
first_of start heard text there = record {
  whole = record { whole = there.whole; front = there.first };
  front = there.front;
}

-- servers wait for no head, and proxies for none of theirs
pub no_bad_head : (reader n : ℕ) (kind : LegKind) (dir : Dir) (heard : List ℕ) (leg : Leg)
    (place : ℕ) (fault : HttpFault)
    → ((text : List ℕ) → IsFirstHead text heard → HeadIsRead kind dir text)
    → IsOfNode (node_by reader n kind (receiver dir)) (leg_at kind n) dir heard
    (cause.BadHead leg place fault) → ⊥
no_bad_head reader n ClientOut U heard leg place fault reads bad =
    let asked = reads bad.text (first_of _ heard bad.text bad.stands) in
    out_takes bad.role (request_verdict false bad.text) asked.0 asked.1 bad.refuses
no_bad_head reader n ClientOut D heard leg place fault reads bad =
    let told = reads bad.text (first_of _ heard bad.text bad.stands) in
    client_takes ClientOut (response_verdict bad.text) told.0 told.1 bad.refuses
no_bad_head reader n ClientIn U heard leg place fault reads bad =
    let asked = reads bad.text (first_of _ heard bad.text bad.stands) in
    in_takes bad.role n (request_verdict true bad.text) asked.0 asked.1 bad.refuses
no_bad_head reader n ClientIn D heard leg place fault reads bad =
    let told = reads bad.text (first_of _ heard bad.text bad.stands) in
    client_takes ClientIn (response_verdict bad.text) told.0 told.1 bad.refuses
no_bad_head reader n OutServer U heard leg place fault reads bad =
    absurd (let none = bad.stands.is_head in cc)
no_bad_head reader n OutServer D heard leg place fault reads bad =
    absurd (let none = bad.stands.is_head in cc)
no_bad_head reader n InServer U heard leg place fault reads bad =
    absurd (let none = bad.stands.is_head in cc)
no_bad_head reader n InServer D heard leg place fault reads bad =
    absurd (let none = bad.stands.is_head in cc)
