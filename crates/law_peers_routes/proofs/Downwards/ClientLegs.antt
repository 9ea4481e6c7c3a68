-- whatever happens to a client, its OUT channels have numbers above 0, and nothing comes on a leg
-- of number 0
use Rattle.law_order.proofs.Vocabulary.{◌≡◌, ℕ, ◌<◌, ◌==◌, ◌&&◌, ◌||◌, not, Bool, true, false, if◌then◌else◌, is_ok, List, [], ◌∷◌, ◌++◌, Some, None, Ok, Err, arith, rules, refl, sym, ◌∙◌, subst, true≢false, nat_tests, Option}
use Rattle.law_moves.proofs.Vocabulary.{by_test, Cookie, Named, ClientConfig, after_take, Leg, LegKind, ClientOut, OutServer, ClientIn, InServer, Which, Current, Next, Message, Pdu, Packet, same_leg, Count, of_leg, Passage, EndPassage, Move, EndMove, Up, HeadCame, PduCame, PacketCame, Puts, IsDrawn, Marks, Pings, Moves, Gives, Takes, Closes, Recycles, taken_by, given_by, with_first, end_now_at, moved, end_moved, all_end_moved}
use Rattle.law_moves.proofs.Lemmas.{leg_is, other_more as of_other}
use Rattle.law_moves.specs.Moves as shell
use Rattle.law_role_client.proofs.Vocabulary.{ClientRole, Done, co, unexpected, is_open, is_current, is_out_successor, is_writing, is_in_successor, is_out, is_switched, pdu_on, pdu_channel, up_by, Given, give, take, drawn_by, ping_by, Pick, put, put_by, rules as client_rules, acts, packet, on_packet, pdu, pdu_by, client_started, client_moved}
use Rattle.law_role_server.proofs.TakesKept.{coming_of as neither}
use Rattle.law_peers_routes.proofs.Downwards.ClientNumbers.{Above, PickAbove, same_above, recycle_above, passed_above, packet_above, put_by_above, settled_pick_above}

-- ---- what is refused on a leg of number 0

above_zero : (n : ℕ) → 0 < n → (0 == n) ≡ false
above_zero n a = grind (arith, nat_tests)

none_follows : (b : Bool) (n : ℕ) → (b ≡ true → 0 < n) → b && (0 == n) ≡ false
none_follows true n a = above_zero n (a refl)
none_follows false n a = refl

is_none : (s : ClientRole) → Above s → (is_current s 0 ≡ false) × (is_out_successor s 0 ≡ false)
is_none s a = (
  above_zero s.current.number a.current,
  none_follows (is_out s.replacement) s.out_successor.number a.successor,
)

no_channel : (o c w x : Bool) → c ≡ false → x ≡ false
    → (if not o then None else (if c then Some Current else (if w && x then Some Next else None)))
    ≡ None
no_channel o true w x a b = absurd cc
no_channel o false w true a b = absurd cc
no_channel true false true false a b = refl
no_channel true false false false a b = refl
no_channel false false w false a b = refl

pdu_refused : (s : ClientRole) (count : Count) (bytes : List ℕ) → Above s
    → is_ok (pdu s (co 0) count bytes).1 ≡ false
pdu_refused s count bytes a =
    subst (λ (w : Option Which). is_ok (pdu_on s bytes w).1 ≡ false)
    (sym (no_channel (is_open s.phase) (is_current s 0) (is_switched s) (is_out_successor s 0)
    (is_none s a).0 (is_none s a).1)) refl

packet_refused : (s : ClientRole) (count : Count) (m : Named) → Above s
    → is_ok (packet s (co 0) count m).1 ≡ false
packet_refused s count m a =
    by_test (λ (d : Done). is_ok d.1 ≡ false) (is_current s 0 || is_out_successor s 0)
    (on_packet s 0 count m) (unexpected s)
    (λ e. absurd (neither (is_current s 0) (is_out_successor s 0) (is_none s a).0
    (is_none s a).1 e))
    (λ e. refl)

-- ---- moves

-- numbers are above 0, and nothing came on co 0
pub record IsQuiet (p : Passage ClientRole) : Type 0 where
  pub above : Above p.role
  pub quiet : of_leg (co 0) p.came ≡ []

row_quiet : (p : Passage ClientRole) (leg : Leg) (m : Message) (x : Done) → Above x.0
    → (same_leg leg (co 0) ≡ true → is_ok x.1 ≡ false) → IsQuiet p
    → IsQuiet (taken_by p leg m x)
row_quiet p leg m (f, Err why) a refused q = record { above = a; quiet = q.quiet }
row_quiet p leg m (f, Ok took) a refused q =
    record { above = a; quiet = by (same_leg leg (co 0)) refl }
  where
    by : (t : Bool) → same_leg leg (co 0) ≡ t → of_leg (co 0) (p.came ++ (leg, m) ∷ []) ≡ []
    by true h = absurd (true≢false (refused h))
    by false h = of_other (co 0) p.came (leg, m) h ∙ q.quiet

pick_quiet : (p : Passage ClientRole) (leg : Leg) (pick : Pick) → PickAbove pick → IsQuiet p
    → IsQuiet (shell.put_by p leg pick)
pick_quiet p leg None a q = q
pick_quiet p leg (Some pick) a q = record { above = a; quiet = q.quiet }

up_above : (s : ClientRole) (n : ℕ) (cookie : Cookie) (kind : LegKind) → Above s
    → Above (up_by s n cookie kind)
up_above s n cookie ClientOut a = by_test Above (is_current s n) _ _ (λ e. a) (λ e. a)
up_above s n cookie ClientIn a = by_test Above (is_writing s n) _ _ (λ e. a) (λ e. a)
up_above s n cookie OutServer a = a
up_above s n cookie InServer a = a

pdu_on_above : (s : ClientRole) (bytes : List ℕ) (which : Option Which) → Above s
    → Above (pdu_on s bytes which).0
pdu_on_above s bytes None a = a
pdu_on_above s bytes (Some which) a = a

pdu_above : (s : ClientRole) (n : ℕ) (bytes : List ℕ) (kind : LegKind) → Above s
    → Above (pdu_by s n bytes kind).0
pdu_above s n bytes ClientOut a = pdu_on_above s bytes (pdu_channel s n) a
pdu_above s n bytes OutServer a = a
pdu_above s n bytes ClientIn a = a
pdu_above s n bytes InServer a = a

drawn_above : (s : ClientRole) (n : ℕ) (kind : LegKind) → Above s → Above (drawn_by s n kind)
drawn_above s n ClientIn a = by_test Above (n == s.leaving.number) _ s (λ e. a) (λ e. a)
drawn_above s n ClientOut a = a
drawn_above s n OutServer a = a
drawn_above s n InServer a = a

ping_above : (s : ClientRole) (n : ℕ) (kind : LegKind) → Above s → Above (ping_by s n kind)
ping_above s n ClientIn a =
    by_test Above (is_writing s n) _ _ (λ e. a)
    (λ e. by_test Above (is_in_successor s n) _ s (λ i. a) (λ i. a))
ping_above s n ClientOut a = a
ping_above s n OutServer a = a
ping_above s n InServer a = a

-- on that leg what comes is refused
on_leg : (P : Leg → Type 0) (leg : Leg) → P (co 0) → same_leg leg (co 0) ≡ true → P leg
on_leg P leg p h = subst P (sym (leg_is leg (co 0) h)) p

move_quiet : (p : Passage ClientRole) (move : Move) → IsQuiet p
    → IsQuiet (moved client_rules p move)
move_quiet p (Up leg cookie) q =
    record { above = up_above p.role leg.number cookie leg.kind q.above; quiet = q.quiet }
move_quiet p (HeadCame leg text) q = record { above = q.above; quiet = q.quiet }
move_quiet p (PduCame leg count bytes) q =
    row_quiet p leg (Pdu bytes) (pdu p.role leg count bytes)
    (pdu_above p.role leg.number bytes leg.kind q.above)
    (on_leg (λ (l : Leg). is_ok (pdu p.role l count bytes).1 ≡ false) leg
    (pdu_refused p.role count bytes q.above)) q
move_quiet p (PacketCame leg count m) q =
    row_quiet p leg (Packet m) (packet p.role leg count m)
    (packet_above p.role leg.number count m leg.kind q.above)
    (on_leg (λ (l : Leg). is_ok (packet p.role l count m).1 ≡ false) leg
    (packet_refused p.role count m q.above)) q
move_quiet p (Puts leg) q =
    pick_quiet p leg (put p.role leg)
    (settled_pick_above (put_by p.role leg.number leg.kind)
    (put_by_above p.role leg.number leg.kind q.above)) q
move_quiet p (IsDrawn leg) q =
    record { above = drawn_above p.role leg.number leg.kind q.above; quiet = q.quiet }
move_quiet p (Marks leg) q = record { above = q.above; quiet = q.quiet }
move_quiet p (Pings leg) q =
    record { above = ping_above p.role leg.number leg.kind q.above; quiet = q.quiet }

-- ---- and at an end

abbrev IsQuietEnd : EndPassage ClientRole → Type 0
IsQuietEnd p = IsQuiet p.passage

given_quiet : (p : EndPassage ClientRole) (bytes : List ℕ) (x : Given) → Above x.0
    → IsQuietEnd p → IsQuietEnd (given_by p bytes x)
given_quiet p bytes (f, Ok accepted) a q = record { above = a; quiet = q.quiet }
given_quiet p bytes (f, Err refused) a q = record { above = a; quiet = q.quiet }

first_quiet : (p : EndPassage ClientRole) (pdus : List (List ℕ)) → IsQuietEnd p
    → IsQuietEnd (with_first p pdus)
first_quiet p [] q = q
first_quiet p (pdu ∷ pdus) q = q

end_quiet : (p : EndPassage ClientRole) (move : EndMove) → IsQuietEnd p
    → IsQuietEnd (end_moved client_rules acts p move)
end_quiet p (Moves move) q = move_quiet p.passage move q
end_quiet p (Gives bytes) q =
    let s = p.passage.role in
    given_quiet p bytes (give s bytes) (same_above s (give s bytes).0 (search rules) q.above) q
end_quiet p Takes q =
    let s : ClientRole = p.passage.role in
    first_quiet (end_now_at p (take s)) s.line.current.pdus (record {
      above = passed_above (record s { line = after_take s.line }) s.replacement refl q.above;
      quiet = q.quiet;
    })
end_quiet p Closes q = record { above = q.above; quiet = q.quiet }
end_quiet p Recycles q =
    record {
      above = recycle_above p.passage.role p.passage.role.replacement q.above;
      quiet = q.quiet;
    }

all_quiet : (p : EndPassage ClientRole) (moves : List EndMove) → IsQuietEnd p
    → IsQuietEnd (all_end_moved client_rules acts p moves)
all_quiet p [] q = q
all_quiet p (move ∷ moves) q =
    all_quiet (end_moved client_rules acts p move) moves (end_quiet p move q)

pub client_quiet : (config : ClientConfig) (moves : List EndMove)
    → IsQuiet (client_moved config moves).passage
client_quiet config moves =
    all_quiet (client_started config) moves (record {
      above = record { current = omega arith; successor = λ o. absurd cc };
      quiet = refl;
    })
