-- an acknowledgement to an out proxy is put on the leg of its channel
use Rattle.law_order.proofs.Vocabulary.{◌≡◌, ◌⊎◌, ℕ, ◌==◌, ◌&&◌, List, [], ◌∷◌, ◌++◌, Bool, true, false, if◌then◌else◌, Some, None, Ok, Err, inl, inr, refl, sym, ap, ◌∙◌, subst, false≢true, bytes_eq-Decides, IfSome, slice_get, find, AllByRecursion, bytes_eq, Option, Result}
use Rattle.rh_sig.specs.declared.named.Named.TheVariants as named
use Rattle.rh_shell.specs.declared.answers.Count.TheVariants.{One}
use Rattle.rh_shell.specs.declared.answers.Refused.TheVariants as refused
use Rattle.law_moves.proofs.Vocabulary.{may_put, by_test, Cookie, Named, front_length, Leg, LegKind, ClientOut, OutServer, ClientIn, InServer, Due, GiveRefused, Message, Pdu, Packet, Row, same_leg, taken, OnLeg, Move, Up, HeadCame, PduCame, PacketCame, Puts, IsDrawn, Marks, Pings, Passage, EndMove, Moves, Gives, Takes, Closes, Recycles, EndPassage, AreAllowedAtEnd, moved, taken_by, put_by, end_moved, end_now_at, end_started, given_by, with_first, all_end_moved, of_leg, Has}
use Rattle.law_moves.proofs.Vocabulary.{HasOne}
use Rattle.law_moves.proofs.Lemmas.{all_append, leg_more, one_more_so}
use Rattle.law_role_server.proofs.Vocabulary.{OutLeg, lets, lets_packet, Server, same_cookie, is_due, is_open, no_cookie, out_at, out_place, out_cookie, cookie_by, acked_cookie, Pick, or_else, cookie_or_none, out_greeting_at, put_out_greeting, gate, gate_at, waiting_by, waiting_at, put_waiting, may_go_at, pdu_by, put_pdu, is_end_due, may_end_at, put_end, put_pdu_or_end, next_out, settled_pick, put_open, put_out_place, put_out_at, put_by as put_by_kind, acts, first}
use Rattle.law_role_server.proofs.Vocabulary.{rules as server_rules}
use Rattle.law_role_server.proofs.Counted.Dues.{found_may}
use Rattle.law_role_server_rows.proofs.InTurn.Reaching.{reached_keep}
use Rattle.law_role_server_rows.proofs.InTurn.Splits.{leg_is}
use Rattle.law_role_server_rows.specs.Putting.Puts.{os}
use Rattle.law_role_server_rows.specs.Refusing.Cookies.{OpensOut, IsOutChannel}
use Rattle.law_role_server_rows.specs.Refusing.Refusing.{RefusesFor}
use Rattle.law_role_server_rows.specs.InTurn.Acks.{PassesOnOwn}

-- ---- the cookie of an OUT channel came: a server that got another one would refuse it

-- a cookie that is another one
apart : (bytes : List ℕ) → (other : List ℕ) × (bytes_eq bytes other ≡ false)
apart [] = (0 ∷ [], refl)
apart (b ∷ bytes) = ([], refl)

channel_came : (p : Passage Server) → RefusesFor p → (n : ℕ) (cookie : Cookie)
    → out_cookie n p.role.outs ≡ Some cookie → IsOutChannel n cookie p.came
channel_came p refuses n cookie is =
    (refuses.mismatch (os n) One (named.Ack 0 0 other) cookie other
    (subst (λ (o : Option Cookie). (acked_cookie p.role n 0 0 other o).1
    ≡ Err (refused.Cookie cookie other)) (sym is)
    (by_test (λ (x : Server × Row). x.1 ≡ Err (refused.Cookie cookie other))
    (same_cookie cookie other) _ _ (λ e. absurd (false≢true (sym differs ∙ e))) (λ e. refl)))).1
  where
    other : Cookie
    other = record { 0 = (apart cookie.0).0 }

    differs : same_cookie cookie other ≡ false
    differs = (apart cookie.0).1

-- ---- what is put

abbrev Own : List OnLeg → ℕ → Cookie → Type 0
Own came n cookie = IsOutChannel n cookie came ⊎ (cookie ≡ no_cookie)

abbrev OwnsAt : List OnLeg → LegKind → ℕ → Message → Type 0
OwnsAt came OutServer n (Packet (named.AckTo to received window cookie)) =
    to ≡ 3 → Own came n cookie
OwnsAt came kind n m = Unit {0}

abbrev Owns : List OnLeg → OnLeg → Type 0
Owns came (leg, m) = OwnsAt came leg.kind leg.number m

same_so : (a b : Cookie) → same_cookie a b ≡ true → a ≡ b
same_so a b e =
    ap (λ (bytes : List ℕ). record { 0 = bytes }) ((bytes_eq-Decides a.0 b.0).0 e)

own_more : (came : List OnLeg) (one : OnLeg) (n : ℕ) (cookie : Cookie) → Own came n cookie
    → Own (came ++ one ∷ []) n cookie
own_more came one n cookie (inl h) =
    inl (subst (HasOne (OpensOut cookie)) (sym (leg_more (os n) came one))
    (one_more_so (OpensOut cookie) (of_leg (os n) came) (of_leg (os n) (one ∷ [])) h))
own_more came one n cookie (inr h) = inr h

owns_more : (came : List OnLeg) (one : OnLeg) (kind : LegKind) (n : ℕ) (m : Message)
    → OwnsAt came kind n m → OwnsAt (came ++ one ∷ []) kind n m
owns_more came one OutServer n (Packet (named.AckTo to received window cookie)) h =
    λ is. own_more came one n cookie (h is)
owns_more came one kind n m h = tt

all_owned : (came : List OnLeg) (one : OnLeg) (put : List OnLeg)
    → AllByRecursion (Owns came) put → AllByRecursion (Owns (came ++ one ∷ [])) put
all_owned came one [] h = tt
all_owned came one ((leg, m) ∷ put) h =
    (owns_more came one leg.kind leg.number m h.0, all_owned came one put h.1)

-- ---- a put

abbrev PickOwns : List OnLeg → LegKind → ℕ → Pick → Type 0
PickOwns came kind n pick =
    IfSome pick (λ (one : Server × Message). OwnsAt came kind n one.1)

module _ (s : Server) (came : List OnLeg) (n : ℕ)
    (knows : (cookie : Cookie) → out_cookie n s.outs ≡ Some cookie
    → IsOutChannel n cookie came) where
  abbrev Goes : Pick → Type 0
  Goes pick = PickOwns came OutServer n pick

  or_goes : (a b : Pick) → Goes a → Goes b → Goes (or_else a b)
  or_goes None b h k = k
  or_goes (Some pick) b h k = h

  settled_goes : (pick : Pick) → Goes pick → Goes (settled_pick pick)
  settled_goes None h = tt
  settled_goes (Some pick) h = h

  own_by : (o : Option Cookie) (cookie : Cookie) → out_cookie n s.outs ≡ o
      → cookie ≡ cookie_or_none o → Own came n cookie
  own_by None cookie at is = inr is
  own_by (Some channel) cookie at is =
      inl (knows cookie (at ∙ ap (λ (c : Cookie). Some c) (sym is)))

  let_owns : (leg : OutLeg) → out_cookie n s.outs ≡ leg.cookie → (packet : Named)
      → lets_packet (gate s leg) packet ≡ true → OwnsAt came OutServer n (Packet packet)
  let_owns leg at (named.AckTo to received window cookie) e = λ three.
      by (to == 3) (ap (λ (k : ℕ). k == 3) three) e
    where
      by : (b : Bool) → b ≡ true
          → (if b then same_cookie cookie (cookie_or_none leg.cookie)
          else (leg.number == s.writing) && may_put leg.meter 56) ≡ true
          → Own came n cookie
      by true three e =
          own_by leg.cookie cookie at (same_so cookie (cookie_or_none leg.cookie) e)
      by false three e = absurd (false≢true three)
  let_owns leg at packet e = tt

  waiting_goes : (place : ℕ) (o : Option OutLeg) → out_place n s.outs ≡ Some place
      → slice_get s.outs place ≡ o → Goes (waiting_at s place (gate_at s o))
  waiting_goes place None is at = tt
  waiting_goes place (Some leg) is at =
      by (find (lets (gate s leg)) s.waiting.due)
      (found_may (lets (gate s leg)) s.waiting.due)
    where
      has : out_cookie n s.outs ≡ leg.cookie
      has =
          ap (λ (o : Option ℕ). cookie_by (out_at s.outs o)) is ∙ ap cookie_by at

      by : (x : Option Due) → IfSome x (λ (due : Due). lets (gate s leg) due ≡ true)
          → Goes (waiting_by s place ((taken (lets (gate s leg)) s.waiting).0, x))
      by None may = tt
      by (Some due) may = let_owns leg has due.packet may

  place_goes : (place : ℕ) → out_place n s.outs ≡ Some place → Goes (put_out_place s place)
  place_goes place is =
      or_goes (put_out_greeting s place) (put_open s place) (greets (slice_get s.outs place))
      (by_test Goes (is_open s.stage) (settled_pick (next_out s place)) None
      (λ e. settled_goes (next_out s place)
      (or_goes (put_waiting s place) (put_pdu_or_end s place)
      (waiting_goes place (slice_get s.outs place) is refl)
      (or_goes (put_pdu s place) (put_end s place) (sends (front_length s.queue)) ends)))
      (λ e. tt))
    where
      greets : (o : Option OutLeg) → Goes (out_greeting_at s place o)
      greets None = tt
      greets (Some leg) = by_test Goes (is_due leg.greeting) _ None (λ e. tt) (λ e. tt)

      sends : (len : Option ℕ) → Goes (pdu_by s place len)
      sends None = tt
      sends (Some len) =
          by_test Goes (may_go_at s len (slice_get s.outs place)) _ None (λ e. tt) (λ e. tt)

      ends : Goes (put_end s place)
      ends = by_test Goes (is_end_due s && may_end_at s (slice_get s.outs place)) _ None
          (λ e. tt) (λ e. tt)

  out_goes : (place : Option ℕ) → out_place n s.outs ≡ place → Goes (put_out_at s place)
  out_goes None is = tt
  out_goes (Some place) is = place_goes place is

put_owns : (s : Server) (came : List OnLeg) (n : ℕ) (kind : LegKind)
    → ((cookie : Cookie) → out_cookie n s.outs ≡ Some cookie → IsOutChannel n cookie came)
    → PickOwns came kind n (put_by_kind s n kind)
put_owns s came n OutServer knows = out_goes s came n knows (out_place n s.outs) refl
put_owns s came n InServer knows = by (put_by_kind s n InServer)
  where
    by : (pick : Pick) → PickOwns came InServer n pick
    by None = tt
    by (Some one) = tt
put_owns s came n ClientIn knows = tt
put_owns s came n ClientOut knows = tt

-- ---- moves

abbrev Holds : Passage Server → Type 0
Holds p = AllByRecursion (Owns p.came) p.put

row_owns : (p : Passage Server) (leg : Leg) (m : Message) (x : Server × Row) → Holds p
    → Holds (taken_by p leg m x)
row_owns p leg m (t, Ok taken) h = all_owned p.came (leg, m) p.put h
row_owns p leg m (t, Err why) h = h

pick_owns : (p : Passage Server) (leg : Leg) (pick : Pick)
    → PickOwns p.came leg.kind leg.number pick → Holds p → Holds (put_by p leg pick)
pick_owns p leg None goes h = h
pick_owns p leg (Some one) goes h =
    all_append (Owns p.came) p.put ((leg, one.1) ∷ []) h (goes, tt)

move_owns : (p : Passage Server) (move : Move) → RefusesFor p → Holds p
    → Holds (moved server_rules p move)
move_owns p (Up leg cookie) refuses h = h
move_owns p (HeadCame leg text) refuses h = h
move_owns p (PduCame leg count bytes) refuses h =
    row_owns p leg (Pdu bytes) (server_rules.pdu p.role leg count bytes) h
move_owns p (PacketCame leg count m) refuses h =
    row_owns p leg (Packet m) (server_rules.packet p.role leg count m) h
move_owns p (Puts leg) refuses h =
    pick_owns p leg (server_rules.put p.role leg)
    (put_owns p.role p.came leg.number leg.kind (channel_came p refuses leg.number)) h
move_owns p (IsDrawn leg) refuses h = h
move_owns p (Marks leg) refuses h = h
move_owns p (Pings leg) refuses h = h

end_move_owns : (p : EndPassage Server) (move : EndMove) → RefusesFor p.passage
    → Holds p.passage → Holds (end_moved server_rules acts p move).passage
end_move_owns p (Moves move) refuses h = move_owns p.passage move refuses h
end_move_owns p (Gives bytes) refuses h = by (acts.give p.passage.role bytes)
  where
    by : (x : Server × Result (Unit {0}) GiveRefused) → Holds (given_by p bytes x).passage
    by (t, Ok accepted) = h
    by (t, Err why) = h
end_move_owns p Takes refuses h = by (acts.line p.passage.role).current.pdus
  where
    by : (pdus : List (List ℕ))
        → Holds (with_first (end_now_at p (acts.take p.passage.role)) pdus).passage
    by [] = h
    by (pdu ∷ pdus) = h
end_move_owns p Closes refuses h = h
end_move_owns p Recycles refuses h = h

-- ---- the law

abbrev pub Refuses : ℕ → Type 0
Refuses window =
    (moves : List EndMove)
    → AreAllowedAtEnd server_rules acts (end_started (first window)) moves
    → RefusesFor (all_end_moved server_rules acts (end_started (first window)) moves).passage

owned_in : (came : List OnLeg) (n received window : ℕ) (cookie : Cookie) (put : List OnLeg)
    → AllByRecursion (Owns came) put
    → Has (named.AckTo 3 received window cookie) (of_leg (os n) put) → Own came n cookie
owned_in came n received window cookie [] all has = absurd has
owned_in came n received window cookie ((leg, m) ∷ put) all has =
    by_test (λ (ms : List Message). Has (named.AckTo 3 received window cookie) ms
    → Own came n cookie) (same_leg leg (os n)) (m ∷ of_leg (os n) put) (of_leg (os n) put)
    (λ e has. by e (owned_in came n received window cookie put all.1) has)
    (λ e has. owned_in came n received window cookie put all.1 has) has
  where
    by : same_leg leg (os n) ≡ true
        → (Has (named.AckTo 3 received window cookie) (of_leg (os n) put) → Own came n cookie)
        → Has (named.AckTo 3 received window cookie) (m ∷ of_leg (os n) put)
        → Own came n cookie
    by e later (inl is) =
        subst (λ (x : Message). OwnsAt came OutServer n x) is
        (subst (λ (l : Leg). OwnsAt came l.kind l.number m) (leg_is OutServer n leg e) all.0) refl
    by e later (inr rest) = later rest

pub passes_on_own : (window : ℕ) → Refuses window → (moves : List EndMove)
    → AreAllowedAtEnd server_rules acts (end_started (first window)) moves
    → PassesOnOwn (all_end_moved server_rules acts (end_started (first window)) moves).passage
passes_on_own window refuses moves may n received available cookie has =
    let p = (all_end_moved server_rules acts (end_started (first window)) moves).passage in
    owned_in p.came n received available cookie p.put
    (reached_keep server_rules acts (end_started (first window))
    (λ (q : EndPassage Server). Holds q.passage)
    (λ q move reached allowed h.
    end_move_owns q move
    (subst (λ (r : EndPassage Server). RefusesFor r.passage) reached.is
    (refuses reached.moves reached.allowed)) h)
    moves may tt)
    has
