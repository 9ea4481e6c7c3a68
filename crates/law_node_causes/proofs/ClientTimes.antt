-- a client watches its OUT channels for the times that it was told
use Rattle.law_order.proofs.Vocabulary.{◌≡◌, inl, inr, ℕ, ◌==◌, ◌&&◌, ◌||◌, List, [], ◌∷◌, ◌++◌, Bool, true, false, cond, Some, None, Ok, Err, refl, sym, ◌∙◌, subst, arith, Result}
use Rattle.rh_sig.specs.declared.named.Named.TheVariants as named
use Rattle.rh_client.specs.declared.replacement.Replacement.{Replacement}
use Rattle.rh_client.specs.declared.replacement.Replacement.TheVariants.{NoneUnderWay, In, Out}
use Rattle.rh_client.specs.declared.state.ClientRole.{ClientRole}
use Rattle.rh_client.specs.Channels.{is_asked}
use Rattle.rh_client.specs.Replacements.{is_out}
use Rattle.rh_client.specs.State.{Done, first, taken, unexpected, is_current, is_out_successor}
use Rattle.rh_client.specs.Opening.{on_conn_a3}
use Rattle.rh_client.specs.OutReplacement.{a6_by, on_out_r1_a6}
use Rattle.rh_client.specs.Ending.{give, take}
use Rattle.rh_client.specs.Putting.{Pick, put_by, put}
use Rattle.rh_client.specs.Time.{silence_by}
use Rattle.rh_client.specs.Client.{pdu, packet, packet_by, on_packet}
use Rattle.rh_client.specs.declared.replacement.OutStage.TheVariants as out_stage
use Rattle.rh_client.specs.Client as client
use Rattle.law_moves.proofs.Vocabulary.{by_test, same_number, Named, ClientConfig, Leg, LegKind, ClientOut, OutServer, ClientIn, InServer, Count, GiveRefused, is_zero, Message, Pdu, Packet, Shell, OnLeg, Move, Up, HeadCame, PduCame, PacketCame, Puts, IsDrawn, Marks, Pings, Passage, EndMove, EndPassage, Moves, Gives, Takes, Closes, Recycles, AreAllowedAtEnd, moved, end_moved, end_now_at, all_end_moved, end_started, taken_by, put_by as put_on, given_by, with_first, EndFollows}
use Rattle.law_moves.proofs.Lemmas.{both}
use Rattle.law_node_causes.proofs.MoveRoles.{behind_put}
use Rattle.law_node_causes.proofs.ClientLegs.{client_keeps, first_is}
use Rattle.law_node_causes.proofs.ClientSteps.{Sides, sides, StepLaws, with_replacement, packet_later, pdu_later, up_later, pick_later, put_by_later, drawn_same, ping_same, give_same, take_later, recycle_later}
use Rattle.law_node_causes.specs.Numbers.{ClientIsNumbered}
use Rattle.law_node_causes.specs.Watching.{Tells, WasTold, IsWatched, Watches}

-- ---- what was told

more_told : (n t : ℕ) (log : List OnLeg) (last : OnLeg) → WasTold n t log
    → WasTold n t (log ++ last ∷ [])
more_told n t [] last h = absurd h
more_told n t (one ∷ log) last (inl h) = inl h
more_told n t (one ∷ log) last (inr h) = inr (more_told n t log last h)

last_told : (n t : ℕ) (log : List OnLeg) (last : OnLeg) → Tells n t last.1
    → WasTold n t (log ++ last ∷ [])
last_told n t [] last h = inl h
last_told n t (one ∷ log) last h = inr (last_told n t log last h)

-- the times of the OUT channels were told by what came
record AreTold (came : List OnLeg) (x : Sides) : Type 0 where
  now : (t : ℕ) → x.outs.limit ≡ Some t → WasTold x.outs.now t came
  next : x.outs.under_way ≡ true → (t : ℕ) → x.outs.next_limit ≡ Some t
      → WasTold x.outs.next t came

grown : (came : List OnLeg) (last : OnLeg) (x : Sides) → AreTold came x
    → AreTold (came ++ last ∷ []) x
grown came last x told = record {
  now = λ t is. more_told x.outs.now t came last (told.now t is);
  next = λ e t is. more_told x.outs.next t came last (told.next e t is);
}

abbrev Step : List OnLeg → Sides → Sides → Type 0
Step came x y = AreTold came y

telling : (came : List OnLeg) → StepLaws (AreTold came) (Step came)
telling came = record {
  self = λ x told. told;
  joined = λ x y z p q. q;
  good = λ x y p. p;
  in_now = λ x told. record { now = told.now; next = told.next };
  in_next = λ x told. record { now = told.now; next = told.next };
  out_now = λ x told. record { now = told.now; next = told.next };
  out_next = λ x told. record { now = told.now; next = told.next };
  in_begins = λ x e last told. record { now = told.now; next = told.next };
  out_begins = λ x e last told. record { now = told.now; next = λ f t is. absurd cc };
  in_shifts = λ x e told. record { now = told.now; next = told.next };
  out_shifts = λ x e told. record {
    now = λ t is. told.next e t is;
    next = λ f t is. absurd cc;
  };
}

-- ---- rows

-- behind a row's answer to a message
abbrev RowTold : Passage ClientRole → Leg → Message → Done → Type 0
RowTold p leg message x =
    AreTold (taken_by p leg message x).came (sides (taken_by p leg message x).role)

-- a message that tells nothing
quiet : (p : Passage ClientRole) (leg : Leg) (message : Message) (x : Done)
    → AreTold p.came (sides x.0) → RowTold p leg message x
quiet p leg message (t, Ok took) told = grown p.came (leg, message) (sides t) told
quiet p leg message (t, Err why) told = told

a3_told : (p : Passage ClientRole) (leg : Leg) (n : ℕ) (count : Count) (timeout : ℕ)
    → AreTold p.came (sides p.role)
    → RowTold p leg (Packet (named.ConnA3 timeout)) (on_conn_a3 p.role n count timeout)
a3_told p leg n count timeout told =
    let s = p.role in
    by_test (RowTold p leg (Packet (named.ConnA3 timeout)))
    (n == 1 && (is_current s n && is_zero count))
    (taken (record s { current = record (s.current) { timeout = Some timeout } })) (unexpected s)
    (λ e. let parts = both (n == 1) (is_current s n && is_zero count) e in
    let one : n ≡ 1 = same_number n 1 parts.0 in
    let current : n ≡ s.current.number =
    same_number n s.current.number (both (is_current s n) (is_zero count) parts.1).0 in
    record {
      now = λ t is.
          last_told s.current.number t p.came (leg, Packet (named.ConnA3 timeout))
          (sym current ∙ one, cc);
      next = λ f t is.
          more_told s.out_successor.number t p.came (leg, Packet (named.ConnA3 timeout))
          (told.next f t is);
    })
    (λ e. told)

-- with a replacement under way or none
abbrev with_passage : Passage ClientRole → Replacement → Passage ClientRole
with_passage p r = record p { role = with_replacement p.role r }

a6_by_told : (p : Passage ClientRole) (leg : Leg) (to version timeout : ℕ) (r : Replacement)
    → ClientIsNumbered (with_replacement p.role r)
    → AreTold p.came (sides (with_replacement p.role r))
    → RowTold (with_passage p r) leg (Packet (named.OutR1A6 to version timeout))
    (a6_by (with_replacement p.role r) timeout r)
a6_by_told p leg to version timeout NoneUnderWay is told = told
a6_by_told p leg to version timeout (In stage w) is told = told
a6_by_told p leg to version timeout (Out out_stage.Answered w) is told = told
a6_by_told p leg to version timeout (Out out_stage.Switched w) is told = told
a6_by_told p leg to version timeout (Out out_stage.Finished w) is told = told
a6_by_told p leg to version timeout (Out out_stage.Asked w) is told =
    let s : ClientRole = with_replacement p.role (Out out_stage.Asked w) in
    let last : OnLeg = (leg, Packet (named.OutR1A6 to version timeout)) in
    by_test
    (RowTold (with_passage p (Out out_stage.Asked w)) leg
    (Packet (named.OutR1A6 to version timeout))) (is_asked s.out_successor.opening)
    (taken (record s {
      out_successor = record (s.out_successor) { timeout = Some timeout };
      replacement = Out out_stage.Answered w;
    })) (unexpected s)
    (λ e. record {
      now = λ t same. more_told s.current.number t p.came last (told.now t same);
      next = λ f t same.
          let behind = is.outs.behind refl in
          last_told s.out_successor.number t p.came last
          (omega (arith, is.outs.first, behind), cc);
    })
    (λ e. told)

a6_told : (p : Passage ClientRole) (leg : Leg) (n to version timeout : ℕ)
    → ClientIsNumbered p.role → AreTold p.came (sides p.role)
    → RowTold p leg (Packet (named.OutR1A6 to version timeout))
    (on_out_r1_a6 p.role n to timeout)
a6_told p leg n to version timeout is told =
    by_test (RowTold p leg (Packet (named.OutR1A6 to version timeout)))
    (to == 0 && is_current p.role n) (a6_by p.role timeout p.role.replacement)
    (unexpected p.role)
    (λ e. a6_by_told p leg to version timeout p.role.replacement is told) (λ e. told)

-- on a leg that is the current channel's or its successor's
on_told : (p : Passage ClientRole) (leg : Leg) (count : Count) (packet : Named) (k : LegKind)
    → AreTold p.came (sides p.role)
    → RowTold p leg (Packet packet) (on_packet p.role leg.number count packet)
    → RowTold p leg (Packet packet) (packet_by p.role leg.number count packet k)
on_told p leg count packet ClientOut told row =
    by_test (RowTold p leg (Packet packet))
    (is_current p.role leg.number || is_out_successor p.role leg.number)
    (on_packet p.role leg.number count packet) (unexpected p.role) (λ e. row) (λ e. told)
on_told p leg count packet OutServer told row = told
on_told p leg count packet ClientIn told row = told
on_told p leg count packet InServer told row = told

packet_told : (p : Passage ClientRole) (leg : Leg) (count : Count) (packet : Named)
    → ClientIsNumbered p.role → AreTold p.came (sides p.role)
    → RowTold p leg (Packet packet) (packet_by p.role leg.number count packet leg.kind)
packet_told p leg count (named.ConnA3 timeout) is told =
    on_told p leg count (named.ConnA3 timeout) leg.kind told
    (a3_told p leg leg.number count timeout told)
packet_told p leg count (named.OutR1A6 to version timeout) is told =
    on_told p leg count (named.OutR1A6 to version timeout) leg.kind told
    (a6_told p leg leg.number to version timeout is told)
packet_told p leg count packet is told =
    quiet p leg (Packet packet) (packet_by p.role leg.number count packet leg.kind)
    (packet_later (AreTold p.came) (Step p.came) (telling p.came) p.role leg.number count packet
    leg.kind (record { a3 = λ timeout e. absurd cc; a6 = λ to version timeout e. absurd cc })
    told)

-- ---- moves

put_told : (p : Passage ClientRole) (leg : Leg) (pick : Pick)
    → AreTold p.came (sides (behind_put p.role pick))
    → AreTold (put_on p leg pick).came (sides (put_on p leg pick).role)
put_told p leg None told = told
put_told p leg (Some pick) told = told

move_told : (p : Passage ClientRole) (move : Move) → ClientIsNumbered p.role
    → AreTold p.came (sides p.role)
    → AreTold (moved client.rules p move).came (sides (moved client.rules p move).role)
move_told p (Up leg cookie) is told =
    up_later (AreTold p.came) (Step p.came) (telling p.came) p.role leg.number cookie leg.kind told
move_told p (HeadCame leg text) is told = told
move_told p (PduCame leg count bytes) is told =
    quiet p leg (Pdu bytes) (pdu p.role leg count bytes)
    (pdu_later (AreTold p.came) (Step p.came) (telling p.came) p.role leg.number bytes leg.kind
    told)
move_told p (PacketCame leg count packet) is told = packet_told p leg count packet is told
move_told p (Puts leg) is told =
    put_told p leg (put p.role leg)
    (pick_later (AreTold p.came) (Step p.came) (telling p.came) p.role
    (put_by p.role leg.number leg.kind) told
    (put_by_later (AreTold p.came) (Step p.came) (telling p.came) p.role leg.number leg.kind told))
move_told p (IsDrawn leg) is told =
    subst (AreTold p.came) (sym (drawn_same (AreTold p.came) (Step p.came) (telling p.came) p.role
    leg.number leg.kind)) told
move_told p (Marks leg) is told = told
move_told p (Pings leg) is told =
    subst (AreTold p.came) (sym (ping_same (AreTold p.came) (Step p.came) (telling p.came) p.role
    leg.number leg.kind)) told

given_told : (p : EndPassage ClientRole) (bytes : List ℕ)
    (x : ClientRole × Result (Unit {0}) GiveRefused) → AreTold p.passage.came (sides x.0)
    → AreTold (given_by p bytes x).passage.came (sides (given_by p bytes x).passage.role)
given_told p bytes (t, Ok accepted) told = told
given_told p bytes (t, Err refused) told = told

first_told : (p : EndPassage ClientRole) (pdus : List (List ℕ))
    → AreTold p.passage.came (sides p.passage.role)
    → AreTold (with_first p pdus).passage.came (sides (with_first p pdus).passage.role)
first_told p [] told = told
first_told p (bytes ∷ pdus) told = told

call_told : (p : EndPassage ClientRole) (move : EndMove) → ClientIsNumbered p.passage.role
    → AreTold p.passage.came (sides p.passage.role)
    → AreTold (end_moved client.rules client.acts p move).passage.came
    (sides (end_moved client.rules client.acts p move).passage.role)
call_told p (Moves move) is told = move_told p.passage move is told
call_told p (Gives bytes) is told =
    let came = p.passage.came in
    given_told p bytes (give p.passage.role bytes)
    (subst (AreTold came) (sym (give_same (AreTold came) (Step came) (telling came)
    p.passage.role bytes)) told)
call_told p Takes is told =
    let came = p.passage.came in
    first_told (end_now_at p (take p.passage.role)) p.passage.role.line.current.pdus
    (take_later (AreTold came) (Step came) (telling came) p.passage.role told)
call_told p Closes is told = record { now = told.now; next = told.next }
call_told p Recycles is told =
    let came = p.passage.came in
    recycle_later (AreTold came) (Step came) (telling came) p.passage.role
    p.passage.role.replacement told

run_told : (p : EndPassage ClientRole) (moves : List EndMove)
    → AreAllowedAtEnd client.rules client.acts p moves → ClientIsNumbered p.passage.role
    → AreTold p.passage.came (sides p.passage.role)
    → AreTold (all_end_moved client.rules client.acts p moves).passage.came
    (sides (all_end_moved client.rules client.acts p moves).passage.role)
run_told p [] allowed is told = told
run_told p (move ∷ moves) allowed is told =
    run_told (end_moved client.rules client.acts p move) moves allowed.1
    (client_keeps.kept p move is allowed.0) (call_told p move is told)

-- ---- what is watched

watched : (came : List OnLeg) (s : ClientRole) (leg : Leg) (limit : ℕ) (k : LegKind)
    → leg.kind ≡ k → AreTold came (sides s) → silence_by s leg.number k ≡ Some limit
    → IsWatched came leg limit
watched came s leg limit OutServer kind told e = absurd cc
watched came s leg limit ClientIn kind told e = absurd cc
watched came s leg limit InServer kind told e = absurd cc
watched came s leg limit ClientOut kind told e =
    record { kind = kind; told = by (is_current s leg.number) refl e }
  where
    by_next : (t : Bool) → is_out_successor s leg.number ≡ t
        → cond t s.out_successor.timeout None ≡ Some limit → WasTold leg.number limit came
    by_next false f is = absurd cc
    by_next true f is =
        let parts = both (is_out s.replacement) (leg.number == s.out_successor.number) f in
        subst (λ (n : ℕ). WasTold n limit came)
        (sym (same_number leg.number s.out_successor.number parts.1))
        (told.next parts.0 limit is)

    by : (t : Bool) → is_current s leg.number ≡ t
        → cond t s.current.timeout
        (cond (is_out_successor s leg.number) s.out_successor.timeout None) ≡ Some limit
        → WasTold leg.number limit came
    by true f is =
        subst (λ (n : ℕ). WasTold n limit came) (sym (same_number leg.number s.current.number f))
        (told.now limit is)
    by false f is = by_next (is_out_successor s leg.number) refl is

pub watches : (config : ClientConfig) (node : Shell ClientRole)
    → EndFollows client.rules client.acts (end_started (first config)) node
    → Watches config node
watches config node f =
    let told : AreTold f.passage.passage.came (sides f.passage.passage.role) =
    subst (λ (p : EndPassage ClientRole). AreTold p.passage.came (sides p.passage.role))
    f.leads.reached
    (run_told (end_started (first config)) f.leads.moves f.leads.allowed (first_is config)
    (record { now = λ t is. absurd cc; next = λ e t is. absurd cc })) in
    record {
      passage = f.passage;
      leads = f.leads;
      role = f.role;
      watched = λ leg limit e.
          watched f.passage.passage.came node.role leg limit leg.kind refl
          (subst (λ (s : ClientRole). AreTold f.passage.passage.came (sides s)) f.role told) e;
    }
