-- where IN_R1/A6 came on an is leg, the server has left it
use Rattle.law_order.proofs.Vocabulary.{◌≡◌, ◌⊎◌, inl, inr, ℕ, ◌+◌, ◌<◌, ◌≤◌, ◌==◌, ◌&&◌, ◌||◌, Bool, true, false, true≢false, false≢true, not, if◌then◌else◌, List, [], ◌∷◌, ◌++◌, Some, None, Ok, Err, refl, rules, sym, ap, ◌∙◌, subst, cases_lt, and_parts, IfSome, IsTrue, Option, Result, Item, more, has_handover}
use Rattle.rh_sig.specs.declared.named.Named.TheVariants as named
use Rattle.rh_server.specs.Servers.{pdu_by}
use Rattle.rh_server.specs.declared.state.Leaving.TheVariants as leaving
use Rattle.rh_server.specs.declared.state.Stage.TheVariants as stage
use Rattle.rh_server.specs.declared.out_line.Kind.TheVariants as kinds
use Rattle.law_moves.proofs.Vocabulary.{by_test, other_number, same_number, test_same, has_handover-append, Cookie, Named, more_here, more_other, is_of, Leg, LegKind, ClientOut, OutServer, ClientIn, InServer, Count, GiveRefused, Message, Pdu, Packet, OnLeg, Move, Up, HeadCame, PduCame, PacketCame, Puts, IsDrawn, Marks, Pings, MayMove, Passage, EndMove, Moves, Gives, Takes, Closes, Recycles, EndPassage, MayEndMove, AreAllowedAtEnd, is_in_use, moved, taken_by, put_by, end_moved, end_now_at, end_started, given_by, with_first, all_end_moved}
use Rattle.law_role_server.proofs.Vocabulary.{InLeg, Server, Done, Pick, is_put, stays, same_cookie, channel_at, ended_on, on_ack_to, conn_a2_at, is_first, on_conn_a2, opens, waits, with_first_out, Stage, in_leg, in_place, set_at, with_in, without_in, without_out, with_ack_dropped, leaves_by, hands_over, on_in_r1_a6, took, unexpected, up, up_by, may_up_by, has_room, give, take, recycle, on_is, on_os, packet_by, on_pdu, put_in, put_out, put_by as put_by_kind, drawn_by, in_is_drawn, mark_by, lost_in, settled, in_only_marks, rules as server_rules, acts, first, leg_at, in_items, items_on, got}
use Rattle.law_role_server.proofs.Gives.{log_more, log_other}
use Rattle.law_role_server.proofs.Numbered.{Once, absent_at, once_at, once_set}
use Rattle.law_role_server_rows.proofs.InTurn.InPlaces.{Found, Placed, found_at, placed}
use Rattle.law_role_server_rows.proofs.InTurn.InKept.{number_of}
use Rattle.law_role_server_rows.proofs.Putting.Each.{number_found}
use Rattle.law_role_server_in.proofs.Tallies.{Tally, tally}
use Rattle.law_role_server_in.proofs.Kept.{Kept, Look, So, top_of}
use Rattle.law_role_server_in.proofs.Takes.{IsKept, ack_to_same, out_look, pdu_same}
use Rattle.law_role_server_in.proofs.Puts.{settled_same}
use Rattle.law_role_server_in.proofs.Steps.{AllHold, end_move_keeps, give_same, in_use, known, recycle_same}
use Rattle.law_role_marks.proofs.InLeaves.{IsLeft, Keeps, Leaves, conn_b2_keeps, end_a2_keeps, gone_keeps, hands_keeps, in_r1_a2_keeps, in_r1_a6_keeps, in_r2_a2_keeps, look_keeps, lost_keeps, seen_keeps, take_keeps, up_keeps}
use Rattle.law_role_marks.proofs.InPuts.{PutKeeps, in_puts, out_puts}

abbrev pub is_leg : ℕ → Leg
is_leg n = leg_at InServer n

-- ---- IN_R1/A6 is taken

module _ (s : Server) (m : ℕ) (c : Tally)
    (h : Kept m (top_of s) s.newest_in s.ins c) where
  -- a leg that is kept came up
  within : (leg : InLeg) → Found s.ins leg → leg.number ≡ m → m ≤ s.newest_in
  within leg f number = by (cases_lt s.newest_in m)
    where
      by : (s.newest_in < m) ⊎ (m ≤ s.newest_in) → m ≤ s.newest_in
      by (inl above) =
          absurd (true≢false (sym (ap (λ (k : ℕ). k == m) number ∙ test_same m)
          ∙ absent_at number_of m s.ins f.place leg f.at (h.unborn above).absent))
      by (inr upto) = upto

  left_at : (leg : InLeg) → Found s.ins leg → leg.number ≡ m
      → IsLeft m (with_in s (record leg { leaving = leaving.InR1B1 }))
  left_at leg f number = (
    within leg f number,
    subst (λ (o : Option ℕ). Once number_of m Leaves (set_at s.ins z o)) (sym p.is)
        (once_set number_of m (So m (top_of s) c) Leaves s.ins p.place p.leg z p.at (sym p.same)
        (λ e q. refl)
        (λ e w q. absurd (true≢false (sym (ap (λ (k : ℕ). k == m) (p.same ∙ number)
        ∙ test_same m) ∙ e))) h.legs),
  )
    where
      z : InLeg
      z = record leg { leaving = leaving.InR1B1 }

      p : Placed s.ins leg.number
      p = placed s.ins leg f

  left_now : (o : Option InLeg) → IsKept o → IfSome o (Found s.ins)
      → IfSome o (λ (leg : InLeg). leg.number ≡ m) → IsLeft m (leaves_by s o)
  left_now None there f number = absurd there
  left_now (Some leg) there f number = left_at leg f number

  pub left_by_a6 : IsKept (in_leg m s.ins) → IsLeft m (hands_over s m)
  left_by_a6 there =
      hands_keeps s m m
      (left_now (in_leg m s.ins) there (found_at s.ins (in_place m s.ins))
      (number_found m s.ins (in_place m s.ins) refl))

-- ---- rows

-- IN_R1/A6 came on each leg of which the log has it, and that was left
abbrev pub AreLeft : Server → List OnLeg → Type 0
AreLeft s came =
    (n : ℕ) → has_handover (items_on in_items InServer came n) ≡ true → IsLeft n s

-- where it is taken it has its leg leave
abbrev TakesLeft : ℕ → Message → Done → Type 0
TakesLeft m message (t, Ok taken) = has_handover (in_items message) ≡ true → IsLeft m t
TakesLeft m message (t, Err why) = Unit {0}

abbrev RowLeft : OnLeg → List OnLeg → Done → Type 0
RowLeft one came (t, Ok taken) = AreLeft t (came ++ one ∷ [])
RowLeft one came (t, Err why) = AreLeft t came

keeps_left : (s t : Server) (came : List OnLeg) → Keeps s t → AreLeft s came → AreLeft t came
keeps_left s t came keeps all n handed = keeps n (all n handed)

-- a message more on an is leg
one_more : (s t : Server) (m : ℕ) (message : Message) (came : List OnLeg) → Keeps s t
    → (has_handover (in_items message) ≡ true → IsLeft m t) → AreLeft s came → (n : ℕ)
    → has_handover (items_on in_items InServer (came ++ (is_leg m, message) ∷ []) n) ≡ true
    → IsLeft n t
one_more s t m message came keeps takes all n handed = by (n == m) refl
  where
    log : ℕ → List Item
    log k = items_on in_items InServer came k

    more_handed : has_handover (more m (in_items message) log n) ≡ true
    more_handed =
        sym (ap (λ (l : ℕ → List Item). has_handover (l n))
        (log_more in_items InServer came (is_leg m, message) refl)) ∙ handed

    split : (before now : Bool) → has_handover (log n) ≡ before → before || now ≡ true
        → (now ≡ true → IsLeft n t) → IsLeft n t
    split true now e either here = keeps n (all n e)
    split false now e either here = here either

    by : (b : Bool) → (n == m) ≡ b → IsLeft n t
    by false e =
        keeps n (all n
        (sym (ap has_handover (more_other m (in_items message) log n (other_number n m e)))
        ∙ more_handed))
    by true e =
        let is = same_number n m e in
        split (has_handover (log n)) (has_handover (in_items message)) refl
        (sym (has_handover-append (log n) (in_items message))
        ∙ sym (ap has_handover (subst (λ (k : ℕ). more k (in_items message) log n
        ≡ log n ++ in_items message) is (more_here n (in_items message) log))) ∙ more_handed)
        (λ here. subst (λ (k : ℕ). IsLeft k t) (sym is) (takes here))

in_row : (s : Server) (m : ℕ) (message : Message) (came : List OnLeg) (x : Done) → Keeps s x.0
    → TakesLeft m message x → AreLeft s came → RowLeft (is_leg m, message) came x
in_row s m message came (t, Err why) keeps takes all = λ n handed. keeps n (all n handed)
in_row s m message came (t, Ok taken) keeps takes all = λ n handed.
    one_more s t m message came keeps takes all n handed

-- on a leg of another kind
other_row : (s : Server) (leg : Leg) (message : Message) (came : List OnLeg) (x : Done)
    → is_of InServer leg ≡ false → Keeps s x.0 → AreLeft s came → RowLeft (leg, message) came x
other_row s leg message came (t, Err why) other keeps all = λ n handed. keeps n (all n handed)
other_row s leg message came (t, Ok taken) other keeps all = λ n handed.
    keeps n (all n (sym (ap (λ (l : ℕ → List Item). has_handover (l n))
    (log_other in_items InServer came (leg, message) other)) ∙ handed))

module _ (s : Server) (m : ℕ) (count : Count) where
  is_keeps : IsKept (in_leg m s.ins) → (packet : Named) → Keeps s (on_is s m count packet).0
  is_keeps there (named.ConnB2 v1 v2 v3 v4 v5 v6 v7 v8) = conn_b2_keeps s m count v2 v3 v4 v5
  is_keeps there (named.InR1A2 v1 v2 v3 v4 v5 v6) = in_r1_a2_keeps s m count v2 v3 v4 v5 v6
  is_keeps there (named.InR1A6 v1) = in_r1_a6_keeps s m v1
  is_keeps there (named.InR2A2 v1) = in_r2_a2_keeps s m count v1
  is_keeps there named.EndA2 = end_a2_keeps s m count
  is_keeps there (named.AckTo v1 v2 v3 v4) =
      look_keeps s (on_ack_to s count v1 v2 v3 v4).0 (ack_to_same s count v1 v2 v3 v4)
  is_keeps there packet = seen_keeps s (on_is s m count packet).0 (search rules)

  nothing : (message : Message) (x : Done) → has_handover (in_items message) ≡ false
      → TakesLeft m message x
  nothing message (t, Ok taken) none = λ handed. absurd (true≢false (sym handed ∙ none))
  nothing message (t, Err why) none = tt

  a6_takes : IsKept (in_leg m s.ins) → (c : Tally) → Kept m (top_of s) s.newest_in s.ins c
      → (successor : Cookie)
      → TakesLeft m (Packet (named.InR1A6 successor)) (on_in_r1_a6 s m successor)
  a6_takes there c h successor =
      by_test (λ (x : Done). TakesLeft m (Packet (named.InR1A6 successor)) x) _
      (if same_cookie s.next.cookie successor then took (hands_over s m) else _) (unexpected s)
      (λ e. by_test (λ (x : Done). TakesLeft m (Packet (named.InR1A6 successor)) x)
      (same_cookie s.next.cookie successor) (took (hands_over s m)) _
      (λ f handed. left_by_a6 s m c h there) (λ f. tt))
      (λ e. tt)

  is_takes : IsKept (in_leg m s.ins) → (c : Tally) → Kept m (top_of s) s.newest_in s.ins c
      → (packet : Named) → TakesLeft m (Packet packet) (on_is s m count packet)
  is_takes there c h (named.InR1A6 v1) = a6_takes there c h v1
  is_takes there c h packet = nothing (Packet packet) (on_is s m count packet) refl

  -- ---- os legs

  conn_a2_keeps : (a b : Cookie) (c d : ℕ) → Keeps s (on_conn_a2 s m count a b c d).0
  conn_a2_keeps a b c d =
      by_test (λ (x : Done). Keeps s x.0)
      (is_first count && ((m == 1) && not (waits kinds.ConnC1 s.waiting)))
      (conn_a2_at s s.stage a b c d) (unexpected s) (λ e. by s.stage) (λ e n left. left)
    where
      first_out : Keeps s (with_first_out s b c d)
      first_out n left =
          subst (λ (v : Look). (n ≤ v.newest) × Once number_of n Leaves v.ins)
          (sym (out_look s true b c d)) left

      by : (x : Stage) → Keeps s (conn_a2_at s x a b c d).0
      by stage.Waits = first_out
      by (stage.InCame known window timeout) =
          by_test (λ (x : Done). Keeps s x.0) (same_cookie known a)
          (took (opens (with_first_out s b c d) known window timeout)) _
          (λ e. first_out) (λ e n left. left)
      by (stage.OutCame known) = λ n left. left
      by (stage.Open known) = λ n left. left
      by stage.Ended = λ n left. left

  os_keeps : (packet : Named) → Keeps s (on_os s m count packet).0
  os_keeps (named.ConnA2 v1 v2 v3 v4 v5) = conn_a2_keeps v2 v3 v4 v5
  os_keeps packet = seen_keeps s (on_os s m count packet).0 (search rules)

-- ---- moves

abbrev LeftAt : EndPassage Server → Type 0
LeftAt p = AreLeft p.passage.role p.passage.came

taken_left : (p : Passage Server) (leg : Leg) (message : Message) (x : Done)
    → RowLeft (leg, message) p.came x
    → AreLeft (taken_by p leg message x).role (taken_by p leg message x).came
taken_left p leg message (t, Ok taken) all = all
taken_left p leg message (t, Err why) all = all

put_left : (p : Passage Server) (leg : Leg) (pick : Pick) → PutKeeps p.role pick
    → AreLeft p.role p.came → AreLeft (put_by p leg pick).role (put_by p leg pick).came
put_left p leg None keeps all = all
put_left p leg (Some one) keeps all = keeps_left p.role one.0 p.came keeps all

settled_keeps : (s t : Server) → Keeps s t → Keeps s (settled t)
settled_keeps s t keeps n left =
    look_keeps t (settled t) (settled_same t) n (keeps n left)

up_move : (s : Server) (m : ℕ) (k : LegKind)
    → Keeps s (if may_up_by s m k then up_by s m k else s)
up_move s m k =
    by_test (λ (t : Server). Keeps s t) (may_up_by s m k) (up_by s m k) s (λ e. by k e)
    (λ e n left. left)
  where
    by : (k : LegKind) → may_up_by s m k ≡ true → Keeps s (up_by s m k)
    by InServer e =
        up_keeps s m (same_number m (s.newest_in + 1)
        (and_parts (m == s.newest_in + 1) (has_room s.ins) e).0)
    by OutServer e = λ n left. left
    by ClientIn e = λ n left. left
    by ClientOut e = λ n left. left

drawn_move : (s : Server) (m : ℕ) (k : LegKind) → Keeps s (drawn_by s m k)
drawn_move s m InServer =
    by_test (λ (t : Server). Keeps s t) (in_is_drawn (in_leg m s.ins)) (settled (without_in s m)) s
    (λ e. settled_keeps s (without_in s m) (gone_keeps s m)) (λ e n left. left)
drawn_move s m OutServer = λ n left. left
drawn_move s m ClientIn = λ n left. left
drawn_move s m ClientOut = λ n left. left

mark_move : (s : Server) (m : ℕ) (k : LegKind) → Keeps s (mark_by s m k)
mark_move s m InServer =
    settled_keeps s (lost_in s m (in_leg m s.ins))
    (lost_keeps s m (in_leg m s.ins) (found_at s.ins (in_place m s.ins)))
mark_move s m OutServer =
    settled_keeps s (without_out (with_ack_dropped s m) m) (λ n left. left)
mark_move s m ClientIn = λ n left. left
mark_move s m ClientOut = λ n left. left

module _ (p : Passage Server) (all : AreLeft p.role p.came) where
  abbrev s : Server
  s = p.role

  pdu_left : (m : ℕ) (bytes : List ℕ) (k : LegKind)
      → RowLeft (leg_at k m, Pdu bytes) p.came (pdu_by s m bytes k)
  pdu_left m bytes InServer =
      in_row s m (Pdu bytes) p.came (on_pdu s m bytes)
      (look_keeps s (on_pdu s m bytes).0 (pdu_same s m bytes InServer))
      (none (on_pdu s m bytes)) all
    where
      none : (x : Done) → TakesLeft m (Pdu bytes) x
      none (t, Ok taken) = λ handed. absurd (false≢true handed)
      none (t, Err why) = tt
  pdu_left m bytes OutServer = all
  pdu_left m bytes ClientIn = all
  pdu_left m bytes ClientOut = all

  packet_left : ((k : ℕ) → Kept k (top_of s) s.newest_in s.ins (tally k p.came p.put))
      → (m : ℕ) (count : Count) (packet : Named) (k : LegKind)
      → IsTrue (is_in_use server_rules s (leg_at k m))
      → RowLeft (leg_at k m, Packet packet) p.came (packet_by s m count packet k)
  packet_left h m count packet InServer used =
      in_row s m (Packet packet) p.came (on_is s m count packet)
      (is_keeps s m count (in_use s m used).1 packet)
      (is_takes s m count (in_use s m used).1 (tally m p.came p.put) (h m) packet) all
  packet_left h m count packet OutServer used =
      other_row s (leg_at OutServer m) (Packet packet) p.came (on_os s m count packet) refl
      (os_keeps s m count packet) all
  packet_left h m count packet ClientIn used = all
  packet_left h m count packet ClientOut used = all

  puts_left : (m : ℕ) (k : LegKind)
      → AreLeft (put_by p (leg_at k m) (put_by_kind s m k)).role
      (put_by p (leg_at k m) (put_by_kind s m k)).came
  puts_left m InServer = put_left p (leg_at InServer m) (put_in s m) (in_puts s m) all
  puts_left m OutServer = put_left p (leg_at OutServer m) (put_out s m) (out_puts s m) all
  puts_left m ClientIn = all
  puts_left m ClientOut = all

move_left : (p : Passage Server) (move : Move) → MayMove server_rules p.role move
    → ((k : ℕ) → Kept k (top_of p.role) p.role.newest_in p.role.ins (tally k p.came p.put))
    → AreLeft p.role p.came
    → AreLeft (moved server_rules p move).role (moved server_rules p move).came
move_left p (Up leg cookie) may h all =
    keeps_left p.role (up p.role leg cookie) p.came (up_move p.role leg.number leg.kind) all
move_left p (HeadCame leg text) may h all = all
move_left p (PduCame leg count bytes) may h all =
    taken_left p leg (Pdu bytes) (pdu_by p.role leg.number bytes leg.kind)
    (pdu_left p all leg.number bytes leg.kind)
move_left p (PacketCame leg count packet) may h all =
    taken_left p leg (Packet packet) (packet_by p.role leg.number count packet leg.kind)
    (packet_left p all h leg.number count packet leg.kind may)
move_left p (Puts leg) may h all = puts_left p all leg.number leg.kind
move_left p (IsDrawn leg) may h all =
    keeps_left p.role (drawn_by p.role leg.number leg.kind) p.came
    (drawn_move p.role leg.number leg.kind) all
move_left p (Marks leg) may h all =
    keeps_left p.role (mark_by p.role leg.number leg.kind) p.came
    (mark_move p.role leg.number leg.kind) all
move_left p (Pings leg) may h all = all

end_move_left : (p : EndPassage Server) (move : EndMove)
    → MayEndMove server_rules p.passage.role move → AllHold p → LeftAt p
    → LeftAt (end_moved server_rules acts p move)
end_move_left p (Moves move) may h all = move_left p.passage move may h all
end_move_left p (Gives bytes) may h all =
    by (acts.give p.passage.role bytes)
    (keeps_left p.passage.role (give p.passage.role bytes).0 p.passage.came
    (look_keeps p.passage.role (give p.passage.role bytes).0 (give_same p.passage.role bytes)) all)
  where
    by : (x : Server × Result (Unit {0}) GiveRefused) → AreLeft x.0 p.passage.came
        → LeftAt (given_by p bytes x)
    by (t, Ok accepted) k = k
    by (t, Err why) k = k
end_move_left p Takes may h all =
    by (acts.line p.passage.role).current.pdus
    (keeps_left p.passage.role (take p.passage.role) p.passage.came
    (take_keeps p.passage.role) all)
  where
    by : (pdus : List (List ℕ)) → AreLeft (take p.passage.role) p.passage.came
        → LeftAt (with_first (end_now_at p (acts.take p.passage.role)) pdus)
    by [] k = k
    by (pdu ∷ pdus) k = k
end_move_left p Closes may h all = all
end_move_left p Recycles may h all =
    keeps_left p.passage.role (recycle p.passage.role).0 p.passage.came
    (look_keeps p.passage.role (recycle p.passage.role).0 (recycle_same p.passage.role)) all

moves_left : (p : EndPassage Server) (moves : List EndMove)
    → AreAllowedAtEnd server_rules acts p moves → AllHold p → LeftAt p
    → LeftAt (all_end_moved server_rules acts p moves)
moves_left p [] may h all = all
moves_left p (move ∷ moves) may h all =
    moves_left (end_moved server_rules acts p move) moves may.1
    (λ n. end_move_keeps n p move may.0 h) (end_move_left p move may.0 h all)

-- ---- the law

module _ (window : ℕ) (moves : List EndMove)
    (may : AreAllowedAtEnd server_rules acts (end_started (first window)) moves) (n : ℕ) where
  abbrev now : EndPassage Server
  now = all_end_moved server_rules acts (end_started (first window)) moves

  pub left_now_at : has_handover (got now n) ≡ true → IsLeft n now.passage.role
  left_now_at handed =
      moves_left (end_started (first window)) moves may (known window [] tt)
      (λ k handed. absurd (false≢true handed)) n handed

  marks_leg : (leg : InLeg) → Found now.passage.role.ins leg → leg.number ≡ n
      → IsLeft n now.passage.role → in_only_marks now.passage.role (Some leg) ≡ true
  marks_leg leg f number left =
      let gone : stays leg.leaving ≡ false =
      once_at number_of n Leaves now.passage.role.ins f.place leg f.at
      (ap (λ (k : ℕ). k == n) number ∙ test_same n) left.1 in
      by (stays leg.leaving)
      (is_put now.passage.role.end_mark && ended_on now.passage.role leg
      (channel_at now.passage.role leg.number)) gone
    where
      by : (b over : Bool) → b ≡ false → not b || over ≡ true
      by false over e = refl
      by true over e = absurd (true≢false e)

  pub only_marks_left : has_handover (got now n) ≡ true
      → is_in_use server_rules now.passage.role (is_leg n) ≡ true
      → server_rules.only_marks now.passage.role (is_leg n) ≡ true
  only_marks_left handed used =
      by (in_leg n now.passage.role.ins) (in_use now.passage.role n used).1
      (found_at now.passage.role.ins (in_place n now.passage.role.ins))
      (number_found n now.passage.role.ins (in_place n now.passage.role.ins) refl)
    where
      by : (o : Option InLeg) → IsKept o → IfSome o (Found now.passage.role.ins)
          → IfSome o (λ (leg : InLeg). leg.number ≡ n)
          → in_only_marks now.passage.role o ≡ true
      by None there f number = absurd there
      by (Some leg) there f number = marks_leg leg f number (left_now_at handed)
