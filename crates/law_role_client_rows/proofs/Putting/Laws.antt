-- what a client puts on its channels, whatever happens
use Rattle.law_order.proofs.Vocabulary.{◌≡◌, ◌⊎◌, ℕ, ◌+◌, ◌==◌, nat_le, true, true≢false, List, [], ◌∷◌, ◌++◌, append_assoc, length, Some, None, Ok, Err, inl, inr, refl, sym, ap, ◌∙◌, subst, false≢true, Option, Result}
use Rattle.law_moves.proofs.Vocabulary.{by_test, checked, pdu_fault, PduFault, Cookie, ClientConfig, total, queue_bytes, Leg, LegKind, ClientOut, OutServer, ClientIn, InServer, Closing, Full, Last, Rules, Acts, Message, OnLeg, Up, Puts, Passage, put_by, EndMove, Moves, Recycles, EndPassage, MayEndMove, AreAllowedAtEnd, end_moved, all_end_moved, of_leg, HasComeUp}
use Rattle.law_moves.proofs.Lemmas.{PutKeeps}
use Rattle.law_role_client.proofs.Vocabulary.{ClientRole, in_up, out_up, first, is_open, is_writing, is_in_successor, is_current, ci, co, wants_by, with_next, up_by, Given, give, give_pdu, drawn_by, ping_by, acts, rules as client_rules, AreAllowedMoves, client_moved, client_started}
use Rattle.law_role_client.proofs.Sending.Steps.{StepsKeep, end_moves_keep}
use Rattle.law_role_client_rows.proofs.Putting.Channels.{starts, ups}
use Rattle.law_role_client_rows.proofs.Putting.Facts.{with_ins, with_outs}
use Rattle.law_role_client_rows.proofs.Putting.Changes.{Holds, recycle_kept, passed_kept}
use Rattle.law_role_client_rows.proofs.Putting.Beginning.{MayBeEarly, put_kept}
use Rattle.law_role_client_rows.proofs.Putting.Rows.{pdu_kept, packet_kept}
use Rattle.law_role_client_rows.specs.Putting.{in_way, out_way, HasOpened, OpenedBefore, OpensInChannels, OpensOutChannels, SwitchesInOrder}

-- ---- what else happens

-- the rows without those that put, and the calls without that for a replacement
abbrev rules_but_put : Rules ClientRole
rules_but_put = record client_rules { put = λ s leg. None }

abbrev acts_but_recycle : Acts ClientRole
acts_but_recycle = record acts { recycle = λ s. (s, Err Last) }

module _ (config : ClientConfig) (Comes : Leg → Cookie → Type 0) (Early : Leg → Type 0) where
  abbrev Stands : ClientRole → List OnLeg → List OnLeg → Type 0
  Stands s came put = Holds config Comes Early s came put

  up_in_kept : (s : ClientRole) (n : ℕ) (cookie : Cookie) (came put : List OnLeg)
      → wants_by s n ClientIn ≡ true → Comes (ci n) cookie → Stands s came put
      → Stands (up_by s n cookie ClientIn) came put
  up_in_kept s n cookie came put may comes h =
      let both = ups (in_way config Comes) Comes Early h.ins n cookie may comes in
      by_test (λ (t : ClientRole). Stands t came put) (is_writing s n)
      (record s { writing = in_up s.writing cookie })
      (record s { in_successor = in_up s.in_successor cookie })
      (λ e. with_ins config Comes Early h (both.0 e))
      (λ e. with_ins config Comes Early h (both.1 e))

  up_out_kept : (s : ClientRole) (n : ℕ) (cookie : Cookie) (came put : List OnLeg)
      → wants_by s n ClientOut ≡ true → Comes (co n) cookie → Stands s came put
      → Stands (up_by s n cookie ClientOut) came put
  up_out_kept s n cookie came put may comes h =
      let both = ups (out_way config) Comes Early h.outs n cookie may comes in
      by_test (λ (t : ClientRole). Stands t came put) (is_current s n)
      (record s { current = out_up s.current cookie })
      (record s {
        out_successor = out_up s.out_successor cookie;
        line = with_next s.line;
      })
      (λ e. with_outs config Comes Early h refl (both.0 e))
      (λ e. with_outs config Comes Early h refl (both.1 e))

  up_kept : (s : ClientRole) (n : ℕ) (kind : LegKind) (cookie : Cookie) (came put : List OnLeg)
      → wants_by s n kind ≡ true → Comes (record { kind = kind; number = n }) cookie
      → Stands s came put → Stands (up_by s n cookie kind) came put
  up_kept s n ClientOut cookie came put may comes h = up_out_kept s n cookie came put may comes h
  up_kept s n ClientIn cookie came put may comes h = up_in_kept s n cookie came put may comes h
  up_kept s n OutServer cookie came put may comes h = h
  up_kept s n InServer cookie came put may comes h = h

  drawn_kept : (s : ClientRole) (n : ℕ) (kind : LegKind) (came put : List OnLeg)
      → Stands s came put → Stands (drawn_by s n kind) came put
  drawn_kept s n ClientIn came put h =
      by_test (λ (t : ClientRole). Stands t came put) (n == s.leaving.number) _ s
      (λ e. h) (λ e. h)
  drawn_kept s n ClientOut came put h = h
  drawn_kept s n OutServer came put h = h
  drawn_kept s n InServer came put h = h

  ping_kept : (s : ClientRole) (n : ℕ) (kind : LegKind) (came put : List OnLeg)
      → Stands s came put → Stands (ping_by s n kind) came put
  ping_kept s n ClientIn came put h =
      by_test (λ (t : ClientRole). Stands t came put) (is_writing s n)
      (record s { writing = record (s.writing) { is_ping_due = true } }) _
      (λ e. h)
      (λ e. by_test (λ (t : ClientRole). Stands t came put) (is_in_successor s n)
      (record s { in_successor = record (s.in_successor) { is_ping_due = true } }) s
      (λ f. h) (λ f. h))
  ping_kept s n ClientOut came put h = h
  ping_kept s n OutServer came put h = h
  ping_kept s n InServer came put h = h

  give_kept : (s : ClientRole) (pdu : List ℕ) (came put : List OnLeg) → Stands s came put
      → Stands (give s pdu).0 came put
  give_kept s pdu came put h =
      by_test (λ (x : Given). Stands x.0 came put) s.is_closing (s, Err Closing)
      (give_pdu s pdu (checked (pdu_fault pdu))) (λ e. h) (λ e. by (checked (pdu_fault pdu)))
    where
      by : (x : Result (Unit {0}) PduFault) → Stands (give_pdu s pdu x).0 came put
      by (Err fault) = h
      by (Ok valid) =
          by_test (λ (x : Given). Stands x.0 came put)
          (nat_le (total s.queue + length pdu) queue_bytes)
          (record s { queue = s.queue ++ pdu ∷ [] }, Ok tt)
          (s, Err (Full (total s.queue) (length pdu))) (λ e. h) (λ e. h)

  steps : StepsKeep rules_but_put acts_but_recycle Comes Stands
  steps = record {
    up = λ s leg cookie may comes came put h.
        up_kept s leg.number leg.kind cookie came put may comes h;
    head = λ s leg text came put h. h;
    pdu = λ s leg count bytes came put h.
        pdu_kept config Comes Early s leg.number bytes leg.kind came put h;
    packet = λ s leg count packet came put h.
        packet_kept config Comes Early s leg.number count packet leg.kind came put h;
    put = λ s leg came put h. tt;
    drawn = λ s leg came put h. drawn_kept s leg.number leg.kind came put h;
    mark = λ s leg came put h. h;
    ping = λ s leg came put h. ping_kept s leg.number leg.kind came put h;
    give = λ s bytes came put h. give_kept s bytes came put h;
    take = λ s came put h. passed_kept config Comes Early _ came put h;
    close = λ s came put h. h;
    recycle = λ s came put h. h;
  }

  starts_so : Stands (first config) [] []
  starts_so = record {
    same = refl;
    opens = λ e. absurd (false≢true e);
    under_way = λ e. absurd (true≢false e);
    ins = starts (in_way config Comes) Comes Early;
    outs = starts (out_way config) Comes Early;
    switches = record { each = tt; counted = refl };
  }

  -- ---- one move

  abbrev StandsAt : EndPassage ClientRole → Type 0
  StandsAt p = Stands p.passage.role p.passage.came p.passage.put

  by_put : (p : Passage ClientRole) (leg : Leg) (pick : Option (ClientRole × Message))
      → Stands p.role p.came p.put → PutKeeps Stands leg p.came p.put pick
      → Stands (put_by p leg pick).role (put_by p leg pick).came (put_by p leg pick).put
  by_put p leg None h goes = h
  by_put p leg (Some one) h goes = goes

  only : {A : Type 0} → A ⊎ ⊥ → A
  only (inl is) = is
  only (inr never) = absurd never

  -- at a put it matters whether the client was opened early, and at a call for a replacement that
  -- it is open; all other moves are steps
  move_kept : (p : EndPassage ClientRole) (move : EndMove)
      → MayEndMove client_rules p.passage.role move
      → ((leg : Leg) (cookie : Cookie) → move ≡ Moves (Up leg cookie) → Comes leg cookie)
      → MayBeEarly Early p.passage.came p.passage.put → StandsAt p
      → StandsAt (end_moved client_rules acts p move)
  move_kept p (Moves (Puts leg)) may comes early h =
      let s = p.passage.role in
      by_put p.passage leg (client_rules.put s leg) h
      (put_kept config Comes Early s leg.number leg.kind p.passage.came p.passage.put early h)
  move_kept p Recycles may comes early h =
      let s = p.passage.role in
      recycle_kept config Comes Early s s.replacement p.passage.came p.passage.put refl
      (h.opens (ap is_open may)) h
  move_kept p move may comes early h =
      end_moves_keep rules_but_put acts_but_recycle Comes Stands steps p (move ∷ []) (may, tt)
      (λ leg cookie is. comes leg cookie (only is)) h

-- ---- all moves

moved_more : {S : Type 0} (rules : Rules S) (calls : Acts S) (p : EndPassage S)
    (past : List EndMove) (move : EndMove)
    → all_end_moved rules calls p (past ++ move ∷ [])
    ≡ end_moved rules calls (all_end_moved rules calls p past) move
moved_more rules calls p [] move = refl
moved_more rules calls p (one ∷ past) move =
    moved_more rules calls (end_moved rules calls p one) past move

come_up : (past : List EndMove) (move : EndMove) (moves : List EndMove) (leg : Leg)
    (cookie : Cookie) → move ≡ Moves (Up leg cookie)
    → HasComeUp (past ++ move ∷ moves) leg cookie
come_up [] move moves leg cookie is = inl is
come_up (one ∷ past) move moves leg cookie is = inr (come_up past move moves leg cookie is)

module _ (config : ClientConfig) (all : List EndMove) where
  abbrev Kept : EndPassage ClientRole → Type 0
  Kept p =
      Holds config (HasComeUp all) (OpenedBefore config all) p.passage.role p.passage.came
      p.passage.put

  -- behind the first of the moves, and then the others
  moves_kept : (past moves : List EndMove) (p : EndPassage ClientRole) → all ≡ past ++ moves
      → client_moved config past ≡ p → AreAllowedAtEnd client_rules acts p moves → Kept p
      → Kept (all_end_moved client_rules acts p moves)
  moves_kept past [] p front is allowed h = h
  moves_kept past (move ∷ moves) p front is allowed h =
      moves_kept (past ++ move ∷ []) moves (end_moved client_rules acts p move)
      (front ∙ sym (append_assoc past (move ∷ []) moves))
      (moved_more client_rules acts (client_started config) past move
      ∙ ap (λ (q : EndPassage ClientRole). end_moved client_rules acts q move) is)
      allowed.1
      (move_kept config (HasComeUp all) (OpenedBefore config all) p move allowed.0
      (λ leg cookie up. subst (λ (ms : List EndMove). HasComeUp ms leg cookie) (sym front)
      (come_up past move moves leg cookie up))
      (λ leg none opened. record {
        past = past;
        later = move ∷ moves;
        front = front;
        opened = subst (λ (q : EndPassage ClientRole). HasOpened q.passage.came) (sym is) opened;
        none = subst (λ (q : EndPassage ClientRole). of_leg leg q.passage.put ≡ []) (sym is)
            none;
      })
      h)

-- ---- the laws

kept_behind : (config : ClientConfig) (moves : List EndMove) → AreAllowedMoves config moves
    → Kept config moves (client_moved config moves)
kept_behind config moves allowed =
    moves_kept config moves [] moves (client_started config) refl refl allowed
    (starts_so config (HasComeUp moves) (OpenedBefore config moves))

pub opens_in : (config : ClientConfig) (moves : List EndMove) → AreAllowedMoves config moves
    → OpensInChannels config moves
opens_in config moves allowed n = (kept_behind config moves allowed).ins.legs.each n

pub opens_out : (config : ClientConfig) (moves : List EndMove) → AreAllowedMoves config moves
    → OpensOutChannels config moves
opens_out config moves allowed n = (kept_behind config moves allowed).outs.legs.each n

pub switches : (config : ClientConfig) (moves : List EndMove) → AreAllowedMoves config moves
    → SwitchesInOrder config moves
switches config moves allowed = (kept_behind config moves allowed).switches.each
