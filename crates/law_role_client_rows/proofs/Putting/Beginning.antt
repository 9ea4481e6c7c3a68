-- what each leg of a client begins with, and the next message of a leg
use Rattle.law_order.proofs.Vocabulary.{◌≡◌, ℕ, suc, ◌==◌, ◌&&◌, true, false, if◌then◌else◌, List, [], ◌∷◌, ◌++◌, Some, None, inl, inr, refl, sym, ap, subst, false≢true, and_parts}
use Rattle.rh_sig.specs.declared.named.Named.TheVariants as named
use Rattle.law_moves.proofs.Vocabulary.{may_put, by_test, same_number, Cookie, PROTOCOL_VERSION, CONN_B1_LEN, IN_R1_A1_LEN, PING_LEN, ClientConfig, in_request, out_request, Leg, LegKind, ClientOut, OutServer, ClientIn, InServer, Message, Text, Packet, OnLeg, of_leg}
use Rattle.law_moves.proofs.Lemmas.{all_append}
use Rattle.law_role_client.proofs.Vocabulary.{Opening, NotUp, Request, First, Second, Put, CONN_A1_LEN, OUT_R1_A3_C1_LEN, Replacement, NoneUnderWay, In, Out, ClientRole, metered, is_none, is_in, is_out, ci, co, is_writing, is_in_successor, is_current, is_out_successor, Pick, conn_a1, conn_b1, in_r1_a1, out_r1_a3, begun_in, without_ping, put_conn_b1, put_in_r1_a1, put_current, put_out_successor, put_out, put_successor_ping, put_writing, put_in_successor, put_in, settled_pick}
use Rattle.law_role_client.proofs.Vocabulary.{put_by}
use Rattle.law_role_client_rows.proofs.Putting.Fronts.{first_is_more}
use Rattle.law_role_client_rows.proofs.Putting.Openings.{text_now, first_now, text_next, first_next, second_next, more_next}
use Rattle.law_role_client_rows.proofs.Putting.Facts.{in_put, out_put}
use Rattle.law_role_client_rows.proofs.Putting.Changes.{Holds, settled_kept}
use Rattle.law_role_client_rows.proofs.Putting.Writing.{Puts, next_put}
use Rattle.law_role_client_rows.specs.Putting.{Direction, in_way, out_way, IsBehind, HasOpened}

busy_in : (r : Replacement) → is_in r ≡ true → is_none r ≡ false
busy_in NoneUnderWay e = absurd (false≢true e)
busy_in (In stage out_waits) e = refl
busy_in (Out stage waiting) e = refl

busy_out : (r : Replacement) → is_out r ≡ true → is_none r ≡ false
busy_out NoneUnderWay e = absurd (false≢true e)
busy_out (In stage out_waits) e = refl
busy_out (Out stage waiting) e = refl

-- a client that was opened before anything was put on a leg
abbrev pub MayBeEarly : (Leg → Type 0) → List OnLeg → List OnLeg → Type 0
MayBeEarly Early came put = (leg : Leg) → of_leg leg put ≡ [] → HasOpened came → Early leg

module _ (config : ClientConfig) (Comes : Leg → Cookie → Type 0) (Early : Leg → Type 0) where
  abbrev Goes : Leg → List OnLeg → List OnLeg → Pick → Type 0
  Goes leg came put pick = Puts config Comes Early leg came put pick

  abbrev inward : Direction
  inward = in_way config Comes

  abbrev outward : Direction
  outward = out_way config

  -- ---- IN channels

  writing_put : (s : ClientRole) (o : Opening) (came put : List OnLeg) → s.writing.opening ≡ o
      → Holds config Comes Early s came put
      → Goes (ci s.writing.number) came put (put_writing s o)
  unfolding put_writing put_conn_b1
  writing_put s NotUp came put e h = tt
  writing_put s Request came put e h =
      let text : Message = Text (in_request s.config) in
      in_put config Comes Early h s.writing.number text (λ k. (tt, refl))
      (text_now inward Comes Early h.ins text e
      (ap (λ (c : ClientConfig). Text (in_request c)) h.same))
  writing_put s First came put e h =
      let packet = conn_b1 s in
      by_test (Goes (ci s.writing.number) came put) (may_put s.writing.meter CONN_B1_LEN)
      (Some (
        record s { writing = begun_in (metered s.writing CONN_B1_LEN) Put },
        Packet packet,
      )) None
      (λ f. in_put config Comes Early h s.writing.number (Packet packet) (λ k. (tt, refl))
      (first_now inward Comes Early h.ins packet e
      (ap (λ (c : ClientConfig). named.ConnB1 PROTOCOL_VERSION c.connection s.writing.cookie
      c.lifetime c.keepalive c.group) h.same) tt))
      (λ f. tt)
  writing_put s Second came put e h = tt
  writing_put s Put came put e h = next_put config Comes Early s came put e h

  successor_put : (s : ClientRole) (o : Opening) (came put : List OnLeg)
      → s.in_successor.opening ≡ o → is_in s.replacement ≡ true → MayBeEarly Early came put
      → Holds config Comes Early s came put
      → Goes (ci s.in_successor.number) came put (put_in_successor s o)
  unfolding put_in_successor put_in_r1_a1 put_successor_ping
  successor_put s NotUp came put e r early h = tt
  successor_put s Request came put e r early h =
      let text : Message = Text (in_request s.config) in
      in_put config Comes Early h s.in_successor.number text (λ k. (tt, refl))
      (text_next inward Comes Early h.ins text r e
      (ap (λ (c : ClientConfig). Text (in_request c)) h.same))
  successor_put s First came put e r early h =
      let packet = in_r1_a1 s in
      by_test (Goes (ci s.in_successor.number) came put)
      (may_put s.in_successor.meter IN_R1_A1_LEN)
      (Some (
        record s { in_successor = begun_in (metered s.in_successor IN_R1_A1_LEN) Put },
        Packet packet,
      )) None
      (λ f. in_put config Comes Early h s.in_successor.number (Packet packet) (λ k. (tt, refl))
      (first_next inward Comes Early h.ins packet Put r e
      (ap (λ (c : ClientConfig). named.InR1A1 PROTOCOL_VERSION c.connection s.writing.cookie
      s.in_successor.cookie) h.same) tt
      (λ none. early (ci 1) none (h.under_way (busy_in s.replacement r))) refl
      (first_is_more inward Comes Early)))
      (λ f. tt)
  successor_put s Second came put e r early h = tt
  successor_put s Put came put e r early h =
      let ping : Message = Packet named.Ping in
      by_test (Goes (ci s.in_successor.number) came put)
      (s.in_successor.is_ping_due && may_put s.in_successor.meter PING_LEN)
      (Some (
        record s { in_successor = without_ping (metered s.in_successor PING_LEN) },
        Packet named.Ping,
      )) None
      (λ f. in_put config Comes Early h s.in_successor.number ping (λ k. (tt, refl))
      (more_next inward Comes Early h.ins ping r e
      (λ rest all. all_append
      (IsBehind (λ (c : Cookie). Comes (ci (suc (suc (suc h.ins.legs.below)))) c)) rest
      (ping ∷ []) all (tt, tt))))
      (λ f. tt)

  -- ---- OUT channels

  current_put : (s : ClientRole) (o : Opening) (came put : List OnLeg) → s.current.opening ≡ o
      → Holds config Comes Early s came put
      → Goes (co s.current.number) came put (put_current s o)
  unfolding put_current
  current_put s NotUp came put e h = tt
  current_put s Request came put e h =
      let text : Message = Text (out_request s.config CONN_A1_LEN) in
      out_put config Comes Early h s.current.number text refl
      (text_now outward Comes Early h.outs text e
      (ap (λ (c : ClientConfig). Text (out_request c CONN_A1_LEN)) h.same))
  current_put s First came put e h =
      let packet = conn_a1 s in
      out_put config Comes Early h s.current.number (Packet packet) refl
      (first_now outward Comes Early h.outs packet e
      (ap (λ (c : ClientConfig). named.ConnA1 PROTOCOL_VERSION c.connection s.current.cookie
      c.window) h.same) refl)
  current_put s Second came put e h = tt
  current_put s Put came put e h = tt

  out_successor_put : (s : ClientRole) (o : Opening) (came put : List OnLeg)
      → s.out_successor.opening ≡ o → is_out s.replacement ≡ true → MayBeEarly Early came put
      → Holds config Comes Early s came put
      → Goes (co s.out_successor.number) came put (put_out_successor s o)
  unfolding put_out_successor
  out_successor_put s NotUp came put e r early h = tt
  out_successor_put s Request came put e r early h =
      let text : Message = Text (out_request s.config OUT_R1_A3_C1_LEN) in
      out_put config Comes Early h s.out_successor.number text refl
      (text_next outward Comes Early h.outs text r e
      (ap (λ (c : ClientConfig). Text (out_request c OUT_R1_A3_C1_LEN)) h.same))
  out_successor_put s First came put e r early h =
      let packet = out_r1_a3 s in
      out_put config Comes Early h s.out_successor.number (Packet packet) refl
      (first_next outward Comes Early h.outs packet Second r e
      (ap (λ (c : ClientConfig). named.OutR1A3 PROTOCOL_VERSION c.connection s.current.cookie
      s.out_successor.cookie c.window) h.same) (inl refl)
      (λ none. early (co 1) none (h.under_way (busy_out s.replacement r))) refl
      (λ ms has. has))
  out_successor_put s Second came put e r early h =
      out_put config Comes Early h s.out_successor.number (Packet named.OutR2C1) refl
      (second_next outward Comes Early h.outs (Packet named.OutR2C1) r e (inr refl))
  out_successor_put s Put came put e r early h = tt

  -- ---- on a leg

  on_in : (s : ClientRole) (n : ℕ) (came put : List OnLeg) → MayBeEarly Early came put
      → Holds config Comes Early s came put → Goes (ci n) came put (put_in s n)
  unfolding put_in
  on_in s n came put early h =
      by_test (Goes (ci n) came put) (is_writing s n) (put_writing s s.writing.opening)
      (if is_in_successor s n then put_in_successor s s.in_successor.opening else None)
      (λ e. subst (λ (k : ℕ). Goes (ci k) came put (put_writing s s.writing.opening))
      (sym (same_number n s.writing.number e))
      (writing_put s s.writing.opening came put refl h))
      (λ e. by_test (Goes (ci n) came put) (is_in_successor s n)
      (put_in_successor s s.in_successor.opening) None
      (λ f.
      let both = and_parts (is_in s.replacement) (n == s.in_successor.number) f in
      subst (λ (k : ℕ). Goes (ci k) came put (put_in_successor s s.in_successor.opening))
      (sym (same_number n s.in_successor.number both.1))
      (successor_put s s.in_successor.opening came put refl both.0 early h))
      (λ f. tt))

  on_out : (s : ClientRole) (n : ℕ) (came put : List OnLeg) → MayBeEarly Early came put
      → Holds config Comes Early s came put → Goes (co n) came put (put_out s n)
  unfolding put_out
  on_out s n came put early h =
      by_test (Goes (co n) came put) (is_current s n) (put_current s s.current.opening)
      (if is_out_successor s n then put_out_successor s s.out_successor.opening else None)
      (λ e. subst (λ (k : ℕ). Goes (co k) came put (put_current s s.current.opening))
      (sym (same_number n s.current.number e))
      (current_put s s.current.opening came put refl h))
      (λ e. by_test (Goes (co n) came put) (is_out_successor s n)
      (put_out_successor s s.out_successor.opening) None
      (λ f.
      let both = and_parts (is_out s.replacement) (n == s.out_successor.number) f in
      subst (λ (k : ℕ). Goes (co k) came put (put_out_successor s s.out_successor.opening))
      (sym (same_number n s.out_successor.number both.1))
      (out_successor_put s s.out_successor.opening came put refl both.0 early h))
      (λ f. tt))

  settled_put : (leg : Leg) (came put : List OnLeg) (pick : Pick) → Goes leg came put pick
      → Goes leg came put (settled_pick pick)
  settled_put leg came put None h = tt
  settled_put leg came put (Some one) h =
      settled_kept config Comes Early one.0 came (put ++ (leg, one.1) ∷ []) h

  pub put_kept : (s : ClientRole) (n : ℕ) (kind : LegKind) (came put : List OnLeg)
      → MayBeEarly Early came put → Holds config Comes Early s came put
      → Goes (record { kind = kind; number = n }) came put (settled_pick (put_by s n kind))
  unfolding put_by
  put_kept s n ClientOut came put early h =
      settled_put (co n) came put (put_out s n) (on_out s n came put early h)
  put_kept s n ClientIn came put early h =
      settled_put (ci n) came put (put_in s n) (on_in s n came put early h)
  put_kept s n OutServer came put early h = tt
  put_kept s n InServer came put early h = tt
