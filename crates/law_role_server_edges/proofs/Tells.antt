-- each row of a server leaves what the window of its current IN channel told to what was put
use Rattle.rh_window.specs.Receiving as windows
use Rattle.law_order.proofs.Vocabulary.{◌≡◌, ◌⊎◌, inl, ℕ, ◌≤◌, ◌==◌, List, [], ◌∷◌, length, Bool, true, false, true≢false, false≢true, ◌&&◌, ◌||◌, not, Some, None, Ok, Err, arith, refl, sym, ap, ◌∙◌, subst, rules, and_parts, if◌then◌else◌, is_ok, Option, Result}
use Rattle.rh_sig.specs.declared.named.Named.TheVariants as named
use Rattle.rh_line.specs.Lines.{taken as taken_line}
use Rattle.rh_line.specs.Lines as lines
use Rattle.rh_shell.specs.declared.answers.Refused.TheVariants as refused
use Rattle.rh_server.specs.Acknowledging.{admitted_by, admitted_on, on_ack}
use Rattle.rh_server.specs.InReplacement.{take}
use Rattle.rh_server.specs.Servers.{pdu_by}
use Rattle.rh_server.specs.declared.out_line.Kind.TheVariants as kind
use Rattle.rh_server.specs.declared.state.Edge.TheVariants as edges
use Rattle.rh_server.specs.declared.state.InStage.TheVariants as in_stage
use Rattle.rh_server.specs.declared.state.Stage.TheVariants as stages
use Rattle.law_moves.proofs.Vocabulary.{Receiver, by_test, Cookie, Named, Incoming, Line, admitted, channel_verdict, released, settled as settled_line, moved_on, is_empty, after_admit, after_end, after_open_next, LineFault, Window, Over, LegKind, ClientOut, OutServer, ClientIn, InServer, Which, Current, Next, Count, OnLeg, of_leg}
use Rattle.law_moves.proofs.Lemmas.{RowKeeps}
use Rattle.law_role_server.proofs.Vocabulary.{InLeg, InStage, OutLeg, Stage, Server, waits, in_leg, is_fresh, is_open, same_cookie, with_in, out_at, out_place, Done, took, refuse, unexpected, is_first, opens, first_in, first_out_at, with_first_in, with_first_out, conn_a2_at, conn_b2_at, on_conn_a2, on_conn_b2, channel_at, on_ack_to, ended_if, opens_next, opens_leg, first_waiting, next_opened, becomes_current, moved_if, has_fresh_below, announced, in_r1_a2_by, in_r1_a2_at, on_in_r1_a2, leaves_by, hands_over, on_in_r1_a6, on_in_r2_a2, on_out_r1_a4, on_out_r1_a8, is_over_on, end_a2_at, end_a2_waiting, on_end_a2, on_is, on_os, packet_by, leg_at}
use Rattle.law_role_edges.specs.OutProxies.{IsToldIn}

-- what the facts are about
pub record Seen : Type 0 where
  pub line : Line
  pub leg : ℕ
  pub at : Stage

abbrev pub seen : Server → Seen
seen s = record { line = s.line; leg = s.current.leg; at = s.stage }

abbrev pub Same : Server → Server → Type 0
Same s t = seen t ≡ seen s

-- CONN/B2 didn't come
abbrev pub is_early : Stage → Bool
is_early stages.Waits = true
is_early (stages.OutCame connection) = true
is_early (stages.InCame connection window timeout) = false
is_early (stages.Open connection) = false
is_early stages.Ended = false

-- ---- what leaves these alone

same_end_waiting : (s : Server) (o : Option InLeg) → Same s (end_a2_waiting s o).0
same_end_waiting s o = search rules

same_in_r2_a2 : (s : Server) (n : ℕ) (count : Count) (a : Cookie)
    → Same s (on_in_r2_a2 s n count a).0
same_in_r2_a2 s n count a = search rules

same_ack_to : (s : Server) (count : Count) (a b c : ℕ) (d : Cookie)
    → Same s (on_ack_to s count a b c d).0
same_ack_to s count a b c d = search rules

same_ack : (s : Server) (n : ℕ) (count : Count) (a b : ℕ) (c : Cookie)
    → Same s (on_ack s n count a b c).0
same_ack s n count a b c = search rules

same_out_r1_a4 : (s : Server) (n : ℕ) (count : Count) (a b c : Cookie) (d e f : ℕ)
    → Same s (on_out_r1_a4 s n count a b c d e f).0
same_out_r1_a4 s n count a b c d e f = search rules

same_out_r1_a8 : (s : Server) (count : Count) (a : ℕ) (b : Cookie)
    → Same s (on_out_r1_a8 s count a b).0
same_out_r1_a8 s count a b = search rules

-- ---- windows

-- a PDU that is admitted leaves a window's size and what it told
abbrev IsAlike : Incoming → Incoming → Type 0
IsAlike c d = (d.window.told ≡ c.window.told) × (d.window.size ≡ c.window.size)

alike_admitted : (c : Incoming) (pdu : List ℕ) → IsAlike c (admitted c pdu)
alike_admitted c pdu =
    by_test (IsAlike c) (is_ok (channel_verdict c pdu)) _ c
    (λ e. by_test (λ (r : Receiver). (r.told ≡ c.window.told) × (r.size ≡ c.window.size))
    (is_ok (windows.admit_verdict c.window (length pdu))) _ c.window
    (λ f. (refl, refl)) (λ f. (refl, refl)))
    (λ e. (refl, refl))

module _ (window : ℕ) where
  -- all windows are of that size, and that of a next channel is shut
  pub record AreSized (line : Line) : Type 0 where
    pub size : line.size ≡ window
    pub now : line.current.window.size ≡ window
    pub next : line.next.window.size ≡ window
    pub shut : line.next.window.told ≡ 0

  -- up to this edge, or up to one that was told on the leg
  abbrev pub IsTold : ℕ → ℕ → List OnLeg → Type 0
  IsTold edge n put = (edge ≤ window) ⊎ IsToldIn edge (of_leg (leg_at InServer n) put)

  pub record Told (x : Seen) (put : List OnLeg) : Type 0 where
    pub sized : AreSized x.line
    pub told : IsTold x.line.current.window.told x.leg put
    pub early : is_early x.at ≡ true → (x.leg ≡ 1) × (x.line.has_next ≡ false)

  abbrev pub Holds : Server → List OnLeg → List OnLeg → Type 0
  Holds s came put = Told (seen s) put

  pub same_told : (s t : Server) (put : List OnLeg) → Same s t → Told (seen s) put
      → Told (seen t) put
  same_told s t put same h = subst (λ (x : Seen). Told x put) (sym same) h

  pub row_told : (one : OnLeg) (came put : List OnLeg) (x : Done) → Told (seen x.0) put
      → RowKeeps Holds one came put x
  row_told one came put (t, Ok taken) h = h
  row_told one came put (t, Err why) h = h

  -- another stage, that is no earlier
  pub at_told : (x : Seen) (at : Stage) (put : List OnLeg)
      → (is_early at ≡ true → is_early x.at ≡ true) → Told x put
      → Told (record x { at = at }) put
  at_told x at put later h =
      record { sized = h.sized; told = h.told; early = λ e. h.early (later e) }

  -- another line, whose window told as much
  pub line_told : (x : Seen) (line : Line) (put : List OnLeg) → AreSized line
      → line.current.window.told ≡ x.line.current.window.told
      → line.has_next ≡ x.line.has_next → Told x put → Told (record x { line = line }) put
  line_told x line put sized same has h = record {
    sized = sized;
    told = subst (λ (edge : ℕ). IsTold edge x.leg put) (sym same) h.told;
    early = λ e. ((h.early e).0, has ∙ (h.early e).1);
  }

  module _ (put : List OnLeg) where
    abbrev Fine : Server → Type 0
    Fine s = Told (seen s) put

    -- ---- PDUs

    admitted_sized : (line : Line) (which : Which) (bytes : List ℕ) → AreSized line
        → AreSized (after_admit line which bytes)
    admitted_sized line Current bytes h =
        let same = alike_admitted line.current bytes in
        record { size = h.size; now = same.1 ∙ h.now; next = h.next; shut = h.shut }
    admitted_sized line Next bytes h =
        let same = alike_admitted line.next bytes in
        record { size = h.size; now = h.now; next = same.1 ∙ h.next; shut = same.0 ∙ h.shut }

    admitted_told : (s : Server) (which : Which) (bytes : List ℕ) → Fine s
        → Told (record (seen s) { line = after_admit s.line which bytes }) put
    admitted_told s which bytes h =
        line_told (seen s) (after_admit s.line which bytes) put
        (admitted_sized s.line which bytes h.sized) (told which) (has which) h
      where
        told : (w : Which)
            → (after_admit s.line w bytes).current.window.told ≡ s.line.current.window.told
        told Current = (alike_admitted s.line.current bytes).0
        told Next = refl

        has : (w : Which) → (after_admit s.line w bytes).has_next ≡ s.line.has_next
        has Current = refl
        has Next = refl

    admit_fine : (s : Server) (which : Which) (bytes : List ℕ) (v : Result (Unit {0}) LineFault)
        → Fine s → Fine (admitted_by s which bytes v).0
    admit_fine s which bytes (Ok taken) h = admitted_told s which bytes h
    admit_fine s which bytes (Err (Window exceeded)) h = h
    admit_fine s which bytes (Err Over) h = h

    pdu_at : (s : Server) (bytes : List ℕ) (o : Option Which) → Fine s
        → Fine (admitted_on s bytes o).0
    pdu_at s bytes None h = h
    pdu_at s bytes (Some which) h =
        admit_fine s which bytes (lines.admit_verdict s.line which bytes) h

    pub pdu_fine : (s : Server) (n : ℕ) (bytes : List ℕ) (k : LegKind) → Fine s
        → Fine (pdu_by s n bytes k).0
    pdu_fine s n bytes InServer h =
        by_test (λ (d : Done). Fine d.0) (is_open s.stage)
        (admitted_on s bytes (channel_at s n)) (unexpected s)
        (λ e. pdu_at s bytes (channel_at s n) h) (λ e. h)
    pdu_fine s n bytes OutServer h = h
    pdu_fine s n bytes ClientIn h = h
    pdu_fine s n bytes ClientOut h = h

    -- ---- END

    ended_sized : (line : Line) (which : Which) → AreSized line → AreSized (after_end line which)
    ended_sized line Current h =
        record { size = h.size; now = h.now; next = h.next; shut = h.shut }
    ended_sized line Next h =
        record { size = h.size; now = h.now; next = h.next; shut = h.shut }

    end_at : (s : Server) (n : ℕ) (o : Option Which) → Fine s → Fine (end_a2_at s n o).0
    end_at s n None h =
        same_told s (end_a2_waiting s (in_leg n s.ins)).0 put
        (same_end_waiting s (in_leg n s.ins)) h
    end_at s n (Some which) h =
        by_test (λ (d : Done). Fine d.0) (is_over_on s which) (unexpected s)
        (took (record s { line = after_end s.line which })) (λ e. h)
        (λ e. line_told (seen s) (after_end s.line which) put (ended_sized s.line which h.sized)
        (told which) (has which) h)
      where
        told : (w : Which)
            → (after_end s.line w).current.window.told ≡ s.line.current.window.told
        told Current = refl
        told Next = refl

        has : (w : Which) → (after_end s.line w).has_next ≡ s.line.has_next
        has Current = refl
        has Next = refl

    end_fine : (s : Server) (n : ℕ) (count : Count) → Fine s → Fine (on_end_a2 s n count).0
    end_fine s n count h =
        by_test (λ (d : Done). Fine d.0) (is_first count) (unexpected s)
        (end_a2_at s n (channel_at s n)) (λ e. h) (λ e. end_at s n (channel_at s n) h)

    -- ---- the next channel

    opened_sized : (line : Line) (ended : Bool) → AreSized line
        → AreSized (ended_if ended (after_open_next line true))
    opened_sized line false h =
        record { size = h.size; now = h.now; next = h.size; shut = refl }
    opened_sized line true h =
        record { size = h.size; now = h.now; next = h.size; shut = refl }

    opened_alike : (line : Line) (ended : Bool)
        → (ended_if ended (after_open_next line true)).current.window.told
        ≡ line.current.window.told
    opened_alike line false = refl
    opened_alike line true = refl

    -- once CONN/B2 came
    opens_fine : (s : Server) (o : Option InLeg) → is_early s.stage ≡ false → Fine s
        → Fine (opens_leg s o)
    opens_fine s None late h = h
    opens_fine s (Some leg) late h = by leg.stage
      where
        by : (at : InStage) → Fine (opens_next s leg at)
        by in_stage.Fresh = h
        by in_stage.Opened = h
        by (in_stage.Waits in_window timeout ended) = record {
          sized = opened_sized s.line ended h.sized;
          told = subst (λ (edge : ℕ). IsTold edge s.current.leg put)
              (sym (opened_alike s.line ended)) h.told;
          early = λ e. absurd (true≢false (sym e ∙ late));
        }

    next_fine : (s : Server) → is_early s.stage ≡ false → Fine s → Fine (next_opened s)
    next_fine s late h =
        by_test Fine (s.line.has_next || waits kind.InR1A3 s.waiting) s
        (opens_leg s (first_waiting s.ins)) (λ e. h)
        (λ e. opens_fine s (first_waiting s.ins) late h)

    -- the channel that becomes current has a window that is shut
    current_fine : (s : Server) → is_early s.stage ≡ false → AreSized s.line
        → s.line.current.window.told ≡ 0 → Fine (becomes_current s)
    current_fine s late sized shut =
        next_fine (record s { current = s.next; edge = edges.Shut }) late (record {
          sized = sized;
          told = inl (omega (arith, shut));
          early = λ e. absurd (true≢false (sym e ∙ late));
        })

    not_moved : (had has : Bool) → has ≡ had → had && not has ≡ true → false ≡ true
    not_moved true true e f = f
    not_moved true false e f = e
    not_moved false has e f = f

    -- where the line didn't move on
    stays_fine : (s : Server) (had : Bool) → s.line.has_next ≡ had → Fine s
        → Fine (moved_if had s)
    stays_fine s had e h =
        by_test Fine (had && not s.line.has_next) (becomes_current s) s
        (λ f. absurd (false≢true (not_moved had s.line.has_next e f))) (λ f. h)

    -- where it may have
    settles_fine : (s : Server) (l : Line) → Told (record (seen s) { line = l }) put
        → Fine (moved_if l.has_next (record s { line = settled_line l }))
    settles_fine s l h = by (l.finished && is_empty l.current.pdus)
      where
        sized : AreSized (moved_on l)
        sized = record {
          size = h.sized.size;
          now = h.sized.next;
          next = h.sized.size;
          shut = refl;
        }

        late : (b : Bool) → is_early s.stage ≡ b → l.has_next ≡ true → b ≡ false
        late false e there = refl
        late true e there = sym there ∙ (h.early e).1

        moves : (had : Bool) → l.has_next ≡ had
            → Fine (moved_if had (record s { line = moved_on l }))
        moves true e =
            current_fine (record s { line = moved_on l }) (late (is_early s.stage) refl e) sized
            h.sized.shut
        moves false e = record {
          sized = sized;
          told = inl (let shut = h.sized.shut in omega (arith, shut));
          early = λ f. ((h.early f).0, refl);
        }

        by : (b : Bool)
            → Fine (moved_if l.has_next (record s { line = if b then moved_on l else l }))
        by true = moves l.has_next refl
        by false = stays_fine (record s { line = l }) l.has_next refl h

    pub take_fine : (s : Server) → Fine s → Fine (take s)
    take_fine s h = by s.line.current.pdus
      where
        by : (pdus : List (List ℕ))
            → Fine (moved_if s.line.has_next (record s { line = taken_line pdus s.line }))
        by [] = stays_fine s s.line.has_next refl h
        by (pdu ∷ pdus) =
            settles_fine s (record s.line { current = released (pdu ∷ pdus) s.line.current })
            (record {
              sized = record {
                size = h.sized.size;
                now = h.sized.now;
                next = h.sized.next;
                shut = h.sized.shut;
              };
              told = h.told;
              early = h.early;
            })

    -- ---- IN_R1/A2

    in_r1_a2_leg : (s : Server) (a b c d : Cookie) (e f : ℕ) (o : Option InLeg)
        → is_early s.stage ≡ false → Fine s → Fine (in_r1_a2_by s a b c d e f o).0
    in_r1_a2_leg s a b c d e f None late h = h
    in_r1_a2_leg s a b c d e f (Some leg) late h =
        by_test (λ (x : Done). Fine x.0) (not (is_fresh leg.stage)) (unexpected s) _ (λ g. h)
        (λ g. by_test (λ (x : Done). Fine x.0) (not (same_cookie a b))
        (refuse s (refused.Cookie a b)) _ (λ i. h)
        (λ i. by_test (λ (x : Done). Fine x.0) (not (same_cookie s.newest.cookie c))
        (refuse s (refused.Cookie s.newest.cookie c)) (took (announced s leg d e f)) (λ j. h)
        (λ j. next_fine (with_in
        (record s { newest = record { leg = leg.number; cookie = d } })
        (record leg { cookie = d; stage = in_stage.Waits e f false })) late h)))

    in_r1_a2_stage : (s : Server) (at : Stage) (n : ℕ) (a b c : Cookie) (d e : ℕ) → s.stage ≡ at
        → Fine s → Fine (in_r1_a2_at s at n a b c d e).0
    in_r1_a2_stage s (stages.Open known) n a b c d e is h =
        in_r1_a2_leg s known a b c d e (in_leg n s.ins) (ap is_early is) h
    in_r1_a2_stage s stages.Waits n a b c d e is h = h
    in_r1_a2_stage s (stages.OutCame known) n a b c d e is h = h
    in_r1_a2_stage s (stages.InCame known in_window timeout) n a b c d e is h = h
    in_r1_a2_stage s stages.Ended n a b c d e is h = h

    in_r1_a2_fine : (s : Server) (n : ℕ) (count : Count) (a b c : Cookie) (d e : ℕ) → Fine s
        → Fine (on_in_r1_a2 s n count a b c d e).0
    in_r1_a2_fine s n count a b c d e h =
        by_test (λ (x : Done). Fine x.0) (is_first count && not (has_fresh_below n s.ins))
        (in_r1_a2_at s s.stage n a b c d e) (unexpected s)
        (λ f. in_r1_a2_stage s s.stage n a b c d e refl h) (λ f. h)

    -- ---- IN_R1/A6

    hands_fine : (s : Server) (n : ℕ) → s.line.has_next ≡ true → Fine s → Fine (hands_over s n)
    hands_fine s n there h =
        subst (λ (had : Bool). Fine (moved_if had
        (record (leaves_by s (in_leg n s.ins)) { line = settled_line l }))) there
        (by (in_leg n s.ins))
      where
        l : Line
        l = record s.line { finished = true }

        finished : Told (record (seen s) { line = l }) put
        finished = record {
          sized = record {
            size = h.sized.size;
            now = h.sized.now;
            next = h.sized.next;
            shut = h.sized.shut;
          };
          told = h.told;
          early = h.early;
        }

        by : (o : Option InLeg)
            → Fine (moved_if l.has_next (record (leaves_by s o) { line = settled_line l }))
        by None = settles_fine s l finished
        by (Some leg) = settles_fine (leaves_by s (Some leg)) l finished

    in_r1_a6_fine : (s : Server) (n : ℕ) (cookie : Cookie) → Fine s
        → Fine (on_in_r1_a6 s n cookie).0
    in_r1_a6_fine s n cookie h =
        by_test (λ (d : Done). Fine d.0)
        ((n == s.current.leg)
        && (not s.line.finished && (s.line.has_next && not (waits kind.InR1A3 s.waiting))))
        (if same_cookie s.next.cookie cookie then took (hands_over s n)
        else refuse s (refused.Cookie s.next.cookie cookie))
        (unexpected s)
        (λ e. by_test (λ (d : Done). Fine d.0) (same_cookie s.next.cookie cookie)
        (took (hands_over s n)) (refuse s (refused.Cookie s.next.cookie cookie))
        (λ f. hands_fine s n (there e) h) (λ f. h))
        (λ e. h)
      where
        there : (n == s.current.leg)
            && (not s.line.finished && (s.line.has_next && not (waits kind.InR1A3 s.waiting)))
            ≡ true
            → s.line.has_next ≡ true
        there e =
            (and_parts s.line.has_next (not (waits kind.InR1A3 s.waiting))
            (and_parts (not s.line.finished) _ (and_parts (n == s.current.leg) _ e).1).1).0

    -- ---- CONN/B2

    -- the first channel is the current one
    first_fine : (s : Server) (cookie : Cookie) (at : Stage) (o : Option InLeg)
        → is_early s.stage ≡ true → is_early at ≡ false → Fine s
        → Told (seen (record (first_in s cookie o) { stage = at })) put
    first_fine s cookie at None early late h =
        record {
          sized = h.sized;
          told = h.told;
          early = λ e. absurd (true≢false (sym e ∙ late));
        }
    first_fine s cookie at (Some leg) early late h = record {
      sized = h.sized;
      told = subst (λ (n : ℕ). IsTold s.line.current.window.told n put) (h.early early).0 h.told;
      early = λ e. absurd (true≢false (sym e ∙ late));
    }

    conn_b2_fine : (s : Server) (n : ℕ) (count : Count) (a b : Cookie) (c d : ℕ) → Fine s
        → Fine (on_conn_b2 s n count a b c d).0
    conn_b2_fine s n count a b c d h =
        by_test (λ (x : Done). Fine x.0)
        (is_first count && ((n == 1) && not (waits kind.ConnC1 s.waiting)))
        (conn_b2_at s s.stage a b c d) (unexpected s) (λ e. by s.stage refl) (λ e. h)
      where
        by : (at : Stage) → s.stage ≡ at → Fine (conn_b2_at s at a b c d).0
        by stages.Waits e =
            first_fine s b (stages.InCame a c d) (in_leg 1 s.ins) (ap is_early e) refl h
        by (stages.OutCame known) e =
            by_test (λ (x : Done). Fine x.0) (same_cookie known a)
            (took (opens (with_first_in s b) known c d)) (refuse s (refused.Cookie known a))
            (λ f. first_fine s b (stages.Open known) (in_leg 1 s.ins) (ap is_early e) refl h)
            (λ f. h)
        by (stages.InCame known in_window timeout) e = h
        by (stages.Open known) e = h
        by stages.Ended e = h

    -- ---- CONN/A2

    first_out_same : (s : Server) (cookie : Cookie) (lifetime size : ℕ) (at : Stage)
        (place : Option ℕ) (o : Option OutLeg)
        → seen (record (first_out_at s cookie lifetime size place o) { stage = at })
        ≡ record (seen s) { at = at }
    first_out_same s cookie lifetime size at None o = refl
    first_out_same s cookie lifetime size at (Some place) None = refl
    first_out_same s cookie lifetime size at (Some place) (Some leg) = refl

    conn_a2_fine : (s : Server) (n : ℕ) (count : Count) (a b : Cookie) (c d : ℕ) → Fine s
        → Fine (on_conn_a2 s n count a b c d).0
    conn_a2_fine s n count a b c d h =
        by_test (λ (x : Done). Fine x.0)
        (is_first count && ((n == 1) && not (waits kind.ConnC1 s.waiting)))
        (conn_a2_at s s.stage a b c d) (unexpected s) (λ e. by s.stage refl) (λ e. h)
      where
        at_stage : (at : Stage) → (is_early at ≡ true → is_early s.stage ≡ true)
            → Told (seen (record (with_first_out s b c d) { stage = at })) put
        at_stage at later =
            subst (λ (x : Seen). Told x put)
            (sym (first_out_same s b c d at (out_place 1 s.outs)
            (out_at s.outs (out_place 1 s.outs))))
            (at_told (seen s) at put later h)

        by : (at : Stage) → s.stage ≡ at → Fine (conn_a2_at s at a b c d).0
        by stages.Waits e = at_stage (stages.OutCame a) (λ f. ap is_early e)
        by (stages.InCame known in_window timeout) e =
            by_test (λ (x : Done). Fine x.0) (same_cookie known a)
            (took (opens (with_first_out s b c d) known in_window timeout))
            (refuse s (refused.Cookie known a))
            (λ f. at_stage (stages.Open known) (λ g. absurd (false≢true g))) (λ f. h)
        by (stages.OutCame known) e = h
        by (stages.Open known) e = h
        by stages.Ended e = h

    -- ---- packets

    is_fine : (s : Server) (n : ℕ) (count : Count) (m : Named) → Fine s
        → Fine (on_is s n count m).0
    is_fine s n count (named.ConnB2 v1 v2 v3 v4 v5 v6 v7 v8) h =
        conn_b2_fine s n count v2 v3 v4 v5 h
    is_fine s n count (named.InR1A2 v1 v2 v3 v4 v5 v6) h =
        in_r1_a2_fine s n count v2 v3 v4 v5 v6 h
    is_fine s n count (named.InR1A6 v1) h = in_r1_a6_fine s n v1 h
    is_fine s n count (named.InR2A2 v1) h =
        same_told s (on_in_r2_a2 s n count v1).0 put (same_in_r2_a2 s n count v1) h
    is_fine s n count (named.AckTo v1 v2 v3 v4) h =
        same_told s (on_ack_to s count v1 v2 v3 v4).0 put (same_ack_to s count v1 v2 v3 v4) h
    is_fine s n count (named.OutR1A8 v1 v2) h =
        same_told s (on_out_r1_a8 s count v1 v2).0 put (same_out_r1_a8 s count v1 v2) h
    is_fine s n count named.EndA2 h = end_fine s n count h
    is_fine s n count m h = h

    os_fine : (s : Server) (n : ℕ) (count : Count) (m : Named) → Fine s
        → Fine (on_os s n count m).0
    os_fine s n count (named.ConnA2 v1 v2 v3 v4 v5) h = conn_a2_fine s n count v2 v3 v4 v5 h
    os_fine s n count (named.OutR1A4 v1 v2 v3 v4 v5 v6 v7) h =
        same_told s (on_out_r1_a4 s n count v2 v3 v4 v5 v6 v7).0 put
        (same_out_r1_a4 s n count v2 v3 v4 v5 v6 v7) h
    os_fine s n count (named.Ack v1 v2 v3) h =
        same_told s (on_ack s n count v1 v2 v3).0 put (same_ack s n count v1 v2 v3) h
    os_fine s n count (named.PingTraffic v1) h =
        by_test (λ (d : Done). Fine d.0) (is_first count) (unexpected s) (took s) (λ e. h) (λ e. h)
    os_fine s n count m h = h

    pub packet_fine : (s : Server) (n : ℕ) (count : Count) (m : Named) (k : LegKind) → Fine s
        → Fine (packet_by s n count m k).0
    packet_fine s n count m InServer h = is_fine s n count m h
    packet_fine s n count m OutServer h = os_fine s n count m h
    packet_fine s n count m ClientIn h = h
    packet_fine s n count m ClientOut h = h
