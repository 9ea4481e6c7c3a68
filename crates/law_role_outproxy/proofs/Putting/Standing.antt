-- how an out proxy stands with its client: what was put, and what goes next, make up a form
use Rattle.law_order.proofs.Vocabulary.{◌≡◌, ◌⊎◌, inl, inr, ℕ, ◌||◌, not, Bool, true, false, List, [], ◌∷◌, ◌++◌, append_assoc, None, is_some, refl, sym, ap, ◌∙◌, subst, append-nil, AllByRecursion, Option}
use Rattle.rh_sig.specs.declared.named.Named.TheVariants as named
use Rattle.rh_outproxy.specs.declared.state.Ping.{Ping}
use Rattle.rh_outproxy.specs.declared.state.Answer.TheVariants as answers
use Rattle.rh_outproxy.specs.declared.state.Channel.TheVariants as channels
use Rattle.rh_outproxy.specs.declared.state.Mark.TheVariants as marks
use Rattle.rh_outproxy.specs.declared.state.Ping.TheVariants as pings
use Rattle.law_moves.proofs.Vocabulary.{Cookie, Named, Asked, Due, FORWARDED_ROOM, Message, Text, Packet, Waiting, to_forward}
use Rattle.law_moves.proofs.Lemmas.{all_append}
use Rattle.law_role_outproxy.proofs.Vocabulary.{Answer, Channel, ClientLeg, Mark, OutProxyConfig, ServerLeg, OutProxy, is_client_marked, is_known, is_server_down, is_successor, joined, behind_response, echo_text, response, PassesPacket, IsPassed, OpensClient}
use Rattle.law_role_outproxy.proofs.Putting.Forms.{IsPing, HasOpened, IsBegun, Follows, Each, WaitsOpening, begun_so, begun_same, pings_open, opened_more, opened_came, follows_more, follows_came, each_came, waits_came, passes_more}

-- ---- what the facts are about

pub record Core : Type 0 where
  pub answer : Answer
  pub request : Option Asked
  pub channel : Channel
  pub server : ServerLeg
  pub waiting : Waiting

pub record Seen : Type 0 where
  pub core : Core
  pub client : ClientLeg
  pub pdus : List (List ℕ)
  pub end : Mark
  pub handover : Mark
  pub ping : Ping

abbrev pub core_of : OutProxy → Core
core_of s = record {
  answer = s.answer;
  request = s.request;
  channel = s.channel;
  server = s.server;
  waiting = s.waiting;
}

abbrev pub seen : OutProxy → Seen
seen s = record {
  core = core_of s;
  client = s.client;
  pdus = s.line.current.pdus;
  end = s.end;
  handover = s.handover;
  ping = s.ping;
}

-- the leg to the server is not up, or no CONN/C1 came
abbrev pub is_still : Core → Bool
is_still a = is_server_down a.server || not (is_some (joined a.channel))

-- nothing is there that the server sent
pub record IsQuiet (a : Seen) : Type 0 where
  pub pdus : a.pdus ≡ []
  pub dues : a.core.waiting.due ≡ []
  pub end : a.end ≡ marks.Awaited
  pub handover : a.handover ≡ marks.Awaited
  pub client : is_client_marked a.client ≡ false

-- whatever is in the core, where nothing more waits
pub quiet_core : (a : Seen) (k : Core) → k.waiting ≡ a.core.waiting → IsQuiet a
    → IsQuiet (record a { core = k })
quiet_core a k same q = record {
  pdus = q.pdus;
  dues = ap (λ (w : Waiting). w.due) same ∙ q.dues;
  end = q.end;
  handover = q.handover;
  client = q.client;
}

-- CONN/C1 came
abbrev pub is_opened : Channel → Bool
is_opened (channels.Joined connection cookie) = true
is_opened channel = false

abbrev pub IsServing : Answer → Type 0
IsServing answers.ResponseDue = Unit {0}
IsServing answers.TimeoutDue = Unit {0}
IsServing answers.Put = Unit {0}
IsServing answer = ⊥

-- where the leg to the server is down, an echo request was answered, or nothing was put
abbrev pub IsDown : Answer → Option Asked → Channel → List Message → Type 0
IsDown answers.Awaited request channel put = put ≡ []
IsDown answers.EchoDue request channel put =
    (request ≡ None) × (channel ≡ channels.Unknown) × (put ≡ [])
IsDown answers.EchoPut request channel put =
    (request ≡ None) × (channel ≡ channels.Unknown) × (put ≡ Text echo_text ∷ [])
IsDown answers.EchoDrawn request channel put =
    (request ≡ None) × (channel ≡ channels.Unknown) × (put ≡ Text echo_text ∷ [])
IsDown answer request channel put = ⊥

module _ (config : OutProxyConfig) where
  abbrev timeout : Message
  timeout = Packet (named.ConnA3 config.timeout)

  -- what goes first, and is still to go
  abbrev first_due : Bool → List Message
  first_due true = response config ∷ []
  first_due false = response config ∷ timeout ∷ []

  abbrev pub due_by : Answer → Bool → List Message
  due_by answers.ResponseDue successor = first_due successor
  due_by answers.TimeoutDue successor = timeout ∷ []
  due_by answer successor = []

  -- what was put and goes first is of the channel's form, with what waits
  abbrev pub Kind : List Message → Channel → List Message → List Due → Type 0
  Kind came channels.Unknown put dues = ⊥
  Kind came (channels.New connection cookie) put dues =
      IsBegun config (AllByRecursion IsPing) put
  Kind came (channels.Joined connection cookie) put dues =
      (IsBegun config (AllByRecursion IsPing) put × WaitsOpening came dues)
      ⊎ (IsBegun config (HasOpened came) put × Each (PassesPacket came) dues)
  Kind came (channels.Successor connection predecessor cookie) put dues =
      Follows config came put × Each (PassesPacket came) dues

  abbrev pub At : Bool → Core → List Message → List Message → Type 0
  At true a came put = IsDown a.answer a.request a.channel put
  At false a came put =
      IsServing a.answer
      × Kind came a.channel (put ++ due_by a.answer (is_successor a.channel)) a.waiting.due

  pub record Stands (a : Seen) (came put : List Message) : Type 0 where
    pub still : is_still a.core ≡ true → IsQuiet a
    pub silent : is_server_down a.core.server ≡ true
        → (a.ping ≡ pings.NotDue) × (is_opened a.core.channel ≡ false)
    pub room : a.core.waiting.room ≡ FORWARDED_ROOM
    pub at : At (is_server_down a.core.server) a.core came put

  -- ---- more came

  pub kind_came : (a b : List Message) (c : Channel) (put : List Message) (dues : List Due)
      → Kind a c put dues → Kind (a ++ b) c put dues
  kind_came a b channels.Unknown put dues h = h
  kind_came a b (channels.New connection cookie) put dues h = h
  kind_came a b (channels.Joined connection cookie) put dues (inl h) =
      inl (h.0, waits_came a b dues h.1)
  kind_came a b (channels.Joined connection cookie) put dues (inr h) =
      inr (
        begun_same config (HasOpened a) (HasOpened (a ++ b)) put (opened_came a b) h.0,
        each_came (PassesPacket a) (PassesPacket (a ++ b)) (passes_more a b) dues h.1,
      )
  kind_came a b (channels.Successor connection predecessor cookie) put dues h = (
    follows_came config a b put h.0,
    each_came (PassesPacket a) (PassesPacket (a ++ b)) (passes_more a b) dues h.1,
  )

  pub at_came : (down : Bool) (k : Core) (a b put : List Message) → At down k a put
      → At down k (a ++ b) put
  at_came true k a b put h = h
  at_came false k a b put h = (
    h.0,
    kind_came a b k.channel (put ++ due_by k.answer (is_successor k.channel))
        k.waiting.due h.1,
  )

  pub stands_came : (a : Seen) (came more put : List Message) → Stands a came put
      → Stands a (came ++ more) put
  stands_came a came more put h = record {
    still = h.still;
    silent = h.silent;
    room = h.room;
    at = at_came (is_server_down a.core.server) a.core came more put h.at;
  }

  -- ---- more is put

  module _ (came : List Message) where
    -- the first that waits
    pub kind_waits : (c : Channel) (put : List Message) (due : Due) (dues : List Due)
        → is_some (joined c) ≡ true → Kind came c put (due ∷ dues)
        → Kind came c (put ++ Packet due.packet ∷ []) dues
    kind_waits channels.Unknown put due dues e h = absurd h
    kind_waits (channels.New connection cookie) put due dues e h = absurd cc
    kind_waits (channels.Joined connection cookie) put due dues e (inl h) =
        inr (
          begun_so config (AllByRecursion IsPing) (HasOpened came) put
              (Packet due.packet ∷ [])
              (λ rest all. pings_open came rest due.packet all h.1.0) h.0,
          h.1.1,
        )
    kind_waits (channels.Joined connection cookie) put due dues e (inr h) =
        inr (
          begun_so config (HasOpened came) (HasOpened came) put (Packet due.packet ∷ [])
              (λ rest all. opened_more came rest (Packet due.packet) all h.1.0) h.0,
          h.1.1,
        )
    kind_waits (channels.Successor connection predecessor cookie) put due dues e h =
        (follows_more config came put (Packet due.packet) h.0 h.1.0, h.1.1)

    -- what passes, where nothing waits
    pub kind_passes : (c : Channel) (put : List Message) (m : Message)
        → is_some (joined c) ≡ true → IsPassed came m → Kind came c put []
        → Kind came c (put ++ m ∷ []) []
    kind_passes channels.Unknown put m e is h = absurd h
    kind_passes (channels.New connection cookie) put m e is h = absurd cc
    kind_passes (channels.Joined connection cookie) put m e is (inl h) = absurd h.1
    kind_passes (channels.Joined connection cookie) put m e is (inr h) =
        inr (
          begun_so config (HasOpened came) (HasOpened came) put (m ∷ [])
              (λ rest all. opened_more came rest m all is) h.0,
          tt,
        )
    kind_passes (channels.Successor connection predecessor cookie) put m e is h =
        (follows_more config came put m h.0 is, tt)

    -- a Ping
    pub kind_pings : (c : Channel) (put : List Message) → Kind came c put []
        → Kind came c (put ++ Packet named.Ping ∷ []) []
    kind_pings channels.Unknown put h = absurd h
    kind_pings (channels.New connection cookie) put h =
        begun_so config (AllByRecursion IsPing) (AllByRecursion IsPing) put
        (Packet named.Ping ∷ [])
        (λ rest all. all_append IsPing rest (Packet named.Ping ∷ []) all (refl, tt)) h
    kind_pings (channels.Joined connection cookie) put h =
        kind_passes (channels.Joined connection cookie) put (Packet named.Ping) refl tt h
    kind_pings (channels.Successor connection predecessor cookie) put h =
        kind_passes (channels.Successor connection predecessor cookie) put (Packet named.Ping)
        refl tt h

    -- CONN/C1 came, and waits
    pub kind_opens : (connection cookie : Cookie) (put : List Message) (m : Named) (dues : List Due)
        → OpensClient came m
        → Kind came (channels.New connection cookie) put dues
        → Kind came (channels.Joined connection cookie) put (to_forward m ∷ [])
    kind_opens connection cookie put m dues opens h = inl (h, (opens, tt))

  -- behind what goes first
  pub put_more : (put due : List Message) (m : Message) (Q : List Message → Type 0) → due ≡ []
      → Q ((put ++ due) ++ m ∷ []) → Q ((put ++ m ∷ []) ++ due)
  put_more put due m Q e h =
      subst (λ (d : List Message). Q ((put ++ m ∷ []) ++ d)) (sym e)
      (subst Q (ap (λ (ms : List Message). ms ++ m ∷ []) (append-nil put)
      ∙ sym (append-nil (put ++ m ∷ [])))
      (subst (λ (d : List Message). Q ((put ++ d) ++ m ∷ [])) e h))

  -- what goes first is put
  pub response_goes : (c : Channel) (put : List Message)
      → put ++ due_by answers.ResponseDue (is_successor c)
      ≡ (put ++ response config ∷ []) ++ due_by (behind_response c) (is_successor c)
  response_goes channels.Unknown put = sym (append_assoc put (response config ∷ []) (timeout ∷ []))
  response_goes (channels.New connection cookie) put =
      sym (append_assoc put (response config ∷ []) (timeout ∷ []))
  response_goes (channels.Joined connection cookie) put =
      sym (append_assoc put (response config ∷ []) (timeout ∷ []))
  response_goes (channels.Successor connection predecessor cookie) put =
      sym (append_assoc put (response config ∷ []) [])

  pub response_serves : (c : Channel) → IsServing (behind_response c)
  response_serves channels.Unknown = tt
  response_serves (channels.New connection cookie) = tt
  response_serves (channels.Joined connection cookie) = tt
  response_serves (channels.Successor connection predecessor cookie) = tt

  pub timeout_goes : (put : List Message) → put ++ timeout ∷ [] ≡ (put ++ timeout ∷ []) ++ []
  timeout_goes put = sym (append-nil (put ++ timeout ∷ []))

  -- the leg to the server comes up
  pub kind_starts : (came : List Message) (c : Channel) (dues : List Due) → is_known c ≡ true
      → is_opened c ≡ false → dues ≡ []
      → Kind came c (due_by answers.ResponseDue (is_successor c)) dues
  kind_starts came channels.Unknown dues e f none = absurd cc
  kind_starts came (channels.New connection cookie) dues e f none = (refl, refl, tt)
  kind_starts came (channels.Joined connection cookie) dues e f none = absurd cc
  kind_starts came (channels.Successor connection predecessor cookie) dues e f none =
      ((refl, tt), subst (Each (PassesPacket came)) (sym none) tt)
