-- what a client knows of its channels, by what came and what it put
use Rattle.law_order.proofs.Vocabulary.{◌≡◌, ℕ, suc, Bool, true, false, List, [], ◌∷◌, ◌++◌, refl, sym, ap, ◌∙◌, subst, append-nil}
use Rattle.rh_client.specs.declared.replacement.InStage.TheVariants as in_stage
use Rattle.law_moves.proofs.Vocabulary.{Cookie, ConnC2, OutR1A7, ClientConfig, Leg, ClientIn, Message, Packet, OnLeg, of_leg, Has, of_kind}
use Rattle.law_moves.proofs.Lemmas.{leg_more, kind_more, has_more, has_last}
use Rattle.law_role_client.proofs.Vocabulary.{InChannel, Replacement, NoneUnderWay, In, Out, InStage, ClientRole, is_none, is_in, is_out, is_open, ci, co, is_switched_by}
use Rattle.law_role_client.proofs.Receiving.Replaced.{is_answered as out_answered}
use Rattle.law_role_client.proofs.Sending.Facts.{seen_out, SeenOut as Channel}
use Rattle.law_role_client.proofs.Sending.Logs.{leg_here}
use Rattle.law_role_client_rows.proofs.Putting.Channels.{AreSo, puts_elsewhere, last}
use Rattle.law_role_client_rows.specs.Putting.{in_way, out_way, HasOpened, SwitchesFrom}

-- ---- what the facts are about

abbrev pub seen_in : InChannel → Channel
seen_in c = record { number = c.number; cookie = c.cookie; opening = c.opening }

abbrev is_answered_in : InStage → Bool
is_answered_in in_stage.Asked = false
is_answered_in in_stage.Answered = true

abbrev in_answered : Replacement → Bool
in_answered NoneUnderWay = false
in_answered (In stage out_waits) = is_answered_in stage
in_answered (Out stage waiting) = false

pub record View : Type 0 where
  pub config : ClientConfig
  pub opened : Bool
  pub idle : Bool
  pub writing : Channel
  pub in_successor : Channel
  pub replaces_in : Bool
  pub answered_in : Bool
  pub current : Channel
  pub out_successor : Channel
  pub replaces_out : Bool
  pub answered_out : Bool
  pub switched : Bool

abbrev pub view : ClientRole → View
view s = record {
  config = s.config;
  opened = is_open s.phase;
  idle = is_none s.replacement;
  writing = seen_in s.writing;
  in_successor = seen_in s.in_successor;
  replaces_in = is_in s.replacement;
  answered_in = in_answered s.replacement;
  current = seen_out s.current;
  out_successor = seen_out s.out_successor;
  replaces_out = is_out s.replacement;
  answered_out = out_answered s.replacement;
  switched = is_switched_by s.replacement;
}

-- ---- OUT_R1/A7

-- the number of the current channel behind these messages
abbrev pub counter : ℕ → List Message → ℕ
counter current [] = current
counter current (Packet (OutR1A7 to successor) ∷ messages) = counter (suc current) messages
counter current (message ∷ messages) = counter current messages

counter_more : (current : ℕ) (a : List Message) (m : Message)
    → counter current (a ++ m ∷ []) ≡ counter (counter current a) (m ∷ [])
counter_more current [] m = refl
counter_more current (Packet (OutR1A7 to successor) ∷ a) m = counter_more (suc current) a m
counter_more current (first ∷ a) m = counter_more current a m

switches_more : (Comes : Leg → Cookie → Type 0) (current : ℕ) (a : List Message) (m : Message)
    → SwitchesFrom Comes (counter current a) (m ∷ []) → SwitchesFrom Comes current a
    → SwitchesFrom Comes current (a ++ m ∷ [])
switches_more Comes current [] m now h = now
switches_more Comes current (Packet (OutR1A7 to successor) ∷ a) m now h =
    (h.0, switches_more Comes (suc current) a m now h.1)
switches_more Comes current (first ∷ a) m now h = switches_more Comes current a m now h

-- ---- CONN/C2

opened_more : (came : List OnLeg) (one : OnLeg) → HasOpened came → HasOpened (came ++ one ∷ [])
opened_more came one h = record {
  version = h.version;
  window = h.window;
  timeout = h.timeout;
  has = subst (Has (ConnC2 h.version h.window h.timeout)) (sym (leg_more (co 1) came one))
      (has_more (ConnC2 h.version h.window h.timeout) (of_leg (co 1) came)
      (of_leg (co 1) (one ∷ [])) h.has);
}

pub opened_last : (came : List OnLeg) (version window timeout : ℕ)
    → HasOpened (came ++ (co 1, Packet (ConnC2 version window timeout)) ∷ [])
opened_last came version window timeout =
    let packet = ConnC2 version window timeout in
    record {
      version = version;
      window = window;
      timeout = timeout;
      has = subst (Has packet) (sym (leg_here (co 1) came (co 1, Packet packet) refl))
          (has_last packet (of_leg (co 1) came));
    }

-- ---- the facts

module _ (config : ClientConfig) (Comes : Leg → Cookie → Type 0) (Early : Leg → Type 0) where
  pub record Switches (current : ℕ) (switched : Bool) (put : List OnLeg) : Type 0 where
    pub each : SwitchesFrom Comes 1 (of_kind ClientIn put)
    pub counted : counter 1 (of_kind ClientIn put) ≡ last switched current

  abbrev pub AreIns : Channel → Channel → Bool → Bool → List OnLeg → Type 0
  AreIns x y replaces answered put =
      AreSo (in_way config Comes) Comes Early x y replaces answered put

  abbrev pub AreOuts : Channel → Channel → Bool → Bool → List OnLeg → Type 0
  AreOuts x y replaces answered put =
      AreSo (out_way config) Comes Early x y replaces answered put

  pub record IsSo (v : View) (came put : List OnLeg) : Type 0 where
    pub same : v.config ≡ config
    pub opens : v.opened ≡ true → HasOpened came
    pub under_way : v.idle ≡ false → HasOpened came
    pub ins : AreIns v.writing v.in_successor v.replaces_in v.answered_in put
    pub outs : AreOuts v.current v.out_successor v.replaces_out v.answered_out put
    pub switches : Switches v.current.number v.switched put

  abbrev pub Kept : ClientRole → List OnLeg → List OnLeg → Type 0
  Kept s came put = IsSo (view s) came put

  -- ---- the channels change

  pub with_ins : {v : View} {came put : List OnLeg} (h : IsSo v came put) {x y : Channel}
      {replaces answered : Bool} → AreIns x y replaces answered put
      → IsSo (record v {
        writing = x;
        in_successor = y;
        replaces_in = replaces;
        answered_in = answered;
      }) came put
  with_ins h ins = record {
    same = h.same;
    opens = h.opens;
    under_way = h.under_way;
    ins = ins;
    outs = h.outs;
    switches = h.switches;
  }

  pub with_outs : {v : View} {came put : List OnLeg} (h : IsSo v came put) {x y : Channel}
      {replaces answered : Bool} → x.number ≡ v.current.number
      → AreOuts x y replaces answered put
      → IsSo (record v {
        current = x;
        out_successor = y;
        replaces_out = replaces;
        answered_out = answered;
      }) came put
  with_outs {v} {came} {put} h {x} e outs = record {
    same = h.same;
    opens = h.opens;
    under_way = h.under_way;
    ins = h.ins;
    outs = outs;
    switches = subst (λ (n : ℕ). Switches n v.switched put) (sym e) h.switches;
  }

  -- ---- a message came

  pub heard : (v : View) (came put : List OnLeg) (one : OnLeg) → IsSo v came put
      → IsSo v (came ++ one ∷ []) put
  heard v came put one h = record {
    same = h.same;
    opens = λ e. opened_more came one (h.opens e);
    under_way = λ e. opened_more came one (h.under_way e);
    ins = h.ins;
    outs = h.outs;
    switches = h.switches;
  }

  -- ---- a message was put

  -- on an IN channel
  put_more : (current : ℕ) (switched : Bool) (put : List OnLeg) (n : ℕ) (m : Message)
      (number : ℕ) → SwitchesFrom Comes (last switched current) (m ∷ [])
      → counter (last switched current) (m ∷ []) ≡ number → Switches current switched put
      → SwitchesFrom Comes 1 (of_kind ClientIn (put ++ (ci n, m) ∷ []))
      × (counter 1 (of_kind ClientIn (put ++ (ci n, m) ∷ [])) ≡ number)
  put_more current switched put n m number now counts h =
      let more : of_kind ClientIn (put ++ (ci n, m) ∷ []) ≡ of_kind ClientIn put ++ m ∷ []
      = kind_more ClientIn put (ci n, m) in (
        subst (SwitchesFrom Comes 1) (sym more)
            (switches_more Comes 1 (of_kind ClientIn put) m
            (subst (λ (k : ℕ). SwitchesFrom Comes k (m ∷ [])) (sym h.counted) now) h.each),
        ap (counter 1) more
            ∙ counter_more 1 (of_kind ClientIn put) m
            ∙ ap (λ (k : ℕ). counter k (m ∷ [])) h.counted
            ∙ counts,
      )

  -- a message that switches to none
  abbrev pub IsPlain : Message → Type 0
  IsPlain m = (k : ℕ) → SwitchesFrom Comes k (m ∷ []) × (counter k (m ∷ []) ≡ k)

  plain_more : (current : ℕ) (switched : Bool) (put : List OnLeg) (n : ℕ) (m : Message)
      → IsPlain m → Switches current switched put
      → Switches current switched (put ++ (ci n, m) ∷ [])
  plain_more current switched put n m plain h =
      let is = plain (last switched current) in
      let more = put_more current switched put n m (last switched current) is.0 is.1 h in
      record { each = more.0; counted = more.1 }

  -- OUT_R1/A7
  pub switch_more : (current : ℕ) (put : List OnLeg) (n to : ℕ) (successor : Cookie)
      → Comes (co (suc current)) successor → Switches current false put
      → Switches current true (put ++ (ci n, Packet (OutR1A7 to successor)) ∷ [])
  switch_more current put n to successor comes h =
      let more = put_more current false put n (Packet (OutR1A7 to successor)) (suc current)
      (comes, tt) refl h in
      record { each = more.0; counted = more.1 }

  -- on an OUT channel
  out_more : (current : ℕ) (switched : Bool) (put : List OnLeg) (n : ℕ) (m : Message)
      → Switches current switched put → Switches current switched (put ++ (co n, m) ∷ [])
  out_more current switched put n m h =
      let same : of_kind ClientIn (put ++ (co n, m) ∷ []) ≡ of_kind ClientIn put
      = kind_more ClientIn put (co n, m) ∙ append-nil (of_kind ClientIn put) in
      record {
        each = subst (SwitchesFrom Comes 1) (sym same) h.each;
        counted = ap (counter 1) same ∙ h.counted;
      }

  pub in_put : {v : View} {came put : List OnLeg} (h : IsSo v came put) (n : ℕ) (m : Message)
      {x y : Channel} → IsPlain m → AreIns x y v.replaces_in v.answered_in (put ++ (ci n, m) ∷ [])
      → IsSo (record v { writing = x; in_successor = y }) came (put ++ (ci n, m) ∷ [])
  in_put {v} {came} {put} h n m plain ins = record {
    same = h.same;
    opens = h.opens;
    under_way = h.under_way;
    ins = ins;
    outs = puts_elsewhere (out_way config) Comes Early h.outs (ci n, m) (λ k. refl);
    switches = plain_more v.current.number v.switched put n m plain h.switches;
  }

  pub out_put : {v : View} {came put : List OnLeg} (h : IsSo v came put) (n : ℕ) (m : Message)
      {x y : Channel} → x.number ≡ v.current.number
      → AreOuts x y v.replaces_out v.answered_out (put ++ (co n, m) ∷ [])
      → IsSo (record v { current = x; out_successor = y }) came (put ++ (co n, m) ∷ [])
  out_put {v} {came} {put} h n m {x} e outs = record {
    same = h.same;
    opens = h.opens;
    under_way = h.under_way;
    ins = puts_elsewhere (in_way config Comes) Comes Early h.ins (co n, m) (λ k. refl);
    outs = outs;
    switches = subst (λ (k : ℕ). Switches k v.switched (put ++ (co n, m) ∷ [])) (sym e)
        (out_more v.current.number v.switched put n m h.switches);
  }
