-- what is known of a client's channels, by what came and by what it put
use Rattle.law_order.proofs.Vocabulary.{◌≡◌, ◌⊎◌, ℕ, suc, ◌+◌, ◌≤◌, ◌<◌, Bool, true, false, true≢false, List, [], ◌∷◌, ◌++◌, inl, inr, arith, refl, sym, ap, ◌∙◌, subst}
use Rattle.rh_client.specs.declared.replacement.InStage.TheVariants as in_stage
use Rattle.rh_client.specs.declared.replacement.OutStage.TheVariants as out_stage
use Rattle.law_moves.proofs.Vocabulary.{Cookie, Phase, Line, Leg, first_line, ClientIn, OnLeg, is_ended, of_leg, of_kind, HasOne}
use Rattle.law_role_client.proofs.Vocabulary.{InChannel, OutChannel, Replacement, NoneUnderWay, In, Out, ClientRole, is_up, is_asked, is_opening, ci, co, once_if}
use Rattle.law_role_client.proofs.Counted.Behind.{still_has}
use Rattle.law_role_client.proofs.Counted.Views.{Way, Free, InIsAsked, InIsAnswered, OutIsAsked, OutIsAnswered, OutIsSwitched, OutIsFinished, way_of, is_in_way, is_out_way}
use Rattle.law_role_client_edges.specs.Telling.{OpensTo, AcksTo}
use Rattle.law_role_client_edges.specs.Knowing.{is_window, told_last, IsWithinEdge, IsWithinAll}
use Rattle.law_role_client_edges.proofs.Lists.{windows, windows_stay, told_stays, since_more, kind_stays}

-- ---- what the facts are about

pub record InSeen : Type 0 where
  pub number : ℕ
  pub cookie : Cookie
  pub up : Bool
  pub told : ℕ
  pub edge : ℕ

pub record OutSeen : Type 0 where
  pub number : ℕ
  pub cookie : Cookie
  pub up : Bool
  -- its first packet was put
  pub asked : Bool

pub record Seen : Type 0 where
  pub phase : Phase
  pub size : ℕ
  pub way : Way
  pub writing : InSeen
  pub in_successor : InSeen
  pub leaving : InSeen
  pub end_put : Bool
  pub current : OutSeen
  pub out_successor : OutSeen
  pub line : Line

abbrev pub in_seen : InChannel → InSeen
in_seen c = record {
  number = c.number;
  cookie = c.cookie;
  up = is_up c.opening;
  told = c.told;
  edge = c.window.edge;
}

abbrev pub out_seen : OutChannel → OutSeen
out_seen c = record {
  number = c.number;
  cookie = c.cookie;
  up = is_up c.opening;
  asked = is_asked c.opening;
}

abbrev pub seen_by : ClientRole → Replacement → Seen
seen_by s r = record {
  phase = s.phase;
  size = s.config.window;
  way = way_of r;
  writing = in_seen s.writing;
  in_successor = in_seen s.in_successor;
  leaving = in_seen s.leaving;
  end_put = s.writing.is_end_put;
  current = out_seen s.current;
  out_successor = out_seen s.out_successor;
  line = s.line;
}

abbrev pub seen : ClientRole → Seen
seen s = seen_by s s.replacement

abbrev pub Same : ClientRole → ClientRole → Type 0
Same s t = seen t ≡ seen s

-- ---- how far a replacement is

abbrev pub is_free : Way → Bool
is_free Free = true
is_free way = false

abbrev pub is_answered_way : Way → Bool
is_answered_way InIsAnswered = true
is_answered_way way = false

-- OUT_R1/A6 came
abbrev pub is_out_answered : Way → Bool
is_out_answered OutIsAnswered = true
is_out_answered OutIsSwitched = true
is_out_answered OutIsFinished = true
is_out_answered way = false

abbrev pub is_finished_way : Way → Bool
is_finished_way OutIsFinished = true
is_finished_way way = false

pub none_is : (r : Replacement) → way_of r ≡ Free → r ≡ NoneUnderWay
none_is NoneUnderWay e = refl
none_is (In in_stage.Asked w) e = absurd (true≢false (sym (ap is_free e)))
none_is (In in_stage.Answered w) e = absurd (true≢false (sym (ap is_free e)))
none_is (Out out_stage.Asked w) e = absurd (true≢false (sym (ap is_free e)))
none_is (Out out_stage.Answered w) e = absurd (true≢false (sym (ap is_free e)))
none_is (Out out_stage.Switched w) e = absurd (true≢false (sym (ap is_free e)))
none_is (Out out_stage.Finished w) e = absurd (true≢false (sym (ap is_free e)))

-- ---- the facts

-- before the client is open nothing was replaced, told or acknowledged
pub record Unopened (size : ℕ) (way : Way) (writing : ℕ) (end_put : Bool) (line : Line)
    (came : List OnLeg) : Type 0 where
  pub way_is : way ≡ Free
  pub first : writing ≡ 1
  pub not_put : end_put ≡ false
  pub line_is : line ≡ first_line size
  pub none : windows came ≡ 0

abbrev pub KnowsEdge : InSeen → List OnLeg → Type 0
KnowsEdge c came = IsWithinAll c.number c.cookie c.told c.edge came

abbrev pub IsTold : InSeen → List OnLeg → Type 0
IsTold c came = c.told ≡ told_last 0 c.number came

-- a window told no more than this, or acknowledgements with the cookie told it
abbrev pub IsAcked : ℕ → Cookie → ℕ → List OnLeg → Type 0
IsAcked size cookie told put =
    (told ≤ size) ⊎ HasOne (AcksTo cookie told) (of_kind ClientIn put)

-- the work is done
abbrev pub IsOver : Way → Bool → Bool → Type 0
IsOver way ended end_put = (way ≡ Free) × (ended ≡ true) × (end_put ≡ true)

-- Comes: a leg comes up with the cookie. Answers: CONN/C2 comes only once the leg of the first IN
-- channel came up; Rises: and on a leg that came up
module _ (Answers Rises : Type 0) (Comes : Leg → Cookie → Type 0) where
  abbrev pub IsOwn : InSeen → Type 0
  IsOwn c = (m : ℕ) → Comes (ci m) c.cookie → m ≡ c.number

  abbrev pub Risen : InSeen → Type 0
  Risen c = c.up ≡ true → Comes (ci c.number) c.cookie

  pub record Ins (opening : Bool) (way : Way) (writing next leaving : InSeen)
      (came : List OnLeg) : Type 0 where
    pub follows : is_in_way way ≡ true → next.number ≡ suc writing.number
    pub next_up : is_answered_way way ≡ true → next.up ≡ true
    pub next_in : next.up ≡ true → is_in_way way ≡ true
    pub before : leaving.up ≡ true → (leaving.number < writing.number) × (opening ≡ false)
    pub comes : Risen writing
    pub next_comes : Risen next
    pub leaving_comes : Risen leaving
    pub counted : opening ≡ false
        → windows came ≡ writing.number + once_if (is_answered_way way)
    pub up : Answers → opening ≡ false → writing.up ≡ true
    pub told : opening ≡ false → IsTold writing came
    pub next_told : is_answered_way way ≡ true → IsTold next came
    pub leaving_told : leaving.up ≡ true → IsTold leaving came
    pub knows : Answers → opening ≡ false → IsOwn writing → KnowsEdge writing came
    pub knows_next : Answers → is_answered_way way ≡ true → IsOwn next → KnowsEdge next came
    pub knows_leaving : Answers → leaving.up ≡ true → IsOwn leaving → KnowsEdge leaving came

  pub record Outs (opening : Bool) (size : ℕ) (way : Way) (current next : OutSeen) (line : Line)
      (put : List OnLeg) : Type 0 where
    pub follows : is_out_way way ≡ true → next.number ≡ suc current.number
    pub next_up : is_out_answered way ≡ true → next.up ≡ true
    pub up : Rises → opening ≡ false → current.up ≡ true
    pub size_is : line.size ≡ size
    pub acked : Rises → IsAcked size current.cookie line.current.window.told put
    pub next_window : line.has_next ≡ true → line.next.window.told ≡ size
    pub next_held : line.next.window.released ≡ 0
    pub next_size : line.next.window.size ≡ size
    pub begun : current.asked ≡ true → HasOne (OpensTo size) (of_leg (co current.number) put)
    pub next_begun : next.asked ≡ true → HasOne (OpensTo size) (of_leg (co next.number) put)
    pub finished : line.finished ≡ is_finished_way way
    pub there : is_finished_way way ≡ true → line.has_next ≡ true

  pub record Kept (x : Seen) (came put : List OnLeg) : Type 0 where
    pub fresh : is_opening x.phase ≡ true
        → Unopened x.size x.way x.writing.number x.end_put x.line came
    pub ins : Ins (is_opening x.phase) x.way x.writing x.in_successor x.leaving came
    pub outs : Outs (is_opening x.phase) x.size x.way x.current x.out_successor x.line put
    pub over : is_ended x.phase ≡ true → IsOver x.way x.line.current.ended x.end_put

  pub same_holds : (s t : ClientRole) (came put : List OnLeg) → Same s t
      → Kept (seen s) came put → Kept (seen t) came put
  same_holds s t came put same h = subst (λ (x : Seen). Kept x came put) (sym same) h

  pub by_replacement : (s : ClientRole) (r : Replacement) (came put : List OnLeg)
      → s.replacement ≡ r → Kept (seen s) came put → Kept (seen_by s r) came put
  by_replacement s r came put e h =
      subst (λ (q : Replacement). Kept (seen_by s q) came put) e h

  -- while a replacement is under way the client is open
  pub live : (x : Seen) (came put : List OnLeg) → is_free x.way ≡ false → Kept x came put
      → (is_opening x.phase ≡ false) × (is_ended x.phase ≡ false)
  live x came put e h = (by (is_opening x.phase) refl, over (is_ended x.phase) refl)
    where
      by : (b : Bool) → is_opening x.phase ≡ b → b ≡ false
      by true o = absurd (true≢false (sym (ap is_free (h.fresh o).way_is) ∙ e))
      by false o = refl

      over : (b : Bool) → is_ended x.phase ≡ b → b ≡ false
      over true o = absurd (true≢false (sym (ap is_free (h.over o).0) ∙ e))
      over false o = refl

  -- ---- a message more

  -- what came tells no window; so far as acknowledgements go, each channel's edge is above it
  module _ (x : Seen) (came put : List OnLeg) (one : OnLeg) (h : Kept x came put)
      (other : is_window one.1 ≡ false) where
    stays : (c : InSeen) → IsWithinEdge c.cookie c.edge one → KnowsEdge c came
        → KnowsEdge c (came ++ one ∷ [])
    stays c is k = record {
      window = k.window;
      acks = since_more (IsWithinEdge c.cookie c.edge) c.number came one is k.acks;
    }

    told : (n : ℕ) → n ≤ windows came → (c : InSeen) → c.number ≡ n → IsTold c came
        → IsTold c (came ++ one ∷ [])
    told n low c e k =
        k ∙ sym (told_stays 0 c.number came one (omega (arith, low, e)))

    pub heard_by : (Answers → is_opening x.phase ≡ false → IsOwn x.writing
        → IsWithinEdge x.writing.cookie x.writing.edge one)
        → (Answers → is_answered_way x.way ≡ true → IsOwn x.in_successor
        → IsWithinEdge x.in_successor.cookie x.in_successor.edge one)
        → (Answers → x.leaving.up ≡ true → IsOwn x.leaving
        → IsWithinEdge x.leaving.cookie x.leaving.edge one)
        → Kept x (came ++ one ∷ []) put
    heard_by now next last = record {
      fresh = λ o. let f = h.fresh o in record {
        way_is = f.way_is;
        first = f.first;
        not_put = f.not_put;
        line_is = f.line_is;
        none = windows_stay came one other ∙ f.none;
      };
      ins = record {
        follows = i.follows;
        next_up = i.next_up;
        next_in = i.next_in;
        before = i.before;
        comes = i.comes;
        next_comes = i.next_comes;
        leaving_comes = i.leaving_comes;
        counted = λ o. windows_stay came one other ∙ i.counted o;
        up = i.up;
        told = λ o. told x.writing.number (most o) x.writing refl (i.told o);
        next_told = λ e. told x.in_successor.number (next_most e) x.in_successor refl
            (i.next_told e);
        leaving_told = λ e. told x.leaving.number (leaving_most e) x.leaving refl
            (i.leaving_told e);
        knows = λ a o own. stays x.writing (now a o own) (i.knows a o own);
        knows_next = λ a e own. stays x.in_successor (next a e own) (i.knows_next a e own);
        knows_leaving = λ a e own. stays x.leaving (last a e own) (i.knows_leaving a e own);
      };
      outs = h.outs;
      over = h.over;
    }
      where
        i : Ins (is_opening x.phase) x.way x.writing x.in_successor x.leaving came
        i = h.ins

        most : is_opening x.phase ≡ false → x.writing.number ≤ windows came
        most o = let all = i.counted o in omega (arith, all)

        way_in : (w : Way) → is_answered_way w ≡ true → (is_in_way w ≡ true) × (is_free w ≡ false)
        way_in InIsAnswered e = (refl, refl)
        way_in Free e = absurd (true≢false (sym e))
        way_in InIsAsked e = absurd (true≢false (sym e))
        way_in OutIsAsked e = absurd (true≢false (sym e))
        way_in OutIsAnswered e = absurd (true≢false (sym e))
        way_in OutIsSwitched e = absurd (true≢false (sym e))
        way_in OutIsFinished e = absurd (true≢false (sym e))

        next_most : is_answered_way x.way ≡ true → x.in_successor.number ≤ windows came
        next_most e =
            let is = way_in x.way e in
            let number = i.follows is.0 in
            let all = i.counted (live x came put is.1 h).0 in
            let one : once_if (is_answered_way x.way) ≡ 1 = ap once_if e in
            omega (arith, number, all, one)

        leaving_most : x.leaving.up ≡ true → x.leaving.number ≤ windows came
        leaving_most e =
            let low = (i.before e).0 in
            let all = i.counted (i.before e).1 in omega (arith, low, all)

  -- a message that tells no edge at all
  pub heard : (x : Seen) (came put : List OnLeg) (one : OnLeg) → is_window one.1 ≡ false
      → ((cookie : Cookie) (edge : ℕ) → IsWithinEdge cookie edge one) → Kept x came put
      → Kept x (came ++ one ∷ []) put
  heard x came put one other none h =
      heard_by x came put one h other (λ a o own. none x.writing.cookie x.writing.edge)
      (λ a e own. none x.in_successor.cookie x.in_successor.edge)
      (λ a e own. none x.leaving.cookie x.leaving.edge)

  -- one more is put
  pub was_put : (x : Seen) (came put : List OnLeg) (one : OnLeg) → Kept x came put
      → Kept x came (put ++ one ∷ [])
  was_put x came put one h = record {
    fresh = h.fresh;
    ins = h.ins;
    outs = record {
      follows = o.follows;
      next_up = o.next_up;
      up = o.up;
      size_is = o.size_is;
      acked = λ f. more (o.acked f);
      next_window = o.next_window;
      next_held = o.next_held;
      next_size = o.next_size;
      begun = λ e. still_has (OpensTo x.size) (co x.current.number) put one (o.begun e);
      next_begun = λ e. still_has (OpensTo x.size) (co x.out_successor.number) put one
          (o.next_begun e);
      finished = o.finished;
      there = o.there;
    };
    over = h.over;
  }
    where
      o : Outs (is_opening x.phase) x.size x.way x.current x.out_successor x.line put
      o = h.outs

      more : IsAcked x.size x.current.cookie x.line.current.window.told put
          → IsAcked x.size x.current.cookie x.line.current.window.told (put ++ one ∷ [])
      more (inl low) = inl low
      more (inr told) =
          inr (kind_stays (AcksTo x.current.cookie x.line.current.window.told) ClientIn put one
          told)
