-- what a client keeps of the law of an end that takes, while its OUT channels are replaced
use Rattle.law_order.proofs.Vocabulary.{◌≡◌, ℕ, suc, ◌+◌, Bool, true, false, ◌&&◌, nat_lt, List, [], ◌∷◌, ◌++◌, Ok, Err, arith, refl, sym, ap, ◌∙◌, subst, Result, Log, MovesOn, Taker, TakerLaw, Hears, TakesPdu}
use Rattle.rh_line.specs.Lines as lines
use Rattle.rh_shell.specs.declared.answers.Phase.TheVariants as phase
use Rattle.rh_client.specs.declared.replacement.InStage.TheVariants as in_stage
use Rattle.rh_client.specs.declared.replacement.OutStage.TheVariants as out_stage
use Rattle.rh_client.specs.declared.replacement.Waits.TheVariants as waits
use Rattle.law_moves.proofs.Vocabulary.{by_test, more_none, taker_step, Line, is_empty, released, settled as settled_line, moved_on, RecycleRefused, Last, with_first}
use Rattle.law_moves.specs.Moves as moves
use Rattle.law_role_client.proofs.Vocabulary.{LAST_NUMBER, Replacement, NoneUnderWay, In, Out, Waits, ClientRole, unopened_in, unopened_out, is_out, is_finished, is_over, begin_in, begin_out, after_in, after_out, recycle_by, wish_by, wished, wants_successor, succeeded, ended_or, pass_by, passed, settled_or_wished, shelf_of, has_leg}

-- ---- what the law reads

pub record Read : Type 0 where
  pub line : Line
  pub number : ℕ
  -- an OUT channel is replaced; the number of its successor; OUT_R1/A10 came
  pub replaces : Bool
  pub successor : ℕ
  pub finished : Bool

abbrev pub reads_by : ClientRole → Replacement → Read
reads_by s r = record {
  line = s.line;
  number = s.current.number;
  replaces = is_out r;
  successor = s.out_successor.number;
  finished = is_finished r;
}

abbrev pub reads : ClientRole → Read
reads s = reads_by s s.replacement

abbrev pub taker_by : List (List ℕ) → Line → ℕ → Bool → Taker
taker_by out line number finished = record {
  taken = out;
  shelves = record {
    current = number;
    now = shelf_of line.current finished;
    was_ended = line.was_ended;
    following = suc number;
    next = shelf_of line.next false;
    later = λ n. false;
  };
}

abbrev pub LawBy : List (List ℕ) → Line → ℕ → Bool → Log → Type 0
LawBy out line number finished came = TakerLaw (taker_by out line number finished) has_leg came

-- the successor has the next number
abbrev pub IsNext : Bool → ℕ → ℕ → Type 0
IsNext true number successor = successor ≡ suc number
IsNext false number successor = Unit {0}

pub record Took (out : List (List ℕ)) (d : Read) (came : Log) : Type 0 where
  pub law : LawBy out d.line d.number d.finished came
  pub next : IsNext d.replaces d.number d.successor
  pub blank : d.line.has_next ≡ false → (d.line.next.pdus ≡ []) × (d.line.next.ended ≡ false)
  pub finished : d.line.finished ≡ d.finished
  pub there : d.finished ≡ true → d.line.has_next ≡ true

pub same : (out : List (List ℕ)) (d e : Read) (came : Log) → e ≡ d → Took out d came
    → Took out e came
same out d e came q l = subst (λ x. Took out x came) (sym q) l

pub by_replacement : (out : List (List ℕ)) (s : ClientRole) (r : Replacement) (came : Log)
    → s.replacement ≡ r → Took out (reads s) came → Took out (reads_by s r) came
by_replacement out s r came e l = subst (λ x. Took out (reads_by s x) came) e l

-- ---- replacements

-- another replacement, while OUT_R1/A10 did not come
pub another : (out : List (List ℕ)) (d : Read) (came : Log) (replaces : Bool) (successor : ℕ)
    → IsNext replaces d.number successor → d.finished ≡ false → Took out d came
    → Took out (record {
      line = d.line;
      number = d.number;
      replaces = replaces;
      successor = successor;
      finished = false;
    }) came
another out d came replaces successor n e l = record {
  law = subst (λ f. LawBy out d.line d.number f came) e l.law;
  next = n;
  blank = l.blank;
  finished = l.finished ∙ e;
  there = λ x. absurd (cc);
}

pub begin_in_took : (out : List (List ℕ)) (s : ClientRole) (w : Bool) (came : Log)
    → is_finished s.replacement ≡ false → Took out (reads s) came
    → Took out (reads (begin_in s w)) came
begin_in_took out s w came o l =
    by_test (λ f. Took out (reads f) came) (nat_lt s.writing.number LAST_NUMBER)
    (record s {
      in_successor = unopened_in (s.writing.number + 1) s.config.lifetime;
      replacement = In in_stage.Asked w;
    })
    (record s { replacement = NoneUnderWay })
    (λ e. another out (reads s) came false s.out_successor.number tt o l)
    (λ e. another out (reads s) came false s.out_successor.number tt o l)

pub begin_out_took : (out : List (List ℕ)) (s : ClientRole) (w : Waits) (came : Log)
    → is_finished s.replacement ≡ false → Took out (reads s) came
    → Took out (reads (begin_out s w)) came
begin_out_took out s w came o l =
    by_test (λ f. Took out (reads f) came) (nat_lt s.current.number LAST_NUMBER)
    (record s {
      out_successor = unopened_out (s.current.number + 1);
      replacement = Out out_stage.Asked w;
    })
    (record s { replacement = NoneUnderWay })
    (λ e. another out (reads s) came true (s.current.number + 1) (omega arith) o l)
    (λ e. another out (reads s) came false s.out_successor.number tt o l)

pub after_in_took : (out : List (List ℕ)) (s : ClientRole) (w : Bool) (came : Log)
    → is_finished s.replacement ≡ false → Took out (reads s) came
    → Took out (reads (after_in s w)) came
after_in_took out s true came o l = begin_out_took out s waits.Nothing came o l
after_in_took out s false came o l =
    another out (reads s) came false s.out_successor.number tt o l

pub after_out_took : (out : List (List ℕ)) (s : ClientRole) (w : Waits) (came : Log)
    → is_finished s.replacement ≡ false → Took out (reads s) came
    → Took out (reads (after_out s w)) came
after_out_took out s waits.Nothing came o l =
    another out (reads s) came false s.out_successor.number tt o l
after_out_took out s waits.In came o l = begin_in_took out s false came o l
after_out_took out s waits.Out came o l = begin_out_took out s waits.Nothing came o l
after_out_took out s waits.InThenOut came o l = begin_in_took out s true came o l
after_out_took out s waits.OutThenIn came o l = begin_out_took out s waits.In came o l

pub wish_took : (out : List (List ℕ)) (s : ClientRole) (r : Replacement) (came : Log)
    → s.replacement ≡ r → Took out (reads s) came → Took out (reads (wish_by s r)) came
wish_took out s NoneUnderWay came e l = begin_in_took out s false came (ap is_finished e) l
wish_took out s (In stage w) came e l = l
wish_took out s (Out stage w) came e l = by_replacement out s (Out stage w) came e l

pub settled_took : (out : List (List ℕ)) (s : ClientRole) (came : Log) → Took out (reads s) came
    → Took out (reads (settled_or_wished s)) came
settled_took out s came l =
    by_test (λ f. Took out (reads f) came) (is_over s) (record s { phase = phase.Ended })
    (wished s) (λ e. l)
    (λ e. by_test (λ f. Took out (reads f) came) (wants_successor s) (wish_by s s.replacement) s
    (λ o. wish_took out s s.replacement came refl l) (λ o. l))

pub recycle_took : (out : List (List ℕ)) (s : ClientRole) (r : Replacement) (came : Log)
    → s.replacement ≡ r → Took out (reads s) came → Took out (reads (recycle_by s r).0) came
recycle_took out s NoneUnderWay came e l =
    by_test (λ (x : ClientRole × Result (Unit {0}) RecycleRefused). Took out (reads x.0) came)
    (nat_lt s.writing.number LAST_NUMBER) (begin_in s false, Ok tt) (s, Err Last)
    (λ o. begin_in_took out s false came (ap is_finished e) l) (λ o. l)
recycle_took out s (In stage w) came e l = l
recycle_took out s (Out stage w) came e l = l

-- ---- the successor is the current channel

pub ended_or_took : (out : List (List ℕ)) (s : ClientRole) (w : Waits) (came : Log)
    → is_finished s.replacement ≡ false → Took out (reads s) came
    → Took out (reads (ended_or s w)) came
ended_or_took out s w came o l =
    by_test (λ f. Took out (reads f) came) (is_over s) (record s { phase = phase.Ended })
    (after_out s w) (λ e. l) (λ e. after_out_took out s w came o l)

pub differ : (b : Bool) → b ≡ true → b ≡ false → ⊥
differ true a b = absurd (cc)
differ false a b = absurd (cc)

-- the line stays, and so does the current channel
pub stays : (out : List (List ℕ)) (s : ClientRole) (r : Replacement) (came : Log)
    → s.replacement ≡ r → Took out (reads s) came → Took out (reads (pass_by s r)) came
stays out s NoneUnderWay came e l = l
stays out s (In stage w) came e l = l
stays out s (Out out_stage.Asked w) came e l = l
stays out s (Out out_stage.Answered w) came e l = l
stays out s (Out out_stage.Switched w) came e l = l
stays out s (Out out_stage.Finished w) came e l =
    by_test (λ f. Took out (reads f) came) s.line.has_next s (ended_or (succeeded s) w) (λ o. l)
    (λ o. absurd (differ s.line.has_next (l.there (ap is_finished e)) o))

-- the law of the channel that follows
pub moved_law : (out : List (List ℕ)) (line : Line) (number : ℕ) (came : Log)
    → line.current.pdus ≡ [] → LawBy out line number true came
    → LawBy out (moved_on line) (suc number) false came
moved_law out line number came e l =
    subst (TakerLaw (taker_by out (moved_on line) (suc number) false) has_leg)
    (more_none number came)
    (taker_step (taker_by out line number true) has_leg came
    (Hears (MovesOn (suc (suc number)))) l
    (refl, e, omega arith, λ k above below. absurd (omega arith)))

pub succeeded_took : (out : List (List ℕ)) (s : ClientRole) (w : Waits) (came : Log)
    → s.line.current.pdus ≡ [] → Took out (reads_by s (Out out_stage.Finished w)) came
    → Took out (reads (succeeded (record s { line = moved_on s.line }))) came
succeeded_took out s w came e l = record {
  law = subst (λ n. LawBy out (moved_on s.line) n false came) (sym l.next)
      (moved_law out s.line s.current.number came e l.law);
  next = tt;
  blank = λ o. (refl, refl);
  finished = refl;
  there = λ x. absurd (cc);
}

pub moves_on : (out : List (List ℕ)) (s : ClientRole) (r : Replacement) (came : Log)
    → s.replacement ≡ r → is_finished r ≡ true → s.line.current.pdus ≡ []
    → Took out (reads s) came
    → Took out (reads (pass_by (record s { line = moved_on s.line }) r)) came
moves_on out s NoneUnderWay came e f p l = absurd (cc)
moves_on out s (In stage w) came e f p l = absurd (cc)
moves_on out s (Out out_stage.Asked w) came e f p l = absurd (cc)
moves_on out s (Out out_stage.Answered w) came e f p l = absurd (cc)
moves_on out s (Out out_stage.Switched w) came e f p l = absurd (cc)
moves_on out s (Out out_stage.Finished w) came e f p l =
    ended_or_took out (succeeded (record s { line = moved_on s.line })) w came refl
    (succeeded_took out s w came p (by_replacement out s (Out out_stage.Finished w) came e l))

pub both : (a b : Bool) → a && b ≡ true → (a ≡ true) × (b ≡ true)
both true true e = (refl, refl)
both true false e = absurd (cc)
both false b e = absurd (cc)

pub nothing : (pdus : List (List ℕ)) → is_empty pdus ≡ true → pdus ≡ []
nothing [] e = refl
nothing (x ∷ xs) e = absurd (cc)

-- the line moves on where it is finished and empty
pub settles : (out : List (List ℕ)) (s : ClientRole) (came : Log) → Took out (reads s) came
    → Took out (reads (passed (record s { line = settled_line s.line }))) came
settles out s came l =
    by_test (λ line. Took out (reads (passed (record s { line = line }))) came)
    (s.line.finished && is_empty s.line.current.pdus) (moved_on s.line) s.line
    (λ e. let t = both s.line.finished (is_empty s.line.current.pdus) e in
    moves_on out s s.replacement came refl (sym l.finished ∙ t.0)
    (nothing s.line.current.pdus t.1) l)
    (λ e. stays out s s.replacement came refl l)

-- ---- a PDU is taken

pub take_took : (out : List (List ℕ)) (s : ClientRole) (pdus : List (List ℕ)) (came : Log)
    → s.line.current.pdus ≡ pdus → Took out (reads s) came
    → Took (with_first (record {
      passage = moves.started s;
      given = [];
      taken = out;
    }) pdus).taken
    (reads (passed (record s { line = lines.taken pdus s.line }))) came
take_took out s [] came e l = stays out s s.replacement came refl l
take_took out s (p ∷ ps) came e l =
    settles (out ++ p ∷ []) (record s {
      line = record (s.line) { current = released (p ∷ ps) s.line.current };
    }) came
    (record {
      law = taker_step (taker_by out s.line s.current.number (is_finished s.replacement)) has_leg
          came (TakesPdu p ps) l.law e;
      next = l.next;
      blank = l.blank;
      finished = l.finished;
      there = l.there;
    })
