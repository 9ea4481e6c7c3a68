-- runs from bytes in memory to room in memory
use Rattle.std.proofs.Common.{◌≡◌, ◌≤◌, ℕ, List, [], length, refl, sym, ◌∙◌, ap, subst, inl, inr}
use Rattle.std.proofs.Common.{Some, None, true, false, ◌++◌}
use Rattle.std.proofs.lemmas.List.{append-nil}
use Rattle.std.specs.declared.option.Option.{Option}
use Rattle.std.specs.Io.KnownBytes.{Appends}
use Rattle.rh_text.specs.Lines.{Rules, IsText}
use Rattle.rh_record.specs.Places.{recording}
use Rattle.rh_show.specs.Lines.{packets}
use Rattle.rh_name.specs.Lines.{asked}
use Rattle.rh_script.specs.Scripts.{script}
use Rattle.rh_made.specs.Texts.{summary_text}
use Rattle.rh_generate.specs.Summaries.{summary}
use Rattle.rh_capture.specs.Recordings.{roles_recording}
use Rattle.rh_capture.specs.Reading.{captures}
use Rattle.rh_words.specs.declared.form.Form.{Form}
use Rattle.rh_words.specs.declared.form.Form.TheVariants.{Replay, Story, HexStory, Show, Name, Play, Capture, Audit, Make, Help, Version}
use Rattle.rh_words.specs.declared.status.Status.{Status}
use Rattle.rh_words.specs.declared.status.Status.TheVariants as statuses
use Rattle.rh_word.specs.declared.word.Ended.{Ended}
use Rattle.rh_word.specs.declared.word.Ended.TheVariants as ends
use Rattle.rh_word.specs.Words.{IsBegun, most_input}
use Rattle.rh_words.specs.Statuses.{status_of}
use Rattle.rh_words.specs.Replay.{IsReplayed}
use Rattle.rh_words.specs.Story.{IsStory}
use Rattle.rh_packet_words.specs.Show.{IsShown}
use Rattle.rh_packet_words.specs.Name.{IsNamed}
use Rattle.rh_words.specs.Capture.{IsCaptured}
use Rattle.rh_packet_words.specs.Audit.{IsAudited}
use Rattle.rh_words.specs.Play.{IsPlayed}
use Rattle.rh_words.specs.Forms.{Outside, Reads, Tells, Ran}
use Rattle.rh_words.specs.Memory.{IsRoomFor, RanIn, RanInMemory}
use Rattle.rh_word.proofs.Coming.{all_came}

-- where nothing was written before, all is what was appended
all_written : (before after : Option (List ℕ)) (written : List ℕ) → before ≡ Some []
    → Appends before after written → after ≡ Some written
all_written None after written is h = absurd (cc)
all_written (Some old) None written is h = absurd h
all_written (Some old) (Some new) written is h = let e = h in cc

-- a word's run over memory
module _ {P L : Type 0} (rules : Rules P L) (Says : List ℕ → List ℕ → Type 0) (Unfailing : Type 0)
    (before after : Outside) (text : List ℕ) where
  spared : (ended : Ended) → Reads rules Says Unfailing ended before after → Unfailing
      → before.left ≡ Some text → before.written ≡ Some []
      → ((whole : List ℕ) → Says text whole → length whole ≤ before.takes)
      → RanIn (IsText rules text × (length text ≤ most_input)) (Says text) (status_of ended)
      after.written
  spared ends.Done h sure left none room =
      let (came, written, moves, wrote, (short, over, says)) = h.answers in
      let same = all_came before.left after.left text came left moves.from over in
      record {
        none_failed = tt;
        whole = λ _. (
          written,
          all_written before.written after.written written none wrote,
          subst (λ (t : List ℕ). Says t written) same says,
        );
        begun = λ e. absurd (cc);
        done = λ _. inl refl;
      }
  spared (ends.BadInput line) h sure left none room = record {
    none_failed = tt;
    whole = λ e. absurd (cc);
    begun = λ e. absurd (cc);
    done = λ is. absurd (h.taken text left is.0 is.1);
  }
  spared ends.ReadFault h sure left none room = absurd (h.unfailing sure refl)
  spared ends.WriteFault h sure left none room = absurd (h.takes text left room refl)
  spared ends.NoMemory h sure left none room =
      let (came, written, moves, wrote, said) = h.answers in
      record {
        none_failed = tt;
        whole = λ e. absurd (cc);
        begun = λ _. (
          written,
          all_written before.written after.written written none wrote,
          elim said [
            | inl e ↦ inl e
            | inr (short, over, begun) ↦ inr (subst (λ (t : List ℕ). IsBegun Says t written)
                (all_came before.left after.left text came left moves.from over) begun)
          ],
        );
        done = λ _. inr refl;
      }
  spared ends.TooLong h sure left none room = record {
    none_failed = tt;
    whole = λ e. absurd (cc);
    begun = λ e. absurd (cc);
    done = λ is. absurd (h.taken text left is.0 is.1);
  }

-- what the program tells of itself goes out whole
told_whole : (text : List ℕ) (status : Status) (before after : Option (List ℕ))
    (faults now takes : ℕ)
    → Tells text status before after faults now takes → before ≡ Some [] → length text ≤ takes
    → (status ≡ statuses.Done) × ((output : List ℕ) × (after ≡ Some output) × (output ≡ text))
told_whole text status before after faults now takes h none room =
    let sure = h.sure room in
    let all : h.behind ≡ [] = elim h.ended [
      | inl e ↦ e.1
      | inr e ↦ absurd (let f = e.0 in cc)
    ] in
    let is : text ≡ h.written =
    h.front ∙ ap (λ (x : List ℕ). h.written ++ x) all ∙ append-nil h.written in
    (sure, (h.written, all_written before after h.written none h.wrote, sym is))

told_ran : (text : List ℕ) (status : Status) (before after : Option (List ℕ)) (faults now takes : ℕ)
    → Tells text status before after faults now takes → before ≡ Some [] → length text ≤ takes
    → RanIn (Unit {0}) (λ output. output ≡ text) status after
told_ran text status before after faults now takes h none room =
    let t = told_whole text status before after faults now takes h none room in
    rw t.0 (record {
      none_failed = tt;
      whole = λ _. t.1;
      begun = λ e. absurd (cc);
      done = λ _. inl refl;
    })

-- any form's run over memory
pub ran_in_memory : (help version : List ℕ) (Unfailing : Type 0) (form : Form) (status : Status)
    (before after : Outside) (text : List ℕ) → Ran help version Unfailing form status before after
    → Unfailing → before.left ≡ Some text → before.written ≡ Some []
    → IsRoomFor help version form text before.takes
    → RanInMemory help version form text status after.written
ran_in_memory help version Unfailing Replay status before after text h sure left none room =
    rw h.1 (spared recording IsReplayed Unfailing before after text h.0 h.2 sure left none room)
ran_in_memory help version Unfailing Story status before after text h sure left none room =
    rw h.1 (spared recording (IsStory false) Unfailing before after text h.0 h.2 sure left none room)
ran_in_memory help version Unfailing HexStory status before after text h sure left none room =
    rw h.1 (spared recording (IsStory true) Unfailing before after text h.0 h.2 sure left none room)
ran_in_memory help version Unfailing Show status before after text h sure left none room =
    rw h.1 (spared packets IsShown Unfailing before after text h.0 h.2 sure left none room)
ran_in_memory help version Unfailing Name status before after text h sure left none room =
    rw h.1 (spared asked IsNamed Unfailing before after text h.0 h.2 sure left none room)
ran_in_memory help version Unfailing Play status before after text h sure left none room =
    rw h.1 (spared script IsPlayed Unfailing before after text h.0 h.2 sure left none room)
ran_in_memory help version Unfailing Capture status before after text h sure left none room =
    rw h.1 (spared roles_recording IsCaptured Unfailing before after text h.0 h.2 sure left none room)
ran_in_memory help version Unfailing Audit status before after text h sure left none room =
    rw h.1 (spared captures IsAudited Unfailing before after text h.0 h.2 sure left none room)
ran_in_memory help version Unfailing (Make count) status before after text (
    inl h
    ) sure left none room =
    rw h.0 (record {
      none_failed = tt;
      whole = λ e. absurd (cc);
      begun = λ _. ([], ap (λ (o : Outside). o.written) h.1 ∙ none, inl refl);
      done = λ _. inr refl;
    })
ran_in_memory help version Unfailing (Make count) status before after text (
    inr h
    ) sure left none room =
    told_ran (summary_text (summary count)) status before.written after.written _ _ before.takes h
    none (room (summary_text (summary count)) refl)
ran_in_memory help version Unfailing Help status before after text h sure left none room =
    told_ran help status before.written after.written _ _ before.takes h none (room help refl)
ran_in_memory help version Unfailing Version status before after text h sure left none room =
    told_ran version status before.written after.written _ _ before.takes h none
    (room version refl)
