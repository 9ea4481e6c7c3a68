-- recordings, whatever their form
use Rattle.law_order.proofs.Vocabulary.{◌≡◌, ◌++◌, ℕ, zero, suc, List, [], ◌∷◌, true, false, refl, sym, ap, subst, take}
use Rattle.rh_record.specs.Events.Events.{Ends, Event}
use Rattle.rh_nodes.specs.Steps as steps
use Rattle.law_moves.proofs.Vocabulary.{Side}
use Rattle.law_node_history.proofs.Vocabulary.{Answer, Key, Line, First, Set, Give, events, given, offered, other, taken, IsOrdered, IsPrefix, cookie_of, IsNew}
use Rattle.rh_world.proofs.Either.{direct_in_order}
use Rattle.rh_world.specs.Roles as roles
use Rattle.law_node_traces.proofs.Vocabulary.{AreOurs}
use Rattle.law_world_reports.proofs.Vocabulary.{Before, Settings, Roles, WorldConfig, run, told, AreInRange, roles_config, with_number, OffersBehindFirst}
use Rattle.law_world_reports.proofs.Bounded.Reached.{behind_lines}

-- ---- the world that settings make

abbrev pub ours : (config : WorldConfig) → AreOurs roles.makers (roles.begun config).company config
ours config = record {
  config = roles.client_config config (cookie_of 1) (cookie_of 2);
  window = config.swin;
  in_config = roles.in_config config;
  out_config = roles.out_config config;
  client = refl;
  server = refl;
  ins = λ n. refl;
  outs = λ n. refl;
  in_number = λ n. refl;
  out_number = λ n. refl;
}

pub new : (config : WorldConfig) → IsNew (roles.begun config)
new config = record { ins = refl; outs = refl; low = refl; unread = refl }

told_roles : (w : roles.World) (lines : List Line)
    → told (Roles w) lines ≡ steps.told roles.rules roles.makers roles.deeds w lines
told_roles w [] = refl
told_roles w (line ∷ lines) =
    ap (λ (x : List Answer). (roles.step line w).1 ++ x)
    (told_roles (roles.step line w).0 lines)

-- ---- reports that go without lines

none_taken : (end : Side) (k : ℕ)
    → IsPrefix (taken end (take k [])) (given (other end) [] (take k []))
none_taken end zero = ([], refl)
none_taken end (suc k) = ([], refl)

-- nothing is told
no_event : (front behind : List Event) (stop : Event) → [] ≡ front ++ stop ∷ behind → ⊥
no_event [] behind stop e = absurd cc
no_event (x ∷ front) behind stop e = absurd cc

nothing_ordered : IsOrdered [] []
nothing_ordered = record {
  in_order = none_taken;
  none_taken_after = λ end front behind stop e stops. absurd (no_event front behind stop e);
  none_given_after = λ end front behind stop e stops. absurd (no_event front behind stop e);
  all_at_clean_end = λ end front behind e. absurd (no_event front behind (Ends end) e);
}

-- a line that offers nothing
offers_none : (line : Line) (lines : List Line) (report : List Answer)
    → offered (line ∷ lines) ≡ offered lines → IsOrdered lines report
    → IsOrdered (line ∷ lines) report
offers_none line lines report same h = record {
  in_order = λ end k.
      subst (λ pdus. IsPrefix (taken end (take k (events report)))
      (given (other end) pdus (take k (events report)))) (sym same) (h.in_order end k);
  none_taken_after = h.none_taken_after;
  none_given_after = λ end front behind stop e stops.
      subst (λ pdus. given end pdus (events report) ≡ given end pdus front) (sym same)
      (h.none_given_after end front behind stop e stops);
  all_at_clean_end = λ end front behind e.
      subst (λ pdus. taken end front ≡ given (other end) pdus front) (sym same)
      (h.all_at_clean_end end front behind e);
}

-- ---- recordings

-- what holds of the reports of new worlds of roles, where the first line and settings leave it
-- alone
module _ (Holds : List Line → List Answer → Type 0)
    (set : (key : Key) (value : ℕ) (lines : List Line) (report : List Answer)
    → Holds lines report → Holds (Set key value ∷ lines) report)
    (first : (lines : List Line) (report : List Answer)
    → Holds lines report → Holds (First true ∷ lines) report)
    (law : (config : WorldConfig) → AreInRange config → (lines : List Line)
    → Holds lines
    (steps.told roles.rules roles.makers roles.deeds (roles.begun config) lines)) where
  begun_hold : (config : WorldConfig) → AreInRange config → (lines : List Line)
      → Holds lines (told (Roles (roles.begun config)) lines)
  begun_hold config range lines =
      subst (Holds lines) (sym (told_roles (roles.begun config) lines)) (law config range lines)

  settings_hold : (config : WorldConfig) → AreInRange config → (lines : List Line)
      → Holds lines (told (Settings config) lines)
  settings_hold config range [] = law config range []
  settings_hold config range (Set key value ∷ lines) =
      let next = with_number config key value in
      set key value lines (told (Settings next) lines)
      (settings_hold next (behind_lines (Settings config) (Set key value ∷ []) range) lines)
  settings_hold config range (line ∷ lines) = begun_hold config range (line ∷ lines)

  pub roles_hold : (lines : List Line) → Holds (First true ∷ lines) (run (First true ∷ lines))
  roles_hold lines =
      first lines (told (Settings roles_config) lines)
      (settings_hold roles_config (behind_lines Before (First true ∷ []) tt) lines)

pub run_ordered : ((config : WorldConfig) → AreInRange config → (lines : List Line)
    → IsOrdered lines
    (steps.told roles.rules roles.makers roles.deeds (roles.begun config) lines))
    → (lines : List Line) → OffersBehindFirst lines → IsOrdered lines (run lines)
run_ordered law [] h = nothing_ordered
run_ordered law (First false ∷ lines) h =
    (direct_in_order (First false ∷ lines) lines refl).order
run_ordered law (First true ∷ lines) h =
    roles_hold IsOrdered
    (λ key value lines report. offers_none (Set key value) lines report refl)
    (λ lines report. offers_none (First true) lines report refl) law lines
run_ordered law (Give side pdu ∷ lines) h = absurd h
run_ordered law (line ∷ lines) h =
    offers_none line lines (run lines) refl (run_ordered law lines h)
