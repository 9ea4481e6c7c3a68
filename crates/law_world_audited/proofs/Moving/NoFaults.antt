-- no stream of the capture of a recording is broken
use Rattle.law_order.proofs.Vocabulary.{◌≡◌, ◌==◌, ◌++◌, ◌⊎◌, ◌&&◌, ℕ, zero, suc, Bool, true, false, List, [], ◌∷◌, refl, sym, ap, ap₂, ◌∙◌, subst, inl, inr, cond, Some, None, AllByRecursion, append_assoc, append-nil, and_from, and_parts, eqb-true}
use Rattle.law_order.proofs.ByNumber.{by_test}
use Rattle.std.specs.List.{flat_map}
use Rattle.rh_sig.specs.declared.name.Pipe.{Pipe}
use Rattle.rh_sig.specs.declared.name.Pipe.TheVariants.{CiU, IsU, IsD, CoU, CoD, OsU, OsD}
use Rattle.rh_sig.specs.Looking.{place}
use Rattle.rh_audit.specs.declared.seen.Seen.{Seen}
use Rattle.rh_audit.specs.Audits.{broken_by, broken_in}
use Rattle.rh_audit.specs.Captures.{IsOfKind, carried, of_tag, same_pipe}
use Rattle.rh_audit.specs.Chains.{stream_in}
use Rattle.rh_audit.specs.Links.{same_kind}
use Rattle.rh_audit.specs.Pipes.{is_seen, kind_of, pipes}
use Rattle.rh_audit.specs.Streams.{Stream, stream, stream_is}
use Rattle.rh_capture.specs.Captured.{captured}
use Rattle.rh_capture.specs.Legs.{tag_of}
use Rattle.rh_capture.specs.Moves.{pipe_of}
use Rattle.rh_world.specs.Config.{roles_config, with_number}
use Rattle.rh_world.specs.Roles as roles
use Rattle.law_moves.proofs.Vocabulary.{Dir, U, D, Leg, LegKind}
use Rattle.law_node_history.proofs.Vocabulary.{Answer, Line, First, Set}
use Rattle.law_world_reports.proofs.Vocabulary.{AnyWorld, Before, Direct, Settings, Roles, WorldConfig, after, answers, run, told}
use Rattle.rh_world.specs.Any.{last, step}
use Rattle.law_world_audited.specs.Moving.Moved.{moved_on}
use Rattle.law_world_audited.specs.Moving.Streams.{TellsStreamsIn, TellsStreamsOf}
use Rattle.law_world_audited.specs.Moving.Tagged.{IsLineOf, is_met, legs_met}
use Rattle.law_world_audited.proofs.Moving.Captured.{bytes_are_moved, lines_are, one_kind}
use Rattle.law_world_audited.proofs.Moving.Feeding.{moved_append}
use Rattle.law_world_audited.proofs.Moving.Tags.{kind_itself, same_kinds}

-- ---- pipes

abbrev pipe_at : ℕ → Pipe
pipe_at zero = CiU
pipe_at (suc zero) = IsU
pipe_at (suc (suc zero)) = IsD
pipe_at (suc (suc (suc zero))) = CoU
pipe_at (suc (suc (suc (suc zero)))) = CoD
pipe_at (suc (suc (suc (suc (suc zero))))) = OsU
pipe_at (suc (suc (suc (suc (suc (suc n)))))) = OsD

at_place : (pipe : Pipe) → pipe_at (place pipe) ≡ pipe
at_place CiU = refl
at_place IsU = refl
at_place IsD = refl
at_place CoU = refl
at_place CoD = refl
at_place OsU = refl
at_place OsD = refl

pipes_same : (a b : Pipe) → same_pipe a b ≡ true → a ≡ b
pipes_same a b e =
    sym (at_place a) ∙ ap pipe_at (eqb-true (place a) (place b) e) ∙ at_place b

abbrev dir_of : Pipe → Dir
dir_of CiU = U
dir_of IsU = U
dir_of IsD = D
dir_of CoU = U
dir_of CoD = D
dir_of OsU = U
dir_of OsD = D

of_its_kind : (pipe : Pipe) → is_seen pipe ≡ true
    → pipe_of (kind_of pipe) (dir_of pipe) ≡ Some pipe
of_its_kind CiU is = refl
of_its_kind IsU is = refl
of_its_kind IsD is = absurd cc
of_its_kind CoU is = refl
of_its_kind CoD is = refl
of_its_kind OsU is = refl
of_its_kind OsD is = refl

-- a pipe of the kind
abbrev is_on : LegKind → Pipe → Bool
is_on kind pipe = same_kind (kind_of pipe) kind && is_seen pipe

on_pipe : (kind : LegKind) (pipe : Pipe) → is_on kind pipe ≡ true
    → pipe_of kind (dir_of pipe) ≡ Some pipe
on_pipe kind pipe e =
    let parts = and_parts (same_kind (kind_of pipe) kind) (is_seen pipe) e in
    ap (λ (k : LegKind). pipe_of k (dir_of pipe))
    (sym (same_kinds (kind_of pipe) kind parts.0))
    ∙ of_its_kind pipe parts.1

-- lines of one kind carry nothing on the pipes of another
not_here : (kind : LegKind) (pipe : Pipe) (line : Seen) → is_on kind pipe ≡ false
    → IsOfKind kind line → same_pipe line.pipe pipe ≡ true → ⊥
not_here kind pipe line e of same =
    let one = pipes_same line.pipe pipe same in
    let is : is_on kind pipe ≡ true =
    and_from (same_kind (kind_of pipe) kind) (is_seen pipe)
    (ap (λ (p : Pipe). same_kind (kind_of p) kind) (sym one)
    ∙ ap (λ (k : LegKind). same_kind k kind) of.0 ∙ kind_itself kind)
    (ap is_seen (sym one) ∙ of.1) in
    absurd (let both = sym is ∙ e in cc)

none_carried : (kind : LegKind) (pipe : Pipe) (lines : List Seen) → is_on kind pipe ≡ false
    → AllByRecursion (IsOfKind kind) lines → carried pipe lines ≡ []
none_carried kind pipe [] e all = refl
none_carried kind pipe (line ∷ lines) e all =
    let more = none_carried kind pipe lines e all.1 in
    by_test (λ (bytes : List ℕ). bytes ≡ []) (same_pipe line.pipe pipe)
    (line.bytes ++ carried pipe lines) (carried pipe lines)
    (λ same. absurd (not_here kind pipe line e all.0 same)) (λ other. more)

-- ---- tags

record IsTagged (legs : List Leg) (tag : ℕ) : Type 0 where
  leg : Leg
  met : is_met legs leg ≡ true
  is : tag ≡ tag_of legs leg

tagged : (legs : List Leg) (tag : ℕ) (lines : List Seen) → AllByRecursion (IsLineOf legs) lines
    → (of_tag tag lines ≡ []) ⊎ IsTagged legs tag
tagged legs tag [] all = inl refl
tagged legs tag (line ∷ lines) all = by (line.tag == tag) refl (tagged legs tag lines all.1)
  where
    by : (t : Bool) → (line.tag == tag) ≡ t
        → (of_tag tag lines ≡ []) ⊎ IsTagged legs tag
        → (cond t (line ∷ of_tag tag lines) (of_tag tag lines) ≡ []) ⊎ IsTagged legs tag
    by true e more =
        inr (record {
          leg = all.0.leg;
          met = all.0.met;
          is = sym (eqb-true line.tag tag e) ∙ all.0.tag;
        })
    by false e more = more

pub all_none : {X Y : Type 0} (f : X → List Y) (xs : List X) → ((x : X) → f x ≡ [])
    → flat_map f xs ≡ []
all_none f [] each = refl
all_none {X} {Y} f (x ∷ xs) each =
    ap₂ (λ (front rest : List Y). front ++ rest) (each x) (all_none f xs each)

-- ---- streams

module _ (none : (pipe : Pipe) → stream pipe [] ≡ stream_is [] None) (report : List Answer)
    (streams : (leg : Leg) (dir : Dir) (pipe : Pipe) → pipe_of leg.kind dir ≡ Some pipe
    → (stream pipe (moved_on leg dir report)).broken ≡ None) where
  abbrev seen : List Seen
  seen = captured report

  of_nothing : (pipe : Pipe) (bytes : List ℕ) → bytes ≡ [] → (stream pipe bytes).broken ≡ None
  of_nothing pipe bytes e =
      ap (λ (b : List ℕ). (stream pipe b).broken) e ∙ ap (λ (s : Stream). s.broken) (none pipe)

  of_leg : (leg : Leg) (pipe : Pipe) → is_met (legs_met report) leg ≡ true
      → (stream_in pipe (of_tag (tag_of (legs_met report) leg) seen)).broken ≡ None
  of_leg leg pipe met = by (is_on leg.kind pipe) refl
    where
      by : (t : Bool) → is_on leg.kind pipe ≡ t
          → (stream_in pipe (of_tag (tag_of (legs_met report) leg) seen)).broken ≡ None
      by true e =
          let is = on_pipe leg.kind pipe e in
          ap (λ (bytes : List ℕ). (stream pipe bytes).broken)
          (bytes_are_moved report leg (dir_of pipe) pipe is)
          ∙ streams leg (dir_of pipe) pipe is
      by false e =
          of_nothing pipe _
          (none_carried leg.kind pipe (of_tag (tag_of (legs_met report) leg) seen) e
          (one_kind report leg met))

  pub none_broken : (tag : ℕ) (pipe : Pipe) → (stream_in pipe (of_tag tag seen)).broken ≡ None
  none_broken tag pipe = by (tagged (legs_met report) tag seen (lines_are report))
    where
      by : (of_tag tag seen ≡ []) ⊎ IsTagged (legs_met report) tag
          → (stream_in pipe (of_tag tag seen)).broken ≡ None
      by (inl e) = of_nothing pipe _ (ap (carried pipe) e)
      by (inr has) =
          subst (λ (n : ℕ). (stream_in pipe (of_tag n seen)).broken ≡ None) (sym has.is)
          (of_leg has.leg pipe has.met)

  pub no_faults : (tags : List ℕ) → flat_map (λ tag. broken_in tag (of_tag tag seen)) tags ≡ []
  no_faults tags =
      all_none (λ tag. broken_in tag (of_tag tag seen)) tags
      (λ tag. all_none (λ pipe. broken_by tag pipe (stream_in pipe (of_tag tag seen)).broken) pipes
      (λ pipe. ap (broken_by tag pipe) (none_broken tag pipe)))

-- ---- recordings

pub told_is : (world : AnyWorld) (lines : List Line)
    → told world lines ≡ answers world lines ++ last (after world lines)
told_is world [] = refl
told_is world (line ∷ lines) =
    let did = step world line in
    ap (λ (more : List Answer). did.1 ++ more) (told_is did.0 lines)
    ∙ sym (append_assoc did.1 (answers did.0 lines) (last (after did.0 lines)))

last_moves : (leg : Leg) (dir : Dir) (world : AnyWorld) → moved_on leg dir (last world) ≡ []
last_moves leg dir Before = refl
last_moves leg dir (Direct world) = refl
last_moves leg dir (Settings config) = refl
last_moves leg dir (Roles world) = refl

run_moves : (leg : Leg) (dir : Dir) (lines : List Line)
    → moved_on leg dir (run lines) ≡ moved_on leg dir (answers Before lines)
run_moves leg dir lines =
    let world = after Before lines in
    ap (moved_on leg dir) (told_is Before lines)
    ∙ moved_append leg dir (answers Before lines) (last world)
    ∙ ap (λ (more : List ℕ). moved_on leg dir (answers Before lines) ++ more)
    (last_moves leg dir world)
    ∙ append-nil (moved_on leg dir (answers Before lines))

-- a world of roles stays one
is_roles : (lines : List Line) (w : roles.World)
    → (v : roles.World) × (after (Roles w) lines ≡ Roles v)
is_roles [] w = (w, refl)
is_roles (line ∷ lines) w = is_roles lines (roles.step line w).0

-- nothing was answered yet, or a world of roles stands behind the lines
pub roles_or_none : (lines : List Line) (config : WorldConfig)
    → (answers (Settings config) lines ≡ [])
    ⊎ ((v : roles.World) × (after (Settings config) lines ≡ Roles v))
roles_or_none [] config = inl refl
roles_or_none (Set key value ∷ lines) config =
    roles_or_none lines (with_number config key value)
roles_or_none (line ∷ lines) config = inr (is_roles (line ∷ lines) (roles.begun config))

module _ (none : (pipe : Pipe) → stream pipe [] ≡ stream_is [] None) where
  unbroken : (answered : List Answer) (world : AnyWorld)
      → (answered ≡ []) ⊎ ((v : roles.World) × (world ≡ Roles v))
      → TellsStreamsIn answered world → (leg : Leg) (dir : Dir) (pipe : Pipe)
      → pipe_of leg.kind dir ≡ Some pipe → (stream pipe (moved_on leg dir answered)).broken ≡ None
  unbroken answered world (inl e) tells leg dir pipe is =
      ap (λ (said : List Answer). (stream pipe (moved_on leg dir said)).broken) e
      ∙ ap (λ (s : Stream). s.broken) (none pipe)
  unbroken answered world (inr has) tells leg dir pipe is =
      let streams = subst (λ (w : AnyWorld). TellsStreamsIn answered w) has.1 tells in
      ap (λ (s : Stream). s.broken) (streams.streams leg dir pipe is).is

  pub recording_unbroken : ((behind : List Line) → TellsStreamsOf (First true ∷ behind))
      → (behind : List Line) (leg : Leg) (dir : Dir) (pipe : Pipe)
      → pipe_of leg.kind dir ≡ Some pipe
      → (stream pipe (moved_on leg dir (run (First true ∷ behind)))).broken ≡ None
  recording_unbroken tells behind leg dir pipe is =
      ap (λ (bytes : List ℕ). (stream pipe bytes).broken) (run_moves leg dir (First true ∷ behind))
      ∙ unbroken (answers (Settings roles_config) behind) (after (Settings roles_config) behind)
      (roles_or_none behind roles_config) (tells behind) leg dir pipe is
