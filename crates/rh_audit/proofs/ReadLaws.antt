-- the legs of lines, tag by tag
use Rattle.std.proofs.Common.{◌≡◌, ℕ, ◌<◌, ◌^◌, List, [], ◌∷◌, ◌++◌, Bool, true, false, Some, None, refl, sym, ap, ◌∙◌, subst}
use Rattle.std.specs.Prelude.{option_to_list, if◌then◌else◌}
use Rattle.std.specs.List.{AllByRecursion, flat_map}
use Rattle.std.specs.declared.option.Option.{Option}
use Rattle.std.proofs.lemmas.List.{append-nil, append_assoc}
use Rattle.std.proofs.lemmas.List.Concat.{flat_map-append}
use mathlib.Core.Path.{fun_ext}
use Rattle.rh_line.specs.declared.leg.LegKind.{LegKind}
use Rattle.rh_line.specs.declared.leg.LegKind.TheVariants.{ClientOut, OutServer, ClientIn, InServer}
use Rattle.rh_audit.specs.declared.fault.AuditFault.{AuditFault}
use Rattle.rh_audit.specs.declared.legs.Legs.{Legs}
use Rattle.rh_audit.specs.declared.read_leg.ReadLeg.{ReadLeg}
use Rattle.rh_audit.specs.declared.seen.Seen.{Seen}
use Rattle.rh_audit.specs.Audits.{broken_in, kinds}
use Rattle.rh_audit.specs.declared.pieces.Piece.{Piece}
use Rattle.rh_audit.specs.declared.sorting.Run.{Run}
use Rattle.rh_audit.specs.Captures.{AreOfLeg, IsOfKind, of_tag, total}
use Rattle.rh_audit.specs.Pieces.{all_seen, seen_of}
use Rattle.rh_audit.specs.Runs.{IsFirstRun}
use Rattle.rh_audit.specs.Chains.{Leg, leg_in, legs}
use Rattle.rh_audit.specs.Links.{legs_if, same_kind}
use Rattle.rh_audit.specs.Reads.{AreLegs, IsReading, begun_by, begun_if, begun_in, leg_read, legs_read, read_if, read_in}
use Rattle.rh_audit.specs.Tags.{HasOther, IsRising}
use Rattle.rh_audit.proofs.Tags.{AreRead, IsRun, all_read, read_none, read_run}

-- what was read of all lines, and what is left
pub record InReading (all rest : List Seen) (read : Legs) (before after : List AuditFault)
    : Type 0 where
  pub done : List Seen
  pub tags : List ℕ
  pub at : AreRead all done rest tags
  pub legs : AreLegs all tags read
  pub told : after ≡ before ++ flat_map (λ tag. broken_in tag (of_tag tag all)) tags

pub reading_none : (all : List Seen) (read : Legs) (before : List AuditFault) → IsRising all
    → ((kind : LegKind) → read_in kind read ≡ [])
    → read.begun.items ≡ []
    → InReading all all read before before
reading_none all read before up none nothing = record {
  done = [];
  tags = [];
  at = read_none all up;
  legs = record { each = λ kind. ap legs_read (none kind); begun = nothing };
  told = sym (append-nil before);
}

read-append : (xs ys : List ReadLeg) → legs_read (xs ++ ys) ≡ legs_read xs ++ legs_read ys
read-append [] ys = refl
read-append (x ∷ xs) ys = ap (λ more. leg_read x ∷ more) (read-append xs ys)

read_as_legs : (any kind : LegKind) (legs : List ReadLeg)
    → legs_read (read_if any kind legs) ≡ legs_if any kind (legs_read legs)
read_as_legs any kind legs = by (same_kind any kind)
  where
    by : (t : Bool) → legs_read (if t then legs else []) ≡ (if t then legs_read legs else [])
    by true = refl
    by false = refl

-- a leg of one kind is the only one of its tag
begun_of : (tag : ℕ) (kind : LegKind) (leg : Option ReadLeg)
    → flat_map (λ any. begun_by tag any (legs_if any kind (legs_read (option_to_list leg)))) kinds
    ≡ begun_if tag kind leg
begun_of tag ClientIn None = refl
begun_of tag ClientIn (Some leg) = refl
begun_of tag InServer None = refl
begun_of tag InServer (Some leg) = refl
begun_of tag ClientOut None = refl
begun_of tag ClientOut (Some leg) = refl
begun_of tag OutServer None = refl
begun_of tag OutServer (Some leg) = refl

-- the lines of the next tag were read
pub reading_more : (all run behind : List Seen) (line : Seen) (read next : Legs)
    (before after later : List AuditFault) (kind : LegKind) (leg : Option ReadLeg)
    → InReading all (line ∷ (run ++ behind)) read before after
    → AllByRecursion (λ other. other.tag ≡ line.tag) run
    → HasOther line.tag behind
    → later ≡ after ++ broken_in line.tag (line ∷ run)
    → ((any : LegKind) → leg_in any line.tag (line ∷ run)
    ≡ legs_if any kind (legs_read (option_to_list leg)))
    → ((any : LegKind) → read_in any next
    ≡ read_in any read ++ read_if any kind (option_to_list leg))
    → next.begun.items ≡ read.begun.items ++ begun_if line.tag kind leg
    → InReading all behind next before later
reading_more all run behind line read next before after later kind leg h same other broke is adds
    begins =
    let tag = line.tag in
    let there = read_run all h.done line run behind h.tags h.at same other in
    let lines = there.here in
    let mine : (any : LegKind) → leg_in any tag (of_tag tag all)
    ≡ legs_if any kind (legs_read (option_to_list leg)) =
    λ any. ap (leg_in any tag) lines ∙ is any in
    record {
      done = h.done ++ line ∷ run;
      tags = h.tags ++ tag ∷ [];
      at = there.next;
      legs = record {
        each = λ any. ap legs_read (adds any)
            ∙ read-append (read_in any read) (read_if any kind (option_to_list leg))
            ∙ ap (λ x. x ++ legs_read (read_if any kind (option_to_list leg))) (h.legs.each any)
            ∙ ap (λ x. legs any all h.tags ++ x)
            (read_as_legs any kind (option_to_list leg) ∙ sym (mine any)
            ∙ sym (append-nil (leg_in any tag (of_tag tag all))))
            ∙ sym (flat_map-append (λ t. leg_in any t (of_tag t all)) h.tags (tag ∷ []));
        begun = begins
            ∙ ap (λ x. x ++ begun_if tag kind leg) h.legs.begun
            ∙ ap (λ x. flat_map (begun_in all) h.tags ++ x)
            (sym (begun_of tag kind leg)
            ∙ ap (λ (f : LegKind → List Leg). flat_map (λ any. begun_by tag any (f any)) kinds)
            (fun_ext (λ any. sym (mine any)))
            ∙ sym (append-nil (begun_in all tag)))
            ∙ sym (flat_map-append (begun_in all) h.tags (tag ∷ []));
      };
      told = broke
          ∙ ap (λ x. x ++ broken_in tag (line ∷ run)) h.told
          ∙ append_assoc before _ _
          ∙ ap (λ x. before ++ (flat_map (λ t. broken_in t (of_tag t all)) h.tags ++ x))
          (ap (broken_in tag) (sym lines) ∙ sym (append-nil (broken_in tag (of_tag tag all))))
          ∙ ap (λ x. before ++ x)
          (sym (flat_map-append (λ t. broken_in t (of_tag t all)) h.tags (tag ∷ [])));
    }

pub reading_all : (all : List Seen) (read : Legs) (before after : List AuditFault)
    → InReading all [] read before after
    → IsReading all read before after
reading_all all read before after h = record {
  tags = h.tags;
  are_tags = all_read all h.done h.tags h.at;
  are_legs = h.legs;
  told = h.told;
}

-- ---- a run of lines that stand elsewhere

seen_append : (xs ys : List Piece) → all_seen (xs ++ ys) ≡ all_seen xs ++ all_seen ys
seen_append [] ys = refl
seen_append (x ∷ xs) ys = ap (λ more. seen_of x ∷ more) (seen_append xs ys)

module _ (all : List Seen) (pieces : List Piece) (run : Run) (behind : List Piece) (read : Legs)
    (before after : List AuditFault)
    (h : InReading all (all_seen pieces) read before after) (is : IsFirstRun pieces run behind) where
  abbrev line : Seen
  line = seen_of is.first

  abbrev later : List Seen
  later = all_seen is.later

  joined : all_seen pieces ≡ line ∷ (later ++ all_seen behind)
  joined = ap all_seen is.joined ∙ ap (λ x. line ∷ x) (seen_append is.later behind)

  lines_are : all_seen run.lines.now ≡ line ∷ later
  lines_are = ap all_seen is.begins

  there : IsRun all h.done line later (all_seen behind) h.tags
  there = read_run all h.done line later (all_seen behind) h.tags
      (subst (λ rest. AreRead all h.done rest h.tags) joined h.at) is.same is.other

  -- the lines of the run are of one leg
  pub run_kind : ((tag : ℕ) → AreOfLeg (of_tag tag all))
      → AllByRecursion (IsOfKind run.kind) (all_seen run.lines.now)
      × (total (all_seen run.lines.now) < 2 ^ 36)
  run_kind legs =
      let mine = subst AreOfLeg there.here (legs line.tag) in
      let kind : mine.kind ≡ run.kind = sym mine.each.0.0 ∙ sym is.kind in (
        subst (λ x. AllByRecursion (IsOfKind run.kind) x) (sym lines_are)
            (subst (λ k. AllByRecursion (IsOfKind k) (line ∷ later)) kind mine.each),
        subst (λ x. total x < 2 ^ 36) (sym lines_are) mine.short,
      )

  -- and they are read
  pub run_read : (next : Legs) (told : List AuditFault) (leg : Option ReadLeg)
      → told ≡ after ++ broken_in run.tag (all_seen run.lines.now)
      → ((any : LegKind) → leg_in any run.tag (all_seen run.lines.now)
      ≡ legs_if any run.kind (legs_read (option_to_list leg)))
      → ((any : LegKind) → read_in any next
      ≡ read_in any read ++ read_if any run.kind (option_to_list leg))
      → next.begun.items ≡ read.begun.items ++ begun_if run.tag run.kind leg
      → InReading all (all_seen behind) next before told
  run_read next told leg broke legs adds begins =
      reading_more all later (all_seen behind) line read next before after told run.kind leg
      (record {
        done = h.done;
        tags = h.tags;
        at = subst (λ rest. AreRead all h.done rest h.tags) joined h.at;
        legs = h.legs;
        told = h.told;
      }) is.same is.other
      (broke ∙ ap (λ t. after ++ broken_in t (all_seen run.lines.now)) is.tag
      ∙ ap (λ x. after ++ broken_in line.tag x) lines_are)
      (λ any. ap (λ x. leg_in any line.tag x) (sym lines_are)
      ∙ ap (λ t. leg_in any t (all_seen run.lines.now)) (sym is.tag) ∙ legs any)
      adds
      (begins ∙ ap (λ t. read.begun.items ++ begun_if t run.kind leg) is.tag)
