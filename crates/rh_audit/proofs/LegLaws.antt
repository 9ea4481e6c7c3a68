-- a leg by the lines of its tag, which are of one kind
use Rattle.std.proofs.Common.{◌≡◌, ℕ, List, [], ◌∷◌, ◌++◌, Bool, true, false, None, refl, sym, ap, ◌∙◌}
use Rattle.std.specs.Prelude.{if◌then◌else◌}
use Rattle.std.specs.List.{AllByRecursion}
use Rattle.std.proofs.lemmas.List.{append-nil}
use Rattle.rh_sig.specs.declared.name.Pipe.{Pipe}
use Rattle.rh_sig.specs.declared.name.Pipe.TheVariants.{CiU, IsU, IsD, CoU, CoD, OsU, OsD}
use Rattle.rh_line.specs.declared.leg.LegKind.{LegKind}
use Rattle.rh_line.specs.declared.leg.LegKind.TheVariants.{ClientOut, OutServer, ClientIn, InServer}
use Rattle.rh_audit.specs.declared.fault.AuditFault.{AuditFault}
use Rattle.rh_audit.specs.declared.seen.Seen.{Seen}
use Rattle.rh_audit.specs.Audits.{broken_by, broken_in}
use Rattle.rh_audit.specs.Captures.{IsOfKind, carried, same_pipe}
use Rattle.rh_audit.specs.Chains.{Leg, leg_by, leg_in, mets_in, pdus_in, stream_in}
use Rattle.rh_audit.specs.Links.{legs_if, same_kind, told_behind}
use Rattle.rh_audit.specs.Openings.{first_end}
use Rattle.rh_audit.specs.Pipes.{first_pipe, kind_of, pdu_pipe}
use Rattle.rh_audit.specs.Streams.{Stream, first_among, is_marked, mets, renewed, stream, stream_is}
use Rattle.rh_audit.proofs.Streams.{framed_none}

-- ---- pipes and kinds

pub same_pipe_is : (a b : Pipe) → same_pipe a b ≡ true → a ≡ b
same_pipe_is CiU CiU h = refl
same_pipe_is IsU IsU h = refl
same_pipe_is IsD IsD h = refl
same_pipe_is CoU CoU h = refl
same_pipe_is CoD CoD h = refl
same_pipe_is OsU OsU h = refl
same_pipe_is OsD OsD h = refl
same_pipe_is _ _ h = absurd (let both = h in cc)

pub same_kind_is : (a b : LegKind) → same_kind a b ≡ true → a ≡ b
same_kind_is ClientIn ClientIn h = refl
same_kind_is InServer InServer h = refl
same_kind_is ClientOut ClientOut h = refl
same_kind_is OutServer OutServer h = refl
same_kind_is _ _ h = absurd (let both = h in cc)

pub same_kind_self : (a : LegKind) → same_kind a a ≡ true
same_kind_self ClientIn = refl
same_kind_self InServer = refl
same_kind_self ClientOut = refl
same_kind_self OutServer = refl

pub first_kind : (kind : LegKind) → kind_of (first_pipe kind) ≡ kind
first_kind ClientIn = refl
first_kind InServer = refl
first_kind ClientOut = refl
first_kind OutServer = refl

-- ---- pipes that the lines do not have

pub off : (pipe : Pipe) (kind : LegKind) (lines : List Seen)
    → AllByRecursion (IsOfKind kind) lines → (kind_of pipe ≡ kind → ⊥) → carried pipe lines ≡ []
off pipe kind [] h other = refl
off pipe kind (line ∷ lines) h other =
    by (same_pipe line.pipe pipe) refl (off pipe kind lines h.1 other)
  where
    by : (t : Bool) → same_pipe line.pipe pipe ≡ t → carried pipe lines ≡ []
        → (if t then line.bytes ++ carried pipe lines else carried pipe lines) ≡ []
    by true e more =
        absurd (other (ap kind_of (sym (same_pipe_is line.pipe pipe e)) ∙ h.0.0))
    by false e more = more

-- a stream of no bytes
pub nothing : (pipe : Pipe) → stream pipe [] ≡ stream_is [] None
unfolding first_end
nothing CiU = refl
nothing IsU = framed_none IsU true 0
nothing IsD = framed_none IsD true 0
nothing CoU = refl
nothing CoD = refl
nothing OsU = framed_none OsU true 0
nothing OsD = refl

off_stream : (pipe : Pipe) (kind : LegKind) (lines : List Seen)
    → AllByRecursion (IsOfKind kind) lines → (kind_of pipe ≡ kind → ⊥)
    → stream_in pipe lines ≡ stream_is [] None
off_stream pipe kind lines h other = ap (stream pipe) (off pipe kind lines h other) ∙ nothing pipe

-- none of them is broken
unbroken : (tag : ℕ) (pipe : Pipe) (kind : LegKind) (lines : List Seen)
    → AllByRecursion (IsOfKind kind) lines → (kind_of pipe ≡ kind → ⊥)
    → broken_by tag pipe (stream_in pipe lines).broken ≡ []
unbroken tag pipe kind lines h other =
    ap (λ (s : Stream). broken_by tag pipe s.broken) (off_stream pipe kind lines h other)

-- and a leg of another kind is not there
pub no_leg : (any kind : LegKind) (tag : ℕ) (lines : List Seen)
    → AllByRecursion (IsOfKind kind) lines → same_kind any kind ≡ false
    → leg_in any tag lines ≡ []
no_leg any kind tag lines h other =
    let apart : kind_of (first_pipe any) ≡ kind → ⊥ = λ e.
    (let same = ap (λ k. same_kind k kind) (sym (first_kind any) ∙ e) ∙ same_kind_self kind in
    let both : false ≡ true = sym other ∙ same in cc) in
    ap (λ (s : Stream). leg_by tag (renewed None (mets (first_pipe any) s))
    (is_marked (mets_in (pdu_pipe any) lines)) (pdus_in (pdu_pipe any) lines)
    (first_among (mets (first_pipe any) s)))
    (off_stream (first_pipe any) kind lines h apart)

-- ---- what is broken

-- of six, those of one pipe or two
abbrev six : List AuditFault → List AuditFault → List AuditFault → List AuditFault
    → List AuditFault → List AuditFault → List AuditFault
six a b c d e f = a ++ (b ++ (c ++ (d ++ (e ++ (f ++ [])))))

abbrev told : ℕ → Pipe → List Seen → List AuditFault
told tag pipe lines = broken_by tag pipe (stream_in pipe lines).broken

pub told_ci : (tag : ℕ) (lines : List Seen) → AllByRecursion (IsOfKind ClientIn) lines
    → broken_in tag lines ≡ told tag CiU lines
told_ci tag lines h =
    ap (λ x. six (told tag CiU lines) x (told tag CoU lines) (told tag CoD lines) (told tag OsU lines) (told tag OsD lines))
    (unbroken tag IsU ClientIn lines h (λ e. (let both = e in cc)))
    ∙ ap (λ x. six (told tag CiU lines) [] x (told tag CoD lines) (told tag OsU lines) (told tag OsD lines))
    (unbroken tag CoU ClientIn lines h (λ e. (let both = e in cc)))
    ∙ ap (λ x. six (told tag CiU lines) [] [] x (told tag OsU lines) (told tag OsD lines))
    (unbroken tag CoD ClientIn lines h (λ e. (let both = e in cc)))
    ∙ ap (λ x. six (told tag CiU lines) [] [] [] x (told tag OsD lines))
    (unbroken tag OsU ClientIn lines h (λ e. (let both = e in cc)))
    ∙ ap (λ x. six (told tag CiU lines) [] [] [] [] x)
    (unbroken tag OsD ClientIn lines h (λ e. (let both = e in cc)))
    ∙ append-nil (told tag CiU lines)

pub told_is : (tag : ℕ) (lines : List Seen) → AllByRecursion (IsOfKind InServer) lines
    → broken_in tag lines ≡ told tag IsU lines
told_is tag lines h =
    ap (λ x. six x (told tag IsU lines) (told tag CoU lines) (told tag CoD lines) (told tag OsU lines) (told tag OsD lines))
    (unbroken tag CiU InServer lines h (λ e. (let both = e in cc)))
    ∙ ap (λ x. six [] (told tag IsU lines) x (told tag CoD lines) (told tag OsU lines) (told tag OsD lines))
    (unbroken tag CoU InServer lines h (λ e. (let both = e in cc)))
    ∙ ap (λ x. six [] (told tag IsU lines) [] x (told tag OsU lines) (told tag OsD lines))
    (unbroken tag CoD InServer lines h (λ e. (let both = e in cc)))
    ∙ ap (λ x. six [] (told tag IsU lines) [] [] x (told tag OsD lines))
    (unbroken tag OsU InServer lines h (λ e. (let both = e in cc)))
    ∙ ap (λ x. six [] (told tag IsU lines) [] [] [] x)
    (unbroken tag OsD InServer lines h (λ e. (let both = e in cc)))
    ∙ append-nil (told tag IsU lines)

pub told_co : (tag : ℕ) (lines : List Seen) → AllByRecursion (IsOfKind ClientOut) lines
    → broken_in tag lines ≡ told tag CoU lines ++ told tag CoD lines
told_co tag lines h =
    ap (λ x. six x (told tag IsU lines) (told tag CoU lines) (told tag CoD lines) (told tag OsU lines) (told tag OsD lines))
    (unbroken tag CiU ClientOut lines h (λ e. (let both = e in cc)))
    ∙ ap (λ x. six [] x (told tag CoU lines) (told tag CoD lines) (told tag OsU lines) (told tag OsD lines))
    (unbroken tag IsU ClientOut lines h (λ e. (let both = e in cc)))
    ∙ ap (λ x. six [] [] (told tag CoU lines) (told tag CoD lines) x (told tag OsD lines))
    (unbroken tag OsU ClientOut lines h (λ e. (let both = e in cc)))
    ∙ ap (λ x. six [] [] (told tag CoU lines) (told tag CoD lines) [] x)
    (unbroken tag OsD ClientOut lines h (λ e. (let both = e in cc)))
    ∙ ap (λ x. told tag CoU lines ++ x) (append-nil (told tag CoD lines))

pub told_os : (tag : ℕ) (lines : List Seen) → AllByRecursion (IsOfKind OutServer) lines
    → broken_in tag lines ≡ told tag OsU lines ++ told tag OsD lines
told_os tag lines h =
    ap (λ x. six x (told tag IsU lines) (told tag CoU lines) (told tag CoD lines) (told tag OsU lines) (told tag OsD lines))
    (unbroken tag CiU OutServer lines h (λ e. (let both = e in cc)))
    ∙ ap (λ x. six [] x (told tag CoU lines) (told tag CoD lines) (told tag OsU lines) (told tag OsD lines))
    (unbroken tag IsU OutServer lines h (λ e. (let both = e in cc)))
    ∙ ap (λ x. six [] [] x (told tag CoD lines) (told tag OsU lines) (told tag OsD lines))
    (unbroken tag CoU OutServer lines h (λ e. (let both = e in cc)))
    ∙ ap (λ x. six [] [] [] x (told tag OsU lines) (told tag OsD lines))
    (unbroken tag CoD OutServer lines h (λ e. (let both = e in cc)))
    ∙ ap (λ x. told tag OsU lines ++ x) (append-nil (told tag OsD lines))

-- the stream of the first packet, and then that of the RPC PDUs
pub told_all : (tag : ℕ) (kind : LegKind) (lines : List Seen)
    → AllByRecursion (IsOfKind kind) lines
    → broken_in tag lines ≡ told tag (first_pipe kind) lines ++ told_behind tag kind lines
told_all tag ClientIn lines h = told_ci tag lines h ∙ sym (append-nil (told tag CiU lines))
told_all tag InServer lines h = told_is tag lines h ∙ sym (append-nil (told tag IsU lines))
told_all tag ClientOut lines h = told_co tag lines h
told_all tag OutServer lines h = told_os tag lines h

-- the leg of each kind
pub leg_any : (any kind : LegKind) (tag : ℕ) (lines : List Seen) (legs : List Leg)
    → AllByRecursion (IsOfKind kind) lines → legs ≡ leg_in kind tag lines
    → leg_in any tag lines ≡ legs_if any kind legs
leg_any any kind tag lines legs h is = by (same_kind any kind) refl
  where
    by : (t : Bool) → same_kind any kind ≡ t → leg_in any tag lines ≡ (if t then legs else [])
    by true e = ap (λ k. leg_in k tag lines) (same_kind_is any kind e) ∙ sym is
    by false e = no_leg any kind tag lines h e
