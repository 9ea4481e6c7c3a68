-- what is computed is so, and what is so is computed
use Rattle.std.proofs.Common.{◌≡◌, ℕ, List, [], ◌∷◌, ◌++◌, length, Bool, true, false}
use Rattle.std.proofs.Common.{refl, sym, ap, subst, ◌∙◌, inl, inr, if◌then◌else◌}
use Rattle.std.specs.Prelude.{◌==◌, ◌||◌, Some, None, Ok, Err, MatchResult}
use Rattle.std.specs.declared.option.Option.{Option}
use Rattle.std.specs.declared.result.Result.{Result}
use Rattle.std.proofs.lemmas.Bool.{leb-true, le-leb, eqb-true, eq-eqb}
use Rattle.rh_rts.specs.declared.command.Command.{Command}
use Rattle.rh_rts.specs.declared.command.Command.TheVariants as commands
use Rattle.rh_rts.specs.Commands.{kind_of}
use Rattle.rh_rts.specs.Packets.{Parts, IsPacket}
use Rattle.rh_rts.specs.Reading.{read_packet}
use Rattle.rh_rts.specs.Refusals.{frag_of}
use Rattle.rh_rts.proofs.OneReading.{packet_read, own_length}
use Rattle.rh_sig.specs.declared.fault.SigFault.{SigFault}
use Rattle.rh_sig.specs.declared.fault.SigFault.TheVariants.{Unknown, OutOfRange}
use Rattle.rh_sig.specs.declared.name.Name.{Name}
use Rattle.rh_sig.specs.declared.name.Pipe.{Pipe}
use Rattle.rh_sig.specs.declared.named.Named.{Named}
use Rattle.rh_sig.specs.Names.{unpadded, IsNamed, IsCarried}
use Rattle.rh_sig.specs.Values.{IsWithin, is_within, IsInRange, AreInRange, IsOut, IsRefused}
use Rattle.rh_sig.specs.Values.{value_of, name_of_named, commands_of, parts_of, ReadsAs}
use Rattle.rh_sig.specs.Reading.{value}
use Rattle.rh_sig.specs.Naming.{is_in_range, first_out, name_on, unless_out, named_by}
use Rattle.rh_sig.specs.Naming.{named_of, named_bytes}
use Rattle.rh_sig.proofs.Again.{same_commands, same_name, same_value}
use Rattle.rh_sig.proofs.Members.{any_or}
use Rattle.rh_sig.proofs.Table.{both, name_found, is_named, none_found}
use Rattle.rh_sig.proofs.Clear.{reads_as}

-- ---- ranges

within_true : (least greatest n : ℕ) → is_within least greatest n ≡ true
    → IsWithin least greatest n
within_true least greatest n e = let h = both _ _ e in (leb-true _ _ h.0, leb-true _ _ h.1)

within_so : (least greatest n : ℕ) → IsWithin least greatest n
    → is_within least greatest n ≡ true
within_so least greatest n h = rw (le-leb _ _ h.0) (le-leb _ _ h.1)

default_or : (n : ℕ) (t : Bool) → (n == 0) ≡ t → (t || is_within 60000 4294967295 n) ≡ true
    → IsInRange (commands.ClientKeepalive n)
default_or n true is e = inl (eqb-true _ _ is)
default_or n false is e = inr (within_true _ _ _ e)

in_range_true : (c : Command) → is_in_range c ≡ true → IsInRange c
in_range_true (commands.ReceiveWindowSize n) e =
    let h = within_true _ _ n e in record { least = h.0; greatest = h.1 }
in_range_true (commands.ConnectionTimeout n) e = within_true _ _ n e
in_range_true (commands.ChannelLifetime n) e = within_true _ _ n e
in_range_true (commands.ClientKeepalive n) e = default_or n _ refl e
in_range_true (commands.Version n) e = eqb-true _ _ e
in_range_true c e = tt

in_range_so : (c : Command) → IsInRange c → is_in_range c ≡ true
in_range_so (commands.ReceiveWindowSize n) h = within_so _ _ n (h.least, h.greatest)
in_range_so (commands.ConnectionTimeout n) h = within_so _ _ n h
in_range_so (commands.ChannelLifetime n) h = within_so _ _ n h
in_range_so (commands.ClientKeepalive n) (inl h) = rw (eq-eqb _ _ h) refl
in_range_so (commands.ClientKeepalive n) (inr h) = any_or _ _ (within_so _ _ n h)
in_range_so (commands.Version n) h = eq-eqb _ _ h
in_range_so c h = refl

-- ---- the first value out of range

untrue : false ≡ true → ⊥
untrue e = absurd cc

-- what is known of commands and the first value of them out of range
abbrev Tells : List Command → Option SigFault → Type 0
Tells cs None = AreInRange cs
Tells cs (Some fault) = IsOut cs fault

fine_behind : (c : Command) (cs : List Command) (o : Option SigFault) → IsInRange c → Tells cs o
    → Tells (c ∷ cs) o
fine_behind c cs None fine h = (fine, h)
fine_behind c cs (Some Unknown) fine h = absurd h
fine_behind c cs (Some (OutOfRange command wrong)) fine (x, first, kind, number) = (
  x,
  record {
    before = c ∷ first.before;
    after = first.after;
    split = ap (λ (ys : List Command). c ∷ ys) first.split;
    fine = (fine, first.fine);
    wrong = first.wrong;
  },
  kind,
  number,
)

tells_by : (c : Command) (cs : List Command) (t : Bool) → is_in_range c ≡ t
    → Tells cs (first_out cs)
    → Tells (c ∷ cs) (if t then first_out cs else Some (OutOfRange (kind_of c) (value_of c)))
tells_by c cs true is h = fine_behind c cs (first_out cs) (in_range_true c is) h
tells_by c cs false is h = (
  c,
  record {
    before = [];
    after = cs;
    split = refl;
    fine = tt;
    wrong = λ fine. untrue (sym is ∙ in_range_so c fine);
  },
  refl,
  refl,
)

tells : (cs : List Command) → Tells cs (first_out cs)
tells [] = tt
tells (c ∷ cs) = tells_by c cs (is_in_range c) refl (tells cs)

-- where all are in range, none is found
none_out : (cs : List Command) → AreInRange cs → first_out cs ≡ None
none_out [] h = refl
none_out (c ∷ cs) h = rw (in_range_so c h.0) (none_out cs h.1)

not_in_range : (c : Command) (t : Bool) → is_in_range c ≡ t → ¬ IsInRange c → t ≡ false
not_in_range c true is wrong = absurd (wrong (in_range_true c is))
not_in_range c false is wrong = refl

-- the first that isn't is found behind those that are
out_behind : (before after : List Command) (c : Command) → AreInRange before → ¬ IsInRange c
    → first_out (before ++ (c ∷ after)) ≡ Some (OutOfRange (kind_of c) (value_of c))
out_behind [] after c fine wrong = rw (not_in_range c _ refl wrong) refl
out_behind (b ∷ before) after c fine wrong =
    rw (in_range_so b fine.0) (out_behind before after c fine.1 wrong)

out_found : (cs : List Command) (fault : SigFault) → IsOut cs fault → first_out cs ≡ Some fault
out_found cs Unknown h = absurd h
out_found cs (OutOfRange command wrong) (c, first, kind, number) =
    ap first_out first.split ∙ out_behind first.before first.after c first.fine first.wrong
    ∙ ap (λ (k : ℕ). Some (OutOfRange k (value_of c))) kind
    ∙ ap (λ (v : ℕ). Some (OutOfRange command v)) number

-- the padding has no range
unpadded_out : (cs : List Command) → first_out (unpadded cs) ≡ first_out cs
unpadded_out [] = refl
unpadded_out (commands.Padding bytes ∷ cs) = unpadded_out cs
unpadded_out (c ∷ cs) =
    ap (λ (o : Option SigFault). if is_in_range c then o
    else Some (OutOfRange (kind_of c) (value_of c))) (unpadded_out cs)

-- ---- the packet

-- the value of the name that was found
is_value : (p : Parts) (pipe : Pipe) (name : Name) → IsNamed p pipe name
    → ReadsAs p pipe (value name (unpadded p.commands))
is_value p pipe name is =
    let cs = unpadded p.commands in (
      subst (λ (x : Name). IsNamed p pipe x) (sym (same_name name cs)) is,
      same_commands name cs (sym is.types),
    )

-- what is read, if so much is known of it
abbrev Reads : Parts → Pipe → Result Named SigFault → Type 0
Reads p pipe r =
    MatchResult r (λ n. ReadsAs p pipe n × AreInRange (commands_of n))
    (λ fault. IsRefused p pipe fault)

by_range : (p : Parts) (pipe : Pipe) (name : Name) (o : Option SigFault) → IsNamed p pipe name
    → first_out (unpadded p.commands) ≡ o
    → Reads p pipe (unless_out o (value name (unpadded p.commands)))
by_range p pipe name None is out =
    let cs = unpadded p.commands in
    let value_is = is_value p pipe name is in
    let fine : Tells cs None = subst (λ (o : Option SigFault). Tells cs o) out (tells cs) in
    (value_is, subst AreInRange (sym value_is.1) fine)
by_range p pipe name (Some Unknown) is out =
    absurd (subst (λ (o : Option SigFault). Tells (unpadded p.commands) o) out
    (tells (unpadded p.commands)))
by_range p pipe name (Some (OutOfRange command wrong)) is out = (
  (name, is),
  subst (λ (o : Option SigFault). Tells p.commands o) (sym (unpadded_out p.commands) ∙ out)
      (tells p.commands),
)

by_name : (p : Parts) (pipe : Pipe) (o : Option Name) → o ≡ name_on p pipe
    → Reads p pipe (named_by o (unpadded p.commands))
by_name p pipe None is = is_named p pipe None is
by_name p pipe (Some name) is = by_range p pipe name _ (is_named p pipe (Some name) is) refl

-- what is computed is so
pub reads : (p : Parts) (pipe : Pipe) → Reads p pipe (named_of p pipe)
unfolding named_of
reads p pipe = by_name p pipe (name_on p pipe) refl

pub read_so : (p : Parts) (pipe : Pipe) (r : Result Named SigFault) → r ≡ named_of p pipe
    → Reads p pipe r
read_so p pipe r is = rw is (reads p pipe)

-- a packet that reads so is computed, as far as its values are in range
pub computed : (p : Parts) (pipe : Pipe) (n : Named) → ReadsAs p pipe n
    → named_of p pipe ≡ unless_out (first_out (commands_of n)) n
unfolding named_of
computed p pipe n h =
    let same : value (name_of_named n) (unpadded p.commands) ≡ n =
    ap (value (name_of_named n)) (sym h.1) ∙ same_value n in
    rw (name_found p pipe (name_of_named n) h.0, same, sym h.1) refl

pub computed_fine : (p : Parts) (pipe : Pipe) (n : Named) → ReadsAs p pipe n
    → AreInRange (commands_of n) → named_of p pipe ≡ Ok n
computed_fine p pipe n h fine =
    computed p pipe n h
    ∙ ap (λ (o : Option SigFault). unless_out o n) (none_out (commands_of n) fine)

-- a refusal is computed
pub refused : (p : Parts) (pipe : Pipe) (fault : SigFault) → IsRefused p pipe fault
    → named_of p pipe ≡ Err fault
unfolding named_of
refused p pipe Unknown never = rw (none_found p pipe never) refl
refused p pipe (OutOfRange command wrong) ((name, is), out) =
    let first : first_out (unpadded p.commands) ≡ Some (OutOfRange command wrong) =
    unpadded_out p.commands ∙ out_found p.commands (OutOfRange command wrong) out in
    rw (name_found p pipe name is, first) refl

-- a packet that was written is computed on each pipe of its row
pub written : (n : Named) (pipe : Pipe) → IsCarried (name_of_named n) pipe
    → named_of (parts_of n) pipe ≡ unless_out (first_out (commands_of n)) n
written n pipe is = computed (parts_of n) pipe n (reads_as n pipe is)

pub written_fine : (n : Named) (pipe : Pipe) → IsCarried (name_of_named n) pipe
    → AreInRange (commands_of n) → named_of (parts_of n) pipe ≡ Ok n
written_fine n pipe is fine = computed_fine (parts_of n) pipe n (reads_as n pipe is) fine

-- its bytes are read back, and their number stands in their header
pub bytes_back : (n : Named) → IsPacket (parts_of n)
    → read_packet (named_bytes n) ≡ Ok (parts_of n)
unfolding named_bytes
bytes_back n is = packet_read (parts_of n) is

pub bytes_told : (n : Named) (rest : List ℕ) → IsPacket (parts_of n)
    → frag_of (named_bytes n ++ rest) ≡ length (named_bytes n)
unfolding named_bytes
bytes_told n rest is = own_length (parts_of n) rest is
