-- the table, and looking a name up in it
use Rattle.std.proofs.Common.{◌≡◌, ℕ, ◌<◌, List, [], ◌∷◌, length, Bool, true, false, refl, sym, ap}
use Rattle.std.proofs.Common.{◌∙◌, arith, subst, if◌then◌else◌}
use Rattle.std.specs.Prelude.{◌==◌, ◌&&◌, Some, None, MatchOption}
use Rattle.std.specs.declared.option.Option.{Option}
use Rattle.std.specs.List.{Contains}
use Rattle.std.specs.Str.{bytes_eq}
use Rattle.std.proofs.lemmas.Bool.{eqb-true, eq-eqb}
use Rattle.std.proofs.lemmas.List.{length-map}
use Rattle.std.proofs.lemmas.Slice.Eq.{bytes_eq-Decides}
use Rattle.rh_rts.specs.Packets.{Parts}
use Rattle.rh_sig.specs.declared.name.Name.{Name}
use Rattle.rh_sig.specs.declared.name.Pipe.{Pipe}
use Rattle.rh_sig.specs.declared.name.Name.TheVariants.{ConnA1}
use Rattle.rh_sig.specs.declared.name.Pipe.TheVariants.{CiU, IsU, IsD, CoU, CoD, OsU, OsD}
use Rattle.rh_sig.specs.Names.{row_of, IsNamed, IsNameless}
use Rattle.rh_sig.specs.Looking.{names, found, fits, carries}
use Rattle.rh_sig.specs.Naming.{name_on}
use Rattle.rh_rts.specs.Commands.{kind_of}
use Rattle.rh_sig.specs.Names.{types_of, unpadded}
use Rattle.rh_sig.proofs.Again.{seven_types}
use Rattle.rh_sig.proofs.Members.{carried, carrying}

-- ---- the test of a row

pub both : (a b : Bool) → (a && b) ≡ true → (a ≡ true) × (b ≡ true)
both true b e = (refl, e)
both false b e = absurd cc

pub fitting : (flags told : ℕ) (types ks : List ℕ) → fits flags types told ks ≡ true
    → (flags ≡ told) × (types ≡ ks)
unfolding fits
fitting flags told types ks e =
    let h = both (flags == told) (bytes_eq types ks) e in
    (eqb-true _ _ h.0, (bytes_eq-Decides types ks).0 h.1)

pub fits_so : (flags told : ℕ) (types ks : List ℕ) → flags ≡ told → types ≡ ks
    → fits flags types told ks ≡ true
unfolding fits
fits_so flags told types ks same alike =
    rw (eq-eqb flags told same) ((bytes_eq-Decides types ks).1 alike)

-- ---- what is found

-- the row of the name lists the pipe and has these flags and types
pub record IsRow (name : Name) (pipe : Pipe) (told : ℕ) (ks : List ℕ) : Type 0 where
  pub carried : Contains (row_of name).pipes pipe
  pub flags : (row_of name).flags ≡ told
  pub types : (row_of name).types ≡ ks

pub some_same : {X : Type 0} (x y : X) → Some x ≡ Some y → x ≡ y
some_same x y e = cc

found_by : (n : Name) (ns : List Name) (pipe : Pipe) (told : ℕ) (ks : List ℕ) (name : Name)
    (t : Bool)
    → (carries (row_of n).pipes pipe && fits (row_of n).flags (row_of n).types told ks) ≡ t
    → (found ns pipe told ks ≡ Some name → IsRow name pipe told ks)
    → (if t then Some n else found ns pipe told ks) ≡ Some name → IsRow name pipe told ks
found_by n ns pipe told ks name true is more e =
    let h = both (carries (row_of n).pipes pipe)
    (fits (row_of n).flags (row_of n).types told ks) is in
    let f = fitting (row_of n).flags told (row_of n).types ks h.1 in
    subst (λ (x : Name). IsRow x pipe told ks) (some_same n name e)
    (record { carried = carried (row_of n).pipes pipe h.0; flags = f.0; types = f.1 })
found_by n ns pipe told ks name false is more e = more e

found_fits : (ns : List Name) (pipe : Pipe) (told : ℕ) (ks : List ℕ) (name : Name)
    → found ns pipe told ks ≡ Some name → IsRow name pipe told ks
found_fits [] pipe told ks name e = absurd cc
found_fits (n ∷ ns) pipe told ks name e =
    found_by n ns pipe told ks name _ refl (found_fits ns pipe told ks name) e

-- the search for the flags and types of a name, on a pipe that carries it
abbrev IsFound : Pipe → Name → Type 0
IsFound pipe name =
    (if carries (row_of name).pipes pipe
    then found names pipe (row_of name).flags (row_of name).types else Some name) ≡ Some name

-- it finds that name: the law over the table, computed once for each pipe and name
is_found : (pipe : Pipe) (name : Name) → IsFound pipe name
unfolding names fits
is_found CiU ConnA1 = refl
is_found CiU name = refl
is_found IsU ConnA1 = refl
is_found IsU name = refl
is_found IsD ConnA1 = refl
is_found IsD name = refl
is_found CoU ConnA1 = refl
is_found CoU name = refl
is_found CoD ConnA1 = refl
is_found CoD name = refl
is_found OsU ConnA1 = refl
is_found OsU name = refl
is_found OsD ConnA1 = refl
is_found OsD name = refl

on_pipe : {X : Type 0} (t : Bool) (x y z : X) → t ≡ true → (if t then x else y) ≡ z → x ≡ z
on_pipe true x y z carried e = e
on_pipe false x y z carried e = absurd cc

-- so it finds the one name of the flags and types
pub row_found : (name : Name) (pipe : Pipe) (told : ℕ) (ks : List ℕ) → IsRow name pipe told ks
    → found names pipe told ks ≡ Some name
row_found name pipe told ks is =
    ap (λ (flags : ℕ). found names pipe flags ks) (sym is.flags)
    ∙ ap (λ (types : List ℕ). found names pipe (row_of name).flags types) (sym is.types)
    ∙ on_pipe _ _ _ _ (carrying (row_of name).pipes pipe is.carried) (is_found pipe name)

pub one_row : (pipe : Pipe) (told : ℕ) (ks : List ℕ) (a b : Name) → IsRow a pipe told ks
    → IsRow b pipe told ks
    → a ≡ b
one_row pipe told ks a b x y =
    some_same a b (sym (row_found a pipe told ks x) ∙ row_found b pipe told ks y)

-- ---- the name of a packet

pub row_in : (p : Parts) (pipe : Pipe) (name : Name) → IsNamed p pipe name
    → IsRow name pipe p.flags (types_of (unpadded p.commands))
row_in p pipe name is = record { carried = is.carried; flags = is.flags; types = is.types }

-- a name is found
pub name_found : (p : Parts) (pipe : Pipe) (name : Name) → IsNamed p pipe name
    → name_on p pipe ≡ Some name
unfolding name_on
name_found p pipe name is =
    row_found name pipe p.flags (types_of (unpadded p.commands)) (row_in p pipe name is)

none_some : (name : Name) → None ≡ Some name → ⊥
none_some name e = absurd cc

-- the packet has the name that is found, or none
pub is_named : (p : Parts) (pipe : Pipe) (o : Option Name) → o ≡ name_on p pipe
    → MatchOption o (IsNameless p pipe) (λ name. IsNamed p pipe name)
unfolding name_on
is_named p pipe (Some name) is =
    let row = found_fits names pipe p.flags (types_of (unpadded p.commands)) name (sym is) in
    record { carried = row.carried; flags = row.flags; types = row.types }
is_named p pipe None is = λ name named. none_some name (is ∙ name_found p pipe name named)

none_by : (p : Parts) (pipe : Pipe) (o : Option Name)
    → MatchOption o (IsNameless p pipe) (λ name. IsNamed p pipe name) → IsNameless p pipe
    → o ≡ None
none_by p pipe None is never = refl
none_by p pipe (Some name) is never = absurd (never name is)

-- where no name fits, none is found
pub none_found : (p : Parts) (pipe : Pipe) → IsNameless p pipe → name_on p pipe ≡ None
none_found p pipe never = none_by p pipe (name_on p pipe) (is_named p pipe _ refl) never

-- a packet of more than seven commands has no name
pub too_many : (p : Parts) (pipe : Pipe) → 7 < length (unpadded p.commands)
    → name_on p pipe ≡ None
too_many p pipe more = none_found p pipe (λ name is.
    let same = ap length is.types in
    absurd (omega (
      arith,
      more,
      seven_types name,
      same,
      length-map (unpadded p.commands) kind_of,
    )))
