-- the commands of a packet: whole, or behind some whole ones the first that is wrong
use Rattle.std.proofs.Common.{◌≡◌, ℕ, zero, suc, ◌-◌, List, [], ◌∷◌, ◌++◌, length, drop, refl, sym}
use Rattle.std.proofs.Common.{ap, subst, ◌∙◌, arith, append_assoc, true, false, Bool, inl, inr}
use Rattle.std.specs.Prelude.{Some, None, ◌==◌, if◌then◌else◌}
use Rattle.std.specs.declared.option.Option.{Option}
use Rattle.std.proofs.lemmas.Bool.{eqb-true, ne_eqb}
use Rattle.std.proofs.lemmas.List.{nil_from_length}
use Rattle.rh_rts.specs.declared.command.Command.{Command}
use Rattle.rh_rts.specs.declared.fault.RtsFault.{RtsFault}
use Rattle.rh_rts.specs.declared.fault.RtsKind.TheVariants.{Left}
use Rattle.rh_rts.specs.Commands.{spelling, spellings, AreCommands, IsBytes}
use Rattle.rh_rts.specs.Refusals.{fault, command_fault, RestFault, BodyFault}
use Rattle.rh_rts.specs.Listing.{command_of, length_of, listed, AreAll}
use Rattle.rh_rts.specs.Reading.{or_else, body_fault}
use Rattle.rh_rts.proofs.Fields.{IsBytes-drop}
use Rattle.rh_rts.proofs.Standing.{stands}
use Rattle.rh_rts.proofs.Reread.{again}

-- neither of the two is there
neither : (a b : Option RtsFault) → or_else a b ≡ None → (a ≡ None) × (b ≡ None)
neither None b e = (refl, e)
neither (Some wrong) b e = absurd cc

-- a command is as whole elsewhere
anywhere : (at : ℕ) (b : List ℕ) → IsBytes b → command_fault at b ≡ None → command_fault 0 b ≡ None
anywhere at b fits e =
    let st = stands at b fits e in
    let there : command_fault 0 (spelling (command_of b) ++ drop (length_of b) b) ≡ None =
    (again 0 (command_of b) (drop (length_of b) b) st.is_command).fault in
    subst (λ (x : List ℕ). command_fault 0 x ≡ None) (sym st.bytes) there

some_none : (w : RtsFault) → Some w ≡ None → ⊥
some_none w e = absurd cc

-- a test before which nothing is wrong
ended : (t : Bool) (wrong : Option RtsFault) → (w : RtsFault) → wrong ≡ Some w
    → (if t then None else wrong) ≡ None → t ≡ true
ended true wrong w is e = refl
ended false wrong w is e = absurd (some_none w (sym is ∙ e))

pub all_listed : (total n : ℕ) (b : List ℕ) → IsBytes b → body_fault total n b ≡ None
    → AreAll n (listed n b) b
all_listed total zero b fits e = record {
  bytes = nil_from_length b
      (eqb-true _ _ (ended (length b == 0) (fault (total - length b) Left) _ refl e));
  commands = tt;
  count = refl;
}
all_listed total (suc n) b fits e =
    let both = neither _ _ e in
    let st = stands (total - length b) b fits both.0 in
    let rest = drop (length_of b) b in
    let more = all_listed total n rest (IsBytes-drop (length_of b) b fits) both.1 in
    rw (anywhere (total - length b) b fits both.0) (record {
      bytes = st.bytes ∙ ap (λ (x : List ℕ). spelling (command_of b) ++ x) more.bytes;
      commands = (st.is_command, more.commands);
      count = ap suc more.count;
    })

-- behind whole commands, one more stands in front
more_whole : (c : Command) (whole n at : ℕ) (rest : List ℕ) (wrong : RtsFault)
    → RestFault whole n at rest wrong
    → RestFault (suc whole) (suc n) at rest wrong
more_whole c whole n at rest wrong (inl h) = inl (omega (arith, h.0), h.1)
more_whole c whole n at rest wrong (inr h) = inr (ap suc h.0, h.1, h.2)

not_zero : (n : ℕ) → (suc n == 0) ≡ false
not_zero n = ne_eqb (suc n) 0 (λ e. absurd (omega (arith, e)))

-- bytes that are left are told
left_is : (total x : ℕ) (xs : List ℕ)
    → body_fault total zero (x ∷ xs) ≡ fault (total - length (x ∷ xs)) Left
left_is total x xs = rw (not_zero (length xs)) refl

-- the first that is wrong is found so
left_over : (total : ℕ) (b : List ℕ) (wrong : RtsFault) → body_fault total zero b ≡ Some wrong
    → BodyFault total 0 b wrong
left_over total [] wrong e = absurd cc
left_over total (x ∷ xs) wrong e =
    record {
      before = [];
      rest = x ∷ xs;
      bytes = refl;
      whole = tt;
      first =
          inr (refl, (λ h. absurd cc), sym (left_is total x xs) ∙ e);
    }

found_at : (total n : ℕ) (b : List ℕ) (wrong : RtsFault) (o : Option RtsFault) → IsBytes b
    → command_fault (total - length b) b ≡ o
    → (IsBytes (drop (length_of b) b) → body_fault total n (drop (length_of b) b) ≡ Some wrong
    → BodyFault total n (drop (length_of b) b) wrong)
    → or_else o (body_fault total n (drop (length_of b) b)) ≡ Some wrong
    → BodyFault total (suc n) b wrong
found_at total n b wrong (Some w) fits is later e =
    record { before = []; rest = b; bytes = refl; whole = tt; first = inl (omega arith, is ∙ e) }
found_at total n b wrong None fits is later e =
    let st = stands (total - length b) b fits is in
    let more = later (IsBytes-drop (length_of b) b fits) e in
    record {
      before = command_of b ∷ more.before;
      rest = more.rest;
      bytes = st.bytes ∙ ap (λ (x : List ℕ). spelling (command_of b) ++ x) more.bytes
          ∙ sym (append_assoc (spelling (command_of b)) (spellings more.before) more.rest);
      whole = (st.is_command, more.whole);
      first = more_whole (command_of b) (length more.before) n
          (total - length more.rest) more.rest wrong more.first;
    }

pub first_found : (total n : ℕ) (b : List ℕ) (wrong : RtsFault) → IsBytes b
    → body_fault total n b ≡ Some wrong
    → BodyFault total n b wrong
first_found total zero b wrong fits e = left_over total b wrong e
first_found total (suc n) b wrong fits e =
    found_at total n b wrong (command_fault (total - length b) b) fits refl
    (first_found total n (drop (length_of b) b) wrong) e

-- whole commands are read as they were spelled
pub record AreRead (total : ℕ) (cs : List Command) : Type 0 where
  pub fault : body_fault total (length cs) (spellings cs) ≡ None
  pub listed : listed (length cs) (spellings cs) ≡ cs

pub all_read : (total : ℕ) (cs : List Command) → AreCommands cs → AreRead total cs
all_read total [] fits = record { fault = refl; listed = refl }
all_read total (c ∷ cs) fits =
    let b = spelling c ++ spellings cs in
    let one = again (total - length b) c (spellings cs) fits.0 in
    let zero = again 0 c (spellings cs) fits.0 in
    let more = all_read total cs fits.1 in
    record {
      fault = rw (one.fault, one.left) more.fault;
      listed = rw (zero.fault, zero.command, zero.left)
          (ap (λ (xs : List Command). c ∷ xs) more.listed);
    }

less_whole : (whole n at : ℕ) (rest : List ℕ) (wrong : RtsFault)
    → RestFault (suc whole) (suc n) at rest wrong
    → RestFault whole n at rest wrong
less_whole whole n at rest wrong (inl h) = inl (omega (arith, h.0), h.1)
less_whole whole n at rest wrong (inr h) = inr (omega (arith, h.0), h.1, h.2)

-- the first that is wrong is found behind whole ones
pub first_again : (total n : ℕ) (before : List Command) (rest : List ℕ) (wrong : RtsFault)
    → AreCommands before
    → RestFault (length before) n (total - length rest) rest wrong
    → body_fault total n (spellings before ++ rest) ≡ Some wrong
first_again total zero [] rest wrong fits (inl h) = absurd (omega (arith, h.0))
first_again total zero [] [] wrong fits (inr h) = absurd (h.1 refl)
first_again total zero [] (x ∷ xs) wrong fits (inr h) = left_is total x xs ∙ h.2
first_again total (suc n) [] rest wrong fits (inl h) = rw h.1 refl
first_again total (suc n) [] rest wrong fits (inr h) = absurd (omega (arith, h.0))
first_again total zero (c ∷ cs) rest wrong fits (inl h) = absurd (omega (arith, h.0))
first_again total zero (c ∷ cs) rest wrong fits (inr h) = absurd (omega (arith, h.0))
first_again total (suc n) (c ∷ cs) rest wrong fits h =
    let b = spelling c ++ (spellings cs ++ rest) in
    let one = again (total - length b) c (spellings cs ++ rest) fits.0 in
    let more = first_again total n cs rest wrong fits.1
    (less_whole (length cs) n (total - length rest) rest wrong h) in
    let found : body_fault total (suc n) b ≡ Some wrong = rw (one.fault, one.left) more in
    subst (λ (x : List ℕ). body_fault total (suc n) x ≡ Some wrong)
    (sym (append_assoc (spelling c) (spellings cs) rest)) found
