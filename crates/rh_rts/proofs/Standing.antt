-- the bytes of a command that is not at fault are its spelling, and what stands behind it
use Rattle.std.proofs.Common.{◌≡◌, ℕ, zero, suc, ◌+◌, ◌≤◌, List, ◌++◌, length, take, drop, refl}
use Rattle.std.proofs.Common.{sym, ap, ◌∙◌, arith, append_assoc, nat_lt, false}
use Rattle.std.specs.Prelude.{Some, None}
use Rattle.std.specs.declared.option.Option.{Option}
use Rattle.std.proofs.lemmas.Bool.{ltb-false}
use Rattle.std.proofs.lemmas.List.{drop-drop, length-drop, length-take-le}
use Rattle.rh_rts.specs.declared.command.Command.{Command}
use Rattle.rh_rts.specs.declared.fault.RtsFault.{RtsFault}
use Rattle.rh_rts.specs.declared.layout.Layout.{Layout}
use Rattle.rh_rts.specs.declared.layout.Layout.TheVariants as layouts
use Rattle.rh_rts.specs.Layouts.{Values, Row, row_of, layout_in, fixed_length}
use Rattle.rh_rts.specs.Commands.{le4, by_fields, field_bytes, spelling, address_bytes, IsAddress}
use Rattle.rh_rts.specs.Commands.{AreFields, IsCommand, IsBytes}
use Rattle.rh_rts.specs.Refusals.{number_of, type_of, field_of, length_by, field_fault, end_fault}
use Rattle.rh_rts.specs.Refusals.{layout_fault, command_fault}
use Rattle.rh_rts.specs.Listing.{address_by, address_len, address_at, values_at, command_by}
use Rattle.rh_rts.specs.Listing.{command_of, length_in, length_of}
use Rattle.rh_rts.proofs.Passing.{passed}
use Rattle.rh_rts.proofs.Fields.{IsBytes-drop, front, number_front, number_below, two_front}
use Rattle.rh_rts.proofs.Rows.{Fits, row_fits}

-- ---- what is known where nothing is wrong

record Fine (at : ℕ) (layout : Layout) (b : List ℕ) : Type 0 where
  pub fixed : fixed_length layout ≤ length b
  pub field : field_fault at layout (field_of b) ≡ None
  pub whole : length_by layout (field_of b) ≤ length b

passed_end : (at : ℕ) (layout : Layout) (b : List ℕ) (o : Option RtsFault)
    → end_fault at layout b o ≡ None
    → (o ≡ None) × (nat_lt (length b) (length_by layout (field_of b)) ≡ false)
passed_end at layout b (Some wrong) e = absurd cc
passed_end at layout b None e = (refl, (passed _ _ _ e).0)

fine : (at : ℕ) (layout : Layout) (b : List ℕ) → layout_fault at b (Some layout) ≡ None
    → Fine at layout b
fine at layout b e =
    let p = passed _ _ _ e in
    let q = passed_end at layout b _ p.1 in
    record { fixed = ltb-false _ _ p.0; field = q.0; whole = ltb-false _ _ q.1 }

-- ---- the layouts

-- a type and fields of this layout stand in front
abbrev Shown : ℕ → (layout : Layout) → Values layout → List ℕ → List ℕ → Type 0
Shown k layout v rest b = AreFields layout v × (b ≡ le4 k ++ (field_bytes layout v ++ rest))

cookie_front : (k : ℕ) (b : List ℕ) → IsBytes b → type_of b ≡ k → 20 ≤ length b
    → b ≡ le4 k ++ (take 16 (drop 4 b) ++ drop 20 b)
cookie_front k b fits e long =
    number_front b fits (omega arith)
    ∙ ap (λ (n : ℕ). le4 n ++ drop 4 b) e
    ∙ ap (λ (x : List ℕ). le4 k ++ x)
    (front 16 (drop 4 b) ∙ ap (λ (x : List ℕ). take 16 (drop 4 b) ++ x) (drop-drop 16 4 b))

ack_shown : (k : ℕ) (b : List ℕ) → IsBytes b → type_of b ≡ k → 28 ≤ length b
    → Shown k layouts.Ack (values_at layouts.Ack b) (drop 28 b) b
ack_shown k b fits e long =
    let window = number_front (drop 8 b) (IsBytes-drop 8 b fits)
    (omega (arith, long, length-drop 8 b))
    ∙ ap (λ (x : List ℕ). le4 (number_of (drop 8 b)) ++ x) (drop-drop 4 8 b) in
    let cookie = front 16 (drop 12 b)
    ∙ ap (λ (x : List ℕ). take 16 (drop 12 b) ++ x) (drop-drop 16 12 b) in (
      (
        (
          number_below (drop 4 b) (IsBytes-drop 4 b fits),
          number_below (drop 8 b) (IsBytes-drop 8 b fits),
          length-take-le 16 (drop 12 b) (omega (arith, long, length-drop 12 b)),
        ),
        tt,
      ),
      two_front k b fits e (omega (arith, long))
          ∙ ap (λ (x : List ℕ). le4 k ++ (le4 (field_of b) ++ x))
          (window ∙ ap (λ (x : List ℕ). le4 (number_of (drop 8 b)) ++ x) cookie),
    )

counted_shown : (k n : ℕ) (b : List ℕ) → IsBytes b → type_of b ≡ k → field_of b ≡ n → n ≤ 65535
    → 8 + n ≤ length b
    → Shown k layouts.Counted (take n (drop 8 b)) (drop (8 + n) b) b
counted_shown k n b fits e f few long =
    let bytes = take n (drop 8 b) in
    let size : length bytes ≡ n =
    length-take-le n (drop 8 b) (omega (arith, long, length-drop 8 b)) in (
      (tt, omega (arith, size, few)),
      two_front k b fits e (omega (arith, long))
          ∙ ap (λ (m : ℕ). le4 k ++ (le4 m ++ drop 8 b)) (f ∙ sym size)
          ∙ ap (λ (x : List ℕ). le4 k ++ (le4 (length bytes) ++ x))
          (front n (drop 8 b) ∙ ap (λ (x : List ℕ). bytes ++ x) (drop-drop n 8 b)),
    )

-- an address of n bytes
address_shown : (k f n : ℕ) (b : List ℕ) → IsBytes b → type_of b ≡ k → field_of b ≡ f
    → 8 + (n + 12) ≤ length b
    → ((x : List ℕ) → length x ≡ n → IsAddress (address_by f x))
    → ((x : List ℕ) → address_bytes (address_by f x) ≡ le4 f ++ x)
    → Shown k layouts.Address (address_at f n b) (drop (8 + (n + 12)) b) b
address_shown k f n b fits e is long sized spelled =
    let address = take n (drop 8 b) in
    let padding = take 12 (drop (8 + n) b) in
    let rest = drop (8 + (n + 12)) b in
    let behind : drop (8 + n) b ≡ padding ++ rest =
    front 12 (drop (8 + n) b) ∙ ap (λ (x : List ℕ). padding ++ x)
    (drop-drop 12 (8 + n) b ∙ ap (λ (m : ℕ). drop m b) (omega arith)) in (
      (
        (
          sized address (length-take-le n (drop 8 b) (omega (arith, long, length-drop 8 b))),
          length-take-le 12 (drop (8 + n) b) (omega (arith, long, length-drop (8 + n) b)),
        ),
        tt,
      ),
      two_front k b fits e (omega (arith, long))
          ∙ ap (λ (m : ℕ). le4 k ++ (le4 m ++ drop 8 b)) is
          ∙ ap (λ (x : List ℕ). le4 k ++ (le4 f ++ x))
          (front n (drop 8 b) ∙ ap (λ (x : List ℕ). address ++ x) (drop-drop n 8 b ∙ behind)
          ∙ sym (append_assoc address padding rest))
          ∙ ap (λ (x : List ℕ). le4 k ++ ((x ++ padding) ++ rest)) (sym (spelled address)),
    )

abbrev IsAddressOf : ℕ → List ℕ → ℕ → Type 0
IsAddressOf k b f =
    length_by layouts.Address f ≤ length b
    → Shown k layouts.Address (address_at f (address_len f) b)
    (drop (length_by layouts.Address f) b) b

-- the two types of addresses
either_address : (k f : ℕ) (b : List ℕ) → IsBytes b → type_of b ≡ k → field_of b ≡ f → f ≤ 1
    → IsAddressOf k b f
either_address k zero b fits e is small long =
    address_shown k 0 4 b fits e is long (λ x size. size) (λ x. refl)
either_address k (suc zero) b fits e is small long =
    address_shown k 1 16 b fits e is long (λ x size. size) (λ x. refl)
either_address k (suc (suc f)) b fits e is small long = absurd (omega (arith, small))

by_layout : (at k : ℕ) (layout : Layout) (b : List ℕ) → IsBytes b → type_of b ≡ k → 4 ≤ length b
    → Fine at layout b
    → Shown k layout (values_at layout b) (drop (length_by layout (field_of b)) b) b
by_layout at k layouts.Nothing b fits e four h =
    ((tt, tt), number_front b fits four ∙ ap (λ (n : ℕ). le4 n ++ drop 4 b) e)
by_layout at k layouts.Number b fits e four h =
    ((number_below (drop 4 b) (IsBytes-drop 4 b fits), tt), two_front k b fits e h.fixed)
by_layout at k layouts.Destination b fits e four h = (
  (number_below (drop 4 b) (IsBytes-drop 4 b fits), ltb-false _ _ (passed _ _ _ h.field).0),
  two_front k b fits e h.fixed,
)
by_layout at k layouts.Cookie b fits e four h = (
  (length-take-le 16 (drop 4 b) (omega (arith, h.fixed, length-drop 4 b)), tt),
  cookie_front k b fits e h.fixed,
)
by_layout at k layouts.Ack b fits e four h = ack_shown k b fits e h.fixed
by_layout at k layouts.Counted b fits e four h =
    counted_shown k (field_of b) b fits e refl (ltb-false _ _ (passed _ _ _ h.field).0) h.whole
by_layout at k layouts.Address b fits e four h =
    either_address k (field_of b) b fits e refl (ltb-false _ _ (passed _ _ _ h.field).0) h.whole

-- ---- the command

-- the command in front is one, and its bytes stand there
pub record Stands (c : Command) (rest b : List ℕ) : Type 0 where
  pub is_command : IsCommand c
  pub bytes : b ≡ spelling c ++ rest

by_row : (at k : ℕ) (r : Row) (b : List ℕ) → IsBytes b → type_of b ≡ k → Fits k r → 4 ≤ length b
    → Fine at r.layout b
    → Stands (r.command (values_at r.layout b)) (drop (length_by r.layout (field_of b)) b) b
unfolding spelling
by_row at k r b fits e makes four h =
    let is = makes (values_at r.layout b) in
    let rest = drop (length_by r.layout (field_of b)) b in
    let shown = by_layout at k r.layout b fits e four h in
    record {
      is_command = is.sound shown.0;
      bytes = shown.1
          ∙ ap (λ (x : List ℕ). le4 k ++ (x ++ rest)) (sym is.bytes)
          ∙ ap (λ (n : ℕ). le4 n ++
          (by_fields field_bytes (r.command (values_at r.layout b)) ++ rest)) (sym is.kind);
    }

by_some : (at : ℕ) (b : List ℕ) (o : Option Row) → IsBytes b → row_of (type_of b) ≡ o → 4 ≤ length b
    → layout_fault at b (layout_in o) ≡ None
    → Stands (command_by o b) (drop (length_in (layout_in o) b) b) b
by_some at b None fits e four fault = absurd cc
by_some at b (Some r) fits e four fault =
    by_row at (type_of b) r b fits refl (row_fits (type_of b) r e) four (fine at r.layout b fault)

-- where nothing is wrong with the command in front, it stands there
pub stands : (at : ℕ) (b : List ℕ) → IsBytes b → command_fault at b ≡ None
    → Stands (command_of b) (drop (length_of b) b) b
unfolding command_fault command_of
stands at b fits e =
    let p = passed _ _ _ e in by_some at b (row_of (type_of b)) fits refl (ltb-false _ _ p.0) p.1
