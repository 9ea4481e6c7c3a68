-- what is spelled so is read again
use Rattle.std.proofs.Common.{rules, ◌≡◌, ℕ, ◌+◌, ◌<◌, ◌≤◌, ◌^◌, List, ◌++◌, length, take, drop}
use Rattle.std.proofs.Common.{refl, sym, ap, subst, ◌∙◌, arith, append_assoc, nat_lt, false}
use Rattle.std.specs.Prelude.{Some, None}
use Rattle.std.proofs.lemmas.Bool.{le-ltb}
use Rattle.std.proofs.lemmas.List.{take_at, drop_at, drop-drop, length-append}
use Rattle.rh_rts.specs.declared.command.Address4or16.TheVariants.{V4, V6}
use Rattle.rh_rts.specs.declared.command.Command.{Command}
use Rattle.rh_rts.specs.declared.layout.Layout.{Layout}
use Rattle.rh_rts.specs.declared.layout.Layout.TheVariants as layouts
use Rattle.rh_rts.specs.Layouts.{Values, row, fixed_length}
use Rattle.rh_rts.specs.Commands.{le4, kind_of, by_fields, field_bytes, spelling, AreFields}
use Rattle.rh_rts.specs.Commands.{IsCommand}
use Rattle.rh_rts.specs.Refusals.{number_of, type_of, field_of, length_by, field_fault}
use Rattle.rh_rts.specs.Refusals.{layout_fault, command_fault}
use Rattle.rh_rts.specs.Listing.{cookie_at, address_by, address_len, address_at, values_at}
use Rattle.rh_rts.specs.Listing.{command_of, length_of}
use Rattle.rh_rts.proofs.Fields.{number_again}
use Rattle.rh_rts.proofs.Rows.{Makes, row_fits, has_row}

-- fields are read as they were spelled behind a type, nothing of them is wrong, and what stands
-- behind them is left
record Reads (at : ℕ) (layout : Layout) (v : Values layout) (b rest : List ℕ) : Type 0 where
  pub fault : layout_fault at b (Some layout) ≡ None
  pub values : values_at layout b ≡ v
  pub left : drop (length_by layout (field_of b)) b ≡ rest

-- nothing is wrong with a command that is all there
whole : (at n : ℕ) (layout : Layout) (b : List ℕ) → field_of b ≡ n → fixed_length layout ≤ length b
    → field_fault at layout n ≡ None → length_by layout n ≤ length b
    → layout_fault at b (Some layout) ≡ None
whole at n layout b f fixed fine long =
    let fine' : field_fault at layout (field_of b) ≡ None = rw f fine in
    let a0 : nat_lt (length b) (fixed_length layout) ≡ false = le-ltb _ _ fixed in
    let a1 : nat_lt (length b) (length_by layout (field_of b)) ≡ false = rw f (le-ltb _ _ long) in
    rw (a0, fine', a1) refl

counted_reads : (at k : ℕ) (bytes r : List ℕ) → length bytes ≤ 65535
    → Reads at layouts.Counted bytes (le4 k ++ ((le4 (length bytes) ++ bytes) ++ r)) r
counted_reads at k bytes r fits =
    let n = length bytes in
    let b = le4 k ++ (le4 n ++ (bytes ++ r)) in
    let long = length-append bytes r in
    let f : field_of b ≡ n = number_again n (omega (arith, fits)) in
    let fine : field_fault at layouts.Counted n ≡ None = rw (le-ltb _ _ fits) refl in
    record {
      fault = whole at n layouts.Counted b f (omega arith) fine (omega (arith, long));
      values = ap (λ (x : ℕ). take x (bytes ++ r)) f ∙ take_at bytes r n refl;
      left = ap (λ (x : ℕ). drop (8 + x) b) f ∙ sym (drop-drop n 8 b) ∙ drop_at bytes r n refl;
    }

-- bytes of an address of n bytes, and the padding behind it
record Behind (n : ℕ) (address padding rest b : List ℕ) : Type 0 where
  pub first : take n (drop 8 b) ≡ address
  pub second : take 12 (drop (8 + n) b) ≡ padding
  pub left : drop (8 + (n + 12)) b ≡ rest

behind : (n : ℕ) (address padding r b : List ℕ) → drop 8 b ≡ (address ++ padding) ++ r
    → length address ≡ n
    → length padding ≡ 12 → Behind n address padding r b
behind n address padding r b e size fits =
    let parts : drop 8 b ≡ address ++ (padding ++ r) = e ∙ append_assoc address padding r in
    let past : drop (8 + n) b ≡ padding ++ r =
    sym (drop-drop n 8 b) ∙ ap (λ (x : List ℕ). drop n x) parts
    ∙ drop_at address (padding ++ r) n size in
    record {
      first = ap (λ (x : List ℕ). take n x) parts ∙ take_at address (padding ++ r) n size;
      second = ap (λ (x : List ℕ). take 12 x) past ∙ take_at padding r 12 fits;
      left = ap (λ (m : ℕ). drop m b) (omega arith) ∙ sym (drop-drop 12 (8 + n) b)
          ∙ ap (λ (x : List ℕ). drop 12 x) past ∙ drop_at padding r 12 fits;
    }

address_reads : (at k f n : ℕ) (address padding r : List ℕ) → f ≤ 1 → address_len f ≡ n
    → length address ≡ n → length padding ≡ 12
    → Reads at layouts.Address (address_by f address, padding)
    (le4 k ++ (le4 f ++ ((address ++ padding) ++ r))) r
address_reads at k f n address padding r small is size fits =
    let b = le4 k ++ (le4 f ++ ((address ++ padding) ++ r)) in
    let h = behind n address padding r b refl size fits in
    let e : field_of b ≡ f = number_again f (omega (arith, small)) in
    let long = length-append (address ++ padding) r in
    let inner = length-append address padding in
    let fine : field_fault at layouts.Address f ≡ None = rw (le-ltb _ _ small) refl in
    let room : length_by layouts.Address f ≤ length b =
    omega (arith, is, long, inner, size, fits) in
    record {
      fault = whole at f layouts.Address b e (omega arith) fine room;
      values = ap (λ (x : ℕ). address_at x (address_len x) b) e
          ∙ ap (λ (x : ℕ). address_at f x b) is
          ∙ ap (λ (x : List ℕ). (address_by f x, take 12 (drop (8 + n) b))) h.first
          ∙ ap (λ (x : List ℕ). (address_by f address, x)) h.second;
      left = ap (λ (x : ℕ). drop (8 + (address_len x + 12)) b) e
          ∙ ap (λ (x : ℕ). drop (8 + (x + 12)) b) is ∙ h.left;
    }

reads : (at k : ℕ) (layout : Layout) (v : Values layout) (r : List ℕ) → AreFields layout v
    → Reads at layout v (le4 k ++ (field_bytes layout v ++ r)) r
reads at k layouts.Nothing v r fits =
    record {
      fault = whole at _ layouts.Nothing (le4 k ++ r) refl (omega arith) refl (omega arith);
      values = refl;
      left = refl;
    }
reads at k layouts.Number n r fits =
    record {
      fault = whole at _ layouts.Number (le4 k ++ (le4 n ++ r)) refl (omega arith) refl
          (omega arith);
      values = number_again n fits.0;
      left = refl;
    }
reads at k layouts.Destination n r fits =
    record {
      fault = whole at n layouts.Destination (le4 k ++ (le4 n ++ r)) (number_again n fits.0)
          (omega arith)
          (rw (le-ltb _ _ fits.1) refl) (omega arith);
      values = number_again n fits.0;
      left = refl;
    }
reads at k layouts.Cookie c r fits =
    let long = length-append c.0 r in
    let size = fits.0 in
    record {
      fault = whole at _ layouts.Cookie (le4 k ++ (c.0 ++ r)) refl (omega (arith, long, size)) refl
          (omega (arith, long, size));
      values = ap (λ (x : List ℕ). record { 0 = x }) (take_at c.0 r 16 size);
      left = drop_at c.0 r 16 size;
    }
reads at k layouts.Ack v r fits =
    let b = le4 k ++ (le4 v.0 ++ (le4 v.1 ++ (v.2.0 ++ r))) in
    let long = length-append v.2.0 r in
    let size = fits.0.2 in
    record {
      fault = whole at _ layouts.Ack b refl (omega (arith, long, size)) refl
          (omega (arith, long, size));
      values = ap (λ (n : ℕ). (n, number_of (drop 8 b), cookie_at 12 b)) (number_again v.0 fits.0.0)
          ∙ ap (λ (n : ℕ). (v.0, n, cookie_at 12 b)) (number_again v.1 fits.0.1)
          ∙ ap (λ (x : List ℕ). (v.0, v.1, record { 0 = x })) (take_at v.2.0 r 16 size);
      left = drop_at v.2.0 r 16 size;
    }
reads at k layouts.Counted bytes r fits = counted_reads at k bytes r fits.1
reads at k layouts.Address (V4 bytes, padding) r fits =
    address_reads at k 0 4 bytes padding r (omega arith) refl fits.0.0 fits.0.1
reads at k layouts.Address (V6 bytes, padding) r fits =
    address_reads at k 1 16 bytes padding r (omega arith) refl fits.0.0 fits.0.1

-- a command is read as it was spelled, and what stands behind it is left
pub record Again (at : ℕ) (c : Command) (b rest : List ℕ) : Type 0 where
  pub fault : command_fault at b ≡ None
  pub command : command_of b ≡ c
  pub left : drop (length_of b) b ≡ rest

kind_below : (c : Command) → kind_of c < 2 ^ 32
kind_below c = search rules

pub again : (at : ℕ) (c : Command) (r : List ℕ) → IsCommand c → Again at c (spelling c ++ r) r
unfolding spelling command_of command_fault
again at c r fits =
    let h = has_row c in
    let k = kind_of c in
    let makes : Makes k h.0 h.1 c =
    subst (λ (x : Command). Makes k h.0 h.1 x) h.4 (row_fits k (row h.0 h.2) h.3 h.1) in
    let b = le4 k ++ (by_fields field_bytes c ++ r) in
    let e : type_of b ≡ k = number_again k (kind_below c) in
    let four : nat_lt (length b) 4 ≡ false = le-ltb _ _ (omega arith) in
    let is : Reads at h.0 h.1 b r = rw makes.bytes (reads at k h.0 h.1 r (makes.fields fits)) in
    record {
      fault = rw (four, e, h.3) is.fault;
      command = rw (e, h.3) (ap h.2 is.values ∙ h.4);
      left = rw (e, h.3) is.left;
    }
