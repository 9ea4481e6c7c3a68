-- what order sees of roles, in the frames on their pipes
use Rattle.law_order.proofs.Vocabulary.{◌≡◌, ℕ, arith, zero, suc, List, [], ◌∷◌, refl, Item, has_handover}
use Rattle.law_order.specs.Items as items
use Rattle.std.specs.List.{Contains}
use Rattle.rh_sig.specs.declared.name.Pipe.{Pipe}
use Rattle.rh_sig.specs.declared.name.Pipe.TheVariants.{CiU, CoD, IsU, OsD}
use Rattle.rh_sig.specs.declared.named.Named.{Named}
use Rattle.rh_sig.specs.declared.named.Named.TheVariants as named
use Rattle.rh_sig.specs.Values.{name_of_named}
use Rattle.rh_shell.specs.Rules.{Message, Text, Pdu, Packet}
use Rattle.rh_audit.specs.Packets.{marks}
use Rattle.law_moves.specs.Legible.Legible.{MayGo}
use Rattle.law_role_client.specs.Order.{down_items, up_items}
use Rattle.law_role_inproxy.specs.Order.{item_came, item_put}
use Rattle.law_role_outproxy.specs.Order.{from_server, to_client}
use Rattle.law_role_server.specs.Order.{in_items, out_items}
use Rattle.law_audit.specs.Carrying.Items.{Fits}

-- a row of one pipe
one_pipe : (pipe other : Pipe) → Contains (other ∷ []) pipe → other ≡ pipe
one_pipe pipe other (zero, bound, is) = is
one_pipe pipe other (suc k, bound, is) = absurd (omega (arith, bound))

-- a packet is no RPC PDU, and the handover mark where it is one
abbrev Sees : (Message → List Item) → Named → Type 0
Sees view n =
    (items.pdus (view (Packet n)) ≡ []) × (has_handover (view (Packet n)) ≡ marks (name_of_named n))

-- so it is for two views of one pipe
abbrev Both : (Message → List Item) → (Message → List Item) → Named → Type 0
Both put came n = Sees put n × Sees came n

on_ci : (n : Named) → MayGo CiU n → Both up_items item_came n
on_ci (named.InR1A6 successor) may = absurd (let e = one_pipe CiU IsU may.carried in cc)
on_ci named.OutR1A9 may = absurd (let e = one_pipe CiU OsD may.carried in cc)
on_ci named.OutR1A10 may = absurd (let e = one_pipe CiU CoD may.carried in cc)
on_ci n may = ((refl, refl), (refl, refl))

on_is : (n : Named) → MayGo IsU n → Both item_put in_items n
on_is (named.InR1A5 successor) may = absurd (let e = one_pipe IsU CiU may.carried in cc)
on_is named.OutR1A9 may = absurd (let e = one_pipe IsU OsD may.carried in cc)
on_is named.OutR1A10 may = absurd (let e = one_pipe IsU CoD may.carried in cc)
on_is n may = ((refl, refl), (refl, refl))

on_os : (n : Named) → MayGo OsD n → Both out_items from_server n
on_os (named.InR1A5 successor) may = absurd (let e = one_pipe OsD CiU may.carried in cc)
on_os (named.InR1A6 successor) may = absurd (let e = one_pipe OsD IsU may.carried in cc)
on_os named.OutR1A10 may = absurd (let e = one_pipe OsD CoD may.carried in cc)
on_os n may = ((refl, refl), (refl, refl))

on_co : (n : Named) → MayGo CoD n → Both to_client down_items n
on_co (named.InR1A5 successor) may = absurd (let e = one_pipe CoD CiU may.carried in cc)
on_co (named.InR1A6 successor) may = absurd (let e = one_pipe CoD IsU may.carried in cc)
on_co named.OutR1A9 may = absurd (let e = one_pipe CoD OsD may.carried in cc)
on_co n may = ((refl, refl), (refl, refl))

-- ---- the views

fits_of : (pipe : Pipe) (view : Message → List Item)
    → ((bytes : List ℕ) → view (Text bytes) ≡ [])
    → ((pdu : List ℕ) → view (Pdu pdu) ≡ items.Piece pdu ∷ [])
    → ((n : Named) → MayGo pipe n → Sees view n) → Fits pipe view
fits_of pipe view text pdu sees = record {
  text = text;
  pdu = pdu;
  none = λ n may. (sees n may).0;
  mark = λ n may. (sees n may).1;
}

pub ci_put : Fits CiU up_items
ci_put = fits_of CiU up_items (λ bytes. refl) (λ pdu. refl) (λ n may. (on_ci n may).0)

pub ci_came : Fits CiU item_came
ci_came = fits_of CiU item_came (λ bytes. refl) (λ pdu. refl) (λ n may. (on_ci n may).1)

pub is_put : Fits IsU item_put
is_put = fits_of IsU item_put (λ bytes. refl) (λ pdu. refl) (λ n may. (on_is n may).0)

pub is_came : Fits IsU in_items
is_came = fits_of IsU in_items (λ bytes. refl) (λ pdu. refl) (λ n may. (on_is n may).1)

pub os_put : Fits OsD out_items
os_put = fits_of OsD out_items (λ bytes. refl) (λ pdu. refl) (λ n may. (on_os n may).0)

pub os_came : Fits OsD from_server
os_came = fits_of OsD from_server (λ bytes. refl) (λ pdu. refl) (λ n may. (on_os n may).1)

pub co_put : Fits CoD to_client
co_put = fits_of CoD to_client (λ bytes. refl) (λ pdu. refl) (λ n may. (on_co n may).0)

pub co_came : Fits CoD down_items
co_came = fits_of CoD down_items (λ bytes. refl) (λ pdu. refl) (λ n may. (on_co n may).1)
