-- bytes are read in one way
use Rattle.std.proofs.Common.{◌≡◌, ℕ, ◌≤◌, List, [], ◌∷◌, ◌++◌, length, drop, refl, sym, ap, ◌∙◌}
use Rattle.std.proofs.Common.{arith, inl, inr}
use Rattle.std.specs.Prelude.{Some, None, Ok, Err}
use Rattle.std.specs.declared.result.Result.{Result}
use Rattle.std.proofs.lemmas.List.{length-append, append-nil, nil_from_length}
use Rattle.rh_rts.specs.declared.command.Command.{Command}
use Rattle.rh_rts.specs.declared.fault.RtsFault.{RtsFault}
use Rattle.rh_rts.specs.Commands.{spelling, spellings}
use Rattle.rh_rts.specs.Packets.{Parts, IsPacket, packet_bytes, packet_length}
use Rattle.rh_rts.specs.Refusals.{FirstFault, frag_of, count_of}
use Rattle.rh_rts.specs.Reading.{body_fault, first_fault, contents, read_packet}
use Rattle.rh_rts.specs.Judging.{Judged}
use Rattle.rh_rts.proofs.Bodies.{all_read, first_again}
use Rattle.rh_rts.proofs.Heads.{head_again, HeadAgain, frag_again, no_fault, fault_found}

-- a command has four bytes at least
at_least_four : (c : Command) → 4 ≤ length (spelling c)
unfolding spelling
at_least_four c = omega arith

-- there are no more commands than bytes
pub no_more_than_bytes : (cs : List Command) → length cs ≤ length (spellings cs)
no_more_than_bytes [] = omega arith
no_more_than_bytes (c ∷ cs) =
    omega (arith, at_least_four c, no_more_than_bytes cs, length-append (spelling c) (spellings cs))

pub head_of : (p : Parts) → IsPacket p
    → HeadAgain p.flags (length p.commands) (spellings p.commands) (packet_bytes p)
unfolding packet_bytes
head_of p is =
    head_again p.flags (length p.commands) (spellings p.commands) is.flags is.length
    (omega (arith, is.length, no_more_than_bytes p.commands))

-- ---- bytes are read as they were spelled, and the first fault is found

pub packet_read : (p : Parts) → IsPacket p → read_packet (packet_bytes p) ≡ Ok p
unfolding read_packet
packet_read p is =
    let h = head_of p is in
    let fine : first_fault (packet_bytes p) ≡ None =
    rw (no_fault (packet_bytes p) h.head, h.count, h.body)
    (all_read (length (packet_bytes p)) p.commands is.commands).fault in
    let all : contents (packet_bytes p) ≡ p =
    rw (h.flags, h.count, h.body)
    (ap (λ (cs : List Command). record { flags = p.flags; commands = cs })
    (all_read 0 p.commands is.commands).listed) in
    rw fine (ap (λ (q : Parts). Ok q) all)

pub fault_read : (b : List ℕ) (wrong : RtsFault) → FirstFault b wrong → read_packet b ≡ Err wrong
unfolding read_packet
fault_read b wrong (inl h) = rw (fault_found b wrong.place wrong.kind h) refl
fault_read b wrong (inr h) =
    let body : body_fault (length b) (count_of b) (drop 20 b) ≡ Some wrong =
    ap (body_fault (length b) (count_of b)) h.1.bytes
    ∙ first_again (length b) (count_of b) h.1.before h.1.rest wrong h.1.whole h.1.first in
    rw (no_fault b h.0, body) refl

-- a judgement is what is read
pub judged_so : (b : List ℕ) (r : Result Parts RtsFault) → Judged b r → r ≡ read_packet b
judged_so b (Ok p) h = sym (ap read_packet h.1 ∙ packet_read p h.0)
judged_so b (Err wrong) h = sym (fault_read b wrong h)

-- ---- so they are read in one way

pub one_packet : (a b : Parts) → IsPacket a → IsPacket b → packet_bytes a ≡ packet_bytes b → a ≡ b
one_packet a b p q same =
    let e : Ok a ≡ Ok b = sym (packet_read a p) ∙ ap read_packet same ∙ packet_read b q in cc

pub one_fault : (b : List ℕ) (x y : RtsFault) → FirstFault b x → FirstFault b y → x ≡ y
one_fault b x y p q = let e : Err x ≡ Err y = sym (fault_read b x p) ∙ fault_read b y q in cc

pub never_both : (p : Parts) (x : RtsFault) → IsPacket p → FirstFault (packet_bytes p) x → ⊥
never_both p x is h =
    let e : Ok p ≡ Err x = sym (packet_read p is) ∙ fault_read (packet_bytes p) x h in cc

-- ---- the length of a packet stands in its header

bytes_of : (p : Parts) → length (packet_bytes p) ≡ packet_length p
unfolding packet_bytes
bytes_of p = omega arith

-- the bytes of a packet are as many as its frag_length says
pub sized : (b : List ℕ) (p : Parts) → b ≡ packet_bytes p → length b ≡ packet_length p
sized b p is = ap (λ (x : List ℕ). length x) is ∙ bytes_of p

pub own_length : (p : Parts) (rest : List ℕ) → IsPacket p
    → frag_of (packet_bytes p ++ rest) ≡ length (packet_bytes p)
unfolding packet_bytes
own_length p rest is =
    frag_again (packet_length p) p.flags (length p.commands) (spellings p.commands ++ rest)
    (omega (arith, is.length)) ∙ sym (bytes_of p)

pub no_longer : (a b : Parts) (rest : List ℕ) → IsPacket a → IsPacket b
    → packet_bytes a ++ rest ≡ packet_bytes b
    → rest ≡ []
no_longer a b rest p q same =
    let other : frag_of (packet_bytes b) ≡ length (packet_bytes b) =
    ap frag_of (sym (append-nil (packet_bytes b))) ∙ own_length b [] q in
    let lengths : length (packet_bytes a) ≡ length (packet_bytes b) =
    sym (own_length a rest p) ∙ ap frag_of same ∙ other in
    nil_from_length rest (omega (
      arith,
      lengths,
      length-append (packet_bytes a) rest,
      ap (λ (x : List ℕ). length x) same,
    ))
