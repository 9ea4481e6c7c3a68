-- addresses of a text, by its first comma
use Rattle.std.proofs.Common.{◌≡◌, ◌≢◌, ℕ, zero, suc, ◌+◌, ◌<◌, ◌≤◌, true, false, List, [], ◌∷◌, ◌++◌, length, get_or, refl, sym, ap, ◌∙◌, subst, arith}
use Rattle.std.specs.Prelude.{◌==◌}
use Rattle.std.specs.Fmt.{decimal}
use Rattle.std.specs.List.{before_first, list_all}
use Rattle.std.proofs.lemmas.List.{append_cancel_left, get_or_at, length-append}
use Rattle.std.proofs.lemmas.List.Folds.{list_all_at}
use Rattle.rh_http.specs.Hosts.{IsHost, is_host_byte}
use Rattle.rh_http.specs.Numbers.{IsPortText}
use Rattle.rh_http.specs.Requests.{host_text}
use Rattle.rh_http.proofs.NumberLemmas.{each_digit}
use Rattle.rh_http.proofs.Splits.{before_front}
use Rattle.rh_http.proofs.Written.{decimal_length}
use Rattle.rh_role_words.specs.declared.addresses.HostPort.{HostPort}
use Rattle.rh_role_words.specs.Forms.{AreJoined, AreNoHostPorts, AreNotJoined, IsHostPort}

-- ---- no comma stands in an address

abbrev Lacks : ℕ → List ℕ → Type 0
Lacks byte text = (k : ℕ) → k < length text → get_or text k 0 ≢ byte

lacks-append : (byte : ℕ) (xs ys : List ℕ) → Lacks byte xs → Lacks byte ys → (k : ℕ)
    → k < length (xs ++ ys) → get_or (xs ++ ys) k 0 ≢ byte
lacks-append byte [] ys front behind k below = behind k below
lacks-append byte (x ∷ xs) ys front behind zero below = front zero (omega arith)
lacks-append byte (x ∷ xs) ys front behind (suc k) below =
    lacks-append byte xs ys (λ j less. front (suc j) (omega (arith, less))) behind k
    (omega (arith, below))

lacks-cons : (byte x : ℕ) (xs : List ℕ) → x ≢ byte → Lacks byte xs → (k : ℕ)
    → k < length (x ∷ xs) → get_or (x ∷ xs) k 0 ≢ byte
lacks-cons byte x xs other lacks zero below = other
lacks-cons byte x xs other lacks (suc k) below = lacks k (omega (arith, below))

in_host : (host : List ℕ) → IsHost host → (k : ℕ) → k < length host → get_or host k 0 ≢ 44
in_host host h k below e =
    let comma : is_host_byte (get_or host k 0) ≡ false = ap is_host_byte e in
    let wrong : list_all is_host_byte host
    ≡ false = list_all_at is_host_byte host k 0 below comma in
    let right : list_all is_host_byte host ≡ true = h.characters in
    absurd (cc)

in_port : (digits : List ℕ) (port : ℕ) → IsPortText digits port → Lacks 44 digits
in_port digits port h =
    subst (Lacks 44) (sym h.digits) (λ k below e.
    let whole = decimal_length port (omega (arith, h.most)) in
    let digit = each_digit (decimal port) port k whole.0 below in
    omega (arith, digit.0, e))

in_address : (text : List ℕ) (address : HostPort) → IsHostPort text address → Lacks 44 text
in_address text address h =
    subst (Lacks 44) (sym h.joined)
    (lacks-append 44 (host_text address.host) (58 ∷ h.digits) (in_host _ h.is_host)
    (lacks-cons 44 58 h.digits (λ e. omega (arith, e)) (in_port h.digits address.port h.is_port)))

-- ---- what stands before the first comma, and behind it

before_comma : (text front behind : List ℕ) (one : HostPort) → text ≡ front ++ 44 ∷ behind
    → IsHostPort front one → before_first (λ c. c == 44) text ≡ front
before_comma text front behind one divided is =
    ap (λ (x : List ℕ). before_first (λ c. c == 44) x) divided
    ∙ before_front 44 front behind (in_address front one is)

same_behind : (front behind other : List ℕ) → front ++ 44 ∷ behind ≡ front ++ 44 ∷ other
    → behind ≡ other
same_behind front behind other same =
    let tails : 44 ∷ behind
    ≡ 44 ∷ other = append_cancel_left front (44 ∷ behind) (44 ∷ other) same in cc

-- the first address and the others
pub record IsCut (front behind : List ℕ) (all : List HostPort) : Type 0 where
  pub one : HostPort
  pub more : List HostPort
  pub are : all ≡ one ∷ more
  pub first : IsHostPort front one
  pub joined : AreJoined behind more

pub joined_cut : (text front behind : List ℕ) (all : List HostPort)
    → before_first (λ c. c == 44) text ≡ front → text ≡ front ++ 44 ∷ behind
    → AreJoined text all → IsCut front behind all
joined_cut text front behind [] before divided joined = absurd joined
joined_cut text front behind (one ∷ []) before divided joined =
    let here : get_or text (length front) 0 ≡ 44 =
    ap (λ (x : List ℕ). get_or x (length front) 0) divided
    ∙ get_or_at front 44 behind 0 (length front) refl in
    let many = ap length divided ∙ length-append front (44 ∷ behind) in
    absurd (in_address text one joined (length front) (omega (arith, many)) here)
joined_cut text front behind (one ∷ other ∷ more) before divided joined =
    let mine = joined.0 in
    let rest = joined.1 in
    let same : front ≡ mine = sym before ∙ before_comma text mine rest one joined.2 joined.3 in
    let tail : behind ≡ rest = same_behind front behind rest
    (sym divided ∙ joined.2 ∙ ap (λ (x : List ℕ). x ++ 44 ∷ rest) (sym same)) in
    record {
      one = one;
      more = other ∷ more;
      are = refl;
      first = subst (λ (x : List ℕ). IsHostPort x one) (sym same) joined.3;
      joined = subst (λ (x : List ℕ). AreJoined x (other ∷ more)) (sym tail) joined.4;
    }

-- where there is no comma, one address at most
pub joined_alone : (text : List ℕ) (all : List HostPort)
    → before_first (λ c. c == 44) text ≡ text → AreJoined text all
    → (one : HostPort) × IsHostPort text one
joined_alone text [] before joined = absurd joined
joined_alone text (one ∷ []) before joined = (one, joined)
joined_alone text (one ∷ other ∷ more) before joined =
    let mine = joined.0 in
    let rest = joined.1 in
    let same : text ≡ mine = sym before ∙ before_comma text mine rest one joined.2 joined.3 in
    absurd (omega (arith, ap length same, ap length joined.2, length-append mine (44 ∷ rest)))

-- ---- no addresses

pub none_alone : (text : List ℕ) → before_first (λ c. c == 44) text ≡ text
    → ((address : HostPort) → ¬ IsHostPort text address) → AreNoHostPorts text
none_alone text before none = λ addresses are.
    let one = joined_alone text (addresses.first ∷ addresses.more.items) before are.0 in
    none one.0 one.1

pub none_first : (text front behind : List ℕ) → before_first (λ c. c == 44) text ≡ front
    → text ≡ front ++ 44 ∷ behind → ((address : HostPort) → ¬ IsHostPort front address)
    → AreNoHostPorts text
none_first text front behind before divided none = λ addresses are.
    let cut = joined_cut text front behind (addresses.first ∷ addresses.more.items) before divided
    are.0 in
    none cut.one cut.first

same_more : (one other : HostPort) (more others : List HostPort) → one ∷ more ≡ other ∷ others
    → more ≡ others
same_more one other more others same = cc

pub none_behind : (text front behind : List ℕ) → before_first (λ c. c == 44) text ≡ front
    → text ≡ front ++ 44 ∷ behind → AreNotJoined behind 15 → AreNoHostPorts text
none_behind text front behind before divided none = λ addresses are.
    let cut = joined_cut text front behind (addresses.first ∷ addresses.more.items) before divided
    are.0 in
    let same = same_more addresses.first cut.one addresses.more.items cut.more cut.are in
    none cut.more (subst (λ (x : List HostPort). length x ≤ 15) same are.1) cut.joined

-- ---- one address after the other

-- whatever addresses the text has, so many of them stand before the rest
abbrev pub Leaves : List ℕ → List ℕ → ℕ → Type 0
Leaves text rest at = (all : List HostPort) → AreJoined text all
    → (left : List HostPort) × AreJoined rest left × (length all ≡ at + length left)

pub one_left : (text rest front behind : List ℕ) (at : ℕ) → before_first (λ c. c == 44) rest ≡ front
    → rest ≡ front ++ 44 ∷ behind → Leaves text rest at → Leaves text behind (at + 1)
one_left text rest front behind at before divided leaves = λ all joined.
    let so = leaves all joined in
    let cut = joined_cut rest front behind so.0 before divided so.1 in
    (cut.more, cut.joined, omega (arith, so.2, ap length cut.are))

pub none_left : (text rest : List ℕ) (at most : ℕ) → before_first (λ c. c == 44) rest ≡ rest
    → ((address : HostPort) → ¬ IsHostPort rest address) → Leaves text rest at
    → AreNotJoined text most
none_left text rest at most before none leaves = λ all few joined.
    let so = leaves all joined in
    let one = joined_alone rest so.0 before so.1 in
    none one.0 one.1

pub none_next : (text rest front behind : List ℕ) (at most : ℕ)
    → before_first (λ c. c == 44) rest ≡ front → rest ≡ front ++ 44 ∷ behind
    → ((address : HostPort) → ¬ IsHostPort front address) → Leaves text rest at
    → AreNotJoined text most
none_next text rest front behind at most before divided none leaves = λ all few joined.
    let so = leaves all joined in
    let cut = joined_cut rest front behind so.0 before divided so.1 in
    none cut.one cut.first
