-- the head with which bytes that a client drew begin is its request, which a proxy reads
use Rattle.law_order.proofs.Vocabulary.{◌≡◌, ◌⊎◌, inl, inr, ℕ, ◌-◌, ◌≤◌, ◌<◌, List, [], ◌∷◌, ◌++◌, length, take, cond, Bool, true, false, Ok, Err, arith, refl, sym, ap, ◌∙◌, subst, ⊎_elim, AllByRecursion, IsTrue, Option, Result, cases_lt, eq-eqb, append-nil, length-take, take-append-le, take-append_seam, IsPrefix}
use Rattle.rh_http.proofs.EndLemmas.{fits}
use Rattle.rh_http.specs.declared.got.Got.TheVariants.{Head}
use Rattle.rh_http.specs.declared.request.Request.{Request}
use Rattle.rh_http.specs.Heads.Answers.{verdict_of}
use Rattle.law_moves.proofs.Vocabulary.{prefix_trans, Pipe, request_read, request_answered, ClientConfig, HttpFault, TooLong, FirstEnd, may_ask, IsAnswer, JudgesRequest, method_of, request_text, asked, asked_of, request_verdict, LegKind, ends_head, is_whole_head, Message, Text, Pdu, Packet, spelled, BeginsWith, IsWholeText}
use Rattle.law_node_streams.specs.Streams.{IsFirstHead}
use Rattle.law_node_begins.specs.EndsBegin.{Asks, IsRequestOf}
use Rattle.law_world_order.proofs.Vocabulary.{IsPort}

-- ---- two heads with which the same bytes begin

pub none_whole : is_whole_head [] ≡ true → ⊥
unfolding ends_head
none_whole e = absurd cc

some_long : (text : List ℕ) → is_whole_head text ≡ true → 0 < length text
some_long [] e = absurd (none_whole e)
some_long (x ∷ text) e = omega arith

not_shorter : (a b x y : List ℕ) → IsWholeText is_whole_head a → IsWholeText is_whole_head b
    → a ++ x ≡ b ++ y → length a < length b → ⊥
not_shorter a b x y whole other same less =
    let front : take (length a) b ≡ a =
    sym (take-append-le (length a) b y (omega (arith, less)))
    ∙ ap (λ (l : List ℕ). take (length a) l) (sym same) ∙ take-append_seam a x in
    let bad : true ≡ false =
    sym whole.whole ∙ ap is_whole_head (sym front)
    ∙ other.front (length a) (some_long a whole.whole) less in
    absurd cc

pub same_head : (a b x y : List ℕ) → IsWholeText is_whole_head a → IsWholeText is_whole_head b
    → a ++ x ≡ b ++ y → a ≡ b
same_head a b x y whole other same =
    ⊎_elim (λ less. absurd (not_shorter a b x y whole other same less))
    (λ more. ⊎_elim (λ less. absurd (not_shorter b a y x other whole (sym same) less))
    (λ few. equal (omega (arith, more, few)))
    (cases_lt (length b) (length a)))
    (cases_lt (length a) (length b))
  where
    equal : length a ≡ length b → a ≡ b
    equal long =
        sym (take-append_seam a x) ∙ ap (λ (l : List ℕ). take (length a) l) same
        ∙ ap (λ (n : ℕ). take n (b ++ y)) long ∙ take-append_seam b y

-- nothing, or a head of which this holds and what is behind it
abbrev pub BegunBy : (List ℕ → Type 0) → List ℕ → Type 0
BegunBy Holds bytes =
    (bytes ≡ [])
    ⊎ ((head : List ℕ) × (rest : List ℕ) × Holds head × (bytes ≡ head ++ rest))

-- of a head with which a front of that begins it holds too
pub head_holds : (Holds : List ℕ → Type 0) (bytes heard text : List ℕ)
    → ((head : List ℕ) → Holds head → IsWholeText is_whole_head head) → BegunBy Holds bytes
    → IsPrefix heard bytes → IsFirstHead text heard → Holds text
head_holds Holds bytes heard text whole begun front first = by begun
  where
    at : IsPrefix text bytes
    at = prefix_trans text heard bytes first.front front

    of_none : (xs ys : List ℕ) → xs ++ ys ≡ [] → is_whole_head xs ≡ true → ⊥
    of_none [] ys e w = none_whole w
    of_none (x ∷ xs) ys e w = absurd cc

    by : BegunBy Holds bytes → Holds text
    by (inl none) = absurd (of_none text at.0 (at.1 ∙ none) first.whole.whole)
    by (inr begins) =
        subst Holds
        (same_head begins.0 text begins.1 at.0 (whole begins.0 begins.2) first.whole
        (sym begins.3 ∙ sym at.1)) begins.2

-- ---- what a client drew

-- nothing, or a request and what is behind it
abbrev pub Begun : ClientConfig → LegKind → List ℕ → Type 0
Begun config kind bytes = BegunBy (IsRequestOf config kind) bytes

pub begun_by : (config : ClientConfig) (kind : LegKind) (pipe : Option Pipe) (put : List Message)
    → BeginsWith pipe is_whole_head put → AllByRecursion (Asks config kind) put
    → Begun config kind (spelled put)
begun_by config kind pipe [] begins all = inl refl
begun_by config kind pipe (Text text ∷ put) begins all =
    inr (text, spelled put, all.0, refl)
begun_by config kind pipe (Pdu pdu ∷ put) begins all = absurd begins
begun_by config kind pipe (Packet named ∷ put) begins all = absurd begins

-- a head in what was heard of that is the request
pub head_asked : (config : ClientConfig) (kind : LegKind) (bytes heard text : List ℕ)
    → ((request : List ℕ) → IsRequestOf config kind request → IsWholeText is_whole_head request)
    → Begun config kind bytes → IsPrefix heard bytes → IsFirstHead text heard
    → IsRequestOf config kind text
head_asked config kind = head_holds (IsRequestOf config kind)

-- ---- and is read

-- a text that is a head and nothing more has this verdict
module _ {T : Type 0} (Judges : List ℕ → Result T HttpFault → Type 0) (text : List ℕ) (value : T)
    (told : IsAnswer Judges (text ++ []) (Head value (length text))) where
  pub answered : IsAnswer Judges text (Head value (length text))
  answered =
      subst (λ (x : List ℕ). IsAnswer Judges x (Head value (length text))) (append-nil text) told

  pub short : length text ≤ 16384
  short =
      let first : FirstEnd (take 16384 text) (length text) = answered.0 in
      omega (
        arith,
        fits (take 16384 text) (length text - 4) first.ends.1,
        first.ends.0,
        length-take 16384 text,
      )

pub whole_verdict : {T : Type 0} (value : T) (n : ℕ) → verdict_of (Head value n) n ≡ Ok value
whole_verdict {T} value n =
    ap (λ (t : Bool). cond {A = Result T HttpFault} t (Ok value) (Err TooLong)) (eq-eqb n n refl)

read_as : (inbound : Bool) (text : List ℕ) (value : Request)
    → IsAnswer (JudgesRequest inbound) (text ++ []) (Head value (length text))
    → Ok (asked value) ≡ request_verdict inbound text
read_as inbound text value told =
    sym (ap asked_of (whole_verdict value (length text)))
    ∙ request_answered inbound text (Head value (length text))
    (short (JudgesRequest inbound) text value told)
    (answered (JudgesRequest inbound) text value told)

-- a request of this length, in its range
pub request_asks : (inbound : Bool) (config : ClientConfig) (n : ℕ) → IsPort config.port
    → IsTrue (may_ask inbound n)
    → request_verdict inbound (request_text (method_of inbound) config n)
    ≡ Ok (asked (record { host = config.host; port = config.port; length = n }))
request_asks inbound config n port may =
    sym (read_as inbound (request_text (method_of inbound) config n)
    (record { host = config.host; port = config.port; length = n })
    (request_read inbound config n port.least port.most may []))
