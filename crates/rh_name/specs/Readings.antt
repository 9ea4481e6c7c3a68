-- a line tells one pipe at most and spells one packet, and none is spelled by nothing
use Rattle.std.proofs.Common.{◌≡◌, ◌+◌, ◌*◌, ℕ, List, [], ◌∷◌, ◌++◌, true, drop, get_or, Some, None, refl, sym, ◌∙◌, ap, subst, arith}
use Rattle.std.specs.declared.option.Option.{Option}
use Rattle.std.specs.List.{list_all}
use Rattle.std.proofs.lemmas.List.Sums.{list_all-from_AllPass}
use Rattle.hex.specs.Hex.{is_hex_digit}
use Rattle.rh_text.proofs.HexReading.{hex_size}
use Rattle.rh_show.specs.declared.reader.TheConstants.{MOST_BYTES}
use Rattle.rh_show.specs.Lines.{IsPacketHex}
use Rattle.rh_show.specs.Readings.{one_packet_at}
use Rattle.rh_sig.specs.declared.name.Pipe.{Pipe}
use Rattle.rh_sig.specs.declared.name.Pipe.TheVariants.{CiU, IsU, IsD, CoU, CoD, OsU, OsD}
use Rattle.rh_name.specs.declared.reader.Asked.{Asked}
use Rattle.rh_name.specs.declared.reader.TheConstants.{BLANK}
use Rattle.rh_name.specs.Words.{pipe_word}
use Rattle.rh_name.specs.Lines.{IsAsked, IsSplit}

-- ---- a pipe in front

-- the word of a pipe is no hex
not_digits : (pipe : Pipe) (hex : List ℕ)
    → list_all is_hex_digit (pipe_word pipe ++ BLANK ∷ hex) ≡ true → ⊥
not_digits CiU hex e = absurd cc
not_digits IsU hex e = absurd cc
not_digits IsD hex e = absurd cc
not_digits CoU hex e = absurd cc
not_digits CoD hex e = absurd cc
not_digits OsU hex e = absurd cc
not_digits OsD hex e = absurd cc

pub not_hex : (pipe : Pipe) (hex text bytes : List ℕ) → text ≡ pipe_word pipe ++ BLANK ∷ hex
    → IsPacketHex text bytes → ⊥
not_hex pipe hex text bytes is h =
    let all = list_all-from_AllPass is_hex_digit text (hex_size MOST_BYTES text bytes h).3 in
    not_digits pipe hex (subst (λ (t : List ℕ). list_all is_hex_digit t ≡ true) is all)

-- the three letters of a pipe
abbrev letters : List ℕ → ℕ
letters text = get_or text 0 0 * 65536 + get_or text 1 0 * 256 + get_or text 2 0

abbrev code : Pipe → ℕ
code CiU = 6515061
code IsU = 6910837
code IsD = 6910820
code CoU = 6516597
code CoD = 6516580
code OsU = 7304053
code OsD = 7304036

coded : (pipe : Pipe) (hex : List ℕ) → letters (pipe_word pipe ++ BLANK ∷ hex) ≡ code pipe
coded CiU hex = refl
coded IsU hex = refl
coded IsD hex = refl
coded CoU hex = refl
coded CoD hex = refl
coded OsU hex = refl
coded OsD hex = refl

behind : (pipe : Pipe) (hex : List ℕ) → drop 4 (pipe_word pipe ++ BLANK ∷ hex) ≡ hex
behind CiU hex = refl
behind IsU hex = refl
behind IsD hex = refl
behind CoU hex = refl
behind CoD hex = refl
behind OsU hex = refl
behind OsD hex = refl

one_code : (a b : Pipe) → code a ≡ code b → a ≡ b
one_code CiU CiU e = refl
one_code IsU IsU e = refl
one_code IsD IsD e = refl
one_code CoU CoU e = refl
one_code CoD CoD e = refl
one_code OsU OsU e = refl
one_code OsD OsD e = refl
one_code _ _ e = absurd (omega (arith, e))

-- a text has one pipe in front
pub one_pipe : (a b : Pipe) (x y text : List ℕ) → text ≡ pipe_word a ++ BLANK ∷ x
    → text ≡ pipe_word b ++ BLANK ∷ y → (a ≡ b) × (x ≡ y)
one_pipe a b x y text h k = (
  one_code a b (sym (coded a x) ∙ ap letters (sym h ∙ k) ∙ coded b y),
  sym (behind a x) ∙ ap (λ (t : List ℕ). drop 4 t) (sym h ∙ k) ∙ behind b y,
)

-- ---- laws of the grammar

one_hex : (text a b : List ℕ) → IsPacketHex text a → IsPacketHex text b → a ≡ b
one_hex text a b h k = one_packet_at tt text a b h k

one_asked : (p q : Option Pipe) (x y text : List ℕ) → IsAsked p x text → IsAsked q y text
    → (p ≡ q) × (x ≡ y)
one_asked None None x y text h k = (refl, one_hex text x y h k)
one_asked None (Some q) x y text h (hex, is, k) = absurd (not_hex q hex text x is h)
one_asked (Some p) None x y text (hex, is, h) k = absurd (not_hex p hex text y is k)
one_asked (Some p) (Some q) x y text (hex, is, h) (other, also, k) =
    let one = one_pipe p q hex other text is also in (
      ap Some one.0,
      one_hex other x y (subst (λ (t : List ℕ). IsPacketHex t x) one.1 h) k,
    )

-- a line of this pipe and these bytes
abbrev line_of : Option Pipe → List ℕ → Asked
line_of pipe bytes = record { pipe = pipe; bytes = bytes }

pub one_asked_at : (place : Unit {0}) (text : List ℕ) (a b : Asked)
    → IsAsked a.pipe a.bytes text → IsAsked b.pipe b.bytes text → a ≡ b
one_asked_at place text a b h k =
    let one = one_asked a.pipe b.pipe a.bytes b.bytes text h k in
    ap (λ (pipe : Option Pipe). line_of pipe a.bytes) one.0
    ∙ ap (λ (bytes : List ℕ). line_of b.pipe bytes) one.1

-- nothing has no pipe in front
not_behind : (pipe : Pipe) (hex : List ℕ) → [] ≡ pipe_word pipe ++ BLANK ∷ hex → ⊥
not_behind CiU hex e = absurd cc
not_behind IsU hex e = absurd cc
not_behind IsD hex e = absurd cc
not_behind CoU hex e = absurd cc
not_behind CoD hex e = absurd cc
not_behind OsU hex e = absurd cc
not_behind OsD hex e = absurd cc

empty : (pipe : Option Pipe) (bytes : List ℕ) → IsAsked pipe bytes [] → ⊥
empty None bytes h =
    let size = hex_size MOST_BYTES [] bytes h in absurd (omega (arith, size.0, size.1))
empty (Some pipe) bytes (hex, is, h) = absurd (not_behind pipe hex is)

pub no_empty : (place : Unit {0}) (line : Asked) → IsAsked line.pipe line.bytes [] → ⊥
no_empty place line h = empty line.pipe line.bytes h

-- ---- what is to spell the bytes

-- it does exactly where the text is a line
pub asked_of : (text : List ℕ) (pipe : Option Pipe) (hex bytes : List ℕ) → IsSplit text pipe hex
    → IsPacketHex hex bytes → IsAsked pipe bytes text
asked_of text None hex bytes is h = subst (λ (t : List ℕ). IsPacketHex t bytes) is.0 h
asked_of text (Some pipe) hex bytes is h = (hex, is, h)

pub hex_of : (text : List ℕ) (pipe : Option Pipe) (hex : List ℕ) → IsSplit text pipe hex
    → (other : Option Pipe) (bytes : List ℕ) → IsAsked other bytes text → IsPacketHex hex bytes
hex_of text None hex is None bytes h =
    subst (λ (t : List ℕ). IsPacketHex t bytes) (sym is.0) h
hex_of text None hex is (Some other) bytes (more, also, h) = absurd (is.1 other more also)
hex_of text (Some pipe) hex is None bytes h = absurd (not_hex pipe hex text bytes is h)
hex_of text (Some pipe) hex is (Some other) bytes (more, also, h) =
    let one = one_pipe other pipe more hex text also is in
    subst (λ (t : List ℕ). IsPacketHex t bytes) one.1 h
