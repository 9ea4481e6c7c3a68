-- a server refuses no RPC PDU for a cookie
use Rattle.law_order.proofs.Vocabulary.{◌≡◌, ℕ, Bool, true, false, if◌then◌else◌, List, Some, None, Ok, Err, Option, Result}
use Rattle.rh_shell.specs.declared.answers.Refused.TheVariants as refused
use Rattle.law_moves.proofs.Vocabulary.{Cookie, admit_verdict, LineFault, Window, Over, Which}
use Rattle.law_role_server.proofs.Vocabulary.{admitted_by, admitted_on, channel_at, on_pdu, Done, unexpected, Server, is_open}

module _ (s : Server) (bytes : List ℕ) (expected got : Cookie) where
  abbrev IsForCookie : Done → Type 0
  IsForCookie done = done.1 ≡ Err (refused.Cookie expected got)

  by_verdict : (which : Which) (verdict : Result (Unit {0}) LineFault)
      → IsForCookie (admitted_by s which bytes verdict) → ⊥
  by_verdict which (Ok admitted) e = absurd cc
  by_verdict which (Err (Window exceeded)) e = absurd cc
  by_verdict which (Err Over) e = absurd cc

  by_channel : (channel : Option Which) → IsForCookie (admitted_on s bytes channel) → ⊥
  by_channel None e = absurd cc
  by_channel (Some which) e = by_verdict which (admit_verdict s.line which bytes) e

  pub no_cookie : (n : ℕ) → IsForCookie (on_pdu s n bytes) → ⊥
  no_cookie n e = by (is_open s.stage) e
    where
      by : (b : Bool)
          → IsForCookie (if b then admitted_on s bytes (channel_at s n) else unexpected s) → ⊥
      by true e = by_channel (channel_at s n) e
      by false e = absurd cc
