-- what is put: one place of the order behind another
use Rattle.std.proofs.Common.{◌≡◌, ℕ, List, Bool, true, false, Some, None, sym, ap, subst, ◌∙◌}
use Rattle.std.specs.Prelude.{slice_get, if◌then◌else◌}
use Rattle.rh_sig.specs.Naming.{named_bytes}
use Rattle.rh_shell.specs.declared.due.Due.{Due}
use Rattle.rh_shell.specs.Rules.{put_into, Packet}
use Rattle.rh_shell.specs.Waiting.{Waiting, taken}
use Rattle.rh_server.specs.OutLines.{Gate, lets}
use Rattle.rh_server.specs.States.{Server, is_some}
use Rattle.rh_server.specs.Putting.{Pick, or_else, gate_at, was_put, waiting_at, waiting_by, put_waiting, settled_pick}
use Rattle.rh_server.specs.Ending.{settled}

-- where nothing was put first, the later place decides
pub or_told : (s t : Server) (bytes : List ℕ) (first : Pick) (later : Server → Pick) (told : Bool)
    → (t, bytes) ≡ put_into s first → is_some first ≡ false → told ≡ is_some (later t)
    → told ≡ is_some (or_else first (later s))
or_told s t bytes None later told put none is =
    is ∙ ap (λ (x : Server). is_some (later x)) (ap (λ (r : Server × List ℕ). r.0) put)
or_told s t bytes (Some pick) later told put none is = absurd (cc)

pub or_put : (s t u : Server) (bytes more : List ℕ) (first : Pick) (later : Server → Pick)
    → (t, bytes) ≡ put_into s first → is_some first ≡ false → (u, more) ≡ put_into t (later t)
    → (u, more) ≡ put_into s (or_else first (later s))
or_put s t u bytes more None later put none is =
    is ∙ ap (λ (x : Server). put_into x (later x)) (ap (λ (r : Server × List ℕ). r.0) put)
or_put s t u bytes more (Some pick) later put none is = absurd (cc)

-- a message was put, and then the rules over the state were looked at
pub settled_put : (s t u : Server) (bytes : List ℕ) (pick : Pick) (is_open : Bool)
    → (t, bytes) ≡ put_into s pick → is_some pick ≡ true → u ≡ settled t → is_open ≡ true
    → (u, bytes) ≡ put_into s (if is_open then settled_pick pick else None)
settled_put s t u bytes None is_open put some now yes_open = absurd (cc)
settled_put s t u bytes (Some pick) false put some now yes_open = absurd (cc)
settled_put s t u bytes (Some pick) true put some now yes_open =
    ap (λ (x : Server). (x, bytes)) now
    ∙ ap (λ (r : Server × List ℕ). (settled r.0, r.1)) put

let_go : (s : Server) (place : ℕ) (gate : Gate) (w : Waiting) (due : Due)
    → Some gate ≡ gate_at s (slice_get s.outs place) → (w, Some due) ≡ taken (lets gate) s.waiting
    → Some (was_put (record s { waiting = w }) place due.packet, Packet due.packet)
    ≡ put_waiting s place
let_go s place gate w due may went =
    ap (waiting_by s place) went ∙ ap (waiting_at s place) may

-- a packet that waited was let go, and is begun
pub waited : (v s : Server) (place : ℕ) (gate : Gate) (w : Waiting) (due : Due) (t : Server)
    (bytes : List ℕ) → v ≡ s → Some gate ≡ gate_at s (slice_get s.outs place)
    → (w, Some due) ≡ taken (lets gate) v.waiting
    → t ≡ was_put (record v { waiting = w }) place due.packet → bytes ≡ named_bytes due.packet
    → (t, bytes) ≡ put_into s (put_waiting s place)
waited v s place gate w due t bytes same may went now is =
    subst (λ (x : Server). (t, bytes) ≡ put_into x (put_waiting x place)) same
    (ap (λ (x : Server). (x, bytes)) now
    ∙ ap (λ (b : List ℕ). (was_put (record v { waiting = w }) place due.packet, b)) is
    ∙ ap (put_into v) (let_go v place gate w due
    (subst (λ (x : Server). Some gate ≡ gate_at x (slice_get x.outs place)) (sym same) may) went))
