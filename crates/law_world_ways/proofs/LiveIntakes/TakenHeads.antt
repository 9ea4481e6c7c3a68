-- what the roles make of heads: frames come behind each that is taken, but for those that ask for
-- an echo
use Rattle.law_order.proofs.Vocabulary.{◌≡◌, ℕ, List, true, false, true≢false, nat_le, Ok, Err, refl, sym, ap, ◌∙◌, ◌==◌, Option, Result}
use Rattle.rh_inproxy.specs.Machine as in_proxy
use Rattle.rh_inproxy.specs.Opening as in_opening
use Rattle.rh_outproxy.specs.Machine as out_proxy
use Rattle.rh_outproxy.specs.Opening as out_opening
use Rattle.rh_client.specs.Client as client
use Rattle.rh_client.specs.Opening as client_opening
use Rattle.rh_server.specs.Servers as server
use Rattle.law_moves.proofs.Vocabulary.{by_test, Pipe, HttpFault, Response, greatest_echo, Asked, request_verdict, response_verdict, Leg, LegKind, ClientOut, OutServer, ClientIn, InServer, Frames, HeadRefused, HeadTaken}
use Rattle.law_role_inproxy.proofs.Vocabulary.{InProxy}
use Rattle.law_role_outproxy.proofs.Vocabulary.{OutProxy}
use Rattle.law_world_ways.proofs.LiveIntakes.LiveBytes.{BringsFrames}
use Rattle.law_world_ways.specs.LiveIntakes.{BeginsNoEcho}

-- what is taken is what was made of it
behind_of : (a b : HeadTaken) → ◌≡◌ {A = Result HeadTaken HeadRefused} (Ok a) (Ok b)
    → b.behind ≡ a.behind
behind_of a b e = let same : a ≡ b = cc in sym (ap (λ (x : HeadTaken). x.behind) same)

-- ---- ends

opened_frames : (response : Response) (taken : HeadTaken)
    → client_opening.opened_by response ≡ Ok taken → taken.behind ≡ Frames
opened_frames response taken =
    by_test (λ (r : Result HeadTaken HeadRefused). r ≡ Ok taken → taken.behind ≡ Frames)
    (response.status == client_opening.success) _ _ (λ t e. behind_of _ taken e)
    (λ t e. absurd cc)

client_frames : (kind : LegKind) (verdict : Result Response HttpFault) (taken : HeadTaken)
    → client_opening.head_by kind verdict ≡ Ok taken → taken.behind ≡ Frames
client_frames ClientOut (Ok response) taken e = opened_frames response taken e
client_frames kind (Err fault) taken e = absurd cc
client_frames OutServer (Ok response) taken e = absurd cc
client_frames ClientIn (Ok response) taken e = absurd cc
client_frames InServer (Ok response) taken e = absurd cc

pub client_brings : (pipe : Option Pipe) (leg : Leg) (heard : List ℕ)
    → BringsFrames client.rules pipe leg heard
client_brings pipe leg heard top text first role taken =
    client_frames leg.kind (response_verdict text) taken

pub server_brings : (pipe : Option Pipe) (leg : Leg) (heard : List ℕ)
    → BringsFrames server.rules pipe leg heard
server_brings pipe leg heard top text first role taken e = absurd cc

-- ---- proxies

-- what is asked for is no echo
abbrev IsNoEcho : Result Asked HttpFault → Type 0
IsNoEcho verdict =
    (asked : Asked) → verdict ≡ Ok asked → nat_le asked.length greatest_echo ≡ false

in_frames : (s : InProxy) (n : ℕ) (verdict : Result Asked HttpFault) (taken : HeadTaken)
    → IsNoEcho verdict → (in_opening.head_by s n verdict).1 ≡ Ok taken → taken.behind ≡ Frames
in_frames s n (Err fault) taken none = λ e. absurd cc
in_frames s n (Ok request) taken none =
    by_test (λ (x : InProxy × Result HeadTaken HeadRefused).
    x.1 ≡ Ok taken → taken.behind ≡ Frames) (nat_le request.length greatest_echo)
    (in_opening.echo_asked s n request) (in_opening.channel_asked s request)
    (λ t e. absurd (true≢false (sym t ∙ none request refl)))
    (λ t e. behind_of _ taken e)

pub in_brings : (pipe : Option Pipe) (leg : Leg) (heard : List ℕ) → BeginsNoEcho true pipe heard
    → BringsFrames in_proxy.rules pipe leg heard
in_brings pipe leg heard none top text first role taken =
    in_frames role leg.number (request_verdict true text) taken (none top text first)

out_frames : (s : OutProxy) (verdict : Result Asked HttpFault) (taken : HeadTaken)
    → IsNoEcho verdict → (out_opening.head_by s verdict).1 ≡ Ok taken → taken.behind ≡ Frames
out_frames s (Err fault) taken none = λ e. absurd cc
out_frames s (Ok request) taken none =
    by_test (λ (x : OutProxy × Result HeadTaken HeadRefused).
    x.1 ≡ Ok taken → taken.behind ≡ Frames) (nat_le request.length greatest_echo) _ _
    (λ t e. absurd (true≢false (sym t ∙ none request refl)))
    (λ t e. behind_of _ taken e)

pub out_brings : (pipe : Option Pipe) (leg : Leg) (heard : List ℕ)
    → BeginsNoEcho false pipe heard → BringsFrames out_proxy.rules pipe leg heard
out_brings pipe leg heard none top text first role taken =
    out_frames role (request_verdict false text) taken (none top text first)
