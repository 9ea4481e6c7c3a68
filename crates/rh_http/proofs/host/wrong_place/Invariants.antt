use Rattle.std.proofs.Common.{◌≡◌, true, take}
use Rattle.std.specs.List.{list_all}
use Rattle.rh_http.specs.Hosts.{is_host_byte}
use Rattle.rh_http.proofs.host.wrong_place.Given as goal

abbrev pub invariant-loop-place : goal.invariant-loop-place
invariant-loop-place l = list_all is_host_byte (take l.place l.text) ≡ true
